use Rattle.std.proofs.Common.{sym, subst, Option, List}
use Rattle.std.proofs.lemmas.Result.{IfOk-weaker}
use Rattle.st_form.specs.Plain.{plain_list}
use Rattle.farkas_check.specs.Problem.{Problem}
use Rattle.farkas_check.specs.Limits.{AreSettled, DivisionFits}
use Rattle.farkas_check.specs.PlainProblem.{plain_posed}
use Rattle.farkas_check.proofs.Bounds.{fit-cut}
use Rattle.farkas_check.proofs.division.divided_by_cut.Goals as goal

pub returns-in-Some-clause-fit : goal.returns-in-Some-clause-fit
returns-in-Some-clause-fit c =
    let fit = rw c.in-Some.is at c.requires.fit in
    let there : AreSettled (plain_list c.as_slice.result.now) = rw c.as_slice.ensures.value fit in
    IfOk-weaker c.by_cut.result _ _ (λ o h. subst (λ (x : Option (List Problem)). DivisionFits x) (sym h) (fit-cut c.args.variables.now (plain_posed c.args.problem.now) (plain_list c.as_slice.result.now) c.args.f.now there c.requires.slight)) c.by_cut.ensures
