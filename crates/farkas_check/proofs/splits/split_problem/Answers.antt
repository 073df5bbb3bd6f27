use Rattle.std.proofs.Common.{◌+◌, sym, subst}
use Rattle.std.proofs.lemmas.Result.{IfOk-weaker}
use Rattle.st_form.specs.Plain.{plain, plain_list}
use Rattle.farkas_check.specs.Problem.{Problem}
use Rattle.farkas_check.specs.Limits.{AreFit, AreSettled}
use Rattle.farkas_check.proofs.Bounds.{settled-place}
use Rattle.farkas_check.proofs.splits.split_problem.Goals as goal

pub returns-clause-fit : goal.returns-clause-fit
returns-clause-fit c =
    let there : AreSettled (plain_list c.in_ok-conjuncts.conjuncts.items) =
    rw c.in_ok-conjuncts.ensures (settled-place c.args.fs.now c.args.place (c.args.place + 1) (plain c.args.f.now) c.requires.settled c.requires.part) in
    IfOk-weaker c.with_conjuncts.result _ _ (λ p h. subst (λ (q : Problem). AreFit q.conjuncts) (sym h) there) c.with_conjuncts.ensures
