use Rattle.std.proofs.Common.{◌+◌, ◌∙◌, take, drop, Some, ap}
use Rattle.std.proofs.lemmas.Result.{IfOk-weaker}
use Rattle.st_form.specs.Formula.{Formulas}
use Rattle.farkas_check.specs.Problem.{with_conjuncts}
use Rattle.linear_prover.specs.Plain.{plain_each, plain_node}
use Rattle.linear_prover.proofs.Children.{disjunct-there}
use Rattle.linear_prover.proofs.divisions.by_disjunct.Goals as goal

pub returns : goal.returns
returns c =
    IfOk-weaker c.with_conjuncts.result _ _ (λ q h. disjunct-there (plain_node c.args.node.now) (plain_each (take c.args.place c.args.fs.now)) (plain_each (drop (c.args.place + 1) c.args.fs.now)) c.args.parts.now c.args.i c.index-parts-i.result (plain_node q) c.requires.there c.index-parts-i.is
    (h ∙ ap (λ (fs : Formulas). with_conjuncts (plain_node c.args.node.now) (Some fs)) c.in_ok-conjuncts.ensures)) c.with_conjuncts.ensures
