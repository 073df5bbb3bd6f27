use Rattle.std.proofs.lemmas.Result.{IfOk-weaker}
use Rattle.linear_prover.specs.Plain.{plain_each, plain_node}
use Rattle.linear_prover.proofs.Children.{case-there}
use Rattle.linear_prover.proofs.divisions.by_alternative.Goals as goal

pub returns : goal.returns
returns c =
    IfOk-weaker c.with_case.result _ _ (λ q h. case-there c.args.components.now (plain_node c.args.node.now) (plain_each c.args.fs.now) c.args.component c.args.choices.now c.args.i _ (plain_node q) c.requires.there h) c.with_case.ensures
