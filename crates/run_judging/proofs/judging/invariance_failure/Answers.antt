use Rattle.run_judging.proofs.Sentences.{invariance-as}
use Rattle.run_judging.proofs.judging.invariance_failure.Goals as goal

pub returns : goal.returns
returns c = λ o p shown. invariance-as p o c.args.flags.now shown c.first_unset.result c.first_unset.ensures
