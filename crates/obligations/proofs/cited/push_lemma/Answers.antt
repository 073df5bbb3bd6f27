use Rattle.std.proofs.Common.{arith, map}
use Rattle.std.proofs.lemmas.Grind.{common_steps}
use Rattle.std.proofs.lemmas.Option.{gets}
use Rattle.st_form.specs.Plain.{plain}
use Rattle.obligations.proofs.Citing.{no_lemma}
use Rattle.obligations.proofs.cited.push_lemma.Goals as goal

pub returns-in-None : goal.returns-in-None
returns-in-None c = no_lemma c.args.earlier.now c.args.number (map plain c.args.out.now.items) (grind (arith, common_steps, gets))
