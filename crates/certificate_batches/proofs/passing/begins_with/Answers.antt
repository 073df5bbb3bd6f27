use Rattle.std.proofs.lemmas.Bool.Decides.{Decides-eqb}
use Rattle.std.proofs.lemmas.Slice.Eq.{starts_is}
use Rattle.certificate_batches.proofs.passing.begins_with.Goals as goal

pub returns : goal.returns
returns c = (starts_is Decides-eqb c.args.bytes.now c.args.front.now c.starts_with.result c.starts_with.ensures.value).0
