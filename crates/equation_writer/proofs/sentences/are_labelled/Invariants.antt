use Rattle.std.proofs.Common.{◌≡◌, drop}
use Rattle.equation_writer.specs.Sentences.{are_labelled}
use Rattle.equation_writer.proofs.sentences.are_labelled.Given as goal

abbrev pub invariant-loop-t : goal.invariant-loop-t
invariant-loop-t l = are_labelled l.names (drop l.t-index l.places) ≡ are_labelled l.names l.places
