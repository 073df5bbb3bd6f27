use Rattle.std.specs.Prelude.{[], None}
use Rattle.text_layouts.specs.Written.{Writes}
use Rattle.text_layouts.proofs.writing.push_spaces.Given as goal

abbrev pub invariant-loop : goal.invariant-loop
invariant-loop l = Writes l.fn.out.items l.out.items [] None
