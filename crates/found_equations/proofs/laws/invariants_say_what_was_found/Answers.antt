use Rattle.found_equations.proofs.Saying.{says}
use Rattle.found_equations.proofs.laws.invariants_say_what_was_found.Goals as goal

pub returns : goal.returns
returns c = says c.what_is_found_spans.ensures c.what_is_read_is_spelled.ensures c.lawful_is_typing.ensures
