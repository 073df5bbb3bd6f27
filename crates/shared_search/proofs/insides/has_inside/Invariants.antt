use Rattle.std.proofs.Common.{◌≡◌, drop}
use Rattle.std.specs.List.{list_any}
use Rattle.sharing_laws.specs.Contexts.{is_around}
use Rattle.shared_search.proofs.insides.has_inside.Given as goal

abbrev pub invariant-loop-part : goal.invariant-loop-part
invariant-loop-part l = list_any (λ x. is_around l.component x.around) (drop l.part-index l.parts) ≡ list_any (λ x. is_around l.component x.around) l.parts
