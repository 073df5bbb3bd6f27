-- What formulas see of a state that is shown.
use Rattle.std.specs.Prelude.{ℕ, List, [], ◌∷◌}
use Rattle.st_form.specs.Formula.{Situation}
use Rattle.control_states.specs.declared.alternative.Alternative.{Alternative}
use Rattle.control_states.specs.declared.alternative.Alternative.TheVariants.{Location, Inside}
use Rattle.spl_semantics.specs.Data.{seen_at}
use Rattle.shown_states.specs.declared.pictures.Picture.{Picture}

-- the locations that components are at, in their order
abbrev pub fronts_of : List (ℕ × Alternative) → List ℕ
fronts_of [] = []
fronts_of ((c, Location l) ∷ rest) = l ∷ fronts_of rest
fronts_of ((c, Inside o) ∷ rest) = fronts_of rest

-- what is seen of a state: its values, and control at its locations
abbrev pub seen : Picture → Situation
seen p = seen_at p.store.items p.fronts.items
