-- Where control is (Manna and Pnueli, *Temporal Verification of Reactive Systems: Safety*, sections 0.2 and 0.3: locations
-- and control).
use Rattle.std.specs.Prelude.{ℕ, List, [], ◌∷◌, ◌++◌, Option, Some, None}
use Rattle.st_program.specs.Tree.{Action, skip, cooperate, process, Processes, no_process, beside, location, action}
use Rattle.st_program.specs.Spots.{entry, Spot, spot}
use Rattle.st_program.specs.Residuals.{Rest, Done, Run, Then, Again, Inside, Rests, no_rest, rests}

-- the children of a cooperation
abbrev pub children_of : Action → Processes
children_of (cooperate ps) = ps
children_of skip = no_process
children_of _ = no_process

abbrev pub children_at : Option Spot → Processes
children_at None = no_process
children_at (Some x) = children_of (action x.stmt)

abbrev pub location_at : Option Spot → List ℕ
location_at None = []
location_at (Some x) = location x.stmt ∷ []

-- the front of what is left of a process or child with this end location
abbrev mutual
  pub front : Rest → Processes → ℕ → List ℕ
  front Done p end = end ∷ []
  front (Run n) p end = location_at (spot p n)
  front (Then r b k) p end = front r p end
  front (Again r w) p end = front r p end
  front (Inside c rs) p end = fronts rs p (children_at (spot p c))

  pub fronts : Rests → Processes → Processes → List ℕ
  fronts no_rest p ps = []
  fronts (rests r rs) p no_process = front r p 0 ++ fronts rs p no_process
  fronts (rests r rs) p (beside (process ss end) ps) = front r p end ++ fronts rs p ps

-- the first locations of the children, and their end locations
abbrev pub starts : Processes → List ℕ
starts no_process = []
starts (beside (process ss end) ps) = entry ss end ∷ starts ps

abbrev pub ends : Processes → List ℕ
ends no_process = []
ends (beside (process ss end) ps) = end ∷ ends ps
