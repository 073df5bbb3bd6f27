-- Places in text order.
use Rattle.std.specs.Prelude.{◌≡◌, ℕ, suc, ◌<◌, ◌≤◌, ◌⊎◌, List, [], ◌∷◌}
use Rattle.expression_parser.specs.ExpressionTree.{Expr, Kind, Exprs, start_of}
use Rattle.expression_parser.specs.ExpressionTree as raw
use Rattle.expression_typer.specs.declared.fault.TypeFault.{TypeFault}
use Rattle.expression_typer.specs.declared.fault.TypeFault.TheVariants as faults

abbrev pub place : TypeFault → ℕ
place (faults.Unknown p) = p
place (faults.Twice p) = p
place (faults.WrongType p) = p
place (faults.NonLinear p) = p
place (faults.TooLarge p) = p
place (faults.InputAssigned p) = p
place (faults.SelectHead p) = p
place (faults.SameTarget p) = p
place (faults.Limit l p) = p
place faults.Memory = 0

abbrev pub rule : TypeFault → ℕ
rule (faults.Unknown p) = 1
rule (faults.Twice p) = 2
rule (faults.WrongType p) = 3
rule (faults.NonLinear p) = 4
rule (faults.TooLarge p) = 5
rule (faults.InputAssigned p) = 6
rule (faults.SelectHead p) = 7
rule (faults.SameTarget p) = 8
rule (faults.Limit l p) = 9
rule faults.Memory = 10

-- an earlier place, or a rule that isn't higher at the same place
abbrev pub Before : TypeFault → TypeFault → Type 0
Before f g = (place f < place g) ⊎ ((place f ≡ place g) × (rule f ≤ rule g))

abbrev pub AllBehind : TypeFault → List TypeFault → Type 0
AllBehind f [] = Unit {0}
AllBehind f (g ∷ gs) = Before f g × AllBehind f gs

-- among the faults, and the lowest rule at the first place
pub record IsLeast (f : TypeFault) (fs : List TypeFault) : Type 0 where
  pub rest : List TypeFault
  pub among : fs ≡ f ∷ rest
  pub least : AllBehind f fs

abbrev mutual
  -- an expression whose tokens have rising places, from one place to before another
  pub IsPlaced : Expr → ℕ → ℕ → Type 0
  IsPlaced (raw.node p k) from to = (from ≤ p) × IsPlacedKind k p to

  pub IsPlacedKind : Kind → ℕ → ℕ → Type 0
  IsPlacedKind (raw.numeral n) p to = p < to
  IsPlacedKind (raw.truth b) p to = p < to
  IsPlacedKind (raw.name n) p to = (p ≤ n.place) × (n.place < to)
  IsPlacedKind (raw.at n) p to = (p ≤ n.place) × (n.place < to)
  IsPlacedKind (raw.negation e) p to = IsPlaced e (suc p) to
  IsPlacedKind (raw.negative at e) p to = (p ≤ at) × IsPlaced e (suc at) to
  IsPlacedKind (raw.all es) p to = (p < to) × ArePlaced es p to
  IsPlacedKind (raw.any es) p to = (p < to) × ArePlaced es p to
  IsPlacedKind (raw.pair o at l r) p to = IsPlaced l p at × IsPlaced r (suc at) to

  -- parts of a chain, one behind the other
  pub ArePlaced : Exprs → ℕ → ℕ → Type 0
  ArePlaced raw.none from to = from ≤ to
  ArePlaced (raw.one_more e es) from to = (mid : ℕ) × IsPlaced e from mid × ArePlaced es mid to
