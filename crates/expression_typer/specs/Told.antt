-- What a walk answers, against the list of all broken rules and the meaning.
use Rattle.std.specs.Prelude.{◌≡◌, ◌≤◌, ◌^◌, true, List, [], ◌∷◌, Option, Some, None, Result, Ok, Err}
use Rattle.st_program.specs.Tree.{Term, number, truth}
use Rattle.expression_parser.specs.ExpressionTree.{Expr, Kind, Exprs}
use Rattle.expression_parser.specs.ExpressionTree as raw
use Rattle.expression_typer.specs.declared.fault.TypeFault.{TypeFault}
use Rattle.expression_typer.specs.Written.{is_writable}

-- Ok exactly where no rule is broken, and then the meaning; else the first of the list
abbrev pub Told : {A : Type 0} → (A → Type 0) → Result A TypeFault → List TypeFault → Option A → Type 0
Told P (Ok x) fs m = (fs ≡ []) × (m ≡ Some x) × P x
Told P (Err f) fs m = ((rest : List TypeFault) × (fs ≡ f ∷ rest)) × (m ≡ None)

abbrev pub IsWritten : Term → Type 0
IsWritten (number f) = is_writable f ≡ true
IsWritten (truth f) = Unit {0}

abbrev mutual
  -- each numeral is one that a text may have
  pub IsModest : Expr → Type 0
  IsModest (raw.node p k) = IsModestKind k

  pub IsModestKind : Kind → Type 0
  IsModestKind (raw.numeral n) = n ≤ 2 ^ 30
  IsModestKind (raw.truth b) = Unit {0}
  IsModestKind (raw.name n) = Unit {0}
  IsModestKind (raw.at n) = Unit {0}
  IsModestKind (raw.negation e) = IsModest e
  IsModestKind (raw.negative at e) = IsModest e
  IsModestKind (raw.all es) = AreModest es
  IsModestKind (raw.any es) = AreModest es
  IsModestKind (raw.pair o at l r) = IsModest l × IsModest r

  pub AreModest : Exprs → Type 0
  AreModest raw.none = Unit {0}
  AreModest (raw.one_more e es) = IsModest e × AreModest es

-- the same where no meaning stands apart: Ok exactly where no rule is broken, else the first of the list
abbrev pub Tells : {A : Type 0} → (A → Type 0) → Result A TypeFault → List TypeFault → Type 0
Tells P (Ok x) fs = (fs ≡ []) × P x
Tells P (Err f) fs = (rest : List TypeFault) × (fs ≡ f ∷ rest)
