-- The values that a mode gives rise by variable, and have the types of their variables.
use Rattle.std.proofs.Common.{◌≡◌, ℕ, suc, ◌+◌, ◌^◌, ◌<◌, ◌≤◌, Bool, true, false, List, [], ◌∷◌, Some, refl, sym, subst, arith}
use Rattle.std.specs.Prelude.{slice_get, nat_lt, ◌==◌, if◌then◌else◌}
use Rattle.std.proofs.lemmas.Bool.Decides.{nat_tests}
use Rattle.st_linear.specs.Linear.{Linear}
use Rattle.st_form.specs.Formula.{Formula}
use Rattle.st_form.specs.declared.variables.Variable.{Variable}
use Rattle.transition_system.specs.Bounds.{LinearWithin, FormulaWithin, RisesFrom, ModeWithin}
use Rattle.st_program.specs.Tree.{Term, number, truth}
use Rattle.st_program.specs.Types.{TermFits, MayChange, TargetsFit, is_truth}
use Rattle.st_program.specs.Groups.{inserted}
use Rattle.spl_translation.specs.Translation.{number_put, truth_put, numbers_of, truths_of, moving}
use Rattle.spl_translation.proofs.Fitted.{types, changed_type, linear_within, formula_within}
use Rattle.list_laws.specs.Each.{Each}
use Rattle.list_laws.proofs.Eachs.{all_of}

pub inserted_all : {X : Type 0} (P : ℕ × X → Type 0) (v : ℕ) (x : X) (ps : List (ℕ × X)) → P (v, x) → Each P ps → Each P (inserted v x ps)
inserted_all P v x [] h k = (h, tt)
inserted_all {X} P v x (p ∷ ps) h k = by_tests (nat_lt v p.0) (v == p.0) (inserted_all P v x ps h k.1)
  where
    by_tests : (a b : Bool) → Each P (inserted v x ps) → Each P (if a then (v, x) ∷ p ∷ ps else (if b then (v, x) ∷ ps else p ∷ inserted v x ps))
    by_tests true b r = (h, k)
    by_tests false true r = (h, k.1)
    by_tests false false r = (k.0, r)

lt_is : (v w : ℕ) → nat_lt v w ≡ true → suc v ≤ w
lt_is v w e = grind (arith, nat_tests)

same_is : (v w : ℕ) → (v == w) ≡ true → v ≡ w
same_is v w e = grind (arith, nat_tests)

above_is : (v w : ℕ) → nat_lt v w ≡ false → (v == w) ≡ false → suc w ≤ v
above_is v w e f = grind (arith, nat_tests)

pub inserted_rises : {X : Type 0} (low v : ℕ) (x : X) (ps : List (ℕ × X)) → low ≤ v → RisesFrom low ps → RisesFrom low (inserted v x ps)
inserted_rises low v x [] le h = (le, tt)
inserted_rises {X} low v x (p ∷ ps) le h = by_tests (nat_lt v p.0) refl (v == p.0) refl (λ q. inserted_rises (suc p.0) v x ps q h.1)
  where
    by_tests : (a : Bool) → nat_lt v p.0 ≡ a → (b : Bool) → (v == p.0) ≡ b → (suc p.0 ≤ v → RisesFrom (suc p.0) (inserted v x ps))
        → RisesFrom low (if a then (v, x) ∷ p ∷ ps else (if b then (v, x) ∷ ps else p ∷ inserted v x ps))
    by_tests true e b f down = (le, (lt_is v p.0 e, h.1))
    by_tests false e true f down = (le, subst (λ z. RisesFrom (suc z) ps) (sym (same_is v p.0 f)) h.1)
    by_tests false e false f down = (h.0, down (above_is v p.0 e f))

module _ (vs : List Variable) (locations : ℕ) where
  abbrev pub NumberWithin : ℕ × Linear → Type 0
  NumberWithin p = (slice_get (types vs) p.0 ≡ Some false) × LinearWithin (types vs) (2 ^ 30 + 1) p.1

  abbrev pub TruthWithin : ℕ × Formula → Type 0
  TruthWithin p = (slice_get (types vs) p.0 ≡ Some true) × FormulaWithin (types vs) locations (2 ^ 69) p.1

  pub record ValuesWithin (ns : List (ℕ × Linear)) (ts : List (ℕ × Formula)) : Type 0 where
    pub numbers_rise : RisesFrom 0 ns
    pub truths_rise : RisesFrom 0 ts
    pub numbers : Each NumberWithin ns
    pub truth_values : Each TruthWithin ts

  pub none_within : ValuesWithin [] []
  none_within = record { numbers_rise = tt; truths_rise = tt; numbers = tt; truth_values = tt }

  pub put_within : (v : ℕ) (t : Term) (ns : List (ℕ × Linear)) (ts : List (ℕ × Formula)) → MayChange vs v (is_truth t) → TermFits vs t → ValuesWithin ns ts → ValuesWithin (number_put v t ns) (truth_put v t ts)
  put_within v (number f) ns ts m h k = record {
    numbers_rise = inserted_rises 0 v f ns (omega arith) k.numbers_rise;
    truths_rise = k.truths_rise;
    numbers = inserted_all NumberWithin v f ns (changed_type vs v false m, linear_within vs (suc (2 ^ 30)) (2 ^ 30 + 1) (omega arith) f h) k.numbers;
    truth_values = k.truth_values;
  }
  put_within v (truth f) ns ts m h k = record {
    numbers_rise = k.numbers_rise;
    truths_rise = inserted_rises 0 v f ts (omega arith) k.truths_rise;
    numbers = k.numbers;
    truth_values = inserted_all TruthWithin v f ts (changed_type vs v true m, formula_within vs locations (2 ^ 32) (2 ^ 69) (omega arith) f h) k.truth_values;
  }

  pub assigned_within : (xs : List (ℕ × Term)) → TargetsFit vs xs → ValuesWithin (numbers_of xs) (truths_of xs)
  assigned_within [] h = none_within
  assigned_within (x ∷ xs) h = put_within x.0 x.1 (numbers_of xs) (truths_of xs) h.0 h.1 (assigned_within xs h.3)

  pub moving_within : (from to : List ℕ) (guard : Formula) (ns : List (ℕ × Linear)) (ts : List (ℕ × Formula)) → Each (λ l. l < locations) from → Each (λ l. l < locations) to → FormulaWithin (types vs) locations (2 ^ 69) guard → ValuesWithin ns ts
      → ModeWithin (types vs) locations (moving from guard ns ts to)
  moving_within from to guard ns ts f t g k = record {
    at = all_of (λ l. l < locations) from f;
    guard = g;
    change = record {
      numbers_rise = k.numbers_rise;
      truths_rise = k.truths_rise;
      numbers = all_of NumberWithin ns k.numbers;
      truth_values = all_of TruthWithin ts k.truth_values;
      leaves = all_of (λ l. l < locations) from f;
      enters = all_of (λ l. l < locations) to t;
    };
  }
