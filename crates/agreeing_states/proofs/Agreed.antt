-- What is told of a formula is so in each situation that agrees with the state.
use Rattle.std.proofs.Common.{◌≡◌, ◌∙◌, ℕ, Bool, true, false, List, [], ◌∷◌, Some, refl, ap}
use Rattle.std.specs.Prelude.{ℤ, pos, int_le, ◌+ℤ◌, ◌*ℤ◌}
use Rattle.basic_laws.proofs.Truths.{both_true}
use Rattle.basic_laws.proofs.Types.{some_same}
use Rattle.st_linear.specs.Linear.{Linear, entries_value, value}
use Rattle.st_form.specs.Formula.{Formula, Formulas, truth_value, row, equal, bool_var, at, negation, every, some, none, more, Situation, truth, every_truth, some_truth, is_zero}
use Rattle.st_program.specs.declared.residuals.Datum.{Datum}
use Rattle.spl_semantics.specs.Data.{seen_at, store_of}
use Rattle.spl_semantics.specs.Limits.{wide_formula}
use Rattle.agreeing_states.specs.declared.telling.Known.{Known}
use Rattle.agreeing_states.specs.Agreeing.{Agrees, is_known}
use Rattle.agreeing_states.specs.Kleene.{are_known, told, every_told, some_told}
use Rattle.agreeing_states.proofs.Logic.{atom-is, denial-is, both-is, either-is}

module _ (k : Known) (store : List Datum) (fronts : List ℕ) (t : Situation) (agrees : Agrees k (seen_at store fronts) t) where
  abbrev s : Situation
  s = seen_at store fronts

  same-entries : (es : List (ℕ × ℤ)) → are_known k.variables.items es ≡ true → entries_value t.numbers es ≡ entries_value s.numbers es
  same-entries [] known = refl
  same-entries (e ∷ es) known =
      let parts = both_true (is_known k.variables.items e.0) (are_known k.variables.items es) known in
      ap (λ (z : ℤ). e.1 *ℤ z +ℤ entries_value t.numbers es) (agrees.numbers e.0 parts.0) ∙ ap (λ (z : ℤ). e.1 *ℤ s.numbers e.0 +ℤ z) (same-entries es parts.1)

  same-sum : (f : Linear) → are_known k.variables.items f.entries ≡ true → value t.numbers f ≡ value s.numbers f
  same-sum f known = ap (λ (z : ℤ). f.constant +ℤ z) (same-entries f.entries known)

  abbrev wide : Formula → Bool
  wide f = wide_formula f (store_of store)

  mutual
    pub told-is : (f : Formula) (b : Bool) → told k store fronts f ≡ Some b → truth t f ≡ b
    told-is (truth_value c) b h = some_same c b h
    told-is (row f) b h =
        let a = atom-is (are_known k.variables.items f.entries) (wide (row f)) (truth s (row f)) b h in
        ap (λ (z : ℤ). int_le (pos 0) z) (same-sum f a.0) ∙ a.1
    told-is (equal f) b h =
        let a = atom-is (are_known k.variables.items f.entries) (wide (equal f)) (truth s (equal f)) b h in
        ap is_zero (same-sum f a.0) ∙ a.1
    told-is (bool_var v) b h =
        let a = atom-is (is_known k.variables.items v) (wide (bool_var v)) (truth s (bool_var v)) b h in
        agrees.truths v a.0 ∙ a.1
    told-is (at l) b h =
        let a = atom-is (is_known k.locations.items l) (wide (at l)) (truth s (at l)) b h in
        agrees.located l a.0 ∙ a.1
    told-is (negation f) b h = denial-is (told k store fronts f) (truth t f) b (told-is f) h
    told-is (every fs) b h = every-is fs b h
    told-is (some fs) b h = some-is fs b h

    every-is : (fs : Formulas) (b : Bool) → every_told k store fronts fs ≡ Some b → every_truth t fs ≡ b
    every-is none b h = some_same true b h
    every-is (more f fs) b h = both-is (told k store fronts f) (every_told k store fronts fs) (truth t f) (every_truth t fs) b (told-is f) (every-is fs) h

    some-is : (fs : Formulas) (b : Bool) → some_told k store fronts fs ≡ Some b → some_truth t fs ≡ b
    some-is none b h = some_same false b h
    some-is (more f fs) b h = either-is (told k store fronts f) (some_told k store fronts fs) (truth t f) (some_truth t fs) b (told-is f) (some-is fs) h
