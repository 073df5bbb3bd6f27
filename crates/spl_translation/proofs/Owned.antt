-- The modes of a statement are within the bounds of a system.
use Rattle.std.proofs.Common.{ℕ, suc, ◌^◌, ◌<◌, ◌≤◌, length, false, List, [], ◌∷◌, refl, sym, ◌∙◌, arith}
use Rattle.std.specs.Prelude.{flat_map}
use Rattle.st_form.specs.Formula.{Formula, row, negation}
use Rattle.st_form.specs.declared.variables.Variable.{Variable}
use Rattle.transition_system.specs.Systems.{PlainTransition}
use Rattle.transition_system.specs.Bounds.{FormulaWithin, LinearWithin, ModeWithin}
use Rattle.st_program.specs.Tree.{number, Action, skip, critical, noncritical, assign, await, request, release, if_then, if_else, while_do, block, select, cooperate, group, occurrence, location, action}
use Rattle.st_program.specs.Member.{Member, here, there}
use Rattle.st_program.specs.Spots.{Spot}
use Rattle.st_program.specs.Types.{LinearFits, TestFits, ActionFits, MayChange}
use Rattle.spl_semantics.specs.Stores.{one_less, one_more}
use Rattle.spl_translation.specs.Translation.{passing, always, own_transitions, spot_transitions}
use Rattle.spl_translation.proofs.Fitted.{types, type_there, changed_type, formula_within}
use Rattle.spl_translation.proofs.Rises.{none_within, assigned_within, moving_within}
use Rattle.spl_translation.proofs.Reached.{InnerBelow, Below}
use Rattle.spl_translation.proofs.Bounded.{group_within}
use Rattle.list_laws.specs.Each.{Each}
use Rattle.list_laws.proofs.Eachs.{each_append}

module _ (vs : List Variable) (few : length vs ≤ 64) (locations : ℕ) where
  abbrev pub ModesWithin : PlainTransition → Type 0
  ModesWithin t = Each (ModeWithin (types vs) locations) t.modes

  tested : (t : Formula) → TestFits vs t → FormulaWithin (types vs) locations (2 ^ 69) t
  tested t h = formula_within vs locations (2 ^ 32) (2 ^ 69) (omega arith) t h

  passes : (l next : ℕ) (guard : Formula) → l < locations → next < locations → FormulaWithin (types vs) locations (2 ^ 69) guard → ModeWithin (types vs) locations (passing (l ∷ []) guard (next ∷ []))
  passes l next guard a b g = moving_within vs locations (l ∷ []) (next ∷ []) guard [] [] (a, tt) (b, tt) g (none_within vs locations)

  less_fits : (v : ℕ) → MayChange vs v false → LinearFits vs (suc (2 ^ 30)) (one_less v)
  less_fits v m = record { rising = (tt, (λ e. cc), tt); constant = omega arith; entries = (sym (type_there vs v) ∙ changed_type vs v false m, omega arith, tt) }

  more_fits : (v : ℕ) → MayChange vs v false → LinearFits vs (suc (2 ^ 30)) (one_more v)
  more_fits v m = record { rising = (tt, (λ e. cc), tt); constant = omega arith; entries = (sym (type_there vs v) ∙ changed_type vs v false m, omega arith, tt) }

  less_within : (v : ℕ) → MayChange vs v false → LinearWithin (types vs) (2 ^ 69) (one_less v)
  less_within v m = record { rising = (tt, (λ e. cc), tt); constant = omega arith; entries = (changed_type vs v false m, omega arith, tt) }

  own_within : (a : Action) (o l next : ℕ) → ActionFits vs a → l < locations → next < locations → InnerBelow locations a → Each ModesWithin (own_transitions a o l next)
  own_within skip o l next h a b i = ((passes l next always a b tt, tt), tt)
  own_within critical o l next h a b i = ((passes l next always a b tt, tt), tt)
  own_within noncritical o l next h a b i = ((passes l next always a b tt, tt), tt)
  own_within (assign xs) o l next h a b i = ((moving_within vs locations (l ∷ []) (next ∷ []) always _ _ (a, tt) (b, tt) tt (assigned_within vs locations xs h), tt), tt)
  own_within (await t) o l next h a b i = ((passes l next t a b (tested t h), tt), tt)
  own_within (request v) o l next h a b i =
      ((moving_within vs locations (l ∷ []) (next ∷ []) (row (one_less v)) _ _ (a, tt) (b, tt) (less_within v h) (assigned_within vs locations ((v, number (one_less v)) ∷ []) (h, less_fits v h, tt, tt)), tt), tt)
  own_within (release v) o l next h a b i =
      ((moving_within vs locations (l ∷ []) (next ∷ []) always _ _ (a, tt) (b, tt) tt (assigned_within vs locations ((v, number (one_more v)) ∷ []) (h, more_fits v h, tt, tt)), tt), tt)
  own_within (if_then t y) o l next h a b i = ((passes l (location y) t a i (tested t h), (passes l next (negation t) a b (tested t h), tt)), tt)
  own_within (if_else t y n) o l next h a b i = ((passes l (location y) t a i.0 (tested t h), (passes l (location n) (negation t) a i.1 (tested t h), tt)), tt)
  own_within (while_do t s) o l next h a b i = ((passes l (location s) t a i (tested t h), (passes l next (negation t) a b (tested t h), tt)), tt)
  own_within (block ss) o l next h a b i = tt
  own_within (select ss) o l next h a b i = tt
  own_within (cooperate ps) o l next h a b i = (
    (moving_within vs locations (l ∷ []) _ always [] [] (a, tt) i.0 tt (none_within vs locations), tt),
    ((moving_within vs locations _ (next ∷ []) always [] [] i.1 (b, tt) tt (none_within vs locations), tt), tt),
  )
  own_within (group xs) o l next h a b i = (group_within vs few locations xs h l next a b, tt)

  pub spots_within : (xs : List Spot) → ((x : Spot) → Member x xs → ActionFits vs (action x.stmt)) → ((x : Spot) → Member x xs → Below locations x) → Each ModesWithin (flat_map spot_transitions xs)
  spots_within [] h k = tt
  spots_within (x ∷ xs) h k =
      let b = k x (here refl) in
      each_append ModesWithin (spot_transitions x) (flat_map spot_transitions xs)
      (own_within (action x.stmt) (occurrence x.stmt) (location x.stmt) x.next (h x (here refl)) b.own b.next b.inner)
      (spots_within xs (λ y m. h y (there m)) (λ y m. k y (there m)))
