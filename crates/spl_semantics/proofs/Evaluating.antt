-- Values of forms, entry after entry, and of formulas, one after the other.
use Rattle.std.proofs.Common.{◌≡◌, ℕ, ◌+◌, ◌<◌, true, false, List, length, drop, get_or, refl, ap, ◌∙◌, sym, arith}
use Rattle.std.specs.Prelude.{◌||◌, ◌&&◌, ℤ, ◌+ℤ◌, ◌*ℤ◌}
use Rattle.std.proofs.lemmas.Int.{ints}
use Rattle.std.proofs.lemmas.List.{drop_more}
use Rattle.st_linear.specs.Linear.{is_wide, entries_value}
use Rattle.st_linear.proofs.Joins.{none}
use Rattle.st_form.specs.Formula.{Situation, truth, every_truth, some_truth, more}
use Rattle.st_form.specs.Plain.{plain, plain_list}
use Rattle.st_form.specs.declared.formulas.Form.{Form}
use Rattle.spl_semantics.specs.Stores.{Store}
use Rattle.spl_semantics.specs.Limits.{wide_on, wide_formula, wide_formulas}
use Rattle.spl_semantics.proofs.Exits.{or_here, or_there, or_none}

module _ (store : ℕ → ℤ) (es : List (ℕ × ℤ)) (i : ℕ) (z : ℤ) (within : i < length es) where
  abbrev e : ℕ × ℤ
  e = get_or es i none

  pub wide-here : wide_on store (drop i es) z ≡ (is_wide (e.1 *ℤ store e.0) || (is_wide (z +ℤ e.1 *ℤ store e.0) || wide_on store (drop (i + 1) es) (z +ℤ e.1 *ℤ store e.0)))
  wide-here = rw (drop_more es i none) refl

  pub wide-product : is_wide (e.1 *ℤ store e.0) ≡ true → wide_on store (drop i es) z ≡ true
  wide-product h = wide-here ∙ or_here _ _ h

  pub wide-sum : (p : ℤ) → e.1 *ℤ store e.0 ≡ p → is_wide (z +ℤ p) ≡ true → wide_on store (drop i es) z ≡ true
  wide-sum p q h = wide-here ∙ or_there _ _ (or_here _ _ (ap (λ x. is_wide (z +ℤ x)) q ∙ h))

  pub wide-more : (p s : ℤ) → e.1 *ℤ store e.0 ≡ p → is_wide p ≡ false → z +ℤ p ≡ s → is_wide s ≡ false → wide_on store (drop (i + 1) es) s ≡ wide_on store (drop i es) z
  wide-more p s q n r m =
      sym (wide-here ∙ or_none _ _ (ap is_wide q ∙ n) ∙ or_none _ _ (ap (λ x. is_wide (z +ℤ x)) q ∙ ap is_wide r ∙ m) ∙ ap (λ x. wide_on store (drop (i + 1) es) (z +ℤ x)) q ∙ ap (wide_on store (drop (i + 1) es)) r)

  pub value-more : (p s : ℤ) → e.1 *ℤ store e.0 ≡ p → z +ℤ p ≡ s → s +ℤ entries_value store (drop (i + 1) es) ≡ z +ℤ entries_value store (drop i es)
  value-more p s q r = rw (drop_more es i none) (omega (arith, ints, q, r))

-- a list of formulas, one after the other
module _ (fs : List Form) (i : ℕ) (f : Form) (within : i < length fs) (is : f ≡ get_or fs i f) where
  next-form : plain_list (drop i fs) ≡ more (plain f) (plain_list (drop (i + 1) fs))
  next-form = ap plain_list (drop_more fs i f within) ∙ ap (λ g. more (plain g) (plain_list (drop (i + 1) fs))) (sym is)

  pub wide-form_here : (s : Store) → wide_formula (plain f) s ≡ true → wide_formulas (plain_list (drop i fs)) s ≡ true
  wide-form_here s h = ap (λ l. wide_formulas l s) next-form ∙ or_here _ _ h

  pub wide-form_more : (s : Store) → wide_formula (plain f) s ≡ false → wide_formulas (plain_list (drop (i + 1) fs)) s ≡ wide_formulas (plain_list (drop i fs)) s
  wide-form_more s h = sym (ap (λ l. wide_formulas l s) next-form ∙ or_none _ _ h)

  pub every-next : (s : Situation) → every_truth s (plain_list (drop i fs)) ≡ (truth s (plain f) && every_truth s (plain_list (drop (i + 1) fs)))
  every-next s = ap (every_truth s) next-form

  pub some-next : (s : Situation) → some_truth s (plain_list (drop i fs)) ≡ (truth s (plain f) || some_truth s (plain_list (drop (i + 1) fs)))
  some-next s = ap (some_truth s) next-form
