-- A formula after a change is true where the formula was before it.
use Rattle.std.proofs.Common.{◌≡◌, ℕ, Bool, true, false, refl, ap, ◌∙◌, sym, Option, Some, None, pos}
use Rattle.std.specs.Prelude.{not, ◌&&◌, ◌||◌, int_le, if◌then◌else◌}
use Rattle.std.specs.Option.{option_map}
use Rattle.st_linear.specs.Linear.{replaced}
use Rattle.st_linear.proofs.Replacing.{value-replaced, bind-some}
use Rattle.st_form.specs.Formula.{Formula, Formulas, truth_value, row, equal, bool_var, at, negation, every, some, none, more, Situation, truth, every_truth, some_truth, is_zero}
use Rattle.st_form.specs.Exchange.{Exchange, exchanged, all_exchanged, truth_for, location_after, is_listed, before}

map-some : {A B : Type 0} (m : A → B) (o : Option A) (r : B) → option_map m o ≡ Some r → (x : A) × (o ≡ Some x) × (m x ≡ r)
map-some m None r h = absurd (cc)
map-some m (Some x) r h = (x, refl, cc)

located : (s : Situation) (a b : Bool) (l : ℕ) → truth s (if a then truth_value true else (if b then truth_value false else at l)) ≡ (a || (not b && s.located l))
located s true b l = refl
located s false true l = refl
located s false false l = refl

mutual
  -- the exchanged formula has the truth that the formula had before
  pub truth-exchanged : (f : Formula) (s : Situation) (x : Exchange) (g : Formula) → exchanged x f ≡ Some g → truth s g ≡ truth (before s x) f
  truth-exchanged (truth_value b) s x g h = let e : truth_value b ≡ g = cc in ap (truth s) (sym e)
  truth-exchanged (row f) s x g h =
      let p = map-some row (replaced x.numbers f) g h in
      ap (truth s) (sym p.2) ∙ ap (int_le (pos 0)) (value-replaced s.numbers x.numbers f p.0 p.1)
  truth-exchanged (equal f) s x g h =
      let p = map-some equal (replaced x.numbers f) g h in
      ap (truth s) (sym p.2) ∙ ap is_zero (value-replaced s.numbers x.numbers f p.0 p.1)
  truth-exchanged (bool_var v) s x g h = let e : truth_for v x.truths ≡ g = cc in ap (truth s) (sym e)
  truth-exchanged (at l) s x g h = let e : location_after l x ≡ g = cc in ap (truth s) (sym e) ∙ located s (is_listed l x.enters) (is_listed l x.leaves) l
  truth-exchanged (negation f) s x g h =
      let p = map-some negation (exchanged x f) g h in
      ap (truth s) (sym p.2) ∙ ap not (truth-exchanged f s x p.0 p.1)
  truth-exchanged (every fs) s x g h =
      let p = map-some every (all_exchanged x fs) g h in
      ap (truth s) (sym p.2) ∙ (all-exchanged fs s x p.0 p.1).0
  truth-exchanged (some fs) s x g h =
      let p = map-some some (all_exchanged x fs) g h in
      ap (truth s) (sym p.2) ∙ (all-exchanged fs s x p.0 p.1).1

  all-exchanged : (fs : Formulas) (s : Situation) (x : Exchange) (gs : Formulas) → all_exchanged x fs ≡ Some gs → (every_truth s gs ≡ every_truth (before s x) fs) × (some_truth s gs ≡ some_truth (before s x) fs)
  all-exchanged none s x gs h = let e : none ≡ gs = cc in (ap (every_truth s) (sym e), ap (some_truth s) (sym e))
  all-exchanged (more f fs) s x gs h =
      let p = bind-some (λ g. option_map (more g) (all_exchanged x fs)) (exchanged x f) gs h in
      let q = map-some (more p.0) (all_exchanged x fs) gs p.2 in
      let first = truth-exchanged f s x p.0 p.1 in
      let rest = all-exchanged fs s x q.0 q.1 in
      (ap (every_truth s) (sym q.2) ∙ rw (first, rest.0), ap (some_truth s) (sym q.2) ∙ rw (first, rest.1))
