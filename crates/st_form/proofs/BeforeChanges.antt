-- An exchanged formula has as many atoms as were counted before it was made.
use Rattle.std.proofs.Common.{◌≡◌, ◌+◌, ℕ, refl, ap, sym, ◌∙◌, Option, Some, None}
use Rattle.std.specs.Option.{option_map}
use Rattle.st_linear.specs.Linear.{replaced}
use Rattle.st_linear.proofs.Replacing.{bind-some}
use Rattle.st_form.specs.Formula.{Formula, Formulas, truth_value, row, equal, bool_var, at, negation, every, some, none, more, atoms, atoms_of}
use Rattle.st_form.specs.Exchange.{Exchange, exchanged, all_exchanged, truth_for, location_after, atoms_behind, all_behind, CountsBehind}

mapped : {X Y : Type 0} (f : X → Y) (o : Option X) (y : Y) → option_map f o ≡ Some y → (x : X) × (f x ≡ y) × (o ≡ Some x)
mapped f None y h = absurd (cc)
mapped f (Some x) y h = (x, (let same : f x ≡ y = cc in same), refl)

-- what a formula is made of by a constructor keeps its count
counted : {X : Type 0} (f : X → Formula) (size : X → ℕ) (n : ℕ) → ((x : X) → atoms (f x) ≡ size x)
    → (o : Option X) (g : Formula) → option_map f o ≡ Some g → ((x : X) → o ≡ Some x → size x ≡ n) → atoms g ≡ n
counted f size n is o g h sized =
    let m = mapped f o g h in
    ap atoms (sym m.1) ∙ is m.0 ∙ sized m.0 m.2

mutual
  pub counts-behind : CountsBehind
  counts-behind x (truth_value b) g h = let same : truth_value b ≡ g = cc in ap atoms (sym same)
  counts-behind x (row f) g h = counted row (λ f. 1) 1 (λ f. refl) (replaced x.numbers f) g h (λ f is. refl)
  counts-behind x (equal f) g h = counted equal (λ f. 1) 1 (λ f. refl) (replaced x.numbers f) g h (λ f is. refl)
  counts-behind x (bool_var v) g h = let same : truth_for v x.truths ≡ g = cc in ap atoms (sym same)
  counts-behind x (at l) g h = let same : location_after l x ≡ g = cc in ap atoms (sym same)
  counts-behind x (negation f) g h = counted negation atoms (atoms_behind x f) (λ f. refl) (exchanged x f) g h (counts-behind x f)
  counts-behind x (every fs) g h = counted every atoms_of (all_behind x fs) (λ fs. refl) (all_exchanged x fs) g h (all-count-behind x fs)
  counts-behind x (some fs) g h = counted some atoms_of (all_behind x fs) (λ fs. refl) (all_exchanged x fs) g h (all-count-behind x fs)

  all-count-behind : (x : Exchange) (fs gs : Formulas) → all_exchanged x fs ≡ Some gs → atoms_of gs ≡ all_behind x fs
  all-count-behind x none gs h = let same : none ≡ gs = cc in ap atoms_of (sym same)
  all-count-behind x (more f fs) gs h =
      let head = bind-some (λ g. option_map (more g) (all_exchanged x fs)) (exchanged x f) gs h in
      let rest = mapped (more head.0) (all_exchanged x fs) gs head.2 in
      ap atoms_of (sym rest.1) ∙ (ap (λ m. m + atoms_of rest.0) (counts-behind x f head.0 head.1) ∙ ap (λ n. atoms_behind x f + n) (all-count-behind x fs rest.0 rest.2))
