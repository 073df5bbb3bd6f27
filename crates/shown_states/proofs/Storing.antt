-- The store behind a change, variable by variable, and what is seen of it.
use Rattle.std.proofs.Common.{◌≡◌, ℕ, zero, suc, ◌+◌, ◌<◌, ◌≤◌, Bool, true, false, List, [], ◌∷◌, ◌++◌, length, get_or, Option, Some, None, refl, sym, ap, ◌∙◌, subst, arith}
use Rattle.std.specs.Prelude.{◌==◌, ◌&&◌, ◌||◌, not, if◌then◌else◌, All, slice_get, pos, unwrap_or, nat_lt}
use Rattle.std.specs.Option.{option_map}
use Rattle.std.proofs.lemmas.Option.{slice_get_past, slice_get-get_or}
use Rattle.basic_laws.proofs.Numbers.{test_same, less, not_less}
use Rattle.basic_laws.proofs.Types.{some_same}
use Rattle.st_linear.specs.Linear.{Linear, form_for, value_or, changed}
use Rattle.st_form.specs.Formula.{Formula, Situation, truth, bool_var}
use Rattle.st_form.specs.Exchange.{Exchange, before, truth_for, is_listed}
use Rattle.st_program.specs.declared.residuals.Datum.{Datum}
use Rattle.st_program.specs.declared.residuals.Datum.TheVariants.{Number, Truth}
use Rattle.spl_semantics.specs.declared.faults.MoveFault.{MoveFault}
use Rattle.spl_semantics.specs.declared.faults.MoveFault.TheVariants.{ValueLimit, Memory}
use Rattle.spl_semantics.specs.Answers.{Fails}
use Rattle.spl_semantics.specs.Data.{number_in, truth_in, seen_at, is_boolean, types}
use Rattle.shown_states.specs.Behind.{GivesByType, formula_for, datum_given, datum_behind}

pub fails_wide : (fault : MoveFault) (wide : Bool) → Fails fault wide → fault ≡ ValueLimit → wide ≡ true
fails_wide ValueLimit wide h e = h
fails_wide Memory wide h e = absurd (cc)

-- a list that grows by one datum
get_before : {X : Type 0} (xs : List X) (y : X) (k : ℕ) → k < length xs → slice_get (xs ++ y ∷ []) k ≡ slice_get xs k
get_before [] y k h = absurd (omega arith)
get_before (x ∷ xs) y zero h = refl
get_before (x ∷ xs) y (suc k) h = get_before xs y k (omega arith)

get_last : {X : Type 0} (xs : List X) (y : X) (k : ℕ) → k ≡ length xs → slice_get (xs ++ y ∷ []) k ≡ Some y
get_last [] y zero h = refl
get_last [] y (suc k) h = absurd (omega arith)
get_last (x ∷ xs) y zero h = absurd (omega arith)
get_last (x ∷ xs) y (suc k) h = get_last xs y k (omega arith)

abbrev pub SameTo : (ℕ → Datum → Datum) → List Datum → List Datum → ℕ → Type 0
SameTo F ds out i = (k : ℕ) → k < i → slice_get out k ≡ option_map (F k) (slice_get ds k)

pub values_push : (F : ℕ → Datum → Datum) (ds out : List Datum) (i : ℕ) (d b : Datum) → length out ≡ i → i < length ds → d ≡ get_or ds i d → b ≡ F i d → SameTo F ds out i → SameTo F ds (out ++ b ∷ []) (i + 1)
values_push F ds out i d b long within is given so_far k h = by_test (nat_lt k i) refl
  where
    by_test : (t : Bool) → nat_lt k i ≡ t → slice_get (out ++ b ∷ []) k ≡ option_map (F k) (slice_get ds k)
    by_test true t = let lt = less k i t in get_before out b k (omega arith) ∙ so_far k lt
    by_test false t =
        let ge = not_less k i t in
        let same : k ≡ i = omega arith in
        get_last out b k (omega arith) ∙ ap Some given ∙ sym (ap (λ z. option_map (F z) (slice_get ds z)) same ∙ ap (option_map (F i)) (slice_get-get_or ds i d within ∙ ap Some (sym is)))

pub values_all : (F : ℕ → Datum → Datum) (ds out : List Datum) (i : ℕ) → length out ≡ i → length ds ≤ i → SameTo F ds out i → (k : ℕ) → slice_get out k ≡ option_map (F k) (slice_get ds k)
values_all F ds out i long past so_far k = by_test (nat_lt k i) refl
  where
    by_test : (t : Bool) → nat_lt k i ≡ t → slice_get out k ≡ option_map (F k) (slice_get ds k)
    by_test true t = so_far k (less k i t)
    by_test false t =
        let ge = not_less k i t in
        slice_get_past out k (omega arith) ∙ sym (ap (option_map (F k)) (slice_get_past ds k (omega arith)))

-- what is given has its variable's type
numbers_typed : (ts : List Bool) (v : ℕ) (ps : List (ℕ × Linear)) (f : Linear) → All (λ p. slice_get ts p.0 ≡ Some false) ps → form_for v ps ≡ Some f → slice_get ts v ≡ Some false
numbers_typed ts v [] f h e = absurd (cc)
numbers_typed ts v (p ∷ ps) f h e = by_test (p.0 == v) refl e (λ e. numbers_typed ts v ps f (λ k d lt. h (suc k) d (omega arith)) e)
  where
    by_test : (t : Bool) → (p.0 == v) ≡ t → (if t then Some p.1 else form_for v ps) ≡ Some f → (form_for v ps ≡ Some f → slice_get ts v ≡ Some false) → slice_get ts v ≡ Some false
    by_test true t e rest = subst (λ (z : ℕ). slice_get ts z ≡ Some false) (test_same p.0 v t) (h 0 p (omega arith))
    by_test false t e rest = rest e

truths_typed : (ts : List Bool) (v : ℕ) (ps : List (ℕ × Formula)) (f : Formula) → All (λ p. slice_get ts p.0 ≡ Some true) ps → formula_for v ps ≡ Some f → slice_get ts v ≡ Some true
truths_typed ts v [] f h e = absurd (cc)
truths_typed ts v (p ∷ ps) f h e = by_test (p.0 == v) refl e (λ e. truths_typed ts v ps f (λ k d lt. h (suc k) d (omega arith)) e)
  where
    by_test : (t : Bool) → (p.0 == v) ≡ t → (if t then Some p.1 else formula_for v ps) ≡ Some f → (formula_for v ps ≡ Some f → slice_get ts v ≡ Some true) → slice_get ts v ≡ Some true
    by_test true t e rest = subst (λ (z : ℕ). slice_get ts z ≡ Some true) (test_same p.0 v t) (h 0 p (omega arith))
    by_test false t e rest = rest e

typed : (ds : List Datum) (v : ℕ) (b : Bool) → slice_get (types ds) v ≡ Some b → (d : Datum) × (slice_get ds v ≡ Some d) × (is_boolean d ≡ b)
typed [] v b h = absurd (cc)
typed (d ∷ ds) zero b h = (d, refl, some_same _ _ h)
typed (d ∷ ds) (suc v) b h = typed ds v b h

number_of_truth : (d : Datum) → is_boolean d ≡ true → pos 0 ≡ number_in (Some d)
number_of_truth (Number z) h = absurd (cc)
number_of_truth (Truth b) h = refl

truth_of_number : (d : Datum) → is_boolean d ≡ false → false ≡ truth_in (Some d)
truth_of_number (Number z) h = refl
truth_of_number (Truth b) h = absurd (cc)

truth_for-first : (v : ℕ) (ps : List (ℕ × Formula)) → truth_for v ps ≡ unwrap_or (formula_for v ps) (bool_var v)
truth_for-first v [] = refl
truth_for-first v (p ∷ ps) = by_test (p.0 == v) (truth_for-first v ps)
  where
    by_test : (t : Bool) → truth_for v ps ≡ unwrap_or (formula_for v ps) (bool_var v) → (if t then p.1 else truth_for v ps) ≡ unwrap_or (if t then Some p.1 else formula_for v ps) (bool_var v)
    by_test true h = refl
    by_test false h = h

-- where control is behind a change
abbrev pub FrontsBehind : Exchange → List ℕ → List ℕ → Type 0
FrontsBehind x fs fronts = (l : ℕ) → is_listed l fronts ≡ (is_listed l x.enters || (not (is_listed l x.leaves) && is_listed l fs))

module _ (x : Exchange) (ds : List Datum) (fs : List ℕ) (gives : GivesByType (types ds) x) where
  abbrev s : Situation
  s = seen_at ds fs

  number_given : (v : ℕ) (f : Option Linear) → form_for v x.numbers ≡ f → (g : Option Formula) → formula_for v x.truths ≡ g → (d : Option Datum) → slice_get ds v ≡ d
      → number_in (option_map (datum_given f g s) d) ≡ value_or (number_in d) s.numbers f
  number_given v (Some f) e g q (Some d) h = refl
  number_given v (Some f) e g q None h =
      let t = typed ds v false (numbers_typed (types ds) v x.numbers f gives.numbers e) in
      let r : None ≡ Some t.0 = sym h ∙ t.1 in
      absurd (cc)
  number_given v None e (Some g) q (Some d) h =
      let t = typed ds v true (truths_typed (types ds) v x.truths g gives.truths q) in
      let r : t.0 ≡ d = some_same _ _ (sym t.1 ∙ h) in
      number_of_truth d (ap is_boolean (sym r) ∙ t.2)
  number_given v None e (Some g) q None h = refl
  number_given v None e None q (Some d) h = refl
  number_given v None e None q None h = refl

  truth_given : (v : ℕ) (f : Option Linear) → form_for v x.numbers ≡ f → (g : Option Formula) → formula_for v x.truths ≡ g → (d : Option Datum) → slice_get ds v ≡ d
      → truth_in (option_map (datum_given f g s) d) ≡ truth s (unwrap_or g (bool_var v))
  truth_given v (Some f) e (Some g) q d h =
      let n = numbers_typed (types ds) v x.numbers f gives.numbers e in
      let t = truths_typed (types ds) v x.truths g gives.truths q in
      let r : Some false ≡ Some true = sym n ∙ t in
      absurd (cc)
  truth_given v (Some f) e None q (Some d) h =
      let t = typed ds v false (numbers_typed (types ds) v x.numbers f gives.numbers e) in
      let r : t.0 ≡ d = some_same _ _ (sym t.1 ∙ h) in
      truth_of_number d (ap is_boolean (sym r) ∙ t.2) ∙ ap truth_in (sym h)
  truth_given v (Some f) e None q None h = ap truth_in (sym h)
  truth_given v None e (Some g) q (Some d) h = refl
  truth_given v None e (Some g) q None h =
      let t = typed ds v true (truths_typed (types ds) v x.truths g gives.truths q) in
      let r : None ≡ Some t.0 = sym h ∙ t.1 in
      absurd (cc)
  truth_given v None e None q (Some d) h = ap truth_in (sym h)
  truth_given v None e None q None h = ap truth_in (sym h)

  -- what is seen of the state behind is the situation behind the change
  pub seen_behind : (out : List Datum) (fronts : List ℕ)
      → ((k : ℕ) → slice_get out k ≡ option_map (datum_behind x s k) (slice_get ds k))
      → FrontsBehind x fs fronts
      → seen_at out fronts ≡ before s x
  seen_behind out fronts values located = λ i. record { numbers = λ v. numbers v i; truths = λ v. truths v i; located = λ l. located l i }
    where
      numbers : (v : ℕ) → number_in (slice_get out v) ≡ changed s.numbers x.numbers v
      numbers v = ap number_in (values v) ∙ number_given v (form_for v x.numbers) refl (formula_for v x.truths) refl (slice_get ds v) refl

      truths : (v : ℕ) → truth_in (slice_get out v) ≡ truth s (truth_for v x.truths)
      truths v = ap truth_in (values v) ∙ truth_given v (form_for v x.numbers) refl (formula_for v x.truths) refl (slice_get ds v) refl ∙ ap (truth s) (sym (truth_for-first v x.truths))
