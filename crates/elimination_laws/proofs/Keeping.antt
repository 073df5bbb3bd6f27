use Rattle.std.proofs.Common.{◌≡◌, ℕ, zero, suc, ◌+◌, Bool, true, false, Option, Some, None, List, map, refl, ap, sym, subst, ◌∙◌, ℤ, pos, negsuc, ◌+ℤ◌, ◌*ℤ◌}
use Rattle.std.specs.Prelude.{if◌then◌else◌}
use Rattle.st_linear.specs.Linear.{AreEntries}
use Rattle.elimination_laws.specs.Mixing.{Tracked, part_of, first_factor, second_factor, against, is_up, is_down}
use Rattle.st_linear.specs.Linear.{is_zero}
use Rattle.elimination_laws.specs.Stages.{solves, solver, others, freed, is_free, bounds_below, bounds_above, paired, made, made_with}
use Rattle.elimination_laws.proofs.Heights.{part-slope, slope, slope-mix}
use Rattle.elimination_laws.proofs.Mixes.{IsMix, mixed-is, balance, balance-pair, AllVars, From, AllVars-mix, AreEntries-mix, AllVars-above}
use Rattle.elimination_laws.proofs.Lists.{AllT, IfMade, AllIfMade, AllIfMade-append, AllIfMade-map, AllIfMade-pairs, AllT-kept, AllT-others, solver-is}

-- variables rise, no coefficient is 0, and the variables are from v on and below w
pub record IsProper (v w : ℕ) (t : Tracked) : Type 0 where
  pub entries : AreEntries t.form.entries
  pub from : AllVars (From v w) t.form.entries

pub zero-is : (z : ℤ) → is_zero z ≡ true → z ≡ pos 0
zero-is (pos zero) h = refl
zero-is (pos (suc n)) h = absurd (cc)
zero-is (negsuc n) h = absurd (cc)

pub up-not_zero : (z : ℤ) → is_up z ≡ true → is_zero z ≡ false
up-not_zero (pos zero) h = absurd (cc)
up-not_zero (pos (suc n)) h = refl
up-not_zero (negsuc n) h = absurd (cc)

pub down-not_zero : (z : ℤ) → is_down z ≡ true → is_zero z ≡ false
down-not_zero (pos n) h = absurd (cc)
down-not_zero (negsuc n) h = refl

pub part_slope : (v w : ℕ) (t : Tracked) → IsProper v w t → part_of v t ≡ slope v t.form
part_slope v w t h = part-slope v t.form.entries h.entries

free-proper : (v w : ℕ) (t : Tracked) → IsProper v w t → is_zero (part_of v t) ≡ true → IsProper (v + 1) w t
free-proper v w t h e = record { entries = h.entries; from = AllVars-above v w t.form.entries h.entries (zero-is _ e) h.from }

-- a mix of two lines without the variable
pub mix-slope : (v w : ℕ) (b : Bool) (x : ℤ) (s : Tracked) (y : ℤ) (t r : Tracked) → IsProper v w s → IsProper v w t → part_of v s *ℤ x +ℤ part_of v t *ℤ y ≡ pos 0 → IsMix b x s y t r → slope v r.form ≡ pos 0
mix-slope v w b x s y t r h k e m =
    ap (slope v) m.form ∙ slope-mix v x y s.form t.form ∙ (rw (part_slope v w s h, part_slope v w t k) at e)

mix-proper : (v w : ℕ) (b : Bool) (x : ℤ) (s : Tracked) (y : ℤ) (t r : Tracked) → IsProper v w s → IsProper v w t → part_of v s *ℤ x +ℤ part_of v t *ℤ y ≡ pos 0 → IsMix b x s y t r → IsProper (v + 1) w r
mix-proper v w b x s y t r h k e m =
    let es = ap (λ f. f.entries) m.form in
    let p : AreEntries r.form.entries = subst AreEntries (sym es) (AreEntries-mix x y s.form.entries t.form.entries h.entries k.entries) in
    let q : AllVars (From v w) r.form.entries = subst (AllVars (From v w)) (sym es) (AllVars-mix (From v w) x y s.form.entries t.form.entries h.from k.from) in
    record { entries = p; from = AllVars-above v w r.form.entries p (part-slope v r.form.entries p ∙ mix-slope v w b x s y t r h k e m) q }

-- what each line that is made without v meets, by the three ways to make one
pub record Makes (P Q : Tracked → Type 0) (v : ℕ) : Type 0 where
  pub free : (t : Tracked) → Q t → is_zero (part_of v t) ≡ true → P t
  pub solved : (e t r : Tracked) → Q e → solves v e ≡ true → Q t → is_zero (part_of v t) ≡ false → IsMix t.equal (first_factor (part_of v t) (part_of v e)) t (against (part_of v t) (part_of v e)) e r → P r
  pub pair : (p n r : Tracked) → Q p → Q n → is_up (part_of v p) ≡ true → is_down (part_of v n) ≡ true → IsMix false (first_factor (part_of v p) (part_of v n)) p (second_factor (part_of v p) (part_of v n)) n r → P r

if_made : (P : Tracked → Type 0) (m : Option Tracked) → ((r : Tracked) → m ≡ Some r → P r) → IfMade P m
if_made P None f = tt
if_made P (Some r) f = f r refl

freed-by : (P : Tracked → Type 0) (b : Bool) (t : Tracked) (m : Option Tracked) → (b ≡ true → P t) → (b ≡ false → IfMade P m) → IfMade P (if b then Some t else m)
freed-by P true t m f g = f refl
freed-by P false t m f g = g refl

made-freed : (P Q : Tracked → Type 0) (v : ℕ) → Makes P Q v → (e t : Tracked) → Q e → solves v e ≡ true → Q t → IfMade P (freed v e t)
made-freed P Q v m e t h s k =
    freed-by P (is_zero (part_of v t)) t _ (λ z. m.free t k z)
    (λ z. if_made P _ (λ r i. m.solved e t r h s k z (mixed-is t.equal (first_factor (part_of v t) (part_of v e)) t (against (part_of v t) (part_of v e)) e r i)))

made-frees : (P Q : Tracked → Type 0) (v : ℕ) → Makes P Q v → (ts : List Tracked) → AllT (λ t. Q t × (is_free v t ≡ true)) ts → AllIfMade P (map Some ts)
made-frees P Q v m ts h = AllIfMade-map P (λ t. Q t × (is_free v t ≡ true)) Some (λ t k. m.free t k.0 k.1) ts h

made-pairs : (P Q : Tracked → Type 0) (v : ℕ) → Makes P Q v → (p n : Tracked) → Q p × (bounds_below v p ≡ true) → Q n × (bounds_above v n ≡ true) → IfMade P (paired v p n)
made-pairs P Q v m p n h k =
    if_made P _ (λ r i. m.pair p n r h.0 k.0 h.1 k.1 (mixed-is false (first_factor (part_of v p) (part_of v n)) p (second_factor (part_of v p) (part_of v n)) n r i))

made-by : (P Q : Tracked → Type 0) (v : ℕ) → Makes P Q v → (ts : List Tracked) → AllT Q ts → (o : Option Tracked) → solver v ts ≡ o → AllIfMade P (made_with v o ts)
made-by P Q v m ts h (Some e) i =
    let s = solver-is Q v ts e h i in
    AllIfMade-map P Q (freed v e) (λ t k. made-freed P Q v m e t s.0 s.1 k) (others v ts) (AllT-others Q v ts h)
made-by P Q v m ts h None i =
    AllIfMade-append P _ _ (made-frees P Q v m _ (AllT-kept Q (is_free v) ts h))
    (AllIfMade-pairs P (λ t. Q t × (bounds_below v t ≡ true)) (λ t. Q t × (bounds_above v t ≡ true)) (paired v) (λ p n a b. made-pairs P Q v m p n a b) _ _ (AllT-kept Q (bounds_below v) ts h) (AllT-kept Q (bounds_above v) ts h))

pub made-all : (P Q : Tracked → Type 0) (v : ℕ) → Makes P Q v → (ts : List Tracked) → AllT Q ts → AllIfMade P (made v ts)
made-all P Q v m ts h = made-by P Q v m ts h (solver v ts) refl

pub proper-makes : (v w : ℕ) → Makes (IsProper (v + 1) w) (IsProper v w) v
proper-makes v w = record {
  free = λ t h e. free-proper v w t h e;
  solved = λ e t r h s k z m. mix-proper v w _ _ t _ e r k h (balance (part_of v t) (part_of v e)) m;
  pair = λ p n r h k a b m. mix-proper v w _ _ p _ n r h k (balance-pair (part_of v p) (part_of v n) a b) m;
}
