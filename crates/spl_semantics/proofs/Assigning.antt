-- All targets at once, one after the other.
use Rattle.std.proofs.Common.{◌≡◌, ◌≢◌, ℕ, zero, suc, ◌+◌, ◌<◌, Bool, true, false, List, [], ◌∷◌, length, drop, get_or, set, Some, refl, ap, ◌∙◌, sym, subst, arith}
use Rattle.std.specs.Prelude.{◌==◌, if◌then◌else◌, slice_get, ℤ}
use Rattle.std.proofs.lemmas.Bool.Decides.{nat_tests}
use Rattle.std.proofs.lemmas.List.{drop_more}
use Rattle.st_program.specs.declared.residuals.Datum.{Datum}
use Rattle.st_program.specs.declared.residuals.Datum.TheVariants.{Number, Truth}
use Rattle.st_program.specs.declared.trees.Value.{Value}
use Rattle.st_program.specs.Tree.{Term, number, truth}
use Rattle.st_program.specs.Types.{is_truth, IsNoTarget}
use Rattle.st_program.specs.Plain.{plain_target, plain_targets}
use Rattle.st_linear.specs.Linear.{Linear, value}
use Rattle.spl_semantics.specs.Stores.{Store, number_or, truth_or, number_given, truth_given, assigned}
use Rattle.spl_semantics.specs.Data.{number_in, truth_in, store_of, datum_of, is_boolean, types, TargetsMeet}
use Rattle.spl_semantics.specs.Limits.{wide_term, wide_targets}
use Rattle.spl_semantics.proofs.Exits.{or_here, or_none}

-- the value of v, which is z so far, once the rest has been put
abbrev pub number_onto : ℕ → List (ℕ × Term) → Store → ℤ → ℤ
number_onto v [] s z = z
number_onto v (x ∷ xs) s z = if x.0 == v then number_or z x.1 s else number_onto v xs s z

abbrev pub truth_onto : ℕ → List (ℕ × Term) → Store → Bool → Bool
truth_onto v [] s b = b
truth_onto v (x ∷ xs) s b = if x.0 == v then truth_or b x.1 s else truth_onto v xs s b

pub number-start : (v : ℕ) (xs : List (ℕ × Term)) (s : Store) → number_onto v xs s (s.numbers v) ≡ number_given v xs s
number-start v [] s = refl
number-start v (x ∷ xs) s = ap (λ z. if x.0 == v then number_or (s.numbers v) x.1 s else z) (number-start v xs s)

pub truth-start : (v : ℕ) (xs : List (ℕ × Term)) (s : Store) → truth_onto v xs s (s.truths v) ≡ truth_given v xs s
truth-start v [] s = refl
truth-start v (x ∷ xs) s = ap (λ z. if x.0 == v then truth_or (s.truths v) x.1 s else z) (truth-start v xs s)

apart : (k v : ℕ) → k ≢ v → (k == v) ≡ false
apart k v h = grind (arith, nat_tests)

same : (k v : ℕ) → (k == v) ≡ true → k ≡ v
same k v h = grind (arith, nat_tests)

differs : (k v : ℕ) → (k == v) ≡ false → k ≢ v
differs k v h = λ e. let q : (k == v) ≡ true = grind (arith, nat_tests) in cc

number-no_target : (v : ℕ) (xs : List (ℕ × Term)) (s : Store) (z : ℤ) → IsNoTarget v xs → number_onto v xs s z ≡ z
number-no_target v [] s z h = refl
number-no_target v (x ∷ xs) s z h =
    ap (λ b. if b then number_or z x.1 s else number_onto v xs s z) (apart x.0 v h.0) ∙ number-no_target v xs s z h.1

truth-no_target : (v : ℕ) (xs : List (ℕ × Term)) (s : Store) (z : Bool) → IsNoTarget v xs → truth_onto v xs s z ≡ z
truth-no_target v [] s z h = refl
truth-no_target v (x ∷ xs) s z h =
    ap (λ b. if b then truth_or z x.1 s else truth_onto v xs s z) (apart x.0 v h.0) ∙ truth-no_target v xs s z h.1

-- a list with one datum set
set-there : (ds : List Datum) (k : ℕ) (d : Datum) (b : Bool) → slice_get (types ds) k ≡ Some b → slice_get (set ds k d) k ≡ Some d
set-there [] k d b h = cc
set-there (e ∷ ds) zero d b h = refl
set-there (e ∷ ds) (suc k) d b h = set-there ds k d b h

set-elsewhere : (ds : List Datum) (k v : ℕ) (d : Datum) → k ≢ v → slice_get (set ds k d) v ≡ slice_get ds v
set-elsewhere [] k v d h = refl
set-elsewhere (e ∷ ds) zero zero d h = absurd (h refl)
set-elsewhere (e ∷ ds) zero (suc v) d h = refl
set-elsewhere (e ∷ ds) (suc k) zero d h = refl
set-elsewhere (e ∷ ds) (suc k) (suc v) d h = set-elsewhere ds k v d (λ q. h (ap suc q))

pub set-types : (ds : List Datum) (k : ℕ) (d : Datum) → slice_get (types ds) k ≡ Some (is_boolean d) → types (set ds k d) ≡ types ds
set-types [] k d h = refl
set-types (e ∷ ds) zero d h = let q : is_boolean e ≡ is_boolean d = cc in ap (λ b. b ∷ types ds) (sym q)
set-types (e ∷ ds) (suc k) d h = ap (λ l. is_boolean e ∷ l) (set-types ds k d h)

pub types-within : (ds : List Datum) (k : ℕ) (b : Bool) → slice_get (types ds) k ≡ Some b → k < length ds
types-within [] k b h = cc
types-within (e ∷ ds) zero b h = omega arith
types-within (e ∷ ds) (suc k) b h = let q = types-within ds k b h in omega arith

pub datum-boolean : (t : Term) (s : Store) → is_boolean (datum_of t s) ≡ is_truth t
datum-boolean (number f) s = refl
datum-boolean (truth f) s = refl

-- a variable of the other type keeps its value
number-old : (ds : List Datum) (k : ℕ) (t : Term) (s : Store) → slice_get (types ds) k ≡ Some (is_truth t) → number_in (Some (datum_of t s)) ≡ number_or (number_in (slice_get ds k)) t s
number-old [] k t s h = cc
number-old (e ∷ ds) zero (number f) s h = refl
number-old (Number z ∷ ds) zero (truth f) s h = cc
number-old (Truth b ∷ ds) zero (truth f) s h = refl
number-old (e ∷ ds) (suc k) t s h = number-old ds k t s h

truth-old : (ds : List Datum) (k : ℕ) (t : Term) (s : Store) → slice_get (types ds) k ≡ Some (is_truth t) → truth_in (Some (datum_of t s)) ≡ truth_or (truth_in (slice_get ds k)) t s
truth-old [] k t s h = cc
truth-old (e ∷ ds) zero (truth f) s h = refl
truth-old (Truth b ∷ ds) zero (number f) s h = cc
truth-old (Number z ∷ ds) zero (number f) s h = refl
truth-old (e ∷ ds) (suc k) t s h = truth-old ds k t s h

-- the next target
module _ (ds : List Datum) (x : ℕ × Term) (xs : List (ℕ × Term)) (s : Store) (type : slice_get (types ds) x.0 ≡ Some (is_truth x.1)) (free : IsNoTarget x.0 xs) where
  pub number-put : (v : ℕ) → number_onto v xs s (number_in (slice_get (set ds x.0 (datum_of x.1 s)) v)) ≡ number_onto v (x ∷ xs) s (number_in (slice_get ds v))
  number-put v = at_key (x.0 == v) refl
    where
      at_key : (b : Bool) → (x.0 == v) ≡ b → number_onto v xs s (number_in (slice_get (set ds x.0 (datum_of x.1 s)) v)) ≡ (if b then number_or (number_in (slice_get ds v)) x.1 s else number_onto v xs s (number_in (slice_get ds v)))
      at_key true q =
          let e = same x.0 v q in
          subst (λ w. number_onto w xs s (number_in (slice_get (set ds x.0 (datum_of x.1 s)) w)) ≡ number_or (number_in (slice_get ds w)) x.1 s) e
          (number-no_target x.0 xs s _ free ∙ ap number_in (set-there ds x.0 (datum_of x.1 s) _ type) ∙ number-old ds x.0 x.1 s type)
      at_key false q = ap (λ o. number_onto v xs s (number_in o)) (set-elsewhere ds x.0 v (datum_of x.1 s) (differs x.0 v q))

  pub truth-put : (v : ℕ) → truth_onto v xs s (truth_in (slice_get (set ds x.0 (datum_of x.1 s)) v)) ≡ truth_onto v (x ∷ xs) s (truth_in (slice_get ds v))
  truth-put v = at_key (x.0 == v) refl
    where
      at_key : (b : Bool) → (x.0 == v) ≡ b → truth_onto v xs s (truth_in (slice_get (set ds x.0 (datum_of x.1 s)) v)) ≡ (if b then truth_or (truth_in (slice_get ds v)) x.1 s else truth_onto v xs s (truth_in (slice_get ds v)))
      at_key true q =
          let e = same x.0 v q in
          subst (λ w. truth_onto w xs s (truth_in (slice_get (set ds x.0 (datum_of x.1 s)) w)) ≡ truth_or (truth_in (slice_get ds w)) x.1 s) e
          (truth-no_target x.0 xs s _ free ∙ ap truth_in (set-there ds x.0 (datum_of x.1 s) _ type) ∙ truth-old ds x.0 x.1 s type)
      at_key false q = ap (λ o. truth_onto v xs s (truth_in o)) (set-elsewhere ds x.0 v (datum_of x.1 s) (differs x.0 v q))

pub next-target : (xs : List (ℕ × Value)) (i : ℕ) (x : ℕ × Value) → i < length xs → x ≡ get_or xs i x → plain_targets (drop i xs) ≡ plain_target x ∷ plain_targets (drop (i + 1) xs)
next-target xs i x within is = ap plain_targets (drop_more xs i x within) ∙ ap (λ y. plain_target y ∷ plain_targets (drop (i + 1) xs)) (sym is)

-- what is left of an assignment that has been made as far as target i, into the store ds
pub record Assigns (before after : List Datum) (left all : List (ℕ × Term)) : Type 0 where
  pub same_types : types after ≡ types before
  pub meets : TargetsMeet (types before) left
  pub wide : wide_targets left (store_of before) ≡ wide_targets all (store_of before)
  pub numbers : (v : ℕ) → number_onto v left (store_of before) (number_in (slice_get after v)) ≡ number_given v all (store_of before)
  pub truths : (v : ℕ) → truth_onto v left (store_of before) (truth_in (slice_get after v)) ≡ truth_given v all (store_of before)

pub assigns-start : (ds after : List Datum) (xs : List (ℕ × Term)) → after ≡ ds → TargetsMeet (types ds) xs → Assigns ds after xs xs
assigns-start ds after xs e h =
    subst (λ z. Assigns ds z xs xs) (sym e)
    (record { same_types = refl; meets = h; wide = refl; numbers = λ v. number-start v xs (store_of ds); truths = λ v. truth-start v xs (store_of ds) })

module _ (ds after : List Datum) (x : ℕ × Term) (left xs all : List (ℕ × Term)) (is : left ≡ x ∷ xs) (h : Assigns ds after left all) where
  at : Assigns ds after (x ∷ xs) all
  at = subst (λ l. Assigns ds after l all) is h

  pub assigns-type : slice_get (types ds) x.0 ≡ Some (is_truth x.1)
  assigns-type = at.meets.0

  pub assigns-within : x.0 < length after
  assigns-within = types-within after x.0 (is_truth x.1) (ap (λ l. slice_get l x.0) at.same_types ∙ at.meets.0)

  pub assigns-wide : wide_term x.1 (store_of ds) ≡ true → wide_targets all (store_of ds) ≡ true
  assigns-wide e = sym at.wide ∙ or_here _ _ e

  pub assigns-next : (d : Datum) → wide_term x.1 (store_of ds) ≡ false → d ≡ datum_of x.1 (store_of ds) → Assigns ds (set after x.0 d) xs all
  assigns-next d n e =
      let type : slice_get (types after) x.0 ≡ Some (is_truth x.1) = ap (λ l. slice_get l x.0) at.same_types ∙ at.meets.0 in
      subst (λ d. Assigns ds (set after x.0 d) xs all) (sym e)
      (record {
        same_types = set-types after x.0 (datum_of x.1 (store_of ds)) (type ∙ ap Some (sym (datum-boolean x.1 (store_of ds)))) ∙ at.same_types;
        meets = at.meets.2;
        wide = sym (or_none _ _ n) ∙ at.wide;
        numbers = λ v. number-put after x xs (store_of ds) type at.meets.1 v ∙ at.numbers v;
        truths = λ v. truth-put after x xs (store_of ds) type at.meets.1 v ∙ at.truths v;
      })

pub assigns-done : (ds after : List Datum) (left all : List (ℕ × Term)) → left ≡ [] → Assigns ds after left all
    → (wide_targets all (store_of ds) ≡ false) × (store_of after ≡ record { numbers = λ v. number_given v all (store_of ds); truths = λ v. truth_given v all (store_of ds) })
assigns-done ds after left all is h =
    let k = subst (λ l. Assigns ds after l all) is h in
    (sym k.wide, λ i. record { numbers = λ v. k.numbers v i; truths = λ v. k.truths v i })

-- one number that is put is an assignment of a right side with that value
pub count-is : (ds : List Datum) (v : ℕ) (f : Linear) (z : ℤ) → slice_get (types ds) v ≡ Some false → z ≡ value (store_of ds).numbers f
    → store_of (set ds v (Number z)) ≡ assigned ((v, number f) ∷ []) (store_of ds)
count-is ds v f z t e =
    let s = store_of ds in
    let n : (w : ℕ) → number_in (slice_get (set ds v (Number z)) w) ≡ number_given w ((v, number f) ∷ []) s =
    λ w. ap (λ x. number_in (slice_get (set ds v (Number x)) w)) e ∙ number-put ds (v, number f) [] s t tt w ∙ number-start w ((v, number f) ∷ []) s in
    let b : (w : ℕ) → truth_in (slice_get (set ds v (Number z)) w) ≡ truth_given w ((v, number f) ∷ []) s =
    λ w. ap (λ x. truth_in (slice_get (set ds v (Number x)) w)) e ∙ truth-put ds (v, number f) [] s t tt w ∙ truth-start w ((v, number f) ∷ []) s in
    λ i. record { numbers = λ w. n w i; truths = λ w. b w i }
