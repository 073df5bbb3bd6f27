-- Truth of the cases of a formula.
use Rattle.std.proofs.Common.{◌≡◌, ℕ, Bool, true, false, ◌&&◌, ◌||◌, List, [], ◌∷◌, ◌++◌, map, refl, sym, ap, ◌∙◌, subst, ℤ, pos, negsuc, ◌+ℤ◌, cond}
use Rattle.std.specs.Prelude.{flat_map, filter, if◌then◌else◌}
use Rattle.std.specs.List.{list_any}
use Rattle.std.specs.Ordering.{int_eq}
use Rattle.std.proofs.lemmas.Bool.Decides.{Decides-int_eq}
use Rattle.st_form.specs.Formula.{Formula, Formulas, none, more, Situation, truth, every_truth, some_truth, formulas}
use Rattle.st_form.specs.Simple.{closed}
use Rattle.basic_laws.proofs.Truths.{and_assoc, and_true, or_false}

-- tests of lists
any-same : {X : Type 0} (f g : X → Bool) (xs : List X) → ((x : X) → f x ≡ g x) → list_any f xs ≡ list_any g xs
any-same f g [] h = refl
any-same f g (x ∷ xs) h = ap (λ b. b || list_any f xs) (h x) ∙ ap (λ b. g x || b) (any-same f g xs h)

or_assoc : (a b c : Bool) → ((a || b) || c) ≡ (a || (b || c))
or_assoc true b c = refl
or_assoc false b c = refl

any-append : {X : Type 0} (f : X → Bool) (xs ys : List X) → list_any f (xs ++ ys) ≡ (list_any f xs || list_any f ys)
any-append f [] ys = refl
any-append f (x ∷ xs) ys = ap (λ b. f x || b) (any-append f xs ys) ∙ sym (or_assoc (f x) (list_any f xs) (list_any f ys))

any-flat : {X Y : Type 0} (f : Y → Bool) (g : X → List Y) (xs : List X) → list_any f (flat_map g xs) ≡ list_any (λ x. list_any f (g x)) xs
any-flat f g [] = refl
any-flat f g (x ∷ xs) = any-append f (g x) (flat_map g xs) ∙ ap (λ b. list_any f (g x) || b) (any-flat f g xs)

any-map : {X Y : Type 0} (f : Y → Bool) (g : X → Y) (xs : List X) → list_any f (map g xs) ≡ list_any (λ x. f (g x)) xs
any-map f g [] = refl
any-map f g (x ∷ xs) = ap (λ b. f (g x) || b) (any-map f g xs)

and_or : (a b c : Bool) → ((a && b) || (a && c)) ≡ (a && (b || c))
and_or true b c = refl
and_or false b c = refl

and_none : (a : Bool) → (a && false) ≡ false
and_none true = refl
and_none false = refl

any-and : {X : Type 0} (a : Bool) (f : X → Bool) (xs : List X) → list_any (λ x. a && f x) xs ≡ (a && list_any f xs)
any-and a f [] = sym (and_none a)
any-and a f (x ∷ xs) = ap (λ b. (a && f x) || b) (any-and a f xs) ∙ and_or a (f x) (list_any f xs)

-- one of the numbers is the one that is sought
at_number : (f : ℤ → Bool) (k v : ℤ) → (int_eq k v && f k) ≡ (int_eq k v && f v)
at_number f k v = by_test (int_eq k v) refl
  where
    by_test : (b : Bool) → int_eq k v ≡ b → (b && f k) ≡ (b && f v)
    by_test true e = ap f ((Decides-int_eq k v).0 e)
    by_test false e = refl

and_swap : (a b : Bool) → (a && b) ≡ (b && a)
and_swap true true = refl
and_swap true false = refl
and_swap false true = refl
and_swap false false = refl

pub any-number : (f : ℤ → Bool) (v : ℤ) (ks : List ℤ) → list_any (λ k. int_eq k v) ks ≡ true → list_any (λ k. int_eq k v && f k) ks ≡ f v
any-number f v ks h =
    any-same (λ k. int_eq k v && f k) (λ k. f v && int_eq k v) ks (λ k. at_number f k v ∙ and_swap (int_eq k v) (f v))
    ∙ any-and (f v) (λ k. int_eq k v) ks
    ∙ ap (λ b. f v && b) h
    ∙ and_swap (f v) true

pub every-append : (s : Situation) (fs gs : List Formula) → every_truth s (formulas (fs ++ gs)) ≡ (every_truth s (formulas fs) && every_truth s (formulas gs))
every-append s [] gs = refl
every-append s (f ∷ fs) gs = ap (λ b. truth s f && b) (every-append s fs gs) ∙ and_assoc (truth s f) (every_truth s (formulas fs)) (every_truth s (formulas gs))

pub closed-every : (s : Situation) (fs : Formulas) → truth s (closed true fs) ≡ every_truth s fs
closed-every s none = refl
closed-every s (more f none) = sym (and_true (truth s f))
closed-every s (more f (more g gs)) = refl

pub closed-some : (s : Situation) (fs : Formulas) → truth s (closed false fs) ≡ some_truth s fs
closed-some s none = refl
closed-some s (more f none) = sym (or_false (truth s f))
closed-some s (more f (more g gs)) = refl

pub some-any : {X : Type 0} (s : Situation) (f : X → Formula) (xs : List X) → some_truth s (formulas (map f xs)) ≡ list_any (λ x. truth s (f x)) xs
some-any s f [] = refl
some-any s f (x ∷ xs) = ap (λ b. truth s (f x) || b) (some-any s f xs)

-- a case holds, and its sum passes a test
abbrev pub holds_by : Situation → (ℤ → Bool) → List Formula × ℤ → Bool
holds_by s z x = every_truth s (formulas x.0) && z x.1

-- one more component in front: of its classes only the one where control is counts
pub any-class : (s : Situation) (make : ℤ → List Formula) (v : ℤ) (ks : List ℤ) (xs : List (List Formula × ℤ)) (z : ℤ → Bool) (sum : ℤ)
    → ((k : ℤ) → every_truth s (formulas (make k)) ≡ int_eq k v) → list_any (λ k. int_eq k v) ks ≡ true
    → ((y : ℤ → Bool) → list_any (holds_by s y) xs ≡ y sum)
    → list_any (holds_by s z) (flat_map (λ k. map (λ x. (make k ++ x.0, k +ℤ x.1)) xs) ks) ≡ z (v +ℤ sum)
any-class s make v ks xs z sum w h rest =
    any-flat (holds_by s z) (λ k. map (λ x. (make k ++ x.0, k +ℤ x.1)) xs) ks
    ∙ any-same (λ k. list_any (holds_by s z) (map (λ x. (make k ++ x.0, k +ℤ x.1)) xs)) (λ k. int_eq k v && z (k +ℤ sum)) ks one_class
    ∙ any-number (λ k. z (k +ℤ sum)) v ks h
  where
    one_case : (k : ℤ) (x : List Formula × ℤ) → (every_truth s (formulas (make k ++ x.0)) && z (k +ℤ x.1)) ≡ (int_eq k v && (every_truth s (formulas x.0) && z (k +ℤ x.1)))
    one_case k x =
        ap (λ b. b && z (k +ℤ x.1)) (every-append s (make k) x.0 ∙ ap (λ b. b && every_truth s (formulas x.0)) (w k))
        ∙ sym (and_assoc (int_eq k v) (every_truth s (formulas x.0)) (z (k +ℤ x.1)))

    one_class : (k : ℤ) → list_any (holds_by s z) (map (λ x. (make k ++ x.0, k +ℤ x.1)) xs) ≡ (int_eq k v && z (k +ℤ sum))
    one_class k =
        any-map (holds_by s z) (λ (x : List Formula × ℤ). (make k ++ x.0, k +ℤ x.1)) xs
        ∙ any-same (λ (x : List Formula × ℤ). every_truth s (formulas (make k ++ x.0)) && z (k +ℤ x.1)) (λ (x : List Formula × ℤ). int_eq k v && holds_by s (λ j. z (k +ℤ j)) x) xs (one_case k)
        ∙ any-and (int_eq k v) (holds_by s (λ j. z (k +ℤ j))) xs
        ∙ ap (λ b. int_eq k v && b) (rest (λ j. z (k +ℤ j)))
