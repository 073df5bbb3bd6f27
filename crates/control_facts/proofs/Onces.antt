-- Lists of numbers, each once at its first place, and what is read at each of them.
use Rattle.std.proofs.Common.{cond, ◌≡◌, ◌≢◌, ℕ, Bool, true, false, List, [], ◌∷◌, ◌++◌, map, refl, sym, ap, ◌∙◌, subst, ◌⊎◌, inl, inr, append_assoc, arith}
use Rattle.std.specs.Prelude.{not, ◌==◌, filter, flat_map}
use Rattle.std.proofs.lemmas.Bool.Decides.{nat_tests}
use Rattle.st_program.specs.Member.{Member, here, there}
use Rattle.control_facts.specs.Alternatives.{once}

pub nowhere : {A B : Type 0} {x : A} → Member x [] → B
nowhere h = elim h [ ]

pub in_left : {A : Type 0} {x : A} {xs : List A} (ys : List A) → Member x xs → Member x (xs ++ ys)
in_left ys (here e) = here e
in_left ys (there h) = there (in_left ys h)

pub in_right : {A : Type 0} {x : A} (xs : List A) {ys : List A} → Member x ys → Member x (xs ++ ys)
in_right [] h = h
in_right (a ∷ xs) h = there (in_right xs h)

pub in_either : {A : Type 0} {x : A} (xs : List A) {ys : List A} → Member x (xs ++ ys) → Member x xs ⊎ Member x ys
in_either [] h = inr h
in_either (a ∷ xs) (here e) = inl (here e)
in_either {x = x} (a ∷ xs) {ys} (there h) = go (in_either xs h)
  where
    go : Member x xs ⊎ Member x ys → Member x (a ∷ xs) ⊎ Member x ys
    go (inl m) = inl (there m)
    go (inr m) = inr m

-- the numbers but one
abbrev pub but : ℕ → List ℕ → List ℕ
but b xs = filter (λ y. not (y == b)) xs

same_test : (x b : ℕ) → x ≡ b → not (x == b) ≡ false
same_test x b e = grind (arith, nat_tests)

other_test : (x b : ℕ) → x ≢ b → not (x == b) ≡ true
other_test x b e = grind (arith, nat_tests)

test_same : (x b : ℕ) → not (x == b) ≡ false → x ≡ b
test_same x b e = grind (arith, nat_tests)

test_other : (x b : ℕ) → not (x == b) ≡ true → x ≢ b
test_other x b e = grind (arith, nat_tests)

pub but_same : (x b : ℕ) (xs : List ℕ) → x ≡ b → but b (x ∷ xs) ≡ but b xs
but_same x b xs e = ap (λ t. cond t (x ∷ but b xs) (but b xs)) (same_test x b e)

pub but_other : (x b : ℕ) (xs : List ℕ) → x ≢ b → but b (x ∷ xs) ≡ x ∷ but b xs
but_other x b xs e = ap (λ t. cond t (x ∷ but b xs) (but b xs)) (other_test x b e)

pub same_or_other : (x b : ℕ) → (x ≡ b) ⊎ (x ≢ b)
same_or_other x b = by_test (not (x == b)) refl
  where
    by_test : (t : Bool) → not (x == b) ≡ t → (x ≡ b) ⊎ (x ≢ b)
    by_test true e = inr (test_other x b e)
    by_test false e = inl (test_same x b e)

pub of_but : (b y : ℕ) (xs : List ℕ) → Member y (but b xs) → Member y xs × (y ≢ b)
of_but b y [] m = nowhere m
of_but b y (x ∷ xs) m = by_head (same_or_other x b) (λ i. of_but b y xs i)
  where
    by_head : (x ≡ b) ⊎ (x ≢ b) → (Member y (but b xs) → Member y xs × (y ≢ b)) → Member y (x ∷ xs) × (y ≢ b)
    by_head (inl e) down = let r = down (subst (Member y) (but_same x b xs e) m) in (there r.0, r.1)
    by_head (inr d) down = at_first (subst (Member y) (but_other x b xs d) m)
      where
        at_first : Member y (x ∷ but b xs) → Member y (x ∷ xs) × (y ≢ b)
        at_first (here e) = (here e, λ q. d (sym e ∙ q))
        at_first (there i) = let r = down i in (there r.0, r.1)

pub of_once : (y : ℕ) (xs : List ℕ) → Member y (once xs) → Member y xs
of_once y [] m = nowhere m
of_once y (x ∷ xs) (here e) = here e
of_once y (x ∷ xs) (there m) = there (of_once y xs (of_but x y (once xs) m).0)

pub but_append : (b : ℕ) (xs ys : List ℕ) → but b (xs ++ ys) ≡ but b xs ++ but b ys
but_append b [] ys = refl
but_append b (x ∷ xs) ys = by_test (not (x == b)) (but_append b xs ys)
  where
    by_test : (t : Bool) → but b (xs ++ ys) ≡ but b xs ++ but b ys → cond t (x ∷ but b (xs ++ ys)) (but b (xs ++ ys)) ≡ cond t (x ∷ but b xs) (but b xs) ++ but b ys
    by_test true e = ap (λ z. x ∷ z) e
    by_test false e = e

-- a number that isn't there can be left out
pub but_absent : (b : ℕ) (xs : List ℕ) → ((y : ℕ) → Member y xs → y ≢ b) → but b xs ≡ xs
but_absent b [] h = refl
but_absent b (x ∷ xs) h = but_other x b xs (h x (here refl)) ∙ ap (λ z. x ∷ z) (but_absent b xs (λ y m. h y (there m)))

pub but_twice : (b : ℕ) (xs : List ℕ) → but b (but b xs) ≡ but b xs
but_twice b xs = but_absent b (but b xs) (λ y m. (of_but b y xs m).1)

pub but_swap : (b a : ℕ) (xs : List ℕ) → but b (but a xs) ≡ but a (but b xs)
but_swap b a [] = refl
but_swap b a (x ∷ xs) = by_both (same_or_other x b) (same_or_other x a) (but_swap b a xs)
  where
    by_both : (x ≡ b) ⊎ (x ≢ b) → (x ≡ a) ⊎ (x ≢ a) → but b (but a xs) ≡ but a (but b xs) → but b (but a (x ∷ xs)) ≡ but a (but b (x ∷ xs))
    by_both (inl e) (inl f) r = ap (but b) (but_same x a xs f) ∙ r ∙ sym (ap (but a) (but_same x b xs e))
    by_both (inl e) (inr g) r = ap (but b) (but_other x a xs g) ∙ but_same x b (but a xs) e ∙ r ∙ sym (ap (but a) (but_same x b xs e))
    by_both (inr d) (inl f) r = ap (but b) (but_same x a xs f) ∙ r ∙ sym (but_same x a (but b xs) f) ∙ sym (ap (but a) (but_other x b xs d))
    by_both (inr d) (inr g) r = ap (but b) (but_other x a xs g) ∙ but_other x b (but a xs) d ∙ ap (λ z. x ∷ z) r ∙ sym (but_other x a (but b xs) g) ∙ sym (ap (but a) (but_other x b xs d))

-- two lists that have at most one number in common
pub once_append : (b : ℕ) (xs ys : List ℕ) → ((y : ℕ) → Member y xs → Member y ys → y ≡ b) → but b (once (xs ++ ys)) ≡ but b (once xs) ++ but b (once ys)
once_append b [] ys h = refl
once_append b (x ∷ xs) ys h = by_head (same_or_other x b) (once_append b xs ys (λ y m n. h y (there m) n))
  where
    by_head : (x ≡ b) ⊎ (x ≢ b) → but b (once (xs ++ ys)) ≡ but b (once xs) ++ but b (once ys) → but b (x ∷ but x (once (xs ++ ys))) ≡ but b (x ∷ but x (once xs)) ++ but b (once ys)
    by_head (inl e) r =
        but_same x b (but x (once (xs ++ ys))) e ∙ but_swap b x (once (xs ++ ys)) ∙ ap (but x) r ∙ but_append x (but b (once xs)) (but b (once ys))
        ∙ ap (λ z. but x (but b (once xs)) ++ z) (subst (λ z. but z (but b (once ys)) ≡ but b (once ys)) (sym e) (but_twice b (once ys)))
        ∙ ap (λ z. z ++ but b (once ys)) (sym (but_swap b x (once xs)) ∙ sym (but_same x b (but x (once xs)) e))
    by_head (inr d) r =
        but_other x b (but x (once (xs ++ ys))) d
        ∙ ap (λ z. x ∷ z) (
        but_swap b x (once (xs ++ ys)) ∙ ap (but x) r ∙ but_append x (but b (once xs)) (but b (once ys))
        ∙ ap (λ z. but x (but b (once xs)) ++ z) (but_absent x (but b (once ys)) (λ y m e. (let i = of_but b y (once ys) m in d (h x (here refl) (subst (λ z. Member z ys) e (of_once y ys i.0))))))
        ∙ ap (λ z. z ++ but b (once ys)) (sym (but_swap b x (once xs))))
        ∙ ap (λ z. z ++ but b (once ys)) (sym (but_other x b (but x (once xs)) d))

pub flat_append : {A B : Type 0} (f : A → List B) (xs ys : List A) → flat_map f (xs ++ ys) ≡ flat_map f xs ++ flat_map f ys
flat_append f [] ys = refl
flat_append f (x ∷ xs) ys = ap (λ z. f x ++ z) (flat_append f xs ys) ∙ sym (append_assoc (f x) (flat_map f xs) (flat_map f ys))

pub flat_same : {A B : Type 0} (f g : A → List B) (xs : List A) → ((x : A) → Member x xs → f x ≡ g x) → flat_map f xs ≡ flat_map g xs
flat_same f g [] h = refl
flat_same f g (x ∷ xs) h = ap (λ z. z ++ flat_map f xs) (h x (here refl)) ∙ ap (λ z. g x ++ z) (flat_same f g xs (λ y m. h y (there m)))

pub flat_none : {A B : Type 0} (f : A → List B) (xs : List A) → ((x : A) → Member x xs → f x ≡ []) → flat_map f xs ≡ []
flat_none f [] h = refl
flat_none f (x ∷ xs) h = ap (λ z. z ++ flat_map f xs) (h x (here refl)) ∙ flat_none f xs (λ y m. h y (there m))

pub map_append : {A B : Type 0} (f : A → B) (xs ys : List A) → map f (xs ++ ys) ≡ map f xs ++ map f ys
map_append f [] ys = refl
map_append f (x ∷ xs) ys = ap (λ z. f x ∷ z) (map_append f xs ys)

pub in_map : {A B : Type 0} (f : A → B) {x : A} {xs : List A} → Member x xs → Member (f x) (map f xs)
in_map f (here e) = here (ap f e)
in_map f (there m) = there (in_map f m)
