-- Lemmas on membership.
use Rattle.std.proofs.Common.{◌≡◌, ℕ, zero, suc, List, [], ◌∷◌, ◌++◌, map, Some, refl, sym, ap, ◌⊎◌, inl, inr}
use Rattle.std.specs.Prelude.{slice_get}
use Rattle.st_program.specs.Member.{Member, here, there}

pub member_none : {A B : Type 0} {x : A} → Member x [] → B
member_none h = elim h [ ]

pub member_left : {A : Type 0} {x : A} {xs : List A} (ys : List A) → Member x xs → Member x (xs ++ ys)
member_left ys (here e) = here e
member_left ys (there h) = there (member_left ys h)

pub member_right : {A : Type 0} {x : A} (xs : List A) {ys : List A} → Member x ys → Member x (xs ++ ys)
member_right [] h = h
member_right (a ∷ xs) h = there (member_right xs h)

pub member_cases : {A : Type 0} {x : A} (xs : List A) {ys : List A} → Member x (xs ++ ys) → Member x xs ⊎ Member x ys
member_cases [] h = inr h
member_cases (a ∷ xs) (here e) = inl (here e)
member_cases {x = x} (a ∷ xs) {ys} (there h) = go (member_cases xs h)
  where
    go : Member x xs ⊎ Member x ys → Member x (a ∷ xs) ⊎ Member x ys
    go (inl m) = inl (there m)
    go (inr m) = inr m

pub member_map : {A B : Type 0} (f : A → B) (y : B) (xs : List A) → Member y (map f xs) → (x : A) × Member x xs × (y ≡ f x)
member_map f y [] h = member_none h
member_map f y (x ∷ xs) (here e) = (x, here refl, e)
member_map f y (x ∷ xs) (there h) = let r = member_map f y xs h in (r.0, there r.1, r.2)

pub map_member : {A B : Type 0} (f : A → B) {x : A} {xs : List A} → Member x xs → Member (f x) (map f xs)
map_member f (here e) = here (ap f e)
map_member f (there h) = there (map_member f h)

pub member_at : {A : Type 0} (x : A) (xs : List A) → Member x xs → (k : ℕ) × (slice_get xs k ≡ Some x)
member_at x [] h = member_none h
member_at x (y ∷ xs) (here e) = (0, ap Some (sym e))
member_at x (y ∷ xs) (there h) = let r = member_at x xs h in (suc r.0, r.1)

pub at_member : {A : Type 0} (x : A) (xs : List A) (k : ℕ) → slice_get xs k ≡ Some x → Member x xs
at_member x [] k e = cc
at_member x (y ∷ xs) zero e = here cc
at_member x (y ∷ xs) (suc k) e = there (at_member x xs k e)
