-- Lists: combinators in place of recursions.
use Rattle.std.proofs.Common.{◌≡◌, refl, ap, ℕ, ◌+◌, List, [], ◌∷◌, ◌++◌, map, flat_map}
use Rattle.std.specs.List.{enumerate_from}
use Rattle.vc_generator.specs.Building.{Draft}
use Rattle.vc_generator.specs.Walks.{numbered_from}

module _ {A B : Type 0} where
  pub map-same : (f g : A → B) (xs : List A) → ((x : A) → f x ≡ g x) → map f xs ≡ map g xs
  map-same f g xs h = ap {B = List B} (λ k. map k xs) (λ i x. h x i)

  pub flat_map-same : (f g : A → List B) (xs : List A) → ((x : A) → f x ≡ g x) → flat_map f xs ≡ flat_map g xs
  flat_map-same f g xs h = ap {B = List B} (λ k. flat_map k xs) (λ i x. h x i)

  pub map-append : (f : A → B) (xs ys : List A) → map f (xs ++ ys) ≡ map f xs ++ map f ys
  map-append f [] ys = refl
  map-append f (x ∷ xs) ys = λ i. f x ∷ map-append f xs ys i

  pub as_flat_map : (f : A → B) (xs : List A) → map f xs ≡ flat_map (λ x. f x ∷ []) xs
  as_flat_map f [] = refl
  as_flat_map f (x ∷ xs) = λ i. f x ∷ as_flat_map f xs i

  pub flat_map-nothing : (xs : List A) → flat_map {X = A} {A = B} (λ x. []) xs ≡ []
  flat_map-nothing [] = refl
  flat_map-nothing (x ∷ xs) = flat_map-nothing xs

module _ {A B C : Type 0} where
  pub map-map : (f : B → C) (g : A → B) (xs : List A) → map f (map g xs) ≡ map (λ x. f (g x)) xs
  map-map f g [] = refl
  map-map f g (x ∷ xs) = λ i. f (g x) ∷ map-map f g xs i

  pub flat_map-map : (f : B → List C) (g : A → B) (xs : List A) → flat_map f (map g xs) ≡ flat_map (λ x. f (g x)) xs
  flat_map-map f g [] = refl
  flat_map-map f g (x ∷ xs) = λ i. f (g x) ++ flat_map-map f g xs i

-- what doesn't look at the numbers
pub unnumbered : {A B : Type 0} (f : A → B) (n : ℕ) (xs : List A) → map (λ (x : ℕ × A). f x.1) (enumerate_from n xs) ≡ map f xs
unnumbered f n [] = refl
unnumbered f n (x ∷ xs) = λ i. f x ∷ unnumbered f (n + 1) xs i

pub numbered : {A : Type 0} (f : ℕ → A → List Draft) (n : ℕ) (xs : List A) → flat_map (λ (x : ℕ × A). f x.0 x.1) (enumerate_from n xs) ≡ numbered_from f n xs
numbered f n [] = refl
numbered f n (x ∷ xs) = λ i. f n x ++ numbered f (n + 1) xs i

pub numbered_singly : {A : Type 0} (f : ℕ → A → Draft) (n : ℕ) (xs : List A) → map (λ (x : ℕ × A). f x.0 x.1) (enumerate_from n xs) ≡ numbered_from (λ k x. f k x ∷ []) n xs
numbered_singly f n [] = refl
numbered_singly f n (x ∷ xs) = λ i. f n x ∷ numbered_singly f (n + 1) xs i
