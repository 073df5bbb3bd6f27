-- What stands in a list: in one of two lists, in a list of images, or in a list that is there only if a test holds.
use Rattle.std.proofs.Common.{◌≡◌, ◌∙◌, ap, sym, refl, ℕ, zero, suc, Bool, true, false, if◌then◌else◌, IsTrue, List, [], ◌∷◌, ◌++◌, map, slice_get, Option, Some, None, ◌⊎◌, inl, inr}
use Rattle.std.proofs.lemmas.Bool.{false≢true}
use Rattle.std.proofs.lemmas.Option.{none-some}
use Rattle.std.proofs.lemmas.Bool.Decides.{eqb_tells}
use Rattle.temporal_goals.specs.Texts.{PlainNode}
use Rattle.vc_generator.specs.Atoms.{PlainCase}
use Rattle.rule_laws.specs.Names.{same_group, is_name}
use Rattle.rule_laws.specs.RankedNet.{grouped, cases_if}

pub record Among {A : Type 0} (xs : List A) (x : A) : Type 0 where
  pub place : ℕ
  pub listed : slice_get xs place ≡ Some x

pub among-next : {A : Type 0} (x : A) (xs : List A) (y : A) → Among xs y → Among (x ∷ xs) y
among-next x xs y a = record { place = suc a.place; listed = a.listed }

split-at : {A : Type 0} (xs ys : List A) (i : ℕ) (x : A) → slice_get (xs ++ ys) i ≡ Some x → Among xs x ⊎ Among ys x
split-at [] ys i x e = inr (record { place = i; listed = e })
split-at (y ∷ xs) ys zero x e = inl (record { place = 0; listed = e })
split-at (y ∷ xs) ys (suc i) x e = elim (split-at xs ys i x e) [ inl a ↦ inl (among-next y xs x a) | inr b ↦ inr b ]

pub among-split : {A : Type 0} (xs ys : List A) (x : A) → Among (xs ++ ys) x → Among xs x ⊎ Among ys x
among-split xs ys x a = split-at xs ys a.place x a.listed

pub record Image {X Y : Type 0} (f : X → Y) (xs : List X) (y : Y) : Type 0 where
  pub item : X
  pub among : Among xs item
  pub is : f item ≡ y

image-at : {X Y : Type 0} (f : X → Y) (xs : List X) (i : ℕ) (y : Y) → slice_get (map f xs) i ≡ Some y → Image f xs y
image-at f [] i y e = absurd (none-some y e)
image-at f (x ∷ xs) zero y e = record { item = x; among = record { place = 0; listed = refl }; is = cc }
image-at f (x ∷ xs) (suc i) y e = let r = image-at f xs i y e in record { item = r.item; among = among-next x xs r.item r.among; is = r.is }

pub among-map : {X Y : Type 0} (f : X → Y) (xs : List X) (y : Y) → Among (map f xs) y → Image f xs y
among-map f xs y a = image-at f xs a.place y a.listed

pub map-among : {X Y : Type 0} (f : X → Y) (xs : List X) (i : ℕ) (x : X) → slice_get xs i ≡ Some x → slice_get (map f xs) i ≡ Some (f x)
map-among f [] i x e = absurd (none-some x e)
map-among f (y ∷ ys) zero x e = ap (λ z. Some (f z)) (let same : y ≡ x = cc in same)
map-among f (y ∷ ys) (suc i) x e = map-among f ys i x e

single-at : {A : Type 0} (x y : A) (i : ℕ) → slice_get (x ∷ []) i ≡ Some y → x ≡ y
single-at x y zero e = cc
single-at x y (suc i) e = absurd (none-some y e)

pub among-single : {A : Type 0} (x y : A) → Among (x ∷ []) y → x ≡ y
among-single x y a = single-at x y a.place a.listed

pub among-if : (b : Bool) (cs : List PlainCase) (c : PlainCase) → Among (cases_if b cs) c → IsTrue b × Among cs c
among-if true cs c a = (refl, a)
among-if false cs c a = absurd (none-some c a.listed)

pub same-is : (g h : Option ℕ) → same_group g h ≡ true → g ≡ h
same-is None None e = refl
same-is None (Some h) e = absurd (false≢true e)
same-is (Some g) None e = absurd (false≢true e)
same-is (Some g) (Some h) e = elim (eqb_tells g h) [ inl p ↦ ap Some p.1 | inr q ↦ absurd (false≢true (sym q.0 ∙ e)) ]

pub other-name : (g : Option ℕ) (n : ℕ) → is_name g n ≡ false → g ≡ Some n → ⊥
other-name None n e same = none-some n same
other-name (Some m) n e same = elim (eqb_tells m n) [ inl p ↦ false≢true (sym e ∙ p.0) | inr q ↦ q.1 (let is : m ≡ n = cc in is) ]

group-step : (g : Option ℕ) (x : PlainNode) (xs : List PlainNode) (j : PlainNode) (b : Bool) → same_group g x.group ≡ b → ((i : ℕ) → slice_get (grouped g xs) i ≡ Some j → Among xs j × (g ≡ j.group))
    → (i : ℕ) → slice_get (if b then x ∷ grouped g xs else grouped g xs) i ≡ Some j → Among (x ∷ xs) j × (g ≡ j.group)
group-step g x xs j true same rest zero e = let is : x ≡ j = cc in (record { place = 0; listed = e }, same-is g x.group same ∙ ap (λ z. z.group) is)
group-step g x xs j true same rest (suc i) e = let r = rest i e in (among-next x xs j r.0, r.1)
group-step g x xs j false same rest i e = let r = rest i e in (among-next x xs j r.0, r.1)

grouped-at : (g : Option ℕ) (js : List PlainNode) (j : PlainNode) (i : ℕ) → slice_get (grouped g js) i ≡ Some j → Among js j × (g ≡ j.group)
grouped-at g [] j i e = absurd (none-some j e)
grouped-at g (x ∷ xs) j i e = group-step g x xs j (same_group g x.group) refl (grouped-at g xs j) i e

pub among-grouped : (g : Option ℕ) (js : List PlainNode) (j : PlainNode) → Among (grouped g js) j → Among js j × (g ≡ j.group)
among-grouped g js j a = grouped-at g js j a.place a.listed
