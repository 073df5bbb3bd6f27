-- A look-up in a map of names, read as bytes.
use Rattle.std.proofs.Common.{◌≡◌, ◌∙◌, ap, sym, refl, subst, ℕ, zero, suc, not, false, nat_eq, nat_lt, drop, ◌+◌, ◌<◌, ◌^◌, length, Bool, List, [], ◌∷◌, ◌++◌, map, position, slice_get, inl, inr, Option, None, Some, cond, if◌then◌else◌}
use Rattle.std.specs.Option.{option_map}
use Rattle.std.specs.Str.{bytes_eq}
use Rattle.std.specs.String.{string_bytes}
use Rattle.std.specs.declared.string.String.{String}
use Rattle.std.specs.Map.{lookup, keys_of}
use Rattle.std.specs.List.{position_or_len}
use Rattle.std.proofs.lemmas.List.{length-map, drop_more}
use Rattle.std.proofs.Math.Seq.{drop-nil}
use Rattle.std.proofs.lemmas.Bool.Decides.{eqb_tells}
use Rattle.std.proofs.lemmas.Option.{none-some, slice_get_within, get_or_from_slice_get}
use Rattle.st_program.specs.Names.{label_of, is_occurrence, statement_label, as_bytes, names_in, named, AreApart, IsNew}

module _ {A Z : Type 0} (name : List ℕ) where
  pub lookup-named : (es : List (String Z × A)) → lookup (λ k. bytes_eq name (string_bytes k)) es ≡ named name (as_bytes es)
  lookup-named [] = refl
  lookup-named (e ∷ es) = ap (λ r. if bytes_eq name (string_bytes e.0) then Some e.1 else r) (lookup-named es)

  prefix-is : (es : List (String Z × A)) → position_or_len (λ k. bytes_eq name (string_bytes k)) (keys_of es) ≡ position_or_len (λ k. bytes_eq name k) (names_in (as_bytes es))
  prefix-is [] = refl
  prefix-is (e ∷ es) = ap (λ n. cond (not (bytes_eq name (string_bytes e.0))) (1 + n) 0) (prefix-is es)

  size-is : (es : List (String Z × A)) → length (keys_of es) ≡ length (names_in (as_bytes es))
  size-is [] = refl
  size-is (e ∷ es) = ap (λ n. suc n) (size-is es)

  pub position-is : (es : List (String Z × A)) → position (λ k. bytes_eq name (string_bytes k)) (keys_of es) ≡ position (λ k. bytes_eq name k) (names_in (as_bytes es))
  position-is es =
      ap (λ n. cond (nat_lt n (length (keys_of es))) (Some n) None) (prefix-is es)
      ∙ ap (λ m. cond (nat_lt (position_or_len (λ k. bytes_eq name k) (names_in (as_bytes es))) m) (Some (position_or_len (λ k. bytes_eq name k) (names_in (as_bytes es)))) None) (size-is es)

module _ {A Z : Type 0} where
  pub name-at : (es : List (String Z × A)) (i : ℕ) → slice_get (names_in (as_bytes es)) i ≡ option_map (λ e. string_bytes e.0) (slice_get es i)
  name-at [] i = refl
  name-at (e ∷ es) zero = refl
  name-at (e ∷ es) (suc i) = name-at es i

  pub names-are : (es : List (String Z × A)) → names_in (as_bytes es) ≡ map (λ e. string_bytes e.0) es
  names-are [] = refl
  names-are (e ∷ es) = ap (λ r. string_bytes e.0 ∷ r) (names-are es)

pub apart-left : (xs ys : List (List ℕ)) → AreApart (xs ++ ys) → AreApart xs
apart-left [] ys apart = tt
apart-left (x ∷ xs) ys apart = (new-left x xs apart.0, apart-left xs ys apart.1)
  where
    new-left : (x : List ℕ) (xs : List (List ℕ)) → IsNew x (xs ++ ys) → IsNew x xs
    new-left x [] new = tt
    new-left x (z ∷ zs) new = (new.0, new-left x zs new.1)

pub apart-right : (xs ys : List (List ℕ)) → AreApart (xs ++ ys) → AreApart ys
apart-right [] ys apart = apart
apart-right (x ∷ xs) ys apart = apart-right xs ys apart.1

module _ {Z : Type 0} where
  abbrev pub as_pair : String Z × ℕ × Option ℕ → String Z × (ℕ × Option ℕ)
  as_pair l = (l.0, (l.1, l.2))

  -- the names of labels, each with its place as a pair
  pub pair-names : (ls : List (String Z × ℕ × Option ℕ)) → map (λ p. string_bytes p.0) (map as_pair ls) ≡ map (λ l. string_bytes l.0) ls
  pair-names [] = refl
  pair-names (l ∷ ls) = ap (λ r. string_bytes l.0 ∷ r) (pair-names ls)

  pub pair-bytes : (ls : List (String Z × ℕ × Option ℕ)) → as_bytes (map as_pair ls) ≡ map (λ l. (string_bytes l.0, (l.1, l.2))) ls
  pair-bytes [] = refl
  pair-bytes (l ∷ ls) = ap (λ r. (string_bytes l.0, (l.1, l.2)) ∷ r) (pair-bytes ls)

  pub new-labels : (ls : List (String Z × ℕ × Option ℕ)) (le : List (String Z × (ℕ × Option ℕ))) → le ≡ map as_pair ls
      → as_bytes le ≡ map (λ l. (string_bytes l.0, (l.1, l.2))) ls
  new-labels ls le is = ap as_bytes is ∙ pair-bytes ls

  pub new-apart : (vs : List (List ℕ)) (ls : List (String Z × ℕ × Option ℕ)) (le : List (String Z × (ℕ × Option ℕ))) → le ≡ map as_pair ls
      → AreApart (vs ++ map (λ l. string_bytes l.0) ls) → AreApart (map (λ p. string_bytes p.0) le)
  new-apart vs ls le is apart = subst AreApart (sym (ap (map (λ p. string_bytes p.0)) is ∙ pair-names ls)) (apart-right vs (map (λ l. string_bytes l.0) ls) apart)

  -- what the new table keeps
  pub new-keeps : (vs ve : List (String Z × Bool)) (ls : List (String Z × ℕ × Option ℕ)) (pairs le : List (String Z × (ℕ × Option ℕ))) → ve ≡ vs → le ≡ pairs → pairs ≡ map as_pair ls
      → AreApart (map (λ v. string_bytes v.0) vs ++ map (λ l. string_bytes l.0) ls) → length vs < 2 ^ 32
      → AreApart (names_in (as_bytes ve) ++ names_in (as_bytes le)) × (length (as_bytes ve) < 2 ^ 32)
  new-keeps vs ve ls pairs le va la pa apart few =
      let first = ap (λ es. names_in (as_bytes es)) va ∙ names-are vs in
      let second = ap (λ es. names_in (as_bytes es)) (la ∙ pa) ∙ names-are (map as_pair ls) ∙ pair-names ls in
      let size = ap (λ es. length (as_bytes es)) va ∙ length-map vs (λ x. (string_bytes x.0, x.1)) in
      (subst AreApart (sym (ap (λ xs. xs ++ names_in (as_bytes le)) first ∙ ap (λ ys. map (λ v. string_bytes v.0) vs ++ ys) second)) apart, subst (λ n. n < 2 ^ 32) (sym size) few)

-- what is left of a list at a place that it has, and past its end
pub drop-at : {X : Type 0} (xs : List X) (i : ℕ) (x : X) → Some x ≡ slice_get xs i → drop i xs ≡ x ∷ drop (i + 1) xs
drop-at xs i x here = drop_more xs i x (slice_get_within xs i x (sym here)) ∙ ap (λ y. y ∷ drop (i + 1) xs) (get_or_from_slice_get xs i x x (sym here))

pub drop-past : {X : Type 0} (xs : List X) (i : ℕ) → None ≡ slice_get xs i → drop i xs ≡ []
drop-past [] i past = drop-nil i
drop-past (x ∷ xs) zero past = absurd (none-some x past)
drop-past (x ∷ xs) (suc i) past = drop-past xs i past

-- a search among labels, at the next one and at the end: F is what is found among those that are left
module _ {Y X : Type 0} (F : List X → Option Y) where
  pub at-hit : (es : List X) (i : ℕ) (e : X) (y : Y) → Some e ≡ slice_get es i → F (e ∷ drop (i + 1) es) ≡ Some y → F (drop i es) ≡ Some y
  at-hit es i e y here found = ap F (drop-at es i e here) ∙ found

  pub at-miss : (es : List X) (i : ℕ) (e : X) → Some e ≡ slice_get es i → F (e ∷ drop (i + 1) es) ≡ F (drop (i + 1) es) → F (drop (i + 1) es) ≡ F (drop i es)
  at-miss es i e here missed = sym (ap F (drop-at es i e here) ∙ missed)

  pub at-end : (es : List X) (i : ℕ) → None ≡ slice_get es i → F [] ≡ None → None ≡ F (drop i es)
  at-end es i past nothing = sym (ap F (drop-past es i past) ∙ nothing)

pub differs : (a b : ℕ) → (a ≡ b → ⊥) → nat_eq a b ≡ false
differs a b other = elim (eqb_tells a b) [ inl p ↦ absurd (other p.1) | inr q ↦ q.0 ]

module _ {Z : Type 0} where
  abbrev pub by_location : ℕ → List (String Z × (ℕ × Option ℕ)) → Option (List ℕ)
  by_location loc es = label_of loc (as_bytes es)

  abbrev pub by_occurrence : ℕ → List (String Z × (ℕ × Option ℕ)) → Option (List ℕ)
  by_occurrence occ es = statement_label occ (as_bytes es)

  pub location-next : (loc : ℕ) (e : String Z × (ℕ × Option ℕ)) (es : List (String Z × (ℕ × Option ℕ))) (b : Bool) → nat_eq e.1.0 loc ≡ b
      → by_location loc (e ∷ es) ≡ (if b then Some (string_bytes e.0) else by_location loc es)
  location-next loc e es b is = ap (λ b. if b then Some (string_bytes e.0) else by_location loc es) is

  pub occurrence-next : (occ : ℕ) (e : String Z × (ℕ × Option ℕ)) (es : List (String Z × (ℕ × Option ℕ))) (b : Bool) → is_occurrence occ e.1.1 ≡ b
      → by_occurrence occ (e ∷ es) ≡ (if b then Some (string_bytes e.0) else by_occurrence occ es)
  occurrence-next occ e es b is = ap (λ b. if b then Some (string_bytes e.0) else by_occurrence occ es) is
