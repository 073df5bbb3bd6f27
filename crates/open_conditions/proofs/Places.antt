-- The places of what is false, as a list is gone through.
use Rattle.std.proofs.Common.{◌≡◌, ◌∙◌, ℕ, zero, suc, ◌+◌, ◌<◌, ◌≤◌, Bool, true, false, List, [], ◌∷◌, ◌++◌, take, map, length, refl, ap, sym, subst, arith}
use Rattle.std.specs.Prelude.{Option, Some, None, slice_get, if◌then◌else◌}
use Rattle.std.specs.Option.{option_map, option_to_list}
use Rattle.std.proofs.lemmas.Option.{slice_get-map}
use Rattle.std.proofs.lemmas.List.{map-append, append-nil, length-map, take_all}
use Rattle.st_form.specs.declared.conditions.Condition.{Condition}
use Rattle.farkas_check.specs.Problem.{Setting}
use Rattle.discharge.specs.declared.marks.Undecided.{Undecided}
use Rattle.discharge.specs.Marked.{IsUndecided, IsUndecidedAt, place_of}
use Rattle.discharge.specs.Searched.{mark, marks, first_false}
use Rattle.open_conditions.specs.Open.{AreOpen, places_of_false}

-- one more of the list is gone through: its place is added where it is false
next_true : (n i : ℕ) (bs : List Bool) → slice_get bs i ≡ Some true → places_of_false n (take (suc i) bs) ≡ places_of_false n (take i bs)
next_true n i [] e = absurd (cc)
next_true n zero (true ∷ bs) e = refl
next_true n zero (false ∷ bs) e = absurd (cc)
next_true n (suc i) (true ∷ bs) e = next_true (suc n) i bs e
next_true n (suc i) (false ∷ bs) e = ap (λ (l : List ℕ). n ∷ l) (next_true (suc n) i bs e)

next_false : (n i : ℕ) (bs : List Bool) → slice_get bs i ≡ Some false → places_of_false n (take (suc i) bs) ≡ places_of_false n (take i bs) ++ (n + i) ∷ []
next_false n i [] e = absurd (cc)
next_false n zero (true ∷ bs) e = absurd (cc)
next_false n zero (false ∷ bs) e = let same : n ≡ n + 0 = omega arith in ap (λ (m : ℕ). m ∷ []) same
next_false n (suc i) (true ∷ bs) e =
    let same : suc n + i ≡ n + suc i = omega arith in next_false (suc n) i bs e ∙ ap (λ (m : ℕ). places_of_false (suc n) (take i bs) ++ m ∷ []) same
next_false n (suc i) (false ∷ bs) e =
    let same : suc n + i ≡ n + suc i = omega arith in
    ap (λ (l : List ℕ). n ∷ l) (next_false (suc n) i bs e ∙ ap (λ (m : ℕ). places_of_false (suc n) (take i bs) ++ m ∷ []) same)

-- the first place
shift : (n : ℕ) (o : Option ℕ) → option_map (λ m. suc n + m) o ≡ option_map (λ m. n + m) (option_map suc o)
shift n None = refl
shift n (Some m) = let same : suc n + m ≡ n + suc m = omega arith in ap Some same

from_first : (n : ℕ) (bs : List Bool) → slice_get (places_of_false n bs) 0 ≡ option_map (λ m. n + m) (first_false bs)
from_first n [] = refl
from_first n (true ∷ bs) = from_first (suc n) bs ∙ shift n (first_false bs)
from_first n (false ∷ bs) = let same : n ≡ n + 0 = omega arith in ap Some same

same_places : (o : Option ℕ) → option_map (λ m. 0 + m) o ≡ o
same_places None = refl
same_places (Some m) = let same : 0 + m ≡ m = omega arith in ap Some same

pub first_place : (bs : List Bool) → slice_get (places_of_false 0 bs) 0 ≡ first_false bs
first_place bs = from_first 0 bs ∙ same_places (first_false bs)

open_more : (k : Setting) (cs : List Condition) (us : List Undecided) (u : Undecided) → AreOpen k cs us → IsUndecided k cs u → AreOpen k cs (us ++ u ∷ [])
open_more k cs [] u all h = (h, tt)
open_more k cs (v ∷ us) u all h = (all.0, open_more k cs us u all.1 h)

module _ (k : Setting) (cs : List Condition) where
  -- the mark at a place is that of the condition there
  mark_at : (i : ℕ) (c : Condition) → slice_get cs i ≡ Some c → slice_get (marks k cs) i ≡ Some (mark k c)
  mark_at i c at = slice_get-map (mark k) cs i ∙ ap (option_map (mark k)) at

  -- what is found at a place is added
  pub places_more : (i : ℕ) (c : Condition) (us : List Undecided) (found : Option Undecided) → slice_get cs i ≡ Some c → IsUndecidedAt k cs i found
      → map place_of us ≡ places_of_false 0 (take i (marks k cs)) → map place_of (us ++ option_to_list found) ≡ places_of_false 0 (take (suc i) (marks k cs))
  places_more i c us None at none so =
      map-append place_of us [] ∙ append-nil (map place_of us) ∙ so ∙ sym (next_true 0 i (marks k cs) (mark_at i c at ∙ ap Some (none c at)))
  places_more i c us (Some u) at (same, is) so =
      map-append place_of us (u ∷ []) ∙ ap (λ (l : List ℕ). l ++ u.place ∷ []) so ∙ ap (λ (m : ℕ). places_of_false 0 (take i (marks k cs)) ++ m ∷ []) (same ∙ plain)
      ∙ sym (next_false 0 i (marks k cs) (mark_at i c at ∙ ap Some (is_false c at)))
    where
      plain : i ≡ 0 + i
      plain = omega arith

      some_same : (x y : Condition) → Some x ≡ Some y → x ≡ y
      some_same x y e = cc

      is_false : (c : Condition) → slice_get cs i ≡ Some c → mark k c ≡ false
      is_false c at = ap (mark k) (some_same c is.at.condition (sym at ∙ ap (slice_get cs) (sym same) ∙ is.at.there)) ∙ is.at.left

  pub right_more : (i : ℕ) (us : List Undecided) (found : Option Undecided) → IsUndecidedAt k cs i found → AreOpen k cs us → AreOpen k cs (us ++ option_to_list found)
  right_more i us None none all = subst (AreOpen k cs) (sym (append-nil us)) all
  right_more i us (Some u) (same, is) all = open_more k cs us u all is

-- a condition stands at each place
pub there_at : (cs : List Condition) (i : ℕ) → i < length cs → (c : Condition) × (slice_get cs i ≡ Some c)
there_at [] i below = absurd (omega (arith, below))
there_at (c ∷ cs) zero below = (c, refl)
there_at (c ∷ cs) (suc i) below = there_at cs i (omega (arith, below))

module _ (k : Setting) (cs : List Condition) where
  -- a turn of the loop
  pub turn : (i : ℕ) (us vs : List Undecided) (found : Option Undecided) → i < length cs → IsUndecidedAt k cs i found → vs ≡ us ++ option_to_list found
      → map place_of us ≡ places_of_false 0 (take i (marks k cs)) → map place_of vs ≡ places_of_false 0 (take (i + 1) (marks k cs))
  turn i us vs found below exact kept so =
      let at = there_at cs i below in
      let same : suc i ≡ i + 1 = omega arith in
      ap (map place_of) kept ∙ places_more k cs i at.0 us found at.1 exact so ∙ ap (λ (n : ℕ). places_of_false 0 (take n (marks k cs))) same

  -- behind the loop
  pub whole : (i : ℕ) (us : List Undecided) → length cs ≤ i → map place_of us ≡ places_of_false 0 (take i (marks k cs)) → map place_of us ≡ places_of_false 0 (marks k cs)
  whole i us past so =
      let long : length (marks k cs) ≤ i = omega (arith, past, length-map cs (mark k)) in
      so ∙ ap (places_of_false 0) (take_all i (marks k cs) long)

  pub first_is : (us : List Undecided) → map place_of us ≡ places_of_false 0 (marks k cs) → option_map place_of (slice_get us 0) ≡ first_false (marks k cs)
  first_is us all = sym (slice_get-map place_of us 0) ∙ ap (λ (l : List ℕ). slice_get l 0) all ∙ first_place (marks k cs)
