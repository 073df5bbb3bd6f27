-- What the places of the line feeds say.
use Rattle.std.proofs.Common.{◌≡◌, ℕ, zero, suc, ◌+◌, ◌-◌, ◌<◌, ◌≤◌, Bool, true, false, nat_lt, List, [], ◌∷◌, ◌++◌, take, drop, length, get_or, refl, sym, ap, subst, ◌∙◌, arith, inl, inr}
use Rattle.std.proofs.lemmas.Bool.{cases_Bool, lt-ltb, le-ltb, ltb-true}
use Rattle.std.proofs.Math.Seq.{drop-length}
use Rattle.std.proofs.lemmas.List.Sums.{prefix_len_is}
use Rattle.std.specs.List.Sorted.{IsPartitionedBy, IsPartitionPoint}
use Rattle.std.specs.List.{prefix_len}
use Rattle.source_lines.specs.Lines.{is_feed, feeds_from, feeds, behind_feeds}

pub length_feeds : (n : ℕ) (bs : List ℕ) → length (feeds_from n bs) ≡ feeds bs
length_feeds n [] = refl
length_feeds n (b ∷ bs) = elim (cases_Bool (is_feed b)) [
  | inl e ↦ rw e (ap suc (length_feeds (n + 1) bs))
  | inr e ↦ rw e (length_feeds (n + 1) bs)
]

-- each place is at or behind that of the first byte
pub feeds_above : (n : ℕ) (bs : List ℕ) (k d : ℕ) → k < length (feeds_from n bs) → n ≤ get_or (feeds_from n bs) k d
feeds_above n [] k d = λ h. absurd (omega arith)
feeds_above n (b ∷ bs) zero d = elim (cases_Bool (is_feed b)) [
  | inl e ↦ rw e (λ h. omega arith)
  | inr e ↦ rw e (λ h. omega (arith, feeds_above (n + 1) bs zero d h))
]
feeds_above n (b ∷ bs) (suc k) d = elim (cases_Bool (is_feed b)) [
  | inl e ↦ rw e (λ h. omega (arith, feeds_above (n + 1) bs k d (omega arith)))
  | inr e ↦ rw e (λ h. omega (arith, feeds_above (n + 1) bs (suc k) d h))
]

-- and before the end
pub feeds_below : (n : ℕ) (bs : List ℕ) (k d : ℕ) → k < length (feeds_from n bs) → get_or (feeds_from n bs) k d < n + length bs
feeds_below n [] k d = λ h. absurd (omega arith)
feeds_below n (b ∷ bs) zero d = elim (cases_Bool (is_feed b)) [
  | inl e ↦ rw e (λ h. omega arith)
  | inr e ↦ rw e (λ h. omega (arith, feeds_below (n + 1) bs zero d h))
]
feeds_below n (b ∷ bs) (suc k) d = elim (cases_Bool (is_feed b)) [
  | inl e ↦ rw e (λ h. omega (arith, feeds_below (n + 1) bs k d (omega arith)))
  | inr e ↦ rw e (λ h. omega (arith, feeds_below (n + 1) bs (suc k) d h))
]

-- the places rise
pub feeds_rise : (n : ℕ) (bs : List ℕ) (i j d : ℕ) → i ≤ j → j < length (feeds_from n bs) → get_or (feeds_from n bs) i d ≤ get_or (feeds_from n bs) j d
feeds_rise n [] i j d = λ le h. absurd (omega arith)
feeds_rise n (b ∷ bs) zero zero d = λ le h. omega arith
feeds_rise n (b ∷ bs) (suc i) zero d = λ le h. absurd (omega arith)
feeds_rise n (b ∷ bs) zero (suc j) d = elim (cases_Bool (is_feed b)) [
  | inl e ↦ rw e (λ le h. omega (arith, feeds_above (n + 1) bs j d (omega arith)))
  | inr e ↦ rw e (λ le h. feeds_rise (n + 1) bs zero (suc j) d le h)
]
feeds_rise n (b ∷ bs) (suc i) (suc j) d = elim (cases_Bool (is_feed b)) [
  | inl e ↦ rw e (λ le h. feeds_rise (n + 1) bs i j d (omega arith) (omega arith))
  | inr e ↦ rw e (λ le h. feeds_rise (n + 1) bs (suc i) (suc j) d le h)
]

none_before : (p n : ℕ) (bs : List ℕ) → p ≤ n → prefix_len (λ f. nat_lt f p) (feeds_from n bs) ≡ 0
none_before p n [] h = refl
none_before p n (b ∷ bs) h = elim (cases_Bool (is_feed b)) [
  | inl e ↦ rw e (rw (le-ltb n p h) refl)
  | inr e ↦ rw e (none_before p (n + 1) bs (omega arith))
]

-- as many of them are below a place as there are line feeds before it
pub feeds_counted : (p n q : ℕ) (bs : List ℕ) → p ≡ n + q → prefix_len (λ f. nat_lt f p) (feeds_from n bs) ≡ feeds (take q bs)
feeds_counted p n zero bs h = none_before p n bs (omega arith)
feeds_counted p n (suc q) [] h = refl
feeds_counted p n (suc q) (b ∷ bs) h = elim (cases_Bool (is_feed b)) [
  | inl e ↦ rw e (rw (lt-ltb n p (omega arith)) (omega (arith, feeds_counted p (n + 1) q bs (omega arith))))
  | inr e ↦ rw e (feeds_counted p (n + 1) q bs (omega arith))
]

-- behind a line feed stands what stands behind its place
pub behind_at : (n k d m : ℕ) (bs : List ℕ) → k < length (feeds_from n bs) → get_or (feeds_from n bs) k d + 1 ≡ n + m → drop m bs ≡ behind_feeds (suc k) bs
behind_at n k d m [] = λ h at_m. absurd (omega arith)
behind_at n k d zero (b ∷ bs) = λ h at_m. absurd (omega (arith, feeds_above n (b ∷ bs) k d h))
behind_at n zero d (suc m) (b ∷ bs) = elim (cases_Bool (is_feed b)) [
  | inl e ↦ rw e (λ h at_m. let none : m ≡ 0 = omega arith in rw none refl)
  | inr e ↦ rw e (λ h at_m. behind_at (n + 1) zero d m bs h (omega arith))
]
behind_at n (suc k) d (suc m) (b ∷ bs) = elim (cases_Bool (is_feed b)) [
  | inl e ↦ rw e (λ h at_m. behind_at (n + 1) k d m bs (omega arith) (omega arith))
  | inr e ↦ rw e (λ h at_m. behind_at (n + 1) (suc k) d m bs h (omega arith))
]

-- behind more line feeds than there are stands nothing
pub behind_all : (k : ℕ) (bs : List ℕ) → feeds bs ≤ k → behind_feeds (suc k) bs ≡ []
behind_all k [] = λ h. refl
behind_all zero (b ∷ bs) = elim (cases_Bool (is_feed b)) [
  | inl e ↦ rw e (λ h. absurd (omega arith))
  | inr e ↦ rw e (λ h. behind_all zero bs h)
]
behind_all (suc k) (b ∷ bs) = elim (cases_Bool (is_feed b)) [
  | inl e ↦ rw e (λ h. behind_all k bs (omega arith))
  | inr e ↦ rw e (λ h. behind_all (suc k) bs h)
]

-- what stands behind line feeds of the front goes on as the text goes on
pub behind_append : (n : ℕ) (xs ys : List ℕ) → n ≤ feeds xs → behind_feeds n (xs ++ ys) ≡ behind_feeds n xs ++ ys
behind_append zero xs ys = λ h. refl
behind_append (suc n) [] ys = λ h. absurd (omega arith)
behind_append (suc n) (b ∷ bs) ys = elim (cases_Bool (is_feed b)) [
  | inl e ↦ rw e (λ h. behind_append n bs ys (omega arith))
  | inr e ↦ rw e (λ h. behind_append (suc n) bs ys h)
]

pub feeds_behind : (n : ℕ) (xs : List ℕ) → n ≤ feeds xs → feeds (behind_feeds n xs) + n ≡ feeds xs
feeds_behind zero xs = λ h. omega arith
feeds_behind (suc n) [] = λ h. absurd (omega arith)
feeds_behind (suc n) (b ∷ bs) = elim (cases_Bool (is_feed b)) [
  | inl e ↦ rw e (λ h. omega (arith, feeds_behind n bs (omega arith)))
  | inr e ↦ rw e (λ h. feeds_behind (suc n) bs h)
]

module _ (text found : List ℕ) (are : found ≡ feeds_from 0 text) where
  pub counted : length found ≡ feeds text
  counted = ap length are ∙ length_feeds 0 text

  -- the place behind the n-th line feed
  pub begin_at : (n : ℕ) → 0 < n → n ≤ length found → (drop (get_or found (n - 1) 0 + 1) text ≡ behind_feeds n text) × (get_or found (n - 1) 0 + 1 ≤ length text)
  begin_at n some le =
      let h : n - 1 < length (feeds_from 0 text) = subst (λ fs. n - 1 < length fs) are (omega arith) in
      let same : get_or found (n - 1) 0 ≡ get_or (feeds_from 0 text) (n - 1) 0 = ap (λ fs. get_or fs (n - 1) 0) are in
      let up : n ≡ suc (n - 1) = omega arith in
      (behind_at 0 (n - 1) 0 (get_or found (n - 1) 0 + 1) text h (omega (arith, same)) ∙ ap (λ m. behind_feeds m text) (sym up), omega (arith, same, feeds_below 0 text (n - 1) 0 h))

  -- where there are fewer, the end
  pub begin_end : (n : ℕ) → length found < n → drop (length text) text ≡ behind_feeds n text
  begin_end n more =
      let up : n ≡ suc (n - 1) = omega arith in
      drop-length text ∙ sym (behind_all (n - 1) text (omega (arith, counted))) ∙ ap (λ m. behind_feeds m text) (sym up)

  -- the tests of a search by halving are ordered
  pub are_halved : (place : ℕ) → IsPartitionedBy (λ f. nat_lt f place) found
  are_halved place i j d le h before =
      let up : get_or found i d ≤ get_or found j d = subst (λ fs. j < length fs → get_or fs i d ≤ get_or fs j d) (sym are) (feeds_rise 0 text i j d le) h in
      lt-ltb (get_or found i d) place (omega (arith, up, ltb-true (get_or found j d) place before))

  -- what the search finds is how many line feeds stand before the place
  pub point_counts : (place i : ℕ) → i ≤ length found → IsPartitionPoint (λ f. nat_lt f place ≡ true) (λ f. nat_lt f place ≡ false) found i → i ≡ feeds (take place text)
  point_counts place i le point =
      sym (prefix_len_is (λ f. nat_lt f place) found i 0 le (λ k l. point.0 k 0 (omega arith) l) (λ l. point.1 i 0 (omega arith) l)) ∙ ap (prefix_len (λ f. nat_lt f place)) are ∙ feeds_counted place 0 place text (omega arith)
