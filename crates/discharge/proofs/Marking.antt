-- Marks of conditions that are decided valid.
use Rattle.std.proofs.Common.{◌≡◌, ◌∙◌, ℕ, zero, suc, ◌+◌, ◌<◌, ◌≤◌, ◌⊎◌, inl, inr, Bool, true, false, List, [], ◌∷◌, length, replicate, refl, ap, sym, subst, arith, get_or}
use Rattle.std.specs.Prelude.{Option, Some, None, IfSome, slice_get}
use Rattle.std.proofs.Math.ListN.{set}
use Rattle.std.proofs.lemmas.List.{length-set, length-replicate}
use Rattle.std.proofs.lemmas.Option.{slice_get-get_or}
use Rattle.st_form.specs.Shared.{given_of, shown_of}
use Rattle.st_form.specs.declared.conditions.Condition.{Condition}
use Rattle.farkas_check.specs.Problem.{Setting}
use Rattle.search_verdicts.specs.declared.verdict.Verdict.{Verdict}
use Rattle.discharge.specs.declared.marks.Undecided.{Undecided}
use Rattle.discharge.specs.Marked.{AreMarks, IsUndecided, IsFirstUndecided}
use Rattle.linear_prover.specs.Verdicts.{IsUnlessValid}
use Rattle.discharge.specs.Searched.{mark, ValidBefore}
use Rattle.search_laws.specs.Searchable.{IsSearchable, AreSearchable}
use Rattle.discharge.proofs.Numbers.{below-or-from}

some-same : {A : Type 0} (x y : A) → Some x ≡ Some y → x ≡ y
some-same x y e = cc

-- each condition is one that may be searched
pub searchable_at : (n : ℕ) (cs : List Condition) (i : ℕ) (c : Condition) → AreSearchable n cs → slice_get cs i ≡ Some c → IsSearchable n c
searchable_at n [] i c all at = absurd (cc)
searchable_at n (d ∷ cs) zero c all at = subst (IsSearchable n) (some-same d c at) all.0
searchable_at n (d ∷ cs) (suc i) c all at = searchable_at n cs i c all.1 at

-- ---- marks
set_from : (bs : List Bool) (i j : ℕ) (y b : Bool) → slice_get (set bs i y) j ≡ Some b → (j ≡ i) ⊎ (slice_get bs j ≡ Some b)
set_from [] i j y b e = inr e
set_from (x ∷ bs) zero zero y b e = inl refl
set_from (x ∷ bs) zero (suc j) y b e = inr e
set_from (x ∷ bs) (suc i) zero y b e = inr e
set_from (x ∷ bs) (suc i) (suc j) y b e = elim (set_from bs i j y b e) [ inl s ↦ inl (ap suc s) | inr h ↦ inr h ]

none_true : (n i : ℕ) → slice_get (replicate n false) i ≡ Some true → ⊥
none_true zero i e = absurd (cc)
none_true (suc n) zero e = absurd (cc)
none_true (suc n) (suc i) e = none_true n i e

module _ (k : Setting) (cs : List Condition) where
  pub no_marks : (found : List Bool) → found ≡ replicate (length cs) false → AreMarks k cs found
  no_marks found e = record {
    each = ap length e ∙ length-replicate (length cs) false;
    valid = λ i c at m. absurd (none_true (length cs) i (subst (λ (l : List Bool). slice_get l i ≡ Some true) e m));
  }

  pub marked : (found : List Bool) (i : ℕ) (c : Condition) → slice_get cs i ≡ Some c → mark k c ≡ true → AreMarks k cs found → AreMarks k cs (set found i true)
  marked found i c at e h = record {
    each = length-set found i true ∙ h.each;
    valid = λ j d there m.
        elim (set_from found i j true true m) [
          | inl s ↦ ap (mark k) (some-same d c (sym there ∙ subst (λ (n : ℕ). slice_get cs n ≡ Some c) (sym s) at)) ∙ e
          | inr o ↦ h.valid j d there o
        ];
  }

  pub taken_over : (found others now : List Bool) → length now ≡ length found → ((i : ℕ) → slice_get now i ≡ Some true → (slice_get found i ≡ Some true) ⊎ (slice_get others i ≡ Some true))
      → AreMarks k cs found → AreMarks k cs others → AreMarks k cs now
  taken_over found others now same from h g = record {
    each = same ∙ h.each;
    valid = λ i c at m. elim (from i m) [ inl o ↦ h.valid i c at o | inr o ↦ g.valid i c at o ];
  }

  -- ---- the first that is open
  pub none_before : ValidBefore k cs 0
  none_before i c below at = absurd (omega (arith, below))

  pub before_next : (i : ℕ) → ((c : Condition) → slice_get cs i ≡ Some c → mark k c ≡ true) → ValidBefore k cs i → ValidBefore k cs (i + 1)
  before_next i e h j d below there = by (below-or-from j i) where
    by : (j < i) ⊎ (i ≤ j) → mark k d ≡ true
    by (inl l) = h j d l there
    by (inr l) = let same : j ≡ i = omega (arith, below, l) in e d (subst (λ (n : ℕ). slice_get cs n ≡ Some d) same there)

  -- the condition there is decided valid by the search, or by its mark
  pub by_search : (i : ℕ) (c d : Condition) → slice_get cs i ≡ Some c → mark k c ≡ true → slice_get cs i ≡ Some d → mark k d ≡ true
  by_search i c d at e there = ap (mark k) (some-same d c (sym there ∙ at)) ∙ e

  pub by_mark : (found : List Bool) (i : ℕ) (d : Condition) → i < length cs → AreMarks k cs found → get_or found i false ≡ true → slice_get cs i ≡ Some d → mark k d ≡ true
  by_mark found i d below h m there = h.valid i d there (slice_get-get_or found i false (omega (arith, below, h.each)) ∙ ap Some m)

-- another worker's marks, up to a place
pub set_other : (found others now : List Bool) (i : ℕ) → slice_get others i ≡ Some true
    → ((j : ℕ) → slice_get now j ≡ Some true → (slice_get found j ≡ Some true) ⊎ (slice_get others j ≡ Some true))
    → (j : ℕ) → slice_get (set now i true) j ≡ Some true → (slice_get found j ≡ Some true) ⊎ (slice_get others j ≡ Some true)
set_other found others now i at h j m = elim (set_from now i j true true m) [ inl s ↦ inr (subst (λ (n : ℕ). slice_get others n ≡ Some true) (sym s) at) | inr o ↦ h j o ]

-- the answer to the condition at a place
pub undecided_at : (k : Setting) (cs : List Condition) (i : ℕ) (c : Condition) (v : Verdict) → slice_get cs i ≡ Some c → IsUnlessValid k (given_of c) (shown_of c) (Some v)
    → IsUndecided k cs (record { place = i; verdict = v })
undecided_at k cs i c v at told = record {
  at = record { condition = c; there = at; left = told.0 };
  answer = record { exact = told.1; right = told.2 };
}

-- where what isn't marked before the one that is told, or before the end, is valid, it is the first
abbrev pub end_of : List Condition → Option Undecided → ℕ
end_of cs None = length cs
end_of cs (Some u) = u.place

pub first_of : (k : Setting) (cs : List Condition) (o : Option Undecided) (end : ℕ) → IfSome o (IsUndecided k cs) → ValidBefore k cs end → end ≡ end_of cs o → IsFirstUndecided k cs o
first_of k cs None end h before e = (subst (ValidBefore k cs) e before, tt)
first_of k cs (Some u) end h before e = ((subst (ValidBefore k cs) e before, h.at), h)
