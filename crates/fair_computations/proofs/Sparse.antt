-- A run on which as many consecutive rounds as are wanted begin at position 0, and which is not fair.
--
-- Its one name is compassionate. It is taken at position 0 and never again, and enabled again and again, but the gaps grow:
-- the first round reaches to just behind the n-th position at which it is enabled, and n further ones lie in the gap.
use Rattle.std.proofs.Common.{◌≡◌, ℕ, zero, suc, ◌+◌, ◌≤◌, ◌<◌, inl, inr, [], ◌∷◌, Bool, true, arith, refl, sym, subst, ap, ◌∙◌}
use Rattle.std.specs.Prelude.{◌==◌, slice_get}
use native.Mathlib.Decide.{dec_le}
use Rattle.std.specs.declared.option.Option.TheVariants.{Some}
use Rattle.basic_laws.proofs.Numbers.{is_zero, same-test}
use Rattle.basic_laws.proofs.Types.{some_same}
use Rattle.observations.specs.declared.Fairness.TheVariants.{Just, Compassionate}
use Rattle.observations.specs.Observation.{IsJust, IsCompassionate}
use Rattle.fair_computations.specs.Computations.{Computation, EnabledAt, TakenAt}
use Rattle.fair_computations.specs.Fair.{IsFairByTheBooks, IsFairClassically}
use Rattle.fair_computations.specs.Endless.{RoundsAlong}
use Rattle.fair_computations.proofs.Beginnings.{Pays, PaysOften, seen_rounds}

-- how many steps are left in a gap, k steps on; behind it comes a longer one
abbrev left_after : ℕ → ℕ → ℕ → ℕ
left_after gap left zero = left
left_after gap zero (suc k) = left_after (suc gap) (suc gap) k
left_after gap (suc left) (suc k) = left_after gap left k

run_down : (gap left k : ℕ) → left_after gap left (left + k) ≡ left_after gap 0 k
run_down gap zero k = ap (left_after gap 0) (let e : 0 + k ≡ k = omega arith in e)
run_down gap (suc left) k = ap (left_after gap (suc left)) (let e : suc left + k ≡ suc (left + k) = omega arith in e) ∙ run_down gap left k

still_left : (gap left k : ℕ) → k < left → 0 < left_after gap left k
still_left gap zero k h = absurd (omega arith)
still_left gap (suc left) zero h = omega arith
still_left gap (suc left) (suc k) h = still_left gap left k (omega arith)

-- the ends of the gaps
abbrev end : ℕ → ℕ
end zero = 0
end (suc n) = end n + suc (suc n)

at_end : (n k : ℕ) → left_after 0 0 (end n + k) ≡ left_after n 0 k
at_end zero k = ap (left_after 0 0) (let e : 0 + k ≡ k = omega arith in e)
at_end (suc n) k =
    ap (left_after 0 0) (let e : end n + suc (suc n) + k ≡ end n + suc (suc n + k) = omega arith in e)
    ∙ at_end n (suc (suc n + k))
    ∙ run_down (suc n) (suc n) k

end_up : (n : ℕ) → n ≤ end n
end_up zero = omega arith
end_up (suc n) = let rest = end_up n in omega arith

abbrev first_only : ℕ → ℕ
first_only zero = 0
first_only (suc k) = 1

abbrev sparse : Computation Bool
sparse = record {
  fairness = Compassionate ∷ [];
  state = λ k. true;
  enabled = λ k. (left_after 0 0 k == 0) ∷ [];
  name = first_only;
}

only_name : (name : ℕ) → IsCompassionate sparse.fairness name → name ≡ 0
only_name zero is = refl
only_name (suc name) is = absurd (none name is)
  where
    none : (name : ℕ) → slice_get [] name ≡ Some Compassionate → ⊥
    none name e = cc

only_just : (name : ℕ) → IsJust sparse.fairness name → name ≡ 0
only_just zero is = refl
only_just (suc name) (inl is) = absurd (none name is)
  where
    none : (name : ℕ) → slice_get [] name ≡ Some Just → ⊥
    none name e = cc
only_just (suc name) (inr is) = only_name (suc name) is

on_at_end : (n : ℕ) → EnabledAt sparse 0 (end n)
on_at_end n =
    let e : left_after 0 0 (end n) ≡ 0 = ap (left_after 0 0) (let same : end n ≡ end n + 0 = omega arith in same) ∙ at_end n 0 in
    ap Some (same-test (left_after 0 0 (end n)) 0 e)

-- behind the n-th end come n + 1 positions at which the name is disabled
off_behind : (n j : ℕ) → j ≤ n → ¬ (EnabledAt sparse 0 (end n + suc j))
off_behind n j h = λ on.
    let left : 0 < left_after (suc n) (suc n) j = still_left (suc n) (suc n) j (omega arith) in
    let more : 0 < left_after 0 0 (end n + suc j) = subst (λ z. 0 < z) (sym (at_end n (suc j))) left in
    let none = is_zero (left_after 0 0 (end n + suc j)) (some_same (left_after 0 0 (end n + suc j) == 0) true on) in
    absurd (omega arith)

off_both : (n j m : ℕ) → suc j ≤ n → end n + suc j ≤ m → m ≤ end n + suc (suc j) → ¬ (EnabledAt sparse 0 m)
off_both n j m h from to = elim (dec_le m (end n + suc j)) [
  | yes le ↦ (let e : end n + suc j ≡ m = omega arith in subst (λ z. ¬ (EnabledAt sparse 0 z)) e (off_behind n j (omega arith)))
  | no gt ↦ (let e : end n + suc (suc j) ≡ m = omega arith in subst (λ z. ¬ (EnabledAt sparse 0 z)) e (off_behind n (suc j) h))
]

-- one step within a gap is a round
within : (n j : ℕ) → suc j ≤ n → Pays sparse (end n + suc j) (end n + suc (suc j))
within n j h = record {
  ahead = omega arith;
  just = λ name is. inr (end n + suc j, omega arith, omega arith, subst (λ x. ¬ (EnabledAt sparse x (end n + suc j))) (sym (only_just name is)) (off_behind n j (omega arith)));
  compassionate = λ name is. inr (λ m from to. subst (λ x. ¬ (EnabledAt sparse x m)) (sym (only_name name is)) (off_both n j m h from to));
}

steps_within : (n r j : ℕ) → j + r ≤ n → PaysOften sparse r (end n + suc j) (end n + suc (j + r))
steps_within n zero j h = let e : end n + suc j ≡ end n + suc (j + 0) = omega arith in e
steps_within n (suc r) j h = (
  end n + suc (suc j),
  within n j (omega arith),
  subst (λ z. PaysOften sparse r (end n + suc (suc j)) z) (let e : end n + suc (suc j + r) ≡ end n + suc (j + suc r) = omega arith in e) (steps_within n r (suc j) (omega arith)),
)

-- from position 0, at which the name is taken, to just behind an end is a round
first_round : (l : ℕ) → 0 < l → Pays sparse 0 l
first_round l h = record {
  ahead = h;
  just = λ name is. inl (0, omega arith, h, sym (only_just name is));
  compassionate = λ name is. inl (0, omega arith, h, sym (only_name name is));
}

pub many : (n : ℕ) → (l : ℕ) × RoundsAlong sparse n 0 l
many zero = (0, refl)
many (suc n) =
    let l : ℕ = end n + suc (0 + n) in
    (l, seen_rounds sparse l (suc n) 0 l (omega arith) (end n + suc 0, first_round (end n + suc 0) (omega arith), steps_within n n 0 (omega arith)))

never_again : (m : ℕ) → 1 ≤ m → ¬ (TakenAt sparse 0 m)
never_again zero h = absurd (omega arith)
never_again (suc m) h = λ e. cc

pub unfair : ¬ (IsFairByTheBooks sparse)
unfair fair = let taken = fair.compassionate 0 refl (λ k. (end k, end_up k, on_at_end k)) 1 in never_again taken.0 taken.1 taken.2

pub unfair_classically : ¬ (IsFairClassically sparse)
unfair_classically fair = fair.compassionate 0 refl (λ k never. never (end k) (end_up k) (on_at_end k)) 1 never_again

abbrev pub IsNotEnough : Type 0
IsNotEnough = (c : Computation Bool) × ((n : ℕ) → (l : ℕ) × RoundsAlong c n 0 l) × ¬ (IsFairByTheBooks c) × ¬ (IsFairClassically c)

pub not_enough : IsNotEnough
not_enough = (sparse, many, unfair, unfair_classically)
