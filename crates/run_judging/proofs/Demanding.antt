-- Demands: what one more of them asks.
use Rattle.std.proofs.Common.{◌≡◌, ℕ, ◌≤◌, ◌<◌, ◌⊎◌, inl, inr, List, length, slice_index, slice_set, arith, get_or-set_same, get_or-set_other, subst, sym}
use Rattle.std.proofs.lemmas.Bool.{cases_lt}
use Rattle.std.specs.Prelude.{slice_get}
use Rattle.std.specs.declared.option.Option.TheVariants.{Some}
use Rattle.observations.specs.declared.Fairness.{Fairness}
use Rattle.run_judging.specs.declared.ahead.Ahead.{Ahead}
use Rattle.run_judging.specs.Paying.{Meets, Pays}

-- a new demand stands where a smaller one stood
pub demand-more : (ds : List ℕ) (from until : ℕ) → from < length ds → slice_index ds from < until → (l : ℕ) → Meets (slice_set ds from until) l → Meets ds l × (from ≤ l → until ≤ l)
demand-more ds from until inside below l h =
    let new : slice_index (slice_set ds from until) from ≡ until = get_or-set_same ds from until 0 inside in (
      record {
        met = λ e le. elim (cases_lt e from) [
          | inl less ↦ subst (λ x. x ≤ l) (get_or-set_other ds from e until 0 (λ same. omega (arith, same))) (h.met e le)
          | inr more ↦ elim (cases_lt from e) [
            | inl less ↦ subst (λ x. x ≤ l) (get_or-set_other ds from e until 0 (λ same. omega (arith, same))) (h.met e le)
            | inr same ↦ (let now = h.met from (omega arith) in let is : e ≡ from = omega arith in subst (λ x. slice_index ds x ≤ l) (sym is) (omega arith))
          ]
        ];
      },
      λ le. (let now = h.met from le in omega arith),
    )

pub demand-less : (ds : List ℕ) (from until : ℕ) → from < length ds → (l : ℕ) → Meets ds l → (from ≤ l → until ≤ l) → Meets (slice_set ds from until) l
demand-less ds from until inside l h asked =
    record {
      met = λ e le. elim (cases_lt e from) [
        | inl less ↦ subst (λ x. x ≤ l) (sym (get_or-set_other ds from e until 0 (λ same. omega (arith, same)))) (h.met e le)
        | inr more ↦ elim (cases_lt from e) [
          | inl less ↦ subst (λ x. x ≤ l) (sym (get_or-set_other ds from e until 0 (λ same. omega (arith, same)))) (h.met e le)
          | inr same ↦ (
              let is : from ≡ e = omega arith in
              let new : slice_index (slice_set ds from until) from ≡ until = get_or-set_same ds from until 0 inside in
              let now = asked (omega arith) in
              subst (λ x. slice_index (slice_set ds from until) x ≤ l) is (omega arith)
              )
        ]
      ];
    }

-- the first of the names are paid
pub record PaysBelow (fairness : List Fairness) (aheads : List Ahead) (names l : ℕ) : Type 0 where
  pub each : (name : ℕ) (f : Fairness) (a : Ahead) → name < names → slice_get fairness name ≡ Some f → slice_get aheads name ≡ Some a → Pays f a l

-- the greatest of the demands that are made below a position
pub record IsOwed (ds : List ℕ) (end owed : ℕ) : Type 0 where
  pub reached : (owed ≡ 0) ⊎ ((e : ℕ) × (e < end) × (slice_index ds e ≡ owed))
  pub above : (e : ℕ) → e < end → slice_index ds e ≤ owed
