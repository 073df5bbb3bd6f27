-- Names for the steps of a computation, where a step may be one of several names, and how one of them is changed.
use Rattle.std.proofs.Common.{◌≡◌, ℕ, ◌≤◌, ◌<◌, ◌⊎◌, inl, inr, arith, refl, sym, subst, ap, ◌∙◌}
use Rattle.std.specs.Prelude.{◌==◌, if◌then◌else◌}
use Rattle.observations.proofs.Queue.{true_or_false}
use Rattle.basic_laws.proofs.Numbers.{same_test, test_same, other-test}
use Rattle.fair_computations.specs.Computations.{Computation, EnabledAt}
use Rattle.fair_computations.specs.Fair.{Always}
use Rattle.fair_computations.proofs.Beginnings.{TakenIn}

-- the step from position k may be one of the name: May name k
module _ {S : Type 0} (c : Computation S) (May : ℕ → ℕ → Type 0) where
  -- a name for each step
  pub record Naming : Type 0 where
    pub name : ℕ → ℕ
    pub may : (k : ℕ) → May (name k) k

  -- the computation with these names of its steps
  abbrev pub renamed : Naming → Computation S
  renamed v = record { fairness = c.fairness; state = c.state; enabled = c.enabled; name = v.name }

  abbrev pub Never : ℕ → ℕ → Type 0
  Never name K = Always (λ m. ¬ (EnabledAt c name m)) K

  abbrev pub MayOrNot : ℕ → ℕ → Type 0
  MayOrNot name k = May name k ⊎ ¬ (EnabledAt c name k)

  -- the same names for the steps below a position
  abbrev pub Agree : Naming → Naming → ℕ → Type 0
  Agree v w l = (j : ℕ) → j < l → v.name j ≡ w.name j

  pub agree_trans : (v w u : Naming) (k l : ℕ) → k ≤ l → Agree v w k → Agree w u l → Agree v u k
  agree_trans v w u k l h a b j below = a j below ∙ b j (omega arith)

  -- another name for the step from position m
  abbrev name_by : Naming → ℕ → ℕ → ℕ → ℕ
  name_by v m x k = if k == m then x else v.name k

  name_here : (v : Naming) (m x : ℕ) → name_by v m x m ≡ x
  name_here v m x = rw (same_test m) refl

  name_before : (v : Naming) (m x k : ℕ) → k < m → v.name k ≡ name_by v m x k
  name_before v m x k h = rw (other-test k m (λ same. let below = h in omega arith)) refl

  pub changed : (v : Naming) (m x : ℕ) → May x m → Naming
  changed v m x may = record {
    name = name_by v m x;
    may = λ k. elim (true_or_false (k == m)) [
      | inl here ↦ rw here (subst (May x) (sym (test_same k m here)) may)
      | inr elsewhere ↦ rw elsewhere (v.may k)
    ];
  }

  changed_name : (v : Naming) (m x : ℕ) (may : May x m) → (changed v m x may).name ≡ name_by v m x
  unfolding changed
  changed_name v m x may = refl

  pub changed_here : (v : Naming) (m x : ℕ) (may : May x m) → (changed v m x may).name m ≡ x
  changed_here v m x may = ap (λ f. f m) (changed_name v m x may) ∙ name_here v m x

  pub changed_before : (v : Naming) (m x l : ℕ) (may : May x m) → l ≤ m → Agree v (changed v m x may) l
  changed_before v m x l may h j below = name_before v m x j (omega arith) ∙ sym (ap (λ f. f j) (changed_name v m x may))

  pub same_taken : (v w : Naming) (name k l j : ℕ) → l ≤ j → Agree v w l → TakenIn (renamed v) name k l → TakenIn (renamed w) name k j
  same_taken v w name k l j h agree t = (t.0, t.1, (let lt = t.2 in omega arith), sym (agree t.0 t.2) ∙ t.3)
