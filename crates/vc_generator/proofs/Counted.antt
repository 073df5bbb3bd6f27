-- The modes of each transition are numbered by 32 bits.
use Rattle.std.proofs.Common.{◌≡◌, sym, subst, arith, ℕ, zero, suc, ◌-◌, ◌^◌, ◌<◌, List, [], ◌∷◌, length, map, get_or}
use Rattle.std.proofs.lemmas.List.{length-map}
use Rattle.transition_system.specs.Plain.{plain_mode, plain_transition}
use Rattle.transition_system.specs.declared.transitions.Transition.{Transition}
use Rattle.transition_system.specs.Systems.{FewModes}

pub few-at : (xs : List Transition) (i : ℕ) (x d : Transition) → i < length xs → x ≡ get_or xs i d → FewModes (map plain_transition xs) → length x.modes.items < 2 ^ 32 - 1
few-at [] i x d below is few = absurd (omega arith)
few-at (y ∷ ys) zero x d below is few =
    let same : x ≡ y = is in
    subst (λ z. length z.modes.items < 2 ^ 32 - 1) (sym same) (subst (λ n. n < 2 ^ 32 - 1) (length-map y.modes.items plain_mode) few.0)
few-at (y ∷ ys) (suc i) x d below is few = few-at ys i x d (omega arith) is few.1
