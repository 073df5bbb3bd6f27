-- What the loops do in one round.
use Rattle.std.proofs.Common.{◌≡◌, ℕ, zero, suc, ◌+◌, ◌-◌, ◌<◌, List, [], ◌∷◌, ◌++◌, length, drop, get_or, map, ap, ◌∙◌, sym, subst, arith, ℤ}
use Rattle.std.specs.Prelude.{All, flat_map}
use Rattle.std.proofs.lemmas.List.{drop_more}
use Rattle.st_linear.specs.Linear.{with_entry}
use Rattle.st_linear.proofs.Joins.{joined_up}
use Rattle.transition_system.specs.declared.transitions.Mode.{Mode}
use Rattle.transition_system.specs.declared.transitions.Transition.{Transition}
use Rattle.transition_system.specs.Plain.{plain_mode, plain_transition}
use Rattle.null_laws.specs.Reduction.{Entries}
use Rattle.equation_laws.specs.Rows.{over_places, mode_rows}
use Rattle.linear_invariants.proofs.Appends.{modes-more}

pub places-next : (n : ℕ) (g : ℕ → ℤ) (m l : ℕ) (out whole : Entries) → l < m → out ++ over_places n g (m - l) l ≡ whole → (out ++ with_entry (n + l) (g l) []) ++ over_places n g (m - (l + 1)) (l + 1) ≡ whole
places-next n g m l out whole k h =
    let e : m - l ≡ suc (m - (l + 1)) = omega arith in
    joined_up out (over_places n g (m - l) l) (over_places n g (m - (l + 1)) (l + 1)) whole (n + l) (g l) h (ap (λ j. over_places n g j l) e)

-- an item of a list, and what all have
pub at-item : {X Y : Type 0} (P : Y → Type 0) (f : X → Y) (xs : List X) (i : ℕ) (x : X) → i < length xs → x ≡ get_or xs i x → All P (map f xs) → P (f x)
at-item P f [] i x l e all = absurd (omega arith)
at-item P f (y ∷ ys) zero x l e all = subst (λ x. P (f x)) (sym e) (all 0 (f y) (omega arith))
at-item P f (y ∷ ys) (suc i) x l e all = at-item P f ys i x (omega arith) e (λ k d lt. all (suc k) d (omega arith))

pub modes-next : (n locations i : ℕ) (ms : List Mode) (m : Mode) (out whole : List Entries) → i < length ms → m ≡ get_or ms i m → out ++ mode_rows n locations (map plain_mode (drop i ms)) [] ≡ whole
    → (out ++ mode_rows n locations (plain_mode m ∷ []) []) ++ mode_rows n locations (map plain_mode (drop (i + 1) ms)) [] ≡ whole
modes-next n locations i ms m out whole l e h =
    modes-more n locations (plain_mode m ∷ []) (map plain_mode (drop (i + 1) ms)) out whole
    (ap (λ x. out ++ mode_rows n locations (map plain_mode x) []) (sym (drop_more ms i m l ∙ ap (λ x. x ∷ drop (i + 1) ms) (sym e))) ∙ h)

pub transitions-next : (n locations i : ℕ) (ts : List Transition) (t : Transition) (out whole : List Entries) → i < length ts → t ≡ get_or ts i t
    → out ++ mode_rows n locations (flat_map (λ t. t.modes) (map plain_transition (drop i ts))) [] ≡ whole
    → (out ++ mode_rows n locations (map plain_mode t.modes.items) []) ++ mode_rows n locations (flat_map (λ t. t.modes) (map plain_transition (drop (i + 1) ts))) [] ≡ whole
transitions-next n locations i ts t out whole l e h =
    modes-more n locations (map plain_mode t.modes.items) (flat_map (λ t. t.modes) (map plain_transition (drop (i + 1) ts))) out whole
    (ap (λ x. out ++ mode_rows n locations (flat_map (λ t. t.modes) (map plain_transition x)) []) (sym (drop_more ts i t l ∙ ap (λ x. x ∷ drop (i + 1) ts) (sym e))) ∙ h)
