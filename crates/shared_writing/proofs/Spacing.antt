-- Words behind one another, each behind a space.
use Rattle.std.proofs.Common.{append_assoc, ◌≡◌, ℕ, List, [], ◌∷◌, ◌++◌, refl, ap, ◌∙◌, sym, Result, Ok, Err}
use Rattle.std.specs.Prelude.{OnOk}
use Rattle.shared_writing.specs.Writing.{spaced}

pub spaced-append : (vs ws : List (List ℕ)) → spaced (vs ++ ws) ≡ spaced vs ++ spaced ws
spaced-append [] ws = refl
spaced-append (v ∷ vs) ws = ap (λ x. 32 ∷ (v ++ x)) (spaced-append vs ws) ∙ ap (λ x. 32 ∷ x) (sym (append_assoc v (spaced vs) (spaced ws)))

-- a division: its step, a colon, and its parts
pub branch-text : (out a b d : List ℕ) (ws ns : List (List ℕ)) → a ≡ out ++ spaced ws → b ≡ a ++ 32 ∷ 58 ∷ [] → d ≡ b ++ spaced ns → d ≡ out ++ spaced (ws ++ (58 ∷ []) ∷ ns)
branch-text out a b d ws ns p t q =
    q ∙ ap (λ x. x ++ spaced ns) (t ∙ ap (λ x. x ++ 32 ∷ 58 ∷ []) p)
    ∙ append_assoc (out ++ spaced ws) (32 ∷ 58 ∷ []) (spaced ns)
    ∙ append_assoc out (spaced ws) (32 ∷ (58 ∷ spaced ns))
    ∙ ap (λ x. out ++ x) (sym (spaced-append ws ((58 ∷ []) ∷ ns)))

pub ok-then : {B E : Type 0} {P Q : Type 0} (r : Result B E) → (P → Q) → OnOk r P → OnOk r Q
ok-then (Ok x) f h = f h
ok-then (Err e) f h = h
