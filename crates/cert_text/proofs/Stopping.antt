use Rattle.std.proofs.Common.{◌≡◌, ℕ, ◌+◌, List, [], ◌∷◌, ◌++◌, false, length, refl, ap, ◌∙◌, arith}
use Rattle.cert_text.specs.Reading.{State, going, malformed, over, whole, step, after, is_going}

-- a state that is not going stays as it is
pub stopped_step : (at b : ℕ) (s : State) → is_going s ≡ false → step at s b ≡ s
unfolding step
stopped_step at b (going scan built pending) h = cc
stopped_step at b (malformed place) h = refl
stopped_step at b (over place) h = refl
stopped_step at b (whole end scan built) h = refl

pub stopped_after : (at : ℕ) (s : State) (bs : List ℕ) → is_going s ≡ false → after at s bs ≡ s
stopped_after at s [] h = refl
stopped_after at s (b ∷ bs) h = ap (λ t. after (at + 1) t bs) (stopped_step at b s h) ∙ stopped_after (at + 1) s bs h

-- it doesn't matter where the bytes are cut
pub after-append : (at : ℕ) (s : State) (bs cs : List ℕ) → after at s (bs ++ cs) ≡ after (at + length bs) (after at s bs) cs
after-append at s [] cs = ap (λ n. after n s cs) (omega arith)
after-append at s (b ∷ bs) cs = after-append (at + 1) (step at s b) bs cs ∙ ap (λ n. after n (after (at + 1) (step at s b) bs) cs) (omega arith)
