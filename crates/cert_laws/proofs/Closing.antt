-- An answer that doesn't ask for more stays when the rest of the text comes: a machine that has stopped stays as it is.
use Rattle.std.proofs.Common.{◌≡◌, ℕ, ◌+◌, ◌-◌, Bool, true, false, List, [], ◌++◌, length, refl, sym, ap, ◌∙◌, subst, arith, append-nil}
use Rattle.std.proofs.lemmas.List.{drop-append-le}
use Rattle.cert_text.specs.Reading.{State, going, malformed, over, whole, after, start, is_going}
use Rattle.cert_text.specs.Held.{Held, outcome, answer_at, answer_of, taken_at, taken_from}
use Rattle.cert_text.specs.Answer.{need}
use Rattle.cert_text.proofs.Stopping.{stopped_after, after-append}
use Rattle.cert_text.proofs.Within.{block_within}
use Rattle.cert_laws.specs.Laws.{closed, MayFollow, Stays, AnswersStay}

-- where an open text doesn't ask for more, the machine has stopped
stopped : (s : State) (h : Held) → h.finished ≡ false → (answer_at s h ≡ need → ⊥) → is_going s ≡ false
stopped (going scan built pending) h unfinished more = absurd (more (rw unfinished refl))
stopped (malformed place) h unfinished more = refl
stopped (over place) h unfinished more = refl
stopped (whole end scan built) h unfinished more = refl

answer-stays : (s : State) (h : Held) (rest : List ℕ) → is_going s ≡ false → answer_at s (closed h rest) ≡ answer_at s h
answer-stays (going scan built pending) h rest still = cc
answer-stays (malformed place) h rest still = refl
answer-stays (over place) h rest still = refl
answer-stays (whole end scan built) h rest still = refl

left-stays : (s : State) (h : Held) (rest : List ℕ) → outcome h ≡ s → taken_at s (closed h rest) ≡ closed (taken_at s h) rest
left-stays (going scan built pending) h rest is = refl
left-stays (malformed place) h rest is = refl
left-stays (over place) h rest is = refl
left-stays (whole end scan built) h rest is =
    let within = block_within h.place end h.number h.second h.bytes scan built is in
    ap (λ (bs : List ℕ). record { bytes = bs; place = end; number = h.number + 1; second = scan.second; finished = true })
    (drop-append-le (end - h.place) h.bytes rest (omega (arith, within)))

open-stays : (h : Held) (rest : List ℕ) → h.finished ≡ false → (answer_of h ≡ need → ⊥) → Stays h rest
open-stays h rest unfinished more =
    let still = stopped (outcome h) h unfinished more in
    let same : outcome (closed h rest) ≡ outcome h =
    after-append h.place (start h.number h.second) h.bytes rest ∙ stopped_after (h.place + length h.bytes) (outcome h) rest still
    in
    record {
      answer = ap (λ (s : State). answer_at s (closed h rest)) same ∙ answer-stays (outcome h) h rest still;
      left = ap (λ (s : State). taken_at s (closed h rest)) same ∙ left-stays (outcome h) h rest refl;
    }

-- of a finished text nothing is to come
closed-already : (h : Held) → h.finished ≡ true → closed h [] ≡ h
closed-already h done = ap (λ (bs : List ℕ). record h { bytes = bs; finished = true }) (append-nil h.bytes) ∙ ap (λ (f : Bool). record h { finished = f }) (sym done)

finished-behind : (s : State) (h : Held) → h.finished ≡ true → (taken_at s h).finished ≡ true
finished-behind (going scan built pending) h done = done
finished-behind (malformed place) h done = done
finished-behind (over place) h done = done
finished-behind (whole end scan built) h done = done

finished-stays : (h : Held) (rest : List ℕ) → h.finished ≡ true → rest ≡ [] → Stays h rest
finished-stays h rest done none =
    subst (Stays h) (sym none) (record {
      answer = ap answer_of (closed-already h done);
      left = ap taken_from (closed-already h done) ∙ sym (closed-already (taken_from h) (finished-behind (outcome h) h done));
    })

stays-by : (done : Bool) (h : Held) (rest : List ℕ) → h.finished ≡ done → MayFollow h rest → (answer_of h ≡ need → ⊥) → Stays h rest
stays-by true h rest is follow more = finished-stays h rest is (follow is)
stays-by false h rest is follow more = open-stays h rest is more

pub answers-stay : AnswersStay
answers-stay h rest follow more = stays-by h.finished h rest refl follow more
