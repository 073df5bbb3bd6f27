-- A ";" behind what was read, judged and not, beside each other.
use Rattle.std.proofs.Common.{◌≡◌, ℕ, ◌+◌, [], ◌∷◌, Ok, refl, sym}
use Rattle.st_tokens.specs.Stream.{Stream}
use Rattle.st_reading.specs.declared.mark.Mark.TheVariants as marks
use Rattle.st_reading.specs.Reading.{expected, then_reads, gives}
use Rattle.st_reading.specs.Breaches.{Breach}
use Rattle.st_reading.specs.Steady.{Short, anything}
use Rattle.st_reading.proofs.Spelled.{none_spelled, one_spelled}
use Rattle.st_reading.proofs.Soundness.{split, values}
use Rattle.st_reading.proofs.Judging.{judged_bind}
use Rattle.st_reading.proofs.JudgedParts.{judged_gives, judged_expected}
use Rattle.schedule_grammar.specs.FirstFault.{IsSyntactic}
use Rattle.schedule_grammar.proofs.Closed.{refusal_syntactic, Judged}
use Rattle.schedule_grammar.proofs.Witnesses.{semicolon_token, semicolon_spelled, semicolon_is}

-- the value that was there
pub ended_by : {A : Type 0} (x c : A) (s rest : Stream) → then_reads (expected {X = Breach} marks.Semicolon) (λ z. gives x) s ≡ Ok (c, rest) → c ≡ x
ended_by x c s rest h =
    let p = split (expected {X = Breach} marks.Semicolon) (λ z. gives x) s c rest h in
    let v = values {X = Breach} (gives x p.middle) x c p.middle rest refl p.second in
    sym v.0

pub short_ended : {A B : Type 0} (f : A → B) → Short {X = Breach} anything anything (λ x. then_reads (expected marks.Semicolon) (λ z. gives (f x)))
short_ended f = record { text = λ x. semicolon_token ∷ []; spelled = λ x. one_spelled semicolon_token semicolon_spelled; value = f; begins = λ x after h. refl; reads = λ x after h. let e = semicolon_is in rw e refl }

pub judged_ended : {A B : Type 0} (at : ℕ) (a : A) (b : B) (makes : B → A → Type 0) → makes b a → (s : Stream) → Judged anything at (then_reads (expected marks.Semicolon) (λ z. gives a)) (then_reads (expected marks.Semicolon) (λ z. gives b)) (λ c. 1) (λ c. []) makes s
judged_ended at a b makes made s =
    judged_bind IsSyntactic anything anything at (expected marks.Semicolon) (expected marks.Semicolon) (λ n. 1) (λ n. []) (λ n k. k ≡ n) (λ z. gives a) (λ z. gives b) (λ c. 1) (λ c. []) makes (λ n c. 0) (λ n c. []) (λ n c m rest h. refl) (λ n c m rest h. refl)
    (record { text = λ x. []; spelled = λ x. none_spelled; value = λ x. b; begins = λ x after h. refl; reads = λ x after h. refl }) s
    (judged_expected IsSyntactic refusal_syntactic anything at marks.Semicolon s)
    (λ ts n k rest is many e. judged_gives IsSyntactic anything (at + 1) a b (λ c. 0) (λ c. []) makes refl refl made rest)
