-- Texts of one token, judged by what it says, beside the reader that doesn't judge.
use Rattle.std.proofs.Common.{◌≡◌, ℕ, ◌+◌, Bool, true, false, cond, List, [], ◌∷◌, ◌++◌, Option, Some, None, Result, Ok, Err, refl, sym, ap, ◌∙◌}
use Rattle.std.specs.Prelude.{not}
use Rattle.st_tokens.specs.Stream.{Lexeme, Stream, ends, breaks, more}
use Rattle.st_reading.specs.declared.sign.Sign.{Sign}
use Rattle.st_reading.specs.declared.sign.Sign.TheVariants as signs
use Rattle.st_reading.specs.Sign.{sign_of}
use Rattle.st_reading.specs.Reading.{Read, Label, is_name, label_of, named, refusal, then_reads, on_operator}
use Rattle.st_reading.specs.Breaches.{Breach, Reader, numeral_in, numeral_of}
use Rattle.st_reading.specs.BrokenRules.{Broken}
use Rattle.st_reading.proofs.Spelled.{none_spelled}
use Rattle.st_reading.proofs.Soundness.{values}
use Rattle.st_reading.proofs.Judging.{closed, JudgedAt, good, bad, alike}
use Rattle.script_grammar.specs.Breaking.{found_at}
use Rattle.script_grammar.specs.FirstFaults.{IsSyntactic}
use Rattle.script_grammar.proofs.JudgedReferences.{said, refusal_syntactic, closed_settles}

-- one token, where it gives a value
abbrev pub by_token : {B : Type 0} → (Lexeme → Option B) → Reader B
by_token f (ends p) = Err (refusal (ends p))
by_token f (breaks e) = Err (refusal (breaks e))
by_token f (more t s) = on_operator (f t) (Err (refusal (more t s))) (λ b. Ok (b, s))

abbrev pub token_judge : {A B : Type 0} → (Lexeme → Option B) → (B → Result A Breach) → Reader A
token_judge value_of verdict = then_reads (by_token value_of) (λ b. said (verdict b))

module _ {A B : Type 0} (value_of : Lexeme → Option B) (verdict : B → Result A Breach) (rules : ℕ → B → List (Broken Breach)) (kept : (at : ℕ) (b : B) (a : A) → verdict b ≡ Ok a → rules at b ≡ [])
    (told : (at : ℕ) (b : B) (f : Breach) → verdict b ≡ Err f → (further : List (Broken Breach)) × (rules at b ≡ found_at (at + 1) f ∷ further)) (calm : Sign → Bool) (at : ℕ) where
  abbrev JudgedToken : Stream → Type 0
  JudgedToken s = JudgedAt IsSyntactic calm at (token_judge value_of verdict) (by_token value_of) (λ b. 1) (rules at) (λ b a. verdict b ≡ Ok a) s

  at_verdict : (t : Lexeme) (s : Stream) (b : B) → value_of t ≡ Some b → (v : Result A Breach) → verdict b ≡ v → JudgedToken (more t s)
  at_verdict t s b e (Ok a) k = good (t ∷ []) b a s refl (λ after h. rw e refl) (λ after h. rw (e, k) refl) refl (kept at b a k) k
  at_verdict t s b e (Err f) k =
      bad t [] s (found_at (at + 1) f) closed refl refl (closed_settles s) (λ after h. rw (e, k) refl)
      (λ after c m h r. let v = values (by_token value_of (more t after)) b c after m (rw e refl) r in let l = told at b f k in (l.0, ap (rules at) (sym v.0) ∙ l.1))
      (record { others = []; spelled = none_spelled; value = b; reads = λ after h. rw e refl; settled = λ after h. closed_settles after }) (λ d g. absurd cc)

  pub judged_token : (s : Stream) → JudgedToken s
  judged_token (ends p) = alike (refusal (ends p)) (refusal_syntactic (ends p)) refl refl
  judged_token (breaks e) = alike (refusal (breaks e)) (refusal_syntactic (breaks e)) refl refl
  judged_token (more t s) = at_value (value_of t) refl
    where
      at_value : (o : Option B) → value_of t ≡ o → JudgedToken (more t s)
      at_value None e = alike (refusal (more t s)) (refusal_syntactic (more t s)) (rw e refl) (rw e refl)
      at_value (Some b) e = at_verdict t s b e (verdict b) refl

-- NAMES AND NUMERALS
abbrev pub name_at : Lexeme → Option Label
name_at t = cond (is_name (sign_of t)) (Some (label_of t)) None

abbrev label_read : Bool → Lexeme → Stream → Read Breach Label
label_read b t s = cond b (Ok (label_of t, s)) (Err (refusal (more t s)))

abbrev label_taken : Bool → Lexeme → Stream → Read Breach Label
label_taken b t s = on_operator (cond b (Some (label_of t)) None) (Err (refusal (more t s))) (λ l. Ok (l, s))

pub named_is : (s : Stream) → named s ≡ by_token name_at s
named_is (ends p) = refl
named_is (breaks e) = refl
named_is (more t s) = at_test (is_name (sign_of t))
  where
    at_test : (b : Bool) → label_read b t s ≡ label_taken b t s
    at_test true = refl
    at_test false = refl
