-- What follows a claim, at whose first token it is known that the claim is whole: the steps that are cited, and the ";".
use Rattle.std.proofs.Common.{◌≡◌, ℕ, ◌+◌, Bool, true, false, cond, List, [], ◌∷◌, ◌++◌, Err, refl, sym, ap}
use Rattle.std.specs.Prelude.{◌||◌}
use Rattle.st_tokens.specs.Stream.{◌++>◌, Lexeme, Stream, ends, breaks, more}
use Rattle.st_reading.specs.declared.mark.Mark.TheVariants as marks
use Rattle.st_reading.specs.Sign.{sign_of, is}
use Rattle.st_reading.specs.Reading.{Label, other, label_of, ahead, refusal}
use Rattle.st_reading.specs.Breaches.{Breach, Reader}
use Rattle.st_reading.specs.BrokenRules.{Broken}
use Rattle.st_reading.specs.Spelling.{Is, behind_it, one_name, no_items, row}
use Rattle.st_reading.specs.Steady.{anything}
use Rattle.st_reading.proofs.Spelled.{more_spelled, none_spelled}
use Rattle.st_reading.proofs.ListSoundness.{one_mark}
use Rattle.st_reading.proofs.Phrases.{made}
use Rattle.st_reading.proofs.Judging.{closed, Completed, JudgedAt, bad, alike}
use Rattle.proof_script.specs.Steps.{ends_rule}
use Rattle.script_grammar.specs.Grammar.{cites, cites_none}
use Rattle.script_grammar.specs.Breaking.{broken_where, found_at}
use Rattle.script_grammar.specs.FirstFaults.{IsSyntactic}
use Rattle.script_grammar.proofs.RawReferences.{name_token, name_spelled}
use Rattle.script_grammar.proofs.JudgedReferences.{refusal_syntactic, closed_settles}
use Rattle.script_grammar.proofs.JudgedPairs.{both_of}
use Rattle.script_grammar.proofs.Judges.{Judges, as_so}
use Rattle.script_grammar.proofs.NamedSteps.{cited_lawful, semicolon_token, semicolon_spelled, semicolon_is}

-- the claim before it is wrong or not
abbrev pub guarded : {A : Type 0} → Bool → Breach → Reader A → Reader A
guarded wrong breach r s = cond (ends_rule (ahead s)) (cond wrong (Err (other breach)) (r s)) (Err (refusal s))

abbrev Ended : Type 0
Ended = List Label × ℕ

pub neither_ends : (s : Stream) → ends_rule (ahead s) ≡ false → (is (ahead s) marks.Using ≡ false) × (is (ahead s) marks.Semicolon ≡ false)
neither_ends s e = at_tests (is (ahead s) marks.Using) (is (ahead s) marks.Semicolon) e
  where
    at_tests : (b c : Bool) → (b || c) ≡ false → (b ≡ false) × (c ≡ false)
    at_tests true c h = absurd cc
    at_tests false c h = (refl, h)

pub raw_refuses : (s : Stream) → ends_rule (ahead s) ≡ false → cited_lawful.phrase.reader s ≡ Err (refusal s)
raw_refuses s e = let k = neither_ends s e in let f = k.0 in let h = k.1 in rw (f, h) refl

-- one token of these can be completed
completed_end : (t : Lexeme) → Is marks.Semicolon t → Completed anything cited_lawful.phrase.reader (t ∷ []) closed
completed_end t e = record {
  others = [];
  spelled = none_spelled;
  value = both_of [] t.start;
  reads = λ after h. cited_lawful.phrase.complete (t ∷ []) (both_of [] t.start) (behind_it [] (t ∷ []) [] (both_of [] t.start) cites_none (made (t ∷ []) t.start (one_mark t e))) after refl;
  settled = λ after h. closed_settles after;
}

completed_using : (t : Lexeme) → Is marks.Using t → Completed anything cited_lawful.phrase.reader (t ∷ []) closed
completed_using t e =
    let names = label_of name_token ∷ [] in
    let value = both_of names semicolon_token.start in
    record {
      others = name_token ∷ semicolon_token ∷ [];
      spelled = more_spelled name_token (semicolon_token ∷ []) name_spelled (more_spelled semicolon_token [] semicolon_spelled none_spelled);
      value = value;
      reads = λ after h. cited_lawful.phrase.complete (t ∷ name_token ∷ semicolon_token ∷ []) value
          (behind_it (t ∷ name_token ∷ []) (semicolon_token ∷ []) names value (cites t (name_token ∷ []) names e (row (name_token ∷ []) [] (label_of name_token) [] (one_name name_token refl) no_items)) (made (semicolon_token ∷ []) semicolon_token.start (one_mark semicolon_token semicolon_is))) after refl;
      settled = λ after h. closed_settles ((name_token ∷ semicolon_token ∷ []) ++> after);
    }

-- what refuses all other tokens by itself is the same where the claim isn't wrong
pub unguarded : {A : Type 0} (breach : Breach) (r : Reader A) → ((s : Stream) → ends_rule (ahead s) ≡ false → r s ≡ Err (refusal s)) → (s : Stream) → guarded false breach r s ≡ r s
unguarded breach r refuses s = at_test (ends_rule (ahead s)) refl
  where
    at_test : (b : Bool) → ends_rule (ahead s) ≡ b → cond b (r s) (Err (refusal s)) ≡ r s
    at_test true e = refl
    at_test false e = sym (refuses s e)

module _ {A : Type 0} (breach : Breach) (r : Reader A) (refuses : (s : Stream) → ends_rule (ahead s) ≡ false → r s ≡ Err (refusal s)) (count : Ended → ℕ) (rules : ℕ → Ended → List (Broken Breach)) (makes : Ended → A → Type 0) where
  abbrev Guarded : Bool → Type 0
  Guarded wrong = Judges anything (guarded wrong breach r) cited_lawful.phrase.reader count (λ at q. broken_where wrong (at + 1) breach ++ rules at q) makes

  abbrev Wrong : ℕ → Stream → Type 0
  Wrong at s = JudgedAt IsSyntactic anything at (guarded true breach r) cited_lawful.phrase.reader count (λ q. broken_where true (at + 1) breach ++ rules at q) makes s

  abbrev stopping : Bool → Reader A
  stopping b s = cond b (Err (other breach)) (Err (refusal s))

  at_end : (at : ℕ) (t : Lexeme) (s : Stream) → ends_rule (sign_of t) ≡ true → Completed anything cited_lawful.phrase.reader (t ∷ []) closed → Wrong at (more t s)
  at_end at t s e v = bad t [] s (found_at (at + 1) breach) closed refl refl (closed_settles s) (λ after h. ap (λ (b : Bool). stopping b (more t after)) e) (λ after b m h k. (rules at b, refl)) v (λ d h. absurd cc)

  wrong_at : (at : ℕ) (s : Stream) → Wrong at s
  wrong_at at (ends p) = alike (refusal (ends p)) (refusal_syntactic (ends p)) refl (raw_refuses (ends p) refl)
  wrong_at at (breaks f) = alike (refusal (breaks f)) (refusal_syntactic (breaks f)) refl (raw_refuses (breaks f) refl)
  wrong_at at (more t s) = at_tests (is (sign_of t) marks.Using) (is (sign_of t) marks.Semicolon) refl refl
    where
      at_tests : (b c : Bool) → is (sign_of t) marks.Using ≡ b → is (sign_of t) marks.Semicolon ≡ c → Wrong at (more t s)
      at_tests true c e f = at_end at t s (rw e refl) (completed_using t e)
      at_tests false true e f = at_end at t s (rw (e, f) refl) (completed_end t f)
      at_tests false false e f = alike (refusal (more t s)) (refusal_syntactic (more t s)) (rw (e, f) refl) (raw_refuses (more t s) (rw (e, f) refl))

  pub guarded_so : (wrong : Bool) → Judges anything r cited_lawful.phrase.reader count rules makes → Guarded wrong
  guarded_so false j = as_so (guarded false breach r) cited_lawful.phrase.reader (unguarded breach r refuses) (λ s. refl) j
  guarded_so true j = record { judged = λ at s. wrong_at at s }
