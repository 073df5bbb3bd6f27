-- A transition, judged by what its name and its part say, beside the reader that doesn't judge. A label alone is settled where no
-- "." goes on.
use Rattle.std.proofs.Common.{◌≡◌, ℕ, suc, ◌+◌, Bool, true, false, cond, List, [], ◌∷◌, ◌++◌, length, Option, Some, None, Result, Ok, Err, refl, sym, ap, subst, ◌∙◌, arith, unwrap_or}
use Rattle.std.specs.Prelude.{if◌then◌else◌}
use Rattle.std.specs.Str.{bytes_eq}
use Rattle.std.specs.Prelude.{codes}
use Rattle.st_tokens.specs.Stream.{◌++>◌, Lexeme, Stream, ends, breaks, more}
use Rattle.st_reading.specs.declared.mark.Mark.TheVariants as marks
use Rattle.st_reading.specs.Sign.{sign_of, is}
use Rattle.st_reading.specs.Reading.{Stop, syntax, broken, other, Label, ahead, is_name, label_of, named, refusal, then_reads}
use Rattle.st_reading.specs.Breaches.{Breach, Reader}
use Rattle.st_reading.specs.BrokenRules.{Broken}
use Rattle.st_reading.specs.Spelling.{Is}
use Rattle.st_reading.specs.Steady.{head}
use Rattle.st_reading.proofs.Spelled.{none_spelled, one_spelled}
use Rattle.st_reading.proofs.Soundness.{values}
use Rattle.st_reading.proofs.Tokens.{not_that}
use Rattle.st_reading.proofs.Judging.{Settled, closed, Completed, JudgedAt, good, bad, alike}
use Rattle.st_form.specs.declared.conditions.Part.{Part}
use Rattle.st_form.specs.declared.conditions.Part.TheVariants.{Whole, Entry, Exit}
use Rattle.assertions.specs.Labels.{part_named}
use Rattle.diagram_reader.specs.Transitions.{part_at, part_of, suffix_of}
use Rattle.script_grammar.specs.RawScripts.{RawTransition}
use Rattle.script_grammar.specs.Sizes.{part_size, transition_size}
use Rattle.script_grammar.specs.Breaking.{found_at}
use Rattle.script_grammar.specs.FirstFaults.{IsSyntactic}
use Rattle.script_grammar.proofs.RawReferences.{entry_token, entry_spelled, entry_names, no_dot, the_reference, raw_reference}

pub refusal_syntactic : (s : Stream) → IsSyntactic (refusal s)
refusal_syntactic (ends p) = tt
refusal_syntactic (breaks f) = tt
refusal_syntactic (more t s) = tt

pub no_breach : (f : Stop Breach) → IsSyntactic f → (breach : Breach) → f ≡ other breach → ⊥
no_breach (syntax p) h breach e = cc
no_breach (broken f) h breach e = cc
no_breach (other x) h breach e = h

-- WHAT SETTLES
abbrev pub waits : Lexeme → Bool
waits t = is (sign_of t) marks.Dot

same_settled : (open_to : Lexeme → Bool) (s after : Stream) → Settled open_to s → head after ≡ head s → Settled open_to after
same_settled open_to s (ends q) h e = tt
same_settled open_to s (breaks f) h e = tt
same_settled open_to (ends q) (more u z) h e = absurd cc
same_settled open_to (breaks f) (more u z) h e = absurd cc
same_settled open_to (more t m) (more u z) h e = let k : u ≡ t = cc in ap open_to k ∙ h

undotted : (s : Stream) → Settled waits s → is (ahead s) marks.Dot ≡ false
undotted (ends q) h = refl
undotted (breaks f) h = refl
undotted (more t s) h = h

undotted_settles : (s : Stream) → is (ahead s) marks.Dot ≡ false → Settled waits s
undotted_settles (ends q) h = tt
undotted_settles (breaks f) h = tt
undotted_settles (more t s) h = h

pub closed_settles : (s : Stream) → Settled closed s
closed_settles (ends p) = tt
closed_settles (breaks f) = tt
closed_settles (more t s) = refl

-- a part that is named has two tokens
part_two : (text : List ℕ) (p : Part) → part_named text ≡ Some p → part_size p ≡ 2
unfolding part_named
part_two text p h = at_first (bytes_eq text (codes "entry")) (bytes_eq text (codes "exit")) h
  where
    at_first : (b c : Bool) → (if b then Some Entry else (if c then Some Exit else None)) ≡ Some p → part_size p ≡ 2
    at_first true c e = let k : Entry ≡ p = cc in ap part_size (sym k)
    at_first false true e = let k : Exit ≡ p = cc in ap part_size (sym k)
    at_first false false e = absurd cc

-- WHAT IS SAID OF A NAME AND A PART
abbrev pub Verdict : Type 0 → Type 0
Verdict A = Label → Part → Result A Breach

abbrev pub said : {A : Type 0} → Result A Breach → Reader A
said (Ok n) s = Ok (n, s)
said (Err b) s = Err (other b)

abbrev pub said_rules : {A : Type 0} → ℕ → Result A Breach → List (Broken Breach)
said_rules n (Ok k) = []
said_rules n (Err b) = found_at n b ∷ []

abbrev pub judged_by : {A : Type 0} → Verdict A → Reader A
judged_by verdict = then_reads named (λ l. then_reads part_of (λ part. said (verdict l part)))

module _ {A : Type 0} (verdict : Verdict A) (rules : ℕ → RawTransition → List (Broken Breach)) (says : (at : ℕ) (r : RawTransition) → rules at r ≡ said_rules (at + transition_size r) (verdict r.label r.part)) (at : ℕ) where
  abbrev pub judges : Reader A
  judges = judged_by verdict

  abbrev pub Told : RawTransition → A → Type 0
  Told r n = verdict r.label r.part ≡ Ok n

  abbrev pub JudgedReference : Stream → Type 0
  JudgedReference s = JudgedAt IsSyntactic no_dot at judges raw_reference transition_size (rules at) Told s

  both_refuse : (s : Stream) → judges s ≡ Err (refusal s) → raw_reference s ≡ Err (refusal s) → JudgedReference s
  both_refuse s h k = alike (refusal s) (refusal_syntactic s) h k

  module _ (t : Lexeme) (n : is_name (sign_of t) ≡ true) where
    dot_goes_on : (d : Lexeme) → Is marks.Dot d → Completed no_dot raw_reference (t ∷ d ∷ []) closed
    unfolding suffix_of
    dot_goes_on d e = record {
      others = entry_token ∷ [];
      spelled = one_spelled entry_token entry_spelled;
      value = the_reference (label_of t) (Some Entry);
      reads = λ after h. rw (n, e, entry_names) refl;
      settled = λ after h. refl;
    }

    -- a name and a part that are whole
    module _ (open_to : Lexeme → Bool) (ts : List Lexeme) (q : Option Part) (rest : Stream) (settles : Settled open_to rest) (many : 1 + part_size (unwrap_or q Whole) ≡ suc (length ts))
        (calms : (after : Stream) → no_dot (ahead after) ≡ true → Settled open_to after)
        (reads : (after : Stream) → Settled open_to after → raw_reference (more t (ts ++> after)) ≡ Ok (the_reference (label_of t) q, after))
        (reads2 : (after : Stream) → Settled open_to after → judges (more t (ts ++> after)) ≡ said (verdict (label_of t) (unwrap_or q Whole)) after)
        (onward : (d : Lexeme) → open_to d ≡ true → Completed no_dot raw_reference (t ∷ ts ++ d ∷ []) closed) where
      abbrev it : RawTransition
      it = the_reference (label_of t) q

      whole_reference : (v : Result A Breach) → verdict (label_of t) (unwrap_or q Whole) ≡ v → JudgedReference (more t (ts ++> rest))
      whole_reference (Ok k) e =
          good (t ∷ ts) it k rest refl (λ after h. reads after (same_settled open_to rest after settles h)) (λ after h. reads2 after (same_settled open_to rest after settles h) ∙ rw e refl) many (says at it ∙ rw e refl) e
      whole_reference (Err b) e =
          bad t ts rest (found_at (at + transition_size it) b) open_to refl (omega (arith, many)) settles
          (λ after h. reads2 after h ∙ rw e refl)
          (λ after x m h r. let w = values (raw_reference (more t (ts ++> after))) it x after m (reads after h) r in ([], ap (rules at) (sym w.0) ∙ says at it ∙ rw e refl))
          (record { others = []; spelled = none_spelled; value = it; reads = λ after h. reads after (calms after h); settled = λ after h. calms after h })
          onward

    -- no part behind a "."
    stuck : (d : Lexeme) (s : Stream) → Is marks.Dot d → part_at s ≡ None → JudgedReference (more t (more d s))
    unfolding part_of suffix_of
    stuck d s e none = alike (refusal s) (refusal_syntactic s) (rw (n, e, none) refl) (rw (n, e, none) refl)

    dotted : (d u : Lexeme) (m : Stream) → Is marks.Dot d → (o : Option Part) → part_at (more u m) ≡ o → o ≡ o → JudgedReference (more t (more d (more u m)))
    unfolding part_of suffix_of
    dotted d u m e None k same = stuck d (more u m) e k
    dotted d u m e (Some p) k same =
        whole_reference closed (d ∷ u ∷ []) (Some p) m (closed_settles m) (two (is_name (sign_of u)) k) (λ after h. closed_settles after) (λ after h. rw (n, e, k) refl) (λ after h. rw (n, e, k) refl) (λ x g. absurd cc) (verdict (label_of t) p) refl
      where
        two : (b : Bool) → cond b (part_named u.text) None ≡ Some p → 1 + part_size p ≡ 3
        two true h = ap (λ z. 1 + z) (part_two u.text p h)
        two false h = absurd cc

    called : (s : Stream) → JudgedReference (more t s)
    unfolding part_of
    called s = at_dot (is (ahead s) marks.Dot) refl
      where
        at_next : (d : Lexeme) (m z : Stream) → Is marks.Dot d → s ≡ more d m → m ≡ z → JudgedReference (more t s)
        at_next d m (ends q) e is_s is_m = subst (λ z. JudgedReference (more t z)) (sym is_s) (stuck d m e (rw is_m refl))
        at_next d m (breaks f) e is_s is_m = subst (λ z. JudgedReference (more t z)) (sym is_s) (stuck d m e (rw is_m refl))
        at_next d m (more u r) e is_s is_m = subst (λ z. JudgedReference (more t z)) (sym (is_s ∙ ap (more d) is_m)) (dotted d u r e (part_at (more u r)) refl refl)

        at_first : (z : Stream) → s ≡ z → is (ahead z) marks.Dot ≡ true → JudgedReference (more t s)
        at_first (ends q) is_s e = absurd cc
        at_first (breaks f) is_s e = absurd cc
        at_first (more d m) is_s e = at_next d m m e is_s refl

        at_dot : (b : Bool) → is (ahead s) marks.Dot ≡ b → JudgedReference (more t s)
        at_dot true e = at_first s refl e
        at_dot false e =
            whole_reference waits [] None s (undotted_settles s e) refl (λ after h. undotted_settles after (not_that marks.Dot (ahead after) h)) (λ after h. let no = undotted after h in rw (n, no) refl) (λ after h. let no = undotted after h in rw (n, no) refl) (λ d g. dot_goes_on d g) (verdict (label_of t) Whole) refl

  pub judged_reference : (s : Stream) → JudgedReference s
  judged_reference (ends p) = both_refuse (ends p) refl refl
  judged_reference (breaks f) = both_refuse (breaks f) refl refl
  judged_reference (more t s) = at_name (is_name (sign_of t)) refl
    where
      at_name : (b : Bool) → is_name (sign_of t) ≡ b → JudgedReference (more t s)
      at_name false e = both_refuse (more t s) (rw e refl) (rw e refl)
      at_name true e = called t e s
