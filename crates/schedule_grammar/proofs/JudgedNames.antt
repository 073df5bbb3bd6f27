-- The name that a setting begins with, judged and not, beside each other.
use Rattle.std.proofs.Common.{◌≡◌, ℕ, ◌+◌, Bool, true, false, cond, List, [], ◌∷◌, Option, Some, None, Result, Ok, Err, refl}
use Rattle.st_tokens.specs.Stream.{Stream, ends, breaks, more, behind}
use Rattle.st_reading.specs.Sign.{sign_of}
use Rattle.st_reading.specs.Reading.{Stop, Read, other, Label, ahead, label_of, name_of, is_name, refusal, named}
use Rattle.st_reading.specs.Rule as rules
use Rattle.st_reading.specs.Breaches.{Breach, broke, Reader}
use Rattle.st_reading.specs.BrokenRules.{Broken}
use Rattle.st_reading.specs.Steady.{anything}
use Rattle.st_reading.proofs.Judging.{good}
use Rattle.st_program.specs.Names.{Names}
use Rattle.schedule_reader.specs.Settings.{Settings, is_set, unset_in}
use Rattle.schedule_grammar.specs.Rules.{found_at, variable_of, name_rules}
use Rattle.schedule_grammar.proofs.Closed.{Judged, both_refuse, breaks_at}

module _ (names : Names) (store : Settings) where
  abbrev pub at_variable : {A : Type 0} → Result A (Stop Breach) → Stream → Read Breach A
  at_variable (Ok v) s = Ok (v, s)
  at_variable (Err f) s = Err f

  -- the variable that is named, unless it has a value
  abbrev pub chosen : Reader (ℕ × Bool)
  chosen s = cond (is_name (ahead s)) (at_variable (unset_in names store (name_of s)) (behind s)) (Err (refusal s))

  module _ (at : ℕ) where
    abbrev chosen_rules : Label → List (Broken Breach)
    chosen_rules l = name_rules names store (at + 1) l (variable_of names l)

    abbrev Chooses : Label → ℕ × Bool → Type 0
    Chooses l v = variable_of names l ≡ Some v

    abbrev pub JudgedName : Stream → Type 0
    JudgedName s = Judged anything at chosen named (λ l. 1) chosen_rules Chooses s

    refused : (s : Stream) → chosen s ≡ Err (refusal s) → named {X = Breach} s ≡ Err (refusal s) → JudgedName s
    refused s h k = both_refuse anything at chosen named (λ l. 1) chosen_rules Chooses s h k

    pub judged_name : (s : Stream) → JudgedName s
    judged_name (ends p) = refused (ends p) refl refl
    judged_name (breaks f) = refused (breaks f) refl refl
    judged_name (more t s) = at_name (is_name (sign_of t)) refl
      where
        stopped : is_name (sign_of t) ≡ true → (breach : Breach) → chosen_rules (label_of t) ≡ found_at (at + 1) breach ∷ [] → ((after : Stream) → chosen (more t after) ≡ Err (other breach)) → JudgedName (more t s)
        stopped n breach r stops = breaks_at anything at chosen named (λ l. 1) chosen_rules Chooses t [] s (label_of t) (found_at (at + 1) breach) [] refl r (λ after. rw n refl) stops

        at_set : is_name (sign_of t) ≡ true → (v : ℕ × Bool) → variable_of names (label_of t) ≡ Some v → (b : Bool) → is_set store v.0 ≡ b → JudgedName (more t s)
        at_set n v e true k = stopped n (broke rules.Twice t.start) (rw (e, k) refl) (λ after. rw (n, e, k) refl)
        at_set n v e false k = good (t ∷ []) (label_of t) v s refl (λ after h. rw n refl) (λ after h. rw (n, e, k) refl) refl (rw (e, k) refl) e

        at_there : is_name (sign_of t) ≡ true → (o : Option (ℕ × Bool)) → variable_of names (label_of t) ≡ o → JudgedName (more t s)
        at_there n None e = stopped n (broke rules.Unknown t.start) (rw e refl) (λ after. rw (n, e) refl)
        at_there n (Some v) e = at_set n v e (is_set store v.0) refl

        at_name : (b : Bool) → is_name (sign_of t) ≡ b → JudgedName (more t s)
        at_name false n = refused (more t s) (rw n refl) (rw n refl)
        at_name true n = at_there n (variable_of names (label_of t)) refl
