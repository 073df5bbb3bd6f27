-- Transitions, helpers and groups in scripts: read exactly where they are spelled.
use Rattle.std.proofs.Common.{Bool, Err, List, None, Ok, Option, Some, ap, refl, slice_get, subst, sym, true, ℕ, ◌++◌, ◌∙◌, ◌∷◌, ◌≡◌}
use Rattle.std.specs.Option.{option_map}
use Rattle.st_reading.specs.Rule as rules
use Rattle.st_reading.specs.Breaches.{Breach, broke, present}
use Rattle.st_tokens.specs.Stream.{Lexeme, Stream, ◌++>◌}
use Rattle.st_reading.proofs.ListCompleteness.{Complete}
use Rattle.st_reading.proofs.ListSoundness.{sound_named}
use Rattle.st_reading.proofs.Soundness.{split, values}
use Rattle.st_reading.proofs.Streams.{append_stream}
use Rattle.st_reading.specs.Reading.{other, Label, Read, ahead, gives, is_name, named, then_reads}
use Rattle.st_reading.specs.Spelling.{IsName, OneName, Sound, one_name}
use Rattle.st_reading.specs.Steady.{anything}
use Rattle.st_reading.specs.declared.sign.Sign.{Sign}
use Rattle.st_form.specs.declared.conditions.Part.{Part}
use Rattle.rule_fits.specs.Fitting.{fairness_of}
use Rattle.ranked_net.specs.Making.{is_uncompassionate, is_unfair}
use Rattle.diagram_reader.specs.Transitions.{part_of, transition_named, transition_of as drawn_transition}
use Rattle.proof_script.specs.Faults.{drawn}
use Rattle.proof_script.specs.Listing.{Setting, compassionate_of, just_of, transition_of}
use Rattle.proof_grammar.specs.Units.{IsGroup, IsHelper, IsPart, IsTransition, a_group, a_helper, a_transition}
use Rattle.proof_grammar.proofs.Fairness.{compassion_is_owed, compassionate_is, is_owed, just_is}
use Rattle.proof_grammar.proofs.Judgements.{judge_phrase, judged}
use Rattle.proof_grammar.proofs.Parts.{no_dot, part_complete, part_sound}
use Rattle.st_reading.proofs.Phrases.{Phrase, as_phrase, made, map_phrase}

-- WHAT IS DRAWN, READ IN A SCRIPT
undrawn_read : {A : Type 0} (r : Read Breach A) (y : A × Stream) → drawn r ≡ Ok y → r ≡ Ok y
undrawn_read (Ok x) y h = ap Ok (let e : x ≡ y = cc in e)
undrawn_read (Err f) y h = absurd cc

module _ {A : Type 0} (front next : Sign → Bool) (p : Phrase Breach A front next) where
  pub drawn_sound : Sound (λ s. drawn (p.reader s)) p.language
  drawn_sound s x rest h = p.sound s x rest (undrawn_read (p.reader s) (x, rest) h)

  pub drawn_complete : Complete next (λ s. drawn (p.reader s)) p.language
  drawn_complete ts x l after h = ap drawn (p.complete ts x l after h)

  abbrev pub drawn_phrase : Phrase Breach A front next
  drawn_phrase = record { reader = λ s. drawn (p.reader s); language = p.language; sound = drawn_sound; complete = drawn_complete; begins = p.begins }

-- TRANSITIONS
there_is : (place : ℕ) (o : Option ℕ) (y : ℕ × ℕ) (s rest : Stream) → present (broke rules.UnknownTransition place) (option_map (λ n. (n, place)) o) s ≡ Ok (y, rest) → (n : ℕ) × (o ≡ Some n) × ((n, place) ≡ y) × (s ≡ rest)
there_is place None y s rest h = absurd cc
there_is place (Some n) y s rest h = let v = values {X = Breach} (gives (n, place) s) (n, place) y s rest refl h in (n, refl, v.0, v.1)

-- one text behind another
joined_text : (a b : List Lexeme) (s m n rest : Stream) → s ≡ a ++> m → m ≡ b ++> n → n ≡ rest → s ≡ (a ++ b) ++> rest
joined_text a b s m n rest e f h = e ∙ ap (λ z. a ++> z) (f ∙ ap (λ z. b ++> z) h) ∙ sym (append_stream a b rest)

module _ (g : Setting) where
  -- a transition, and the place of its first token
  pub data IsPlaced : List Lexeme → ℕ × ℕ → Type 0 where
    is_placed : (t : Lexeme) (ts : List Lexeme) (part : Part) (n : ℕ) → IsName t → IsPart ts part → transition_named g.names g.system t.text part ≡ Some n → IsPlaced (t ∷ ts) (n, t.start)

  abbrev pub judge_name : Label → Part → Stream → Read Breach (ℕ × ℕ)
  judge_name l part = present (broke rules.UnknownTransition l.place) (option_map (λ n. (n, l.place)) (transition_named g.names g.system l.text part))

  placed_from : (a b : List Lexeme) (l : Label) (part : Part) (n : ℕ) → OneName a l → IsPart b part → transition_named g.names g.system l.text part ≡ Some n → IsPlaced (a ++ b) (n, l.place)
  placed_from a b l part n (one_name t e) p f = is_placed t b part n e p f

  pub named_sound : Sound (drawn_transition g.names g.system) IsPlaced
  unfolding drawn_transition
  named_sound s x rest h =
      let a = split named (λ l. then_reads part_of (judge_name l)) s x rest h in
      let c = sound_named s a.value a.middle a.first in
      let b = split part_of (judge_name a.value) a.middle x rest a.second in
      let d = part_sound a.middle b.value b.middle b.first in
      let f = there_is a.value.place (transition_named g.names g.system a.value.text b.value) x b.middle rest b.second in
      let is : s ≡ (c.text ++ d.text) ++> rest = joined_text c.text d.text s a.middle b.middle rest c.is d.is f.3 in
      record { text = c.text ++ d.text; is = is; spells = subst (IsPlaced (c.text ++ d.text)) f.2 (placed_from c.text d.text a.value b.value f.0 c.spells d.spells f.1) }

  pub named_complete : Complete no_dot (drawn_transition g.names g.system) IsPlaced
  unfolding drawn_transition
  named_complete ts x (is_placed t us part n e p f) after h = let r = part_complete us part p after h in rw (e, r, f) refl

  pub named_begins : (ts : List Lexeme) (x : ℕ × ℕ) → IsPlaced ts x → (after : Stream) → no_dot (ahead after) ≡ true → is_name (ahead (ts ++> after)) ≡ true
  named_begins ts x (is_placed t us part n e p f) after h = e

  abbrev pub placed_transition : Phrase Breach (ℕ × ℕ) is_name no_dot
  placed_transition = record { reader = drawn_transition g.names g.system; language = IsPlaced; sound = named_sound; complete = named_complete; begins = named_begins }

  pub a_name_of : (ts : List Lexeme) (x : ℕ × ℕ) → IsPlaced ts x → IsTransition g ts x.0
  a_name_of ts x (is_placed t us part n e p f) = a_transition t us part n e p f

  -- by its number
  abbrev pub number_parts : Phrase Breach ℕ is_name no_dot
  number_parts = map_phrase is_name no_dot (λ t. t.0) placed_transition

  pub to_number : (ts : List Lexeme) (n : ℕ) → number_parts.language ts n → IsTransition g ts n
  to_number ts n (made us x l) = a_name_of us x l

  pub from_number : (ts : List Lexeme) (n : ℕ) → IsTransition g ts n → number_parts.language ts n
  from_number ts n (a_transition t us part m e p f) = made (t ∷ us) (m, t.start) (is_placed t us part m e p f)

  abbrev pub transition_phrase : Phrase Breach ℕ is_name no_dot
  transition_phrase = as_phrase is_name no_dot number_parts (IsTransition g) to_number from_number

  -- HELPERS
  abbrev pub script_transition : Phrase Breach (ℕ × ℕ) is_name no_dot
  script_transition = drawn_phrase is_name no_dot placed_transition

  abbrev pub helper_parts : Phrase Breach ℕ is_name no_dot
  helper_parts = judge_phrase is_name no_dot anything (λ g h. refl) (λ t. is_unfair g.system (Some t.0)) (λ t. other (broke rules.UnfairHelper t.1)) (λ t. t.0) script_transition

  pub to_helper : (ts : List Lexeme) (n : ℕ) → helper_parts.language ts n → IsHelper g ts n
  to_helper ts n (judged us x l k) = a_helper us x.0 (a_name_of us x l) (just_is (slice_get (fairness_of g.system) x.0) k)

  pub from_helper : (ts : List Lexeme) (n : ℕ) → IsHelper g ts n → helper_parts.language ts n
  from_helper ts n (a_helper us m (a_transition t vs part k e p f) j) = judged (t ∷ vs) (k, t.start) (is_placed t vs part k e p f) (is_owed (slice_get (fairness_of g.system) k) j)

  abbrev pub helper_as : Phrase Breach ℕ is_name no_dot
  helper_as = as_phrase is_name no_dot helper_parts (IsHelper g) to_helper from_helper

  pub helper_sound : Sound (just_of g) (IsHelper g)
  unfolding just_of transition_of
  helper_sound = helper_as.sound

  pub helper_complete : Complete no_dot (just_of g) (IsHelper g)
  unfolding just_of transition_of
  helper_complete = helper_as.complete

  abbrev pub helper_phrase : Phrase Breach ℕ is_name no_dot
  helper_phrase = record { reader = just_of g; language = IsHelper g; sound = helper_sound; complete = helper_complete; begins = helper_as.begins }

  -- GROUPS
  abbrev pub group_parts : Phrase Breach ℕ is_name no_dot
  group_parts = judge_phrase is_name no_dot anything (λ g h. refl) (λ t. is_uncompassionate g.system (Some t.0)) (λ t. other (broke rules.NotCompassionate t.1)) (λ t. t.0) script_transition

  pub to_group : (ts : List Lexeme) (n : ℕ) → group_parts.language ts n → IsGroup g ts n
  to_group ts n (judged us x l k) = a_group us x.0 (a_name_of us x l) (compassionate_is (slice_get (fairness_of g.system) x.0) k)

  pub from_group : (ts : List Lexeme) (n : ℕ) → IsGroup g ts n → group_parts.language ts n
  from_group ts n (a_group us m (a_transition t vs part k e p f) j) = judged (t ∷ vs) (k, t.start) (is_placed t vs part k e p f) (compassion_is_owed (slice_get (fairness_of g.system) k) j)

  abbrev pub group_as : Phrase Breach ℕ is_name no_dot
  group_as = as_phrase is_name no_dot group_parts (IsGroup g) to_group from_group

  pub group_sound : Sound (compassionate_of g) (IsGroup g)
  unfolding compassionate_of transition_of
  group_sound = group_as.sound

  pub group_complete : Complete no_dot (compassionate_of g) (IsGroup g)
  unfolding compassionate_of transition_of
  group_complete = group_as.complete

  abbrev pub group_phrase : Phrase Breach ℕ is_name no_dot
  group_phrase = record { reader = compassionate_of g; language = IsGroup g; sound = group_sound; complete = group_complete; begins = group_as.begins }
