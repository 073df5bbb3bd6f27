-- Transitions and helpers in drawings: read exactly where they are spelled.
use Rattle.std.proofs.Common.{List, not, refl, slice_get, ℕ, ◌∷◌}
use Rattle.st_reading.specs.Rule as rules
use Rattle.st_reading.specs.Breaches.{Breach, broke}
use Rattle.st_tokens.specs.Stream.{Lexeme}
use Rattle.st_reading.proofs.ListCompleteness.{Complete}
use Rattle.st_reading.specs.Reading.{is_name, other}
use Rattle.st_reading.specs.Spelling.{Sound}
use Rattle.st_reading.specs.Steady.{anything}
use Rattle.temporal_goals.specs.declared.diagrams.DiagramKind.{DiagramKind}
use Rattle.rule_fits.specs.Fitting.{fairness_of}
use Rattle.diagram_reader.specs.Drawing.{just_of as drawing_just_of, transition_number_of}
use Rattle.diagram_reader.specs.Transitions.{is_just}
use Rattle.proof_script.specs.Listing.{Setting}
use Rattle.proof_grammar.specs.Units.{IsHelper, IsTransition, a_helper, a_transition}
use Rattle.proof_grammar.proofs.Fairness.{drawn_is_owed, drawn_just_is}
use Rattle.proof_grammar.proofs.Formulas.{drawing_setting}
use Rattle.proof_grammar.proofs.Judgements.{judge_phrase, judged}
use Rattle.proof_grammar.proofs.Parts.{no_dot}
use Rattle.st_reading.proofs.Phrases.{Phrase, as_phrase}
use Rattle.proof_grammar.proofs.Transitions.{a_name_of, is_placed, placed_transition, transition_phrase}

module _ (g : Setting) (kind : DiagramKind) (highest : ℕ) where
  pub drawn_number_sound : Sound (transition_number_of (drawing_setting g kind highest)) (IsTransition g)
  unfolding transition_number_of
  drawn_number_sound = (transition_phrase g).sound

  pub drawn_number_complete : Complete no_dot (transition_number_of (drawing_setting g kind highest)) (IsTransition g)
  unfolding transition_number_of
  drawn_number_complete = (transition_phrase g).complete

  abbrev pub drawn_transition_phrase : Phrase Breach ℕ is_name no_dot
  drawn_transition_phrase = record { reader = transition_number_of (drawing_setting g kind highest); language = IsTransition g; sound = drawn_number_sound; complete = drawn_number_complete; begins = (transition_phrase g).begins }

  abbrev pub drawn_helper_parts : Phrase Breach ℕ is_name no_dot
  drawn_helper_parts = judge_phrase is_name no_dot anything (λ g h. refl) (λ t. not (is_just g.system t.0)) (λ t. other (broke rules.UnfairHelper t.1)) (λ t. t.0) (placed_transition g)

  pub to_drawn_helper : (ts : List Lexeme) (n : ℕ) → drawn_helper_parts.language ts n → IsHelper g ts n
  to_drawn_helper ts n (judged us x l k) = a_helper us x.0 (a_name_of g us x l) (drawn_just_is (slice_get (fairness_of g.system) x.0) k)

  pub from_drawn_helper : (ts : List Lexeme) (n : ℕ) → IsHelper g ts n → drawn_helper_parts.language ts n
  from_drawn_helper ts n (a_helper us m (a_transition t vs part k e p f) j) = judged (t ∷ vs) (k, t.start) (is_placed t vs part k e p f) (drawn_is_owed (slice_get (fairness_of g.system) k) j)

  abbrev pub drawn_helper_as : Phrase Breach ℕ is_name no_dot
  drawn_helper_as = as_phrase is_name no_dot drawn_helper_parts (IsHelper g) to_drawn_helper from_drawn_helper

  pub drawn_helper_sound : Sound (drawing_just_of (drawing_setting g kind highest)) (IsHelper g)
  unfolding drawing_just_of
  drawn_helper_sound = drawn_helper_as.sound

  pub drawn_helper_complete : Complete no_dot (drawing_just_of (drawing_setting g kind highest)) (IsHelper g)
  unfolding drawing_just_of
  drawn_helper_complete = drawn_helper_as.complete

  abbrev pub drawn_helper_phrase : Phrase Breach ℕ is_name no_dot
  drawn_helper_phrase = record { reader = drawing_just_of (drawing_setting g kind highest); language = IsHelper g; sound = drawn_helper_sound; complete = drawn_helper_complete; begins = drawn_helper_as.begins }
