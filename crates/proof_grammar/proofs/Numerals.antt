-- Numerals of a drawing: new numbers of nodes, and those of nodes that are drawn. Read exactly where they are spelled.
use Rattle.std.proofs.Common.{Err, List, None, Ok, Option, Some, [], ap, false, not, refl, sym, ℕ, ◌∷◌, ◌≡◌}
use Rattle.st_reading.specs.Rule as rules
use Rattle.st_reading.specs.Breaches.{Breach, broke, numeral_in, numeral_of}
use Rattle.st_tokens.specs.Stream.{Lexeme, breaks, ends, more}
use Rattle.st_reading.proofs.ListCompleteness.{Complete}
use Rattle.st_reading.proofs.Soundness.{taken}
use Rattle.st_reading.specs.Reading.{Read, gives, on_operator, other, refusal}
use Rattle.st_reading.specs.Sign.{sign_of}
use Rattle.st_reading.specs.Spelling.{Cut, Sound, behind_it}
use Rattle.st_reading.specs.Steady.{anything}
use Rattle.st_reading.specs.declared.sign.Sign.{Sign}
use Rattle.st_reading.specs.declared.sign.Sign.TheVariants as signs
use Rattle.temporal_goals.specs.Texts.{PlainDrawnNode}
use Rattle.temporal_goals.specs.declared.diagrams.DiagramKind.{DiagramKind}
use Rattle.diagram_reader.specs.Drawing.{known_of, new_number_of}
use Rattle.diagram_reader.specs.Drawn.{is_above, is_known}
use Rattle.proof_script.specs.Listing.{Setting}
use Rattle.proof_grammar.specs.Drawings.{IsDrawnNumber, IsNewNumber, drawn_number, new_number}
use Rattle.proof_grammar.proofs.Formulas.{drawing_setting}
use Rattle.proof_grammar.proofs.Judgements.{admit_phrase, admits, judge_phrase, judged}
use Rattle.basic_laws.proofs.Truths.{not_false}
use Rattle.st_reading.proofs.Phrases.{Phrase, as_phrase, then_phrase}

-- a numeral, and its place
pub data IsNumeral : List Lexeme → ℕ × ℕ → Type 0 where
  a_numeral : (t : Lexeme) (n : ℕ) → sign_of t ≡ signs.Numeral n → IsNumeral (t ∷ []) (n, t.start)

is_numeral : (g : Sign) (n : ℕ) → numeral_in g ≡ Some n → g ≡ signs.Numeral n
is_numeral signs.Name n h = absurd cc
is_numeral (signs.Numeral k) n h = let e : k ≡ n = cc in ap signs.Numeral e
is_numeral signs.Other n h = absurd cc
is_numeral signs.Nothing n h = absurd cc
is_numeral (signs.Marked k) n h = absurd cc

pub numeral_sound : Sound numeral_of IsNumeral
unfolding numeral_of
numeral_sound (ends place) x rest h = absurd cc
numeral_sound (breaks f) x rest h = absurd cc
numeral_sound (more t s) x rest h = at_sign (numeral_in (sign_of t)) refl h
  where
    at_sign : (o : Option ℕ) → o ≡ numeral_in (sign_of t) → on_operator {A = Read Breach (ℕ × ℕ)} o (Err (refusal (more t s))) (λ n. Ok ((n, t.start), s)) ≡ Ok (x, rest) → Cut IsNumeral (more t s) x rest
    at_sign None e h = absurd cc
    at_sign (Some n) e h = taken {X = Breach} IsNumeral (t ∷ []) (gives (n, t.start) s) (n, t.start) x s rest refl h (a_numeral t n (is_numeral (sign_of t) n (sym e)))

pub numeral_complete : Complete anything numeral_of IsNumeral
unfolding numeral_of
numeral_complete ts x (a_numeral t n e) after h = rw e refl

abbrev pub numeral_phrase : Phrase Breach (ℕ × ℕ) anything anything
numeral_phrase = record { reader = numeral_of; language = IsNumeral; sound = numeral_sound; complete = numeral_complete; begins = λ ts x l after h. refl }

module _ (nodes : List PlainDrawnNode) where
  -- of a node that is drawn
  abbrev pub known_parts : Phrase Breach ℕ anything anything
  known_parts = judge_phrase anything anything anything (λ g h. h) (λ n. not (is_known n.0 nodes)) (λ n. other (broke rules.UnknownNode n.1)) (λ n. n.0) numeral_phrase

  pub to_known : (ts : List Lexeme) (n : ℕ) → known_parts.language ts n → IsDrawnNumber nodes ts n
  to_known ts n (judged us x (a_numeral t k e) f) = drawn_number t k e (not_false (is_known k nodes) f)

  pub from_known : (ts : List Lexeme) (n : ℕ) → IsDrawnNumber nodes ts n → known_parts.language ts n
  from_known ts n (drawn_number t k e f) = judged (t ∷ []) (k, t.start) (a_numeral t k e) (ap not f)

  abbrev pub known_as : Phrase Breach ℕ anything anything
  known_as = as_phrase anything anything known_parts (IsDrawnNumber nodes) to_known from_known

  pub known_number_sound : Sound (known_of nodes) (IsDrawnNumber nodes)
  unfolding known_of
  known_number_sound = known_as.sound

  pub known_number_complete : Complete anything (known_of nodes) (IsDrawnNumber nodes)
  unfolding known_of
  known_number_complete = known_as.complete

  abbrev pub drawn_number_of : Phrase Breach ℕ anything anything
  drawn_number_of = record { reader = known_of nodes; language = IsDrawnNumber nodes; sound = known_number_sound; complete = known_number_complete; begins = λ ts x l after h. refl }

  -- of a new node
  module _ (g : Setting) (kind : DiagramKind) (highest : ℕ) where
    -- with its place
    pub data IsNewNumeral : List Lexeme → ℕ × ℕ → Type 0 where
      new_numeral : (t : Lexeme) (n : ℕ) → sign_of t ≡ signs.Numeral n → is_known n nodes ≡ false → is_above kind highest n ≡ false → IsNewNumeral (t ∷ []) (n, t.start)

    abbrev pub new_number_parts : Phrase Breach (ℕ × ℕ) anything anything
    new_number_parts =
        then_phrase anything anything anything anything (λ g h. h) numeral_phrase (λ n.
        then_phrase anything anything anything anything (λ g h. h) (admit_phrase anything (is_known n.0 nodes) (other (broke rules.Twice n.1)) n) (λ n.
        admit_phrase anything (is_above kind highest n.0) (other (broke rules.UnknownNode n.1)) n))

    pub to_new_number : (ts : List Lexeme) (x : ℕ × ℕ) → new_number_parts.language ts x → IsNewNumeral ts x
    to_new_number ts x (behind_it a b n y (a_numeral t k e) (behind_it c d m z (admits f) (admits i))) = new_numeral t k e f i

    pub from_new_number : (ts : List Lexeme) (x : ℕ × ℕ) → IsNewNumeral ts x → new_number_parts.language ts x
    from_new_number ts x (new_numeral t k e f i) = behind_it (t ∷ []) [] (k, t.start) (k, t.start) (a_numeral t k e) (behind_it [] [] (k, t.start) (k, t.start) (admits f) (admits i))

    abbrev pub new_number_as : Phrase Breach (ℕ × ℕ) anything anything
    new_number_as = as_phrase anything anything new_number_parts IsNewNumeral to_new_number from_new_number

    pub new_number_sound : Sound (new_number_of (drawing_setting g kind highest) nodes) IsNewNumeral
    unfolding new_number_of
    new_number_sound = new_number_as.sound

    pub new_number_complete : Complete anything (new_number_of (drawing_setting g kind highest) nodes) IsNewNumeral
    unfolding new_number_of
    new_number_complete = new_number_as.complete

    abbrev pub new_number_phrase : Phrase Breach (ℕ × ℕ) anything anything
    new_number_phrase = record { reader = new_number_of (drawing_setting g kind highest) nodes; language = IsNewNumeral; sound = new_number_sound; complete = new_number_complete; begins = λ ts x l after h. refl }

    pub plain_number : (ts : List Lexeme) (x : ℕ × ℕ) → IsNewNumeral ts x → IsNewNumber g kind highest nodes ts x.0
    plain_number ts x (new_numeral t n e f i) = new_number t n e f i
