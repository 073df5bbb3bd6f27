-- The first fault of a text: the first rule that is broken in what begins it, or else where the grammar doesn't go on.
use Rattle.std.specs.Prelude.{◌≡◌, ℕ, List, ◌∷◌, ◌++◌, length}
use Rattle.st_tokens.specs.Stream.{Lexeme, Stream}
use Rattle.st_reading.specs.Reading.{Stop, syntax, broken, other}
use Rattle.st_reading.specs.Breaches.{Breach, crowded}
use Rattle.st_reading.specs.BrokenRules.{BreaksAt, StopsAt}
use Rattle.st_program.specs.Names.{Names}
use Rattle.st_program.specs.Tree.{Processes}
use Rattle.schedule_grammar.specs.RawSchedules.{RawSchedule}
use Rattle.schedule_grammar.specs.Grammar.{IsRawSchedule}
use Rattle.schedule_grammar.specs.Rules.{broken_rules}

-- a fault that the grammar alone has
abbrev pub IsSyntactic : Stop Breach → Type 0
IsSyntactic (syntax place) = Unit {0}
IsSyntactic (broken f) = Unit {0}
IsSyntactic (other breach) = ⊥

-- 1,000 moves are whole, and a further one is begun: its first token stands at the place.
pub record IsBegun (text : List Lexeme) (place : ℕ) : Type 0 where
  pub front : List Lexeme
  pub raw : RawSchedule
  pub spells : IsRawSchedule front raw
  pub many : length raw.moves ≡ 1000
  pub token : Lexeme
  pub others : List Lexeme
  pub is_cut : text ≡ front ++ token ∷ others
  pub named : token.start ≡ place

module _ (names : Names) (p : Processes) (s : Stream) where
  -- a rule is broken in what begins the text
  abbrev pub Breaks : Breach → Type 0
  Breaks = BreaksAt IsRawSchedule (broken_rules names p) s

  -- none is, and the grammar doesn't go on
  abbrev pub Ends : Stop Breach → Type 0
  Ends = StopsAt IsRawSchedule (broken_rules names p) IsSyntactic s

  -- Where the grammar doesn't go on within the 1,001st move, this is one too many.
  pub data IsFirstFault : Stop Breach → Type 0 where
    breaks_rule : (breach : Breach) → Breaks breach → IsFirstFault (other breach)
    goes_no_further : (f : Stop Breach) (stop : Ends f) → ((place : ℕ) → IsBegun stop.first.text place → ⊥) → IsFirstFault f
    too_many : (f : Stop Breach) (stop : Ends f) (place : ℕ) → IsBegun stop.first.text place → IsFirstFault (other (crowded place))
