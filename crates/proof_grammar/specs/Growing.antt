-- Texts of proofs that grow at their end.
use Rattle.std.specs.Prelude.{◌≡◌, ℕ, true, List, [], ◌∷◌, ◌++◌, length, Ok}
use Rattle.st_tokens.specs.Text.{is_line_byte}
use Rattle.st_tokens.specs.Stream.{Lexeme, text_stream, shifted, ◌++>◌}
use Rattle.temporal_goals.specs.Texts.{PlainStep}
use Rattle.proof_script.specs.Listing.{Setting}
use Rattle.proof_script.specs.Script.{script_spelled}
use Rattle.proof_grammar.specs.Grammar.{IsScript, SpellsScript}

-- the text spells the script, and what is written behind it takes away nothing of it: its tokens come first
pub record Stands (g : Setting) (text : List ℕ) (steps : List PlainStep) : Type 0 where
  pub tokens : List Lexeme
  pub first : (behind : List ℕ) → text_stream (text ++ behind) ≡ tokens ++> shifted (length text) (text_stream behind)
  pub script : IsScript g [] tokens steps

-- no text
abbrev pub NothingStands : Type 0
NothingStands = (g : Setting) → Stands g [] []

-- what is read stands with a line feed behind it
abbrev pub LinesStand : Type 0
LinesStand = (g : Setting) (text : List ℕ) (steps : List PlainStep) → script_spelled g.names g.system text ≡ Ok steps → Stands g (text ++ 10 ∷ []) steps

-- no byte is a line feed
abbrev pub IsLine : List ℕ → Type 0
IsLine [] = Unit {0}
IsLine (b ∷ bs) = (is_line_byte b ≡ true) × IsLine bs

-- a comment behind it changes nothing
abbrev pub CommentsAddNothing : Type 0
CommentsAddNothing =
    (g : Setting) (text comment : List ℕ) (steps : List PlainStep) → Stands g text steps → IsLine comment → Stands g (text ++ (37 ∷ comment ++ 10 ∷ [])) steps

-- what stands is spelled
abbrev pub StandingIsSpelled : Type 0
StandingIsSpelled = (g : Setting) (text : List ℕ) (steps : List PlainStep) → Stands g text steps → SpellsScript g text steps

-- with more text there are the same steps, and maybe more
abbrev pub ScriptsGoOn : Type 0
ScriptsGoOn =
    (g : Setting) (text behind : List ℕ) (steps longer : List PlainStep) → Stands g text steps → script_spelled g.names g.system (text ++ behind) ≡ Ok longer
    → (further : List PlainStep) × (longer ≡ steps ++ further)
