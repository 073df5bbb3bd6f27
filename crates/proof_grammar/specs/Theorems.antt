-- What is promised of the texts of scripts.
use Rattle.std.specs.Prelude.{List, Ok, [], ℕ, ◌≡◌}
use Rattle.st_tokens.specs.Stream.{Lexeme}
use Rattle.temporal_goals.specs.Texts.{PlainStep}
use Rattle.proof_script.specs.Listing.{Setting}
use Rattle.proof_script.specs.Script.{script_spelled}
use Rattle.proof_grammar.specs.Grammar.{IsScript, SpellsScript}

-- no list of tokens stands for two scripts
abbrev pub ScriptsReadOnce : Type 0
ScriptsReadOnce = (g : Setting) (ts : List Lexeme) (xs ys : List PlainStep) → IsScript g [] ts xs → IsScript g [] ts ys → xs ≡ ys

-- what is spelled is read
abbrev pub SpelledScriptsAreRead : Type 0
SpelledScriptsAreRead = (g : Setting) (text : List ℕ) (steps : List PlainStep) → SpellsScript g text steps → script_spelled g.names g.system text ≡ Ok steps

-- what is read is spelled
abbrev pub ReadScriptsAreSpelled : Type 0
ReadScriptsAreSpelled = (g : Setting) (text : List ℕ) (steps : List PlainStep) → script_spelled g.names g.system text ≡ Ok steps → SpellsScript g text steps
