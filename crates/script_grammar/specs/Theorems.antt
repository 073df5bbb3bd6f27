-- What is promised of the texts of scripts.
use Rattle.std.specs.Prelude.{◌≡◌, ◌↔◌, ℕ, true, List, [], Ok}
use Rattle.st_tokens.specs.Stream.{◌++>◌, Lexeme, ends, text_stream}
use Rattle.temporal_goals.specs.Texts.{PlainDiagram, PlainStep}
use Rattle.temporal_goals.specs.declared.diagrams.DiagramKind.{DiagramKind}
use Rattle.expression_parser.specs.ExpressionTree.{Expr}
use Rattle.expression_parser.specs.Grammar as expressions
use Rattle.proof_script.specs.Listing.{Setting}
use Rattle.proof_script.specs.Script.{script_spelled}
use Rattle.proof_grammar.specs.Drawings.{IsDrawing}
use Rattle.script_grammar.specs.RawScripts.{RawDrawing, RawStep}
use Rattle.script_grammar.specs.Drawings.{IsRawDrawing}
use Rattle.script_grammar.specs.Grammar.{IsRawScript}
use Rattle.script_grammar.specs.Meaning.{drawing_meant, scripted}
use Rattle.script_grammar.specs.Rules.{broken_rules, drawing_rules}

-- formulas and integer expressions with any number of levels: that there are at most 32 is a rule
abbrev pub Forms : List Lexeme → Expr → Type 0
Forms ts e = (n : ℕ) × expressions.SpellsWithin true n ts e

abbrev pub Sums : List Lexeme → Expr → Type 0
Sums ts e = (n : ℕ) × expressions.IsSum true (expressions.Inside true n) ts e

-- the text spells the script: its tokens are those of a tree that breaks no rule, and means this script
pub record SpellsLawfully (g : Setting) (text : List ℕ) (steps : List PlainStep) : Type 0 where
  pub tokens : List Lexeme
  pub place : ℕ
  pub has : text_stream text ≡ tokens ++> ends place
  pub raw : List RawStep
  pub spells : IsRawScript Forms Sums tokens raw
  pub lawful : broken_rules g raw ≡ []
  pub means : scripted g raw ≡ steps

-- A text is read as a script exactly where it spells it lawfully.
abbrev pub ScriptsAreLawful : Type 0
ScriptsAreLawful = (g : Setting) (text : List ℕ) (steps : List PlainStep) → (script_spelled g.names g.system text ≡ Ok steps) ↔ SpellsLawfully g text steps

-- a tree of these tokens that breaks no rule, and means this diagram
pub record DrawsLawfully (g : Setting) (kind : DiagramKind) (highest : ℕ) (tokens : List Lexeme) (d : PlainDiagram) : Type 0 where
  pub raw : RawDrawing
  pub spells : IsRawDrawing Forms Sums kind tokens raw
  pub lawful : drawing_rules g kind highest 0 raw ≡ []
  pub means : drawing_meant g kind raw ≡ d

-- The tokens stand for a diagram exactly where they draw it lawfully.
abbrev pub DiagramsAreLawful : Type 0
DiagramsAreLawful = (g : Setting) (kind : DiagramKind) (highest : ℕ) (tokens : List Lexeme) (d : PlainDiagram) → IsDrawing g kind highest tokens d ↔ DrawsLawfully g kind highest tokens d
