-- The laws of whole scripts and diagrams.
use Rattle.std.proofs.Common.{◌≡◌, ℕ, List, [], Ok, subst}
use Rattle.st_tokens.specs.Stream.{Lexeme}
use Rattle.temporal_goals.specs.Texts.{PlainDiagram, PlainStep}
use Rattle.temporal_goals.specs.declared.diagrams.DiagramKind.{DiagramKind}
use Rattle.proof_script.specs.Listing.{Setting}
use Rattle.proof_script.specs.Script.{script_spelled}
use Rattle.proof_grammar.specs.Drawings.{IsDrawing}
use Rattle.proof_grammar.specs.Grammar.{IsScript}
use Rattle.proof_grammar.proofs.Scripts.{read_scripts_are_spelled, spelled_scripts_are_read}
use Rattle.script_grammar.specs.Theorems.{ScriptsAreLawful, SpellsLawfully, DiagramsAreLawful, DrawsLawfully}
use Rattle.script_grammar.proofs.DrawnTrees.{drawing_tree, drawing_lawful}
use Rattle.script_grammar.proofs.StepTrees.{script_tree, script_lawful}

read_is_lawful : (g : Setting) (text : List ℕ) (steps : List PlainStep) → script_spelled g.names g.system text ≡ Ok steps → SpellsLawfully g text steps
read_is_lawful g text steps h =
    let l = read_scripts_are_spelled g text steps h in
    let p = script_tree g [] l.0 steps tt l.3 in
    record { tokens = l.0; place = l.1; has = l.2; raw = p.raw; spells = p.spells; lawful = p.lawful 0; means = p.means }

lawful_is_read : (g : Setting) (text : List ℕ) (steps : List PlainStep) → SpellsLawfully g text steps → script_spelled g.names g.system text ≡ Ok steps
lawful_is_read g text steps l =
    let script : IsScript g [] l.tokens steps = subst (IsScript g [] l.tokens) l.means (script_lawful g [] l.tokens l.raw 0 l.spells l.lawful) in
    spelled_scripts_are_read g text steps (l.tokens, l.place, l.has, script)

pub scripts_are_lawful : ScriptsAreLawful
scripts_are_lawful g text steps = (read_is_lawful g text steps, lawful_is_read g text steps)

drawn_is_lawful : (g : Setting) (kind : DiagramKind) (highest : ℕ) (ts : List Lexeme) (d : PlainDiagram) → IsDrawing g kind highest ts d → DrawsLawfully g kind highest ts d
drawn_is_lawful g kind highest ts d l = let p = drawing_tree g kind highest ts d l in record { raw = p.raw; spells = p.spells; lawful = p.lawful 0; means = p.means }

lawful_is_drawn : (g : Setting) (kind : DiagramKind) (highest : ℕ) (ts : List Lexeme) (d : PlainDiagram) → DrawsLawfully g kind highest ts d → IsDrawing g kind highest ts d
lawful_is_drawn g kind highest ts d l = subst (IsDrawing g kind highest ts) l.means (drawing_lawful g kind highest ts l.raw 0 l.spells l.lawful)

pub diagrams_are_lawful : DiagramsAreLawful
diagrams_are_lawful g kind highest ts d = (drawn_is_lawful g kind highest ts d, lawful_is_drawn g kind highest ts d)
