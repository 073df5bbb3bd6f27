-- The grammar of scripts: which token lists stand for which steps, one constructor for each production. `g` is the program:
-- its names and its transitions. One text behind another is `a ++ b`; a rule of the language stands at what it is about.
use Rattle.std.specs.Prelude.{List, [], length, ℕ, ◌++◌, ◌-◌, ◌∷◌, ◌≡◌, ◌≤◌}
use Rattle.st_tokens.specs.Stream.{Lexeme, ends, text_stream, ◌++>◌}
use Rattle.st_reading.specs.Spelling.{Is, Items, Row}
use Rattle.st_reading.specs.declared.mark.Mark.TheVariants as marks
use Rattle.st_linear.specs.Linear.{Linear}
use Rattle.st_form.specs.Formula.{Formula}
use Rattle.temporal_goals.specs.Texts.{PlainDiagram, PlainGoal, PlainRule, PlainStep, basic, diagram, invariant, levels, response, stronger, waiting}
use Rattle.temporal_goals.specs.declared.diagrams.DiagramKind.TheVariants.{Wait}
use Rattle.proof_script.specs.Listing.{Setting}
use Rattle.proof_grammar.specs.Drawings.{IsDrawing}
use Rattle.st_reading.specs.Phrases.{After}
use Rattle.proof_grammar.specs.Rules.{IsRule}
use Rattle.proof_grammar.specs.Units.{IsCited, IsFormula, IsNewName, IsNumber}

module _ (g : Setting) where
  -- GOALS, EACH WITH ITS RULE
  -- expr [ "by" expr ]
  pub data IsInvariance : List Lexeme → PlainGoal × PlainRule → Type 0 where
    by_itself : (a : List Lexeme) (p : Formula) → IsFormula g a p → IsInvariance a (invariant p, basic)
    by_stronger : (a b : List Lexeme) (p f : Formula) → IsFormula g a p → After marks.By (IsFormula g) b f → IsInvariance (a ++ b) (invariant p, stronger f)

  -- expr "==>" expr "wait" expr { "wait" expr }, at most 64 formulas behind "==>"
  pub data IsWaitingGoal : List Lexeme → Formula × List Formula → Type 0 where
    waiting_goal : (a b c d : List Lexeme) (p q r : Formula) (qs : List Formula)
        → IsFormula g a p → After marks.Unless (IsFormula g) b q → After marks.Wait (IsFormula g) c r → Items marks.Wait (IsFormula g) d qs → length (q ∷ r ∷ qs) ≤ 64
        → IsWaitingGoal (a ++ (b ++ (c ++ d))) (p, q ∷ r ∷ qs)

  -- expr { "," expr } | "diagram" "wait" drawing, for a goal with so many formulas behind "==>": as many levels
  pub data IsWaitingRule (count : ℕ) : List Lexeme → PlainRule → Type 0 where
    by_levels : (ts : List Lexeme) (ls : List Formula) → Row marks.Comma (IsFormula g) ts ls → length ls ≡ count → IsWaitingRule count ts (levels ls)
    by_wait_diagram : (t u : Lexeme) (ts : List Lexeme) (d : PlainDiagram) → Is marks.Diagram t → Is marks.Wait u → IsDrawing g Wait (count - 1) ts d → IsWaitingRule count (t ∷ u ∷ ts) (diagram d)

  -- goal "by" rule
  pub data IsWaiting : List Lexeme → PlainGoal × PlainRule → Type 0 where
    waits : (a b : List Lexeme) (w : Formula × List Formula) (x : PlainRule) → IsWaitingGoal a w → After marks.By (IsWaitingRule (length w.1)) b x → IsWaiting (a ++ b) (waiting w.0 w.1, x)

  -- expr "leads" expr "within" sum "by" rule
  pub data IsResponse : List Lexeme → PlainGoal × PlainRule → Type 0 where
    responds : (a b c d : List Lexeme) (p q : Formula) (e : Linear) (x : PlainRule)
        → IsFormula g a p → After marks.Leads (IsFormula g) b q → After marks.Within (IsNumber g) c e → After marks.By (IsRule g) d x
        → IsResponse (a ++ (b ++ (c ++ d))) (response p q e, x)

-- STEPS
-- [ "using" name { "," name } ]
pub data IsUsing (earlier : List PlainStep) : List Lexeme → List ℕ → Type 0 where
  no_using : IsUsing earlier [] []
  using_names : (t : Lexeme) (ts : List Lexeme) (ns : List ℕ) → Is marks.Using t → Row marks.Comma (IsCited earlier) ts ns → IsUsing earlier (t ∷ ts) ns

-- name ":" goal [ using ] ";"
pub data IsNamed (claim : List Lexeme → PlainGoal × PlainRule → Type 0) (earlier : List PlainStep) : List Lexeme → PlainStep → Type 0 where
  named_step : (a b c : List Lexeme) (u : Lexeme) (name : List ℕ) (x : PlainGoal × PlainRule) (cited : List ℕ)
      → IsNewName earlier a name → After marks.Colon claim b x → IsUsing earlier c cited → Is marks.Semicolon u
      → IsNamed claim earlier (a ++ (b ++ (c ++ u ∷ []))) (record { name = name; goal = x.0; rule = x.1; cited = cited })

-- "invariant" .. | "waiting" .. | "response" ..
pub data IsStep (g : Setting) (earlier : List PlainStep) : List Lexeme → PlainStep → Type 0 where
  invariance_step : (t : Lexeme) (ts : List Lexeme) (s : PlainStep) → Is marks.Invariant t → IsNamed (IsInvariance g) earlier ts s → IsStep g earlier (t ∷ ts) s
  waiting_step : (t : Lexeme) (ts : List Lexeme) (s : PlainStep) → Is marks.Waiting t → IsNamed (IsWaiting g) earlier ts s → IsStep g earlier (t ∷ ts) s
  response_step : (t : Lexeme) (ts : List Lexeme) (s : PlainStep) → Is marks.Response t → IsNamed (IsResponse g) earlier ts s → IsStep g earlier (t ∷ ts) s

-- SCRIPTS
-- { step }, behind steps that stand before
pub data IsScript (g : Setting) : List PlainStep → List Lexeme → List PlainStep → Type 0 where
  no_further_step : (before : List PlainStep) → IsScript g before [] before
  a_further_step : (before : List PlainStep) (a b : List Lexeme) (s : PlainStep) (steps : List PlainStep) → IsStep g before a s → IsScript g (before ++ s ∷ []) b steps → IsScript g before (a ++ b) steps

-- the text spells the script, over these names and transitions
abbrev pub SpellsScript : Setting → List ℕ → List PlainStep → Type 0
SpellsScript g text steps = (ts : List Lexeme) × (q : ℕ) × (text_stream text ≡ ts ++> ends q) × IsScript g [] ts steps
