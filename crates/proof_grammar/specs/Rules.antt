-- The grammar of the rules of a response. The short forms stand for nets (`response_rules`).
use Rattle.std.specs.Prelude.{List, Option, [], false, is_none, length, nat_eq, ℕ, ◌&&◌, ◌++◌, ◌∷◌, ◌≡◌, ◌≤◌}
use Rattle.st_tokens.specs.Stream.{Lexeme}
use Rattle.st_reading.specs.Spelling.{Is}
use Rattle.st_reading.specs.declared.mark.Mark.TheVariants as marks
use Rattle.st_linear.specs.Linear.{Linear}
use Rattle.st_form.specs.Formula.{Formula}
use Rattle.temporal_goals.specs.Texts.{PlainDiagram, PlainLevel, PlainNestedNode, PlainNode, PlainRule, diagram, nested, net}
use Rattle.temporal_goals.specs.declared.diagrams.DiagramKind.TheVariants.{Chain, Rank}
use Rattle.response_rules.specs.Forms.{chain_nodes, fair_nodes, ranked_nodes}
use Rattle.proof_script.specs.Listing.{Setting}
use Rattle.proof_grammar.specs.Drawings.{IsDrawing}
use Rattle.st_reading.specs.Phrases.{After, Bracketed, Many, Optional}
use Rattle.proof_grammar.specs.Units.{IsFormula, IsGroup, IsHelper, IsNumber}

module _ (g : Setting) where
  -- ITEMS
  -- expr "helper" trans
  pub data IsHelped : List Lexeme → Formula × ℕ → Type 0 where
    helped : (a b : List Lexeme) (f : Formula) (h : ℕ) → IsFormula g a f → After marks.Helper (IsHelper g) b h → IsHelped (a ++ b) (f, h)

  -- expr "rank" sum "helper" trans
  pub data IsRanked : List Lexeme → Formula × Linear × ℕ → Type 0 where
    ranked : (a b c : List Lexeme) (f : Formula) (e : Linear) (h : ℕ) → IsFormula g a f → After marks.Rank (IsNumber g) b e → After marks.Helper (IsHelper g) c h → IsRanked (a ++ (b ++ c)) (f, e, h)

  -- expr [ "helper" trans ]
  pub data IsFairItem : List Lexeme → Formula × Option ℕ → Type 0 where
    fair_item : (a b : List Lexeme) (f : Formula) (h : Option ℕ) → IsFormula g a f → Optional marks.Helper (IsHelper g) b h → IsFairItem (a ++ b) (f, h)

  -- expr "base" sum "delay" sum "top" sum [ "group" trans ] [ "helper" trans ], with a group or a helper
  pub data IsNode : List Lexeme → PlainNode → Type 0 where
    a_node : (a b c d e k : List Lexeme) (f : Formula) (base delay top : Linear) (group helper : Option ℕ)
        → IsFormula g a f → After marks.Base (IsNumber g) b base → After marks.Delay (IsNumber g) c delay → After marks.Top (IsNumber g) d top
        → Optional marks.Group (IsGroup g) e group → Optional marks.Helper (IsHelper g) k helper → (is_none group && is_none helper) ≡ false
        → IsNode (a ++ (b ++ (c ++ (d ++ (e ++ k))))) (record { form = f; base = base; delay = delay; top = top; group = group; helper = helper })

  -- "base" sum "top" sum "group" trans
  pub data IsLevel : List Lexeme → PlainLevel → Type 0 where
    a_level : (a b c : List Lexeme) (base top : Linear) (group : ℕ)
        → After marks.Base (IsNumber g) a base → After marks.Top (IsNumber g) b top → After marks.Group (IsGroup g) c group
        → IsLevel (a ++ (b ++ c)) (record { base = base; top = top; group = group })

  -- expr { level } "delay" sum [ "helper" trans ], with at most four levels, and a level or a helper
  pub data IsNestedNode : List Lexeme → PlainNestedNode → Type 0 where
    a_nested_node : (a b c d : List Lexeme) (f : Formula) (ls : List PlainLevel) (delay : Linear) (helper : Option ℕ)
        → IsFormula g a f → Many IsLevel b ls → length ls ≤ 4 → After marks.Delay (IsNumber g) c delay → Optional marks.Helper (IsHelper g) d helper → (nat_eq (length ls) 0 && is_none helper) ≡ false
        → IsNestedNode (a ++ (b ++ (c ++ d))) (record { form = f; levels = ls; delay = delay; helper = helper })

  -- RULES
  -- "just" item | "chain" items | "ranked" items | "fair" trans items | "net" nodes | "net" "group" nodes | "diagram" ( "chain" | "rank" ) drawing
  pub data IsRule : List Lexeme → PlainRule → Type 0 where
    by_just : (t : Lexeme) (ts : List Lexeme) (x : Formula × ℕ) → Is marks.Just t → IsHelped ts x → IsRule (t ∷ ts) (net (chain_nodes (x ∷ [])))
    by_chain : (t : Lexeme) (ts : List Lexeme) (xs : List (Formula × ℕ)) → Is marks.Chain t → Bracketed IsHelped ts xs → IsRule (t ∷ ts) (net (chain_nodes xs))
    by_ranks : (t : Lexeme) (ts : List Lexeme) (xs : List (Formula × Linear × ℕ)) → Is marks.Ranked t → Bracketed IsRanked ts xs → IsRule (t ∷ ts) (net (ranked_nodes xs))
    by_compassion : (t : Lexeme) (a b : List Lexeme) (c : ℕ) (xs : List (Formula × Option ℕ)) → Is marks.Fair t → IsGroup g a c → Bracketed IsFairItem b xs → IsRule (t ∷ a ++ b) (net (fair_nodes c xs))
    by_net : (t : Lexeme) (ts : List Lexeme) (ns : List PlainNode) → Is marks.Net t → Bracketed IsNode ts ns → IsRule (t ∷ ts) (net ns)
    by_nested_net : (t u : Lexeme) (ts : List Lexeme) (ns : List PlainNestedNode) → Is marks.Net t → Is marks.Group u → Bracketed IsNestedNode ts ns → IsRule (t ∷ u ∷ ts) (nested ns)
    by_chain_diagram : (t u : Lexeme) (ts : List Lexeme) (d : PlainDiagram) → Is marks.Diagram t → Is marks.Chain u → IsDrawing g Chain 0 ts d → IsRule (t ∷ u ∷ ts) (diagram d)
    by_rank_diagram : (t u : Lexeme) (ts : List Lexeme) (d : PlainDiagram) → Is marks.Diagram t → Is marks.Rank u → IsDrawing g Rank 0 ts d → IsRule (t ∷ u ∷ ts) (diagram d)
