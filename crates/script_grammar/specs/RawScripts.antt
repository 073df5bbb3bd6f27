-- Scripts as they are written, with their places; nothing is judged. Names are words. How many tokens a part has follows from
-- the tree, but for formulas and sums, whose parentheses leave no trace in it; so these have their tokens.
use Rattle.std.specs.Prelude.{ℕ, List, Option}
use Rattle.st_tokens.specs.Stream.{Lexeme}
use Rattle.st_reading.specs.Reading.{Label}
use Rattle.st_form.specs.declared.conditions.Part.{Part}
use Rattle.temporal_goals.specs.declared.diagrams.DiagramKind.{DiagramKind}
use Rattle.expression_parser.specs.ExpressionTree.{Expr}

-- a formula or an integer expression, its tokens, the place of the first of them, and how many there are
pub record RawUnit : Type 0 where
  pub tree : Expr
  pub text : List Lexeme
  pub place : ℕ
  pub size : ℕ

-- name [ "." ( "entry" | "exit" ) ]
pub record RawTransition : Type 0 where
  pub label : Label
  pub part : Part

-- numeral
pub record RawNumber : Type 0 where
  pub number : ℕ
  pub place : ℕ

-- DRAWINGS
-- numeral ":" expr [ "rank" sum ] [ "helper" trans ] ";"
pub record RawDrawnNode : Type 0 where
  pub number : RawNumber
  pub form : RawUnit
  pub rank : Option RawUnit
  pub helper : Option RawTransition

-- numeral "->" numeral "on" trans { "," trans } ";"
pub record RawEdge : Type 0 where
  pub from : RawNumber
  pub to : RawNumber
  pub on : List RawTransition

-- "terminal" ":" expr ";" | "node" .. | "edge" .., with the place of the first token
pub data RawItem : Type 0 where
  raw_terminal : ℕ → RawUnit → RawItem
  raw_node : ℕ → RawDrawnNode → RawItem
  raw_edge : ℕ → RawEdge → RawItem

-- "{" { item } "}", and the place of the "}"
pub record RawDrawing : Type 0 where
  pub items : List RawItem
  pub close : ℕ

-- RULES OF A RESPONSE
-- expr "helper" trans
pub record RawHelped : Type 0 where
  pub form : RawUnit
  pub helper : RawTransition

-- expr "rank" sum "helper" trans
pub record RawRanked : Type 0 where
  pub form : RawUnit
  pub rank : RawUnit
  pub helper : RawTransition

-- expr [ "helper" trans ]
pub record RawFair : Type 0 where
  pub form : RawUnit
  pub helper : Option RawTransition

-- expr "base" sum "delay" sum "top" sum [ "group" trans ] [ "helper" trans ]
pub record RawNode : Type 0 where
  pub form : RawUnit
  pub base : RawUnit
  pub delay : RawUnit
  pub top : RawUnit
  pub group : Option RawTransition
  pub helper : Option RawTransition

-- "base" sum "top" sum "group" trans
pub record RawLevel : Type 0 where
  pub base : RawUnit
  pub top : RawUnit
  pub group : RawTransition

-- expr { level } "delay" sum [ "helper" trans ]
pub record RawNestedNode : Type 0 where
  pub form : RawUnit
  pub levels : List RawLevel
  pub delay : RawUnit
  pub helper : Option RawTransition

-- "just" item | "chain" items | "ranked" items | "fair" trans items | "net" nodes | "net" "group" nodes | "diagram" kind drawing
pub data RawRule : Type 0 where
  raw_just : RawHelped → RawRule
  raw_chain : List RawHelped → RawRule
  raw_ranked : List RawRanked → RawRule
  raw_fair : RawTransition → List RawFair → RawRule
  raw_net : List RawNode → RawRule
  raw_nested : List RawNestedNode → RawRule
  raw_diagram : DiagramKind → RawDrawing → RawRule

-- STEPS
-- expr { "," expr } | "diagram" "wait" drawing
pub data RawWaitingRule : Type 0 where
  raw_levels : List RawUnit → RawWaitingRule
  raw_wait_diagram : RawDrawing → RawWaitingRule

-- expr [ "by" expr ] | expr "==>" expr "wait" expr { "wait" expr } "by" rule, with the place of the "by"
-- | expr "leads" expr "within" sum "by" rule
pub data RawClaim : Type 0 where
  raw_invariance : RawUnit → Option RawUnit → RawClaim
  raw_waiting : RawUnit → List RawUnit → ℕ → RawWaitingRule → RawClaim
  raw_response : RawUnit → RawUnit → RawUnit → RawRule → RawClaim

-- "invariant" | "waiting" | "response", and name ":" claim [ "using" name { "," name } ] ";"
pub record RawStep : Type 0 where
  pub name : Label
  pub claim : RawClaim
  pub cited : List Label
