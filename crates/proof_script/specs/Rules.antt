-- How the rule of a response is read: by one helper, a chain of helpers, ranks, the compassion of one transition, a net, a net
-- of nodes in groups one inside the other, or a diagram. The short forms are nets (`response_rules`).
use Rattle.std.specs.Prelude.{ℕ, zero, suc, Bool, ◌&&◌, ◌||◌, cond, nat_eq, List, [], ◌∷◌, ◌++◌, length, Option, Some, None, is_none, Ok, Err}
use Rattle.st_tokens.specs.Stream.{behind}
use Rattle.st_reading.specs.declared.mark.Mark.{Mark}
use Rattle.st_reading.specs.declared.mark.Mark.TheVariants as marks
use Rattle.st_reading.specs.declared.sign.Sign.{Sign}
use Rattle.st_reading.specs.Sign.{is}
use Rattle.st_reading.specs.Reading.{ahead, place_of, refusal, gives, then_reads, on_operator}
use Rattle.st_reading.specs.Rule as rules
use Rattle.st_reading.specs.Breaches.{broke, Reader, unless}
use Rattle.st_linear.specs.Linear.{Linear}
use Rattle.st_form.specs.Formula.{Formula}
use Rattle.temporal_goals.specs.Texts.{PlainNode, PlainLevel, PlainNestedNode, PlainRule, net, diagram, nested}
use Rattle.temporal_goals.specs.declared.diagrams.DiagramKind.{DiagramKind}
use Rattle.temporal_goals.specs.declared.diagrams.DiagramKind.TheVariants as drawings
use Rattle.diagram_reader.specs.Drawing.{diagram_of}
use Rattle.response_rules.specs.Forms.{chain_nodes, ranked_nodes, fair_nodes}
use Rattle.proof_script.specs.declared.rules.Manner.{Manner}
use Rattle.proof_script.specs.declared.rules.Manner.TheVariants as manners
use Rattle.proof_script.specs.Faults.{drawn}
use Rattle.proof_script.specs.Listing.{Setting, optional, behind_mark, bracketed, sum_of, listed_formula_of, just_of, compassionate_of}

-- how a response is proved, by the token behind "by"
abbrev pub manner_in : Sign → Option Manner
manner_in g =
    cond (is g marks.Just) (Some manners.Just) (cond (is g marks.Chain) (Some manners.Chain) (cond (is g marks.Ranked) (Some manners.Ranked)
    (cond (is g marks.Fair) (Some manners.Fair) (cond (is g marks.Net) (Some manners.Net) (cond (is g marks.Diagram) (Some manners.Diagram) None)))))

-- the kind of a response's diagram
abbrev pub kind_in : Sign → Option DiagramKind
kind_in g = cond (is g marks.Chain) (Some drawings.Chain) (cond (is g marks.Rank) (Some drawings.Rank) None)

-- an item of a net or of a list of nodes ends
abbrev pub ends_item : Sign → Bool
ends_item g = is g marks.Semicolon || is g marks.CloseBlock

-- A node that begins at the place has a group or a helper; that it has neither is found at its end.
unfoldable pub completed_of : ℕ → PlainNode → Reader PlainNode
completed_of place n s = cond (ends_item (ahead s)) (unless (is_none n.group && is_none n.helper) (broke rules.NoHelper place) n s) (Err (refusal s))

-- The same of a node of a nested net.
unfoldable pub nested_completed_of : ℕ → PlainNestedNode → Reader PlainNestedNode
nested_completed_of place n s = cond (ends_item (ahead s)) (unless (nat_eq (length n.levels) 0 && is_none n.helper) (broke rules.NoHelper place) n s) (Err (refusal s))

abbrev pub as_net : Reader (List PlainNode) → Reader PlainRule
as_net r = then_reads r (λ ns. gives (net ns))

module _ (g : Setting) where
  -- "helper" trans, where it is wanted; where it may stand; and "group" trans where it may stand
  unfoldable pub wanted_helper_of : Reader ℕ
  wanted_helper_of = behind_mark marks.Helper (just_of g)

  unfoldable pub helper_of : Reader (Option ℕ)
  helper_of = optional marks.Helper (just_of g)

  unfoldable pub group_of : Reader (Option ℕ)
  group_of = optional marks.Group (compassionate_of g)

  -- an integer expression behind its mark
  unfoldable pub weight_of : Mark → Reader Linear
  weight_of mark = behind_mark mark (sum_of g)

  -- expr "helper" trans
  unfoldable pub helped_of : ℕ → Reader (Formula × ℕ)
  helped_of before = then_reads (listed_formula_of g before) (λ f. then_reads wanted_helper_of (λ h. gives (f, h)))

  -- expr "rank" sum "helper" trans
  unfoldable pub ranked_of : ℕ → Reader (Formula × Linear × ℕ)
  ranked_of before = then_reads (listed_formula_of g before) (λ f. then_reads (weight_of marks.Rank) (λ r. then_reads wanted_helper_of (λ h. gives (f, r, h))))

  -- expr [ "helper" trans ]
  unfoldable pub fair_of : ℕ → Reader (Formula × Option ℕ)
  fair_of before = then_reads (listed_formula_of g before) (λ f. then_reads helper_of (λ h. gives (f, h)))

  -- expr "base" sum "delay" sum "top" sum [ "group" trans ] [ "helper" trans ]
  unfoldable pub node_of : ℕ → Reader PlainNode
  node_of before s =
      then_reads (listed_formula_of g before) (λ f. then_reads (weight_of marks.Base) (λ b. then_reads (weight_of marks.Delay) (λ d. then_reads (weight_of marks.Top) (λ t.
      then_reads group_of (λ c. then_reads helper_of (λ h. completed_of (place_of s) (record { form = f; base = b; delay = d; top = t; group = c; helper = h }))))))) s

  -- "base" sum "top" sum "group" trans, behind "base"
  unfoldable pub group_level_of : Reader PlainLevel
  group_level_of = then_reads (sum_of g) (λ b. then_reads (weight_of marks.Top) (λ t. then_reads (behind_mark marks.Group (compassionate_of g)) (λ c. gives (record { base = b; top = t; group = c }))))

  -- at most so many further groups, each inside those before it
  unfoldable pub group_levels_of : ℕ → List PlainLevel → Reader (List PlainLevel)
  group_levels_of zero ls s = Ok (ls, s)
  group_levels_of (suc n) ls s = cond (is (ahead s) marks.Base) (then_reads group_level_of (λ l. group_levels_of n (ls ++ l ∷ [])) (behind s)) (Ok (ls, s))

  -- expr { "base" sum "top" sum "group" trans } "delay" sum [ "helper" trans ], with at most four groups
  unfoldable pub nested_node_of : ℕ → Reader PlainNestedNode
  nested_node_of before s =
      then_reads (listed_formula_of g before) (λ f. then_reads (group_levels_of 4 []) (λ ls. then_reads (weight_of marks.Delay) (λ d. then_reads helper_of (λ h.
      nested_completed_of (place_of s) (record { form = f; levels = ls; delay = d; helper = h }))))) s

  -- one node with its helper, as a chain of one
  unfoldable pub just_nodes_of : Reader (List PlainNode)
  just_nodes_of = then_reads (helped_of 0) (λ x. gives (chain_nodes (x ∷ [])))

  -- "[" .. "]", behind "chain", behind "ranked", and behind "net"
  unfoldable pub chain_nodes_of : Reader (List PlainNode)
  chain_nodes_of = then_reads (bracketed helped_of) (λ items. gives (chain_nodes items))

  unfoldable pub ranked_nodes_of : Reader (List PlainNode)
  ranked_nodes_of = then_reads (bracketed ranked_of) (λ items. gives (ranked_nodes items))

  unfoldable pub nodes_of : Reader (List PlainNode)
  nodes_of = bracketed node_of

  -- behind "net" "group"
  unfoldable pub nested_nodes_of : Reader (List PlainNestedNode)
  nested_nodes_of = bracketed nested_node_of

  -- a net, or behind "group" a nested one
  unfoldable pub net_rule_of : Reader PlainRule
  net_rule_of s = cond (is (ahead s) marks.Group) (then_reads nested_nodes_of (λ ns. gives (nested ns)) (behind s)) (as_net nodes_of s)

  -- trans "[" .. "]", behind "fair"
  unfoldable pub fair_nodes_of : Reader (List PlainNode)
  fair_nodes_of = then_reads (compassionate_of g) (λ t. then_reads (bracketed fair_of) (λ items. gives (fair_nodes t items)))

  -- ( "chain" | "rank" ) drawing
  unfoldable pub response_diagram_of : Reader PlainRule
  response_diagram_of s = on_operator (kind_in (ahead s)) (Err (refusal s)) (λ k. then_reads (λ t. drawn (diagram_of k 0 g.names g.system t)) (λ d. gives (diagram d)) (behind s))

  -- a rule, behind the token that says its manner
  unfoldable pub ruled_of : Manner → Reader PlainRule
  ruled_of manners.Just s = as_net just_nodes_of s
  ruled_of manners.Chain s = as_net chain_nodes_of s
  ruled_of manners.Ranked s = as_net ranked_nodes_of s
  ruled_of manners.Fair s = as_net fair_nodes_of s
  ruled_of manners.Net s = net_rule_of s
  ruled_of manners.Diagram s = response_diagram_of s

  unfoldable pub rule_of : Reader PlainRule
  rule_of s = on_operator (manner_in (ahead s)) (Err (refusal s)) (λ m. ruled_of m (behind s))
