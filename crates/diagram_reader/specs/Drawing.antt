-- How a diagram is read: one reader for each production, over what the drawing has so far. The first token or formula that is
-- refused decides; a fault of a rule is named where the rule is broken, and found where the token is read that breaks it.
use Rattle.std.specs.Prelude.{ℕ, Bool, true, false, not, cond, ◌&&◌, nat_lt, List, [], ◌∷◌, length, Option, Some, None, is_some, is_none, Ok, Err}
use Rattle.std.specs.Option.{option_map}
use Rattle.st_tokens.specs.Stream.{behind}
use Rattle.st_reading.specs.declared.mark.Mark.TheVariants as marks
use Rattle.st_reading.specs.declared.sign.Sign.{Sign}
use Rattle.st_reading.specs.Sign.{is}
use Rattle.st_tokens.specs.declared.limit.LimitKind.TheVariants as limits
use Rattle.st_reading.specs.Reading.{other, ahead, expected, gives, then_reads, goes, chain, size, further, Turn}
use Rattle.st_reading.specs.Rule as rules
use Rattle.st_reading.specs.Breaches.{broke, limited, Reader, unless, present, numeral_of}
use Rattle.st_linear.specs.Linear.{Linear}
use Rattle.st_form.specs.Formula.{Formula}
use Rattle.st_program.specs.Names.{Names}
use Rattle.transition_system.specs.Systems.{System}
use Rattle.temporal_goals.specs.Texts.{PlainDrawnNode, PlainEdge, PlainDiagram}
use Rattle.temporal_goals.specs.declared.diagrams.DiagramKind.{DiagramKind}
use Rattle.expression_typer.specs.Naming.{names_of}
use Rattle.assertions.specs.Reading.{form_of, linear_of}
use Rattle.diagram_reader.specs.declared.item.Item.{Item}
use Rattle.diagram_reader.specs.declared.item.Item.TheVariants as items
use Rattle.diagram_reader.specs.Faults.{unit_of}
use Rattle.diagram_reader.specs.Transitions.{is_just, transition_of}
use Rattle.diagram_reader.specs.Drawn.{Setting, Drawing, nothing_drawn, with_terminal, with_node, with_edge, diagram_with, is_known, is_above, is_upward, has_ranks, has_helpers}

-- what an item of a drawing begins with
abbrev pub item_in : Sign → Option Item
item_in g = cond (is g marks.Terminal) (Some items.Terminal) (cond (is g marks.Node) (Some items.Node) (cond (is g marks.Edge) (Some items.Edge) None))

-- the number of a known node
unfoldable pub known_of : List PlainDrawnNode → Reader ℕ
known_of nodes s = then_reads numeral_of (λ n. unless (not (is_known n.0 nodes)) (broke rules.UnknownNode n.1) n.0) s

module _ (g : Setting) where
  -- a formula, and an integer expression, over the program's names
  unfoldable pub formula_of : Reader Formula
  formula_of s = unit_of (form_of (names_of g.names) s)

  unfoldable pub sum_of : Reader Linear
  sum_of s = unit_of (linear_of (names_of g.names) s)

  -- the number of a new node, and its place
  unfoldable pub new_number_of : List PlainDrawnNode → Reader (ℕ × ℕ)
  new_number_of nodes s =
      then_reads numeral_of (λ n. then_reads (unless (is_known n.0 nodes) (broke rules.Twice n.1) n) (λ n. unless (is_above g.kind g.levels n.0) (broke rules.UnknownNode n.1) n)) s

  -- "rank" sum, in a rank diagram
  unfoldable pub rank_of : Reader (Option Linear)
  rank_of s = cond (has_ranks g.kind) (then_reads (expected marks.Rank) (λ m. then_reads sum_of (λ f. gives (Some f))) s) (Ok (None, s))

  -- trans: a just transition
  unfoldable pub just_of : Reader ℕ
  just_of s = then_reads (transition_of g.names g.system) (λ t. unless (not (is_just g.system t.0)) (broke rules.UnfairHelper t.1) t.0) s

  -- [ "helper" trans ], in a chain or rank diagram
  unfoldable pub helper_of : Reader (Option ℕ)
  helper_of s = cond (has_helpers g.kind && is (ahead s) marks.Helper) (then_reads just_of (λ h. gives (Some h)) (behind s)) (Ok (None, s))

  -- numeral ":" expr [ "rank" sum ] [ "helper" trans ] ";"
  unfoldable pub numbered_node_of : List PlainDrawnNode → Reader PlainDrawnNode
  numbered_node_of nodes s =
      then_reads (new_number_of nodes) (λ n. then_reads (expected marks.Colon) (λ m. then_reads formula_of (λ f. then_reads rank_of (λ r. then_reads helper_of (λ h. then_reads (expected marks.Semicolon)
      (λ z. unless (has_helpers g.kind && is_none h) (broke rules.NoHelper n.1) (record { number = n.0; form = f; rank = r; helper = h }))))))) s

  -- behind "node", which stands at the place
  unfoldable pub node_of : ℕ → List PlainDrawnNode → Reader PlainDrawnNode
  node_of place nodes s = cond (nat_lt (length nodes) 64) (numbered_node_of nodes s) (Err (other (limited limits.Nodes place)))

  -- a transition, by its number
  unfoldable pub transition_number_of : Reader ℕ
  transition_number_of s = then_reads (transition_of g.names g.system) (λ t. gives t.0) s

  -- trans { "," trans }
  unfoldable pub numbers_of : Reader (List ℕ)
  numbers_of s = then_reads transition_number_of (λ n. further marks.Comma transition_number_of (n ∷ [])) s

  -- behind "edge", which stands at the place: numeral "->" numeral "on" trans { "," trans } ";"
  unfoldable pub edge_of : ℕ → List PlainDrawnNode → Reader PlainEdge
  edge_of place nodes s =
      then_reads (known_of nodes) (λ i. then_reads (expected marks.Implies) (λ m. then_reads (known_of nodes) (λ j. then_reads (unless (is_upward g.kind i j) (broke rules.Upward place) j) (λ j.
      then_reads (expected marks.On) (λ m. then_reads numbers_of (λ on. then_reads (expected marks.Semicolon) (λ z. gives (record { from = i; to = j; on = on })))))))) s

  -- behind "terminal", which stands at the place: ":" expr ";"
  unfoldable pub terminal_of : ℕ → Option Formula → Reader Formula
  terminal_of place before s =
      cond (is_some before) (Err (other (broke rules.Twice place))) (then_reads (expected marks.Colon) (λ m. then_reads formula_of (λ f. then_reads (expected marks.Semicolon) (λ z. gives f))) s)

  -- an item behind its first token, which stands at the place
  unfoldable pub item_of : Item → ℕ → Drawing → Reader Drawing
  item_of items.Terminal place d s = then_reads (terminal_of place d.terminal) (λ f. gives (with_terminal f d)) s
  item_of items.Node place d s = then_reads (node_of place d.nodes) (λ n. gives (with_node n d)) s
  item_of items.Edge place d s = then_reads (edge_of place d.nodes) (λ e. gives (with_edge e d)) s

  abbrev pub turn_of : Item → ℕ → Drawing → Reader (Turn Drawing Drawing)
  turn_of item place d = then_reads (item_of item place d) (λ x. gives (goes x))

  -- { item }
  unfoldable pub items_of : Drawing → Reader Drawing
  items_of d s = chain item_in turn_of gives (size s) d s

  -- "}"
  unfoldable pub closed_of : Drawing → Reader PlainDiagram
  closed_of d s = then_reads (expected marks.CloseBrace) (λ place. present (broke rules.NoTerminal place) (option_map (diagram_with g.kind d) d.terminal)) s

  -- "{" { item } "}"
  unfoldable pub drawing_of : Reader PlainDiagram
  drawing_of s = then_reads (expected marks.OpenBrace) (λ m. then_reads (items_of nothing_drawn) closed_of) s

-- the diagram of this kind at the front of the tokens
abbrev pub diagram_of : DiagramKind → ℕ → Names → System → Reader PlainDiagram
diagram_of kind levels names system = drawing_of (record { kind = kind; levels = levels; names = names; system = system })
