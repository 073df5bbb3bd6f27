-- The grammar of drawings: a terminal node, nodes and edges in any order, each over what is drawn before it.
use Rattle.std.specs.Prelude.{List, None, Option, Some, [], false, length, true, ℕ, ◌++◌, ◌<◌, ◌∷◌, ◌≡◌}
use Rattle.st_tokens.specs.Stream.{Lexeme}
use Rattle.st_reading.specs.Sign.{sign_of}
use Rattle.st_reading.specs.Spelling.{Is, Row}
use Rattle.st_reading.specs.declared.mark.Mark.TheVariants as marks
use Rattle.st_reading.specs.declared.sign.Sign.TheVariants as signs
use Rattle.st_linear.specs.Linear.{Linear}
use Rattle.st_form.specs.Formula.{Formula}
use Rattle.temporal_goals.specs.Texts.{PlainDiagram, PlainDrawnNode, PlainEdge}
use Rattle.temporal_goals.specs.declared.diagrams.DiagramKind.{DiagramKind}
use Rattle.diagram_reader.specs.Drawn.{Drawing, diagram_with, has_helpers, has_ranks, is_above, is_known, is_upward, nothing_drawn, with_edge, with_node, with_terminal}
use Rattle.proof_script.specs.Listing.{Setting}
use Rattle.st_reading.specs.Phrases.{After}
use Rattle.proof_grammar.specs.Units.{IsFormula, IsHelper, IsNumber, IsTransition}

-- numeral: the number of a node that is drawn, or 0, which is the terminal node
pub data IsDrawnNumber (nodes : List PlainDrawnNode) : List Lexeme → ℕ → Type 0 where
  drawn_number : (t : Lexeme) (n : ℕ) → sign_of t ≡ signs.Numeral n → is_known n nodes ≡ true → IsDrawnNumber nodes (t ∷ []) n

-- A drawing of a kind; in a wait diagram nodes have the numbers of levels, of which this is the highest.
module _ (g : Setting) (kind : DiagramKind) (highest : ℕ) where
  -- numeral: the number of a new node
  pub data IsNewNumber (nodes : List PlainDrawnNode) : List Lexeme → ℕ → Type 0 where
    new_number : (t : Lexeme) (n : ℕ) → sign_of t ≡ signs.Numeral n → is_known n nodes ≡ false → is_above kind highest n ≡ false → IsNewNumber nodes (t ∷ []) n

  -- "rank" sum in a rank diagram, and nothing in another
  pub data IsNodeRank : List Lexeme → Option Linear → Type 0 where
    unranked : has_ranks kind ≡ false → IsNodeRank [] None
    node_rank : (ts : List Lexeme) (e : Linear) → has_ranks kind ≡ true → After marks.Rank (IsNumber g) ts e → IsNodeRank ts (Some e)

  -- "helper" trans in a chain or rank diagram, and nothing in a wait diagram
  pub data IsNodeHelper : List Lexeme → Option ℕ → Type 0 where
    unhelped : has_helpers kind ≡ false → IsNodeHelper [] None
    node_helper : (ts : List Lexeme) (h : ℕ) → has_helpers kind ≡ true → After marks.Helper (IsHelper g) ts h → IsNodeHelper ts (Some h)

  -- numeral ":" expr [ "rank" sum ] [ "helper" trans ] ";"
  pub data IsDrawnNode (nodes : List PlainDrawnNode) : List Lexeme → PlainDrawnNode → Type 0 where
    drawn_node : (a b c d : List Lexeme) (u : Lexeme) (n : ℕ) (f : Formula) (r : Option Linear) (h : Option ℕ)
        → IsNewNumber nodes a n → After marks.Colon (IsFormula g) b f → IsNodeRank c r → IsNodeHelper d h → Is marks.Semicolon u
        → IsDrawnNode nodes (a ++ (b ++ (c ++ (d ++ u ∷ [])))) (record { number = n; form = f; rank = r; helper = h })

  -- numeral "->" numeral "on" trans { "," trans } ";"
  pub data IsEdge (nodes : List PlainDrawnNode) : List Lexeme → PlainEdge → Type 0 where
    an_edge : (a b c : List Lexeme) (u : Lexeme) (i j : ℕ) (on : List ℕ)
        → IsDrawnNumber nodes a i → After marks.Implies (IsDrawnNumber nodes) b j → is_upward kind i j ≡ false → After marks.On (Row marks.Comma (IsTransition g)) c on → Is marks.Semicolon u
        → IsEdge nodes (a ++ (b ++ (c ++ u ∷ []))) (record { from = i; to = j; on = on })

  -- ":" expr ";"
  pub data IsTerminal : List Lexeme → Formula → Type 0 where
    a_terminal : (a : List Lexeme) (u : Lexeme) (f : Formula) → After marks.Colon (IsFormula g) a f → Is marks.Semicolon u → IsTerminal (a ++ u ∷ []) f

  -- "terminal" .. | "node" .. | "edge" ..: at most one terminal node, and at most 64 others
  pub data IsItem (d : Drawing) : List Lexeme → Drawing → Type 0 where
    terminal_item : (t : Lexeme) (ts : List Lexeme) (f : Formula) → Is marks.Terminal t → d.terminal ≡ None → IsTerminal ts f → IsItem d (t ∷ ts) (with_terminal f d)
    node_item : (t : Lexeme) (ts : List Lexeme) (n : PlainDrawnNode) → Is marks.Node t → length d.nodes < 64 → IsDrawnNode d.nodes ts n → IsItem d (t ∷ ts) (with_node n d)
    edge_item : (t : Lexeme) (ts : List Lexeme) (e : PlainEdge) → Is marks.Edge t → IsEdge d.nodes ts e → IsItem d (t ∷ ts) (with_edge e d)

  -- { item }
  pub data AreItems : Drawing → List Lexeme → Drawing → Type 0 where
    no_further_item : (d : Drawing) → AreItems d [] d
    a_further_item : (d e z : Drawing) (a b : List Lexeme) → IsItem d a e → AreItems e b z → AreItems d (a ++ b) z

  -- "{" { item } "}", with a terminal node
  pub data IsDrawing : List Lexeme → PlainDiagram → Type 0 where
    a_drawing : (t u : Lexeme) (a : List Lexeme) (d : Drawing) (f : Formula) → Is marks.OpenBrace t → AreItems nothing_drawn a d → Is marks.CloseBrace u → d.terminal ≡ Some f → IsDrawing (t ∷ a ++ u ∷ []) (diagram_with kind d f)
