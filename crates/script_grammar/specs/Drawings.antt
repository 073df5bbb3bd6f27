-- The grammar of drawings: which token lists stand for which trees, one constructor for each production. No rule is asked.
-- `Forms` and `Sums` are the languages of formulas and of integer expressions.
use Rattle.std.specs.Prelude.{◌≡◌, ℕ, true, false, List, [], ◌∷◌, ◌++◌, length, Option, Some, None}
use Rattle.st_tokens.specs.Stream.{Lexeme}
use Rattle.st_reading.specs.declared.mark.Mark.TheVariants as marks
use Rattle.st_reading.specs.declared.sign.Sign.TheVariants as signs
use Rattle.st_reading.specs.Sign.{sign_of}
use Rattle.st_reading.specs.Reading.{label_of}
use Rattle.st_reading.specs.Spelling.{Is, IsName, Row}
use Rattle.st_reading.specs.Phrases.{After, Many}
use Rattle.st_form.specs.declared.conditions.Part.{Part}
use Rattle.temporal_goals.specs.declared.diagrams.DiagramKind.{DiagramKind}
use Rattle.expression_parser.specs.ExpressionTree.{Expr}
use Rattle.diagram_reader.specs.Drawn.{has_helpers, has_ranks}
use Rattle.proof_grammar.specs.Units.{IsPart}
use Rattle.script_grammar.specs.RawScripts.{RawUnit, RawTransition, RawNumber, RawDrawnNode, RawEdge, RawItem, raw_terminal, raw_node, raw_edge, RawDrawing}

abbrev pub first_place : List Lexeme → ℕ
first_place [] = 0
first_place (t ∷ ts) = t.start

-- a formula or an integer expression, with its tokens
pub data IsUnit (Spells : List Lexeme → Expr → Type 0) : List Lexeme → RawUnit → Type 0 where
  spells_unit : (ts : List Lexeme) (e : Expr) → Spells ts e → IsUnit Spells ts (record { tree = e; text = ts; place = first_place ts; size = length ts })

-- name [ "." ( "entry" | "exit" ) ]
pub data IsReference : List Lexeme → RawTransition → Type 0 where
  spells_reference : (t : Lexeme) (ts : List Lexeme) (part : Part) → IsName t → IsPart ts part → IsReference (t ∷ ts) (record { label = label_of t; part = part })

-- numeral
pub data IsNumeral : List Lexeme → RawNumber → Type 0 where
  spells_numeral : (t : Lexeme) (n : ℕ) → sign_of t ≡ signs.Numeral n → IsNumeral (t ∷ []) (record { number = n; place = t.start })

-- numeral "->" numeral "on" trans { "," trans } ";"
pub data IsRawEdge : List Lexeme → RawEdge → Type 0 where
  spells_edge : (a b c : List Lexeme) (u : Lexeme) (i j : RawNumber) (on : List RawTransition)
      → IsNumeral a i → After marks.Implies IsNumeral b j → After marks.On (Row marks.Comma IsReference) c on → Is marks.Semicolon u
      → IsRawEdge (a ++ (b ++ (c ++ u ∷ []))) (record { from = i; to = j; on = on })

module _ (Forms Sums : List Lexeme → Expr → Type 0) where
  -- ":" expr ";"
  pub data IsRawTerminal : List Lexeme → RawUnit → Type 0 where
    spells_terminal : (a : List Lexeme) (u : Lexeme) (f : RawUnit) → After marks.Colon (IsUnit Forms) a f → Is marks.Semicolon u → IsRawTerminal (a ++ u ∷ []) f

  module _ (kind : DiagramKind) where
    -- "rank" sum in a rank diagram, and nothing in another
    pub data IsRawRank : List Lexeme → Option RawUnit → Type 0 where
      spells_no_rank : has_ranks kind ≡ false → IsRawRank [] None
      spells_rank : (ts : List Lexeme) (e : RawUnit) → has_ranks kind ≡ true → After marks.Rank (IsUnit Sums) ts e → IsRawRank ts (Some e)

    -- [ "helper" trans ] in a chain or rank diagram, and nothing in a wait diagram
    pub data IsRawHelper : List Lexeme → Option RawTransition → Type 0 where
      spells_no_helper : IsRawHelper [] None
      spells_helper : (ts : List Lexeme) (h : RawTransition) → has_helpers kind ≡ true → After marks.Helper IsReference ts h → IsRawHelper ts (Some h)

    -- numeral ":" expr [ "rank" sum ] [ "helper" trans ] ";"
    pub data IsRawDrawnNode : List Lexeme → RawDrawnNode → Type 0 where
      spells_drawn_node : (a b c d : List Lexeme) (u : Lexeme) (n : RawNumber) (f : RawUnit) (r : Option RawUnit) (h : Option RawTransition)
          → IsNumeral a n → After marks.Colon (IsUnit Forms) b f → IsRawRank c r → IsRawHelper d h → Is marks.Semicolon u
          → IsRawDrawnNode (a ++ (b ++ (c ++ (d ++ u ∷ [])))) (record { number = n; form = f; rank = r; helper = h })

    -- "terminal" .. | "node" .. | "edge" ..
    pub data IsRawItem : List Lexeme → RawItem → Type 0 where
      spells_terminal_item : (t : Lexeme) (ts : List Lexeme) (f : RawUnit) → Is marks.Terminal t → IsRawTerminal ts f → IsRawItem (t ∷ ts) (raw_terminal t.start f)
      spells_node_item : (t : Lexeme) (ts : List Lexeme) (n : RawDrawnNode) → Is marks.Node t → IsRawDrawnNode ts n → IsRawItem (t ∷ ts) (raw_node t.start n)
      spells_edge_item : (t : Lexeme) (ts : List Lexeme) (e : RawEdge) → Is marks.Edge t → IsRawEdge ts e → IsRawItem (t ∷ ts) (raw_edge t.start e)

    -- "{" { item } "}"
    pub data IsRawDrawing : List Lexeme → RawDrawing → Type 0 where
      spells_drawing : (t u : Lexeme) (a : List Lexeme) (xs : List RawItem) → Is marks.OpenBrace t → Many IsRawItem a xs → Is marks.CloseBrace u
          → IsRawDrawing (t ∷ a ++ u ∷ []) (record { items = xs; close = u.start })
