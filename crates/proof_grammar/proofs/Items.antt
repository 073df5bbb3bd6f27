-- The items of a drawing, each over what is drawn before it: read exactly where they are spelled.
use Rattle.std.proofs.Common.{List, Some, [], ap, is_some, length, refl, ℕ, ◌∷◌, ◌≡◌}
use Rattle.st_reading.specs.Breaches.{Breach}
use Rattle.st_tokens.specs.Stream.{Lexeme}
use Rattle.st_reading.proofs.ListCompleteness.{Complete}
use Rattle.st_reading.proofs.ListSoundness.{Given, given}
use Rattle.st_reading.specs.Reading.{Turn, goes}
use Rattle.st_reading.specs.Sign.{sign_of}
use Rattle.st_reading.specs.Spelling.{Links, Sound, ended, left, linked}
use Rattle.st_reading.specs.Steady.{anything}
use Rattle.temporal_goals.specs.declared.diagrams.DiagramKind.{DiagramKind}
use Rattle.diagram_reader.specs.Drawing.{item_in, item_of, items_of}
use Rattle.diagram_reader.specs.Drawn.{Drawing, with_edge, with_node, with_terminal}
use Rattle.diagram_reader.specs.declared.item.Item.{Item}
use Rattle.diagram_reader.specs.declared.item.Item.TheVariants as items
use Rattle.proof_script.specs.Listing.{Setting}
use Rattle.proof_grammar.specs.Drawings.{AreItems, IsEdge, IsItem, a_further_item, edge_item, no_further_item, node_item, terminal_item}
use Rattle.proof_grammar.proofs.DrawnNodes.{RoomyNode, node_phrase}
use Rattle.proof_grammar.proofs.Edges.{FirstTerminal, edge_phrase, terminal_phrase}
use Rattle.proof_grammar.proofs.Formulas.{below_limit, drawing_setting, is_below}
use Rattle.proof_grammar.proofs.ItemKinds.{brace, is_free, item_found, item_is, no_item, no_item_at_end}
use Rattle.st_reading.proofs.Phrases.{Made, Phrase, as_phrase, made, map_phrase, the_value}
use Rattle.st_reading.proofs.Rows.{chain_phrase}

module _ (g : Setting) (kind : DiagramKind) (highest : ℕ) where
  -- ITEMS, behind their first token
  abbrev pub Itemed : Item → Drawing → List Lexeme → Drawing → Type 0
  Itemed items.Terminal d = Made (λ f. with_terminal f d) (FirstTerminal g kind highest d.terminal)
  Itemed items.Node d = Made (λ n. with_node n d) (RoomyNode g kind highest d.nodes)
  Itemed items.Edge d = Made (λ e. with_edge e d) (IsEdge g kind highest d.nodes)

  abbrev pub terminal_item_phrase : ℕ → Drawing → Phrase Breach Drawing anything anything
  terminal_item_phrase place d = map_phrase anything anything (λ f. with_terminal f d) (terminal_phrase g kind highest place d.terminal)

  abbrev pub node_item_phrase : ℕ → Drawing → Phrase Breach Drawing anything anything
  node_item_phrase place d = map_phrase anything anything (λ n. with_node n d) (node_phrase g kind highest place d.nodes)

  abbrev pub edge_item_phrase : ℕ → Drawing → Phrase Breach Drawing anything anything
  edge_item_phrase place d = map_phrase anything anything (λ e. with_edge e d) (edge_phrase g kind highest place d.nodes)

  pub item_sound : (item : Item) (place : ℕ) (d : Drawing) → Sound (item_of (drawing_setting g kind highest) item place d) (Itemed item d)
  unfolding item_of
  item_sound items.Terminal place d s x rest h = (terminal_item_phrase place d).sound s x rest h
  item_sound items.Node place d s x rest h = (node_item_phrase place d).sound s x rest h
  item_sound items.Edge place d s x rest h = (edge_item_phrase place d).sound s x rest h

  pub item_complete : (item : Item) (place : ℕ) (d : Drawing) → Complete anything (item_of (drawing_setting g kind highest) item place d) (Itemed item d)
  unfolding item_of
  item_complete items.Terminal place d ts x l after h = (terminal_item_phrase place d).complete ts x l after h
  item_complete items.Node place d ts x l after h = (node_item_phrase place d).complete ts x l after h
  item_complete items.Edge place d ts x l after h = (edge_item_phrase place d).complete ts x l after h

  abbrev pub item_phrase : Item → ℕ → Drawing → Phrase Breach Drawing anything anything
  item_phrase item place d = record { reader = item_of (drawing_setting g kind highest) item place d; language = Itemed item d; sound = item_sound item place d; complete = item_complete item place d; begins = λ ts x l after h. refl }

  abbrev pub item_turn : Item → ℕ → Drawing → Phrase Breach (Turn Drawing Drawing) anything anything
  item_turn item place d = map_phrase anything anything (λ x. goes x) (item_phrase item place d)

  abbrev pub item_links : Drawing → Phrase Breach Drawing anything brace
  item_links = chain_phrase anything brace anything brace item_in no_item_at_end no_item (λ g h. refl) (λ g o e. refl) (λ g h. refl) item_turn (λ d. the_value brace d)

  to_item : (item : Item) (d e : Drawing) (t : Lexeme) (ts : List Lexeme) → item_in (sign_of t) ≡ Some item → Itemed item d ts e → IsItem g kind highest d (t ∷ ts) e
  to_item items.Terminal d e t ts f (made us x l) = terminal_item t us x (item_is (sign_of t) items.Terminal f) (is_free d.terminal l.0) l.1
  to_item items.Node d e t ts f (made us x l) = node_item t us x (item_is (sign_of t) items.Node f) (below_limit (length d.nodes) l.0) l.1
  to_item items.Edge d e t ts f (made us x l) = edge_item t us x (item_is (sign_of t) items.Edge f) l

  pub to_drawn : (d : Drawing) (ts : List Lexeme) (z : Drawing) → Links item_in (λ item place x. (item_turn item place x).language) Given d ts z → AreItems g kind highest d ts z
  to_drawn d ts z (ended x us w given) = no_further_item x
  to_drawn d ts z (left x t o us w e l) = elim l [ ]
  to_drawn d ts z (linked x y t o a b w e (made us v l) rest) = a_further_item x v w (t ∷ us) b (to_item o x v t us e l) (to_drawn v b w rest)

  pub from_drawn : (d : Drawing) (ts : List Lexeme) (z : Drawing) → AreItems g kind highest d ts z → Links item_in (λ item place x. (item_turn item place x).language) Given d ts z
  from_drawn d ts z (no_further_item x) = ended x [] x given
  from_drawn d ts z (a_further_item x y w a b (terminal_item t us f e free l) rest) =
      linked x (with_terminal f x) t items.Terminal us b w (item_found (sign_of t) items.Terminal e) (made us (with_terminal f x) (made us f (ap is_some free, l))) (from_drawn (with_terminal f x) b w rest)
  from_drawn d ts z (a_further_item x y w a b (node_item t us n e few l) rest) =
      linked x (with_node n x) t items.Node us b w (item_found (sign_of t) items.Node e) (made us (with_node n x) (made us n (is_below (length x.nodes) few, l))) (from_drawn (with_node n x) b w rest)
  from_drawn d ts z (a_further_item x y w a b (edge_item t us n e l) rest) =
      linked x (with_edge n x) t items.Edge us b w (item_found (sign_of t) items.Edge e) (made us (with_edge n x) (made us n l)) (from_drawn (with_edge n x) b w rest)

  abbrev pub items_as : Drawing → Phrase Breach Drawing anything brace
  items_as d = as_phrase anything brace (item_links d) (AreItems g kind highest d) (to_drawn d) (from_drawn d)

  pub items_sound : (d : Drawing) → Sound (items_of (drawing_setting g kind highest) d) (AreItems g kind highest d)
  unfolding items_of
  items_sound d = (items_as d).sound

  pub items_complete : (d : Drawing) → Complete brace (items_of (drawing_setting g kind highest) d) (AreItems g kind highest d)
  unfolding items_of
  items_complete d = (items_as d).complete

  abbrev pub items_phrase : Drawing → Phrase Breach Drawing anything brace
  items_phrase d = record { reader = items_of (drawing_setting g kind highest) d; language = AreItems g kind highest d; sound = items_sound d; complete = items_complete d; begins = λ ts x l after h. refl }
