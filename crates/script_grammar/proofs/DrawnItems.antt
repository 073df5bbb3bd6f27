-- Items of a drawing, by their first tokens: read plainly, with their law.
use Rattle.std.proofs.Common.{◌≡◌, ℕ, ◌+◌, ◌<◌, Bool, true, false, cond, List, [], ◌∷◌, ◌++◌, length, Ok, Err, refl, sym, ap, ◌∙◌, arith}
use Rattle.std.specs.Prelude.{is_some}
use Rattle.st_tokens.specs.Stream.{◌++>◌, Lexeme, Stream, ends, more}
use Rattle.st_reading.specs.declared.mark.Mark.{Mark}
use Rattle.st_reading.specs.declared.mark.Mark.TheVariants as marks
use Rattle.st_reading.specs.declared.sign.Sign.{Sign}
use Rattle.st_reading.specs.declared.sign.Sign.TheVariants as signs
use Rattle.st_reading.specs.Mark.{number}
use Rattle.st_reading.specs.Sign.{sign_of, is}
use Rattle.st_reading.specs.Reading.{Read, syntax, ahead, size}
use Rattle.st_reading.specs.Breaches.{Breach, Reader}
use Rattle.st_reading.specs.Spelling.{Cut, Is, Sound}
use Rattle.st_reading.specs.Steady.{head, Viable, SteadyAt, moves, anything}
use Rattle.st_reading.proofs.Streams.{ahead_same}
use Rattle.st_reading.proofs.Tokens.{among, alone, at_mark}
use Rattle.st_reading.proofs.Soundness.{sound_shrinks}
use Rattle.st_reading.proofs.Lawful.{at_head, viable_of}
use Rattle.st_reading.proofs.ListCompleteness.{Complete}
use Rattle.st_reading.proofs.Whiles.{stream_size}
use Rattle.st_reading.proofs.LawfulPhrases.{LawfulPhrase}
use Rattle.temporal_goals.specs.declared.diagrams.DiagramKind.{DiagramKind}
use Rattle.script_grammar.specs.RawScripts.{RawItem}
use Rattle.script_grammar.specs.Drawings.{IsRawItem, spells_terminal_item, spells_node_item, spells_edge_item}
use Rattle.script_grammar.specs.Theorems.{Forms, Sums}
use Rattle.script_grammar.proofs.JudgedTerminals.{terminal_lawful, TerminalItem, terminal_item, to_terminal, from_terminal}
use Rattle.script_grammar.proofs.JudgedNodes.{NodeItem, node_item}
use Rattle.script_grammar.proofs.JudgedEdges.{edge_lawful, EdgeItem, edge_item, to_edge, from_edge}

-- a token is one mark at most
pub node_no_terminal : (g : Sign) → is g marks.Node ≡ true → is g marks.Terminal ≡ false
unfolding number
node_no_terminal g e = at_mark (λ u. is u marks.Terminal) false marks.Node refl g e

pub edge_no_terminal : (g : Sign) → is g marks.Edge ≡ true → is g marks.Terminal ≡ false
unfolding number
edge_no_terminal g e = at_mark (λ u. is u marks.Terminal) false marks.Edge refl g e

pub edge_no_node : (g : Sign) → is g marks.Edge ≡ true → is g marks.Node ≡ false
unfolding number
edge_no_node g e = at_mark (λ u. is u marks.Node) false marks.Edge refl g e

module _ (kind : DiagramKind) (node : LawfulPhrase Breach RawItem (among (marks.Node ∷ [])) anything) (needs : node.phrase.reader (ends 0) ≡ Err (syntax 0)) (to_node : (ts : List Lexeme) (x : RawItem) → node.phrase.language ts x → NodeItem kind ts x)
    (from_node : (ts : List Lexeme) (x : RawItem) → NodeItem kind ts x → node.phrase.language ts x) where
  abbrev pub Item : List Lexeme → RawItem → Type 0
  Item = IsRawItem Forms Sums kind

  abbrev picked : Bool → Bool → Reader RawItem
  picked b c s = cond b (terminal_lawful.phrase.reader s) (cond c (node.phrase.reader s) (edge_lawful.phrase.reader s))

  abbrev pub raw_item : Reader RawItem
  raw_item s = picked (is (ahead s) marks.Terminal) (is (ahead s) marks.Node) s

  from_terminal_item : (ts : List Lexeme) (x : RawItem) → TerminalItem ts x → Item ts x
  from_terminal_item ts x (terminal_item t us f e l) = spells_terminal_item t us f e l

  from_node_item : (ts : List Lexeme) (x : RawItem) → NodeItem kind ts x → Item ts x
  from_node_item ts x (node_item t us n e l) = spells_node_item t us n e l

  from_edge_item : (ts : List Lexeme) (x : RawItem) → EdgeItem ts x → Item ts x
  from_edge_item ts x (edge_item t us o e l) = spells_edge_item t us o e l

  pub item_sound : Sound raw_item Item
  item_sound s x rest h = at_tests (is (ahead s) marks.Terminal) (is (ahead s) marks.Node) h
    where
      at_tests : (b c : Bool) → picked b c s ≡ Ok (x, rest) → Cut Item s x rest
      at_tests true c k = let u = terminal_lawful.phrase.sound s x rest k in record { text = u.text; is = u.is; spells = from_terminal_item u.text x (to_terminal u.text x u.spells) }
      at_tests false true k = let u = node.phrase.sound s x rest k in record { text = u.text; is = u.is; spells = from_node_item u.text x (to_node u.text x u.spells) }
      at_tests false false k = let u = edge_lawful.phrase.sound s x rest k in record { text = u.text; is = u.is; spells = from_edge_item u.text x (to_edge u.text x u.spells) }

  -- by the first token
  pub as_terminal : (s : Stream) → is (ahead s) marks.Terminal ≡ true → raw_item s ≡ terminal_lawful.phrase.reader s
  as_terminal s e = ap (λ b. picked b (is (ahead s) marks.Node) s) e

  pub as_node : (s : Stream) → is (ahead s) marks.Terminal ≡ false → is (ahead s) marks.Node ≡ true → raw_item s ≡ node.phrase.reader s
  as_node s e k = ap (λ b. picked b (is (ahead s) marks.Node) s) e ∙ ap (λ c. picked false c s) k

  pub as_edge : (s : Stream) → is (ahead s) marks.Terminal ≡ false → is (ahead s) marks.Node ≡ false → raw_item s ≡ edge_lawful.phrase.reader s
  as_edge s e k = ap (λ b. picked b (is (ahead s) marks.Node) s) e ∙ ap (λ c. picked false c s) k

  pub item_complete : Complete anything raw_item Item
  item_complete ts x (spells_terminal_item t us f e l) after h = as_terminal (more t (us ++> after)) e ∙ terminal_lawful.phrase.complete (t ∷ us) x (from_terminal (t ∷ us) x (terminal_item t us f e l)) after h
  item_complete ts x (spells_node_item t us n e l) after h = as_node (more t (us ++> after)) (node_no_terminal (sign_of t) e) e ∙ node.phrase.complete (t ∷ us) x (from_node (t ∷ us) x (node_item t us n e l)) after h
  item_complete ts x (spells_edge_item t us o e l) after h = as_edge (more t (us ++> after)) (edge_no_terminal (sign_of t) e) (edge_no_node (sign_of t) e) ∙ edge_lawful.phrase.complete (t ∷ us) x (from_edge (t ∷ us) x (edge_item t us o e l)) after h

  first_terminal : Viable (among (marks.Terminal ∷ [])) anything terminal_lawful.phrase.reader []
  first_terminal = viable_of (among (marks.Terminal ∷ [])) anything terminal_lawful.phrase.reader (moves refl (syntax 0) refl) (λ i. terminal_lawful.phrase.reader) terminal_lawful.lawful tt

  item_viable : Viable anything anything raw_item []
  item_viable = record {
    others = first_terminal.others;
    spelled = first_terminal.spelled;
    value = first_terminal.value;
    begins = λ n after h. refl;
    reads = λ after h. as_terminal (first_terminal.others ++> after) (alone marks.Terminal (ahead (first_terminal.others ++> after)) (first_terminal.begins refl after h)) ∙ first_terminal.reads after h;
  }

  pub item_law : (s : Stream) → SteadyAt {I = Unit {0}} anything anything raw_item (λ i. raw_item) s
  item_law s = at_tests (is (ahead s) marks.Terminal) (is (ahead s) marks.Node) refl refl
    where
      at_tests : (b c : Bool) → is (ahead s) marks.Terminal ≡ b → is (ahead s) marks.Node ≡ c → SteadyAt {I = Unit {0}} anything anything raw_item (λ i. raw_item) s
      at_tests true c e k =
          at_head anything (among (marks.Terminal ∷ [])) anything refl raw_item terminal_lawful.phrase.reader (λ i. raw_item) (λ i. terminal_lawful.phrase.reader) s
          (λ after h. as_terminal after (ap (λ g. is g marks.Terminal) (ahead_same s after h) ∙ e)) (λ i after h. as_terminal after (ap (λ g. is g marks.Terminal) (ahead_same s after h) ∙ e)) (syntax 0) refl (λ i. item_viable) (terminal_lawful.lawful.law s)
      at_tests false true e k =
          at_head anything (among (marks.Node ∷ [])) anything refl raw_item node.phrase.reader (λ i. raw_item) (λ i. node.phrase.reader) s
          (λ after h. as_node after (ap (λ g. is g marks.Terminal) (ahead_same s after h) ∙ e) (ap (λ g. is g marks.Node) (ahead_same s after h) ∙ k)) (λ i after h. as_node after (ap (λ g. is g marks.Terminal) (ahead_same s after h) ∙ e) (ap (λ g. is g marks.Node) (ahead_same s after h) ∙ k)) (syntax 0) needs
          (λ i. item_viable) (node.lawful.law s)
      at_tests false false e k =
          at_head anything (among (marks.Edge ∷ [])) anything refl raw_item edge_lawful.phrase.reader (λ i. raw_item) (λ i. edge_lawful.phrase.reader) s
          (λ after h. as_edge after (ap (λ g. is g marks.Terminal) (ahead_same s after h) ∙ e) (ap (λ g. is g marks.Node) (ahead_same s after h) ∙ k)) (λ i after h. as_edge after (ap (λ g. is g marks.Terminal) (ahead_same s after h) ∙ e) (ap (λ g. is g marks.Node) (ahead_same s after h) ∙ k)) (syntax 0) refl
          (λ i. item_viable) (edge_lawful.lawful.law s)

  abbrev pub item_lawful : LawfulPhrase Breach RawItem anything anything
  item_lawful = record {
    phrase = record { reader = raw_item; language = Item; sound = item_sound; complete = item_complete; begins = λ ts x l after h. refl };
    lawful = record { law = item_law; one = sound_shrinks raw_item Item item_sound; each = λ i. sound_shrinks raw_item Item item_sound };
  }

  -- each has a token
  pub item_length : (ts : List Lexeme) (x : RawItem) → Item ts x → 0 < length ts
  item_length ts x (spells_terminal_item t us f e l) = omega arith
  item_length ts x (spells_node_item t us n e l) = omega arith
  item_length ts x (spells_edge_item t us o e l) = omega arith

  pub item_strict : (s : Stream) (x : RawItem) (rest : Stream) → raw_item s ≡ Ok (x, rest) → size rest < size s
  item_strict s x rest h = let c = item_sound s x rest h in omega (arith, item_length c.text x c.spells, stream_size c.text rest, ap size c.is)
