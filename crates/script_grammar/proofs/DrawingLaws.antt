-- Drawings of each kind are refused exactly at their first fault.
use Rattle.std.proofs.Common.{◌≡◌, ℕ, Bool, true, List, [], ◌∷◌, None, Ok, Err, refl}
use Rattle.st_tokens.specs.Stream.{Lexeme, Stream, more}
use Rattle.st_reading.specs.declared.mark.Mark.TheVariants as marks
use Rattle.st_reading.specs.Sign.{sign_of, is}
use Rattle.st_reading.specs.Reading.{syntax, gives}
use Rattle.st_reading.specs.Breaches.{Breach, Reader}
use Rattle.st_reading.specs.Steady.{moves, wider, anything}
use Rattle.st_reading.proofs.Tokens.{among}
use Rattle.st_reading.proofs.LawfulPhrases.{LawfulPhrase}
use Rattle.temporal_goals.specs.declared.diagrams.DiagramKind.{DiagramKind}
use Rattle.temporal_goals.specs.declared.diagrams.DiagramKind.TheVariants.{Wait, Chain, Rank}
use Rattle.expression_parser.specs.Calm.{calm}
use Rattle.expression_parser.proofs.FormulaTheorems.{quiet}
use Rattle.diagram_reader.specs.Drawn.{Drawing}
use Rattle.diagram_reader.specs.Drawing as drawings
use Rattle.diagram_reader.specs.Drawing.{diagram_of}
use Rattle.diagram_reader.specs.declared.item.Item.TheVariants as items
use Rattle.proof_script.specs.Faults.{drawn}
use Rattle.proof_script.specs.Listing.{Setting}
use Rattle.script_grammar.specs.RawScripts.{RawDrawing, RawItem}
use Rattle.script_grammar.specs.Sizes.{drawing_size, item_size}
use Rattle.script_grammar.specs.Rules.{drawing_rules, item_rules}
use Rattle.script_grammar.specs.FirstFaults.{DrawingsFirstFault, drawing_over}
use Rattle.script_grammar.proofs.JudgedItems.{rank_calm}
use Rattle.script_grammar.proofs.Judges.{Judges, Whatever}
use Rattle.script_grammar.proofs.Citations.{step_end}
use Rattle.script_grammar.proofs.DrawnMarks.{Adds, end_calm}
use Rattle.script_grammar.proofs.JudgedNodes.{NodeItem, node_lawful, node_judge, node_so, node_drawn, to_node, from_node}
use Rattle.script_grammar.proofs.DrawnKinds as kinds
use Rattle.script_grammar.proofs.DrawnKinds.{helper_front, helper_fits, helper_or_end, no_helper, no_rank, some_helper, some_rank}
use Rattle.script_grammar.proofs.JudgedDrawings.{drawing_lawful, drawing_so}
use Rattle.script_grammar.proofs.PartLaws.{stops_at_first}

-- WAIT
abbrev pub wait_node : LawfulPhrase Breach RawItem (among (marks.Node ∷ [])) anything
wait_node = node_lawful step_end no_helper (λ g h. h) refl step_end step_end (no_rank step_end) end_calm (λ g h. h) (wider (λ g h. h)) refl

pub to_wait : (ts : List Lexeme) (x : RawItem) → wait_node.phrase.language ts x → NodeItem Wait ts x
to_wait = to_node step_end no_helper (λ g h. h) refl step_end step_end (no_rank step_end) end_calm (λ g h. h) (wider (λ g h. h)) refl Wait (kinds.to_wait_rank step_end) (kinds.from_wait_rank step_end) kinds.to_no_helper kinds.from_no_helper

pub from_wait : (ts : List Lexeme) (x : RawItem) → NodeItem Wait ts x → wait_node.phrase.language ts x
from_wait = from_node step_end no_helper (λ g h. h) refl step_end step_end (no_rank step_end) end_calm (λ g h. h) (wider (λ g h. h)) refl Wait (kinds.to_wait_rank step_end) (kinds.from_wait_rank step_end) kinds.to_no_helper kinds.from_no_helper

abbrev pub wait_drawing : LawfulPhrase Breach RawDrawing (among (marks.OpenBrace ∷ [])) anything
wait_drawing = drawing_lawful Wait wait_node refl to_wait from_wait

module _ (g : Setting) (highest : ℕ) where
  abbrev wait_judge : Drawing → Reader Drawing
  wait_judge d = node_judge step_end no_helper (λ g h. h) refl step_end step_end (no_rank step_end) end_calm (λ g h. h) (wider (λ g h. h)) refl Wait (kinds.to_wait_rank step_end) (kinds.from_wait_rank step_end) kinds.to_no_helper kinds.from_no_helper g highest (gives None) (gives None) (kinds.no_rank_so g step_end) (kinds.no_helper_so g) d

  wait_node_so : (d : Drawing) → Judges anything (wait_judge d) wait_node.phrase.reader item_size (item_rules g Wait highest d) (Adds d)
  wait_node_so d = node_so step_end no_helper (λ g h. h) refl step_end step_end (no_rank step_end) end_calm (λ g h. h) (wider (λ g h. h)) refl Wait (kinds.to_wait_rank step_end) (kinds.from_wait_rank step_end) kinds.to_no_helper kinds.from_no_helper g highest (gives None) (gives None) (kinds.no_rank_so g step_end) (kinds.no_helper_so g) d

  wait_node_drawn : (d : Drawing) (t : Lexeme) (s : Stream) → is (sign_of t) marks.Node ≡ true → drawn (drawings.item_of (drawing_over g Wait highest) items.Node t.start d s) ≡ wait_judge d (more t s)
  wait_node_drawn d = node_drawn step_end no_helper (λ g h. h) refl step_end step_end (no_rank step_end) end_calm (λ g h. h) (wider (λ g h. h)) refl Wait (kinds.to_wait_rank step_end) (kinds.from_wait_rank step_end) kinds.to_no_helper kinds.from_no_helper g highest (gives None) (gives None) (kinds.no_rank_so g step_end) (kinds.no_helper_so g) d (kinds.wait_rank_drawn g highest) (kinds.wait_helper_drawn g highest)

  pub wait_so : Judges anything (λ s. drawn (drawings.drawing_of (drawing_over g Wait highest) s)) wait_drawing.phrase.reader drawing_size (drawing_rules g Wait highest) Whatever
  wait_so = drawing_so Wait wait_node refl to_wait from_wait g highest wait_judge wait_node_so wait_node_drawn

-- CHAIN
abbrev pub chain_node : LawfulPhrase Breach RawItem (among (marks.Node ∷ [])) anything
chain_node = node_lawful helper_front some_helper helper_fits refl helper_front helper_front (no_rank helper_front) helper_or_end (λ g h. h) (wider (λ g h. h)) refl

pub to_chain : (ts : List Lexeme) (x : RawItem) → chain_node.phrase.language ts x → NodeItem Chain ts x
to_chain = to_node helper_front some_helper helper_fits refl helper_front helper_front (no_rank helper_front) helper_or_end (λ g h. h) (wider (λ g h. h)) refl Chain (kinds.to_chain_rank helper_front) (kinds.from_chain_rank helper_front) kinds.to_chain_helper kinds.from_chain_helper

pub from_chain : (ts : List Lexeme) (x : RawItem) → NodeItem Chain ts x → chain_node.phrase.language ts x
from_chain = from_node helper_front some_helper helper_fits refl helper_front helper_front (no_rank helper_front) helper_or_end (λ g h. h) (wider (λ g h. h)) refl Chain (kinds.to_chain_rank helper_front) (kinds.from_chain_rank helper_front) kinds.to_chain_helper kinds.from_chain_helper

abbrev pub chain_drawing : LawfulPhrase Breach RawDrawing (among (marks.OpenBrace ∷ [])) anything
chain_drawing = drawing_lawful Chain chain_node refl to_chain from_chain

module _ (g : Setting) (highest : ℕ) where
  abbrev chain_judge : Drawing → Reader Drawing
  chain_judge d = node_judge helper_front some_helper helper_fits refl helper_front helper_front (no_rank helper_front) helper_or_end (λ g h. h) (wider (λ g h. h)) refl Chain (kinds.to_chain_rank helper_front) (kinds.from_chain_rank helper_front) kinds.to_chain_helper kinds.from_chain_helper g highest (gives None) (kinds.helper_judge g) (kinds.no_rank_so g helper_front) (kinds.some_helper_so g) d

  chain_node_so : (d : Drawing) → Judges anything (chain_judge d) chain_node.phrase.reader item_size (item_rules g Chain highest d) (Adds d)
  chain_node_so d = node_so helper_front some_helper helper_fits refl helper_front helper_front (no_rank helper_front) helper_or_end (λ g h. h) (wider (λ g h. h)) refl Chain (kinds.to_chain_rank helper_front) (kinds.from_chain_rank helper_front) kinds.to_chain_helper kinds.from_chain_helper g highest (gives None) (kinds.helper_judge g) (kinds.no_rank_so g helper_front) (kinds.some_helper_so g) d

  chain_node_drawn : (d : Drawing) (t : Lexeme) (s : Stream) → is (sign_of t) marks.Node ≡ true → drawn (drawings.item_of (drawing_over g Chain highest) items.Node t.start d s) ≡ chain_judge d (more t s)
  chain_node_drawn d = node_drawn helper_front some_helper helper_fits refl helper_front helper_front (no_rank helper_front) helper_or_end (λ g h. h) (wider (λ g h. h)) refl Chain (kinds.to_chain_rank helper_front) (kinds.from_chain_rank helper_front) kinds.to_chain_helper kinds.from_chain_helper g highest (gives None) (kinds.helper_judge g) (kinds.no_rank_so g helper_front) (kinds.some_helper_so g) d (kinds.chain_rank_drawn g highest) (kinds.chain_helper_drawn g highest)

  pub chain_so : Judges anything (λ s. drawn (drawings.drawing_of (drawing_over g Chain highest) s)) chain_drawing.phrase.reader drawing_size (drawing_rules g Chain highest) Whatever
  chain_so = drawing_so Chain chain_node refl to_chain from_chain g highest chain_judge chain_node_so chain_node_drawn

-- RANK
abbrev pub rank_node : LawfulPhrase Breach RawItem (among (marks.Node ∷ [])) anything
rank_node = node_lawful helper_front some_helper helper_fits refl (among (marks.Rank ∷ [])) calm some_rank rank_calm helper_or_end (moves quiet (syntax 0) refl) refl

pub to_rank : (ts : List Lexeme) (x : RawItem) → rank_node.phrase.language ts x → NodeItem Rank ts x
to_rank = to_node helper_front some_helper helper_fits refl (among (marks.Rank ∷ [])) calm some_rank rank_calm helper_or_end (moves quiet (syntax 0) refl) refl Rank kinds.to_rank_rank kinds.from_rank_rank kinds.to_rank_helper kinds.from_rank_helper

pub from_rank : (ts : List Lexeme) (x : RawItem) → NodeItem Rank ts x → rank_node.phrase.language ts x
from_rank = from_node helper_front some_helper helper_fits refl (among (marks.Rank ∷ [])) calm some_rank rank_calm helper_or_end (moves quiet (syntax 0) refl) refl Rank kinds.to_rank_rank kinds.from_rank_rank kinds.to_rank_helper kinds.from_rank_helper

abbrev pub rank_drawing : LawfulPhrase Breach RawDrawing (among (marks.OpenBrace ∷ [])) anything
rank_drawing = drawing_lawful Rank rank_node refl to_rank from_rank

module _ (g : Setting) (highest : ℕ) where
  abbrev rank_judge : Drawing → Reader Drawing
  rank_judge d = node_judge helper_front some_helper helper_fits refl (among (marks.Rank ∷ [])) calm some_rank rank_calm helper_or_end (moves quiet (syntax 0) refl) refl Rank kinds.to_rank_rank kinds.from_rank_rank kinds.to_rank_helper kinds.from_rank_helper g highest (kinds.rank_judge g) (kinds.helper_judge g) (kinds.some_rank_so g) (kinds.some_helper_so g) d

  rank_node_so : (d : Drawing) → Judges anything (rank_judge d) rank_node.phrase.reader item_size (item_rules g Rank highest d) (Adds d)
  rank_node_so d = node_so helper_front some_helper helper_fits refl (among (marks.Rank ∷ [])) calm some_rank rank_calm helper_or_end (moves quiet (syntax 0) refl) refl Rank kinds.to_rank_rank kinds.from_rank_rank kinds.to_rank_helper kinds.from_rank_helper g highest (kinds.rank_judge g) (kinds.helper_judge g) (kinds.some_rank_so g) (kinds.some_helper_so g) d

  rank_node_drawn : (d : Drawing) (t : Lexeme) (s : Stream) → is (sign_of t) marks.Node ≡ true → drawn (drawings.item_of (drawing_over g Rank highest) items.Node t.start d s) ≡ rank_judge d (more t s)
  rank_node_drawn d = node_drawn helper_front some_helper helper_fits refl (among (marks.Rank ∷ [])) calm some_rank rank_calm helper_or_end (moves quiet (syntax 0) refl) refl Rank kinds.to_rank_rank kinds.from_rank_rank kinds.to_rank_helper kinds.from_rank_helper g highest (kinds.rank_judge g) (kinds.helper_judge g) (kinds.some_rank_so g) (kinds.some_helper_so g) d (kinds.rank_rank_drawn g highest) (kinds.rank_helper_drawn g highest)

  pub rank_so : Judges anything (λ s. drawn (drawings.drawing_of (drawing_over g Rank highest) s)) rank_drawing.phrase.reader drawing_size (drawing_rules g Rank highest) Whatever
  rank_so = drawing_so Rank rank_node refl to_rank from_rank g highest rank_judge rank_node_so rank_node_drawn

-- THE LAW
pub drawings_first_fault : DrawingsFirstFault
drawings_first_fault g Wait highest = stops_at_first (among (marks.OpenBrace ∷ [])) anything refl wait_drawing (drawing_rules g Wait highest 0) (λ s. drawn (diagram_of Wait highest g.names g.system s)) drawing_size Whatever ((wait_so g highest).judged 0)
drawings_first_fault g Chain highest = stops_at_first (among (marks.OpenBrace ∷ [])) anything refl chain_drawing (drawing_rules g Chain highest 0) (λ s. drawn (diagram_of Chain highest g.names g.system s)) drawing_size Whatever ((chain_so g highest).judged 0)
drawings_first_fault g Rank highest = stops_at_first (among (marks.OpenBrace ∷ [])) anything refl rank_drawing (drawing_rules g Rank highest 0) (λ s. drawn (diagram_of Rank highest g.names g.system s)) drawing_size Whatever ((rank_so g highest).judged 0)
