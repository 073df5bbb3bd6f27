-- Drawings: items as they follow each other, and the end, by which there has to be a terminal node.
use Rattle.std.proofs.Common.{◌≡◌, ℕ, suc, ◌+◌, ◌<◌, ◌≤◌, Bool, true, false, cond, not, ◌||◌, List, [], ◌∷◌, ◌++◌, length, length-append, Option, Some, None, Ok, Err, refl, sym, ap, subst, ◌∙◌, arith, append-nil, unwrap_or}
use Rattle.std.specs.Prelude.{◌==◌, is_none, is_some, codes}
use Rattle.std.specs.List.{list_any}
use Rattle.std.specs.Option.{option_map}
use Rattle.std.proofs.lemmas.List.Folds.{list_any-append}
use Rattle.st_tokens.specs.declared.kind.TokenKind.TheVariants as kinds
use Rattle.st_tokens.specs.Stream.{◌++>◌, Lexeme, Stream, ends, more}
use Rattle.st_reading.specs.declared.mark.Mark.TheVariants as marks
use Rattle.st_reading.specs.declared.sign.Sign.{Sign}
use Rattle.st_reading.specs.declared.sign.Sign.TheVariants as signs
use Rattle.st_reading.specs.Mark.{number}
use Rattle.st_reading.specs.Rule as rules
use Rattle.st_reading.specs.Sign.{sign_of, is, declaring_word, basic_word, compound_word, step_word, rule_word, drawing_word}
use Rattle.st_reading.specs.Reading.{Read, ◌>>=◌, syntax, ahead, size, expected, gives, then_reads, Turn, goes, turned, chain}
use Rattle.st_reading.specs.Breaches.{Breach, Reader, broke, present, unless}
use Rattle.st_reading.specs.BrokenRules.{Broken}
use Rattle.st_reading.specs.Phrases.{Many}
use Rattle.st_reading.specs.Spelling.{Is, Sound, behind_it}
use Rattle.st_reading.specs.Steady.{Within, moves, wider, anything}
use Rattle.st_reading.proofs.Streams.{ahead_same}
use Rattle.st_reading.proofs.Tokens.{among, marks_within}
use Rattle.st_reading.proofs.Phrases.{made}
use Rattle.st_reading.proofs.ListSoundness.{one_mark}
use Rattle.st_reading.proofs.ListCompleteness.{Complete}
use Rattle.st_reading.proofs.Soundness.{Shrinks, sound_shrinks}
use Rattle.st_reading.proofs.Shrinking.{shrinks_map}
use Rattle.st_reading.proofs.Chains.{chain_none, chain_of, chain_step}
use Rattle.st_reading.proofs.FairReaders.{fair_loop}
use Rattle.st_reading.proofs.Whiles.{while_of, while_complete, while_sound}
use Rattle.st_reading.proofs.LawfulPhrases.{LawfulPhrase, as_lawful}
use Rattle.st_reading.proofs.Judging.{JudgedAt}
use Rattle.st_reading.proofs.JudgedParts.{Turns, but_not, judged_as, judged_loop, judged_shrinks, not_tested, total}
use Rattle.st_form.specs.Formula.{Formula, truth_value}
use Rattle.temporal_goals.specs.Texts.{PlainDiagram, PlainDrawnNode}
use Rattle.temporal_goals.specs.declared.diagrams.DiagramKind.{DiagramKind}
use Rattle.diagram_reader.specs.Drawn.{Drawing, diagram_with, is_known, nothing_drawn, with_edge, with_node, with_terminal}
use Rattle.diagram_reader.specs.Drawing as drawings
use Rattle.diagram_reader.specs.Drawing.{item_in}
use Rattle.diagram_reader.specs.declared.item.Item as declared
use Rattle.diagram_reader.specs.declared.item.Item.TheVariants as items
use Rattle.proof_script.specs.Faults.{drawn}
use Rattle.proof_script.specs.Listing.{Setting}
use Rattle.script_grammar.specs.RawScripts.{RawItem, raw_terminal, raw_node, raw_edge, RawDrawing}
use Rattle.script_grammar.specs.Sizes.{drawing_size, item_size, many_size}
use Rattle.script_grammar.specs.Drawings.{IsRawDrawing, IsRawItem, spells_drawing, spells_terminal_item, spells_node_item, spells_edge_item}
use Rattle.script_grammar.specs.Meaning.{drawn_node_meant, item_drawn, items_drawn}
use Rattle.script_grammar.specs.Breaking.{broken_where}
use Rattle.script_grammar.specs.Rules.{drawing_rules, item_rules, items_rules}
use Rattle.script_grammar.specs.Theorems.{Forms, Sums}
use Rattle.script_grammar.specs.FirstFaults.{IsSyntactic, drawing_over}
use Rattle.script_grammar.proofs.Unbroken.{same3}
use Rattle.script_grammar.proofs.JudgedPairs.{both_of, made_lawful, pair_lawful}
use Rattle.script_grammar.proofs.Judges.{Judges, Whatever, pair_so, seen_so, as_so, mark_so, place_so, same_so, weaker_so}
use Rattle.script_grammar.proofs.Citations.{loose_lawful}
use Rattle.script_grammar.proofs.DrawnMarks.{Adds, opening_mark, ending_mark}
use Rattle.script_grammar.proofs.DrawnReaders.{drawn_then, drawn_expected}
use Rattle.script_grammar.proofs.JudgedTerminals.{terminal_lawful, terminal_judge, terminal_so, terminal_drawn}
use Rattle.script_grammar.proofs.JudgedNodes.{NodeItem}
use Rattle.script_grammar.proofs.JudgedEdges.{edge_lawful, edge_judge, edge_so, edge_drawn}
use Rattle.script_grammar.proofs.DrawnItems.{node_no_terminal, edge_no_terminal, edge_no_node, raw_item, item_sound, item_complete, item_lawful, item_strict, item_length, as_terminal, as_node, as_edge}

-- WHAT THE RULES SEE OF A DRAWING
pub record Sees (d k : Drawing) : Type 0 where
  pub ended : is_some d.terminal ≡ is_some k.terminal
  pub known : (n : ℕ) → is_known n d.nodes ≡ is_known n k.nodes
  pub many : length d.nodes ≡ length k.nodes

or_behind : (b c e : Bool) → (b || (c || e)) ≡ ((b || c) || e)
or_behind true c e = refl
or_behind false c e = refl

known_more : (n : ℕ) (xs : List PlainDrawnNode) (x : PlainDrawnNode) → is_known n (xs ++ x ∷ []) ≡ (is_known n xs || ((x.number == n) || false))
known_more n xs x = ap (λ b. (n == 0) || b) (list_any-append (λ (y : PlainDrawnNode). y.number == n) xs (x ∷ [])) ∙ or_behind (n == 0) (list_any (λ (y : PlainDrawnNode). y.number == n) xs) ((x.number == n) || false)

module _ (g : Setting) where
  sees_more : (x y k : Drawing) (a : RawItem) → Sees x k → Adds x a y → Sees y (item_drawn g k a)
  sees_more x y k (raw_terminal place u) s m = subst (λ z. Sees z (item_drawn g k (raw_terminal place u))) (sym m.1) (record { ended = refl; known = s.known; many = s.many })
  sees_more x y k (raw_node place n) s m =
      let added = m.0 in
      let same = m.2 in
      subst (λ z. Sees z (item_drawn g k (raw_node place n))) (sym m.1) (record {
        ended = s.ended;
        known = λ i. known_more i x.nodes added ∙ ap (λ b. b || ((added.number == i) || false)) (s.known i) ∙ ap (λ v. is_known i k.nodes || ((v == i) || false)) same ∙ sym (known_more i k.nodes (drawn_node_meant g n));
        many = omega (arith, length-append x.nodes (added ∷ []), length-append k.nodes (drawn_node_meant g n ∷ []), s.many);
      })
  sees_more x y k (raw_edge place e) s m = subst (λ z. Sees z (item_drawn g k (raw_edge place e))) (sym m.1) (record { ended = s.ended; known = s.known; many = s.many })

  turns_see : (x : Drawing) (xs : List RawItem) (y k : Drawing) → Turns Adds x xs y → Sees x k → Sees y (items_drawn g k xs)
  turns_see x [] y k t s = subst (λ z. Sees z k) t s
  turns_see x (a ∷ xs) y k (z, one, t) s = turns_see z xs y (item_drawn g k a) t (sees_more x z k a s one)

total_many : (xs : List RawItem) → total item_size xs ≡ many_size item_size xs
total_many [] = refl
total_many (x ∷ xs) = ap (λ n. item_size x + n) (total_many xs)

positive : (x : RawItem) → 0 < item_size x
positive (raw_terminal place u) = omega arith
positive (raw_node place n) = omega arith
positive (raw_edge place e) = omega arith

no_none : {A : Type 0} (o p : Option A) → is_some o ≡ is_some p → is_none o ≡ is_none p
no_none None None h = refl
no_none (Some x) (Some y) h = refl
no_none None (Some y) h = absurd cc
no_none (Some x) None h = absurd cc

abbrev pub begins_item : Sign → Bool
begins_item g = is_some (item_in g)

pub ending_no_item : Within (among (marks.CloseBrace ∷ [])) (but_not begins_item)
unfolding number
ending_no_item = marks_within (but_not begins_item) (marks.CloseBrace ∷ []) refl

-- tokens at any place
pub terminal_at : (place : ℕ) → Is marks.Terminal (record { kind = kinds.Keyword; text = codes "terminal"; start = place })
unfolding number declaring_word basic_word compound_word step_word rule_word drawing_word
terminal_at place = refl

pub node_at : (place : ℕ) → Is marks.Node (record { kind = kinds.Keyword; text = codes "node"; start = place })
unfolding number declaring_word basic_word compound_word step_word rule_word drawing_word
node_at place = refl

pub edge_at : (place : ℕ) → Is marks.Edge (record { kind = kinds.Keyword; text = codes "edge"; start = place })
unfolding number declaring_word basic_word compound_word step_word rule_word drawing_word
edge_at place = refl

module _ (kind : DiagramKind) (node : LawfulPhrase Breach RawItem (among (marks.Node ∷ [])) anything) (needs : node.phrase.reader (ends 0) ≡ Err (syntax 0)) (to_node : (ts : List Lexeme) (x : RawItem) → node.phrase.language ts x → NodeItem kind ts x)
    (from_node : (ts : List Lexeme) (x : RawItem) → NodeItem kind ts x → node.phrase.language ts x) where
  abbrev Item : List Lexeme → RawItem → Type 0
  Item = IsRawItem Forms Sums kind

  abbrev item : LawfulPhrase Breach RawItem anything anything
  item = item_lawful kind node needs to_node from_node

  abbrev pub plain_item : Reader RawItem
  plain_item = raw_item kind node needs to_node from_node

  pub strict : (s : Stream) (x : RawItem) (rest : Stream) → plain_item s ≡ Ok (x, rest) → size rest < size s
  strict = item_strict kind node needs to_node from_node

  abbrev loops : Reader (List RawItem)
  loops = while_of begins_item plain_item

  begun_so : (ts : List Lexeme) (x : RawItem) (after : Stream) → Item ts x → (begins_item (ahead (ts ++> after)) ≡ true) × (0 < length ts)
  begun_so ts x after (spells_terminal_item t us f e l) = (rw e refl, omega arith)
  begun_so ts x after (spells_node_item t us n e l) = (let k = node_no_terminal (sign_of t) e in rw (k, e) refl, omega arith)
  begun_so ts x after (spells_edge_item t us o e l) = (let k = edge_no_terminal (sign_of t) e in let m = edge_no_node (sign_of t) e in rw (k, m, e) refl, omega arith)

  pub loops_sound : Sound loops (Many Item)
  loops_sound = while_sound begins_item plain_item Item (item_sound kind node needs to_node from_node)

  pub loops_complete : Complete (but_not begins_item) loops (Many Item)
  loops_complete ts xs m after h =
      while_complete begins_item plain_item Item begun_so (λ us x after2 l. item_complete kind node needs to_node from_node us x l after2 refl) ts xs m after (not_tested begins_item (ahead after) h)

  abbrev pub loops_lawful : LawfulPhrase Breach (List RawItem) anything (but_not begins_item)
  loops_lawful = record {
    phrase = record { reader = loops; language = Many Item; sound = loops_sound; complete = loops_complete; begins = λ ts l x after h. refl };
    lawful = fair_loop begins_item refl plain_item strict (syntax 0) refl item.lawful (sound_shrinks loops (Many Item) loops_sound);
  }

  abbrev pub ended_lawful : LawfulPhrase Breach (List RawItem × ℕ) anything anything
  ended_lawful = pair_lawful anything (but_not begins_item) (among (marks.CloseBrace ∷ [])) anything ending_no_item refl loops_lawful (wider (λ g h. refl)) ending_mark refl

  abbrev pub drawing_parts : LawfulPhrase Breach (ℕ × (List RawItem × ℕ)) (among (marks.OpenBrace ∷ [])) anything
  drawing_parts = loose_lawful (among (marks.OpenBrace ∷ [])) anything anything anything (λ g h. refl) opening_mark (moves refl (syntax 0) refl) ended_lawful (λ g h. refl) (λ g h. refl)

  abbrev pub the_drawing : ℕ × (List RawItem × ℕ) → RawDrawing
  the_drawing q = record { items = q.1.0; close = q.1.1 }

  abbrev pub drawing_made : LawfulPhrase Breach RawDrawing (among (marks.OpenBrace ∷ [])) anything
  drawing_made = made_lawful (among (marks.OpenBrace ∷ [])) anything the_drawing drawing_parts (moves refl (syntax 0) refl)

  pub to_drawing : (ts : List Lexeme) (d : RawDrawing) → drawing_made.phrase.language ts d → IsRawDrawing Forms Sums kind ts d
  to_drawing ts d (made us q (behind_it a b n z (one_mark t e) (made k1 k2 (behind_it c h xs w m (made k3 k4 (one_mark u f)))))) = spells_drawing t u c xs e m f

  pub from_drawing : (ts : List Lexeme) (d : RawDrawing) → IsRawDrawing Forms Sums kind ts d → drawing_made.phrase.language ts d
  from_drawing ts d (spells_drawing t u a xs e m f) =
      made (t ∷ (a ++ u ∷ [])) (both_of t.start (both_of xs u.start)) (behind_it (t ∷ []) (a ++ u ∷ []) t.start (both_of t.start (both_of xs u.start)) (one_mark t e) (made (a ++ u ∷ []) (both_of xs u.start) (behind_it a (u ∷ []) xs (both_of xs u.start) m (made (u ∷ []) u.start (one_mark u f)))))

  abbrev pub drawing_lawful : LawfulPhrase Breach RawDrawing (among (marks.OpenBrace ∷ [])) anything
  drawing_lawful = as_lawful (among (marks.OpenBrace ∷ [])) anything drawing_made (IsRawDrawing Forms Sums kind) to_drawing from_drawing

  -- JUDGED
  module _ (g : Setting) (highest : ℕ) (node_judge : Drawing → Reader Drawing) (node_so : (d : Drawing) → Judges anything (node_judge d) node.phrase.reader item_size (item_rules g kind highest d) (Adds d))
      (node_drawn : (d : Drawing) (t : Lexeme) (s : Stream) → is (sign_of t) marks.Node ≡ true → drawn (drawings.item_of (drawing_over g kind highest) items.Node t.start d s) ≡ node_judge d (more t s)) where
    abbrev judged_by : Bool → Bool → Drawing → Reader Drawing
    judged_by b c d s = cond b (terminal_judge g kind highest d s) (cond c (node_judge d s) (edge_judge g kind highest d s))

    abbrev item_judge : Drawing → Reader Drawing
    item_judge d s = judged_by (is (ahead s) marks.Terminal) (is (ahead s) marks.Node) d s

    -- the rules are those of what is seen
    item_same : (d k : Drawing) → Sees d k → (at : ℕ) (x : RawItem) → item_rules g kind highest k at x ≡ item_rules g kind highest d at x
    item_same d k s at (raw_terminal place u) = rw (s.ended) refl
    item_same d k s at (raw_node place n) = let e = s.known n.number.number in let m = s.many in rw (e, m) refl
    item_same d k s at (raw_edge place e) = let i = s.known e.from.number in let j = s.known e.to.number in rw (i, j) refl

    by_terminal : (d : Drawing) (s : Stream) → is (ahead s) marks.Terminal ≡ true → item_judge d s ≡ terminal_judge g kind highest d s
    by_terminal d s e = ap (λ b. judged_by b (is (ahead s) marks.Node) d s) e

    by_node : (d : Drawing) (s : Stream) → is (ahead s) marks.Terminal ≡ false → is (ahead s) marks.Node ≡ true → item_judge d s ≡ node_judge d s
    by_node d s e k = ap (λ b. judged_by b (is (ahead s) marks.Node) d s) e ∙ ap (λ c. judged_by false c d s) k

    by_edge : (d : Drawing) (s : Stream) → is (ahead s) marks.Terminal ≡ false → is (ahead s) marks.Node ≡ false → item_judge d s ≡ edge_judge g kind highest d s
    by_edge d s e k = ap (λ b. judged_by b (is (ahead s) marks.Node) d s) e ∙ ap (λ c. judged_by false c d s) k

    abbrev JudgedItem : Drawing → ℕ → Stream → Type 0
    JudgedItem d at s = JudgedAt IsSyntactic anything at (item_judge d) plain_item item_size (item_rules g kind highest d at) (Adds d) s

    item_tests : (d : Drawing) (at : ℕ) (s : Stream) (b c : Bool) → is (ahead s) marks.Terminal ≡ b → is (ahead s) marks.Node ≡ c → JudgedItem d at s
    item_tests d at s true c e k =
        judged_as IsSyntactic anything at (terminal_judge g kind highest d) terminal_lawful.phrase.reader item_size (item_rules g kind highest d at) (Adds d) (item_judge d) plain_item s
        (λ after h. by_terminal d after (ap (λ u. is u marks.Terminal) (ahead_same s after h) ∙ e)) (λ after h. as_terminal kind node needs to_node from_node after (ap (λ u. is u marks.Terminal) (ahead_same s after h) ∙ e)) ((terminal_so g kind highest d).judged at s)
    item_tests d at s false true e k =
        judged_as IsSyntactic anything at (node_judge d) node.phrase.reader item_size (item_rules g kind highest d at) (Adds d) (item_judge d) plain_item s
        (λ after h. by_node d after (ap (λ u. is u marks.Terminal) (ahead_same s after h) ∙ e) (ap (λ u. is u marks.Node) (ahead_same s after h) ∙ k))
        (λ after h. as_node kind node needs to_node from_node after (ap (λ u. is u marks.Terminal) (ahead_same s after h) ∙ e) (ap (λ u. is u marks.Node) (ahead_same s after h) ∙ k)) ((node_so d).judged at s)
    item_tests d at s false false e k =
        judged_as IsSyntactic anything at (edge_judge g kind highest d) edge_lawful.phrase.reader item_size (item_rules g kind highest d at) (Adds d) (item_judge d) plain_item s
        (λ after h. by_edge d after (ap (λ u. is u marks.Terminal) (ahead_same s after h) ∙ e) (ap (λ u. is u marks.Node) (ahead_same s after h) ∙ k))
        (λ after h. as_edge kind node needs to_node from_node after (ap (λ u. is u marks.Terminal) (ahead_same s after h) ∙ e) (ap (λ u. is u marks.Node) (ahead_same s after h) ∙ k)) ((edge_so g kind highest d).judged at s)

    item_so : (d : Drawing) → Judges anything (item_judge d) plain_item item_size (item_rules g kind highest d) (Adds d)
    item_so d = record { judged = λ at s. item_tests d at s (is (ahead s) marks.Terminal) (is (ahead s) marks.Node) refl refl }

    judged_item : (d k : Drawing) (at : ℕ) → Sees d k → (s : Stream) → JudgedAt IsSyntactic anything at (item_judge d) plain_item item_size (item_rules g kind highest k at) (Adds d) s
    judged_item d k at seen s = (same_so item_size (item_rules g kind highest k) (λ x. refl) (item_same d k seen) (item_so d)).judged at s

    -- THE LOOP
    abbrev turn : declared.Item → ℕ → Drawing → Reader (Turn Drawing Drawing)
    turn o place d = drawings.turn_of (drawing_over g kind highest) o place d

    abbrev grown : Drawing → Turn Drawing Drawing
    grown d = goes d

    less : (d : Drawing) (judge : Reader Drawing) (plain : Reader RawItem) (t : Lexeme) (s : Stream) (x : Drawing) (rest : Stream) → Judges anything judge plain item_size (item_rules g kind highest d) (Adds d) → judge (more t s) ≡ Ok (x, rest) → size rest ≤ size s
    less d judge plain t s x rest j h = omega (arith, judged_shrinks IsSyntactic anything 0 judge plain item_size (item_rules g kind highest d 0) (Adds d) positive (more t s) (j.judged 0 (more t s)) x rest h)

    item_shrinks : (o : declared.Item) (place : ℕ) (d : Drawing) → Shrinks (drawings.item_of (drawing_over g kind highest) o place d)
    item_shrinks items.Terminal place d s x rest h =
        less d (terminal_judge g kind highest d) terminal_lawful.phrase.reader (record { kind = kinds.Keyword; text = codes "terminal"; start = place }) s x rest (terminal_so g kind highest d)
        (sym (terminal_drawn g kind highest d (record { kind = kinds.Keyword; text = codes "terminal"; start = place }) s (terminal_at place)) ∙ ap drawn h)
    item_shrinks items.Node place d s x rest h =
        less d (node_judge d) node.phrase.reader (record { kind = kinds.Keyword; text = codes "node"; start = place }) s x rest (node_so d)
        (sym (node_drawn d (record { kind = kinds.Keyword; text = codes "node"; start = place }) s (node_at place)) ∙ ap drawn h)
    item_shrinks items.Edge place d s x rest h =
        less d (edge_judge g kind highest d) edge_lawful.phrase.reader (record { kind = kinds.Keyword; text = codes "edge"; start = place }) s x rest (edge_so g kind highest d)
        (sym (edge_drawn g kind highest d (record { kind = kinds.Keyword; text = codes "edge"; start = place }) s (edge_at place)) ∙ ap drawn h)

    turn_shrinks : (o : declared.Item) (place : ℕ) (d : Drawing) → Shrinks (turn o place d)
    turn_shrinks o place d = shrinks_map grown (drawings.item_of (drawing_over g kind highest) o place d) (item_shrinks o place d)

    abbrev loop : Drawing → Reader Drawing
    loop d s = drawn (drawings.items_of (drawing_over g kind highest) d s)

    is_none_there : (o : Option declared.Item) → is_some o ≡ false → None ≡ o
    is_none_there None e = refl
    is_none_there (Some x) e = absurd cc

    loop_none : (d : Drawing) (s : Stream) → begins_item (ahead s) ≡ false → loop d s ≡ Ok (d, s)
    unfolding drawings.items_of
    loop_none d s e = ap drawn (chain_none item_in turn gives (size s) d s (is_none_there (item_in (ahead s)) e))

    step_by : (d : Drawing) (t : Lexeme) (s : Stream) (o : declared.Item) → item_in (sign_of t) ≡ Some o → loop d (more t s) ≡ (drawn (drawings.item_of (drawing_over g kind highest) o t.start d s) >>= λ x. loop x.0 x.1)
    unfolding drawings.items_of
    step_by d t s o h = ap drawn (chain_step item_in refl turn gives turn_shrinks t o d s h) ∙ at_read (drawings.item_of (drawing_over g kind highest) o t.start d s)
      where
        at_read : (r : Read Breach Drawing) → drawn ((r >>= λ x. gives {X = Breach} (grown x.0) x.1) >>= λ y. turned (chain_of item_in refl turn gives turn_shrinks) y.0 y.1) ≡ (drawn r >>= λ x. loop x.0 x.1)
        at_read (Ok x) = refl
        at_read (Err f) = refl

    loop_step : (d : Drawing) (t : Lexeme) (s : Stream) → begins_item (sign_of t) ≡ true → loop d (more t s) ≡ then_reads (item_judge d) loop (more t s)
    loop_step d t s e = at_tests (is (sign_of t) marks.Terminal) (is (sign_of t) marks.Node) (is (sign_of t) marks.Edge) refl refl refl
      where
        then_so : (o : declared.Item) (judge : Reader Drawing) → item_in (sign_of t) ≡ Some o → drawn (drawings.item_of (drawing_over g kind highest) o t.start d s) ≡ judge (more t s) → item_judge d (more t s) ≡ judge (more t s) → loop d (more t s) ≡ then_reads (item_judge d) loop (more t s)
        then_so o judge h k m = step_by d t s o h ∙ ap (λ (r : Read Breach Drawing). r >>= λ x. loop x.0 x.1) (k ∙ sym m)

        at_tests : (b c f : Bool) → is (sign_of t) marks.Terminal ≡ b → is (sign_of t) marks.Node ≡ c → is (sign_of t) marks.Edge ≡ f → loop d (more t s) ≡ then_reads (item_judge d) loop (more t s)
        at_tests true c f h k m = then_so items.Terminal (terminal_judge g kind highest d) (rw h refl) (terminal_drawn g kind highest d t s h) (by_terminal d (more t s) h)
        at_tests false true f h k m = then_so items.Node (node_judge d) (rw (h, k) refl) (node_drawn d t s k) (by_node d (more t s) h k)
        at_tests false false true h k m = then_so items.Edge (edge_judge g kind highest d) (rw (h, k, m) refl) (edge_drawn g kind highest d t s m) (by_edge d (more t s) h k)
        at_tests false false false h k m = let none : begins_item (sign_of t) ≡ false = rw (h, k, m) refl in let wrong : true ≡ false = sym e ∙ none in absurd cc

    abbrev SeesAll : List RawItem → Drawing → Type 0
    SeesAll xs y = Sees y (items_drawn g nothing_drawn xs)

    nothing_seen : Sees nothing_drawn nothing_drawn
    nothing_seen = record { ended = refl; known = λ n. refl; many = refl }

    loops_so : Judges (but_not begins_item) (loop nothing_drawn) loops (many_size item_size) (items_rules g kind highest nothing_drawn) SeesAll
    loops_so =
        same_so (many_size item_size) (items_rules g kind highest nothing_drawn) (λ xs. sym (total_many xs)) (λ at xs. refl)
        (weaker_so SeesAll (λ xs y t. turns_see g nothing_drawn xs y nothing_drawn t nothing_seen)
        (record {
          judged = λ at s. judged_loop IsSyntactic begins_item refl loop item_judge plain_item loop_none loop_step strict item_size positive Adds Sees (λ k a. item_drawn g k a) (λ x y k a seen m. sees_more g x y k a seen m)
              (λ k n x. item_rules g kind highest k n x) (λ k n xs. items_rules g kind highest k n xs) (λ k n. refl) (λ k n x xs. refl) judged_item nothing_drawn nothing_drawn at nothing_seen s;
        }))

    -- THE END
    abbrev whole : Drawing → PlainDiagram
    whole d = diagram_with kind d (unwrap_or d.terminal (truth_value false))

    abbrev closed : Drawing → Reader PlainDiagram
    closed d = then_reads (expected marks.CloseBrace) (λ place. unless (is_none d.terminal) (broke rules.NoTerminal place) (whole d))

    abbrev no_terminal : List RawItem → ℕ → ℕ → List (Broken Breach)
    no_terminal xs at place = broken_where (is_none (items_drawn g nothing_drawn xs).terminal) at (broke rules.NoTerminal place)

    closed_so : (xs : List RawItem) (d : Drawing) → Sees d (items_drawn g nothing_drawn xs) → Judges anything (closed d) ending_mark.phrase.reader (λ z. 1) (λ at z. no_terminal xs (at + 1) z) Whatever
    closed_so xs d seen =
        subst (λ b. Judges anything (closed d) ending_mark.phrase.reader (λ z. 1) (λ at z. broken_where b (at + 1) (broke rules.NoTerminal z)) Whatever) (no_none d.terminal (items_drawn g nothing_drawn xs).terminal seen.ended)
        (weaker_so Whatever (λ z a k. tt) (mark_so marks.CloseBrace (is_none d.terminal) (λ z. broke rules.NoTerminal z) (whole d)))

    abbrev ended : ℕ → Reader PlainDiagram
    ended m = then_reads (loop nothing_drawn) closed

    abbrev pub drawing_judge : Reader PlainDiagram
    drawing_judge = then_reads (expected marks.OpenBrace) ended

    ended_so : (m : ℕ) → Judges anything (ended m) ended_lawful.phrase.reader (λ q. many_size item_size q.0 + 1) (λ at q. items_rules g kind highest nothing_drawn at q.0 ++ no_terminal q.0 ((at + many_size item_size q.0) + 1) q.1) Whatever
    ended_so m = pair_so {rules2 = λ xs at z. no_terminal xs (at + 1) z} {makes = Whatever} ending_no_item ending_mark (moves refl (syntax 0) refl) loops_so (λ xs d seen. closed_so xs d seen)

    drawing_ruled : (at : ℕ) (q : ℕ × (List RawItem × ℕ)) → drawing_rules g kind highest at (the_drawing q) ≡ [] ++ (items_rules g kind highest nothing_drawn (at + 1) q.1.0 ++ no_terminal q.1.0 (((at + 1) + many_size item_size q.1.0) + 1) q.1.1)
    drawing_ruled at q =
        let e : at + (1 + many_size item_size q.1.0 + 1) ≡ ((at + 1) + many_size item_size q.1.0) + 1 = omega arith in
        ap (λ n. items_rules g kind highest nothing_drawn (at + 1) q.1.0 ++ no_terminal q.1.0 n q.1.1) e

    judge_so : Judges anything drawing_judge drawing_lawful.phrase.reader drawing_size (drawing_rules g kind highest) Whatever
    judge_so =
        seen_so the_drawing drawing_size (drawing_rules g kind highest) Whatever (λ q. omega arith) drawing_ruled (λ q x m. tt)
        (pair_so {makes = Whatever} (λ g h. refl) ended_lawful (wider (λ g h. refl)) (place_so marks.OpenBrace) (λ n k m. ended_so k))

    closed_drawn : (d : Drawing) (s : Stream) → drawn (drawings.closed_of (drawing_over g kind highest) d s) ≡ closed d s
    unfolding drawings.closed_of
    closed_drawn d s =
        drawn_then (expected marks.CloseBrace) (expected marks.CloseBrace) (λ place. present (broke rules.NoTerminal place) (option_map (diagram_with kind d) d.terminal)) (λ place. unless (is_none d.terminal) (broke rules.NoTerminal place) (whole d))
        (drawn_expected marks.CloseBrace) (λ place k. at_terminal place k d.terminal) s
      where
        at_terminal : (place : ℕ) (k : Stream) (o : Option Formula) → drawn (present (broke rules.NoTerminal place) (option_map (diagram_with kind d) o) k) ≡ unless (is_none o) (broke rules.NoTerminal place) (diagram_with kind d (unwrap_or o (truth_value false))) k
        at_terminal place k None = refl
        at_terminal place k (Some f) = refl

    drawing_drawn : (s : Stream) → drawn (drawings.drawing_of (drawing_over g kind highest) s) ≡ drawing_judge s
    unfolding drawings.drawing_of
    drawing_drawn s =
        drawn_then (expected marks.OpenBrace) (expected marks.OpenBrace) (λ m. then_reads (drawings.items_of (drawing_over g kind highest) nothing_drawn) (drawings.closed_of (drawing_over g kind highest))) ended (drawn_expected marks.OpenBrace)
        (λ m k. drawn_then (drawings.items_of (drawing_over g kind highest) nothing_drawn) (loop nothing_drawn) (drawings.closed_of (drawing_over g kind highest)) closed (λ n. refl) (λ d n. closed_drawn d n) k) s

    pub drawing_so : Judges anything (λ s. drawn (drawings.drawing_of (drawing_over g kind highest) s)) drawing_lawful.phrase.reader drawing_size (drawing_rules g kind highest) Whatever
    drawing_so = as_so (λ s. drawn (drawings.drawing_of (drawing_over g kind highest) s)) drawing_lawful.phrase.reader drawing_drawn (λ s. refl) judge_so
