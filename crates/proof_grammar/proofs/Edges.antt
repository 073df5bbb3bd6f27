-- The edges and the terminal node of a drawing: read exactly where they are spelled.
use Rattle.std.proofs.Common.{List, Option, [], false, is_some, refl, true, ℕ, ◌++◌, ◌∷◌, ◌≡◌}
use Rattle.st_reading.specs.Rule as rules
use Rattle.st_reading.specs.Breaches.{Breach, broke}
use Rattle.st_tokens.specs.Stream.{Lexeme}
use Rattle.st_reading.proofs.ListCompleteness.{Complete}
use Rattle.st_reading.proofs.ListSoundness.{one_mark}
use Rattle.st_reading.specs.Mark.{number}
use Rattle.st_reading.specs.Reading.{is_name, other}
use Rattle.st_reading.specs.Spelling.{Row, Sound, behind_it}
use Rattle.st_reading.specs.Steady.{Within, anything}
use Rattle.st_reading.specs.declared.mark.Mark.TheVariants as marks
use Rattle.st_reading.specs.declared.sign.Sign.TheVariants as signs
use Rattle.st_form.specs.Formula.{Formula}
use Rattle.temporal_goals.specs.Texts.{PlainDrawnNode, PlainEdge}
use Rattle.temporal_goals.specs.declared.diagrams.DiagramKind.{DiagramKind}
use Rattle.expression_parser.specs.Calm.{calm}
use Rattle.diagram_reader.specs.Drawing.{edge_of, numbers_of, terminal_of}
use Rattle.diagram_reader.specs.Drawn.{is_upward}
use Rattle.proof_script.specs.Listing.{Setting}
use Rattle.proof_grammar.specs.Drawings.{IsEdge, IsTerminal, a_terminal, an_edge}
use Rattle.st_reading.specs.Phrases.{after_mark}
use Rattle.proof_grammar.specs.Units.{IsTransition}
use Rattle.proof_grammar.proofs.DrawnTransitions.{drawn_transition_phrase}
use Rattle.proof_grammar.proofs.Formulas.{drawing_setting, drawn_truth}
use Rattle.proof_grammar.proofs.Judgements.{If, admit_phrase, admits, unbroken_phrase}
use Rattle.proof_grammar.proofs.NodeParts.{closing, closing_calm, closing_undotted}
use Rattle.proof_grammar.proofs.Numerals.{drawn_number_of}
use Rattle.proof_grammar.proofs.Parts.{no_dot}
use Rattle.st_reading.proofs.Phrases.{Phrase, as_phrase, made, map_phrase, the_mark, then_phrase}
use Rattle.st_reading.proofs.Rows.{row_phrase}
use Rattle.st_reading.proofs.Tokens.{among, but, marks_within}
use Rattle.proof_grammar.proofs.TypedTexts.{undrawn}

pub comma_undotted : no_dot (signs.Marked marks.Comma) ≡ true
unfolding number
comma_undotted = refl

pub closing_no_comma : Within closing (but marks.Comma)
unfolding number
closing_no_comma = marks_within (but marks.Comma) (marks.Semicolon ∷ []) refl

module _ (g : Setting) (kind : DiagramKind) (highest : ℕ) where
  -- EDGES
  abbrev pub numbers_row : Phrase Breach (List ℕ) is_name closing
  numbers_row = row_phrase marks.Comma is_name no_dot closing comma_undotted closing_no_comma closing_undotted (drawn_transition_phrase g kind highest)

  pub numbers_sound : Sound (numbers_of (drawing_setting g kind highest)) (Row marks.Comma (IsTransition g))
  unfolding numbers_of
  numbers_sound = numbers_row.sound

  pub numbers_complete : Complete closing (numbers_of (drawing_setting g kind highest)) (Row marks.Comma (IsTransition g))
  unfolding numbers_of
  numbers_complete = numbers_row.complete

  abbrev pub numbers_phrase : Phrase Breach (List ℕ) is_name closing
  numbers_phrase = record { reader = numbers_of (drawing_setting g kind highest); language = Row marks.Comma (IsTransition g); sound = numbers_sound; complete = numbers_complete; begins = numbers_row.begins }

  abbrev pub edge_parts : ℕ → List PlainDrawnNode → Phrase Breach PlainEdge anything anything
  edge_parts place nodes =
      then_phrase anything anything (among (marks.Implies ∷ [])) anything (λ g h. refl) (drawn_number_of nodes) (λ i.
      then_phrase (among (marks.Implies ∷ [])) anything anything anything (λ g h. refl) (the_mark marks.Implies) (λ m.
      then_phrase anything anything (among (marks.On ∷ [])) anything (λ g h. refl) (drawn_number_of nodes) (λ j.
      then_phrase (among (marks.On ∷ [])) (among (marks.On ∷ [])) (among (marks.On ∷ [])) anything (λ g h. h) (admit_phrase (among (marks.On ∷ [])) (is_upward kind i j) (other (broke rules.Upward place)) j) (λ j.
      then_phrase (among (marks.On ∷ [])) anything is_name anything (λ g h. refl) (the_mark marks.On) (λ m.
      then_phrase is_name closing closing anything (λ g h. h) numbers_phrase (λ on.
      map_phrase closing anything (λ z. record { from = i; to = j; on = on }) (the_mark marks.Semicolon)))))))

  pub to_edge : (place : ℕ) (nodes : List PlainDrawnNode) (ts : List Lexeme) (x : PlainEdge) → (edge_parts place nodes).language ts x → IsEdge g kind highest nodes ts x
  to_edge place nodes ts x (behind_it a a1 i y1 l1 (behind_it b b1 m y2 (one_mark t e) (behind_it c c1 j y3 l3 (behind_it d d1 k y4 (admits up) (behind_it w w1 n y5 (one_mark v f) (behind_it o o1 on y6 l6 (made s z (one_mark u q)))))))) =
      an_edge a (t ∷ c) (v ∷ o) u i j on l1 (after_mark t c j e l3) up (after_mark v o on f l6) q

  pub from_edge : (place : ℕ) (nodes : List PlainDrawnNode) (ts : List Lexeme) (x : PlainEdge) → IsEdge g kind highest nodes ts x → (edge_parts place nodes).language ts x
  from_edge place nodes ts x (an_edge a b c u i j on l1 (after_mark t d k e l3) up (after_mark v o os f l6) q) =
      behind_it a (t ∷ (d ++ (v ∷ (o ++ u ∷ [])))) i _ l1 (behind_it (t ∷ []) (d ++ (v ∷ (o ++ u ∷ []))) t.start _ (one_mark t e) (behind_it d (v ∷ (o ++ u ∷ [])) k _ l3 (behind_it [] (v ∷ (o ++ u ∷ [])) k _ (admits up)
      (behind_it (v ∷ []) (o ++ u ∷ []) v.start _ (one_mark v f) (behind_it o (u ∷ []) os _ l6 (made (u ∷ []) u.start (one_mark u q)))))))

  abbrev pub edge_as : ℕ → List PlainDrawnNode → Phrase Breach PlainEdge anything anything
  edge_as place nodes = as_phrase anything anything (edge_parts place nodes) (IsEdge g kind highest nodes) (to_edge place nodes) (from_edge place nodes)

  pub edge_sound : (place : ℕ) (nodes : List PlainDrawnNode) → Sound (edge_of (drawing_setting g kind highest) place nodes) (IsEdge g kind highest nodes)
  unfolding edge_of
  edge_sound place nodes = (edge_as place nodes).sound

  pub edge_complete : (place : ℕ) (nodes : List PlainDrawnNode) → Complete anything (edge_of (drawing_setting g kind highest) place nodes) (IsEdge g kind highest nodes)
  unfolding edge_of
  edge_complete place nodes = (edge_as place nodes).complete

  abbrev pub edge_phrase : ℕ → List PlainDrawnNode → Phrase Breach PlainEdge anything anything
  edge_phrase place nodes = record { reader = edge_of (drawing_setting g kind highest) place nodes; language = IsEdge g kind highest nodes; sound = edge_sound place nodes; complete = edge_complete place nodes; begins = λ ts x l after h. refl }

  -- THE TERMINAL NODE
  abbrev pub terminal_parts : Phrase Breach Formula (among (marks.Colon ∷ [])) anything
  terminal_parts =
      then_phrase (among (marks.Colon ∷ [])) anything undrawn anything (λ g h. refl) (the_mark marks.Colon) (λ m.
      then_phrase undrawn calm closing anything closing_calm (drawn_truth g kind highest) (λ f.
      map_phrase closing anything (λ z. f) (the_mark marks.Semicolon)))

  pub to_terminal : (ts : List Lexeme) (f : Formula) → terminal_parts.language ts f → IsTerminal g kind highest ts f
  to_terminal ts f (behind_it a a1 m y1 (one_mark t e) (behind_it b b1 x y2 l (made c z (one_mark u i)))) = a_terminal (t ∷ b) u x (after_mark t b x e l) i

  pub from_terminal : (ts : List Lexeme) (f : Formula) → IsTerminal g kind highest ts f → terminal_parts.language ts f
  from_terminal ts f (a_terminal a u x (after_mark t b y e l) i) = behind_it (t ∷ []) (b ++ u ∷ []) t.start y (one_mark t e) (behind_it b (u ∷ []) y y l (made (u ∷ []) u.start (one_mark u i)))

  abbrev pub FirstTerminal : Option Formula → List Lexeme → Formula → Type 0
  FirstTerminal before = If (is_some before) false (IsTerminal g kind highest)

  abbrev pub terminal_as : ℕ → Option Formula → Phrase Breach Formula (among (marks.Colon ∷ [])) anything
  terminal_as place before =
      unbroken_phrase (among (marks.Colon ∷ [])) anything (is_some before) (other (broke rules.Twice place)) (as_phrase (among (marks.Colon ∷ [])) anything terminal_parts (IsTerminal g kind highest) to_terminal from_terminal)

  pub terminal_sound : (place : ℕ) (before : Option Formula) → Sound (terminal_of (drawing_setting g kind highest) place before) (FirstTerminal before)
  unfolding terminal_of
  terminal_sound place before = (terminal_as place before).sound

  pub terminal_complete : (place : ℕ) (before : Option Formula) → Complete anything (terminal_of (drawing_setting g kind highest) place before) (FirstTerminal before)
  unfolding terminal_of
  terminal_complete place before = (terminal_as place before).complete

  abbrev pub terminal_phrase : ℕ → Option Formula → Phrase Breach Formula anything anything
  terminal_phrase place before = record { reader = terminal_of (drawing_setting g kind highest) place before; language = FirstTerminal before; sound = terminal_sound place before; complete = terminal_complete place before; begins = λ ts x l after h. refl }
