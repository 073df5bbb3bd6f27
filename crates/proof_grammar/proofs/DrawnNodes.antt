-- The nodes of a drawing: read exactly where they are spelled.
use Rattle.std.proofs.Common.{List, [], is_none, length, nat_lt, refl, true, ℕ, ◌&&◌, ◌++◌, ◌∷◌}
use Rattle.st_tokens.specs.declared.limit.LimitKind.TheVariants as limits
use Rattle.st_reading.specs.Rule as rules
use Rattle.st_reading.specs.Breaches.{Breach, broke, limited}
use Rattle.st_tokens.specs.Stream.{Lexeme}
use Rattle.st_reading.proofs.ListCompleteness.{Complete}
use Rattle.st_reading.proofs.ListSoundness.{one_mark}
use Rattle.st_reading.specs.Reading.{other}
use Rattle.st_reading.specs.Spelling.{Sound, behind_it}
use Rattle.st_reading.specs.Steady.{anything}
use Rattle.st_reading.specs.declared.mark.Mark.TheVariants as marks
use Rattle.temporal_goals.specs.Texts.{PlainDrawnNode}
use Rattle.temporal_goals.specs.declared.diagrams.DiagramKind.{DiagramKind}
use Rattle.expression_parser.specs.Calm.{calm}
use Rattle.diagram_reader.specs.Drawing.{node_of, numbered_node_of}
use Rattle.diagram_reader.specs.Drawn.{has_helpers}
use Rattle.proof_script.specs.Listing.{Setting}
use Rattle.proof_grammar.specs.Drawings.{IsDrawnNode, drawn_node, new_number}
use Rattle.st_reading.specs.Phrases.{after_mark}
use Rattle.proof_grammar.proofs.Formulas.{drawn_truth}
use Rattle.proof_grammar.proofs.Judgements.{If, judge_phrase, judged, roomy_phrase}
use Rattle.proof_grammar.proofs.NodeParts.{allowed_helper, closing, drawn_setting, fits, helper_or_closing, may_help, rank_closing_calm, rank_or_closing, rank_phrase, wanted}
use Rattle.proof_grammar.proofs.Numerals.{new_number_phrase, new_numeral, plain_number}
use Rattle.st_reading.proofs.Phrases.{Phrase, as_phrase, the_mark, then_phrase}
use Rattle.st_reading.proofs.Tokens.{among}
use Rattle.proof_grammar.proofs.TypedTexts.{undrawn}

module _ (g : Setting) (kind : DiagramKind) (highest : ℕ) where
  abbrev pub numbered_parts : List PlainDrawnNode → Phrase Breach PlainDrawnNode anything anything
  numbered_parts nodes =
      then_phrase anything anything (among (marks.Colon ∷ [])) anything (λ g h. refl) (new_number_phrase nodes g kind highest) (λ n.
      then_phrase (among (marks.Colon ∷ [])) anything undrawn anything (λ g h. refl) (the_mark marks.Colon) (λ m.
      then_phrase undrawn calm rank_or_closing anything rank_closing_calm (drawn_truth g kind highest) (λ f.
      then_phrase rank_or_closing helper_or_closing helper_or_closing anything (λ g h. h) (rank_phrase g kind highest) (λ r.
      then_phrase helper_or_closing closing closing anything (λ g h. h) (allowed_helper g kind highest) (λ h.
      judge_phrase closing anything anything (λ g h. h) (λ z. has_helpers kind && is_none h) (λ z. other (broke rules.NoHelper n.1)) (λ z. record { number = n.0; form = f; rank = r; helper = h }) (the_mark marks.Semicolon))))))

  pub to_numbered : (nodes : List PlainDrawnNode) (ts : List Lexeme) (x : PlainDrawnNode) → (numbered_parts nodes).language ts x → IsDrawnNode g kind highest nodes ts x
  to_numbered nodes ts x (behind_it a a1 n y1 l1 (behind_it b b1 m y2 (one_mark t e) (behind_it c c1 f y3 l3 (behind_it d d1 r y4 l4 (behind_it k k1 h y5 l5 (judged us z (one_mark u i) fit)))))) =
      drawn_node a (t ∷ c) d k u n.0 f r h (plain_number nodes g kind highest a n l1) (after_mark t c f e l3) l4 (wanted g kind highest k h l5 fit) i

  pub from_numbered : (nodes : List PlainDrawnNode) (ts : List Lexeme) (x : PlainDrawnNode) → IsDrawnNode g kind highest nodes ts x → (numbered_parts nodes).language ts x
  from_numbered nodes ts x (drawn_node a b c d u n f r h (new_number v n1 e1 e2 e3) (after_mark t k f1 e l3) l4 l5 i) =
      behind_it (v ∷ []) (t ∷ (k ++ (c ++ (d ++ u ∷ [])))) (n1, v.start) _ (new_numeral v n1 e1 e2 e3) (behind_it (t ∷ []) (k ++ (c ++ (d ++ u ∷ []))) t.start _ (one_mark t e) (behind_it k (c ++ (d ++ u ∷ [])) f1 _ l3
      (behind_it c (d ++ u ∷ []) r _ l4 (behind_it d (u ∷ []) h _ (may_help g kind highest d h l5) (judged (u ∷ []) u.start (one_mark u i) (fits g kind highest d h l5))))))

  abbrev pub numbered_as : List PlainDrawnNode → Phrase Breach PlainDrawnNode anything anything
  numbered_as nodes = as_phrase anything anything (numbered_parts nodes) (IsDrawnNode g kind highest nodes) (to_numbered nodes) (from_numbered nodes)

  pub numbered_sound : (nodes : List PlainDrawnNode) → Sound (numbered_node_of (drawn_setting g kind highest) nodes) (IsDrawnNode g kind highest nodes)
  unfolding numbered_node_of
  numbered_sound nodes = (numbered_as nodes).sound

  pub numbered_complete : (nodes : List PlainDrawnNode) → Complete anything (numbered_node_of (drawn_setting g kind highest) nodes) (IsDrawnNode g kind highest nodes)
  unfolding numbered_node_of
  numbered_complete nodes = (numbered_as nodes).complete

  abbrev pub numbered_phrase : List PlainDrawnNode → Phrase Breach PlainDrawnNode anything anything
  numbered_phrase nodes = record { reader = numbered_node_of (drawn_setting g kind highest) nodes; language = IsDrawnNode g kind highest nodes; sound = numbered_sound nodes; complete = numbered_complete nodes; begins = λ ts x l after h. refl }

  -- where there is room
  abbrev pub RoomyNode : List PlainDrawnNode → List Lexeme → PlainDrawnNode → Type 0
  RoomyNode nodes = If (nat_lt (length nodes) 64) true (IsDrawnNode g kind highest nodes)

  abbrev pub roomy_as : ℕ → List PlainDrawnNode → Phrase Breach PlainDrawnNode anything anything
  roomy_as place nodes = roomy_phrase anything anything (nat_lt (length nodes) 64) (other (limited limits.Nodes place)) (numbered_phrase nodes)

  pub node_sound : (place : ℕ) (nodes : List PlainDrawnNode) → Sound (node_of (drawn_setting g kind highest) place nodes) (RoomyNode nodes)
  unfolding node_of
  node_sound place nodes = (roomy_as place nodes).sound

  pub node_complete : (place : ℕ) (nodes : List PlainDrawnNode) → Complete anything (node_of (drawn_setting g kind highest) place nodes) (RoomyNode nodes)
  unfolding node_of
  node_complete place nodes = (roomy_as place nodes).complete

  abbrev pub node_phrase : ℕ → List PlainDrawnNode → Phrase Breach PlainDrawnNode anything anything
  node_phrase place nodes = record { reader = node_of (drawn_setting g kind highest) place nodes; language = RoomyNode nodes; sound = node_sound place nodes; complete = node_complete place nodes; begins = λ ts x l after h. refl }
