-- Whole drawings: read exactly where they are spelled.
use Rattle.std.proofs.Common.{List, None, Option, Some, [], ap, refl, subst, ℕ, ◌++◌, ◌∷◌, ◌≡◌}
use Rattle.std.specs.Option.{option_map}
use Rattle.st_reading.specs.Rule as rules
use Rattle.st_reading.specs.Breaches.{Breach, broke}
use Rattle.st_tokens.specs.Stream.{Lexeme}
use Rattle.st_reading.proofs.ListCompleteness.{Complete}
use Rattle.st_reading.proofs.ListSoundness.{one_mark}
use Rattle.st_reading.specs.Spelling.{Sound, behind_it}
use Rattle.st_reading.specs.Steady.{anything}
use Rattle.st_reading.specs.declared.mark.Mark.TheVariants as marks
use Rattle.temporal_goals.specs.Texts.{PlainDiagram, PlainRule, diagram}
use Rattle.temporal_goals.specs.declared.diagrams.DiagramKind.{DiagramKind}
use Rattle.diagram_reader.specs.Drawing.{closed_of, diagram_of, drawing_of}
use Rattle.diagram_reader.specs.Drawn.{Drawing, diagram_with, nothing_drawn}
use Rattle.proof_script.specs.Listing.{Setting}
use Rattle.proof_grammar.specs.Drawings.{IsDrawing, a_drawing}
use Rattle.proof_grammar.proofs.ItemKinds.{brace}
use Rattle.proof_grammar.proofs.Items.{items_phrase}
use Rattle.proof_grammar.proofs.Names.{known, known_phrase}
use Rattle.st_reading.proofs.Phrases.{Phrase, as_phrase, map_phrase, the_mark, then_phrase}
use Rattle.st_reading.proofs.Tokens.{among}
use Rattle.proof_grammar.proofs.Transitions.{drawn_phrase}

mapped_some : {A B : Type 0} (h : A → B) (o : Option A) (x : B) → option_map h o ≡ Some x → (y : A) × (o ≡ Some y) × (h y ≡ x)
mapped_some h None x e = absurd cc
mapped_some h (Some y) x e = (y, refl, inside (h y) x e)
  where
    inside : {C : Type 0} (a b : C) → Some a ≡ Some b → a ≡ b
    inside a b e = cc

module _ (g : Setting) (kind : DiagramKind) (highest : ℕ) where
  abbrev pub closed_parts : Drawing → Phrase Breach PlainDiagram brace anything
  closed_parts d = then_phrase brace anything anything anything (λ g h. h) (the_mark marks.CloseBrace) (λ place. known_phrase (broke rules.NoTerminal place) (option_map (diagram_with kind d) d.terminal))

  abbrev pub drawing_parts : Phrase Breach PlainDiagram (among (marks.OpenBrace ∷ [])) anything
  drawing_parts = then_phrase (among (marks.OpenBrace ∷ [])) anything anything anything (λ g h. h) (the_mark marks.OpenBrace) (λ m. then_phrase anything brace brace anything (λ g h. h) (items_phrase g kind highest nothing_drawn) closed_parts)

  pub to_drawing : (ts : List Lexeme) (x : PlainDiagram) → drawing_parts.language ts x → IsDrawing g kind highest ts x
  to_drawing ts x (behind_it a a1 m y1 (one_mark t e) (behind_it b b1 d y2 l (behind_it c c1 n y3 (one_mark u f) (known z k)))) =
      let v = mapped_some (diagram_with kind d) d.terminal z k in
      subst (IsDrawing g kind highest (t ∷ b ++ u ∷ [])) v.2 (a_drawing t u b d v.0 e l f v.1)

  pub from_drawing : (ts : List Lexeme) (x : PlainDiagram) → IsDrawing g kind highest ts x → drawing_parts.language ts x
  from_drawing ts x (a_drawing t u a d f e l i k) =
      behind_it (t ∷ []) (a ++ u ∷ []) t.start (diagram_with kind d f) (one_mark t e) (behind_it a (u ∷ []) d (diagram_with kind d f) l (behind_it (u ∷ []) [] u.start (diagram_with kind d f) (one_mark u i) (known (diagram_with kind d f) (ap (option_map (diagram_with kind d)) k))))

  abbrev pub drawing_as : Phrase Breach PlainDiagram (among (marks.OpenBrace ∷ [])) anything
  drawing_as = as_phrase (among (marks.OpenBrace ∷ [])) anything drawing_parts (IsDrawing g kind highest) to_drawing from_drawing

  pub drawing_sound : Sound (diagram_of kind highest g.names g.system) (IsDrawing g kind highest)
  unfolding drawing_of closed_of
  drawing_sound = drawing_as.sound

  pub drawing_complete : Complete anything (diagram_of kind highest g.names g.system) (IsDrawing g kind highest)
  unfolding drawing_of closed_of
  drawing_complete = drawing_as.complete

  abbrev pub drawing_phrase : Phrase Breach PlainDiagram anything anything
  drawing_phrase = record { reader = diagram_of kind highest g.names g.system; language = IsDrawing g kind highest; sound = drawing_sound; complete = drawing_complete; begins = λ ts x l after h. refl }

  -- in a script
  abbrev pub rule_drawing : Phrase Breach PlainRule anything anything
  rule_drawing = map_phrase anything anything (λ d. diagram d) (drawn_phrase anything anything drawing_phrase)
