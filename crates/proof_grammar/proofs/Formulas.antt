-- Formulas and integer expressions, in scripts and in drawings: read exactly where they are spelled.
use Rattle.std.proofs.Common.{Bool, Err, List, Ok, ap, arith, cond, false, nat_lt, not, refl, sym, true, ℕ, ◌<◌, ◌≡◌}
use Rattle.std.proofs.lemmas.Bool.Decides.{nat_tests}
use Rattle.st_reading.specs.Breaches.{Breach}
use Rattle.st_tokens.specs.Stream.{Lexeme, Stream, ◌++>◌}
use Rattle.st_reading.proofs.ListCompleteness.{Complete}
use Rattle.st_reading.specs.Reading.{Read, ahead, place_of, refusal}
use Rattle.st_reading.specs.Sign.{is}
use Rattle.st_reading.specs.Spelling.{Cut, Sound}
use Rattle.st_reading.specs.Steady.{anything}
use Rattle.st_reading.specs.declared.mark.Mark.TheVariants as marks
use Rattle.st_linear.specs.Linear.{Linear}
use Rattle.st_form.specs.Formula.{Formula}
use Rattle.temporal_goals.specs.declared.diagrams.DiagramKind.{DiagramKind}
use Rattle.expression_parser.proofs.ExpressionCompleteness.{below_complete, calm_above, formula_complete, sum_complete}
use Rattle.expression_parser.proofs.ExpressionSoundness.{below_sound, expression_sound, sum_sound}
use Rattle.expression_parser.specs.Calm.{calm}
use Rattle.expression_parser.specs.Grammar.{Inside, IsSum, SpellsWithin}
use Rattle.expression_parser.specs.Reading.{below, expression_of, sum_of as tree_sum_of}
use Rattle.expression_typer.specs.Naming.{names_of}
use Rattle.assertions.specs.Reading.{before, form_of, linear_of, number_of, truth_of}
use Rattle.diagram_reader.specs.Drawing.{formula_of as drawing_formula_of, sum_of as drawing_sum_of}
use Rattle.diagram_reader.specs.Drawn as diagrams
use Rattle.diagram_reader.specs.Faults.{unit_of as drawing_unit_of}
use Rattle.proof_script.specs.Faults.{one_too_many}
use Rattle.proof_script.specs.Listing.{Setting, formula_of, listed_formula_of, sum_of}
use Rattle.proof_grammar.specs.Units.{IsFormula, IsNumber}
use Rattle.proof_grammar.proofs.Counted.{Few}
use Rattle.proof_grammar.proofs.Meanings.{formula_typed, formula_meant, number_typed, number_meant}
use Rattle.st_reading.proofs.Phrases.{Phrase}
use Rattle.proof_grammar.proofs.TypedTexts.{above_two, no_front, not_both, refused, typed_complete, typed_cut, undrawn}

-- a unit that is read in a drawing
drawing_unit_read : {A : Type 0} (r : Read Breach A) (y : A × Stream) → drawing_unit_of r ≡ Ok y → r ≡ Ok y
drawing_unit_read (Ok x) y h = ap Ok (let e : x ≡ y = cc in e)
drawing_unit_read (Err f) y h = absurd cc

pub below_limit : (n : ℕ) → nat_lt n 64 ≡ true → n < 64
below_limit n h = grind (arith, nat_tests)

pub is_below : (n : ℕ) → n < 64 → nat_lt n 64 ≡ true
is_below n h = grind (arith, nat_tests)

none_read : {A : Type 0} (place : ℕ) (r : Read Breach A) (y : A) (rest : Stream) → one_too_many place r ≡ Ok (y, rest) → ⊥
none_read place (Ok x) y rest h = cc
none_read place (Err f) y rest h = cc

module _ (g : Setting) where
  form_cut : (s : Stream) (x : Formula) (rest : Stream) → form_of (names_of g.names) s ≡ Ok (x, rest) → Cut (IsFormula g) s x rest
  unfolding form_of
  form_cut s x rest h =
      let c = typed_cut (λ s. expression_of true (below true 32) s) (SpellsWithin true 32) (truth_of (names_of g.names)) (expression_sound true (below true 32) (Inside true 32) (below_sound true 32)) s x rest h in
      record { text = c.text; is = c.is; spells = formula_meant g c.text x c.spells.tree c.spells.spells c.spells.typed }

  form_complete : (ts : List Lexeme) (x : Formula) → IsFormula g ts x → (after : Stream) → calm (ahead after) ≡ true → form_of (names_of g.names) (ts ++> after) ≡ Ok (x, after)
  unfolding form_of
  form_complete ts x l after h =
      typed_complete (λ s. expression_of true (below true 32) s) (SpellsWithin true 32) (truth_of (names_of g.names)) calm (formula_complete true 32 32 (omega arith)) ts x
      (record { tree = l.tree; spells = l.spells; typed = formula_typed g ts x l }) after h

  pub truth_begins : (ts : List Lexeme) (x : Formula) → IsFormula g ts x → (after : Stream) → calm (ahead after) ≡ true → undrawn (ahead (ts ++> after)) ≡ true
  truth_begins ts x l after h = at_test (is (ahead (ts ++> after)) marks.Diagram) refl
    where
      at_test : (b : Bool) → b ≡ is (ahead (ts ++> after)) marks.Diagram → undrawn (ahead (ts ++> after)) ≡ true
      at_test false e = ap not (sym e)
      at_test true e =
          absurd (not_both (expression_of true (below true 32) (ts ++> after)) l.tree after (refusal (ts ++> after)) (formula_complete true 32 32 (omega arith) ts l.tree l.spells after h) (refused true (below true 32) (ts ++> after) (no_front (ahead (ts ++> after)) (sym e))))

  tree_complete : Complete calm (tree_sum_of true (below true 32)) (IsSum true (Inside true 32))
  tree_complete ts x l after h =
      sum_complete true (below true 32) (Inside true 32) (Inside true 32) (below_sound true 32) (below_complete true 32 32 (omega arith)) ts x l after (above_two (ahead after) (calm_above (ahead after) h))

  linear_cut : (s : Stream) (x : Linear) (rest : Stream) → linear_of (names_of g.names) s ≡ Ok (x, rest) → Cut (IsNumber g) s x rest
  unfolding linear_of
  linear_cut s x rest h =
      let c = typed_cut (tree_sum_of true (below true 32)) (IsSum true (Inside true 32)) (number_of (names_of g.names)) (sum_sound true (below true 32) (Inside true 32) (below_sound true 32)) s x rest h in
      record { text = c.text; is = c.is; spells = number_meant g c.text x c.spells.tree c.spells.spells c.spells.typed }

  linear_complete : (ts : List Lexeme) (x : Linear) → IsNumber g ts x → (after : Stream) → calm (ahead after) ≡ true → linear_of (names_of g.names) (ts ++> after) ≡ Ok (x, after)
  unfolding linear_of
  linear_complete ts x l after h =
      typed_complete (tree_sum_of true (below true 32)) (IsSum true (Inside true 32)) (number_of (names_of g.names)) calm tree_complete ts x
      (record { tree = l.tree; spells = l.spells; typed = number_typed g ts x l }) after h

  -- IN SCRIPTS
  pub truth_sound : Sound (formula_of g) (IsFormula g)
  unfolding formula_of
  truth_sound s x rest h = form_cut s x rest h

  pub truth_complete : Complete calm (formula_of g) (IsFormula g)
  unfolding formula_of
  truth_complete ts x l after h = form_complete ts x l after h

  abbrev pub truth_phrase : Phrase Breach Formula undrawn calm
  truth_phrase = record { reader = formula_of g; language = IsFormula g; sound = truth_sound; complete = truth_complete; begins = truth_begins }

  pub number_sound : Sound (sum_of g) (IsNumber g)
  unfolding sum_of
  number_sound s x rest h = linear_cut s x rest h

  pub number_complete : Complete calm (sum_of g) (IsNumber g)
  unfolding sum_of
  number_complete ts x l after h = linear_complete ts x l after h

  abbrev pub number_phrase : Phrase Breach Linear anything calm
  number_phrase = record { reader = sum_of g; language = IsNumber g; sound = number_sound; complete = number_complete; begins = λ ts x l after h. refl }

  -- A FORMULA THAT IS LISTED
  pub few_sound : (before : ℕ) → Sound (listed_formula_of g before) (Few before (IsFormula g))
  unfolding listed_formula_of
  few_sound before s f rest h = at_test (nat_lt before 64) refl h
    where
      at_test : (b : Bool) → nat_lt before 64 ≡ b → cond b (formula_of g s) (one_too_many (place_of s) (form_of (names_of g.names) s)) ≡ Ok (f, rest) → Cut (Few before (IsFormula g)) s f rest
      at_test true is h = let c = truth_sound s f rest h in record { text = c.text; is = c.is; spells = (below_limit before is, c.spells) }
      at_test false is h = absurd (none_read (place_of s) (form_of (names_of g.names) s) f rest h)

  pub few_complete : (before : ℕ) → Complete calm (listed_formula_of g before) (Few before (IsFormula g))
  unfolding listed_formula_of
  few_complete before ts f l after h = let e = is_below before l.0 in rw e (truth_complete ts f l.1 after h)

  pub few_begins : (before : ℕ) (ts : List Lexeme) (x : Formula) → Few before (IsFormula g) ts x → (after : Stream) → calm (ahead after) ≡ true → undrawn (ahead (ts ++> after)) ≡ true
  few_begins before ts x l after h = truth_begins ts x l.1 after h

  abbrev pub listed_truth : ℕ → Phrase Breach Formula undrawn calm
  listed_truth before = record { reader = listed_formula_of g before; language = Few before (IsFormula g); sound = few_sound before; complete = few_complete before; begins = few_begins before }

  -- IN DRAWINGS
  module _ (kind : DiagramKind) (highest : ℕ) where
    abbrev pub drawing_setting : diagrams.Setting
    drawing_setting = record { kind = kind; levels = highest; names = g.names; system = g.system }

    pub drawn_truth_sound : Sound (drawing_formula_of drawing_setting) (IsFormula g)
    unfolding drawing_formula_of
    drawn_truth_sound s x rest h = form_cut s x rest (drawing_unit_read (form_of (names_of g.names) s) (x, rest) h)

    pub drawn_truth_complete : Complete calm (drawing_formula_of drawing_setting) (IsFormula g)
    unfolding drawing_formula_of
    drawn_truth_complete ts x l after h = ap drawing_unit_of (form_complete ts x l after h)

    abbrev pub drawn_truth : Phrase Breach Formula undrawn calm
    drawn_truth = record { reader = drawing_formula_of drawing_setting; language = IsFormula g; sound = drawn_truth_sound; complete = drawn_truth_complete; begins = truth_begins }

    pub drawn_number_sound : Sound (drawing_sum_of drawing_setting) (IsNumber g)
    unfolding drawing_sum_of
    drawn_number_sound s x rest h = linear_cut s x rest (drawing_unit_read (linear_of (names_of g.names) s) (x, rest) h)

    pub drawn_number_complete : Complete calm (drawing_sum_of drawing_setting) (IsNumber g)
    unfolding drawing_sum_of
    drawn_number_complete ts x l after h = ap drawing_unit_of (linear_complete ts x l after h)

    abbrev pub drawn_number_phrase : Phrase Breach Linear anything calm
    drawn_number_phrase = record { reader = drawing_sum_of drawing_setting; language = IsNumber g; sound = drawn_number_sound; complete = drawn_number_complete; begins = λ ts x l after h. refl }
