-- The units of a script: names of steps, formulas, integer expressions and transitions. `earlier` are the steps that stand
-- before; `g` is the program, its names and its transitions.
use Rattle.std.specs.Prelude.{List, Some, [], map, slice_get, true, ℕ, ◌∷◌, ◌≡◌}
use Rattle.st_tokens.specs.Stream.{Lexeme}
use Rattle.st_reading.specs.Spelling.{Is, IsName}
use Rattle.st_reading.specs.declared.mark.Mark.TheVariants as marks
use Rattle.st_linear.specs.Linear.{Linear}
use Rattle.st_form.specs.Formula.{Formula}
use Rattle.st_form.specs.declared.conditions.Part.{Part}
use Rattle.st_form.specs.declared.conditions.Part.TheVariants.{Whole}
use Rattle.st_program.specs.Names.{IsNew}
use Rattle.st_program.specs.Tree as terms
use Rattle.observations.specs.Observation.{IsCompassionate, IsJust}
use Rattle.temporal_goals.specs.Texts.{PlainStep, invariant}
use Rattle.expression_parser.specs.Grammar.{Inside, IsSum, SpellsWithin}
use Rattle.expression_typer.specs.Naming.{is_text, names_of}
use Rattle.rule_fits.specs.Fitting.{fairness_of}
use Rattle.assertions.specs.Labels.{part_named}
use Rattle.diagram_reader.specs.Transitions.{transition_named}
use Rattle.proof_script.specs.Listing.{Setting}
use Rattle.proof_grammar.specs.Phrases.{Meant}

-- NAMES OF STEPS
abbrev pub names_of_steps : List PlainStep → List (List ℕ)
names_of_steps steps = map (λ s. s.name) steps

-- a name that no earlier step has
pub data IsNewName (earlier : List PlainStep) : List Lexeme → List ℕ → Type 0 where
  new_name : (t : Lexeme) → IsName t → IsNew t.text (names_of_steps earlier) → IsNewName earlier (t ∷ []) t.text

-- the earlier step of this number, counted from 0, has this name and is an invariance
pub record IsEarlierInvariance (earlier : List PlainStep) (name : List ℕ) (number : ℕ) : Type 0 where
  pub step : PlainStep
  pub formula : Formula
  pub there : slice_get earlier number ≡ Some step
  pub called : step.name ≡ name
  pub claims : step.goal ≡ invariant formula

-- the name of an earlier invariance, and its number; names are ASCII, as all are in a text
pub data IsCited (earlier : List PlainStep) : List Lexeme → ℕ → Type 0 where
  cited_name : (t : Lexeme) (n : ℕ) → IsName t → is_text t.text ≡ true → IsEarlierInvariance earlier t.text n → IsCited earlier (t ∷ []) n

-- [ "." ( "entry" | "exit" ) ]
pub data IsPart : List Lexeme → Part → Type 0 where
  the_whole : IsPart [] Whole
  a_part : (u v : Lexeme) (part : Part) → Is marks.Dot u → IsName v → part_named v.text ≡ Some part → IsPart (u ∷ v ∷ []) part

module _ (g : Setting) where
  -- FORMULAS
  -- a formula with at most 32 levels, and an integer expression, over the program's names
  abbrev pub IsFormula : List Lexeme → Formula → Type 0
  IsFormula ts f = Meant (SpellsWithin true 32) (names_of g.names) ts (terms.truth f)

  abbrev pub IsNumber : List Lexeme → Linear → Type 0
  IsNumber ts f = Meant (IsSum true (Inside true 32)) (names_of g.names) ts (terms.number f)

  -- TRANSITIONS
  -- name [ "." ( "entry" | "exit" ) ]: the transition that is the statement with this label, or that part of it
  pub data IsTransition : List Lexeme → ℕ → Type 0 where
    a_transition : (t : Lexeme) (ts : List Lexeme) (part : Part) (n : ℕ) → IsName t → IsPart ts part → transition_named g.names g.system t.text part ≡ Some n → IsTransition (t ∷ ts) n

  -- a just one
  pub data IsHelper : List Lexeme → ℕ → Type 0 where
    a_helper : (ts : List Lexeme) (n : ℕ) → IsTransition ts n → IsJust (fairness_of g.system) n → IsHelper ts n

  -- a compassionate one
  pub data IsGroup : List Lexeme → ℕ → Type 0 where
    a_group : (ts : List Lexeme) (n : ℕ) → IsTransition ts n → IsCompassionate (fairness_of g.system) n → IsGroup ts n
