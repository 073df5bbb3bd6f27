-- What a script is read for, and lists whose items know how many stand before them.
use Rattle.std.specs.Prelude.{ℕ, cond, nat_lt, List, [], ◌∷◌, ◌++◌, length, Option, Some, None, Ok}
use Rattle.st_tokens.specs.Stream.{behind}
use Rattle.st_reading.specs.declared.mark.Mark.{Mark}
use Rattle.st_reading.specs.declared.mark.Mark.TheVariants as marks
use Rattle.st_reading.specs.Sign.{is}
use Rattle.st_reading.specs.Reading.{ahead, place_of, expected, gives, then_reads, goes, chain, only, size, Turn}
use Rattle.st_reading.specs.Rule as rules
use Rattle.st_reading.specs.Breaches.{broke, Reader, unless}
use Rattle.st_linear.specs.Linear.{Linear}
use Rattle.st_form.specs.Formula.{Formula}
use Rattle.st_program.specs.Names.{Names}
use Rattle.transition_system.specs.Systems.{System}
use Rattle.transition_system.specs.Plain.{plain_system}
use Rattle.expression_typer.specs.Naming.{names_of}
use Rattle.assertions.specs.Reading.{form_of, linear_of}
use Rattle.ranked_net.specs.Making.{is_unfair, is_uncompassionate}
use Rattle.diagram_reader.specs.Transitions as diagrams
use Rattle.proof_script.specs.declared.setting.Setting as code
use Rattle.proof_script.specs.Faults.{drawn, one_too_many}

-- the names of the program, and its transitions
pub record Setting : Type 0 where
  pub names : Names
  pub system : System

abbrev pub setting_view : code.Setting → Setting
setting_view g = record { names = g.names.now; system = plain_system g.fts.now }

-- what may stand behind a mark
abbrev pub optional : {A : Type 0} → Mark → Reader A → Reader (Option A)
optional mark r s = cond (is (ahead s) mark) (then_reads r (λ x. gives (Some x)) (behind s)) (Ok (None, s))

-- what has to stand behind a mark
abbrev pub behind_mark : {A : Type 0} → Mark → Reader A → Reader A
behind_mark mark r = then_reads (expected mark) (λ m. r)

-- a further item of a list, which is read by how many stand before it
abbrev pub counted : {A B : Type 0} → (ℕ → Reader A) → Unit {0} → ℕ → List A → Reader (Turn B (List A))
counted r o place xs = then_reads (r (length xs)) (λ x. gives (goes (xs ++ x ∷ [])))

abbrev pub further_counted : {A : Type 0} → Mark → (ℕ → Reader A) → List A → Reader (List A)
further_counted mark r xs s = chain (only mark) (counted r) gives (size s) xs s

-- items with marks between them
abbrev pub listed : {A : Type 0} → Mark → (ℕ → Reader A) → Reader (List A)
listed mark r = then_reads (r 0) (λ x. further_counted mark r (x ∷ []))

-- "[" item { ";" item } "]"
abbrev pub bracketed : {A : Type 0} → (ℕ → Reader A) → Reader (List A)
bracketed r = behind_mark marks.OpenBlock (then_reads (listed marks.Semicolon r) (λ xs. then_reads (expected marks.CloseBlock) (λ m. gives xs)))

module _ (g : Setting) where
  -- a formula, and an integer expression, over the program's names
  unfoldable pub formula_of : Reader Formula
  formula_of s = form_of (names_of g.names) s

  unfoldable pub sum_of : Reader Linear
  sum_of s = linear_of (names_of g.names) s

  -- a formula that is listed, or with which what is listed begins, behind so many others; there are at most 64
  unfoldable pub listed_formula_of : ℕ → Reader Formula
  listed_formula_of before s = cond (nat_lt before 64) (formula_of s) (one_too_many (place_of s) (form_of (names_of g.names) s))

  -- a transition: its number, and the place of its first token
  unfoldable pub transition_of : Reader (ℕ × ℕ)
  transition_of s = drawn (diagrams.transition_of g.names g.system s)

  -- a just transition, and a compassionate one
  unfoldable pub just_of : Reader ℕ
  just_of = then_reads transition_of (λ t. unless (is_unfair g.system (Some t.0)) (broke rules.UnfairHelper t.1) t.0)

  unfoldable pub compassionate_of : Reader ℕ
  compassionate_of = then_reads transition_of (λ t. unless (is_uncompassionate g.system (Some t.0)) (broke rules.NotCompassionate t.1) t.0)
