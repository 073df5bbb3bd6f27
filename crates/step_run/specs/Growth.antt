-- What holds of a text of invariances while it grows.
use Rattle.std.specs.Prelude.{◌≡◌, ℕ, Bool, true, false, List, ◌∷◌, ◌++◌, [], length, map, Option, Some, None, Ok, Err}
use Rattle.st_form.specs.Condition.{Implication}
use Rattle.st_form.specs.Shared.{plain_condition}
use Rattle.st_form.specs.declared.conditions.Condition.{Condition}
use Rattle.st_program.specs.Plain.{plain_children}
use Rattle.control_facts.specs.Alternatives.{control_of}
use Rattle.search_laws.specs.Searchable.{AreSearchable}
use Rattle.transition_system.specs.Plain.{plain_system}
use Rattle.temporal_goals.specs.Texts.{PlainStep}
use Rattle.temporal_goals.specs.Plain.{plain_script}
use Rattle.temporal_goals.specs.declared.scripts.Script.{Script}
use Rattle.vc_generator.specs.declared.faults.VcFault.{VcFault}
use Rattle.spl_typer.specs.Programs.{Typed}
use Rattle.st_reading.specs.Reading.{Stop}
use Rattle.st_reading.specs.Breaches.{Breach}
use Rattle.proof_grammar.specs.Growing.{Stands}
use Rattle.equation_writer.specs.Sentences.{left_out_text}
use Rattle.step_run.specs.declared.acceptance.Subject.{Subject}
use Rattle.step_run.specs.Source.{IsSpelled}
use Rattle.step_run.specs.Views.{source_view}
use Rattle.step_run.specs.Conditions.{system_of, setting_of, words_over, steps_spelled, conditions_of, passes_limit}
use Rattle.step_run.specs.Invariants.{are_decided, accepts, accepts_steps, entry}

-- a program with its system and its components
pub record IsSubject (s : Subject) : Type 0 where
  pub spelled : IsSpelled (source_view s.source)
  pub system : plain_system s.fts ≡ system_of (source_view s.source)
  pub control : s.components ≡ control_of (plain_children s.source.program.processes)

-- the text is accepted, whatever stands in the lines behind it
pub record IsAccepted (p : Typed) (text : List ℕ) : Type 0 where
  pub steps : List PlainStep
  pub stands : Stands (words_over p) text steps
  pub few : passes_limit p steps ≡ None
  pub decided : are_decided (setting_of p) (conditions_of p steps) ≡ true

-- the text is accepted, and its script has so many steps and these conditions
pub record IsKept (p : Typed) (text : List ℕ) (count : ℕ) (cs : List Implication) : Type 0 where
  pub accepted : IsAccepted p text
  pub counted : count ≡ length accepted.steps
  pub these : cs ≡ conditions_of p accepted.steps

-- the script that a text spells, if it spells one
abbrev pub IsScriptIn : Typed → List ℕ → Option Script → Type 0
IsScriptIn p text None = (fault : Stop Breach) × (steps_spelled p text ≡ Err fault)
IsScriptIn p text (Some script) = steps_spelled p text ≡ Ok (plain_script script)

-- the conditions of a script
pub record AreConditions (p : Typed) (steps : List PlainStep) (cs : List Condition) : Type 0 where
  pub few : passes_limit p steps ≡ None
  pub these : map plain_condition cs ≡ conditions_of p steps
  pub searchable : AreSearchable (length p.variables) cs

-- the list has them, unless one passes a limit
abbrev pub AreListed : Typed → List PlainStep → List Condition → Bool → Type 0
AreListed p steps cs true = AreConditions p steps cs
AreListed p steps cs false = (passed : VcFault × ℕ) × (passes_limit p steps ≡ Some passed)

-- the conditions of a script that passes no limit, all of them decided valid
pub record AreAccepted (p : Typed) (steps : List PlainStep) (cs : List Implication) : Type 0 where
  pub few : passes_limit p steps ≡ None
  pub these : cs ≡ conditions_of p steps
  pub decided : are_decided (setting_of p) cs ≡ true

-- the list has them; or the script isn't accepted
abbrev pub AreTried : Typed → List PlainStep → List Implication → Bool → Type 0
AreTried p steps cs true = AreAccepted p steps cs
AreTried p steps cs false = accepts_steps p (Ok steps) ≡ false

-- the same of what is kept; where the script isn't accepted, that is as it was
abbrev pub AreTaken : Typed → List PlainStep → ℕ → List Implication → ℕ → List Implication → Bool → Type 0
AreTaken p steps count cs count' cs' true = (count' ≡ length steps) × AreAccepted p steps cs'
AreTaken p steps count cs count' cs' false = (accepts_steps p (Ok steps) ≡ false) × (count' ≡ count) × (cs' ≡ cs)

-- whether a text with more behind it is accepted; then it is what is kept, in a line, and else the text is
abbrev pub Judges : Typed → List ℕ → List ℕ → ℕ → List Implication → Bool → Type 0
Judges p text more count cs true = (accepts p (text ++ more) ≡ true) × IsKept p ((text ++ more) ++ 10 ∷ []) count cs
Judges p text more count cs false = (accepts p (text ++ more) ≡ false) × IsKept p text count cs

-- the sentence that is entered behind a text for the n-th equation, if one is
abbrev pub IsChosen : Typed → List ℕ → ℕ → Option (List ℕ) → ℕ → List Implication → Option (List ℕ) → Type 0
IsChosen p text n s count cs None = (entry p text n s ≡ left_out_text n) × IsKept p text count cs
IsChosen p text n s count cs (Some t) = (entry p text n s ≡ t) × IsKept p ((text ++ t) ++ 10 ∷ []) count cs
