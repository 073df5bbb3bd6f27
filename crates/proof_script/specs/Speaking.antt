-- What a script that is read speaks of: a program's variables, each by its type, and its locations, with numbers that are small.
use Rattle.std.specs.Prelude.{◌≡◌, ℕ, List, All, Ok}
use Rattle.st_form.specs.declared.variables.Variable.{Variable}
use Rattle.st_program.specs.Names.{Names}
use Rattle.transition_system.specs.Systems.{System}
use Rattle.temporal_goals.specs.Texts.{PlainStep}
use Rattle.expression_typer.specs.Naming.{names_of, NamesOver}
use Rattle.script_speech.specs.Over.{StepOver}
use Rattle.proof_script.specs.Script.{script_spelled}

-- A script that is read with such names speaks of no others.
abbrev pub ScriptsAreOver : Type 0
ScriptsAreOver =
    (vs : List Variable) (locations : ℕ) (names : Names) (system : System) → NamesOver vs locations (names_of names)
    → (text : List ℕ) (steps : List PlainStep) → script_spelled names system text ≡ Ok steps → All (StepOver vs locations) steps
