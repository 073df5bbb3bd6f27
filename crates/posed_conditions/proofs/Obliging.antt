-- What generating conditions asks of a script that was read, by the laws of reading.
use Rattle.std.proofs.Common.{◌≡◌, ℕ, List, ap, sym, subst}
use Rattle.std.specs.Prelude.{All, Ok}
use Rattle.transition_system.specs.Plain.{plain_system}
use Rattle.temporal_goals.specs.Texts.{PlainStep}
use Rattle.list_laws.specs.Each.{Each}
use Rattle.rule_fits.specs.Obeying.{IsProof}
use Rattle.script_laws.specs.Written.{StepWritten}
use Rattle.script_speech.specs.Over.{StepOver}
use Rattle.script_bounds.specs.Over.{OverIsWritten}
use Rattle.spl_typer.proofs.Tabled.{names_stand}
use Rattle.proof_script.specs.Script.{script_spelled}
use Rattle.proof_script.specs.Obeying.{ScriptsAreProofs}
use Rattle.proof_script.specs.Speaking.{ScriptsAreOver}
use Rattle.posed_conditions.specs.declared.translated.TranslatedProgram.{TranslatedProgram}
use Rattle.posed_conditions.specs.Translated.{typed_of, IsTranslated}

-- some text spells the steps over the program
abbrev pub IsSpelled : TranslatedProgram → List PlainStep → Type 0
IsSpelled x steps = (text : List ℕ) × (script_spelled x.names (plain_system x.system) text ≡ Ok steps)

pub is_proof : ScriptsAreProofs → (x : TranslatedProgram) (steps : List PlainStep) → IsSpelled x steps → IsProof (plain_system x.system) steps
is_proof law x steps spelled = law x.names (plain_system x.system) spelled.0 steps spelled.1

pub is_written : ScriptsAreOver → OverIsWritten → (x : TranslatedProgram) (steps : List PlainStep) → IsTranslated x → IsSpelled x steps → Each (StepWritten (plain_system x.system)) steps
is_written over written x steps made spelled =
    let p = typed_of x in
    let system = plain_system x.system in
    let here : All (StepOver p.variables p.locations) steps = over p.variables p.locations p.names system (names_stand made.tree p made.types) spelled.0 steps spelled.1 in
    written p.variables system (ap (λ s. s.truths) made.system) steps (subst (λ n. All (StepOver p.variables n) steps) (sym (ap (λ s. s.locations) made.system)) here)
