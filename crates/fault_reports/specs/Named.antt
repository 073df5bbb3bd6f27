-- Names of a program are those of its variables, with their types.
use Rattle.std.specs.Prelude.{◌≡◌, map}
use Rattle.posed_conditions.specs.declared.translated.TranslatedProgram.{TranslatedProgram}

abbrev pub AreNamed : TranslatedProgram → Type 0
AreNamed x = map (λ v. v.1) x.names.variables ≡ map (λ v. v.truth) x.program.variables
