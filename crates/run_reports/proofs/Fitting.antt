-- The store of a schedule is one of the program.
use Rattle.std.proofs.Common.{◌≡◌, ◌∙◌, Bool, true, not, List, [], ◌∷◌, map, refl, ap}
use Rattle.st_program.specs.declared.residuals.Datum.{Datum}
use Rattle.spl_semantics.specs.Data.{types, StoreFits}
use Rattle.schedule_reader.specs.Values.{has_type}
use Rattle.spl_typer.proofs.Tabled.{kinds_stand}
use Rattle.posed_conditions.specs.declared.translated.TranslatedProgram.{TranslatedProgram}
use Rattle.posed_conditions.specs.Translated.{IsTranslated, typed_of}
use Rattle.trace_player.proofs.Fitting.{types_are}

-- names are those of the program's variables
pub names_are : (x : TranslatedProgram) → IsTranslated x → map (λ v. v.1) x.names.variables ≡ map (λ v. v.truth) x.program.variables
names_are x made = kinds_stand made.tree (typed_of x) made.types

pub store_fits : (x : TranslatedProgram) (ds : List Datum) → IsTranslated x → map (has_type true) ds ≡ map (λ v. v.1) x.names.variables → StoreFits x.program.variables ds
store_fits x ds made is = types_are ds ∙ is ∙ names_are x made
