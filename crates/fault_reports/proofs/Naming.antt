-- What a program is translated from names its variables.
use Rattle.spl_typer.proofs.Tabled.{kinds_stand}
use Rattle.posed_conditions.specs.declared.translated.TranslatedProgram.{TranslatedProgram}
use Rattle.posed_conditions.specs.Translated.{IsTranslated, typed_of}
use Rattle.fault_reports.specs.Named.{AreNamed}

pub names_are : (x : TranslatedProgram) → IsTranslated x → AreNamed x
names_are x made = kinds_stand made.tree (typed_of x) made.types
