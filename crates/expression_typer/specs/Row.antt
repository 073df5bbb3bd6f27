-- Formulas that the code has put together, in front of what the rules still give.
use Rattle.std.specs.Prelude.{List, [], ◌∷◌, Result, Ok}
use Rattle.st_form.specs.Formula.{Formulas, more}
use Rattle.st_form.specs.Plain.{plain}
use Rattle.st_form.specs.declared.formulas.Form.{Form}
use Rattle.expression_typer.specs.declared.fault.TypeFault.{TypeFault}
use Rattle.expression_typer.specs.Answers.{◌>>=◌}

abbrev pub onto : List Form → Formulas → Formulas
onto [] gs = gs
onto (f ∷ fs) gs = more (plain f) (onto fs gs)

abbrev pub onto_all : List Form → Result Formulas TypeFault → Result Formulas TypeFault
onto_all fs r = r >>= λ gs. Ok (onto fs gs)
