-- Whether the data of a store are of the types of variables is asked of each datum.
use Rattle.std.proofs.Common.{◌≡◌, true, not, List, [], ◌∷◌, map, refl, ap}
use Rattle.st_program.specs.declared.residuals.Datum.{Datum}
use Rattle.st_program.specs.declared.residuals.Datum.TheVariants.{Number, Truth}
use Rattle.spl_semantics.specs.Data.{types}
use Rattle.schedule_reader.specs.Values.{has_type}

pub types_are : (ds : List Datum) → types ds ≡ map (has_type true) ds
types_are [] = refl
types_are (Number z ∷ ds) = ap (λ l. not true ∷ l) (types_are ds)
types_are (Truth b ∷ ds) = ap (λ l. true ∷ l) (types_are ds)
