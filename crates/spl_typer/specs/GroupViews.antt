-- The paths of the code, and what is told of them, as plain data.
use Rattle.std.specs.Prelude.{List, map}
use Rattle.std.specs.declared.vec.Vec.{Vec}
use Rattle.std.specs.declared.alloc.Global.{Global}
use Rattle.st_form.specs.Plain.{plain}
use Rattle.st_program.specs.Plain.{plain_targets}
use Rattle.st_program.specs.Groups.{tested, given}
use Rattle.st_program.specs.Groups as plain_groups
use Rattle.spl_typer.specs.declared.paths.Link.{Link}
use Rattle.spl_typer.specs.declared.paths.Link.TheVariants as links
use Rattle.spl_typer.specs.declared.composing.Measure as code
use Rattle.spl_typer.specs.Measured.{Measure}

abbrev pub link_view : Link → plain_groups.Link
link_view (links.Tested f b) = tested (plain f.now) b
link_view (links.Given xs) = given (plain_targets xs.now)

abbrev pub path_view : Vec Link Global → List plain_groups.Link
path_view path = map link_view path.items

abbrev pub path_views : List (Vec Link Global) → List (List plain_groups.Link)
path_views paths = map path_view paths

abbrev pub measure_view : code.Measure → Measure
measure_view m = record { tests = m.tests.items; numbers = m.numbers.items; truths = m.truths.items }
