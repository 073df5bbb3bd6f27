use Rattle.std.proofs.Common.{◌∙◌, ap, sym, slice_get, Some}
use Rattle.std.specs.Option.{option_map}
use Rattle.std.specs.String.{string_bytes}
use Rattle.st_program.specs.Names.{names_in}
use Rattle.st_program.proofs.Lookups.{name-at}
use Rattle.st_program.proofs.names.NameTable.variable_name.Goals as goal

pub returns-in-Some : goal.returns-in-Some
returns-in-Some c =
    ap (λ v. slice_get (names_in v.variables) c.args.var) (sym c.self.view_is)
    ∙ name-at c.self.inside.variables.entries c.args.var
    ∙ ap (option_map (λ e. string_bytes e.0)) (sym c.in-Some.ensures.entry)
    ∙ ap Some (sym c.as_str.ensures.value)
