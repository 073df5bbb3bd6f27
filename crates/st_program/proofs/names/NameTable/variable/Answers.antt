use Rattle.std.proofs.Common.{◌∙◌, ap, position}
use Rattle.std.specs.Str.{bytes_eq}
use Rattle.st_program.specs.Names.{names_in}
use Rattle.st_program.proofs.Lookups.{position-is}
use Rattle.st_program.proofs.names.NameTable.variable.Goals as goal

pub returns-in-Some : goal.returns-in-Some
returns-in-Some c = c.in-Some.ensures.index ∙ position-is c.args.name.now c.self.inside.variables.entries ∙ ap (λ v. position (λ k. bytes_eq c.args.name.now k) (names_in v.variables)) c.self.view_is

pub returns-in-None : goal.returns-in-None
returns-in-None c = c.in-None.ensures.index ∙ position-is c.args.name.now c.self.inside.variables.entries ∙ ap (λ v. position (λ k. bytes_eq c.args.name.now k) (names_in v.variables)) c.self.view_is
