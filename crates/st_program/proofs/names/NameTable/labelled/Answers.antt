use Rattle.std.proofs.Common.{◌∙◌, ap}
use Rattle.std.specs.Option.{option_and_then}
use Rattle.st_program.specs.Names.{named}
use Rattle.st_program.proofs.Lookups.{lookup-named}
use Rattle.st_program.proofs.names.NameTable.labelled.Goals as goal

pub returns-in-Some : goal.returns-in-Some
returns-in-Some c = ap (option_and_then (λ l. l.1)) (c.in-Some.ensures.value ∙ lookup-named c.args.name.now c.self.inside.labels.entries ∙ ap (λ v. named c.args.name.now v.labels) c.self.view_is)

pub returns-in-None : goal.returns-in-None
returns-in-None c = ap (option_and_then (λ l. l.1)) (c.in-None.ensures.value ∙ lookup-named c.args.name.now c.self.inside.labels.entries ∙ ap (λ v. named c.args.name.now v.labels) c.self.view_is)
