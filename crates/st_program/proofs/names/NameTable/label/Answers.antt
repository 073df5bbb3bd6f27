use Rattle.std.proofs.Common.{◌∙◌, ap}
use Rattle.std.specs.Option.{option_map}
use Rattle.st_program.specs.Names.{named}
use Rattle.st_program.proofs.Lookups.{lookup-named}
use Rattle.st_program.proofs.names.NameTable.label.Goals as goal

pub returns-in-Some : goal.returns-in-Some
returns-in-Some c = ap (option_map (λ l. l.0)) (c.in-Some.ensures.value ∙ lookup-named c.args.name.now c.self.inside.labels.entries ∙ ap (λ v. named c.args.name.now v.labels) c.self.view_is)

pub returns-in-None : goal.returns-in-None
returns-in-None c = ap (option_map (λ l. l.0)) (c.in-None.ensures.value ∙ lookup-named c.args.name.now c.self.inside.labels.entries ∙ ap (λ v. named c.args.name.now v.labels) c.self.view_is)
