use Rattle.std.proofs.Common.{◌∙◌, ◌++◌, ap}
use Rattle.form_table.specs.Nodes.{formulas_in, parts_at}
use Rattle.form_table.proofs.Taking.{takes-parts}
use Rattle.form_table.proofs.parts.put_parts.Goals as goal

pub returns-clause-takes : goal.returns-clause-takes
returns-clause-takes c =
    takes-parts c.args.all (formulas_in c.args.store.now) c.args.out.now.items c.extend_from_slice.new.self.items (parts_at c.args.store.now.parts c.args.at.0 c.args.at.1) c.args.part
    (c.in_ok-extend_from_slice.ensures.items ∙ ap (λ k. c.args.out.now.items ++ k) c.parts.ensures) c.requires.parts
