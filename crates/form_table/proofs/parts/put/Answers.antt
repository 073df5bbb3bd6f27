use Rattle.form_table.specs.Nodes.{formulas_in}
use Rattle.form_table.proofs.Taking.{takes-put}
use Rattle.form_table.proofs.parts.put.Goals as goal

pub returns-clause-takes : goal.returns-clause-takes
returns-clause-takes c = takes-put c.args.all (formulas_in c.args.store.now) c.args.out.now.items c.push.new.self.items c.args.part c.in_ok-push.ensures.items c.requires.whole
