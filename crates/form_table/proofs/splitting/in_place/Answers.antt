use Rattle.std.proofs.Common.{arith}
use Rattle.form_table.specs.Table.{formula}
use Rattle.form_table.specs.Nodes.{formulas_in}
use Rattle.form_table.proofs.Placing.{begun, placed, placed-there}
use Rattle.form_table.proofs.splitting.in_place.Goals as goal

pub returns-clause-exact : goal.returns-clause-exact
returns-clause-exact c =
    placed (formulas_in c.args.store.now) c.args.parts.now c.extend_from_slice.new.self.items c.extend_from_slice-2.new.self.items c.extend_from_slice-3.new.self.items c.opened.result.now (formula (formulas_in c.args.store.now) c.args.number) c.args.place _ _
    (omega arith) (omega arith) (begun _ _ _ c.in_ok-extend_from_slice.ensures.items c.clear.ensures.items) c.in_ok-extend_from_slice-2.ensures.items c.in_ok-extend_from_slice-3.ensures.items c.opened.ensures.exact

pub returns-clause-there : goal.returns-clause-there
returns-clause-there c =
    placed-there (formulas_in c.args.store.now) c.args.parts.now c.extend_from_slice.new.self.items c.extend_from_slice-2.new.self.items c.extend_from_slice-3.new.self.items c.opened.result.now c.args.place _ _
    (begun _ _ _ c.in_ok-extend_from_slice.ensures.items c.clear.ensures.items) c.in_ok-extend_from_slice-2.ensures.items c.in_ok-extend_from_slice-3.ensures.items c.requires.parts c.opened.ensures.there
