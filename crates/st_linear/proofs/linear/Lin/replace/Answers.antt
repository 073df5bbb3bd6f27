use Rattle.std.proofs.Common.{rules}
use Rattle.st_linear.proofs.Answering.{IfOk-from_gives}
use Rattle.st_linear.proofs.Joins.{to_z-small}
use Rattle.st_linear.proofs.Replacing.{value-replaced, are_small-kept, AreEntries-kept}
use Rattle.st_linear.proofs.linear.Lin.replace.Goals as goal

pub invariant_of-start : goal.invariant_of-start
invariant_of-start c =
    rw (to_z-small c.self.inside.constant c.self.invariant.constant_small, c.in_ok-kept_entries.ensures, c.as_slice.ensures)
    (record {
      constant_small = c.self.invariant.constant_small;
      entries_small = are_small-kept c.args.numbers.now _ c.self.invariant.entries_small;
      entries = AreEntries-kept c.args.numbers.now _ c.self.invariant.entries;
    })

pub returns-clause-exact : goal.returns-clause-exact
returns-clause-exact c = search rules

pub returns-clause-value : goal.returns-clause-value
returns-clause-value c = IfOk-from_gives (λ f. f) _ c.add_listed.result _ (λ f h store. value-replaced store c.args.numbers.now c.args.self.now f h) (returns-clause-exact c)
