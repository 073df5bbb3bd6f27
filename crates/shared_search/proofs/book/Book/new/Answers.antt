use Rattle.std.proofs.Common.{subst, sym}
use Rattle.farkas_check.specs.PlainProblem.{setting}
use Rattle.form_table.specs.Contents.{Contents}
use Rattle.shared_search.specs.Books.{AreNumbered}
use Rattle.shared_search.proofs.Knowing.{no-entries, none-found}
use Rattle.shared_search.proofs.book.Book.new.Goals as goal

pub returns : goal.returns
returns c = record {
  decisions = subst (λ (t : Contents). AreNumbered (setting c.args.components.now c.args.variables.now) t.decisions c.in_ok-decisions.decisions) (sym c.table.view_is) c.in_ok-decisions.ensures;
  remembers = record {
    first = c.in_ok-first_contexts.ensures;
    known = rw c.new-3.ensures.items (none-found (setting c.args.components.now c.args.variables.now) _ _);
    others = rw c.no_entries.ensures (no-entries (setting c.args.components.now c.args.variables.now) _ _ _);
  };
}
