use Rattle.constant_facts.proofs.starting.first_of.Goals as goal

pub returns : goal.returns
returns c = rw (c.deref-2.ensures.value, c.in_ok-table.ensures, c.deref.ensures.value, c.in_ok-starts.ensures) at c.first_among.ensures
