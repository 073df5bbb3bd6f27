use Rattle.constant_facts.proofs.keeping.kept_by.Goals as goal

pub returns : goal.returns
returns c =
    rw (c.deref-3.ensures.value, c.deref-4.ensures.value, c.in_ok-known.ensures, c.in_ok-places.ensures, c.deref.ensures.value, c.deref-2.ensures.value) at c.kept_among.ensures
