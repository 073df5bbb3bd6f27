use Rattle.std.proofs.Common.{ap, ◌∙◌, List}
use Rattle.cert_text.specs.declared.reader.Block.{Block}
use Rattle.cert_text.specs.Held.{Held}
use Rattle.cert_laws.specs.Laws.{closed}
use Rattle.block_laws.specs.Checked.{checked_from, pending_from}
use Rattle.block_laws.specs.Plain.{trees, plains}
use Rattle.certificate_batches.specs.Finding.{finding_of, finding}
use Rattle.certificate_batches.specs.Batches.{comes_to}
use Rattle.certificate_batches.proofs.batches.Batches.new.Goals as goal

pub returns-clause-begun : goal.returns-clause-begun
unfolding comes_to finding
returns-clause-begun c = λ k cs text.
    (ap (λ (x : List Block). finding_of (pending_from k 1 (plains cs) (trees x) (closed c.new.result text))) c.new-2.ensures.items
    ∙ ap (λ (h : Held). finding_of (checked_from k 1 (plains cs) (closed h text))) c.new.ensures)
