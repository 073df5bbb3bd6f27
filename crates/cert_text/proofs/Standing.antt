-- Where a block is still read and no token is open.
use Rattle.std.proofs.Common.{◌≡◌, IsTrue, refl, ap, ◌∙◌}
use Rattle.cert_text.specs.declared.scan.Scan.{Scan}
use Rattle.cert_text.specs.declared.progress.Pending as code_pending
use Rattle.cert_text.specs.declared.progress.Pending.TheVariants as ends
use Rattle.cert_text.specs.declared.progress.Stage.{Stage}
use Rattle.cert_text.specs.declared.progress.Stage.TheVariants as stages
use Rattle.cert_text.specs.declared.progress.Progress.{Progress}
use Rattle.cert_text.specs.Tree.{Built, built_view}
use Rattle.cert_text.specs.Reading.{Pending, going, idle, staged, is_going, progress_view, pending_view}

stands : (stage : Stage) (scan : Scan) (built : Built) (pending : Pending) → IsTrue (is_going (staged stage scan built pending)) → staged stage scan built pending ≡ going scan built pending
stands stages.Going scan built pending h = refl
stands (stages.Malformed place) scan built pending h = cc
stands (stages.Over place) scan built pending h = cc
stands (stages.Whole end) scan built pending h = cc

pub stands_idle : (p : Progress) → p.pending ≡ ends.Idle → IsTrue (is_going (progress_view p)) → progress_view p ≡ going p.scan (built_view p.building) idle
stands_idle p e h = stands p.stage p.scan (built_view p.building) (pending_view p.pending p.letters) h ∙ ap (λ (q : code_pending.Pending). going p.scan (built_view p.building) (pending_view q p.letters)) e
