use Rattle.std.proofs.Common.{◌-◌, length}
use Rattle.shared_search.specs.Books.{Knows}
use Rattle.step_report.specs.Goals.{certificates_text}
use Rattle.step_run.specs.Conditions.{setting_of}
use Rattle.step_run.specs.Deciding.{IsSheet, IsWritten}
use Rattle.step_run.specs.Views.{source_view, posed_view}
use Rattle.step_run.proofs.Slices.{Come}
use Rattle.step_run.proofs.proving.written.Given as goal

abbrev pub invariant-loop-place : goal.invariant-loop-place
invariant-loop-place l = record {
  come : Come (posed_view l.posed) l.place (λ ts. IsWritten (certificates_text ts) l.sheet.text.items l.sheet.fits);
  knows : Knows (setting_of (source_view l.posed.source)) l.book;
  sheet : IsSheet l.sheet;
}

abbrev pub decreases-loop-place : goal.decreases-loop-place
decreases-loop-place l = length l.posed.conditions.items - l.place
