use Rattle.std.proofs.Common.{List, ℕ, Bool, sym, ◌∙◌, subst, arith}
use Rattle.std.proofs.lemmas.List.{length-map}
use Rattle.std.proofs.lemmas.Result.{IfOk-weaker}
use Rattle.st_form.specs.Shared.{plain_condition}
use Rattle.st_certificate.specs.Tree.{Tree}
use Rattle.step_report.specs.Goals.{certificates_text}
use Rattle.step_plan.specs.Outcome.{ended_view}
use Rattle.step_run.specs.Verified.{certificates}
use Rattle.step_run.specs.Deciding.{IsWritten}
use Rattle.step_run.specs.Views.{posed_view}
use Rattle.step_run.proofs.Slices.{come_one, come_to_end, come_over, written_one}
use Rattle.step_run.proofs.proving.written.Goals as goal

-- the text of the certificates of the conditions before a place, as long as it fits
abbrev Kept : List ℕ → Bool → List Tree → Type 0
Kept text fits ts = IsWritten (certificates_text ts) text fits

pub loop-place-preserved : goal.loop-place-preserved
loop-place-preserved c =
    let x = posed_view c.args.posed.now in
    let l = c.loop-place in
    let next = rw c.in-On.is at c.in_ok-push_next.ensures.writes in
    let text = c.push_next.new.sheet.text.items in
    let fits = c.push_next.new.sheet.fits in
    let size = length-map c.args.posed.now.conditions.items plain_condition in
    record {
      come = come_one x l.place (Kept l.sheet.text.items l.sheet.fits) (Kept text fits) next.0 (omega (arith, size)) l.invariant.come next.1
          (λ ts many kept. subst (λ (whole : List ℕ). IsWritten whole text fits) (written_one ts next.0 l.place many) (next.2 (certificates_text ts) kept));
      knows = c.in_ok-push_next.ensures.knows;
      sheet = c.in_ok-push_next.ensures.sheet;
    }

pub returns-in-Over : goal.returns-in-Over
returns-in-Over c =
    let x = posed_view c.args.posed.now in
    let l = c.loop-place in
    come_over x l.place (Kept l.sheet.text.items l.sheet.fits) certificates (ended_view c.in-Over.ended) l.invariant.come (rw c.in-Over.is at c.in_ok-push_next.ensures.writes)

pub returns : goal.returns
returns c =
    let x = posed_view c.args.posed.now in
    let l = c.loop-place in
    let size = length-map c.args.posed.now.conditions.items plain_condition in
    let done = come_to_end x l.place (Kept l.sheet.text.items l.sheet.fits) certificates (omega (arith, size)) l.invariant.come in
    IfOk-weaker c.certificates.result _ _ (λ e h. h done.0 done.1 ∙ sym done.2) c.certificates.ensures
