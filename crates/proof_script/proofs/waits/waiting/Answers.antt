use Rattle.std.proofs.Common.{◌∙◌, ◌≤◌, sym, subst}
use Rattle.std.proofs.lemmas.List.{length-map}
use Rattle.st_form.specs.Plain.{plain}
use Rattle.proof_script.specs.Listing.{setting_view}
use Rattle.proof_script.proofs.Stepping.{waiting_few}
use Rattle.proof_script.proofs.waits.waiting.Goals as goal

pub waiting_by-requires : goal.waiting_by-requires
waiting_by-requires c = subst (λ n. n ≤ 64) (length-map c.in_ok-start.forms.items plain ∙ sym (c.len.ensures ∙ c.in_ok-start.forms.ok.0)) (waiting_few (setting_view c.args.setting.now) _ _ _ c.in_ok-start.ensures.reads)
