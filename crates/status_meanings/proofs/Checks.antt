-- How a check ends over the text of certificates.
use Rattle.std.proofs.Common.{◌≡◌, ℕ, ◌+◌, ◌^◌, ◌<◌, List, ◌∷◌, ◌++◌, length, refl, sym, ap, ◌∙◌, arith, subst, length-append}
use Rattle.std.specs.Prelude.{Option, Some, None}
use Rattle.st_form.specs.Condition.{Implication}
use Rattle.cert_text.specs.Blank.{first_place, past_blanks}
use Rattle.cert_text.specs.Held.{Held}
use Rattle.block_laws.specs.Checked.{Checked, all_valid, refused, whole_text, checked_from}
use Rattle.step_report.specs.declared.conditions.Reason.{Reason}
use Rattle.step_plan.specs.Outcome.{Outcome}
use Rattle.step_run.specs.Conditions.{Posed, setting_of}
use Rattle.step_run.specs.Checked.{ending, check_ended, checked}
use Rattle.status_meanings.specs.Blocks.{HaveBlocks, IsFirstWithout}
use Rattle.status_meanings.specs.Ends.{CheckGoes, lacks_block, has_trailing, has_blocks}
use Rattle.status_meanings.proofs.Blocks.{BlockLaws, Judged, judged, valid_to, refused_at}

module _ (law : BlockLaws) (x : Posed) (ct : List ℕ) (room : 1 + length x.conditions < 2 ^ 32) where
  abbrev result : Checked
  result = checked_from (setting_of x.program) 1 x.conditions (whole_text ct)

  checked_is : (r : Checked) → result ≡ r → checked x ct ≡ check_ended x r
  unfolding checked
  checked_is r is = ap (check_ended x) is

  by_end : (rest : Held) → result ≡ all_valid rest → HaveBlocks (setting_of x.program) x.conditions (whole_text ct) rest → (place : Option ℕ) → first_place (past_blanks rest) ≡ place → CheckGoes x ct (ending x place)
  by_end rest is blocks None blank = has_blocks ((law.blocks (setting_of x.program) x.conditions (whole_text ct) refl room).0 (record { rest = rest; valid = is; blank = blank }))
  by_end rest is blocks (Some place) stands = has_trailing place (record { rest = rest; blocks = blocks; stands = stands })

  by_result : (r : Checked) → result ≡ r → Judged law (setting_of x.program) x.conditions (whole_text ct) r → CheckGoes x ct (check_ended x r)
  by_result (all_valid rest) is j = by_end rest is j (first_place (past_blanks rest)) refl
  by_result (refused n c reason) is j = lacks_block n c reason j

  pub check_to : (o : Outcome) → checked x ct ≡ o → CheckGoes x ct o
  check_to o e =
      subst (CheckGoes x ct) (sym (checked_is result refl) ∙ e) (by_result result refl (judged law (setting_of x.program) 1 x.conditions (whole_text ct) refl refl room))

  refused_is : (n : ℕ) (c : Implication) (reason : Reason) → IsFirstWithout (setting_of x.program) x.conditions (whole_text ct) n c reason → result ≡ refused n c reason
  refused_is n c reason f =
      let size = length-append f.before (c ∷ f.further) in
      let whole : length x.conditions ≡ length (f.before ++ c ∷ f.further) = ap length f.are in
      let number : 1 + length f.before ≡ n = sym f.number in
      ap (λ cs. checked_from (setting_of x.program) 1 cs (whole_text ct)) f.are
      ∙ refused_at law (setting_of x.program) 1 f.before c f.further (whole_text ct) f.held reason (omega (arith, room, size, whole)) f.blocks f.why
      ∙ ap (λ m. refused m c reason) number

  pub check_from : (o : Outcome) → CheckGoes x ct o → checked x ct ≡ o
  check_from o (lacks_block n c reason f) = checked_is (refused n c reason) (refused_is n c reason f)
  check_from o (has_trailing place h) = checked_is (all_valid h.rest) (valid_to law (setting_of x.program) 1 x.conditions (whole_text ct) h.rest room h.blocks) ∙ ap (ending x) h.stands
  check_from o (has_blocks h) =
      let all = (law.blocks (setting_of x.program) x.conditions (whole_text ct) refl room).1 h in
      checked_is (all_valid all.rest) all.valid ∙ ap (ending x) all.blank
