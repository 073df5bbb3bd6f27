-- What a check of a file means for a run that judges the file's whole text.
use Rattle.std.proofs.Common.{◌≡◌, inl, inr, ◌⊎◌, ℕ, zero, suc, ◌+◌, ◌<◌, ◌≤◌, List, [], ◌∷◌, length, get_or, refl, sym, subst, ap, ◌∙◌, arith}
use Rattle.std.specs.Prelude.{Option, Some, None}
use Rattle.st_form.specs.Condition.{Implication}
use Rattle.st_form.specs.Shared.{plain_condition}
use Rattle.st_form.specs.declared.conditions.Condition.{Condition}
use Rattle.farkas_check.specs.Problem.{Setting}
use Rattle.cert_text.specs.Blank.{first_place, past_blanks}
use Rattle.cert_text.specs.Held.{Held}
use Rattle.step_report.specs.declared.conditions.Reason.{Reason}
use Rattle.step_report.specs.declared.refusals.FileRole.{FileRole}
use Rattle.step_report.specs.declared.refusals.FileRole.TheVariants.{Certificates}
use Rattle.block_laws.specs.Checked.{Checked, all_valid, refused, behind_block, block_tested, block_judged, checked_from, whole_text}
use Rattle.block_laws.specs.Plain.{plains}
use Rattle.step_plan.specs.declared.ended.Ended.{Ended}
use Rattle.step_plan.specs.declared.stage.Stage.TheVariants.{On}
use Rattle.step_plan.specs.Outcome.{Outcome, ended_view, IsDecided}
use Rattle.step_plan.specs.Plan.{Told, Counts, file_end, EndsIn, ComesTo, Follows}
use Rattle.step_plan.specs.Stage.{Comes}
use Rattle.certificate_batches.specs.declared.finding.Finding.{Finding}
use Rattle.certificate_batches.specs.declared.finding.Finding.TheVariants.{Discharged, Refused}
use Rattle.certificate_batches.specs.Finding.{finding_of, finding, finding_view, certificates_plan}

module _ (told : Told) (before now : Counts) (k : Setting) (cs : List Implication) (name : List ℕ) (judge : List ℕ → Outcome) where
  ended_so : (o : Outcome) → EndsIn told (certificates_plan k cs name) o → EndsIn told (file_end Certificates name judge) o
  ended_so o (inl long) = inl long
  ended_so o (inr more) = absurd more.3

  asked_so : (role : FileRole) (own : List ℕ) → ComesTo told (certificates_plan k cs name) role own → ComesTo told (file_end Certificates name judge) role own
  asked_so role own (inl is) = inl is
  asked_so role own (inr more) = absurd more.3

  -- the file was too long or failed: so it is for a run that judges its whole text
  pub check_over : (ended : Ended) → Follows told before now (certificates_plan k cs name) ended → Follows told before now (file_end Certificates name judge) ended
  check_over ended (inl plain) = inl (record { quiet = plain.quiet; decided = plain.decided; outcome = ended_so (ended_view ended) plain.outcome })
  check_over ended (inr fault) = inr (record { role = fault.role; name = fault.name; asked = asked_so fault.role fault.name fault.asked; rose = fault.rose; view = fault.view })

  -- an end that is that of each text with the finding
  pub check_on : (f : Finding) (ended : Ended) → Comes finding_view told before now (certificates_plan k cs name) (On f) → IsDecided ended.status
      → ((text : List ℕ) → finding k cs text ≡ f → ended_view ended ≡ judge text) → Follows told before now (file_end Certificates name judge) ended
  check_on f ended comes decided means = inl (record { quiet = comes.0; decided = decided; outcome = inr (comes.1.0, comes.1.1, comes.1.2, sym (means comes.1.0 comes.1.3)) })

-- ---- what a finding says of the check of the whole text

judged_inv : (n : ℕ) (c : Implication) (more : Checked) (t : Option Reason) (m : ℕ) (d : Implication) (reason : Reason) → block_judged n c more t ≡ refused m d reason
    → (more ≡ refused m d reason) ⊎ ((n ≡ m) × (c ≡ d))
judged_inv n c more None m d reason is = inl is
judged_inv n c more (Some r) m d reason is = inr (number_same n m c d r reason is, condition_same n m c d r reason is) where
  number_same : (n m : ℕ) (c d : Implication) (r s : Reason) → refused n c r ≡ refused m d s → n ≡ m
  number_same n m c d r s e = cc

  condition_same : (n m : ℕ) (c d : Implication) (r s : Reason) → refused n c r ≡ refused m d s → c ≡ d
  condition_same n m c d r s e = cc

never : (h : Held) (m : ℕ) (c : Implication) (reason : Reason) → all_valid h ≡ refused m c reason → ⊥
never h m c reason e = cc

module _ (k : Setting) where
  -- numbers are counted from the first one on
  number_from : (n : ℕ) (cs : List Condition) (h : Held) (m : ℕ) (c : Implication) (reason : Reason) → checked_from k n (plains cs) h ≡ refused m c reason → n ≤ m
  number_from n [] h m c reason is = absurd (never h m c reason is)
  number_from n (x ∷ cs) h m c reason is =
      elim (judged_inv n (plain_condition x) (checked_from k (n + 1) (plains cs) (behind_block h)) (block_tested k (plain_condition x) h) m c reason is) [
        | inl more ↦ (let rest = number_from (n + 1) cs (behind_block h) m c reason more in omega (arith, rest))
        | inr here ↦ omega (arith, here.0)
      ]

  -- the number says which condition it is
  condition_there : (n : ℕ) (cs : List Condition) (h : Held) (place : ℕ) (c : Implication) (reason : Reason) → checked_from k n (plains cs) h ≡ refused (n + place) c reason
      → place < length cs → (any : Condition) → c ≡ plain_condition (get_or cs place any)
  condition_there n [] h place c reason is lt any = absurd (omega (arith, lt))
  condition_there n (x ∷ cs) h zero c reason is lt any =
      elim (judged_inv n (plain_condition x) (checked_from k (n + 1) (plains cs) (behind_block h)) (block_tested k (plain_condition x) h) (n + 0) c reason is) [
        | inl more ↦ (let rest = number_from (n + 1) cs (behind_block h) (n + 0) c reason more in absurd (omega (arith, rest)))
        | inr here ↦ sym here.1
      ]
  condition_there n (x ∷ cs) h (suc place) c reason is lt any =
      elim (judged_inv n (plain_condition x) (checked_from k (n + 1) (plains cs) (behind_block h)) (block_tested k (plain_condition x) h) (n + suc place) c reason is) [
        | inl more ↦ (
            let sum : n + suc place ≡ n + 1 + place = omega arith in
            condition_there (n + 1) cs (behind_block h) place c reason (more ∙ ap (λ (m : ℕ). refused m c reason) sum) (omega (arith, lt)) any
            )
        | inr here ↦ absurd (omega (arith, here.0))
      ]

  -- what is so where the condition at a place is refused, is so of the check of each text with this finding
  pub refused_so : (cs : List Condition) (text : List ℕ) (place : ℕ) (reason : Reason) → finding k (plains cs) text ≡ Refused (place + 1) reason → place < length cs
      → (Q : Checked → Type 0) → ((any : Condition) → Q (refused (place + 1) (plain_condition (get_or cs place any)) reason)) → Q (checked_from k 1 (plains cs) (whole_text text))
  unfolding finding
  refused_so [] text place reason is lt Q so = absurd (omega (arith, lt))
  refused_so (y ∷ ys) text place reason is lt Q so = by (checked_from k 1 (plains (y ∷ ys)) (whole_text text)) refl is where
    by : (v : Checked) → checked_from k 1 (plains (y ∷ ys)) (whole_text text) ≡ v → finding_of v ≡ Refused (place + 1) reason → Q v
    by (all_valid h) e f = cc
    by (refused m c r) e f =
        let number : m ≡ place + 1 = cc in
        let why : r ≡ reason = cc in
        let sum : m ≡ 1 + place = omega (arith, number) in
        let here : c ≡ plain_condition (get_or (y ∷ ys) place y) = condition_there 1 (y ∷ ys) (whole_text text) place c r (e ∙ ap (λ (n : ℕ). refused n c r) sum) lt y in
        subst Q (sym (ap (λ (n : ℕ). refused n c r) number ∙ ap (λ (d : Implication). refused (place + 1) d r) here ∙ ap (λ (s : Reason). refused (place + 1) (plain_condition (get_or (y ∷ ys) place y)) s) why)) (so y)

  -- the same where all are discharged
  pub discharged_so : (cs : List Implication) (text : List ℕ) (place : Option ℕ) → finding k cs text ≡ Discharged place
      → (Q : Checked → Type 0) → ((h : Held) → first_place (past_blanks h) ≡ place → Q (all_valid h)) → Q (checked_from k 1 cs (whole_text text))
  unfolding finding
  discharged_so cs text place is Q so = by (checked_from k 1 cs (whole_text text)) is where
    by : (v : Checked) → finding_of v ≡ Discharged place → Q v
    by (all_valid h) f = so h (place_same (first_place (past_blanks h)) place f) where
      place_same : (a b : Option ℕ) → Discharged a ≡ Discharged b → a ≡ b
      place_same a b e = cc
    by (refused m c r) f = cc
