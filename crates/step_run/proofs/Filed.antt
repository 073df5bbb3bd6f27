-- The end of a check of a file of certificates is that of the file's whole text.
use Rattle.std.proofs.Common.{◌≡◌, ℕ, ◌+◌, ◌<◌, ◌≤◌, arith, List, length, get_or, sym, ap, subst, ◌∙◌}
use Rattle.std.specs.Prelude.{Option}
use Rattle.st_form.specs.Condition.{Implication}
use Rattle.st_form.specs.Shared.{plain_condition}
use Rattle.st_form.specs.declared.conditions.Condition.{Condition}
use Rattle.st_form.specs.declared.variables.Variable.{Variable}
use Rattle.control_states.specs.Control.{ControlFacts}
use Rattle.control_facts.specs.Alternatives.{control_of}
use Rattle.farkas_check.specs.Problem.{Setting}
use Rattle.farkas_check.specs.PlainProblem.{setting}
use Rattle.block_laws.specs.Checked.{checked_from, whole_text}
use Rattle.block_laws.specs.Plain.{plains}
use Rattle.step_report.specs.declared.conditions.Reason.{Reason}
use Rattle.certificate_batches.specs.declared.finding.Finding.{Finding}
use Rattle.certificate_batches.specs.declared.finding.Finding.TheVariants.{Discharged, Refused}
use Rattle.certificate_batches.specs.Finding.{finding, finding_view, certificates_plan}
use Rattle.certificate_batches.proofs.Joining.{check_on, refused_so, discharged_so}
use Rattle.certificate_batches.specs.declared.claims.Claims.{Claims}
use Rattle.certificate_batches.specs.Claims.{MayBeChecked}
use Rattle.search_laws.specs.Forms.{IsInOrder}
use Rattle.search_laws.specs.Programs.{ProgramsAreInOrder}
use Rattle.search_laws.specs.Searchable.{AreSearchable}
use Rattle.spl_typer.specs.Programs.{Typed}
use Rattle.st_program.specs.Tree.{Processes}
use Rattle.step_plan.specs.declared.ended.Ended.{Ended}
use Rattle.step_plan.specs.declared.stage.Stage.TheVariants.{On}
use Rattle.step_plan.specs.Outcome.{Outcome, ended_view, IsDecided}
use Rattle.step_plan.specs.Plan.{Told, Counts, Plan, Follows}
use Rattle.step_plan.specs.Stage.{Comes}
use Rattle.step_run.specs.Conditions.{Posed, setting_of}
use Rattle.step_run.specs.Checked.{ending, not_proved, check_ended, checked}
use Rattle.step_run.specs.Plans.{check_posed}
use Rattle.step_run.proofs.Decided.{checked_decided}

-- the setting of a check is the program's
pub setting_is : (p : Typed) (k : ControlFacts) (vs : List Variable) → k ≡ control_of p.processes → vs ≡ p.variables → setting k vs ≡ setting_of p
unfolding setting_of
setting_is p k vs a b = ap (λ (x : ControlFacts). setting x vs) a ∙ ap (setting (control_of p.processes)) b

-- and its conditions may be checked
pub may_check : ProgramsAreInOrder → (claims : Claims) (ps : Processes) (vs : List Variable) (cs : List Condition) → claims.components.now ≡ control_of ps → claims.variables.now ≡ vs → claims.conditions.now ≡ cs
    → length cs ≤ 20000 → length vs ≤ 64 → AreSearchable (length vs) cs → MayBeChecked claims
may_check ordered claims ps vs cs facts variables conditions few few_variables searchable = record {
  few = omega (arith, few, ap length conditions);
  searchable = subst (λ (xs : List Variable). AreSearchable (length xs) claims.conditions.now) (sym variables) (subst (AreSearchable (length vs)) (sym conditions) searchable);
  few_variables = omega (arith, few_variables, ap length variables);
  ordered = subst IsInOrder (sym facts) (ordered ps).0;
}

pub discharged_is : (x : Posed) (place : Option ℕ) (e : Outcome) → e ≡ ending x place → (text : List ℕ) → finding (setting_of x.program) x.conditions text ≡ Discharged place → e ≡ checked x text
unfolding checked
discharged_is x place e is text found =
    discharged_so (setting_of x.program) x.conditions text place found (λ v. e ≡ check_ended x v) (λ h first. is ∙ ap (ending x) (sym first))

pub refused_is : (x : Posed) (cs : List Condition) (number place : ℕ) (reason : Reason) (e : Outcome) → x.conditions ≡ plains cs → place + 1 ≡ number → place < length cs
    → ((any : Condition) → e ≡ not_proved x (place + 1) (plain_condition (get_or cs place any)) reason) → (text : List ℕ) → finding (setting_of x.program) x.conditions text ≡ Refused number reason → e ≡ checked x text
unfolding checked
refused_is x cs number place reason e same counted there is text found =
    let k = setting_of x.program in
    let here : finding k (plains cs) text ≡ Refused (place + 1) reason = ap (λ (l : List Implication). finding k l text) (sym same) ∙ found ∙ ap (λ (n : ℕ). Refused n reason) (sym counted) in
    let judged = refused_so k cs text place reason here there (λ v. e ≡ check_ended x v) is in
    judged ∙ ap (λ (l : List Implication). check_ended x (checked_from k 1 l (whole_text text))) (sym same)

-- a run that ends with what the file's text says follows its plan
pub filed_on : (told : Told) (before now : Counts) (k : Setting) (x : Posed) (name : List ℕ) (f : Finding) (e : Ended) → k ≡ setting_of x.program
    → Comes finding_view told before now (certificates_plan k x.conditions name) (On f)
    → ((text : List ℕ) → finding (setting_of x.program) x.conditions text ≡ f → ended_view e ≡ checked x text) → Follows told before now (check_posed name x) e
filed_on told before now k x name f e same comes means =
    let all : (text : List ℕ) → finding k x.conditions text ≡ f → ended_view e ≡ checked x text = λ text h. means text (subst (λ (s : Setting). finding s x.conditions text ≡ f) same h) in
    check_on told before now k x.conditions name (checked x) f e comes (subst (λ (o : Outcome). IsDecided o.status) (sym (all comes.1.0 comes.1.3)) (checked_decided x comes.1.0)) all

-- what follows a plan behind an earlier part of the run, which left files and counts as they were
pub moved : {A : Type 0} (told then_told : Told) (before mid now : Counts) (plan : Plan A) (e : Ended) → then_told ≡ told → mid ≡ before → Follows then_told mid now plan e → Follows told before now plan e
moved told then_told before mid now plan e same quiet h =
    subst (λ (t : Told). Follows t before now plan e) same (subst (λ (m : Counts). Follows then_told m now plan e) quiet h)
