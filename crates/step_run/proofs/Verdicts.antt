-- A verdict on a condition, and the texts of one that isn't valid.
use Rattle.std.proofs.Common.{◌≡◌, ℕ, suc, ◌≤◌, true, List, [], ◌∷◌, ◌++◌, length, ap, ◌∙◌, sym, subst, arith, refl}
use Rattle.std.specs.Prelude.{Option}
use Rattle.std.specs.Option.{option_map}
use Rattle.std.specs.declared.vec.Vec.{Vec}
use Rattle.std.specs.declared.alloc.Global.{Global}
use Rattle.st_form.specs.Condition.{Implication}
use Rattle.st_form.specs.Shared.{plain_condition}
use Rattle.st_form.specs.declared.conditions.Condition.{Condition}
use Rattle.farkas_check.specs.Problem.{Setting}
use Rattle.search_laws.specs.Sizes.{nodes}
use Rattle.search_verdicts.specs.declared.verdict.Verdict.{Verdict}
use Rattle.search_verdicts.specs.declared.verdict.Verdict.TheVariants.{Valid, Open, Wide}
use Rattle.search_verdicts.specs.declared.verdict.PathStep.{PathStep}
use Rattle.search_verdicts.specs.declared.verdict.Shown.{Shown}
use Rattle.elimination_laws.specs.declared.stage.WideStage.{WideStage}
use Rattle.search_verdicts.specs.Plain.{plain_path, plain_shown, plain_verdict}
use Rattle.step_report.specs.declared.conditions.Reason.{Reason}
use Rattle.step_report.specs.declared.conditions.Reason.TheVariants as Reasons
use Rattle.step_report.specs.Conditions.{not_proved_text}
use Rattle.step_report.specs.Searches.{open_text, wide_text}
use Rattle.step_plan.specs.declared.status.Status.{Status}
use Rattle.step_plan.specs.declared.status.Status.TheVariants.{NotProved}
use Rattle.step_run.specs.Checked.{not_proved}
use Rattle.discharge.specs.Verdicts.{IsAnswer, AreAnswers}
use Rattle.step_plan.specs.declared.ended.Ended.{Ended}
use Rattle.step_plan.specs.declared.stage.Stage.TheVariants.{Over}
use Rattle.step_plan.specs.Outcome.{Outcome, ended_view, IsDecided}
use Rattle.step_run.specs.Conditions.{Posed}
use Rattle.step_run.specs.Verified.{Verified, found_before, by_verdict, verdict_on, search_ended, undecided}
use Rattle.step_run.specs.Deciding.{is_valid, tree_in, AreModest, EndsAt}
use Rattle.basic_laws.proofs.Truths.{no_truth}

pub verdict_is : (k : Setting) (c : Condition) (v : Verdict) → IsAnswer k c v → verdict_on k (plain_condition c) ≡ plain_verdict v
unfolding verdict_on
verdict_is k c v a = sym a.exact

pub by_valid : (n : ℕ) (c : Implication) (more : Verified) (v : Verdict) → is_valid v ≡ true → by_verdict n c more (plain_verdict v) ≡ found_before (tree_in v) more
by_valid n c more (Valid t) is = refl
by_valid n c more (Open path state) is = absurd (no_truth is)
by_valid n c more (Wide path stage) is = absurd (no_truth is)

pub answers_same : (k : Setting) (cs : List Condition) (vs : List Verdict) → AreAnswers k cs vs → length vs ≡ length cs
answers_same k [] [] a = refl
answers_same k [] (v ∷ vs) a = absurd a
answers_same k (c ∷ cs) [] a = absurd a
answers_same k (c ∷ cs) (v ∷ vs) a = ap suc (answers_same k cs vs a.1)

-- the texts of one that isn't
pub undecided_is : (x : Posed) (n : ℕ) (c : Implication) (reason : Reason) (behind text whole : List ℕ) → text ≡ not_proved_text x.program.names x.steps n c.name reason → whole ≡ text ++ behind
    → record { status = NotProved n; text = whole } ≡ undecided x n c reason behind
undecided_is x n c reason behind text whole front is = ap (λ (t : List ℕ). record { status = NotProved n; text = t }) (is ∙ ap (λ (t : List ℕ). t ++ behind) front)

pub not_proved_is : (x : Posed) (n : ℕ) (c : Implication) (reason : Reason) (text : List ℕ) → text ≡ not_proved_text x.program.names x.steps n c.name reason → record { status = NotProved n; text = text } ≡ not_proved x n c reason
not_proved_is x n c reason text is = ap (λ (t : List ℕ). record { status = NotProved n; text = t }) is

not_decided : (ended : Ended) (n : ℕ) (text : List ℕ) → ended_view ended ≡ record { status = NotProved n; text = text } → IsDecided ended.status
not_decided ended n text is = subst (λ (s : Status). IsDecided s) (sym (ap (λ (o : Outcome). o.status) is)) tt

pub open_ends : (x : Posed) (n : ℕ) (c : Implication) (path : Vec PathStep Global) (steps : List PathStep) (state : Option Shown) (v : Verdict) (ended : Ended) → v ≡ Open path state → steps ≡ path.items
    → ended_view ended ≡ undecided x n c Reasons.Open (open_text x.program.names (plain_path steps) (option_map plain_shown state)) → EndsAt x n c v (Over ended)
open_ends x n c path steps state v ended is same e = (
  λ more all. e ∙ ap (λ (l : List PathStep). undecided x n c Reasons.Open (open_text x.program.names (plain_path l) (option_map plain_shown state))) same
      ∙ ap (λ (w : Verdict). search_ended x all (by_verdict n c more (plain_verdict w))) (sym is),
  not_decided ended n _ e,
)

pub wide_ends : (x : Posed) (n : ℕ) (c : Implication) (path : Vec PathStep Global) (steps : List PathStep) (stage : WideStage) (v : Verdict) (ended : Ended) → v ≡ Wide path stage → steps ≡ path.items
    → ended_view ended ≡ undecided x n c Reasons.Wide (wide_text x.program.names (plain_path steps) stage) → EndsAt x n c v (Over ended)
wide_ends x n c path steps stage v ended is same e = (
  λ more all. e ∙ ap (λ (l : List PathStep). undecided x n c Reasons.Wide (wide_text x.program.names (plain_path l) stage)) same
      ∙ ap (λ (w : Verdict). search_ended x all (by_verdict n c more (plain_verdict w))) (sym is),
  not_decided ended n _ e,
)

-- certificates that are found have few nodes
pub modest_answers : (k : Setting) (cs : List Condition) (vs : List Verdict) → AreAnswers k cs vs → AreModest vs
modest_answers k [] [] a = tt
modest_answers k [] (v ∷ vs) a = absurd a
modest_answers k (c ∷ cs) [] a = absurd a
modest_answers k (c ∷ cs) (v ∷ vs) a = (modest c v a.0, modest_answers k cs vs a.1) where
  modest : (d : Condition) (w : Verdict) → IsAnswer k d w → nodes (tree_in w) ≤ 100000
  modest d (Valid t) h = h.right.modest.count
  modest d (Open path state) h = omega arith
  modest d (Wide path stage) h = omega arith
