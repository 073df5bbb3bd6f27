-- Stages over texts, one behind the other.
use Rattle.std.proofs.Common.{◌≡◌, ap, ◌∙◌, refl, inl}
use Rattle.step_plan.specs.declared.ended.Ended.{Ended}
use Rattle.step_plan.specs.declared.stage.Stage.{Stage}
use Rattle.step_plan.specs.declared.stage.Stage.TheVariants.{On, Over}
use Rattle.step_plan.specs.Outcome.{Outcome, ended_view, IsDecided}
use Rattle.step_plan.specs.Plan.{Told, Counts, Plan, ends, goes_on, then_plan, Follows}
use Rattle.step_plan.specs.Stage.{Settles}

module _ {V A B : Type 0} (view : V → B) (next : A → Plan B) (plan : Plan A) where
  pub settles_then : (x : A) (s : Stage V) → plan ≡ goes_on x → Settles view (next x) s → Settles view (then_plan plan next) s
  settles_then x (On v) is h = ap (λ p. then_plan p next) is ∙ h
  settles_then x (Over ended) is h = (ap (λ p. then_plan p next) is ∙ h.0, h.1)

pub ends_then : {A B : Type 0} (next : A → Plan B) (plan : Plan A) (o : Outcome) → plan ≡ ends o → then_plan plan next ≡ ends o
ends_then next plan o is = ap (λ p. then_plan p next) is

pub goes_then : {A B : Type 0} (next : A → Plan B) (plan : Plan A) (x : A) (p : Plan B) → plan ≡ goes_on x → next x ≡ p → then_plan plan next ≡ p
goes_then next plan x p is more = ap (λ q. then_plan q next) is ∙ more

-- a run that asks for no file
pub ends_here : (told : Told) (counts : Counts) (plan : Plan ⊥) (ended : Ended) → plan ≡ ends (ended_view ended) → IsDecided ended.status → Follows told counts counts plan ended
ends_here told counts plan ended is decided = inl (record { quiet = refl; decided = decided; outcome = rw is refl })
