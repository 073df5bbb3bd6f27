-- A goal fails exactly where it is judged to fail.
use Rattle.std.proofs.Common.{◌≡◌, ◌-◌, ℕ, Bool, true, false, List, length, map, refl, sym, ap, ◌∙◌, subst}
use Rattle.std.proofs.lemmas.List.{length-map}
use Rattle.std.proofs.lemmas.Option.{slice_get-map}
use Rattle.std.specs.Prelude.{◌↔◌, slice_get, Option, Some, None}
use Rattle.std.specs.Option.{option_map}
use Rattle.st_form.specs.Formula.{Situation}
use Rattle.observations.specs.Observation.{Observation}
use Rattle.temporal_goals.specs.Texts.{PlainGoal, PlainStep}
use Rattle.temporal_goals.specs.declared.scripts.Step.{Step}
use Rattle.temporal_goals.specs.Plain.{plain_goal, plain_step}
use Rattle.run_judging.specs.declared.judged.Judged.TheVariants.{Holds, Unclear}
use Rattle.trace_player.specs.Judgements.{wide_at, JudgedOn}
use Rattle.played_goals.specs.Failures.{FailsOn}
use Rattle.played_goals.proofs.Failing.{from_each}
use Rattle.refuted_goals.specs.Refuted.{last_goal, LastFails}

pub holds_not : (goal : PlainGoal) (o : Observation Situation) → JudgedOn goal o Holds → FailsOn goal o → ⊥
holds_not goal o holds fails = let f = fails.1 in f.2 (from_each goal o holds.1 fails.0 f.1)

pub unclear_not : (goal : PlainGoal) (o : Observation Situation) (i : ℕ) → JudgedOn goal o (Unclear i) → FailsOn goal o → ⊥
unclear_not goal o i unclear fails = let clear : wide_at goal o i ≡ false = fails.1.0 i unclear.0 in let wide = unclear.1 in cc

-- the last goal is that of the last step, if there is one
last_of : (steps : List Step) → last_goal (map plain_step steps) ≡ option_map (λ s. plain_goal s.goal) (slice_get steps (length steps - 1))
last_of steps =
    ap (λ n. option_map (λ s. s.goal) (slice_get (map plain_step steps) (n - 1))) (length-map steps plain_step)
    ∙ ap (option_map {T = PlainStep} (λ s. s.goal)) (slice_get-map plain_step steps (length steps - 1))
    ∙ of_mapped (slice_get steps (length steps - 1))
  where
    of_mapped : (o : Option Step) → option_map {T = PlainStep} (λ s. s.goal) (option_map plain_step o) ≡ option_map (λ s. plain_goal s.goal) o
    of_mapped None = refl
    of_mapped (Some s) = refl

module _ (steps : List Step) (o : Observation Situation) where
  pub where_last : (step : Step) → slice_get steps (length steps - 1) ≡ Some step → (b : Bool) → (b ≡ true) ↔ FailsOn (plain_goal step.goal) o → (b ≡ true) ↔ LastFails (map plain_step steps) o
  where_last step is b h =
      let last = last_of steps ∙ ap (option_map (λ s. plain_goal s.goal)) is in (
        λ e. record { goal = plain_goal step.goal; is_last = last; fails = h.0 e },
        λ f. h.1 (subst (λ g. FailsOn g o) (same f.goal (plain_goal step.goal) (sym f.is_last ∙ last)) f.fails),
      )
    where
      same : (g h : PlainGoal) → ◌≡◌ {A = Option PlainGoal} (Some g) (Some h) → g ≡ h
      same g h e = cc

  pub where_none : slice_get steps (length steps - 1) ≡ None → LastFails (map plain_step steps) o → ⊥
  where_none is f =
      let none : last_goal (map plain_step steps) ≡ None = last_of steps ∙ ap (option_map (λ s. plain_goal s.goal)) is in
      let some = f.is_last in
      cc
