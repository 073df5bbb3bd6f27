-- The conditions of a script are the same by both definitions.
use Rattle.std.proofs.Common.{◌≡◌, refl, sym, ap, ◌∙◌, ℕ, ◌+◌, List, [], ◌∷◌, ◌++◌, length, take, flat_map, filter_map, append_assoc, length-append, Option, Some, None, slice_get, arith}
use Rattle.std.specs.List.{enumerate_from, cons_option}
use Rattle.st_linear.specs.Linear.{Linear}
use Rattle.st_form.specs.Formula.{Formula}
use Rattle.st_form.specs.declared.conditions.Premise.TheVariants.{Implies}
use Rattle.transition_system.specs.Systems.{System}
use Rattle.temporal_goals.specs.Texts.{PlainGoal, invariant, waiting, response, PlainDiagram, PlainRule, basic, stronger, levels, net, diagram, nested, PlainStep}
use Rattle.temporal_goals.specs.declared.diagrams.DiagramKind.{DiagramKind}
use Rattle.temporal_goals.specs.declared.diagrams.DiagramKind.TheVariants as kinds
use Rattle.vc_generator.specs.Building.{Draft}
use Rattle.script_laws.specs.Script.{lemma_in, lemma_of, cited_of, waiting_drawn, response_drawn, step_list, steps_list}
use Rattle.generated_conditions.specs.Scripts.{lemma, drawn, conditions}
use Rattle.generated_conditions.specs.Laws.{ConditionsAreGenerated}
use Rattle.generated_conditions.proofs.Asked.{entailed, kept}
use Rattle.generated_conditions.proofs.Ranked.{ranked_net}
use Rattle.generated_conditions.proofs.Nested.{nested_net}
use Rattle.generated_conditions.proofs.Drawn.{chain_diagram, rank_diagram}
use Rattle.generated_conditions.proofs.Levels.{by_levels, wait_diagram}

module _ (n : ℕ) (system : System) (lemmas : List Formula) where
  drawn-waiting : (kind : DiagramKind) (p : Formula) (qs : List Formula) (d : PlainDiagram) → drawn n system lemmas kind (waiting p qs) d ≡ waiting_drawn kind n system lemmas p qs d
  drawn-waiting kinds.Wait p qs d = wait_diagram n system lemmas p qs d
  drawn-waiting kinds.Chain p qs d = refl
  drawn-waiting kinds.Rank p qs d = refl

  drawn-response : (kind : DiagramKind) (p q : Formula) (e : Linear) (d : PlainDiagram)
      → drawn n system lemmas kind (response p q e) d ≡ response_drawn kind n system lemmas p q e d
  drawn-response kinds.Wait p q e d = refl
  drawn-response kinds.Chain p q e d = chain_diagram n system lemmas p q e d
  drawn-response kinds.Rank p q e d = rank_diagram n system lemmas p q e d

  drawn-invariant : (kind : DiagramKind) (p : Formula) (d : PlainDiagram) → drawn n system lemmas kind (invariant p) d ≡ step_list n system lemmas (invariant p) (diagram d)
  drawn-invariant kinds.Wait p d = refl
  drawn-invariant kinds.Chain p d = refl
  drawn-invariant kinds.Rank p d = refl

  same_conditions : (goal : PlainGoal) (rule : PlainRule) → conditions n system lemmas goal rule ≡ step_list n system lemmas goal rule
  same_conditions (invariant p) basic = kept n system lemmas p
  same_conditions (invariant p) (stronger f) = λ i. entailed n system lemmas Implies None f p i ∷ kept n system lemmas f i
  same_conditions (invariant p) (levels fs) = refl
  same_conditions (invariant p) (net ns) = refl
  same_conditions (invariant p) (diagram d) = drawn-invariant d.kind p d
  same_conditions (invariant p) (nested ns) = refl
  same_conditions (waiting p qs) basic = refl
  same_conditions (waiting p qs) (stronger f) = refl
  same_conditions (waiting p qs) (levels fs) = by_levels n system lemmas p qs fs
  same_conditions (waiting p qs) (net ns) = refl
  same_conditions (waiting p qs) (diagram d) = drawn-waiting d.kind p qs d
  same_conditions (waiting p qs) (nested ns) = refl
  same_conditions (response p q e) basic = refl
  same_conditions (response p q e) (stronger f) = refl
  same_conditions (response p q e) (levels fs) = refl
  same_conditions (response p q e) (net ns) = ranked_net n system lemmas p q e ns
  same_conditions (response p q e) (diagram d) = drawn-response d.kind p q e d
  same_conditions (response p q e) (nested ns) = nested_net n system lemmas p q e ns

-- what steps cite
same_lemma : (goal : PlainGoal) → lemma goal ≡ lemma_in goal
same_lemma (invariant p) = refl
same_lemma (waiting p qs) = refl
same_lemma (response p q e) = refl

abbrev cited : List PlainStep → List ℕ → List Formula
cited earlier names = flat_map (λ (c : PlainStep). lemma c.goal) (filter_map (slice_get earlier) names)

one-cited : (o : Option PlainStep) (cs : List PlainStep) → flat_map (λ (c : PlainStep). lemma c.goal) (cons_option o cs) ≡ lemma_of o ++ flat_map (λ (c : PlainStep). lemma c.goal) cs
one-cited None cs = refl
one-cited (Some s) cs = λ i. same_lemma s.goal i ++ flat_map (λ (c : PlainStep). lemma c.goal) cs

same_cited : (earlier : List PlainStep) (names : List ℕ) → cited earlier names ≡ cited_of earlier names
same_cited earlier [] = refl
same_cited earlier (n ∷ ns) = one-cited (slice_get earlier n) (filter_map (slice_get earlier) ns) ∙ ap (λ fs. lemma_of (slice_get earlier n) ++ fs) (same_cited earlier ns)

taken : (earlier later : List PlainStep) → take (length earlier) (earlier ++ later) ≡ earlier
taken [] later = refl
taken (s ∷ earlier) later = λ i. s ∷ taken earlier later i

module _ (system : System) (steps : List PlainStep) where
  abbrev of_step : ℕ × PlainStep → List Draft
  of_step x = conditions x.0 system (cited (take x.0 steps) x.1.cited) x.1.goal x.1.rule

  same_steps : (earlier later : List PlainStep) (n : ℕ) → earlier ++ later ≡ steps → length earlier ≡ n → flat_map of_step (enumerate_from n later) ≡ steps_list system earlier n later
  same_steps earlier [] n e k = refl
  same_steps earlier (s ∷ later) n e k =
      let before : take n steps ≡ earlier = (λ i. take (sym k i) (sym e i)) ∙ taken earlier (s ∷ later) in
      let cites : cited (take n steps) s.cited ≡ cited_of earlier s.cited = ap (λ es. cited es s.cited) before ∙ same_cited earlier s.cited in
      let split = length-append earlier (s ∷ []) in
      let longer : length (earlier ++ s ∷ []) ≡ n + 1 = omega arith in
      λ i. ((λ j. conditions n system (cites j) s.goal s.rule) ∙ same_conditions n system (cited_of earlier s.cited) s.goal s.rule) i
      ++ same_steps (earlier ++ s ∷ []) later (n + 1) (append_assoc earlier (s ∷ []) later ∙ e) longer i

pub conditions_are_generated : ConditionsAreGenerated
conditions_are_generated system steps = same_steps system steps [] steps 0 refl refl
