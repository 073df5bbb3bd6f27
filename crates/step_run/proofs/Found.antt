-- A search for invariants that ends with status 0.
use Rattle.std.proofs.Common.{◌≡◌, ℕ, List, [], refl, sym, ap, subst}
use Rattle.std.specs.Prelude.{Option, Some, None, Result, Ok, Err}
use Rattle.st_certificate.specs.Tree.{Tree}
use Rattle.temporal_goals.specs.Texts.{PlainStep}
use Rattle.spl_typer.specs.Programs.{Typed}
use Rattle.proof_script.specs.Listing.{Setting}
use Rattle.proof_grammar.specs.Grammar.{SpellsScript}
use Rattle.equation_laws.specs.Equations.{PlainEquation, found}
use Rattle.proof_grammar.proofs.Growing.{nothing_stands, lines_stand, comments_add_nothing, standing_is_spelled}
use Rattle.step_plan.specs.declared.status.Status.TheVariants.{Proved}
use Rattle.step_plan.specs.Outcome.{Outcome, IsDecided}
use Rattle.step_plan.specs.Plan.{Told, Plan, then_plan, EndsIn}
use Rattle.step_run.specs.declared.refusals.Refusal.{Refusal}
use Rattle.step_run.specs.declared.refusals.Refusal.TheVariants.{Fault, Limit, Memory}
use Rattle.step_run.specs.Outcome.{program_refused}
use Rattle.step_run.specs.Source.{source_spelled}
use Rattle.step_run.specs.Conditions.{system_of, setting_of, words_over, conditions_of, passes_limit}
use Rattle.step_run.specs.Invariants.{entered, looked_for, invariants_of}
use Rattle.step_run.specs.WellFormed.{AreFound}
use Rattle.step_run.specs.Plans.{program_or_end, source_of_text, find_in}
use Rattle.step_run.proofs.Sources.{source_read}
use Rattle.step_run.proofs.Growing.{no-conditions, invariants-accepted, found-all}

abbrev IsProved : Outcome → Type 0
IsProved o = o.status ≡ Proved

refused_not : (refusal : Refusal) → IsProved (program_refused refusal) → ⊥
refused_not (Fault kind place) e = cc
refused_not (Limit kind) e = cc
refused_not Memory e = cc

-- the text of the program spells one
pub source_found : (told : Told) (o : Outcome) (text : List ℕ) → EndsIn told (then_plan (source_of_text text) find_in) o → IsProved o → (p : Typed) × (source_spelled text ≡ Ok p) × (invariants_of p ≡ o)
source_found told o text e proved = by (source_spelled text) refl (subst (λ (q : Plan Typed). EndsIn told (then_plan q find_in) o) (source_read text (source_spelled text) refl) e) where
  by : (r : Result Typed Refusal) → source_spelled text ≡ r → EndsIn told (then_plan (program_or_end r) find_in) o → (p : Typed) × (source_spelled text ≡ Ok p) × (invariants_of p ≡ o)
  by (Ok p) is g = (p, is, g)
  by (Err refusal) is g = absurd (refused_not refusal (subst IsProved (sym g) proved))

-- equations are found, and the text spells a script whose conditions are all decided valid
pub record IsLooked (p : Typed) (o : Outcome) : Type 0 where
  pub equations : List PlainEquation
  pub found_are : found (system_of p) ≡ Some equations
  pub steps : List PlainStep
  pub spells : SpellsScript (words_over p) o.text steps
  pub few : passes_limit p steps ≡ None
  pub trees : List Tree
  pub decided : AreFound (setting_of p) (conditions_of p steps) trees

pub looked : (p : Typed) (o : Outcome) → invariants_of p ≡ o → IsProved o → IsLooked p o
unfolding invariants_of
looked p o e proved = by (found (system_of p)) refl e where
  by : (r : Option (List PlainEquation)) → found (system_of p) ≡ r → looked_for p r ≡ o → IsLooked p o
  by None are g = absurd (let same : IsProved (looked_for p None) = subst IsProved (sym g) proved in cc)
  by (Some es) are g =
      let a = invariants-accepted nothing_stands lines_stand comments_add_nothing p es in
      let text : entered p 1 es [] ≡ o.text = ap (λ (x : Outcome). x.text) g in
      let trees = found-all (setting_of p) (conditions_of p a.steps) a.decided in
      record {
        equations = es;
        found_are = are;
        steps = a.steps;
        spells = subst (λ (t : List ℕ). SpellsScript (words_over p) t a.steps) text (standing_is_spelled (words_over p) (entered p 1 es []) a.steps a.stands);
        few = a.few;
        trees = trees.0;
        decided = trees.1;
      }

-- and the other way round
pub looks : (p : Typed) (es : List PlainEquation) → found (system_of p) ≡ Some es → IsProved (invariants_of p)
unfolding invariants_of
looks p es are = ap (λ (r : Option (List PlainEquation)). (looked_for p r).status) are

-- a script without steps
pub nothing_passes : (p : Typed) → passes_limit p [] ≡ None
nothing_passes p = rw (no-conditions p) refl

pub no_script : (g : Setting) → SpellsScript g [] []
no_script g = standing_is_spelled g [] [] (nothing_stands g)

-- an end that is no fault
pub looked-decided : (p : Typed) → IsDecided (invariants_of p).status
unfolding invariants_of
looked-decided p = by (found (system_of p)) where
  by : (r : Option (List PlainEquation)) → IsDecided (looked_for p r).status
  by None = tt
  by (Some es) = tt
