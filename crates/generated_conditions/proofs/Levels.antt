-- The conditions of nested waiting-for, by levels and by wait diagrams.
use Rattle.std.proofs.Common.{◌≡◌, refl, sym, ap, ap₂, ◌∙◌, ℕ, zero, suc, false, ◌==◌, if◌then◌else◌, List, [], ◌∷◌, ◌++◌, length, map, reverse, flat_map, get_or, Some, None}
use mathlib.Core.List.{reverse-cons}
use lib.ListN.{length-reverse}
use lib.Dec.{eqb-zero-suc, eqb-suc-zero, eqb-suc-suc}
use Rattle.st_form.specs.Formula.{Formula, truth_value, some, formulas}
use Rattle.st_form.specs.declared.conditions.Premise.TheVariants.{Cover, Level, Move}
use Rattle.transition_system.specs.Systems.{System}
use Rattle.temporal_goals.specs.Texts.{waiting, levels, PlainDrawnNode, PlainDiagram}
use Rattle.temporal_goals.specs.declared.diagrams.DiagramKind.TheVariants as kinds
use Rattle.vc_generator.specs.Building.{entails_of}
use Rattle.vc_generator.specs.Walks.{plainly}
use Rattle.rule_laws.specs.WaitingFor.{level_list, move_list, waiting_list}
use Rattle.rule_laws.specs.Diagrams as before
use Rattle.generated_conditions.specs.Cases.{onto, one_of}
use Rattle.generated_conditions.specs.Diagrams.{lower_ends}
use Rattle.generated_conditions.specs.Scripts.{level, entails, moves, levels_imply, levels_fall, drawn, conditions}
use Rattle.generated_conditions.proofs.Lists.{as_flat_map, flat_map-same}
use Rattle.generated_conditions.proofs.Asked.{entailed, led, moved}
use Rattle.generated_conditions.proofs.Drawn.{each_node-same, wait-agree}

get-last : (i : ℕ) (fs : List Formula) (f d : Formula) → get_or (fs ++ f ∷ []) i d ≡ (if i == length fs then f else get_or fs i d)
get-last zero [] f d = refl
get-last (suc i) [] f d = sym (ap (λ b. if b then f else d) (eqb-suc-zero i))
get-last zero (g ∷ fs) f d = sym (ap (λ b. if b then f else g) (eqb-zero-suc (length fs)))
get-last (suc i) (g ∷ fs) f d = get-last i fs f d ∙ sym (ap (λ b. if b then f else get_or fs i d) (eqb-suc-suc i (length fs)))

pub same_level : (qs : List Formula) (i : ℕ) → level qs i ≡ before.level_goal i qs
same_level [] i = refl
same_level (q ∷ qs) i =
    ap (λ fs. get_or fs i (truth_value false)) (reverse-cons q qs)
    ∙ get-last i (reverse qs) q (truth_value false)
    ∙ ap₂ (λ n f. if i == n then q else f) (length-reverse qs) (same_level qs i)

module _ (step : ℕ) (system : System) (lemmas : List Formula) where
  same_levels : (fs qs : List Formula) → levels_imply step system lemmas fs qs ≡ level_list step lemmas fs qs
  same_levels [] qs = refl
  same_levels (f ∷ fs) [] = refl
  same_levels (f ∷ fs) (q ∷ qs) = λ i. entailed step system lemmas Level (Some (length fs)) f q i ∷ same_levels fs qs i

  same_falls : (fs : List Formula) → levels_fall step system lemmas fs ≡ move_list step system lemmas fs
  same_falls [] = refl
  same_falls (f ∷ []) = refl
  same_falls (f ∷ g ∷ fs) = λ i. led step system lemmas Move (Some (length (g ∷ fs))) f (some (formulas (f ∷ g ∷ fs))) i ++ same_falls (g ∷ fs) i

  pub by_levels : (p : Formula) (qs fs : List Formula) → conditions step system lemmas (waiting p qs) (levels fs) ≡ waiting_list step system lemmas p qs fs
  by_levels p qs fs = λ i. entailed step system lemmas Cover None p (some (formulas fs)) i ∷ (same_levels fs qs i ++ same_falls fs i)

  pub wait_diagram : (p : Formula) (qs : List Formula) (d : PlainDiagram) → drawn step system lemmas kinds.Wait (waiting p qs) d ≡ before.wait_list step system lemmas p qs d
  wait_diagram p qs d = λ i. entailed step system lemmas Cover None p (some (formulas (before.wait_forms d))) i ∷ (implied i ++ (last i ∷ led_lower i))
    where
      implied : map (λ (n : PlainDrawnNode). entails step system lemmas Level (Some n.number) n.form (level qs n.number)) d.nodes ≡ before.each_node (before.wait_level step lemmas qs) d.nodes
      implied = as_flat_map (λ (n : PlainDrawnNode). entails step system lemmas Level (Some n.number) n.form (level qs n.number)) d.nodes
          ∙ flat_map-same (λ (n : PlainDrawnNode). entails step system lemmas Level (Some n.number) n.form (level qs n.number) ∷ []) (before.wait_level step lemmas qs) d.nodes
          (λ n i. entailed step system lemmas Level (Some n.number) n.form (same_level qs n.number i) i ∷ [])
          ∙ each_node-same (before.wait_level step lemmas qs) d.nodes

      last : entails step system lemmas Level (Some 0) d.terminal (level qs 0) ≡ entails_of lemmas d.terminal (before.level_goal 0 qs) (plainly step Level (Some 0))
      last = λ i. entailed step system lemmas Level (Some 0) d.terminal (same_level qs 0 i) i

      led_lower : flat_map (λ (n : PlainDrawnNode). moves step system lemmas Move (Some n.number) n.form (λ t m. one_of m (onto n.form [] [] ∷ lower_ends d n t))) d.nodes
          ≡ before.each_node (before.wait_move step system lemmas d) d.nodes
      led_lower = flat_map-same (λ (n : PlainDrawnNode). moves step system lemmas Move (Some n.number) n.form (λ t m. one_of m (onto n.form [] [] ∷ lower_ends d n t))) (before.wait_move step system lemmas d) d.nodes
          (λ n. moved step system lemmas (Some n.number) n.form (λ t. onto n.form [] [] ∷ lower_ends d n t) (before.wait_cases d n) (λ t. wait-agree d n t))
          ∙ each_node-same (before.wait_move step system lemmas d) d.nodes
