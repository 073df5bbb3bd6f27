-- Which conditions the rules generate, step by step of a script. Each condition is an implication between two formulas.
use Rattle.std.specs.Prelude.{ℕ, ◌+◌, true, false, List, [], ◌∷◌, ◌++◌, length, map, reverse, flat_map, take, Option, Some, None, slice_get, slice_index_or, filter_map}
use Rattle.std.specs.List.{enumerate_from}
use Rattle.st_form.specs.Formula.{Formula, truth_value, every, some, more, none, formulas, atoms, atoms_of}
use Rattle.st_form.specs.declared.conditions.Premise.{Premise}
use Rattle.st_form.specs.declared.conditions.Premise.TheVariants.{Implies, Start, Keep, Cover, Level, Target, Rank, Help, Move}
use Rattle.st_form.specs.declared.conditions.TransName.{TransName}
use Rattle.transition_system.specs.Systems.{PlainMode, System}
use Rattle.transition_system.specs.Meaning.{enabling_of}
use Rattle.temporal_goals.specs.Texts.{PlainGoal, invariant, waiting, response, PlainDiagram, PlainRule, basic, stronger, levels, net, diagram, nested, PlainStep}
use Rattle.temporal_goals.specs.declared.diagrams.DiagramKind.{DiagramKind}
use Rattle.temporal_goals.specs.declared.diagrams.DiagramKind.TheVariants as kinds
use Rattle.vc_generator.specs.Building.{Draft}
use Rattle.generated_conditions.specs.Cases.{onto, stated, one_of, Node}
use Rattle.generated_conditions.specs.Nets.{ranked_node, nested_node}
use Rattle.generated_conditions.specs.Diagrams.{lower_ends, chain_node, rank_node}

-- the parts of a conjunction; of another formula itself
abbrev pub conjuncts : Formula → List Formula
conjuncts (every none) = []
conjuncts (every (more f fs)) = f ∷ conjuncts (every fs)
conjuncts f = f ∷ []

-- the formula of a level, of formulas from the highest level down to level 0
abbrev pub level : List Formula → ℕ → Formula
level fs i = slice_index_or (reverse fs) i (truth_value false)

-- what a goal may be cited for: the formula of an invariance
abbrev pub lemma : PlainGoal → List Formula
lemma (invariant p) = p ∷ []
lemma goal = []

module _ (step : ℕ) (system : System) (lemmas : List Formula) where
  -- a condition of the step, by the parts of its name, what is given, and what is shown with the atoms that count for it
  abbrev pub asks : Premise → Option ℕ → Option TransName → ℕ → List Formula → Formula × ℕ → Draft
  asks premise node trans mode given (shown, count) = record {
    wide = atoms_of (formulas given) + count;
    condition = record { given = every (formulas given); shown = shown; name = record { step = step; premise = premise; node = node; trans = trans; mode = mode } };
  }

  -- where f holds, g does
  abbrev pub entails : Premise → Option ℕ → Formula → Formula → Draft
  entails premise node f g = asks premise node None 0 (lemmas ++ f ∷ []) (g, atoms g)

  -- from f each mode of each transition leads as shown; transitions are numbered from 0, and the modes of each from 1
  abbrev pub moves : Premise → Option ℕ → Formula → (ℕ → PlainMode → Formula × ℕ) → List Draft
  moves premise node f shown =
      flat_map (λ (n, t). map (λ (k, m). asks premise node (Some t.name) k (lemmas ++ f ∷ enabling_of m) (shown n m)) (enumerate_from 1 t.modes))
      (enumerate_from 0 system.transitions)

  -- f holds at the start, and each mode keeps it
  abbrev pub always : Formula → List Draft
  always f = asks Start None None 0 (lemmas ++ conjuncts system.initial) (f, atoms f) ∷ moves Keep None f (λ t m. stated m (onto f [] []))

  -- each level's formula implies the goal's; both are listed from the highest level down to level 0
  abbrev pub levels_imply : List Formula → List Formula → List Draft
  levels_imply (f ∷ fs) (q ∷ qs) = entails Level (Some (length fs)) f q ∷ levels_imply fs qs
  levels_imply fs qs = []

  -- each mode leads from a level above 0 to it or to a lower one
  abbrev pub levels_fall : List Formula → List Draft
  levels_fall (f ∷ g ∷ fs) = moves Move (Some (length (g ∷ fs))) f (λ t m. stated m (onto (some (formulas (f ∷ g ∷ fs))) [] [])) ++ levels_fall (g ∷ fs)
  levels_fall fs = []

  -- where p holds, q does, or a node's formula with its start; and on each node the ranks are as they should be, something
  -- is enabled that helps, and each mode leads as one of the cases says
  abbrev pub responds : Formula → Formula → List Node → List Draft
  responds p q nodes =
      entails Cover None p (some (formulas (q ∷ map (λ n. every (formulas (n.form ∷ n.starts ∷ []))) nodes)))
      ∷ (flat_map (λ n. map (entails Rank (Some n.number) n.form) n.ranked) nodes
      ++ (map (λ n. entails Help (Some n.number) n.form n.helped) nodes
      ++ flat_map (λ n. moves Move (Some n.number) n.form (λ t m. one_of m (n.cases t))) nodes))

  -- what a rule for another goal asks: what is never so
  abbrev pub never : List Draft
  never = asks Implies None None 0 (truth_value true ∷ []) (truth_value false, 0) ∷ []

  -- the conditions of a diagram. In a wait diagram a node's number is its level, and a step stays or leads lower; in chain
  -- and rank diagrams the terminal node is the goal.
  abbrev pub drawn : DiagramKind → PlainGoal → PlainDiagram → List Draft
  drawn kinds.Wait (waiting p qs) d =
      entails Cover None p (some (formulas (map (λ n. n.form) d.nodes ++ d.terminal ∷ [])))
      ∷ (map (λ n. entails Level (Some n.number) n.form (level qs n.number)) d.nodes
      ++ (entails Level (Some 0) d.terminal (level qs 0)
      ∷ flat_map (λ n. moves Move (Some n.number) n.form (λ t m. one_of m (onto n.form [] [] ∷ lower_ends d n t))) d.nodes))
  drawn kinds.Chain (response p q e) d = entails Target None d.terminal q ∷ responds p d.terminal (map (chain_node system e d) d.nodes)
  drawn kinds.Rank (response p q e) d = entails Target None d.terminal q ∷ responds p d.terminal (map (rank_node system e d) d.nodes)
  drawn kind goal d = never

  -- The conditions of a goal by a rule. Invariance (Manna and Pnueli, *Temporal Verification of Reactive Systems: Safety*,
  -- rules INV-B and INV): p is kept, or a stronger formula that implies it. Nested waiting-for (rule NWAIT): where p holds
  -- some level's formula does. Response: by a net, whose nodes are numbered from 0. Each goal but invariance: by a diagram.
  abbrev pub conditions : PlainGoal → PlainRule → List Draft
  conditions (invariant p) basic = always p
  conditions (invariant p) (stronger f) = entails Implies None f p ∷ always f
  conditions (waiting p qs) (levels fs) = entails Cover None p (some (formulas fs)) ∷ (levels_imply fs qs ++ levels_fall fs)
  conditions (response p q e) (net ns) = responds p q (map (λ (i, n). ranked_node system q e ns i n) (enumerate_from 0 ns))
  conditions (response p q e) (nested ns) = responds p q (map (λ (i, n). nested_node system q e ns i n) (enumerate_from 0 ns))
  conditions goal (diagram d) = drawn d.kind goal d
  conditions goal rule = never

-- the conditions of a script, whose steps are numbered from 0; a step cites steps before it
abbrev pub generated : System → List PlainStep → List Draft
generated system steps =
    flat_map (λ (n, s). conditions n system (flat_map (λ c. lemma c.goal) (filter_map (slice_get (take n steps)) s.cited)) s.goal s.rule) (enumerate_from 0 steps)
