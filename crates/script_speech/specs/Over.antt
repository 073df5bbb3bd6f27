-- What the goals and rules of a script speak of: a program's variables, each by its type, and its locations, with numbers that
-- are small.
use Rattle.std.specs.Prelude.{ℕ, suc, ◌^◌, ◌≤◌, List, All, Option, Some, None, ⊤}
use Rattle.st_linear.specs.Linear.{Linear}
use Rattle.st_form.specs.declared.variables.Variable.{Variable}
use Rattle.st_program.specs.Types.{LinearFits}
use Rattle.temporal_goals.specs.Texts.{PlainGoal, invariant, waiting, response, PlainNode, PlainLevel, PlainNestedNode, PlainDrawnNode, PlainDiagram, PlainRule, basic, stronger, levels, net, diagram, nested, PlainStep}
use Rattle.assertions.specs.Over.{FormulaOver}

module _ (vs : List Variable) (locations : ℕ) where
  -- the numbers of an integer expression are at most 2^30
  abbrev pub SmallOver : Linear → Type 0
  SmallOver f = LinearFits vs (suc (2 ^ 30)) f

  abbrev pub GoalOver : PlainGoal → Type 0
  GoalOver (invariant p) = FormulaOver vs locations p
  GoalOver (waiting p qs) = FormulaOver vs locations p × All (FormulaOver vs locations) qs
  GoalOver (response p q e) = FormulaOver vs locations p × FormulaOver vs locations q × SmallOver e

  pub record NetNodeOver (n : PlainNode) : Type 0 where
    pub form : FormulaOver vs locations n.form
    pub base : SmallOver n.base
    pub delay : SmallOver n.delay
    pub top : SmallOver n.top

  pub record LevelOver (l : PlainLevel) : Type 0 where
    pub base : SmallOver l.base
    pub top : SmallOver l.top

  pub record NestedOver (n : PlainNestedNode) : Type 0 where
    pub form : FormulaOver vs locations n.form
    pub levels : All LevelOver n.levels
    pub delay : SmallOver n.delay

  abbrev pub RankOver : Option Linear → Type 0
  RankOver None = ⊤
  RankOver (Some f) = SmallOver f

  -- a node's number is read as a number token, which is at most 2^30
  pub record DrawnOver (n : PlainDrawnNode) : Type 0 where
    pub number : n.number ≤ 2 ^ 30
    pub form : FormulaOver vs locations n.form
    pub rank : RankOver n.rank

  pub record DiagramOver (d : PlainDiagram) : Type 0 where
    pub terminal : FormulaOver vs locations d.terminal
    pub nodes : All DrawnOver d.nodes

  abbrev pub RuleOver : PlainRule → Type 0
  RuleOver basic = ⊤
  RuleOver (stronger f) = FormulaOver vs locations f
  RuleOver (levels ls) = All (FormulaOver vs locations) ls
  RuleOver (net ns) = All NetNodeOver ns
  RuleOver (diagram d) = DiagramOver d
  RuleOver (nested ns) = All NestedOver ns

  abbrev pub StepOver : PlainStep → Type 0
  StepOver s = GoalOver s.goal × RuleOver s.rule
