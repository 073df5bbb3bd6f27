-- Goals, nets, diagrams and scripts as plain data.
use Rattle.std.specs.Prelude.{ℕ, List, Option}
use Rattle.st_linear.specs.Linear.{Linear}
use Rattle.st_form.specs.Formula.{Formula}
use Rattle.temporal_goals.specs.declared.diagrams.DiagramKind.{DiagramKind}

-- an invariance; nested waiting-for with the formulas that hold in turn; a response within a number of rounds
pub data PlainGoal : Type 0 where
  invariant : Formula → PlainGoal
  waiting : Formula → List Formula → PlainGoal
  response : Formula → Formula → Linear → PlainGoal

pub record PlainNode : Type 0 where
  pub form : Formula
  pub base : Linear
  pub delay : Linear
  pub top : Linear
  pub group : Option ℕ
  pub helper : Option ℕ

pub record PlainLevel : Type 0 where
  pub base : Linear
  pub top : Linear
  pub group : ℕ

pub record PlainNestedNode : Type 0 where
  pub form : Formula
  pub levels : List PlainLevel
  pub delay : Linear
  pub helper : Option ℕ

pub record PlainDrawnNode : Type 0 where
  pub number : ℕ
  pub form : Formula
  pub rank : Option Linear
  pub helper : Option ℕ

pub record PlainEdge : Type 0 where
  pub from : ℕ
  pub to : ℕ
  pub on : List ℕ

pub record PlainDiagram : Type 0 where
  pub kind : DiagramKind
  pub terminal : Formula
  pub nodes : List PlainDrawnNode
  pub edges : List PlainEdge

pub data PlainRule : Type 0 where
  basic : PlainRule
  stronger : Formula → PlainRule
  levels : List Formula → PlainRule
  net : List PlainNode → PlainRule
  diagram : PlainDiagram → PlainRule
  nested : List PlainNestedNode → PlainRule

-- a step: its name as bytes, its goal, its rule, and the numbers of the steps that it cites
pub record PlainStep : Type 0 where
  pub name : List ℕ
  pub goal : PlainGoal
  pub rule : PlainRule
  pub cited : List ℕ
