-- The conditions of the steps from a node, by the kind of the diagram.
use Rattle.std.specs.Prelude.{ℕ, List, [], ◌∷◌, Some}
use Rattle.st_form.specs.Formula.{Formula}
use Rattle.st_form.specs.declared.conditions.Premise.TheVariants.{Move}
use Rattle.st_form.specs.declared.conditions.TransName.{TransName}
use Rattle.transition_system.specs.Systems.{PlainMode, System}
use Rattle.temporal_goals.specs.Texts.{PlainDrawnNode, PlainDiagram}
use Rattle.temporal_goals.specs.declared.diagrams.DiagramKind.{DiagramKind}
use Rattle.temporal_goals.specs.declared.diagrams.DiagramKind.TheVariants.{Wait, Chain, Rank}
use Rattle.vc_generator.specs.Atoms.{PlainCase}
use Rattle.vc_generator.specs.Building.{Draft, moved_of}
use Rattle.vc_generator.specs.Walks.{each_mode, by_mode}
use Rattle.rule_laws.specs.Diagrams.{wait_cases, chain_cases, rank_cases}

-- where a step of the transition with this number may lead from the node
abbrev pub cases_of : DiagramKind → PlainDiagram → PlainDrawnNode → ℕ → List PlainCase
cases_of Wait d n number = wait_cases d n number
cases_of Chain d n number = chain_cases d n number
cases_of Rank d n number = rank_cases d n number

-- a step by a mode of the transition with this name leads from the node as one of the cases says
abbrev pub leads_by : ℕ → List Formula → PlainDrawnNode → List PlainCase → TransName → ℕ → PlainMode → List Draft
leads_by step lemmas n cases name k m = moved_of m lemmas n.form cases (by_mode step Move (Some n.number) name k) ∷ []

-- so do all steps, the cases being given by the number of the transition
abbrev pub leads_of : ℕ → System → List Formula → PlainDrawnNode → (ℕ → List PlainCase) → List Draft
leads_of step system lemmas n cases = each_mode (λ number t k m. leads_by step lemmas n (cases number) t.name k m) system
