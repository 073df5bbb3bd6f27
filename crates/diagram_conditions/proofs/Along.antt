-- The edges that leave a node give the cases of all edges.
use Rattle.std.proofs.Common.{◌≡◌, ◌∙◌, ap, sym, subst, refl, ℕ, Bool, true, false, ◌&&◌, ◌==◌, if◌then◌else◌, List, [], ◌∷◌, ◌++◌, length, map, slice_get, ◌≤◌, Option, Result}
use Rattle.std.specs.List.{list_any}
use Rattle.std.specs.Option.{option_map}
use Rattle.std.proofs.lemmas.Option.{slice_get-map, slice_get_past}
use Rattle.st_form.specs.Formula.{Formula, truth_value}
use Rattle.st_form.specs.Condition.{Implication}
use Rattle.st_form.specs.declared.conditions.TransName.{TransName}
use Rattle.transition_system.specs.Systems.{PlainMode, System}
use Rattle.transition_system.specs.Plain.{plain_transition}
use Rattle.transition_system.specs.declared.transitions.Transition.{Transition}
use Rattle.temporal_goals.specs.Texts.{PlainDrawnNode, PlainEdge, PlainDiagram}
use Rattle.temporal_goals.specs.declared.diagrams.DiagramKind.{DiagramKind}
use Rattle.temporal_goals.specs.declared.diagrams.DiagramKind.TheVariants.{Wait, Chain, Rank}
use Rattle.vc_generator.specs.Atoms.{PlainCase}
use Rattle.vc_generator.specs.declared.faults.VcFault.{VcFault}
use Rattle.vc_generator.specs.Refusing.{Grows}
use Rattle.vc_generator.specs.Walks.{numbered_from}
use Rattle.rule_laws.specs.Names.{enabled_if}
use Rattle.rule_laws.specs.Diagrams.{node_numbered, ends_of, case_on, unless_helper, rank_stays}
use Rattle.diagram_conditions.specs.Leaving.{leaving_from, along, end_case, step_cases}
use Rattle.diagram_conditions.specs.Moves.{cases_of, leads_by, leads_of}

module _ (f : ℕ → Option PlainDrawnNode → List PlainCase) (i number : ℕ) (nodes : List PlainDrawnNode) where
  by-edge : (b : Bool) (cs rest ls : List PlainCase) → ls ≡ rest → (if b then cs else []) ++ ls ≡ (if b then cs ++ rest else rest)
  by-edge true cs rest ls same = ap (λ r. cs ++ r) same
  by-edge false cs rest ls same = same

  by-test : (b : Bool) (e : PlainEdge) (ls : List (PlainEdge × Option PlainDrawnNode)) (rest : List PlainCase) → along f number ls ≡ rest
      → along f number (if b then (e, node_numbered e.to nodes) ∷ ls else ls) ≡ (if b && list_any (λ t. t == number) e.on then f e.to (node_numbered e.to nodes) ++ rest else rest)
  by-test true e ls rest same = by-edge (list_any (λ t. t == number) e.on) (f e.to (node_numbered e.to nodes)) rest (along f number ls) same
  by-test false e ls rest same = same

  pub along-leaving : (es : List PlainEdge) → along f number (leaving_from i nodes es) ≡ ends_of (λ j. f j (node_numbered j nodes)) i number es
  along-leaving [] = refl
  along-leaving (e ∷ es) = by-test (e.from == i) e (leaving_from i nodes es) (ends_of (λ j. f j (node_numbered j nodes)) i number es) (along-leaving es)

-- the cases by the edges that leave the node are the diagram's
pub cases-along : (kind : DiagramKind) (d : PlainDiagram) (n : PlainDrawnNode) (number : ℕ) → step_cases kind d.terminal n (leaving_from n.number d.nodes d.edges) number ≡ cases_of kind d n number
cases-along Wait d n number = ap (λ cs. case_on n.form ∷ cs) (along-leaving (end_case Wait d.terminal n) n.number number d.nodes d.edges)
cases-along Chain d n number = ap (λ cs. unless_helper n number (case_on n.form) ++ cs) (along-leaving (end_case Chain d.terminal n) n.number number d.nodes d.edges)
cases-along Rank d n number = ap (λ cs. unless_helper n number (rank_stays n) ++ cs) (along-leaving (end_case Rank d.terminal n) n.number number d.nodes d.edges)

pub leads-along : (step : ℕ) (system : System) (lemmas : List Formula) (kind : DiagramKind) (d : PlainDiagram) (n : PlainDrawnNode)
    → leads_of step system lemmas n (step_cases kind d.terminal n (leaving_from n.number d.nodes d.edges)) ≡ leads_of step system lemmas n (cases_of kind d n)
leads-along step system lemmas kind d n =
    let same : step_cases kind d.terminal n (leaving_from n.number d.nodes d.edges) ≡ cases_of kind d n = λ t number. cases-along kind d n number t in
    ap (leads_of step system lemmas n) same

-- the same cases give the same conditions
pub with-cases : (r : Result (Unit {0}) VcFault) (old new : List Implication) (step : ℕ) (lemmas : List Formula) (n : PlainDrawnNode) (name : TransName) (modes : List PlainMode) (cs ds : List PlainCase) → cs ≡ ds
    → Grows r old new (numbered_from (leads_by step lemmas n cs name) 1 modes) → Grows r old new (numbered_from (leads_by step lemmas n ds name) 1 modes)
with-cases r old new step lemmas n name modes cs ds same grows = subst (λ (c : List PlainCase). Grows r old new (numbered_from (leads_by step lemmas n c name) 1 modes)) same grows

-- the transition with a number past the last is never enabled
pub none-enabled : (ts : List Transition) (number : ℕ) → length ts ≤ number → truth_value false ≡ enabled_if (slice_get (map plain_transition ts) number)
none-enabled ts number past = ap enabled_if (sym (slice_get-map plain_transition ts number ∙ ap (option_map plain_transition) (slice_get_past ts number past)))
