-- What a diagram speaks of is what the names stand for; and it fits its goal.
use Rattle.std.proofs.Common.{◌≡◌, ◌≢◌, ℕ, zero, suc, ◌^◌, ◌<◌, ◌≤◌, true, false, cond, All, List, [], ◌∷◌, ◌++◌, length, Option, Some, None, Ok, Err, refl, sym, ap, subst, ◌∙◌, arith}
use Rattle.std.proofs.lemmas.List.Elements.{All-nil, All-push, All-head, All-tail}
use Rattle.st_tokens.specs.Stream.{Stream}
use Rattle.st_reading.proofs.Judged.{both, given}
use Rattle.st_reading.specs.declared.mark.Mark.TheVariants as marks
use Rattle.st_reading.specs.Reading.{Read, then_reads, expected, gives}
use Rattle.st_linear.specs.Linear.{Linear}
use Rattle.st_form.specs.Formula.{Formula}
use Rattle.st_form.specs.declared.variables.Variable.{Variable}
use Rattle.st_program.specs.Types.{LinearFits}
use Rattle.expression_parser.specs.Reading.{below, expression_of, sum_of as plain_sum_of}
use Rattle.transition_system.specs.Systems.{System}
use Rattle.temporal_goals.specs.Texts.{PlainDrawnNode, PlainDiagram}
use Rattle.temporal_goals.specs.declared.diagrams.DiagramKind.{DiagramKind}
use Rattle.temporal_goals.specs.declared.diagrams.DiagramKind.TheVariants.{Wait, Chain, Rank}
use Rattle.rule_fits.specs.Fitting.{DrawnFits, DrawnNodesFit, LevelsExist}
use Rattle.expression_typer.specs.Naming.{names_of}
use Rattle.expression_typer.specs.Naming.{NamesOver}
use Rattle.assertions.specs.Over.{FormulaOver}
use Rattle.assertions.specs.Reading.{form_of, linear_of}
use Rattle.assertions.proofs.Over.{form_over, linear_over}
use Rattle.diagram_reader.specs.declared.item.Item.{Item}
use Rattle.diagram_reader.specs.declared.item.Item.TheVariants as items
use Rattle.st_reading.specs.Breaches.{Breach}
use Rattle.diagram_reader.specs.Faults.{unit_of}
use Rattle.diagram_reader.specs.Drawn.{Setting, Drawing, nothing_drawn, with_terminal, with_node, with_edge, diagram_with, has_ranks}
use Rattle.diagram_reader.specs.Drawing.{formula_of, sum_of, rank_of, node_of, edge_of, terminal_of, item_of, drawing_of}
use Rattle.diagram_reader.specs.Obeying.{NumberFits, HelperFits, NodeObeys, Obeys, RankOver, NodeOver, DiagramOver}
use Rattle.diagram_reader.proofs.Obeying.{NodeRead, node_read, drawn, diagram_obeys}

pub unit_is : {A : Type 0} (a : Read Breach A) (x : A) (rest : Stream) → unit_of a ≡ Ok (x, rest) → a ≡ Ok (x, rest)
unit_is (Ok y) x rest h = cc
unit_is (Err f) x rest h = absurd cc

module _ (vs : List Variable) (locations : ℕ) (g : Setting) (over : NamesOver vs locations (names_of g.names)) where
  formula_over : (s : Stream) (f : Formula) (rest : Stream) → formula_of g s ≡ Ok (f, rest) → FormulaOver vs locations f
  unfolding formula_of form_of
  formula_over s f rest h = form_over vs locations (names_of g.names) over (expression_of true (below true 32) s) f rest (unit_is _ f rest h)

  sum_over : (s : Stream) (f : Linear) (rest : Stream) → sum_of g s ≡ Ok (f, rest) → LinearFits vs (suc (2 ^ 30)) f
  unfolding sum_of linear_of
  sum_over s f rest h = linear_over vs locations (names_of g.names) over (plain_sum_of true (below true 32) s) f rest (unit_is _ f rest h)

  rank_over : (s : Stream) (r : Option Linear) (rest : Stream) → rank_of g s ≡ Ok (r, rest) → RankOver vs r
  unfolding rank_of
  rank_over s r rest h = at_kind g.kind h
    where
      at_kind : (k : DiagramKind) → cond (has_ranks k) (then_reads (expected marks.Rank) (λ m. then_reads (sum_of g) (λ f. gives (Some f))) s) (Ok (None, s)) ≡ Ok (r, rest) → RankOver vs r
      at_kind Wait h = subst (RankOver vs) (given None r s rest h) tt
      at_kind Chain h = subst (RankOver vs) (given None r s rest h) tt
      at_kind Rank h =
          let a = both (expected {X = Breach} marks.Rank s) _ (r, rest) h in
          let b = both (sum_of g a.value.1) _ (r, rest) a.second in
          subst (RankOver vs) (given (Some b.value.0) r b.value.1 rest b.second) (sum_over a.value.1 b.value.0 b.value.1 b.first)

  abbrev TerminalOver : Option Formula → Type 0
  TerminalOver None = Unit {0}
  TerminalOver (Some f) = FormulaOver vs locations f

  record Over (d : Drawing) : Type 0 where
    pub terminal : TerminalOver d.terminal
    pub nodes : All (NodeOver vs locations) d.nodes

  terminal_over : (place : ℕ) (before : Option Formula) (s : Stream) (f : Formula) (rest : Stream) → terminal_of g place before s ≡ Ok (f, rest) → FormulaOver vs locations f
  unfolding terminal_of
  terminal_over place (Some e) s f rest h = absurd cc
  terminal_over place None s f rest h =
      let a = both (expected {X = Breach} marks.Colon s) _ (f, rest) h in
      let b = both (formula_of g a.value.1) _ (f, rest) a.second in
      let c = both (expected {X = Breach} marks.Semicolon b.value.1) _ (f, rest) b.second in
      subst (FormulaOver vs locations) (given b.value.0 f c.value.1 rest c.second) (formula_over a.value.1 b.value.0 b.value.1 b.first)

  node_over : (nodes : List PlainDrawnNode) (n : PlainDrawnNode) → NodeRead g nodes n → NodeOver vs locations n
  node_over nodes n h = record { form = formula_over h.form.0 n.form h.form.1 h.form.2; rank = rank_over h.rank.0 n.rank h.rank.1 h.rank.2 }

  item_over : (item : Item) (place : ℕ) (d e : Drawing) (s rest : Stream) → Over d → item_of g item place d s ≡ Ok (e, rest) → Over e
  unfolding item_of
  item_over items.Terminal place d e s rest h r =
      let a = both (terminal_of g place d.terminal s) _ (e, rest) r in
      subst Over (given (with_terminal a.value.0 d) e a.value.1 rest a.second) (record { terminal = terminal_over place d.terminal s a.value.0 a.value.1 a.first; nodes = h.nodes })
  item_over items.Node place d e s rest h r =
      let a = both (node_of g place d.nodes s) _ (e, rest) r in
      let n = node_read g place d.nodes s a.value.0 a.value.1 a.first in
      subst Over (given (with_node a.value.0 d) e a.value.1 rest a.second) (record { terminal = h.terminal; nodes = All-push (NodeOver vs locations) d.nodes a.value.0 h.nodes (node_over d.nodes a.value.0 n.1) })
  item_over items.Edge place d e s rest h r =
      let a = both (edge_of g place d.nodes s) _ (e, rest) r in
      subst Over (given (with_edge a.value.0 d) e a.value.1 rest a.second) (record { terminal = h.terminal; nodes = h.nodes })

  pub diagram_over : (s : Stream) (x : PlainDiagram) (rest : Stream) → drawing_of g s ≡ Ok (x, rest) → DiagramOver vs locations x
  diagram_over s x rest h =
      let d = drawn g Over item_over s x rest (record { terminal = tt; nodes = All-nil (NodeOver vs locations) }) h in
      let is_over = d.2 in
      subst (DiagramOver vs locations) d.4 (record { terminal = subst TerminalOver d.3 is_over.terminal; nodes = is_over.nodes })

-- the nodes of a wait diagram are levels of a goal with one formula more
pub levels_exist : (levels : ℕ) (system : System) (ns : List PlainDrawnNode) → All (NodeObeys Wait levels system) ns → LevelsExist (suc levels) ns
levels_exist levels system [] h = omega arith
levels_exist levels system (n ∷ ns) h =
    let one = (All-head (NodeObeys Wait levels system) n ns h).number in
    (one.0, omega (arith, one.1), levels_exist levels system ns (All-tail (NodeObeys Wait levels system) n ns h))

-- a node with a helper that is just and a number above 0
abbrev IsDrawnFor : System → PlainDrawnNode → Type 0
IsDrawnFor system n = NumberFits Chain 0 n.number × HelperFits Chain system n.helper

nodes_fit : (system : System) (ns : List PlainDrawnNode) → All (IsDrawnFor system) ns → DrawnNodesFit system ns
nodes_fit system [] h = tt
nodes_fit system (n ∷ ns) h =
    let one = All-head (IsDrawnFor system) n ns h in
    (record { helper = one.1.0; is = one.1.1; just = one.1.2; numbered = one.0 }, nodes_fit system ns (All-tail (IsDrawnFor system) n ns h))

pub response_fits : (kind : DiagramKind) (levels : ℕ) (system : System) (ns : List PlainDrawnNode) → kind ≢ Wait → All (NodeObeys kind levels system) ns → DrawnNodesFit system ns
response_fits Wait levels system ns no_wait h = absurd (no_wait refl)
response_fits Chain levels system ns no_wait h = nodes_fit system ns (λ k n lt. let o = h k n lt in (o.number, o.helper))
response_fits Rank levels system ns no_wait h = nodes_fit system ns (λ k n lt. let o = h k n lt in (o.number, o.helper))
