-- The numbers of a diagram's nodes are at most 2^30, as all numerals are.
use Rattle.std.proofs.Common.{◌≡◌, ℕ, ◌^◌, ◌≤◌, Bool, true, false, cond, ◌&&◌, nat_lt, All, List, length, is_none, Ok, Err, subst, ◌∙◌}
use Rattle.std.proofs.lemmas.List.Elements.{All-nil, All-push}
use Rattle.st_tokens.specs.Stream.{Stream}
use Rattle.st_tokens.specs.declared.limit.LimitKind.TheVariants as limits
use Rattle.st_reading.specs.declared.mark.Mark.TheVariants as marks
use Rattle.st_reading.specs.Reading.{other, expected}
use Rattle.st_reading.specs.Rule as rules
use Rattle.st_reading.specs.Breaches.{Breach, broke, limited, unless, numeral_of}
use Rattle.st_reading.proofs.Judged.{both, given, allowed}
use Rattle.st_reading.proofs.Numerals.{numeral_small}
use Rattle.temporal_goals.specs.Texts.{PlainDrawnNode, PlainDiagram}
use Rattle.diagram_reader.specs.declared.item.Item.{Item}
use Rattle.diagram_reader.specs.declared.item.Item.TheVariants as items
use Rattle.diagram_reader.specs.Drawn.{Setting, Drawing, with_terminal, with_node, with_edge, is_known, is_above, has_helpers}
use Rattle.diagram_reader.specs.Drawing.{formula_of, rank_of, helper_of, new_number_of, numbered_node_of, node_of, edge_of, terminal_of, item_of, drawing_of}
use Rattle.diagram_reader.proofs.Obeying.{drawn}

abbrev pub IsNumbered : PlainDrawnNode → Type 0
IsNumbered n = n.number ≤ 2 ^ 30

module _ (g : Setting) where
  new_small : (nodes : List PlainDrawnNode) (s : Stream) (n : ℕ × ℕ) (rest : Stream) → new_number_of g nodes s ≡ Ok (n, rest) → n.0 ≤ 2 ^ 30
  unfolding new_number_of
  new_small nodes s n rest h =
      let a = both (numeral_of s) _ (n, rest) h in
      let b = both (unless (is_known a.value.0.0 nodes) (broke rules.Twice a.value.0.1) a.value.0 a.value.1) _ (n, rest) a.second in
      let c = allowed (is_known a.value.0.0 nodes) (broke rules.Twice a.value.0.1) a.value.0 b.value.0 a.value.1 b.value.1 b.first in
      let d = allowed (is_above g.kind g.levels b.value.0.0) (broke rules.UnknownNode b.value.0.1) b.value.0 n b.value.1 rest b.second in
      subst (λ (m : ℕ × ℕ). m.0 ≤ 2 ^ 30) (c.1 ∙ d.1) (numeral_small s a.value.0 a.value.1 a.first)

  numbered : (nodes : List PlainDrawnNode) (s : Stream) (n : PlainDrawnNode) (rest : Stream) → numbered_node_of g nodes s ≡ Ok (n, rest) → IsNumbered n
  unfolding numbered_node_of
  numbered nodes s n rest h =
      let a = both (new_number_of g nodes s) _ (n, rest) h in
      let b = both (expected {X = Breach} marks.Colon a.value.1) _ (n, rest) a.second in
      let c = both (formula_of g b.value.1) _ (n, rest) b.second in
      let d = both (rank_of g c.value.1) _ (n, rest) c.second in
      let e = both (helper_of g d.value.1) _ (n, rest) d.second in
      let f = both (expected {X = Breach} marks.Semicolon e.value.1) _ (n, rest) e.second in
      let made : PlainDrawnNode = record { number = a.value.0.0; form = c.value.0; rank = d.value.0; helper = e.value.0 } in
      let z = allowed (has_helpers g.kind && is_none e.value.0) (broke rules.NoHelper a.value.0.1) made n f.value.1 rest f.second in
      subst IsNumbered z.1 (new_small nodes s a.value.0 a.value.1 a.first)

  node_numbered : (place : ℕ) (nodes : List PlainDrawnNode) (s : Stream) (n : PlainDrawnNode) (rest : Stream) → node_of g place nodes s ≡ Ok (n, rest) → IsNumbered n
  unfolding node_of
  node_numbered place nodes s n rest h = at_test (nat_lt (length nodes) 64) h
    where
      at_test : (b : Bool) → cond b (numbered_node_of g nodes s) (Err (other (limited limits.Nodes place))) ≡ Ok (n, rest) → IsNumbered n
      at_test true h = numbered nodes s n rest h
      at_test false h = absurd cc

  abbrev AreNumbered : Drawing → Type 0
  AreNumbered d = All IsNumbered d.nodes

  item_numbered : (item : Item) (place : ℕ) (d e : Drawing) (s rest : Stream) → AreNumbered d → item_of g item place d s ≡ Ok (e, rest) → AreNumbered e
  unfolding item_of
  item_numbered items.Terminal place d e s rest h r = let a = both (terminal_of g place d.terminal s) _ (e, rest) r in subst AreNumbered (given (with_terminal a.value.0 d) e a.value.1 rest a.second) h
  item_numbered items.Node place d e s rest h r =
      let a = both (node_of g place d.nodes s) _ (e, rest) r in
      subst AreNumbered (given (with_node a.value.0 d) e a.value.1 rest a.second) (All-push IsNumbered d.nodes a.value.0 h (node_numbered place d.nodes s a.value.0 a.value.1 a.first))
  item_numbered items.Edge place d e s rest h r = let a = both (edge_of g place d.nodes s) _ (e, rest) r in subst AreNumbered (given (with_edge a.value.0 d) e a.value.1 rest a.second) h

  pub diagram_numbered : (s : Stream) (x : PlainDiagram) (rest : Stream) → drawing_of g s ≡ Ok (x, rest) → All IsNumbered x.nodes
  diagram_numbered s x rest h =
      let d = drawn g AreNumbered item_numbered s x rest (All-nil IsNumbered) h in
      let is_numbered = d.2 in
      subst (λ (y : PlainDiagram). All IsNumbered y.nodes) d.4 is_numbered
