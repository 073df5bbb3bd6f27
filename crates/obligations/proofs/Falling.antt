-- Written numbers can be lowered by 1, as the rules ask.
use Rattle.std.proofs.Common.{arith, ◌≡◌, refl, sym, subst, List, [], ◌∷◌, Option, Some, None, pos}
use Rattle.std.specs.Prelude.{unwrap_or}
use Rattle.st_linear.specs.Linear.{Linear, number}
use Rattle.transition_system.specs.Systems.{System}
use Rattle.temporal_goals.specs.Texts.{PlainNode, PlainLevel, PlainNestedNode, PlainDrawnNode}
use Rattle.rule_laws.specs.Diagrams.{drawn_rank}
use Rattle.rule_fits.specs.Fitting.{CanFall}
use Rattle.ranked_net.specs.Asked.{NodesCanFall}
use Rattle.nested_net.specs.Asked as nets
use Rattle.diagram_conditions.specs.Asked.{RanksCanFall}
use Rattle.list_laws.specs.Each.{Each}
use Rattle.script_laws.specs.Written.{IsSmall, NodeWritten, LevelWritten, NestedWritten, RankWritten, DrawnWritten}

module _ (system : System) where
  pub can-fall : (f : Linear) → IsSmall system f → CanFall f
  can-fall f h = let small = h.constant in omega arith

  pub nodes-fall : (ns : List PlainNode) → Each (NodeWritten system) ns → NodesCanFall ns
  nodes-fall [] h = tt
  nodes-fall (n ∷ ns) h = (can-fall n.base h.0.base, can-fall n.delay h.0.delay, nodes-fall ns h.1)

  levels-fall : (ls : List PlainLevel) → Each (LevelWritten system) ls → nets.LevelsCanFall ls
  levels-fall [] h = tt
  levels-fall (l ∷ ls) h = (can-fall l.base h.0.base, levels-fall ls h.1)

  pub nested-fall : (ns : List PlainNestedNode) → Each (NestedWritten system) ns → nets.NodesCanFall ns
  nested-fall [] h = tt
  nested-fall (n ∷ ns) h = ((can-fall n.delay h.0.delay, levels-fall n.levels h.0.levels), nested-fall ns h.1)

  rank-falls : (rank : Option Linear) (n : PlainDrawnNode) → n.rank ≡ rank → RankWritten system rank → CanFall (drawn_rank n)
  rank-falls None n is h = subst (λ r. CanFall (unwrap_or r (number (pos 0)))) (sym is) (omega arith)
  rank-falls (Some f) n is h = subst (λ r. CanFall (unwrap_or r (number (pos 0)))) (sym is) (can-fall f h)

  pub ranks-fall : (ns : List PlainDrawnNode) → Each (DrawnWritten system) ns → RanksCanFall ns
  ranks-fall [] h = tt
  ranks-fall (n ∷ ns) h = (rank-falls n.rank n refl h.0.rank, ranks-fall ns h.1)
