-- A chain or rank diagram is a net without groups: base and top are the rank, and the delay is 0.
use Rattle.std.proofs.Common.{◌≡◌, ℕ, zero, suc, ◌<◌, ◌⊎◌, inl, inr, List, [], ◌∷◌, map, Bool, IsTrue, ℤ, pos, ◌≤ℤ◌, arith, refl, sym, subst, ap}
use Rattle.std.specs.Prelude.{slice_get}
use Rattle.std.proofs.lemmas.Int.{ints}
use Rattle.std.specs.declared.option.Option.TheVariants.{Some, None}
use Rattle.observations.specs.Observation.{Observation, moment_at, state_at, last, IsJust, IsCompassionate}
use Rattle.observations.specs.Goals.{Response}
use Rattle.observations.specs.RankedNet.{Node, IsOn, IsRanked, IsHelped, Move, IfName, NetHolds}
use Rattle.observations.specs.RankedNet.Move.{Drop, Stay}
use Rattle.observations.proofs.Positions.{named_below}
use Rattle.observations.specs.Diagram.{DrawnNode, IsOnDrawn, DrawnMove, DrawnHolds}
use Rattle.observations.specs.Diagram.DrawnMove.{Stays, Ends, Along}
use Rattle.observations.proofs.NetBound.{response_by_net}

abbrev net_node : {S : Type 0} → DrawnNode S → Node S
net_node n = record { form = n.form; base = n.rank; delay = λ s. pos 0; top = n.rank; group = None; helper = Some n.helper }

map_at : {X Y : Type 0} (f : X → Y) (xs : List X) (i : ℕ) (x : X) → slice_get xs i ≡ Some x → slice_get (map f xs) i ≡ Some (f x)
map_at f [] i x e = cc
map_at f (y ∷ ys) zero x e = ap (λ z. Some (f z)) (let same : y ≡ x = cc in same)
map_at f (y ∷ ys) (suc i) x e = map_at f ys i x e

at_map : {X Y : Type 0} (f : X → Y) (xs : List X) (i : ℕ) (y : Y) → slice_get (map f xs) i ≡ Some y → (x : X) × (slice_get xs i ≡ Some x) × (f x ≡ y)
at_map f [] i y e = cc
at_map f (x ∷ xs) zero y e = (x, refl, cc)
at_map f (x ∷ xs) (suc i) y e = at_map f xs i y e

module _ {S : Type 0} (nodes : List (DrawnNode S)) (terminal p q : S → Bool) (e : S → ℤ) (o : Observation S) (drawn : DrawnHolds nodes terminal p q e o) where
  on_net : (s : S) (n : DrawnNode S) → IsOnDrawn nodes s n → IsOn (map net_node nodes) s (net_node n)
  on_net s n h = record { listed = (h.place, map_at net_node nodes h.place n h.listed); holds = h.holds }

  from_net : (s : S) (n : Node S) → IsOn (map net_node nodes) s n → (d : DrawnNode S) × IsOnDrawn nodes s d × (net_node d ≡ n)
  from_net s n h =
      let x = at_map net_node nodes h.listed.0 n h.listed.1 in
      (x.0, record { place = h.listed.0; listed = x.1; holds = subst (λ z. IsTrue (z.form s)) (sym x.2) h.holds }, x.2)

  as_net : NetHolds (map net_node nodes) p q e o
  as_net = record {
    cover = λ k h at_p. elim (drawn.cover k h at_p) [
      | inl end ↦ inl (drawn.target k h end)
      | inr n ↦ inr (record { node = net_node n.node; is_on = on_net (state_at o k) n.node n.is_on; below = n.below })
    ];
    rank = λ k h n is.
        let d = from_net (state_at o k) n is in
        let r = drawn.rank k h d.0 d.1 in
        subst (λ z. IsRanked z (state_at o k)) d.2 (ranked d.0 (state_at o k) r);
    help = λ k h n is.
        let d = from_net (state_at o k) n is in
        subst (λ z. IsHelped z (moment_at o k).enabled) d.2 (inl (drawn.help k h d.0 d.1));
    move = λ k name taken n is.
        let d = from_net (state_at o k) n is in
        subst (λ z. IsTrue (q (state_at o (suc k))) ⊎ Move (map net_node nodes) (moment_at o k).enabled name z (state_at o k) (state_at o (suc k))) d.2
        (moved k name (named_below o.later k name taken) d.0 (drawn.move k name taken d.0 d.1));
    helpers = λ n listed. (let x = at_map net_node nodes listed.0 n listed.1 in subst (λ z. IfName (IsJust o.fairness) z.helper) x.2 (drawn.helpers listed.0 x.0 x.1));
    groups = λ n listed. (let x = at_map net_node nodes listed.0 n listed.1 in subst (λ z. IfName (IsCompassionate o.fairness) z.group) x.2 (none x.0));
  }
    where
      ranked : (d : DrawnNode S) (s : S) → pos 0 ≤ℤ d.rank s → IsRanked (net_node d) s
      ranked d s h = record { base = h; delay = omega (arith, ints); top = omega (arith, ints) }

      none : (d : DrawnNode S) → IfName (IsCompassionate o.fairness) (net_node d).group
      none d = tt

      moved : (k name : ℕ) → k < last o → (d : DrawnNode S) → DrawnMove nodes terminal name d (state_at o k) (state_at o (suc k))
          → IsTrue (q (state_at o (suc k))) ⊎ Move (map net_node nodes) (moment_at o k).enabled name (net_node d) (state_at o k) (state_at o (suc k))
      moved k name h d (Stays is other falls) = inr (Stay (on_net (state_at o (suc k)) d is) (λ x. cc) (λ x. other (let same : d.helper ≡ name = cc in same)) (omega (arith, ints)) (record { base = falls; top = falls }))
      moved k name h d (Ends end) = inl (drawn.target (suc k) h end)
      moved k name h d (Along j is falls) = inr (Drop (net_node j) (on_net (state_at o (suc k)) j is) falls)

  pub response_by_diagram : Response p q e o
  response_by_diagram = response_by_net (map net_node nodes) p q e o as_net
