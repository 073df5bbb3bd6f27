-- Each part of a diagram obeys its rules when it is read, and later parts leave it so.
use Rattle.std.proofs.Common.{◌≡◌, ◌≢◌, ℕ, zero, suc, ◌+◌, ◌<◌, ◌≤◌, Bool, true, false, not, cond, ◌==◌, nat_lt, ◌&&◌, ◌||◌, if◌then◌else◌, All, List, [], ◌∷◌, ◌++◌, length, slice_get, length-append, Option, Some, None, is_none, is_some, Ok, Err, refl, sym, ap, subst, ◌∙◌, arith, ◌⊎◌, inl, inr}
use Rattle.std.specs.List.{list_any}
use Rattle.std.specs.Option.{option_map, option_and_then}
use Rattle.std.proofs.lemmas.Bool.Decides.{nat_tests}
use Rattle.std.proofs.lemmas.List.Folds.{list_any-append}
use Rattle.std.proofs.lemmas.List.Elements.{All-nil, All-push}
use Rattle.st_tokens.specs.Stream.{Stream, behind}
use Rattle.st_reading.proofs.Judged.{both, given, allowed, there}
use Rattle.st_reading.specs.declared.mark.Mark.TheVariants as marks
use Rattle.st_reading.specs.Sign.{is}
use Rattle.st_reading.specs.Reading.{other, ahead, expected, named, gives, then_reads, leaves, goes, size}
use Rattle.st_linear.specs.Linear.{Linear}
use Rattle.st_form.specs.Formula.{Formula}
use Rattle.st_form.specs.declared.conditions.Part.{Part}
use Rattle.st_program.specs.Names.{Names}
use Rattle.transition_system.specs.Systems.{PlainTransition, System}
use Rattle.temporal_goals.specs.Texts.{PlainDrawnNode, PlainEdge, PlainDiagram}
use Rattle.temporal_goals.specs.declared.diagrams.DiagramKind.{DiagramKind}
use Rattle.temporal_goals.specs.declared.diagrams.DiagramKind.TheVariants.{Wait, Chain, Rank}
use Rattle.observations.specs.declared.Fairness.{Fairness}
use Rattle.observations.specs.declared.Fairness.TheVariants.{Unfair, Just, Compassionate}
use Rattle.observations.specs.Observation.{IsJust}
use Rattle.rule_fits.specs.Fitting.{fairness_of}
use Rattle.st_tokens.specs.declared.limit.LimitKind.TheVariants as limits
use Rattle.st_reading.specs.Rule as rules
use Rattle.st_reading.specs.Breaches.{Breach, broke, limited, unless, present, numeral_of}
use Rattle.diagram_reader.specs.declared.item.Item.{Item}
use Rattle.diagram_reader.specs.declared.item.Item.TheVariants as items
use Rattle.diagram_reader.specs.Transitions.{part_of, owes_justice, is_just, is_step, number_of, transition_named, transition_of}
use Rattle.assertions.specs.Labels.{labelled}
use Rattle.diagram_reader.specs.Drawn.{Setting, Drawing, nothing_drawn, with_terminal, with_node, with_edge, diagram_with, is_known, is_above, is_upward, has_ranks, has_helpers}
use Rattle.diagram_reader.specs.Drawing.{item_in, formula_of, sum_of, rank_of, just_of, helper_of, new_number_of, numbered_node_of, node_of, known_of, transition_number_of, numbers_of, edge_of, terminal_of, item_of, turn_of, items_of, closed_of, drawing_of}
use Rattle.diagram_reader.specs.Obeying.{NumberFits, RankFits, HelperFits, NodeObeys, is_numbered, AreApart, Descends, EdgeObeys, Obeys}
use Rattle.diagram_reader.proofs.Inverses.{going, chain_keeps, further_keeps}
use Rattle.basic_laws.proofs.Numbers.{is_zero, less, not_less}
use Rattle.basic_laws.proofs.Truths.{not_false}

neither : (a b : Bool) → (a || b) ≡ false → (a ≡ false) × (b ≡ false)
neither true b e = absurd cc
neither false b e = (refl, e)

either_way : (a b : Bool) → (a || b) ≡ true → (a ≡ true) ⊎ (b ≡ true)
either_way true b e = inl refl
either_way false b e = inr e

above_zero : (n : ℕ) → (n == 0) ≡ false → 0 < n
above_zero n h = grind (arith, nat_tests)

-- a number that is new is above 0 and apart from the others
number_fits : (kind : DiagramKind) (levels n : ℕ) (nodes : List PlainDrawnNode) → is_known n nodes ≡ false → is_above kind levels n ≡ false → NumberFits kind levels n
number_fits Wait levels n nodes h k = (above_zero n (neither (n == 0) (is_numbered n nodes) h).0, not_less levels n k)
number_fits Chain levels n nodes h k = above_zero n (neither (n == 0) (is_numbered n nodes) h).0
number_fits Rank levels n nodes h k = above_zero n (neither (n == 0) (is_numbered n nodes) h).0

same_either_way : (m n : ℕ) → (m == n) ≡ false → (n == m) ≡ false
same_either_way m n h = grind (arith, nat_tests)

neither_of : (a b : Bool) → a ≡ false → b ≡ false → (a || (b || false)) ≡ false
neither_of a b e f = rw (e, f) refl

apart_behind : (nodes : List PlainDrawnNode) (n : PlainDrawnNode) → AreApart nodes → is_numbered n.number nodes ≡ false → AreApart (nodes ++ n ∷ [])
apart_behind [] n h k = (refl, tt)
apart_behind (m ∷ ms) n h k =
    let parts = neither (m.number == n.number) (is_numbered n.number ms) k in
    (list_any-append (λ x. x.number == m.number) ms (n ∷ []) ∙ neither_of (is_numbered m.number ms) (n.number == m.number) h.0 (same_either_way m.number n.number parts.0), apart_behind ms n h.1 parts.1)

numbered_still : (i : ℕ) (nodes : List PlainDrawnNode) (n : PlainDrawnNode) → is_numbered i nodes ≡ true → is_numbered i (nodes ++ n ∷ []) ≡ true
numbered_still i nodes n h = list_any-append (λ x. x.number == i) nodes (n ∷ []) ∙ ap (λ b. b || is_numbered i (n ∷ [])) h

-- the number of a transition is one of the system
number_in_range : (occ : ℕ) (part : Part) (ts : List PlainTransition) (n : ℕ) → number_of occ part ts ≡ Some n → n < length ts
number_in_range occ part [] n h = absurd cc
number_in_range occ part (t ∷ ts) n h = at_test (is_step occ part t.name) (number_of occ part ts) (number_in_range occ part ts) h
  where
    at_test : (b : Bool) (o : Option ℕ) → ((m : ℕ) → o ≡ Some m → m < length ts) → (if b then Some 0 else option_map suc o) ≡ Some n → n < suc (length ts)
    at_test true o low h = let e : 0 ≡ n = cc in omega (arith, e)
    at_test false None low h = absurd cc
    at_test false (Some m) low h = let e : suc m ≡ n = cc in let k = low m refl in omega (arith, e, k)

named_in_range : (names : Names) (system : System) (label : List ℕ) (part : Part) (n : ℕ) → transition_named names system label part ≡ Some n → n < length system.transitions
named_in_range names system label part n h = at_statement (labelled names label) h
  where
    at_statement : (o : Option ℕ) → option_and_then (λ occ. number_of occ part system.transitions) o ≡ Some n → n < length system.transitions
    at_statement None h = absurd cc
    at_statement (Some occ) h = number_in_range occ part system.transitions n h

mapped_some : {A B : Type 0} (f : A → B) (o : Option A) (y : B) → option_map f o ≡ Some y → (x : A) × (o ≡ Some x) × (f x ≡ y)
mapped_some f None y h = absurd cc
mapped_some f (Some x) y h = (x, refl, cc)

transition_in_range : (names : Names) (system : System) (s : Stream) (t : ℕ × ℕ) (rest : Stream) → transition_of names system s ≡ Ok (t, rest) → t.0 < length system.transitions
unfolding transition_of
transition_in_range names system s t rest h =
    let a = both (named {X = Breach} s) _ (t, rest) h in
    let b = both (part_of a.value.1) _ (t, rest) a.second in
    let o = option_map (λ (n : ℕ). (n, a.value.0.place)) (transition_named names system a.value.0.text b.value.0) in
    let found = mapped_some (λ (n : ℕ). (n, a.value.0.place)) (transition_named names system a.value.0.text b.value.0) t (there (broke rules.UnknownTransition a.value.0.place) o t b.value.1 rest b.second) in
    let e : found.0 ≡ t.0 = ap (λ (p : ℕ × ℕ). p.0) found.2 in
    subst (λ n. n < length system.transitions) e (named_in_range names system a.value.0.text b.value.0 found.0 found.1)

just_is : (o : Option Fairness) → owes_justice o ≡ true → (o ≡ Some Just) ⊎ (o ≡ Some Compassionate)
just_is None e = absurd cc
just_is (Some Unfair) e = absurd cc
just_is (Some Just) e = inl refl
just_is (Some Compassionate) e = inr refl

numbered_above : (i : ℕ) (nodes : List PlainDrawnNode) → (i == 0) ≡ false → is_known i nodes ≡ true → is_numbered i nodes ≡ true
numbered_above i nodes k h = ap (λ b. b || is_numbered i nodes) (sym k) ∙ h

known_so : (j : ℕ) (nodes : List PlainDrawnNode) → is_known j nodes ≡ true → (j ≡ 0) ⊎ (is_numbered j nodes ≡ true)
known_so j nodes h = either_case (either_way (j == 0) (is_numbered j nodes) h)
  where
    either_case : ((j == 0) ≡ true) ⊎ (is_numbered j nodes ≡ true) → (j ≡ 0) ⊎ (is_numbered j nodes ≡ true)
    either_case (inl e) = inl (is_zero j e)
    either_case (inr e) = inr e

module _ (g : Setting) where
  rank_fits : (s : Stream) (r : Option Linear) (rest : Stream) → rank_of g s ≡ Ok (r, rest) → RankFits g.kind r
  unfolding rank_of
  rank_fits s r rest h = at_kind g.kind h
    where
      at_kind : (k : DiagramKind) → cond (has_ranks k) (then_reads (expected marks.Rank) (λ m. then_reads (sum_of g) (λ f. gives (Some f))) s) (Ok (None, s)) ≡ Ok (r, rest) → RankFits k r
      at_kind Wait h = sym (given None r s rest h)
      at_kind Chain h = sym (given None r s rest h)
      at_kind Rank h = let a = both (expected {X = Breach} marks.Rank s) _ (r, rest) h in let b = both (sum_of g a.value.1) _ (r, rest) a.second in (b.value.0, sym (given (Some b.value.0) r b.value.1 rest b.second))

  just_fits : (s : Stream) (h : ℕ) (rest : Stream) → just_of g s ≡ Ok (h, rest) → IsJust (fairness_of g.system) h
  unfolding just_of
  just_fits s h rest e =
      let a = both (transition_of g.names g.system s) _ (h, rest) e in
      let b = allowed (not (is_just g.system a.value.0.0)) (broke rules.UnfairHelper a.value.0.1) a.value.0.0 h a.value.1 rest a.second in
      subst (λ n. IsJust (fairness_of g.system) n) b.1 (just_is (slice_get (fairness_of g.system) a.value.0.0) (not_false (is_just g.system a.value.0.0) b.0))

  helper_fits : (s : Stream) (h : Option ℕ) (rest : Stream) → helper_of g s ≡ Ok (h, rest) → (has_helpers g.kind && is_none h) ≡ false → HelperFits g.kind g.system h
  unfolding helper_of
  helper_fits s h rest e k = at_kind g.kind e k
    where
      at_test : (b : Bool) → cond b (then_reads (just_of g) (λ h. gives (Some h)) (behind s)) (Ok (None, s)) ≡ Ok (h, rest) → is_none h ≡ false → (n : ℕ) × (h ≡ Some n) × IsJust (fairness_of g.system) n
      at_test true e k = let a = both (just_of g (behind s)) _ (h, rest) e in (a.value.0, sym (given (Some a.value.0) h a.value.1 rest a.second), just_fits (behind s) a.value.0 a.value.1 a.first)
      at_test false e k = let i : None ≡ h = given None h s rest e in let bad : is_none h ≡ true = ap is_none (sym i) in absurd cc

      at_kind : (d : DiagramKind) → cond (has_helpers d && is (ahead s) marks.Helper) (then_reads (just_of g) (λ h. gives (Some h)) (behind s)) (Ok (None, s)) ≡ Ok (h, rest) → (has_helpers d && is_none h) ≡ false → HelperFits d g.system h
      at_kind Wait e k = sym (given None h s rest e)
      at_kind Chain e k = at_test (is (ahead s) marks.Helper) e k
      at_kind Rank e k = at_test (is (ahead s) marks.Helper) e k

  -- what a node is read to
  pub record NodeRead (nodes : List PlainDrawnNode) (n : PlainDrawnNode) : Type 0 where
    pub new : is_known n.number nodes ≡ false
    pub obeys : NodeObeys g.kind g.levels g.system n
    pub form : (s : Stream) × (rest : Stream) × (formula_of g s ≡ Ok (n.form, rest))
    pub rank : (s : Stream) × (rest : Stream) × (rank_of g s ≡ Ok (n.rank, rest))

  number_read : (nodes : List PlainDrawnNode) (s : Stream) (n : ℕ × ℕ) (rest : Stream) → new_number_of g nodes s ≡ Ok (n, rest) → (is_known n.0 nodes ≡ false) × (is_above g.kind g.levels n.0 ≡ false)
  unfolding new_number_of
  number_read nodes s n rest h =
      let a = both (numeral_of s) _ (n, rest) h in
      let b = both (unless (is_known a.value.0.0 nodes) (broke rules.Twice a.value.0.1) a.value.0 a.value.1) _ (n, rest) a.second in
      let c = allowed (is_known a.value.0.0 nodes) (broke rules.Twice a.value.0.1) a.value.0 b.value.0 a.value.1 b.value.1 b.first in
      let d = allowed (is_above g.kind g.levels b.value.0.0) (broke rules.UnknownNode b.value.0.1) b.value.0 n b.value.1 rest b.second in
      let e : a.value.0 ≡ n = c.1 ∙ d.1 in
      (subst (λ (m : ℕ × ℕ). is_known m.0 nodes ≡ false) e c.0, subst (λ (m : ℕ × ℕ). is_above g.kind g.levels m.0 ≡ false) d.1 d.0)

  numbered_node_read : (nodes : List PlainDrawnNode) (s : Stream) (n : PlainDrawnNode) (rest : Stream) → numbered_node_of g nodes s ≡ Ok (n, rest) → NodeRead nodes n
  unfolding numbered_node_of
  numbered_node_read nodes s n rest h =
      let a = both (new_number_of g nodes s) _ (n, rest) h in
      let b = both (expected {X = Breach} marks.Colon a.value.1) _ (n, rest) a.second in
      let c = both (formula_of g b.value.1) _ (n, rest) b.second in
      let d = both (rank_of g c.value.1) _ (n, rest) c.second in
      let e = both (helper_of g d.value.1) _ (n, rest) d.second in
      let f = both (expected {X = Breach} marks.Semicolon e.value.1) _ (n, rest) e.second in
      let made : PlainDrawnNode = record { number = a.value.0.0; form = c.value.0; rank = d.value.0; helper = e.value.0 } in
      let z = allowed (has_helpers g.kind && is_none e.value.0) (broke rules.NoHelper a.value.0.1) made n f.value.1 rest f.second in
      let fresh = number_read nodes s a.value.0 a.value.1 a.first in
      let read : NodeRead nodes made =
      record {
        new = fresh.0;
        obeys =
            record {
              number = number_fits g.kind g.levels a.value.0.0 nodes fresh.0 fresh.1;
              rank = rank_fits c.value.1 d.value.0 d.value.1 d.first;
              helper = helper_fits d.value.1 e.value.0 e.value.1 e.first z.0;
            };
        form = (b.value.1, c.value.1, c.first);
        rank = (c.value.1, d.value.1, d.first);
      }
      in
      subst (NodeRead nodes) z.1 read

  pub node_read : (place : ℕ) (nodes : List PlainDrawnNode) (s : Stream) (n : PlainDrawnNode) (rest : Stream) → node_of g place nodes s ≡ Ok (n, rest) → (length nodes < 64) × NodeRead nodes n
  unfolding node_of
  node_read place nodes s n rest h = at_test (nat_lt (length nodes) 64) refl h
    where
      at_test : (b : Bool) → b ≡ nat_lt (length nodes) 64 → cond b (numbered_node_of g nodes s) (Err (other (limited limits.Nodes place))) ≡ Ok (n, rest) → (length nodes < 64) × NodeRead nodes n
      at_test true e h = (less (length nodes) 64 (sym e), numbered_node_read nodes s n rest h)
      at_test false e h = absurd cc

  known_read : (nodes : List PlainDrawnNode) (s : Stream) (n : ℕ) (rest : Stream) → known_of nodes s ≡ Ok (n, rest) → is_known n nodes ≡ true
  unfolding known_of
  known_read nodes s n rest h =
      let a = both (numeral_of s) _ (n, rest) h in
      let b = allowed (not (is_known a.value.0.0 nodes)) (broke rules.UnknownNode a.value.0.1) a.value.0.0 n a.value.1 rest a.second in
      subst (λ m. is_known m nodes ≡ true) b.1 (not_false (is_known a.value.0.0 nodes) b.0)

  transition_number_read : (s : Stream) (n : ℕ) (rest : Stream) → transition_number_of g s ≡ Ok (n, rest) → n < length g.system.transitions
  unfolding transition_number_of
  transition_number_read s n rest h =
      let a = both (transition_of g.names g.system s) _ (n, rest) h in
      subst (λ m. m < length g.system.transitions) (given a.value.0.0 n a.value.1 rest a.second) (transition_in_range g.names g.system s a.value.0 a.value.1 a.first)

  abbrev InRange : List ℕ → Type 0
  InRange on = All (λ t. t < length g.system.transitions) on

  numbers_read : (s : Stream) (on : List ℕ) (rest : Stream) → numbers_of g s ≡ Ok (on, rest) → InRange on
  unfolding numbers_of
  numbers_read s on rest h =
      let a = both (transition_number_of g s) _ (on, rest) h in
      let P = λ (t : ℕ). t < length g.system.transitions in
      let one : InRange (a.value.0 ∷ []) = All-push P [] a.value.0 (All-nil P) (transition_number_read s a.value.0 a.value.1 a.first) in
      further_keeps marks.Comma (transition_number_of g) InRange (λ x xs m end e p. All-push P xs x p (transition_number_read m x end e)) (a.value.0 ∷ []) on a.value.1 rest one a.second

  descends : (kind : DiagramKind) (i j : ℕ) (nodes : List PlainDrawnNode) → is_known i nodes ≡ true → is_upward kind i j ≡ false → (is_numbered i nodes ≡ true) × Descends kind i j
  descends Wait i j nodes h k = let p = neither (i == 0) (nat_lt i j) k in (numbered_above i nodes p.0 h, not_less i j p.1)
  descends Chain i j nodes h k = let p = neither (i == 0) (nat_lt i j) k in (numbered_above i nodes p.0 h, not_less i j p.1)
  descends Rank i j nodes h k = (numbered_above i nodes k h, tt)

  edge_read : (place : ℕ) (nodes : List PlainDrawnNode) (s : Stream) (e : PlainEdge) (rest : Stream) → edge_of g place nodes s ≡ Ok (e, rest) → EdgeObeys g.kind g.system nodes e
  unfolding edge_of
  edge_read place nodes s x rest h =
      let a = both (known_of nodes s) _ (x, rest) h in
      let b = both (expected {X = Breach} marks.Implies a.value.1) _ (x, rest) a.second in
      let c = both (known_of nodes b.value.1) _ (x, rest) b.second in
      let d = both (unless (is_upward g.kind a.value.0 c.value.0) (broke rules.Upward place) c.value.0 c.value.1) _ (x, rest) c.second in
      let e = both (expected {X = Breach} marks.On d.value.1) _ (x, rest) d.second in
      let f = both (numbers_of g e.value.1) _ (x, rest) e.second in
      let z = both (expected {X = Breach} marks.Semicolon f.value.1) _ (x, rest) f.second in
      let up = allowed (is_upward g.kind a.value.0 c.value.0) (broke rules.Upward place) c.value.0 d.value.0 c.value.1 d.value.1 d.first in
      let made : PlainEdge = record { from = a.value.0; to = d.value.0; on = f.value.0 } in
      let from = known_read nodes s a.value.0 a.value.1 a.first in
      let to = known_read nodes b.value.1 c.value.0 c.value.1 c.first in
      let low = descends g.kind a.value.0 c.value.0 nodes from up.0 in
      let read : EdgeObeys g.kind g.system nodes made =
      record {
        from = low.0;
        to = subst (λ j. (j ≡ 0) ⊎ (is_numbered j nodes ≡ true)) up.1 (known_so c.value.0 nodes to);
        descends = subst (λ j. Descends g.kind a.value.0 j) up.1 low.1;
        on = numbers_read e.value.1 f.value.0 f.value.1 f.first;
      }
      in
      subst (EdgeObeys g.kind g.system nodes) (given made x z.value.1 rest z.second) read

  -- what is drawn so far obeys the rules
  record Sound (d : Drawing) : Type 0 where
    pub few : length d.nodes ≤ 64
    pub apart : AreApart d.nodes
    pub nodes : All (NodeObeys g.kind g.levels g.system) d.nodes
    pub edges : All (EdgeObeys g.kind g.system d.nodes) d.edges

  nothing_sound : Sound nothing_drawn
  nothing_sound = record { few = omega arith; apart = tt; nodes = All-nil (NodeObeys g.kind g.levels g.system); edges = All-nil (EdgeObeys g.kind g.system []) }

  still_leads : (nodes : List PlainDrawnNode) (n : PlainDrawnNode) (j : ℕ) → (j ≡ 0) ⊎ (is_numbered j nodes ≡ true) → (j ≡ 0) ⊎ (is_numbered j (nodes ++ n ∷ []) ≡ true)
  still_leads nodes n j (inl e) = inl e
  still_leads nodes n j (inr e) = inr (numbered_still j nodes n e)

  still_obeys : (nodes : List PlainDrawnNode) (n : PlainDrawnNode) (e : PlainEdge) → EdgeObeys g.kind g.system nodes e → EdgeObeys g.kind g.system (nodes ++ n ∷ []) e
  still_obeys nodes n e h = record { from = numbered_still e.from nodes n h.from; to = still_leads nodes n e.to h.to; descends = h.descends; on = h.on }

  -- a node behind the others
  node_sound : (d : Drawing) (n : PlainDrawnNode) → Sound d → length d.nodes < 64 → NodeRead d.nodes n → Sound (with_node n d)
  node_sound d n h few read =
      record {
        few = omega (arith, few, length-append d.nodes (n ∷ []));
        apart = apart_behind d.nodes n h.apart (neither (n.number == 0) (is_numbered n.number d.nodes) read.new).1;
        nodes = All-push (NodeObeys g.kind g.levels g.system) d.nodes n h.nodes read.obeys;
        edges = λ k e lt. still_obeys d.nodes n _ (h.edges k e lt);
      }

  item_sound : (item : Item) (place : ℕ) (d e : Drawing) (s rest : Stream) → Sound d → item_of g item place d s ≡ Ok (e, rest) → Sound e
  unfolding item_of
  item_sound items.Terminal place d e s rest h r =
      let a = both (terminal_of g place d.terminal s) _ (e, rest) r in
      subst Sound (given (with_terminal a.value.0 d) e a.value.1 rest a.second) (record { few = h.few; apart = h.apart; nodes = h.nodes; edges = h.edges })
  item_sound items.Node place d e s rest h r =
      let a = both (node_of g place d.nodes s) _ (e, rest) r in
      let n = node_read place d.nodes s a.value.0 a.value.1 a.first in
      subst Sound (given (with_node a.value.0 d) e a.value.1 rest a.second) (node_sound d a.value.0 h n.0 n.1)
  item_sound items.Edge place d e s rest h r =
      let a = both (edge_of g place d.nodes s) _ (e, rest) r in
      let read = edge_read place d.nodes s a.value.0 a.value.1 a.first in
      subst Sound (given (with_edge a.value.0 d) e a.value.1 rest a.second) (record { few = h.few; apart = h.apart; nodes = h.nodes; edges = All-push (EdgeObeys g.kind g.system d.nodes) d.edges a.value.0 h.edges read })

  -- What holds of the empty drawing, and is kept by each item, holds of the whole diagram.
  module _ (P : Drawing → Type 0) (keeps : (item : Item) (place : ℕ) (d e : Drawing) (s rest : Stream) → P d → item_of g item place d s ≡ Ok (e, rest) → P e) where
    turned_so : (item : Item) (place : ℕ) (d e : Drawing) (s rest : Stream) → P d → turn_of g item place d s ≡ Ok (goes e, rest) → P e
    turned_so item place d e s rest p h =
        let a = both (item_of g item place d s) _ (goes e, rest) h in
        let same : going {B = Drawing} a.value.0 ≡ goes e = given (going {B = Drawing} a.value.0) (goes e) a.value.1 rest a.second in
        let is : a.value.0 ≡ e = cc in
        subst P is (keeps item place d a.value.0 s a.value.1 p a.first)

    never_left : (item : Item) (place : ℕ) (d e : Drawing) (s rest : Stream) → P d → turn_of g item place d s ≡ Ok (leaves e, rest) → P e
    never_left item place d e s rest p h =
        let a = both (item_of g item place d s) _ (leaves e, rest) h in
        let same : going {B = Drawing} a.value.0 ≡ leaves e = given (going {B = Drawing} a.value.0) (leaves e) a.value.1 rest a.second in
        absurd cc

    all_drawn : (d e : Drawing) (s rest : Stream) → P d → gives {X = Breach} d s ≡ Ok (e, rest) → P e
    all_drawn d e s rest p h = subst P (given d e s rest h) p

    items_keep : (d e : Drawing) (s rest : Stream) → P d → items_of g d s ≡ Ok (e, rest) → P e
    unfolding items_of
    items_keep d e s rest p h = chain_keeps item_in (turn_of g) gives P P turned_so never_left all_drawn (size s) d s e rest p h

    pub drawn : (s : Stream) (x : PlainDiagram) (rest : Stream) → P nothing_drawn → drawing_of g s ≡ Ok (x, rest) → (d : Drawing) × (f : Formula) × P d × (d.terminal ≡ Some f) × (diagram_with g.kind d f ≡ x)
    unfolding drawing_of closed_of
    drawn s x rest p h =
        let a = both (expected {X = Breach} marks.OpenBrace s) _ (x, rest) h in
        let b = both (items_of g nothing_drawn a.value.1) _ (x, rest) a.second in
        let c = both (expected {X = Breach} marks.CloseBrace b.value.1) _ (x, rest) b.second in
        let o = option_map (diagram_with g.kind b.value.0) b.value.0.terminal in
        let m = mapped_some (diagram_with g.kind b.value.0) b.value.0.terminal x (there (broke rules.NoTerminal c.value.0) o x c.value.1 rest c.second) in
        (b.value.0, m.0, items_keep nothing_drawn b.value.0 a.value.1 b.value.1 p b.first, m.1, m.2)

  pub diagram_obeys : (s : Stream) (x : PlainDiagram) (rest : Stream) → drawing_of g s ≡ Ok (x, rest) → Obeys g.kind g.levels g.system x
  diagram_obeys s x rest h =
      let d = drawn Sound item_sound s x rest nothing_sound h in
      let sound = d.2 in
      subst (Obeys g.kind g.levels g.system) d.4 (record { same_kind = refl; few = sound.few; apart = sound.apart; nodes = sound.nodes; edges = sound.edges })
