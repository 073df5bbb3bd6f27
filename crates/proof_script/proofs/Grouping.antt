-- The groups of the nodes of nested nets: as the code goes through them, and what holds of all that are read. The nodes break no
-- rule of a nested net.
use Rattle.std.proofs.Common.{◌≡◌, ℕ, zero, suc, ◌+◌, ◌<◌, ◌≤◌, Bool, true, false, cond, ◌&&◌, nat_eq, All, List, [], ◌∷◌, ◌++◌, length, length-append, Option, Some, None, is_none, Result, Ok, Err, refl, sym, subst, ◌∙◌, arith}
use Rattle.std.specs.Result.{ForErr}
use Rattle.std.proofs.lemmas.Option.{none-some}
use Rattle.std.proofs.lemmas.List.Elements.{All-nil, All-push, All-head, All-tail, All-weaker}
use Rattle.st_tokens.specs.Stream.{Stream, behind}
use Rattle.st_reading.proofs.Judged.{both, given, allowed}
use Rattle.st_reading.specs.declared.mark.Mark.TheVariants as marks
use Rattle.st_reading.specs.Sign.{is}
use Rattle.st_reading.specs.Reading.{Stop, IsStop, ahead, place_of, refusal, then_reads}
use Rattle.st_reading.proofs.Loops.{stop_as}
use Rattle.transition_system.specs.Systems.{System}
use Rattle.temporal_goals.specs.Texts.{PlainLevel, PlainNestedNode}
use Rattle.temporal_goals.specs.declared.nested.NestedNet.{NestedNet}
use Rattle.ranked_net.specs.Making.{is_unfair, is_uncompassionate}
use Rattle.nested_net.specs.declared.faults.NestedFault.{NestedFault}
use Rattle.nested_net.specs.declared.faults.NestedFault.TheVariants as faults
use Rattle.nested_net.specs.Making.{some_uncompassionate, unless_helped, first_fault, MakesNested}
use Rattle.st_reading.specs.Rule as rules
use Rattle.st_reading.specs.Breaches.{Breach, broke, unless}
use Rattle.proof_script.specs.Listing.{Setting, bracketed, behind_mark, sum_of, compassionate_of, listed_formula_of}
use Rattle.proof_script.specs.Rules.{helper_of, weight_of, ends_item, nested_completed_of, group_level_of, group_levels_of, nested_node_of}
use Rattle.proof_script.proofs.Inverses.{behind_it, listed_few, bracketed_fits}
use Rattle.proof_script.proofs.Unbroken.{compassionate_fits, helper_fits}

-- the loop over the groups
module _ (g : Setting) (ls : List PlainLevel) (s : Stream) where
  pub groups_next : (n m : ℕ) (x : PlainLevel) (ms : List PlainLevel) (next after : Stream) → n ≡ suc m → true ≡ is (ahead s) marks.Base → next ≡ behind s → group_level_of g next ≡ Ok (x, after) → ms ≡ ls ++ x ∷ []
      → group_levels_of g n ls s ≡ group_levels_of g m ms after
  unfolding group_levels_of
  groups_next n m x ms next after more base is_next reads made = rw (more, ← base, ← is_next, reads, made) refl

  pub groups_end : (n : ℕ) → false ≡ is (ahead s) marks.Base → group_levels_of g n ls s ≡ Ok (ls, s)
  unfolding group_levels_of
  groups_end zero base = refl
  groups_end (suc n) base = rw (← base) refl

  pub groups_full : (n : ℕ) → n ≡ 0 → group_levels_of g n ls s ≡ Ok (ls, s)
  unfolding group_levels_of
  groups_full n none = rw none refl

  pub groups_fail : (n m : ℕ) (e : Option (Stop Breach)) (next : Stream) → n ≡ suc m → true ≡ is (ahead s) marks.Base → next ≡ behind s → IsStop e (group_level_of g next) → IsStop e (group_levels_of g n ls s)
  unfolding group_levels_of
  groups_fail n m e next more base is_next fails = rw (more, ← base, ← is_next) (stop_as e (group_level_of g next) (then_reads (group_level_of g) (λ l. group_levels_of g m (ls ++ l ∷ [])) next) (λ f h. rw h refl) fails)

-- what holds of each group that is read holds of all, and there are not too many
module _ (g : Setting) (P : PlainLevel → Type 0) (each : (l : PlainLevel) (s rest : Stream) → group_level_of g s ≡ Ok (l, rest) → P l) where
  pub groups_keep : (n : ℕ) (ls ms : List PlainLevel) (s rest : Stream) → group_levels_of g n ls s ≡ Ok (ms, rest) → All P ls → All P ms × (length ms ≤ length ls + n)
  unfolding group_levels_of
  groups_keep zero ls ms s rest h all = subst (λ (xs : List PlainLevel). All P xs × (length xs ≤ length ls + 0)) (given ls ms s rest h) (all, omega arith)
  groups_keep (suc n) ls ms s rest h all = at_test (λ xs m e p. groups_keep n xs ms m rest e p) (is (ahead s) marks.Base) h
    where
      at_test : ((xs : List PlainLevel) (m : Stream) → group_levels_of g n xs m ≡ Ok (ms, rest) → All P xs → All P ms × (length ms ≤ length xs + n)) → (b : Bool)
          → cond b (then_reads (group_level_of g) (λ l. group_levels_of g n (ls ++ l ∷ [])) (behind s)) (Ok (ls, s)) ≡ Ok (ms, rest) → All P ms × (length ms ≤ length ls + suc n)
      at_test again true h =
          let a = both (group_level_of g (behind s)) _ (ms, rest) h in
          let k = again (ls ++ a.value.0 ∷ []) a.value.1 a.second (All-push P ls a.value.0 all (each a.value.0 (behind s) a.value.1 a.first)) in
          let few = k.1 in
          let long = length-append ls (a.value.0 ∷ []) in
          (k.0, omega (arith, few, long))
      at_test again false h = subst (λ (xs : List PlainLevel). All P xs × (length xs ≤ length ls + suc n)) (given ls ms s rest h) (all, omega arith)

-- the node breaks no rule
abbrev pub NestedUnbroken : System → PlainNestedNode → Type 0
NestedUnbroken system n = (is_unfair system n.helper ≡ false) × (some_uncompassionate system n.levels ≡ false) × ((nat_eq (length n.levels) 0 && is_none n.helper) ≡ false) × (length n.levels ≤ 4)

module _ (system : System) where
  abbrev Compassionate : PlainLevel → Type 0
  Compassionate l = is_uncompassionate system (Some l.group) ≡ false

  all_compassionate : (ls : List PlainLevel) → All Compassionate ls → some_uncompassionate system ls ≡ false
  all_compassionate [] h = refl
  all_compassionate (l ∷ ls) h = rw (All-head Compassionate l ls h) (all_compassionate ls (All-tail Compassionate l ls h))

  helped_or_grouped : (i : ℕ) (h : Option ℕ) (ls : List PlainLevel) → (nat_eq (length ls) 0 && is_none h) ≡ false → unless_helped i h ls ≡ None
  helped_or_grouped i (Some h) ls e = refl
  helped_or_grouped i None (l ∷ ls) e = refl
  helped_or_grouped i None [] e = absurd cc

  no_nested_fault : (i : ℕ) (ns : List PlainNestedNode) → All (NestedUnbroken system) ns → first_fault system i ns ≡ None
  no_nested_fault i [] h = refl
  no_nested_fault i (n ∷ ns) h =
      let u = All-head (NestedUnbroken system) n ns h in
      rw (u.0, u.1, helped_or_grouped i n.helper n.levels u.2) (no_nested_fault (i + 1) ns (All-tail (NestedUnbroken system) n ns h))

pub nested_completed_fits : (place : ℕ) (n m : PlainNestedNode) (s rest : Stream) → nested_completed_of place n s ≡ Ok (m, rest) → ((nat_eq (length n.levels) 0 && is_none n.helper) ≡ false) × (n ≡ m)
unfolding nested_completed_of
nested_completed_fits place n m s rest h = at_test (ends_item (ahead s)) h
  where
    at_test : (b : Bool) → cond b (unless (nat_eq (length n.levels) 0 && is_none n.helper) (broke rules.NoHelper place) n s) (Err (refusal s)) ≡ Ok (m, rest) → ((nat_eq (length n.levels) 0 && is_none n.helper) ≡ false) × (n ≡ m)
    at_test true h = allowed (nat_eq (length n.levels) 0 && is_none n.helper) (broke rules.NoHelper place) n m s rest h
    at_test false h = absurd cc

module _ (g : Setting) where
  level_fits : (l : PlainLevel) (s rest : Stream) → group_level_of g s ≡ Ok (l, rest) → is_uncompassionate g.system (Some l.group) ≡ false
  unfolding group_level_of
  level_fits l s rest e =
      let a = both (sum_of g s) _ (l, rest) e in
      let b = both (weight_of g marks.Top a.value.1) _ (l, rest) a.second in
      let c = both (behind_mark marks.Group (compassionate_of g) b.value.1) _ (l, rest) b.second in
      let d = behind_it marks.Group (compassionate_of g) c.value.0 b.value.1 c.value.1 c.first in
      let made : PlainLevel = record { base = a.value.0; top = b.value.0; group = c.value.0 } in
      subst (λ (k : PlainLevel). is_uncompassionate g.system (Some k.group) ≡ false) {x = made} (given made l c.value.1 rest c.second) (compassionate_fits g d.0 c.value.0 c.value.1 d.1)

  nested_node_fits : (before : ℕ) (n : PlainNestedNode) (s rest : Stream) → nested_node_of g before s ≡ Ok (n, rest) → (before < 64) × NestedUnbroken g.system n
  unfolding nested_node_of
  nested_node_fits before n s rest e =
      let a = both (listed_formula_of g before s) _ (n, rest) e in
      let b = both (group_levels_of g 4 [] a.value.1) _ (n, rest) a.second in
      let c = both (weight_of g marks.Delay b.value.1) _ (n, rest) b.second in
      let d = both (helper_of g c.value.1) _ (n, rest) c.second in
      let made : PlainNestedNode = record { form = a.value.0; levels = b.value.0; delay = c.value.0; helper = d.value.0 } in
      let k = nested_completed_fits (place_of s) made n d.value.1 rest d.second in
      let l = groups_keep g (Compassionate g.system) level_fits 4 [] b.value.0 a.value.1 b.value.1 b.first (All-nil (Compassionate g.system)) in
      (listed_few g before s a.value.0 a.value.1 a.first, subst (NestedUnbroken g.system) {x = made} k.1 (helper_fits g c.value.1 d.value.0 d.value.1 d.first, all_compassionate g.system b.value.0 l.0, k.0, l.1))

  -- what a nested net is made from
  pub nested_sound : (ns : List PlainNestedNode) (s rest : Stream) → bracketed (nested_node_of g) s ≡ Ok (ns, rest) → (length ns ≤ 64) × (first_fault g.system 0 ns ≡ None) × All (NestedUnbroken g.system) ns
  nested_sound ns s rest h = let f = bracketed_fits (nested_node_of g) (NestedUnbroken g.system) nested_node_fits ns s rest h in (f.0, no_nested_fault g.system 0 ns f.1, f.1)

-- making a nested net of nodes that break no rule doesn't fail
pub nested_never_fails : (system : System) (ns : List PlainNestedNode) → first_fault system 0 ns ≡ None → (r : Result NestedNet NestedFault) → MakesNested r system ns → ForErr r (λ fault. fault ≡ faults.Memory)
nested_never_fails system ns sound (Ok n) h e is = absurd cc
nested_never_fails system ns sound (Err f) h e is = absurd (none-some f (sym sound ∙ h))

-- the groups of nodes are few
pub few_groups : (system : System) (ns : List PlainNestedNode) → All (NestedUnbroken system) ns → All (λ n. length n.levels ≤ 4) ns
few_groups system ns h = All-weaker (NestedUnbroken system) (λ n. length n.levels ≤ 4) (λ n u. u.3) ns h
