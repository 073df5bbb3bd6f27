-- The nodes that a rule of response is read to break no rule of a net: helpers are just, groups are compassionate, and each
-- node has one of them.
use Rattle.std.proofs.Common.{◌≡◌, ℕ, ◌+◌, ◌-◌, ◌<◌, ◌≤◌, ◌^◌, Bool, true, false, cond, ◌&&◌, All, List, [], ◌∷◌, length, map, Option, Some, None, is_none, Result, Ok, Err, refl, sym, subst, ◌∙◌, arith}
use Rattle.std.specs.Result.{ForErr}
use Rattle.std.proofs.lemmas.Option.{none-some}
use Rattle.std.proofs.lemmas.List.{length-map}
use Rattle.std.proofs.lemmas.List.Elements.{All-nil, All-cons, All-head, All-tail}
use Rattle.st_tokens.specs.Stream.{Stream}
use Rattle.st_reading.proofs.Judged.{both, given, allowed}
use Rattle.st_reading.specs.declared.mark.Mark.TheVariants as marks
use Rattle.st_reading.specs.Reading.{ahead, place_of, refusal}
use Rattle.st_linear.specs.Linear.{Linear}
use Rattle.st_form.specs.Formula.{Formula}
use Rattle.transition_system.specs.Systems.{System}
use Rattle.temporal_goals.specs.Texts.{PlainNode}
use Rattle.temporal_goals.specs.declared.nets.Net.{Net}
use Rattle.ranked_net.specs.declared.faults.NetFault.{NetFault}
use Rattle.ranked_net.specs.declared.faults.NetFault.TheVariants as faults
use Rattle.ranked_net.specs.Making.{is_unfair, is_uncompassionate, node_fault, first_fault, MakesNet}
use Rattle.response_rules.specs.Forms.{chain_nodes, ranked_nodes, fair_nodes, fair_under, Refuses, GivesNet}
use Rattle.st_reading.specs.Rule as rules
use Rattle.st_reading.specs.Breaches.{broke, unless}
use Rattle.proof_script.specs.Listing.{Setting, bracketed, transition_of, just_of, compassionate_of, listed_formula_of}
use Rattle.proof_script.specs.Rules.{wanted_helper_of, helper_of, group_of, weight_of, helped_of, ranked_of, fair_of, ends_item, completed_of, node_of}
use Rattle.proof_script.proofs.Inverses.{behind_it, optionally, listed_few, bracketed_fits}

-- the node breaks no rule
abbrev pub Unbroken : System → PlainNode → Type 0
Unbroken system n = (is_unfair system n.helper ≡ false) × (is_uncompassionate system n.group ≡ false) × ((is_none n.group && is_none n.helper) ≡ false)

module _ (system : System) where
  no_node_fault : (i : ℕ) (helper group : Option ℕ) → is_unfair system helper ≡ false → is_uncompassionate system group ≡ false → (is_none group && is_none helper) ≡ false → node_fault system i helper group ≡ None
  no_node_fault i (Some h) group e f k = rw (e, f) refl
  no_node_fault i None (Some c) e f k = rw f refl
  no_node_fault i None None e f k = absurd cc

  pub no_fault : (i : ℕ) (ns : List PlainNode) → All (Unbroken system) ns → first_fault system i ns ≡ None
  no_fault i [] h = refl
  no_fault i (n ∷ ns) h =
      let u = All-head (Unbroken system) n ns h in
      rw (no_node_fault i n.helper n.group u.0 u.1 u.2) (no_fault (i + 1) ns (All-tail (Unbroken system) n ns h))

  -- a just helper, and a helper that is just where there is one
  abbrev pub Helps : Formula × ℕ → Type 0
  Helps x = is_unfair system (Some x.1) ≡ false

  abbrev pub HelpsRanked : Formula × Linear × ℕ → Type 0
  HelpsRanked x = is_unfair system (Some x.2) ≡ false

  abbrev pub MayHelp : Formula × Option ℕ → Type 0
  MayHelp x = is_unfair system x.1 ≡ false

  chain_unbroken : (items : List (Formula × ℕ)) → All Helps items → All (Unbroken system) (chain_nodes items)
  chain_unbroken [] h = All-nil (Unbroken system)
  chain_unbroken (x ∷ xs) h = All-cons (Unbroken system) _ (chain_nodes xs) (All-head Helps x xs h, refl, refl) (chain_unbroken xs (All-tail Helps x xs h))

  ranked_unbroken : (items : List (Formula × Linear × ℕ)) → All HelpsRanked items → All (Unbroken system) (ranked_nodes items)
  ranked_unbroken [] h = All-nil (Unbroken system)
  ranked_unbroken (x ∷ xs) h = All-cons (Unbroken system) _ (ranked_nodes xs) (All-head HelpsRanked x xs h, refl, refl) (ranked_unbroken xs (All-tail HelpsRanked x xs h))

  fair_unbroken : (top group : ℕ) (items : List (Formula × Option ℕ)) → is_uncompassionate system (Some group) ≡ false → All MayHelp items → All (Unbroken system) (fair_under top group items)
  fair_unbroken top group [] c h = All-nil (Unbroken system)
  fair_unbroken top group (x ∷ xs) c h = All-cons (Unbroken system) _ (fair_under top group xs) (All-head MayHelp x xs h, c, refl) (fair_unbroken top group xs c (All-tail MayHelp x xs h))

module _ (g : Setting) where
  just_fits : (s : Stream) (h : ℕ) (rest : Stream) → just_of g s ≡ Ok (h, rest) → is_unfair g.system (Some h) ≡ false
  unfolding just_of
  just_fits s h rest e =
      let a = both (transition_of g s) _ (h, rest) e in
      let b = allowed (is_unfair g.system (Some a.value.0.0)) (broke rules.UnfairHelper a.value.0.1) a.value.0.0 h a.value.1 rest a.second in
      subst (λ n. is_unfair g.system (Some n) ≡ false) b.1 b.0

  pub compassionate_fits : (s : Stream) (h : ℕ) (rest : Stream) → compassionate_of g s ≡ Ok (h, rest) → is_uncompassionate g.system (Some h) ≡ false
  unfolding compassionate_of
  compassionate_fits s h rest e =
      let a = both (transition_of g s) _ (h, rest) e in
      let b = allowed (is_uncompassionate g.system (Some a.value.0.0)) (broke rules.NotCompassionate a.value.0.1) a.value.0.0 h a.value.1 rest a.second in
      subst (λ n. is_uncompassionate g.system (Some n) ≡ false) b.1 b.0

  wanted_fits : (s : Stream) (h : ℕ) (rest : Stream) → wanted_helper_of g s ≡ Ok (h, rest) → is_unfair g.system (Some h) ≡ false
  unfolding wanted_helper_of
  wanted_fits s h rest e = let a = behind_it marks.Helper (just_of g) h s rest e in just_fits a.0 h rest a.1

  pub helper_fits : (s : Stream) (h : Option ℕ) (rest : Stream) → helper_of g s ≡ Ok (h, rest) → is_unfair g.system h ≡ false
  unfolding helper_of
  helper_fits s h rest e = optionally marks.Helper (just_of g) (λ o. is_unfair g.system o ≡ false) refl (λ x m r k. just_fits m x r k) h s rest e

  group_fits : (s : Stream) (h : Option ℕ) (rest : Stream) → group_of g s ≡ Ok (h, rest) → is_uncompassionate g.system h ≡ false
  unfolding group_of
  group_fits s h rest e = optionally marks.Group (compassionate_of g) (λ o. is_uncompassionate g.system o ≡ false) refl (λ x m r k. compassionate_fits m x r k) h s rest e

  pub helped_fits : (before : ℕ) (x : Formula × ℕ) (s rest : Stream) → helped_of g before s ≡ Ok (x, rest) → (before < 64) × Helps g.system x
  unfolding helped_of
  helped_fits before x s rest e =
      let a = both (listed_formula_of g before s) _ (x, rest) e in
      let b = both (wanted_helper_of g a.value.1) _ (x, rest) a.second in
      let made : Formula × ℕ = (a.value.0, b.value.0) in
      (listed_few g before s a.value.0 a.value.1 a.first, subst (Helps g.system) (given made x b.value.1 rest b.second) (wanted_fits a.value.1 b.value.0 b.value.1 b.first))

  ranked_fits : (before : ℕ) (x : Formula × Linear × ℕ) (s rest : Stream) → ranked_of g before s ≡ Ok (x, rest) → (before < 64) × HelpsRanked g.system x
  unfolding ranked_of
  ranked_fits before x s rest e =
      let a = both (listed_formula_of g before s) _ (x, rest) e in
      let b = both (weight_of g marks.Rank a.value.1) _ (x, rest) a.second in
      let c = both (wanted_helper_of g b.value.1) _ (x, rest) b.second in
      let made : Formula × Linear × ℕ = (a.value.0, b.value.0, c.value.0) in
      (listed_few g before s a.value.0 a.value.1 a.first, subst (HelpsRanked g.system) (given made x c.value.1 rest c.second) (wanted_fits b.value.1 c.value.0 c.value.1 c.first))

  fair_fits : (before : ℕ) (x : Formula × Option ℕ) (s rest : Stream) → fair_of g before s ≡ Ok (x, rest) → (before < 64) × MayHelp g.system x
  unfolding fair_of
  fair_fits before x s rest e =
      let a = both (listed_formula_of g before s) _ (x, rest) e in
      let b = both (helper_of g a.value.1) _ (x, rest) a.second in
      let made : Formula × Option ℕ = (a.value.0, b.value.0) in
      (listed_few g before s a.value.0 a.value.1 a.first, subst (MayHelp g.system) (given made x b.value.1 rest b.second) (helper_fits a.value.1 b.value.0 b.value.1 b.first))

  pub completed_fits : (place : ℕ) (n m : PlainNode) (s rest : Stream) → completed_of place n s ≡ Ok (m, rest) → ((is_none n.group && is_none n.helper) ≡ false) × (n ≡ m)
  unfolding completed_of
  completed_fits place n m s rest h = at_test (ends_item (ahead s)) h
    where
      at_test : (b : Bool) → cond b (unless (is_none n.group && is_none n.helper) (broke rules.NoHelper place) n s) (Err (refusal s)) ≡ Ok (m, rest) → ((is_none n.group && is_none n.helper) ≡ false) × (n ≡ m)
      at_test true h = allowed (is_none n.group && is_none n.helper) (broke rules.NoHelper place) n m s rest h
      at_test false h = absurd cc

  node_fits : (before : ℕ) (n : PlainNode) (s rest : Stream) → node_of g before s ≡ Ok (n, rest) → (before < 64) × Unbroken g.system n
  unfolding node_of
  node_fits before n s rest e =
      let a = both (listed_formula_of g before s) _ (n, rest) e in
      let b = both (weight_of g marks.Base a.value.1) _ (n, rest) a.second in
      let c = both (weight_of g marks.Delay b.value.1) _ (n, rest) b.second in
      let d = both (weight_of g marks.Top c.value.1) _ (n, rest) c.second in
      let i = both (group_of g d.value.1) _ (n, rest) d.second in
      let j = both (helper_of g i.value.1) _ (n, rest) i.second in
      let made : PlainNode = record { form = a.value.0; base = b.value.0; delay = c.value.0; top = d.value.0; group = i.value.0; helper = j.value.0 } in
      let k = completed_fits (place_of s) made n j.value.1 rest j.second in
      (listed_few g before s a.value.0 a.value.1 a.first, subst (Unbroken g.system) {x = made} k.1 (helper_fits i.value.1 j.value.0 j.value.1 j.first, group_fits d.value.1 i.value.0 i.value.1 i.first, k.0))

  -- what the nets of the rules are made from
  pub helped_sound : (before : ℕ) (x : Formula × ℕ) (s rest : Stream) → helped_of g before s ≡ Ok (x, rest) → first_fault g.system 0 (chain_nodes (x ∷ [])) ≡ None
  helped_sound before x s rest h = no_fault g.system 0 (chain_nodes (x ∷ [])) (chain_unbroken g.system (x ∷ []) (All-cons (Helps g.system) x [] (helped_fits before x s rest h).1 (All-nil (Helps g.system))))

  pub chain_sound : (items : List (Formula × ℕ)) (s rest : Stream) → bracketed (helped_of g) s ≡ Ok (items, rest) → (length items ≤ 64) × (first_fault g.system 0 (chain_nodes items) ≡ None)
  chain_sound items s rest h = let f = bracketed_fits (helped_of g) (Helps g.system) helped_fits items s rest h in (f.0, no_fault g.system 0 (chain_nodes items) (chain_unbroken g.system items f.1))

  pub ranked_sound : (items : List (Formula × Linear × ℕ)) (s rest : Stream) → bracketed (ranked_of g) s ≡ Ok (items, rest) → (length items ≤ 64) × (first_fault g.system 0 (ranked_nodes items) ≡ None)
  ranked_sound items s rest h = let f = bracketed_fits (ranked_of g) (HelpsRanked g.system) ranked_fits items s rest h in (f.0, no_fault g.system 0 (ranked_nodes items) (ranked_unbroken g.system items f.1))

  pub fair_sound : (group : ℕ) (items : List (Formula × Option ℕ)) (s0 s1 s rest : Stream) → compassionate_of g s0 ≡ Ok (group, s1) → bracketed (fair_of g) s ≡ Ok (items, rest)
      → (length items ≤ 64) × (first_fault g.system 0 (fair_nodes group items) ≡ None)
  fair_sound group items s0 s1 s rest c h =
      let f = bracketed_fits (fair_of g) (MayHelp g.system) fair_fits items s rest h in
      (f.0, no_fault g.system 0 (fair_nodes group items) (fair_unbroken g.system (length items - 1) group items (compassionate_fits s0 group s1 c) f.1))

  pub written_sound : (ns : List PlainNode) (s rest : Stream) → bracketed (node_of g) s ≡ Ok (ns, rest) → (length ns ≤ 64) × (first_fault g.system 0 ns ≡ None)
  written_sound ns s rest h = let f = bracketed_fits (node_of g) (Unbroken g.system) node_fits ns s rest h in (f.0, no_fault g.system 0 ns f.1)

-- making a net of nodes that break no rule fails for want of memory alone
module _ (system : System) (ns : List PlainNode) where
  refused_never : first_fault system 0 ns ≡ None → (fault : NetFault) → Refuses fault (first_fault system 0 ns) → fault ≡ faults.Memory
  refused_never sound faults.Memory h = refl
  refused_never sound (faults.UnfairHelper i) h = absurd (none-some (faults.UnfairHelper i) (sym sound ∙ h))
  refused_never sound (faults.NotCompassionate i) h = absurd (none-some (faults.NotCompassionate i) (sym sound ∙ h))
  refused_never sound (faults.NoHelper i) h = absurd (none-some (faults.NoHelper i) (sym sound ∙ h))

  pub only_memory : first_fault system 0 ns ≡ None → (r : Result Net NetFault) → GivesNet r system ns → ForErr r (λ fault. fault ≡ faults.Memory)
  only_memory sound (Ok n) h e is = absurd cc
  only_memory sound (Err f) h e is = let same : f ≡ e = cc in sym same ∙ refused_never sound f h

  pub never_fails : first_fault system 0 ns ≡ None → (r : Result Net NetFault) → MakesNet r system ns → ForErr r (λ fault. fault ≡ faults.Memory)
  never_fails sound (Ok n) h e is = absurd cc
  never_fails sound (Err f) h e is = absurd (none-some f (sym sound ∙ h))

-- few items are read
pub few_items : {A B : Type 0} (f : A → B) (xs : List A) → length (map f xs) ≤ 64 → length xs < 2 ^ 32
few_items f xs few = let same = length-map xs f in omega (arith, few, same)
