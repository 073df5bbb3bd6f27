-- The conditions of a nested net.
use Rattle.std.proofs.Common.{◌≡◌, refl, sym, ap, subst, ◌∙◌, ℕ, zero, suc, ◌+◌, ◌≤◌, Bool, true, false, cond, not, ◌&&◌, ◌||◌, ◌==◌, if◌then◌else◌, List, [], ◌∷◌, ◌++◌, length, map, filter, flat_map, zip, take, Some, None, slice_get, add-zero, zero-add, not-suc-le-zero, le_of_suc-le-suc, eq-eqb, nat_eq, le_refl, take_all, zero-le, suc-le-suc, arith}
use Rattle.std.proofs.lemmas.Option.{none-some, same_Some}
use Rattle.std.specs.Option.{option_eq}
use Rattle.std.specs.List.{list_any, starts_with, enumerate_from}
use Rattle.st_linear.specs.Linear.{Linear}
use Rattle.st_linear.specs.Simple.{lowered}
use Rattle.st_form.specs.Formula.{Formula, truth_value, every, some, formulas, row}
use Rattle.st_form.specs.declared.conditions.Premise.TheVariants.{Cover, Rank, Help}
use Rattle.transition_system.specs.Systems.{System}
use Rattle.temporal_goals.specs.Texts.{PlainLevel, PlainNestedNode}
use Rattle.vc_generator.specs.Atoms.{PlainCase}
use Rattle.vc_generator.specs.Building.{entails_of, at_least, at_least_both}
use Rattle.vc_generator.specs.Walks.{plainly}
use Rattle.rule_laws.specs.Names.{is_name, enabled_of}
use Rattle.rule_laws.specs.RankedNet.{cases_if}
use Rattle.rule_laws.specs.NestedNet as before
use Rattle.generated_conditions.specs.Cases.{Case, onto, enabled, unless}
use Rattle.generated_conditions.specs.Nets.{top_at, fits, within, nested_node}
use Rattle.generated_conditions.specs.Scripts.{responds}
use Rattle.generated_conditions.proofs.Lists.{unnumbered, numbered}
use Rattle.generated_conditions.proofs.Agreeing.{Agree, IsWritten, plain_case, nothing-agree, both-agree, onto-agrees, onto-all-agree, given-all-agree}
use Rattle.generated_conditions.proofs.Asked.{entailed, moved}
use Rattle.generated_conditions.proofs.Responds.{answered, same_names, same_enabled, enabled-written}

-- levels
same_top : (k : ℕ) (ls : List PlainLevel) (delay : Linear) → top_at k ls delay ≡ before.top_at k ls delay
same_top zero [] delay = refl
same_top (suc k) [] delay = refl
same_top zero (l ∷ ls) delay = refl
same_top (suc k) (l ∷ ls) delay = same_top k ls delay

same_fits : (ls : List PlainLevel) (delay : Linear) → fits ls delay ≡ before.ranked_forms ls delay
same_fits [] delay = refl
same_fits (l ∷ ls) delay = λ i. row l.base ∷ at_least_both l.top l.base (same_top 0 ls delay i) ∷ same_fits ls delay i

abbrev same_group : PlainLevel → PlainLevel → Bool
same_group l m = m.group == l.group

same_agree : (k : ℕ) (ls ms : List PlainLevel) → k ≤ length ls → starts_with same_group ms (take k ls) ≡ before.agree k ls ms
same_agree zero ls ms le = refl
same_agree (suc k) [] ms le = absurd (not-suc-le-zero le)
same_agree (suc k) (l ∷ ls) [] le = refl
same_agree (suc k) (l ∷ ls) (m ∷ ms) le = ap (λ b. (m.group == l.group) && b) (same_agree k ls ms (le_of_suc-le-suc le))

same_agreeing : (k : ℕ) (ls : List PlainLevel) (js : List PlainNestedNode) → k ≤ length ls → filter (λ j. starts_with same_group j.levels (take k ls)) js ≡ before.agreeing k ls js
same_agreeing k ls [] le = refl
same_agreeing k ls (j ∷ js) le = λ i. cond (same_agree k ls j.levels le i) (j ∷ same_agreeing k ls js le i) (same_agreeing k ls js le i)

neither : (a b : Bool) → not (a || b) ≡ (not a && not b)
neither true b = refl
neither false b = refl

same_none : (number k : ℕ) (ls : List PlainLevel) → not (list_any (λ l. l.group == number) (take k ls)) ≡ before.none_of number k ls
same_none number zero ls = refl
same_none number (suc k) [] = refl
same_none number (suc k) (l ∷ ls) =
    neither (l.group == number) (list_any (λ m. m.group == number) (take k ls)) ∙ ap (λ b. not (l.group == number) && b) (same_none number k ls)

abbrev raised : List PlainLevel → List PlainLevel → List (Linear × Linear)
raised ls ms = flat_map (λ (p : PlainLevel × PlainLevel). (p.1.base, p.0.base) ∷ (p.1.top, p.0.top) ∷ []) (zip ls ms)

same_pairs : (k : ℕ) (ls ms : List PlainLevel) → raised (take k ls) ms ≡ before.pairs_below k ls ms
same_pairs zero ls ms = refl
same_pairs (suc k) [] ms = refl
same_pairs (suc k) (l ∷ ls) [] = refl
same_pairs (suc k) (l ∷ ls) (m ∷ ms) = λ i. (m.base, l.base) ∷ (m.top, l.top) ∷ same_pairs k ls ms i

-- cases at a depth
unless-if : (b : Bool) (cs : List Case) (ds : List PlainCase) → Agree cs ds → Agree (if b then [] else cs) (cases_if (not b) ds)
unless-if true cs ds h = nothing-agree
unless-if false cs ds h = h

abbrev outside : ℕ → List PlainNestedNode → ℕ → List PlainLevel → Formula → (PlainNestedNode → List (Linear × Linear)) → List PlainCase
outside number nodes k ls g falls = cases_if (before.none_of number k ls) (map (λ j. plain_case g j.form (falls j ++ before.pairs_below k ls j.levels)) (before.agreeing k ls nodes))

module _ (nodes : List PlainNestedNode) (number k : ℕ) (ls : List PlainLevel) (falls : PlainNestedNode → List (Linear × Linear)) (le : k ≤ length ls) where
  abbrev chosen : List PlainNestedNode
  chosen = filter (λ j. starts_with same_group j.levels (take k ls)) nodes

  abbrev is_own : Bool
  is_own = list_any (λ l. l.group == number) (take k ls)

  same_outside : (g : Formula) → cases_if (not is_own) (map (λ j. plain_case g j.form (falls j ++ raised (take k ls) j.levels)) chosen) ≡ outside number nodes k ls g falls
  same_outside g = λ i. cases_if (same_none number k ls i) (map (λ j. plain_case g j.form (falls j ++ same_pairs k ls j.levels i)) (same_agreeing k ls nodes le i))

  within-agree : Agree (within (take k ls) nodes number [] falls) (outside number nodes k ls (truth_value true) falls)
  within-agree = subst (λ ds. Agree (within (take k ls) nodes number [] falls) ds) (same_outside (truth_value true))
      (unless-if is_own (map (λ j. onto j.form [] (falls j ++ raised (take k ls) j.levels)) chosen) (map (λ j. plain_case (truth_value true) j.form (falls j ++ raised (take k ls) j.levels)) chosen)
      (onto-all-agree (λ (j : PlainNestedNode). j.form) (λ j. falls j ++ raised (take k ls) j.levels) chosen))

  given-within-agree : (g : Formula) → IsWritten g → Agree (within (take k ls) nodes number (g ∷ []) falls) (outside number nodes k ls g falls)
  given-within-agree g w = subst (λ ds. Agree (within (take k ls) nodes number (g ∷ []) falls) ds) (same_outside g)
      (unless-if is_own (map (λ j. onto j.form (g ∷ []) (falls j ++ raised (take k ls) j.levels)) chosen) (map (λ j. plain_case g j.form (falls j ++ raised (take k ls) j.levels)) chosen)
      (given-all-agree g w (λ (j : PlainNestedNode). j.form) (λ j. falls j ++ raised (take k ls) j.levels) chosen))

-- each depth
depths : {A : Type 0} (f : ℕ → A → List Case) (g : ℕ → List PlainCase) (i : ℕ) (xs : List A)
    → ((k : ℕ) (x : A) → slice_get xs k ≡ Some x → Agree (f (i + k) x) (g (i + k))) → Agree (flat_map (λ (x : ℕ × A). f x.0 x.1) (enumerate_from i xs)) (before.each_depth g i (length xs))
depths f g i [] h = nothing-agree
depths {A} f g i (x ∷ xs) h =
    both-agree (f i x) (flat_map (λ (y : ℕ × A). f y.0 y.1) (enumerate_from (i + 1) xs)) (g i) (before.each_depth g (i + 1) (length xs))
    (subst (λ k. Agree (f k x) (g k)) (add-zero i) (h 0 x refl))
    (depths f g (i + 1) xs (λ k y e. let on : i + suc k ≡ i + 1 + k = omega arith in subst (λ j. Agree (f j y) (g j)) on (h (suc k) y e)))

all_depths : {A : Type 0} (f : ℕ → A → List Case) (g : ℕ → List PlainCase) (xs : List A)
    → ((k : ℕ) (x : A) → slice_get xs k ≡ Some x → Agree (f k x) (g k)) → Agree (flat_map (λ (x : ℕ × A). f x.0 x.1) (enumerate_from 0 xs)) (before.each_depth g 0 (length xs))
all_depths f g xs h = depths f g 0 xs (λ k x e. subst (λ j. Agree (f j x) (g j)) (sym (zero-add k)) (h k x e))

abbrev bases : List PlainLevel → Linear → List Linear
bases ls delay = map (λ l. l.base) ls ++ delay ∷ []

length-bases : (ls : List PlainLevel) (delay : Linear) → length (bases ls delay) ≡ suc (length ls)
length-bases [] delay = refl
length-bases (l ∷ ls) delay = ap suc (length-bases ls delay)

base-at : (k : ℕ) (ls : List PlainLevel) (delay b : Linear) → slice_get (bases ls delay) k ≡ Some b → (k ≤ length ls) × (b ≡ before.base_at k ls delay)
base-at zero [] delay b e = (zero-le, sym (same_Some delay b e))
base-at (suc k) [] delay b e = absurd (none-some b e)
base-at zero (l ∷ ls) delay b e = (zero-le, sym (same_Some l.base b e))
base-at (suc k) (l ∷ ls) delay b e = let rest = base-at k ls delay b e in (suc-le-suc rest.0, rest.1)

group-at : (k : ℕ) (ls : List PlainLevel) (l : PlainLevel) → slice_get ls k ≡ Some l → (suc k ≤ length ls) × (Some l.group ≡ before.group_at k ls)
group-at k [] l e = absurd (none-some l e)
group-at zero (m ∷ ls) l e = (suc-le-suc zero-le, ap (λ (x : PlainLevel). Some x.group) (sym (same_Some m l e)))
group-at (suc k) (m ∷ ls) l e = let rest = group-at k ls l e in (suc-le-suc rest.0, rest.1)

own-levels : (ls : List PlainLevel) → starts_with same_group ls ls ≡ true
own-levels [] = refl
own-levels (l ∷ ls) = ap (λ b. b && starts_with same_group ls ls) (eq-eqb l.group l.group refl) ∙ own-levels ls

stays-by : (b h : Bool) (cs : List Case) (ds : List PlainCase) → Agree cs ds → Agree (if h then [] else (if b then [] else cs)) (cases_if (not b && not h) ds)
stays-by true true cs ds a = nothing-agree
stays-by false true cs ds a = nothing-agree
stays-by true false cs ds a = nothing-agree
stays-by false false cs ds a = a

module _ (system : System) (nodes : List PlainNestedNode) (q : Formula) (e : Linear) (i : ℕ) (n : PlainNestedNode) (number : ℕ) where
  fall : (k : ℕ) (b : Linear) → (k ≤ length n.levels) × (b ≡ before.base_at k n.levels n.delay)
      → Agree (within (take k n.levels) nodes number [] (λ j. (top_at k j.levels j.delay, lowered b) ∷ [])) (before.falls_at nodes n number k)
  fall k b h =
      subst (λ ds. Agree (within (take k n.levels) nodes number [] (λ j. (top_at k j.levels j.delay, lowered b) ∷ [])) ds)
      (λ i. outside number nodes k n.levels (truth_value true) (λ j. (same_top k j.levels j.delay i, lowered (h.1 i)) ∷ []))
      (within-agree nodes number k n.levels (λ j. (top_at k j.levels j.delay, lowered b) ∷ []) h.0)

  free : (k : ℕ) (l : PlainLevel) → (suc k ≤ length n.levels) × (Some l.group ≡ before.group_at k n.levels)
      → Agree (within (take (suc k) n.levels) nodes number (enabled system (Some l.group) ∷ []) (λ j. [])) (before.frees_at system nodes n number k)
  free k l h =
      subst (λ ds. Agree (within (take (suc k) n.levels) nodes number (enabled system (Some l.group) ∷ []) (λ j. [])) ds)
      (λ i. outside number nodes (suc k) n.levels ((same_enabled system (Some l.group) ∙ ap (λ o. enabled_of system o) h.1) i) (λ j. []))
      (given-within-agree nodes number (suc k) n.levels (λ j. []) h.0 (enabled system (Some l.group)) (enabled-written system (Some l.group)))

  abbrev held_falls : List (Linear × Linear)
  held_falls = (n.delay, n.delay) ∷ raised n.levels n.levels

  abbrev is_own_level : Bool
  is_own_level = list_any (λ l. l.group == number) n.levels

  whole : take (length n.levels) n.levels ≡ n.levels
  whole = take_all (length n.levels) n.levels (le_refl (length n.levels))

  not-own : not is_own_level ≡ before.none_of number (length n.levels) n.levels
  not-own = ap (λ ls. not (list_any (λ (l : PlainLevel). l.group == number) ls)) (sym whole) ∙ same_none number (length n.levels) n.levels

  own-pairs : raised n.levels n.levels ≡ before.pairs_below (length n.levels) n.levels n.levels
  own-pairs = ap (λ ls. raised ls n.levels) (sym whole) ∙ same_pairs (length n.levels) n.levels n.levels

  stay : Agree (unless n.helper number (within n.levels (n ∷ []) number [] (λ j. (n.delay, n.delay) ∷ [])))
      (cases_if (before.none_of number (length n.levels) n.levels && not (is_name n.helper number)) (before.nested_stay n ∷ []))
  stay =
      let is_helper : Bool = option_eq nat_eq n.helper (Some number) in
      let first : Agree (if is_helper then [] else (if is_own_level then [] else onto n.form [] held_falls ∷ [])) (cases_if (not is_own_level && not is_helper) (plain_case (truth_value true) n.form held_falls ∷ [])) =
      stays-by is_own_level is_helper (onto n.form [] held_falls ∷ []) (plain_case (truth_value true) n.form held_falls ∷ []) (onto-agrees n.form held_falls [] [] nothing-agree) in
      let second : Agree (if is_helper then [] else (if is_own_level then [] else onto n.form [] held_falls ∷ [])) (cases_if (before.none_of number (length n.levels) n.levels && not (is_name n.helper number)) (before.nested_stay n ∷ [])) =
      subst (λ ds. Agree (if is_helper then [] else (if is_own_level then [] else onto n.form [] held_falls ∷ [])) ds)
      (λ i. cases_if (not-own i && not (same_names n.helper number i)) (plain_case (truth_value true) n.form ((n.delay, n.delay) ∷ own-pairs i) ∷ [])) first in
      subst (λ b. Agree (if is_helper then [] else (if is_own_level then [] else map (λ j. onto j.form [] ((n.delay, n.delay) ∷ raised n.levels j.levels)) (cond b (n ∷ []) [])))
      (cases_if (before.none_of number (length n.levels) n.levels && not (is_name n.helper number)) (before.nested_stay n ∷ [])))
      (sym (own-levels n.levels)) second

  nested-agree : Agree ((nested_node system q e nodes i n).cases number) (before.nested_cases system nodes q n number)
  nested-agree =
      let falls : List Case = flat_map (λ (x : ℕ × Linear). within (take x.0 n.levels) nodes number [] (λ j. (top_at x.0 j.levels j.delay, lowered x.1) ∷ [])) (enumerate_from 0 (bases n.levels n.delay)) in
      let frees : List Case = flat_map (λ (x : ℕ × PlainLevel). within (take (suc x.0) n.levels) nodes number (enabled system (Some x.1.group) ∷ []) (λ j. [])) (enumerate_from 0 n.levels) in
      let stays : List Case = unless n.helper number (within n.levels (n ∷ []) number [] (λ j. (n.delay, n.delay) ∷ [])) in
      let old_falls : List PlainCase = before.each_depth (before.falls_at nodes n number) 0 (suc (length n.levels)) in
      let old_frees : List PlainCase = before.each_depth (before.frees_at system nodes n number) 0 (length n.levels) in
      let old_stays : List PlainCase = cases_if (before.none_of number (length n.levels) n.levels && not (is_name n.helper number)) (before.nested_stay n ∷ []) in
      onto-agrees q [] (falls ++ (frees ++ stays)) (old_falls ++ (old_frees ++ old_stays))
      (both-agree falls (frees ++ stays) old_falls (old_frees ++ old_stays)
      (subst (λ k. Agree falls (before.each_depth (before.falls_at nodes n number) 0 k)) (length-bases n.levels n.delay)
      (all_depths (λ k b. within (take k n.levels) nodes number [] (λ j. (top_at k j.levels j.delay, lowered b) ∷ [])) (before.falls_at nodes n number) (bases n.levels n.delay)
      (λ k b h. fall k b (base-at k n.levels n.delay b h))))
      (both-agree frees stays old_frees old_stays
      (all_depths (λ k l. within (take (suc k) n.levels) nodes number (enabled system (Some l.group) ∷ []) (λ j. [])) (before.frees_at system nodes n number) n.levels
      (λ k l h. free k l (group-at k n.levels l h)))
      stay))

pub nested_net : (step : ℕ) (system : System) (lemmas : List Formula) (p q : Formula) (e : Linear) (ns : List PlainNestedNode)
    → responds step system lemmas p q (map (λ (x : ℕ × PlainNestedNode). nested_node system q e ns x.0 x.1) (enumerate_from 0 ns)) ≡ before.nested_list step system lemmas p q e ns
nested_net step system lemmas p q e ns =
    answered step system lemmas (λ (x : ℕ × PlainNestedNode). nested_node system q e ns x.0 x.1) p q (λ x. before.nested_starts e x.1)
    (λ x. before.nested_rank step lemmas x.0 x.1) (λ x. before.nested_help step system lemmas x.0 x.1) (λ x. before.nested_move step system lemmas ns q x.0 x.1) (enumerate_from 0 ns)
    (λ x k. every (formulas (x.1.form ∷ at_least (lowered e) (same_top 0 x.1.levels x.1.delay k) ∷ [])))
    (λ x k. entailed step system lemmas Rank (Some x.0) x.1.form (every (formulas (same_fits x.1.levels x.1.delay k))) k ∷ [])
    (λ x k. entailed step system lemmas Help (Some x.0) x.1.form (some (formulas (same_enabled system x.1.helper k ∷ map (λ l. same_enabled system (Some l.group) k) x.1.levels))) k ∷ [])
    (λ x. moved step system lemmas (Some x.0) x.1.form (λ t. (nested_node system q e ns x.0 x.1).cases t) (before.nested_cases system ns q x.1) (λ t. nested-agree system ns q e x.0 x.1 t))
    ∙ (λ k. entails_of lemmas p (some (formulas (q ∷ unnumbered (before.nested_starts e) 0 ns k))) (plainly step Cover None)
    ∷ (numbered (before.nested_rank step lemmas) 0 ns k ++ (numbered (before.nested_help step system lemmas) 0 ns k ++ numbered (before.nested_move step system lemmas ns q) 0 ns k)))
