-- The conditions of a ranked net.
use Rattle.std.proofs.Common.{◌≡◌, refl, sym, subst, ◌∙◌, ℕ, Bool, true, false, cond, not, ◌&&◌, nat_eq, if◌then◌else◌, List, [], ◌∷◌, ◌++◌, map, filter, Option, Some, None, is_some}
use Rattle.std.specs.Option.{option_eq}
use Rattle.std.specs.List.{enumerate_from}
use Rattle.st_linear.specs.Linear.{Linear}
use Rattle.st_linear.specs.Simple.{lowered}
use Rattle.st_form.specs.Formula.{Formula, truth_value, some, formulas}
use Rattle.st_form.specs.declared.conditions.Premise.TheVariants.{Cover, Rank, Help}
use Rattle.transition_system.specs.Systems.{System}
use Rattle.temporal_goals.specs.Texts.{PlainNode}
use Rattle.vc_generator.specs.Atoms.{PlainCase}
use Rattle.vc_generator.specs.Building.{entails_of}
use Rattle.vc_generator.specs.Walks.{plainly}
use Rattle.rule_laws.specs.Names.{is_name}
use Rattle.rule_laws.specs.RankedNet.{starts_on, ranked_form, case_drop, case_free, case_inner, case_stay, grouped, cases_if, net_cases, rank_of, help_of, move_of, ranked_list}
use Rattle.generated_conditions.specs.Cases.{Case, onto, enabled}
use Rattle.generated_conditions.specs.Nets.{kept, ranked_node}
use Rattle.generated_conditions.specs.Scripts.{responds}
use Rattle.generated_conditions.proofs.Lists.{unnumbered, numbered}
use Rattle.generated_conditions.proofs.Agreeing.{Agree, plain_case, nothing-agree, both-agree, onto-agrees, onto-all-agree, given-all-agree}
use Rattle.generated_conditions.proofs.Asked.{entailed, moved}
use Rattle.generated_conditions.proofs.Responds.{answered, same_names, same_groups, same_enabled, enabled-written}

same_peers : (g : Option ℕ) (js : List PlainNode) → filter (λ j. option_eq nat_eq g j.group) js ≡ grouped g js
same_peers g [] = refl
same_peers g (j ∷ js) = λ i. cond (sym (same_groups g j.group) i) (j ∷ same_peers g js i) (same_peers g js i)

-- the tests of the group and of the helper, said once or at each place
module _ (xs bs cs : List Case) (ds es fs : List PlainCase) (a : Agree xs ds) (b : Agree bs es) (c : Agree cs fs) where
  guarded : (s g h : Bool) → Agree (if g then [] else ((if s then xs else []) ++ (bs ++ (if h then [] else cs))))
      (cases_if (s && not g) ds ++ (cases_if (not g) es ++ cases_if (not g && not h) fs))
  guarded true true h = nothing-agree
  guarded false true h = nothing-agree
  guarded true false true = both-agree xs (bs ++ []) ds (es ++ []) a (both-agree bs [] es [] b nothing-agree)
  guarded true false false = both-agree xs (bs ++ cs) ds (es ++ fs) a (both-agree bs cs es fs b c)
  guarded false false true = both-agree bs [] es [] b nothing-agree
  guarded false false false = both-agree bs cs es fs b c

module _ (system : System) (nodes : List PlainNode) (q : Formula) (e : Linear) (i : ℕ) (n : PlainNode) (number : ℕ) where
  free : Agree (map (λ j. onto j.form (enabled system n.group ∷ []) (kept n j)) (filter (λ j. option_eq nat_eq n.group j.group) nodes)) (map (case_free system n) (grouped n.group nodes))
  free =
      let peers : List PlainNode = filter (λ j. option_eq nat_eq n.group j.group) nodes in
      let cs : List Case = map (λ j. onto j.form (enabled system n.group ∷ []) (kept n j)) peers in
      subst (λ (x : Formula × List PlainNode). Agree cs (map (λ j. plain_case x.0 j.form (kept n j)) x.1)) (λ k. (same_enabled system n.group k, same_peers n.group nodes k))
      (given-all-agree (enabled system n.group) (enabled-written system n.group) (λ (j : PlainNode). j.form) (λ j. kept n j) peers)

  inner : Agree (map (λ j. onto j.form [] ((j.delay, lowered n.delay) ∷ kept n j)) (filter (λ j. option_eq nat_eq n.group j.group) nodes))
      (map (case_inner n) (grouped n.group nodes))
  inner =
      let peers : List PlainNode = filter (λ j. option_eq nat_eq n.group j.group) nodes in
      let cs : List Case = map (λ j. onto j.form [] ((j.delay, lowered n.delay) ∷ kept n j)) peers in
      subst (λ (js : List PlainNode). Agree cs (map (λ j. plain_case (truth_value true) j.form ((j.delay, lowered n.delay) ∷ kept n j)) js)) (same_peers n.group nodes)
      (onto-all-agree (λ (j : PlainNode). j.form) (λ j. (j.delay, lowered n.delay) ∷ kept n j) peers)

  ranked-agree : Agree ((ranked_node system q e nodes i n).cases number) (net_cases system nodes q n number)
  ranked-agree =
      let peers : List PlainNode = filter (λ j. option_eq nat_eq n.group j.group) nodes in
      let drops : List Case = map (λ j. onto j.form [] ((j.top, lowered n.base) ∷ [])) nodes in
      let frees : List Case = map (λ j. onto j.form (enabled system n.group ∷ []) (kept n j)) peers in
      let inners : List Case = map (λ j. onto j.form [] ((j.delay, lowered n.delay) ∷ kept n j)) peers in
      let stays : List Case = onto n.form [] ((n.delay, n.delay) ∷ kept n n) ∷ [] in
      let old_drops : List PlainCase = map (case_drop n) nodes in
      let old_frees : List PlainCase = map (case_free system n) (grouped n.group nodes) in
      let old_inners : List PlainCase = map (case_inner n) (grouped n.group nodes) in
      let old_stays : List PlainCase = case_stay n ∷ [] in
      let is_group : Bool = option_eq nat_eq n.group (Some number) in
      let is_helper : Bool = option_eq nat_eq n.helper (Some number) in
      let rest : List Case = if is_group then [] else ((if is_some n.group then frees else []) ++ (inners ++ (if is_helper then [] else stays))) in
      let old : Bool × Bool → List PlainCase = λ x. cases_if (is_some n.group && not x.0) old_frees ++ (cases_if (not x.0) old_inners ++ cases_if (not x.0 && not x.1) old_stays) in
      let held : Agree rest (old (is_group, is_helper)) =
      guarded frees inners stays old_frees old_inners old_stays free inner (onto-agrees n.form ((n.delay, n.delay) ∷ kept n n) [] [] nothing-agree) (is_some n.group) is_group is_helper in
      onto-agrees q [] (drops ++ rest) (old_drops ++ old (is_name n.group number, is_name n.helper number))
      (both-agree drops rest old_drops (old (is_name n.group number, is_name n.helper number))
      (onto-all-agree (λ (j : PlainNode). j.form) (λ j. (j.top, lowered n.base) ∷ []) nodes)
      (subst (λ x. Agree rest (old x)) (λ k. (same_names n.group number k, same_names n.helper number k)) held))

pub ranked_net : (step : ℕ) (system : System) (lemmas : List Formula) (p q : Formula) (e : Linear) (ns : List PlainNode)
    → responds step system lemmas p q (map (λ (x : ℕ × PlainNode). ranked_node system q e ns x.0 x.1) (enumerate_from 0 ns)) ≡ ranked_list step system lemmas p q e ns
ranked_net step system lemmas p q e ns =
    answered step system lemmas (λ (x : ℕ × PlainNode). ranked_node system q e ns x.0 x.1) p q (λ x. starts_on e x.1)
    (λ x. rank_of step lemmas x.0 x.1) (λ x. help_of step system lemmas x.0 x.1) (λ x. move_of step system lemmas ns q x.0 x.1) (enumerate_from 0 ns)
    (λ x. refl)
    (λ x k. entailed step system lemmas Rank (Some x.0) x.1.form (ranked_form x.1) k ∷ [])
    (λ x. (λ k. entailed step system lemmas Help (Some x.0) x.1.form (some (formulas (same_enabled system x.1.helper k ∷ same_enabled system x.1.group k ∷ []))) k ∷ []))
    (λ x. moved step system lemmas (Some x.0) x.1.form (λ t. (ranked_node system q e ns x.0 x.1).cases t) (net_cases system ns q x.1) (λ t. ranked-agree system ns q e x.0 x.1 t))
    ∙ (λ k. entails_of lemmas p (some (formulas (q ∷ unnumbered (starts_on e) 0 ns k))) (plainly step Cover None)
    ∷ (numbered (rank_of step lemmas) 0 ns k ++ (numbered (help_of step system lemmas) 0 ns k ++ numbered (move_of step system lemmas ns q) 0 ns k)))
