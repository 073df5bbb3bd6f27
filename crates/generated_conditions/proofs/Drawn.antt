-- The conditions of diagrams.
use Rattle.std.proofs.Common.{◌≡◌, refl, sym, ap, subst, ◌∙◌, ℕ, Bool, true, false, cond, ◌==◌, nat_lt, if◌then◌else◌, List, [], ◌∷◌, ◌++◌, map, filter, flat_map, find, option_to_list, Option, Some, None}
use Rattle.std.proofs.Common.{true-eqb}
use Rattle.st_linear.specs.Linear.{Linear}
use Rattle.st_linear.specs.Simple.{lowered}
use Rattle.st_form.specs.Formula.{Formula, row, some, formulas}
use Rattle.st_form.specs.declared.conditions.Premise.TheVariants.{Cover, Target, Rank, Help}
use Rattle.transition_system.specs.Systems.{System}
use Rattle.temporal_goals.specs.Texts.{response, PlainDrawnNode, PlainEdge, PlainDiagram}
use Rattle.temporal_goals.specs.declared.diagrams.DiagramKind.TheVariants as kinds
use Rattle.vc_generator.specs.Atoms.{PlainCase}
use Rattle.vc_generator.specs.Building.{Draft, entails_of}
use Rattle.vc_generator.specs.Walks.{plainly}
use Rattle.rule_laws.specs.Diagrams as before
use Rattle.generated_conditions.specs.Cases.{Case, onto, unless}
use Rattle.generated_conditions.specs.Diagrams.{ends, lower_ends, rank, chain_node, rank_node}
use Rattle.generated_conditions.specs.Scripts.{responds, drawn}
use Rattle.generated_conditions.proofs.Lists.{flat_map-nothing}
use Rattle.generated_conditions.proofs.Agreeing.{Agree, nothing-agree, both-agree, onto-agrees}
use Rattle.generated_conditions.proofs.Asked.{entailed, moved}
use Rattle.generated_conditions.proofs.Responds.{answered, same_enabled, unless-agree}

pub each_node-same : (f : PlainDrawnNode → List Draft) (ns : List PlainDrawnNode) → flat_map f ns ≡ before.each_node f ns
each_node-same f [] = refl
each_node-same f (n ∷ ns) = λ i. f n ++ each_node-same f ns i

-- edges
edge-by : (b : Bool) (f : ℕ → List Case) (e : PlainEdge) (es : List PlainEdge) (ys zs : List PlainCase) → Agree (f e.to) ys → Agree (flat_map (λ (x : PlainEdge). f x.to) es) zs
    → Agree (flat_map (λ (x : PlainEdge). f x.to) (cond b (e ∷ es) es)) (if b then ys ++ zs else zs)
edge-by true f e es ys zs h k = both-agree (f e.to) (flat_map (λ (x : PlainEdge). f x.to) es) ys zs h k
edge-by false f e es ys zs h k = k

walked : (f : ℕ → List Case) (g : ℕ → List PlainCase) (i t : ℕ) (es : List PlainEdge) → ((j : ℕ) → Agree (f j) (g j))
    → Agree (flat_map (λ (e : PlainEdge). f e.to) (filter (λ (e : PlainEdge). before.leaves_on i t e) es)) (before.ends_of g i t es)
walked f g i t [] h = nothing-agree
walked f g i t (e ∷ es) h =
    edge-by (before.leaves_on i t e) f e (filter (λ (x : PlainEdge). before.leaves_on i t x) es) (g e.to) (before.ends_of g i t es) (h e.to) (walked f g i t es h)

end-by : (b : Bool) (f : Formula) (cs : List Case) (ds : List PlainCase) → Agree cs ds → Agree (if b then onto f [] [] ∷ [] else cs) (if b then before.case_on f ∷ [] else ds)
end-by true f cs ds h = onto-agrees f [] [] [] nothing-agree
end-by false f cs ds h = h

none-by : (b : Bool) → Agree [] (if b then [] else [])
none-by true = nothing-agree
none-by false = nothing-agree

lower-by : (b : Bool) (f : Formula) → Agree ((if b then onto f [] [] ∷ [] else []) ++ []) (if b then before.case_on f ∷ [] else [])
lower-by true f = onto-agrees f [] [] [] nothing-agree
lower-by false f = nothing-agree

abbrev lower : ℕ → PlainDrawnNode → List Case
lower i j = if nat_lt j.number i then onto j.form [] [] ∷ [] else []

found-by : (b : Bool) (to i : ℕ) (n : PlainDrawnNode) (o p : Option PlainDrawnNode) → b ≡ (n.number == to) → Agree (flat_map (lower i) (option_to_list o)) (if nat_lt to i then before.case_at p else [])
    → Agree (flat_map (lower i) (option_to_list (cond b (Some n) o))) (if nat_lt to i then before.case_at (if b then Some n else p) else [])
found-by true to i n o p e h =
    subst (λ k. Agree ((if nat_lt k i then onto n.form [] [] ∷ [] else []) ++ []) (if nat_lt to i then before.case_on n.form ∷ [] else [])) (sym (true-eqb n.number to e)) (lower-by (nat_lt to i) n.form)
found-by false to i n o p e h = h

lower-found : (to i : ℕ) (ns : List PlainDrawnNode)
    → Agree (flat_map (lower i) (option_to_list (find (λ j. j.number == to) ns))) (if nat_lt to i then before.case_at (before.node_numbered to ns) else [])
lower-found to i [] = none-by (nat_lt to i)
lower-found to i (n ∷ ns) = found-by (n.number == to) to i n (find (λ j. j.number == to) ns) (before.node_numbered to ns) refl (lower-found to i ns)

same_node : (to : ℕ) (ns : List PlainDrawnNode) → find (λ j. j.number == to) ns ≡ before.node_numbered to ns
same_node to [] = refl
same_node to (n ∷ ns) = ap (λ o. if n.number == to then Some n else o) (same_node to ns)

abbrev onto_lower : PlainDrawnNode → PlainDrawnNode → List Case
onto_lower n j = onto j.form [] ((rank j, lowered (rank n)) ∷ []) ∷ []

rank-by : (n : PlainDrawnNode) (o : Option PlainDrawnNode) → Agree (flat_map (onto_lower n) (option_to_list o)) (before.rank_falls n o)
rank-by n None = nothing-agree
rank-by n (Some j) = onto-agrees j.form ((rank j, lowered (rank n)) ∷ []) [] [] nothing-agree

rank-found : (n : PlainDrawnNode) (to : ℕ) (ns : List PlainDrawnNode) → Agree (flat_map (onto_lower n) (option_to_list (find (λ j. j.number == to) ns))) (before.rank_falls n (before.node_numbered to ns))
rank-found n to ns = subst (λ o. Agree (flat_map (onto_lower n) (option_to_list (find (λ j. j.number == to) ns))) (before.rank_falls n o)) (same_node to ns) (rank-by n (find (λ j. j.number == to) ns))

module _ (d : PlainDiagram) (n : PlainDrawnNode) (t : ℕ) where
  lower-ends-agree : Agree (lower_ends d n t) (before.ends_of (before.lower_end d n.number) n.number t d.edges)
  lower-ends-agree = walked (λ to. if to == 0 then onto d.terminal [] [] ∷ [] else flat_map (lower n.number) (option_to_list (find (λ j. j.number == to) d.nodes))) (before.lower_end d n.number) n.number t d.edges
      (λ to. end-by (to == 0) d.terminal (flat_map (lower n.number) (option_to_list (find (λ j. j.number == to) d.nodes))) (if nat_lt to n.number then before.case_at (before.node_numbered to d.nodes) else [])
      (lower-found to n.number d.nodes))

  rank-ends-agree : Agree (ends d n (onto_lower n) t) (before.ends_of (before.rank_end d n) n.number t d.edges)
  rank-ends-agree = walked (λ to. if to == 0 then onto d.terminal [] [] ∷ [] else flat_map (onto_lower n) (option_to_list (find (λ j. j.number == to) d.nodes))) (before.rank_end d n) n.number t d.edges
      (λ to. end-by (to == 0) d.terminal (flat_map (onto_lower n) (option_to_list (find (λ j. j.number == to) d.nodes))) (before.rank_falls n (before.node_numbered to d.nodes))
      (rank-found n to d.nodes))

  pub wait-agree : Agree (onto n.form [] [] ∷ lower_ends d n t) (before.wait_cases d n t)
  wait-agree = onto-agrees n.form [] (lower_ends d n t) (before.ends_of (before.lower_end d n.number) n.number t d.edges) lower-ends-agree

  chain-agree : Agree (unless n.helper t (onto n.form [] [] ∷ []) ++ lower_ends d n t) (before.chain_cases d n t)
  chain-agree = both-agree (unless n.helper t (onto n.form [] [] ∷ [])) (lower_ends d n t) (before.unless_helper n t (before.case_on n.form)) (before.ends_of (before.lower_end d n.number) n.number t d.edges)
      (unless-agree n.helper t (onto n.form [] [] ∷ []) (before.case_on n.form ∷ []) (onto-agrees n.form [] [] [] nothing-agree)) lower-ends-agree

  rank-agree : Agree (unless n.helper t (onto n.form [] ((rank n, rank n) ∷ []) ∷ []) ++ ends d n (onto_lower n) t) (before.rank_cases d n t)
  rank-agree = both-agree (unless n.helper t (onto n.form [] ((rank n, rank n) ∷ []) ∷ [])) (ends d n (onto_lower n) t) (before.unless_helper n t (before.rank_stays n)) (before.ends_of (before.rank_end d n) n.number t d.edges)
      (unless-agree n.helper t (onto n.form [] ((rank n, rank n) ∷ []) ∷ []) (before.rank_stays n ∷ []) (onto-agrees n.form ((rank n, rank n) ∷ []) [] [] nothing-agree)) rank-ends-agree

module _ (step : ℕ) (system : System) (lemmas : List Formula) (p q : Formula) (e : Linear) (d : PlainDiagram) where
  pub chain_diagram : drawn step system lemmas kinds.Chain (response p q e) d ≡ before.chain_list step system lemmas p q e d
  chain_diagram = λ i. entailed step system lemmas Target None d.terminal q i ∷ rest i
    where
      rest : responds step system lemmas p d.terminal (map (chain_node system e d) d.nodes)
          ≡ entails_of lemmas p (some (formulas (d.terminal ∷ map (before.chain_starts e) d.nodes))) (plainly step Cover None)
          ∷ (before.each_node (before.drawn_help step system lemmas) d.nodes ++ before.each_node (before.chain_move step system lemmas d) d.nodes)
      rest = answered step system lemmas (chain_node system e d) p d.terminal (before.chain_starts e) (λ n. []) (before.drawn_help step system lemmas) (before.chain_move step system lemmas d) d.nodes
          (λ n. refl)
          (λ n. refl)
          (λ n i. entailed step system lemmas Help (Some n.number) n.form (same_enabled system n.helper i) i ∷ [])
          (λ n. moved step system lemmas (Some n.number) n.form (λ t. (chain_node system e d n).cases t) (before.chain_cases d n) (λ t. chain-agree d n t))
          ∙ (λ i. entails_of lemmas p (some (formulas (d.terminal ∷ map (before.chain_starts e) d.nodes))) (plainly step Cover None)
          ∷ (flat_map-nothing {A = PlainDrawnNode} {B = Draft} d.nodes i ++ (each_node-same (before.drawn_help step system lemmas) d.nodes i ++ each_node-same (before.chain_move step system lemmas d) d.nodes i)))

  pub rank_diagram : drawn step system lemmas kinds.Rank (response p q e) d ≡ before.rank_list step system lemmas p q e d
  rank_diagram = λ i. entailed step system lemmas Target None d.terminal q i ∷ rest i
    where
      rest : responds step system lemmas p d.terminal (map (rank_node system e d) d.nodes)
          ≡ entails_of lemmas p (some (formulas (d.terminal ∷ map (before.rank_starts e) d.nodes))) (plainly step Cover None)
          ∷ (before.each_node (before.drawn_ranked step lemmas) d.nodes ++ (before.each_node (before.drawn_help step system lemmas) d.nodes ++ before.each_node (before.rank_move step system lemmas d) d.nodes))
      rest = answered step system lemmas (rank_node system e d) p d.terminal (before.rank_starts e) (before.drawn_ranked step lemmas) (before.drawn_help step system lemmas) (before.rank_move step system lemmas d) d.nodes
          (λ n. refl)
          (λ n i. entailed step system lemmas Rank (Some n.number) n.form (row (rank n)) i ∷ [])
          (λ n i. entailed step system lemmas Help (Some n.number) n.form (same_enabled system n.helper i) i ∷ [])
          (λ n. moved step system lemmas (Some n.number) n.form (λ t. (rank_node system e d n).cases t) (before.rank_cases d n) (λ t. rank-agree d n t))
          ∙ (λ i. entails_of lemmas p (some (formulas (d.terminal ∷ map (before.rank_starts e) d.nodes))) (plainly step Cover None)
          ∷ (each_node-same (before.drawn_ranked step lemmas) d.nodes i ++ (each_node-same (before.drawn_help step system lemmas) d.nodes i ++ each_node-same (before.rank_move step system lemmas d) d.nodes i)))
