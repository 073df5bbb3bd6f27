-- The cases of a step are those that its transition chooses of the node's lists.
use Rattle.std.proofs.Common.{◌≡◌, ◌∙◌, ap, sym, subst, refl, arith, ℕ, suc, ◌+◌, ◌<◌, ◌≤◌, Bool, true, false, not, ◌&&◌, nat_lt, if◌then◌else◌, List, [], ◌∷◌, ◌++◌, length, map, take, Result, slice_index_or, append_assoc, append-nil}
use Rattle.std.proofs.lemmas.Bool.Decides.{nat_tests}
use Rattle.std.proofs.lemmas.List.{length-map}
use Rattle.st_form.specs.Condition.{Implication}
use Rattle.st_form.specs.Formula.{Formula}
use Rattle.transition_system.specs.Systems.{System}
use Rattle.temporal_goals.specs.Texts.{PlainNestedNode}
use Rattle.vc_generator.specs.Atoms.{PlainCase}
use Rattle.vc_generator.specs.Plain.{plain_case}
use Rattle.vc_generator.specs.Refusing.{Grows}
use Rattle.vc_generator.specs.Walks.{each_mode}
use Rattle.vc_generator.specs.declared.faults.VcFault.{VcFault}
use Rattle.vc_generator.specs.declared.building.Case.{Case}
use Rattle.rule_laws.specs.Names.{is_name}
use Rattle.rule_laws.specs.RankedNet.{case_end, cases_if}
use Rattle.rule_laws.specs.NestedNet.{none_of, each_depth, falls_at, frees_at, nested_stay, nested_cases, nested_move}
use Rattle.ranked_net.specs.Walk.{moves}
use Rattle.ranked_net.proofs.Choices.{first-part}
use Rattle.nested_net.specs.Walk.{outside, fall_cases, free_cases, depth_cases, stay_cases, listed_depths, chosen}
use Rattle.nested_net.proofs.Depths.{passed, met, outside-within, list-at, cut}

if-true : (b : Bool) (cs : List PlainCase) → b ≡ true → cases_if b cs ≡ cs
if-true b cs e = ap (λ z. cases_if z cs) e

if-false : (b : Bool) (cs : List PlainCase) → b ≡ false → cases_if b cs ≡ []
if-false b cs e = ap (λ z. cases_if z cs) e

module _ (system : System) (nodes : List PlainNestedNode) (q : Formula) (n : PlainNestedNode) (number : ℕ) where
  falls-cut : each_depth (falls_at nodes n number) 0 (suc (length n.levels)) ≡ each_depth (fall_cases nodes n) 0 (suc (outside number n.levels))
  falls-cut =
      let within = outside-within number n.levels in
      cut (falls_at nodes n number) (fall_cases nodes n) 0 (suc (outside number n.levels)) (suc (length n.levels)) (omega arith)
      (λ j a b. if-true (none_of number j n.levels) (fall_cases nodes n j) (passed number j n.levels (omega arith)))
      (λ j a b. if-false (none_of number j n.levels) (fall_cases nodes n j) (met number j n.levels (omega arith) (omega arith)))

  frees-cut : each_depth (frees_at system nodes n number) 0 (length n.levels) ≡ each_depth (free_cases system nodes n) 0 (outside number n.levels)
  frees-cut =
      let within = outside-within number n.levels in
      cut (frees_at system nodes n number) (free_cases system nodes n) 0 (outside number n.levels) (length n.levels) within
      (λ j a b. if-true (none_of number (suc j) n.levels) (free_cases system nodes n j) (passed number (suc j) n.levels (omega arith)))
      (λ j a b. if-false (none_of number (suc j) n.levels) (free_cases system nodes n j) (met number (suc j) n.levels (omega arith) (omega arith)))

  abbrev falls : List PlainCase
  falls = each_depth (fall_cases nodes n) 0 (suc (outside number n.levels))

  abbrev frees : List PlainCase
  frees = each_depth (free_cases system nodes n) 0 (outside number n.levels)

  abbrev stays : List PlainCase
  stays = cases_if (none_of number (length n.levels) n.levels && not (is_name n.helper number)) (nested_stay n ∷ [])

  cases-cut : nested_cases system nodes q n number ≡ case_end q ∷ (falls ++ (frees ++ stays))
  cases-cut = ap (λ cs. case_end q ∷ (cs ++ (each_depth (frees_at system nodes n number) 0 (length n.levels) ++ stays))) falls-cut ∙ ap (λ cs. case_end q ∷ (falls ++ (cs ++ stays))) frees-cut

  -- a group of the node
  of-group : outside number n.levels < length n.levels → depth_cases system nodes q n (outside number n.levels) ≡ nested_cases system nodes q n number
  of-group h =
      let none : stays ≡ [] = ap (λ b. cases_if (b && not (is_name n.helper number)) (nested_stay n ∷ [])) (met number (length n.levels) n.levels h h) in
      sym (cases-cut ∙ ap (λ cs. case_end q ∷ (falls ++ (frees ++ cs))) none ∙ ap (λ cs. case_end q ∷ (falls ++ cs)) (append-nil frees))

  by-helper : (helper : Bool) → (if helper then case_end q ∷ (falls ++ frees) else (case_end q ∷ (falls ++ frees)) ++ stay_cases n) ≡ case_end q ∷ (falls ++ (frees ++ cases_if (true && not helper) (nested_stay n ∷ [])))
  by-helper true = ap (λ cs. case_end q ∷ (falls ++ cs)) (sym (append-nil frees))
  by-helper false = ap (λ cs. case_end q ∷ cs) (append_assoc falls frees (stay_cases n))

  -- no group of the node
  of-other : outside number n.levels ≡ length n.levels
      → (if is_name n.helper number then depth_cases system nodes q n (outside number n.levels) else depth_cases system nodes q n (outside number n.levels) ++ stay_cases n) ≡ nested_cases system nodes q n number
  of-other h =
      let stay : stays ≡ cases_if (true && not (is_name n.helper number)) (nested_stay n ∷ []) = ap (λ b. cases_if (b && not (is_name n.helper number)) (nested_stay n ∷ [])) (passed number (length n.levels) n.levels (omega arith)) in
      by-helper (is_name n.helper number) ∙ sym (cases-cut ∙ ap (λ cs. case_end q ∷ (falls ++ (frees ++ cs))) stay)

  abbrev lists : List (List PlainCase)
  lists = listed_depths (depth_cases system nodes q n) 0 (length n.levels)

  abbrev helped : List PlainCase
  helped = depth_cases system nodes q n (length n.levels)

  by-depth : (b : Bool) → nat_lt (outside number n.levels) (length n.levels) ≡ b
      → (if b then slice_index_or lists (outside number n.levels) [] else (if is_name n.helper number then helped else helped ++ stay_cases n)) ≡ nested_cases system nodes q n number
  by-depth true e =
      let below : outside number n.levels < length n.levels = grind (arith, nat_tests) in
      let from-zero : 0 + outside number n.levels ≡ outside number n.levels = omega arith in
      list-at (depth_cases system nodes q n) 0 (length n.levels) (outside number n.levels) below ∙ ap (depth_cases system nodes q n) from-zero ∙ of-group below
  by-depth false e =
      let within = outside-within number n.levels in
      let past : length n.levels ≤ outside number n.levels = grind (arith, nat_tests) in
      let same : outside number n.levels ≡ length n.levels = omega arith in
      ap (λ d. if is_name n.helper number then depth_cases system nodes q n d else depth_cases system nodes q n d ++ stay_cases n) (sym same) ∙ of-other same

  pub chosen-cases : chosen n.levels n.helper lists helped (helped ++ stay_cases n) number ≡ nested_cases system nodes q n number
  chosen-cases = by-depth (nat_lt (outside number n.levels) (length n.levels)) refl

-- the conditions of the modes, by the choice
pub moves-by-lists : (r : Result (Unit {0}) VcFault) (old new : List Implication) (step : ℕ) (system : System) (lemmas : List Formula) (nodes : List PlainNestedNode) (q : Formula) (i : ℕ) (n : PlainNestedNode)
    → (groups : List (List PlainCase)) (first all : List Case) (size count depth : ℕ) → count ≡ length n.levels → depth ≡ length n.levels → groups ≡ listed_depths (depth_cases system nodes q n) 0 count → map plain_case first ≡ depth_cases system nodes q n depth
    → map plain_case all ≡ map plain_case first ++ stay_cases n → size ≡ length first
    → Grows r old new (each_mode (λ number t k m. moves step lemmas i n.form (chosen n.levels n.helper groups (map plain_case (take size all)) (map plain_case all) number) t k m) system)
    → Grows r old new (nested_move step system lemmas nodes q i n)
moves-by-lists r old new step system lemmas nodes q i n groups first all size count depth counts depths listing firsting alls sizes grows =
    let listed = listing ∙ ap (listed_depths (depth_cases system nodes q n) 0) counts in
    let firsts = firsting ∙ ap (depth_cases system nodes q n) depths in
    let whole : map plain_case all ≡ depth_cases system nodes q n (length n.levels) ++ stay_cases n = alls ∙ ap (λ cs. cs ++ stay_cases n) firsts in
    let long : length (depth_cases system nodes q n (length n.levels)) ≡ size = ap length (sym firsts) ∙ length-map first plain_case ∙ sym sizes in
    let part = first-part all (depth_cases system nodes q n (length n.levels)) (stay_cases n) size whole long in
    let same : each_mode (λ number t k m. moves step lemmas i n.form (chosen n.levels n.helper groups (map plain_case (take size all)) (map plain_case all) number) t k m) system ≡ nested_move step system lemmas nodes q i n =
    ap (λ gs. each_mode (λ number t k m. moves step lemmas i n.form (chosen n.levels n.helper gs (map plain_case (take size all)) (map plain_case all) number) t k m) system) listed
    ∙ ap (λ cs. each_mode (λ number t k m. moves step lemmas i n.form (chosen n.levels n.helper (listed_depths (depth_cases system nodes q n) 0 (length n.levels)) cs (map plain_case all) number) t k m) system) part
    ∙ ap (λ cs. each_mode (λ number t k m. moves step lemmas i n.form (chosen n.levels n.helper (listed_depths (depth_cases system nodes q n) 0 (length n.levels)) (depth_cases system nodes q n (length n.levels)) cs number) t k m) system) whole
    ∙ ap (λ (f : ℕ → List PlainCase). each_mode (λ number t k m. moves step lemmas i n.form (f number) t k m) system) (λ j number. chosen-cases system nodes q n number j) in
    subst (Grows r old new) same grows
