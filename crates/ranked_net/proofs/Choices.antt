-- The cases of a step are those that its transition chooses of the node's cases.
use Rattle.std.proofs.Common.{◌≡◌, ◌∙◌, ap, sym, subst, ℕ, ◌+◌, ◌<◌, Bool, true, false, not, ◌&&◌, if◌then◌else◌, is_some, List, ◌∷◌, ◌++◌, length, map, take, drop, get_or, Option, Result, append_assoc, append-nil}
use Rattle.std.proofs.lemmas.List.{drop_more, take-map, take_at, length-map}
use Rattle.st_form.specs.Condition.{Implication}
use Rattle.st_form.specs.Formula.{Formula}
use Rattle.transition_system.specs.Systems.{System}
use Rattle.temporal_goals.specs.Texts.{PlainNode}
use Rattle.temporal_goals.specs.Plain.{plain_node}
use Rattle.temporal_goals.specs.declared.nets.Node.{Node}
use Rattle.vc_generator.specs.Atoms.{PlainCase}
use Rattle.vc_generator.specs.Plain.{plain_case}
use Rattle.vc_generator.specs.Refusing.{Grows}
use Rattle.vc_generator.specs.Walks.{each_mode}
use Rattle.vc_generator.specs.declared.faults.VcFault.{VcFault}
use Rattle.vc_generator.specs.declared.building.Case.{Case}
use Rattle.rule_laws.specs.Names.{is_name, same_group}
use Rattle.rule_laws.specs.RankedNet.{case_free, case_inner, grouped, cases_if, net_cases, move_of}
use Rattle.ranked_net.specs.Walk.{own_cases, group_cases, stay_cases, chosen, moves}

-- the next node of a walk over a group
pub grouped-next : (g : Option ℕ) (xs : List Node) (i : ℕ) (x : Node) → i < length xs → x ≡ get_or xs i x
    → grouped g (map plain_node (drop i xs)) ≡ (if same_group g x.group then plain_node x ∷ grouped g (map plain_node (drop (i + 1) xs)) else grouped g (map plain_node (drop (i + 1) xs)))
grouped-next g xs i x below is =
    ap (λ ys. grouped g (map plain_node ys)) (drop_more xs i x below)
    ∙ ap (λ y. if same_group g y.group then plain_node y ∷ grouped g (map plain_node (drop (i + 1) xs)) else grouped g (map plain_node (drop (i + 1) xs))) (sym is)

-- the first part of a list of cases
pub first-part : (xs : List Case) (cs ds : List PlainCase) (n : ℕ) → map plain_case xs ≡ cs ++ ds → length cs ≡ n → map plain_case (take n xs) ≡ cs
first-part xs cs ds n is size = sym (take-map plain_case n xs) ∙ ap (take n) is ∙ take_at cs ds n size

-- a step of the group, of the helper, and of another transition
by-tests : (there group helper : Bool) (own frees inners stay : List PlainCase)
    → (if group then own else (if helper then own ++ (cases_if there frees ++ inners) else (own ++ (cases_if there frees ++ inners)) ++ stay))
    ≡ own ++ (cases_if (there && not group) frees ++ (cases_if (not group) inners ++ cases_if (not group && not helper) stay))
by-tests true true helper own frees inners stay = sym (append-nil own)
by-tests false true helper own frees inners stay = sym (append-nil own)
by-tests true false true own frees inners stay = ap (λ cs. own ++ (frees ++ cs)) (sym (append-nil inners))
by-tests false false true own frees inners stay = ap (λ cs. own ++ cs) (sym (append-nil inners))
by-tests true false false own frees inners stay = append_assoc own (frees ++ inners) stay ∙ ap (λ cs. own ++ cs) (append_assoc frees inners stay)
by-tests false false false own frees inners stay = append_assoc own inners stay

pub chosen-cases : (system : System) (nodes : List PlainNode) (q : Formula) (n : PlainNode) (number : ℕ)
    → chosen n.group n.helper (own_cases nodes q n) (own_cases nodes q n ++ group_cases system nodes n) ((own_cases nodes q n ++ group_cases system nodes n) ++ stay_cases n) number
    ≡ net_cases system nodes q n number
chosen-cases system nodes q n number =
    by-tests (is_some n.group) (is_name n.group number) (is_name n.helper number) (own_cases nodes q n)
    (map (case_free system n) (grouped n.group nodes)) (map (case_inner n) (grouped n.group nodes)) (stay_cases n)

-- the conditions of the modes, by the choice
pub moves-chosen : (step : ℕ) (system : System) (lemmas : List Formula) (nodes : List PlainNode) (q : Formula) (i : ℕ) (n : PlainNode) (own helped other : List PlainCase)
    → own ≡ own_cases nodes q n → helped ≡ own_cases nodes q n ++ group_cases system nodes n → other ≡ (own_cases nodes q n ++ group_cases system nodes n) ++ stay_cases n
    → each_mode (λ number t k m. moves step lemmas i n.form (chosen n.group n.helper own helped other number) t k m) system ≡ move_of step system lemmas nodes q i n
moves-chosen step system lemmas nodes q i n own helped other owns helps others =
    ap (λ cs. each_mode (λ number t k m. moves step lemmas i n.form (chosen n.group n.helper cs helped other number) t k m) system) owns
    ∙ ap (λ cs. each_mode (λ number t k m. moves step lemmas i n.form (chosen n.group n.helper (own_cases nodes q n) cs other number) t k m) system) helps
    ∙ ap (λ cs. each_mode (λ number t k m. moves step lemmas i n.form (chosen n.group n.helper (own_cases nodes q n) (own_cases nodes q n ++ group_cases system nodes n) cs number) t k m) system) others
    ∙ ap (λ (f : ℕ → List PlainCase). each_mode (λ number t k m. moves step lemmas i n.form (f number) t k m) system) (λ j number. chosen-cases system nodes q n number j)

-- the conditions of the modes, by parts of one list of cases
pub moves-by-parts : (r : Result (Unit {0}) VcFault) (old new : List Implication) (step : ℕ) (system : System) (lemmas : List Formula) (nodes : List PlainNode) (q : Formula) (i : ℕ) (n : PlainNode)
    → (first second all : List Case) (own helped : ℕ) → map plain_case first ≡ own_cases nodes q n → map plain_case second ≡ map plain_case first ++ group_cases system nodes n
    → map plain_case all ≡ map plain_case second ++ stay_cases n → own ≡ length first → helped ≡ length second
    → Grows r old new (each_mode (λ number t k m. moves step lemmas i n.form (chosen n.group n.helper (map plain_case (take own all)) (map plain_case (take helped all)) (map plain_case all) number) t k m) system)
    → Grows r old new (move_of step system lemmas nodes q i n)
moves-by-parts r old new step system lemmas nodes q i n first second all own helped firsts seconds alls owns helps grows =
    let two : map plain_case second ≡ own_cases nodes q n ++ group_cases system nodes n = seconds ∙ ap (λ cs. cs ++ group_cases system nodes n) firsts in
    let three : map plain_case all ≡ (own_cases nodes q n ++ group_cases system nodes n) ++ stay_cases n = alls ∙ ap (λ cs. cs ++ stay_cases n) two in
    let own-size : length (own_cases nodes q n) ≡ own = ap length (sym firsts) ∙ length-map first plain_case ∙ sym owns in
    let helped-size : length (own_cases nodes q n ++ group_cases system nodes n) ≡ helped = ap length (sym two) ∙ length-map second plain_case ∙ sym helps in
    let one = first-part all (own_cases nodes q n) (group_cases system nodes n ++ stay_cases n) own (three ∙ append_assoc (own_cases nodes q n) (group_cases system nodes n) (stay_cases n)) own-size in
    let both = first-part all (own_cases nodes q n ++ group_cases system nodes n) (stay_cases n) helped three helped-size in
    subst (Grows r old new) (moves-chosen step system lemmas nodes q i n (map plain_case (take own all)) (map plain_case (take helped all)) (map plain_case all) one both three) grows
