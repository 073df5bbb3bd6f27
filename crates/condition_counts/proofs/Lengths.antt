-- The list of a rule's conditions is as long as the sum says.
use Rattle.std.proofs.Common.{arith, ◌≡◌, ◌∙◌, refl, ap, sym, ℕ, suc, ◌+◌, ◌-◌, ◌*◌, min, false, List, [], ◌∷◌, ◌++◌, length, Option, Some, None, length-append}
use Rattle.st_linear.specs.Linear.{Linear}
use Rattle.st_form.specs.Formula.{Formula, truth_value, some, formulas}
use Rattle.st_form.specs.declared.conditions.Premise.TheVariants.{Keep, Level, Move}
use Rattle.transition_system.specs.Systems.{PlainMode, PlainTransition, System}
use Rattle.temporal_goals.specs.Texts.{PlainGoal, invariant, waiting, response, PlainDrawnNode, PlainDiagram, PlainRule, basic, stronger, levels, net, diagram, nested}
use Rattle.temporal_goals.specs.declared.diagrams.DiagramKind.{DiagramKind}
use Rattle.temporal_goals.specs.declared.diagrams.DiagramKind.TheVariants.{Wait, Chain, Rank}
use Rattle.vc_generator.specs.Atoms.{PlainCase}
use Rattle.vc_generator.specs.Building.{Draft, entails_of, triple_of, moved_of}
use Rattle.vc_generator.specs.Walks.{numbered_from, each_mode, plainly, by_mode}
use Rattle.rule_laws.specs.Invariance.{kept_always}
use Rattle.rule_laws.specs.WaitingFor.{level_list, move_list}
use Rattle.rule_laws.specs.RankedNet.{net_cases, rank_of, help_of, move_of}
use Rattle.rule_laws.specs.NestedNet.{nested_cases, nested_rank, nested_help, nested_move}
use Rattle.rule_laws.specs.Diagrams.{each_node, level_goal, wait_cases, wait_level, wait_move, drawn_help, drawn_ranked, chain_cases, chain_move, rank_cases, rank_move}
use Rattle.script_laws.specs.Script.{waiting_drawn, response_drawn, step_list}
use Rattle.condition_counts.specs.Sums.{modes_among, waiting_sum, response_sum, rule_sum}

-- as many as before and once more
once-more : (l m : ℕ) → (suc (suc l) - 1) * m ≡ m + (suc l - 1) * m
once-more l m =
    let above : suc (suc l) - 1 ≡ suc l = omega arith in
    let below : suc l - 1 ≡ l = omega arith in
    let more : suc l * m ≡ m + l * m = omega arith in
    ap (λ (k : ℕ). k * m) above ∙ more ∙ ap (λ (k : ℕ). m + k * m) (sym below)

-- as many as items, where each gives one
each-one : {A : Type 0} (f : ℕ → A → List Draft) → ((i : ℕ) (x : A) → length (f i x) ≡ 1) → (i : ℕ) (xs : List A) → length (numbered_from f i xs) ≡ length xs
each-one f one i [] = refl
each-one f one i (x ∷ xs) = omega (arith, length-append (f i x) (numbered_from f (i + 1) xs), one i x, each-one f one (i + 1) xs)

-- so many times as many, where each gives so many
each-many : {A : Type 0} (f : ℕ → A → List Draft) (k : ℕ) → ((i : ℕ) (x : A) → length (f i x) ≡ k) → (i : ℕ) (xs : List A) → length (numbered_from f i xs) ≡ length xs * k
each-many f k many i [] = omega arith
each-many f k many i (x ∷ xs) = omega (arith, length-append (f i x) (numbered_from f (i + 1) xs), many i x, each-many f k many (i + 1) xs)

-- as many as modes, where each mode gives one
among : (f : ℕ → PlainTransition → ℕ → PlainMode → List Draft) → ((i : ℕ) (t : PlainTransition) (k : ℕ) (m : PlainMode) → length (f i t k m) ≡ 1) → (i : ℕ) (ts : List PlainTransition)
    → length (numbered_from (λ i t. numbered_from (λ k m. f i t k m) 1 t.modes) i ts) ≡ modes_among ts
among f one i [] = refl
among f one i (t ∷ ts) =
    omega (arith, length-append (numbered_from (λ k m. f i t k m) 1 t.modes) (numbered_from (λ i t. numbered_from (λ k m. f i t k m) 1 t.modes) (i + 1) ts), each-one (λ k m. f i t k m) (one i t) 1 t.modes, among f one (i + 1) ts)

module _ (n : ℕ) (system : System) (lemmas : List Formula) where
  abbrev modes : ℕ
  modes = modes_among system.transitions

  each : (f : ℕ → PlainTransition → ℕ → PlainMode → List Draft) → ((i : ℕ) (t : PlainTransition) (k : ℕ) (m : PlainMode) → length (f i t k m) ≡ 1) → length (each_mode f system) ≡ modes
  each f one = among f one 0 system.transitions

  node-one : (f : PlainDrawnNode → List Draft) → ((x : PlainDrawnNode) → length (f x) ≡ 1) → (xs : List PlainDrawnNode) → length (each_node f xs) ≡ length xs
  node-one f one [] = refl
  node-one f one (x ∷ xs) = omega (arith, length-append (f x) (each_node f xs), one x, node-one f one xs)

  node-many : (f : PlainDrawnNode → List Draft) (k : ℕ) → ((x : PlainDrawnNode) → length (f x) ≡ k) → (xs : List PlainDrawnNode) → length (each_node f xs) ≡ length xs * k
  node-many f k many [] = omega arith
  node-many f k many (x ∷ xs) = omega (arith, length-append (f x) (each_node f xs), many x, node-many f k many xs)

  -- moves from a formula by cases
  moved : (before : Formula) (cases : ℕ → List PlainCase) (node : Option ℕ) → length (each_mode (λ i t k m. moved_of m lemmas before (cases i) (by_mode n Move node t.name k) ∷ []) system) ≡ modes
  moved before cases node = each (λ i t k m. moved_of m lemmas before (cases i) (by_mode n Move node t.name k) ∷ []) (λ i t k m. refl)

  kept : (f : Formula) → length (kept_always n system lemmas f) ≡ 1 + modes
  kept f = omega (arith, each (λ i t k m. triple_of m lemmas f f (truth_value false) (by_mode n Keep None t.name k) ∷ []) (λ i t k m. refl))

  level : (fs qs : List Formula) → length (level_list n lemmas fs qs) ≡ min (length fs) (length qs)
  level [] qs = omega arith
  level (f ∷ fs) [] = omega arith
  level (f ∷ fs) (q ∷ qs) = omega (arith, level fs qs)

  move : (fs : List Formula) → length (move_list n system lemmas fs) ≡ (length fs - 1) * modes
  move [] = omega arith
  move (f ∷ []) = omega arith
  move (f ∷ g ∷ fs) =
      let here = each (λ i t k m. triple_of m lemmas f (some (formulas (f ∷ g ∷ fs))) (truth_value false) (by_mode n Move (Some (length (g ∷ fs))) t.name k) ∷ []) (λ i t k m. refl) in
      omega (
        arith,
        length-append (each_mode (λ i t k m. triple_of m lemmas f (some (formulas (f ∷ g ∷ fs))) (truth_value false) (by_mode n Move (Some (length (g ∷ fs))) t.name k) ∷ []) system) (move_list n system lemmas (g ∷ fs)),
        here,
        move (g ∷ fs),
        once-more (length fs) modes,
      )

  on-levels : (fs qs : List Formula) → length (level_list n lemmas fs qs ++ move_list n system lemmas fs) ≡ min (length fs) (length qs) + (length fs - 1) * modes
  on-levels fs qs = omega (arith, length-append (level_list n lemmas fs qs) (move_list n system lemmas fs), level fs qs, move fs)

  -- of a net: a rank, a help and moves of each node
  on-nodes : {A : Type 0} (rank help walk : ℕ → A → List Draft) → ((i : ℕ) (x : A) → length (rank i x) ≡ 1) → ((i : ℕ) (x : A) → length (help i x) ≡ 1) → ((i : ℕ) (x : A) → length (walk i x) ≡ modes) → (xs : List A)
      → length (numbered_from rank 0 xs ++ (numbered_from help 0 xs ++ numbered_from walk 0 xs)) ≡ (length xs + length xs) + length xs * modes
  on-nodes rank help walk one-rank one-help many xs =
      omega (
        arith,
        length-append (numbered_from rank 0 xs) (numbered_from help 0 xs ++ numbered_from walk 0 xs),
        length-append (numbered_from help 0 xs) (numbered_from walk 0 xs),
        each-one rank one-rank 0 xs,
        each-one help one-help 0 xs,
        each-many walk modes many 0 xs,
      )

  on-waiting : (kind : DiagramKind) (p : Formula) (qs : List Formula) (d : PlainDiagram) → length (waiting_drawn kind n system lemmas p qs d) ≡ waiting_sum kind (length d.nodes) modes
  on-waiting Wait p qs d =
      omega (
        arith,
        length-append (each_node (wait_level n lemmas qs) d.nodes) (entails_of lemmas d.terminal (level_goal 0 qs) (plainly n Level (Some 0)) ∷ each_node (wait_move n system lemmas d) d.nodes),
        node-one (wait_level n lemmas qs) (λ x. refl) d.nodes,
        node-many (wait_move n system lemmas d) modes (λ x. moved x.form (wait_cases d x) (Some x.number)) d.nodes,
      )
  on-waiting Chain p qs d = refl
  on-waiting Rank p qs d = refl

  on-response : (kind : DiagramKind) (p q : Formula) (e : Linear) (d : PlainDiagram) → length (response_drawn kind n system lemmas p q e d) ≡ response_sum kind (length d.nodes) modes
  on-response Wait p q e d = refl
  on-response Chain p q e d =
      omega (
        arith,
        length-append (each_node (drawn_help n system lemmas) d.nodes) (each_node (chain_move n system lemmas d) d.nodes),
        node-one (drawn_help n system lemmas) (λ x. refl) d.nodes,
        node-many (chain_move n system lemmas d) modes (λ x. moved x.form (chain_cases d x) (Some x.number)) d.nodes,
      )
  on-response Rank p q e d =
      omega (
        arith,
        length-append (each_node (drawn_ranked n lemmas) d.nodes) (each_node (drawn_help n system lemmas) d.nodes ++ each_node (rank_move n system lemmas d) d.nodes),
        length-append (each_node (drawn_help n system lemmas) d.nodes) (each_node (rank_move n system lemmas d) d.nodes),
        node-one (drawn_ranked n lemmas) (λ x. refl) d.nodes,
        node-one (drawn_help n system lemmas) (λ x. refl) d.nodes,
        node-many (rank_move n system lemmas d) modes (λ x. moved x.form (rank_cases d x) (Some x.number)) d.nodes,
      )

  pub step-length : (goal : PlainGoal) (rule : PlainRule) → length (step_list n system lemmas goal rule) ≡ rule_sum modes goal rule
  step-length (invariant p) basic = omega (arith, kept p)
  step-length (invariant p) (stronger f) = omega (arith, kept f)
  step-length (invariant p) (levels fs) = refl
  step-length (invariant p) (net ns) = refl
  step-length (invariant p) (nested ns) = refl
  step-length (invariant p) (diagram d) = refl
  step-length (waiting p qs) basic = refl
  step-length (waiting p qs) (stronger f) = refl
  step-length (waiting p qs) (levels fs) = omega (arith, on-levels fs qs)
  step-length (waiting p qs) (net ns) = refl
  step-length (waiting p qs) (nested ns) = refl
  step-length (waiting p qs) (diagram d) = on-waiting d.kind p qs d
  step-length (response p q e) basic = refl
  step-length (response p q e) (stronger f) = refl
  step-length (response p q e) (levels fs) = refl
  step-length (response p q e) (net ns) =
      omega (arith, on-nodes (rank_of n lemmas) (help_of n system lemmas) (move_of n system lemmas ns q) (λ i x. refl) (λ i x. refl) (λ i x. moved x.form (net_cases system ns q x) (Some i)) ns)
  step-length (response p q e) (nested ns) =
      omega (arith, on-nodes (nested_rank n lemmas) (nested_help n system lemmas) (nested_move n system lemmas ns q) (λ i x. refl) (λ i x. refl) (λ i x. moved x.form (nested_cases system ns q x) (Some i)) ns)
  step-length (response p q e) (diagram d) = on-response d.kind p q e d
