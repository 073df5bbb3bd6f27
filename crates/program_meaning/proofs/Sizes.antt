-- The limits are those of the parser.
use Rattle.std.proofs.Common.{◌≡◌, ℕ, ◌+◌, ◌≤◌, List, [], ◌∷◌, map, length, length-append, refl, sym, ap, subst, ◌∙◌, arith}
use Rattle.std.specs.Prelude.{flat_map}
use Rattle.std.proofs.lemmas.List.{length-map}
use Rattle.spl_parser.specs.ProgramTree.{Statement, stated, Action, skip, critical, noncritical, assign, assign_all, await, request, release, conditional, while_do, forever, block, select, cooperate, group, Branch, no_branch, branch, Statements, no_statements, followed, Body, body, Bodies, no_bodies, beside, bodies, Declaration, Process, Program}
use Rattle.spl_parser.specs.Numbers as old
use Rattle.program_meaning.specs.Meaning.{declared_by, declared, all_declared}
use Rattle.program_meaning.specs.Sizes.{in_statement, in_action, in_branch, in_statements, in_bodies}
use Rattle.program_meaning.specs.Theorems.{SmallIsWithin}

-- VARIABLES
declared_same : (ds : List Declaration) → length (declared ds) ≡ old.declared ds
declared_same [] = refl
declared_same (d ∷ ds) = length-append (declared_by d) (declared ds) ∙ ap (λ n. n + length (declared ds)) (length-map d.names _) ∙ ap (λ n. length d.names + n) (declared_same ds)

inside_same : (ps : List Process) → length (flat_map (λ (q : Process). declared q.declarations) ps) ≡ old.declared_inside ps
inside_same [] = refl
inside_same (p ∷ ps) =
    length-append (declared p.declarations) (flat_map (λ (q : Process). declared q.declarations) ps) ∙ ap (λ n. n + length (flat_map (λ (q : Process). declared q.declarations) ps)) (declared_same p.declarations)
    ∙ ap (λ n. old.declared p.declarations + n) (inside_same ps)

all_same : (tree : Program) → length (all_declared tree) ≡ old.declared tree.declarations + old.declared_inside tree.processes
all_same tree =
    length-append (declared tree.declarations) (flat_map (λ (q : Process). declared q.declarations) tree.processes)
    ∙ ap (λ n. n + length (flat_map (λ (q : Process). declared q.declarations) tree.processes)) (declared_same tree.declarations) ∙ ap (λ n. old.declared tree.declarations + n) (inside_same tree.processes)

-- STATEMENTS
both : (a b c d : ℕ) → a ≡ c → b ≡ d → a + b ≡ c + d
both a b c d e f = ap (λ n. n + b) e ∙ ap (λ n. c + n) f

mutual
  statement_same : (x : Statement) → in_statement x ≡ old.in_statement x
  statement_same (stated label place a) = ap (λ n. 1 + n) (action_same a)

  action_same : (a : Action) → in_action a ≡ old.in_action a
  action_same skip = refl
  action_same critical = refl
  action_same noncritical = refl
  action_same (assign l e) = refl
  action_same (assign_all targets list values) = refl
  action_same (await e) = refl
  action_same (request l) = refl
  action_same (release l) = refl
  action_same (conditional e x y) = both (in_statement x) (in_branch y) (old.in_statement x) (old.in_branch y) (statement_same x) (branch_same y)
  action_same (while_do e x) = statement_same x
  action_same (forever x) = statement_same x
  action_same (block xs) = statements_same xs
  action_same (select xs) = statements_same xs
  action_same (cooperate bs) = bodies_same bs
  action_same (group xs) = statements_same xs

  branch_same : (y : Branch) → in_branch y ≡ old.in_branch y
  branch_same no_branch = refl
  branch_same (branch x) = statement_same x

  statements_same : (xs : Statements) → in_statements xs ≡ old.in_statements xs
  statements_same no_statements = refl
  statements_same (followed x xs) = both (in_statement x) (in_statements xs) (old.in_statement x) (old.in_statements xs) (statement_same x) (statements_same xs)

  bodies_same : (bs : Bodies) → in_bodies bs ≡ old.in_bodies bs
  bodies_same no_bodies = refl
  bodies_same (beside (body xs end) bs) = both (in_statements xs) (in_bodies bs) (old.in_statements xs) (old.in_bodies bs) (statements_same xs) (bodies_same bs)

body_same : (b : Body) (n m : ℕ) → n ≡ m → in_bodies (beside b no_bodies) + n ≡ old.in_body b + m
body_same (body xs end) n m e = both (in_statements xs + 0) n (old.in_statements xs) m (plus_zero (in_statements xs) ∙ statements_same xs) e
  where
    plus_zero : (i : ℕ) → i + 0 ≡ i
    plus_zero i = omega arith

beside_sum : (b : Body) (bs : Bodies) → in_bodies (beside b bs) ≡ in_bodies (beside b no_bodies) + in_bodies bs
beside_sum (body xs end) bs = plus (in_statements xs) (in_bodies bs)
  where
    plus : (i j : ℕ) → i + j ≡ i + 0 + j
    plus i j = omega arith

processes_same : (ps : List Process) → in_bodies (bodies (map (λ (q : Process). q.body) ps)) ≡ old.in_processes ps
processes_same [] = refl
processes_same (p ∷ ps) =
    let rest = bodies (map (λ (q : Process). q.body) ps) in beside_sum p.body rest ∙ body_same p.body (in_bodies rest) (old.in_processes ps) (processes_same ps)

pub small_is_within : SmallIsWithin
small_is_within tree = (
  λ s. record { variables = subst (λ n. n ≤ 64) (all_same tree) s.variables; processes = s.processes; statements = subst (λ n. n ≤ 400) (processes_same tree.processes) s.statements },
  λ w. record { variables = subst (λ n. n ≤ 64) (sym (all_same tree)) w.variables; processes = w.processes; statements = subst (λ n. n ≤ 400) (sym (processes_same tree.processes)) w.statements },
)
