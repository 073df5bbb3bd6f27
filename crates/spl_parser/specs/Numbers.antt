-- How many variables, processes and statements a program has, which is what its limits count.
use Rattle.std.specs.Prelude.{ℕ, ◌+◌, ◌≤◌, List, [], ◌∷◌, length}
use Rattle.spl_parser.specs.ProgramTree.{Statement, stated, Action, skip, critical, noncritical, assign, assign_all, await, request, release, conditional, while_do, forever, block, select, cooperate, group, Branch, no_branch, branch, Statements, no_statements, followed, Body, body, Bodies, no_bodies, beside, Declaration, Process, Program}

-- statements, those inside a statement and inside groups included
abbrev mutual
  pub in_statement : Statement → ℕ
  in_statement (stated label place a) = 1 + in_action a

  pub in_action : Action → ℕ
  in_action skip = 0
  in_action critical = 0
  in_action noncritical = 0
  in_action (assign l e) = 0
  in_action (assign_all targets list values) = 0
  in_action (await e) = 0
  in_action (request l) = 0
  in_action (release l) = 0
  in_action (conditional e x y) = in_statement x + in_branch y
  in_action (while_do e x) = in_statement x
  in_action (forever x) = in_statement x
  in_action (block xs) = in_statements xs
  in_action (select xs) = in_statements xs
  in_action (cooperate bs) = in_bodies bs
  in_action (group xs) = in_statements xs

  pub in_branch : Branch → ℕ
  in_branch no_branch = 0
  in_branch (branch x) = in_statement x

  pub in_statements : Statements → ℕ
  in_statements no_statements = 0
  in_statements (followed x xs) = in_statement x + in_statements xs

  pub in_body : Body → ℕ
  in_body (body xs end) = in_statements xs

  pub in_bodies : Bodies → ℕ
  in_bodies no_bodies = 0
  in_bodies (beside b bs) = in_body b + in_bodies bs

-- variables that are declared
abbrev pub declared : List Declaration → ℕ
declared [] = 0
declared (d ∷ ds) = length d.names + declared ds

-- variables and statements of processes
abbrev pub declared_inside : List Process → ℕ
declared_inside [] = 0
declared_inside (p ∷ ps) = declared p.declarations + declared_inside ps

abbrev pub in_processes : List Process → ℕ
in_processes [] = 0
in_processes (p ∷ ps) = in_body p.body + in_processes ps

-- the limits on numbers
pub record IsWithin (x : Program) : Type 0 where
  pub variables : declared x.declarations + declared_inside x.processes ≤ 64
  pub processes : length x.processes ≤ 16
  pub statements : in_processes x.processes ≤ 400
