-- The limits on how large a program may be: 64 variables, 16 processes, and 400 statements, those inside others and in groups included.
use Rattle.std.specs.Prelude.{ℕ, ◌+◌, ◌≤◌, length, map}
use Rattle.spl_parser.specs.ProgramTree.{Statement, stated, Action, conditional, while_do, forever, block, select, cooperate, group, Branch, no_branch, branch, Statements, no_statements, followed, body, Bodies, no_bodies, beside, bodies, Program}
use Rattle.program_meaning.specs.Meaning.{all_declared}

-- the statements in what is written
abbrev mutual
  pub in_statement : Statement → ℕ
  in_statement (stated label place a) = 1 + in_action a

  pub in_action : Action → ℕ
  in_action (conditional e x y) = in_statement x + in_branch y
  in_action (while_do e x) = in_statement x
  in_action (forever x) = in_statement x
  in_action (block xs) = in_statements xs
  in_action (select xs) = in_statements xs
  in_action (group xs) = in_statements xs
  in_action (cooperate bs) = in_bodies bs
  in_action _ = 0

  pub in_branch : Branch → ℕ
  in_branch no_branch = 0
  in_branch (branch x) = in_statement x

  pub in_statements : Statements → ℕ
  in_statements no_statements = 0
  in_statements (followed x xs) = in_statement x + in_statements xs

  pub in_bodies : Bodies → ℕ
  in_bodies no_bodies = 0
  in_bodies (beside (body xs end) bs) = in_statements xs + in_bodies bs

pub record IsSmall (tree : Program) : Type 0 where
  pub variables : length (all_declared tree) ≤ 64
  pub processes : length tree.processes ≤ 16
  pub statements : in_bodies (bodies (map (λ q. q.body) tree.processes)) ≤ 400
