-- What the limits of programs count, in the order of the text: variables as they are named, processes, statements as they begin,
-- and statements that stand too deep. Each is written as the fault that it is where it passes its limit.
use Rattle.std.specs.Prelude.{ℕ, zero, suc, ◌+◌, ◌≤◌, Bool, true, false, cond, List, [], ◌∷◌, ◌++◌, Option, Some, None, ◌≡◌}
use Rattle.st_tokens.specs.declared.limit.LimitKind.{LimitKind}
use Rattle.st_tokens.specs.declared.limit.LimitKind.TheVariants as limits
use Rattle.st_reading.specs.Reading.{Label}
use Rattle.st_reading.specs.Faults.{Passed, passed}
use Rattle.spl_parser.specs.ProgramTree.{Statement, stated, Action, skip, critical, noncritical, assign, assign_all, await, request, release, conditional, while_do, forever, block, select, cooperate, group, Branch, no_branch, branch, Statements, no_statements, followed, Body, body, Bodies, no_bodies, beside, Declaration, Process, Program}

-- the place of a statement's first token: that of its label, where it has one
abbrev pub front_of : Option Label → ℕ → ℕ
front_of None place = place
front_of (Some l) place = l.place

abbrev mutual
  -- A statement that may stand there with that many levels: itself, and what stands inside it. With none left, as many
  -- statements stand round it as may, and it stands too deep.
  pub statement_counts : ℕ → Statement → List Passed
  statement_counts zero (stated label place a) = passed limits.Statements (front_of label place) ∷ passed limits.Nesting (front_of label place) ∷ []
  statement_counts (suc levels) (stated label place a) = passed limits.Statements (front_of label place) ∷ action_counts levels a

  pub action_counts : ℕ → Action → List Passed
  action_counts levels skip = []
  action_counts levels critical = []
  action_counts levels noncritical = []
  action_counts levels (assign l e) = []
  action_counts levels (assign_all targets list values) = []
  action_counts levels (await e) = []
  action_counts levels (request l) = []
  action_counts levels (release l) = []
  action_counts levels (conditional e x y) = statement_counts levels x ++ branch_counts levels y
  action_counts levels (while_do e x) = statement_counts levels x
  action_counts levels (forever x) = statement_counts levels x
  action_counts levels (block xs) = statements_counts levels xs
  action_counts levels (select xs) = statements_counts levels xs
  action_counts levels (cooperate bs) = bodies_counts levels bs
  action_counts levels (group xs) = statements_counts levels xs

  pub branch_counts : ℕ → Branch → List Passed
  branch_counts levels no_branch = []
  branch_counts levels (branch x) = statement_counts levels x

  pub statements_counts : ℕ → Statements → List Passed
  statements_counts levels no_statements = []
  statements_counts levels (followed x xs) = statement_counts levels x ++ statements_counts levels xs

  pub body_counts : ℕ → Body → List Passed
  body_counts levels (body xs end) = statements_counts levels xs

  pub bodies_counts : ℕ → Bodies → List Passed
  bodies_counts levels no_bodies = []
  bodies_counts levels (beside b bs) = body_counts levels b ++ bodies_counts levels bs

-- what is counted in a list, item by item
abbrev pub all_counts : {A : Type 0} → (A → List Passed) → List A → List Passed
all_counts counts [] = []
all_counts counts (x ∷ xs) = counts x ++ all_counts counts xs

abbrev pub name_counts : Label → List Passed
name_counts l = passed limits.Variables l.place ∷ []

abbrev pub declaration_counts : Declaration → List Passed
declaration_counts d = all_counts name_counts d.names

-- 32 statements may stand round one: it stands at the 33rd level
abbrev pub process_counts : Process → List Passed
process_counts p = passed limits.Processes p.name.place ∷ (all_counts declaration_counts p.declarations ++ body_counts 33 p.body)

abbrev pub program_counts : Program → List Passed
program_counts x = all_counts declaration_counts x.declarations ++ all_counts process_counts x.processes

-- HOW MANY THERE ARE
abbrev pub is_kind : LimitKind → LimitKind → Bool
is_kind limits.Variables limits.Variables = true
is_kind limits.Processes limits.Processes = true
is_kind limits.Statements limits.Statements = true
is_kind limits.Nesting limits.Nesting = true
is_kind _ _ = false

-- 1 where it is counted by that limit
abbrev pub one_of : LimitKind → Passed → ℕ
one_of kind (passed k place) = cond (is_kind kind k) 1 0

abbrev pub how_many : LimitKind → List Passed → ℕ
how_many kind [] = 0
how_many kind (c ∷ cs) = one_of kind c + how_many kind cs

-- the limits of programs
pub record AreWithin (cs : List Passed) : Type 0 where
  pub variables : how_many limits.Variables cs ≤ 64
  pub processes : how_many limits.Processes cs ≤ 16
  pub statements : how_many limits.Statements cs ≤ 400
  pub nesting : how_many limits.Nesting cs ≡ 0

-- The first that passes its limit: what comes before it is within all limits, and with it no more.
pub record IsFirstPassed (cs : List Passed) (c : Passed) : Type 0 where
  pub before : List Passed
  pub further : List Passed
  pub is : cs ≡ before ++ c ∷ further
  pub within : AreWithin before
  pub over : AreWithin (before ++ c ∷ []) → ⊥
