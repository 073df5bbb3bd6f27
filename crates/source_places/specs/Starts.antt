-- Where the statements of a program begin, in the order in which the typer numbers them.
use Rattle.std.specs.Prelude.{ℕ, List, [], ◌∷◌, ◌++◌, Option, Some, None}
use Rattle.st_reading.specs.Reading.{Label}
use Rattle.spl_parser.specs.ProgramTree.{Statement, stated, Action, skip, critical, noncritical, assign, assign_all, await, request, release, conditional, while_do, forever, block, select, cooperate, group, Branch, no_branch, branch, Statements, no_statements, followed, Body, body, Bodies, no_bodies, beside, Process, label_view}
use Rattle.source_places.specs.declared.starting.Start.{Start}

-- the label of a statement, and the place of the first token behind it
pub record Begin : Type 0 where
  pub label : Option Label
  pub place : ℕ

abbrev pub start_view : Start → Begin
start_view s = record { label = label_view s.label; place = s.place }

-- the place of the label, if there is one
abbrev pub first_among : Option Label → ℕ → ℕ
first_among None place = place
first_among (Some l) place = l.place

-- the place of its first token
abbrev pub first_of : Begin → ℕ
first_of b = first_among b.label b.place

-- a statement before those inside it; what stands inside a group has no number
abbrev mutual
  pub starts_in : Statement → List Begin
  starts_in (stated label place a) = record { label = label; place = place } ∷ starts_inside a

  pub starts_inside : Action → List Begin
  starts_inside skip = []
  starts_inside critical = []
  starts_inside noncritical = []
  starts_inside (assign l e) = []
  starts_inside (assign_all targets list values) = []
  starts_inside (await e) = []
  starts_inside (request l) = []
  starts_inside (release l) = []
  starts_inside (conditional e x y) = starts_in x ++ starts_behind y
  starts_inside (while_do e x) = starts_in x
  starts_inside (forever x) = starts_in x
  starts_inside (block xs) = starts_along xs
  starts_inside (select xs) = starts_along xs
  starts_inside (cooperate bs) = starts_beside bs
  starts_inside (group xs) = []

  pub starts_behind : Branch → List Begin
  starts_behind no_branch = []
  starts_behind (branch x) = starts_in x

  pub starts_along : Statements → List Begin
  starts_along no_statements = []
  starts_along (followed x xs) = starts_in x ++ starts_along xs

  pub starts_of : Body → List Begin
  starts_of (body xs end) = starts_along xs

  pub starts_beside : Bodies → List Begin
  starts_beside no_bodies = []
  starts_beside (beside b bs) = starts_of b ++ starts_beside bs

-- of all processes, in text order
abbrev pub program_starts : List Process → List Begin
program_starts [] = []
program_starts (p ∷ ps) = starts_of p.body ++ program_starts ps
