-- The steps of what is left to run, as a list.
--
-- Steps interleave: each is one atomic statement of one process, or of one child of a cooperation (Manna and Pnueli,
-- *Temporal Verification of Reactive Systems: Safety*, section 0.5, given here on program trees). The relation by cases
-- that says the same stands in `Cases`.
use Rattle.std.specs.Prelude.{ℕ, suc, ◌+◌, List, [], ◌∷◌, ◌++◌, map, Option, Some, None, length, if◌then◌else◌}
use Rattle.st_form.specs.Formula.{row}
use Rattle.st_form.specs.declared.conditions.Part.TheVariants.{Whole, Entry, Exit}
use Rattle.st_form.specs.declared.conditions.TransName.TheVariants.{Step}
use Rattle.st_program.specs.Tree.{number, Statement, stated, Action, skip, critical, noncritical, assign, await, request, release, if_then, if_else, while_do, block, select, cooperate, group, Statements, no_statement, statement, Processes, occurrence}
use Rattle.st_program.specs.Spots.{Body, Spot, bodies, all_spots, spot, body}
use Rattle.st_program.specs.Groups.{Link, paths_along}
use Rattle.st_program.specs.Residuals.{Rest, Done, Run, Then, Again, Inside, Rests, no_rest, rests}
use Rattle.spl_semantics.specs.Stores.{Store, holds, assigned, one_less, one_more, walked}
use Rattle.spl_semantics.specs.Going.{Act, act, around, join, back, begin, all_done}

-- a group's path leads to a store, if it can be walked
abbrev pub path_act : ℕ → ℕ → Option Store → List (Act Rest)
path_act o k None = []
path_act o k (Some store) = act (Step o Whole) k Done store ∷ []

abbrev pub path_acts : ℕ → ℕ → List (List Link) → Store → List (Act Rest)
path_acts o k [] store = []
path_acts o k (path ∷ paths) store = path_act o k (walked path store) ++ path_acts o (suc k) paths store

-- what a statement can do first; c is the number of the first component in it
abbrev mutual
  pub first_acts : Statement → ℕ → Store → List (Act Rest)
  first_acts (stated o l a) c store = own_acts a o c store

  pub own_acts : Action → ℕ → ℕ → Store → List (Act Rest)
  own_acts skip o c store = act (Step o Whole) 1 Done store ∷ []
  own_acts critical o c store = act (Step o Whole) 1 Done store ∷ []
  own_acts noncritical o c store = act (Step o Whole) 1 Done store ∷ []
  own_acts (assign xs) o c store = act (Step o Whole) 1 Done (assigned xs store) ∷ []
  own_acts (await t) o c store = if holds t store then act (Step o Whole) 1 Done store ∷ [] else []
  own_acts (request v) o c store =
      if holds (row (one_less v)) store
      then act (Step o Whole) 1 Done (assigned ((v, number (one_less v)) ∷ []) store) ∷ []
      else []
  own_acts (release v) o c store = act (Step o Whole) 1 Done (assigned ((v, number (one_more v)) ∷ []) store) ∷ []
  own_acts (if_then t y) o c store =
      if holds t store
      then act (Step o Whole) 1 (Run (occurrence y)) store ∷ []
      else act (Step o Whole) 2 Done store ∷ []
  own_acts (if_else t y n) o c store =
      if holds t store
      then act (Step o Whole) 1 (Run (occurrence y)) store ∷ []
      else act (Step o Whole) 2 (Run (occurrence n)) store ∷ []
  own_acts (while_do t b) o c store =
      if holds t store
      then act (Step o Whole) 1 (Again (Run (occurrence b)) o) store ∷ []
      else act (Step o Whole) 2 Done store ∷ []
  own_acts (block ss) o c store = acts_along ss o c store
  own_acts (select ss) o c store = acts_among ss c store
  own_acts (cooperate ps) o c store = act (Step o Entry) 1 (Inside o (begin ps c)) store ∷ []
  own_acts (group xs) o c store = path_acts o 1 (paths_along xs) store

  pub acts_along : Statements → ℕ → ℕ → Store → List (Act Rest)
  acts_along no_statement o c store = []
  acts_along (statement s ss) o c store = map (around (λ r. join (statement s ss) r o 1)) (first_acts s c store)

  pub acts_among : Statements → ℕ → Store → List (Act Rest)
  acts_among no_statement c store = []
  acts_among (statement s ss) c store = first_acts s c store ++ acts_among ss (c + length (bodies s)) store

abbrev pub acts_at : Option Spot → ℕ → Store → List (Act Rest)
acts_at None m store = []
acts_at (Some x) m store = first_acts x.stmt (m + x.before) store

-- the step of what stands in front of block b from its statement k on; none where there is no such block
abbrev pub joined_acts : Option Body → ℕ → ℕ → List (Act Rest) → List (Act Rest)
joined_acts None b k acts = []
joined_acts (Some x) b k acts = map (around (λ r. join x.0 r b k)) acts

-- all steps of what is left
abbrev mutual
  pub steps : Rest → Processes → Store → List (Act Rest)
  steps Done p store = []
  steps (Run n) p store = acts_at (spot p n) (length (all_spots p)) store
  steps (Then r b k) p store = joined_acts (body p b) b k (steps r p store)
  steps (Again r w) p store = map (around (back w)) (steps r p store)
  steps (Inside c rs) p store =
      map (around (Inside c)) (steps_of rs p store)
      ++ (if all_done rs then act (Step c Exit) 1 Done store ∷ [] else [])

  -- one of them steps
  pub steps_of : Rests → Processes → Store → List (Act Rests)
  steps_of no_rest p store = []
  steps_of (rests r rs) p store =
      map (around (λ x. rests x rs)) (steps r p store) ++ map (around (λ xs. rests r xs)) (steps_of rs p store)
