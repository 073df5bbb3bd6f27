-- The steps of what is left to run, as a relation in two layers: what a statement does by itself, one row for each way, and
-- where in what is left a statement acts (Manna and Pnueli, *Temporal Verification of Reactive Systems: Safety*, section 0.3,
-- given here on program trees).
use Rattle.std.specs.Prelude.{◌≡◌, ℕ, suc, ◌+◌, true, false, List, [], ◌∷◌, slice_get, Some, length}
use Rattle.st_linear.specs.Linear.{Linear}
use Rattle.st_form.specs.Formula.{Formula, row}
use Rattle.st_form.specs.declared.conditions.Part.TheVariants.{Whole, Entry, Exit}
use Rattle.st_form.specs.declared.conditions.TransName.TheVariants as names
use Rattle.st_program.specs.Tree.{Term, number, Statement, stated, Action, skip, critical, noncritical, assign, await, request, release, if_then, if_else, while_do, block, select, cooperate, group, Statements, statement, Processes, Pieces, occurrence}
use Rattle.st_program.specs.Groups.{Link, paths_along}
use Rattle.st_program.specs.Spots.{Body, at_spot, all_spots, spot, body}
use Rattle.st_program.specs.Residuals.{Rest, Done, Run, Then, Again, Inside, Rests, rests}
use Rattle.spl_semantics.specs.Stores.{Store, holds, assigned, one_less, one_more, walked}
use Rattle.spl_semantics.specs.Going.{Act, act, around, join, back, begin, all_done}

-- the store behind the assignment of a form to a variable
abbrev pub given : ℕ → Linear → Store → Store
given v f σ = assigned ((v, number f) ∷ []) σ

-- what the statement of occurrence o does by itself in the store σ: its mode, what is left of it, and the store behind it
pub data Acts (o : ℕ) (σ : Store) : Action → ℕ → Rest → Store → Type 0 where
  skips : Acts o σ skip 1 Done σ
  is_critical : Acts o σ critical 1 Done σ
  is_noncritical : Acts o σ noncritical 1 Done σ
  assigns : {xs : List (ℕ × Term)} → Acts o σ (assign xs) 1 Done (assigned xs σ)
  awaits : {t : Formula} → holds t σ ≡ true → Acts o σ (await t) 1 Done σ
  requests : {v : ℕ} → holds (row (one_less v)) σ ≡ true → Acts o σ (request v) 1 Done (given v (one_less v) σ)
  releases : {v : ℕ} → Acts o σ (release v) 1 Done (given v (one_more v) σ)
  if_holds : {t : Formula} {y : Statement} → holds t σ ≡ true → Acts o σ (if_then t y) 1 (Run (occurrence y)) σ
  if_fails : {t : Formula} {y : Statement} → holds t σ ≡ false → Acts o σ (if_then t y) 2 Done σ
  either_holds : {t : Formula} {y n : Statement} → holds t σ ≡ true → Acts o σ (if_else t y n) 1 (Run (occurrence y)) σ
  either_fails : {t : Formula} {y n : Statement} → holds t σ ≡ false → Acts o σ (if_else t y n) 2 (Run (occurrence n)) σ
  while_holds : {t : Formula} {b : Statement} → holds t σ ≡ true → Acts o σ (while_do t b) 1 (Again (Run (occurrence b)) o) σ
  while_fails : {t : Formula} {b : Statement} → holds t σ ≡ false → Acts o σ (while_do t b) 2 Done σ
  walks : {xs : Pieces} {k : ℕ} {path : List Link} {τ : Store}
      → slice_get (paths_along xs) k ≡ Some path → walked path σ ≡ Some τ → Acts o σ (group xs) (suc k) Done τ

-- the statement of occurrence o is one of this kind, before whose text c components begin
abbrev pub StandsBehind : Processes → ℕ → Action → ℕ → Type 0
StandsBehind p o a c = (l : ℕ) × (next : ℕ) × (spot p o ≡ Some (at_spot (stated o l a) next c))

abbrev pub Stands : Processes → ℕ → Action → Type 0
Stands p o a = (c : ℕ) × StandsBehind p o a c

-- a branch of a selection
pub data Branch (s : Statement) : Statements → Type 0 where
  this : {ss : Statements} → Branch s (statement s ss)
  later : {r : Statement} {ss : Statements} → Branch s ss → Branch s (statement r ss)

-- the steps of what is left in the store σ: of a statement by itself, as the first one of a block or as a branch of a
-- selection; of a cooperation that is entered, in which a child steps, and that is left; and of a part, seen from around
mutual
  pub data Step (p : Processes) (σ : Store) : Rest → Act Rest → Type 0 where
    by_itself : {o m : ℕ} {a : Action} {r : Rest} {τ : Store}
        → Stands p o a → Acts o σ a m r τ → Step p σ (Run o) (act (names.Step o Whole) m r τ)
    in_block : {b : ℕ} {ss : Statements} {x : Act Rest}
        → Stands p b (block ss) → Step p σ (join ss Done b 0) x → Step p σ (Run b) x
    in_branch : {o : ℕ} {ss : Statements} {s : Statement} {x : Act Rest}
        → Stands p o (select ss) → Branch s ss → Step p σ (Run (occurrence s)) x → Step p σ (Run o) x
    enters : {o c : ℕ} {ps : Processes} → StandsBehind p o (cooperate ps) c
        → Step p σ (Run o) (act (names.Step o Entry) 1 (Inside o (begin ps (length (all_spots p) + c))) σ)
    in_child : {o : ℕ} {rs : Rests} {x : Act Rests} → Steps p σ rs x → Step p σ (Inside o rs) (around (Inside o) x)
    leaves : {o : ℕ} {rs : Rests} → all_done rs ≡ true → Step p σ (Inside o rs) (act (names.Step o Exit) 1 Done σ)
    in_front : {b k : ℕ} {y : Body} {r : Rest} {x : Act Rest}
        → body p b ≡ Some y → Step p σ r x → Step p σ (Then r b k) (around (λ z. join y.0 z b k) x)
    in_loop : {w : ℕ} {r : Rest} {x : Act Rest} → Step p σ r x → Step p σ (Again r w) (around (back w) x)

  -- one of several steps
  pub data Steps (p : Processes) (σ : Store) : Rests → Act Rests → Type 0 where
    here_one : {r : Rest} {rs : Rests} {x : Act Rest} → Step p σ r x → Steps p σ (rests r rs) (around (λ z. rests z rs) x)
    there_one : {r : Rest} {rs : Rests} {x : Act Rests} → Steps p σ rs x → Steps p σ (rests r rs) (around (λ zs. rests r zs) x)
