-- How a step is seen from around: what is left behind a step of a part, of the block, loop or cooperation that it is a part of
-- (Manna and Pnueli, *Temporal Verification of Reactive Systems: Safety*, section 0.3, given here on program trees).
use Rattle.std.specs.Prelude.{ℕ, suc, ◌+◌, Bool, true, false, Option, Some, None, length}
use Rattle.st_form.specs.declared.conditions.TransName.{TransName}
use Rattle.st_program.specs.Tree.{Statement, Statements, process, Processes, no_process, beside, occurrence, nth}
use Rattle.st_program.specs.Spots.{bodies_in}
use Rattle.st_program.specs.Residuals.{Rest, Done, Run, Then, Again, Inside, Rests, no_rest, rests}
use Rattle.spl_semantics.specs.Stores.{Store}

-- a step: its name and mode, what is left behind it, and the store behind it
pub record Act (X : Type 0) : Type 0 where
  pub name : TransName
  pub mode : ℕ
  pub left : X
  pub store : Store

abbrev pub act : {X : Type 0} → TransName → ℕ → X → Store → Act X
act name mode left store = record { name = name; mode = mode; left = left; store = store }

-- the same step, seen from around
abbrev pub around : {X Y : Type 0} → (X → Y) → Act X → Act Y
around f a = record { name = a.name; mode = a.mode; left = f a.left; store = a.store }

-- the first part, and then what the block has from a statement on, if there is one
abbrev pub behind : Option Statement → Rest → ℕ → ℕ → Rest
behind None r b k = r
behind (Some s) r b k = Then r b k

-- the next statement of the block and what follows it
abbrev pub go_on : Option Statement → Option Statement → ℕ → ℕ → Rest
go_on None after b k = Done
go_on (Some s) after b k = behind after (Run (occurrence s)) b (suc k)

-- r, and then block b, which has these statements, from its statement k on
abbrev pub join : Statements → Rest → ℕ → ℕ → Rest
join ss Done b k = go_on (nth ss k) (nth ss (suc k)) b k
join ss (Run n) b k = behind (nth ss k) (Run n) b k
join ss (Then r c j) b k = behind (nth ss k) (Then r c j) b k
join ss (Again r w) b k = behind (nth ss k) (Again r w) b k
join ss (Inside c rs) b k = behind (nth ss k) (Inside c rs) b k

-- r, and then the loop
abbrev pub back : ℕ → Rest → Rest
back w Done = Run w
back w (Run n) = Again (Run n) w
back w (Then r b k) = Again (Then r b k) w
back w (Again r v) = Again (Again r v) w
back w (Inside c rs) = Again (Inside c rs) w

-- each child at the beginning of its body; c is the number of the first one's body
abbrev pub begin : Processes → ℕ → Rests
begin no_process c = no_rest
begin (beside (process ss end) ps) c = rests (join ss Done c 0) (begin ps (suc c + length (bodies_in ss)))

-- nothing is left of any of them
abbrev pub all_done : Rests → Bool
all_done no_rest = true
all_done (rests Done rs) = all_done rs
all_done (rests (Run n) rs) = false
all_done (rests (Then r b k) rs) = false
all_done (rests (Again r w) rs) = false
all_done (rests (Inside c rs) rss) = false
