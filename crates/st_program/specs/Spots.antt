-- Statements and components of a program by number, in text order.
--
-- A component is a process or a child of a cooperation. A spot is a statement with what the text around it fixes: the
-- location that control reaches behind it, and how many components begin before it. The occurrence of a statement is
-- its place in the list of all spots.
use Rattle.std.specs.Prelude.{◌≡◌, ℕ, suc, ◌+◌, ◌-◌, nat_lt, if◌then◌else◌, List, [], ◌∷◌, ◌++◌, length, slice_get, Option, Some, None}
use Rattle.std.specs.Option.{option_map}
use Rattle.st_program.specs.Tree.{Statement, stated, Action, skip, if_then, if_else, while_do, block, select, cooperate, Statements, no_statement, statement, process, Processes, no_process, beside, occurrence, location, action}

-- where control is at the beginning of a list, which is followed by the location next
abbrev pub entry : Statements → ℕ → ℕ
entry no_statement next = next
entry (statement s ss) next = location s

-- the statements of a component or of a block, and the location behind them
abbrev pub Body : Type 0
Body = Statements × ℕ

-- the components in a part of the text, in text order
abbrev mutual
  pub bodies : Statement → List Body
  bodies (stated o l a) = bodies_inside a

  pub bodies_inside : Action → List Body
  bodies_inside (if_then t y) = bodies y
  bodies_inside (if_else t y n) = bodies y ++ bodies n
  bodies_inside (while_do t b) = bodies b
  bodies_inside (block ss) = bodies_in ss
  bodies_inside (select ss) = bodies_in ss
  bodies_inside (cooperate ps) = bodies_of ps
  bodies_inside skip = []
  bodies_inside _ = []

  pub bodies_in : Statements → List Body
  bodies_in no_statement = []
  bodies_in (statement s ss) = bodies s ++ bodies_in ss

  pub bodies_of : Processes → List Body
  bodies_of no_process = []
  bodies_of (beside (process ss end) ps) = (ss, end) ∷ (bodies_in ss ++ bodies_of ps)

pub record Spot : Type 0 where
  pub stmt : Statement
  pub next : ℕ
  pub before : ℕ

abbrev pub at_spot : Statement → ℕ → ℕ → Spot
at_spot s next c = record { stmt = s; next = next; before = c }

-- all statements of a part of the text, in text order
abbrev mutual
  pub spots : Statement → ℕ → ℕ → List Spot
  spots (stated o l a) next c = at_spot (stated o l a) next c ∷ spots_within a l next c

  -- what stands in a statement with the location l
  pub spots_within : Action → ℕ → ℕ → ℕ → List Spot
  spots_within (if_then t y) l next c = spots y next c
  spots_within (if_else t y n) l next c = spots y next c ++ spots n next (c + length (bodies y))
  spots_within (while_do t b) l next c = spots b l c
  spots_within (block ss) l next c = spots_along ss next c
  spots_within (select ss) l next c = spots_among ss next c
  spots_within (cooperate ps) l next c = spots_inside ps c
  spots_within skip l next c = []
  spots_within _ l next c = []

  -- one after another
  pub spots_along : Statements → ℕ → ℕ → List Spot
  spots_along no_statement next c = []
  spots_along (statement s ss) next c = spots s (entry ss next) c ++ spots_along ss next (c + length (bodies s))

  -- one of them
  pub spots_among : Statements → ℕ → ℕ → List Spot
  spots_among no_statement next c = []
  spots_among (statement s ss) next c = spots s next c ++ spots_among ss next (c + length (bodies s))

  -- side by side
  pub spots_inside : Processes → ℕ → List Spot
  spots_inside no_process c = []
  spots_inside (beside (process ss end) ps) c =
      spots_along ss end (suc c) ++ spots_inside ps (suc c + length (bodies_in ss))

-- a program is its processes
abbrev pub all_spots : Processes → List Spot
all_spots p = spots_inside p 0

abbrev pub spot : Processes → ℕ → Option Spot
spot p n = slice_get (all_spots p) n

-- the statement with this occurrence
abbrev pub statement_at : Processes → ℕ → Option Statement
statement_at p n = option_map (λ x. x.stmt) (spot p n)

-- occurrences are numbered in text order
abbrev pub IsNumbered : Processes → Type 0
IsNumbered p = (n : ℕ) (x : Spot) → spot p n ≡ Some x → occurrence x.stmt ≡ n

-- the statements of a block
abbrev pub block_items : Action → ℕ → Option Body
block_items (block ss) next = Some (ss, next)
block_items skip next = None
block_items _ next = None

abbrev pub items_of : Option Spot → Option Body
items_of None = None
items_of (Some x) = block_items (action x.stmt) x.next

-- what a number of a block or of a component names: below the number of statements the block of that occurrence, from
-- there on a component's body
abbrev pub body : Processes → ℕ → Option Body
body p b =
    if nat_lt b (length (all_spots p))
    then items_of (spot p b)
    else slice_get (bodies_of p) (b - length (all_spots p))
