-- Programs as plain trees.
--
-- The statements are those of the Simple Programming Language of Manna and Pnueli, *Temporal Verification of Reactive
-- Systems: Safety*, section 0.2: atomic statements, conditionals, loops, blocks, selections, cooperations and groups.
use Rattle.std.specs.Prelude.{ℕ, zero, suc, List, Option, Some, None}
use Rattle.st_linear.specs.Linear.{Linear}
use Rattle.st_form.specs.Formula.{Formula}

-- a right side
pub data Term : Type 0 where
  number : Linear → Term
  truth : Formula → Term

-- a statement inside a group, and a list of them
mutual
  pub data Piece : Type 0 where
    piece_skip : Piece
    piece_assign : List (ℕ × Term) → Piece
    piece_await : Formula → Piece
    piece_if : Formula → Pieces → Pieces → Piece

  pub data Pieces : Type 0 where
    no_piece : Pieces
    piece : Piece → Pieces → Pieces

-- a statement is its occurrence, its location, and what it does
mutual
  pub data Statement : Type 0 where
    stated : (occurrence location : ℕ) → Action → Statement

  pub data Action : Type 0 where
    skip : Action
    critical : Action
    noncritical : Action
    assign : List (ℕ × Term) → Action
    await : Formula → Action
    request : ℕ → Action
    release : ℕ → Action
    if_then : Formula → Statement → Action
    if_else : Formula → Statement → Statement → Action
    while_do : Formula → Statement → Action
    block : Statements → Action
    select : Statements → Action
    cooperate : Processes → Action
    group : Pieces → Action

  -- the statements of a block, or the branches of a selection
  pub data Statements : Type 0 where
    no_statement : Statements
    statement : Statement → Statements → Statements

  -- a process, or a child of a cooperation: its body, and the location of its end
  pub data Process : Type 0 where
    process : (body : Statements) (end : ℕ) → Process

  pub data Processes : Type 0 where
    no_process : Processes
    beside : Process → Processes → Processes

abbrev pub occurrence : Statement → ℕ
occurrence (stated o l a) = o

abbrev pub location : Statement → ℕ
location (stated o l a) = l

abbrev pub action : Statement → Action
action (stated o l a) = a

-- the statement at a place of a list
abbrev pub nth : Statements → ℕ → Option Statement
nth no_statement k = None
nth (statement s ss) zero = Some s
nth (statement s ss) (suc k) = nth ss k
