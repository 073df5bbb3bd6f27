-- Locations in text order, the heads of selections, and how many statements there are in what.
--
-- The first statement of a block has the block's location and each branch of a selection the selection's; every other
-- statement has one of its own, and so has the end of each component, behind all its statements.
use Rattle.std.specs.Prelude.{◌≡◌, ℕ, suc, ⊤}
use Rattle.st_program.specs.Tree.{Statement, stated, skip, if_then, if_else, while_do, block, select, cooperate, group, Action, Statements, no_statement, statement, Pieces, no_piece, piece, process, Processes, no_process, beside}

-- the next free location behind a statement whose own location is given and below next
abbrev mutual
  pub location_end : Statement → ℕ → ℕ
  location_end (stated o l a) next = within_end a next

  pub within_end : Action → ℕ → ℕ
  within_end (if_then t y) next = location_end y (suc next)
  within_end (if_else t y n) next = location_end n (suc (location_end y (suc next)))
  within_end (while_do t b) next = location_end b (suc next)
  within_end (block ss) next = head_end ss next
  within_end (select ss) next = among_end ss next
  within_end (cooperate ps) next = inside_end ps next
  within_end skip next = next
  within_end _ next = next

  -- the first has the location of what it stands in
  pub head_end : Statements → ℕ → ℕ
  head_end no_statement next = next
  head_end (statement s ss) next = along_end ss (location_end s next)

  pub along_end : Statements → ℕ → ℕ
  along_end no_statement next = next
  along_end (statement s ss) next = along_end ss (location_end s (suc next))

  -- all have the location of what they stand in
  pub among_end : Statements → ℕ → ℕ
  among_end no_statement next = next
  among_end (statement s ss) next = among_end ss (location_end s next)

  -- an end location behind each body
  pub inside_end : Processes → ℕ → ℕ
  inside_end no_process next = next
  inside_end (beside (process ss end) ps) next = inside_end ps (suc (along_end ss next))

abbrev pub SomeProcess : Processes → Type 0
SomeProcess no_process = ⊥
SomeProcess (beside x ps) = ⊤

-- a statement has the location own, and those in it are numbered in text order from next on
abbrev mutual
  pub IsPlaced : Statement → ℕ → ℕ → Type 0
  IsPlaced (stated o l a) own next = (l ≡ own) × WithinPlaced a own next

  pub WithinPlaced : Action → ℕ → ℕ → Type 0
  WithinPlaced (if_then t y) own next = IsPlaced y next (suc next)
  WithinPlaced (if_else t y n) own next =
      IsPlaced y next (suc next) × IsPlaced n (location_end y (suc next)) (suc (location_end y (suc next)))
  WithinPlaced (while_do t b) own next = IsPlaced b next (suc next)
  WithinPlaced (block ss) own next = HeadPlaced ss own next
  WithinPlaced (select ss) own next = AmongPlaced ss own next
  WithinPlaced (cooperate ps) own next = SomeProcess ps × InsidePlaced ps next
  WithinPlaced skip own next = ⊤
  WithinPlaced _ own next = ⊤

  -- no block is empty
  pub HeadPlaced : Statements → ℕ → ℕ → Type 0
  HeadPlaced no_statement own next = ⊥
  HeadPlaced (statement s ss) own next = IsPlaced s own next × AlongPlaced ss (location_end s next)

  pub AlongPlaced : Statements → ℕ → Type 0
  AlongPlaced no_statement next = ⊤
  AlongPlaced (statement s ss) next = IsPlaced s next (suc next) × AlongPlaced ss (location_end s (suc next))

  pub AmongPlaced : Statements → ℕ → ℕ → Type 0
  AmongPlaced no_statement own next = ⊤
  AmongPlaced (statement s ss) own next = IsPlaced s own next × AmongPlaced ss own (location_end s next)

  pub InsidePlaced : Processes → ℕ → Type 0
  InsidePlaced no_process next = ⊤
  InsidePlaced (beside (process ss end) ps) next = AlongPlaced ss next × (end ≡ along_end ss next) × InsidePlaced ps (suc end)

-- a statement begins with no loop, looked at through blocks and selections
abbrev mutual
  pub NoLoop : Statement → Type 0
  NoLoop (stated o l (while_do t b)) = ⊥
  NoLoop (stated o l (block ss)) = NoLoopFirst ss
  NoLoop (stated o l (select ss)) = NoLoops ss
  NoLoop (stated o l skip) = ⊤
  NoLoop (stated o l _) = ⊤

  pub NoLoopFirst : Statements → Type 0
  NoLoopFirst no_statement = ⊤
  NoLoopFirst (statement s ss) = NoLoop s

  pub NoLoops : Statements → Type 0
  NoLoops no_statement = ⊤
  NoLoops (statement s ss) = NoLoop s × NoLoops ss

-- no branch of a selection begins with a loop
abbrev pub HeadsFit : Action → Type 0
HeadsFit (select ss) = NoLoops ss
HeadsFit skip = ⊤
HeadsFit _ = ⊤

abbrev pub SomeStatement : Statements → Type 0
SomeStatement no_statement = ⊥
SomeStatement (statement s ss) = ⊤

abbrev pub TwoStatements : Statements → Type 0
TwoStatements no_statement = ⊥
TwoStatements (statement s ss) = SomeStatement ss

abbrev pub TwoProcesses : Processes → Type 0
TwoProcesses no_process = ⊥
TwoProcesses (beside x ps) = SomeProcess ps

abbrev pub SomePiece : Pieces → Type 0
SomePiece no_piece = ⊥
SomePiece (piece x xs) = ⊤

-- each of these processes has a statement
abbrev pub BodiesFit : Processes → Type 0
BodiesFit no_process = ⊤
BodiesFit (beside (process ss end) ps) = SomeStatement ss × BodiesFit ps

-- a selection has two branches or more, a cooperation two children or more and each of them a statement, and a group a
-- statement
abbrev pub ShapeFits : Action → Type 0
ShapeFits (select ss) = TwoStatements ss
ShapeFits (cooperate ps) = TwoProcesses ps × BodiesFit ps
ShapeFits (group xs) = SomePiece xs
ShapeFits skip = ⊤
ShapeFits _ = ⊤
