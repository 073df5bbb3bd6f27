-- The types of program trees as plain data.
use Rattle.std.specs.Prelude.{ℕ, List, [], ◌∷◌, map}
use Rattle.st_form.specs.Formula.{Formula}
use Rattle.st_form.specs.Plain.{plain}
use Rattle.st_program.specs.declared.trees.Value.{Value}
use Rattle.st_program.specs.declared.trees.Value.TheVariants.{Number, Truth}
use Rattle.st_program.specs.declared.trees.Inner as GInner
use Rattle.st_program.specs.declared.trees.Stmt as GStmt
use Rattle.st_program.specs.declared.trees.Kind as GKind
use Rattle.st_program.specs.declared.trees.Child as GChild
use Rattle.st_program.specs.Tree.{Term, number, truth, Piece, Pieces, piece_skip, piece_assign, piece_await, piece_if, no_piece, piece, Statement, stated, Action, Statements, no_statement, statement, Process, process, Processes, no_process, beside}
use Rattle.st_program.specs.Tree

abbrev pub plain_term : Value → Term
plain_term (Number f) = number f
plain_term (Truth f) = truth (plain f)

abbrev pub plain_target : ℕ × Value → ℕ × Term
plain_target x = (x.0, plain_term x.1)

abbrev pub plain_targets : List (ℕ × Value) → List (ℕ × Term)
plain_targets xs = map plain_target xs

abbrev mutual
  pub plain_inner : GInner.Inner → Piece
  plain_inner GInner.Skip = piece_skip
  plain_inner (GInner.Assign xs) = piece_assign (plain_targets xs.items)
  plain_inner (GInner.Await f) = piece_await (plain f)
  plain_inner (GInner.If' f h row i row2) = piece_if (plain f) (plain_inners row) (plain_inners row2)

  pub plain_inners : {m : _} → GInner.Row_of-Inner m → Pieces
  plain_inners GInner.end_of-Inner = no_piece
  plain_inners (GInner.more_of-Inner x rest) = piece (plain_inner x) (plain_inners rest)

abbrev pub plain_pieces : List GInner.Inner → Pieces
plain_pieces [] = no_piece
plain_pieces (x ∷ xs) = piece (plain_inner x) (plain_pieces xs)

abbrev mutual
  pub plain_kind : GKind.Kind → Action
  plain_kind GKind.Skip = Tree.skip
  plain_kind GKind.Critical = Tree.critical
  plain_kind GKind.Noncritical = Tree.noncritical
  plain_kind (GKind.Assign xs) = Tree.assign (plain_targets xs.items)
  plain_kind (GKind.Await f) = Tree.await (plain f)
  plain_kind (GKind.Request v) = Tree.request v
  plain_kind (GKind.Release v) = Tree.release v
  plain_kind (GKind.If' f p yo yl yk held) = plain_if (plain f) (stated yo yl (plain_kind yk)) held
  plain_kind (GKind.While' f p so sl sk) = Tree.while_do (plain f) (stated so sl (plain_kind sk))
  plain_kind (GKind.Block' h row) = Tree.block (plain_row row)
  plain_kind (GKind.Select' h row) = Tree.select (plain_row row)
  plain_kind (GKind.Cooperate' h row) = Tree.cooperate (plain_sides row)
  plain_kind (GKind.Group xs) = Tree.group (plain_pieces xs.items)

  pub plain_if : Formula → Statement → GKind.Held-Kind-If-2 → Action
  plain_if t y GKind.None' = Tree.if_then t y
  plain_if t y (GKind.Some' p qo ql qk) = Tree.if_else t y (stated qo ql (plain_kind qk))

  pub plain_row : {m : _} → GKind.Row_of-Stmt m → Statements
  plain_row GKind.end_of-Stmt = no_statement
  plain_row (GKind.more_of-Stmt o l k rest) = statement (stated o l (plain_kind k)) (plain_row rest)

  pub plain_sides : {m : _} → GKind.Row_of-Child m → Processes
  plain_sides GKind.end_of-Child = no_process
  plain_sides (GKind.more_of-Child c rest) = beside (plain_child c) (plain_sides rest)

  pub plain_child : GChild.Child → Process
  plain_child (GChild.Child' h row end) = process (plain_row row) end

abbrev pub plain_stmt : GStmt.Stmt → Statement
plain_stmt s = stated s.occ s.loc (plain_kind s.kind)

abbrev pub plain_stmts : List GStmt.Stmt → Statements
plain_stmts [] = no_statement
plain_stmts (s ∷ ss) = statement (plain_stmt s) (plain_stmts ss)

abbrev pub plain_children : List GChild.Child → Processes
plain_children [] = no_process
plain_children (c ∷ cs) = beside (plain_child c) (plain_children cs)
