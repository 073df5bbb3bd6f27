-- How statements and processes are seen that hold lists.
use Rattle.std.proofs.Common.{◌≡◌, ℕ, Vec, Global, refl, ap, sym, ◌∙◌}
use Rattle.st_program.specs.declared.trees.Stmt as GStmt
use Rattle.st_program.specs.declared.trees.Kind as GKind
use Rattle.st_program.specs.declared.trees.Child as GChild
use Rattle.st_program.specs.declared.trees.Kind.TheBlock as TB
use Rattle.st_program.specs.Tree.{stated, statement, process, beside, block, select, cooperate}
use Rattle.st_program.specs.Plain.{plain_kind, plain_row, plain_sides, plain_child, plain_stmts, plain_children}

row_items : {n : _} (row : GKind.Row_of-Stmt n) → plain_row row ≡ plain_stmts (GKind.items-the_row-Stmt n row)
row_items GKind.end_of-Stmt = refl
row_items (GKind.more_of-Stmt o l k rest) = ap (statement (stated o l (plain_kind k))) (row_items rest)

sides_items : {n : _} (row : GKind.Row_of-Child n) → plain_sides row ≡ plain_children (GKind.items-the_row-Child n row)
sides_items GKind.end_of-Child = refl
sides_items (GKind.more_of-Child c rest) = ap (beside (plain_child c)) (sides_items rest)

hidden_row : (v : Vec GStmt.Stmt Global) → plain_row (TB.hidden-the_row-Stmt-0 v) ≡ plain_stmts v.items
hidden_row v = row_items (TB.hidden-the_row-Stmt-0 v) ∙ ap plain_stmts (GKind.items_hidden-the_row-Stmt-0 v)

hidden_sides : (v : Vec GChild.Child Global) → plain_sides (TB.hidden-the_row-Child-1 v) ≡ plain_children v.items
hidden_sides v = sides_items (TB.hidden-the_row-Child-1 v) ∙ ap plain_children (GKind.items_hidden-the_row-Child-1 v)

pub kind-Block : (v : Vec GStmt.Stmt Global) → plain_kind (GKind.Block v) ≡ block (plain_stmts v.items)
kind-Block v = ap block (hidden_row v)

pub kind-Select : (v : Vec GStmt.Stmt Global) → plain_kind (GKind.Select v) ≡ select (plain_stmts v.items)
kind-Select v = ap select (hidden_row v)

pub kind-Cooperate : (v : Vec GChild.Child Global) → plain_kind (GKind.Cooperate v) ≡ cooperate (plain_children v.items)
kind-Cooperate v = ap cooperate (hidden_sides v)

-- the fields of a child
pub child_is : (c : GChild.Child) → plain_child c ≡ process (plain_stmts (GChild.out-Child c).body.items) (GChild.out-Child c).end
unfolding GChild.out-Child denote.Hole.Carrier.out TB.shown-the_row-Stmt-0
child_is (GChild.Child' h row end) = ap (λ z. process z end) (row_items row ∙ ap plain_stmts (sym (TB.items_shown-the_row-Stmt-0 h row)))

-- a child that is made of these
pub child_made : (v : Vec GStmt.Stmt Global) (e : ℕ) → plain_child (GChild.roll-Child (record { body = v; end = e })) ≡ process (plain_stmts v.items) e
unfolding GChild.roll-Child denote.Hole.Carrier.roll
child_made v e = ap (λ z. process z e) (hidden_row v)

pub ruleset children = (child_made)

pub ruleset kinds = (kind-Block, kind-Select, kind-Cooperate)
