-- What lies in a text has numerals that a text may have.
use Rattle.std.proofs.Common.{ℕ, suc, Bool, true, false, List, [], ◌∷◌, Option, Some, None}
use Rattle.expression_parser.specs.ExpressionTree.{Expr}
use Rattle.spl_parser.specs.ProgramTree as raw
use Rattle.spl_typer.specs.Modest.{AllModest, StatementModest, ActionModest, BranchModest, RowModest, BodiesModest, BodyModest}
use Rattle.spl_typer.specs.ProgramRules.{InitialModest, DeclarationsModest, ProcessesModest, ProgramModest}
use Rattle.typing_laws.proofs.Laying.{ExprLaid, InRow, StatementLaid, ActionLaid, BranchLaid, StatementsLaid, BodyLaid, BodiesLaid, InitialLaid, DeclarationLaid, ProcessLaid, ProgramLaid}

exprs_modest : (es : List Expr) (from to : ℕ) → InRow ExprLaid es from to → AllModest es
exprs_modest [] from to h = tt
exprs_modest (e ∷ es) from to h = (h.1.modest, exprs_modest es h.0 to h.2)

mutual
  statement_modest : (x : raw.Statement) (inner : Bool) (from to : ℕ) → StatementLaid x inner from to → StatementModest x
  statement_modest (raw.stated None place act) inner from to h = action_modest act inner place to h.1
  statement_modest (raw.stated (Some n) place act) inner from to h = action_modest act inner place to h.2

  action_modest : (x : raw.Action) (inner : Bool) (p to : ℕ) → ActionLaid x inner p to → ActionModest x
  action_modest raw.skip inner p to h = tt
  action_modest raw.critical inner p to h = tt
  action_modest raw.noncritical inner p to h = tt
  action_modest (raw.assign n e) inner p to h = h.1.modest
  action_modest (raw.assign_all ns list es) inner p to h = exprs_modest es (suc list) to h.1
  action_modest (raw.await e) inner p to h = h.modest
  action_modest (raw.request n) inner p to h = tt
  action_modest (raw.release n) inner p to h = tt
  action_modest (raw.conditional e y other) inner p to h = (h.2.modest, statement_modest y inner h.0 h.1 h.3, branch_modest other inner h.1 to h.4)
  action_modest (raw.while_do e y) inner p to h = (h.2.modest, statement_modest y false h.1 to h.3)
  action_modest (raw.forever y) inner p to h = statement_modest y false (suc p) to h.1
  action_modest (raw.block ss) inner p to h = row_modest ss inner (suc p) to h.1
  action_modest (raw.select ss) inner p to h = row_modest ss false (suc p) to h.2
  action_modest (raw.cooperate bs) inner p to h = bodies_modest bs (suc p) to h.2
  action_modest (raw.group ss) inner p to h = row_modest ss true (suc p) to h.2

  branch_modest : (x : raw.Branch) (inner : Bool) (from to : ℕ) → BranchLaid x inner from to → BranchModest x
  branch_modest raw.no_branch inner from to h = tt
  branch_modest (raw.branch x) inner from to h = statement_modest x inner from to h

  pub row_modest : (xs : raw.Statements) (inner : Bool) (from to : ℕ) → StatementsLaid xs inner from to → RowModest xs
  row_modest raw.no_statements inner from to h = tt
  row_modest (raw.followed x xs) inner from to h = (statement_modest x inner from h.0 h.1, row_modest xs inner h.0 to h.2)

  bodies_modest : (bs : raw.Bodies) (from to : ℕ) → BodiesLaid bs from to → BodiesModest bs
  bodies_modest raw.no_bodies from to h = tt
  bodies_modest (raw.beside b bs) from to h = (body_modest b from h.0 h.1, bodies_modest bs h.0 to h.2)

  body_modest : (b : raw.Body) (from to : ℕ) → BodyLaid b from to → BodyModest b
  body_modest (raw.body xs None) from to h = row_modest xs false from to h.1
  body_modest (raw.body xs (Some n)) from to h = row_modest xs false from h.1 h.2

initial_modest : (e : Option Expr) (from to : ℕ) → InitialLaid e from to → InitialModest e
initial_modest None from to h = tt
initial_modest (Some e) from to h = h.modest

declarations_modest : (ds : List raw.Declaration) (from to : ℕ) → InRow DeclarationLaid ds from to → DeclarationsModest ds
declarations_modest [] from to h = tt
declarations_modest (d ∷ ds) from to h = (initial_modest d.initial h.1.mid h.0 h.1.initial, declarations_modest ds h.0 to h.2)

processes_modest : (ps : List raw.Process) (from to : ℕ) → InRow ProcessLaid ps from to → ProcessesModest ps
processes_modest [] from to h = tt
processes_modest (p ∷ ps) from to h = (declarations_modest p.declarations h.1.named h.1.declared h.1.declarations, body_modest p.body h.1.declared h.0 h.1.body, processes_modest ps h.0 to h.2)

pub program_modest : (x : raw.Program) → ProgramLaid x → ProgramModest x
program_modest x l = (declarations_modest x.declarations 0 l.declared l.declarations, processes_modest x.processes l.declared l.end l.processes)
