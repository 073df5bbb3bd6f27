-- The plain twins of raw statements, bodies and programs: the same trees, without where they lie in memory.
use Rattle.std.specs.Prelude.{ℕ, Bool, List, [], ◌∷◌, map, Option, Some, None, Box}
use Rattle.std.specs.declared.alloc.Global.{Global}
use Rattle.std.specs.Option.{option_map}
use Rattle.expression_parser.specs.declared.raw.RawExpr.{RawExpr}
use Rattle.spl_parser.specs.declared.raw.RawBody.{RawBody, RawBody'}
use Rattle.spl_parser.specs.declared.raw.RawStatement.{RawStatement}
use Rattle.spl_parser.specs.declared.raw.RawKind.{RawKind}
use Rattle.spl_parser.specs.declared.raw.RawKind.TheBlock.{Held-RawKind-If-2, None', Some', Row_of-RawStatement, end_of-RawStatement, more_of-RawStatement, Row_of-RawBody, end_of-RawBody, more_of-RawBody}
use Rattle.spl_parser.specs.declared.raw.RawKind.TheVariants as raw
use Rattle.spl_parser.specs.declared.raw.RawDeclaration.{RawDeclaration}
use Rattle.spl_parser.specs.declared.raw.RawProcess.{RawProcess}
use Rattle.spl_parser.specs.declared.raw.RawProgram.{RawProgram}
use Rattle.st_reading.specs.declared.looking.RawName.{RawName}
use Rattle.st_reading.specs.Reading.{Label}
use Rattle.st_reading.specs.Faults.{name_view}
use Rattle.expression_parser.specs.ExpressionTree.{Expr, expr_view}

mutual
  -- the label, the place of the first token behind it, and what it is
  pub data Statement : Type 0 where
    stated : Option Label → ℕ → Action → Statement

  pub data Action : Type 0 where
    skip : Action
    critical : Action
    noncritical : Action
    assign : Label → Expr → Action
    assign_all : List Label → ℕ → List Expr → Action
    await : Expr → Action
    request : Label → Action
    release : Label → Action
    conditional : Expr → Statement → Branch → Action
    while_do : Expr → Statement → Action
    forever : Statement → Action
    block : Statements → Action
    select : Statements → Action
    cooperate : Bodies → Action
    group : Statements → Action

  pub data Branch : Type 0 where
    no_branch : Branch
    branch : Statement → Branch

  pub data Statements : Type 0 where
    no_statements : Statements
    followed : Statement → Statements → Statements

  -- statements, and the label of their end
  pub data Body : Type 0 where
    body : Statements → Option Label → Body

  pub data Bodies : Type 0 where
    no_bodies : Bodies
    beside : Body → Bodies → Bodies

abbrev pub label_view : Option RawName → Option Label
label_view o = option_map name_view o

abbrev mutual
  pub action_view : RawKind → Action
  action_view (raw.Skip) = skip
  action_view (raw.Critical) = critical
  action_view (raw.Noncritical) = noncritical
  action_view (raw.Assign n e) = assign (name_view n) (expr_view e)
  action_view (raw.AssignAll targets list values) = assign_all (map name_view targets.items) list (map expr_view values.items)
  action_view (raw.Await e) = await (expr_view e)
  action_view (raw.Request n) = request (name_view n)
  action_view (raw.Release n) = release (name_view n)
  action_view (raw.If' test p label place kind other) = conditional (expr_view test) (stated (label_view label) place (action_view kind)) (branch_view other)
  action_view (raw.While' test p label place kind) = while_do (expr_view test) (stated (label_view label) place (action_view kind))
  action_view (raw.Loop' p label place kind) = forever (stated (label_view label) place (action_view kind))
  action_view (raw.Block' shape items) = block (row_view items)
  action_view (raw.Select' shape items) = select (row_view items)
  action_view (raw.Cooperate' shape items) = cooperate (body_row_view items)
  action_view (raw.Group' shape items) = group (row_view items)

  pub branch_view : Held-RawKind-If-2 → Branch
  branch_view None' = no_branch
  branch_view (Some' p label place kind) = branch (stated (label_view label) place (action_view kind))

  pub row_view : {m : _} → Row_of-RawStatement m → Statements
  row_view end_of-RawStatement = no_statements
  row_view (more_of-RawStatement label place kind rest) = followed (stated (label_view label) place (action_view kind)) (row_view rest)

  pub body_row_view : {m : _} → Row_of-RawBody m → Bodies
  body_row_view end_of-RawBody = no_bodies
  body_row_view (more_of-RawBody b rest) = beside (body_view b) (body_row_view rest)

  pub body_view : RawBody → Body
  body_view (RawBody' shape items end) = body (row_view items) (label_view end)

abbrev pub statement_view : RawStatement → Statement
statement_view s = stated (label_view s.label) s.place (action_view s.kind)

-- the branch behind "else"
abbrev pub option_branch : Option (Box RawStatement Global) → Branch
option_branch None = no_branch
option_branch (Some b) = branch (statement_view b.value)

abbrev pub statement_views : List RawStatement → List Statement
statement_views xs = map statement_view xs

abbrev pub statements : List Statement → Statements
statements [] = no_statements
statements (x ∷ xs) = followed x (statements xs)

abbrev pub body_views : List RawBody → List Body
body_views xs = map body_view xs

abbrev pub bodies : List Body → Bodies
bodies [] = no_bodies
bodies (x ∷ xs) = beside x (bodies xs)

-- names of one type at the head of a program or process
pub record Declaration : Type 0 where
  pub input : Bool
  pub names : List Label
  pub truth : Bool
  pub initial : Option Expr

pub record Process : Type 0 where
  pub name : Label
  pub declarations : List Declaration
  pub body : Body

pub record Program : Type 0 where
  pub declarations : List Declaration
  pub processes : List Process

abbrev pub initial_view : Option RawExpr → Option Expr
initial_view o = option_map expr_view o

abbrev pub declaration_view : RawDeclaration → Declaration
declaration_view d = record { input = d.input; names = map name_view d.names.items; truth = d.truth; initial = initial_view d.initial }

abbrev pub process_view : RawProcess → Process
process_view p = record { name = name_view p.name; declarations = map declaration_view p.declarations.items; body = body_view p.body }

abbrev pub program_view : RawProgram → Program
program_view p = record { declarations = map declaration_view p.declarations.items; processes = map process_view p.processes.items }

abbrev pub declaration_views : List RawDeclaration → List Declaration
declaration_views ds = map declaration_view ds

abbrev pub process_views : List RawProcess → List Process
process_views ps = map process_view ps
