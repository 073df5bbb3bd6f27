-- Raw programs whose declared names are names of texts.
use Rattle.std.proofs.Common.{Option, Some, None}
use Rattle.list_laws.specs.Each.{Each}
use Rattle.st_reading.specs.Reading.{Label}
use Rattle.spl_parser.specs.ProgramTree.{Statement, stated, Action, skip, critical, noncritical, assign, assign_all, await, request, release, conditional, while_do, forever, block, select, cooperate, group, Branch, no_branch, branch, Statements, no_statements, followed, Body, body, Bodies, no_bodies, beside, Declaration, Process, Program}
use Rattle.declared_names.specs.Words.{IsWord}

abbrev pub LabelNamed : Label → Type 0
LabelNamed n = IsWord n.text

abbrev pub OwnNamed : Option Label → Type 0
OwnNamed None = Unit {0}
OwnNamed (Some n) = LabelNamed n

abbrev mutual
  pub StatementNamed : Statement → Type 0
  StatementNamed (stated label place a) = OwnNamed label × ActionNamed a

  pub ActionNamed : Action → Type 0
  ActionNamed skip = Unit {0}
  ActionNamed critical = Unit {0}
  ActionNamed noncritical = Unit {0}
  ActionNamed (assign n e) = Unit {0}
  ActionNamed (assign_all ns list es) = Unit {0}
  ActionNamed (await e) = Unit {0}
  ActionNamed (request n) = Unit {0}
  ActionNamed (release n) = Unit {0}
  ActionNamed (conditional e x y) = StatementNamed x × BranchNamed y
  ActionNamed (while_do e x) = StatementNamed x
  ActionNamed (forever x) = StatementNamed x
  ActionNamed (block xs) = StatementsNamed xs
  ActionNamed (select xs) = StatementsNamed xs
  ActionNamed (cooperate bs) = BodiesNamed bs
  ActionNamed (group xs) = Unit {0}

  pub BranchNamed : Branch → Type 0
  BranchNamed no_branch = Unit {0}
  BranchNamed (branch x) = StatementNamed x

  pub StatementsNamed : Statements → Type 0
  StatementsNamed no_statements = Unit {0}
  StatementsNamed (followed x xs) = StatementNamed x × StatementsNamed xs

  pub BodyNamed : Body → Type 0
  BodyNamed (body xs end) = StatementsNamed xs × OwnNamed end

  pub BodiesNamed : Bodies → Type 0
  BodiesNamed no_bodies = Unit {0}
  BodiesNamed (beside b bs) = BodyNamed b × BodiesNamed bs

abbrev pub DeclarationNamed : Declaration → Type 0
DeclarationNamed d = Each LabelNamed d.names

pub record ProcessNamed (p : Process) : Type 0 where
  pub name : LabelNamed p.name
  pub declarations : Each DeclarationNamed p.declarations
  pub body : BodyNamed p.body

pub record ProgramNamed (x : Program) : Type 0 where
  pub declarations : Each DeclarationNamed x.declarations
  pub processes : Each ProcessNamed x.processes
