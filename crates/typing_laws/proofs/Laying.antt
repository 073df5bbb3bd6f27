-- Trees as they lie in a text: places rise, numerals are those that a text may have, names are ASCII, no body, block or group is
-- empty, and selections and cooperations have two parts. `inner` is what stands inside a group.
use Rattle.std.proofs.Common.{◌≡◌, ℕ, suc, ◌<◌, ◌≤◌, Bool, true, false, List, [], ◌∷◌, Option, Some, None}
use Rattle.st_reading.specs.Reading.{Label}
use Rattle.expression_parser.specs.ExpressionTree.{Expr}
use Rattle.spl_parser.specs.ProgramTree.{Statement, stated, Action, skip, critical, noncritical, assign, assign_all, await, request, release, conditional, while_do, forever, block, select, cooperate, group, Branch, no_branch, branch, Statements, no_statements, followed, Body, body, Bodies, no_bodies, beside, Declaration, Process, Program}
use Rattle.expression_typer.specs.Placed.{IsPlaced}
use Rattle.expression_typer.specs.Told.{IsModest}
use Rattle.expression_typer.specs.Naming.{is_text}

pub record ExprLaid (e : Expr) (from to : ℕ) : Type 0 where
  pub placed : IsPlaced e from to
  pub modest : IsModest e

pub record LabelLaid (n : Label) (from to : ℕ) : Type 0 where
  pub behind : from ≤ n.place
  pub ahead : n.place < to
  pub plain : is_text n.text ≡ true

-- parts one behind the other
abbrev pub InRow : {A : Type 0} → (A → ℕ → ℕ → Type 0) → List A → ℕ → ℕ → Type 0
InRow P [] from to = from ≤ to
InRow P (x ∷ xs) from to = (mid : ℕ) × P x from mid × InRow P xs mid to

abbrev pub Outside : Bool → Type 0
Outside true = ⊥
Outside false = Unit {0}

abbrev pub SomeStatements : Statements → Type 0
SomeStatements no_statements = ⊥
SomeStatements (followed x xs) = Unit {0}

abbrev pub TwoStatements : Statements → Type 0
TwoStatements no_statements = ⊥
TwoStatements (followed x xs) = SomeStatements xs

abbrev pub SomeBodies : Bodies → Type 0
SomeBodies no_bodies = ⊥
SomeBodies (beside b bs) = Unit {0}

abbrev pub TwoBodies : Bodies → Type 0
TwoBodies no_bodies = ⊥
TwoBodies (beside b bs) = SomeBodies bs

abbrev mutual
  pub StatementLaid : Statement → Bool → ℕ → ℕ → Type 0
  StatementLaid (stated None place a) inner from to = (from ≤ place) × ActionLaid a inner place to
  StatementLaid (stated (Some n) place a) inner from to = Outside inner × LabelLaid n from place × ActionLaid a inner place to

  pub ActionLaid : Action → Bool → ℕ → ℕ → Type 0
  ActionLaid skip inner p to = p < to
  ActionLaid critical inner p to = Outside inner × (p < to)
  ActionLaid noncritical inner p to = Outside inner × (p < to)
  ActionLaid (assign n e) inner p to = (n.place ≡ p) × ExprLaid e (suc p) to
  ActionLaid (assign_all ns list es) inner p to = InRow LabelLaid ns (suc p) list × InRow ExprLaid es (suc list) to
  ActionLaid (await e) inner p to = ExprLaid e (suc p) to
  ActionLaid (request n) inner p to = Outside inner × LabelLaid n (suc p) to
  ActionLaid (release n) inner p to = Outside inner × LabelLaid n (suc p) to
  ActionLaid (conditional e x y) inner p to = (a : ℕ) × (b : ℕ) × ExprLaid e (suc p) a × StatementLaid x inner a b × BranchLaid y inner b to
  ActionLaid (while_do e x) inner p to = Outside inner × (a : ℕ) × ExprLaid e (suc p) a × StatementLaid x false a to
  ActionLaid (forever x) inner p to = Outside inner × StatementLaid x false (suc p) to
  ActionLaid (block xs) inner p to = SomeStatements xs × StatementsLaid xs inner (suc p) to
  ActionLaid (select xs) inner p to = Outside inner × TwoStatements xs × StatementsLaid xs false (suc p) to
  ActionLaid (cooperate bs) inner p to = Outside inner × TwoBodies bs × BodiesLaid bs (suc p) to
  ActionLaid (group xs) inner p to = Outside inner × SomeStatements xs × StatementsLaid xs true (suc p) to

  pub BranchLaid : Branch → Bool → ℕ → ℕ → Type 0
  BranchLaid no_branch inner from to = from ≤ to
  BranchLaid (branch x) inner from to = StatementLaid x inner from to

  pub StatementsLaid : Statements → Bool → ℕ → ℕ → Type 0
  StatementsLaid no_statements inner from to = from ≤ to
  StatementsLaid (followed x xs) inner from to = (mid : ℕ) × StatementLaid x inner from mid × StatementsLaid xs inner mid to

  pub BodyLaid : Body → ℕ → ℕ → Type 0
  BodyLaid (body xs None) from to = SomeStatements xs × StatementsLaid xs false from to
  BodyLaid (body xs (Some n)) from to = SomeStatements xs × (mid : ℕ) × StatementsLaid xs false from mid × LabelLaid n mid to

  pub BodiesLaid : Bodies → ℕ → ℕ → Type 0
  BodiesLaid no_bodies from to = from ≤ to
  BodiesLaid (beside b bs) from to = (mid : ℕ) × BodyLaid b from mid × BodiesLaid bs mid to

abbrev pub InitialLaid : Option Expr → ℕ → ℕ → Type 0
InitialLaid None from to = from ≤ to
InitialLaid (Some e) from to = ExprLaid e from to

pub record DeclarationLaid (d : Declaration) (from to : ℕ) : Type 0 where
  pub mid : ℕ
  pub names : InRow LabelLaid d.names from mid
  pub initial : InitialLaid d.initial mid to

pub record ProcessLaid (p : Process) (from to : ℕ) : Type 0 where
  pub named : ℕ
  pub declared : ℕ
  pub name : LabelLaid p.name from named
  pub declarations : InRow DeclarationLaid p.declarations named declared
  pub body : BodyLaid p.body declared to

abbrev pub SomeProcesses : List Process → Type 0
SomeProcesses [] = ⊥
SomeProcesses (p ∷ ps) = Unit {0}

pub record ProgramLaid (x : Program) : Type 0 where
  pub declared : ℕ
  pub end : ℕ
  pub some : SomeProcesses x.processes
  pub declarations : InRow DeclarationLaid x.declarations 0 declared
  pub processes : InRow ProcessLaid x.processes declared end
