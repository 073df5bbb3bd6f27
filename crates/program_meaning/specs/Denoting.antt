-- Which program the tree of a text denotes, one case for each production, with the place of each statement.
--
-- Locations are numbered in the order of the text. A statement has its own, but for the first of a block and the branches of a
-- selection, which have that of what they stand in; and so has the end of each body, behind all its statements. `IsStatement s own
-- next x a ls after` is: over the variables known in `s`, `x` is the statement `a`, which stands at the location `own`, has the labels
-- `ls` in it, and in it the locations from `next` on, of which `after` is the first that is left. No block or cooperation is empty.
use Rattle.std.specs.Prelude.{◌≡◌, ℕ, suc, ◌+◌, true, List, [], ◌∷◌, ◌++◌, map, length, Option, Some, None}
use Rattle.st_form.specs.Formula.{Formula, formulas, every, truth_value}
use Rattle.st_reading.specs.Reading.{Label}
use Rattle.st_program.specs.Tree.{Term, Pieces, Statement, stated, Action, skip, critical, noncritical, assign, await, request, release, if_then, if_else, while_do, block, select, cooperate, group, Statements, no_statement, statement, Process, process, Processes, no_process, beside}
use Rattle.st_program.specs.Spots.{all_spots, IsNumbered}
use Rattle.expression_parser.specs.ExpressionTree.{Expr}
use Rattle.spl_parser.specs.ProgramTree as raw
use Rattle.expression_typer.specs.Scope.{Known}
use Rattle.spl_typer.specs.Programs.{Labels, Typed}
use Rattle.program_meaning.specs.Meaning.{declared, all_declared, known, IsVariable, IsTest, IsChange, AreChanges, AreInner, label_at, AreStarts}

-- a statement without others in it
pub data IsSimple (s : List Known) : raw.Action → Action → Type 0 where
  is_skip : IsSimple s raw.skip skip
  is_critical : IsSimple s raw.critical critical
  is_noncritical : IsSimple s raw.noncritical noncritical
  is_assign : {n : Label} {e : Expr} {x : ℕ × Term} → IsChange s n e x → IsSimple s (raw.assign n e) (assign (x ∷ []))
  is_assign_all : {ns : List Label} {place : ℕ} {es : List Expr} {xs : List (ℕ × Term)} → AreChanges s ns es xs → IsSimple s (raw.assign_all ns place es) (assign xs)
  is_await : {e : Expr} {f : Formula} → IsTest s e f → IsSimple s (raw.await e) (await f)
  is_request : {n : Label} {v : ℕ} → IsVariable s n v → IsSimple s (raw.request n) (request v)
  is_release : {n : Label} {v : ℕ} → IsVariable s n v → IsSimple s (raw.release n) (release v)
  is_group : {ss : raw.Statements} {xs : Pieces} → AreInner s ss xs → IsSimple s (raw.group ss) (group xs)

-- statements with those in them, and their labels in the order of the text
mutual
  pub data IsStatement (s : List Known) : ℕ → ℕ → raw.Statement → Statement → Labels → ℕ → Type 0 where
    is_stated : {own next after : ℕ} {label : Option Label} {place o : ℕ} {x : raw.Action} {a : Action} {ls : Labels}
        → IsAction s own next x a ls after → IsStatement s own next (raw.stated label place x) (stated o own a) (label_at label own (Some o) ++ ls) after

  pub data IsAction (s : List Known) : ℕ → ℕ → raw.Action → Action → Labels → ℕ → Type 0 where
    is_simple : {own next : ℕ} {x : raw.Action} {a : Action} → IsSimple s x a → IsAction s own next x a [] next
    is_if : {own next after : ℕ} {e : Expr} {f : Formula} {y : raw.Statement} {a : Statement} {ls : Labels}
        → IsTest s e f → IsStatement s next (suc next) y a ls after → IsAction s own next (raw.conditional e y raw.no_branch) (if_then f a) ls after
    is_if_else : {own next between after : ℕ} {e : Expr} {f : Formula} {y n : raw.Statement} {a b : Statement} {ls ms : Labels} → IsTest s e f
        → IsStatement s next (suc next) y a ls between → IsStatement s between (suc between) n b ms after → IsAction s own next (raw.conditional e y (raw.branch n)) (if_else f a b) (ls ++ ms) after
    is_while : {own next after : ℕ} {e : Expr} {f : Formula} {y : raw.Statement} {a : Statement} {ls : Labels}
        → IsTest s e f → IsStatement s next (suc next) y a ls after → IsAction s own next (raw.while_do e y) (while_do f a) ls after
    is_loop : {own next after : ℕ} {y : raw.Statement} {a : Statement} {ls : Labels}
        → IsStatement s next (suc next) y a ls after → IsAction s own next (raw.forever y) (while_do (truth_value true) a) ls after
    is_block : {own next between after : ℕ} {y : raw.Statement} {ys : raw.Statements} {a : Statement} {xs : Statements} {ls ms : Labels}
        → IsStatement s own next y a ls between → AreStatements s between ys xs ms after → IsAction s own next (raw.block (raw.followed y ys)) (block (statement a xs)) (ls ++ ms) after
    is_select : {own next after : ℕ} {ys : raw.Statements} {xs : Statements} {ls : Labels} → AreBranches s own next ys xs ls after → IsAction s own next (raw.select ys) (select xs) ls after
    is_cooperate : {own next end after : ℕ} {b : raw.Body} {bs : raw.Bodies} {p : Process} {ps : Processes} {ls ms : Labels}
        → IsBody s next b p ls end → AreBodies s (suc end) bs ps ms after → IsAction s own next (raw.cooperate (raw.beside b bs)) (cooperate (beside p ps)) (ls ++ ms) after

  -- each at a location of its own
  pub data AreStatements (s : List Known) : ℕ → raw.Statements → Statements → Labels → ℕ → Type 0 where
    no_more : {next : ℕ} → AreStatements s next raw.no_statements no_statement [] next
    one_more : {next between after : ℕ} {y : raw.Statement} {ys : raw.Statements} {a : Statement} {xs : Statements} {ls ms : Labels}
        → IsStatement s next (suc next) y a ls between → AreStatements s between ys xs ms after → AreStatements s next (raw.followed y ys) (statement a xs) (ls ++ ms) after

  -- all at one location
  pub data AreBranches (s : List Known) : ℕ → ℕ → raw.Statements → Statements → Labels → ℕ → Type 0 where
    no_branch : {own next : ℕ} → AreBranches s own next raw.no_statements no_statement [] next
    one_branch : {own next between after : ℕ} {y : raw.Statement} {ys : raw.Statements} {a : Statement} {xs : Statements} {ls ms : Labels}
        → IsStatement s own next y a ls between → AreBranches s own between ys xs ms after → AreBranches s own next (raw.followed y ys) (statement a xs) (ls ++ ms) after

  -- a process's or a child's body, with its end
  pub data IsBody (s : List Known) : ℕ → raw.Body → Process → Labels → ℕ → Type 0 where
    is_body : {next end : ℕ} {ys : raw.Statements} {xs : Statements} {label : Option Label} {ls : Labels}
        → AreStatements s next ys xs ls end → IsBody s next (raw.body ys label) (process xs end) (ls ++ label_at label end None) end

  pub data AreBodies (s : List Known) : ℕ → raw.Bodies → Processes → Labels → ℕ → Type 0 where
    no_body : {next : ℕ} → AreBodies s next raw.no_bodies no_process [] next
    one_body : {next end after : ℕ} {b : raw.Body} {bs : raw.Bodies} {p : Process} {ps : Processes} {ls ms : Labels}
        → IsBody s next b p ls end → AreBodies s (suc end) bs ps ms after → AreBodies s next (raw.beside b bs) (beside p ps) (ls ++ ms) after

-- the processes, with what they say behind "where" and their labels: in each its own variables are known behind the shared ones, and
-- `first` is the number of the next variable
pub data AreProcesses (shared : List Known) : ℕ → ℕ → List raw.Process → Processes → List Formula → Labels → ℕ → Type 0 where
  no_processes : {first next : ℕ} → AreProcesses shared first next [] no_process [] [] next
  more_processes : {first next end after : ℕ} {q : raw.Process} {qs : List raw.Process} {p : Process} {ps : Processes} {fs gs : List Formula} {ls ms : Labels}
      → AreStarts shared first q.declarations fs → IsBody (shared ++ known first (declared q.declarations)) next q.body p ls end
      → AreProcesses shared (first + length (declared q.declarations)) (suc end) qs ps gs ms after
      → AreProcesses shared first next (q ∷ qs) (beside p ps) (fs ++ gs) (ls ++ ms) after

-- The program that a tree denotes. Its variables are those declared, its statements are numbered in the order of the text, and all that
-- stands behind "where" holds at the beginning.
pub record Denotes (tree : raw.Program) (p : Typed) : Type 0 where
  pub shared : List Formula
  pub own : List Formula
  pub starts : AreStarts [] 0 tree.declarations shared
  pub processes : AreProcesses (known 0 (declared tree.declarations)) (length (declared tree.declarations)) 0 tree.processes p.processes own p.names.labels p.locations
  pub initial : p.initial ≡ every (formulas (shared ++ own))
  pub variables : p.variables ≡ map (λ v. v.1) (all_declared tree)
  pub names : p.names.variables ≡ map (λ v. (v.0, v.1.truth)) (all_declared tree)
  pub numbered : IsNumbered p.processes
  pub statements : p.statements ≡ length (all_spots p.processes)
