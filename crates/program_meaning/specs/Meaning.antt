-- Which program a text is: what the tree of a program as it is written stands for, one case for each production.
--
-- A name stands for a variable, and variables are numbered in the order of the text; an expression stands for its meaning over
-- the variables that are known there, a statement for a statement, and a label for the statement, or the end, before which it
-- stands. Statements and locations are numbered over the whole program: that is said once, in `Means`. Nothing is said of what
-- breaks a rule; a tree that breaks none stands for one program.
use Rattle.std.specs.Prelude.{◌≡◌, ℕ, suc, ◌+◌, true, List, [], ◌∷◌, ◌++◌, map, flat_map, length, Option, Some, None}
use Rattle.std.specs.Option.{option_map}
use Rattle.st_form.specs.Formula.{Formula, formulas, every, truth_value}
use Rattle.st_form.specs.declared.variables.Variable.{Variable}
use Rattle.st_reading.specs.Reading.{Label}
use Rattle.st_program.specs.Tree.{Term, truth, Pieces, piece_skip, piece_assign, piece_await, piece_if, no_piece, piece, Statement, stated, Action, skip, critical, noncritical, assign, await, request, release, if_then, if_else, while_do, block, select, cooperate, group, Statements, no_statement, statement, Process, process, Processes, no_process, beside}
use Rattle.st_program.specs.Spots.{all_spots, IsNumbered}
use Rattle.st_program.specs.Locations.{InsidePlaced, inside_end}
use Rattle.expression_parser.specs.ExpressionTree.{Expr}
use Rattle.spl_parser.specs.ProgramTree as raw
use Rattle.expression_typer.specs.Scope.{Known, find}
use Rattle.expression_typer.specs.Rules.{meaning}
use Rattle.spl_typer.specs.Statements.{pieces_behind}
use Rattle.spl_typer.specs.Programs.{Labels, Typed}

-- VARIABLES
-- a declared name, and what kind of variable it is
abbrev pub Declared : Type 0
Declared = List ℕ × Variable

-- what a declaration declares, and declarations one after the other
abbrev pub declared_by : raw.Declaration → List Declared
declared_by d = map (λ n. (n.text, record { input = d.input; truth = d.truth })) d.names

abbrev pub declared : List raw.Declaration → List Declared
declared ds = flat_map declared_by ds

abbrev pub all_declared : raw.Program → List Declared
all_declared p = declared p.declarations ++ flat_map (λ q. declared q.declarations) p.processes

-- what the names stand for: the variables in the order of the text, of which the first has this number
abbrev pub known : ℕ → List Declared → List Known
known first [] = []
known first (v ∷ vs) = record { name = v.0; var = first; truth = v.1.truth; input = v.1.input } ∷ known (suc first) vs

-- the variable that a name stands for
abbrev pub IsVariable : List Known → Label → ℕ → Type 0
IsVariable s n v = option_map (λ k. k.var) (find n.text s) ≡ Some v

abbrev pub IsTest : List Known → Expr → Formula → Type 0
IsTest s e f = meaning s e ≡ Some (truth f)

-- a variable, and what is assigned to it
abbrev pub IsChange : List Known → Label → Expr → ℕ × Term → Type 0
IsChange s n e x = IsVariable s n x.0 × (meaning s e ≡ Some x.1)

pub data AreChanges (s : List Known) : List Label → List Expr → List (ℕ × Term) → Type 0 where
  no_change : AreChanges s [] [] []
  change : {n : Label} {ns : List Label} {e : Expr} {es : List Expr} {x : ℕ × Term} {xs : List (ℕ × Term)}
      → IsChange s n e x → AreChanges s ns es xs → AreChanges s (n ∷ ns) (e ∷ es) (x ∷ xs)

-- GROUPS
abbrev pub act_of : raw.Statement → raw.Action
act_of (raw.stated label place act) = act

-- the pieces that a statement of a group stands for: a block is joined into the list round it
mutual
  pub data IsInner (s : List Known) : raw.Action → Pieces → Type 0 where
    inner_skip : IsInner s raw.skip (piece piece_skip no_piece)
    inner_assign : {n : Label} {e : Expr} {x : ℕ × Term} → IsChange s n e x → IsInner s (raw.assign n e) (piece (piece_assign (x ∷ [])) no_piece)
    inner_assign_all : {ns : List Label} {place : ℕ} {es : List Expr} {xs : List (ℕ × Term)}
        → AreChanges s ns es xs → IsInner s (raw.assign_all ns place es) (piece (piece_assign xs) no_piece)
    inner_await : {e : Expr} {f : Formula} → IsTest s e f → IsInner s (raw.await e) (piece (piece_await f) no_piece)
    inner_if : {e : Expr} {f : Formula} {y : raw.Statement} {ys : Pieces}
        → IsTest s e f → IsInner s (act_of y) ys → IsInner s (raw.conditional e y raw.no_branch) (piece (piece_if f ys no_piece) no_piece)
    inner_if_else : {e : Expr} {f : Formula} {y n : raw.Statement} {ys ns : Pieces}
        → IsTest s e f → IsInner s (act_of y) ys → IsInner s (act_of n) ns → IsInner s (raw.conditional e y (raw.branch n)) (piece (piece_if f ys ns) no_piece)
    inner_block : {ss : raw.Statements} {xs : Pieces} → AreInner s ss xs → IsInner s (raw.block ss) xs

  pub data AreInner (s : List Known) : raw.Statements → Pieces → Type 0 where
    no_inner : AreInner s raw.no_statements no_piece
    one_inner : {x : raw.Statement} {ss : raw.Statements} {ys zs : Pieces}
        → IsInner s (act_of x) ys → AreInner s ss zs → AreInner s (raw.followed x ss) (pieces_behind ys zs)

-- STATEMENTS
-- a label, with the location before which it stands and, of a statement, its occurrence
abbrev pub label_at : Option Label → ℕ → Option ℕ → Labels
label_at None l o = []
label_at (Some n) l o = (n.text, (l, o)) ∷ []

-- the statement that one stands for, and the labels in it, in the order of the text
mutual
  pub data IsStatement (s : List Known) : raw.Statement → Statement → Labels → Type 0 where
    is_stated : {label : Option Label} {place : ℕ} {act : raw.Action} {o l : ℕ} {a : Action} {ls : Labels}
        → IsAction s act a ls → IsStatement s (raw.stated label place act) (stated o l a) (label_at label l (Some o) ++ ls)

  pub data IsAction (s : List Known) : raw.Action → Action → Labels → Type 0 where
    is_skip : IsAction s raw.skip skip []
    is_critical : IsAction s raw.critical critical []
    is_noncritical : IsAction s raw.noncritical noncritical []
    is_assign : {n : Label} {e : Expr} {x : ℕ × Term} → IsChange s n e x → IsAction s (raw.assign n e) (assign (x ∷ [])) []
    is_assign_all : {ns : List Label} {place : ℕ} {es : List Expr} {xs : List (ℕ × Term)}
        → AreChanges s ns es xs → IsAction s (raw.assign_all ns place es) (assign xs) []
    is_await : {e : Expr} {f : Formula} → IsTest s e f → IsAction s (raw.await e) (await f) []
    is_request : {n : Label} {v : ℕ} → IsVariable s n v → IsAction s (raw.request n) (request v) []
    is_release : {n : Label} {v : ℕ} → IsVariable s n v → IsAction s (raw.release n) (release v) []
    is_if : {e : Expr} {f : Formula} {y : raw.Statement} {a : Statement} {ls : Labels}
        → IsTest s e f → IsStatement s y a ls → IsAction s (raw.conditional e y raw.no_branch) (if_then f a) ls
    is_if_else : {e : Expr} {f : Formula} {y n : raw.Statement} {a b : Statement} {ls ms : Labels}
        → IsTest s e f → IsStatement s y a ls → IsStatement s n b ms → IsAction s (raw.conditional e y (raw.branch n)) (if_else f a b) (ls ++ ms)
    is_while : {e : Expr} {f : Formula} {y : raw.Statement} {a : Statement} {ls : Labels}
        → IsTest s e f → IsStatement s y a ls → IsAction s (raw.while_do e y) (while_do f a) ls
    is_loop : {y : raw.Statement} {a : Statement} {ls : Labels} → IsStatement s y a ls → IsAction s (raw.forever y) (while_do (truth_value true) a) ls
    is_block : {ss : raw.Statements} {xs : Statements} {ls : Labels} → AreStatements s ss xs ls → IsAction s (raw.block ss) (block xs) ls
    is_select : {ss : raw.Statements} {xs : Statements} {ls : Labels} → AreStatements s ss xs ls → IsAction s (raw.select ss) (select xs) ls
    is_cooperate : {bs : raw.Bodies} {ps : Processes} {ls : Labels} → AreBodies s bs ps ls → IsAction s (raw.cooperate bs) (cooperate ps) ls
    is_group : {ss : raw.Statements} {xs : Pieces} → AreInner s ss xs → IsAction s (raw.group ss) (group xs) []

  pub data AreStatements (s : List Known) : raw.Statements → Statements → Labels → Type 0 where
    no_more : AreStatements s raw.no_statements no_statement []
    one_more : {x : raw.Statement} {ss : raw.Statements} {a : Statement} {xs : Statements} {ls ms : Labels}
        → IsStatement s x a ls → AreStatements s ss xs ms → AreStatements s (raw.followed x ss) (statement a xs) (ls ++ ms)

  -- a process's or a child's body, with its end
  pub data IsBody (s : List Known) : raw.Body → Process → Labels → Type 0 where
    is_body : {ss : raw.Statements} {xs : Statements} {end : Option Label} {l : ℕ} {ls : Labels}
        → AreStatements s ss xs ls → IsBody s (raw.body ss end) (process xs l) (ls ++ label_at end l None)

  pub data AreBodies (s : List Known) : raw.Bodies → Processes → Labels → Type 0 where
    no_body : AreBodies s raw.no_bodies no_process []
    one_body : {b : raw.Body} {bs : raw.Bodies} {p : Process} {ps : Processes} {ls ms : Labels}
        → IsBody s b p ls → AreBodies s bs ps ms → AreBodies s (raw.beside b bs) (beside p ps) (ls ++ ms)

-- PROGRAMS
-- what stands behind "where", if anything
pub data IsStart (s : List Known) : Option Expr → List Formula → Type 0 where
  no_start : IsStart s None []
  a_start : {e : Expr} {f : Formula} → IsTest s e f → IsStart s (Some e) (f ∷ [])

-- the formulas behind "where" of declarations, each over what is known at its end; `first` is the number of the next variable
pub data AreStarts : List Known → ℕ → List raw.Declaration → List Formula → Type 0 where
  no_starts : {s : List Known} {first : ℕ} → AreStarts s first [] []
  more_starts : {s : List Known} {first : ℕ} {d : raw.Declaration} {ds : List raw.Declaration} {fs gs : List Formula}
      → IsStart (s ++ known first (declared_by d)) d.initial fs
      → AreStarts (s ++ known first (declared_by d)) (first + length (declared_by d)) ds gs → AreStarts s first (d ∷ ds) (fs ++ gs)

-- the processes, with what they say behind "where" and their labels: in each its own variables are known behind the shared ones
pub data AreProcesses (shared : List Known) : ℕ → List raw.Process → Processes → List Formula → Labels → Type 0 where
  no_processes : {first : ℕ} → AreProcesses shared first [] no_process [] []
  more_processes : {first : ℕ} {q : raw.Process} {qs : List raw.Process} {p : Process} {ps : Processes} {fs gs : List Formula} {ls ms : Labels}
      → AreStarts shared first q.declarations fs → IsBody (shared ++ known first (declared q.declarations)) q.body p ls
      → AreProcesses shared (first + length (declared q.declarations)) qs ps gs ms
      → AreProcesses shared first (q ∷ qs) (beside p ps) (fs ++ gs) (ls ++ ms)

-- The program that a tree stands for. Its variables are those declared, and its statements and locations are numbered in the order
-- of the text; all that stands behind "where" holds at the beginning.
pub record Means (tree : raw.Program) (p : Typed) : Type 0 where
  pub shared : List Formula
  pub own : List Formula
  pub starts : AreStarts [] 0 tree.declarations shared
  pub processes : AreProcesses (known 0 (declared tree.declarations)) (length (declared tree.declarations)) tree.processes p.processes own p.names.labels
  pub initial : p.initial ≡ every (formulas (shared ++ own))
  pub variables : p.variables ≡ map (λ v. v.1) (all_declared tree)
  pub names : p.names.variables ≡ map (λ v. (v.0, v.1.truth)) (all_declared tree)
  pub numbered : IsNumbered p.processes
  pub placed : InsidePlaced p.processes 0
  pub statements : p.statements ≡ length (all_spots p.processes)
  pub locations : p.locations ≡ inside_end p.processes 0
