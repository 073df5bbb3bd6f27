-- The typing of declarations, processes and programs, in text order, with the first fault that is met.
use Rattle.std.specs.Prelude.{◌≡◌, ℕ, Bool, true, false, if◌then◌else◌, nat_lt, nat_le, ◌&&◌, List, [], ◌∷◌, ◌++◌, length, take, map, Option, Some, None, Result, Ok, Err}
use Rattle.st_form.specs.Formula.{Formula, every, formulas}
use Rattle.st_form.specs.Plain.{plain}
use Rattle.st_form.specs.declared.variables.Variable.{Variable}
use Rattle.st_tokens.specs.declared.limit.LimitKind.TheVariants as limits
use Rattle.st_reading.specs.Reading.{Label}
use Rattle.st_program.specs.Tree.{Process, Processes, no_process, beside}
use Rattle.st_program.specs.Plain.{plain_child, plain_children}
use Rattle.st_program.specs.Names.{Names, AreApart}
use Rattle.st_program.specs.declared.programs.Program.{Program}
use Rattle.st_program.specs.declared.names.NameTable.{NameTable}
use Rattle.expression_parser.specs.ExpressionTree.{Expr}
use Rattle.spl_parser.specs.ProgramTree as raw
use Rattle.expression_typer.specs.declared.fault.TypeFault.{TypeFault}
use Rattle.expression_typer.specs.declared.fault.TypeFault.TheVariants as faults
use Rattle.spl_typer.specs.declared.program.Head.{Head}
use Rattle.spl_typer.specs.declared.walk.Mark.{Mark}
use Rattle.spl_typer.specs.declared.walk.Mark.TheVariants as marks
use Rattle.expression_typer.specs.Answers.{◌>>=◌, Fails}
use Rattle.expression_typer.specs.Naming.{is_text}
use Rattle.expression_typer.specs.Scope.{Known, scope_view}
use Rattle.spl_typer.specs.Walk.{Entry, State, state, Made, declared_as}
use Rattle.spl_typer.specs.Statements.{tested}
use Rattle.spl_typer.specs.Walking.{bodied}

-- what was met so far: the variables known here, the state, all variables, the conjuncts of the initial condition, and
-- the processes
pub record Heading : Type 0 where
  pub scope : List Known
  pub state : State
  pub variables : List Variable
  pub initial : List Formula
  pub processes : List Process

abbrev pub heading : Head → Heading
heading h = record {
  scope = scope_view h.scope.items;
  state = state h.walk;
  variables = h.variables.items;
  initial = map plain h.initial.items;
  processes = map plain_child h.processes.items;
}

abbrev pub knows : Bool → Bool → Label → State → Heading → Heading
knows input truth n st h = record {
  scope = h.scope ++ record { name = n.text; var = length h.variables; truth = truth; input = input } ∷ [];
  state = st;
  variables = h.variables ++ record { input = input; truth = truth } ∷ [];
  initial = h.initial;
  processes = h.processes;
}

-- a new variable; no program that was read has more than 64
abbrev pub named_in : Bool → Bool → Label → Heading → Result Heading TypeFault
named_in input truth n h =
    declared_as n (marks.Variable truth) h.state >>= λ st.
    if nat_lt (length h.variables) 64 then Ok (knows input truth n st h) else Err (faults.Limit limits.Variables n.place)

abbrev pub names_in : Bool → Bool → List Label → Heading → Result Heading TypeFault
names_in input truth [] h = Ok h
names_in input truth (n ∷ ns) h = named_in input truth n h >>= λ k. names_in input truth ns k

abbrev pub with_initial : Formula → Heading → Heading
with_initial f h = record { scope = h.scope; state = h.state; variables = h.variables; initial = h.initial ++ f ∷ []; processes = h.processes }

abbrev pub initial_in : Option Expr → Heading → Result Heading TypeFault
initial_in None h = Ok h
initial_in (Some e) h = tested h.scope e >>= λ f. Ok (with_initial f h)

abbrev pub declaration_in : raw.Declaration → Heading → Result Heading TypeFault
declaration_in d h = names_in d.input d.truth d.names h >>= λ k. initial_in d.initial k

abbrev pub declarations_in : List raw.Declaration → Heading → Result Heading TypeFault
declarations_in [] h = Ok h
declarations_in (d ∷ ds) h = declaration_in d h >>= λ k. declarations_in ds k

abbrev pub with_state : State → Heading → Heading
with_state st h = record { scope = h.scope; state = st; variables = h.variables; initial = h.initial; processes = h.processes }

-- a process is typed, and its own variables are known no more
abbrev pub with_process : ℕ → Made Process → Heading → Heading
with_process shared a h = record {
  scope = take shared h.scope;
  state = a.after;
  variables = h.variables;
  initial = h.initial;
  processes = h.processes ++ a.made ∷ [];
}

abbrev pub process_in : raw.Process → Heading → Result Heading TypeFault
process_in p h =
    declared_as p.name marks.Process h.state >>= λ st. declarations_in p.declarations (with_state st h) >>= λ k.
    bodied k.scope p.body k.state >>= λ a. Ok (with_process (length h.scope) a k)

abbrev pub processes_in : List raw.Process → Heading → Result Heading TypeFault
processes_in [] h = Ok h
processes_in (p ∷ ps) h = process_in p h >>= λ k. processes_in ps k

abbrev pub nothing_met : Heading
nothing_met = record { scope = []; state = record { names = []; occ = 0; loc = 0; weight = 0 }; variables = []; initial = []; processes = [] }

abbrev pub some_process : List raw.Process → Bool
some_process [] = false
some_process (p ∷ ps) = true

-- no program that was read has more than 16
abbrev pub few_processes : List raw.Process → Bool
few_processes ps = some_process ps && nat_le (length ps) 16

abbrev pub heading_of : raw.Program → Result Heading TypeFault
heading_of p =
    if few_processes p.processes then (declarations_in p.declarations nothing_met >>= λ h. processes_in p.processes h)
    else Err (faults.Limit limits.Processes 0)

abbrev pub side_by_side : List Process → Processes
side_by_side [] = no_process
side_by_side (p ∷ ps) = beside p (side_by_side ps)

abbrev pub entry_names : List Entry → List (List ℕ)
entry_names es = map (λ e. e.name) es

-- no name is declared twice
abbrev pub Apart : List Entry → Type 0
Apart es = AreApart (entry_names es)

abbrev pub text_of : List ℕ → Result (List ℕ) TypeFault
text_of name = if is_text name then Ok name else Err (faults.Limit limits.Text 0)

abbrev pub Variables : Type 0
Variables = List (List ℕ × Bool)

abbrev pub Labels : Type 0
Labels = List (List ℕ × (ℕ × Option ℕ))

abbrev pub with_variable : Mark → List ℕ → Variables → Variables
with_variable (marks.Variable truth) name done = done ++ (name, truth) ∷ []
with_variable _ name done = done

abbrev pub with_label : Mark → List ℕ → Labels → Labels
with_label (marks.Label l o) name done = done ++ (name, (l, o)) ∷ []
with_label _ name done = done

-- the variables among declared names, behind those that are done, each with whether it is boolean
abbrev pub variables_of : Variables → List Entry → Result Variables TypeFault
variables_of done [] = Ok done
variables_of done (e ∷ es) = text_of e.name >>= λ name. variables_of (with_variable e.mark name done) es

-- the labels among them, each with its location and, where it is a statement's, its occurrence
abbrev pub labels_of : Labels → List Entry → Result Labels TypeFault
labels_of done [] = Ok done
labels_of done (e ∷ es) = text_of e.name >>= λ name. labels_of (with_label e.mark name done) es

abbrev pub few_names : Variables → Result (Unit {0}) TypeFault
few_names vs = if nat_le (length vs) 64 then Ok tt else Err (faults.Limit limits.Variables 0)

-- a typed program, and its names
pub record Typed : Type 0 where
  pub variables : List Variable
  pub initial : Formula
  pub processes : Processes
  pub locations : ℕ
  pub statements : ℕ
  pub names : Names

abbrev pub typed_of : Heading → Names → Typed
typed_of h names = record {
  variables = h.variables;
  initial = every (formulas h.initial);
  processes = side_by_side h.processes;
  locations = h.state.loc;
  statements = h.state.occ;
  names = names;
}

abbrev pub names_of : List Entry → Result Names TypeFault
names_of es = variables_of [] es >>= λ vs. few_names vs >>= λ _. labels_of [] es >>= λ ls. Ok (record { variables = vs; labels = ls })

-- what a raw program is typed to: the program that it stands for with its names, or the first fault
abbrev pub typing : raw.Program → Result Typed TypeFault
typing p = heading_of p >>= λ h. names_of h.state.names >>= λ names. Ok (typed_of h names)

-- a program of the code with its names
abbrev pub typed_view : Program × NameTable → Typed
typed_view x = record {
  variables = x.0.variables;
  initial = plain x.0.initial;
  processes = plain_children x.0.processes;
  locations = x.0.locations;
  statements = x.0.statements;
  names = x.1;
}

-- what a call that gives no value left behind is what the rules give
abbrev pub Leads : Result (Unit {0}) TypeFault → Heading → Result Heading TypeFault → Type 0
Leads (Ok x) h rules = rules ≡ Ok h
Leads (Err fault) h rules = Fails fault rules
