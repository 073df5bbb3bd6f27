-- Along the walk of typing each declared name is a name of texts, and none is declared twice.
use Rattle.std.proofs.Common.{ℕ, ◌-◌, ◌^◌, Bool, true, nat_lt, List, [], ◌∷◌, ◌++◌, length, Option, Some, None, Result, Ok, Err}
use Rattle.st_form.specs.Formula.{Formula}
use Rattle.st_reading.specs.Reading.{Label}
use Rattle.st_program.specs.Tree.{Statement, Action, Statements, Process}
use Rattle.expression_parser.specs.ExpressionTree.{Expr}
use Rattle.spl_parser.specs.ProgramTree as raw
use Rattle.expression_typer.specs.declared.fault.TypeFault.{TypeFault}
use Rattle.expression_typer.specs.Scope.{Known}
use Rattle.expression_typer.proofs.Holding.{Holds, bound, anyway, unless_err, if_ok}
use Rattle.spl_typer.specs.declared.statement.Here.{Here}
use Rattle.spl_typer.specs.declared.walk.Mark.{Mark}
use Rattle.spl_typer.specs.declared.walk.Mark.TheVariants as marks
use Rattle.spl_typer.specs.Walk.{Entry, State, Made, is_declared, with_name, declared_as, new_location, new_occurrence, next_location, next_occurrence}
use Rattle.spl_typer.specs.Statements.{tested, target, counter, right_side, assigned, pieces_inside}
use Rattle.spl_typer.specs.Groups.{grouped}
use Rattle.spl_typer.specs.Shapes.{something, some_statement, two_statements, two_bodies}
use Rattle.spl_typer.specs.Walking.{fresh, beneath, location, labelled, no_loop, walked, acting, branched, along, inside, bodied}
use Rattle.spl_typer.specs.Programs.{Heading, Apart, knows, named_in, names_in, initial_in, declaration_in, declarations_in, with_state, process_in, processes_in}
use Rattle.spl_typer.proofs.Apart.{declares_apart}
use Rattle.declared_names.specs.Words.{IsWord}
use Rattle.list_laws.specs.Each.{Each}
use Rattle.declared_names.proofs.Raw.{LabelNamed, OwnNamed, StatementNamed, ActionNamed, BranchNamed, StatementsNamed, BodyNamed, BodiesNamed, DeclarationNamed, ProcessNamed}

abbrev pub EntryNamed : Entry → Type 0
EntryNamed e = IsWord e.name

pub record Good (st : State) : Type 0 where
  pub words : Each EntryNamed st.names
  pub apart : Apart st.names

each_push : (es : List Entry) (e : Entry) → Each EntryNamed es → EntryNamed e → Each EntryNamed (es ++ e ∷ [])
each_push [] e h k = (k, tt)
each_push (x ∷ es) e h k = (h.0, each_push es e h.1 k)

both_hold : {A : Type 0} (P Q R : A → Type 0) (r : Result A TypeFault) → Holds P r → Holds Q r → ((x : A) → P x → Q x → R x) → Holds R r
both_hold P Q R (Ok x) p q join = join x p q
both_hold P Q R (Err f) p q join = tt

declared_good : (n : Label) (m : Mark) (st : State) → LabelNamed n → Good st → Holds Good (declared_as n m st)
declared_good n m st word g =
    both_hold (λ (s : State). Each EntryNamed s.names) (λ (s : State). Apart s.names) Good (declared_as n m st)
    (unless_err (λ (s : State). Each EntryNamed s.names) (is_declared n.text st.names) (with_name n m st) _ (each_push st.names (record { name = n.text; mark = m }) g.words word))
    (declares_apart n m st g.apart) (λ s w a. record { words = w; apart = a })

labelled_good : (label : Option Label) (l : ℕ) (o : Option ℕ) (st : State) → OwnNamed label → Good st → Holds Good (labelled label l o st)
labelled_good None l o st h g = g
labelled_good (Some n) l o st h g = declared_good n (marks.Label l o) st h g

abbrev After : {X : Type 0} → Made X → Type 0
After a = Good a.after

location_good : (place : ℕ) (st : State) → Good st → Holds (After {X = ℕ}) (new_location place st)
location_good place st g = if_ok (After {X = ℕ}) (nat_lt st.loc (2 ^ 32 - 1)) (record { made = st.loc; after = next_location st }) _ (λ e. record { words = g.words; apart = g.apart })

own_good : (own : Option ℕ) (place : ℕ) (st : State) → Good st → Holds (After {X = ℕ}) (location own place st)
own_good None place st g = location_good place st g
own_good (Some l) place st g = g

occurrence_good : (place : ℕ) (st : State) → Good st → Holds (After {X = ℕ}) (new_occurrence place st)
occurrence_good place st g = if_ok (After {X = ℕ}) (nat_lt st.occ 400) (record { made = st.occ; after = next_occurrence st }) _ (λ e. record { words = g.words; apart = g.apart })

mutual
  walked_good : (s : List Known) (here : Here) (x : raw.Statement) (st : State) → StatementNamed x → Good st → Holds (After {X = Statement}) (walked s here x st)
  walked_good s here (raw.stated label place act) st h g =
      bound {A = Made ℕ} {B = Made Statement} After After (location here.own place st) _ (own_good here.own place st g)
      (λ l hl. bound {A = Made ℕ} {B = Made Statement} After After (new_occurrence place l.after) _ (occurrence_good place l.after hl)
      (λ o ho. bound {A = State} {B = Made Statement} Good After (labelled label l.made (Some o.made) o.after) _ (labelled_good label l.made (Some o.made) o.after h.0 ho)
      (λ st1 h1. bound {A = Made Action} {B = Made Statement} After After (acting s l.made here.head place act st1) _ (acting_good s l.made here.head place act st1 h.1 h1) (λ a k. k))))

  acting_good : (s : List Known) (l : ℕ) (head : Bool) (place : ℕ) (x : raw.Action) (st : State) → ActionNamed x → Good st → Holds (After {X = Action}) (acting s l head place x st)
  acting_good s l head place raw.skip st h g = g
  acting_good s l head place raw.critical st h g = g
  acting_good s l head place raw.noncritical st h g = g
  acting_good s l head place (raw.assign n e) st h g = anyway (After {X = Action}) (target s n) _ (λ v. anyway (After {X = Action}) (right_side s v e) _ (λ x. g))
  acting_good s l head place (raw.assign_all ns list es) st h g = anyway (After {X = Action}) (assigned s ns list es) _ (λ xs. g)
  acting_good s l head place (raw.await e) st h g = anyway (After {X = Action}) (tested s e) _ (λ f. g)
  acting_good s l head place (raw.request n) st h g = anyway (After {X = Action}) (counter s n) _ (λ v. g)
  acting_good s l head place (raw.release n) st h g = anyway (After {X = Action}) (counter s n) _ (λ v. g)
  acting_good s l head place (raw.conditional e y other) st h g =
      anyway (After {X = Action}) (tested s e) _
      (λ f. bound {A = Made Statement} {B = Made Action} After After (walked s fresh y st) _ (walked_good s fresh y st h.0 g) (λ a k. branched_good s f a.made other a.after h.1 k))
  acting_good s l head place (raw.while_do e y) st h g =
      anyway (After {X = Action}) (no_loop head place) _
      (λ u. anyway (After {X = Action}) (tested s e) _ (λ f. bound {A = Made Statement} {B = Made Action} After After (walked s fresh y st) _ (walked_good s fresh y st h g) (λ a k. k)))
  acting_good s l head place (raw.forever y) st h g =
      anyway (After {X = Action}) (no_loop head place) _ (λ u. bound {A = Made Statement} {B = Made Action} After After (walked s fresh y st) _ (walked_good s fresh y st h g) (λ a k. k))
  acting_good s l head place (raw.block ss) st h g =
      anyway (After {X = Action}) (something (some_statement ss) place) _
      (λ u. bound {A = Made Statements} {B = Made Action} After After (along s (beneath l head) fresh ss st) _ (along_good s (beneath l head) fresh ss st h g) (λ a k. k))
  acting_good s l head place (raw.select ss) st h g =
      anyway (After {X = Action}) (something (two_statements ss) place) _
      (λ u. bound {A = Made Statements} {B = Made Action} After After (along s (beneath l true) (beneath l true) ss st) _ (along_good s (beneath l true) (beneath l true) ss st h g) (λ a k. k))
  acting_good s l head place (raw.cooperate xs) st h g =
      anyway (After {X = Action}) (something (two_bodies xs) place) _ (λ u. bound After (After {X = Action}) (inside s xs st) _ (inside_good s xs st h g) (λ a k. k))
  acting_good s l head place (raw.group ss) st h g =
      anyway (After {X = Action}) (pieces_inside s place ss) _ (λ xs. anyway (After {X = Action}) (grouped place xs st.weight) _ (λ w. record { words = g.words; apart = g.apart }))

  branched_good : (s : List Known) (f : Formula) (y : Statement) (other : raw.Branch) (st : State) → BranchNamed other → Good st → Holds (After {X = Action}) (branched s f y other st)
  branched_good s f y raw.no_branch st h g = g
  branched_good s f y (raw.branch n) st h g = bound {A = Made Statement} {B = Made Action} After After (walked s fresh n st) _ (walked_good s fresh n st h g) (λ b k. k)

  along_good : (s : List Known) (here there : Here) (ss : raw.Statements) (st : State) → StatementsNamed ss → Good st → Holds (After {X = Statements}) (along s here there ss st)
  along_good s here there raw.no_statements st h g = g
  along_good s here there (raw.followed x xs) st h g =
      bound {A = Made Statement} {B = Made Statements} After After (walked s here x st) _ (walked_good s here x st h.0 g)
      (λ a k. bound {A = Made Statements} {B = Made Statements} After After (along s there there xs a.after) _ (along_good s there there xs a.after h.1 k) (λ b m. m))

  inside_good : (s : List Known) (xs : raw.Bodies) (st : State) → BodiesNamed xs → Good st → Holds After (inside s xs st)
  inside_good s raw.no_bodies st h g = g
  inside_good s (raw.beside b xs) st h g =
      bound After After (bodied s b st) _ (body_good s b st h.0 g) (λ a k. bound After After (inside s xs a.after) _ (inside_good s xs a.after h.1 k) (λ d m. m))

  body_good : (s : List Known) (b : raw.Body) (st : State) → BodyNamed b → Good st → Holds (After {X = Process}) (bodied s b st)
  body_good s (raw.body ss end) st h g =
      anyway {A = Unit {0}} {B = Made Process} After (something (some_statement ss) 0) _
      (λ u. bound {A = Made Statements} {B = Made Process} After After (along s fresh fresh ss st) _ (along_good s fresh fresh ss st h.0 g)
      (λ a k. bound {A = Made ℕ} {B = Made Process} After After (new_location 0 a.after) _ (location_good 0 a.after k)
      (λ l hl. bound {A = State} {B = Made Process} Good After (labelled end l.made None l.after) _ (labelled_good end l.made None l.after h.1 hl) (λ st1 m. m))))

-- declarations and processes
abbrev pub Fine : Heading → Type 0
Fine h = Good h.state

named_fine : (input truth : Bool) (n : Label) (h : Heading) → LabelNamed n → Fine h → Holds Fine (named_in input truth n h)
named_fine input truth n h word g =
    bound Good Fine (declared_as n (marks.Variable truth) h.state) _ (declared_good n (marks.Variable truth) h.state word g)
    (λ st k. if_ok Fine (nat_lt (length h.variables) 64) (knows input truth n st h) _ (λ few. k))

names_fine : (input truth : Bool) (ns : List Label) (h : Heading) → Each LabelNamed ns → Fine h → Holds Fine (names_in input truth ns h)
names_fine input truth [] h words g = g
names_fine input truth (n ∷ ns) h words g = bound Fine Fine (named_in input truth n h) _ (named_fine input truth n h words.0 g) (λ k f. names_fine input truth ns k words.1 f)

initial_fine : (o : Option Expr) (h : Heading) → Fine h → Holds Fine (initial_in o h)
initial_fine None h g = g
initial_fine (Some x) h g = anyway Fine (tested h.scope x) _ (λ f. g)

pub declarations_fine : (ds : List raw.Declaration) (h : Heading) → Each DeclarationNamed ds → Fine h → Holds Fine (declarations_in ds h)
declarations_fine [] h words g = g
declarations_fine (d ∷ ds) h words g =
    bound Fine Fine (declaration_in d h) _ (bound Fine Fine (names_in d.input d.truth d.names h) _ (names_fine d.input d.truth d.names h words.0 g) (λ k f. initial_fine d.initial k f))
    (λ k f. declarations_fine ds k words.1 f)

process_fine : (p : raw.Process) (h : Heading) → ProcessNamed p → Fine h → Holds Fine (process_in p h)
process_fine p h words g =
    bound Good Fine (declared_as p.name marks.Process h.state) _ (declared_good p.name marks.Process h.state words.name g)
    (λ st k. bound Fine Fine (declarations_in p.declarations (with_state st h)) _ (declarations_fine p.declarations (with_state st h) words.declarations k)
    (λ m f. bound {A = Made Process} {B = Heading} After Fine (bodied m.scope p.body m.state) _ (body_good m.scope p.body m.state words.body f) (λ a r. r)))

pub processes_fine : (ps : List raw.Process) (h : Heading) → Each ProcessNamed ps → Fine h → Holds Fine (processes_in ps h)
processes_fine [] h words g = g
processes_fine (p ∷ ps) h words g = bound Fine Fine (process_in p h) _ (process_fine p h words.0 g) (λ k f. processes_fine ps k words.1 f)
