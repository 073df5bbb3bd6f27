-- The faults of a program that lies in a text are rules of typing, in text order.
use Rattle.std.proofs.Common.{◌≡◌, ℕ, suc, ◌+◌, ◌≤◌, Bool, true, nat_lt, nat_le, List, [], ◌∷◌, ◌++◌, length, refl, ◌∙◌, arith, length-append, Option, Some, None, Ok, append-nil}
use Rattle.std.proofs.lemmas.Bool.Decides.{nat_tests}
use Rattle.st_reading.specs.Reading.{Label}
use Rattle.expression_parser.specs.ExpressionTree.{Expr}
use Rattle.spl_parser.specs.ProgramTree as raw
use Rattle.spl_parser.specs.Numbers.{in_body, in_processes, declared, declared_inside, IsWithin}
use Rattle.expression_typer.specs.declared.fault.TypeFault.TheVariants as faults
use Rattle.spl_typer.specs.declared.walk.Mark.{Mark}
use Rattle.spl_typer.specs.declared.walk.Mark.TheVariants as marks
use Rattle.spl_typer.specs.Walk.{Entry, is_declared}
use Rattle.expression_typer.specs.Naming.{is_text}
use Rattle.spl_typer.specs.Programs.{nothing_met, few_processes, Variables, Labels, with_variable, with_label, variables_of, labels_of, names_of}
use Rattle.spl_typer.specs.StatementRules.{faults_of}
use Rattle.spl_typer.specs.ProgramRules.{Front, front, declares_again, named, behind_name, name_faults, behind_names, names_faults, initial_faults, behind_declaration, declaration_faults, behind_declarations, declarations_faults, inside_process, behind_process, process_faults, behind_processes, processes_faults, before_processes, program_faults}
use Rattle.typing_laws.proofs.Laying.{LabelLaid, InRow, InitialLaid, DeclarationLaid, ProcessLaid, SomeProcesses, ProgramLaid}
use Rattle.typing_laws.proofs.Ordering.{Ordered, ordered_append, alone_where, widened}
use Rattle.typing_laws.proofs.ExpressionFaults.{test_ordered}
use Rattle.typing_laws.proofs.Counting.{ArePlain, is_variable, variables_among, plain_append, among_append, Room, room_behind, room_less, body_grows}
use Rattle.typing_laws.proofs.StatementFaults.{body_ordered}

-- room for v more variables and m more statements; names are ASCII, and as many are variables as there are variables
record Fits (v m : ℕ) (f : Front) : Type 0 where
  variables : length f.variables + v ≤ 64
  room : Room m f.state
  plain : ArePlain f.state.names
  among : variables_among f.state.names ≡ length f.variables

fits_less : (v w m n : ℕ) (f : Front) → v ≤ w → m ≤ n → Fits w n f → Fits v m f
fits_less v w m n f h k b = record { variables = omega (arith, h, b.variables); room = room_less m n f.state k b.room; plain = b.plain; among = b.among }

name_fits : (input truth : Bool) (n : Label) (v m : ℕ) (f : Front) → is_text n.text ≡ true → Fits (1 + v) m f → Fits v m (behind_name input truth n f)
name_fits input truth n v m f h b =
    let l : length (f.variables ++ record { input = input; truth = truth } ∷ []) ≡ length f.variables + 1 = length-append f.variables (record { input = input; truth = truth } ∷ []) in
    let a = among_append f.state.names (record { name = n.text; mark = marks.Variable truth }) in
    record {
      variables = omega (arith, l, b.variables);
      room = record { occ = b.room.occ; loc = b.room.loc };
      plain = plain_append f.state.names (record { name = n.text; mark = marks.Variable truth }) b.plain h;
      among = omega (arith, a, l, b.among);
    }

names_fit : (input truth : Bool) (ns : List Label) (v m from to : ℕ) (f : Front) → InRow LabelLaid ns from to → Fits (length ns + v) m f → Fits v m (behind_names input truth ns f)
names_fit input truth [] v m from to f h b = fits_less v _ m m f (omega arith) (omega arith) b
names_fit input truth (n ∷ ns) v m from to f h b = names_fit input truth ns v m h.0 to (behind_name input truth n f) h.2 (name_fits input truth n (length ns + v) m f h.1.plain (fits_less _ _ m m f (omega arith) (omega arith) b))

declarations_fit : (ds : List raw.Declaration) (v m from to : ℕ) (f : Front) → InRow DeclarationLaid ds from to → Fits (declared ds + v) m f → Fits v m (behind_declarations ds f)
declarations_fit [] v m from to f h b = fits_less v _ m m f (omega arith) (omega arith) b
declarations_fit (d ∷ ds) v m from to f h b =
    declarations_fit ds v m h.0 to (behind_declaration d f) h.2
    (names_fit d.input d.truth d.names (declared ds + v) m from h.1.mid f h.1.names (fits_less _ _ m m f (omega arith) (omega arith) b))

process_named : (p : raw.Process) (v m : ℕ) (f : Front) → is_text p.name.text ≡ true → Fits v m f → Fits v m (named p.name marks.Process f)
process_named p v m f h b =
    let a = among_append f.state.names (record { name = p.name.text; mark = marks.Process }) in
    record {
      variables = b.variables;
      room = record { occ = b.room.occ; loc = b.room.loc };
      plain = plain_append f.state.names (record { name = p.name.text; mark = marks.Process }) b.plain h;
      among = omega (arith, a, b.among);
    }

inside_fits : (p : raw.Process) (v m from to : ℕ) (f : Front) → ProcessLaid p from to → Fits (declared p.declarations + v) m f → Fits v m (inside_process p f)
inside_fits p v m from to f l b = declarations_fit p.declarations v m l.named l.declared (named p.name marks.Process f) l.declarations (process_named p _ m f l.name.plain b)

process_fits : (p : raw.Process) (v m from to : ℕ) (f : Front) → ProcessLaid p from to → Fits (declared p.declarations + v) (in_body p.body + m) f → Fits v m (behind_process p f)
process_fits p v m from to f l b =
    let i = inside_fits p v (in_body p.body + m) from to f l b in
    let g = body_grows (inside_process p f).scope p.body (inside_process p f).state l.declared to l.body in
    record {
      variables = i.variables;
      room = room_behind (in_body p.body) m 0 (inside_process p f).state _ g i.room;
      plain = g.plain i.plain;
      among = g.among ∙ i.among;
    }

processes_fit : (ps : List raw.Process) (from to : ℕ) (f : Front) → InRow ProcessLaid ps from to → Fits (declared_inside ps) (in_processes ps) f → Fits 0 0 (behind_processes ps f)
processes_fit [] from to f h b = b
processes_fit (p ∷ ps) from to f h b = processes_fit ps h.0 to (behind_process p f) h.2 (process_fits p (declared_inside ps) (in_processes ps) from h.0 f h.1 b)

name_ordered : (n : Label) (v m : ℕ) (f : Front) → Fits (1 + v) m f → Ordered n.place (suc n.place) (name_faults n f)
name_ordered n v m f b =
    let k : nat_lt (length f.variables) 64 ≡ true = grind (arith, nat_tests, b.variables) in
    rw (k, append-nil (declares_again n f)) (alone_where (is_declared n.text f.state.names) (faults.Twice n.place) tt)

names_ordered : (input truth : Bool) (ns : List Label) (v m from to : ℕ) (f : Front) → InRow LabelLaid ns from to → Fits (length ns + v) m f → Ordered from to (names_faults input truth ns f)
names_ordered input truth [] v m from to f h b = h
names_ordered input truth (n ∷ ns) v m from to f h b =
    ordered_append from h.0 to (name_faults n f) _
    (widened n.place (suc n.place) from h.0 _ h.1.behind (omega (arith, h.1.ahead)) (name_ordered n (length ns + v) m f (fits_less _ _ m m f (omega arith) (omega arith) b)))
    (names_ordered input truth ns v m h.0 to (behind_name input truth n f) h.2 (name_fits input truth n (length ns + v) m f h.1.plain (fits_less _ _ m m f (omega arith) (omega arith) b)))

initial_ordered : (e : Option Expr) (f : Front) (from to : ℕ) → InitialLaid e from to → Ordered from to (initial_faults e f)
initial_ordered None f from to h = h
initial_ordered (Some e) f from to h = test_ordered f.scope e from to h

declarations_ordered : (ds : List raw.Declaration) (v m from to : ℕ) (f : Front) → InRow DeclarationLaid ds from to → Fits (declared ds + v) m f → Ordered from to (declarations_faults ds f)
declarations_ordered [] v m from to f h b = h
declarations_ordered (d ∷ ds) v m from to f h b =
    let c : Fits (length d.names + (declared ds + v)) m f = fits_less _ _ m m f (omega arith) (omega arith) b in
    ordered_append from h.0 to (declaration_faults d f) _
    (ordered_append from h.1.mid h.0 (names_faults d.input d.truth d.names f) _
    (names_ordered d.input d.truth d.names (declared ds + v) m from h.1.mid f h.1.names c)
    (initial_ordered d.initial (behind_declaration d f) h.1.mid h.0 h.1.initial))
    (declarations_ordered ds v m h.0 to (behind_declaration d f) h.2 (names_fit d.input d.truth d.names (declared ds + v) m from h.1.mid f h.1.names c))

process_ordered : (p : raw.Process) (v m from to : ℕ) (f : Front) → ProcessLaid p from to → Fits (declared p.declarations + v) (in_body p.body + m) f → Ordered from to (process_faults p f)
process_ordered p v m from to f l b =
    ordered_append from l.named to (declares_again p.name f) _
    (widened p.name.place (suc p.name.place) from l.named _ l.name.behind (omega (arith, l.name.ahead)) (alone_where (is_declared p.name.text f.state.names) (faults.Twice p.name.place) tt))
    (ordered_append l.named l.declared to (declarations_faults p.declarations (named p.name marks.Process f)) _
    (declarations_ordered p.declarations v (in_body p.body + m) l.named l.declared (named p.name marks.Process f) l.declarations (process_named p _ _ f l.name.plain b))
    (body_ordered (inside_process p f).scope p.body (inside_process p f).state l.declared to l.body
    (room_less (in_body p.body) (in_body p.body + m) (inside_process p f).state (omega arith) (inside_fits p v (in_body p.body + m) from to f l b).room)))

processes_ordered : (ps : List raw.Process) (from to : ℕ) (f : Front) → InRow ProcessLaid ps from to → Fits (declared_inside ps) (in_processes ps) f → Ordered from to (processes_faults ps f)
processes_ordered [] from to f h b = h
processes_ordered (p ∷ ps) from to f h b =
    ordered_append from h.0 to (process_faults p f) _ (process_ordered p (declared_inside ps) (in_processes ps) from h.0 f h.1 b)
    (processes_ordered ps h.0 to (behind_process p f) h.2 (process_fits p (declared_inside ps) (in_processes ps) from h.0 f h.1 b))

-- the names of a program that was read make its table
record Tabled (done : Variables) (es : List Entry) : Type 0 where
  all : Variables
  is : variables_of done es ≡ Ok all
  count : length all ≡ length done + variables_among es

with_count : (m : Mark) (name : List ℕ) (done : Variables) → length (with_variable m name done) ≡ length done + is_variable m
with_count (marks.Variable truth) name done = length-append done ((name, truth) ∷ [])
with_count (marks.Label l o) name done = omega arith
with_count marks.Process name done = omega arith

tabled : (done : Variables) (es : List Entry) → ArePlain es → Tabled done es
tabled done [] h = record { all = done; is = refl; count = omega arith }
tabled done (e ∷ es) h =
    let t = tabled (with_variable e.mark e.name done) es h.1 in
    let c = with_count e.mark e.name done in
    record { all = t.all; is = rw h.0 t.is; count = omega (arith, t.count, c) }

labelled : (done : Labels) (es : List Entry) → ArePlain es → (ls : Labels) × (labels_of done es ≡ Ok ls)
labelled done [] h = (done, refl)
labelled done (e ∷ es) h = let t = labelled (with_label e.mark e.name done) es h.1 in (t.0, rw h.0 t.1)

names_none : (es : List Entry) → ArePlain es → variables_among es ≤ 64 → faults_of (names_of es) ≡ []
names_none es h k =
    let t = tabled [] es h in
    let l = labelled [] es h in
    let few : nat_le (length t.all) 64 ≡ true = grind (arith, nat_tests, t.count, k) in
    rw (t.is, few, l.1) refl

few_are : (ps : List raw.Process) → SomeProcesses ps → length ps ≤ 16 → few_processes ps ≡ true
few_are [] h k = absurd h
few_are (p ∷ ps) h k = grind (arith, nat_tests, k)

pub program_ordered : (x : raw.Program) (l : ProgramLaid x) → IsWithin x → Ordered 0 l.end (program_faults x)
program_ordered x l w =
    let b : Fits (declared x.declarations + declared_inside x.processes) (in_processes x.processes) (front nothing_met) =
    record { variables = omega (arith, w.variables); room = record { occ = omega (arith, w.statements); loc = omega (arith, w.statements) }; plain = tt; among = refl } in
    let c = declarations_fit x.declarations (declared_inside x.processes) (in_processes x.processes) 0 l.declared (front nothing_met) l.declarations b in
    let d = processes_fit x.processes l.declared l.end (before_processes x) l.processes c in
    rw (few_are x.processes l.some w.processes, names_none (behind_processes x.processes (before_processes x)).state.names d.plain (omega (arith, d.among, d.variables)), append-nil (declarations_faults x.declarations (front nothing_met) ++ processes_faults x.processes (before_processes x)))
    (ordered_append 0 l.declared l.end (declarations_faults x.declarations (front nothing_met)) _
    (declarations_ordered x.declarations (declared_inside x.processes) (in_processes x.processes) 0 l.declared (front nothing_met) l.declarations b)
    (processes_ordered x.processes l.declared l.end (before_processes x) l.processes c))
