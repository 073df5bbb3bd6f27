-- The table of a typed program: its names stand for the program's variables, by their types, and for its locations.
use Rattle.std.proofs.Common.{◌≡◌, ℕ, zero, suc, ◌<◌, ◌≤◌, Bool, true, false, cond, nat_lt, List, [], ◌∷◌, ◌++◌, map, length, slice_get, append-nil, refl, ap, sym, ◌∙◌, subst, Option, Some, None, Ok, Err}
use Rattle.std.specs.Prelude.{position}
use Rattle.std.proofs.lemmas.List.{length-map}
use Rattle.std.specs.Option.{option_map}
use Rattle.std.specs.Str.{bytes_eq}
use Rattle.st_tokens.specs.declared.limit.LimitKind.TheVariants as limits
use Rattle.st_form.specs.declared.variables.Variable.{Variable}
use Rattle.st_reading.specs.Reading.{Label}
use Rattle.st_program.specs.Types.{type_of}
use Rattle.st_program.specs.Names.{named}
use Rattle.st_program.specs.Names as tables
use Rattle.expression_parser.specs.ExpressionTree.{Expr}
use Rattle.spl_parser.specs.ProgramTree as raw
use Rattle.expression_typer.specs.declared.fault.TypeFault.TheVariants as faults
use Rattle.spl_typer.specs.declared.walk.Mark.{Mark}
use Rattle.spl_typer.specs.declared.walk.Mark.TheVariants as marks
use Rattle.expression_typer.specs.Answers.{◌>>=◌}
use Rattle.spl_typer.specs.Walk.{Entry, State, is_declared, with_name, declared_as}
use Rattle.spl_typer.specs.Statements.{tested}
use Rattle.spl_typer.specs.Walking.{bodied}
use Rattle.expression_typer.specs.Naming.{is_text}
use Rattle.spl_typer.specs.Programs.{Heading, knows, named_in, names_in, initial_in, declaration_in, declarations_in, with_state, process_in, processes_in, nothing_met, few_processes, heading_of, text_of, Variables, Labels, with_variable, with_label, variables_of, labels_of, few_names, names_of, Typed, typing}
use Rattle.expression_typer.proofs.Holding.{Holds, bound, anyway, weaker, unless_err, if_ok}
use Rattle.expression_typer.specs.Naming.{variable_at, location_named}
use Rattle.expression_typer.specs.Naming as naming
use Rattle.expression_typer.specs.Naming.{NamesOver}
use Rattle.spl_typer.proofs.Kept.{types_in, with_type, AllBelow, MarkBelow, types_push, below_push, body_kept}

abbrev types : List Variable → List Bool
types vs = map (λ v. v.truth) vs

-- the declared variables are those met, and labels have locations that were given out
abbrev Entered : Heading → Type 0
Entered h = (types_in h.state.names ≡ types h.variables) × AllBelow h.state.loc h.state.names

types_last : (vs : List Variable) (v : Variable) → types (vs ++ v ∷ []) ≡ types vs ++ v.truth ∷ []
types_last [] v = refl
types_last (x ∷ vs) v = ap (λ l. x.truth ∷ l) (types_last vs v)

abbrev Declares : List Bool → State → Type 0
Declares bs st = (types_in st.names ≡ bs) × AllBelow st.loc st.names

declares_kept : (bs : List Bool) (n : Label) (m : Mark) (st : State) → MarkBelow st.loc m → types_in st.names ++ with_type m [] ≡ bs → AllBelow st.loc st.names → Holds (Declares bs) (declared_as n m st)
declares_kept bs n m st k e h =
    unless_err (Declares bs) (is_declared n.text st.names) (with_name n m st) _
    (types_push st.names (record { name = n.text; mark = m }) ∙ e, below_push st.loc st.names (record { name = n.text; mark = m }) h k)

named_entered : (input truth : Bool) (n : Label) (h : Heading) → Entered h → Holds Entered (named_in input truth n h)
named_entered input truth n h e =
    bound (Declares (types h.variables ++ truth ∷ [])) Entered (declared_as n (marks.Variable truth) h.state) _
    (declares_kept (types h.variables ++ truth ∷ []) n (marks.Variable truth) h.state tt (ap (λ l. l ++ truth ∷ []) e.0) e.1)
    (λ st g. if_ok Entered (nat_lt (length h.variables) 64) (knows input truth n st h) _ (λ few. (g.0 ∙ sym (types_last h.variables (record { input = input; truth = truth })), g.1)))

names_entered : (input truth : Bool) (ns : List Label) (h : Heading) → Entered h → Holds Entered (names_in input truth ns h)
names_entered input truth [] h e = e
names_entered input truth (n ∷ ns) h e = bound Entered Entered (named_in input truth n h) _ (named_entered input truth n h e) (λ k f. names_entered input truth ns k f)

initial_entered : (o : Option Expr) (h : Heading) → Entered h → Holds Entered (initial_in o h)
initial_entered None h e = e
initial_entered (Some x) h e = anyway Entered (tested h.scope x) _ (λ f. e)

declaration_entered : (d : raw.Declaration) (h : Heading) → Entered h → Holds Entered (declaration_in d h)
declaration_entered d h e = bound Entered Entered (names_in d.input d.truth d.names h) _ (names_entered d.input d.truth d.names h e) (λ k f. initial_entered d.initial k f)

declarations_entered : (ds : List raw.Declaration) (h : Heading) → Entered h → Holds Entered (declarations_in ds h)
declarations_entered [] h e = e
declarations_entered (d ∷ ds) h e = bound Entered Entered (declaration_in d h) _ (declaration_entered d h e) (λ k f. declarations_entered ds k f)

process_entered : (p : raw.Process) (h : Heading) → Entered h → Holds Entered (process_in p h)
process_entered p h e =
    bound (Declares (types h.variables)) Entered (declared_as p.name marks.Process h.state) _
    (declares_kept (types h.variables) p.name marks.Process h.state tt (append-nil (types_in h.state.names) ∙ e.0) e.1)
    (λ st g. bound Entered Entered (declarations_in p.declarations (with_state st h)) _ (declarations_entered p.declarations (with_state st h) g)
    (λ k f. bound (λ a. Declares (types k.variables) a.after × (k.state.loc ≤ a.after.loc)) Entered (bodied k.scope p.body k.state) _ (body_kept (types k.variables) k.scope p.body k.state f) (λ a r. r.0)))

processes_entered : (ps : List raw.Process) (h : Heading) → Entered h → Holds Entered (processes_in ps h)
processes_entered [] h e = e
processes_entered (p ∷ ps) h e = bound Entered Entered (process_in p h) _ (process_entered p h e) (λ k f. processes_entered ps k f)

heading_entered : (p : raw.Program) → Holds Entered (heading_of p)
heading_entered p = go (few_processes p.processes)
  where
    go : (b : Bool) → Holds Entered (cond b (declarations_in p.declarations nothing_met >>= λ h. processes_in p.processes h) (Err (faults.Limit limits.Processes 0)))
    go false = tt
    go true = bound Entered Entered (declarations_in p.declarations nothing_met) _ (declarations_entered p.declarations nothing_met (refl, tt)) (λ h e. processes_entered p.processes h e)

-- the table has the declared variables, in order
abbrev kinds : Variables → List Bool
kinds vs = map (λ x. x.1) vs

kind_last : (done : Variables) (name : List ℕ) (b : Bool) (bs : List Bool) → kinds (done ++ (name, b) ∷ []) ++ bs ≡ kinds done ++ b ∷ bs
kind_last [] name b bs = refl
kind_last (d ∷ done) name b bs = ap (λ l. d.1 ∷ l) (kind_last done name b bs)

kinds_step : (m : Mark) (name : List ℕ) (done : Variables) (bs : List Bool) → kinds (with_variable m name done) ++ bs ≡ kinds done ++ with_type m bs
kinds_step (marks.Variable b) name done bs = kind_last done name b bs
kinds_step (marks.Label l o) name done bs = refl
kinds_step marks.Process name done bs = refl

variables_listed : (done : Variables) (es : List Entry) → Holds (λ vs. kinds vs ≡ kinds done ++ types_in es) (variables_of done es)
variables_listed done [] = sym (append-nil (kinds done))
variables_listed done (e ∷ es) =
    anyway (λ vs. kinds vs ≡ kinds done ++ types_in (e ∷ es)) (text_of e.name) _
    (λ name. weaker (λ vs. kinds vs ≡ kinds (with_variable e.mark name done) ++ types_in es) (λ vs. kinds vs ≡ kinds done ++ types_in (e ∷ es)) (variables_of (with_variable e.mark name done) es)
    (variables_listed (with_variable e.mark name done) es) (λ vs h. h ∙ kinds_step e.mark name done (types_in es)))

-- and its labels have locations below the bound
abbrev LabelsBelow : ℕ → Labels → Type 0
LabelsBelow n [] = Unit {0}
LabelsBelow n (x ∷ xs) = (x.1.0 < n) × LabelsBelow n xs

labels_push : (n : ℕ) (done : Labels) (name : List ℕ) (l : ℕ) (o : Option ℕ) → LabelsBelow n done → l < n → LabelsBelow n (done ++ (name, (l, o)) ∷ [])
labels_push n [] name l o h lt = (lt, tt)
labels_push n (d ∷ done) name l o h lt = (h.0, labels_push n done name l o h.1 lt)

labels_step : (n : ℕ) (m : Mark) (name : List ℕ) (done : Labels) → LabelsBelow n done → MarkBelow n m → LabelsBelow n (with_label m name done)
labels_step n (marks.Label l o) name done h k = labels_push n done name l o h k
labels_step n (marks.Variable b) name done h k = h
labels_step n marks.Process name done h k = h

labels_listed : (n : ℕ) (done : Labels) (es : List Entry) → LabelsBelow n done → AllBelow n es → Holds (LabelsBelow n) (labels_of done es)
labels_listed n done [] h k = h
labels_listed n done (e ∷ es) h k =
    anyway (LabelsBelow n) (text_of e.name) _ (λ name. labels_listed n (with_label e.mark name done) es (labels_step n e.mark name done h k.0) k.1)

abbrev Listed : List Bool → ℕ → tables.Names → Type 0
Listed bs n t = (kinds t.variables ≡ bs) × LabelsBelow n t.labels

names_listed : (es : List Entry) (n : ℕ) → AllBelow n es → Holds (Listed (types_in es) n) (names_of es)
names_listed es n h =
    bound (λ vs. kinds vs ≡ types_in es) (Listed (types_in es) n) (variables_of [] es) _ (variables_listed [] es)
    (λ vs e. anyway (Listed (types_in es) n) (few_names vs) _ (λ few. bound (LabelsBelow n) (Listed (types_in es) n) (labels_of [] es) _ (labels_listed n [] es tt h) (λ ls k. (e, k))))

abbrev Fitted : Typed → Type 0
Fitted t = Listed (types t.variables) t.locations t.names

typing_fitted : (p : raw.Program) → Holds Fitted (typing p)
typing_fitted p =
    bound Entered Fitted (heading_of p) _ (heading_entered p)
    (λ h e. bound (Listed (types_in h.state.names) h.state.loc) Fitted (names_of h.state.names) _ (names_listed h.state.names h.state.loc e.1) (λ t k. (k.0 ∙ e.0, k.1)))

-- looking up
get_map : {A B : Type 0} (f : A → B) (xs : List A) (i : ℕ) → option_map f (slice_get xs i) ≡ slice_get (map f xs) i
get_map f [] i = refl
get_map f (x ∷ xs) zero = refl
get_map f (x ∷ xs) (suc i) = get_map f xs i

abbrev pair_or : {A : Type 0} → A → Option A → A
pair_or d None = d
pair_or d (Some p) = p

module _ (vs : List Variable) (table : Variables) (same : kinds table ≡ types vs) where
  typed_there : (place v : ℕ) (b : Bool) (o : Option (List ℕ × Bool)) → slice_get table place ≡ o → option_map {U = ℕ × Bool} (λ x. (place, x.1)) o ≡ Some (v, b) → type_of vs v ≡ Some b
  typed_there place v b None is e = absurd cc
  typed_there place v b (Some x) is e =
      let p = ap (pair_or (v, b)) e in
      subst (λ k. type_of vs k ≡ Some b) (ap (λ q. q.0) p)
      (get_map (λ w. w.truth) vs place ∙ ap (λ l. slice_get l place) (sym same) ∙ sym (get_map (λ x. x.1) table place) ∙ ap (option_map (λ x. x.1)) is ∙ ap (λ q. Some q.1) p)

  found_there : (o : Option ℕ) (v : ℕ) (b : Bool) → variable_at table o ≡ Some (v, b) → type_of vs v ≡ Some b
  found_there None v b e = absurd cc
  found_there (Some place) v b e = typed_there place v b (slice_get table place) refl e

  text_there : (c : Bool) (o : Option ℕ) (v : ℕ) (b : Bool) → cond c (variable_at table o) None ≡ Some (v, b) → type_of vs v ≡ Some b
  text_there true o v b e = found_there o v b e
  text_there false o v b e = absurd cc

named_below : (n : ℕ) (name : List ℕ) (xs : Labels) (y : ℕ × Option ℕ) → LabelsBelow n xs → named name xs ≡ Some y → y.0 < n
named_below n name [] y h e = absurd cc
named_below n name (x ∷ xs) y h e = go (bytes_eq name x.0) (named_below n name xs y h.1) e
  where
    go : (b : Bool) → (named name xs ≡ Some y → y.0 < n) → cond b (Some x.1) (named name xs) ≡ Some y → y.0 < n
    go true more f = subst (λ k. k < n) (ap (λ (o : Option (ℕ × Option ℕ)). (pair_or y o).0) f) h.0
    go false more f = more f

location_below : (n : ℕ) (o : Option (ℕ × Option ℕ)) (l : ℕ) → ((y : ℕ × Option ℕ) → o ≡ Some y → y.0 < n) → option_map (λ x. x.0) o ≡ Some l → l < n
location_below n None l h e = absurd cc
location_below n (Some y) l h e = subst (λ k. k < n) (ap (pair_or l) e) (h y refl)

text_below : (n : ℕ) (c : Bool) (o : Option ℕ) (l : ℕ) → (o ≡ Some l → l < n) → cond c o None ≡ Some l → l < n
text_below n true o l h e = h e
text_below n false o l h e = absurd cc

fitted_over : (t : Typed) → Fitted t → NamesOver t.variables t.locations (naming.names_of t.names)
fitted_over t f =
    record {
      variables = λ name v b e. text_there t.variables t.names.variables f.0 (is_text name) (position (λ k. bytes_eq name k) (tables.names_in t.names.variables)) v b e;
      places = λ name l e. text_below t.locations (is_text name) (location_named t.names.labels name) l
          (λ g. location_below t.locations (named name t.names.labels) l (λ y i. named_below t.locations name t.names.labels y f.1 i) g) e;
    }

-- the names of a typed program stand for its variables and its locations
pub names_stand : (p : raw.Program) (t : Typed) → typing p ≡ Ok t → NamesOver t.variables t.locations (naming.names_of t.names)
names_stand p t e = fitted_over t (subst (Holds Fitted) e (typing_fitted p))

-- it has a name for each variable
pub as_many : (p : raw.Program) (t : Typed) → typing p ≡ Ok t → length t.names.variables ≡ length t.variables
as_many p t e =
    let fitted : Fitted t = subst (Holds Fitted) e (typing_fitted p) in
    sym (length-map t.names.variables (λ x. x.1)) ∙ ap length fitted.0 ∙ length-map t.variables (λ v. v.truth)

-- by the variables' types, in their order
pub kinds_stand : (p : raw.Program) (t : Typed) → typing p ≡ Ok t → map (λ x. x.1) t.names.variables ≡ map (λ v. v.truth) t.variables
kinds_stand p t e = let fitted : Fitted t = subst (Holds Fitted) e (typing_fitted p) in fitted.0
