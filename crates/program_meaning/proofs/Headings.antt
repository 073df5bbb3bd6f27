-- What the walk makes of declarations and processes is what they stand for.
use Rattle.std.proofs.Common.{◌≡◌, ℕ, suc, ◌+◌, Bool, nat_lt, List, [], ◌∷◌, ◌++◌, map, length, take, append-nil, append_assoc, refl, sym, ap, subst, ◌∙◌, arith, Option, Some, None}
use Rattle.std.specs.Prelude.{flat_map}
use Rattle.std.proofs.lemmas.List.{length-map, length-append}
use Rattle.st_form.specs.Formula.{Formula}
use Rattle.st_form.specs.declared.variables.Variable.{Variable}
use Rattle.st_reading.specs.Reading.{Label}
use Rattle.st_program.specs.Tree.{Process}
use Rattle.expression_parser.specs.ExpressionTree.{Expr}
use Rattle.spl_parser.specs.ProgramTree as raw
use Rattle.expression_typer.specs.Scope.{Known}
use Rattle.expression_typer.proofs.Holding.{Holds, bound, weaker, unless_err, if_ok}
use Rattle.spl_typer.specs.declared.walk.Mark.{Mark}
use Rattle.spl_typer.specs.declared.walk.Mark.TheVariants as marks
use Rattle.spl_typer.specs.ProgramRules.{InitialModest, DeclarationsModest, ProcessesModest}
use Rattle.spl_typer.specs.Modest.{BodyModest}
use Rattle.spl_typer.specs.Walk.{Entry, State, Made, is_declared, with_name, declared_as}
use Rattle.spl_typer.specs.Statements.{tested}
use Rattle.spl_typer.specs.Walking.{bodied}
use Rattle.spl_typer.specs.Programs.{Heading, knows, named_in, names_in, initial_in, declaration_in, declarations_in, with_state, with_process, process_in, processes_in, side_by_side, Labels, Variables}
use Rattle.program_meaning.specs.Meaning.{Declared, declared_by, declared, known, IsTest, IsBody, IsStart, no_start, a_start, AreStarts, no_starts, more_starts, AreProcesses, no_processes, more_processes}
use Rattle.program_meaning.proofs.Parts.{test_means}
use Rattle.program_meaning.proofs.Walked.{entries, Meant, body_means}

-- LISTS
pub map_append : {A B : Type 0} (f : A → B) (xs ys : List A) → map f (xs ++ ys) ≡ map f xs ++ map f ys
map_append f [] ys = refl
map_append f (x ∷ xs) ys = ap (λ zs. f x ∷ zs) (map_append f xs ys)

pub known_append : (n : ℕ) (vs ws : List Declared) → known n (vs ++ ws) ≡ known n vs ++ known (n + length vs) ws
known_append n [] ws = ap (λ m. known m ws) (plus_zero n)
  where
    plus_zero : (i : ℕ) → i ≡ i + 0
    plus_zero i = omega arith
known_append n (v ∷ vs) ws = ap (λ ks. record { name = v.0; var = n; truth = v.1.truth; input = v.1.input } ∷ ks) (known_append (suc n) vs ws ∙ ap (λ m. known (suc n) vs ++ known m ws) (moves n (length vs)))
  where
    moves : (i j : ℕ) → suc i + j ≡ i + suc j
    moves i j = omega arith

pub take_front : {A : Type 0} (xs ys : List A) → take (length xs) (xs ++ ys) ≡ xs
take_front [] ys = refl
take_front (x ∷ xs) ys = ap (λ zs. x ∷ zs) (take_front xs ys)

-- DECLARED NAMES
abbrev pub kind_of : Declared → List ℕ × Bool
kind_of v = (v.0, v.1.truth)

abbrev pub variable_entry : Declared → Entry
variable_entry v = record { name = v.0; mark = marks.Variable v.1.truth }

abbrev pub first_variable : Mark → List ℕ → Variables → Variables
first_variable (marks.Variable b) name vs = (name, b) ∷ vs
first_variable (marks.Label l o) name vs = vs
first_variable marks.Process name vs = vs

abbrev pub variables_among : List Entry → Variables
variables_among [] = []
variables_among (e ∷ es) = first_variable e.mark e.name (variables_among es)

abbrev pub first_label : Mark → List ℕ → Labels → Labels
first_label (marks.Label l o) name ls = (name, (l, o)) ∷ ls
first_label (marks.Variable b) name ls = ls
first_label marks.Process name ls = ls

abbrev pub labels_among : List Entry → Labels
labels_among [] = []
labels_among (e ∷ es) = first_label e.mark e.name (labels_among es)

first_variable_append : (m : Mark) (name : List ℕ) (vs ws : Variables) → first_variable m name (vs ++ ws) ≡ first_variable m name vs ++ ws
first_variable_append (marks.Variable b) name vs ws = refl
first_variable_append (marks.Label l o) name vs ws = refl
first_variable_append marks.Process name vs ws = refl

first_label_append : (m : Mark) (name : List ℕ) (ls ms : Labels) → first_label m name (ls ++ ms) ≡ first_label m name ls ++ ms
first_label_append (marks.Variable b) name ls ms = refl
first_label_append (marks.Label l o) name ls ms = refl
first_label_append marks.Process name ls ms = refl

pub variables_append : (es fs : List Entry) → variables_among (es ++ fs) ≡ variables_among es ++ variables_among fs
variables_append [] fs = refl
variables_append (e ∷ es) fs = ap (first_variable e.mark e.name) (variables_append es fs) ∙ first_variable_append e.mark e.name (variables_among es) (variables_among fs)

pub labels_append : (es fs : List Entry) → labels_among (es ++ fs) ≡ labels_among es ++ labels_among fs
labels_append [] fs = refl
labels_append (e ∷ es) fs = ap (first_label e.mark e.name) (labels_append es fs) ∙ first_label_append e.mark e.name (labels_among es) (labels_among fs)

pub variables_declared : (vs : List Declared) → variables_among (map variable_entry vs) ≡ map kind_of vs
variables_declared [] = refl
variables_declared (v ∷ vs) = ap (λ ws. kind_of v ∷ ws) (variables_declared vs)

pub labels_declared : (vs : List Declared) → labels_among (map variable_entry vs) ≡ []
labels_declared [] = refl
labels_declared (v ∷ vs) = labels_declared vs

pub variables_labelled : (ls : Labels) → variables_among (entries ls) ≡ []
variables_labelled [] = refl
variables_labelled (l ∷ ls) = variables_labelled ls

labels_labelled : (ls : Labels) → labels_among (entries ls) ≡ ls
labels_labelled [] = refl
labels_labelled (l ∷ ls) = ap (λ ms. l ∷ ms) (labels_labelled ls)

-- DECLARATIONS
-- a heading behind others that declares these variables, with these formulas
pub record Grown (h k : Heading) (vs : List Declared) (fs : List Formula) : Type 0 where
  pub scope : k.scope ≡ h.scope ++ known (length h.variables) vs
  pub variables : k.variables ≡ h.variables ++ map (λ v. v.1) vs
  pub names : k.state.names ≡ h.state.names ++ map variable_entry vs
  pub initial : k.initial ≡ h.initial ++ fs
  pub processes : k.processes ≡ h.processes

pub counted : (xs ys : List Variable) (vs : List Declared) → ys ≡ xs ++ map (λ v. v.1) vs → length ys ≡ length xs + length vs
counted xs ys vs e = ap length e ∙ length-append xs (map (λ v. v.1) vs) ∙ ap (λ n. length xs + n) (length-map vs (λ v. v.1))

grown_both : (h k l : Heading) (vs ws : List Declared) (fs gs : List Formula) → Grown h k vs fs → Grown k l ws gs → Grown h l (vs ++ ws) (fs ++ gs)
grown_both h k l vs ws fs gs a b = record {
  scope = b.scope ∙ ap (λ s. s ++ known (length k.variables) ws) a.scope
      ∙ ap (λ n. (h.scope ++ known (length h.variables) vs) ++ known n ws) (counted h.variables k.variables vs a.variables)
      ∙ append_assoc h.scope (known (length h.variables) vs) (known (length h.variables + length vs) ws)
      ∙ ap (λ s. h.scope ++ s) (sym (known_append (length h.variables) vs ws));
  variables = b.variables ∙ ap (λ s. s ++ map (λ v. v.1) ws) a.variables ∙ append_assoc h.variables (map (λ v. v.1) vs) (map (λ v. v.1) ws) ∙ ap (λ s. h.variables ++ s) (sym (map_append (λ v. v.1) vs ws));
  names = b.names ∙ ap (λ s. s ++ map variable_entry ws) a.names ∙ append_assoc h.state.names (map variable_entry vs) (map variable_entry ws) ∙ ap (λ s. h.state.names ++ s) (sym (map_append variable_entry vs ws));
  initial = b.initial ∙ ap (λ s. s ++ gs) a.initial ∙ append_assoc h.initial fs gs;
  processes = b.processes ∙ a.processes;
}

grown_none : (h : Heading) → Grown h h [] []
grown_none h = record { scope = sym (append-nil h.scope); variables = sym (append-nil h.variables); names = sym (append-nil h.state.names); initial = sym (append-nil h.initial); processes = refl }

abbrev pub Declares : Label → Mark → State → State → Type 0
Declares n m st st1 = st1.names ≡ st.names ++ record { name = n.text; mark = m } ∷ []

pub declares : (n : Label) (m : Mark) (st : State) → Holds (Declares n m st) (declared_as n m st)
declares n m st = unless_err (Declares n m st) (is_declared n.text st.names) (with_name n m st) _ refl

abbrev one_of : Bool → Bool → Label → Declared
one_of input truth n = (n.text, record { input = input; truth = truth })

named_grows : (input truth : Bool) (n : Label) (h : Heading) → Holds (λ k. Grown h k (one_of input truth n ∷ []) []) (named_in input truth n h)
named_grows input truth n h =
    bound (Declares n (marks.Variable truth) h.state) (λ k. Grown h k (one_of input truth n ∷ []) []) (declared_as n (marks.Variable truth) h.state) _ (declares n (marks.Variable truth) h.state)
    (λ st g. if_ok (λ k. Grown h k (one_of input truth n ∷ []) []) (nat_lt (length h.variables) 64) (knows input truth n st h) _
    (λ few. record { scope = refl; variables = refl; names = g; initial = sym (append-nil h.initial); processes = refl }))

names_grow : (input truth : Bool) (ns : List Label) (h : Heading) → Holds (λ k. Grown h k (map (one_of input truth) ns) []) (names_in input truth ns h)
names_grow input truth [] h = grown_none h
names_grow input truth (n ∷ ns) h =
    bound (λ k. Grown h k (one_of input truth n ∷ []) []) (λ k. Grown h k (map (one_of input truth) (n ∷ ns)) []) (named_in input truth n h) _ (named_grows input truth n h)
    (λ k a. weaker (λ l. Grown k l (map (one_of input truth) ns) []) (λ l. Grown h l (map (one_of input truth) (n ∷ ns)) []) (names_in input truth ns k) (names_grow input truth ns k)
    (λ l b. grown_both h k l (one_of input truth n ∷ []) (map (one_of input truth) ns) [] [] a b))

-- what stands behind "where", over what is known there
record Started (h k : Heading) (s : List Known) (o : Option Expr) : Type 0 where
  starts : List Formula
  means : IsStart s o starts
  scope : k.scope ≡ h.scope
  variables : k.variables ≡ h.variables
  names : k.state.names ≡ h.state.names
  initial : k.initial ≡ h.initial ++ starts
  processes : k.processes ≡ h.processes

initial_starts : (o : Option Expr) (h : Heading) → InitialModest o → Holds (λ k. Started h k h.scope o) (initial_in o h)
initial_starts None h m = record { starts = []; means = no_start; scope = refl; variables = refl; names = refl; initial = sym (append-nil h.initial); processes = refl }
initial_starts (Some e) h m =
    bound (IsTest h.scope e) (λ k. Started h k h.scope (Some e)) (tested h.scope e) _ (test_means h.scope e m)
    (λ f t. record { starts = f ∷ []; means = a_start t; scope = refl; variables = refl; names = refl; initial = refl; processes = refl })

started_grown : (h k l : Heading) (o : Option Expr) (vs : List Declared) → Grown h k vs [] → (b : Started k l k.scope o) → Grown h l vs b.starts
started_grown h k l o vs a b = record {
  scope = b.scope ∙ a.scope;
  variables = b.variables ∙ a.variables;
  names = b.names ∙ a.names;
  initial = b.initial ∙ ap (λ s. s ++ b.starts) (a.initial ∙ append-nil h.initial);
  processes = b.processes ∙ a.processes;
}

record DeclaredOne (h k : Heading) (d : raw.Declaration) : Type 0 where
  starts : List Formula
  grown : Grown h k (declared_by d) starts
  means : IsStart (h.scope ++ known (length h.variables) (declared_by d)) d.initial starts

declaration_means : (d : raw.Declaration) (h : Heading) → InitialModest d.initial → Holds (λ k. DeclaredOne h k d) (declaration_in d h)
declaration_means d h m =
    bound (λ k. Grown h k (declared_by d) []) (λ k. DeclaredOne h k d) (names_in d.input d.truth d.names h) _ (names_grow d.input d.truth d.names h)
    (λ k a. weaker (λ l. Started k l k.scope d.initial) (λ l. DeclaredOne h l d) (initial_in d.initial k) (initial_starts d.initial k m)
    (λ l b. record { starts = b.starts; grown = started_grown h k l d.initial (declared_by d) a b; means = subst (λ s. IsStart s d.initial b.starts) a.scope b.means }))

pub record Begun (h k : Heading) (ds : List raw.Declaration) : Type 0 where
  pub starts : List Formula
  pub grown : Grown h k (declared ds) starts
  pub means : AreStarts h.scope (length h.variables) ds starts

begun_more : (h k l : Heading) (d : raw.Declaration) (ds : List raw.Declaration) → DeclaredOne h k d → Begun k l ds → Begun h l (d ∷ ds)
begun_more h k l d ds a b = record {
  starts = a.starts ++ b.starts;
  grown = grown_both h k l (declared_by d) (declared ds) a.starts b.starts a.grown b.grown;
  means = more_starts a.means
      (subst (λ n. AreStarts (h.scope ++ known (length h.variables) (declared_by d)) n ds b.starts) (counted h.variables k.variables (declared_by d) a.grown.variables)
      (subst (λ s. AreStarts s (length k.variables) ds b.starts) a.grown.scope b.means));
}

pub declarations_mean : (ds : List raw.Declaration) (h : Heading) → DeclarationsModest ds → Holds (λ k. Begun h k ds) (declarations_in ds h)
declarations_mean [] h m = record { starts = []; grown = grown_none h; means = no_starts }
declarations_mean (d ∷ ds) h m =
    bound (λ k. DeclaredOne h k d) (λ k. Begun h k (d ∷ ds)) (declaration_in d h) _ (declaration_means d h m.0)
    (λ k a. weaker (λ l. Begun k l ds) (λ l. Begun h l (d ∷ ds)) (declarations_in ds k) (declarations_mean ds k m.1) (λ l b. begun_more h k l d ds a b))

-- PROCESSES
record Joined (h k : Heading) (q : raw.Process) : Type 0 where
  made : Process
  starts : List Formula
  labels : Labels
  begins : AreStarts h.scope (length h.variables) q.declarations starts
  body : IsBody (h.scope ++ known (length h.variables) (declared q.declarations)) q.body made labels
  scope : k.scope ≡ h.scope
  variables : k.variables ≡ h.variables ++ map (λ v. v.1) (declared q.declarations)
  kinds : variables_among k.state.names ≡ variables_among h.state.names ++ map kind_of (declared q.declarations)
  names : labels_among k.state.names ≡ labels_among h.state.names ++ labels
  initial : k.initial ≡ h.initial ++ starts
  processes : k.processes ≡ h.processes ++ made ∷ []

-- the names of a process are its own, its variables and its labels
kinds_there : (before named behind after : List Entry) (n : Label) (vs : List Declared) (ls : Labels)
    → named ≡ before ++ record { name = n.text; mark = marks.Process } ∷ [] → behind ≡ named ++ map variable_entry vs → after ≡ behind ++ entries ls
    → variables_among after ≡ variables_among before ++ map kind_of vs
kinds_there before named behind after n vs ls a b c =
    ap variables_among c ∙ variables_append behind (entries ls) ∙ ap (λ z. variables_among behind ++ z) (variables_labelled ls) ∙ append-nil (variables_among behind)
    ∙ ap variables_among b ∙ variables_append named (map variable_entry vs) ∙ ap (λ z. variables_among named ++ z) (variables_declared vs)
    ∙ ap (λ z. z ++ map kind_of vs) (ap variables_among a ∙ variables_append before (record { name = n.text; mark = marks.Process } ∷ []) ∙ append-nil (variables_among before))

labels_there : (before named behind after : List Entry) (n : Label) (vs : List Declared) (ls : Labels)
    → named ≡ before ++ record { name = n.text; mark = marks.Process } ∷ [] → behind ≡ named ++ map variable_entry vs → after ≡ behind ++ entries ls
    → labels_among after ≡ labels_among before ++ ls
labels_there before named behind after n vs ls a b c =
    ap labels_among c ∙ labels_append behind (entries ls) ∙ ap (λ z. labels_among behind ++ z) (labels_labelled ls)
    ∙ ap (λ z. z ++ ls) (ap labels_among b ∙ labels_append named (map variable_entry vs) ∙ ap (λ z. labels_among named ++ z) (labels_declared vs) ∙ append-nil (labels_among named)
    ∙ ap labels_among a ∙ labels_append before (record { name = n.text; mark = marks.Process } ∷ []) ∙ append-nil (labels_among before))

joined : (h : Heading) (q : raw.Process) (st : State) (k : Heading) (a : Made Process) → Declares q.name marks.Process h.state st → Begun (with_state st h) k q.declarations → Meant (IsBody k.scope q.body) k.state.names a → Joined h (with_process (length h.scope) a k) q
joined h q st k a named b m = record {
  made = a.made;
  starts = b.starts;
  labels = m.labels;
  begins = b.means;
  body = subst (λ s. IsBody s q.body a.made m.labels) b.grown.scope m.means;
  scope = ap (take (length h.scope)) b.grown.scope ∙ take_front h.scope (known (length h.variables) (declared q.declarations));
  variables = b.grown.variables;
  kinds = kinds_there h.state.names st.names k.state.names a.after.names q.name (declared q.declarations) m.labels named b.grown.names m.adds;
  names = labels_there h.state.names st.names k.state.names a.after.names q.name (declared q.declarations) m.labels named b.grown.names m.adds;
  initial = b.grown.initial;
  processes = ap (λ z. z ++ a.made ∷ []) b.grown.processes;
}

process_means : (q : raw.Process) (h : Heading) → DeclarationsModest q.declarations → BodyModest q.body → Holds (λ k. Joined h k q) (process_in q h)
process_means q h md mb =
    bound (Declares q.name marks.Process h.state) (λ k. Joined h k q) (declared_as q.name marks.Process h.state) _ (declares q.name marks.Process h.state)
    (λ st n. bound (λ k. Begun (with_state st h) k q.declarations) (λ k. Joined h k q) (declarations_in q.declarations (with_state st h)) _ (declarations_mean q.declarations (with_state st h) md)
    (λ k b. bound {A = Made Process} {B = Heading} (Meant (IsBody k.scope q.body) k.state.names) (λ k. Joined h k q) (bodied k.scope q.body k.state) _ (body_means k.scope q.body k.state mb)
    (λ a m. joined h q st k a n b m)))

abbrev pub own_of : List raw.Process → List Declared
own_of qs = flat_map (λ q. declared q.declarations) qs

pub record Joins (h k : Heading) (qs : List raw.Process) : Type 0 where
  pub made : List Process
  pub starts : List Formula
  pub labels : Labels
  pub means : AreProcesses h.scope (length h.variables) qs (side_by_side made) starts labels
  pub variables : k.variables ≡ h.variables ++ map (λ v. v.1) (own_of qs)
  pub kinds : variables_among k.state.names ≡ variables_among h.state.names ++ map kind_of (own_of qs)
  pub names : labels_among k.state.names ≡ labels_among h.state.names ++ labels
  pub initial : k.initial ≡ h.initial ++ starts
  pub processes : k.processes ≡ h.processes ++ made

-- lists that grew twice
grew : {A : Type 0} (a b c xs ys : List A) → b ≡ a ++ xs → c ≡ b ++ ys → c ≡ a ++ (xs ++ ys)
grew a b c xs ys e f = f ∙ ap (λ z. z ++ ys) e ∙ append_assoc a xs ys

grew_map : {A B : Type 0} (f : A → B) (a b c : List B) (xs ys : List A) → b ≡ a ++ map f xs → c ≡ b ++ map f ys → c ≡ a ++ map f (xs ++ ys)
grew_map f a b c xs ys e g = grew a b c (map f xs) (map f ys) e g ∙ ap (λ z. a ++ z) (sym (map_append f xs ys))

joins_more : (h k l : Heading) (q : raw.Process) (qs : List raw.Process) → Joined h k q → Joins k l qs → Joins h l (q ∷ qs)
joins_more h k l q qs a b = record {
  made = a.made ∷ b.made;
  starts = a.starts ++ b.starts;
  labels = a.labels ++ b.labels;
  means = more_processes a.begins a.body
      (subst (λ n. AreProcesses h.scope n qs (side_by_side b.made) b.starts b.labels) (counted h.variables k.variables (declared q.declarations) a.variables)
      (subst (λ s. AreProcesses s (length k.variables) qs (side_by_side b.made) b.starts b.labels) a.scope b.means));
  variables = grew_map (λ v. v.1) h.variables k.variables l.variables (declared q.declarations) (own_of qs) a.variables b.variables;
  kinds = grew_map kind_of (variables_among h.state.names) (variables_among k.state.names) (variables_among l.state.names) (declared q.declarations) (own_of qs) a.kinds b.kinds;
  names = grew (labels_among h.state.names) (labels_among k.state.names) (labels_among l.state.names) a.labels b.labels a.names b.names;
  initial = grew h.initial k.initial l.initial a.starts b.starts a.initial b.initial;
  processes = grew h.processes k.processes l.processes (a.made ∷ []) b.made a.processes b.processes;
}

pub processes_mean : (qs : List raw.Process) (h : Heading) → ProcessesModest qs → Holds (λ k. Joins h k qs) (processes_in qs h)
processes_mean [] h m = record {
  made = [];
  starts = [];
  labels = [];
  means = no_processes;
  variables = sym (append-nil h.variables);
  kinds = sym (append-nil (variables_among h.state.names));
  names = sym (append-nil (labels_among h.state.names));
  initial = sym (append-nil h.initial);
  processes = sym (append-nil h.processes);
}
processes_mean (q ∷ qs) h m =
    bound (λ k. Joined h k q) (λ k. Joins h k (q ∷ qs)) (process_in q h) _ (process_means q h m.0 m.1)
    (λ k a. weaker (λ l. Joins k l qs) (λ l. Joins h l (q ∷ qs)) (processes_in qs k) (processes_mean qs k m.2) (λ l b. joins_more h k l q qs a b))
