-- What the walk makes of statements is what they stand for, with the labels that it declares.
use Rattle.std.proofs.Common.{◌≡◌, ℕ, ◌-◌, ◌^◌, Bool, true, nat_lt, List, [], ◌∷◌, ◌++◌, map, append-nil, append_assoc, refl, sym, ap, ◌∙◌, Option, Some, None}
use Rattle.st_form.specs.Formula.{Formula, truth_value}
use Rattle.st_reading.specs.Reading.{Label}
use Rattle.st_program.specs.Tree.{Statement, stated, Action, Statements, no_statement, statement, Process, process, Processes, no_process, beside}
use Rattle.st_program.specs.Tree as tree
use Rattle.expression_parser.specs.ExpressionTree.{Expr}
use Rattle.spl_parser.specs.ProgramTree as raw
use Rattle.spl_typer.specs.declared.statement.Here.{Here}
use Rattle.spl_typer.specs.declared.walk.Mark.TheVariants as marks
use Rattle.expression_typer.specs.Scope.{Known}
use Rattle.expression_typer.proofs.Holding.{Holds, bound, anyway, unless_err, if_ok}
use Rattle.spl_typer.specs.Modest.{StatementModest, ActionModest, BranchModest, RowModest, BodiesModest, BodyModest}
use Rattle.spl_typer.specs.Walk.{Entry, State, Made, is_declared, with_name, new_location, new_occurrence, next_location, next_occurrence, with_weight}
use Rattle.spl_typer.specs.Statements.{tested, counter, assigned, pieces_inside}
use Rattle.spl_typer.specs.Groups.{grouped}
use Rattle.spl_typer.specs.Shapes.{something, some_statement, two_statements, two_bodies}
use Rattle.spl_typer.specs.Walking.{fresh, beneath, location, labelled, no_loop, walked, acting, branched, along, inside, bodied}
use Rattle.spl_typer.specs.Programs.{Labels}
use Rattle.program_meaning.specs.Meaning.{IsVariable, IsTest, AreChanges, AreInner, label_at, IsStatement, is_stated, IsAction, is_skip, is_critical, is_noncritical, is_assign, is_assign_all, is_await, is_request, is_release, is_if, is_if_else, is_while, is_loop, is_block, is_select, is_cooperate, is_group, AreStatements, no_more, one_more, IsBody, is_body, AreBodies, no_body, one_body}
use Rattle.program_meaning.proofs.Parts.{test_means, counter_means, assign_means, assigned_means, group_means}

-- LABELS
abbrev pub entry_of : List ℕ × (ℕ × Option ℕ) → Entry
entry_of x = record { name = x.0; mark = marks.Label x.1.0 x.1.1 }

-- labels as declared names
abbrev pub entries : Labels → List Entry
entries ls = map entry_of ls

entries_append : (ls ms : Labels) → entries (ls ++ ms) ≡ entries ls ++ entries ms
entries_append [] ms = refl
entries_append (l ∷ ls) ms = ap (λ es. entry_of l ∷ es) (entries_append ls ms)

pub adds_both : (a b c : List Entry) (ls ms : Labels) → b ≡ a ++ entries ls → c ≡ b ++ entries ms → c ≡ a ++ entries (ls ++ ms)
adds_both a b c ls ms h k = k ∙ ap (λ x. x ++ entries ms) h ∙ append_assoc a (entries ls) (entries ms) ∙ ap (λ x. a ++ x) (sym (entries_append ls ms))

-- what was made is what stands there, and its labels are declared behind
pub record Meant {X : Type 0} (R : X → Labels → Type 0) (names : List Entry) (a : Made X) : Type 0 where
  pub labels : Labels
  pub means : R a.made labels
  pub adds : a.after.names ≡ names ++ entries labels

plain : {X : Type 0} (R : X → Labels → Type 0) (x : X) (st : State) → R x [] → Meant R st.names (record { made = x; after = st })
plain R x st h = record { labels = []; means = h; adds = sym (append-nil st.names) }

-- nothing is declared
abbrev Same : List Entry → Made ℕ → Type 0
Same names a = a.after.names ≡ names

location_same : (own : Option ℕ) (place : ℕ) (st : State) → Holds (Same st.names) (location own place st)
location_same None place st = if_ok (Same st.names) (nat_lt st.loc (2 ^ 32 - 1)) (record { made = st.loc; after = next_location st }) _ (λ e. refl)
location_same (Some l) place st = refl

occurrence_same : (place : ℕ) (st : State) → Holds (Same st.names) (new_occurrence place st)
occurrence_same place st = if_ok (Same st.names) (nat_lt st.occ 400) (record { made = st.occ; after = next_occurrence st }) _ (λ e. refl)

abbrev Adds : List Entry → Labels → State → Type 0
Adds names ls st = st.names ≡ names ++ entries ls

label_adds : (label : Option Label) (l : ℕ) (o : Option ℕ) (st : State) → Holds (Adds st.names (label_at label l o)) (labelled label l o st)
label_adds None l o st = sym (append-nil st.names)
label_adds (Some n) l o st = unless_err (Adds st.names (label_at (Some n) l o)) (is_declared n.text st.names) (with_name n (marks.Label l o) st) _ refl

-- STATEMENTS
begun : (s : List Known) (label : Option Label) (place : ℕ) (act : raw.Action) (o l : ℕ) (names before : List Entry) (a : Made Action)
    → before ≡ names ++ entries (label_at label l (Some o)) → Meant (IsAction s act) before a
    → Meant (IsStatement s (raw.stated label place act)) names (record { made = stated o l a.made; after = a.after })
begun s label place act o l names before a e h = record {
  labels = label_at label l (Some o) ++ h.labels;
  means = is_stated h.means;
  adds = adds_both names before a.after.names (label_at label l (Some o)) h.labels e h.adds;
}

wrapped : {X Y : Type 0} (R : X → Labels → Type 0) (Q : Y → Labels → Type 0) (f : X → Y) (names : List Entry) (a : Made X) → ((x : X) (ls : Labels) → R x ls → Q (f x) ls) → Meant R names a → Meant Q names (record { made = f a.made; after = a.after })
wrapped R Q f names a go h = record { labels = h.labels; means = go a.made h.labels h.means; adds = h.adds }

paired : {X Y Z : Type 0} (R : X → Labels → Type 0) (Q : Y → Labels → Type 0) (P : Z → Labels → Type 0) (f : X → Y → Z) (names : List Entry) (a : Made X) (b : Made Y)
    → ((x : X) (y : Y) (ls ms : Labels) → R x ls → Q y ms → P (f x y) (ls ++ ms)) → Meant R names a → Meant Q a.after.names b → Meant P names (record { made = f a.made b.made; after = b.after })
paired R Q P f names a b go h k = record {
  labels = h.labels ++ k.labels;
  means = go a.made b.made h.labels k.labels h.means k.means;
  adds = adds_both names a.after.names b.after.names h.labels k.labels h.adds k.adds;
}

ended : (s : List Known) (ss : raw.Statements) (end : Option Label) (l : ℕ) (names before : List Entry) (a : Made Statements) (st : State)
    → Meant (AreStatements s ss) names a → before ≡ a.after.names → Adds before (label_at end l None) st
    → Meant (IsBody s (raw.body ss end)) names (record { made = process a.made l; after = st })
ended s ss end l names before a st h e k = record {
  labels = h.labels ++ label_at end l None;
  means = is_body h.means;
  adds = adds_both names a.after.names st.names h.labels (label_at end l None) h.adds (k ∙ ap (λ z. z ++ entries (label_at end l None)) e);
}

mutual
  walked_means : (s : List Known) (here : Here) (x : raw.Statement) (st : State) → StatementModest x → Holds (Meant (IsStatement s x) st.names) (walked s here x st)
  walked_means s here (raw.stated label place act) st m =
      bound {A = Made ℕ} {B = Made Statement} (Same st.names) (Meant (IsStatement s (raw.stated label place act)) st.names) (location here.own place st) _ (location_same here.own place st)
      (λ l hl. bound {A = Made ℕ} {B = Made Statement} (Same l.after.names) (Meant (IsStatement s (raw.stated label place act)) st.names) (new_occurrence place l.after) _ (occurrence_same place l.after)
      (λ o ho. bound {A = State} {B = Made Statement} (Adds o.after.names (label_at label l.made (Some o.made))) (Meant (IsStatement s (raw.stated label place act)) st.names) (labelled label l.made (Some o.made) o.after) _ (label_adds label l.made (Some o.made) o.after)
      (λ st1 g. bound {A = Made Action} {B = Made Statement} (Meant (IsAction s act) st1.names) (Meant (IsStatement s (raw.stated label place act)) st.names) (acting s l.made here.head place act st1) _
      (acting_means s l.made here.head place act st1 m)
      (λ a h. begun s label place act o.made l.made st.names st1.names a (g ∙ ap (λ z. z ++ entries (label_at label l.made (Some o.made))) (ho ∙ hl)) h))))

  acting_means : (s : List Known) (l : ℕ) (head : Bool) (place : ℕ) (x : raw.Action) (st : State) → ActionModest x → Holds (Meant (IsAction s x) st.names) (acting s l head place x st)
  acting_means s l head place raw.skip st m = plain (IsAction s raw.skip) tree.skip st is_skip
  acting_means s l head place raw.critical st m = plain (IsAction s raw.critical) tree.critical st is_critical
  acting_means s l head place raw.noncritical st m = plain (IsAction s raw.noncritical) tree.noncritical st is_noncritical
  acting_means s l head place (raw.assign n e) st m =
      assign_means {B = Made Action} s n e (Meant (IsAction s (raw.assign n e)) st.names) _ m (λ x h. plain (IsAction s (raw.assign n e)) (tree.assign (x ∷ [])) st (is_assign h))
  acting_means s l head place (raw.assign_all ns list es) st m =
      bound (AreChanges s ns es) (Meant (IsAction s (raw.assign_all ns list es)) st.names) (assigned s ns list es) _ (assigned_means s ns list es m)
      (λ xs h. plain (IsAction s (raw.assign_all ns list es)) (tree.assign xs) st (is_assign_all h))
  acting_means s l head place (raw.await e) st m =
      bound (IsTest s e) (Meant (IsAction s (raw.await e)) st.names) (tested s e) _ (test_means s e m) (λ f h. plain (IsAction s (raw.await e)) (tree.await f) st (is_await h))
  acting_means s l head place (raw.request n) st m =
      bound (IsVariable s n) (Meant (IsAction s (raw.request n)) st.names) (counter s n) _ (counter_means s n) (λ v h. plain (IsAction s (raw.request n)) (tree.request v) st (is_request h))
  acting_means s l head place (raw.release n) st m =
      bound (IsVariable s n) (Meant (IsAction s (raw.release n)) st.names) (counter s n) _ (counter_means s n) (λ v h. plain (IsAction s (raw.release n)) (tree.release v) st (is_release h))
  acting_means s l head place (raw.conditional e y other) st m =
      bound (IsTest s e) (Meant (IsAction s (raw.conditional e y other)) st.names) (tested s e) _ (test_means s e m.0)
      (λ f t. bound {A = Made Statement} {B = Made Action} (Meant (IsStatement s y) st.names) (Meant (IsAction s (raw.conditional e y other)) st.names) (walked s fresh y st) _ (walked_means s fresh y st m.1)
      (λ a h. branched_means s e f y other st.names a t h m.2))
  acting_means s l head place (raw.while_do e y) st m =
      anyway (Meant (IsAction s (raw.while_do e y)) st.names) (no_loop head place) _
      (λ u. bound (IsTest s e) (Meant (IsAction s (raw.while_do e y)) st.names) (tested s e) _ (test_means s e m.0)
      (λ f t. bound {A = Made Statement} {B = Made Action} (Meant (IsStatement s y) st.names) (Meant (IsAction s (raw.while_do e y)) st.names) (walked s fresh y st) _ (walked_means s fresh y st m.1)
      (λ a h. wrapped (IsStatement s y) (IsAction s (raw.while_do e y)) (tree.while_do f) st.names a (λ x ls k. is_while t k) h)))
  acting_means s l head place (raw.forever y) st m =
      anyway (Meant (IsAction s (raw.forever y)) st.names) (no_loop head place) _
      (λ u. bound {A = Made Statement} {B = Made Action} (Meant (IsStatement s y) st.names) (Meant (IsAction s (raw.forever y)) st.names) (walked s fresh y st) _ (walked_means s fresh y st m)
      (λ a h. wrapped (IsStatement s y) (IsAction s (raw.forever y)) (tree.while_do (truth_value true)) st.names a (λ x ls k. is_loop k) h))
  acting_means s l head place (raw.block ss) st m =
      anyway (Meant (IsAction s (raw.block ss)) st.names) (something (some_statement ss) place) _
      (λ u. bound {A = Made Statements} {B = Made Action} (Meant (AreStatements s ss) st.names) (Meant (IsAction s (raw.block ss)) st.names) (along s (beneath l head) fresh ss st) _ (along_means s (beneath l head) fresh ss st m)
      (λ a h. wrapped (AreStatements s ss) (IsAction s (raw.block ss)) tree.block st.names a (λ x ls k. is_block k) h))
  acting_means s l head place (raw.select ss) st m =
      anyway (Meant (IsAction s (raw.select ss)) st.names) (something (two_statements ss) place) _
      (λ u. bound {A = Made Statements} {B = Made Action} (Meant (AreStatements s ss) st.names) (Meant (IsAction s (raw.select ss)) st.names) (along s (beneath l true) (beneath l true) ss st) _ (along_means s (beneath l true) (beneath l true) ss st m)
      (λ a h. wrapped (AreStatements s ss) (IsAction s (raw.select ss)) tree.select st.names a (λ x ls k. is_select k) h))
  acting_means s l head place (raw.cooperate bs) st m =
      anyway (Meant (IsAction s (raw.cooperate bs)) st.names) (something (two_bodies bs) place) _
      (λ u. bound {A = Made Processes} {B = Made Action} (Meant (AreBodies s bs) st.names) (Meant (IsAction s (raw.cooperate bs)) st.names) (inside s bs st) _ (inside_means s bs st m)
      (λ a h. wrapped (AreBodies s bs) (IsAction s (raw.cooperate bs)) tree.cooperate st.names a (λ x ls k. is_cooperate k) h))
  acting_means s l head place (raw.group ss) st m =
      bound (AreInner s ss) (Meant (IsAction s (raw.group ss)) st.names) (pieces_inside s place ss) _ (group_means s place ss m)
      (λ xs h. anyway {B = Made Action} (Meant (IsAction s (raw.group ss)) st.names) (grouped place xs st.weight) _ (λ w. plain (IsAction s (raw.group ss)) (tree.group xs) (with_weight w st) (is_group h)))

  branched_means : (s : List Known) (e : Expr) (f : Formula) (y : raw.Statement) (other : raw.Branch) (names : List Entry) (a : Made Statement) → IsTest s e f → Meant (IsStatement s y) names a → BranchModest other
      → Holds (Meant (IsAction s (raw.conditional e y other)) names) (branched s f a.made other a.after)
  branched_means s e f y raw.no_branch names a t h m = wrapped (IsStatement s y) (IsAction s (raw.conditional e y raw.no_branch)) (tree.if_then f) names a (λ x ls k. is_if t k) h
  branched_means s e f y (raw.branch n) names a t h m =
      bound {A = Made Statement} {B = Made Action} (Meant (IsStatement s n) a.after.names) (Meant (IsAction s (raw.conditional e y (raw.branch n))) names) (walked s fresh n a.after) _ (walked_means s fresh n a.after m)
      (λ b k. paired (IsStatement s y) (IsStatement s n) (IsAction s (raw.conditional e y (raw.branch n))) (tree.if_else f) names a b (λ x z ls ms i j. is_if_else t i j) h k)

  along_means : (s : List Known) (here there : Here) (ss : raw.Statements) (st : State) → RowModest ss → Holds (Meant (AreStatements s ss) st.names) (along s here there ss st)
  along_means s here there raw.no_statements st m = plain (AreStatements s raw.no_statements) no_statement st no_more
  along_means s here there (raw.followed x xs) st m =
      bound {A = Made Statement} {B = Made Statements} (Meant (IsStatement s x) st.names) (Meant (AreStatements s (raw.followed x xs)) st.names) (walked s here x st) _ (walked_means s here x st m.0)
      (λ a h. bound {A = Made Statements} {B = Made Statements} (Meant (AreStatements s xs) a.after.names) (Meant (AreStatements s (raw.followed x xs)) st.names) (along s there there xs a.after) _ (along_means s there there xs a.after m.1)
      (λ b k. paired (IsStatement s x) (AreStatements s xs) (AreStatements s (raw.followed x xs)) statement st.names a b (λ y ys ls ms i j. one_more i j) h k))

  inside_means : (s : List Known) (bs : raw.Bodies) (st : State) → BodiesModest bs → Holds (Meant (AreBodies s bs) st.names) (inside s bs st)
  inside_means s raw.no_bodies st m = plain (AreBodies s raw.no_bodies) no_process st no_body
  inside_means s (raw.beside b bs) st m =
      bound {A = Made Process} {B = Made Processes} (Meant (IsBody s b) st.names) (Meant (AreBodies s (raw.beside b bs)) st.names) (bodied s b st) _ (body_means s b st m.0)
      (λ a h. bound {A = Made Processes} {B = Made Processes} (Meant (AreBodies s bs) a.after.names) (Meant (AreBodies s (raw.beside b bs)) st.names) (inside s bs a.after) _ (inside_means s bs a.after m.1)
      (λ d k. paired (IsBody s b) (AreBodies s bs) (AreBodies s (raw.beside b bs)) beside st.names a d (λ y ys ls ms i j. one_body i j) h k))

  pub body_means : (s : List Known) (b : raw.Body) (st : State) → BodyModest b → Holds (Meant (IsBody s b) st.names) (bodied s b st)
  body_means s (raw.body ss end) st m =
      anyway {A = Unit {0}} {B = Made Process} (Meant (IsBody s (raw.body ss end)) st.names) (something (some_statement ss) 0) _
      (λ u. bound {A = Made Statements} {B = Made Process} (Meant (AreStatements s ss) st.names) (Meant (IsBody s (raw.body ss end)) st.names) (along s fresh fresh ss st) _ (along_means s fresh fresh ss st m)
      (λ a h. bound {A = Made ℕ} {B = Made Process} (Same a.after.names) (Meant (IsBody s (raw.body ss end)) st.names) (new_location 0 a.after) _ (location_same None 0 a.after)
      (λ l hl. bound {A = State} {B = Made Process} (Adds l.after.names (label_at end l.made None)) (Meant (IsBody s (raw.body ss end)) st.names) (labelled end l.made None l.after) _ (label_adds end l.made None l.after)
      (λ st1 g. ended s ss end l.made st.names l.after.names a st1 h hl g))))
