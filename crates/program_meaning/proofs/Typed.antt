-- What typing gives is what the tree stands for.
use Rattle.std.proofs.Common.{◌≡◌, ℕ, ◌+◌, Bool, true, false, cond, List, [], ◌∷◌, ◌++◌, map, length, append-nil, append_assoc, refl, sym, ap, subst, ◌∙◌, arith, Ok, Err}
use Rattle.st_form.specs.Formula.{Formula, every, formulas}
use Rattle.st_program.specs.Names.{Names}
use Rattle.st_program.specs.Programs.{IsProgram}
use Rattle.st_tokens.specs.declared.limit.LimitKind.TheVariants as limits
use Rattle.spl_parser.specs.ProgramTree as raw
use Rattle.expression_typer.specs.declared.fault.TypeFault.TheVariants as faults
use Rattle.expression_typer.specs.Answers.{◌>>=◌}
use Rattle.expression_typer.specs.Naming.{is_text}
use Rattle.expression_typer.proofs.Holding.{Holds, bound, anyway, weaker, if_ok}
use Rattle.spl_typer.specs.declared.walk.Mark.{Mark}
use Rattle.spl_typer.specs.declared.walk.Mark.TheVariants as marks
use Rattle.spl_typer.specs.ProgramRules.{ProgramModest}
use Rattle.spl_typer.specs.Walk.{Entry}
use Rattle.spl_typer.specs.Programs.{Heading, declarations_in, processes_in, nothing_met, few_processes, heading_of, side_by_side, text_of, Variables, Labels, with_variable, with_label, variables_of, labels_of, few_names, names_of, Typed, typed_of, typing}
use Rattle.typing_laws.proofs.Whole.{typed_is_well}
use Rattle.program_meaning.specs.Meaning.{declared, known, all_declared, AreStarts, AreProcesses, Means}
use Rattle.program_meaning.proofs.Headings.{Begun, declarations_mean, Joins, processes_mean, own_of, map_append, kind_of, first_variable, first_label, variables_among, labels_among, variables_declared, labels_declared, counted}

-- THE TABLE
text_same : (name : List ℕ) → Holds (λ n. n ≡ name) (text_of name)
text_same name = if_ok (λ n. n ≡ name) (is_text name) name _ (λ e. refl)

variable_step : (m : Mark) (name : List ℕ) (done vs : Variables) → with_variable m name done ++ vs ≡ done ++ first_variable m name vs
variable_step (marks.Variable b) name done vs = append_assoc done ((name, b) ∷ []) vs
variable_step (marks.Label l o) name done vs = refl
variable_step marks.Process name done vs = refl

label_step : (m : Mark) (name : List ℕ) (done ls : Labels) → with_label m name done ++ ls ≡ done ++ first_label m name ls
label_step (marks.Label l o) name done ls = append_assoc done ((name, (l, o)) ∷ []) ls
label_step (marks.Variable b) name done ls = refl
label_step marks.Process name done ls = refl

variables_listed : (done : Variables) (es : List Entry) → Holds (λ vs. vs ≡ done ++ variables_among es) (variables_of done es)
variables_listed done [] = sym (append-nil done)
variables_listed done (e ∷ es) =
    bound (λ n. n ≡ e.name) (λ vs. vs ≡ done ++ variables_among (e ∷ es)) (text_of e.name) _ (text_same e.name)
    (λ name i. weaker (λ vs. vs ≡ with_variable e.mark name done ++ variables_among es) (λ vs. vs ≡ done ++ variables_among (e ∷ es)) (variables_of (with_variable e.mark name done) es) (variables_listed (with_variable e.mark name done) es)
    (λ vs h. h ∙ variable_step e.mark name done (variables_among es) ∙ ap (λ n. done ++ first_variable e.mark n (variables_among es)) i))

labels_listed : (done : Labels) (es : List Entry) → Holds (λ ls. ls ≡ done ++ labels_among es) (labels_of done es)
labels_listed done [] = sym (append-nil done)
labels_listed done (e ∷ es) =
    bound (λ n. n ≡ e.name) (λ ls. ls ≡ done ++ labels_among (e ∷ es)) (text_of e.name) _ (text_same e.name)
    (λ name i. weaker (λ ls. ls ≡ with_label e.mark name done ++ labels_among es) (λ ls. ls ≡ done ++ labels_among (e ∷ es)) (labels_of (with_label e.mark name done) es) (labels_listed (with_label e.mark name done) es)
    (λ ls h. h ∙ label_step e.mark name done (labels_among es) ∙ ap (λ n. done ++ first_label e.mark n (labels_among es)) i))

abbrev pub Listed : List Entry → Names → Type 0
Listed es names = (names.variables ≡ variables_among es) × (names.labels ≡ labels_among es)

pub names_listed : (es : List Entry) → Holds (Listed es) (names_of es)
names_listed es =
    bound (λ vs. vs ≡ variables_among es) (Listed es) (variables_of [] es) _ (variables_listed [] es)
    (λ vs e. anyway (Listed es) (few_names vs) _ (λ few. bound (λ ls. ls ≡ labels_among es) (Listed es) (labels_of [] es) _ (labels_listed [] es) (λ ls i. (e, i))))

-- WHOLE PROGRAMS
record Whole (tree : raw.Program) (k : Heading) : Type 0 where
  shared : List Formula
  own : List Formula
  labels : Labels
  starts : AreStarts [] 0 tree.declarations shared
  processes : AreProcesses (known 0 (declared tree.declarations)) (length (declared tree.declarations)) tree.processes (side_by_side k.processes) own labels
  initial : k.initial ≡ shared ++ own
  variables : k.variables ≡ map (λ v. v.1) (all_declared tree)
  kinds : variables_among k.state.names ≡ map kind_of (all_declared tree)
  names : labels_among k.state.names ≡ labels

whole : (tree : raw.Program) (h k : Heading) → Begun nothing_met h tree.declarations → Joins h k tree.processes → Whole tree k
whole tree h k a b = record {
  shared = a.starts;
  own = b.starts;
  labels = b.labels;
  starts = a.means;
  processes =
      subst (λ ps. AreProcesses (known 0 (declared tree.declarations)) (length (declared tree.declarations)) tree.processes (side_by_side ps) b.starts b.labels) (sym (b.processes ∙ ap (λ z. z ++ b.made) a.grown.processes))
      (subst (λ n. AreProcesses (known 0 (declared tree.declarations)) n tree.processes (side_by_side b.made) b.starts b.labels) (counted [] h.variables (declared tree.declarations) a.grown.variables ∙ zero_plus (length (declared tree.declarations)))
      (subst (λ s. AreProcesses s (length h.variables) tree.processes (side_by_side b.made) b.starts b.labels) a.grown.scope b.means));
  initial = b.initial ∙ ap (λ z. z ++ b.starts) a.grown.initial;
  variables = b.variables ∙ ap (λ z. z ++ map (λ v. v.1) (own_of tree.processes)) a.grown.variables ∙ sym (map_append (λ v. v.1) (declared tree.declarations) (own_of tree.processes));
  kinds = b.kinds ∙ ap (λ z. z ++ map kind_of (own_of tree.processes)) (ap variables_among a.grown.names ∙ variables_declared (declared tree.declarations)) ∙ sym (map_append kind_of (declared tree.declarations) (own_of tree.processes));
  names = b.names ∙ ap (λ z. z ++ b.labels) (ap labels_among a.grown.names ∙ labels_declared (declared tree.declarations));
}
  where
    zero_plus : (n : ℕ) → 0 + n ≡ n
    zero_plus n = omega arith

heading_whole : (tree : raw.Program) → ProgramModest tree → Holds (Whole tree) (heading_of tree)
heading_whole tree m = go (few_processes tree.processes)
  where
    go : (b : Bool) → Holds (Whole tree) (cond b (declarations_in tree.declarations nothing_met >>= λ h. processes_in tree.processes h) (Err (faults.Limit limits.Processes 0)))
    go false = tt
    go true =
        bound (λ h. Begun nothing_met h tree.declarations) (Whole tree) (declarations_in tree.declarations nothing_met) _ (declarations_mean tree.declarations nothing_met m.0)
        (λ h a. weaker (λ k. Joins h k tree.processes) (Whole tree) (processes_in tree.processes h) (processes_mean tree.processes h m.1) (λ k b. whole tree h k a b))

-- what typing gives, as far as the walk says it
record Told (tree : raw.Program) (p : Typed) : Type 0 where
  shared : List Formula
  own : List Formula
  starts : AreStarts [] 0 tree.declarations shared
  processes : AreProcesses (known 0 (declared tree.declarations)) (length (declared tree.declarations)) tree.processes p.processes own p.names.labels
  initial : p.initial ≡ every (formulas (shared ++ own))
  variables : p.variables ≡ map (λ v. v.1) (all_declared tree)
  names : p.names.variables ≡ map kind_of (all_declared tree)

told_of : (tree : raw.Program) (k : Heading) (names : Names) → Whole tree k → Listed k.state.names names → Told tree (typed_of k names)
told_of tree k names w l = record {
  shared = w.shared;
  own = w.own;
  starts = w.starts;
  processes = subst (λ ls. AreProcesses (known 0 (declared tree.declarations)) (length (declared tree.declarations)) tree.processes (side_by_side k.processes) w.own ls) (sym (l.1 ∙ w.names)) w.processes;
  initial = ap (λ fs. every (formulas fs)) w.initial;
  variables = w.variables;
  names = l.0 ∙ w.kinds;
}

typing_told : (tree : raw.Program) → ProgramModest tree → Holds (Told tree) (typing tree)
typing_told tree m =
    bound (Whole tree) (Told tree) (heading_of tree) _ (heading_whole tree m)
    (λ k w. bound (Listed k.state.names) (Told tree) (names_of k.state.names) _ (names_listed k.state.names) (λ names l. told_of tree k names w l))

with_numbers : (tree : raw.Program) (p : Typed) → Told tree p → IsProgram p.variables p.initial p.processes p.locations p.statements → Means tree p
with_numbers tree p t w = record {
  shared = t.shared;
  own = t.own;
  starts = t.starts;
  processes = t.processes;
  initial = t.initial;
  variables = t.variables;
  names = t.names;
  numbered = w.well.numbered;
  placed = w.well.placed;
  statements = w.statement_count;
  locations = w.location_count;
}

-- what typing gives is what the tree stands for
pub typed_is_meant : (tree : raw.Program) (p : Typed) → ProgramModest tree → typing tree ≡ Ok p → Means tree p
typed_is_meant tree p m is = with_numbers tree p (subst (Holds (Told tree)) is (typing_told tree m)) (typed_is_well tree p is)
