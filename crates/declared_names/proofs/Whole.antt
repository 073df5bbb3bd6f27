-- The names of a typed program.
use Rattle.std.proofs.Common.{◌≡◌, ℕ, Bool, true, false, cond, List, [], ◌∷◌, ◌++◌, Result, Ok, Err, refl, sym, subst}
use Rattle.st_tokens.specs.declared.limit.LimitKind.TheVariants as limits
use Rattle.st_program.specs.Names as tables
use Rattle.spl_parser.specs.ProgramTree as raw
use Rattle.expression_typer.specs.declared.fault.TypeFault.{TypeFault}
use Rattle.expression_typer.specs.declared.fault.TypeFault.TheVariants as faults
use Rattle.expression_typer.specs.Answers.{◌>>=◌}
use Rattle.expression_typer.specs.Naming.{is_text}
use Rattle.expression_typer.proofs.Holding.{Holds, bound, anyway, if_ok}
use Rattle.spl_typer.specs.declared.walk.Mark.{Mark}
use Rattle.spl_typer.specs.declared.walk.Mark.TheVariants as marks
use Rattle.spl_typer.specs.Walk.{Entry}
use Rattle.spl_typer.specs.Programs.{Heading, nothing_met, declarations_in, processes_in, few_processes, heading_of, text_of, Variables, Labels, with_variable, with_label, variables_of, labels_of, few_names, names_of, Typed, typing}
use Rattle.spl_typer.proofs.Apart.{names_apart}
use Rattle.declared_names.specs.Words.{IsWord, AreWords, AreNames, NamesAreWords}
use Rattle.list_laws.specs.Each.{Each}
use Rattle.declared_names.proofs.Raw.{ProgramNamed}
use Rattle.declared_names.proofs.Spelled.{spelled_named}
use Rattle.declared_names.proofs.Walked.{EntryNamed, Fine, declarations_fine, processes_fine}

heading_fine : (p : raw.Program) → ProgramNamed p → Holds Fine (heading_of p)
heading_fine p words = go (few_processes p.processes)
  where
    go : (b : Bool) → Holds Fine (cond b (declarations_in p.declarations nothing_met >>= λ h. processes_in p.processes h) (Err (faults.Limit limits.Processes 0)))
    go false = tt
    go true =
        bound Fine Fine (declarations_in p.declarations nothing_met) _ (declarations_fine p.declarations nothing_met words.declarations (record { words = tt; apart = tt }))
        (λ h f. processes_fine p.processes h words.processes f)

-- the table
words_push : {A : Type 0} (done : List (List ℕ × A)) (name : List ℕ) (x : A) → AreWords (tables.names_in done) → IsWord name → AreWords (tables.names_in (done ++ (name, x) ∷ []))
words_push [] name x h w = (w, tt)
words_push (d ∷ done) name x h w = (h.0, words_push done name x h.1 w)

text_same : (name : List ℕ) → Holds (λ n. n ≡ name) (text_of name)
text_same name = if_ok (λ n. n ≡ name) (is_text name) name _ (λ e. refl)

variable_words : (m : Mark) (name : List ℕ) (done : Variables) → IsWord name → AreWords (tables.names_in done) → AreWords (tables.names_in (with_variable m name done))
variable_words (marks.Variable b) name done w h = words_push done name b h w
variable_words (marks.Label l o) name done w h = h
variable_words marks.Process name done w h = h

label_words : (m : Mark) (name : List ℕ) (done : Labels) → IsWord name → AreWords (tables.names_in done) → AreWords (tables.names_in (with_label m name done))
label_words (marks.Label l o) name done w h = words_push done name (l, o) h w
label_words (marks.Variable b) name done w h = h
label_words marks.Process name done w h = h

variables_words : (done : Variables) (es : List Entry) → Each EntryNamed es → AreWords (tables.names_in done) → Holds (λ vs. AreWords (tables.names_in vs)) (variables_of done es)
variables_words done [] h k = k
variables_words done (e ∷ es) h k =
    bound (λ n. n ≡ e.name) (λ vs. AreWords (tables.names_in vs)) (text_of e.name) _ (text_same e.name)
    (λ name same. variables_words (with_variable e.mark name done) es h.1 (variable_words e.mark name done (subst IsWord (sym same) h.0) k))

labels_words : (done : Labels) (es : List Entry) → Each EntryNamed es → AreWords (tables.names_in done) → Holds (λ ls. AreWords (tables.names_in ls)) (labels_of done es)
labels_words done [] h k = k
labels_words done (e ∷ es) h k =
    bound (λ n. n ≡ e.name) (λ ls. AreWords (tables.names_in ls)) (text_of e.name) _ (text_same e.name)
    (λ name same. labels_words (with_label e.mark name done) es h.1 (label_words e.mark name done (subst IsWord (sym same) h.0) k))

abbrev HasNames : Typed → Type 0
HasNames p = AreNames p.names

module _ (h : Heading) (g : Fine h) where
  abbrev known : List Entry
  known = h.state.names

  by_labels : (vs : Variables) → variables_of [] known ≡ Ok vs → (r : Result Labels TypeFault) → labels_of [] known ≡ r → Holds AreNames (r >>= λ ls. Ok (record { variables = vs; labels = ls }))
  by_labels vs v (Ok ls) l = record {
    variables = subst (Holds (λ xs. AreWords (tables.names_in xs))) v (variables_words [] known g.words tt);
    labels = subst (Holds (λ xs. AreWords (tables.names_in xs))) l (labels_words [] known g.words tt);
    apart = names_apart known vs ls g.apart v l;
  }
  by_labels vs v (Err f) l = tt

  by_variables : (r : Result Variables TypeFault) → variables_of [] known ≡ r → Holds AreNames (r >>= λ vs. few_names vs >>= λ few. labels_of [] known >>= λ ls. Ok (record { variables = vs; labels = ls }))
  by_variables (Ok vs) v = anyway AreNames (few_names vs) _ (λ few. by_labels vs v (labels_of [] known) refl)
  by_variables (Err f) v = tt

  table_named : Holds AreNames (names_of known)
  table_named = by_variables (variables_of [] known) refl

typing_named : (p : raw.Program) → ProgramNamed p → Holds HasNames (typing p)
typing_named p words = bound Fine HasNames (heading_of p) _ (heading_fine p words) (λ h g. bound AreNames HasNames (names_of h.state.names) _ (table_named h g) (λ names k. k))

pub names_are_words : NamesAreWords
names_are_words text x p spelled e = subst (Holds HasNames) e (typing_named x (spelled_named text x spelled))
