-- The names that are declared along the walk, kind by kind.
use Rattle.std.proofs.Common.{◌≡◌, ℕ, false, List, [], ◌∷◌, ◌++◌, map, append-nil, append_assoc, refl, sym, ap, ◌∙◌}
use Rattle.std.specs.Str.{bytes_eq}
use Rattle.st_program.specs.Tree.{Process}
use Rattle.st_program.specs.Names.{IsNew, AreApart, names_in}
use Rattle.spl_parser.specs.ProgramTree as raw
use Rattle.expression_typer.proofs.Holding.{Holds, bound, weaker}
use Rattle.spl_typer.specs.declared.walk.Mark.{Mark}
use Rattle.spl_typer.specs.declared.walk.Mark.TheVariants as marks
use Rattle.spl_typer.specs.ProgramRules.{DeclarationsModest, ProcessesModest}
use Rattle.spl_typer.specs.Modest.{BodyModest}
use Rattle.spl_typer.specs.Walk.{Entry, Made, declared_as}
use Rattle.spl_typer.specs.Walking.{bodied}
use Rattle.spl_typer.specs.Programs.{Heading, Labels, Variables, entry_names, declarations_in, with_state, process_in, processes_in}
use Rattle.program_meaning.specs.Meaning.{Declared, declared, IsBody}
use Rattle.program_meaning.proofs.Walked.{entries, Meant, body_means}
use Rattle.program_meaning.proofs.Headings.{variable_entry, first_variable, first_label, variables_among, labels_among, Declares, declares, Begun, declarations_mean}
use Rattle.program_rules.proofs.Names.{Texts, new_both, apart_second, apart_third}

abbrev first_process : Mark → List ℕ → Texts → Texts
first_process marks.Process name ns = name ∷ ns
first_process (marks.Variable b) name ns = ns
first_process (marks.Label l o) name ns = ns

abbrev pub processes_among : List Entry → Texts
processes_among [] = []
processes_among (e ∷ es) = first_process e.mark e.name (processes_among es)

first_append : (m : Mark) (name : List ℕ) (ns ms : Texts) → first_process m name (ns ++ ms) ≡ first_process m name ns ++ ms
first_append marks.Process name ns ms = refl
first_append (marks.Variable b) name ns ms = refl
first_append (marks.Label l o) name ns ms = refl

processes_append : (es fs : List Entry) → processes_among (es ++ fs) ≡ processes_among es ++ processes_among fs
processes_append [] fs = refl
processes_append (e ∷ es) fs = ap (first_process e.mark e.name) (processes_append es fs) ∙ first_append e.mark e.name (processes_among es) (processes_among fs)

no_variable : (vs : List Declared) → processes_among (map variable_entry vs) ≡ []
no_variable [] = refl
no_variable (v ∷ vs) = no_variable vs

no_label : (ls : Labels) → processes_among (entries ls) ≡ []
no_label [] = refl
no_label (l ∷ ls) = no_label ls

behind_variables : (es fs : List Entry) (vs : List Declared) → fs ≡ es ++ map variable_entry vs → processes_among fs ≡ processes_among es
behind_variables es fs vs e = ap processes_among e ∙ processes_append es (map variable_entry vs) ∙ ap (λ z. processes_among es ++ z) (no_variable vs) ∙ append-nil (processes_among es)

behind_labels : (es fs : List Entry) (ls : Labels) → fs ≡ es ++ entries ls → processes_among fs ≡ processes_among es
behind_labels es fs ls e = ap processes_among e ∙ processes_append es (entries ls) ∙ ap (λ z. processes_among es ++ z) (no_label ls) ∙ append-nil (processes_among es)

-- ALONG THE WALK
pub declared_names : (ds : List raw.Declaration) (h : Heading) → DeclarationsModest ds → Holds (λ k. processes_among k.state.names ≡ processes_among h.state.names) (declarations_in ds h)
declared_names ds h m = weaker (λ k. Begun h k ds) (λ k. processes_among k.state.names ≡ processes_among h.state.names) (declarations_in ds h) (declarations_mean ds h m) (λ k b. behind_variables h.state.names k.state.names (declared ds) b.grown.names)

abbrev Named : Heading → Texts → Heading → Type 0
Named h ns k = processes_among k.state.names ≡ processes_among h.state.names ++ ns

process_named : (q : raw.Process) (h : Heading) → DeclarationsModest q.declarations → BodyModest q.body → Holds (Named h (q.name.text ∷ [])) (process_in q h)
process_named q h md mb =
    bound (Declares q.name marks.Process h.state) (Named h (q.name.text ∷ [])) (declared_as q.name marks.Process h.state) _ (declares q.name marks.Process h.state)
    (λ st n. bound (λ k. processes_among k.state.names ≡ processes_among st.names) (Named h (q.name.text ∷ [])) (declarations_in q.declarations (with_state st h)) _ (declared_names q.declarations (with_state st h) md)
    (λ k b. bound {A = Made Process} {B = Heading} (Meant (IsBody k.scope q.body) k.state.names) (Named h (q.name.text ∷ [])) (bodied k.scope q.body k.state) _ (body_means k.scope q.body k.state mb)
    (λ a m. behind_labels k.state.names a.after.names m.labels m.adds ∙ b ∙ ap processes_among n ∙ processes_append h.state.names (record { name = q.name.text; mark = marks.Process } ∷ []))))

pub processes_named : (qs : List raw.Process) (h : Heading) → ProcessesModest qs → Holds (Named h (map (λ q. q.name.text) qs)) (processes_in qs h)
processes_named [] h m = sym (append-nil (processes_among h.state.names))
processes_named (q ∷ qs) h m =
    bound (Named h (q.name.text ∷ [])) (Named h (map (λ q. q.name.text) (q ∷ qs))) (process_in q h) _ (process_named q h m.0 m.1)
    (λ k a. weaker (Named k (map (λ q. q.name.text) qs)) (Named h (map (λ q. q.name.text) (q ∷ qs))) (processes_in qs k) (processes_named qs k m.2)
    (λ l b. b ∙ ap (λ z. z ++ map (λ (x : raw.Process). x.name.text) qs) a ∙ append_assoc (processes_among h.state.names) (q.name.text ∷ []) (map (λ (x : raw.Process). x.name.text) qs)))

-- KIND BY KIND
record NewIn (x : List ℕ) (es : List Entry) : Type 0 where
  variables : IsNew x (names_in (variables_among es))
  processes : IsNew x (processes_among es)
  labels : IsNew x (names_in (labels_among es))

new_kinds : (x : List ℕ) (es : List Entry) → IsNew x (entry_names es) → NewIn x es
new_kinds x [] h = record { variables = tt; processes = tt; labels = tt }
new_kinds x (e ∷ es) h = let k = new_kinds x es h.1 in record {
  variables = of_variable e.mark (variables_among es) h.0 k.variables;
  processes = of_process e.mark (processes_among es) h.0 k.processes;
  labels = of_label e.mark (labels_among es) h.0 k.labels;
}
  where
    of_variable : (m : Mark) (vs : Variables) → bytes_eq e.name x ≡ false → IsNew x (names_in vs) → IsNew x (names_in (first_variable m e.name vs))
    of_variable (marks.Variable b) vs i j = (i, j)
    of_variable (marks.Label l o) vs i j = j
    of_variable marks.Process vs i j = j

    of_process : (m : Mark) (ns : Texts) → bytes_eq e.name x ≡ false → IsNew x ns → IsNew x (first_process m e.name ns)
    of_process marks.Process ns i j = (i, j)
    of_process (marks.Variable b) ns i j = j
    of_process (marks.Label l o) ns i j = j

    of_label : (m : Mark) (ls : Labels) → bytes_eq e.name x ≡ false → IsNew x (names_in ls) → IsNew x (names_in (first_label m e.name ls))
    of_label (marks.Label l o) ls i j = (i, j)
    of_label (marks.Variable b) ls i j = j
    of_label marks.Process ls i j = j

abbrev pub by_kind : List Entry → Texts
by_kind es = names_in (variables_among es) ++ (processes_among es ++ names_in (labels_among es))

new_among : (x : List ℕ) (es : List Entry) → IsNew x (entry_names es) → IsNew x (by_kind es)
new_among x es h =
    let k = new_kinds x es h in new_both x (names_in (variables_among es)) (processes_among es ++ names_in (labels_among es)) k.variables (new_both x (processes_among es) (names_in (labels_among es)) k.processes k.labels)

one_more : (m : Mark) (x : List ℕ) (es : List Entry) → AreApart (x ∷ by_kind es) → AreApart (names_in (first_variable m x (variables_among es)) ++ (first_process m x (processes_among es) ++ names_in (first_label m x (labels_among es))))
one_more (marks.Variable b) x es h = h
one_more marks.Process x es h = apart_second x (names_in (variables_among es)) (processes_among es ++ names_in (labels_among es)) h
one_more (marks.Label l o) x es h = apart_third x (names_in (variables_among es)) (processes_among es) (names_in (labels_among es)) h

pub kinds_apart : (es : List Entry) → AreApart (entry_names es) → AreApart (by_kind es)
kinds_apart [] h = tt
kinds_apart (e ∷ es) h = one_more e.mark e.name es (new_among e.name es h.0, kinds_apart es h.1)
