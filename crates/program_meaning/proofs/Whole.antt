-- Which program a text is: the laws.
use Rattle.std.proofs.Common.{◌≡◌, ◌↔◌, ℕ, suc, ◌+◌, List, [], ◌∷◌, ◌++◌, length, refl, sym, ap, subst, ◌∙◌, Option, None, Result, Ok, Err}
use Rattle.st_form.specs.Formula.{Formula, every, formulas}
use Rattle.st_program.specs.Tree.{Processes, process, beside}
use Rattle.st_program.specs.Spots.{all_spots}
use Rattle.st_program.specs.Locations.{inside_end}
use Rattle.expression_parser.specs.ExpressionTree.{Expr}
use Rattle.spl_parser.specs.ProgramTree as raw
use Rattle.expression_typer.specs.declared.fault.TypeFault.{TypeFault}
use Rattle.expression_typer.specs.Scope.{Known}
use Rattle.expression_typer.specs.Rules.{meaning}
use Rattle.expression_typer.specs.Told.{Tells}
use Rattle.spl_typer.specs.Programs.{Labels, Typed, typing}
use Rattle.spl_typer.specs.ProgramRules.{program_faults, ProgramModest}
use Rattle.spl_typer.proofs.PartTells.{Any}
use Rattle.spl_typer.proofs.ProgramTells.{program_tells}
use Rattle.typing_laws.proofs.Programs.{spelled_lies}
use Rattle.typing_laws.proofs.Modesty.{program_modest}
use Rattle.program_meaning.specs.Meaning.{declared_by, declared, known, label_at, is_body, IsStart, no_start, a_start, AreStarts, no_starts, more_starts, AreProcesses, no_processes, more_processes, Means}
use Rattle.program_meaning.specs.Theorems.{MeantOnce, MeansIsTyping}
use Rattle.program_meaning.proofs.Numbering.{occs_all, occs_of, rises_split, numbered_rises, along_row}
use Rattle.program_meaning.proofs.Once.{test_once, Beside, body_same, next_same, row_once}
use Rattle.program_meaning.proofs.Typed.{typed_is_meant}

start_once : (s : List Known) (o : Option Expr) (fs gs : List Formula) → IsStart s o fs → IsStart s o gs → fs ≡ gs
start_once s o fs gs no_start no_start = refl
start_once s o fs gs (a_start {e = e} {f = f} h) (a_start {f = g} k) = ap (λ z. z ∷ []) (test_once (meaning s e) f g h k)

starts_once : (s : List Known) (first : ℕ) (ds : List raw.Declaration) (fs gs : List Formula) → AreStarts s first ds fs → AreStarts s first ds gs → fs ≡ gs
starts_once s first ds fs gs no_starts no_starts = refl
starts_once s first ds fs gs (more_starts {d = d} {ds = rest} {fs = us} {gs = cs} h hs) (more_starts {fs = bs} {gs = es} k ks) =
    ap (λ z. z ++ cs) (start_once (s ++ known first (declared_by d)) d.initial us bs h k)
    ∙ ap (λ z. bs ++ z) (starts_once (s ++ known first (declared_by d)) (first + length (declared_by d)) rest cs es hs ks)

record Once (ps qs : Processes) (fs gs : List Formula) (ls ms : Labels) : Type 0 where
  tree : ps ≡ qs
  starts : fs ≡ gs
  labels : ls ≡ ms

processes_once : (shared : List Known) (first : ℕ) (xs : List raw.Process) (ps qs : Processes) (fs gs : List Formula) (ls ms : Labels) (n next : ℕ)
    → AreProcesses shared first xs ps fs ls → AreProcesses shared first xs qs gs ms → Beside n next ps → Beside n next qs → Once ps qs fs gs ls ms
processes_once shared first xs ps qs fs gs ls ms n next no_processes no_processes u v = record { tree = refl; starts = refl; labels = refl }
processes_once shared first xs ps qs fs gs ls ms n next
    (more_processes {q = x} {qs = rest} {ps = us} {fs = fs0} {gs = fs1} {ms = js1} i (is_body {ss = ss} {xs = ys} {end = end} {l = l} {ls = js} h) hs)
    (more_processes {ps = cs} {fs = gs0} {gs = gs1} {ms = ks1} j (is_body {xs = zs} {l = m} {ls = ks} k) ks0) u v =
    let p = rises_split n (occs_all ys) (occs_of us) u.0 in
    let q = rises_split n (occs_all zs) (occs_of cs) v.0 in
    let r = row_once (shared ++ known first (declared x.declarations)) ss ys zs js ks n None None next h k (p.0, along_row ys next u.1.0) (q.0, along_row zs next v.1.0) in
    let t = body_same ys zs l m next end js ks u.1.1 v.1.1 r in
    let w : Beside (n + length (occs_all ys)) (suc l) cs = next_same ys zs l m n next cs u.1.1 v.1.1 r.0 (q.1, v.1.2) in
    let more = processes_once shared (first + length (declared x.declarations)) rest us cs fs1 gs1 js1 ks1 (n + length (occs_all ys)) (suc l) hs ks0 (p.1, u.1.2) w in
    record {
      tree = ap (λ z. beside z us) t.0 ∙ ap (λ z. beside (process zs m) z) more.tree;
      starts = ap (λ z. z ++ fs1) (starts_once shared first x.declarations fs0 gs0 i j) ∙ ap (λ z. gs0 ++ z) more.starts;
      labels = ap (λ z. z ++ js1) t.1 ∙ ap (λ z. (ks ++ label_at end m None) ++ z) more.labels;
    }

typed_same : (p q : Typed) → p.variables ≡ q.variables → p.initial ≡ q.initial → p.processes ≡ q.processes → p.locations ≡ q.locations → p.statements ≡ q.statements → p.names.variables ≡ q.names.variables → p.names.labels ≡ q.names.labels → p ≡ q
typed_same p q a b c d e f g = λ i. record { variables = a i; initial = b i; processes = c i; locations = d i; statements = e i; names = record { variables = f i; labels = g i } }

pub meant_once : MeantOnce
meant_once tree p q a b =
    let s = starts_once [] 0 tree.declarations a.shared b.shared a.starts b.starts in
    let o = processes_once (known 0 (declared tree.declarations)) (length (declared tree.declarations)) tree.processes p.processes q.processes a.own b.own p.names.labels q.names.labels 0 0 a.processes b.processes (numbered_rises p.processes a.numbered, a.placed) (numbered_rises q.processes b.numbered, b.placed) in
    typed_same p q (a.variables ∙ sym b.variables)
    (a.initial ∙ ap (λ z. every (formulas (z ++ a.own))) s ∙ ap (λ z. every (formulas (b.shared ++ z))) o.starts ∙ sym b.initial)
    o.tree
    (a.locations ∙ ap (λ z. inside_end z 0) o.tree ∙ sym b.locations)
    (a.statements ∙ ap (λ z. length (all_spots z)) o.tree ∙ sym b.statements)
    (a.names ∙ sym b.names)
    o.labels

lawful : (tree : raw.Program) (r : Result Typed TypeFault) (p : Typed) → Tells (Any {A = Typed}) r (program_faults tree) → r ≡ Ok p → program_faults tree ≡ []
lawful tree r p t e = let k : Tells (Any {A = Typed}) (Ok p) (program_faults tree) = subst (λ z. Tells (Any {A = Typed}) z (program_faults tree)) e t in k.0

some_typed : (r : Result Typed TypeFault) (fs : List TypeFault) → Tells (Any {A = Typed}) r fs → fs ≡ [] → (p : Typed) × (r ≡ Ok p)
some_typed (Ok p) fs t e = (p, refl)
some_typed (Err f) fs t e = absurd (not_empty f t.0 (sym t.1 ∙ e))
  where
    not_empty : (g : TypeFault) (gs : List TypeFault) → g ∷ gs ≡ [] → ⊥
    not_empty g gs i = cc

meaning_typed : (tree : raw.Program) (p : Typed) → ProgramModest tree → (typing tree ≡ Ok p) ↔ ((program_faults tree ≡ []) × Means tree p)
meaning_typed tree p m = (
  λ e. (lawful tree (typing tree) p (program_tells tree m) e, typed_is_meant tree p m e),
  λ h. let q = some_typed (typing tree) (program_faults tree) (program_tells tree m) h.0 in q.1 ∙ ap Ok (meant_once tree q.0 p (typed_is_meant tree q.0 m q.1) h.1),
)

pub means_is_typing : MeansIsTyping
means_is_typing text tree p s = meaning_typed tree p (program_modest tree (spelled_lies text tree s))
