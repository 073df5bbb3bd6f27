-- The walk over declarations and processes refuses none that stand for lawful ones.
use Rattle.std.proofs.Common.{◌≡◌, ℕ, suc, ◌+◌, ◌≤◌, nat_lt, Bool, List, [], ◌∷◌, ◌++◌, map, length, take, append-nil, append_assoc, slice_get, refl, sym, ap, subst, ◌∙◌, arith, Option, Some, Ok}
use Rattle.std.proofs.lemmas.List.{length-append, map-append, length-map}
use Rattle.list_laws.specs.Each.{Each}
use Rattle.st_form.specs.Formula.{Formula}
use Rattle.st_form.specs.declared.variables.Variable.{Variable}
use Rattle.st_reading.specs.Reading.{Label}
use Rattle.st_program.specs.Tree.{Action, Process, Processes}
use Rattle.st_program.specs.Names.{AreApart, names_in}
use Rattle.expression_parser.specs.ExpressionTree.{Expr}
use Rattle.spl_parser.specs.ProgramTree as raw
use Rattle.expression_typer.specs.Scope.{Known}
use Rattle.expression_typer.proofs.Terms.{Scoped}
use Rattle.spl_typer.specs.declared.walk.Mark.TheVariants as marks
use Rattle.spl_typer.specs.ProgramRules.{InitialModest, DeclarationsModest, ProcessesModest}
use Rattle.spl_typer.specs.Modest.{BodyModest}
use Rattle.spl_typer.specs.Statements.{tested}
use Rattle.spl_typer.specs.Walk.{Made, declared_as}
use Rattle.spl_typer.specs.Walking.{bodied}
use Rattle.spl_typer.specs.Programs.{Heading, Labels, knows, named_in, names_in as all_named, initial_in, declaration_in, declarations_in, with_state, process_in, processes_in, with_initial}
use Rattle.program_meaning.specs.Meaning.{Declared, declared_by, declared, known, IsStart, no_start, a_start, AreStarts, no_starts, more_starts, IsBody, AreProcesses, no_processes, more_processes}
use Rattle.program_meaning.proofs.Headings.{known_append, take_front, own_of}
use Rattle.program_rules.proofs.Passing.{Passes, onward, known_as, if_passes, more_passes}
use Rattle.program_rules.proofs.Names.{Texts, apart_front, apart_by_process}
use Rattle.program_rules.proofs.Acts.{acts_process, acts_of, load, load_both}
use Rattle.program_rules.proofs.Parts.{test_is}
use Rattle.program_rules.proofs.Standing.{Stands, Ends, declares_passes}
use Rattle.program_rules.proofs.Walks.{IsFine, body_passes}

abbrev pub texts : List Declared → Texts
texts vs = map (λ v. v.0) vs

-- names that are declared, variables that are known here, how many there are, and what the groups so far weigh
pub record Head (names : Texts) (s : List Known) (n w : ℕ) (h : Heading) : Type 0 where
  pub stands : Stands names w h.state
  pub scope : h.scope ≡ s
  pub count : length h.variables ≡ n

pub head_at : (names ns : Texts) (s t : List Known) (n m w : ℕ) (h : Heading) → names ≡ ns → s ≡ t → n ≡ m → Head names s n w h → Head ns t m w h
head_at names ns s t n m w h a b c k = record { stands = record { names = k.stands.names ∙ a; weight = k.stands.weight }; scope = k.scope ∙ b; count = k.count ∙ c }

abbrev one_of : Bool → Bool → Label → Declared
one_of input truth n = (n.text, record { input = input; truth = truth })

-- DECLARATIONS
name_passes : (input truth : Bool) (n : Label) (h : Heading) (names rest : Texts) (s : List Known) (k w : ℕ) → AreApart (names ++ n.text ∷ rest) → Head names s k w h
    → Passes (Head (names ++ n.text ∷ []) (s ++ known k (one_of input truth n ∷ [])) (suc k) w) (named_in input truth n h)
name_passes input truth n h names rest s k w apart hd =
    onward (Stands (names ++ n.text ∷ []) w) (Head (names ++ n.text ∷ []) (s ++ known k (one_of input truth n ∷ [])) (suc k) w) (declared_as n (marks.Variable truth) h.state) _ (declares_passes names w n (marks.Variable truth) h.state rest apart hd.stands)
    (λ st g. if_passes (Head (names ++ n.text ∷ []) (s ++ known k (one_of input truth n ∷ [])) (suc k) w) (nat_lt (length h.variables) 64) (knows input truth n st h) _ (λ r. r)
    (record {
      stands = g;
      scope = ap (λ (z : List Known). z ++ record { name = n.text; var = length h.variables; truth = truth; input = input } ∷ []) hd.scope ∙ ap (λ i. s ++ record { name = n.text; var = i; truth = truth; input = input } ∷ []) hd.count;
      count = length-append h.variables (record { input = input; truth = truth } ∷ []) ∙ next (length h.variables) k hd.count;
    }))
  where
    next : (i j : ℕ) → i ≡ j → i + 1 ≡ suc j
    next i j e = omega (arith, e)

names_pass : (input truth : Bool) (ns : List Label) (h : Heading) (names rest : Texts) (s : List Known) (k w : ℕ) → AreApart (names ++ (texts (map (one_of input truth) ns) ++ rest)) → Head names s k w h
    → Passes (Head (names ++ texts (map (one_of input truth) ns)) (s ++ known k (map (one_of input truth) ns)) (k + length (map (one_of input truth) ns)) w) (all_named input truth ns h)
names_pass input truth [] h names rest s k w apart hd = head_at names (names ++ []) s (s ++ []) k (k + 0) w h (sym (append-nil names)) (sym (append-nil s)) (plus_zero k) hd
  where
    plus_zero : (i : ℕ) → i ≡ i + 0
    plus_zero i = omega arith
names_pass input truth (n ∷ ns) h names rest s k w apart hd =
    let vs = map (one_of input truth) ns in
    onward (Head (names ++ n.text ∷ []) (s ++ known k (one_of input truth n ∷ [])) (suc k) w) (Head (names ++ texts (one_of input truth n ∷ vs)) (s ++ known k (one_of input truth n ∷ vs)) (k + length (one_of input truth n ∷ vs)) w)
    (named_in input truth n h) _ (name_passes input truth n h names (texts vs ++ rest) s k w apart hd)
    (λ g hg. more_passes (Head ((names ++ n.text ∷ []) ++ texts vs) ((s ++ known k (one_of input truth n ∷ [])) ++ known (suc k) vs) (suc k + length vs) w) (Head (names ++ texts (one_of input truth n ∷ vs)) (s ++ known k (one_of input truth n ∷ vs)) (k + length (one_of input truth n ∷ vs)) w)
    (all_named input truth ns g)
    (names_pass input truth ns g (names ++ n.text ∷ []) rest (s ++ known k (one_of input truth n ∷ [])) (suc k) w (subst AreApart (sym (append_assoc names (n.text ∷ []) (texts vs ++ rest))) apart) hg)
    (λ f hf. head_at ((names ++ n.text ∷ []) ++ texts vs) (names ++ n.text ∷ texts vs) ((s ++ known k (one_of input truth n ∷ [])) ++ known (suc k) vs) (s ++ known k (one_of input truth n ∷ vs)) (suc k + length vs) (k + suc (length vs)) w f
    (append_assoc names (n.text ∷ []) (texts vs)) (append_assoc s (known k (one_of input truth n ∷ [])) (known (suc k) vs)) (moves k (length vs)) hf))
  where
    moves : (i j : ℕ) → suc i + j ≡ i + suc j
    moves i j = omega arith

initial_passes : (o : Option Expr) (fs : List Formula) (h : Heading) (names : Texts) (s : List Known) (k w : ℕ) → IsStart s o fs → InitialModest o → Head names s k w h → Passes (Head names s k w) (initial_in o h)
initial_passes o fs h names s k w no_start m hd = hd
initial_passes o fs h names s k w (a_start {e = e} {f = f} t) m hd =
    known_as (Head names s k w) (tested h.scope e) f (λ g. Ok (with_initial g h)) (ap (λ z. tested z e) hd.scope ∙ test_is s e f m t) (record { stands = record { names = hd.stands.names; weight = hd.stands.weight }; scope = hd.scope; count = hd.count })

pub declarations_pass : (ds : List raw.Declaration) (fs : List Formula) (h : Heading) (names rest : Texts) (s : List Known) (k w : ℕ) → AreStarts s k ds fs → DeclarationsModest ds → AreApart (names ++ (texts (declared ds) ++ rest)) → Head names s k w h
    → Passes (Head (names ++ texts (declared ds)) (s ++ known k (declared ds)) (k + length (declared ds)) w) (declarations_in ds h)
declarations_pass ds fs h names rest s k w no_starts m apart hd = head_at names (names ++ []) s (s ++ []) k (k + 0) w h (sym (append-nil names)) (sym (append-nil s)) (plus_zero k) hd
  where
    plus_zero : (i : ℕ) → i ≡ i + 0
    plus_zero i = omega arith
declarations_pass ds fs h names rest s k w (more_starts {d = d} {ds = es} {fs = us} {gs = cs} i is) m apart hd =
    let vs = declared_by d in
    let ws = declared es in
    let split : texts (vs ++ ws) ≡ texts vs ++ texts ws = map-append (λ (v : Declared). v.0) vs ws in
    let all : AreApart (names ++ (texts vs ++ (texts ws ++ rest))) = subst (λ z. AreApart (names ++ z)) (ap (λ z. z ++ rest) split ∙ append_assoc (texts vs) (texts ws) rest) apart in
    onward (Head (names ++ texts vs) (s ++ known k vs) (k + length vs) w) (Head (names ++ texts (vs ++ ws)) (s ++ known k (vs ++ ws)) (k + length (vs ++ ws)) w) (declaration_in d h) _
    (onward (Head (names ++ texts vs) (s ++ known k vs) (k + length vs) w) (Head (names ++ texts vs) (s ++ known k vs) (k + length vs) w) (all_named d.input d.truth d.names h) _
    (names_pass d.input d.truth d.names h names (texts ws ++ rest) s k w all hd)
    (λ g hg. initial_passes d.initial us g (names ++ texts vs) (s ++ known k vs) (k + length vs) w i m.0 hg))
    (λ g hg. more_passes (Head ((names ++ texts vs) ++ texts ws) ((s ++ known k vs) ++ known (k + length vs) ws) (k + length vs + length ws) w) (Head (names ++ texts (vs ++ ws)) (s ++ known k (vs ++ ws)) (k + length (vs ++ ws)) w) (declarations_in es g)
    (declarations_pass es cs g (names ++ texts vs) rest (s ++ known k vs) (k + length vs) w is m.1 (subst AreApart (sym (append_assoc names (texts vs) (texts ws ++ rest))) all) hg)
    (λ f hf. head_at ((names ++ texts vs) ++ texts ws) (names ++ texts (vs ++ ws)) ((s ++ known k vs) ++ known (k + length vs) ws) (s ++ known k (vs ++ ws)) (k + length vs + length ws) (k + length (vs ++ ws)) w f
    (append_assoc names (texts vs) (texts ws) ∙ ap (λ z. names ++ z) (sym split)) (append_assoc s (known k vs) (known (k + length vs) ws) ∙ ap (λ z. s ++ z) (sym (known_append k vs ws)))
    (sums k (length vs) (length ws) (length (vs ++ ws)) (length-append vs ws)) hf))
  where
    sums : (i j l n : ℕ) → n ≡ j + l → i + j + l ≡ i + n
    sums i j l n e = omega (arith, e)

-- PROCESSES
module _ (vs : List Variable) where
  process_passes : (q : raw.Process) (p : Process) (fs : List Formula) (ls : Labels) (h : Heading) (names : Texts) (s : List Known) (k w : ℕ)
      → AreStarts s k q.declarations fs → IsBody (s ++ known k (declared q.declarations)) q.body p ls → DeclarationsModest q.declarations → BodyModest q.body → Scoped vs (s ++ known k (declared q.declarations))
      → Each (IsFine vs) (acts_process p) → AreApart (names ++ (q.name.text ∷ (texts (declared q.declarations) ++ names_in ls))) → w + load (acts_process p) ≤ 16777216 → Head names s k w h
      → Passes (Head (names ++ (q.name.text ∷ (texts (declared q.declarations) ++ names_in ls))) s (k + length (declared q.declarations)) (w + load (acts_process p))) (process_in q h)
  process_passes q p fs ls h names s k w starts body md mb scoped fine apart light hd =
      let own = declared q.declarations in
      let named = names ++ q.name.text ∷ [] in
      let all : AreApart (named ++ (texts own ++ names_in ls)) = subst AreApart (sym (append_assoc names (q.name.text ∷ []) (texts own ++ names_in ls))) apart in
      let whole = names ++ (q.name.text ∷ (texts own ++ names_in ls)) in
      onward (Stands named w) (Head whole s (k + length own) (w + load (acts_process p))) (declared_as q.name marks.Process h.state) _ (declares_passes names w q.name marks.Process h.state (texts own ++ names_in ls) apart hd.stands)
      (λ st hs. onward (Head (named ++ texts own) (s ++ known k own) (k + length own) w) (Head whole s (k + length own) (w + load (acts_process p))) (declarations_in q.declarations (with_state st h)) _
      (declarations_pass q.declarations fs (with_state st h) named (names_in ls) s k w starts md all (record { stands = hs; scope = hd.scope; count = hd.count }))
      (λ g hg. onward {A = Made Process} {B = Heading} (Ends (named ++ texts own) w ls (acts_process p)) (Head whole s (k + length own) (w + load (acts_process p))) (bodied g.scope q.body g.state) _
      (subst (λ z. Passes (Ends (named ++ texts own) w ls (acts_process p)) (bodied z q.body g.state)) (sym hg.scope)
      (body_passes vs (s ++ known k own) scoped q.body p ls (named ++ texts own) w g.state body mb fine (record { apart = subst AreApart (sym (append_assoc named (texts own) (names_in ls))) all; light = light }) hg.stands))
      (λ a ha. record {
        stands = record { names = ha.names ∙ append_assoc named (texts own) (names_in ls) ∙ append_assoc names (q.name.text ∷ []) (texts own ++ names_in ls); weight = ha.weight };
        scope = ap (take (length h.scope)) hg.scope ∙ ap (λ z. take (length z) (s ++ known k own)) hd.scope ∙ take_front s (known k own);
        count = hg.count;
      })))

  at_length : (pre : List Variable) (x : Variable) (rest : List Variable) → slice_get (pre ++ x ∷ rest) (length pre) ≡ Some x
  at_length [] x rest = refl
  at_length (y ∷ pre) x rest = at_length pre x rest

  known_scoped : (pre : List Variable) (ds : List Declared) (post : List Variable) (k : ℕ) → length pre ≡ k → vs ≡ pre ++ (map (λ v. v.1) ds ++ post) → Scoped vs (known k ds)
  known_scoped pre [] post k n e = tt
  known_scoped pre (d ∷ ds) post k n e = (
    subst (λ i. slice_get vs i ≡ Some (record { input = d.1.input; truth = d.1.truth })) n (ap (λ z. slice_get z (length pre)) e ∙ at_length pre d.1 (map (λ v. v.1) ds ++ post)),
    known_scoped (pre ++ d.1 ∷ []) ds post (suc k) (length-append pre (d.1 ∷ []) ∙ next (length pre) k n) (e ∙ sym (append_assoc pre (d.1 ∷ []) (map (λ v. v.1) ds ++ post))),
  )
    where
      next : (i j : ℕ) → i ≡ j → i + 1 ≡ suc j
      next i j g = omega (arith, g)

  scoped_both : (s t : List Known) → Scoped vs s → Scoped vs t → Scoped vs (s ++ t)
  scoped_both [] t h g = g
  scoped_both (k ∷ s) t h g = (h.0, scoped_both s t h.1 g)

  -- what is behind: the variables and the statements of these processes
  pub record Behind (k w : ℕ) (qs : List raw.Process) (ps : Processes) : Type 0 where
    pre : List Variable
    count : length pre ≡ k
    are : vs ≡ pre ++ map (λ v. v.1) (own_of qs)
    fine : Each (IsFine vs) (acts_of ps)
    light : w + load (acts_of ps) ≤ 16777216

  each_first : (ks bs : List Action) → Each (IsFine vs) (ks ++ bs) → Each (IsFine vs) ks
  each_first [] bs h = tt
  each_first (a ∷ ks) bs h = (h.0, each_first ks bs h.1)

  each_second : (ks bs : List Action) → Each (IsFine vs) (ks ++ bs) → Each (IsFine vs) bs
  each_second [] bs h = h
  each_second (a ∷ ks) bs h = each_second ks bs h.1

  fewer : (i j k n : ℕ) → n ≡ j + k → i + n ≤ 16777216 → i + j ≤ 16777216
  fewer i j k n e h = omega (arith, e, h)

  further : (i j k n : ℕ) → n ≡ j + k → i + n ≤ 16777216 → i + j + k ≤ 16777216
  further i j k n e h = omega (arith, e, h)

  pub processes_pass : (s : List Known) (qs : List raw.Process) (ps : Processes) (fs : List Formula) (ls : Labels) (h : Heading) (names : Texts) (k w : ℕ) → AreProcesses s k qs ps fs ls → ProcessesModest qs → Scoped vs s → Behind k w qs ps
      → AreApart (names ++ (texts (own_of qs) ++ (map (λ q. q.name.text) qs ++ names_in ls))) → Head names s k w h → Passes (λ g. Unit {0}) (processes_in qs h)
  processes_pass s qs ps fs ls h names k w no_processes m scoped b apart hd = tt
  processes_pass s qs ps fs ls h names k w (more_processes {q = q} {qs = rest} {p = p} {ps = us} {fs = fs0} {gs = gs} {ls = js} {ms = ks} starts body is) m scoped b apart hd =
      let own = declared q.declarations in
      let others = own_of rest in
      let process_names = map (λ (x : raw.Process). x.name.text) rest in
      let grouped : AreApart (names ++ ((texts own ++ texts others) ++ ((q.name.text ∷ [] ++ process_names) ++ (names_in js ++ names_in ks)))) =
      subst (λ z. AreApart (names ++ z)) (ap (λ z. z ++ ((q.name.text ∷ process_names) ++ names_in (js ++ ks))) (map-append (λ (v : Declared). v.0) own others) ∙ ap (λ z. (texts own ++ texts others) ++ ((q.name.text ∷ process_names) ++ z)) (map-append (λ (x : List ℕ × (ℕ × Option ℕ)). x.0) js ks)) apart in
      let by_process = apart_by_process names (texts own) (texts others) (q.name.text ∷ []) process_names (names_in js) (names_in ks) grouped in
      let one = names ++ (q.name.text ∷ (texts own ++ names_in js)) in
      let are : vs ≡ b.pre ++ (map (λ v. v.1) own ++ map (λ v. v.1) others) = b.are ∙ ap (λ z. b.pre ++ z) (map-append (λ (v : Declared). v.1) own others) in
      let known_here = scoped_both s (known k own) scoped (known_scoped b.pre own (map (λ v. v.1) others) k b.count are) in
      onward (Head one s (k + length own) (w + load (acts_process p))) (λ g. Unit {0}) (process_in q h) _
      (process_passes q p fs0 js h names s k w starts body m.0 m.1 known_here (each_first (acts_process p) (acts_of us) b.fine) (apart_front one (texts others ++ (process_names ++ names_in ks)) by_process)
      (fewer w (load (acts_process p)) (load (acts_of us)) (load (acts_process p ++ acts_of us)) (load_both (acts_process p) (acts_of us)) b.light) hd)
      (λ g hg. processes_pass s rest us gs ks g one (k + length own) (w + load (acts_process p)) is m.2 scoped
      (record {
        pre = b.pre ++ map (λ v. v.1) own;
        count = length-append b.pre (map (λ v. v.1) own) ∙ ap (λ z. length b.pre + z) (length-map own (λ v. v.1)) ∙ ap (λ z. z + length own) b.count;
        are = are ∙ sym (append_assoc b.pre (map (λ v. v.1) own) (map (λ v. v.1) others));
        fine = each_second (acts_process p) (acts_of us) b.fine;
        light = further w (load (acts_process p)) (load (acts_of us)) (load (acts_process p ++ acts_of us)) (load_both (acts_process p) (acts_of us)) b.light;
      })
      by_process hg)

  pub behind : (k w : ℕ) (qs : List raw.Process) (ps : Processes) (pre : List Variable) → length pre ≡ k → vs ≡ pre ++ map (λ v. v.1) (own_of qs) → Each (IsFine vs) (acts_of ps) → w + load (acts_of ps) ≤ 16777216 → Behind k w qs ps
  behind k w qs ps pre n e fine light = record { pre = pre; count = n; are = e; fine = fine; light = light }

  pub shared_scoped : (ds : List Declared) (post : List Variable) → vs ≡ map (λ v. v.1) ds ++ post → Scoped vs (known 0 ds)
  shared_scoped ds post e = known_scoped [] ds post 0 refl e
