-- What a tree denotes is what it means: places that are numbered along with the statements are those that are told of the whole.
use Rattle.std.proofs.Common.{◌≡◌, ℕ, suc, ◌+◌, List, ◌∷◌, ◌++◌, length, refl, sym, ap, subst, ◌∙◌, Option, Some, None}
use Rattle.st_form.specs.Formula.{Formula}
use Rattle.st_program.specs.Tree.{Statement, stated, Action, cooperate, Statements, process, Processes, beside}
use Rattle.st_program.specs.Locations.{location_end, within_end, along_end, among_end, inside_end, IsPlaced, WithinPlaced, AlongPlaced, AmongPlaced, InsidePlaced}
use Rattle.st_reading.specs.Reading.{Label}
use Rattle.spl_parser.specs.ProgramTree as raw
use Rattle.expression_typer.specs.Scope.{Known}
use Rattle.spl_typer.specs.Programs.{Labels, Typed}
use Rattle.program_meaning.specs.Meaning.{declared, known, label_at, IsStatement, is_stated, IsAction, is_skip, is_critical, is_noncritical, is_assign, is_assign_all, is_await, is_request, is_release, is_if, is_if_else, is_while, is_loop, is_block, is_select, is_cooperate, is_group, AreStatements, no_more, one_more, is_body, AreBodies, no_body, one_body, AreProcesses, no_processes, more_processes, Means}
use Rattle.program_meaning.specs.Denoting as placed
use Rattle.program_meaning.specs.Denoting.{Denotes}
use Rattle.program_meaning.specs.Theorems.{DenotesIsMeans}

-- FROM PLACES
mutual
  statement_kept : (s : List Known) (own next : ℕ) (x : raw.Statement) (a : Statement) (ls : Labels) (after : ℕ) → placed.IsStatement s own next x a ls after → IsStatement s x a ls × IsPlaced a own next × (after ≡ location_end a next)
  statement_kept s own next x a ls after (placed.is_stated {x = y} {a = b} {ls = ms} h) =
      let k = action_kept s own next y b ms after h in (is_stated k.0, (refl, k.1), k.2)

  action_kept : (s : List Known) (own next : ℕ) (x : raw.Action) (a : Action) (ls : Labels) (after : ℕ) → placed.IsAction s own next x a ls after → IsAction s x a ls × WithinPlaced a own next × (after ≡ within_end a next)
  action_kept s own next x a ls after (placed.is_simple placed.is_skip) = (is_skip, tt, refl)
  action_kept s own next x a ls after (placed.is_simple placed.is_critical) = (is_critical, tt, refl)
  action_kept s own next x a ls after (placed.is_simple placed.is_noncritical) = (is_noncritical, tt, refl)
  action_kept s own next x a ls after (placed.is_simple (placed.is_assign h)) = (is_assign h, tt, refl)
  action_kept s own next x a ls after (placed.is_simple (placed.is_assign_all h)) = (is_assign_all h, tt, refl)
  action_kept s own next x a ls after (placed.is_simple (placed.is_await h)) = (is_await h, tt, refl)
  action_kept s own next x a ls after (placed.is_simple (placed.is_request h)) = (is_request h, tt, refl)
  action_kept s own next x a ls after (placed.is_simple (placed.is_release h)) = (is_release h, tt, refl)
  action_kept s own next x a ls after (placed.is_simple (placed.is_group h)) = (is_group h, tt, refl)
  action_kept s own next x a ls after (placed.is_if {y = y} {a = b} t h) =
      let k = statement_kept s next (suc next) y b ls after h in (is_if t k.0, k.1, k.2)
  action_kept s own next x a ls after (placed.is_if_else {between = between} {y = y} {n = n} {a = b} {b = c} {ls = js} {ms = ks} t h i) =
      let k = statement_kept s next (suc next) y b js between h in
      let m = statement_kept s between (suc between) n c ks after i in
      (is_if_else t k.0 m.0, (k.1, subst (λ z. IsPlaced c z (suc z)) k.2 m.1), m.2 ∙ ap (λ z. location_end c (suc z)) k.2)
  action_kept s own next x a ls after (placed.is_while {y = y} {a = b} t h) =
      let k = statement_kept s next (suc next) y b ls after h in (is_while t k.0, k.1, k.2)
  action_kept s own next x a ls after (placed.is_loop {y = y} {a = b} h) =
      let k = statement_kept s next (suc next) y b ls after h in (is_loop k.0, k.1, k.2)
  action_kept s own next x a ls after (placed.is_block {between = between} {y = y} {ys = ys} {a = b} {xs = xs} {ls = js} {ms = ks} h hs) =
      let k = statement_kept s own next y b js between h in
      let m = statements_kept s between ys xs ks after hs in
      (is_block (one_more k.0 m.0), (k.1, subst (AlongPlaced xs) k.2 m.1), m.2 ∙ ap (along_end xs) k.2)
  action_kept s own next x a ls after (placed.is_select {ys = ys} {xs = xs} h) =
      let k = branches_kept s own next ys xs ls after h in (is_select k.0, k.1, k.2)
  action_kept s own next x a ls after (placed.is_cooperate {end = end} {bs = bs} {ps = ps} {ms = ks} (placed.is_body {ys = ys} {xs = xs} {ls = js} h) hs) =
      let k = statements_kept s next ys xs js end h in
      let m = bodies_kept s (suc end) bs ps ks after hs in
      (is_cooperate (one_body (is_body k.0) m.0), (tt, (k.1, k.2, m.1)), m.2 ∙ ap (λ z. inside_end ps (suc z)) k.2)

  pub statements_kept : (s : List Known) (next : ℕ) (ss : raw.Statements) (xs : Statements) (ls : Labels) (after : ℕ) → placed.AreStatements s next ss xs ls after → AreStatements s ss xs ls × AlongPlaced xs next × (after ≡ along_end xs next)
  statements_kept s next ss xs ls after placed.no_more = (no_more, tt, refl)
  statements_kept s next ss xs ls after (placed.one_more {between = between} {y = y} {ys = ys} {a = a} {xs = us} {ls = js} {ms = ks} h hs) =
      let k = statement_kept s next (suc next) y a js between h in
      let m = statements_kept s between ys us ks after hs in
      (one_more k.0 m.0, (k.1, subst (AlongPlaced us) k.2 m.1), m.2 ∙ ap (along_end us) k.2)

  branches_kept : (s : List Known) (own next : ℕ) (ss : raw.Statements) (xs : Statements) (ls : Labels) (after : ℕ) → placed.AreBranches s own next ss xs ls after → AreStatements s ss xs ls × AmongPlaced xs own next × (after ≡ among_end xs next)
  branches_kept s own next ss xs ls after placed.no_branch = (no_more, tt, refl)
  branches_kept s own next ss xs ls after (placed.one_branch {between = between} {y = y} {ys = ys} {a = a} {xs = us} {ls = js} {ms = ks} h hs) =
      let k = statement_kept s own next y a js between h in
      let m = branches_kept s own between ys us ks after hs in
      (one_more k.0 m.0, (k.1, subst (AmongPlaced us own) k.2 m.1), m.2 ∙ ap (among_end us) k.2)

  bodies_kept : (s : List Known) (next : ℕ) (bs : raw.Bodies) (ps : Processes) (ls : Labels) (after : ℕ) → placed.AreBodies s next bs ps ls after → AreBodies s bs ps ls × InsidePlaced ps next × (after ≡ inside_end ps next)
  bodies_kept s next bs ps ls after placed.no_body = (no_body, tt, refl)
  bodies_kept s next bs ps ls after (placed.one_body {end = end} {bs = rest} {ps = us} {ms = ks} (placed.is_body {ys = ys} {xs = xs} {ls = js} h) hs) =
      let k = statements_kept s next ys xs js end h in
      let m = bodies_kept s (suc end) rest us ks after hs in
      (one_body (is_body k.0) m.0, (k.1, k.2, m.1), m.2 ∙ ap (λ z. inside_end us (suc z)) k.2)

processes_kept : (shared : List Known) (first next : ℕ) (qs : List raw.Process) (ps : Processes) (fs : List Formula) (ls : Labels) (after : ℕ)
    → placed.AreProcesses shared first next qs ps fs ls after → AreProcesses shared first qs ps fs ls × InsidePlaced ps next × (after ≡ inside_end ps next)
processes_kept shared first next qs ps fs ls after placed.no_processes = (no_processes, tt, refl)
processes_kept shared first next qs ps fs ls after (placed.more_processes {end = end} {q = q} {qs = rest} {ps = us} {gs = gs} {ms = ks} i (placed.is_body {ys = ys} {xs = xs} {ls = js} h) hs) =
    let k = statements_kept (shared ++ known first (declared q.declarations)) next ys xs js end h in
    let m = processes_kept shared (first + length (declared q.declarations)) (suc end) rest us gs ks after hs in
    (more_processes i (is_body k.0) m.0, (k.1, k.2, m.1), m.2 ∙ ap (λ z. inside_end us (suc z)) k.2)

-- TO PLACES
body_placed : (s : List Known) (next : ℕ) (ss : raw.Statements) (xs : Statements) (end : Option Label) (l : ℕ) (js : Labels)
    → placed.AreStatements s next ss xs js (along_end xs next) → l ≡ along_end xs next → placed.IsBody s next (raw.body ss end) (process xs l) (js ++ label_at end l None) l
body_placed s next ss xs end l js h e = subst (λ z. placed.IsBody s next (raw.body ss end) (process xs z) (js ++ label_at end z None) z) (sym e) (placed.is_body h)

mutual
  statement_placed : (s : List Known) (own next : ℕ) (x : raw.Statement) (a : Statement) (ls : Labels) → IsStatement s x a ls → IsPlaced a own next → placed.IsStatement s own next x a ls (location_end a next)
  statement_placed s own next x a ls (is_stated {label = label} {place = place} {act = act} {o = o} {l = l} {a = b} {ls = ms} h) p =
      subst (λ z. placed.IsStatement s z next (raw.stated label place act) (stated o l b) (label_at label l (Some o) ++ ms) (within_end b next)) p.0
      (placed.is_stated (action_placed s l next act b ms h (subst (λ z. WithinPlaced b z next) (sym p.0) p.1)))

  action_placed : (s : List Known) (own next : ℕ) (x : raw.Action) (a : Action) (ls : Labels) → IsAction s x a ls → WithinPlaced a own next → placed.IsAction s own next x a ls (within_end a next)
  action_placed s own next x a ls is_skip p = placed.is_simple placed.is_skip
  action_placed s own next x a ls is_critical p = placed.is_simple placed.is_critical
  action_placed s own next x a ls is_noncritical p = placed.is_simple placed.is_noncritical
  action_placed s own next x a ls (is_assign h) p = placed.is_simple (placed.is_assign h)
  action_placed s own next x a ls (is_assign_all h) p = placed.is_simple (placed.is_assign_all h)
  action_placed s own next x a ls (is_await h) p = placed.is_simple (placed.is_await h)
  action_placed s own next x a ls (is_request h) p = placed.is_simple (placed.is_request h)
  action_placed s own next x a ls (is_release h) p = placed.is_simple (placed.is_release h)
  action_placed s own next x a ls (is_if {y = y} {a = b} t h) p = placed.is_if t (statement_placed s next (suc next) y b ls h p)
  action_placed s own next x a ls (is_if_else {y = y} {n = n} {a = b} {b = c} {ls = js} {ms = ks} t h i) p =
      placed.is_if_else t (statement_placed s next (suc next) y b js h p.0) (statement_placed s (location_end b (suc next)) (suc (location_end b (suc next))) n c ks i p.1)
  action_placed s own next x a ls (is_while {y = y} {a = b} t h) p = placed.is_while t (statement_placed s next (suc next) y b ls h p)
  action_placed s own next x a ls (is_loop {y = y} {a = b} h) p = placed.is_loop (statement_placed s next (suc next) y b ls h p)
  action_placed s own next x a ls (is_block no_more) p = absurd p
  action_placed s own next x a ls (is_block (one_more {x = y} {ss = ys} {a = b} {xs = us} {ls = js} {ms = ks} h hs)) p =
      placed.is_block (statement_placed s own next y b js h p.0) (statements_placed s (location_end b next) ys us ks hs p.1)
  action_placed s own next x a ls (is_select {ss = ss} {xs = xs} h) p = placed.is_select (branches_placed s own next ss xs ls h p)
  action_placed s own next x a ls (is_cooperate no_body) p = absurd p.0
  action_placed s own next x a ls (is_cooperate (one_body {bs = bs} {ps = us} {ms = ks} (is_body {ss = ss} {xs = xs} {end = end} {l = l} {ls = js} h) hs)) (some, (along, ends, inside)) =
      subst (λ z. placed.IsAction s own next (raw.cooperate (raw.beside (raw.body ss end) bs)) (cooperate (beside (process xs l) us)) ((js ++ label_at end l None) ++ ks) (inside_end us (suc z))) ends
      (placed.is_cooperate (body_placed s next ss xs end l js (statements_placed s next ss xs js h along) ends) (bodies_placed s (suc l) bs us ks hs inside))
  action_placed s own next x a ls (is_group h) p = placed.is_simple (placed.is_group h)

  pub statements_placed : (s : List Known) (next : ℕ) (ss : raw.Statements) (xs : Statements) (ls : Labels) → AreStatements s ss xs ls → AlongPlaced xs next → placed.AreStatements s next ss xs ls (along_end xs next)
  statements_placed s next ss xs ls no_more p = placed.no_more
  statements_placed s next ss xs ls (one_more {x = y} {ss = ys} {a = b} {xs = us} {ls = js} {ms = ks} h hs) p =
      placed.one_more (statement_placed s next (suc next) y b js h p.0) (statements_placed s (location_end b (suc next)) ys us ks hs p.1)

  branches_placed : (s : List Known) (own next : ℕ) (ss : raw.Statements) (xs : Statements) (ls : Labels) → AreStatements s ss xs ls → AmongPlaced xs own next → placed.AreBranches s own next ss xs ls (among_end xs next)
  branches_placed s own next ss xs ls no_more p = placed.no_branch
  branches_placed s own next ss xs ls (one_more {x = y} {ss = ys} {a = b} {xs = us} {ls = js} {ms = ks} h hs) p =
      placed.one_branch (statement_placed s own next y b js h p.0) (branches_placed s own (location_end b next) ys us ks hs p.1)

  bodies_placed : (s : List Known) (next : ℕ) (bs : raw.Bodies) (ps : Processes) (ls : Labels) → AreBodies s bs ps ls → InsidePlaced ps next → placed.AreBodies s next bs ps ls (inside_end ps next)
  bodies_placed s next bs ps ls no_body p = placed.no_body
  bodies_placed s next bs ps ls (one_body {bs = rest} {ps = us} {ms = ks} (is_body {ss = ss} {xs = xs} {end = end} {l = l} {ls = js} h) hs) (along, ends, inside) =
      subst (λ z. placed.AreBodies s next (raw.beside (raw.body ss end) rest) (beside (process xs l) us) ((js ++ label_at end l None) ++ ks) (inside_end us (suc z))) ends
      (placed.one_body (body_placed s next ss xs end l js (statements_placed s next ss xs js h along) ends) (bodies_placed s (suc l) rest us ks hs inside))

processes_placed : (shared : List Known) (first next : ℕ) (qs : List raw.Process) (ps : Processes) (fs : List Formula) (ls : Labels)
    → AreProcesses shared first qs ps fs ls → InsidePlaced ps next → placed.AreProcesses shared first next qs ps fs ls (inside_end ps next)
processes_placed shared first next qs ps fs ls no_processes p = placed.no_processes
processes_placed shared first next qs ps fs ls (more_processes {q = q} {qs = rest} {ps = us} {fs = hs} {gs = gs} {ms = ks} i (is_body {ss = ss} {xs = xs} {end = end} {l = l} {ls = js} h) more) (along, ends, inside) =
    let s = shared ++ known first (declared q.declarations) in
    subst (λ z. placed.AreProcesses shared first next (q ∷ rest) (beside (process xs l) us) (hs ++ gs) ((js ++ label_at end l None) ++ ks) (inside_end us (suc z))) ends
    (placed.more_processes i (body_placed s next ss xs end l js (statements_placed s next ss xs js h along) ends) (processes_placed shared (first + length (declared q.declarations)) (suc l) rest us gs ks more inside))

from_denoted : (tree : raw.Program) (p : Typed) → Denotes tree p → Means tree p
from_denoted tree p d =
    let k = processes_kept (known 0 (declared tree.declarations)) (length (declared tree.declarations)) 0 tree.processes p.processes d.own p.names.labels p.locations d.processes in
    record {
      shared = d.shared;
      own = d.own;
      starts = d.starts;
      processes = k.0;
      initial = d.initial;
      variables = d.variables;
      names = d.names;
      numbered = d.numbered;
      placed = k.1;
      statements = d.statements;
      locations = k.2;
    }

to_denoted : (tree : raw.Program) (p : Typed) → Means tree p → Denotes tree p
to_denoted tree p m =
    let k = processes_placed (known 0 (declared tree.declarations)) (length (declared tree.declarations)) 0 tree.processes p.processes m.own p.names.labels m.processes m.placed in
    record {
      shared = m.shared;
      own = m.own;
      starts = m.starts;
      processes = subst (placed.AreProcesses (known 0 (declared tree.declarations)) (length (declared tree.declarations)) 0 tree.processes p.processes m.own p.names.labels) (sym m.locations) k;
      initial = m.initial;
      variables = m.variables;
      names = m.names;
      numbered = m.numbered;
      statements = m.statements;
    }

pub denotes_is_means : DenotesIsMeans
denotes_is_means tree p = (from_denoted tree p, to_denoted tree p)
