-- The walk over statements refuses none that stand for lawful ones.
use Rattle.std.proofs.Common.{◌≡◌, ℕ, ◌+◌, ◌≤◌, Bool, true, false, List, [], ◌∷◌, ◌++◌, append-nil, refl, sym, ap, subst, ◌∙◌, arith, Some, None, Result}
use Rattle.std.specs.Prelude.{sum_by}
use Rattle.list_laws.specs.Each.{Each}
use Rattle.st_form.specs.Formula.{Formula}
use Rattle.st_form.specs.declared.variables.Variable.{Variable}
use Rattle.st_program.specs.Tree.{Statement, stated, Action, if_then, if_else, while_do, block, select, cooperate, Statements, no_statement, statement, Process, process, Processes, Pieces}
use Rattle.st_program.specs.Tree as tree
use Rattle.st_program.specs.Groups.{paths_along}
use Rattle.st_program.specs.Locations.{NoLoop, NoLoopFirst, NoLoops, HeadsFit}
use Rattle.spl_parser.specs.ProgramTree as raw
use Rattle.expression_typer.specs.declared.fault.TypeFault.{TypeFault}
use Rattle.expression_typer.specs.Answers.{◌>>=◌}
use Rattle.expression_typer.specs.Scope.{Known}
use Rattle.expression_typer.proofs.Terms.{Scoped}
use Rattle.spl_typer.specs.declared.statement.Here.{Here}
use Rattle.spl_typer.specs.Modest.{StatementModest, ActionModest, RowModest, BodiesModest, BodyModest}
use Rattle.spl_typer.specs.Shapes.{some_statement, two_statements, two_bodies}
use Rattle.spl_typer.specs.Statements.{tested, counter, assigned, pieces_inside}
use Rattle.spl_typer.specs.Groups.{grouped}
use Rattle.spl_typer.specs.Walk.{State, Made, give, new_location, new_occurrence, with_weight}
use Rattle.spl_typer.specs.Walking.{fresh, beneath, location, labelled, no_loop, walked, acting, along, inside, bodied}
use Rattle.spl_typer.specs.Programs.{Labels}
use Rattle.st_program.specs.Names.{names_in}
use Rattle.program_meaning.specs.Meaning.{label_at, IsStatement, is_stated, IsAction, is_skip, is_critical, is_noncritical, is_assign, is_assign_all, is_await, is_request, is_release, is_if, is_if_else, is_while, is_loop, is_block, is_select, is_cooperate, is_group, AreStatements, no_more, one_more, IsBody, is_body, AreBodies, no_body, one_body}
use Rattle.program_rules.specs.Changes.{ActionIsAllowed}
use Rattle.program_rules.specs.Groups.{GroupIsSmall, path_weight}
use Rattle.program_rules.proofs.Passing.{Passes, onward, known_as}
use Rattle.program_rules.proofs.Names.{Texts}
use Rattle.program_rules.proofs.Acts.{acts, acts_in, acts_along, acts_process, acts_of, load}
use Rattle.program_rules.proofs.Parts.{test_is, counter_is, assign_is, assigned_is, some_passes, inside_passes}
use Rattle.program_rules.proofs.Composing.{group_is}
use Rattle.program_rules.proofs.Standing.{Stands, Room, Ends, ended_room, ended_done, label_passes, located_passes, location_passes, occurrence_passes, first, second, joined, named_first, named_before, stays, none_done, lighter, heavier}

-- what each statement by itself keeps
pub record IsFine (vs : List Variable) (a : Action) : Type 0 where
  pub allowed : ActionIsAllowed vs a
  pub heads : HeadsFit a
  pub small : GroupIsSmall a

each_apart : (P : Action → Type 0) (ks bs : List Action) → Each P (ks ++ bs) → Each P ks × Each P bs
each_apart P [] bs h = (tt, h)
each_apart P (a ∷ ks) bs h = let k = each_apart P ks bs h.1 in ((h.0, k.0), k.1)

no_head : {A : Type 0} → false ≡ true → A
no_head {A} e = absurd cc

abbrev Others : Statements → Type 0
Others no_statement = Unit {0}
Others (statement s ss) = NoLoops ss

first_of : (ss : Statements) → NoLoops ss → NoLoopFirst ss
first_of no_statement h = tt
first_of (statement s ss) h = h.0

others_of : (ss : Statements) → NoLoops ss → Others ss
others_of no_statement h = tt
others_of (statement s ss) h = h.1

head_passes : {B : Type 0} (Q : B → Type 0) (head : Bool) (place : ℕ) (k : Unit {0} → Result B TypeFault) → (head ≡ true → ⊥) → Passes Q (k tt) → Passes Q (no_loop head place >>= k)
head_passes Q true place k never h = absurd (never refl)
head_passes Q false place k never h = h

group_light : (i j : ℕ) → i + (j + 0) ≤ 16777216 → i + j ≤ 16777216
group_light i j h = omega (arith, h)

group_sum : (i j : ℕ) → i + j ≡ i + (j + 0)
group_sum i j = omega arith

module _ (vs : List Variable) (s : List Known) (scoped : Scoped vs s) where
  group_passes : (place : ℕ) (ss : raw.Statements) (xs : Pieces) (names : Texts) (w : ℕ) (st : State) → IsFine vs (tree.group xs) → Room names w [] (tree.group xs ∷ []) → Stands names w st
      → Passes (λ ys. ys ≡ xs) (pieces_inside s place ss) → Passes (Ends names w [] (tree.group xs ∷ [])) (pieces_inside s place ss >>= λ ys. grouped place ys st.weight >>= λ v. give (tree.group ys) (with_weight v st))
  group_passes place ss xs names w st fine room h pieces =
      onward {A = Pieces} {B = Made Action} (λ ys. ys ≡ xs) (Ends names w [] (tree.group xs ∷ [])) (pieces_inside s place ss) _ pieces
      (λ ys i. known_as {A = ℕ} {B = Made Action} (Ends names w [] (tree.group xs ∷ [])) (grouped place ys st.weight) (w + sum_by path_weight (paths_along xs)) _
      (ap (λ z. grouped place z st.weight) i ∙ ap (grouped place xs) h.weight ∙ group_is place xs w fine.small.0 fine.small.1 (group_light w (sum_by path_weight (paths_along xs)) room.light))
      (record { names = h.names ∙ sym (append-nil names); weight = group_sum w (sum_by path_weight (paths_along xs)) }))

  mutual
    statement_passes : (here : Here) (x : raw.Statement) (a : Statement) (ls : Labels) (names : Texts) (w : ℕ) (st : State) → IsStatement s x a ls → StatementModest x → Each (IsFine vs) (acts a) → (here.head ≡ true → NoLoop a) → Room names w ls (acts a) → Stands names w st
        → Passes (Ends names w ls (acts a)) (walked s here x st)
    statement_passes here x a ls names w st (is_stated {label = label} {place = place} {act = act} {o = o} {l = l} {a = b} {ls = js} h) m fine free room stands =
        let before = label_at label l (Some o) in
        let room1 : Room (names ++ names_in before) w js (b ∷ acts_in b) = named_first names w before js (b ∷ acts_in b) room in
        onward {A = Made ℕ} {B = Made Statement} (λ i. Stands names w i.after) (Ends names w ls (acts a)) (location here.own place st) _ (location_passes names w here.own place st stands)
        (λ l1 h1. onward {A = Made ℕ} {B = Made Statement} (λ i. Stands names w i.after) (Ends names w ls (acts a)) (new_occurrence place l1.after) _ (occurrence_passes names w place l1.after h1)
        (λ o1 h2. onward {A = State} {B = Made Statement} (Stands (names ++ names_in before) w) (Ends names w ls (acts a)) (labelled label l1.made (Some o1.made) o1.after) _
        (label_passes names w label l1.made l (Some o1.made) (Some o) o1.after (ended_room names w before js (b ∷ acts_in b) room).apart h2)
        (λ st1 h3. onward {A = Made Action} {B = Made Statement} (Ends (names ++ names_in before) w js (b ∷ acts_in b)) (Ends names w ls (acts a)) (acting s l1.made here.head place act st1) _
        (action_passes l1.made here.head place act b js o l (names ++ names_in before) w st1 h m fine.0 fine.1 free room1 h3)
        (λ i h4. named_before names w before js (b ∷ acts_in b) i.after h4))))

    action_passes : (l0 : ℕ) (head : Bool) (place : ℕ) (x : raw.Action) (a : Action) (ls : Labels) (o l : ℕ) (names : Texts) (w : ℕ) (st : State) → IsAction s x a ls → ActionModest x → IsFine vs a → Each (IsFine vs) (acts_in a) → (head ≡ true → NoLoop (stated o l a)) → Room names w ls (a ∷ acts_in a) → Stands names w st
        → Passes (Ends names w ls (a ∷ acts_in a)) (acting s l0 head place x st)
    action_passes l0 head place x a ls o l names w st is_skip m fine each free room h = stays names w tree.skip st refl h
    action_passes l0 head place x a ls o l names w st is_critical m fine each free room h = stays names w tree.critical st refl h
    action_passes l0 head place x a ls o l names w st is_noncritical m fine each free room h = stays names w tree.noncritical st refl h
    action_passes l0 head place x a ls o l names w st (is_assign {n = n} {e = e} {x = c} i) m fine each free room h =
        subst (Passes (Ends names w ls (a ∷ acts_in a))) (sym (assign_is vs s n e c (λ y. give (tree.assign (y ∷ [])) st) scoped m i fine.allowed)) (stays names w (tree.assign (c ∷ [])) st refl h)
    action_passes l0 head place x a ls o l names w st (is_assign_all {ns = ns} {place = list} {es = es} {xs = xs} i) m fine each free room h =
        known_as {A = List (ℕ × tree.Term)} {B = Made Action} (Ends names w ls (a ∷ acts_in a)) (assigned s ns list es) xs _ (assigned_is vs s ns list es xs scoped m i fine.allowed) (stays names w (tree.assign xs) st refl h)
    action_passes l0 head place x a ls o l names w st (is_await {e = e} {f = f} t) m fine each free room h =
        known_as {A = Formula} {B = Made Action} (Ends names w ls (a ∷ acts_in a)) (tested s e) f _ (test_is s e f m t) (stays names w (tree.await f) st refl h)
    action_passes l0 head place x a ls o l names w st (is_request {n = n} {v = v} i) m fine each free room h =
        known_as {A = ℕ} {B = Made Action} (Ends names w ls (a ∷ acts_in a)) (counter s n) v _ (counter_is vs s n v scoped i fine.allowed) (stays names w (tree.request v) st refl h)
    action_passes l0 head place x a ls o l names w st (is_release {n = n} {v = v} i) m fine each free room h =
        known_as {A = ℕ} {B = Made Action} (Ends names w ls (a ∷ acts_in a)) (counter s n) v _ (counter_is vs s n v scoped i fine.allowed) (stays names w (tree.release v) st refl h)
    action_passes l0 head place x a ls o l names w st (is_if {e = e} {f = f} {y = y} {a = c} t i) m fine each free room h =
        known_as {A = Formula} {B = Made Action} (Ends names w ls (a ∷ acts_in a)) (tested s e) f _ (test_is s e f m.0 t)
        (onward {A = Made Statement} {B = Made Action} (Ends names w ls (acts c)) (Ends names w ls (a ∷ acts_in a)) (walked s fresh y st) _
        (statement_passes fresh y c ls names w st i m.1 each (λ g. no_head g) (lighter names w ls a (acts c) refl room) h)
        (λ b k. heavier names w ls a (acts c) b.after refl k))
    action_passes l0 head place x a ls o l names w st (is_if_else {e = e} {f = f} {y = y} {n = z} {a = c} {b = d} {ls = js} {ms = ks} t i j) m fine each free room h =
        let parts = each_apart (IsFine vs) (acts c) (acts d) each in
        let inner : Room names w (js ++ ks) (acts c ++ acts d) = lighter names w (js ++ ks) a (acts c ++ acts d) refl room in
        known_as {A = Formula} {B = Made Action} (Ends names w ls (a ∷ acts_in a)) (tested s e) f _ (test_is s e f m.0 t)
        (onward {A = Made Statement} {B = Made Action} (Ends names w js (acts c)) (Ends names w ls (a ∷ acts_in a)) (walked s fresh y st) _
        (statement_passes fresh y c js names w st i m.1 parts.0 (λ g. no_head g) (first names w js ks (acts c) (acts d) inner) h)
        (λ b k. onward {A = Made Statement} {B = Made Action} (Ends (names ++ names_in js) (w + load (acts c)) ks (acts d)) (Ends names w ls (a ∷ acts_in a)) (walked s fresh z b.after) _
        (statement_passes fresh z d ks (names ++ names_in js) (w + load (acts c)) b.after j m.2 parts.1 (λ g. no_head g) (second names w js ks (acts c) (acts d) inner) k)
        (λ b1 k1. heavier names w (js ++ ks) a (acts c ++ acts d) b1.after refl (joined names w js ks (acts c) (acts d) b1.after k1))))
    action_passes l0 head place x a ls o l names w st (is_while {e = e} {f = f} {y = y} {a = c} t i) m fine each free room h =
        head_passes (Ends names w ls (a ∷ acts_in a)) head place _ free
        (known_as {A = Formula} {B = Made Action} (Ends names w ls (a ∷ acts_in a)) (tested s e) f _ (test_is s e f m.0 t)
        (onward {A = Made Statement} {B = Made Action} (Ends names w ls (acts c)) (Ends names w ls (a ∷ acts_in a)) (walked s fresh y st) _
        (statement_passes fresh y c ls names w st i m.1 each (λ g. no_head g) (lighter names w ls a (acts c) refl room) h)
        (λ b k. heavier names w ls a (acts c) b.after refl k)))
    action_passes l0 head place x a ls o l names w st (is_loop {y = y} {a = c} i) m fine each free room h =
        head_passes (Ends names w ls (a ∷ acts_in a)) head place _ free
        (onward {A = Made Statement} {B = Made Action} (Ends names w ls (acts c)) (Ends names w ls (a ∷ acts_in a)) (walked s fresh y st) _
        (statement_passes fresh y c ls names w st i m each (λ g. no_head g) (lighter names w ls a (acts c) refl room) h)
        (λ b k. heavier names w ls a (acts c) b.after refl k))
    action_passes l0 head place x a ls o l names w st (is_block {ss = ss} {xs = xs} i) m fine each free room h =
        some_passes (Ends names w ls (a ∷ acts_in a)) (some_statement ss) place _
        (onward {A = Made Statements} {B = Made Action} (Ends names w ls (acts_along xs)) (Ends names w ls (a ∷ acts_in a)) (along s (beneath l0 head) fresh ss st) _
        (row_passes (beneath l0 head) fresh ss xs ls names w st i m each free (λ g. no_head g) (lighter names w ls a (acts_along xs) refl room) h)
        (λ b k. heavier names w ls a (acts_along xs) b.after refl k))
    action_passes l0 head place x a ls o l names w st (is_select {ss = ss} {xs = xs} i) m fine each free room h =
        some_passes (Ends names w ls (a ∷ acts_in a)) (two_statements ss) place _
        (onward {A = Made Statements} {B = Made Action} (Ends names w ls (acts_along xs)) (Ends names w ls (a ∷ acts_in a)) (along s (beneath l0 true) (beneath l0 true) ss st) _
        (row_passes (beneath l0 true) (beneath l0 true) ss xs ls names w st i m each (λ g. first_of xs fine.heads) (λ g. others_of xs fine.heads) (lighter names w ls a (acts_along xs) refl room) h)
        (λ b k. heavier names w ls a (acts_along xs) b.after refl k))
    action_passes l0 head place x a ls o l names w st (is_cooperate {bs = bs} {ps = ps} i) m fine each free room h =
        some_passes (Ends names w ls (a ∷ acts_in a)) (two_bodies bs) place _
        (onward {A = Made Processes} {B = Made Action} (Ends names w ls (acts_of ps)) (Ends names w ls (a ∷ acts_in a)) (inside s bs st) _
        (bodies_pass bs ps ls names w st i m each (lighter names w ls a (acts_of ps) refl room) h)
        (λ b k. heavier names w ls a (acts_of ps) b.after refl k))
    action_passes l0 head place x a ls o l names w st (is_group {ss = ss} {xs = xs} i) m fine each free room h =
        group_passes place ss xs names w st fine room h (inside_passes vs s scoped place ss xs i m fine.allowed)

    row_passes : (here there : Here) (ss : raw.Statements) (xs : Statements) (ls : Labels) (names : Texts) (w : ℕ) (st : State) → AreStatements s ss xs ls → RowModest ss → Each (IsFine vs) (acts_along xs) → (here.head ≡ true → NoLoopFirst xs) → (there.head ≡ true → Others xs)
        → Room names w ls (acts_along xs) → Stands names w st → Passes (Ends names w ls (acts_along xs)) (along s here there ss st)
    row_passes here there ss xs ls names w st no_more m each free others room h = none_done names w st h
    row_passes here there ss xs ls names w st (one_more {x = x} {ss = rest} {a = c} {xs = us} {ls = js} {ms = ks} i is) m each free others room h =
        let parts = each_apart (IsFine vs) (acts c) (acts_along us) each in
        onward {A = Made Statement} {B = Made Statements} (Ends names w js (acts c)) (Ends names w ls (acts_along xs)) (walked s here x st) _
        (statement_passes here x c js names w st i m.0 parts.0 free (first names w js ks (acts c) (acts_along us) room) h)
        (λ b k. onward {A = Made Statements} {B = Made Statements} (Ends (names ++ names_in js) (w + load (acts c)) ks (acts_along us)) (Ends names w ls (acts_along xs)) (along s there there rest b.after) _
        (row_passes there there rest us ks (names ++ names_in js) (w + load (acts c)) b.after is m.1 parts.1 (λ g. first_of us (others g)) (λ g. others_of us (others g)) (second names w js ks (acts c) (acts_along us) room) k)
        (λ d k1. joined names w js ks (acts c) (acts_along us) d.after k1))

    bodies_pass : (bs : raw.Bodies) (ps : Processes) (ls : Labels) (names : Texts) (w : ℕ) (st : State) → AreBodies s bs ps ls → BodiesModest bs → Each (IsFine vs) (acts_of ps) → Room names w ls (acts_of ps) → Stands names w st
        → Passes (Ends names w ls (acts_of ps)) (inside s bs st)
    bodies_pass bs ps ls names w st no_body m each room h = none_done names w st h
    bodies_pass bs ps ls names w st (one_body {b = b} {bs = rest} {p = p} {ps = us} {ls = js} {ms = ks} i is) m each room h =
        let parts = each_apart (IsFine vs) (acts_process p) (acts_of us) each in
        onward {A = Made Process} {B = Made Processes} (Ends names w js (acts_process p)) (Ends names w ls (acts_of ps)) (bodied s b st) _
        (body_passes b p js names w st i m.0 parts.0 (first names w js ks (acts_process p) (acts_of us) room) h)
        (λ d k. onward {A = Made Processes} {B = Made Processes} (Ends (names ++ names_in js) (w + load (acts_process p)) ks (acts_of us)) (Ends names w ls (acts_of ps)) (inside s rest d.after) _
        (bodies_pass rest us ks (names ++ names_in js) (w + load (acts_process p)) d.after is m.1 parts.1 (second names w js ks (acts_process p) (acts_of us) room) k)
        (λ d1 k1. joined names w js ks (acts_process p) (acts_of us) d1.after k1))

    pub body_passes : (b : raw.Body) (p : Process) (ls : Labels) (names : Texts) (w : ℕ) (st : State) → IsBody s b p ls → BodyModest b → Each (IsFine vs) (acts_process p) → Room names w ls (acts_process p) → Stands names w st
        → Passes (Ends names w ls (acts_process p)) (bodied s b st)
    body_passes b p ls names w st (is_body {ss = ss} {xs = xs} {end = end} {l = l} {ls = js} i) m each room h =
        let room1 : Room names w js (acts_along xs) = ended_room names w js (label_at end l None) (acts_along xs) room in
        some_passes (Ends names w ls (acts_process p)) (some_statement ss) 0 _
        (onward {A = Made Statements} {B = Made Process} (Ends names w js (acts_along xs)) (Ends names w ls (acts_process p)) (along s fresh fresh ss st) _
        (row_passes fresh fresh ss xs js names w st i m each (λ g. no_head g) (λ g. no_head g) room1 h)
        (λ d k. onward {A = Made ℕ} {B = Made Process} (λ n. Stands (names ++ names_in js) (w + load (acts_along xs)) n.after) (Ends names w ls (acts_process p)) (new_location 0 d.after) _
        (located_passes (names ++ names_in js) (w + load (acts_along xs)) 0 d.after k)
        (λ n k1. onward {A = State} {B = Made Process} (Stands ((names ++ names_in js) ++ names_in (label_at end l None)) (w + load (acts_along xs))) (Ends names w ls (acts_process p)) (labelled end n.made None n.after) _
        (label_passes (names ++ names_in js) (w + load (acts_along xs)) end n.made l None None n.after (named_first names w js (label_at end l None) (acts_along xs) room).apart k1)
        (λ st1 k2. ended_done names w js (label_at end l None) (acts_along xs) st1 k2))))
