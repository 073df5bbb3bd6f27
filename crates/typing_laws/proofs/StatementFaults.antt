-- The faults of statements are rules of typing, in text order.
use Rattle.std.proofs.Common.{◌≡◌, ℕ, suc, ◌+◌, ◌-◌, ◌^◌, ◌<◌, Bool, true, false, nat_lt, nat_eq, List, [], ◌∷◌, ◌++◌, length, refl, arith, inr, Option, Some, None, Result, Ok, Err, append-nil, append_assoc}
use Rattle.std.proofs.lemmas.Bool.Decides.{nat_tests}
use Rattle.st_reading.specs.Reading.{Label}
use Rattle.st_program.specs.Tree.{Pieces}
use Rattle.expression_parser.specs.ExpressionTree.{Expr}
use Rattle.spl_parser.specs.ProgramTree as raw
use Rattle.spl_parser.specs.Numbers.{in_statement, in_action, in_branch, in_statements, in_body, in_bodies}
use Rattle.expression_typer.specs.declared.fault.TypeFault.{TypeFault}
use Rattle.expression_typer.specs.declared.fault.TypeFault.TheVariants as faults
use Rattle.spl_typer.specs.declared.statement.Here.{Here}
use Rattle.expression_typer.specs.Scope.{Known, find}
use Rattle.expression_typer.specs.Told.{Tells}
use Rattle.spl_typer.specs.Walk.{State, is_declared, next_location, next_occurrence}
use Rattle.spl_typer.specs.Statements.{is_target, pieces_inside}
use Rattle.spl_typer.specs.Groups.{grouped}
use Rattle.spl_typer.specs.Shapes.{some_statement, two_statements, two_bodies}
use Rattle.spl_typer.specs.Walking.{fresh, beneath}
use Rattle.spl_typer.specs.StatementRules.{unless, where_true, test_faults, target_faults, counter_faults, side_faults, and_known, same_faults, targets_faults, sides_faults, assign_faults, piece_faults, pieces_faults, other_faults, inside_faults, row_pieces_faults, faults_of, limit_faults, twice, own_location, behind_location, location_faults, occurrence_faults, begins, behind, behind_row, behind_body, statement_faults, action_faults, branch_faults, row_faults, bodies_faults, body_faults}
use Rattle.spl_typer.proofs.PartTells.{Any, inside_tells}
use Rattle.typing_laws.proofs.Laying.{ExprLaid, LabelLaid, InRow, SomeStatements, TwoStatements, TwoBodies, StatementLaid, ActionLaid, BranchLaid, StatementsLaid, BodyLaid, BodiesLaid}
use Rattle.typing_laws.proofs.Modesty.{row_modest}
use Rattle.typing_laws.proofs.Ordering.{Ordered, ordered_within, ordered_from, ordered_to, ordered_append, alone, alone_where, alone_unless, widened}
use Rattle.typing_laws.proofs.ExpressionFaults.{expression_ordered, test_ordered, side_ordered}
use Rattle.typing_laws.proofs.GroupFaults.{group_ordered}
use Rattle.typing_laws.proofs.Counting.{Room, room_behind, room_less, statement_grows, some_grow, body_grows}

-- two rules at one place
both : (p : ℕ) (a b : Bool) (f g : TypeFault) → Ordered p (suc p) (f ∷ g ∷ []) → Ordered p (suc p) (where_true a f ++ where_true b g)
both p true true f g o = o
both p true false f g o = (o.0, o.1, o.2, tt, omega arith)
both p false true f g o = o.4
both p false false f g o = omega arith

target_ordered : (p : ℕ) (o : Option Known) → Ordered p (suc p) (target_faults p o)
target_ordered p None = alone (faults.Unknown p) tt
target_ordered p (Some k) = alone_where k.input (faults.InputAssigned p) tt

counter_ordered : (p : ℕ) (o : Option Known) → Ordered p (suc p) (counter_faults p o)
counter_ordered p None = alone (faults.Unknown p) tt
counter_ordered p (Some k) =
    both p k.truth k.input (faults.WrongType p) (faults.InputAssigned p) (omega arith, omega arith, tt, (inr (refl, omega arith), tt), alone (faults.InputAssigned p) tt)

-- a target's faults, the last being that it stood before
same_ordered : (p : ℕ) (o : Option Known) (done : List Known) → Ordered p (suc p) (target_faults p o ++ same_faults p o done)
same_ordered p None done = alone (faults.Unknown p) tt
same_ordered p (Some k) done =
    both p k.input (is_target k.var done) (faults.InputAssigned p) (faults.SameTarget p) (omega arith, omega arith, tt, (inr (refl, omega arith), tt), alone (faults.SameTarget p) tt)

targets_ordered : (s done : List Known) (ns : List Label) (from to : ℕ) → InRow LabelLaid ns from to → Ordered from to (targets_faults s done ns)
targets_ordered s done [] from to h = h
targets_ordered s done (n ∷ ns) from to h =
    rw (← append_assoc (target_faults n.place (find n.text s)) (same_faults n.place (find n.text s) done) (targets_faults s (and_known done (find n.text s)) ns))
    (ordered_append from h.0 to _ _
    (widened n.place (suc n.place) from h.0 _ h.1.behind (omega (arith, h.1.ahead)) (same_ordered n.place (find n.text s) done))
    (targets_ordered s (and_known done (find n.text s)) ns h.0 to h.2))

sides_ordered : (s : List Known) (ns : List Label) (es : List Expr) (from to : ℕ) → InRow ExprLaid es from to → Ordered from to (sides_faults s ns es)
sides_ordered s ns [] from to h = h
sides_ordered s [] (e ∷ es) from to h = ordered_append from h.0 to _ _ (expression_ordered s e from h.0 h.1) (sides_ordered s [] es h.0 to h.2)
sides_ordered s (n ∷ ns) (e ∷ es) from to h = ordered_append from h.0 to _ _ (side_ordered s (find n.text s) e from h.0 h.1) (sides_ordered s ns es h.0 to h.2)

assign_ordered : (s : List Known) (ns : List Label) (list : ℕ) (es : List Expr) (p to : ℕ) → InRow LabelLaid ns (suc p) list → InRow ExprLaid es (suc list) to → Ordered p to (assign_faults s ns list es)
assign_ordered s ns list es p to h k =
    ordered_from p (suc p) to _ (omega arith)
    (ordered_append (suc p) list to (targets_faults s [] ns) _ (targets_ordered s [] ns (suc p) list h)
    (ordered_append list (suc list) to (unless (nat_eq (length ns) (length es)) (faults.WrongType list)) _ (alone_unless (nat_eq (length ns) (length es)) (faults.WrongType list) tt) (sides_ordered s ns es (suc list) to k)))

single_ordered : (s : List Known) (n : Label) (e : Expr) (p to : ℕ) → n.place ≡ p → ExprLaid e (suc p) to → Ordered p to (target_faults n.place (find n.text s) ++ side_faults s (find n.text s) e)
single_ordered s n e p to h l =
    ordered_append p (suc p) to (target_faults n.place (find n.text s)) _ (rw h (target_ordered p (find n.text s))) (side_ordered s (find n.text s) e (suc p) to l)

some_is : (xs : raw.Statements) → SomeStatements xs → some_statement xs ≡ true
some_is raw.no_statements h = absurd h
some_is (raw.followed x xs) h = refl

two_are : (xs : raw.Statements) → TwoStatements xs → two_statements xs ≡ true
two_are raw.no_statements h = absurd h
two_are (raw.followed x xs) h = some_is xs h

two_bodies_are : (bs : raw.Bodies) → TwoBodies bs → two_bodies bs ≡ true
two_bodies_are raw.no_bodies h = absurd h
two_bodies_are (raw.beside b raw.no_bodies) h = absurd h
two_bodies_are (raw.beside b (raw.beside c bs)) h = refl

mutual
  piece_ordered : (s : List Known) (x : raw.Statement) (from to : ℕ) → StatementLaid x true from to → Ordered from to (piece_faults s x)
  piece_ordered s (raw.stated None place act) from to l = ordered_from from place to (pieces_faults s place act) l.0 (pieces_ordered s place act to l.1)
  piece_ordered s (raw.stated (Some n) place act) from to l = absurd l.0

  pieces_ordered : (s : List Known) (p : ℕ) (x : raw.Action) (to : ℕ) → ActionLaid x true p to → Ordered p to (pieces_faults s p x)
  pieces_ordered s p raw.skip to h = omega (arith, h)
  pieces_ordered s p raw.critical to h = absurd h.0
  pieces_ordered s p raw.noncritical to h = absurd h.0
  pieces_ordered s p (raw.assign n e) to h = single_ordered s n e p to h.0 h.1
  pieces_ordered s p (raw.assign_all ns list es) to h = assign_ordered s ns list es p to h.0 h.1
  pieces_ordered s p (raw.await e) to h = ordered_from p (suc p) to _ (omega arith) (test_ordered s e (suc p) to h)
  pieces_ordered s p (raw.request n) to h = absurd h.0
  pieces_ordered s p (raw.release n) to h = absurd h.0
  pieces_ordered s p (raw.conditional e y other) to h =
      ordered_from p (suc p) to _ (omega arith)
      (ordered_append (suc p) h.0 to (test_faults s e) _ (test_ordered s e (suc p) h.0 h.2)
      (ordered_append h.0 h.1 to (piece_faults s y) _ (piece_ordered s y h.0 h.1 h.3) (other_ordered s other h.1 to h.4)))
  pieces_ordered s p (raw.while_do e y) to h = absurd h.0
  pieces_ordered s p (raw.forever y) to h = absurd h.0
  pieces_ordered s p (raw.block ss) to h = rw (some_is ss h.0) (ordered_from p (suc p) to _ (omega arith) (row_pieces_ordered s ss (suc p) to h.1))
  pieces_ordered s p (raw.select ss) to h = absurd h.0
  pieces_ordered s p (raw.cooperate bs) to h = absurd h.0
  pieces_ordered s p (raw.group ss) to h = absurd h.0

  other_ordered : (s : List Known) (x : raw.Branch) (from to : ℕ) → BranchLaid x true from to → Ordered from to (other_faults s x)
  other_ordered s raw.no_branch from to h = h
  other_ordered s (raw.branch x) from to h = piece_ordered s x from to h

  row_pieces_ordered : (s : List Known) (xs : raw.Statements) (from to : ℕ) → StatementsLaid xs true from to → Ordered from to (row_pieces_faults s xs)
  row_pieces_ordered s raw.no_statements from to h = h
  row_pieces_ordered s (raw.followed x xs) from to h = ordered_append from h.0 to (piece_faults s x) _ (piece_ordered s x from h.0 h.1) (row_pieces_ordered s xs h.0 to h.2)

-- a group's limits are told before its statements, and only where nothing is wrong in these
limits_ordered : (p w to : ℕ) (fs : List TypeFault) (r : Result Pieces TypeFault) → Tells (Any {A = Pieces}) r fs → Ordered (suc p) to fs → Ordered p to (fs ++ limit_faults p w r)
limits_ordered p w to fs (Ok xs) t o = rw t.0 (ordered_to p (suc p) to (faults_of (grouped p xs w)) (ordered_within (suc p) to fs o) (group_ordered p w xs))
limits_ordered p w to fs (Err f) t o = rw (append-nil fs) (ordered_from p (suc p) to fs (omega arith) o)

location_none : (own : Option ℕ) (p : ℕ) (st : State) → st.loc < 2 ^ 32 - 1 → location_faults own p st ≡ []
location_none None p st h = let k : nat_lt st.loc (2 ^ 32 - 1) ≡ true = grind (arith, nat_tests, h) in rw k refl
location_none (Some l) p st h = refl

occurrence_none : (own : Option ℕ) (p : ℕ) (st : State) → st.occ < 400 → occurrence_faults p (behind_location own st) ≡ []
occurrence_none None p st h = let k : nat_lt st.occ 400 ≡ true = grind (arith, nat_tests, h) in rw k refl
occurrence_none (Some l) p st h = let k : nat_lt st.occ 400 ≡ true = grind (arith, nat_tests, h) in rw k refl

-- room where a statement's action begins
room_begins : (m : ℕ) (label : Option Label) (own : Option ℕ) (st : State) → Room (1 + m) st → Room m (begins label own st)
room_begins m None None st r = record { occ = omega (arith, r.occ); loc = omega (arith, r.loc) }
room_begins m None (Some l) st r = record { occ = omega (arith, r.occ); loc = omega (arith, r.loc) }
room_begins m (Some n) None st r = record { occ = omega (arith, r.occ); loc = omega (arith, r.loc) }
room_begins m (Some n) (Some l) st r = record { occ = omega (arith, r.occ); loc = omega (arith, r.loc) }

mutual
  pub statement_ordered : (s : List Known) (here : Here) (x : raw.Statement) (st : State) (from to : ℕ) → StatementLaid x false from to → Room (in_statement x) st → Ordered from to (statement_faults s here x st)
  statement_ordered s here (raw.stated None place act) st from to l r =
      rw (location_none here.own place st (omega (arith, r.loc)), occurrence_none here.own place st (omega (arith, r.occ)))
      (ordered_from from place to _ l.0 (action_ordered s (own_location here.own st) here.head place act (begins None here.own st) to l.1 (room_begins (in_action act) None here.own st r)))
  statement_ordered s here (raw.stated (Some n) place act) st from to l r =
      rw (location_none here.own place st (omega (arith, r.loc)), occurrence_none here.own place st (omega (arith, r.occ)))
      (ordered_append from place to (twice (Some n) (next_occurrence (behind_location here.own st))) _
      (widened n.place (suc n.place) from place _ l.1.behind (omega (arith, l.1.ahead)) (alone_where (is_declared n.text (next_occurrence (behind_location here.own st)).names) (faults.Twice n.place) tt))
      (action_ordered s (own_location here.own st) here.head place act (begins (Some n) here.own st) to l.2 (room_begins (in_action act) (Some n) here.own st r)))

  action_ordered : (s : List Known) (l : ℕ) (head : Bool) (p : ℕ) (x : raw.Action) (st : State) (to : ℕ) → ActionLaid x false p to → Room (in_action x) st → Ordered p to (action_faults s l head p x st)
  action_ordered s l head p raw.skip st to h r = omega (arith, h)
  action_ordered s l head p raw.critical st to h r = omega (arith, h.1)
  action_ordered s l head p raw.noncritical st to h r = omega (arith, h.1)
  action_ordered s l head p (raw.assign n e) st to h r = single_ordered s n e p to h.0 h.1
  action_ordered s l head p (raw.assign_all ns list es) st to h r = assign_ordered s ns list es p to h.0 h.1
  action_ordered s l head p (raw.await e) st to h r = ordered_from p (suc p) to _ (omega arith) (test_ordered s e (suc p) to h)
  action_ordered s l head p (raw.request n) st to h r = widened n.place (suc n.place) p to _ (omega (arith, h.1.behind)) (omega (arith, h.1.ahead)) (counter_ordered n.place (find n.text s))
  action_ordered s l head p (raw.release n) st to h r = widened n.place (suc n.place) p to _ (omega (arith, h.1.behind)) (omega (arith, h.1.ahead)) (counter_ordered n.place (find n.text s))
  action_ordered s l head p (raw.conditional e y other) st to h r =
      ordered_from p (suc p) to _ (omega arith)
      (ordered_append (suc p) h.0 to (test_faults s e) _ (test_ordered s e (suc p) h.0 h.2)
      (ordered_append h.0 h.1 to (statement_faults s fresh y st) _ (statement_ordered s fresh y st h.0 h.1 h.3 (room_less (in_statement y) _ st (omega arith) r))
      (branch_ordered s other (behind s None y st) h.1 to h.4 (room_behind (in_statement y) (in_branch other) 1 st (behind s None y st) (statement_grows s None y st h.0 h.1 h.3) r))))
  action_ordered s l head p (raw.while_do e y) st to h r =
      ordered_append p (suc p) to (where_true head (faults.SelectHead p)) _ (alone_where head (faults.SelectHead p) tt)
      (ordered_append (suc p) h.1 to (test_faults s e) _ (test_ordered s e (suc p) h.1 h.2) (statement_ordered s fresh y st h.1 to h.3 r))
  action_ordered s l head p (raw.forever y) st to h r =
      ordered_append p (suc p) to (where_true head (faults.SelectHead p)) _ (alone_where head (faults.SelectHead p) tt) (statement_ordered s fresh y st (suc p) to h.1 r)
  action_ordered s l head p (raw.block ss) st to h r =
      rw (some_is ss h.0) (ordered_from p (suc p) to _ (omega arith) (row_ordered s (beneath l head) fresh ss st (suc p) to h.1 r))
  action_ordered s l head p (raw.select ss) st to h r =
      rw (two_are ss h.1) (ordered_from p (suc p) to _ (omega arith) (row_ordered s (beneath l true) (beneath l true) ss st (suc p) to h.2 r))
  action_ordered s l head p (raw.cooperate bs) st to h r =
      rw (two_bodies_are bs h.1) (ordered_from p (suc p) to _ (omega arith) (bodies_ordered s bs st (suc p) to h.2 r))
  action_ordered s l head p (raw.group ss) st to h r =
      limits_ordered p st.weight to (inside_faults s p ss) (pieces_inside s p ss) (inside_tells s p ss (row_modest ss true (suc p) to h.2)) (rw (some_is ss h.1) (row_pieces_ordered s ss (suc p) to h.2))

  branch_ordered : (s : List Known) (x : raw.Branch) (st : State) (from to : ℕ) → BranchLaid x false from to → Room (in_branch x) st → Ordered from to (branch_faults s x st)
  branch_ordered s raw.no_branch st from to h r = h
  branch_ordered s (raw.branch x) st from to h r = statement_ordered s fresh x st from to h r

  row_ordered : (s : List Known) (here there : Here) (xs : raw.Statements) (st : State) (from to : ℕ) → StatementsLaid xs false from to → Room (in_statements xs) st → Ordered from to (row_faults s here there xs st)
  row_ordered s here there raw.no_statements st from to h r = h
  row_ordered s here there (raw.followed x xs) st from to h r =
      ordered_append from h.0 to (statement_faults s here x st) _ (statement_ordered s here x st from h.0 h.1 (room_less (in_statement x) _ st (omega arith) r))
      (row_ordered s there there xs (behind s here.own x st) h.0 to h.2 (room_behind (in_statement x) (in_statements xs) 1 st (behind s here.own x st) (statement_grows s here.own x st from h.0 h.1) r))

  bodies_ordered : (s : List Known) (bs : raw.Bodies) (st : State) (from to : ℕ) → BodiesLaid bs from to → Room (in_bodies bs) st → Ordered from to (bodies_faults s bs st)
  bodies_ordered s raw.no_bodies st from to h r = h
  bodies_ordered s (raw.beside b bs) st from to h r =
      ordered_append from h.0 to (body_faults s b st) _ (body_ordered s b st from h.0 h.1 (room_less (in_body b) _ st (omega arith) r))
      (bodies_ordered s bs (behind_body s b st) h.0 to h.2 (room_behind (in_body b) (in_bodies bs) 0 st (behind_body s b st) (body_grows s b st from h.0 h.1) r))

  pub body_ordered : (s : List Known) (b : raw.Body) (st : State) (from to : ℕ) → BodyLaid b from to → Room (in_body b) st → Ordered from to (body_faults s b st)
  body_ordered s (raw.body xs None) st from to h r =
      let g = some_grow s None None xs st from to h.0 h.1 in
      rw (some_is xs h.0, location_none None 0 (behind_row s None None xs st) (omega (arith, g.loc, r.loc)), append-nil (row_faults s fresh fresh xs st)) (row_ordered s fresh fresh xs st from to h.1 r)
  body_ordered s (raw.body xs (Some n)) st from to h r =
      let g = some_grow s None None xs st from h.1 h.0 h.2 in
      rw (some_is xs h.0, location_none None 0 (behind_row s None None xs st) (omega (arith, g.loc, r.loc)))
      (ordered_append from h.1 to (row_faults s fresh fresh xs st) _ (row_ordered s fresh fresh xs st from h.1 h.2 r)
      (widened n.place (suc n.place) h.1 to _ h.3.behind (omega (arith, h.3.ahead)) (alone_where (is_declared n.text (next_location (behind_row s None None xs st)).names) (faults.Twice n.place) tt)))
