-- What a walk over the text counts, and the names that it has met.
use Rattle.std.proofs.Common.{◌≡◌, ℕ, suc, ◌+◌, ◌*◌, ◌≤◌, true, false, List, [], ◌∷◌, ◌++◌, Option, Some, None, refl, ◌∙◌, arith}
use Rattle.st_reading.specs.Reading.{Label}
use Rattle.spl_parser.specs.ProgramTree as raw
use Rattle.spl_parser.specs.Numbers.{in_statement, in_action, in_branch, in_statements, in_body, in_bodies}
use Rattle.spl_typer.specs.declared.walk.Mark.{Mark}
use Rattle.spl_typer.specs.declared.walk.Mark.TheVariants as marks
use Rattle.expression_typer.specs.Scope.{Known}
use Rattle.spl_typer.specs.Walk.{Entry, State, with_name, next_location, next_occurrence}
use Rattle.expression_typer.specs.Naming.{is_text}
use Rattle.spl_typer.specs.StatementRules.{own_location, behind_location, begins, behind, behind_act, behind_branch, behind_row, behind_bodies, behind_body}
use Rattle.typing_laws.proofs.Laying.{SomeStatements, StatementLaid, ActionLaid, BranchLaid, StatementsLaid, BodyLaid, BodiesLaid}

abbrev pub ArePlain : List Entry → Type 0
ArePlain [] = Unit {0}
ArePlain (e ∷ es) = (is_text e.name ≡ true) × ArePlain es

abbrev pub is_variable : Mark → ℕ
is_variable (marks.Variable truth) = 1
is_variable (marks.Label l o) = 0
is_variable marks.Process = 0

-- how many of the names are variables
abbrev pub variables_among : List Entry → ℕ
variables_among [] = 0
variables_among (e ∷ es) = is_variable e.mark + variables_among es

pub plain_append : (es : List Entry) (e : Entry) → ArePlain es → is_text e.name ≡ true → ArePlain (es ++ e ∷ [])
plain_append [] e h k = (k, tt)
plain_append (x ∷ es) e h k = (h.0, plain_append es e h.1 k)

pub among_append : (es : List Entry) (e : Entry) → variables_among (es ++ e ∷ []) ≡ variables_among es + is_variable e.mark
among_append [] e = omega arith
among_append (x ∷ es) e = let k = among_append es e in omega (arith, k)

-- m statements further on, where fewer than 2 * m locations were met, by `spare`
pub record Grows (m spare : ℕ) (st after : State) : Type 0 where
  pub occ : after.occ ≤ st.occ + m
  pub loc : after.loc + spare ≤ st.loc + 2 * m
  pub plain : ArePlain st.names → ArePlain after.names
  pub among : variables_among after.names ≡ variables_among st.names

pub stays : (st : State) → Grows 0 0 st st
stays st = record { occ = omega arith; loc = omega arith; plain = λ h. h; among = refl }

pub grows_then : (m n a b : ℕ) (st mid after : State) → Grows m a st mid → Grows n b mid after → Grows (m + n) (a + b) st after
grows_then m n a b st mid after h k =
    record { occ = omega (arith, h.occ, k.occ); loc = omega (arith, h.loc, k.loc); plain = λ p. k.plain (h.plain p); among = k.among ∙ h.among }

wider : (m n a b : ℕ) (st after : State) → m ≤ n → b ≤ a → Grows m a st after → Grows n b st after
wider m n a b st after h k g = record { occ = omega (arith, h, g.occ); loc = omega (arith, h, k, g.loc); plain = g.plain; among = g.among }

pub labelled_grows : (n : Label) (l : ℕ) (o : Option ℕ) (st : State) → is_text n.text ≡ true → Grows 0 0 st (with_name n (marks.Label l o) st)
labelled_grows n l o st h = record {
  occ = omega arith;
  loc = omega arith;
  plain = λ p. plain_append st.names (record { name = n.text; mark = marks.Label l o }) p h;
  among = let k = among_append st.names (record { name = n.text; mark = marks.Label l o }) in omega (arith, k);
}

-- where a statement's action begins: one occurrence further on, and one location at most
record Begins (st after : State) : Type 0 where
  occ : after.occ ≡ suc st.occ
  loc : after.loc ≤ suc st.loc
  plain : ArePlain st.names → ArePlain after.names
  among : variables_among after.names ≡ variables_among st.names

located : (own : Option ℕ) (st : State) → Begins st (next_occurrence (behind_location own st))
located None st = record { occ = refl; loc = omega arith; plain = λ p. p; among = refl }
located (Some l) st = record { occ = refl; loc = omega arith; plain = λ p. p; among = refl }

named : (n : Label) (l : ℕ) (o : Option ℕ) (st after : State) → is_text n.text ≡ true → Begins st after → Begins st (with_name n (marks.Label l o) after)
named n l o st after h b =
    let g = labelled_grows n l o after h in
    record { occ = b.occ; loc = b.loc; plain = λ p. g.plain (b.plain p); among = g.among ∙ b.among }

unnamed_begins : (own : Option ℕ) (st : State) → Begins st (begins None own st)
unnamed_begins own st = located own st

named_begins : (n : Label) (own : Option ℕ) (st : State) → is_text n.text ≡ true → Begins st (begins (Some n) own st)
named_begins n own st h = named n (own_location own st) (Some (behind_location own st).occ) st (next_occurrence (behind_location own st)) h (located own st)

stated_grows : (m : ℕ) (st mid after : State) → Begins st mid → Grows m 0 mid after → Grows (1 + m) 1 st after
stated_grows m st mid after b g = record { occ = omega (arith, b.occ, g.occ); loc = omega (arith, b.loc, g.loc); plain = λ p. g.plain (b.plain p); among = g.among ∙ b.among }

mutual
  pub statement_grows : (s : List Known) (own : Option ℕ) (x : raw.Statement) (st : State) (from to : ℕ) → StatementLaid x false from to → Grows (in_statement x) 1 st (behind s own x st)
  statement_grows s own (raw.stated None place act) st from to l =
      stated_grows (in_action act) st (begins None own st) _ (unnamed_begins own st) (action_grows s (own_location own st) place act (begins None own st) to l.1)
  statement_grows s own (raw.stated (Some n) place act) st from to l =
      stated_grows (in_action act) st (begins (Some n) own st) _ (named_begins n own st l.1.plain) (action_grows s (own_location own st) place act (begins (Some n) own st) to l.2)

  pub action_grows : (s : List Known) (l place : ℕ) (x : raw.Action) (st : State) (to : ℕ) → ActionLaid x false place to → Grows (in_action x) 0 st (behind_act s l place x st)
  action_grows s l place raw.skip st to h = stays st
  action_grows s l place raw.critical st to h = stays st
  action_grows s l place raw.noncritical st to h = stays st
  action_grows s l place (raw.assign n e) st to h = stays st
  action_grows s l place (raw.assign_all ns list es) st to h = stays st
  action_grows s l place (raw.await e) st to h = stays st
  action_grows s l place (raw.request n) st to h = stays st
  action_grows s l place (raw.release n) st to h = stays st
  action_grows s l place (raw.conditional e y other) st to h =
      wider _ _ 1 0 st _ (omega arith) (omega arith)
      (grows_then (in_statement y) (in_branch other) 1 0 st (behind s None y st) _ (statement_grows s None y st h.0 h.1 h.3) (branch_grows s other (behind s None y st) h.1 to h.4))
  action_grows s l place (raw.while_do e y) st to h = wider _ _ 1 0 st _ (omega arith) (omega arith) (statement_grows s None y st h.1 to h.3)
  action_grows s l place (raw.forever y) st to h = wider _ _ 1 0 st _ (omega arith) (omega arith) (statement_grows s None y st (suc place) to h.1)
  action_grows s l place (raw.block ss) st to h = row_grows s (Some l) None ss st (suc place) to h.1
  action_grows s l place (raw.select ss) st to h = row_grows s (Some l) (Some l) ss st (suc place) to h.2
  action_grows s l place (raw.cooperate bs) st to h = bodies_grow s bs st (suc place) to h.2
  action_grows s l place (raw.group ss) st to h = record { occ = omega arith; loc = omega arith; plain = λ p. p; among = refl }

  pub branch_grows : (s : List Known) (x : raw.Branch) (st : State) (from to : ℕ) → BranchLaid x false from to → Grows (in_branch x) 0 st (behind_branch s x st)
  branch_grows s raw.no_branch st from to h = stays st
  branch_grows s (raw.branch x) st from to h = wider _ _ 1 0 st _ (omega arith) (omega arith) (statement_grows s None x st from to h)

  pub row_grows : (s : List Known) (own others : Option ℕ) (xs : raw.Statements) (st : State) (from to : ℕ) → StatementsLaid xs false from to → Grows (in_statements xs) 0 st (behind_row s own others xs st)
  row_grows s own others raw.no_statements st from to h = stays st
  row_grows s own others (raw.followed x xs) st from to h =
      wider _ _ 1 0 st _ (omega arith) (omega arith)
      (grows_then (in_statement x) (in_statements xs) 1 0 st (behind s own x st) _ (statement_grows s own x st from h.0 h.1) (row_grows s others others xs (behind s own x st) h.0 to h.2))

  -- where there is a statement, a location is spare
  pub some_grow : (s : List Known) (own others : Option ℕ) (xs : raw.Statements) (st : State) (from to : ℕ) → SomeStatements xs → StatementsLaid xs false from to → Grows (in_statements xs) 1 st (behind_row s own others xs st)
  some_grow s own others raw.no_statements st from to e h = absurd e
  some_grow s own others (raw.followed x xs) st from to e h =
      grows_then (in_statement x) (in_statements xs) 1 0 st (behind s own x st) _ (statement_grows s own x st from h.0 h.1) (row_grows s others others xs (behind s own x st) h.0 to h.2)

  pub body_grows : (s : List Known) (b : raw.Body) (st : State) (from to : ℕ) → BodyLaid b from to → Grows (in_body b) 0 st (behind_body s b st)
  body_grows s (raw.body xs None) st from to h =
      let g = some_grow s None None xs st from to h.0 h.1 in
      record { occ = g.occ; loc = omega (arith, g.loc); plain = g.plain; among = g.among }
  body_grows s (raw.body xs (Some n)) st from to h =
      let g = some_grow s None None xs st from h.1 h.0 h.2 in
      let k = labelled_grows n (behind_row s None None xs st).loc None (next_location (behind_row s None None xs st)) h.3.plain in
      record { occ = g.occ; loc = omega (arith, g.loc); plain = λ p. k.plain (g.plain p); among = k.among ∙ g.among }

  pub bodies_grow : (s : List Known) (bs : raw.Bodies) (st : State) (from to : ℕ) → BodiesLaid bs from to → Grows (in_bodies bs) 0 st (behind_bodies s bs st)
  bodies_grow s raw.no_bodies st from to h = stays st
  bodies_grow s (raw.beside b bs) st from to h =
      grows_then (in_body b) (in_bodies bs) 0 0 st (behind_body s b st) _ (body_grows s b st from h.0 h.1) (bodies_grow s bs (behind_body s b st) h.0 to h.2)

-- room for m more statements
pub record Room (m : ℕ) (st : State) : Type 0 where
  pub occ : st.occ + m ≤ 400
  pub loc : st.loc + 2 * m ≤ 800

pub room_behind : (m n spare : ℕ) (st after : State) → Grows m spare st after → Room (m + n) st → Room n after
room_behind m n spare st after g r = record { occ = omega (arith, g.occ, r.occ); loc = omega (arith, g.loc, r.loc) }

pub room_less : (m n : ℕ) (st : State) → m ≤ n → Room n st → Room m st
room_less m n st h r = record { occ = omega (arith, h, r.occ); loc = omega (arith, h, r.loc) }
