-- Statements that tokens spell lie where these stand.
use Rattle.std.proofs.Common.{ℕ, zero, suc, ◌≤◌, Bool, true, false, List, [], ◌∷◌, ◌++◌, Some, None, refl, arith}
use Rattle.st_tokens.specs.Stream.{Lexeme}
use Rattle.st_reading.specs.declared.mark.Mark.TheVariants as marks
use Rattle.st_reading.specs.Spelling.{OneName, Row, row, Row2, row2}
use Rattle.expression_parser.specs.ExpressionTree.{Expr}
use Rattle.spl_parser.specs.ProgramTree.{Statement, stated, statements, Action, Statements, no_statements, followed, Body, body, bodies}
use Rattle.spl_parser.specs.Grammar.{IsRightSide, right_side, IsBranch, without, with_else, IsBody, unnamed, ended, IsChild, child, IsBare, s_assign, s_assign_all, s_skip, s_critical, s_noncritical, s_await, s_request, s_release, s_if, s_while, s_loop, s_block, s_select, s_cooperate, s_group, IsStatement, unlabelled, labelled, Low}
use Rattle.typing_laws.proofs.Standing.{Stand, meet, stand_to, first_to}
use Rattle.typing_laws.proofs.Laying.{ExprLaid, LabelLaid, InRow, SomeStatements, TwoStatements, TwoBodies, StatementLaid, ActionLaid, BranchLaid, StatementsLaid, BodyLaid, BodiesLaid}
use Rattle.typing_laws.proofs.Expressions.{Lay, laid_from}
use Rattle.typing_laws.proofs.Rows.{Lays, Earlier, row_lays, row2_lays, name_lays, label_earlier}

abbrev pub Placed : Bool → Statement → ℕ → ℕ → Type 0
Placed inner x from to = StatementLaid x inner from to

pub statement_earlier : (inner : Bool) → Earlier (Placed inner)
statement_earlier inner (stated None place x) a b to h l = (omega (arith, h, l.0), l.1)
statement_earlier inner (stated (Some n) place x) a b to h l = (l.0, label_earlier n a b place h l.1, l.2)

statements_laid : (inner : Bool) (xs : List Statement) (from to : ℕ) → InRow (Placed inner) xs from to → StatementsLaid (statements xs) inner from to
statements_laid inner [] from to h = h
statements_laid inner (x ∷ xs) from to h = (h.0, h.1, statements_laid inner xs h.0 to h.2)

bodies_laid : (xs : List Body) (from to : ℕ) → InRow BodyLaid xs from to → BodiesLaid (bodies xs) from to
bodies_laid [] from to h = h
bodies_laid (x ∷ xs) from to h = (h.0, h.1, bodies_laid xs h.0 to h.2)

statements_earlier : (inner : Bool) (xs : Statements) (a b to : ℕ) → a ≤ b → StatementsLaid xs inner b to → StatementsLaid xs inner a to
statements_earlier inner no_statements a b to h i = omega (arith, h, i)
statements_earlier inner (followed x xs) a b to h i = (i.0, statement_earlier inner x a b i.0 h i.1, i.2)

pub body_earlier : Earlier BodyLaid
body_earlier (body xs None) a b to h l = (l.0, statements_earlier false xs a b to h l.1)
body_earlier (body xs (Some n)) a b to h l = (l.0, l.1, statements_earlier false xs a b l.1 h l.2, l.3)

module _ (value : List Lexeme → Expr → Type 0) (value_lays : Lay value) where
  right_side_lays : Lay (IsRightSide value)
  right_side_lays ts e from to h (right_side t us x i k) = laid_from e from (suc t.start) to (omega (arith, h.0)) (value_lays us e (suc t.start) to h.2 k)

  module _ (low : Bool → List Lexeme → Statement → Type 0) (low_lays : (inner : Bool) → Lays (low inner) (Placed inner)) where
    branch_lays : (inner : Bool) → Lays (IsBranch value low inner) (λ y from to. BranchLaid y inner from to)
    branch_lays inner ts y from to h without = h
    branch_lays inner ts y from to h (with_else t us x i k) = statement_earlier inner x from (suc t.start) to (omega (arith, h.0)) (low_lays inner us x (suc t.start) to h.2 k)

    rows_lay : (inner : Bool) (ts : List Lexeme) (xs : List Statement) (from to : ℕ) → Stand from to ts → Row marks.Semicolon (low inner) ts xs → SomeStatements (statements xs) × StatementsLaid (statements xs) inner from to
    rows_lay inner ts xs from to h r = (some ts xs r, statements_laid inner xs from to (row_lays marks.Semicolon (low inner) (Placed inner) (low_lays inner) (statement_earlier inner) ts xs from to h r))
      where
        some : (us : List Lexeme) (ys : List Statement) → Row marks.Semicolon (low inner) us ys → SomeStatements (statements ys)
        some us ys (row a b x zs i k) = tt

    pub body_lays : Lays (IsBody value low) BodyLaid
    body_lays ts y from to h (unnamed a u xs r e) =
        rows_lay false a xs from to (first_to from to a (u ∷ []) (meet from to a (u ∷ []) h)) r
    body_lays ts y from to h (ended a s l c u xs r e f g i) =
        let m = meet from to a (s ∷ l ∷ c ∷ u ∷ []) h in
        let k = rows_lay false a xs from m.mid m.first r in
        (k.0, m.mid, k.1, record { behind = omega (arith, m.second.0, m.second.2.0); ahead = omega (arith, m.second.2.2.0, m.second.2.2.2.0, m.second.2.2.2.2); plain = m.second.2.1 f })

    child_lays : Lays (IsChild value low) BodyLaid
    child_lays ts y from to h (child t us b e i) = body_earlier b from (suc t.start) to (omega (arith, h.0)) (body_lays us b (suc t.start) to h.2 i)

    -- an action whose first token stands at a place
    record Begun (inner : Bool) (place : ℕ) (x : Action) (from to : ℕ) : Type 0 where
      behind : from ≤ place
      laid : ActionLaid x inner place to

    bare_lays : (inner : Bool) (place : ℕ) (ts : List Lexeme) (x : Action) (from to : ℕ) → Stand from to ts → IsBare value low inner place ts x → Begun inner place x from to
    bare_lays inner place ts x from to h (s_assign i t us e s r) = record { behind = h.0; laid = (refl, right_side_lays us e (suc t.start) to h.2 r) }
    bare_lays inner place ts x from to h (s_assign_all i t u v w z a b targets values s ra eu ev ew rb ez) =
        let m = meet (suc t.start) to a (u ∷ v ∷ w ∷ b ++ z ∷ []) h.2 in
        let n = meet (suc w.start) to b (z ∷ []) m.second.2.2.2 in
        record {
          behind = h.0;
          laid = (
            row2_lays marks.Comma OneName LabelLaid name_lays label_earlier a targets (suc t.start) w.start (stand_to (suc t.start) m.mid w.start a (omega (arith, m.second.0, m.second.2.0, m.second.2.2.0)) m.first) ra,
            row2_lays marks.Comma value ExprLaid value_lays laid_from b values (suc w.start) to (first_to (suc w.start) to b (z ∷ []) n) rb,
          );
        }
    bare_lays inner place ts x from to h (s_skip i t s) = record { behind = h.0; laid = h.2 }
    bare_lays inner place ts x from to h (s_critical t s) = record { behind = h.0; laid = (tt, h.2) }
    bare_lays inner place ts x from to h (s_noncritical t s) = record { behind = h.0; laid = (tt, h.2) }
    bare_lays inner place ts x from to h (s_await i t us e s v) = record { behind = h.0; laid = value_lays us e (suc t.start) to h.2 v }
    bare_lays inner place ts x from to h (s_request t u s n) = record { behind = h.0; laid = (tt, record { behind = h.2.0; ahead = h.2.2; plain = h.2.1 n }) }
    bare_lays inner place ts x from to h (s_release t u s n) = record { behind = h.0; laid = (tt, record { behind = h.2.0; ahead = h.2.2; plain = h.2.1 n }) }
    bare_lays inner place ts x from to h (s_if i t u v a b c e y z s va eu lb bc ev) =
        let m = meet (suc t.start) to a (u ∷ b ++ (c ++ v ∷ [])) h.2 in
        let n = meet (suc u.start) to b (c ++ v ∷ []) m.second.2 in
        let k = meet n.mid to c (v ∷ []) n.second in
        record {
          behind = h.0;
          laid = (
            u.start,
            n.mid,
            value_lays a e (suc t.start) u.start (stand_to (suc t.start) m.mid u.start a m.second.0 m.first) va,
            statement_earlier inner y u.start (suc u.start) n.mid (omega arith) (low_lays inner b y (suc u.start) n.mid n.first lb),
            branch_lays inner c z n.mid to (first_to n.mid to c (v ∷ []) k) bc,
          );
        }
    bare_lays inner place ts x from to h (s_while t u a b e y s va eu lb) =
        let m = meet (suc t.start) to a (u ∷ b) h.2 in
        record {
          behind = h.0;
          laid = (
            tt,
            u.start,
            value_lays a e (suc t.start) u.start (stand_to (suc t.start) m.mid u.start a m.second.0 m.first) va,
            statement_earlier false y u.start (suc u.start) to (omega arith) (low_lays false b y (suc u.start) to m.second.2 lb),
          );
        }
    bare_lays inner place ts x from to h (s_loop t u v b y s eu ev lb) =
        record { behind = h.0; laid = (tt, statement_earlier false y (suc t.start) (suc v.start) to (omega (arith, h.2.0, h.2.2.0)) (low_lays false b y (suc v.start) to h.2.2.2 lb)) }
    bare_lays inner place ts x from to h (s_block i t u a xs s r e) =
        record { behind = h.0; laid = rows_lay inner a xs (suc t.start) to (first_to (suc t.start) to a (u ∷ []) (meet (suc t.start) to a (u ∷ []) h.2)) r }
    bare_lays inner place ts x from to h (s_select t u v a xs s eu r ev) =
        let m = meet (suc u.start) to a (v ∷ []) h.2.2 in
        record {
          behind = h.0;
          laid = (
            tt,
            some a xs r,
            statements_earlier false (statements xs) (suc t.start) (suc u.start) to (omega (arith, h.2.0))
                (statements_laid false xs (suc u.start) to (row2_lays marks.Either (low false) (Placed false) (low_lays false) (statement_earlier false) a xs (suc u.start) to (first_to (suc u.start) to a (v ∷ []) m) r)),
          );
        }
      where
        some : (us : List Lexeme) (ys : List Statement) → Row2 marks.Either (low false) us ys → TwoStatements (statements ys)
        some us ys (row2 a b x y zs i k) = tt
    bare_lays inner place ts x from to h (s_cooperate t u a xs s r e) =
        let m = meet (suc t.start) to a (u ∷ []) h.2 in
        record {
          behind = h.0;
          laid = (tt, some a xs r, bodies_laid xs (suc t.start) to (row2_lays marks.Bars (IsChild value low) BodyLaid child_lays body_earlier a xs (suc t.start) to (first_to (suc t.start) to a (u ∷ []) m) r));
        }
      where
        some : (us : List Lexeme) (ys : List Body) → Row2 marks.Bars (IsChild value low) us ys → TwoBodies (bodies ys)
        some us ys (row2 a b x y zs i k) = tt
    bare_lays inner place ts x from to h (s_group t u a xs s r e) =
        let k = rows_lay true a xs (suc t.start) to (first_to (suc t.start) to a (u ∷ []) (meet (suc t.start) to a (u ∷ []) h.2)) r in
        record { behind = h.0; laid = (tt, k.0, k.1) }

    statement_lays : (inner : Bool) → Lays (IsStatement value low inner) (Placed inner)
    statement_lays inner ts x from to h (unlabelled i place us a b) =
        let k = bare_lays inner place us a from to h b in (k.behind, k.laid)
    statement_lays inner ts x from to h (labelled t u place us a n e b) =
        let k = bare_lays false place us a (suc u.start) to h.2.2 b in
        (tt, record { behind = h.0; ahead = omega (arith, h.2.0, k.behind); plain = h.1 n }, k.laid)

module _ (value : List Lexeme → Expr → Type 0) (value_lays : Lay value) where
  pub low_lays : (n : ℕ) (inner : Bool) → Lays (Low value n inner) (Placed inner)
  low_lays zero inner ts x from to h i = absurd i
  low_lays (suc n) inner ts x from to h i = statement_lays value value_lays (Low value n) (low_lays n) inner ts x from to h i
