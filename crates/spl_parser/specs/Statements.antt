-- How statements and bodies are read. Statements are counted as they begin, and the count goes from reader to reader: a
-- limit on their number refuses one at its first token.
use Rattle.std.specs.Prelude.{ℕ, zero, suc, ◌+◌, Bool, true, false, cond, List, [], ◌∷◌, ◌++◌, Option, Some, None, Ok, Err}
use Rattle.st_tokens.specs.declared.limit.LimitKind.{LimitKind}
use Rattle.st_tokens.specs.declared.limit.LimitKind.TheVariants as limits
use Rattle.st_tokens.specs.Stream.{behind}
use Rattle.st_reading.specs.declared.mark.Mark.{Mark}
use Rattle.st_reading.specs.declared.mark.Mark.TheVariants as marks
use Rattle.st_reading.specs.declared.sign.Sign.{Sign}
use Rattle.st_reading.specs.Sign.{is}
use Rattle.st_reading.specs.Faults.{passed}
use Rattle.st_reading.specs.Reading.{other, Label, ahead, place_of, name_of, is_name, refusal, expected, named, gives, then_reads, Turn, leaves, goes, on_operator, chain, size, only, Counted, further, linked}
use Rattle.spl_parser.specs.declared.sign.Start.{Start}
use Rattle.spl_parser.specs.declared.sign.Start.TheVariants as starts
use Rattle.spl_parser.specs.Signs.{start, begins}
use Rattle.spl_parser.specs.Item.{Item, last, item}
use Rattle.spl_parser.specs.Begun.{Begun, fresh, after_name, after_label}
use Rattle.expression_parser.specs.ExpressionTree.{Expr}
use Rattle.spl_parser.specs.ProgramTree.{Statement, stated, Action, skip, critical, noncritical, assign, assign_all, await, request, release, conditional, while_do, forever, block, select, cooperate, group, Branch, no_branch, branch, statements, Body, body, bodies}
use Rattle.expression_parser.specs.Reading.{Reader}

-- whether a statement goes on so
abbrev pub goes_on : Begun → Sign → Bool
goes_on (fresh inner) g = begins inner (start g)
goes_on (after_name l) g = is g marks.Becomes
goes_on (after_label l) g = begins false (start g)

-- the place of a statement's first token, where the next token stands at `place`
abbrev pub front_place : Begun → ℕ → ℕ
front_place (fresh inner) place = place
front_place (after_name l) place = l.place
front_place (after_label l) place = l.place

-- A reader of statements that stand inside another.
abbrev pub Lower : Type 0
Lower = Begun → ℕ → Reader (Counted Statement)

-- what was read, and the count as it was
abbrev pub counted : {A : Type 0} → ℕ → Reader A → Reader (Counted A)
counted n r = then_reads r (λ x. gives (x, n))

-- item "," item { "," item } ")"
unfoldable pub listed_of : {A : Type 0} → Reader A → Reader (List A)
listed_of r s =
    then_reads r (λ x. then_reads (expected marks.Comma) (λ m. then_reads r (λ y. then_reads (further marks.Comma r (x ∷ y ∷ [])) (λ xs. then_reads (expected marks.Close) (λ m. gives xs))))) s

-- a statement is an item
abbrev pub an_item : Counted Statement → Counted Item
an_item x = (item x.0, x.1)

-- the body ends, or goes on
abbrev pub turned_by : List Statement → Counted Item → Turn (Counted Body) (Counted (List Statement))
turned_by xs (last l, n) = leaves (body (statements xs) (Some l), n)
turned_by xs (item x, n) = goes (xs ++ x ∷ [], n)

-- "]"
abbrev pub closed_body : Counted (List Statement) → Reader (Counted Body)
closed_body xs = then_reads (expected marks.CloseBlock) (λ m. gives (body (statements xs.0) None, xs.1))

-- a list up to a mark
abbrev pub enclosed : {A : Type 0} → (List A → Action) → Mark → Reader (Counted (List A)) → Reader (Counted Action)
enclosed action mark r = then_reads r (λ xs. then_reads (expected mark) (λ m. gives (action xs.0, xs.1)))

-- a statement that stands there
abbrev pub standing : Option Label → ℕ → Counted Action → Counted Statement
standing label place a = (stated label place a.0, a.1)

module _ (value : Reader Expr) where
  -- ":=" expr
  unfoldable pub right_side_of : Reader Expr
  right_side_of s = then_reads (expected marks.Becomes) (λ m. value) s

  -- behind the name on the left of an assignment that has no label
  unfoldable pub assigned_of : Label → ℕ → Reader (Counted Statement)
  assigned_of l n s = then_reads right_side_of (λ e. gives (stated None l.place (assign l e), n)) s

  -- behind the "(" of a list of targets
  unfoldable pub all_assigned_of : Reader Action
  all_assigned_of s =
      then_reads (listed_of named) (λ targets. then_reads (expected marks.Becomes) (λ m. then_reads (expected marks.Open) (λ list. then_reads (listed_of value) (λ values. gives (assign_all targets list values))))) s

  module _ (lower : Lower) where
    -- statement { ";" statement }
    unfoldable pub sequence_of : Bool → ℕ → Reader (Counted (List Statement))
    sequence_of inner n s = then_reads (lower (fresh inner) n) (λ x. linked marks.Semicolon (lower (fresh inner)) (x.0 ∷ [], x.1)) s

    -- statement "or" statement { "or" statement }
    unfoldable pub selection_of : ℕ → Reader (Counted (List Statement))
    selection_of n s =
        then_reads (lower (fresh false) n) (λ x. then_reads (expected marks.Either) (λ m. then_reads (lower (fresh false) x.1) (λ y. linked marks.Either (lower (fresh false)) (x.0 ∷ y.0 ∷ [], y.1)))) s

    -- behind a name and a colon
    abbrev pub labelled_item : ℕ → Label → Reader (Counted Item)
    labelled_item n l s = cond (is (ahead s) marks.CloseBlock) (Ok ((last l, n), behind s)) (then_reads (lower (after_label l) n) (λ x. gives (an_item x)) s)

    -- behind a name
    abbrev pub named_item : ℕ → Label → Reader (Counted Item)
    named_item n l s = cond (is (ahead s) marks.Colon) (labelled_item n l (behind s)) (then_reads (lower (after_name l) n) (λ x. gives (an_item x)) s)

    unfoldable pub item_of : ℕ → Reader (Counted Item)
    item_of n s = cond (is_name (ahead s)) (named_item n (name_of s) (behind s)) (then_reads (lower (fresh false) n) (λ x. gives (an_item x)) s)

    abbrev pub continuing : Unit {0} → ℕ → Counted (List Statement) → Reader (Turn (Counted Body) (Counted (List Statement)))
    continuing o place xs = then_reads (item_of xs.1) (λ x. gives (turned_by xs.0 x))

    -- { ";" statement } [ ";" name ":" ] "]"
    abbrev pub rest_of_body : Counted (List Statement) → Reader (Counted Body)
    rest_of_body xs s = chain (only marks.Semicolon) continuing closed_body (size s) xs s

    -- sequence [ ";" name ":" ] "]"
    unfoldable pub body_of : ℕ → Reader (Counted Body)
    body_of n s = then_reads (lower (fresh false) n) (λ x. rest_of_body (x.0 ∷ [], x.1)) s

    -- "[" sequence [ ";" name ":" ] "]"
    unfoldable pub child_of : ℕ → Reader (Counted Body)
    child_of n s = then_reads (expected marks.OpenBlock) (λ m. body_of n) s

    -- child "||" child { "||" child }
    unfoldable pub children_of : ℕ → Reader (Counted (List Body))
    children_of n s =
        then_reads (child_of n) (λ x. then_reads (expected marks.Bars) (λ m. then_reads (child_of x.1) (λ y. linked marks.Bars child_of (x.0 ∷ y.0 ∷ [], y.1)))) s

    -- [ "else" statement ]
    unfoldable pub branch_of : Bool → ℕ → Reader (Counted Branch)
    branch_of inner n s = cond (is (ahead s) marks.Else) (then_reads (lower (fresh inner) n) (λ x. gives (branch x.0, x.1)) (behind s)) (Ok ((no_branch, n), s))

    -- expr "then" statement [ "else" statement ] "fi"
    unfoldable pub conditional_of : Bool → ℕ → Reader (Counted Action)
    conditional_of inner n s =
        then_reads value (λ e. then_reads (expected marks.Then) (λ m. then_reads (lower (fresh inner) n) (λ x. then_reads (branch_of inner x.1) (λ y. then_reads (expected marks.Fi) (λ z. gives (conditional e x.0 y.0, y.1)))))) s

    -- "do" statement
    abbrev pub doing : (Statement → Action) → ℕ → Reader (Counted Action)
    doing action n = then_reads (expected marks.Do) (λ m. then_reads (lower (fresh false) n) (λ x. gives (action x.0, x.1)))

    -- Behind the first token of a statement; where it is a name, l is that name.
    unfoldable pub action_of : Bool → ℕ → Label → Start → Reader (Counted Action)
    action_of inner n l starts.Named s = then_reads right_side_of (λ e. gives (assign l e, n)) s
    action_of inner n l starts.Listed s = counted n all_assigned_of s
    action_of inner n l starts.Skip s = Ok ((skip, n), s)
    action_of inner n l starts.Critical s = Ok ((critical, n), s)
    action_of inner n l starts.Noncritical s = Ok ((noncritical, n), s)
    action_of inner n l starts.Await s = then_reads value (λ e. gives (await e, n)) s
    action_of inner n l starts.Request s = then_reads named (λ m. gives (request m, n)) s
    action_of inner n l starts.Release s = then_reads named (λ m. gives (release m, n)) s
    action_of inner n l starts.If s = conditional_of inner n s
    action_of inner n l starts.While s = then_reads value (λ e. doing (while_do e) n) s
    action_of inner n l starts.Loop s = then_reads (expected marks.Forever) (λ m. doing forever n) s
    action_of inner n l starts.Block s = enclosed (λ xs. block (statements xs)) marks.CloseBlock (sequence_of inner n) s
    action_of inner n l starts.Select s = then_reads (expected marks.OpenBlock) (λ m. enclosed (λ xs. select (statements xs)) marks.CloseBlock (selection_of n)) s
    action_of inner n l starts.Cooperate s = enclosed (λ xs. cooperate (bodies xs)) marks.Coend (children_of n) s
    action_of inner n l starts.Group s = enclosed (λ xs. group (statements xs)) marks.CloseGroup (sequence_of true n) s

    -- a statement behind its label
    unfoldable pub bare_of : Bool → Option Label → ℕ → Reader (Counted Statement)
    bare_of inner label n s = on_operator (start (ahead s)) (Err (refusal s)) (λ x. then_reads (action_of inner n (name_of s) x) (λ a. gives (standing label (place_of s) a)) (behind s))

    -- behind a name that begins a statement: a label, or the left side of an assignment
    unfoldable pub named_of : Label → ℕ → Reader (Counted Statement)
    named_of l n s = cond (is (ahead s) marks.Colon) (bare_of false (Some l) n (behind s)) (assigned_of l n s)

    unfoldable pub statement_of : Begun → ℕ → Reader (Counted Statement)
    statement_of (fresh inner) n s = cond inner (bare_of true None n s) (cond (is_name (ahead s)) (named_of (name_of s) n (behind s)) (bare_of false None n s))
    statement_of (after_name l) n s = assigned_of l n s
    statement_of (after_label l) n s = bare_of false (Some l) n s

  -- A limit is passed only where a statement goes on; then it is named at the statement's front.
  abbrev pub limited : LimitKind → Begun → Reader (Counted Statement)
  limited kind b s = Err (other (passed kind (front_place b (place_of s))))

  -- `may n` says whether one more statement may begin when n have.
  abbrev pub admitted : (ℕ → Bool) → Lower → Lower
  admitted may r b n s = cond (goes_on b (ahead s)) (cond (may n) (r b n s) (limited limits.Statements b s)) (Err (refusal s))

  -- A statement where that many more may stand round it.
  unfoldable pub inside : (ℕ → Bool) → ℕ → Lower
  inside may zero b n s = admitted may (λ c m. limited limits.Nesting c) b n s
  inside may (suc room) b n s = admitted may (λ c m. statement_of (inside may room) c (m + 1)) b n s
