-- The law of whole programs, within limits and beside larger ones.
use Rattle.std.proofs.Common.{◌≡◌, ℕ, suc, ◌+◌, ◌≤◌, Bool, true, false, cond, ◌&&◌, List, [], ◌∷◌, ◌++◌, Option, Some, None, is_none, Ok, Err, refl, sym, ap, ◌∙◌, arith}
use Rattle.st_tokens.specs.declared.limit.LimitKind.{LimitKind}
use Rattle.st_tokens.specs.declared.limit.LimitKind.TheVariants as limits
use Rattle.st_tokens.specs.Stream.{Lexeme, Stream, ends, breaks, more, behind}
use Rattle.st_reading.specs.declared.mark.Mark.{Mark}
use Rattle.st_reading.specs.declared.mark.Mark.TheVariants as marks
use Rattle.st_reading.specs.declared.sign.Sign.{Sign}
use Rattle.st_reading.specs.declared.sign.Sign.TheVariants as signs
use Rattle.st_reading.specs.Mark.{number}
use Rattle.st_reading.specs.Sign.{sign_of, is}
use Rattle.st_reading.specs.Faults.{Passed, passed}
use Rattle.st_reading.specs.Reading.{other, Label, label_of, name_of, ahead, place_of, size, is_name, refusal, expected, gives, then_reads, Turn, goes, chain, only, Carried, Counted, counting, linked, syntax}
use Rattle.st_reading.specs.Steady.{Viable, SteadyAt, Within, calmer, takes, wider, moves, anything}
use Rattle.st_reading.proofs.Steadiness.{at_stuck, at_one, at_over}
use Rattle.st_reading.proofs.Soundness.{Shrinks}
use Rattle.st_reading.proofs.Streams.{behind_size}
use Rattle.st_reading.proofs.Shrinking.{left}
use Rattle.st_reading.proofs.Lawful.{Lawful, at_head, lawful_bind, lawful_gives, lawful_map, lawful_chain, lawful_weak, lawful_if, viable_of}
use Rattle.st_reading.proofs.Branches.{lawful_calmer, completes_gives, completes_behind, completes_over, lawful_pick}
use Rattle.spl_parser.specs.Signs.{mode, kind}
use Rattle.expression_parser.specs.ExpressionTree.{Expr}
use Rattle.spl_parser.specs.ProgramTree.{Statement, Body, Declaration, Process, Program}
use Rattle.spl_parser.specs.Begun.{Begun, fresh}
use Rattle.expression_parser.specs.Calm.{calm, calm_but, calm_but2}
use Rattle.expression_parser.specs.Reading.{Reader, expression_of, disjunction_of, conjunction_of, negation_of, comparison_of, sum_of, product_of, unary_of, atom_of}
use Rattle.spl_parser.specs.Statements.{rest_of_body, body_of}
use Rattle.spl_parser.specs.Programs.{Limits, Totals, totals, limited_name, value_of, lower_of, variable_of, names_of, type_of, initial_of, declaration_of, declarations_of, process_name, process, process_of, processes_of, spelled_of}
use Rattle.expression_parser.proofs.Quiet.{and_parts, but_calm, but_none, but_false, but2_other, but2_none, name_token, name_spelled}
use Rattle.expression_parser.proofs.ExpressionLaw.{larger, lawful_formula}
use Rattle.spl_parser.proofs.Witnesses.{witness_in, lawful_mark, colon_mark, colons_mark, semicolon_mark, open_block_mark, integer_mark, skip_mark}
use Rattle.spl_parser.proofs.ListLaw.{any_of, same}
use Rattle.spl_parser.proofs.BodyLaw.{in_body, apart, name_is, name_calm, lawful_rest_of_body}
use Rattle.expression_parser.proofs.FormulaTheorems.{quiet}
use Rattle.spl_parser.proofs.ProgramSoundness.{Value, value_sound}
use Rattle.spl_parser.proofs.InsideLaw.{unlimited, deeper, fresh_completes}
use Rattle.spl_parser.proofs.LevelLaw.{inside_ends, lawful_inside}

-- larger limits: on no number, and on levels that are more by i and some
abbrev pub beyond : Limits → ℕ → Limits
beyond limit i = record { variables = unlimited; processes = unlimited; statements = unlimited; opened = larger limit.opened i; round = deeper limit.round i }

-- no declaration goes on
unfoldable pub no_mode : Sign → Bool
no_mode g = calm g && is_none (mode g)

-- a list whose items carry something on
module _ {I N A : Type 0} (set inner front : Sign → Bool) (mark : Mark) (meets : Within set inner) (calms : (g : Sign) → set g ≡ true → only mark g ≡ None) (nothing : None ≡ only mark signs.Nothing)
    (r : N → Reader (Carried N A)) (p : I → N → Reader (Carried N A)) (l : (n : N) → Lawful front inner (r n) (λ i. p i n)) where
  link_turn : (o : Unit {0}) (place : ℕ) (ys : Carried N (List A)) → Lawful {A = Turn (Carried N (List A)) (Carried N (List A))} anything inner (counting (λ o. r) o place ys) (λ i. counting (λ o. p i) o place ys)
  link_turn o place ys =
      lawful_bind anything inner inner inner (same inner) (r ys.1) (λ i. p i ys.1) (λ x. gives (goes (ys.0 ++ x.0 ∷ [], x.1))) (λ i x. gives (goes (ys.0 ++ x.0 ∷ [], x.1))) (λ x. wider (same inner)) (wider (any_of inner)) (calmer (same inner))
      (lawful_weak front anything inner (any_of front) (r ys.1) (λ i. p i ys.1) (l ys.1)) (λ x. lawful_gives inner inner (goes (ys.0 ++ x.0 ∷ [], x.1)))

  pub lawful_link : (xs : Carried N (List A)) → Lawful set set (linked mark r xs) (λ i. linked mark (p i) xs)
  lawful_link xs = lawful_chain set set inner (same set) meets (only mark) calms nothing (counting (λ o. r)) (λ i. counting (λ o. p i)) gives (λ i. gives) link_turn (λ ys. lawful_gives set set ys) xs

-- A NAME, WHERE ONE MORE MAY BE NAMED
module _ {A : Type 0} (set : Sign → Bool) (set_has : set (sign_of name_token) ≡ true) (limited : LimitKind) (may : Bool) (f : Label → A) where
  abbrev one : Reader A
  one s = limited_name limited may f s

  abbrev free : Reader A
  free s = limited_name limited true f s

  free_completes : Viable set anything free []
  free_completes = completes_behind set anything anything free (gives (f (label_of name_token))) name_token name_spelled set_has (λ after. rw name_is refl) (completes_gives anything anything (same anything) (f (label_of name_token)))

  free_over : (t : Lexeme) → is_name (sign_of t) ≡ true → Viable set anything free (t ∷ [])
  free_over t e = completes_over set anything anything free (gives (f (label_of t))) t (λ after. rw e refl) (completes_gives anything anything (same anything) (f (label_of t)))

  unnamed_at : {I : Type 0} (s : Stream) → is_name (ahead s) ≡ false → SteadyAt {I = I} set anything one (λ i. free) s
  unnamed_at s h = at_stuck set anything one (λ i. free) s (λ after e. let k = ap is_name e ∙ h in rw k refl) (λ i after e. let k = ap is_name e ∙ h in rw k refl) (λ i. free_completes)

  name_at : {I : Type 0} (t : Lexeme) (s : Stream) (b : Bool) → b ≡ is_name (sign_of t) → (c : Bool) → c ≡ may → SteadyAt {I = I} set anything one (λ i. free) (more t s)
  name_at t s false e c g = unnamed_at (more t s) (sym e)
  name_at t s true e true g = at_one set anything one (λ i. free) t (f (label_of t)) s (λ after. rw (← e, ← g) refl) (λ i after. rw (← e) refl)
  name_at t s true e false g = at_over set anything one (λ i. free) t (passed limited t.start) s (λ after. rw (← e, ← g) refl) (λ i. free_completes) (λ i. free_over t (sym e))

  at_name : {I : Type 0} (s : Stream) → SteadyAt {I = I} set anything one (λ i. free) s
  at_name (ends p) = unnamed_at (ends p) refl
  at_name (breaks p) = unnamed_at (breaks p) refl
  at_name (more t s) = name_at t s (is_name (sign_of t)) refl may refl

shrinks_limited : {A : Type 0} (limited : LimitKind) (f : Label → A) (m : Bool) → Shrinks (limited_name limited m f)
shrinks_limited limited f m s x rest h = at_test (is_name (ahead s)) m h
  where
    at_test : (b c : Bool) → cond b (cond c (gives {X = Passed} (f (name_of s)) (behind s)) (Err (other (passed limited (place_of s))))) (Err (refusal s)) ≡ Ok (x, rest) → size rest ≤ size s
    at_test true true h = let a = left {X = Passed} (f (name_of s)) x (behind s) rest h in omega (arith, a, behind_size s)
    at_test true false h = cc
    at_test false c h = cc

lawful_limited_name : {I A : Type 0} (set : Sign → Bool) → set (sign_of name_token) ≡ true → (limited : LimitKind) (may : Bool) (f : Label → A) → Lawful {I = I} set anything (limited_name limited may f) (λ i. limited_name limited true f)
lawful_limited_name set set_has limited may f = record { law = at_name set set_has limited may f; one = shrinks_limited limited f may; each = λ i. shrinks_limited limited f true }

no_mode_calm : Within no_mode calm
unfolding no_mode
no_mode_calm g h = (and_parts (calm g) (is_none (mode g)) h).0

no_mode_none : (g : Sign) → no_mode g ≡ true → mode g ≡ None
unfolding no_mode
no_mode_none g h = nothing (mode g) (and_parts (calm g) (is_none (mode g)) h).1
  where
    nothing : (o : Option Bool) → is_none o ≡ true → o ≡ None
    nothing None e = refl
    nothing (Some b) e = cc

name_in : no_mode (sign_of name_token) ≡ true
unfolding no_mode name_token calm
name_in = refl

skip_in : no_mode (sign_of skip_mark.token) ≡ true
unfolding no_mode number calm
skip_in = witness_in marks.Skip skip_mark no_mode refl

integer_is : kind (sign_of integer_mark.token) ≡ Some false
unfolding number
integer_is = ap kind integer_mark.sign

-- THE READERS OF PROGRAMS, BESIDE THOSE WITHIN LARGER LIMITS
abbrev made_of : Counted (List Declaration) → Carried Totals (List Process) → Program
made_of ds ps = record { declarations = ds.0; processes = ps.0 }

module _ (limit : Limits) where
  lawful_value : Lawful calm calm (value_of limit) (λ i. value_of (beyond limit i))
  unfolding value_of
  lawful_value = lawful_formula false limit.opened

  value_ends : value_of limit (ends 0) ≡ Err (syntax 0)
  unfolding value_of expression_of disjunction_of conjunction_of negation_of comparison_of sum_of product_of unary_of atom_of
  value_ends = refl

  -- DECLARATIONS
  abbrev but_comma : Sign → Bool
  but_comma = calm_but marks.Comma

  abbrev but_where : Sign → Bool
  but_where = calm_but marks.Where

  lawful_variable : (n : ℕ) → Lawful calm anything (variable_of limit n) (λ i. variable_of (beyond limit i) n)
  unfolding variable_of
  lawful_variable n = lawful_limited_name calm name_calm limits.Variables (limit.variables n) (λ l. (l, n + 1))

  lawful_names : (n : ℕ) → Lawful calm but_comma (names_of limit n) (λ i. names_of (beyond limit i) n)
  unfolding names_of
  lawful_names n =
      lawful_bind calm anything but_comma but_comma (any_of but_comma) (variable_of limit n) (λ i. variable_of (beyond limit i) n) (λ x. linked marks.Comma (variable_of limit) (x.0 ∷ [], x.1)) (λ i x. linked marks.Comma (variable_of (beyond limit i)) (x.0 ∷ [], x.1))
      (λ x. wider (same but_comma)) (wider (but_calm marks.Comma)) (calmer (any_of but_comma)) (lawful_variable n)
      (λ x. lawful_link but_comma anything calm marks.Comma (any_of but_comma) (but_none marks.Comma) refl (variable_of limit) (λ i. variable_of (beyond limit i)) lawful_variable (x.0 ∷ [], x.1))

  integer_in : (set : Sign → Bool) → set (signs.Marked marks.Integer) ≡ true → set (sign_of integer_mark.token) ≡ true
  integer_in set h = witness_in marks.Integer integer_mark set h

  lawful_type : Lawful {I = ℕ} anything anything (type_of limit) (λ i. type_of (beyond limit i))
  unfolding type_of
  lawful_type =
      lawful_pick anything anything kind refl (λ truth place l. gives truth) (λ i truth place l. gives truth) integer_mark.token integer_mark.spelled false integer_is refl (λ i. completes_gives anything anything (same anything) false) (λ truth place l. lawful_gives anything anything truth)

  lawful_initial : Lawful but_where but_where (initial_of limit) (λ i. initial_of (beyond limit i))
  unfolding initial_of
  lawful_initial =
      lawful_if but_where but_where (same but_where) (λ g. is g marks.Where) refl (λ place l. then_reads (value_of limit) (λ e. gives (Some e))) (λ i place l. then_reads (value_of (beyond limit i)) (λ e. gives (Some e))) (gives None) (λ i. gives None)
      (λ place l. lawful_weak calm anything but_where (any_of calm) (then_reads (value_of limit) (λ e. gives (Some e))) (λ i. then_reads (value_of (beyond limit i)) (λ e. gives (Some e)))
      (lawful_calmer calm calm but_where (but_calm marks.Where) (then_reads (value_of limit) (λ e. gives (Some e))) (λ i. then_reads (value_of (beyond limit i)) (λ e. gives (Some e))) (lawful_map calm calm (same calm) (λ e. Some e) (value_of limit) (λ i. value_of (beyond limit i)) lawful_value)))
      (lawful_gives but_where but_where None) (but_false marks.Where)

  -- the parts of a declaration behind its names, from the last on
  abbrev made : Bool → Counted (List Label) → Bool → Option Expr → Counted Declaration
  made input names truth initial = (record { input = input; names = names.0; truth = truth; initial = initial }, names.1)

  abbrev closing : Bool → Counted (List Label) → Bool → Option Expr → Reader (Counted Declaration)
  closing input names truth initial = then_reads (expected marks.Semicolon) (λ z. gives (made input names truth initial))

  lawful_closing : (input : Bool) (names : Counted (List Label)) (truth : Bool) (initial : Option Expr) → Lawful {I = ℕ} but_where anything (closing input names truth initial) (λ i. closing input names truth initial)
  unfolding number calm calm_but
  lawful_closing input names truth initial =
      lawful_bind but_where anything anything anything (same anything) (expected marks.Semicolon) (λ i. expected marks.Semicolon) (λ z. gives (made input names truth initial)) (λ i z. gives (made input names truth initial))
      (λ z. wider (same anything)) (moves refl (syntax 0) refl) (calmer (same anything)) (lawful_mark marks.Semicolon semicolon_mark but_where refl) (λ z. lawful_gives anything anything (made input names truth initial))

  closing_ends : (input : Bool) (names : Counted (List Label)) (truth : Bool) → then_reads (initial_of limit) (closing input names truth) (ends 0) ≡ Err (syntax 0)
  unfolding initial_of
  closing_ends input names truth = refl

  lawful_where : (input : Bool) (names : Counted (List Label)) (truth : Bool) → Lawful but_where anything (then_reads (initial_of limit) (closing input names truth)) (λ i. then_reads (initial_of (beyond limit i)) (closing input names truth))
  lawful_where input names truth =
      lawful_bind but_where but_where but_where anything (same but_where) (initial_of limit) (λ i. initial_of (beyond limit i)) (closing input names truth) (λ i. closing input names truth)
      (λ x. moves refl (syntax 0) refl) (wider (same but_where)) (takes refl (λ x. syntax 0) (λ x. refl)) lawful_initial (lawful_closing input names truth)

  type_ends : (input : Bool) (names : Counted (List Label)) → then_reads (type_of limit) (λ truth. then_reads (initial_of limit) (closing input names truth)) (ends 0) ≡ Err (syntax 0)
  unfolding type_of
  type_ends input names = refl

  lawful_typed : (input : Bool) (names : Counted (List Label)) → Lawful anything anything (then_reads (type_of limit) (λ truth. then_reads (initial_of limit) (closing input names truth))) (λ i. then_reads (type_of (beyond limit i)) (λ truth. then_reads (initial_of (beyond limit i)) (closing input names truth)))
  lawful_typed input names =
      lawful_bind anything anything but_where anything (any_of but_where) (type_of limit) (λ i. type_of (beyond limit i)) (λ truth. then_reads (initial_of limit) (closing input names truth)) (λ i truth. then_reads (initial_of (beyond limit i)) (closing input names truth))
      (λ truth. moves refl (syntax 0) (closing_ends input names truth)) (wider (any_of but_where)) (calmer (same anything)) lawful_type (lawful_where input names)

  colon : Lawful {I = ℕ} {X = Passed} but_comma anything (expected marks.Colon) (λ i. expected marks.Colon)
  unfolding number calm calm_but
  colon = lawful_mark marks.Colon colon_mark but_comma refl

  declaration_ends : (input : Bool) (n : ℕ) → declaration_of limit input n (ends 0) ≡ Err (syntax 0)
  unfolding declaration_of names_of variable_of
  declaration_ends input n = refl

  pub lawful_declaration : (input : Bool) (n : ℕ) → Lawful calm anything (declaration_of limit input n) (λ i. declaration_of (beyond limit i) input n)
  unfolding declaration_of
  lawful_declaration input n =
      lawful_bind calm but_comma but_comma anything (same but_comma) (names_of limit n) (λ i. names_of (beyond limit i) n)
      (λ names. then_reads (expected marks.Colon) (λ m. then_reads (type_of limit) (λ truth. then_reads (initial_of limit) (closing input names truth)))) (λ i names. then_reads (expected marks.Colon) (λ m. then_reads (type_of (beyond limit i)) (λ truth. then_reads (initial_of (beyond limit i)) (closing input names truth))))
      (λ names. moves refl (syntax 0) refl) (wider (but_calm marks.Comma)) (takes refl (λ names. syntax 0) (λ names. refl)) (lawful_names n)
      (λ names. lawful_bind but_comma anything anything anything (same anything) (expected marks.Colon) (λ i. expected marks.Colon) (λ m. then_reads (type_of limit) (λ truth. then_reads (initial_of limit) (closing input names truth))) (λ i m. then_reads (type_of (beyond limit i)) (λ truth. then_reads (initial_of (beyond limit i)) (closing input names truth)))
      (λ m. wider (same anything)) (moves refl (syntax 0) refl) (calmer (same anything)) colon (λ m. lawful_typed input names))

  pub lawful_declarations : (n : ℕ) → Lawful no_mode no_mode (declarations_of limit n) (λ i. declarations_of (beyond limit i) n)
  unfolding declarations_of
  lawful_declarations n =
      lawful_chain no_mode no_mode anything (same no_mode) (any_of no_mode) mode no_mode_none refl (counting (declaration_of limit)) (λ i. counting (declaration_of (beyond limit i))) gives (λ i. gives) turn (λ ds. lawful_gives no_mode no_mode ds) ([], n)
    where
      turn : (input : Bool) (place : ℕ) (ds : Counted (List Declaration)) → Lawful {A = Turn (Counted (List Declaration)) (Counted (List Declaration))} anything anything (counting (declaration_of limit) input place ds) (λ i. counting (declaration_of (beyond limit i)) input place ds)
      turn input place ds =
          lawful_weak calm anything anything (any_of calm) (counting (declaration_of limit) input place ds) (λ i. counting (declaration_of (beyond limit i)) input place ds)
          (lawful_bind calm anything anything anything (same anything) (declaration_of limit input ds.1) (λ i. declaration_of (beyond limit i) input ds.1) (λ d. gives (goes (ds.0 ++ d.0 ∷ [], d.1))) (λ i d. gives (goes (ds.0 ++ d.0 ∷ [], d.1)))
          (λ d. wider (same anything)) (moves refl (syntax 0) (declaration_ends input ds.1)) (calmer (same anything)) (lawful_declaration input ds.1) (λ d. lawful_gives anything anything (goes (ds.0 ++ d.0 ∷ [], d.1))))

  -- PROCESSES
  abbrev room : ℕ
  room = suc limit.round

  lawful_lower : (b : Begun) (n : ℕ) → Lawful calm calm (lower_of limit room b n) (λ i. lower_of (beyond limit i) (suc (deeper limit.round i)) b n)
  lawful_lower b n = lawful_inside (value_of limit) (λ i. value_of (beyond limit i)) lawful_value value_ends (Value limit) (value_sound limit) (λ i. Value (beyond limit i)) (λ i. value_sound (beyond limit i)) limit.statements room b n

  lower_ends : (b : Begun) (n : ℕ) → lower_of limit room b n (ends 0) ≡ Err (syntax 0)
  lower_ends b n = inside_ends (value_of limit) limit.statements room b n

  abbrev lower : ℕ → Reader (Counted Statement)
  lower n = lower_of limit room (fresh false) n

  abbrev lowers : ℕ → ℕ → Reader (Counted Statement)
  lowers i n = lower_of (beyond limit i) (suc (deeper limit.round i)) (fresh false) n

  -- the first statement, which no declaration begins
  lawful_first : (n : ℕ) → Lawful no_mode calm (lower n) (λ i. lowers i n)
  lawful_first n = record {
    law = λ s. at_head no_mode calm calm quiet (lower n) (lower n) (λ i. lowers i n) (λ i. lowers i n) s (λ after h. refl) (λ i after h. refl) (syntax 0) (lower_ends (fresh false) n)
        (λ i. fresh_completes (value_of (beyond limit i)) (viable_of calm calm (value_of limit) (wider (same calm)) (λ i. value_of (beyond limit i)) lawful_value i) no_mode skip_in (deeper limit.round i) false n) ((lawful_lower (fresh false) n).law s);
    one = (lawful_lower (fresh false) n).one;
    each = (lawful_lower (fresh false) n).each;
  }

  abbrev body : ℕ → Reader (Counted Body)
  body n = body_of (value_of limit) (lower_of limit room) n

  abbrev bodys : ℕ → ℕ → Reader (Counted Body)
  bodys i n = body_of (value_of (beyond limit i)) (lower_of (beyond limit i) (suc (deeper limit.round i))) n

  lawful_process_body : (n : ℕ) → Lawful no_mode in_body (body n) (λ i. bodys i n)
  unfolding body_of
  lawful_process_body n =
      lawful_bind no_mode calm in_body in_body (but_calm marks.Semicolon) (lower n) (λ i. lowers i n) (λ x. rest_of_body (value_of limit) (lower_of limit room) (x.0 ∷ [], x.1)) (λ i x. rest_of_body (value_of (beyond limit i)) (lower_of (beyond limit i) (suc (deeper limit.round i))) (x.0 ∷ [], x.1))
      (λ x. wider (same in_body)) (moves quiet (syntax 0) (lower_ends (fresh false) n)) (calmer (but_calm marks.Semicolon)) (lawful_first n)
      (λ x. lawful_rest_of_body (value_of limit) (λ i. value_of (beyond limit i)) (lower_of limit room) (λ i. lower_of (beyond limit i) (suc (deeper limit.round i))) lawful_lower lower_ends (x.0 ∷ [], x.1))

  body_ends : (n : ℕ) → body n (ends 0) ≡ Err (syntax 0)
  unfolding body_of
  body_ends n = rw (lower_ends (fresh false) n) refl

  quiet_body : in_body signs.Nothing ≡ true
  unfolding calm calm_but
  quiet_body = refl

  abbrev bodied : Totals → Label → Counted (List Declaration) → Reader (Carried Totals Process)
  bodied t name ds = then_reads (body t.statements) (λ b. gives (process t name ds b))

  abbrev bodieds : ℕ → Totals → Label → Counted (List Declaration) → Reader (Carried Totals Process)
  bodieds i t name ds = then_reads (bodys i t.statements) (λ b. gives (process t name ds b))

  bodied_ends : (t : Totals) (name : Label) (ds : Counted (List Declaration)) → bodied t name ds (ends 0) ≡ Err (syntax 0)
  bodied_ends t name ds = rw (body_ends t.statements) refl

  lawful_bodied : (t : Totals) (name : Label) (ds : Counted (List Declaration)) → Lawful no_mode in_body (bodied t name ds) (λ i. bodieds i t name ds)
  lawful_bodied t name ds =
      lawful_bind no_mode in_body in_body in_body (same in_body) (body t.statements) (λ i. bodys i t.statements) (λ b. gives (process t name ds b)) (λ i b. gives (process t name ds b)) (λ b. wider (same in_body)) (moves quiet_body (syntax 0) (body_ends t.statements)) (calmer (same in_body)) (lawful_process_body t.statements)
      (λ b. lawful_gives in_body in_body (process t name ds b))

  abbrev headed : Totals → Label → Reader (Carried Totals Process)
  headed t name = then_reads (declarations_of limit t.variables) (bodied t name)

  abbrev headeds : ℕ → Totals → Label → Reader (Carried Totals Process)
  headeds i t name = then_reads (declarations_of (beyond limit i) t.variables) (bodieds i t name)

  no_declarations : (n : ℕ) → declarations_of limit n (ends 0) ≡ Ok (([], n), ends 0)
  unfolding declarations_of chain
  no_declarations n = refl

  headed_ends : (t : Totals) (name : Label) → headed t name (ends 0) ≡ Err (syntax 0)
  headed_ends t name = rw (no_declarations t.variables) (bodied_ends t name ([], t.variables))

  lawful_headed : (t : Totals) (name : Label) → Lawful no_mode in_body (headed t name) (λ i. headeds i t name)
  lawful_headed t name =
      lawful_bind no_mode no_mode no_mode in_body (same no_mode) (declarations_of limit t.variables) (λ i. declarations_of (beyond limit i) t.variables) (bodied t name) (λ i. bodieds i t name)
      (λ ds. moves quiet_body (syntax 0) (bodied_ends t name ds)) (wider (same no_mode)) (takes quiet_body (λ ds. syntax 0) (bodied_ends t name)) (lawful_declarations t.variables) (lawful_bodied t name)

  opened : (t : Totals) (name : Label) → Lawful anything in_body (then_reads (expected marks.OpenBlock) (λ m. headed t name)) (λ i. then_reads (expected marks.OpenBlock) (λ m. headeds i t name))
  opened t name =
      lawful_bind anything anything no_mode in_body (any_of no_mode) (expected marks.OpenBlock) (λ i. expected marks.OpenBlock) (λ m. headed t name) (λ i m. headeds i t name)
      (λ m. moves quiet_body (syntax 0) (headed_ends t name)) (wider (any_of no_mode)) (calmer (any_of in_body)) (lawful_mark marks.OpenBlock open_block_mark anything refl) (λ m. lawful_headed t name)

  lawful_process_name : (n : ℕ) → Lawful {I = ℕ} no_mode anything (process_name limit n) (λ i. process_name (beyond limit i) n)
  unfolding process_name
  lawful_process_name n = lawful_limited_name no_mode name_in limits.Processes (limit.processes n) (λ l. l)

  name_ends : (n : ℕ) → process_name limit n (ends 0) ≡ Err (syntax 0)
  unfolding process_name
  name_ends n = refl

  pub lawful_process : (t : Totals) → Lawful no_mode in_body (process_of limit t) (λ i. process_of (beyond limit i) t)
  unfolding process_of
  lawful_process t =
      lawful_bind no_mode anything anything in_body (same anything) (process_name limit t.processes) (λ i. process_name (beyond limit i) t.processes)
      (λ name. then_reads (expected marks.Colons) (λ m. then_reads (expected marks.OpenBlock) (λ m. headed t name))) (λ i name. then_reads (expected marks.Colons) (λ m. then_reads (expected marks.OpenBlock) (λ m. headeds i t name)))
      (λ name. wider (any_of in_body)) (moves refl (syntax 0) (name_ends t.processes)) (calmer (any_of in_body)) (lawful_process_name t.processes)
      (λ name. lawful_bind anything anything anything in_body (same anything) (expected marks.Colons) (λ i. expected marks.Colons) (λ m. then_reads (expected marks.OpenBlock) (λ m. headed t name)) (λ i m. then_reads (expected marks.OpenBlock) (λ m. headeds i t name))
      (λ m. wider (any_of in_body)) (wider (same anything)) (calmer (any_of in_body)) (lawful_mark marks.Colons colons_mark anything refl) (λ m. opened t name))

  process_ends : (t : Totals) → process_of limit t (ends 0) ≡ Err (syntax 0)
  unfolding process_of
  process_ends t = rw (name_ends t.processes) refl

  pub lawful_processes : (t : Totals) → Lawful no_mode apart (processes_of limit t) (λ i. processes_of (beyond limit i) t)
  unfolding processes_of
  lawful_processes t =
      lawful_bind no_mode in_body apart apart (but2_other marks.Bars marks.Semicolon) (process_of limit t) (λ i. process_of (beyond limit i) t) (λ x. linked marks.Bars (process_of limit) (x.0 ∷ [], x.1)) (λ i x. linked marks.Bars (process_of (beyond limit i)) (x.0 ∷ [], x.1))
      (λ x. wider (same apart)) (moves quiet_body (syntax 0) (process_ends t)) (calmer (but2_other marks.Bars marks.Semicolon)) (lawful_process t)
      (λ x. lawful_link apart in_body no_mode marks.Bars (but2_other marks.Bars marks.Semicolon) (but2_none marks.Bars marks.Semicolon) refl (process_of limit) (λ i. process_of (beyond limit i)) lawful_process (x.0 ∷ [], x.1))

  processes_ends : (t : Totals) → processes_of limit t (ends 0) ≡ Err (syntax 0)
  unfolding processes_of
  processes_ends t = rw (process_ends t) refl

  pub quiet_apart : apart signs.Nothing ≡ true
  unfolding calm calm_but calm_but2
  quiet_apart = refl

  -- a whole program, but for the end of its text
  pub lawful_program : Lawful no_mode apart (spelled_of limit) (λ i. spelled_of (beyond limit i))
  unfolding spelled_of
  lawful_program =
      lawful_bind no_mode no_mode no_mode apart (same no_mode) (declarations_of limit 0) (λ i. declarations_of (beyond limit i) 0)
      (λ ds. then_reads (processes_of limit (totals 0 ds.1 0)) (λ ps. gives (made_of ds ps))) (λ i ds. then_reads (processes_of (beyond limit i) (totals 0 ds.1 0)) (λ ps. gives (made_of ds ps)))
      (λ ds. moves quiet_apart (syntax 0) (whole_ends ds)) (wider (same no_mode)) (takes quiet_apart (λ ds. syntax 0) whole_ends) (lawful_declarations 0)
      (λ ds. lawful_bind no_mode apart apart apart (same apart) (processes_of limit (totals 0 ds.1 0)) (λ i. processes_of (beyond limit i) (totals 0 ds.1 0)) (λ ps. gives (made_of ds ps)) (λ i ps. gives (made_of ds ps))
      (λ ps. wider (same apart)) (moves quiet_apart (syntax 0) (processes_ends (totals 0 ds.1 0))) (calmer (same apart)) (lawful_processes (totals 0 ds.1 0)) (λ ps. lawful_gives apart apart (made_of ds ps)))
    where
      whole_ends : (ds : Counted (List Declaration)) → then_reads (processes_of limit (totals 0 ds.1 0)) (λ ps. gives (made_of ds ps)) (ends 0) ≡ Err (syntax 0)
      whole_ends ds = rw (processes_ends (totals 0 ds.1 0)) refl
