-- What is a program by the grammar is read, within its limits.
use Rattle.std.proofs.Common.{◌≡◌, ℕ, zero, suc, ◌+◌, ◌≤◌, Bool, true, false, List, [], ◌∷◌, ◌++◌, Option, Some, None, is_none, Ok, refl, sym, ap, ◌∙◌}
use Rattle.st_tokens.specs.Stream.{◌++>◌, Lexeme, Stream, ends, more}
use Rattle.st_reading.specs.declared.mark.Mark.{Mark}
use Rattle.st_reading.specs.declared.mark.Mark.TheVariants as marks
use Rattle.st_reading.specs.declared.sign.Sign.{Sign}
use Rattle.st_reading.specs.declared.sign.Sign.TheVariants as signs
use Rattle.st_reading.specs.Mark.{number}
use Rattle.st_reading.specs.Sign.{sign_of, is}
use Rattle.st_reading.specs.Reading.{Label, ahead, label_of, is_name, expected, gives, then_reads, at_end}
use Rattle.st_reading.specs.Spelling.{Is, IsName, OneName, one_name, Row, row}
use Rattle.st_reading.specs.Steady.{anything}
use Rattle.st_reading.proofs.Streams.{append_stream}
use Rattle.st_reading.proofs.Steadiness.{bind_ok}
use Rattle.st_reading.proofs.Numbers.{is_marked}
use Rattle.st_reading.proofs.Soundness.{sound_shrinks}
use Rattle.st_reading.proofs.ListSoundness.{Steps, no_steps, a_step}
use Rattle.st_reading.proofs.ListCompleteness.{Complete, Counts, all_after, AllFit, expected_is, steps_complete, row_counts}
use Rattle.spl_parser.specs.Signs.{start, begins, mode, kind}
use Rattle.expression_parser.specs.ExpressionTree.{Expr}
use Rattle.spl_parser.specs.ProgramTree.{Statement, Body, Declaration, Process, Program}
use Rattle.expression_parser.specs.Calm.{calm, calm_but}
use Rattle.spl_parser.specs.Statements.{body_of}
use Rattle.spl_parser.specs.Programs.{Limits, value_of, lower_of, variable_of, names_of, type_of, initial_of, declaration_of, declarations_of, Totals, totals, process_name, process, process_of, processes_of, spelled_of, program_of}
use Rattle.expression_parser.specs.Grammar.{SpellsWithin}
use Rattle.spl_parser.specs.Grammar.{Low, IsBody, unnamed, ended, IsInitial, free, given, declaration, Declarations, no_declarations, declaration_more, IsProcess, process as a_process, IsProgram, program}
use Rattle.expression_parser.proofs.Quiet.{but_none}
use Rattle.expression_parser.proofs.ExpressionCompleteness.{formula_complete}
use Rattle.spl_parser.proofs.Tally.{body_after, BodyFits}
use Rattle.spl_parser.proofs.StatementCompleteness.{known, unlike, body_complete}
use Rattle.spl_parser.proofs.LevelCompleteness.{statement_goes, inside_complete}
use Rattle.spl_parser.proofs.ProgramSoundness.{Value, value_sound, variable_sound, Lowered, inside_sound}
use Rattle.spl_parser.proofs.ProgramLaw.{lawful_declaration, lawful_process}

-- WHAT DECLARATIONS AND PROCESSES CARRY ON, AND WHETHER THEY FIT
abbrev pub name_after : Label → ℕ → ℕ
name_after l n = n + 1

abbrev pub declaration_after : Declaration → ℕ → ℕ
declaration_after d n = all_after name_after d.names n

abbrev pub process_after : Process → Totals → Totals
process_after p t = totals (t.processes + 1) (all_after declaration_after p.declarations t.variables) (body_after p.body t.statements)

module _ (limit : Limits) where
  abbrev pub NameFits : Label → ℕ → Type 0
  NameFits l n = limit.variables n ≡ true

  abbrev pub DeclarationFits : Declaration → ℕ → Type 0
  DeclarationFits d n = AllFit name_after NameFits d.names n

  abbrev pub DeclarationsFit : List Declaration → ℕ → Type 0
  DeclarationsFit ds n = AllFit declaration_after DeclarationFits ds n

  abbrev pub ProcessFits : Process → Totals → Type 0
  ProcessFits p t = (limit.processes t.processes ≡ true) × DeclarationsFit p.declarations t.variables × BodyFits limit.statements p.body t.statements

  abbrev pub ProgramFits : Program → Type 0
  ProgramFits x = DeclarationsFit x.declarations 0 × AllFit process_after ProcessFits x.processes (totals 0 (all_after declaration_after x.declarations 0) 0)

-- no declaration begins there
abbrev undeclared : Sign → Bool
undeclared g = is_none (mode g)

unmoded : (g : Sign) → undeclared g ≡ true → mode g ≡ None
unmoded g h = nothing (mode g) h
  where
    nothing : (o : Option Bool) → is_none o ≡ true → o ≡ None
    nothing None e = refl
    nothing (Some b) e = cc

-- none does where a name stands, or where a statement begins
name_undeclared : (g : Sign) → is_name g ≡ true → undeclared g ≡ true
name_undeclared signs.Name e = refl
name_undeclared _ e = cc

start_undeclared : (g : Sign) → begins false (start g) ≡ true → undeclared g ≡ true
unfolding number
start_undeclared g h = at_in (is g marks.In) refl (is g marks.Local) refl (is g marks.Out) refl
  where
    never : (m : Mark) → begins false (start (signs.Marked m)) ≡ false → is g m ≡ true → undeclared g ≡ true
    never m none e = let k : true ≡ false = sym h ∙ ap (λ g. begins false (start g)) (is_marked g m e) ∙ none in cc

    at_in : (a : Bool) → a ≡ is g marks.In → (b : Bool) → b ≡ is g marks.Local → (c : Bool) → c ≡ is g marks.Out → undeclared g ≡ true
    at_in true e b f c k = never marks.In refl (sym e)
    at_in false e true f c k = never marks.Local refl (sym f)
    at_in false e false f true k = never marks.Out refl (sym k)
    at_in false e false f false k = rw (← e, ← f, ← k) refl

-- a declaration behind its mode, of which that is the first token
data BehindMode (V : List Lexeme → Expr → Type 0) (low : Bool → List Lexeme → Statement → Type 0) (input : Bool) (t : Lexeme) : List Lexeme → Declaration → Type 0 where
  behind_mode : (u v w : Lexeme) (a b : List Lexeme) (truth : Bool) (names : List Label) (initial : Option Expr)
      → Row marks.Comma OneName a names → Is marks.Colon u → kind (sign_of v) ≡ Some truth → IsInitial V low b initial → Is marks.Semicolon w
      → BehindMode V low input t (a ++ (u ∷ v ∷ b ++ w ∷ [])) (record { input = input; names = names; truth = truth; initial = initial })

to_steps : (V : List Lexeme → Expr → Type 0) (low : Bool → List Lexeme → Statement → Type 0) (ts : List Lexeme) (ds : List Declaration) → Declarations V low ts ds → Steps mode (BehindMode V low) ts ds
to_steps V low ts ds no_declarations = no_steps
to_steps V low ts ds (declaration_more a b d es (declaration t u v w p q input truth names initial e rows f g first h) rest) =
    a_step t input (p ++ (u ∷ v ∷ q ++ w ∷ [])) b (record { input = input; names = names; truth = truth; initial = initial }) es e (behind_mode u v w p q truth names initial rows f g first h) (to_steps V low b es rest)

-- a body begins with a statement
body_goes : (V : List Lexeme → Expr → Type 0) (low : Bool → List Lexeme → Statement → Type 0) → ((ts : List Lexeme) (x : Statement) → low false ts x → (after : Stream) → begins false (start (ahead (ts ++> after))) ≡ true)
    → (ts : List Lexeme) (y : Body) → IsBody V low ts y → (after : Stream) → begins false (start (ahead (ts ++> after))) ≡ true
body_goes V low goes ts y l after = at_body ts y l
  where
    row_goes : (a : List Lexeme) (xs : List Statement) → Row marks.Semicolon (low false) a xs → (s : Stream) → begins false (start (ahead (a ++> s))) ≡ true
    row_goes a xs (row p q x ys l items) s = ap (λ s. begins false (start (ahead s))) (append_stream p q s) ∙ goes p x l (q ++> s)

    at_body : (ts : List Lexeme) (y : Body) → IsBody V low ts y → begins false (start (ahead (ts ++> after))) ≡ true
    at_body ts y (unnamed a u xs rows e) = ap (λ s. begins false (start (ahead s))) (append_stream a (u ∷ []) after) ∙ row_goes a xs rows (more u after)
    at_body ts y (ended a s l c u xs rows e f g h) = ap (λ s. begins false (start (ahead s))) (append_stream a (s ∷ l ∷ c ∷ u ∷ []) after) ∙ row_goes a xs rows ((s ∷ l ∷ c ∷ u ∷ []) ++> after)

module _ (limit : Limits) (opened round : ℕ) (le : opened ≤ limit.opened) (le2 : round ≤ suc limit.round) where
  abbrev V : List Lexeme → Expr → Type 0
  V = SpellsWithin false opened

  abbrev low : Bool → List Lexeme → Statement → Type 0
  low = Low V round

  value_complete : Complete calm (value_of limit) V
  unfolding value_of
  value_complete = formula_complete false opened limit.opened le

  -- DECLARATIONS
  variable_complete : Counts anything (variable_of limit) OneName name_after (NameFits limit)
  unfolding variable_of
  variable_complete n ts x (one_name t e) fits after h = rw (e, fits) refl

  names_complete : (n : ℕ) (ts : List Lexeme) (xs : List Label) → Row marks.Comma OneName ts xs → AllFit name_after (NameFits limit) xs n → (after : Stream) → calm_but marks.Comma (ahead after) ≡ true → names_of limit n (ts ++> after) ≡ Ok ((xs, all_after name_after xs n), after)
  unfolding names_of
  names_complete n ts xs rows fits after h =
      row_counts marks.Comma (variable_of limit) (λ n. sound_shrinks (variable_of limit n) (λ ts x. OneName ts x.0) (variable_sound limit n)) OneName name_after (NameFits limit) anything (calm_but marks.Comma) (λ g e. refl) (λ g e. refl) (but_none marks.Comma) variable_complete n ts xs rows fits after h

  type_complete : (v : Lexeme) (truth : Bool) → kind (sign_of v) ≡ Some truth → (after : Stream) → type_of limit (more v after) ≡ Ok (truth, after)
  unfolding type_of
  type_complete v truth e after = rw e refl

  initial_complete : (ts : List Lexeme) (y : Option Expr) → IsInitial V low ts y → (w : Lexeme) → Is marks.Semicolon w → (after : Stream) → initial_of limit (ts ++> more w after) ≡ Ok (y, more w after)
  unfolding initial_of number calm
  initial_complete ts y free w f after = let none : is (sign_of w) marks.Where ≡ false = unlike marks.Semicolon marks.Where refl w f in rw none refl
  initial_complete ts y (given t b e h l) w f after = rw h (bind_ok (value_of limit) (λ e. gives (Some e)) (b ++> more w after) e (more w after) (value_complete b e l (more w after) (known calm marks.Semicolon refl (sign_of w) f)))

  declaration_complete : (input : Bool) (t : Lexeme) → Counts anything (declaration_of limit input) (BehindMode V low input t) declaration_after (DeclarationFits limit)
  unfolding declaration_of number calm calm_but
  declaration_complete input t n ts d (behind_mode u v w a b truth names initial rows f g first e) fits after h =
      let m = all_after name_after names n in
      let tail = b ++> more w after in
      let texts : (a ++ (u ∷ v ∷ b ++ w ∷ [])) ++> after ≡ a ++> more u (more v tail) = simp append_stream in
      ap (declaration_of limit input n) texts
      ∙ bind_ok (names_of limit n) (λ names. then_reads (expected marks.Colon) (λ m. then_reads (type_of limit) (λ truth. then_reads (initial_of limit) (λ initial. then_reads (expected marks.Semicolon) (λ z. gives (record { input = input; names = names.0; truth = truth; initial = initial }, names.1))))))
      (a ++> more u (more v tail)) (names, m) (more u (more v tail)) (names_complete n a names rows fits (more u (more v tail)) (known (calm_but marks.Comma) marks.Colon refl (sign_of u) f))
      ∙ bind_ok (expected marks.Colon) (λ k. then_reads (type_of limit) (λ truth. then_reads (initial_of limit) (λ initial. then_reads (expected marks.Semicolon) (λ z. gives (record { input = input; names = names; truth = truth; initial = initial }, m)))))
      (more u (more v tail)) u.start (more v tail) (expected_is marks.Colon u (more v tail) f)
      ∙ bind_ok (type_of limit) (λ truth. then_reads (initial_of limit) (λ initial. then_reads (expected marks.Semicolon) (λ z. gives (record { input = input; names = names; truth = truth; initial = initial }, m))))
      (more v tail) truth tail (type_complete v truth g tail)
      ∙ bind_ok (initial_of limit) (λ initial. then_reads (expected marks.Semicolon) (λ z. gives (record { input = input; names = names; truth = truth; initial = initial }, m)))
      tail initial (more w after) (initial_complete b initial first w e after)
      ∙ bind_ok (expected marks.Semicolon) (λ z. gives (record { input = input; names = names; truth = truth; initial = initial }, m)) (more w after) w.start after (expected_is marks.Semicolon w after e)

  declarations_complete : (n : ℕ) (ts : List Lexeme) (ds : List Declaration) → Declarations V low ts ds → DeclarationsFit limit ds n → (after : Stream) → undeclared (ahead after) ≡ true → declarations_of limit n (ts ++> after) ≡ Ok ((ds, all_after declaration_after ds n), after)
  unfolding declarations_of
  declarations_complete n ts ds l fits after h =
      steps_complete mode refl (declaration_of limit) (λ input n. (lawful_declaration limit input n).one) (BehindMode V low) declaration_after (DeclarationFits limit) anything undeclared (λ g o e. refl) (λ g e. refl) unmoded declaration_complete ts ds (to_steps V low ts ds l) [] n fits after h

  -- PROCESSES
  process_name_complete : (n : ℕ) (t : Lexeme) → IsName t → limit.processes n ≡ true → (after : Stream) → process_name limit n (more t after) ≡ Ok (label_of t, after)
  unfolding process_name
  process_name_complete n t e f after = rw (e, f) refl

  process_body_complete : (n : ℕ) (ts : List Lexeme) (y : Body) → IsBody V low ts y → BodyFits limit.statements y n → (after : Stream) → body_of (value_of limit) (lower_of limit (suc limit.round)) n (ts ++> after) ≡ Ok ((y, body_after y n), after)
  process_body_complete n ts y l fits after =
      body_complete (value_of limit) V (Value limit) value_complete (value_sound limit) (lower_of limit (suc limit.round)) (Lowered (Value limit) (suc limit.round)) (inside_sound (value_of limit) (Value limit) (value_sound limit) limit.statements (suc limit.round)) low limit.statements
      (inside_complete (value_of limit) V (Value limit) value_complete (value_sound limit) limit.statements round (suc limit.round) le2) n ts y l fits after

  lows_go : (k : ℕ) (ts : List Lexeme) (x : Statement) → Low V k false ts x → (after : Stream) → begins false (start (ahead (ts ++> after))) ≡ true
  lows_go zero ts x l after = absurd l
  lows_go (suc k) ts x l after = statement_goes V (Low V k) false ts x l after

  process_complete : Counts anything (process_of limit) (IsProcess V low) process_after (ProcessFits limit)
  unfolding process_of
  process_complete t ts p (a_process n u v a b ds x e f g l m) fits after h =
      let heads = declarations_complete t.variables a ds l fits.1 (b ++> after) (start_undeclared (ahead (b ++> after)) (body_goes V low (lows_go round) b x m after)) in
      let rest = process_body_complete t.statements b x m fits.2 after in
      bind_ok (process_name limit t.processes) (λ name. then_reads (expected marks.Colons) (λ m. then_reads (expected marks.OpenBlock) (λ m. then_reads (declarations_of limit t.variables) (λ ds. then_reads (body_of (value_of limit) (lower_of limit (suc limit.round)) t.statements) (λ b. gives (process t name ds b))))))
      (more n (more u (more v ((a ++ b) ++> after)))) (label_of n) (more u (more v ((a ++ b) ++> after))) (process_name_complete t.processes n e fits.0 (more u (more v ((a ++ b) ++> after))))
      ∙ bind_ok (expected marks.Colons) (λ m. then_reads (expected marks.OpenBlock) (λ m. then_reads (declarations_of limit t.variables) (λ ds. then_reads (body_of (value_of limit) (lower_of limit (suc limit.round)) t.statements) (λ b. gives (process t (label_of n) ds b)))))
      (more u (more v ((a ++ b) ++> after))) u.start (more v ((a ++ b) ++> after)) (expected_is marks.Colons u (more v ((a ++ b) ++> after)) f)
      ∙ bind_ok (expected marks.OpenBlock) (λ m. then_reads (declarations_of limit t.variables) (λ ds. then_reads (body_of (value_of limit) (lower_of limit (suc limit.round)) t.statements) (λ b. gives (process t (label_of n) ds b))))
      (more v ((a ++ b) ++> after)) v.start ((a ++ b) ++> after) (expected_is marks.OpenBlock v ((a ++ b) ++> after) g)
      ∙ ap (then_reads (declarations_of limit t.variables) (λ ds. then_reads (body_of (value_of limit) (lower_of limit (suc limit.round)) t.statements) (λ b. gives (process t (label_of n) ds b)))) (append_stream a b after)
      ∙ bind_ok (declarations_of limit t.variables) (λ ds. then_reads (body_of (value_of limit) (lower_of limit (suc limit.round)) t.statements) (λ b. gives (process t (label_of n) ds b)))
      (a ++> (b ++> after)) (ds, all_after declaration_after ds t.variables) (b ++> after) heads
      ∙ bind_ok (body_of (value_of limit) (lower_of limit (suc limit.round)) t.statements) (λ b. gives (process t (label_of n) (ds, all_after declaration_after ds t.variables) b)) (b ++> after) (x, body_after x t.statements) after rest

  processes_complete : (t : Totals) (ts : List Lexeme) (ps : List Process) → Row marks.Bars (IsProcess V low) ts ps → AllFit process_after (ProcessFits limit) ps t → (after : Stream) → calm_but marks.Bars (ahead after) ≡ true
      → processes_of limit t (ts ++> after) ≡ Ok ((ps, all_after process_after ps t), after)
  unfolding processes_of
  processes_complete t ts ps rows fits after h =
      row_counts marks.Bars (process_of limit) (λ t. (lawful_process limit t).one) (IsProcess V low) process_after (ProcessFits limit) anything (calm_but marks.Bars) (λ g e. refl) (λ g e. refl) (but_none marks.Bars) process_complete t ts ps rows fits after h

  -- WHOLE PROGRAMS
  row_named : (ts : List Lexeme) (ps : List Process) → Row marks.Bars (IsProcess V low) ts ps → (after : Stream) → is_name (ahead (ts ++> after)) ≡ true
  row_named ts ps (row a b p qs (a_process n u v c d ds x e f g l m) items) after = e

  pub spelled_complete : (ts : List Lexeme) (x : Program) → IsProgram V low ts x → ProgramFits limit x → (after : Stream) → calm_but marks.Bars (ahead after) ≡ true → spelled_of limit (ts ++> after) ≡ Ok (x, after)
  unfolding spelled_of
  spelled_complete ts x (program a b ds ps l rows) fits after h =
      let m = all_after declaration_after ds 0 in
      ap (then_reads (declarations_of limit 0) (λ ds. then_reads (processes_of limit (totals 0 ds.1 0)) (λ ps. gives (record { declarations = ds.0; processes = ps.0 })))) (append_stream a b after)
      ∙ bind_ok (declarations_of limit 0) (λ ds. then_reads (processes_of limit (totals 0 ds.1 0)) (λ ps. gives (record { declarations = ds.0; processes = ps.0 }))) (a ++> (b ++> after)) (ds, m) (b ++> after)
      (declarations_complete 0 a ds l fits.0 (b ++> after) (name_undeclared (ahead (b ++> after)) (row_named b ps rows after)))
      ∙ bind_ok (processes_of limit (totals 0 m 0)) (λ ps. gives (record { declarations = ds; processes = ps.0 })) (b ++> after) (ps, all_after process_after ps (totals 0 m 0)) after (processes_complete (totals 0 m 0) b ps rows fits.1 after h)

  pub program_complete : (ts : List Lexeme) (x : Program) → IsProgram V low ts x → ProgramFits limit x → (q : ℕ) → program_of limit (ts ++> ends q) ≡ Ok (x, ends q)
  unfolding program_of at_end calm calm_but
  program_complete ts x l fits q = bind_ok (spelled_of limit) (λ x. then_reads at_end (λ e. gives x)) (ts ++> ends q) x (ends q) (spelled_complete ts x l fits (ends q) refl)
