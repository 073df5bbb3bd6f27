-- What is read with any number of levels, as a statement or as a whole program, is in the grammar.
use Rattle.std.proofs.Common.{◌≡◌, ℕ, zero, suc, ◌+◌, Bool, true, false, cond, List, [], ◌∷◌, Option, Some, None, Ok, Err, refl, sym, ap, subst, append-nil}
use Rattle.st_tokens.specs.declared.limit.LimitKind.TheVariants as limits
use Rattle.st_tokens.specs.Stream.{Lexeme, Stream, ends, breaks, more, behind}
use Rattle.st_reading.specs.declared.mark.Mark.TheVariants as marks
use Rattle.st_reading.specs.Sign.{sign_of, is}
use Rattle.st_reading.specs.Faults.{Passed, passed}
use Rattle.st_reading.specs.Reading.{other, Label, ahead, place_of, name_of, label_of, is_name, refusal, expected, gives, then_reads, on_operator, size, Carried, Counted}
use Rattle.st_reading.specs.Spelling.{Cut, Sound, Both, behind_it, Is, OneName, one_name, Row}
use Rattle.st_reading.proofs.Soundness.{taken, sound_bind}
use Rattle.st_reading.proofs.ListSoundness.{OneMark, one_mark, Given, given, sound_as, sound_gives, sound_expected, Steps, no_steps, a_step, counting_sound, row_sound}
use Rattle.spl_parser.specs.Signs.{mode, kind}
use Rattle.expression_parser.specs.ExpressionTree.{Expr}
use Rattle.spl_parser.specs.ProgramTree.{Statement, Body, Declaration, Process, Program}
use Rattle.spl_parser.specs.Begun.{Begun, fresh}
use Rattle.expression_parser.specs.Reading.{Reader, below}
use Rattle.spl_parser.specs.Statements.{Lower, goes_on, statement_of, limited, body_of, inside}
use Rattle.spl_parser.specs.Programs.{Limits, value_of, lower_of, variable_of, names_of, type_of, initial_of, declaration_of, declarations_of, Totals, totals, process_name, process, process_of, processes_of, spelled_of}
use Rattle.expression_parser.specs.Grammar.{Inside, SpellsWithin}
use Rattle.spl_parser.specs.Grammar.{Low, IsBody, IsInitial, free, given as an_initial, IsDeclaration, declaration, Declarations, no_declarations, declaration_more, IsProcess, process as a_process, IsProgram, program}
use Rattle.expression_parser.proofs.ExpressionSoundness.{expression_sound, below_sound}
use Rattle.spl_parser.proofs.StatementSoundness.{Inner, Rest, assigned_from, labelled_from, statement_sound, body_sound}

-- STATEMENTS WITH ANY NUMBER OF LEVELS
-- what is read where that many more may stand round it
abbrev pub Lowered : (List Lexeme → Expr → Type 0) → ℕ → Begun → List Lexeme → Statement → Type 0
Lowered V zero b ts x = ⊥
Lowered V (suc n) b ts x = Rest V (Low V n) b ts x

module _ (value : Reader Expr) (V : List Lexeme → Expr → Type 0) (sv : Sound value V) (may : ℕ → Bool) where
  refused : (room : ℕ) (b : Begun) (n : ℕ) (s : Stream) (y : Counted Statement) (rest : Stream) (c d : Bool)
      → cond c (cond d (limited value limits.Nesting b s) (limited value limits.Statements b s)) (Err (refusal s)) ≡ Ok (y, rest) → ⊥
  refused room b n s y rest true true h = cc
  refused room b n s y rest true false h = cc
  refused room b n s y rest false d h = cc

  -- a statement where one more may begin
  admits : (lower : Lower) (low : Bool → List Lexeme → Statement → Type 0) → ((b : Begun) (n : ℕ) (s : Stream) → goes_on b (ahead s) ≡ true → (y : Counted Statement) (rest : Stream) → statement_of value lower b n s ≡ Ok (y, rest) → Cut (λ ts y. Rest V low b ts y.0) s y rest)
      → (b : Begun) (n : ℕ) (s : Stream) (y : Counted Statement) (rest : Stream) (c : Bool) → c ≡ goes_on b (ahead s) → (d : Bool) → cond c (cond d (statement_of value lower b (n + 1) s) (limited value limits.Statements b s)) (Err (refusal s)) ≡ Ok (y, rest) → Cut (λ ts y. Rest V low b ts y.0) s y rest
  admits lower low sound b n s y rest true e true h = sound b (n + 1) s (sym e) y rest h
  admits lower low sound b n s y rest true e false h = cc
  admits lower low sound b n s y rest false e d h = cc

  -- the levels, one by one: `low` is what stands inside
  next_level : (lower : Lower) (LL : Begun → List Lexeme → Statement → Type 0) → Inner V lower LL → (b : Begun) (n : ℕ) → Sound (λ s. cond (goes_on b (ahead s)) (cond (may n) (statement_of value lower b (n + 1) s) (limited value limits.Statements b s)) (Err (refusal s))) (λ ts y. Rest V (λ inner. LL (fresh inner)) b ts y.0)
  next_level lower LL sl b n s y rest h = admits lower (λ inner. LL (fresh inner)) (statement_sound value V sv lower LL sl) b n s y rest (goes_on b (ahead s)) refl (may n) h

  pub inside_sound : (room : ℕ) → Inner V (inside value may room) (Lowered V room)
  unfolding inside
  inside_sound zero = record {
    sound = λ b n s y rest h. absurd (refused zero b n s y rest (goes_on b (ahead s)) (may n) h);
    named = λ t ts x e l. l;
    labels = λ t u ts x e f l. l;
  }
  inside_sound (suc zero) = record {
    sound = λ b n s y rest h. next_level (inside value may zero) (Lowered V zero) (inside_sound zero) b n s y rest h;
    named = λ t ts x e l. assigned_from V (Low V zero) t e ts x l;
    labels = λ t u ts x e f l. labelled_from V (Low V zero) t u e f ts x l;
  }
  inside_sound (suc (suc room)) = record {
    sound = λ b n s y rest h. next_level (inside value may (suc room)) (Lowered V (suc room)) (inside_sound (suc room)) b n s y rest h;
    named = λ t ts x e l. assigned_from V (Low V (suc room)) t e ts x l;
    labels = λ t u ts x e f l. labelled_from V (Low V (suc room)) t u e f ts x l;
  }

  -- a body, whatever the number of levels
  pub body_in : (room n : ℕ) → Sound (body_of value (inside value may room) n) (λ ts y. IsBody V (Low V room) ts y.0)
  body_in zero n = body_sound value V sv (inside value may zero) (Lowered V zero) (inside_sound zero) n
  body_in (suc room) n = body_sound value V sv (inside value may (suc room)) (Lowered V (suc room)) (inside_sound (suc room)) n

-- WHOLE PROGRAMS
module _ (limit : Limits) where
  abbrev pub Value : List Lexeme → Expr → Type 0
  Value = SpellsWithin false limit.opened

  abbrev pub Lows : Bool → List Lexeme → Statement → Type 0
  Lows = Low Value (suc limit.round)

  pub value_sound : Sound (value_of limit) Value
  unfolding value_of
  value_sound s x rest h = expression_sound false (below false limit.opened) (Inside false limit.opened) (below_sound false limit.opened) s x rest h

  -- DECLARATIONS
  variable_at : (n : ℕ) (s : Stream) (x : Counted Label) (rest : Stream) (b : Bool) → b ≡ is_name (ahead s) → (c : Bool) → cond b (cond c (gives {X = Passed} (name_of s, n + 1) (behind s)) (Err (other (passed limits.Variables (place_of s))))) (Err (refusal s)) ≡ Ok (x, rest) → Cut (λ ts x. OneName ts x.0) s x rest
  variable_at n s x rest false e c h = cc
  variable_at n s x rest true e false h = cc
  variable_at n (ends p) x rest true e true h = cc
  variable_at n (breaks f) x rest true e true h = cc
  variable_at n (more t s) x rest true e true h = taken {X = Passed} (λ ts (x : Counted Label). OneName ts x.0) (t ∷ []) (gives (label_of t, n + 1) s) (label_of t, n + 1) x s rest refl h (one_name t (sym e))

  pub variable_sound : (n : ℕ) → Sound (variable_of limit n) (λ ts x. OneName ts x.0)
  unfolding variable_of
  variable_sound n s x rest h = variable_at n s x rest (is_name (ahead s)) refl (limit.variables n) h

  names_sound : (n : ℕ) → Sound (names_of limit n) (λ ts xs. Row marks.Comma OneName ts xs.0)
  unfolding names_of
  names_sound n s xs rest h = row_sound marks.Comma (variable_of limit) OneName variable_sound n s xs rest h

  data OneType : List Lexeme → Bool → Type 0 where
    one_type : (t : Lexeme) (truth : Bool) → kind (sign_of t) ≡ Some truth → OneType (t ∷ []) truth

  type_at : (s : Stream) (x : Bool) (rest : Stream) (c : Option Bool) → c ≡ kind (ahead s) → on_operator c (Err (refusal s)) (λ truth. gives {X = Passed} truth (behind s)) ≡ Ok (x, rest) → Cut OneType s x rest
  type_at s x rest None e h = cc
  type_at (ends p) x rest (Some truth) e h = cc
  type_at (breaks f) x rest (Some truth) e h = cc
  type_at (more t s) x rest (Some truth) e h = taken {X = Passed} OneType (t ∷ []) (gives truth s) truth x s rest refl h (one_type t truth (sym e))

  type_sound : Sound (type_of limit) OneType
  unfolding type_of
  type_sound s x rest h = type_at s x rest (kind (ahead s)) refl h

  from_where : (t : Lexeme) → Is marks.Where t → (ts : List Lexeme) (y : Option Expr) → Both Value (λ e. Given (Some e)) ts y → IsInitial Value Lows (t ∷ ts) y
  from_where t e ts y (behind_it a b x z l given) = rw append-nil (an_initial t a x e l)

  initial_at : (s : Stream) (y : Option Expr) (rest : Stream) (b : Bool) → b ≡ is (ahead s) marks.Where → cond b (then_reads (value_of limit) (λ e. gives (Some e)) (behind s)) (gives {X = Passed} None s) ≡ Ok (y, rest) → Cut (IsInitial Value Lows) s y rest
  initial_at s y rest false e h = taken {X = Passed} (IsInitial Value Lows) [] (gives None s) None y s rest refl h free
  initial_at (ends p) y rest true e h = cc
  initial_at (breaks f) y rest true e h = cc
  initial_at (more t s) y rest true e h =
      let c = sound_bind (value_of limit) (λ e. gives (Some e)) Value (λ e. Given (Some e)) value_sound (λ e. sound_gives (Some e)) s y rest h in
      record { text = t ∷ c.text; is = ap (more t) c.is; spells = from_where t (sym e) c.text y c.spells }

  initial_sound : Sound (initial_of limit) (IsInitial Value Lows)
  unfolding initial_of
  initial_sound s y rest h = initial_at s y rest (is (ahead s) marks.Where) refl h

  abbrev made : Bool → Counted (List Label) → Bool → Option Expr → Counted Declaration
  made input names truth initial = (record { input = input; names = names.0; truth = truth; initial = initial }, names.1)

  abbrev Declared : Bool → List Lexeme → Counted Declaration → Type 0
  Declared input = Both (λ ts (names : Counted (List Label)). Row marks.Comma OneName ts names.0) (λ names. Both (OneMark marks.Colon) (λ m. Both OneType (λ truth. Both (IsInitial Value Lows) (λ initial. Both (OneMark marks.Semicolon) (λ z. Given (made input names truth initial))))))

  declared_sound : (input : Bool) (n : ℕ) → Sound (declaration_of limit input n) (Declared input)
  unfolding declaration_of
  declared_sound input n =
      sound_bind (names_of limit n) (λ names. then_reads (expected marks.Colon) (λ m. then_reads (type_of limit) (λ truth. then_reads (initial_of limit) (λ initial. then_reads (expected marks.Semicolon) (λ z. gives (made input names truth initial)))))) (λ ts names. Row marks.Comma OneName ts names.0) (λ names. Both (OneMark marks.Colon) (λ m. Both OneType (λ truth. Both (IsInitial Value Lows) (λ initial. Both (OneMark marks.Semicolon) (λ z. Given (made input names truth initial)))))) (names_sound n)
      (λ names. sound_bind (expected marks.Colon) (λ m. then_reads (type_of limit) (λ truth. then_reads (initial_of limit) (λ initial. then_reads (expected marks.Semicolon) (λ z. gives (made input names truth initial))))) (OneMark marks.Colon) (λ m. Both OneType (λ truth. Both (IsInitial Value Lows) (λ initial. Both (OneMark marks.Semicolon) (λ z. Given (made input names truth initial))))) (sound_expected marks.Colon)
      (λ m. sound_bind (type_of limit) (λ truth. then_reads (initial_of limit) (λ initial. then_reads (expected marks.Semicolon) (λ z. gives (made input names truth initial)))) OneType (λ truth. Both (IsInitial Value Lows) (λ initial. Both (OneMark marks.Semicolon) (λ z. Given (made input names truth initial)))) type_sound
      (λ truth. sound_bind (initial_of limit) (λ initial. then_reads (expected marks.Semicolon) (λ z. gives (made input names truth initial))) (IsInitial Value Lows) (λ initial. Both (OneMark marks.Semicolon) (λ z. Given (made input names truth initial))) initial_sound
      (λ initial. sound_bind (expected marks.Semicolon) (λ z. gives (made input names truth initial)) (OneMark marks.Semicolon) (λ z. Given (made input names truth initial)) (sound_expected marks.Semicolon) (λ z. sound_gives (made input names truth initial))))))

  from_declared : (t : Lexeme) (input : Bool) → mode (sign_of t) ≡ Some input → (ts : List Lexeme) (y : Counted Declaration) → Declared input ts y → IsDeclaration Value Lows (t ∷ ts) y.0
  from_declared t input e ts y (behind_it a1 b1 names z1 rows (behind_it a2 b2 m2 z2 (one_mark u h2) (behind_it a3 b3 truth3 z3 (one_type v truth h3) (behind_it a4 b4 initial z4 first (behind_it a5 b5 m5 z5 (one_mark w h5) given))))) =
      declaration t u v w a1 a4 input truth names.0 initial e rows h2 h3 first h5

  -- a declaration with its mode, of which that is the first token
  Behind_mode : Bool → Lexeme → List Lexeme → Declaration → Type 0
  Behind_mode input t ts d = mode (sign_of t) ≡ Some input → IsDeclaration Value Lows (t ∷ ts) d

  behind_mode : (input : Bool) (n : ℕ) (t : Lexeme) → Sound (declaration_of limit input n) (λ ts d. Behind_mode input t ts d.0)
  unfolding Behind_mode
  behind_mode input n t = sound_as (declaration_of limit input n) (Declared input) (λ ts d. Behind_mode input t ts d.0) (λ ts y l e. from_declared t input e ts y l) (declared_sound input n)

  from_steps : (ts : List Lexeme) (ds : List Declaration) → Steps mode Behind_mode ts ds → Declarations Value Lows ts ds
  unfolding Behind_mode
  from_steps ts ds no_steps = no_declarations
  from_steps ts ds (a_step t input a b d es e l rest) = declaration_more (t ∷ a) b d es (l e) (from_steps b es rest)

  pub declarations_sound : (n : ℕ) → Sound (declarations_of limit n) (λ ts ds. Declarations Value Lows ts ds.0)
  unfolding declarations_of
  declarations_sound n s ds rest h =
      let c = counting_sound mode refl (declaration_of limit) Behind_mode (λ input n t. behind_mode input n t) (size s) ([], n) s ds rest h in
      record { text = c.text; is = c.is; spells = subst (Declarations Value Lows c.text) (sym c.spells.joined) (from_steps c.text c.spells.more_items c.spells.spells) }

  -- PROCESSES
  process_name_at : (n : ℕ) (s : Stream) (x : Label) (rest : Stream) (b : Bool) → b ≡ is_name (ahead s) → (c : Bool) → cond b (cond c (gives {X = Passed} (name_of s) (behind s)) (Err (other (passed limits.Processes (place_of s))))) (Err (refusal s)) ≡ Ok (x, rest) → Cut OneName s x rest
  process_name_at n s x rest false e c h = cc
  process_name_at n s x rest true e false h = cc
  process_name_at n (ends p) x rest true e true h = cc
  process_name_at n (breaks f) x rest true e true h = cc
  process_name_at n (more t s) x rest true e true h = taken {X = Passed} OneName (t ∷ []) (gives (label_of t) s) (label_of t) x s rest refl h (one_name t (sym e))

  process_name_sound : (n : ℕ) → Sound (process_name limit n) OneName
  unfolding process_name
  process_name_sound n s x rest h = process_name_at n s x rest (is_name (ahead s)) refl (limit.processes n) h

  abbrev Headed : Totals → List Lexeme → Carried Totals Process → Type 0
  Headed t = Both OneName (λ name. Both (OneMark marks.Colons) (λ m. Both (OneMark marks.OpenBlock) (λ k. Both (λ ts (ds : Counted (List Declaration)). Declarations Value Lows ts ds.0) (λ ds. Both (λ ts (b : Counted Body). IsBody Value Lows ts b.0) (λ b. Given (process t name ds b))))))

  headed_sound : (t : Totals) → Sound (process_of limit t) (Headed t)
  unfolding process_of
  headed_sound t =
      sound_bind (process_name limit t.processes) (λ name. then_reads (expected marks.Colons) (λ m. then_reads (expected marks.OpenBlock) (λ m. then_reads (declarations_of limit t.variables) (λ ds. then_reads (body_of (value_of limit) (lower_of limit (suc limit.round)) t.statements) (λ b. gives (process t name ds b)))))) OneName (λ name. Both (OneMark marks.Colons) (λ m. Both (OneMark marks.OpenBlock) (λ k. Both (λ ts ds. Declarations Value Lows ts ds.0) (λ ds. Both (λ ts b. IsBody Value Lows ts b.0) (λ b. Given (process t name ds b)))))) (process_name_sound t.processes)
      (λ name. sound_bind (expected marks.Colons) (λ m. then_reads (expected marks.OpenBlock) (λ m. then_reads (declarations_of limit t.variables) (λ ds. then_reads (body_of (value_of limit) (lower_of limit (suc limit.round)) t.statements) (λ b. gives (process t name ds b))))) (OneMark marks.Colons) (λ m. Both (OneMark marks.OpenBlock) (λ k. Both (λ ts ds. Declarations Value Lows ts ds.0) (λ ds. Both (λ ts b. IsBody Value Lows ts b.0) (λ b. Given (process t name ds b))))) (sound_expected marks.Colons)
      (λ m. sound_bind (expected marks.OpenBlock) (λ m. then_reads (declarations_of limit t.variables) (λ ds. then_reads (body_of (value_of limit) (lower_of limit (suc limit.round)) t.statements) (λ b. gives (process t name ds b)))) (OneMark marks.OpenBlock) (λ k. Both (λ ts ds. Declarations Value Lows ts ds.0) (λ ds. Both (λ ts b. IsBody Value Lows ts b.0) (λ b. Given (process t name ds b)))) (sound_expected marks.OpenBlock)
      (λ k. sound_bind (declarations_of limit t.variables) (λ ds. then_reads (body_of (value_of limit) (lower_of limit (suc limit.round)) t.statements) (λ b. gives (process t name ds b))) (λ ts ds. Declarations Value Lows ts ds.0) (λ ds. Both (λ ts b. IsBody Value Lows ts b.0) (λ b. Given (process t name ds b))) (declarations_sound t.variables)
      (λ ds. sound_bind (body_of (value_of limit) (lower_of limit (suc limit.round)) t.statements) (λ b. gives (process t name ds b)) (λ ts b. IsBody Value Lows ts b.0) (λ b. Given (process t name ds b)) (body_in (value_of limit) Value value_sound limit.statements (suc limit.round) t.statements) (λ b. sound_gives (process t name ds b))))))

  from_headed : (t : Totals) (ts : List Lexeme) (y : Carried Totals Process) → Headed t ts y → IsProcess Value Lows ts y.0
  from_headed t ts y (behind_it a1 b1 name z1 (one_name n h1) (behind_it a2 b2 m2 z2 (one_mark u h2) (behind_it a3 b3 m3 z3 (one_mark v h3) (behind_it a4 b4 ds z4 heads (behind_it a5 b5 x z5 l given))))) =
      rw append-nil (a_process n u v a4 a5 ds.0 x.0 h1 h2 h3 heads l)

  pub process_sound : (t : Totals) → Sound (process_of limit t) (λ ts p. IsProcess Value Lows ts p.0)
  process_sound t = sound_as (process_of limit t) (Headed t) (λ ts p. IsProcess Value Lows ts p.0) (from_headed t) (headed_sound t)

  pub processes_sound : (t : Totals) → Sound (processes_of limit t) (λ ts ps. Row marks.Bars (IsProcess Value Lows) ts ps.0)
  unfolding processes_of
  processes_sound t s ps rest h = row_sound marks.Bars (process_of limit) (IsProcess Value Lows) process_sound t s ps rest h

  -- WHOLE PROGRAMS
  abbrev Spelled : List Lexeme → Program → Type 0
  Spelled = Both (λ ts (ds : Counted (List Declaration)). Declarations Value Lows ts ds.0) (λ ds. Both (λ ts (ps : Carried Totals (List Process)). Row marks.Bars (IsProcess Value Lows) ts ps.0) (λ ps. Given (record { declarations = ds.0; processes = ps.0 })))

  from_spelled : (ts : List Lexeme) (x : Program) → Spelled ts x → IsProgram Value Lows ts x
  from_spelled ts x (behind_it a1 b1 ds z1 heads (behind_it a2 b2 ps z2 rows given)) = rw append-nil (program a1 a2 ds.0 ps.0 heads rows)

  pub spelled_sound : Sound (spelled_of limit) (IsProgram Value Lows)
  unfolding spelled_of
  spelled_sound =
      sound_as (then_reads (declarations_of limit 0) (λ ds. then_reads (processes_of limit (totals 0 ds.1 0)) (λ ps. gives (record { declarations = ds.0; processes = ps.0 })))) Spelled (IsProgram Value Lows) from_spelled
      (sound_bind (declarations_of limit 0) (λ ds. then_reads (processes_of limit (totals 0 ds.1 0)) (λ ps. gives (record { declarations = ds.0; processes = ps.0 }))) (λ ts ds. Declarations Value Lows ts ds.0) (λ ds. Both (λ ts ps. Row marks.Bars (IsProcess Value Lows) ts ps.0) (λ ps. Given (record { declarations = ds.0; processes = ps.0 }))) (declarations_sound 0)
      (λ ds. sound_bind (processes_of limit (totals 0 ds.1 0)) (λ ps. gives (record { declarations = ds.0; processes = ps.0 })) (λ ts ps. Row marks.Bars (IsProcess Value Lows) ts ps.0) (λ ps. Given (record { declarations = ds.0; processes = ps.0 })) (processes_sound (totals 0 ds.1 0)) (λ ps. sound_gives (record { declarations = ds.0; processes = ps.0 }))))
