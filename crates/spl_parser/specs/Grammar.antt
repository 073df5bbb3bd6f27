-- The grammar of programs: which token lists stand for which trees, production by production.
use Rattle.std.specs.Prelude.{◌≡◌, ℕ, zero, suc, Bool, true, false, List, [], ◌∷◌, ◌++◌, Option, Some, None}
use Rattle.st_tokens.specs.Stream.{Lexeme}
use Rattle.st_reading.specs.declared.mark.Mark.TheVariants as marks
use Rattle.st_reading.specs.Sign.{sign_of}
use Rattle.st_reading.specs.Reading.{Label, label_of}
use Rattle.st_reading.specs.Spelling.{Is, IsName, OneName, Row, Row2}
use Rattle.expression_parser.specs.ExpressionTree.{Expr}
use Rattle.expression_parser.specs.Grammar.{SpellsWithin}
use Rattle.spl_parser.specs.declared.sign.Start.{Start}
use Rattle.spl_parser.specs.declared.sign.Start.TheVariants as starts
use Rattle.spl_parser.specs.Signs.{start, mode, kind}
use Rattle.spl_parser.specs.ProgramTree.{Statement, stated, Action, skip, critical, noncritical, assign, assign_all, await, request, release, conditional, while_do, forever, block, select, cooperate, group, Branch, no_branch, branch, statements, Body, body, bodies, Declaration, Process, Program}

-- The token begins such a statement.
abbrev pub Starts : Start → Lexeme → Type 0
Starts x t = start (sign_of t) ≡ Some x

-- STATEMENTS. `low` is what may stand inside a statement: at `true`, what may stand inside a group.
module _ (value : List Lexeme → Expr → Type 0) where
  -- ":=" expr
  pub data IsRightSide : List Lexeme → Expr → Type 0 where
    right_side : (t : Lexeme) (ts : List Lexeme) (e : Expr) → Is marks.Becomes t → value ts e → IsRightSide (t ∷ ts) e

  module _ (low : Bool → List Lexeme → Statement → Type 0) where
    -- [ "else" statement ]
    pub data IsBranch (inner : Bool) : List Lexeme → Branch → Type 0 where
      without : IsBranch inner [] no_branch
      with_else : (t : Lexeme) (ts : List Lexeme) (x : Statement) → Is marks.Else t → low inner ts x → IsBranch inner (t ∷ ts) (branch x)

    -- sequence [ ";" name ":" ] "]"
    pub data IsBody : List Lexeme → Body → Type 0 where
      unnamed : (a : List Lexeme) (u : Lexeme) (xs : List Statement) → Row marks.Semicolon (low false) a xs → Is marks.CloseBlock u → IsBody (a ++ u ∷ []) (body (statements xs) None)
      ended : (a : List Lexeme) (s l c u : Lexeme) (xs : List Statement) → Row marks.Semicolon (low false) a xs → Is marks.Semicolon s → IsName l → Is marks.Colon c → Is marks.CloseBlock u
          → IsBody (a ++ s ∷ l ∷ c ∷ u ∷ []) (body (statements xs) (Some (label_of l)))

    -- child = "[" sequence [ ";" name ":" ] "]"
    pub data IsChild : List Lexeme → Body → Type 0 where
      child : (t : Lexeme) (ts : List Lexeme) (b : Body) → Is marks.OpenBlock t → IsBody ts b → IsChild (t ∷ ts) b

    -- A statement behind its label, and the place of its first token. What stands inside a group has `true`; it is one of
    -- fewer kinds, and so is what stands inside it.
    pub data IsBare : Bool → ℕ → List Lexeme → Action → Type 0 where
      s_assign : (inner : Bool) (t : Lexeme) (ts : List Lexeme) (e : Expr) → Starts starts.Named t → IsRightSide ts e → IsBare inner t.start (t ∷ ts) (assign (label_of t) e)
      s_assign_all : (inner : Bool) (t u v w z : Lexeme) (a b : List Lexeme) (targets : List Label) (values : List Expr)
          → Starts starts.Listed t → Row2 marks.Comma OneName a targets → Is marks.Close u → Is marks.Becomes v → Is marks.Open w → Row2 marks.Comma value b values → Is marks.Close z
          → IsBare inner t.start (t ∷ a ++ (u ∷ v ∷ w ∷ b ++ z ∷ [])) (assign_all targets w.start values)
      s_skip : (inner : Bool) (t : Lexeme) → Starts starts.Skip t → IsBare inner t.start (t ∷ []) skip
      s_critical : (t : Lexeme) → Starts starts.Critical t → IsBare false t.start (t ∷ []) critical
      s_noncritical : (t : Lexeme) → Starts starts.Noncritical t → IsBare false t.start (t ∷ []) noncritical
      s_await : (inner : Bool) (t : Lexeme) (ts : List Lexeme) (e : Expr) → Starts starts.Await t → value ts e → IsBare inner t.start (t ∷ ts) (await e)
      s_request : (t u : Lexeme) → Starts starts.Request t → IsName u → IsBare false t.start (t ∷ u ∷ []) (request (label_of u))
      s_release : (t u : Lexeme) → Starts starts.Release t → IsName u → IsBare false t.start (t ∷ u ∷ []) (release (label_of u))
      s_if : (inner : Bool) (t u v : Lexeme) (a b c : List Lexeme) (e : Expr) (x : Statement) (y : Branch) → Starts starts.If t → value a e → Is marks.Then u → low inner b x → IsBranch inner c y → Is marks.Fi v
          → IsBare inner t.start (t ∷ a ++ (u ∷ b ++ (c ++ v ∷ []))) (conditional e x y)
      s_while : (t u : Lexeme) (a b : List Lexeme) (e : Expr) (x : Statement) → Starts starts.While t → value a e → Is marks.Do u → low false b x → IsBare false t.start (t ∷ a ++ u ∷ b) (while_do e x)
      s_loop : (t u v : Lexeme) (b : List Lexeme) (x : Statement) → Starts starts.Loop t → Is marks.Forever u → Is marks.Do v → low false b x → IsBare false t.start (t ∷ u ∷ v ∷ b) (forever x)
      s_block : (inner : Bool) (t u : Lexeme) (a : List Lexeme) (xs : List Statement) → Starts starts.Block t → Row marks.Semicolon (low inner) a xs → Is marks.CloseBlock u → IsBare inner t.start (t ∷ a ++ u ∷ []) (block (statements xs))
      s_select : (t u v : Lexeme) (a : List Lexeme) (xs : List Statement) → Starts starts.Select t → Is marks.OpenBlock u → Row2 marks.Either (low false) a xs → Is marks.CloseBlock v
          → IsBare false t.start (t ∷ u ∷ a ++ v ∷ []) (select (statements xs))
      s_cooperate : (t u : Lexeme) (a : List Lexeme) (xs : List Body) → Starts starts.Cooperate t → Row2 marks.Bars IsChild a xs → Is marks.Coend u → IsBare false t.start (t ∷ a ++ u ∷ []) (cooperate (bodies xs))
      s_group : (t u : Lexeme) (a : List Lexeme) (xs : List Statement) → Starts starts.Group t → Row marks.Semicolon (low true) a xs → Is marks.CloseGroup u → IsBare false t.start (t ∷ a ++ u ∷ []) (group (statements xs))

    -- statement = [ name ":" ] bare; inside a group there is no label
    pub data IsStatement : Bool → List Lexeme → Statement → Type 0 where
      unlabelled : (inner : Bool) (place : ℕ) (ts : List Lexeme) (a : Action) → IsBare inner place ts a → IsStatement inner ts (stated None place a)
      labelled : (t u : Lexeme) (place : ℕ) (ts : List Lexeme) (a : Action) → IsName t → Is marks.Colon u → IsBare false place ts a → IsStatement false (t ∷ u ∷ ts) (stated (Some (label_of t)) place a)

  -- What may stand inside a statement, with that many levels at most.
  abbrev pub Low : ℕ → Bool → List Lexeme → Statement → Type 0
  Low zero inner ts x = ⊥
  Low (suc n) inner ts x = IsStatement (Low n) inner ts x

-- PROGRAMS
module _ (value : List Lexeme → Expr → Type 0) (low : Bool → List Lexeme → Statement → Type 0) where
  -- [ "where" expr ]
  pub data IsInitial : List Lexeme → Option Expr → Type 0 where
    free : IsInitial [] None
    given : (t : Lexeme) (ts : List Lexeme) (e : Expr) → Is marks.Where t → value ts e → IsInitial (t ∷ ts) (Some e)

  -- ( "in" | "local" | "out" ) name { "," name } ":" ( "integer" | "boolean" ) [ "where" expr ] ";"
  pub data IsDeclaration : List Lexeme → Declaration → Type 0 where
    declaration : (t u v w : Lexeme) (a b : List Lexeme) (input truth : Bool) (names : List Label) (initial : Option Expr)
        → mode (sign_of t) ≡ Some input → Row marks.Comma OneName a names → Is marks.Colon u → kind (sign_of v) ≡ Some truth → IsInitial b initial → Is marks.Semicolon w
        → IsDeclaration (t ∷ a ++ (u ∷ v ∷ b ++ w ∷ [])) (record { input = input; names = names; truth = truth; initial = initial })

  -- { decl }
  pub data Declarations : List Lexeme → List Declaration → Type 0 where
    no_declarations : Declarations [] []
    declaration_more : (a b : List Lexeme) (d : Declaration) (ds : List Declaration) → IsDeclaration a d → Declarations b ds → Declarations (a ++ b) (d ∷ ds)

  -- name "::" "[" { decl } sequence [ ";" name ":" ] "]"
  pub data IsProcess : List Lexeme → Process → Type 0 where
    process : (t u v : Lexeme) (a b : List Lexeme) (ds : List Declaration) (x : Body) → IsName t → Is marks.Colons u → Is marks.OpenBlock v → Declarations a ds → IsBody value low b x
        → IsProcess (t ∷ u ∷ v ∷ a ++ b) (record { name = label_of t; declarations = ds; body = x })

  -- { decl } process { "||" process }
  pub data IsProgram : List Lexeme → Program → Type 0 where
    program : (a b : List Lexeme) (ds : List Declaration) (ps : List Process) → Declarations a ds → Row marks.Bars IsProcess b ps → IsProgram (a ++ b) (record { declarations = ds; processes = ps })

-- The tokens spell the program, with any numbers of levels: its limits are no matter of the grammar.
abbrev pub SpellsProgram : List Lexeme → Program → Type 0
SpellsProgram ts x = (opened : ℕ) × (round : ℕ) × IsProgram (SpellsWithin false opened) (Low (SpellsWithin false opened) round) ts x
