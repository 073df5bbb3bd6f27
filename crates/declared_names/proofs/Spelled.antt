-- The names of a program that a text spells are names of texts.
use Rattle.std.proofs.Common.{ℕ, zero, suc, Bool, false, List, [], ◌∷◌, ◌++◌}
use Rattle.st_tokens.specs.Stream.{Lexeme}
use Rattle.st_reading.specs.declared.mark.Mark.{Mark}
use Rattle.st_reading.specs.declared.mark.Mark.TheVariants as marks
use Rattle.st_reading.specs.Spelling.{OneName, one_name, Items, no_items, item_more, Row, row, Row2, row2}
use Rattle.expression_parser.specs.ExpressionTree.{Expr}
use Rattle.expression_parser.specs.Grammar.{SpellsWithin}
use Rattle.spl_parser.specs.ProgramTree.{Statement, statements, Body, bodies, Program}
use Rattle.spl_parser.specs.Grammar.{IsBranch, without, with_else, IsBody, unnamed, ended, IsChild, child, IsBare, s_assign, s_assign_all, s_skip, s_critical, s_noncritical, s_await, s_request, s_release, s_if, s_while, s_loop, s_block, s_select, s_cooperate, s_group, IsStatement, unlabelled, labelled, Low, IsDeclaration, declaration, Declarations, no_declarations, declaration_more, IsProcess, process, IsProgram, program}
use Rattle.spl_parser.specs.Theorems.{Spells}
use Rattle.declared_names.proofs.Tokens.{NamesAre, parts, names_of_text}
use Rattle.list_laws.specs.Each.{Each}
use Rattle.declared_names.proofs.Raw.{LabelNamed, StatementNamed, ActionNamed, BranchNamed, StatementsNamed, BodyNamed, BodiesNamed, DeclarationNamed, ProcessNamed, ProgramNamed}

-- what is spelled by such tokens is such
abbrev Names : {A : Type 0} → (List Lexeme → A → Type 0) → (A → Type 0) → Type 0
Names {A} L P = (ts : List Lexeme) (x : A) → NamesAre ts → L ts x → P x

module _ {A : Type 0} (mark : Mark) (item : List Lexeme → A → Type 0) (P : A → Type 0) (named : Names item P) where
  items_named : Names (Items mark item) (Each P)
  items_named ts ys h no_items = tt
  items_named ts ys h (item_more t a b y zs m i more) = let p = parts a b h.1 in (named a y p.0 i, items_named b zs p.1 more)

  row_named : Names (Row mark item) (Each P)
  row_named ts xs h (row a b x ys i more) = let p = parts a b h in (named a x p.0 i, items_named b ys p.1 more)

  row2_named : Names (Row2 mark item) (Each P)
  row2_named ts xs h (row2 a b x y zs i more) = let p = parts a b h in (named a x p.0 i, items_named b (y ∷ zs) p.1 more)

label_named : Names OneName LabelNamed
label_named ts n h (one_name t i) = h.0 i

statements_named : (xs : List Statement) → Each StatementNamed xs → StatementsNamed (statements xs)
statements_named [] h = tt
statements_named (x ∷ xs) h = (h.0, statements_named xs h.1)

bodies_named : (xs : List Body) → Each BodyNamed xs → BodiesNamed (bodies xs)
bodies_named [] h = tt
bodies_named (x ∷ xs) h = (h.0, bodies_named xs h.1)

module _ (value : List Lexeme → Expr → Type 0) where
  module _ (low : Bool → List Lexeme → Statement → Type 0) (low_named : (inner : Bool) → Names (low inner) StatementNamed) where
    branch_named : (inner : Bool) → Names (IsBranch value low inner) BranchNamed
    branch_named inner ts y h without = tt
    branch_named inner ts y h (with_else t us x i k) = low_named inner us x h.1 k

    pub body_named : Names (IsBody value low) BodyNamed
    body_named ts y h (unnamed a u xs r e) = (statements_named xs (row_named marks.Semicolon (low false) StatementNamed (low_named false) a xs (parts a (u ∷ []) h).0 r), tt)
    body_named ts y h (ended a s l c u xs r e f g i) =
        let p = parts a (s ∷ l ∷ c ∷ u ∷ []) h in
        (statements_named xs (row_named marks.Semicolon (low false) StatementNamed (low_named false) a xs p.0 r), p.1.1.0 f)

    child_named : Names (IsChild value low) BodyNamed
    child_named ts y h (child t us b e i) = body_named us b h.1 i

    bare_named : (inner : Bool) (place : ℕ) → Names (IsBare value low inner place) ActionNamed
    bare_named inner place ts x h (s_assign i t us e s r) = tt
    bare_named inner place ts x h (s_assign_all i t u v w z a b targets values s ra eu ev ew rb ez) = tt
    bare_named inner place ts x h (s_skip i t s) = tt
    bare_named inner place ts x h (s_critical t s) = tt
    bare_named inner place ts x h (s_noncritical t s) = tt
    bare_named inner place ts x h (s_await i t us e s v) = tt
    bare_named inner place ts x h (s_request t u s n) = tt
    bare_named inner place ts x h (s_release t u s n) = tt
    bare_named inner place ts x h (s_if i t u v a b c e y z s va eu lb bc ev) =
        let p = parts a (u ∷ b ++ (c ++ v ∷ [])) h.1 in
        let q = parts b (c ++ v ∷ []) p.1.1 in
        (low_named inner b y q.0 lb, branch_named inner c z (parts c (v ∷ []) q.1).0 bc)
    bare_named inner place ts x h (s_while t u a b e y s va eu lb) = low_named false b y (parts a (u ∷ b) h.1).1.1 lb
    bare_named inner place ts x h (s_loop t u v b y s eu ev lb) = low_named false b y h.1.1.1 lb
    bare_named inner place ts x h (s_block i t u a xs s r e) = statements_named xs (row_named marks.Semicolon (low inner) StatementNamed (low_named inner) a xs (parts a (u ∷ []) h.1).0 r)
    bare_named inner place ts x h (s_select t u v a xs s eu r ev) = statements_named xs (row2_named marks.Either (low false) StatementNamed (low_named false) a xs (parts a (v ∷ []) h.1.1).0 r)
    bare_named inner place ts x h (s_cooperate t u a xs s r e) = bodies_named xs (row2_named marks.Bars (IsChild value low) BodyNamed child_named a xs (parts a (u ∷ []) h.1).0 r)
    bare_named inner place ts x h (s_group t u a xs s r e) = tt

    statement_named : (inner : Bool) → Names (IsStatement value low inner) StatementNamed
    statement_named inner ts x h (unlabelled i place us a b) = (tt, bare_named inner place us a h b)
    statement_named inner ts x h (labelled t u place us a n e b) = (h.0 n, bare_named false place us a h.1.1 b)

  low_named : (n : ℕ) (inner : Bool) → Names (Low value n inner) StatementNamed
  low_named zero inner ts x h i = absurd i
  low_named (suc n) inner ts x h i = statement_named (Low value n) (low_named n) inner ts x h i

  module _ (n : ℕ) where
    abbrev low : Bool → List Lexeme → Statement → Type 0
    low = Low value n

    declaration_named : Names (IsDeclaration value low) DeclarationNamed
    declaration_named ts d h (declaration t u v w a b input truth names initial em ra eu ek ib ew) = row_named marks.Comma OneName LabelNamed label_named a names (parts a (u ∷ v ∷ b ++ w ∷ []) h.1).0 ra

    declarations_named : Names (Declarations value low) (Each DeclarationNamed)
    declarations_named ts ds h no_declarations = tt
    declarations_named ts ds h (declaration_more a b d es i k) = let p = parts a b h in (declaration_named a d p.0 i, declarations_named b es p.1 k)

    process_named : Names (IsProcess value low) ProcessNamed
    process_named ts p h (process t u v a b ds x m eu ev da ib) =
        let q = parts a b h.1.1.1 in
        record { name = h.0 m; declarations = declarations_named a ds q.0 da; body = body_named low (low_named n) b x q.1 ib }

    program_named : Names (IsProgram value low) ProgramNamed
    program_named ts x h (program a b ds ps i r) =
        let p = parts a b h in
        record { declarations = declarations_named a ds p.0 i; processes = row_named marks.Bars (IsProcess value low) ProcessNamed process_named b ps p.1 r }

pub spelled_named : (text : List ℕ) (x : Program) → Spells text x → ProgramNamed x
spelled_named text x (ts, (place, e), w) = program_named (SpellsWithin false 32) 33 ts x (names_of_text text ts place e) w.spells
