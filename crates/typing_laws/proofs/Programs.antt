-- Programs that a text spells lie in it, token behind token.
use Rattle.std.proofs.Common.{ℕ, suc, Bool, false, List, [], ◌∷◌, ◌++◌, arith}
use Rattle.st_tokens.specs.Stream.{Lexeme}
use Rattle.st_reading.specs.declared.mark.Mark.TheVariants as marks
use Rattle.st_reading.specs.Spelling.{OneName, Row, row}
use Rattle.expression_parser.specs.ExpressionTree.{Expr}
use Rattle.spl_parser.specs.ProgramTree.{Statement, Process, Program}
use Rattle.expression_parser.specs.Grammar.{SpellsWithin}
use Rattle.spl_parser.specs.Grammar.{Low, IsInitial, free, given, IsDeclaration, declaration, Declarations, no_declarations, declaration_more, IsProcess, process, IsProgram, program}
use Rattle.spl_parser.specs.Theorems.{Spells}
use Rattle.typing_laws.proofs.Standing.{Stand, meet, stand_to, first_to, text_stands}
use Rattle.typing_laws.proofs.Laying.{LabelLaid, InRow, InitialLaid, DeclarationLaid, ProcessLaid, SomeProcesses, ProgramLaid}
use Rattle.typing_laws.proofs.Expressions.{Lay, laid_from, formula_lays}
use Rattle.typing_laws.proofs.Rows.{Lays, Earlier, row_lays, name_lays, label_earlier, in_row_earlier}
use Rattle.typing_laws.proofs.Statements.{Placed, low_lays, body_lays}

module _ (value : List Lexeme → Expr → Type 0) (value_lays : Lay value) (low : Bool → List Lexeme → Statement → Type 0) (lower_lays : (inner : Bool) → Lays (low inner) (Placed inner)) where
  initial_lays : Lays (IsInitial value low) InitialLaid
  initial_lays ts e from to h free = h
  initial_lays ts e from to h (given t us x i k) = laid_from x from (suc t.start) to (omega (arith, h.0)) (value_lays us x (suc t.start) to h.2 k)

  declaration_lays : Lays (IsDeclaration value low) DeclarationLaid
  declaration_lays ts d from to h (declaration t u v w a b input truth names initial em ra eu ek ib ew) =
      let m = meet (suc t.start) to a (u ∷ v ∷ b ++ w ∷ []) h.2 in
      let n = meet (suc v.start) to b (w ∷ []) m.second.2.2 in
      record {
        mid = suc v.start;
        names = in_row_earlier LabelLaid label_earlier names from (suc t.start) (suc v.start) (omega (arith, h.0))
            (row_lays marks.Comma OneName LabelLaid name_lays label_earlier a names (suc t.start) (suc v.start) (stand_to (suc t.start) m.mid (suc v.start) a (omega (arith, m.second.0, m.second.2.0)) m.first) ra);
        initial = initial_lays b initial (suc v.start) to (first_to (suc v.start) to b (w ∷ []) n) ib;
      }

  declarations_lay : Lays (Declarations value low) (InRow DeclarationLaid)
  declarations_lay ts ds from to h no_declarations = h
  declarations_lay ts ds from to h (declaration_more a b d es i k) =
      let m = meet from to a b h in
      (m.mid, declaration_lays a d from m.mid m.first i, declarations_lay b es m.mid to m.second k)

  process_lays : Lays (IsProcess value low) ProcessLaid
  process_lays ts p from to h (process t u v a b ds x n eu ev da ib) =
      let m = meet (suc v.start) to a b h.2.2.2 in
      record {
        named = suc v.start;
        declared = m.mid;
        name = record { behind = h.0; ahead = omega (arith, h.2.0, h.2.2.0); plain = h.1 n };
        declarations = declarations_lay a ds (suc v.start) m.mid m.first da;
        body = body_lays value value_lays low lower_lays b x m.mid to m.second ib;
      }

  process_earlier : Earlier ProcessLaid
  process_earlier p a b to h l = record { named = l.named; declared = l.declared; name = label_earlier p.name a b l.named h l.name; declarations = l.declarations; body = l.body }

  program_lays : (ts : List Lexeme) (x : Program) (end : ℕ) → Stand 0 end ts → IsProgram value low ts x → ProgramLaid x
  program_lays ts x end h (program a b ds ps i r) =
      let m = meet 0 end a b h in
      record {
        declared = m.mid;
        end = end;
        some = some b ps r;
        declarations = declarations_lay a ds 0 m.mid m.first i;
        processes = row_lays marks.Bars (IsProcess value low) ProcessLaid process_lays process_earlier b ps m.mid end m.second r;
      }
    where
      some : (us : List Lexeme) (qs : List Process) → Row marks.Bars (IsProcess value low) us qs → SomeProcesses qs
      some us qs (row c d y ys j k) = tt

pub spelled_lies : (text : List ℕ) (x : Program) → Spells text x → ProgramLaid x
spelled_lies text x (ts, (place, e), w) =
    program_lays (SpellsWithin false 32) (formula_lays false 32) (Low (SpellsWithin false 32) 33) (low_lays (SpellsWithin false 32) (formula_lays false 32) 33) ts x place (text_stands text ts place e) w.spells
