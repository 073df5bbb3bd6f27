-- What the readers of declarations, processes and programs carry on is what was read; and it fits its limits.
use Rattle.std.proofs.Common.{◌≡◌, ℕ, suc, ◌+◌, Bool, true, false, cond, List, [], Option, Ok, Err, refl, sym, ap, subst, ◌∙◌}
use Rattle.st_tokens.specs.declared.limit.LimitKind.{LimitKind}
use Rattle.st_tokens.specs.declared.limit.LimitKind.TheVariants as limits
use Rattle.st_tokens.specs.Stream.{Stream, behind}
use Rattle.st_reading.specs.declared.mark.Mark.TheVariants as marks
use Rattle.st_reading.specs.Faults.{Passed, passed}
use Rattle.st_reading.specs.Reading.{other, Label, ahead, place_of, name_of, is_name, refusal, expected, gives, then_reads, size, Counted, Carried}
use Rattle.st_reading.proofs.Soundness.{split, values}
use Rattle.st_reading.proofs.ListCompleteness.{all_after, AllFit}
use Rattle.st_reading.proofs.ListTally.{Tallies, chain_tallies, row_tallies, all_told}
use Rattle.spl_parser.specs.Signs.{mode}
use Rattle.expression_parser.specs.ExpressionTree.{Expr}
use Rattle.spl_parser.specs.ProgramTree.{Declaration, Process, Program}
use Rattle.expression_parser.specs.Reading.{Reader}
use Rattle.spl_parser.specs.Statements.{body_of}
use Rattle.spl_parser.specs.Programs.{Limits, limited_name, value_of, lower_of, variable_of, names_of, type_of, initial_of, declaration_of, declarations_of, Totals, totals, process_name, process, process_of, processes_of, spelled_of}
use Rattle.spl_parser.proofs.StatementTally.{body_told, inside_tallies}
use Rattle.spl_parser.proofs.ProgramCompleteness.{name_after, declaration_after, process_after, NameFits, DeclarationFits, DeclarationsFit, ProcessFits, ProgramFits}

module _ (limit : Limits) where
  -- a name is read where one more may be named
  limited_told : {A : Type 0} (limited : LimitKind) (may : Bool) (f : Label → A) (s : Stream) (y : A) (rest : Stream) → limited_name limited may f s ≡ Ok (y, rest) → (y ≡ f (name_of s)) × (may ≡ true)
  limited_told {A} limited may f s y rest h = at_test (is_name (ahead s)) may h
    where
      at_test : (b c : Bool) → cond b (cond c (gives {X = Passed} (f (name_of s)) (behind s)) (Err (other (passed limited (place_of s))))) (Err (refusal s)) ≡ Ok (y, rest) → (y ≡ f (name_of s)) × (c ≡ true)
      at_test true true h = (sym (values {X = Passed} (gives (f (name_of s)) (behind s)) (f (name_of s)) y (behind s) rest refl h).0, refl)
      at_test true false h = cc
      at_test false c h = cc

  variable_tallies : Tallies (variable_of limit) name_after (NameFits limit)
  unfolding variable_of
  variable_tallies n s y rest h =
      let t = limited_told limits.Variables (limit.variables n) (λ (l : Label). (l, n + 1)) s y rest h in
      (counted_of y t.0, t.1)
    where
      counted_of : (y : Counted Label) → y ≡ (name_of s, n + 1) → y.1 ≡ n + 1
      counted_of y e = ap (λ (z : Counted Label). z.1) e

  names_told : (n : ℕ) (s : Stream) (y : Counted (List Label)) (rest : Stream) → names_of limit n s ≡ Ok (y, rest) → (y.1 ≡ all_after name_after y.0 n) × AllFit name_after (NameFits limit) y.0 n
  unfolding names_of
  names_told n s y rest h = row_tallies marks.Comma (variable_of limit) name_after (NameFits limit) variable_tallies n s y rest h

  abbrev made : Bool → Counted (List Label) → Bool → Option Expr → Counted Declaration
  made input names truth initial = (record { input = input; names = names.0; truth = truth; initial = initial }, names.1)

  declaration_tallies : (input : Bool) → Tallies (declaration_of limit input) declaration_after (DeclarationFits limit)
  unfolding declaration_of
  declaration_tallies input n s y rest h =
      let p = split (names_of limit n) (λ names. then_reads (expected marks.Colon) (λ m. then_reads (type_of limit) (λ truth. then_reads (initial_of limit) (λ initial. then_reads (expected marks.Semicolon) (λ z. gives (made input names truth initial)))))) s y rest h in
      let q = split (expected marks.Colon) (λ m. then_reads (type_of limit) (λ truth. then_reads (initial_of limit) (λ initial. then_reads (expected marks.Semicolon) (λ z. gives (made input p.value truth initial))))) p.middle y rest p.second in
      let u = split (type_of limit) (λ truth. then_reads (initial_of limit) (λ initial. then_reads (expected marks.Semicolon) (λ z. gives (made input p.value truth initial)))) q.middle y rest q.second in
      let v = split (initial_of limit) (λ initial. then_reads (expected marks.Semicolon) (λ z. gives (made input p.value u.value initial))) u.middle y rest u.second in
      let w = split (expected marks.Semicolon) (λ z. gives (made input p.value u.value v.value)) v.middle y rest v.second in
      let e = (values {X = Passed} (gives (made input p.value u.value v.value) w.middle) (made input p.value u.value v.value) y w.middle rest refl w.second).0 in
      let t = names_told n s p.value p.middle p.first in
      subst (λ (z : Counted Declaration). (z.1 ≡ declaration_after z.0 n) × DeclarationFits limit z.0 n) e t

  declarations_told : (n : ℕ) (s : Stream) (y : Counted (List Declaration)) (rest : Stream) → declarations_of limit n s ≡ Ok (y, rest) → (y.1 ≡ all_after declaration_after y.0 n) × DeclarationsFit limit y.0 n
  unfolding declarations_of
  declarations_told n s y rest h = all_told declaration_after (DeclarationFits limit) n y (chain_tallies mode (declaration_of limit) declaration_after (DeclarationFits limit) declaration_tallies (size s) ([], n) s y rest h)

  abbrev bodied : Totals → Label → Counted (List Declaration) → Reader (Carried Totals Process)
  bodied t name ds = then_reads (body_of (value_of limit) (lower_of limit (suc limit.round)) t.statements) (λ b. gives {X = Passed} (process t name ds b))

  process_tallies : Tallies (process_of limit) process_after (ProcessFits limit)
  unfolding process_of process_name
  process_tallies t s y rest h =
      let p = split (process_name limit t.processes) (λ name. then_reads (expected marks.Colons) (λ m. then_reads (expected marks.OpenBlock) (λ m. then_reads (declarations_of limit t.variables) (bodied t name)))) s y rest h in
      let q = split (expected marks.Colons) (λ m. then_reads (expected marks.OpenBlock) (λ m. then_reads (declarations_of limit t.variables) (bodied t p.value))) p.middle y rest p.second in
      let u = split (expected marks.OpenBlock) (λ m. then_reads (declarations_of limit t.variables) (bodied t p.value)) q.middle y rest q.second in
      let v = split (declarations_of limit t.variables) (bodied t p.value) u.middle y rest u.second in
      let w = split (body_of (value_of limit) (lower_of limit (suc limit.round)) t.statements) (λ b. gives (process t p.value v.value b)) v.middle y rest v.second in
      let e = (values {X = Passed} (gives (process t p.value v.value w.value) w.middle) (process t p.value v.value w.value) y w.middle rest refl w.second).0 in
      let name = limited_told limits.Processes (limit.processes t.processes) (λ l. l) s p.value p.middle p.first in
      let ds = declarations_told t.variables u.middle v.value v.middle v.first in
      let b = body_told (value_of limit) limit.statements (lower_of limit (suc limit.round)) (inside_tallies (value_of limit) limit.statements (suc limit.round)) t.statements v.middle w.value w.middle w.first in
      subst (λ (z : Carried Totals Process). (z.1 ≡ process_after z.0 t) × ProcessFits limit z.0 t) e (ap (λ v. totals (t.processes + 1) v w.value.1) ds.0 ∙ ap (totals (t.processes + 1) (all_after declaration_after v.value.0 t.variables)) b.0, (name.1, ds.1, b.1))

  pub spelled_fits : (s : Stream) (x : Program) (rest : Stream) → spelled_of limit s ≡ Ok (x, rest) → ProgramFits limit x
  unfolding spelled_of processes_of
  spelled_fits s x rest h =
      let p = split (declarations_of limit 0) (λ ds. then_reads (processes_of limit (totals 0 ds.1 0)) (λ ps. gives (record { declarations = ds.0; processes = ps.0 }))) s x rest h in
      let q = split (processes_of limit (totals 0 p.value.1 0)) (λ ps. gives (record { declarations = p.value.0; processes = ps.0 })) p.middle x rest p.second in
      let e = (values {X = Passed} (gives (record { declarations = p.value.0; processes = q.value.0 }) q.middle) (record { declarations = p.value.0; processes = q.value.0 }) x q.middle rest refl q.second).0 in
      let ds = declarations_told 0 s p.value p.middle p.first in
      let ps = row_tallies marks.Bars (process_of limit) process_after (ProcessFits limit) process_tallies (totals 0 p.value.1 0) p.middle q.value q.middle q.first in
      subst (ProgramFits limit) e (ds.1, subst (λ n. AllFit process_after (ProcessFits limit) q.value.0 (totals 0 n 0)) ds.0 ps.1)
