-- What the typing of a spelled expression gives is what it means.
use Rattle.std.proofs.Common.{◌≡◌, true, List, sym, ap, subst, ◌∙◌, Some, None, Result, Ok, Err}
use Rattle.st_tokens.specs.Stream.{Lexeme}
use Rattle.st_linear.specs.Linear.{Linear}
use Rattle.st_form.specs.Formula.{Formula}
use Rattle.st_program.specs.Tree.{Term, number, truth}
use Rattle.expression_parser.specs.ExpressionTree.{Expr, start_of}
use Rattle.expression_parser.specs.Grammar.{Inside, IsSum, SpellsWithin}
use Rattle.expression_typer.specs.declared.fault.TypeFault.{TypeFault}
use Rattle.expression_typer.specs.Answers.{◌>>=◌}
use Rattle.expression_typer.specs.Scope.{Names}
use Rattle.expression_typer.specs.Naming.{names_of}
use Rattle.expression_typer.specs.Typing.{typed_by, as_truth, as_number}
use Rattle.expression_typer.specs.Rules.{meaning_by, faults_by}
use Rattle.expression_typer.specs.Told.{Told, IsWritten, IsModest}
use Rattle.expression_typer.proofs.Tells.{told_by}
use Rattle.assertions.specs.Reading.{number_of, truth_of}
use Rattle.proof_script.specs.Listing.{Setting}
use Rattle.proof_grammar.specs.Units.{IsFormula, IsNumber}
use Rattle.proof_grammar.proofs.Modest.{formulas_modest, sums_modest}

module _ (names : Names) (e : Expr) (modest : IsModest e) where
  abbrev Tells : Result Term TypeFault → Type 0
  Tells r = Told IsWritten r (faults_by names e) (meaning_by names e)

  means : (x : Term) → typed_by names e ≡ Ok x → meaning_by names e ≡ Some x
  means x h = let t : Tells (Ok x) = subst Tells h (told_by names e modest) in t.1

  types : (x : Term) → meaning_by names e ≡ Some x → typed_by names e ≡ Ok x
  types x h = at_typed (typed_by names e) (told_by names e modest)
    where
      same : (y : Term) → Some y ≡ Some x → y ≡ x
      same y i = cc

      at_typed : (r : Result Term TypeFault) → Tells r → r ≡ Ok x
      at_typed (Ok y) t = ap (λ (z : Term). Ok z) (same y (sym t.1 ∙ h))
      at_typed (Err f) t = absurd (let none : None ≡ Some x = sym t.1 ∙ h in cc)

  -- a formula
  truth_was : (r : Result Term TypeFault) (f : Formula) → (r >>= λ x. as_truth (start_of e) x) ≡ Ok f → r ≡ Ok (truth f)
  truth_was (Ok (truth g)) f h = let same : g ≡ f = cc in ap (λ (z : Formula). Ok (truth z)) same
  truth_was (Ok (number g)) f h = absurd cc
  truth_was (Err x) f h = absurd cc

  truth_means : (f : Formula) → truth_of names e ≡ Ok f → meaning_by names e ≡ Some (truth f)
  truth_means f h = means (truth f) (truth_was (typed_by names e) f h)

  truth_types : (f : Formula) → meaning_by names e ≡ Some (truth f) → truth_of names e ≡ Ok f
  truth_types f h = ap (λ (r : Result Term TypeFault). r >>= λ x. as_truth (start_of e) x) (types (truth f) h)

  -- an integer expression
  number_was : (r : Result Term TypeFault) (f : Linear) → (r >>= λ x. as_number (start_of e) x) ≡ Ok f → r ≡ Ok (number f)
  number_was (Ok (number g)) f h = let same : g ≡ f = cc in ap (λ (z : Linear). Ok (number z)) same
  number_was (Ok (truth g)) f h = absurd cc
  number_was (Err x) f h = absurd cc

  number_means : (f : Linear) → number_of names e ≡ Ok f → meaning_by names e ≡ Some (number f)
  number_means f h = means (number f) (number_was (typed_by names e) f h)

  number_types : (f : Linear) → meaning_by names e ≡ Some (number f) → number_of names e ≡ Ok f
  number_types f h = ap (λ (r : Result Term TypeFault). r >>= λ x. as_number (start_of e) x) (types (number f) h)

-- of scripts
module _ (g : Setting) where
  pub formula_typed : (ts : List Lexeme) (f : Formula) (l : IsFormula g ts f) → truth_of (names_of g.names) l.tree ≡ Ok f
  formula_typed ts f l = truth_types (names_of g.names) l.tree (formulas_modest true 32 ts l.tree l.spells) f l.means

  pub formula_meant : (ts : List Lexeme) (f : Formula) (e : Expr) → SpellsWithin true 32 ts e → truth_of (names_of g.names) e ≡ Ok f → IsFormula g ts f
  formula_meant ts f e l h = record { tree = e; spells = l; means = truth_means (names_of g.names) e (formulas_modest true 32 ts e l) f h }

  pub number_typed : (ts : List Lexeme) (f : Linear) (l : IsNumber g ts f) → number_of (names_of g.names) l.tree ≡ Ok f
  number_typed ts f l = number_types (names_of g.names) l.tree (sums_modest true 32 ts l.tree l.spells) f l.means

  pub number_meant : (ts : List Lexeme) (f : Linear) (e : Expr) → IsSum true (Inside true 32) ts e → number_of (names_of g.names) e ≡ Ok f → IsNumber g ts f
  number_meant ts f e l h = record { tree = e; spells = l; means = number_means (names_of g.names) e (sums_modest true 32 ts e l) f h }
