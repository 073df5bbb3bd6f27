-- Expressions that stand for what they mean.
use Rattle.std.specs.Prelude.{List, Some, ◌≡◌}
use Rattle.st_tokens.specs.Stream.{Lexeme}
use Rattle.st_program.specs.Tree.{Term}
use Rattle.expression_parser.specs.ExpressionTree.{Expr}
use Rattle.expression_typer.specs.Rules.{meaning_by}
use Rattle.expression_typer.specs.Scope.{Names}

-- the tokens spell an expression that means this, by what the names stand for
pub record Meant (spelled : List Lexeme → Expr → Type 0) (names : Names) (ts : List Lexeme) (x : Term) : Type 0 where
  pub tree : Expr
  pub spells : spelled ts tree
  pub means : meaning_by names tree ≡ Some x
