use Rattle.std.proofs.Common.{sym, ◌∙◌}
use Rattle.expression_typer.proofs.Limits.{limited_then, limited_else}
use Rattle.expression_typer.proofs.linear.limited.Goals as goal

pub returns-then-is_writable : goal.returns-then-is_writable
returns-then-is_writable c = λ x h. limited_then c.args.at x _ _ c.in-Ok.is (sym c.is_writable.ensures ∙ c.if-is_writable.true) h

pub returns-else-is_writable : goal.returns-else-is_writable
returns-else-is_writable c = λ x h. limited_else c.args.at x _ _ c.in-Ok.is (sym c.is_writable.ensures ∙ c.if-is_writable.false) h
