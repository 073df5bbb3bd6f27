use Rattle.std.proofs.Common.{sym, ◌∙◌}
use Rattle.expression_typer.proofs.Texts.{text_utf8}
use Rattle.spl_typer.proofs.Tables.{not_ok}
use Rattle.spl_typer.proofs.names.text_of.Goals as goal

pub returns : goal.returns
returns c = absurd (not_ok (c.in-Err.ensures.succeeds (text_utf8 c.args.name.now _ c.in_ok-from_slice.ensures.items (sym c.is_text.ensures ∙ c.if-not-is_text.false))))
