use Rattle.std.proofs.Common.{refl, sym, ◌∙◌}
use Rattle.expression_typer.proofs.Texts.{text_utf8}
use Rattle.assertions.proofs.names.text_of.Goals as goal

pub returns-in-Err : goal.returns-in-Err
returns-in-Err c = absurd (c.in-Err.ensures.cases.0 (text_utf8 c.args.name.now _ refl (sym c.is_text.ensures ∙ c.if-not-is_text.false)))
