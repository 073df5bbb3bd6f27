use Rattle.std.proofs.lemmas.Result.{IfOk-weaker}
use Rattle.spl_parser.specs.ProgramTree.{program_view}
use Rattle.posed_conditions.proofs.Translating.{of_text}
use Rattle.posed_conditions.proofs.translated.translate_text.Goals as goal

pub returns-in-Ok-clause-made : goal.returns-in-Ok-clause-made
returns-in-Ok-clause-made c =
    IfOk-weaker c.translate_raw.result _ _ (λ x h. of_text c.args.text.now (program_view c.in-Ok.raw) x c.in-Ok.ensures.reads h) c.translate_raw.ensures.made
