use Rattle.run_reports.proofs.reading.translated_program.Goals as goal

pub returns-in-Ok-clause-translated : goal.returns-in-Ok-clause-translated
returns-in-Ok-clause-translated c = c.in-Ok.ensures.made.made
