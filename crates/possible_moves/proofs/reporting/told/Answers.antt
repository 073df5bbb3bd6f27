use Rattle.std.proofs.lemmas.Result.{IfOk-weaker}
use Rattle.possible_moves.proofs.Reports.{reported}
use Rattle.possible_moves.proofs.reporting.told.Goals as goal

pub returns : goal.returns
returns c =
    IfOk-weaker c.reported.result _ _ (reported c.args.source.now c.args.schedule.now c.args.reached.now c.requires.leads c.args.texts.now.program.now c.args.texts.now.schedule.now c.requires.typed c.requires.spells) c.reported.ensures
