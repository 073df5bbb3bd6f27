use Rattle.explanations.proofs.Outlines.{no-proof}
use Rattle.explanations.proofs.outlining.outline_over.Goals as goal

pub returns-in-None-clause-refused : goal.returns-in-None-clause-refused
returns-in-None-clause-refused c none =
    no-proof c.args.texts.now.program.now c.args.texts.now.proof.now c.args.source.now c.requires (c.in_ok-script.ensures.refused c.in-None.is)
