use Rattle.std.proofs.Common.{sym, subst}
use Rattle.explanations.specs.Explained.{AllStand}
use Rattle.explanations.proofs.Standing.{first_stand}
use Rattle.explanations.proofs.explaining.report.Goals as goal

pub failures-requires : goal.failures-requires
failures-requires c =
    let p = c.args.sources.now.posed.now in
    subst (AllStand p) (sym c.first.ensures) (first_stand p c.args.limit c.args.left.now c.requires)
