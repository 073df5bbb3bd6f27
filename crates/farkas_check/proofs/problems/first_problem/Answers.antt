use Rattle.st_form.specs.Shared.{given_of, shown_of}
use Rattle.farkas_check.proofs.Bounds.{modest-narrow}
use Rattle.farkas_check.proofs.problems.first_problem.Goals as goal

pub normal-requires : goal.normal-requires
normal-requires c = rw c.in_ok-opposed.ensures (modest-narrow (given_of c.args.condition.now) c.requires.given, (modest-narrow (shown_of c.args.condition.now) c.requires.shown, tt))
