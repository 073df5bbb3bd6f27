use Rattle.st_form.proofs.Simples.{takes-push}
use Rattle.std.proofs.Common.{refl}
use Rattle.st_form.proofs.parts.put.Goals as goal

pub returns : goal.returns
returns c = rw c.in_ok-push.ensures.items (takes-push c.args.all _ c.args.part _ refl c.requires)
