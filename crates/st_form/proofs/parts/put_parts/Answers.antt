use Rattle.st_form.proofs.Simples.{plain_list-append}
use Rattle.std.proofs.Common.{refl}
use Rattle.st_form.proofs.parts.put_parts.Goals as goal

pub returns : goal.returns
returns c = rw c.in_ok-append.ensures.items (refl, plain_list-append _ _)
