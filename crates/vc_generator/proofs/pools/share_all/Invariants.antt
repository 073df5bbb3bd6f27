use Rattle.std.proofs.Common.{◌≡◌, ◌++◌, map, take}
use Rattle.st_form.specs.Plain.{plain}
use Rattle.vc_generator.proofs.pools.share_all.Given as goal

abbrev pub invariant-loop-form : goal.invariant-loop-form
invariant-loop-form l = map plain l.out.items ≡ map plain l.fn.out.items ++ map plain (take l.form-index l.forms)
