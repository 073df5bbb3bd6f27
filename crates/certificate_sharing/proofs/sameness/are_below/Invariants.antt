use Rattle.std.proofs.Common.{◌<◌, All, take}
use Rattle.certificate_sharing.proofs.sameness.are_below.Given as goal

abbrev pub invariant-loop-part : goal.invariant-loop-part
invariant-loop-part l = All (λ n. n < l.count) (take l.part-index l.parts)
