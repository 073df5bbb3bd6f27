use Rattle.std.proofs.Common.{◌+◌, ◌-◌, ◌*◌, drop, get_or, arith}
use Rattle.std.proofs.lemmas.List.{at_drop_more}
use Rattle.shared_certificates.specs.Reading.{value_behind}
use Rattle.shared_reading.proofs.Values.{value-grows}
use Rattle.shared_reading.proofs.numbers.value_within.Goals as goal

pub returns-then-value-most : goal.returns-then-value-most
returns-then-value-most c =
    let ds = c.args.digits.now in
    let i = c.loop-b.b-index in
    let step = at_drop_more (value_behind c.loop-b.value) ds i 0 c.loop-b-test.true in
    omega (arith, step, value-grows (c.loop-b.value * 10 + (get_or ds i 0 - 48)) (drop (i + 1) ds))
