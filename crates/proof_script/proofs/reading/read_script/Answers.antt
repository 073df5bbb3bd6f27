use Rattle.std.proofs.Common.{ap, arith}
use Rattle.st_reading.specs.Reading.{size}
use Rattle.proof_script.proofs.Sizes.{text_size}
use Rattle.proof_script.proofs.reading.read_script.Goals as goal

pub steps-requires : goal.steps-requires
steps-requires c =
    let same = ap size c.new-tokens.ensures.tokens in
    let few = text_size c.args.text.now in
    let asked = c.requires in
    omega (arith, same, few, asked)
