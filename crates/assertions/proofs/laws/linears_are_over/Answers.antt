use Rattle.std.proofs.Common.{true}
use Rattle.expression_parser.specs.Reading.{below, sum_of}
use Rattle.assertions.specs.Reading.{linear_of}
use Rattle.assertions.proofs.Over.{linear_over}
use Rattle.assertions.proofs.laws.linears_are_over.Goals as goal

pub returns : goal.returns
unfolding linear_of
returns c = λ vs locations names h s f rest e. linear_over vs locations names h (sum_of true (below true 32) s) f rest e
