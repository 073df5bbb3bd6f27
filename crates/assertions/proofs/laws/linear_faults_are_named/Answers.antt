use Rattle.expression_parser.specs.Reading.{below, sum_of}
use Rattle.std.proofs.Common.{true}
use Rattle.assertions.specs.Reading.{linear_of}
use Rattle.assertions.proofs.Named.{numbers_named}
use Rattle.assertions.proofs.laws.linear_faults_are_named.Goals as goal

pub returns : goal.returns
unfolding linear_of
returns c = λ names s f e. numbers_named names (sum_of true (below true 32) s) f e
