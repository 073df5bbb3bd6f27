use Rattle.expression_parser.specs.Reading.{below, expression_of}
use Rattle.std.proofs.Common.{true}
use Rattle.assertions.specs.Reading.{form_of}
use Rattle.assertions.proofs.Named.{truths_named}
use Rattle.assertions.proofs.laws.form_faults_are_named.Goals as goal

pub returns : goal.returns
unfolding form_of
returns c = λ names s f e. truths_named names (expression_of true (below true 32) s) f e
