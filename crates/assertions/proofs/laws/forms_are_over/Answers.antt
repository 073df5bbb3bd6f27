use Rattle.std.proofs.Common.{true}
use Rattle.expression_parser.specs.Reading.{below, expression_of}
use Rattle.assertions.specs.Reading.{form_of}
use Rattle.assertions.proofs.Over.{form_over}
use Rattle.assertions.proofs.laws.forms_are_over.Goals as goal

pub returns : goal.returns
unfolding form_of
returns c = λ vs locations names h s f rest e. form_over vs locations names h (expression_of true (below true 32) s) f rest e
