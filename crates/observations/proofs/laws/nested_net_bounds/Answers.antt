use Rattle.observations.proofs.NestedBound.{response_by_nested}
use Rattle.observations.proofs.laws.nested_net_bounds.Goals as goal

pub returns : goal.returns
returns g c nodes p q e o net = response_by_nested nodes p q e o net
