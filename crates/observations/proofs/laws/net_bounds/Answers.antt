use Rattle.observations.proofs.NetBound.{response_by_net}
use Rattle.observations.proofs.laws.net_bounds.Goals as goal

pub returns : goal.returns
returns g c nodes p q e o net = response_by_net nodes p q e o net
