use Rattle.std.proofs.Common.{◌^◌}
use Rattle.response_rules.proofs.Lengths.{few-fair}
use Rattle.response_rules.proofs.fair.Goals as goal

pub make_net-requires : goal.make_net-requires
make_net-requires c = few-fair c.args.group c.in_ok-fair_nodes.field-0.items c.args.items.items (2 ^ 32) c.in_ok-fair_nodes.ensures c.requires
