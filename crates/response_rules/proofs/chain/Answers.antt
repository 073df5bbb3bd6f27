use Rattle.std.proofs.Common.{◌^◌}
use Rattle.response_rules.proofs.Lengths.{few-chain}
use Rattle.response_rules.proofs.chain.Goals as goal

pub make_net-requires : goal.make_net-requires
make_net-requires c = few-chain c.in_ok-chain_nodes.field-0.items c.args.items.items (2 ^ 32) c.in_ok-chain_nodes.ensures c.requires
