use Rattle.std.proofs.Common.{rules}
use Rattle.st_linear.specs.Linear.{is_within}
use Rattle.spl_translation.proofs.owning.push_own.Goals as goal

pub shifted-requires : goal.shifted-requires
unfolding is_within
shifted-requires c = search rules

pub shift-requires-in-Release : goal.shift-requires-in-Release
unfolding is_within
shift-requires-in-Release c = search rules
