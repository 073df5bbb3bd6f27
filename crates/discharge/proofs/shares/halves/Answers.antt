use Rattle.discharge.proofs.Dealing.{left_stride, right_stride}
use Rattle.discharge.proofs.shares.halves.Goals as goal

pub returns-clause-left_stride : goal.returns-clause-left_stride
returns-clause-left_stride c = left_stride c.args.share.stride c.args.share.workers c.requires.some c.requires.strides

pub returns-clause-right_stride : goal.returns-clause-right_stride
returns-clause-right_stride c = right_stride c.args.share.stride c.args.share.workers c.requires.some c.requires.strides
