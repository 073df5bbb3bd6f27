use Rattle.std.proofs.Common.{rules}
use Rattle.st_program.specs.Groups.{is_written_number}
use Rattle.spl_translation.proofs.composing.is_written_number.Goals as goal

pub returns : goal.returns
unfolding is_written_number
returns c = search rules
