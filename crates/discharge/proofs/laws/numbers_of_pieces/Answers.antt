use Rattle.discharge.proofs.Numbers.{piece-within, some-piece, each-number}
use Rattle.discharge.proofs.laws.numbers_of_pieces.Goals as goal

pub returns-clause-within : goal.returns-clause-within
returns-clause-within c = piece-within

pub returns-clause-some : goal.returns-clause-some
returns-clause-some c = some-piece

pub returns-clause-each : goal.returns-clause-each
returns-clause-each c = each-number
