use Rattle.std.proofs.lemmas.Result.{IfOk-weaker}
use Rattle.table_check.proofs.Remembered.{same-more}
use Rattle.table_check.proofs.memo.keep.Goals as goal

pub returns : goal.returns
returns c = λ us ts known same. IfOk-weaker c.put.result _ _ (λ u put. same-more c.args.turn us ts c.args.known.now.items c.put.new.known.items c.args.found c.args.given known same put) c.put.ensures
