use Rattle.std.proofs.Common.{arith}
use Rattle.std.proofs.lemmas.Result.{err_from_is_err_and}
use Rattle.elimination_laws.specs.Stages.{made}
use Rattle.lean_elimination.specs.Arenas.{tracks, listed}
use Rattle.lean_elimination.proofs.Skipping.{stage-free, sifted-few, stages-after, stages-stop, length-listed}
use Rattle.lean_elimination.proofs.top.all_stages.Goals as goal
use Rattle.lean_elimination.proofs.top.all_stages.Goals.{then-not-are_free+in_ok-current, else-not-are_free}

pub returns-in_err-current : goal.returns-in_err-current
returns-in_err-current c =
    let p = err_from_is_err_and c.from_residual.result c.from_residual.ensures.1 in
    rw (p.1, p.2) (stages-stop c.args.variables c.loop-v.v (listed (tracks c.loop-v.arena.rows.items) c.loop-v.current.items) _ c.in_err-current.field-0.0 _ (omega arith) c.in_err-current.ensures c.loop-v.invariant.same)

pub loop-v-preserved : goal.loop-v-preserved
loop-v-preserved c = elim c.if-not-are_free.branch [
  | then-not-are_free+in_ok-current w ↦ rw (w.arena-is, w.current-is) (let f = sifted-few (made c.loop-v.v (listed (tracks c.loop-v.arena.rows.items) c.loop-v.current.items)) 4096 _ w.in_ok-current.ensures.same in record {
    under = w.in_ok-current.ensures.under;
    stay = f.stay;
    few = omega (arith, f.few, length-listed (tracks w.run_stage.new.arena.rows.items) w.in_ok-current.current.items);
    same = λ ps h. c.loop-v.invariant.same ps (stages-after c.args.variables c.loop-v.v (listed (tracks c.loop-v.arena.rows.items) c.loop-v.current.items) _ ps (omega arith) w.in_ok-current.ensures.same h);
  })
  | else-not-are_free w ↦ rw (w.arena-is, w.current-is) record {
    under = c.loop-v.invariant.under;
    stay = c.loop-v.invariant.stay;
    few = c.loop-v.invariant.few;
    same = λ ps h. c.loop-v.invariant.same ps (stages-after c.args.variables c.loop-v.v (listed (tracks c.loop-v.arena.rows.items) c.loop-v.current.items) (listed (tracks c.loop-v.arena.rows.items) c.loop-v.current.items) ps (omega arith) (stage-free c.loop-v.v (listed (tracks c.loop-v.arena.rows.items) c.loop-v.current.items) (rw c.deref.ensures.value at (c.are_free.ensures w.if-not-are_free.false)) c.loop-v.invariant.stay (omega (arith, length-listed (tracks c.loop-v.arena.rows.items) c.loop-v.current.items, c.loop-v.invariant.few))) h);
  }
]
