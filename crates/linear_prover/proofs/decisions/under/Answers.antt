use Rattle.std.proofs.Common.{ap, sym, ◌∙◌, arith}
use Rattle.st_form.specs.Plain.{plain}
use Rattle.st_form.specs.Simple.{tabled}
use Rattle.linear_prover.specs.Plain.{plain_each, plain_made}
use Rattle.linear_prover.proofs.Lending.{facts-here, under-more, under-done}
use Rattle.linear_prover.proofs.decisions.under.Goals as goal

pub loop-f-preserved : goal.loop-f-preserved
loop-f-preserved c =
    let facts = facts-here c.args.fs.now c.loop-f.f-index c.f-item.result (plain c.form-lent.result.now) (omega arith) c.f-item.is c.form-lent.ensures c.loop-f.invariant.settled c.loop-f.invariant.steady in
    record {
      settled = facts.0.1;
      steady = facts.1.1;
      same = under-more (tabled c.args.truths.now c.args.places.now) c.args.fs.now c.loop-f.f-index c.f-item.result (plain c.form-lent.result.now) (plain_each c.loop-f.out.items) (plain_each c.in-Some.next.items) _ (omega arith) c.f-item.is
          c.form-lent.ensures (sym (ap plain_made c.in-Some.is) ∙ c.in_ok-with_conjunct.ensures) c.loop-f.invariant.same;
    }

pub returns : goal.returns
returns c =
    under-done (tabled c.args.truths.now c.args.places.now) c.args.fs.now c.loop-f.f-index (plain_each c.loop-f.out.items) _ c.loop-f-test.false c.loop-f.invariant.same
