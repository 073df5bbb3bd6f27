use Rattle.std.proofs.Common.{◌≤◌, arith, length, false, pos}
use Rattle.st_program.specs.declared.residuals.Datum.TheVariants.{Number}
use Rattle.spl_semantics.proofs.StoreFitting.{grown-fits, rest-fits, other-type, none-fit}
use Rattle.spl_semantics.proofs.fitting.store_fits.Goals as goal

pub loop-index-init : goal.loop-index-init
loop-index-init c = record {
  same = c.if-variables-store.false;
  grown = λ fits. fits;
  part = λ fits. fits;
}

pub returns-then-variables-index-clause-differs : goal.returns-then-variables-index-clause-differs
returns-then-variables-index-clause-differs c = λ _ fits.
    other-type c.args.variables.now c.args.store.now c.loop-index.index _ _ c.is_boolean.result c.if-variables-store.false c.loop-index-test.true c.is_boolean.ensures c.if-variables-index.true (c.loop-index.invariant.part fits)

pub loop-index-preserved : goal.loop-index-preserved
loop-index-preserved c = record {
  same = c.if-variables-store.false;
  grown = λ rest. c.loop-index.invariant.grown (grown-fits c.args.variables.now c.args.store.now c.loop-index.index _ _ c.is_boolean.result c.if-variables-store.false c.loop-index-test.true c.is_boolean.ensures c.if-variables-index.false rest);
  part = λ fits. rest-fits c.args.variables.now c.args.store.now c.loop-index.index record { input = false; truth = false } (Number (pos 0)) c.if-variables-store.false c.loop-index-test.true (c.loop-index.invariant.part fits);
}

pub returns-clause-fits : goal.returns-clause-fits
returns-clause-fits c = λ _. c.loop-index.invariant.grown (none-fit c.args.variables.now c.args.store.now c.loop-index.index c.if-variables-store.false (let past : length c.args.store.now ≤ c.loop-index.index = omega (arith, c.loop-index-test.false) in past))
