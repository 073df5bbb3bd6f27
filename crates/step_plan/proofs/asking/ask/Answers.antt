use Rattle.std.proofs.Common.{inl, inr, refl, ap}
use Rattle.std.specs.Prelude.{Err}
use Rattle.step_plan.proofs.asking.ask.Goals as goal

pub returns-in_ok-end-in-Err-Failed-clause-comes : goal.returns-in_ok-end-in-Err-Failed-clause-comes
returns-in_ok-end-in-Err-Failed-clause-comes g c = inr (record {
  role = c.args.role;
  name = c.args.name.now;
  asked = inl (refl, refl);
  rose = c.in-Err-Failed.ensures.cause (ap Err c.in-Err-Failed.field-0-is);
  view = c.in_ok-end-in-Err-Failed.ensures;
})
