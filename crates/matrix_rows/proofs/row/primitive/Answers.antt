use Rattle.matrix_rows.proofs.Mixed.{primitive-one, gives-primitive}
use Rattle.matrix_rows.proofs.row.primitive.Goals as goal

pub returns-then-divisor-eq1-clause-value : goal.returns-then-divisor-eq1-clause-value
returns-then-divisor-eq1-clause-value c = primitive-one c.args.form c.divisor-divisor.result c.divisor-divisor.ensures.value c.if-divisor-eq1.true

pub returns-clause-value : goal.returns-clause-value
returns-clause-value c = gives-primitive c.args.form c.divisor-divisor.result c.divided.result c.divisor-divisor.ensures.value c.divided.ensures
