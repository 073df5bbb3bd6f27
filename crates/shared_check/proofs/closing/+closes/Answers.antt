use Rattle.form_table.specs.Contents.{formulas_of}
use Rattle.shared_check.proofs.Answering.{equal-lengths}
use Rattle.shared_check.proofs.closing.+closes.Goals as goal

pub close_each-returns-then-certificates-problems-clause-exact : goal.close_each-returns-then-certificates-problems-clause-exact
close_each-returns-then-certificates-problems-clause-exact t c = (λ no. absurd (cc), λ v. absurd (c.if-certificates-problems.true (equal-lengths _ (formulas_of c.args.table.now) c.args.certificates.now c.args.problems.now v)))
