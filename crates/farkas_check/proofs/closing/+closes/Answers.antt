use Rattle.farkas_check.specs.PlainProblem.{plain_posed}
use Rattle.st_form.specs.Plain.{plain_list}
use Rattle.farkas_check.proofs.Lengths.{same_lengths, same_cases, same_disjuncts}
use Rattle.farkas_check.proofs.closing.+closes.Goals as goal

pub close_each-returns-then-certificates-problems : goal.close_each-returns-then-certificates-problems
close_each-returns-then-certificates-problems t c = (λ no. absurd (cc), λ v. absurd (c.if-certificates-problems.true (same_lengths _ c.args.certificates.now c.args.problems.now v)))

pub close_each_case-returns-then-certificates-alternatives : goal.close_each_case-returns-then-certificates-alternatives
close_each_case-returns-then-certificates-alternatives t c = (λ no. absurd (cc), λ v. absurd (c.if-certificates-alternatives.true (same_cases _ c.args.certificates.now _ (plain_posed c.args.problem.now) (plain_list c.args.fs.now) c.args.component c.args.alternatives.now v)))

pub close_each_disjunct-returns-then-certificates-disjuncts : goal.close_each_disjunct-returns-then-certificates-disjuncts
close_each_disjunct-returns-then-certificates-disjuncts t c = (λ no. absurd (cc), λ v. absurd (c.if-certificates-disjuncts.true (same_disjuncts _ c.args.certificates.now (plain_posed c.args.problem.now) _ _ c.args.disjuncts.now v)))
