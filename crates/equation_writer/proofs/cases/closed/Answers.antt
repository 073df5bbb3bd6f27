use Rattle.std.proofs.Common.{◌≤◌, length, ◌∙◌, sym, arith}
use Rattle.st_form.proofs.Nodes.{plain-And, plain-Or}
use Rattle.st_form.proofs.Simples.{closed-every, closed-some}
use Rattle.equation_writer.proofs.cases.closed.Goals as goal

pub returns-then-all-2 : goal.returns-then-all-2
returns-then-all-2 c =
    let two : 2 ≤ length c.args.parts.items = omega (arith, c.args.parts.ok.0) in
    plain-And c.args.parts ∙ sym (closed-every c.args.all c.args.parts.items two c.if-all-2.true)

pub returns-else-all-2 : goal.returns-else-all-2
returns-else-all-2 c =
    let two : 2 ≤ length c.args.parts.items = omega (arith, c.args.parts.ok.0) in
    plain-Or c.args.parts ∙ sym (closed-some c.args.all c.args.parts.items two c.if-all-2.false)
