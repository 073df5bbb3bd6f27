use Rattle.std.proofs.Common.{◌≤◌, length, ◌∙◌, sym, arith}
use Rattle.st_form.proofs.Nodes.{plain-And, plain-Or}
use Rattle.st_form.proofs.Simples.{closed-every, closed-some}
use Rattle.st_form.proofs.parts.closed.Goals as goal

pub returns-then-all : goal.returns-then-all
returns-then-all c =
    let two : 2 ≤ length c.args.fs.items = omega (arith, c.args.fs.ok.0) in
    plain-And c.args.fs ∙ sym (closed-every c.args.all c.args.fs.items two c.if-all.true)

pub returns-else-all : goal.returns-else-all
returns-else-all c =
    let two : 2 ≤ length c.args.fs.items = omega (arith, c.args.fs.ok.0) in
    plain-Or c.args.fs ∙ sym (closed-some c.args.all c.args.fs.items two c.if-all.false)
