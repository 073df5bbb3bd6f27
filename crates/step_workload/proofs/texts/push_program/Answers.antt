use Rattle.std.proofs.Common.{◌++◌, ◌-◌, codes, ◌≡◌, ◌+◌, ◌∙◌, ap, arith}
use Rattle.step_workload.specs.Parts.{filled, each_from}
use Rattle.step_workload.specs.Texts.{process}
use Rattle.step_workload.proofs.Each.{chain4}
use Rattle.step_workload.proofs.texts.push_program.Goals as goal

pub returns : goal.returns
returns c =
    let count : c.args.n + 1 - 2 ≡ c.args.n - 1 = omega arith in
    let each : c.push_each.new.out.items ≡ c.push_filled.new.out.items ++ each_from (λ i. filled i (codes " || " ++ process)) 2 (c.args.n - 1) = c.in_ok-push_each.ensures ∙ ap (λ k. c.push_filled.new.out.items ++ each_from (λ i. filled i (codes " || " ++ process)) 2 k) count in
    chain4 c.args.out.now.items c.push_text.new.out.items c.push_filled.new.out.items c.push_each.new.out.items c.push_text-2.new.out.items (codes "local y: integer where y = 1; ")
    (filled 1 process) (each_from (λ i. filled i (codes " || " ++ process)) 2 (c.args.n - 1)) (codes "\n") c.in_ok-push_text.ensures c.in_ok-push_filled.ensures each
    c.in_ok-push_text-2.ensures
