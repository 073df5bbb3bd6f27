use Rattle.std.proofs.Common.{codes, ◌≡◌, ◌++◌, ◌+◌, ◌-◌, ◌∙◌, ap, arith}
use Rattle.step_workload.specs.Parts.{filled, each_from}
use Rattle.step_workload.specs.Texts.{outside, alone_inside}
use Rattle.step_workload.proofs.Each.{chain5}
use Rattle.step_workload.proofs.texts.push_exclusion.Goals as goal

pub returns : goal.returns
returns c =
    let count : c.args.n + 1 - 1 ≡ c.args.n = omega arith in
    let each : c.push_each.new.out.items ≡ c.push_text.new.out.items ++ each_from (λ i. filled i outside) 1 (c.args.n) = c.in_ok-push_each.ensures ∙ ap (λ k. c.push_text.new.out.items ++ each_from (λ i. filled i outside) 1 k) count in
    chain5 c.args.out.now.items c.push_text.new.out.items c.push_each.new.out.items c.push_text-2.new.out.items c.push_each_alone.new.out.items c.push_text-3.new.out.items
    (codes "invariant mux: (y = 1") (each_from (λ i. filled i outside) 1 c.args.n) (codes ")") (each_from (alone_inside c.args.n) 1 c.args.n) (codes ";")
    c.in_ok-push_text.ensures each c.in_ok-push_text-2.ensures c.in_ok-push_each_alone.ensures c.in_ok-push_text-3.ensures
