use Rattle.std.proofs.Common.{◌-◌, ◌*◌, codes, ◌≡◌, ◌++◌, ◌+◌, ◌∙◌, ap, arith}
use Rattle.std.specs.Fmt.{decimal}
use Rattle.step_workload.specs.Parts.{filled, each_from}
use Rattle.step_workload.specs.Texts.{waits}
use Rattle.step_workload.proofs.Each.{chain5}
use Rattle.step_workload.proofs.texts.push_access.Goals as goal

pub returns : goal.returns
returns c =
    let count : c.args.n + 1 - 2 ≡ c.args.n - 1 = omega arith in
    let each : c.push_each.new.out.items ≡ c.push_text-2.new.out.items ++ each_from (λ j. filled j waits) 2 (c.args.n - 1) = c.in_ok-push_each.ensures ∙ ap (λ k. c.push_text-2.new.out.items ++ each_from (λ j. filled j waits) 2 k) count in
    chain5 c.args.out.now.items c.push_text.new.out.items c.push_number.new.out.items c.push_text-2.new.out.items c.push_each.new.out.items c.push_text-3.new.out.items
    (codes " response enter: at p1_2 leads at p1_3 within ") (decimal (2 * c.args.n - 1)) (codes " by fair p1_2 [ ") (each_from (λ j. filled j waits) 2 (c.args.n - 1))
    (codes "at p1_2 /\\ y >= 1 ] using mux;\n") c.in_ok-push_text.ensures c.in_ok-push_number.ensures c.in_ok-push_text-2.ensures each c.in_ok-push_text-3.ensures
