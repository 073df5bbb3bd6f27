use Rattle.std.proofs.Common.{◌≡◌, ◌≢◌, length, drop, ap, refl, arith, pos}
use Rattle.std.specs.Prelude.{filter}
use Rattle.std.specs.Ordering.{int_eq}
use Rattle.std.proofs.lemmas.List.{drop_all}
use Rattle.equation_writer.proofs.Counting.{other-class}
use Rattle.equation_writer.proofs.limits.class_atoms.Goals as goal

pub returns : goal.returns
returns c =
    let k = c.args.class.now in
    let other : k ≢ pos 0 = λ e. c.if-class-eq0.false (rw e refl) in
    let none : length (filter (λ t. int_eq t.1 k) (drop c.loop-t.t-index c.args.terms.now)) ≡ 0 = ap (λ xs. length (filter (λ t. int_eq t.1 k) xs)) (drop_all c.loop-t.t-index c.args.terms.now c.loop-t-test.false) in
    omega (arith, other-class c.args.terms.now k other, none, c.loop-t.invariant.same)
