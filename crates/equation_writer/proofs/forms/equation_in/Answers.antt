use Rattle.std.proofs.Common.{◌≡◌, ◌+ℤ◌, Some, ap, sym, ◌∙◌}
use mir.Syntax.{w128}
use mir.Val.{to_z, of_z}
use Rattle.farkas_leaf.proofs.Products.{to_z-below}
use Rattle.st_linear.specs.Linear.{of_entries}
use Rattle.linear_invariants.specs.Plain.{plain_equation}
use Rattle.equation_writer.proofs.Limiting.{slight-sum, slight-size, equation-made}
use Rattle.equation_writer.proofs.forms.equation_in.Goals as goal

pub unreachable-requires : goal.unreachable-requires
unreachable-requires c =
    let e = plain_equation c.args.equation.now in
    let z = e.constant +ℤ c.args.added.now in
    let s = slight-sum e c.args.added.now c.requires.slight in
    let sum : to_z w128 (of_z w128 c.sum.result) ≡ z = ap (λ x. to_z w128 (of_z w128 x)) c.sum.ensures ∙ to_z-below z (slight-size z s) in
    let made : of_entries (to_z w128 (of_z w128 c.sum.result)) c.deref.result.now ≡ Some (record { constant = z; entries = e.numbers }) =
    ap (λ x. of_entries x c.deref.result.now) sum ∙ ap (of_entries z) c.deref.ensures.value ∙ equation-made e z c.requires.proper.numbers s in
    let none = sym c.in-None.is ∙ c.in_ok-form.ensures.exact ∙ made in
    absurd (cc)
