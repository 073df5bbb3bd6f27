use Rattle.std.proofs.Common.{rules, ◌≡◌, ◌∙◌, sym, IsTrue}
use Rattle.st_form.specs.Formula.{row}
use Rattle.st_form.specs.Plain.{plain}
use Rattle.st_linear.specs.Linear.{is_small, number}
use Rattle.transition_system.specs.Plain.{plain_mode}
use Rattle.vc_generator.proofs.Differences.{number-falls}
use Rattle.vc_generator.proofs.falls.number_fall.Goals as goal

pub returns-in-Some : goal.returns-in-Some
returns-in-Some c =
    let known : plain c.in-Some.same ≡ row (number c.difference-difference.result) = search rules in
    let small : IsTrue (is_small c.difference-difference.result) = search rules in
    known ∙ sym (number-falls (plain_mode c.args.mode.now) c.args.behind.now c.args.before.now _ c.requires.behind c.requires.before c.difference-difference.ensures small)
