use Rattle.st_form.specs.Plain.{plain, plain_change}
use Rattle.transition_system.proofs.Sizes.{suits-exchanged}
use Rattle.transition_system.proofs.transitions.after.Goals as goal

pub unreachable-requires : goal.unreachable-requires
unreachable-requires c =
    let h = rw c.in-Err-TooLarge.field-0-is at c.in-Err-TooLarge.ensures.exact in
    suits-exchanged (plain c.args.form.now) (plain_change c.args.mode.now.change) c.requires h
