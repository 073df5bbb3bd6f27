use Rattle.std.proofs.Common.{◌≡◌, drop}
use Rattle.st_form.specs.Plain.{plain_list}
use Rattle.spl_typer.specs.Measured.{no_size, all_sized}
use Rattle.spl_typer.proofs.measure.+sized.Given as goal

abbrev pub invariant-all_sized-loop-form : goal.invariant-all_sized-loop-form
invariant-all_sized-loop-form l =
    all_sized l.at l.numbers l.truths l.sum (plain_list (drop l.form-index l.forms)) ≡ all_sized l.at l.numbers l.truths no_size (plain_list l.forms)
