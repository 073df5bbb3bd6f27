use Rattle.std.proofs.Common.{◌≡◌, drop}
use Rattle.std.specs.Option.{option_map}
use Rattle.st_form.specs.Plain.{plain_list}
use Rattle.st_form.specs.Exchange.{all_exchanged}
use Rattle.st_form.specs.Plain.{plain_change}
use Rattle.st_form.proofs.Exchanging.{onto}
use Rattle.st_form.proofs.+replace.Given as goal

abbrev pub invariant-replacement::replace_all-loop-f : goal.invariant-replacement::replace_all-loop-f
invariant-replacement::replace_all-loop-f l =
    option_map (onto l.out.items) (all_exchanged (plain_change l.change) (plain_list (drop l.f-index l.fs))) ≡ all_exchanged (plain_change l.change) (plain_list l.fs)
