use Rattle.st_form.specs.Plain.{plain_list}
use Rattle.st_form.specs.Simple.{tabled}
use Rattle.farkas_check.proofs.Bounds.{all-modest-settled, fit-again}
use Rattle.farkas_check.proofs.problems.pose.Goals as goal

pub simple_conjuncts-requires : goal.simple_conjuncts-requires
simple_conjuncts-requires c = all-modest-settled (plain_list c.args.fs.now) c.requires

pub returns-clause-fit : goal.returns-clause-fit
returns-clause-fit c =
    rw c.in_ok-conjuncts.ensures (fit-again (tabled c.as_slice-2.result.now c.as_slice-3.result.now) (plain_list c.args.fs.now) c.requires)
