-- The plain data of each node, for proofs over formulas of the program.
use Rattle.std.proofs.Common.{◌≡◌, true, false, sym, ap, ◌∙◌}
use Rattle.std.proofs.Common.{Vec, Box, Global}
use Rattle.st_form.specs.Formula.{Formula, truth_value, negation, every, some}
use Rattle.st_form.specs.Plain.{plain, plain_list, node}
use Rattle.st_form.specs.declared.formulas.Form.{Form, True, False, Not, And, Or}
use Rattle.st_form.specs.declared.formulas.Form.TheOpen.{Form-F}
use Rattle.st_form.specs.declared.formulas.Form.TheFolds.{fold-roll-Form}
use Rattle.st_form.specs.declared.formulas.Form.TheViews.{rolls-True, rolls-False, rolls-Not, rolls-And, rolls-Or}

pub plain-Not : (b : Box Form Global) → plain (Not b) ≡ negation (plain b.value)
plain-Not b = ap plain (sym (rolls-Not b)) ∙ fold-roll-Form Formula node (Form-F.Not b)

pub plain-And : (fs : Vec Form Global) → plain (And fs) ≡ every (plain_list fs.items)
plain-And fs = ap plain (sym (rolls-And fs)) ∙ fold-roll-Form Formula node (Form-F.And fs)

pub plain-Or : (fs : Vec Form Global) → plain (Or fs) ≡ some (plain_list fs.items)
plain-Or fs = ap plain (sym (rolls-Or fs)) ∙ fold-roll-Form Formula node (Form-F.Or fs)

pub plain-True : plain True ≡ truth_value true
plain-True = ap plain (sym rolls-True) ∙ fold-roll-Form Formula node Form-F.True

pub plain-False : plain False ≡ truth_value false
plain-False = ap plain (sym rolls-False) ∙ fold-roll-Form Formula node Form-F.False

pub ruleset nodes = (plain-Not, plain-And, plain-Or)
