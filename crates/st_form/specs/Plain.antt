-- The types of the program as plain data.
use Rattle.std.specs.declared.vec.Vec.{Vec}
use Rattle.std.specs.declared.alloc.Global.{Global}
use Rattle.std.specs.Prelude.{true, false, List, map, Option, Some, None}
use Rattle.st_form.specs.Formula.{Formula, Formulas, truth_value, row, equal, bool_var, at, negation, every, some, formulas}
use Rattle.st_form.specs.Exchange.{Exchange}
use Rattle.st_form.specs.declared.formulas.Form.{Form}
use Rattle.st_form.specs.declared.replacement.Change.{Change}
use Rattle.st_form.specs.declared.formulas.Form.TheOpen.{Form-F}
use Rattle.st_form.specs.declared.formulas.Form.TheFolds.{fold-Form}

-- one node, with the plain data of each part in its place
abbrev pub node : Form-F Formula → Formula
node Form-F.True = truth_value true
node Form-F.False = truth_value false
node (Form-F.Row f) = row f
node (Form-F.Equal f) = equal f
node (Form-F.BoolVar v) = bool_var v
node (Form-F.At l) = at l
node (Form-F.Not f) = negation f.value
node (Form-F.And fs) = every (formulas fs.items)
node (Form-F.Or fs) = some (formulas fs.items)

-- a formula of the program as plain data
abbrev pub plain : Form → Formula
plain = fold-Form Formula node

abbrev pub plain_list : List Form → Formulas
plain_list fs = formulas (map plain fs)

abbrev pub plain_conjuncts : Option (Vec Form Global) → Option Formulas
plain_conjuncts None = None
plain_conjuncts (Some fs) = Some (plain_list fs.items)

-- a change of the program as plain data
abbrev pub plain_change : Change → Exchange
plain_change c = record {
  numbers = c.numbers.items;
  truths = map (λ p. (p.0, plain p.1)) c.truths.items;
  leaves = c.leaves.items;
  enters = c.enters.items;
}
