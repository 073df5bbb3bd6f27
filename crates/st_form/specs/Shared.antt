-- Conditions whose formulas are shared, as plain data.
use Rattle.std.specs.declared.vec.Vec.{Vec}
use Rattle.std.specs.declared.alloc.Global.{Global}
use Rattle.std.specs.Prelude.{List, [], ◌∷◌, map}
use Rattle.st_form.specs.Formula.{Formula, every, some, none, formulas}
use Rattle.st_form.specs.Condition.{Implication}
use Rattle.st_form.specs.Plain.{plain, plain_list}
use Rattle.st_form.specs.declared.formulas.Form.{Form}
use Rattle.st_form.specs.declared.conditions.Condition.{Condition}
use Rattle.st_form.specs.declared.conditions.Consequent.{Consequent}
use Rattle.st_form.specs.declared.conditions.Consequent.TheVariants.{One, Any}

-- the conjunction of formulas; a single formula is itself
abbrev pub together : List Formula → Formula
together [] = every none
together (f ∷ []) = f
together (f ∷ g ∷ fs) = every (formulas (f ∷ g ∷ fs))

abbrev pub case_of : Vec Form Global → Formula
case_of parts = together (map plain parts.items)

-- what is shown: a formula, or that one of the cases holds
abbrev pub consequent_of : Consequent → Formula
consequent_of (One f) = plain f
consequent_of (Any cases) = some (formulas (map case_of cases.items))

-- what is given and what is shown
abbrev pub given_of : Condition → Formula
given_of c = every (plain_list c.given.items)

abbrev pub shown_of : Condition → Formula
shown_of c = consequent_of c.shown

-- a condition of the program as plain data
abbrev pub plain_condition : Condition → Implication
plain_condition c = record { given = given_of c; shown = shown_of c; name = c.name }
