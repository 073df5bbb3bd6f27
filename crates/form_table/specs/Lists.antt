-- Lists of conjuncts by number: the number of a list is that of the conjunction of its conjuncts, also where there are none
-- or one.
use Rattle.std.specs.Prelude.{ℕ, true, List, [], ◌∷◌, Option, Some, None}
use Rattle.std.specs.declared.vec.Vec.{Vec}
use Rattle.std.specs.declared.alloc.Global.{Global}
use Rattle.st_form.specs.Formula.{Formula, Formulas, negation, every, none, more}
use Rattle.st_form.specs.Simple.{opened, parts, simple, nothing}
use Rattle.form_table.specs.Table.{formula, listed, AreThere, Is}

-- the conjuncts of a list
abbrev pub conjuncts_of : List Formula → ℕ → Formulas
conjuncts_of ts n = opened (formula ts n)

abbrev pub IsList : List Formula → ℕ → Type 0
IsList ts n = Is ts n (every (conjuncts_of ts n))

-- the number of a list, or none where one of its conjuncts is false
abbrev pub IsListed : List Formula → Option ℕ → Option Formulas → Type 0
IsListed ts None None = Unit {0}
IsListed ts None (Some fs) = ⊥
IsListed ts (Some n) None = ⊥
IsListed ts (Some n) (Some fs) = Is ts n (every fs)

abbrev pub AreLists : List Formula → List ℕ → List Formulas → Type 0
AreLists ts [] [] = Unit {0}
AreLists ts [] (fs ∷ rest) = ⊥
AreLists ts (n ∷ ns) [] = ⊥
AreLists ts (n ∷ ns) (fs ∷ rest) = Is ts n (every fs) × AreLists ts ns rest

-- the numbers of the lists that a list is split into, or none where it isn't
abbrev pub AreSplit : List Formula → Option (Vec ℕ Global) → Option (List Formulas) → Type 0
AreSplit ts None None = Unit {0}
AreSplit ts None (Some lists) = ⊥
AreSplit ts (Some ns) None = ⊥
AreSplit ts (Some ns) (Some lists) = AreLists ts ns.items lists

-- the formulas of these numbers, or none where there are no numbers
abbrev pub listed_in : List Formula → Option (Vec ℕ Global) → Option Formulas
listed_in ts None = None
listed_in ts (Some ns) = Some (listed ts ns.items)

abbrev pub AllThere : List Formula → Option (Vec ℕ Global) → Type 0
AllThere ts None = Unit {0}
AllThere ts (Some ns) = AreThere ts ns.items

-- the conjuncts of a condition's problem: of what is given and of the opposite of what is shown
abbrev pub first_conjuncts : Formula → Formula → Option Formulas
first_conjuncts given shown = parts true (simple nothing (every (more given (more (negation shown) none))) true)
