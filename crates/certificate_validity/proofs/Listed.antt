-- Formulas as lists.
use Rattle.std.proofs.Common.{◌≡◌, List, [], ◌∷◌, ◌++◌, refl, ap}
use Rattle.st_form.specs.Formula.{Formula, Formulas, none, more, formulas}
use Rattle.st_form.specs.Simple.{append}

abbrev pub listed : Formulas → List Formula
listed none = []
listed (more f fs) = f ∷ listed fs

pub formulas_listed : (fs : Formulas) → formulas (listed fs) ≡ fs
formulas_listed none = refl
formulas_listed (more f fs) = ap (more f) (formulas_listed fs)

pub listed_formulas : (fs : List Formula) → listed (formulas fs) ≡ fs
listed_formulas [] = refl
listed_formulas (f ∷ fs) = ap (λ l. f ∷ l) (listed_formulas fs)

pub append_formulas : (fs gs : List Formula) → append (formulas fs) (formulas gs) ≡ formulas (fs ++ gs)
append_formulas [] gs = refl
append_formulas (f ∷ fs) gs = ap (more f) (append_formulas fs gs)

pub append_again : (fs gs hs : Formulas) → append (append fs gs) hs ≡ append fs (append gs hs)
append_again none gs hs = refl
append_again (more f fs) gs hs = ap (more f) (append_again fs gs hs)
