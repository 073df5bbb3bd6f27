-- Formulas whose text is read as them.
use Rattle.std.specs.Prelude.{◌≡◌, ℕ, zero, suc, Bool, true, false, List, [], ◌∷◌, Some, ℤ, ⊤}
use Rattle.st_linear.specs.Linear.{Linear, IsLinear}
use Rattle.st_form.specs.Formula.{Formula, Formulas, truth_value, row, equal, bool_var, at, negation, every, some, none, more}
use Rattle.st_program.specs.Names.{Names}
use Rattle.expression_typer.specs.Naming.{names_of}
use Rattle.expression_typer.specs.Written.{is_writable}
use Rattle.step_report.specs.Names.{variable_text, location_text}
use Rattle.declared_names.specs.Words.{IsWord}

-- the variable's name is a name of texts, and stands for it, by its type
pub record IsNamed (t : Names) (v : ℕ) (truth : Bool) : Type 0 where
  pub word : IsWord (variable_text t v)
  pub stands : (names_of t).variable (variable_text t v) ≡ Some (v, truth)

-- so does the location's label for it
pub record IsPlace (t : Names) (l : ℕ) : Type 0 where
  pub word : IsWord (location_text t l)
  pub stands : (names_of t).place (location_text t l) ≡ Some l

abbrev pub AreNumbers : Names → List (ℕ × ℤ) → Type 0
AreNumbers t [] = ⊤
AreNumbers t (e ∷ es) = IsNamed t e.0 false × AreNumbers t es

-- a sum of named integer variables, with numbers that texts may have
pub record IsPrintableSum (t : Names) (f : Linear) : Type 0 where
  pub linear : IsLinear f
  pub written : is_writable f ≡ true
  pub named : AreNumbers t f.entries

-- a conjunction or a disjunction that is printed has two parts or more
abbrev pub AreSeveral : Formulas → Type 0
AreSeveral none = ⊥
AreSeveral (more f none) = ⊥
AreSeveral (more f (more g fs)) = ⊤

abbrev mutual
  -- a formula of fewer levels than n, over named variables and labelled locations
  pub IsPrintable : Names → ℕ → Formula → Type 0
  IsPrintable t zero f = ⊥
  IsPrintable t (suc n) (truth_value b) = ⊤
  IsPrintable t (suc n) (row f) = IsPrintableSum t f
  IsPrintable t (suc n) (equal f) = IsPrintableSum t f
  IsPrintable t (suc n) (bool_var v) = IsNamed t v true
  IsPrintable t (suc n) (at l) = IsPlace t l
  IsPrintable t (suc n) (negation f) = IsPrintable t n f
  IsPrintable t (suc n) (every fs) = AreSeveral fs × ArePrintable t n fs
  IsPrintable t (suc n) (some fs) = AreSeveral fs × ArePrintable t n fs

  pub ArePrintable : Names → ℕ → Formulas → Type 0
  ArePrintable t n none = ⊤
  ArePrintable t n (more f fs) = IsPrintable t n f × ArePrintable t n fs
