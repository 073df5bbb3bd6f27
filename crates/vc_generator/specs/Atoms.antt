-- How many atoms each kind of condition has. They are counted before it is built.
use Rattle.std.specs.Prelude.{ℕ, ◌+◌, List, [], ◌∷◌, length}
use Rattle.st_linear.specs.Linear.{Linear}
use Rattle.st_form.specs.Formula.{Formula, atoms}
use Rattle.st_form.specs.Exchange.{atoms_behind}
use Rattle.transition_system.specs.Systems.{PlainMode, System}

-- a case of where a step may lead: a formula that holds before the step, one that holds behind it, and pairs of numbers,
-- of which the first behind the step is at most the second before it
pub record PlainCase : Type 0 where
  pub now : Formula
  pub behind : Formula
  pub falls : List (Linear × Linear)

abbrev pub atoms_in : List Formula → ℕ
atoms_in [] = 0
atoms_in (f ∷ fs) = atoms f + atoms_in fs

-- how many atoms each kind of condition has
abbrev pub start_atoms : System → List Formula → Formula → ℕ
start_atoms system lemmas f = atoms_in lemmas + (atoms system.initial + atoms f)

abbrev pub entails_atoms : List Formula → Formula → Formula → ℕ
entails_atoms lemmas given shown = atoms_in lemmas + (atoms given + atoms shown)

abbrev pub mode_atoms : PlainMode → List Formula → Formula → ℕ
mode_atoms m lemmas before = atoms_in lemmas + (atoms before + (length m.at + atoms m.guard))

abbrev pub triple_atoms : PlainMode → List Formula → Formula → Formula → Formula → ℕ
triple_atoms m lemmas before behind now = mode_atoms m lemmas before + (atoms_behind m.change behind + atoms now)

abbrev pub cases_atoms : PlainMode → List PlainCase → ℕ
cases_atoms m [] = 0
cases_atoms m (c ∷ cs) = (atoms c.now + (atoms_behind m.change c.behind + length c.falls)) + cases_atoms m cs

abbrev pub moved_atoms : PlainMode → List Formula → Formula → List PlainCase → ℕ
moved_atoms m lemmas before cases = mode_atoms m lemmas before + cases_atoms m cases
