-- What is asked of the forms of a condition, and of the facts of control.
use Rattle.std.specs.Prelude.{◌≡◌, ℕ, ◌<◌, Some, length}
use Rattle.st_linear.specs.Linear.{Linear, AreEntries, AllBelow}
pub use Rattle.st_form.specs.Forms.{AllForms, AllFormsOf}
use Rattle.control_states.specs.Control.{ControlFacts, component_at}

-- variables rise and are below n, and no coefficient is 0
pub record IsProper (n : ℕ) (f : Linear) : Type 0 where
  pub entries : AreEntries f.entries
  pub below : AllBelow n f.entries

-- a component stands behind the one around it, and has an alternative
pub record IsInOrder (k : ControlFacts) : Type 0 where
  pub around : (c : ℕ) (w : ℕ × ℕ) → c < length k.components → (component_at k.components c).around ≡ Some w → w.0 < c
  pub choice : (c : ℕ) → c < length k.components → 0 < length (component_at k.components c).alternatives
