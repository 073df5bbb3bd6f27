-- Fair transition systems as plain data.
--
-- A transition has one or more modes. A mode is guarded: it can be taken where control is at each of its locations and
-- its guard holds. It replaces variables at once, leaves its locations and enters others. The systems are those of Manna
-- and Pnueli, *Temporal Verification of Reactive Systems: Safety*, section 0.1, with control kept apart from the store.
use Rattle.std.specs.Prelude.{ℕ, ◌-◌, ◌^◌, ◌<◌, Bool, List, [], ◌∷◌, length, ⊤}
use Rattle.st_form.specs.Formula.{Formula}
use Rattle.st_form.specs.Exchange.{Exchange}
use Rattle.st_form.specs.declared.conditions.TransName.{TransName}
use Rattle.observations.specs.declared.Fairness.{Fairness}

pub record PlainMode : Type 0 where
  pub at : List ℕ
  pub guard : Formula
  pub change : Exchange

pub record PlainTransition : Type 0 where
  pub name : TransName
  pub fairness : Fairness
  pub modes : List PlainMode

-- how many locations there are, whether each variable is boolean, what holds at the beginning, and the transitions
pub record System : Type 0 where
  pub locations : ℕ
  pub truths : List Bool
  pub initial : Formula
  pub transitions : List PlainTransition

-- the modes of a transition are numbered from 1 by 32 bits
abbrev pub FewModes : List PlainTransition → Type 0
FewModes [] = ⊤
FewModes (t ∷ ts) = (length t.modes < 2 ^ 32 - 1) × FewModes ts

abbrev pub HasFewModes : System → Type 0
HasFewModes system = FewModes system.transitions
