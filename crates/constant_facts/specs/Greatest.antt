-- Which sets of facts the rules admit, and that one set is within another. The greatest such set is what propagation of constants
-- finds (Kildall, *A unified approach to global program optimization*, POPL 1973).
use Rattle.std.specs.Prelude.{◌≡◌, true, List}
use Rattle.list_laws.specs.Each.{Each}
use Rattle.st_program.specs.Member.{Member}
use Rattle.control_states.specs.Control.{ControlFacts}
use Rattle.transition_system.specs.Systems.{PlainMode, System}
use Rattle.constant_facts.specs.declared.fact.Fact.{Fact}
use Rattle.constant_facts.specs.Facts.{modes_of}
use Rattle.constant_facts.specs.Rules.{known_at, is_kept, decided, places, is_first}

-- each of the facts is kept by the mode, where all of them hold
abbrev pub IsKeptBy : ControlFacts → List Fact → PlainMode → Type 0
IsKeptBy k fs m = Each (λ f. is_kept (known_at m.at fs) (decided k m.at) m.change f ≡ true) fs

-- the facts are given by the start, and kept by each mode
pub record AreSteady (k : ControlFacts) (system : System) (fs : List Fact) : Type 0 where
  pub first : Each (λ f. is_first (decided k (places system.initial)) system.initial f ≡ true) fs
  pub kept : Each (IsKeptBy k fs) (modes_of system)

-- each of the facts is among the others
abbrev pub AreAmong : List Fact → List Fact → Type 0
AreAmong fs gs = (f : Fact) → Member f fs → Member f gs

-- of the candidates, those that stay have all that the rules admit
abbrev pub IsGreatest : ControlFacts → System → List Fact → List Fact → Type 0
IsGreatest k system candidates fs = (gs : List Fact) → AreSteady k system gs → AreAmong gs candidates → AreAmong gs fs
