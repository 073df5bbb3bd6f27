-- How a step moves control: one component goes from one of its places to another, and with it the children of the cooperation
-- that it enters or leaves.
use Rattle.std.specs.Prelude.{◌≡◌, ℕ, ◌<◌, true, ◌↔◌, List, [], ◌∷◌, length, slice_get, Some}
use Rattle.st_form.specs.Formula.{Situation}
use Rattle.st_form.specs.Exchange.{Exchange, is_listed}
use Rattle.st_form.specs.declared.conditions.Part.TheVariants.{Whole, Entry, Exit}
use Rattle.st_form.specs.declared.conditions.TransName.{TransName}
use Rattle.st_form.specs.declared.conditions.TransName.TheVariants.{Step}
use Rattle.control_states.specs.declared.alternative.Alternative.{Alternative}
use Rattle.control_states.specs.declared.alternative.Alternative.TheVariants.{Location, Inside}
use Rattle.control_states.specs.Control.{ControlFacts, component_at, Active, IsOneOf, InControl}
use Rattle.shown_states.specs.declared.pictures.Picture.{Picture}
use Rattle.shown_states.specs.Pictures.{seen}
use Rattle.shown_states.specs.Places.{place_of}

-- an alternative of a component
abbrev pub CanBe : ControlFacts → ℕ → Alternative → Type 0
CanBe k c a = IsOneOf a (component_at k.components c).alternatives

-- the locations that a component can be at are its own
abbrev pub HasOwnLocations : ControlFacts → Type 0
HasOwnLocations k = (c l : ℕ) → CanBe k c (Location l) → slice_get k.owners l ≡ Some c

-- a child of the cooperation o, in the component c
abbrev pub IsChild : ControlFacts → ℕ → ℕ → ℕ → Type 0
IsChild k c o d = (d < length k.components) × ((component_at k.components d).around ≡ Some (c, o))

-- one location of each child of the cooperation, which has some
pub record OneOfEach (k : ControlFacts) (c o : ℕ) (ls : List ℕ) : Type 0 where
  pub first : (d : ℕ) × IsChild k c o d
  pub theirs : (l : ℕ) → is_listed l ls ≡ true → (d : ℕ) × IsChild k c o d × CanBe k d (Location l)
  pub each : (d : ℕ) → IsChild k c o d → (l : ℕ) × (is_listed l ls ≡ true) × CanBe k d (Location l)
  pub once : (d l n : ℕ) → is_listed l ls ≡ true → is_listed n ls ≡ true → CanBe k d (Location l) → CanBe k d (Location n) → l ≡ n

-- where control is in a component at this place, and in the children that run inside it as they begin or end
abbrev pub StandsAt : ControlFacts → ℕ → Alternative → List ℕ → Type 0
StandsAt k c (Location l) ls = ls ≡ l ∷ []
StandsAt k c (Inside o) ls = OneOfEach k c o ls

-- what a statement's transition leads from, and to
pub data Leads : TransName → Alternative → Alternative → Type 0 where
  along : (o l n : ℕ) → Leads (Step o Whole) (Location l) (Location n)
  into : (o l : ℕ) → Leads (Step o Entry) (Location l) (Inside o)
  out_of : (o n : ℕ) → Leads (Step o Exit) (Inside o) (Location n)

-- the change moves a component so
pub record Moves (k : ControlFacts) (name : TransName) (x : Exchange) : Type 0 where
  pub mover : ℕ
  pub from : Alternative
  pub to : Alternative
  pub leads : Leads name from to
  pub can_from : CanBe k mover from
  pub can_to : CanBe k mover to
  pub leaves : StandsAt k mover from x.leaves
  pub enters : StandsAt k mover to x.enters

-- it moves a component, or control stays
pub data MovesControl (k : ControlFacts) (name : TransName) (x : Exchange) : Type 0 where
  stays : x.leaves ≡ [] → x.enters ≡ [] → MovesControl k name x
  moves : Moves k name x → MovesControl k name x

-- what is listed is each active component, with what it is at
abbrev pub Lists : ControlFacts → (ℕ → Alternative) → List (ℕ × Alternative) → Type 0
Lists k m control = (c : ℕ) (a : Alternative) → (place_of c control ≡ Some a) ↔ (Active k.components m c × (m c ≡ a))

-- a state shows a control state: control is at its locations, and its active components are listed
pub record ShowsControl (k : ControlFacts) (p : Picture) : Type 0 where
  pub place : ℕ → Alternative
  pub in_control : InControl k place (seen p).located
  pub lists : Lists k place p.control.items

-- control is at each location that the change leaves
abbrev pub CanLeave : Exchange → Situation → Type 0
CanLeave x s = (l : ℕ) → is_listed l x.leaves ≡ true → s.located l ≡ true
