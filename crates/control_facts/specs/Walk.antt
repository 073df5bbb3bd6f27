-- The components of a program read by one walk over the text, part by part.
--
-- A statement with a location of its own gives that location, then the insides of the cooperations that it can begin
-- with, then what stands further in it. What it can begin with is read on the shape of the text alone. Theorems in
-- `proofs/` say that in a program this gives what `Alternatives` says.
use Rattle.std.specs.Prelude.{ℕ, Bool, true, false, List, [], ◌∷◌, ◌++◌, length, Option, Some}
use Rattle.st_program.specs.Tree.{Statement, stated, Action, skip, if_then, if_else, while_do, block, select, cooperate, Statements, no_statement, statement, Process, process, Processes, no_process, beside}
use Rattle.control_states.specs.declared.alternative.Alternative.{Alternative}
use Rattle.control_states.specs.declared.alternative.Alternative.TheVariants.{Location, Inside}
use Rattle.control_states.specs.Control.{ComponentFacts, ControlFacts}

-- the insides of the cooperations that a statement can begin with
abbrev mutual
  pub heads : Statement → List Alternative
  heads (stated o l (block ss)) = heads_first ss
  heads (stated o l (select ss)) = heads_among ss
  heads (stated o l (cooperate ps)) = Inside o ∷ []
  heads (stated o l skip) = []
  heads (stated o l _) = []

  pub heads_first : Statements → List Alternative
  heads_first no_statement = []
  heads_first (statement s ss) = heads s

  pub heads_among : Statements → List Alternative
  heads_among no_statement = []
  heads_among (statement s ss) = heads s ++ heads_among ss

abbrev mutual
  -- what control can be at in a statement: at a location of its own, if it has one, and at the locations in it
  pub choices : Bool → Statement → List Alternative
  choices true (stated o l a) = Location l ∷ (heads (stated o l a) ++ further a)
  choices false (stated o l a) = further a

  pub further : Action → List Alternative
  further (if_then t y) = choices true y
  further (if_else t y n) = choices true y ++ choices true n
  further (while_do t b) = choices true b
  further (block ss) = choices_along false ss
  further (select ss) = choices_among ss
  further (cooperate ps) = []
  further skip = []
  further _ = []

  -- one after another; the first may have the location of what it stands in
  pub choices_along : Bool → Statements → List Alternative
  choices_along fresh no_statement = []
  choices_along fresh (statement s ss) = choices fresh s ++ choices_along true ss

  -- each branch has the selection's location
  pub choices_among : Statements → List Alternative
  choices_among no_statement = []
  choices_among (statement s ss) = choices false s ++ choices_among ss

abbrev pub choices_of : Statements → ℕ → List Alternative
choices_of ss end = choices_along true ss ++ Location end ∷ []

-- one more component, one more owner
abbrev pub with_part : ComponentFacts → ControlFacts → ControlFacts
with_part part k = record { components = k.components ++ part ∷ []; owners = k.owners }

abbrev pub with_owner : ℕ → ControlFacts → ControlFacts
with_owner c k = record { components = k.components; owners = k.owners ++ c ∷ [] }

-- what a part of the text in component c adds to what stands before it; the component owns the location of a statement
-- that has one of its own
abbrev mutual
  pub walk : Bool → Statement → ℕ → ControlFacts → ControlFacts
  walk true (stated o l a) c k = walk_within a o c (with_owner c k)
  walk false (stated o l a) c k = walk_within a o c k

  pub walk_within : Action → ℕ → ℕ → ControlFacts → ControlFacts
  walk_within (if_then t y) o c k = walk true y c k
  walk_within (if_else t y n) o c k = walk true n c (walk true y c k)
  walk_within (while_do t b) o c k = walk true b c k
  walk_within (block ss) o c k = walk_along false ss c k
  walk_within (select ss) o c k = walk_among ss c k
  walk_within (cooperate ps) o c k = walk_inside ps (Some (c, o)) k
  walk_within skip o c k = k
  walk_within _ o c k = k

  -- one after another; the first may have the location of what it stands in
  pub walk_along : Bool → Statements → ℕ → ControlFacts → ControlFacts
  walk_along fresh no_statement c k = k
  walk_along fresh (statement s ss) c k = walk_along true ss c (walk fresh s c k)

  -- each branch has the selection's location
  pub walk_among : Statements → ℕ → ControlFacts → ControlFacts
  walk_among no_statement c k = k
  walk_among (statement s ss) c k = walk_among ss c (walk false s c k)

  pub walk_inside : Processes → Option (ℕ × ℕ) → ControlFacts → ControlFacts
  walk_inside no_process around k = k
  walk_inside (beside c ps) around k = walk_inside ps around (walk_component c around k)

  -- a component, what stands in it, and its end
  pub walk_component : Process → Option (ℕ × ℕ) → ControlFacts → ControlFacts
  walk_component (process ss end) around k =
      with_owner (length k.components)
      (walk_along true ss (length k.components) (with_part (record { alternatives = choices_of ss end; around = around }) k))

abbrev pub nothing_walked : ControlFacts
nothing_walked = record { components = []; owners = [] }

abbrev pub facts_of : List ComponentFacts → List ℕ → ControlFacts
facts_of parts owners = record { components = parts; owners = owners }
