-- The components of a program, with their alternatives.
--
-- The alternatives of a component are, in text order, its own locations, the end included, and directly behind the
-- location of a cooperation in it "inside that cooperation". Where several cooperations have one location, their insides
-- stand behind it in text order. Locations are those of Manna and Pnueli, *Temporal Verification of Reactive Systems:
-- Safety*, section 0.2, where a block's location is that of its first statement.
use Rattle.std.specs.Prelude.{ℕ, suc, ◌+◌, not, ◌==◌, if◌then◌else◌, List, [], ◌∷◌, ◌++◌, map, flat_map, filter, length, Option, Some, None}
use Rattle.st_program.specs.Tree.{Statement, stated, Action, skip, if_then, if_else, while_do, block, select, cooperate, Statements, no_statement, statement, process, Processes, no_process, beside, location}
use Rattle.st_program.specs.Spots.{bodies, bodies_in}
use Rattle.control_states.specs.declared.alternative.Alternative.{Alternative}
use Rattle.control_states.specs.declared.alternative.Alternative.TheVariants.{Location, Inside}
use Rattle.control_states.specs.Control.{ComponentFacts, ControlFacts}

-- the statements of a component, in text order, without what stands in the children of its cooperations
abbrev mutual
  pub own : Statement → List Statement
  own (stated o l a) = stated o l a ∷ own_within a

  pub own_within : Action → List Statement
  own_within (if_then t y) = own y
  own_within (if_else t y n) = own y ++ own n
  own_within (while_do t b) = own b
  own_within (block ss) = own_among ss
  own_within (select ss) = own_among ss
  own_within skip = []
  own_within _ = []

  pub own_among : Statements → List Statement
  own_among no_statement = []
  own_among (statement s ss) = own s ++ own_among ss

-- each number once, at its first place
abbrev pub once : List ℕ → List ℕ
once [] = []
once (x ∷ xs) = x ∷ filter (λ y. not (y == x)) (once xs)

abbrev pub inside_at : ℕ → Statement → List Alternative
inside_at l (stated o m (cooperate ps)) = if l == m then Inside o ∷ [] else []
inside_at l (stated o m skip) = []
inside_at l (stated o m _) = []

-- a location, and the insides of the cooperations that stand at it
abbrev pub alternatives_at : List Statement → ℕ → List Alternative
alternatives_at ss l = Location l ∷ flat_map (inside_at l) ss

-- the alternatives of a component that has these statements and this end
abbrev pub alternatives_of : Statements → ℕ → List Alternative
alternatives_of ss end = flat_map (alternatives_at (own_among ss)) (once (map location (own_among ss))) ++ Location end ∷ []

-- the components in a part of the text that stands in component c; n is the number of the first of them
abbrev mutual
  pub strands : Statement → ℕ → ℕ → List ComponentFacts
  strands (stated o l a) c n = strands_within a o c n

  pub strands_within : Action → ℕ → ℕ → ℕ → List ComponentFacts
  strands_within (if_then t y) o c n = strands y c n
  strands_within (if_else t y z) o c n = strands y c n ++ strands z c (n + length (bodies y))
  strands_within (while_do t b) o c n = strands b c n
  strands_within (block ss) o c n = strands_among ss c n
  strands_within (select ss) o c n = strands_among ss c n
  strands_within (cooperate ps) o c n = strands_inside ps (Some (c, o)) n
  strands_within skip o c n = []
  strands_within _ o c n = []

  pub strands_among : Statements → ℕ → ℕ → List ComponentFacts
  strands_among no_statement c n = []
  strands_among (statement s ss) c n = strands s c n ++ strands_among ss c (n + length (bodies s))

  -- side by side; around them is a component inside its cooperation, or nothing
  pub strands_inside : Processes → Option (ℕ × ℕ) → ℕ → List ComponentFacts
  strands_inside no_process around n = []
  strands_inside (beside (process ss end) ps) around n =
      record { alternatives = alternatives_of ss end; around = around }
      ∷ (strands_among ss n (suc n) ++ strands_inside ps around (suc n + length (bodies_in ss)))

-- the components of the locations of a part of the text, in order; it stands in component c, n is the number of the
-- first component in it, and the location that a statement takes over isn't among them
abbrev mutual
  pub owners : Statement → ℕ → ℕ → List ℕ
  owners (stated o l a) c n = owners_within a c n

  pub owners_within : Action → ℕ → ℕ → List ℕ
  owners_within (if_then t y) c n = c ∷ owners y c n
  owners_within (if_else t y z) c n = (c ∷ owners y c n) ++ (c ∷ owners z c (n + length (bodies y)))
  owners_within (while_do t b) c n = c ∷ owners b c n
  owners_within (block ss) c n = owners_head ss c n
  owners_within (select ss) c n = owners_among ss c n
  owners_within (cooperate ps) c n = owners_inside ps n
  owners_within skip c n = []
  owners_within _ c n = []

  -- the first statement takes over the block's location
  pub owners_head : Statements → ℕ → ℕ → List ℕ
  owners_head no_statement c n = []
  owners_head (statement s ss) c n = owners s c n ++ owners_along ss c (n + length (bodies s))

  pub owners_along : Statements → ℕ → ℕ → List ℕ
  owners_along no_statement c n = []
  owners_along (statement s ss) c n = (c ∷ owners s c n) ++ owners_along ss c (n + length (bodies s))

  -- each takes over the selection's location
  pub owners_among : Statements → ℕ → ℕ → List ℕ
  owners_among no_statement c n = []
  owners_among (statement s ss) c n = owners s c n ++ owners_among ss c (n + length (bodies s))

  -- the end of each component belongs to it
  pub owners_inside : Processes → ℕ → List ℕ
  owners_inside no_process n = []
  owners_inside (beside (process ss end) ps) n =
      owners_along ss n (suc n) ++ (n ∷ owners_inside ps (suc n + length (bodies_in ss)))

-- the components of a program, and of each location the component whose own it is
abbrev pub control_of : Processes → ControlFacts
control_of p = record { components = strands_inside p None 0; owners = owners_inside p 0 }
