-- The limits of groups, said of what is composed along each of their paths.
use Rattle.std.specs.Prelude.{ℕ, ◌+◌, ◌≤◌, List, [], ◌∷◌, ◌++◌, length, sum_by, Option, Some, None, IfSome, ⊤}
use Rattle.list_laws.specs.Each.{Each}
use Rattle.st_linear.specs.Linear.{Linear}
use Rattle.st_form.specs.Formula.{Formula, formulas, atoms, atoms_of, weight}
use Rattle.st_form.specs.Exchange.{exchanged}
use Rattle.st_program.specs.Tree.{Term, number, truth, Action, skip, group, Processes, action}
use Rattle.st_program.specs.Groups.{Link, tested, given, paths_along, Composed, nothing_composed, exchange_of, signed, composed_link, composed, GroupFits}
use Rattle.st_program.specs.Spots.{Spot, all_spots}
use Rattle.st_program.specs.Member.{Member}

-- once it is composed, a truth value that is assigned has at most 2,048 atoms
abbrev pub SideIsSmall : Composed → Term → Type 0
SideIsSmall c (number f) = ⊤
SideIsSmall c (truth f) = IfSome (exchanged (exchange_of c) f) (λ g. atoms g ≤ 2048)

-- and so has the guard behind a test
abbrev pub LinkIsSmall : Composed → Link → Type 0
LinkIsSmall c (tested f b) = IfSome (exchanged (exchange_of c) f) (λ g. atoms_of (formulas (c.tests ++ signed b g ∷ [])) ≤ 2048)
LinkIsSmall c (given xs) = Each (λ x. SideIsSmall c x.1) xs

-- that is so along a path, behind what is composed before it
abbrev pub PathIsSmall : Composed → List Link → Type 0
PathIsSmall c [] = ⊤
PathIsSmall c (link ∷ path) = LinkIsSmall c link × IfSome (composed_link link c) (λ d. PathIsSmall d path)

-- a group has few paths, on which numbers stay small; and along each of them it is small
abbrev pub GroupIsSmall : Action → Type 0
GroupIsSmall (group xs) = GroupFits xs × Each (PathIsSmall nothing_composed) (paths_along xs)
GroupIsSmall skip = ⊤
GroupIsSmall _ = ⊤

-- the weight of a path: of its tests, of the entries of the numbers that stand at its end, and of the truth values there
abbrev pub weight_of : Option Composed → ℕ
weight_of None = 0
weight_of (Some c) = sum_by weight c.tests + sum_by (λ (x : ℕ × Linear). length x.1.entries) c.numbers + sum_by (λ (x : ℕ × Formula). weight x.1) c.truths

abbrev pub path_weight : List Link → ℕ
path_weight path = weight_of (composed path nothing_composed)

abbrev pub group_weight : Action → ℕ
group_weight (group xs) = sum_by path_weight (paths_along xs)
group_weight skip = 0
group_weight _ = 0

-- no group of the program passes the limit on atoms, nor do all of them together pass that on weight
pub record GroupsAreWithin (p : Processes) : Type 0 where
  pub small : (x : Spot) → Member x (all_spots p) → GroupIsSmall (action x.stmt)
  pub light : sum_by (λ (x : Spot). group_weight (action x.stmt)) (all_spots p) ≤ 16777216
