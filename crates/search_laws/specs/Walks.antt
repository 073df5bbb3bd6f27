-- The walk of the search, over any problems: depth first, each division's problems in order, until a problem is left
-- open or the search gives up. No node has 400 nodes round it, and a tree has at most 100,000 nodes.
use Rattle.std.specs.Prelude.{ℕ, zero, suc, ◌+◌, nat_lt, if◌then◌else◌, List, [], ◌∷◌, Option}
use Rattle.st_certificate.specs.Tree.{Step, Tree, Trees, branch, no_tree, with_tree}
use Rattle.elimination_laws.specs.declared.stage.WideStage.{WideStage}
use Rattle.elimination_laws.specs.declared.stage.WideStage.TheVariants as stage
use Rattle.search_laws.specs.States.{State}

-- why no certificate is found: the lines of a problem have no contradiction, or it is too wide
pub data Failure : Type 0 where
  left_open : Option State → Failure
  given_up : WideStage → Failure

-- what is done at a problem: a leaf closes it, a step divides it, or the search ends there
pub data Move (P : Type 0) : Type 0 where
  closes : Tree → Move P
  divides : Step → List P → Move P
  fails : Failure → Move P

-- a step, and which of its problems is meant, from 0 on
pub record PathStep : Type 0 where
  pub step : Step
  pub branch : ℕ

-- a tree and the number of nodes by then, or the path to where the search ends
pub data Found : Type 0 where
  found : Tree → ℕ → Found
  stopped : List PathStep → Failure → Found

-- the same of the problems of a division; where one fails, its number
pub data FoundAll : Type 0 where
  all : Trees → ℕ → FoundAll
  broke : ℕ → List PathStep → Failure → FoundAll

abbrev pub onto_trees : Tree → FoundAll → FoundAll
onto_trees t (all ts n) = all (with_tree t ts) n
onto_trees t (broke i path e) = broke i path e

abbrev pub then_rest : ℕ → Found → (ℕ → FoundAll) → FoundAll
then_rest i (found t n) rest = onto_trees t (rest n)
then_rest i (stopped path e) rest = broke i path e

-- the problems from the i-th on, n nodes being counted
abbrev pub walk_all : {P : Type 0} → (P → ℕ → Found) → List P → ℕ → ℕ → FoundAll
walk_all walk [] i n = all no_tree n
walk_all walk (p ∷ ps) i n = then_rest i (walk p n) (walk_all walk ps (i + 1))

abbrev pub divided_by : Step → FoundAll → Found
divided_by s (all ts n) = found (branch s ts) n
divided_by s (broke i path e) = stopped (record { step = s; branch = i } ∷ path) e

abbrev pub walk_node : {P : Type 0} → (P → ℕ → Found) → Move P → ℕ → Found
walk_node walk (closes t) n = found t n
walk_node walk (divides s ps) n = divided_by s (walk_all walk ps 0 n)
walk_node walk (fails e) n = stopped [] e

-- with so many levels left, n nodes being counted
abbrev pub walk : {P : Type 0} → (P → Move P) → ℕ → P → ℕ → Found
walk move zero p n = stopped [] (given_up stage.Tree)
walk move (suc levels) p n = if nat_lt n 100000 then walk_node (walk move levels) (move p) (n + 1) else stopped [] (given_up stage.Tree)

abbrev pub searched : {P : Type 0} → (P → Move P) → P → Found
searched move p = walk move 400 p 0
