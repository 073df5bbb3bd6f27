-- How control moves along the text: what each statement's transition does to locations and to the store.
--
-- A move leads from locations to others where the store allows it. The moves of a program are read on the text alone,
-- statement by statement, as Manna and Pnueli give the transitions of SPL (*Temporal Verification of Reactive Systems:
-- Safety*, section 0.3); its steps are exactly these moves.
use Rattle.std.specs.Prelude.{ℕ, suc, Bool, true, not, List, [], ◌∷◌, ◌++◌, is_some, unwrap_or}
use Rattle.st_form.specs.Formula.{Formula, row}
use Rattle.st_form.specs.declared.conditions.Part.TheVariants.{Whole, Entry, Exit}
use Rattle.st_form.specs.declared.conditions.TransName.{TransName}
use Rattle.st_form.specs.declared.conditions.TransName.TheVariants.{Step}
use Rattle.st_program.specs.Tree.{number, Action, skip, critical, noncritical, assign, await, request, release, if_then, if_else, while_do, block, select, cooperate, group, occurrence, location, action}
use Rattle.st_program.specs.Spots.{Spot}
use Rattle.st_program.specs.Groups.{Link, paths_along}
use Rattle.spl_semantics.specs.Control.{starts, ends}
use Rattle.spl_semantics.specs.Stores.{Store, holds, assigned, one_less, one_more, walked}

-- the name and the mode, the locations that are left and entered, whether the store allows it, and the store behind it
pub record Move : Type 0 where
  pub name : TransName
  pub mode : ℕ
  pub from : List ℕ
  pub to : List ℕ
  pub allowed : Store → Bool
  pub result : Store → Store

-- a move of the whole statement o from its location to another
abbrev pub move : ℕ → ℕ → ℕ → ℕ → (Store → Bool) → (Store → Store) → Move
move o mode l next allowed result =
    record { name = Step o Whole; mode = mode; from = l ∷ []; to = next ∷ []; allowed = allowed; result = result }

abbrev pub always : Store → Bool
always s = true

abbrev pub same : Store → Store
same s = s

-- by a test: to the one location where it is true, to the other where it is false
abbrev pub test_moves : ℕ → ℕ → Formula → ℕ → ℕ → List Move
test_moves o l t true_to false_to = move o 1 l true_to (holds t) same ∷ move o 2 l false_to (λ s. not (holds t s)) same ∷ []

abbrev pub path_moves : ℕ → ℕ → ℕ → List (List Link) → ℕ → List Move
path_moves o l k [] next = []
path_moves o l k (path ∷ paths) next =
    move o k l next (λ s. is_some (walked path s)) (λ s. unwrap_or (walked path s) s) ∷ path_moves o l (suc k) paths next

-- the moves of the statement with occurrence o and location l, which is followed by the location next
abbrev pub own_moves : Action → ℕ → ℕ → ℕ → List Move
own_moves skip o l next = move o 1 l next always same ∷ []
own_moves critical o l next = move o 1 l next always same ∷ []
own_moves noncritical o l next = move o 1 l next always same ∷ []
own_moves (assign xs) o l next = move o 1 l next always (assigned xs) ∷ []
own_moves (await t) o l next = move o 1 l next (holds t) same ∷ []
own_moves (request v) o l next = move o 1 l next (holds (row (one_less v))) (assigned ((v, number (one_less v)) ∷ [])) ∷ []
own_moves (release v) o l next = move o 1 l next always (assigned ((v, number (one_more v)) ∷ [])) ∷ []
own_moves (if_then t y) o l next = test_moves o l t (location y) next
own_moves (if_else t y n) o l next = test_moves o l t (location y) (location n)
own_moves (while_do t b) o l next = test_moves o l t (location b) next
own_moves (block ss) o l next = []
own_moves (select ss) o l next = []
own_moves (cooperate ps) o l next =
    record { name = Step o Entry; mode = 1; from = l ∷ []; to = starts ps; allowed = always; result = same }
    ∷ record { name = Step o Exit; mode = 1; from = ends ps; to = next ∷ []; allowed = always; result = same }
    ∷ []
own_moves (group xs) o l next = path_moves o l 1 (paths_along xs) next

abbrev pub spot_moves : Spot → List Move
spot_moves x = own_moves (action x.stmt) (occurrence x.stmt) (location x.stmt) x.next

abbrev pub all_moves : List Spot → List Move
all_moves [] = []
all_moves (x ∷ xs) = spot_moves x ++ all_moves xs
