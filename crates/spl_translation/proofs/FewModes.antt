-- Each transition of a program's translation has at most 64 modes.
use Rattle.std.proofs.Common.{ℕ, ◌≤◌, List, [], ◌∷◌, ◌++◌, length, Option, Some, None, refl, arith, length-append}
use Rattle.std.specs.Prelude.{flat_map}
use Rattle.st_form.specs.Formula.{Formula}
use Rattle.st_form.specs.declared.variables.Variable.{Variable}
use Rattle.transition_system.specs.Systems.{PlainTransition, FewModes, HasFewModes}
use Rattle.st_program.specs.Tree.{Action, skip, critical, noncritical, assign, await, request, release, if_then, if_else, while_do, block, select, cooperate, group, Processes, occurrence, location, action}
use Rattle.st_program.specs.Member.{Member, here, there}
use Rattle.st_program.specs.Spots.{Spot, all_spots}
use Rattle.st_program.specs.Types.{ActionFits}
use Rattle.st_program.specs.Groups.{Link, paths_along, nothing_composed, Composed, composed}
use Rattle.st_program.specs.Programs.{IsProgram}
use Rattle.spl_translation.specs.Translation.{path_mode, path_modes, own_transitions, spot_transitions, translation}

few_append : (ts us : List PlainTransition) → FewModes ts → FewModes us → FewModes (ts ++ us)
few_append [] us h g = g
few_append (t ∷ ts) us h g = (h.0, few_append ts us h.1 g)

one_path : (l : ℕ) (o : Option Composed) (next : ℕ) → length (path_mode l o next) ≤ 1
one_path l None next = omega arith
one_path l (Some c) next = omega arith

paths_few : (l : ℕ) (paths : List (List Link)) (next : ℕ) → length (path_modes l paths next) ≤ length paths
paths_few l [] next = omega arith
paths_few l (path ∷ paths) next =
    omega (arith, length-append (path_mode l (composed path nothing_composed) next) (path_modes l paths next), one_path l (composed path nothing_composed) next, paths_few l paths next)

own_few : (vs : List Variable) (a : Action) (o l next : ℕ) → ActionFits vs a → FewModes (own_transitions a o l next)
own_few vs skip o l next h = (omega arith, tt)
own_few vs critical o l next h = (omega arith, tt)
own_few vs noncritical o l next h = (omega arith, tt)
own_few vs (assign xs) o l next h = (omega arith, tt)
own_few vs (await t) o l next h = (omega arith, tt)
own_few vs (request v) o l next h = (omega arith, tt)
own_few vs (release v) o l next h = (omega arith, tt)
own_few vs (if_then t y) o l next h = (omega arith, tt)
own_few vs (if_else t y n) o l next h = (omega arith, tt)
own_few vs (while_do t b) o l next h = (omega arith, tt)
own_few vs (block ss) o l next h = tt
own_few vs (select ss) o l next h = tt
own_few vs (cooperate ps) o l next h = (omega arith, (omega arith, tt))
own_few vs (group xs) o l next h = (omega (arith, paths_few l (paths_along xs) next, h.1.few), tt)

spots_few : (vs : List Variable) (xs : List Spot) → ((x : Spot) → Member x xs → ActionFits vs (action x.stmt)) → FewModes (flat_map spot_transitions xs)
spots_few vs [] h = tt
spots_few vs (x ∷ xs) h =
    few_append (spot_transitions x) (flat_map spot_transitions xs) (own_few vs (action x.stmt) (occurrence x.stmt) (location x.stmt) x.next (h x (here refl))) (spots_few vs xs (λ y m. h y (there m)))

pub few_modes : (vs : List Variable) (initial : Formula) (p : Processes) (locations statements : ℕ) → IsProgram vs initial p locations statements → HasFewModes (translation vs initial p locations)
few_modes vs initial p locations statements h = (omega arith, spots_few vs (all_spots p) h.typed)
