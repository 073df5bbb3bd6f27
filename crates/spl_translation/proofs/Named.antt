-- No two transitions of a translation have one name, and they are few.
use Rattle.std.proofs.Common.{◌≡◌, ℕ, zero, suc, ◌*◌, ◌≤◌, List, [], ◌∷◌, map, length, Some, sym, ap, ◌∙◌, length-append, arith}
use Rattle.std.specs.Prelude.{slice_get, flat_map}
use Rattle.st_form.specs.declared.conditions.TransName.{TransName}
use Rattle.observations.specs.declared.Fairness.{Fairness}
use Rattle.transition_system.specs.Systems.{PlainTransition}
use Rattle.transition_system.specs.Bounds.{AreDistinct}
use Rattle.st_program.specs.Tree.{Action, skip, critical, noncritical, assign, await, request, release, if_then, if_else, while_do, block, select, cooperate, group, Processes, occurrence, location, action}
use Rattle.st_program.specs.Spots.{Spot, IsNumbered}
use Rattle.spl_semantics.specs.Names.{all_names}
use Rattle.spl_semantics.specs.Runs.{place_of}
use Rattle.spl_semantics.proofs.NameOrder.{place_at}
use Rattle.spl_translation.specs.Translation.{own_transitions, spot_transitions}

get_map : {A B : Type 0} (f : A → B) (xs : List A) (i : ℕ) (x : A) → slice_get xs i ≡ Some x → slice_get (map f xs) i ≡ Some (f x)
get_map f [] i x e = cc
get_map f (y ∷ ys) zero x e = let same : y ≡ x = cc in ap (λ z. Some (f z)) same
get_map f (y ∷ ys) (suc i) x e = get_map f ys i x e

pub distinct : (p : Processes) → IsNumbered p → (ts : List PlainTransition) → map (λ t. (t.name, t.fairness)) ts ≡ all_names p → AreDistinct ts
distinct p numbered ts e i j x y q r same =
    let named : PlainTransition → TransName × Fairness = λ t. (t.name, t.fairness) in
    let first : place_of p x.name ≡ i = place_at p numbered i (named x) (ap (λ z. slice_get z i) (sym e) ∙ get_map named ts i x q) in
    let second : place_of p y.name ≡ j = place_at p numbered j (named y) (ap (λ z. slice_get z j) (sym e) ∙ get_map named ts j y r) in
    sym first ∙ ap (place_of p) same ∙ second

own_few : (a : Action) (o l next : ℕ) → length (own_transitions a o l next) ≤ 2
own_few skip o l next = omega arith
own_few critical o l next = omega arith
own_few noncritical o l next = omega arith
own_few (assign xs) o l next = omega arith
own_few (await t) o l next = omega arith
own_few (request v) o l next = omega arith
own_few (release v) o l next = omega arith
own_few (if_then t y) o l next = omega arith
own_few (if_else t y n) o l next = omega arith
own_few (while_do t b) o l next = omega arith
own_few (block ss) o l next = omega arith
own_few (select ss) o l next = omega arith
own_few (cooperate ps) o l next = omega arith
own_few (group xs) o l next = omega arith

pub few : (xs : List Spot) → length (flat_map spot_transitions xs) ≤ 2 * length xs
few [] = omega arith
few (x ∷ xs) =
    let h = own_few (action x.stmt) (occurrence x.stmt) (location x.stmt) x.next in
    let g = few xs in
    let e = length-append (spot_transitions x) (flat_map spot_transitions xs) in
    omega arith
