-- Each transition is the translated one: what is put into a change is what the translation puts there.
use Rattle.std.proofs.Common.{◌≡◌, ℕ, List, [], ◌∷◌, ◌++◌, refl, ap, ◌∙◌, true, Option, Some, None}
use Rattle.std.specs.Prelude.{flat_map}
use Rattle.st_form.specs.Formula.{Formula, truth_value}
use Rattle.st_program.specs.Tree.{Term, number, truth, Action, skip, critical, noncritical, assign, await, request, release, if_then, if_else, while_do, block, select, cooperate, group, occurrence, location, action}
use Rattle.st_program.specs.Groups.{Link, Composed, put, composed, nothing_composed, paths_along}
use Rattle.st_program.specs.Spots.{Spot, all_spots}
use Rattle.observations.specs.declared.Fairness.TheVariants.{Just}
use Rattle.transition_system.specs.Systems.{PlainTransition}
use Rattle.spl_translation.specs.Translation.{numbers_of, truths_of, number_put, truth_put, giving, path_mode as old_path_mode, path_modes, own_transitions, spot_transitions, idling}
use Rattle.denoted_system.specs.System.{changes, moving, whole, path_mode, own, denoted}
use Rattle.denoted_system.specs.Theorems.{SystemIsTranslation}

numbers_put : (v : ℕ) (t : Term) (c : Composed) → (put v t c).numbers ≡ number_put v t c.numbers
numbers_put v (number f) c = refl
numbers_put v (truth f) c = refl

truths_put : (v : ℕ) (t : Term) (c : Composed) → (put v t c).truths ≡ truth_put v t c.truths
truths_put v (number f) c = refl
truths_put v (truth f) c = refl

numbers_same : (xs : List (ℕ × Term)) → (changes xs).numbers ≡ numbers_of xs
numbers_same [] = refl
numbers_same (x ∷ xs) = numbers_put x.0 x.1 (changes xs) ∙ ap (number_put x.0 x.1) (numbers_same xs)

truths_same : (xs : List (ℕ × Term)) → (changes xs).truths ≡ truths_of xs
truths_same [] = refl
truths_same (x ∷ xs) = truths_put x.0 x.1 (changes xs) ∙ ap (truth_put x.0 x.1) (truths_same xs)

given_same : (l : ℕ) (guard : Formula) (xs : List (ℕ × Term)) (next : ℕ) → moving (l ∷ []) guard (changes xs) (next ∷ []) ≡ giving l guard xs next
given_same l guard xs next = λ i. record { at = l ∷ []; guard = guard; change = record { numbers = numbers_same xs i; truths = truths_same xs i; leaves = l ∷ []; enters = next ∷ [] } }

path_same : (l next : ℕ) (o : Option Composed) → path_mode l o next ≡ old_path_mode l o next
path_same l next None = refl
path_same l next (Some c) = refl

paths_same : (l next : ℕ) (paths : List (List Link)) → flat_map (λ path. path_mode l (composed path nothing_composed) next) paths ≡ path_modes l paths next
paths_same l next [] = refl
paths_same l next (path ∷ paths) = ap (λ modes. modes ++ flat_map (λ path. path_mode l (composed path nothing_composed) next) paths) (path_same l next (composed path nothing_composed)) ∙ ap (λ modes. old_path_mode l (composed path nothing_composed) next ++ modes) (paths_same l next paths)

own_same : (a : Action) (o l next : ℕ) → own a o l next ≡ own_transitions a o l next
own_same skip o l next = refl
own_same critical o l next = refl
own_same noncritical o l next = refl
own_same (assign xs) o l next = ap (λ m. whole o Just (m ∷ [])) (given_same l (truth_value true) xs next)
own_same (await t) o l next = refl
own_same (request v) o l next = refl
own_same (release v) o l next = refl
own_same (if_then t y) o l next = refl
own_same (if_else t y n) o l next = refl
own_same (while_do t b) o l next = refl
own_same (block ss) o l next = refl
own_same (select ss) o l next = refl
own_same (cooperate ps) o l next = refl
own_same (group xs) o l next = ap (whole o Just) (paths_same l next (paths_along xs))

abbrev at_spot : Spot → List PlainTransition
at_spot x = own (action x.stmt) (occurrence x.stmt) (location x.stmt) x.next

spots_same : (xs : List Spot) → flat_map at_spot xs ≡ flat_map spot_transitions xs
spots_same [] = refl
spots_same (x ∷ xs) = ap (λ ts. ts ++ flat_map at_spot xs) (own_same (action x.stmt) (occurrence x.stmt) (location x.stmt) x.next) ∙ ap (λ ts. spot_transitions x ++ ts) (spots_same xs)

pub system_is_translation : SystemIsTranslation
system_is_translation variables initial p locations = ap (λ ts. record (denoted variables initial p locations) { transitions = idling ∷ ts }) (spots_same (all_spots p))
