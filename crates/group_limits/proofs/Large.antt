-- The test of composed numbers fails exactly where a path has a right side with a number that is too large.
use Rattle.std.proofs.Common.{◌≡◌, ℕ, Bool, true, false, List, [], ◌∷◌, ◌++◌, refl, sym, ap, subst, ◌∙◌}
use Rattle.std.specs.Prelude.{◌&&◌}
use Rattle.st_linear.specs.Linear.{Linear}
use Rattle.st_program.specs.Member.{Member, here, there}
use Rattle.st_program.specs.Tree.{Term, number, truth, Pieces}
use Rattle.st_program.specs.Groups.{Link, tested, given, paths_along}
use Rattle.expression_typer.specs.Written.{is_writable}
use Rattle.spl_typer.specs.Groups.{Numbers, numbers_put}
use Rattle.spl_typer.specs.Unbounded.{composed_form, composed_side, composed_sides, all_writable, are_small_along, all_small_along}
use Rattle.control_facts.proofs.Onces.{nowhere}
use Rattle.group_limits.specs.Order.{standing, IsLargeSide, IsLargePath, HasLargeNumber}
use Rattle.group_limits.proofs.Paths.{paths_are_choices}

never : {A : Type 0} → true ≡ false → A
never {A} e = absurd cc

right : (a b : Bool) → b ≡ false → (a && b) ≡ false
right true b h = h
right false b h = refl

-- RIGHT SIDES
side_first : (ns : Numbers) (x : ℕ × Term) (f : Linear) (xs : List (ℕ × Term)) → x.1 ≡ number f → is_writable (composed_form ns f) ≡ false → IsLargeSide ns (x ∷ xs)
side_first ns x f xs is h = record { front = []; variable = x.0; value = f; rest = xs; cut = ap (λ (t : Term). (x.0, t) ∷ xs) is; large = h }

side_later : (ns : Numbers) (x : ℕ × Term) (xs : List (ℕ × Term)) → IsLargeSide ns xs → IsLargeSide ns (x ∷ xs)
side_later ns x xs h = record { front = x ∷ h.front; variable = h.variable; value = h.value; rest = h.rest; cut = ap (λ l. x ∷ l) h.cut; large = h.large }

number_side : (ns : Numbers) (x : ℕ × Term) (f : Linear) (xs : List (ℕ × Term)) → x.1 ≡ number f → (b : Bool) → is_writable (composed_form ns f) ≡ b → (b && all_writable (composed_sides ns xs)) ≡ false
    → (all_writable (composed_sides ns xs) ≡ false → IsLargeSide ns xs) → IsLargeSide ns (x ∷ xs)
number_side ns x f xs is true e h again = side_later ns x xs (again h)
number_side ns x f xs is false e h again = side_first ns x f xs is e

by_term : (ns : Numbers) (x : ℕ × Term) (t : Term) (xs : List (ℕ × Term)) → x.1 ≡ t → all_writable (composed_side ns x.0 t ++ composed_sides ns xs) ≡ false
    → (all_writable (composed_sides ns xs) ≡ false → IsLargeSide ns xs) → IsLargeSide ns (x ∷ xs)
by_term ns x (number f) xs is h again = number_side ns x f xs is (is_writable (composed_form ns f)) refl h again
by_term ns x (truth f) xs is h again = side_later ns x xs (again h)

large_side : (ns : Numbers) (xs : List (ℕ × Term)) → all_writable (composed_sides ns xs) ≡ false → IsLargeSide ns xs
large_side ns [] h = never h
large_side ns (x ∷ xs) h = by_term ns x x.1 xs refl h (λ k. large_side ns xs k)

past_term : (ns : Numbers) (v : ℕ) (t : Term) (more : Numbers) → all_writable more ≡ false → all_writable (composed_side ns v t ++ more) ≡ false
past_term ns v (number f) more h = right (is_writable (composed_form ns f)) (all_writable more) h
past_term ns v (truth f) more h = h

past_sides : (ns : Numbers) (front : List (ℕ × Term)) (v : ℕ) (f : Linear) (rest : List (ℕ × Term)) → is_writable (composed_form ns f) ≡ false → all_writable (composed_sides ns (front ++ (v, number f) ∷ rest)) ≡ false
past_sides ns [] v f rest h = ap (λ b. b && all_writable (composed_sides ns rest)) h
past_sides ns (x ∷ front) v f rest h = past_term ns x.0 x.1 (composed_sides ns (front ++ (v, number f) ∷ rest)) (past_sides ns front v f rest h)

side_fails : (ns : Numbers) (xs : List (ℕ × Term)) → IsLargeSide ns xs → all_writable (composed_sides ns xs) ≡ false
side_fails ns xs h = ap (λ l. all_writable (composed_sides ns l)) h.cut ∙ past_sides ns h.front h.variable h.value h.rest h.large

-- PATHS
path_later : (ns ms : Numbers) (link : Link) (path : List Link) → ((front : List Link) → standing ns (link ∷ front) ≡ standing ms front) → IsLargePath ms path → IsLargePath ns (link ∷ path)
path_later ns ms link path same h = record {
  front = link ∷ h.front;
  sides = h.sides;
  rest = h.rest;
  cut = ap (λ l. link ∷ l) h.cut;
  side = subst (λ (z : Numbers). IsLargeSide z h.sides) (sym (same h.front)) h.side;
}

given_path : (ns : Numbers) (xs : List (ℕ × Term)) (path : List Link) (b : Bool) → all_writable (composed_sides ns xs) ≡ b → (b && are_small_along (numbers_put (composed_sides ns xs) ns) path) ≡ false
    → (are_small_along (numbers_put (composed_sides ns xs) ns) path ≡ false → IsLargePath (numbers_put (composed_sides ns xs) ns) path) → IsLargePath ns (given xs ∷ path)
given_path ns xs path true e h again = path_later ns (numbers_put (composed_sides ns xs) ns) (given xs) path (λ front. refl) (again h)
given_path ns xs path false e h again = record { front = []; sides = xs; rest = path; cut = refl; side = large_side ns xs e }

large_path : (ns : Numbers) (path : List Link) → are_small_along ns path ≡ false → IsLargePath ns path
large_path ns [] h = never h
large_path ns (tested f b ∷ path) h = path_later ns ns (tested f b) path (λ front. refl) (large_path ns path h)
large_path ns (given xs ∷ path) h = given_path ns xs path (all_writable (composed_sides ns xs)) refl h (λ k. large_path (numbers_put (composed_sides ns xs) ns) path k)

past_links : (ns : Numbers) (front : List Link) (xs : List (ℕ × Term)) (rest : List Link) → IsLargeSide (standing ns front) xs → are_small_along ns (front ++ given xs ∷ rest) ≡ false
past_links ns [] xs rest h = ap (λ b. b && are_small_along (numbers_put (composed_sides ns xs) ns) rest) (side_fails ns xs h)
past_links ns (tested f b ∷ front) xs rest h = past_links ns front xs rest h
past_links ns (given ys ∷ front) xs rest h =
    right (all_writable (composed_sides ns ys)) (are_small_along (numbers_put (composed_sides ns ys) ns) (front ++ given xs ∷ rest)) (past_links (numbers_put (composed_sides ns ys) ns) front xs rest h)

path_fails : (ns : Numbers) (path : List Link) → IsLargePath ns path → are_small_along ns path ≡ false
path_fails ns path h = ap (λ l. are_small_along ns l) h.cut ∙ past_links ns h.front h.sides h.rest h.side

-- GROUPS
record LargeAmong (paths : List (List Link)) : Type 0 where
  path : List Link
  among : Member path paths
  large : IsLargePath [] path

by_path : (path : List Link) (paths : List (List Link)) (b : Bool) → are_small_along [] path ≡ b → (b && all_small_along paths) ≡ false → (all_small_along paths ≡ false → LargeAmong paths) → LargeAmong (path ∷ paths)
by_path path paths true e h again = let k = again h in record { path = k.path; among = there k.among; large = k.large }
by_path path paths false e h again = record { path = path; among = here refl; large = large_path [] path e }

large_among : (paths : List (List Link)) → all_small_along paths ≡ false → LargeAmong paths
large_among [] h = never h
large_among (path ∷ paths) h = by_path path paths (are_small_along [] path) refl h (λ k. large_among paths k)

among_fails : (paths : List (List Link)) (path : List Link) → Member path paths → are_small_along [] path ≡ false → all_small_along paths ≡ false
among_fails [] path m h = nowhere m
among_fails (p ∷ paths) path (here e) h = ap (λ b. b && all_small_along paths) (subst (λ z. are_small_along [] z ≡ false) e h)
among_fails (p ∷ paths) path (there m) h = right (are_small_along [] p) (all_small_along paths) (among_fails paths path m h)

pub large_number : (xs : Pieces) → all_small_along (paths_along xs) ≡ false → HasLargeNumber xs
large_number xs h = let k = large_among (paths_along xs) h in record { path = k.path; chosen = (paths_are_choices xs k.path).0 k.among; large = k.large }

pub number_fails : (xs : Pieces) → HasLargeNumber xs → all_small_along (paths_along xs) ≡ false
number_fails xs h = among_fails (paths_along xs) h.path ((paths_are_choices xs h.path).1 h.chosen) (path_fails [] h.path h.large)
