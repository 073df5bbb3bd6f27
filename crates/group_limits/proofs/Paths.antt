-- The list of a group's paths has each that choices make, and as many as there are ways to choose.
use Rattle.std.proofs.Common.{◌≡◌, ◌*◌, true, false, List, [], ◌∷◌, ◌++◌, map, length, refl, sym, ap, subst, ◌∙◌, ◌⊎◌, inl, inr, arith}
use Rattle.std.proofs.lemmas.List.{length-map, length-append}
use Rattle.st_form.specs.Formula.{Formula}
use Rattle.st_program.specs.Tree.{Piece, Pieces, piece_skip, piece_assign, piece_await, piece_if, no_piece, piece}
use Rattle.st_program.specs.Groups.{Link, tested, paths, paths_along}
use Rattle.st_program.specs.Member.{Member, here, there}
use Rattle.spl_typer.proofs.Products.{times, length-times}
use Rattle.control_facts.proofs.Onces.{nowhere, in_left, in_right, in_either, in_map}
use Rattle.group_limits.specs.Choices.{IsPath, skips, assigns, awaits, takes_then, takes_else, IsPathAlong, at_end, goes_on, ways, ways_along, PathsAreChoices}

-- MEMBERS OF LISTS THAT ARE MADE
-- what a mapped list has is made of what the list has
pub record Made {A B : Type 0} (f : A → B) (xs : List A) (y : B) : Type 0 where
  pub source : A
  pub among : Member source xs
  pub is : y ≡ f source

made : {A B : Type 0} (f : A → B) (xs : List A) (y : B) → Member y (map f xs) → Made f xs y
made f [] y m = nowhere m
made f (x ∷ xs) y (here e) = record { source = x; among = here refl; is = e }
made f (x ∷ xs) y (there m) = let k = made f xs y m in record { source = k.source; among = there k.among; is = k.is }

pub record Parted (ps qs : List (List Link)) (y : List Link) : Type 0 where
  pub first : List Link
  pub second : List Link
  pub in_first : Member first ps
  pub in_second : Member second qs
  pub is : y ≡ first ++ second

parted : (ps qs : List (List Link)) (y : List Link) → Member y (times ps qs) → Parted ps qs y
parted [] qs y m = nowhere m
parted (p ∷ ps) qs y m = either (in_either (map (λ further. p ++ further) qs) m) (λ n. parted ps qs y n)
  where
    either : Member y (map (λ further. p ++ further) qs) ⊎ Member y (times ps qs) → (Member y (times ps qs) → Parted ps qs y) → Parted (p ∷ ps) qs y
    either (inl n) again = let k = made (λ further. p ++ further) qs y n in record { first = p; second = k.source; in_first = here refl; in_second = k.among; is = k.is }
    either (inr n) again = let k = again n in record { first = k.first; second = k.second; in_first = there k.in_first; in_second = k.in_second; is = k.is }

joined : (ps qs : List (List Link)) (a b : List Link) → Member a ps → Member b qs → Member (a ++ b) (times ps qs)
joined [] qs a b m n = nowhere m
joined (p ∷ ps) qs a b (here e) n = in_left (times ps qs) (subst (λ z. Member (a ++ b) (map (λ further. z ++ further) qs)) e (in_map (λ further. a ++ further) n))
joined (p ∷ ps) qs a b (there m) n = in_right (map (λ further. p ++ further) qs) (joined ps qs a b m n)

-- BOTH WAYS
mutual
  listed : (x : Piece) (path : List Link) → IsPath x path → Member path (paths x)
  listed piece_skip path skips = here refl
  listed (piece_assign xs) path (assigns ys) = here refl
  listed (piece_await t) path (awaits u) = here refl
  listed (piece_if t y n) path (takes_then u z w rest h) = in_left (map (λ path. tested t false ∷ path) (paths_along n)) (in_map (λ path. tested t true ∷ path) (listed_along y rest h))
  listed (piece_if t y n) path (takes_else u z w rest h) = in_right (map (λ path. tested t true ∷ path) (paths_along y)) (in_map (λ path. tested t false ∷ path) (listed_along n rest h))

  listed_along : (xs : Pieces) (path : List Link) → IsPathAlong xs path → Member path (paths_along xs)
  listed_along no_piece path at_end = here refl
  listed_along (piece x xs) path (goes_on y ys a b h k) = joined (paths x) (paths_along xs) a b (listed x a h) (listed_along xs b k)

branch : (t : Formula) (y n : Pieces) (path : List Link) → Member path (map (λ path. tested t true ∷ path) (paths_along y)) ⊎ Member path (map (λ path. tested t false ∷ path) (paths_along n))
    → ((rest : List Link) → Member rest (paths_along y) → IsPathAlong y rest) → ((rest : List Link) → Member rest (paths_along n) → IsPathAlong n rest) → IsPath (piece_if t y n) path
branch t y n path (inl m) f g = let k = made (λ path. tested t true ∷ path) (paths_along y) path m in subst (IsPath (piece_if t y n)) (sym k.is) (takes_then t y n k.source (f k.source k.among))
branch t y n path (inr m) f g = let k = made (λ path. tested t false ∷ path) (paths_along n) path m in subst (IsPath (piece_if t y n)) (sym k.is) (takes_else t y n k.source (g k.source k.among))

mutual
  chosen : (x : Piece) (path : List Link) → Member path (paths x) → IsPath x path
  chosen piece_skip path (here e) = subst (IsPath piece_skip) (sym e) skips
  chosen piece_skip path (there m) = nowhere m
  chosen (piece_assign xs) path (here e) = subst (IsPath (piece_assign xs)) (sym e) (assigns xs)
  chosen (piece_assign xs) path (there m) = nowhere m
  chosen (piece_await t) path (here e) = subst (IsPath (piece_await t)) (sym e) (awaits t)
  chosen (piece_await t) path (there m) = nowhere m
  chosen (piece_if t y n) path m = branch t y n path (in_either (map (λ path. tested t true ∷ path) (paths_along y)) m) (λ rest h. chosen_along y rest h) (λ rest h. chosen_along n rest h)

  chosen_along : (xs : Pieces) (path : List Link) → Member path (paths_along xs) → IsPathAlong xs path
  chosen_along no_piece path (here e) = subst (IsPathAlong no_piece) (sym e) at_end
  chosen_along no_piece path (there m) = nowhere m
  chosen_along (piece x xs) path m =
      let k = parted (paths x) (paths_along xs) path m in
      subst (IsPathAlong (piece x xs)) (sym k.is) (goes_on x xs k.first k.second (chosen x k.first k.in_first) (chosen_along xs k.second k.in_second))

pub paths_are_choices : PathsAreChoices
paths_are_choices xs path = (λ m. chosen_along xs path m, λ h. listed_along xs path h)

-- HOW MANY
mutual
  ways_count : (x : Piece) → length (paths x) ≡ ways x
  ways_count piece_skip = refl
  ways_count (piece_assign xs) = refl
  ways_count (piece_await t) = refl
  ways_count (piece_if t y n) =
      let a = length-append (map (λ path. tested t true ∷ path) (paths_along y)) (map (λ path. tested t false ∷ path) (paths_along n)) in
      let b = length-map (paths_along y) (λ path. tested t true ∷ path) in
      let c = length-map (paths_along n) (λ path. tested t false ∷ path) in
      let d = ways_along_count y in
      let e = ways_along_count n in
      omega (arith, a, b, c, d, e)

  pub ways_along_count : (xs : Pieces) → length (paths_along xs) ≡ ways_along xs
  ways_along_count no_piece = refl
  ways_along_count (piece x xs) = length-times (paths x) (paths_along xs) ∙ ap (λ z. z * length (paths_along xs)) (ways_count x) ∙ ap (λ z. ways x * z) (ways_along_count xs)
