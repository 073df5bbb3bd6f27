-- The walk through a group, and its paths: the path that is walked is the only one that can be.
use Rattle.std.proofs.Common.{◌≡◌, ℕ, zero, suc, ◌+◌, ◌*◌, ◌<◌, ◌≤◌, Bool, true, false, List, [], ◌∷◌, ◌++◌, length, length-append, map, Option, Some, None, refl, ap, ◌∙◌, sym, subst, arith, append_assoc}
use Rattle.std.specs.Prelude.{◌||◌, not, if◌then◌else◌, flat_map, option_and_then}
use Rattle.std.specs.Option.{option_map}
use Rattle.std.specs.List.{list_any}
use Rattle.std.proofs.lemmas.List.{append-nil}
use Rattle.st_form.specs.Formula.{Formula}
use Rattle.st_form.specs.declared.conditions.Part.TheVariants.{Whole}
use Rattle.st_form.specs.declared.conditions.TransName.TheVariants.{Step}
use Rattle.st_program.specs.Tree.{Piece, Pieces, piece_skip, piece_assign, piece_await, piece_if, no_piece, piece}
use Rattle.st_program.specs.Groups.{Link, tested, given, paths, paths_along}
use Rattle.st_program.specs.Residuals.{Rest, Done}
use Rattle.spl_semantics.specs.Stores.{Store, holds, assigned, is_wanted, walked}
use Rattle.spl_semantics.specs.Steps.{path_act, path_acts}
use Rattle.spl_semantics.specs.Going.{Act, act}
use Rattle.spl_semantics.specs.Limits.{wide_formula, wide_targets, wide_path, wide_paths}
use Rattle.spl_semantics.specs.Data.{PieceMeets, PiecesMeet}
use Rattle.spl_semantics.proofs.Exits.{or_here, or_none}
use Rattle.spl_semantics.specs.Walks.{Walk, behind_path, walk, walk_along, through, wide_walk, wide_walk_along}
use Rattle.basic_laws.proofs.Truths.{or_false}

-- the walks of a list of paths, each with its number
abbrev run : ℕ → Option Store → List (ℕ × Store)
run k None = []
run k (Some t) = (k, t) ∷ []

abbrev runs : List (List Link) → Store → ℕ → List (ℕ × Store)
runs [] s k = []
runs (p ∷ ps) s k = run k (walked p s) ++ runs ps s (suc k)

abbrev as_list : Walk → List (ℕ × Store)
as_list None = []
as_list (Some w) = w ∷ []

abbrev shift : ℕ → Walk → Walk
shift k None = None
shift k (Some w) = Some (k + w.0, w.1)

abbrev follow : List (List Link) → ℕ → Option Store → List (ℕ × Store)
follow qs k None = []
follow qs k (Some t) = runs qs t k

abbrev follow_all : List (List Link) → ℕ → List (ℕ × Store) → List (ℕ × Store)
follow_all qs k [] = []
follow_all qs k (w ∷ ws) = runs qs w.1 (w.0 * length qs + k) ++ follow_all qs k ws

walked-append : (p q : List Link) (s : Store) → walked (p ++ q) s ≡ option_and_then (walked q) (walked p s)
walked-append [] q s = refl
walked-append (tested f b ∷ p) q s = at_test (is_wanted b (holds f s)) (walked-append p q s)
  where
    at_test : (t : Bool) → walked (p ++ q) s ≡ option_and_then (walked q) (walked p s) → (if t then walked (p ++ q) s else None) ≡ option_and_then (walked q) (if t then walked p s else None)
    at_test true e = e
    at_test false e = refl
walked-append (given xs ∷ p) q s = walked-append p q (assigned xs s)

runs-append : (ps qs : List (List Link)) (s : Store) (k : ℕ) → runs (ps ++ qs) s k ≡ runs ps s k ++ runs qs s (k + length ps)
runs-append [] qs s k = let e : k ≡ k + 0 = omega arith in ap (runs qs s) e
runs-append (p ∷ ps) qs s k =
    let e : suc k + length ps ≡ k + suc (length ps) = omega arith in
    ap (λ l. run k (walked p s) ++ l) (runs-append ps qs s (suc k) ∙ ap (λ n. runs ps s (suc k) ++ runs qs s n) e)
    ∙ sym (append_assoc (run k (walked p s)) (runs ps s (suc k)) (runs qs s (k + suc (length ps))))

runs-front : (p : List Link) (qs : List (List Link)) (s : Store) (k : ℕ) → runs (map (λ q. p ++ q) qs) s k ≡ follow qs k (walked p s)
runs-front p [] s k = by_walk (walked p s)
  where
    by_walk : (o : Option Store) → [] ≡ follow [] k o
    by_walk None = refl
    by_walk (Some t) = refl
runs-front p (q ∷ qs) s k =
    ap (λ o. run k o ++ runs (map (λ q. p ++ q) qs) s (suc k)) (walked-append p q s)
    ∙ ap (λ l. run k (option_and_then (walked q) (walked p s)) ++ l) (runs-front p qs s (suc k))
    ∙ by_walk (walked p s)
  where
    by_walk : (o : Option Store) → run k (option_and_then (walked q) o) ++ follow qs (suc k) o ≡ follow (q ∷ qs) k o
    by_walk None = refl
    by_walk (Some t) = refl

length-front : (p : List Link) (qs : List (List Link)) → length (map (λ q. p ++ q) qs) ≡ length qs
length-front p [] = refl
length-front p (q ∷ qs) = ap suc (length-front p qs)

runs-flat : (ps qs : List (List Link)) (s : Store) (j k : ℕ) → runs (flat_map (λ p. map (λ q. p ++ q) qs) ps) s (j * length qs + k) ≡ follow_all qs k (runs ps s j)
runs-flat [] qs s j k = refl
runs-flat (p ∷ ps) qs s j k =
    let e : j * length qs + k + length qs ≡ suc j * length qs + k = omega arith in
    runs-append (map (λ q. p ++ q) qs) (flat_map (λ p. map (λ q. p ++ q) qs) ps) s (j * length qs + k)
    ∙ ap (λ l. l ++ runs (flat_map (λ p. map (λ q. p ++ q) qs) ps) s (j * length qs + k + length (map (λ q. p ++ q) qs))) (runs-front p qs s (j * length qs + k))
    ∙ ap (λ n. follow qs (j * length qs + k) (walked p s) ++ runs (flat_map (λ p. map (λ q. p ++ q) qs) ps) s n) (ap (λ n. j * length qs + k + n) (length-front p qs) ∙ e)
    ∙ ap (λ l. follow qs (j * length qs + k) (walked p s) ++ l) (runs-flat ps qs s (suc j) k)
    ∙ by_walk (walked p s)
  where
    by_walk : (o : Option Store) → follow qs (j * length qs + k) o ++ follow_all qs k (runs ps s (suc j)) ≡ follow_all qs k (run j o ++ runs ps s (suc j))
    by_walk None = refl
    by_walk (Some t) = refl

runs-tested : (f : Formula) (b : Bool) (ps : List (List Link)) (s : Store) (k : ℕ) → runs (map (λ p. tested f b ∷ p) ps) s k ≡ (if is_wanted b (holds f s) then runs ps s k else [])
runs-tested f b [] s k = at_test (is_wanted b (holds f s))
  where
    at_test : (t : Bool) → [] ≡ (if t then runs [] s k else [])
    at_test true = refl
    at_test false = refl
runs-tested f b (p ∷ ps) s k = ap (λ l. run k (walked (tested f b ∷ p) s) ++ l) (runs-tested f b ps s (suc k)) ∙ at_test (is_wanted b (holds f s))
  where
    at_test : (t : Bool) → run k (if t then walked p s else None) ++ (if t then runs ps s (suc k) else []) ≡ (if t then run k (walked p s) ++ runs ps s (suc k) else [])
    at_test true = refl
    at_test false = refl

length-tested : (f : Formula) (b : Bool) (ps : List (List Link)) → length (map (λ p. tested f b ∷ p) ps) ≡ length ps
length-tested f b [] = refl
length-tested f b (p ∷ ps) = ap suc (length-tested f b ps)

either_branch : (t : Formula) (y n : Pieces) (s : Store) (k : ℕ) (b : Bool) → runs (paths_along y) s k ≡ as_list (shift k (walk_along y s)) → runs (paths_along n) s (k + length (paths_along y)) ≡ as_list (shift (k + length (paths_along y)) (walk_along n s))
    → (if b then runs (paths_along y) s k else []) ++ (if not b then runs (paths_along n) s (k + length (paths_along y)) else []) ≡ as_list (shift k (if b then walk_along y s else option_map (λ w. (length (paths_along y) + w.0, w.1)) (walk_along n s)))
either_branch t y n s k true e f = append-nil _ ∙ e
either_branch t y n s k false e f = f ∙ regroup (walk_along n s)
  where
    regroup : (w : Walk) → as_list (shift (k + length (paths_along y)) w) ≡ as_list (shift k (option_map (λ w. (length (paths_along y) + w.0, w.1)) w))
    regroup None = refl
    regroup (Some w) = let g : k + length (paths_along y) + w.0 ≡ k + (length (paths_along y) + w.0) = omega arith in ap (λ m. (m, w.1) ∷ []) g

behind_walk : (xs : Pieces) (k : ℕ) (o : Walk) → ((t : Store) (m : ℕ) → runs (paths_along xs) t m ≡ as_list (shift m (walk_along xs t)))
    → follow_all (paths_along xs) k (as_list (shift 0 o)) ≡ as_list (shift k (option_and_then (λ w. behind_path w.0 (length (paths_along xs)) (walk_along xs w.1)) o))
behind_walk xs k None down = refl
behind_walk xs k (Some w) down = append-nil _ ∙ down w.1 ((0 + w.0) * length (paths_along xs) + k) ∙ regroup (walk_along xs w.1)
  where
    regroup : (o : Walk) → as_list (shift ((0 + w.0) * length (paths_along xs) + k) o) ≡ as_list (shift k (behind_path w.0 (length (paths_along xs)) o))
    regroup None = refl
    regroup (Some v) =
        let z : 0 + w.0 ≡ w.0 = omega arith in
        let g : w.0 * length (paths_along xs) + k + v.0 ≡ k + (w.0 * length (paths_along xs) + v.0) = omega arith in
        ap (λ m. (m * length (paths_along xs) + k + v.0, v.1) ∷ []) z ∙ ap (λ m. (m, v.1) ∷ []) g

mutual
  -- the walk is the one path of the statement that can be walked
  pub runs-walk : (x : Piece) (s : Store) (k : ℕ) → runs (paths x) s k ≡ as_list (shift k (walk x s))
  runs-walk piece_skip s k = let e : k ≡ k + 0 = omega arith in ap (λ n. (n, s) ∷ []) e
  runs-walk (piece_assign xs) s k = let e : k ≡ k + 0 = omega arith in ap (λ n. (n, assigned xs s) ∷ []) e
  runs-walk (piece_await t) s k = at_test (holds t s)
    where
      at_test : (b : Bool) → run k (if b then Some s else None) ++ [] ≡ as_list (shift k (if b then Some (0, s) else None))
      at_test true = let e : k ≡ k + 0 = omega arith in ap (λ n. (n, s) ∷ []) e
      at_test false = refl
  runs-walk (piece_if t y n) s k =
      runs-append (map (λ p. tested t true ∷ p) (paths_along y)) (map (λ p. tested t false ∷ p) (paths_along n)) s k
      ∙ ap (λ l. l ++ runs (map (λ p. tested t false ∷ p) (paths_along n)) s (k + length (map (λ p. tested t true ∷ p) (paths_along y)))) (runs-tested t true (paths_along y) s k)
      ∙ ap (λ l. (if holds t s then runs (paths_along y) s k else []) ++ l)
      (runs-tested t false (paths_along n) s (k + length (map (λ p. tested t true ∷ p) (paths_along y))) ∙ ap (λ m. if not (holds t s) then runs (paths_along n) s (k + m) else []) (length-tested t true (paths_along y)))
      ∙ either_branch t y n s k (holds t s) (runs-walk_along y s k) (runs-walk_along n s (k + length (paths_along y)))

  pub runs-walk_along : (xs : Pieces) (s : Store) (k : ℕ) → runs (paths_along xs) s k ≡ as_list (shift k (walk_along xs s))
  runs-walk_along no_piece s k = let e : k ≡ k + 0 = omega arith in ap (λ n. (n, s) ∷ []) e
  runs-walk_along (piece x xs) s k =
      let e : k ≡ 0 * length (paths_along xs) + k = omega arith in
      ap (runs (flat_map (λ p. map (λ q. p ++ q) (paths_along xs)) (paths x)) s) e
      ∙ runs-flat (paths x) (paths_along xs) s 0 k
      ∙ ap (follow_all (paths_along xs) k) (runs-walk x s 0)
      ∙ behind_walk xs k (walk x s) (λ t m. runs-walk_along xs t m)

-- so the steps of a group are the step of its walk
abbrev pub walk_acts : ℕ → ℕ → List (ℕ × Store) → List (Act Rest)
walk_acts o k [] = []
walk_acts o k (w ∷ ws) = act (Step o Whole) w.0 Done w.1 ∷ walk_acts o k ws

acts-runs : (o k : ℕ) (ps : List (List Link)) (s : Store) → path_acts o k ps s ≡ walk_acts o k (runs ps s k)
acts-runs o k [] s = refl
acts-runs o k (p ∷ ps) s = ap (λ l. path_act o k (walked p s) ++ l) (acts-runs o (suc k) ps s) ∙ by_walk (walked p s)
  where
    by_walk : (z : Option Store) → path_act o k z ++ walk_acts o (suc k) (runs ps s (suc k)) ≡ walk_acts o k (run k z ++ runs ps s (suc k))
    by_walk None = same (runs ps s (suc k))
      where
        same : (ws : List (ℕ × Store)) → walk_acts o (suc k) ws ≡ walk_acts o k ws
        same [] = refl
        same (w ∷ ws) = ap (λ l. act (Step o Whole) w.0 Done w.1 ∷ l) (same ws)
    by_walk (Some t) = ap (λ l. act (Step o Whole) k Done t ∷ l) (same (runs ps s (suc k)))
      where
        same : (ws : List (ℕ × Store)) → walk_acts o (suc k) ws ≡ walk_acts o k ws
        same [] = refl
        same (w ∷ ws) = ap (λ l. act (Step o Whole) w.0 Done w.1 ∷ l) (same ws)

abbrev pub acts_of_walk : ℕ → Walk → List (Act Rest)
acts_of_walk o None = []
acts_of_walk o (Some w) = act (Step o Whole) (1 + w.0) Done w.1 ∷ []

pub group-acts : (o : ℕ) (xs : Pieces) (s : Store) → path_acts o 1 (paths_along xs) s ≡ acts_of_walk o (walk_along xs s)
group-acts o xs s = acts-runs o 1 (paths_along xs) s ∙ ap (walk_acts o 1) (runs-walk_along xs s 1) ∙ by_walk (walk_along xs s)
  where
    by_walk : (w : Walk) → walk_acts o 1 (as_list (shift 1 w)) ≡ acts_of_walk o w
    by_walk None = refl
    by_walk (Some w) = refl

length-flat : (ps qs : List (List Link)) → length (flat_map (λ p. map (λ q. p ++ q) qs) ps) ≡ length ps * length qs
length-flat [] qs = omega arith
length-flat (p ∷ ps) qs =
    let i = length-flat ps qs in
    omega (arith, length-append (map (λ q. p ++ q) qs) (flat_map (λ p. map (λ q. p ++ q) qs) ps), length-front p qs, i)

pub product-above : (a b : ℕ) → 0 < a → 0 < b → 0 < a * b
product-above zero b h k = absurd (omega arith)
product-above (suc a) b h k = omega arith

pub length-piece : (x : Piece) (xs : Pieces) → length (paths_along (piece x xs)) ≡ length (paths x) * length (paths_along xs)
length-piece x xs = length-flat (paths x) (paths_along xs)

pub length-if : (t : Formula) (y n : Pieces) → length (paths (piece_if t y n)) ≡ length (paths_along y) + length (paths_along n)
length-if t y n = omega (arith, length-append (map (λ p. tested t true ∷ p) (paths_along y)) (map (λ p. tested t false ∷ p) (paths_along n)), length-tested t true (paths_along y), length-tested t false (paths_along n))

-- each statement has a path
mutual
  pub some_path : (x : Piece) → 0 < length (paths x)
  some_path piece_skip = omega arith
  some_path (piece_assign xs) = omega arith
  some_path (piece_await t) = omega arith
  some_path (piece_if t y n) = omega (arith, length-if t y n, some_along y)

  pub some_along : (xs : Pieces) → 0 < length (paths_along xs)
  some_along no_piece = omega arith
  some_along (piece x xs) = let h = product-above (length (paths x)) (length (paths_along xs)) (some_path x) (some_along xs) in omega (arith, h, length-piece x xs)

-- the number of the walk's path is one of a path
abbrev Below : ℕ → List (ℕ × Store) → Type 0
Below n [] = Unit {0}
Below n (w ∷ ws) = (w.0 < n) × Below n ws

runs-below : (ps : List (List Link)) (s : Store) (k : ℕ) → Below (k + length ps) (runs ps s k)
runs-below [] s k = tt
runs-below (p ∷ ps) s k = by_walk (walked p s) (let e : suc k + length ps ≡ k + suc (length ps) = omega arith in subst (λ n. Below n (runs ps s (suc k))) e (runs-below ps s (suc k)))
  where
    by_walk : (o : Option Store) → Below (k + suc (length ps)) (runs ps s (suc k)) → Below (k + suc (length ps)) (run k o ++ runs ps s (suc k))
    by_walk None h = h
    by_walk (Some t) h = (omega arith, h)

pub walk-below : (x : Piece) (s : Store) (w : ℕ × Store) → walk x s ≡ Some w → w.0 < length (paths x)
walk-below x s w e =
    let h : Below (0 + length (paths x)) (as_list (shift 0 (Some w))) = subst (λ o. Below (0 + length (paths x)) (as_list (shift 0 o))) e (subst (Below (0 + length (paths x))) (runs-walk x s 0) (runs-below (paths x) s 0)) in
    omega (arith, h.0)

-- what is met on the paths is what is met on the walk
abbrev met_behind : List (List Link) → List (ℕ × Store) → Bool
met_behind qs ws = list_any (λ w. wide_paths qs w.1) ws

abbrev met_by : Option Store → (Store → Bool) → Bool
met_by None f = false
met_by (Some t) f = f t

or_or : (a b c : Bool) → ((a || b) || c) ≡ (a || (b || c))
or_or true b c = refl
or_or false b c = refl

wide-append : (p q : List Link) (s : Store) → wide_path (p ++ q) s ≡ (wide_path p s || met_by (walked p s) (λ t. wide_path q t))
wide-append [] q s = refl
wide-append (tested f b ∷ p) q s = at_test (wide_formula f s) (is_wanted b (holds f s)) (wide-append p q s)
  where
    at_test : (w t : Bool) → wide_path (p ++ q) s ≡ (wide_path p s || met_by (walked p s) (λ t. wide_path q t))
        → (w || (if t then wide_path (p ++ q) s else false)) ≡ ((w || (if t then wide_path p s else false)) || met_by (if t then walked p s else None) (λ t. wide_path q t))
    at_test true t e = refl
    at_test false true e = e
    at_test false false e = refl
wide-append (given xs ∷ p) q s = ap (λ b. wide_targets xs s || b) (wide-append p q (assigned xs s)) ∙ sym (or_or (wide_targets xs s) (wide_path p (assigned xs s)) (met_by (walked p (assigned xs s)) (λ t. wide_path q t)))

any-append : (xs ys : List (List Link)) (s : Store) → wide_paths (xs ++ ys) s ≡ (wide_paths xs s || wide_paths ys s)
any-append [] ys s = refl
any-append (x ∷ xs) ys s = ap (λ b. wide_path x s || b) (any-append xs ys s) ∙ sym (or_or (wide_path x s) (wide_paths xs s) (wide_paths ys s))

wide-front : (p q : List Link) (qs : List (List Link)) (s : Store) → wide_paths (map (λ q. p ++ q) (q ∷ qs)) s ≡ (wide_path p s || met_by (walked p s) (λ t. wide_paths (q ∷ qs) t))
wide-front p q [] s = ap (λ b. b || false) (wide-append p q s) ∙ or_or (wide_path p s) (met_by (walked p s) (λ t. wide_path q t)) false ∙ ap (λ b. wide_path p s || b) (by_walk (walked p s))
  where
    by_walk : (o : Option Store) → (met_by o (λ t. wide_path q t) || false) ≡ met_by o (λ t. wide_paths (q ∷ []) t)
    by_walk None = refl
    by_walk (Some t) = refl
wide-front p q (r ∷ qs) s =
    ap (λ b. b || wide_paths (map (λ q. p ++ q) (r ∷ qs)) s) (wide-append p q s)
    ∙ ap (λ b. (wide_path p s || met_by (walked p s) (λ t. wide_path q t)) || b) (wide-front p r qs s)
    ∙ by_walk (wide_path p s) (walked p s)
  where
    by_walk : (w : Bool) (o : Option Store) → ((w || met_by o (λ t. wide_path q t)) || (w || met_by o (λ t. wide_paths (r ∷ qs) t))) ≡ (w || met_by o (λ t. wide_paths (q ∷ r ∷ qs) t))
    by_walk true o = refl
    by_walk false None = refl
    by_walk false (Some t) = refl

wide-flat : (ps : List (List Link)) (q : List Link) (qs : List (List Link)) (s : Store) (j : ℕ) → wide_paths (flat_map (λ p. map (λ q. p ++ q) (q ∷ qs)) ps) s ≡ (wide_paths ps s || met_behind (q ∷ qs) (runs ps s j))
wide-flat [] q qs s j = refl
wide-flat (p ∷ ps) q qs s j =
    any-append (map (λ q. p ++ q) (q ∷ qs)) (flat_map (λ p. map (λ q. p ++ q) (q ∷ qs)) ps) s
    ∙ ap (λ b. b || wide_paths (flat_map (λ p. map (λ q. p ++ q) (q ∷ qs)) ps) s) (wide-front p q qs s)
    ∙ ap (λ b. (wide_path p s || met_by (walked p s) (λ t. wide_paths (q ∷ qs) t)) || b) (wide-flat ps q qs s (suc j))
    ∙ by_walk (wide_path p s) (walked p s) (wide_paths ps s)
  where
    by_walk : (w : Bool) (o : Option Store) (v : Bool) → ((w || met_by o (λ t. wide_paths (q ∷ qs) t)) || (v || met_behind (q ∷ qs) (runs ps s (suc j)))) ≡ ((w || v) || met_behind (q ∷ qs) (run j o ++ runs ps s (suc j)))
    by_walk true o v = refl
    by_walk false None v = refl
    by_walk false (Some t) true = swap (wide_paths (q ∷ qs) t)
      where
        swap : (b : Bool) → (b || true) ≡ true
        swap true = refl
        swap false = refl
    by_walk false (Some t) false = refl

wide-tested : (f : Formula) (b : Bool) (p : List Link) (ps : List (List Link)) (s : Store) → wide_paths (map (λ p. tested f b ∷ p) (p ∷ ps)) s ≡ (wide_formula f s || (if is_wanted b (holds f s) then wide_paths (p ∷ ps) s else false))
wide-tested f b p [] s = at_test (wide_formula f s) (is_wanted b (holds f s))
  where
    at_test : (w t : Bool) → ((w || (if t then wide_path p s else false)) || false) ≡ (w || (if t then wide_paths (p ∷ []) s else false))
    at_test true t = refl
    at_test false true = refl
    at_test false false = refl
wide-tested f b p (q ∷ ps) s = ap (λ z. wide_path (tested f b ∷ p) s || z) (wide-tested f b q ps s) ∙ at_test (wide_formula f s) (is_wanted b (holds f s))
  where
    at_test : (w t : Bool) → ((w || (if t then wide_path p s else false)) || (w || (if t then wide_paths (q ∷ ps) s else false))) ≡ (w || (if t then wide_paths (p ∷ q ∷ ps) s else false))
    at_test true t = refl
    at_test false true = refl
    at_test false false = refl

-- a list that isn't empty, by its parts
inhabited : (xs : List (List Link)) → 0 < length xs → (q : List Link) × (qs : List (List Link)) × (xs ≡ q ∷ qs)
inhabited [] h = absurd (omega arith)
inhabited (q ∷ qs) h = (q, qs, refl)

either_wide : (y n : Pieces) (s : Store) (w b : Bool) → wide_paths (paths_along y) s ≡ wide_walk_along y s → wide_paths (paths_along n) s ≡ wide_walk_along n s
    → ((w || (if b then wide_paths (paths_along y) s else false)) || (w || (if not b then wide_paths (paths_along n) s else false))) ≡ (w || (if b then wide_walk_along y s else wide_walk_along n s))
either_wide y n s true b e f = refl
either_wide y n s false true e f = or_false (wide_paths (paths_along y) s) ∙ e
either_wide y n s false false e f = f

wide_through : (xs : Pieces) (o : Walk) → ((t : Store) → wide_paths (paths_along xs) t ≡ wide_walk_along xs t) → met_behind (paths_along xs) (as_list (shift 0 o)) ≡ through o (λ t. wide_walk_along xs t)
wide_through xs None down = refl
wide_through xs (Some w) down = or_false (wide_paths (paths_along xs) w.1) ∙ down w.1

mutual
  pub wide-walk : (x : Piece) (s : Store) → wide_paths (paths x) s ≡ wide_walk x s
  wide-walk piece_skip s = refl
  wide-walk (piece_assign xs) s = or_false (wide_targets xs s || false) ∙ or_false (wide_targets xs s)
  wide-walk (piece_await t) s = at_test (wide_formula t s) (holds t s)
    where
      at_test : (w b : Bool) → ((w || (if b then false else false)) || false) ≡ w
      at_test true b = refl
      at_test false true = refl
      at_test false false = refl
  wide-walk (piece_if t y n) s =
      let py = inhabited (paths_along y) (some_along y) in
      let pn = inhabited (paths_along n) (some_along n) in
      let ty = ap (λ l. wide_paths (map (λ p. tested t true ∷ p) l) s) py.2 ∙ wide-tested t true py.0 py.1 s ∙ sym (ap (λ l. wide_formula t s || (if holds t s then wide_paths l s else false)) py.2) in
      let tn = ap (λ l. wide_paths (map (λ p. tested t false ∷ p) l) s) pn.2 ∙ wide-tested t false pn.0 pn.1 s ∙ sym (ap (λ l. wide_formula t s || (if not (holds t s) then wide_paths l s else false)) pn.2) in
      any-append (map (λ p. tested t true ∷ p) (paths_along y)) (map (λ p. tested t false ∷ p) (paths_along n)) s
      ∙ ap (λ b. b || wide_paths (map (λ p. tested t false ∷ p) (paths_along n)) s) ty
      ∙ ap (λ b. (wide_formula t s || (if holds t s then wide_paths (paths_along y) s else false)) || b) tn
      ∙ either_wide y n s (wide_formula t s) (holds t s) (wide-walk_along y s) (wide-walk_along n s)

  pub wide-walk_along : (xs : Pieces) (s : Store) → wide_paths (paths_along xs) s ≡ wide_walk_along xs s
  wide-walk_along no_piece s = refl
  wide-walk_along (piece x xs) s =
      let q = inhabited (paths_along xs) (some_along xs) in
      ap (λ l. wide_paths (flat_map (λ p. map (λ q. p ++ q) l) (paths x)) s) q.2
      ∙ wide-flat (paths x) q.0 q.1 s 0
      ∙ ap (λ l. wide_paths (paths x) s || met_behind l (runs (paths x) s 0)) (sym q.2)
      ∙ ap (λ b. b || met_behind (paths_along xs) (runs (paths x) s 0)) (wide-walk x s)
      ∙ ap (λ l. wide_walk x s || met_behind (paths_along xs) l) (runs-walk x s 0)
      ∙ ap (λ b. wide_walk x s || b) (wide_through xs (walk x s) (λ t. wide-walk_along xs t))

-- a walk of the statements xs from s has come with the number n to the statements left and the store now
pub record Walks (before : List Bool) (xs : Pieces) (s : Store) (n : ℕ) (left : Pieces) (types_now : List Bool) (now : Store) : Type 0 where
  pub same_types : types_now ≡ before
  pub meets : PiecesMeet before left
  pub room : suc n * length (paths_along left) ≤ 64
  pub wide : wide_walk_along left now ≡ wide_walk_along xs s
  pub walks : behind_path n (length (paths_along left)) (walk_along left now) ≡ walk_along xs s

pub walks-start : (ts : List Bool) (xs : Pieces) (s : Store) → PiecesMeet ts xs → length (paths_along xs) ≤ 64 → Walks ts xs s 0 xs ts s
walks-start ts xs s h le = record {
  same_types = refl;
  meets = h;
  room = omega arith;
  wide = refl;
  walks = by_walk (walk_along xs s);
}
  where
    by_walk : (o : Walk) → behind_path 0 (length (paths_along xs)) o ≡ o
    by_walk None = refl
    by_walk (Some w) = let e : 0 * length (paths_along xs) + w.0 ≡ w.0 = omega arith in ap (λ m. Some (m, w.1)) e

-- a product is at least each of its factors
pub factor : (a b c : ℕ) → 0 < c → a * (b * c) ≤ 64 → a * b ≤ 64
factor a b zero h k = absurd (omega arith)
factor a b (suc c) h k = omega arith

module _ (before : List Bool) (xs : Pieces) (s : Store) (n : ℕ) (left : Pieces) (x : Piece) (rest : Pieces) (ts : List Bool) (now : Store) (is : left ≡ piece x rest) (h : Walks before xs s n left ts now) where
  here_now : Walks before xs s n (piece x rest) ts now
  here_now = subst (λ l. Walks before xs s n l ts now) is h

  pub walks-meets : PieceMeets ts x
  walks-meets = subst (λ t. PieceMeets t x) (sym here_now.same_types) here_now.meets.0

  pub product-room : suc n * (length (paths x) * length (paths_along rest)) ≤ 64
  product-room = subst (λ m. suc n * m ≤ 64) (length-piece x rest) here_now.room

  pub walks-few : length (paths x) ≤ 64
  walks-few = let f = factor (suc n) (length (paths x)) (length (paths_along rest)) (some_along rest) product-room in omega (arith, f)

  pub walks-wide : wide_walk x now ≡ true → wide_walk_along xs s ≡ true
  walks-wide e = sym here_now.wide ∙ or_here _ _ e

  pub walks-none : wide_walk x now ≡ false → walk x now ≡ None → (wide_walk_along xs s ≡ false) × (None ≡ walk_along xs s)
  walks-none w e = (
    sym here_now.wide ∙ or_none _ _ w ∙ ap (λ o. through o (λ t. wide_walk_along rest t)) e,
    sym (ap (λ o. behind_path n (length (paths_along (piece x rest))) (option_and_then (λ w. behind_path w.0 (length (paths_along rest)) (walk_along rest w.1)) o)) e) ∙ here_now.walks,
  )

  scale : (a b c : ℕ) → a ≤ b → a * c ≤ b * c
  scale a b zero le = omega arith
  scale a b (suc c) le = omega (arith, scale a b c le)

  -- the walk goes on behind the next statement
  pub walks-next : (w : ℕ × Store) (after : List Bool) (n' : ℕ) → wide_walk x now ≡ false → walk x now ≡ Some w → n' ≡ n * length (paths x) + w.0 → after ≡ ts → Walks before xs s n' rest after w.1
  walks-next w after n' narrow e num t =
      let below = walk-below x now w e in
      let more : suc n' ≤ suc n * length (paths x) = omega (arith, num, below) in
      let large : suc n' * length (paths_along rest) ≤ suc n * length (paths x) * length (paths_along rest) = scale (suc n') (suc n * length (paths x)) (length (paths_along rest)) more in
      let assoc : suc n * length (paths x) * length (paths_along rest) ≡ suc n * (length (paths x) * length (paths_along rest)) = omega arith in
      record {
        same_types = t ∙ here_now.same_types;
        meets = here_now.meets.1;
        room = omega (arith, large, assoc, product-room);
        wide = sym (or_none _ _ narrow ∙ ap (λ o. through o (λ t. wide_walk_along rest t)) e) ∙ here_now.wide;
        walks = regroup (walk_along rest w.1)
            ∙ ap (λ m. behind_path n m (behind_path w.0 (length (paths_along rest)) (walk_along rest w.1))) (sym (length-piece x rest))
            ∙ sym (ap (λ o. behind_path n (length (paths_along (piece x rest))) (option_and_then (λ w. behind_path w.0 (length (paths_along rest)) (walk_along rest w.1)) o)) e)
            ∙ here_now.walks;
      }
    where
      regroup : (o : Walk) → behind_path n' (length (paths_along rest)) o ≡ behind_path n (length (paths x) * length (paths_along rest)) (behind_path w.0 (length (paths_along rest)) o)
      regroup None = refl
      regroup (Some v) =
          let g : (n * length (paths x) + w.0) * length (paths_along rest) + v.0 ≡ n * (length (paths x) * length (paths_along rest)) + (w.0 * length (paths_along rest) + v.0) = omega arith in
          ap (λ m. Some (m * length (paths_along rest) + v.0, v.1)) num ∙ ap (λ m. Some (m, v.1)) g

pub walk_along-below : (xs : Pieces) (s : Store) (w : ℕ × Store) → walk_along xs s ≡ Some w → w.0 < length (paths_along xs)
walk_along-below xs s w e =
    let h : Below (0 + length (paths_along xs)) (as_list (shift 0 (Some w))) = subst (λ o. Below (0 + length (paths_along xs)) (as_list (shift 0 o))) e (subst (Below (0 + length (paths_along xs))) (runs-walk_along xs s 0) (runs-below (paths_along xs) s 0)) in
    omega (arith, h.0)
