-- Each problem of a walk is counted, so the count rises, and the numbers of branches stay below it.
use Rattle.std.proofs.Common.{◌≡◌, ℕ, zero, suc, ◌+◌, ◌<◌, ◌≤◌, Bool, true, false, List, [], ◌∷◌, length, refl, arith}
use Rattle.std.specs.Prelude.{nat_lt, if◌then◌else◌}
use Rattle.std.proofs.lemmas.Bool.Decides.{nat_tests}
use Rattle.st_certificate.specs.Tree.{Step, Tree}
use Rattle.elimination_laws.specs.declared.stage.WideStage.TheVariants as stage
use Rattle.search_laws.specs.Walks.{given_up, Move, closes, divides, fails, Found, found, stopped, FoundAll, all, broke, onto_trees, then_rest, walk_all, divided_by, walk_node, walk, searched}
use Rattle.search_laws.specs.Sizes.{BranchesAreFew, FailsShort}

-- from n nodes on, with d levels
abbrev pub IsCounted : ℕ → ℕ → Found → Type 0
IsCounted d n (found t r) = (n < r) × (r ≤ 100000)
IsCounted d n (stopped path e) = (length path ≤ d) × BranchesAreFew path

abbrev pub AreCounted : ℕ → ℕ → FoundAll → Type 0
AreCounted d n (all ts r) = (n ≤ r) × (r ≤ 100000)
AreCounted d n (broke j path e) = (j < 100000) × (length path ≤ d) × BranchesAreFew path

onto-counted : (d n r : ℕ) (t : Tree) (a : FoundAll) → n < r → AreCounted d r a → AreCounted d n (onto_trees t a)
onto-counted d n r t (all ts m) l h = (let k = h.0 in omega (arith, k, l), h.1)
onto-counted d n r t (broke j path e) l h = h

rest-counted : (d i n : ℕ) (f : Found) (rest : ℕ → FoundAll) → i < n → n ≤ 100000 → IsCounted d n f → ((r : ℕ) → i + 1 < r → r ≤ 100000 → AreCounted d r (rest r)) → AreCounted d n (then_rest i f rest)
rest-counted d i n (found t r) rest l m h g = let k = h.0 in onto-counted d n r t (rest r) k (g r (omega (arith, k, l)) h.1)
rest-counted d i n (stopped path e) rest l m h g = (omega (arith, l, m), h.0, h.1)

pub all-counted : {P : Type 0} (d : ℕ) (rec : P → ℕ → Found) → ((p : P) (n : ℕ) → n ≤ 100000 → IsCounted d n (rec p n)) → (ps : List P) (i n : ℕ) → i < n → n ≤ 100000 → AreCounted d n (walk_all rec ps i n)
all-counted d rec f [] i n l m = (omega arith, m)
all-counted d rec f (p ∷ ps) i n l m = rest-counted d i n (rec p n) (walk_all rec ps (i + 1)) l m (f p n m) (λ r k h. all-counted d rec f ps (i + 1) r k h)

divided-counted : (d n : ℕ) (s : Step) (a : FoundAll) → AreCounted d (n + 1) a → IsCounted (suc d) n (divided_by s a)
divided-counted d n s (all ts r) h = (let k = h.0 in omega (arith, k), h.1)
divided-counted d n s (broke j path e) h = (let k = h.1 in omega (arith, k), (h.0, h.2))

node-counted : {P : Type 0} (d n : ℕ) (rec : P → ℕ → Found) → ((p : P) (n : ℕ) → n ≤ 100000 → IsCounted d n (rec p n)) → (m : Move P) → n < 100000 → IsCounted (suc d) n (walk_node rec m (n + 1))
node-counted d n rec f (closes t) l = (omega arith, omega (arith, l))
node-counted d n rec f (divides s ps) l = divided-counted d n s (walk_all rec ps 0 (n + 1)) (all-counted d rec f ps 0 (n + 1) (omega arith) (omega (arith, l)))
node-counted d n rec f (fails e) l = (omega arith, tt)

by_room : (d n : ℕ) (b : Bool) (f : Found) → (b ≡ true → IsCounted d n f) → IsCounted d n (if b then f else stopped [] (given_up stage.Tree))
by_room d n true f h = h refl
by_room d n false f h = (omega arith, tt)

pub walk-counted : {P : Type 0} (move : P → Move P) (d : ℕ) (p : P) (n : ℕ) → n ≤ 100000 → IsCounted d n (walk move d p n)
walk-counted move zero p n h = (omega arith, tt)
walk-counted move (suc d) p n h =
    by_room (suc d) n (nat_lt n 100000) (walk_node (walk move d) (move p) (n + 1)) (λ t. let less : n < 100000 = grind (arith, nat_tests) in node-counted d n (walk move d) (λ q k m. walk-counted move d q k m) (move p) less)

short-by : (f : Found) → IsCounted 400 0 f → FailsShort f
short-by (found t r) h = tt
short-by (stopped path e) h = record { steps = h.0; branches = h.1 }

pub searched-short : {P : Type 0} (move : P → Move P) (p : P) → FailsShort (searched move p)
searched-short move p = short-by (searched move p) (walk-counted move 400 p 0 (omega arith))
