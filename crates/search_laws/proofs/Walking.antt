-- What is so at each leaf, and passes up from the parts of a division, is so of what the whole walk comes to.
use Rattle.std.proofs.Common.{◌≡◌, ℕ, zero, suc, ◌+◌, ◌<◌, ◌≤◌, Bool, true, false, List, [], ◌∷◌, refl, ◌⊎◌, inl, inr, arith}
use Rattle.std.specs.Prelude.{nat_lt, if◌then◌else◌}
use Rattle.std.proofs.lemmas.Bool.Decides.{nat_tests}
use Rattle.st_certificate.specs.Tree.{Step, Tree, Trees, branch, no_tree, with_tree}
use Rattle.elimination_laws.specs.declared.stage.WideStage.TheVariants as stage
use Rattle.search_laws.specs.Walks.{Failure, given_up, Move, closes, divides, fails, Found, found, stopped, FoundAll, all, broke, onto_trees, then_rest, walk_all, divided_by, walk_node, walk, searched}
use Rattle.search_laws.specs.Sizes.{nodes, nodes_of, levels, levels_of, IsModestTree}

abbrev pub AllOf : {P : Type 0} → (P → Type 0) → List P → Type 0
AllOf Q [] = Unit {0}
AllOf Q (p ∷ ps) = Q p × AllOf Q ps

abbrev pub OneOf : {P : Type 0} → (P → Type 0) → List P → Type 0
OneOf Q [] = ⊥
OneOf Q (p ∷ ps) = Q p ⊎ OneOf Q ps

-- as many trees as problems, and each is so for its own
abbrev pub EachOf : {P : Type 0} → (Tree → P → Type 0) → Trees → List P → Type 0
EachOf V no_tree [] = Unit {0}
EachOf V no_tree (p ∷ ps) = ⊥
EachOf V (with_tree t ts) [] = ⊥
EachOf V (with_tree t ts) (p ∷ ps) = V t p × EachOf V ts ps

-- what each move owes: V of trees that are found, R of failures, at problems that are Good
pub record Explains {P : Type 0} (move : P → Move P) (Good : P → Type 0) (V : Tree → P → Type 0) (R : Failure → P → Type 0) : Type 0 where
  pub closing : (p : P) (t : Tree) → Good p → move p ≡ closes t → V t p
  pub keeping : (p : P) (s : Step) (ps : List P) → Good p → move p ≡ divides s ps → AllOf Good ps
  pub dividing : (p : P) (s : Step) (ps : List P) (ts : Trees) → Good p → move p ≡ divides s ps → EachOf V ts ps → V (branch s ts) p
  pub failing : (p : P) (e : Failure) → Good p → move p ≡ fails e → R e p
  pub opening : (p : P) (s : Step) (ps : List P) (e : Failure) → Good p → move p ≡ divides s ps → OneOf (R e) ps → R e p
  pub tree : (p : P) → R (given_up stage.Tree) p

abbrev pub Told : {P : Type 0} → (Tree → P → Type 0) → (Failure → P → Type 0) → P → Found → Type 0
Told V R p (found t n) = V t p
Told V R p (stopped path e) = R e p

abbrev ToldAll : {P : Type 0} → (Tree → P → Type 0) → (Failure → P → Type 0) → List P → FoundAll → Type 0
ToldAll V R ps (all ts n) = EachOf V ts ps
ToldAll V R ps (broke i path e) = OneOf (R e) ps

onto-told : {P : Type 0} (V : Tree → P → Type 0) (R : Failure → P → Type 0) (p : P) (ps : List P) (t : Tree) (a : FoundAll) → V t p → ToldAll V R ps a → ToldAll V R (p ∷ ps) (onto_trees t a)
onto-told V R p ps t (all ts n) h k = (h, k)
onto-told V R p ps t (broke i path e) h k = inr k

rest-told : {P : Type 0} (V : Tree → P → Type 0) (R : Failure → P → Type 0) (p : P) (ps : List P) (i : ℕ) (f : Found) (rest : ℕ → FoundAll) → Told V R p f → ((n : ℕ) → ToldAll V R ps (rest n)) → ToldAll V R (p ∷ ps) (then_rest i f rest)
rest-told V R p ps i (found t n) rest h k = onto-told V R p ps t (rest n) h (k n)
rest-told V R p ps i (stopped path e) rest h k = inl h

all-told : {P : Type 0} (Good : P → Type 0) (V : Tree → P → Type 0) (R : Failure → P → Type 0) (rec : P → ℕ → Found) → ((p : P) (n : ℕ) → Good p → Told V R p (rec p n)) → (ps : List P) (i n : ℕ) → AllOf Good ps → ToldAll V R ps (walk_all rec ps i n)
all-told Good V R rec f [] i n h = tt
all-told Good V R rec f (p ∷ ps) i n h = rest-told V R p ps i (rec p n) (walk_all rec ps (i + 1)) (f p n h.0) (λ k. all-told Good V R rec f ps (i + 1) k h.1)

divided-told : {P : Type 0} (move : P → Move P) (Good : P → Type 0) (V : Tree → P → Type 0) (R : Failure → P → Type 0) → Explains move Good V R → (p : P) (s : Step) (ps : List P) → Good p → move p ≡ divides s ps → (a : FoundAll) → ToldAll V R ps a → Told V R p (divided_by s a)
divided-told move Good V R x p s ps g h (all ts n) k = x.dividing p s ps ts g h k
divided-told move Good V R x p s ps g h (broke i path e) k = x.opening p s ps e g h k

node-told : {P : Type 0} (move : P → Move P) (Good : P → Type 0) (V : Tree → P → Type 0) (R : Failure → P → Type 0) → Explains move Good V R → (rec : P → ℕ → Found) → ((p : P) (n : ℕ) → Good p → Told V R p (rec p n)) → (p : P) → Good p → (m : Move P) → move p ≡ m → (n : ℕ) → Told V R p (walk_node rec m n)
node-told move Good V R x rec f p g (closes t) h n = x.closing p t g h
node-told move Good V R x rec f p g (divides s ps) h n = divided-told move Good V R x p s ps g h (walk_all rec ps 0 n) (all-told Good V R rec f ps 0 n (x.keeping p s ps g h))
node-told move Good V R x rec f p g (fails e) h n = x.failing p e g h

by_room : {P : Type 0} (V : Tree → P → Type 0) (R : Failure → P → Type 0) (p : P) (b : Bool) (f : Found) → Told V R p f → R (given_up stage.Tree) p → Told V R p (if b then f else stopped [] (given_up stage.Tree))
by_room V R p true f h k = h
by_room V R p false f h k = k

pub walk-told : {P : Type 0} (move : P → Move P) (Good : P → Type 0) (V : Tree → P → Type 0) (R : Failure → P → Type 0) → Explains move Good V R → (levels : ℕ) (p : P) (n : ℕ) → Good p → Told V R p (walk move levels p n)
walk-told move Good V R x zero p n g = x.tree p
walk-told move Good V R x (suc d) p n g =
    by_room V R p (nat_lt n 100000) (walk_node (walk move d) (move p) (n + 1)) (node-told move Good V R x (walk move d) (λ q k h. walk-told move Good V R x d q k h) p g (move p) refl (n + 1)) (x.tree p)

-- ---- sizes
abbrev pub IsLeaf : Tree → Type 0
IsLeaf t = (nodes t ≡ 1) × (levels t ≡ 1)

abbrev pub ClosesByLeaves : {P : Type 0} → (P → Move P) → Type 0
ClosesByLeaves {P} move = (p : P) (t : Tree) → move p ≡ closes t → IsLeaf t

-- from n nodes on, at most d levels
abbrev Fits : ℕ → ℕ → Found → Type 0
Fits d n (found t r) = (r ≡ n + nodes t) × (levels t ≤ d) × (r ≤ 100000)
Fits d n (stopped path e) = Unit {0}

abbrev FitsAll : ℕ → ℕ → FoundAll → Type 0
FitsAll d n (all ts r) = (r ≡ n + nodes_of ts) × (levels_of ts ≤ d) × (r ≤ 100000)
FitsAll d n (broke i path e) = Unit {0}

onto-fits : (d n k : ℕ) (t : Tree) (a : FoundAll) → k ≡ n + nodes t → levels t ≤ d → FitsAll d k a → FitsAll d n (onto_trees t a)
onto-fits d n k t (all ts r) e l h = (omega (arith, h.0), omega (arith, h.1), h.2)
onto-fits d n k t (broke i path f) e l h = tt

rest-fits : (d n i : ℕ) (f : Found) (rest : ℕ → FoundAll) → Fits d n f → ((k : ℕ) → k ≤ 100000 → FitsAll d k (rest k)) → FitsAll d n (then_rest i f rest)
rest-fits d n i (found t r) rest h g = onto-fits d n r t (rest r) h.0 h.1 (g r h.2)
rest-fits d n i (stopped path e) rest h g = tt

all-fits : {P : Type 0} (d : ℕ) (rec : P → ℕ → Found) → ((p : P) (n : ℕ) → n ≤ 100000 → Fits d n (rec p n)) → (ps : List P) (i n : ℕ) → n ≤ 100000 → FitsAll d n (walk_all rec ps i n)
all-fits d rec f [] i n h = (omega arith, omega arith, h)
all-fits d rec f (p ∷ ps) i n h = rest-fits d n i (rec p n) (walk_all rec ps (i + 1)) (f p n h) (λ k l. all-fits d rec f ps (i + 1) k l)

divided-fits : (d n : ℕ) (s : Step) (a : FoundAll) → FitsAll d (n + 1) a → Fits (suc d) n (divided_by s a)
divided-fits d n s (all ts r) h = (omega (arith, h.0), omega (arith, h.1), h.2)
divided-fits d n s (broke i path e) h = tt

node-fits : {P : Type 0} (d n : ℕ) (rec : P → ℕ → Found) → ((p : P) (n : ℕ) → n ≤ 100000 → Fits d n (rec p n)) → (m : Move P) → ((t : Tree) → m ≡ closes t → IsLeaf t) → n < 100000 → Fits (suc d) n (walk_node rec m (n + 1))
node-fits d n rec f (closes t) l h = let s = l t refl in (omega (arith, s.0), omega (arith, s.1), omega arith)
node-fits d n rec f (divides s ps) l h = divided-fits d n s (walk_all rec ps 0 (n + 1)) (all-fits d rec f ps 0 (n + 1) (omega arith))
node-fits d n rec f (fails e) l h = tt

by_count : (d n : ℕ) (b : Bool) (f : Found) → (b ≡ true → Fits d n f) → Fits d n (if b then f else stopped [] (given_up stage.Tree))
by_count d n true f h = h refl
by_count d n false f h = tt

walk-fits : {P : Type 0} (move : P → Move P) → ClosesByLeaves move → (d : ℕ) (p : P) (n : ℕ) → n ≤ 100000 → Fits d n (walk move d p n)
walk-fits move l zero p n h = tt
walk-fits move l (suc d) p n h =
    by_count (suc d) n (nat_lt n 100000) (walk_node (walk move d) (move p) (n + 1)) (λ t. let less : n < 100000 = grind (arith, nat_tests) in node-fits d n (walk move d) (λ q k m. walk-fits move l d q k m) (move p) (λ t e. l p t e) less)

fits-modest : (f : Found) (t : Tree) (r : ℕ) → Fits 400 0 f → f ≡ found t r → IsModestTree t
fits-modest f t r h e = let s = rw e at h in record { count = omega (arith, s.0, s.2); depth = s.1 }

-- a tree that is found is within the limits
pub found-modest : {P : Type 0} (move : P → Move P) → ClosesByLeaves move → (p : P) (t : Tree) (r : ℕ) → searched move p ≡ found t r → IsModestTree t
found-modest move l p t r e = fits-modest (searched move p) t r (walk-fits move l 400 p 0 (omega arith)) e
