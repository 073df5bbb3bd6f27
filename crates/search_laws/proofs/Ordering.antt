-- In a program a component stands behind the one around it, and each location is that of a component.
use Rattle.std.proofs.Common.{◌≡◌, ℕ, zero, suc, ◌+◌, ◌<◌, ◌≤◌, List, [], ◌∷◌, ◌++◌, length, Option, Some, None, refl, sym, ap, ◌∙◌, subst, length-append, arith}
use Rattle.std.specs.Prelude.{slice_get}
use Rattle.st_program.specs.Tree.{Statement, stated, Action, skip, if_then, if_else, while_do, block, select, cooperate, Statements, no_statement, statement, process, Processes, no_process, beside}
use Rattle.st_program.specs.Spots.{bodies, bodies_inside, bodies_in, bodies_of}
use Rattle.control_states.specs.declared.alternative.Alternative.{Alternative}
use Rattle.control_states.specs.declared.alternative.Alternative.TheVariants.{Location}
use Rattle.control_states.specs.Control.{ComponentFacts, component_at}
use Rattle.control_facts.specs.Alternatives.{alternatives_of, strands, strands_within, strands_among, strands_inside, owners, owners_within, owners_head, owners_along, owners_among, owners_inside, control_of}
use Rattle.search_laws.specs.Forms.{IsInOrder}
use Rattle.search_laws.specs.Ends.{HasOwner}

-- the n-th component
record IsBehind (n : ℕ) (x : ComponentFacts) : Type 0 where
  around : (w : ℕ × ℕ) → x.around ≡ Some w → w.0 < n
  choice : 0 < length x.alternatives

abbrev Ordered : ℕ → List ComponentFacts → Type 0
Ordered n [] = Unit {0}
Ordered n (x ∷ xs) = IsBehind n x × Ordered (n + 1) xs

ordered-append : (n m : ℕ) (xs ys : List ComponentFacts) → Ordered n xs → m ≡ n + length xs → Ordered m ys → Ordered n (xs ++ ys)
ordered-append n m [] ys h e k = let same : m ≡ n = omega (arith, e) in subst (λ (i : ℕ). Ordered i ys) same k
ordered-append n m (x ∷ xs) ys h e k = (h.0, ordered-append (n + 1) m xs ys h.1 (omega (arith, e)) k)

ordered-at : (n : ℕ) (xs : List ComponentFacts) (i : ℕ) → Ordered n xs → i < length xs → IsBehind (n + i) (component_at xs i)
ordered-at n [] i h l = absurd (omega (arith, l))
ordered-at n (x ∷ xs) zero h l = let e : n ≡ n + 0 = omega arith in subst (λ (m : ℕ). IsBehind m x) e h.0
ordered-at n (x ∷ xs) (suc i) h l = let e : n + 1 + i ≡ n + suc i = omega arith in subst (λ (m : ℕ). IsBehind m (component_at xs i)) e (ordered-at (n + 1) xs i h.1 (omega (arith, l)))

-- how many components a part of the text has
two-lengths : {A B : Type 0} (xs ys : List A) (us vs : List B) → length xs ≡ length us → length ys ≡ length vs → length (xs ++ ys) ≡ length (us ++ vs)
two-lengths xs ys us vs e f = length-append xs ys ∙ ap (λ z. z + length ys) e ∙ ap (λ z. length us + z) f ∙ sym (length-append us vs)

mutual
  count : (s : Statement) (c n : ℕ) → length (strands s c n) ≡ length (bodies s)
  count (stated o l a) c n = count-within a o c n

  count-within : (a : Action) (o c n : ℕ) → length (strands_within a o c n) ≡ length (bodies_inside a)
  count-within (if_then t y) o c n = count y c n
  count-within (if_else t y z) o c n = two-lengths (strands y c n) (strands z c (n + length (bodies y))) (bodies y) (bodies z) (count y c n) (count z c (n + length (bodies y)))
  count-within (while_do t b) o c n = count b c n
  count-within (block ss) o c n = count-among ss c n
  count-within (select ss) o c n = count-among ss c n
  count-within (cooperate ps) o c n = count-inside ps (Some (c, o)) n
  count-within skip o c n = refl
  count-within _ o c n = refl

  count-among : (ss : Statements) (c n : ℕ) → length (strands_among ss c n) ≡ length (bodies_in ss)
  count-among no_statement c n = refl
  count-among (statement s ss) c n = two-lengths (strands s c n) (strands_among ss c (n + length (bodies s))) (bodies s) (bodies_in ss) (count s c n) (count-among ss c (n + length (bodies s)))

  count-inside : (ps : Processes) (around : Option (ℕ × ℕ)) (n : ℕ) → length (strands_inside ps around n) ≡ length (bodies_of ps)
  count-inside no_process around n = refl
  count-inside (beside (process ss end) ps) around n =
      ap suc (two-lengths (strands_among ss n (suc n)) (strands_inside ps around (suc n + length (bodies_in ss))) (bodies_in ss) (bodies_of ps) (count-among ss n (suc n)) (count-inside ps around (suc n + length (bodies_in ss))))

-- the end is an alternative
some-choice : (ss : Statements) (end : ℕ) → 0 < length (alternatives_of ss end)
some-choice ss end = at-last _ (Location end)
  where
    at-last : (xs : List Alternative) (a : Alternative) → 0 < length (xs ++ a ∷ [])
    at-last xs a = omega (arith, length-append xs (a ∷ []))

some-same : (a b : ℕ × ℕ) → Some a ≡ Some b → a ≡ b
some-same a b h = cc

around-below : (c o n : ℕ) → c < n → (w : ℕ × ℕ) → Some (c, o) ≡ Some w → w.0 < n
around-below c o n l w e = let same : c ≡ w.0 = ap (λ (p : ℕ × ℕ). p.0) (some-same (c, o) w e) in omega (arith, l, same)

mutual
  order : (s : Statement) (c n : ℕ) → c < n → Ordered n (strands s c n)
  order (stated o l a) c n k = order-within a o c n k

  order-within : (a : Action) (o c n : ℕ) → c < n → Ordered n (strands_within a o c n)
  order-within (if_then t y) o c n k = order y c n k
  order-within (if_else t y z) o c n k =
      ordered-append n (n + length (bodies y)) (strands y c n) (strands z c (n + length (bodies y))) (order y c n k) (ap (λ m. n + m) (sym (count y c n))) (order z c (n + length (bodies y)) (omega (arith, k)))
  order-within (while_do t b) o c n k = order b c n k
  order-within (block ss) o c n k = order-among ss c n k
  order-within (select ss) o c n k = order-among ss c n k
  order-within (cooperate ps) o c n k = order-inside ps (Some (c, o)) n (around-below c o n k)
  order-within skip o c n k = tt
  order-within _ o c n k = tt

  order-among : (ss : Statements) (c n : ℕ) → c < n → Ordered n (strands_among ss c n)
  order-among no_statement c n k = tt
  order-among (statement s ss) c n k =
      ordered-append n (n + length (bodies s)) (strands s c n) (strands_among ss c (n + length (bodies s))) (order s c n k) (ap (λ m. n + m) (sym (count s c n))) (order-among ss c (n + length (bodies s)) (omega (arith, k)))

  order-inside : (ps : Processes) (around : Option (ℕ × ℕ)) (n : ℕ) → ((w : ℕ × ℕ) → around ≡ Some w → w.0 < n) → Ordered n (strands_inside ps around n)
  order-inside no_process around n k = tt
  order-inside (beside (process ss end) ps) around n k =
      let inner : Ordered (n + 1) (strands_among ss n (suc n)) = let e : suc n ≡ n + 1 = omega arith in subst (λ (m : ℕ). Ordered m (strands_among ss n (suc n))) e (order-among ss n (suc n) (omega arith)) in
      let e : suc n + length (bodies_in ss) ≡ n + 1 + length (strands_among ss n (suc n)) = omega (arith, count-among ss n (suc n)) in
      (record { around = k; choice = some-choice ss end }, ordered-append (n + 1) (suc n + length (bodies_in ss)) (strands_among ss n (suc n)) (strands_inside ps around (suc n + length (bodies_in ss))) inner e (order-inside ps around (suc n + length (bodies_in ss)) (λ w h. let l = k w h in omega (arith, l))))

-- ---- owners
abbrev Below : ℕ → List ℕ → Type 0
Below n [] = Unit {0}
Below n (x ∷ xs) = (x < n) × Below n xs

below-append : (n : ℕ) (xs ys : List ℕ) → Below n xs → Below n ys → Below n (xs ++ ys)
below-append n [] ys h k = k
below-append n (x ∷ xs) ys h k = (h.0, below-append n xs ys h.1 k)

below-more : (n m : ℕ) (xs : List ℕ) → n ≤ m → Below n xs → Below m xs
below-more n m [] l h = tt
below-more n m (x ∷ xs) l h = (let k = h.0 in omega (arith, k, l), below-more n m xs l h.1)

below-at : (n : ℕ) (xs : List ℕ) (i : ℕ) → Below n xs → i < length xs → (c : ℕ) × (slice_get xs i ≡ Some c) × (c < n)
below-at n [] i h l = absurd (omega (arith, l))
below-at n (x ∷ xs) zero h l = (x, refl, h.0)
below-at n (x ∷ xs) (suc i) h l = below-at n xs i h.1 (omega (arith, l))

mutual
  own : (s : Statement) (c n : ℕ) → c < n → Below (n + length (bodies s)) (owners s c n)
  own (stated o l a) c n k = own-within a c n k

  own-within : (a : Action) (c n : ℕ) → c < n → Below (n + length (bodies_inside a)) (owners_within a c n)
  own-within (if_then t y) c n k = (omega (arith, k), own y c n k)
  own-within (if_else t y z) c n k =
      let e = length-append (bodies y) (bodies z) in
      let m : ℕ = n + length (bodies y ++ bodies z) in
      let first = below-more (n + length (bodies y)) m (owners y c n) (omega (arith, e)) (own y c n k) in
      let second = below-more (n + length (bodies y) + length (bodies z)) m (owners z c (n + length (bodies y))) (omega (arith, e)) (own z c (n + length (bodies y)) (omega (arith, k))) in
      below-append m (c ∷ owners y c n) (c ∷ owners z c (n + length (bodies y))) (omega (arith, k), first) (omega (arith, k), second)
  own-within (while_do t b) c n k = (omega (arith, k), own b c n k)
  own-within (block ss) c n k = own-head ss c n k
  own-within (select ss) c n k = own-among ss c n k
  own-within (cooperate ps) c n k = own-inside ps n
  own-within skip c n k = tt
  own-within _ c n k = tt

  own-head : (ss : Statements) (c n : ℕ) → c < n → Below (n + length (bodies_in ss)) (owners_head ss c n)
  own-head no_statement c n k = tt
  own-head (statement s ss) c n k =
      let e = length-append (bodies s) (bodies_in ss) in
      let m : ℕ = n + length (bodies s ++ bodies_in ss) in
      below-append m (owners s c n) (owners_along ss c (n + length (bodies s))) (below-more (n + length (bodies s)) m (owners s c n) (omega (arith, e)) (own s c n k))
      (below-more (n + length (bodies s) + length (bodies_in ss)) m (owners_along ss c (n + length (bodies s))) (omega (arith, e)) (own-along ss c (n + length (bodies s)) (omega (arith, k))))

  own-along : (ss : Statements) (c n : ℕ) → c < n → Below (n + length (bodies_in ss)) (owners_along ss c n)
  own-along no_statement c n k = tt
  own-along (statement s ss) c n k =
      let e = length-append (bodies s) (bodies_in ss) in
      let m : ℕ = n + length (bodies s ++ bodies_in ss) in
      below-append m (c ∷ owners s c n) (owners_along ss c (n + length (bodies s))) (omega (arith, k), below-more (n + length (bodies s)) m (owners s c n) (omega (arith, e)) (own s c n k))
      (below-more (n + length (bodies s) + length (bodies_in ss)) m (owners_along ss c (n + length (bodies s))) (omega (arith, e)) (own-along ss c (n + length (bodies s)) (omega (arith, k))))

  own-among : (ss : Statements) (c n : ℕ) → c < n → Below (n + length (bodies_in ss)) (owners_among ss c n)
  own-among no_statement c n k = tt
  own-among (statement s ss) c n k =
      let e = length-append (bodies s) (bodies_in ss) in
      let m : ℕ = n + length (bodies s ++ bodies_in ss) in
      below-append m (owners s c n) (owners_among ss c (n + length (bodies s))) (below-more (n + length (bodies s)) m (owners s c n) (omega (arith, e)) (own s c n k))
      (below-more (n + length (bodies s) + length (bodies_in ss)) m (owners_among ss c (n + length (bodies s))) (omega (arith, e)) (own-among ss c (n + length (bodies s)) (omega (arith, k))))

  own-inside : (ps : Processes) (n : ℕ) → Below (n + length (bodies_of ps)) (owners_inside ps n)
  own-inside no_process n = tt
  own-inside (beside (process ss end) ps) n =
      let e = length-append (bodies_in ss) (bodies_of ps) in
      let m : ℕ = n + suc (length (bodies_in ss ++ bodies_of ps)) in
      let first = below-more (suc n + length (bodies_in ss)) m (owners_along ss n (suc n)) (omega (arith, e)) (own-along ss n (suc n) (omega arith)) in
      let second = below-more (suc n + length (bodies_in ss) + length (bodies_of ps)) m (owners_inside ps (suc n + length (bodies_in ss))) (omega (arith, e)) (own-inside ps (suc n + length (bodies_in ss))) in
      let whole = below-append m (owners_along ss n (suc n)) (n ∷ owners_inside ps (suc n + length (bodies_in ss))) first (omega arith, second) in
      let same : m ≡ n + length (bodies_of (beside (process ss end) ps)) = omega arith in
      subst (λ (i : ℕ). Below i (owners_inside (beside (process ss end) ps) n)) same whole

no-around : (w : ℕ × ℕ) → None ≡ Some w → w.0 < 0
no-around w h = absurd (cc)

pub program-ordered : (ps : Processes) → IsInOrder (control_of ps) × ((l : ℕ) → l < length (control_of ps).owners → HasOwner (control_of ps) l)
program-ordered ps =
    let all = order-inside ps None 0 no-around in (
      record {
        around = λ c w l h. let b = ordered-at 0 (strands_inside ps None 0) c all l in let less = b.around w h in omega (arith, less);
        choice = λ c l. (ordered-at 0 (strands_inside ps None 0) c all l).choice;
      },
      λ l h.
          let b = below-at (0 + length (bodies_of ps)) (owners_inside ps 0) l (own-inside ps 0) h in
          let less = b.2 in
          (b.0, b.1, omega (arith, less, count-inside ps None 0)),
    )
