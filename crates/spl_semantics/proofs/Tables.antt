-- Where each component is in a state, as a table.
use Rattle.std.proofs.Common.{◌≡◌, ℕ, suc, ◌+◌, ◌<◌, ◌≤◌, List, [], ◌∷◌, ◌++◌, length, Option, Some, None, refl, sym, ap, ◌∙◌, subst, ◌⊎◌, inl, inr, arith, length-append}
use Rattle.st_program.specs.Tree.{Statement, stated, Action, skip, if_then, if_else, while_do, block, select, cooperate, Statements, no_statement, statement, process, Processes, no_process, beside, location, action}
use Rattle.st_program.specs.Member.{Member, here, there}
use Rattle.st_program.specs.Spots.{entry, bodies, bodies_inside, bodies_in, bodies_of, Spot, at_spot, spots, spots_within, spots_along, spots_among, spots_inside, spot}
use Rattle.st_program.specs.Residuals.{Rest, Done, Run, Then, Again, Inside, Rests, no_rest, rests}
use Rattle.control_states.specs.declared.alternative.Alternative.{Alternative}
use Rattle.control_states.specs.declared.alternative.Alternative.TheVariants.{Location, Inside as Held}
use Rattle.spl_semantics.specs.Control.{children_of, children_at, location_at, front, fronts}
use Rattle.spl_semantics.proofs.Members.{member_none, member_left, member_right, member_cases}
use Rattle.spl_semantics.proofs.Texts.{near_along}
use Rattle.basic_laws.proofs.Types.{either}
use Rattle.spl_semantics.proofs.Fits.{location_of, Layout, Fits, FitsAll}
use Rattle.spl_semantics.proofs.Ended.{only}

-- the numbers of the components that these are
abbrev pub numbers : Processes → ℕ → List ℕ
numbers no_process c = []
numbers (beside (process ss end) ps) c = c ∷ numbers ps (suc c + length (bodies_in ss))

abbrev pub Table : Type 0
Table = List (ℕ × Alternative)

abbrev pub Given : Table → ℕ → Type 0
Given t c = (a : Alternative) × Member (c, a) t

abbrev pub NotTwice : Table → Type 0
NotTwice [] = Unit {0}
NotTwice (x ∷ t) = (Given t x.0 → ⊥) × NotTwice t

-- c is a child of the cooperation with this occurrence
pub record ChildOf (p : Processes) (coop c : ℕ) : Type 0 where
  pub at : Spot
  pub at_is : spot p coop ≡ Some at
  pub is_child : Member c (numbers (children_of (action at.stmt)) at.before)

abbrev pub before_at : Option Spot → ℕ
before_at None = 0
before_at (Some x) = x.before

-- where each component is
abbrev mutual
  pub table : Rest → Processes → ℕ → ℕ → Table
  table Done p c end = (c, Location end) ∷ []
  table (Run n) p c end = (c, Location (location_of (spot p n))) ∷ []
  table (Then r b k) p c end = table r p c end
  table (Again r w) p c end = table r p c end
  table (Inside n rs) p c end = (c, Held n) ∷ tables rs p (children_at (spot p n)) (before_at (spot p n))

  pub tables : Rests → Processes → Processes → ℕ → Table
  tables no_rest p ps c = []
  tables (rests r rs) p no_process c = []
  tables (rests r rs) p (beside (process ss end) ps) c = table r p c end ++ tables rs p ps (suc c + length (bodies_in ss))

-- components of what stands in a list have numbers of the list
pub record Numbered (y : Spot) (low high : ℕ) : Type 0 where
  pub low_is : low ≤ y.before
  pub high_is : y.before + length (bodies y.stmt) ≤ high

widen_numbers : (y : Spot) (a b c d : ℕ) → c ≤ a → b ≤ d → Numbered y a b → Numbered y c d
widen_numbers y a b c d l h n = let x = n.low_is in let z = n.high_is in record { low_is = omega arith; high_is = omega arith }

self_numbers : (s : Statement) (n c : ℕ) (y : Spot) → y ≡ at_spot s n c → Numbered y c (c + length (bodies s))
self_numbers s n c y q = subst (λ z. Numbered z c (c + length (bodies s))) (sym q) record { low_is = omega arith; high_is = omega arith }

mutual
  in_numbers : (s : Statement) (n c : ℕ) (y : Spot) → Member y (spots s n c) → Numbered y c (c + length (bodies s))
  in_numbers (stated o l a) n c y (here q) = self_numbers _ n c y q
  in_numbers (stated o l a) n c y (there m) = within_numbers a l n c y m

  within_numbers : (a : Action) (l n c : ℕ) (y : Spot) → Member y (spots_within a l n c) → Numbered y c (c + length (bodies_inside a))
  within_numbers (if_then t s) l n c y m = in_numbers s n c y m
  within_numbers (if_else t s r) l n c y m =
      let e = length-append (bodies s) (bodies r) in
      either (member_cases (spots s n c) m)
      (λ m. widen_numbers y c (c + length (bodies s)) _ _ (omega arith) (omega arith) (in_numbers s n c y m))
      (λ m. widen_numbers y (c + length (bodies s)) (c + length (bodies s) + length (bodies r)) _ _ (omega arith) (omega arith) (in_numbers r n _ y m))
  within_numbers (while_do t s) l n c y m = in_numbers s l c y m
  within_numbers (block ss) l n c y m = along_numbers ss n c y m
  within_numbers (select ss) l n c y m = among_numbers ss n c y m
  within_numbers (cooperate ps) l n c y m = inside_numbers ps c y m
  within_numbers skip l n c y m = member_none m
  within_numbers _ l n c y m = member_none m

  along_numbers : (ss : Statements) (n c : ℕ) (y : Spot) → Member y (spots_along ss n c) → Numbered y c (c + length (bodies_in ss))
  along_numbers no_statement n c y m = member_none m
  along_numbers (statement s ss) n c y m =
      let e = length-append (bodies s) (bodies_in ss) in
      either (member_cases (spots s (entry ss n) c) m)
      (λ m. widen_numbers y c (c + length (bodies s)) _ _ (omega arith) (omega arith) (in_numbers s _ c y m))
      (λ m. widen_numbers y (c + length (bodies s)) (c + length (bodies s) + length (bodies_in ss)) _ _ (omega arith) (omega arith) (along_numbers ss n _ y m))

  among_numbers : (ss : Statements) (n c : ℕ) (y : Spot) → Member y (spots_among ss n c) → Numbered y c (c + length (bodies_in ss))
  among_numbers no_statement n c y m = member_none m
  among_numbers (statement s ss) n c y m =
      let e = length-append (bodies s) (bodies_in ss) in
      either (member_cases (spots s n c) m)
      (λ m. widen_numbers y c (c + length (bodies s)) _ _ (omega arith) (omega arith) (in_numbers s _ c y m))
      (λ m. widen_numbers y (c + length (bodies s)) (c + length (bodies s) + length (bodies_in ss)) _ _ (omega arith) (omega arith) (among_numbers ss n _ y m))

  inside_numbers : (ps : Processes) (c : ℕ) (y : Spot) → Member y (spots_inside ps c) → Numbered y c (c + length (bodies_of ps))
  inside_numbers no_process c y m = member_none m
  inside_numbers (beside (process ss end) ps) c y m =
      let e = length-append (bodies_in ss) (bodies_of ps) in
      either (member_cases (spots_along ss end (suc c)) m)
      (λ m. widen_numbers y (suc c) (suc c + length (bodies_in ss)) _ _ (omega arith) (omega arith) (along_numbers ss end _ y m))
      (λ m. widen_numbers y (suc c + length (bodies_in ss)) (suc c + length (bodies_in ss) + length (bodies_of ps)) _ _ (omega arith) (omega arith) (inside_numbers ps _ y m))

given_left : (t u : Table) (k : ℕ) → Given t k → Given (t ++ u) k
given_left t u k g = (g.0, member_left u g.1)

given_right : (t u : Table) (k : ℕ) → Given u k → Given (t ++ u) k
given_right t u k g = (g.0, member_right t g.1)

given_cases : (t u : Table) (k : ℕ) → Given (t ++ u) k → Given t k ⊎ Given u k
given_cases t u k g = either (member_cases t g.1) (λ m. inl (g.0, m)) (λ m. inr (g.0, m))

not_twice_append : (t u : Table) → NotTwice t → NotTwice u → ((k : ℕ) → Given t k → Given u k → ⊥) → NotTwice (t ++ u)
not_twice_append [] u a b d = b
not_twice_append (x ∷ t) u a b d =
    (λ g. either (given_cases t u x.0 g) a.0 (d x.0 (x.1, here refl)), not_twice_append t u a.1 b (λ k g. d k (g.0, there g.1)))

own_key : (r : Rest) (p : Processes) (c end : ℕ) → Given (table r p c end) c
own_key Done p c end = (Location end, here refl)
own_key (Run n) p c end = (Location (location_of (spot p n)), here refl)
own_key (Then r b k) p c end = own_key r p c end
own_key (Again r w) p c end = own_key r p c end
own_key (Inside n rs) p c end = (Held n, here refl)

module _ (p : Processes) (layout : Layout p) where
  abbrev Coop : ℕ → ℕ → Processes → ℕ → ℕ → Spot
  Coop o l ps e c = at_spot (stated o l (cooperate ps)) e c

  abbrev AllNumbered : List Spot → ℕ → ℕ → Type 0
  AllNumbered all low high = (y : Spot) → Member y all → Numbered y low high

  -- the numbers in a table
  mutual
    key_range : (r : Rest) (all own : List Spot) (e c end low high : ℕ) → Fits p r all own e → AllNumbered all low high → (k : ℕ) → Given (table r p c end) k → (k ≡ c) ⊎ ((low ≤ k) × (k < high))
    key_range Done all own e c end low high f n k (a, here q) = inl (ap (λ z. z.0) q)
    key_range Done all own e c end low high f n k (a, there m) = member_none m
    key_range (Run j) all own e c end low high f n k (a, here q) = inl (ap (λ z. z.0) q)
    key_range (Run j) all own e c end low high f n k (a, there m) = member_none m
    key_range (Then r b j) all own e c end low high f n k g = key_range r all own (location f.1) c end low high f.5 n k g
    key_range (Again r w) all own e c end low high f n k g = key_range r all own f.1 c end low high f.9 n k g
    key_range (Inside j rs) all own e c end low high f n k (a, here q) = inl (ap (λ z. z.0) q)
    key_range (Inside j rs) all own e c end low high f n k (a, there m) =
        let h = n (Coop f.0 f.1 f.2 e f.3) f.5 in
        let x = h.low_is in let z = h.high_is in
        let t = keys_range rs f.2 f.3 f.6 k (a, subst (λ s. Member (k, a) (tables rs p (children_at s) (before_at s))) f.4 m) in
        let u : f.3 ≤ k = t.0 in let v : k < f.3 + length (bodies_of f.2) = t.1 in
        inr (omega arith, omega arith)

    keys_range : (rs : Rests) (ps : Processes) (c : ℕ) → FitsAll p rs ps c → (k : ℕ) → Given (tables rs p ps c) k → (c ≤ k) × (k < c + length (bodies_of ps))
    keys_range no_rest ps c f k g = member_none g.1
    keys_range (rests r rs) no_process c f k g = absurd f
    keys_range (rests r rs) (beside (process ss end) ps) c f k g =
        let e = length-append (bodies_in ss) (bodies_of ps) in
        either (given_cases (table r p c end) _ k g)
        (λ g. either (key_range r (spots_along ss end (suc c)) (near_along ss end (suc c)) end c end (suc c) (suc c + length (bodies_in ss)) f.0 (λ y m. along_numbers ss end (suc c) y m) k g)
        (λ q. let h : k ≡ c = q in (omega arith, omega arith))
        (λ q. let h : suc c ≤ k = q.0 in let i : k < suc c + length (bodies_in ss) = q.1 in (omega arith, omega arith)))
        (λ g. let t = keys_range rs ps (suc c + length (bodies_in ss)) f.1 k g in
        let h : suc c + length (bodies_in ss) ≤ k = t.0 in let i : k < suc c + length (bodies_in ss) + length (bodies_of ps) = t.1 in (omega arith, omega arith))

  -- no component twice
  mutual
    once_in : (r : Rest) (all own : List Spot) (e c end low high : ℕ) → Fits p r all own e → AllNumbered all low high → c < low → NotTwice (table r p c end)
    once_in Done all own e c end low high f n l = (λ g. member_none g.1, tt)
    once_in (Run j) all own e c end low high f n l = (λ g. member_none g.1, tt)
    once_in (Then r b j) all own e c end low high f n l = once_in r all own (location f.1) c end low high f.5 n l
    once_in (Again r w) all own e c end low high f n l = once_in r all own f.1 c end low high f.9 n l
    once_in (Inside j rs) all own e c end low high f n l =
        let h = n (Coop f.0 f.1 f.2 e f.3) f.5 in
        let x = h.low_is in
        let same : tables rs p f.2 f.3 ≡ tables rs p (children_at (spot p j)) (before_at (spot p j)) = sym (ap (λ s. tables rs p (children_at s) (before_at s)) f.4) in (
          λ g. let t = keys_range rs f.2 f.3 f.6 c (subst (λ z. Given z c) (sym same) g) in let u : f.3 ≤ c = t.0 in absurd (omega arith),
          subst NotTwice same (all_once rs f.2 f.3 f.6),
        )

    pub all_once : (rs : Rests) (ps : Processes) (c : ℕ) → FitsAll p rs ps c → NotTwice (tables rs p ps c)
    all_once no_rest ps c f = tt
    all_once (rests r rs) no_process c f = absurd f
    all_once (rests r rs) (beside (process ss end) ps) c f =
        not_twice_append (table r p c end) _ (once_in r (spots_along ss end (suc c)) (near_along ss end (suc c)) end c end (suc c) (suc c + length (bodies_in ss)) f.0 (λ y m. along_numbers ss end (suc c) y m) (omega arith)) (all_once rs ps (suc c + length (bodies_in ss)) f.1)
        (λ k g h.
        let t = keys_range rs ps (suc c + length (bodies_in ss)) f.1 k h in
        let u : suc c + length (bodies_in ss) ≤ k = t.0 in
        either (key_range r (spots_along ss end (suc c)) (near_along ss end (suc c)) end c end (suc c) (suc c + length (bodies_in ss)) f.0 (λ y m. along_numbers ss end (suc c) y m) k g)
        (λ q. let v : k ≡ c = q in absurd (omega arith))
        (λ q. let v : k < suc c + length (bodies_in ss) = q.1 in absurd (omega arith)))

  -- every child has its component
  pub given_numbers : (rs : Rests) (ps : Processes) (c k : ℕ) → FitsAll p rs ps c → Member k (numbers ps c) → Given (tables rs p ps c) k
  given_numbers no_rest no_process c k f m = member_none m
  given_numbers no_rest (beside (process ss end) ps) c k f m = absurd f
  given_numbers (rests r rs) no_process c k f m = absurd f
  given_numbers (rests r rs) (beside (process ss end) ps) c k f (here q) = given_left _ _ k (subst (Given (table r p c end)) (sym q) (own_key r p c end))
  given_numbers (rests r rs) (beside (process ss end) ps) c k f (there m) = given_right (table r p c end) _ k (given_numbers rs ps (suc c + length (bodies_in ss)) k f.1 m)

  child_of : (n : ℕ) (x : Spot) (k : ℕ) → spot p n ≡ Some x → ChildOf p n k → Member k (numbers (children_of (action x.stmt)) x.before)
  child_of n x k e d =
      let s : Some d.at ≡ Some x = sym d.at_is ∙ e in
      let same : d.at ≡ x = cc in
      subst (λ z. Member k (numbers (children_of (action z.stmt)) z.before)) same d.is_child

  mutual
    inner_in : (r : Rest) (all own : List Spot) (e c end : ℕ) → Fits p r all own e → (d o k : ℕ) → Member (d, Held o) (table r p c end) → ChildOf p o k → Given (table r p c end) k
    inner_in Done all own e c end f d o k (here q) h = let z : Held o ≡ Location end = ap (λ z. z.1) q in cc
    inner_in Done all own e c end f d o k (there m) h = member_none m
    inner_in (Run j) all own e c end f d o k (here q) h = let z : Held o ≡ Location (location_of (spot p j)) = ap (λ z. z.1) q in cc
    inner_in (Run j) all own e c end f d o k (there m) h = member_none m
    inner_in (Then r b j) all own e c end f d o k m h = inner_in r all own (location f.1) c end f.5 d o k m h
    inner_in (Again r w) all own e c end f d o k m h = inner_in r all own f.1 c end f.9 d o k m h
    inner_in (Inside j rs) all own e c end f d o k (here q) h =
        let z : Held o ≡ Held j = ap (λ z. z.1) q in
        let same : o ≡ j = cc in
        let g = given_numbers rs f.2 f.3 k f.6 (child_of j (Coop f.0 f.1 f.2 e f.3) k f.4 (subst (λ z. ChildOf p z k) same h)) in
        (g.0, there (subst (λ s. Member (k, g.0) (tables rs p (children_at s) (before_at s))) (sym f.4) g.1))
    inner_in (Inside j rs) all own e c end f d o k (there m) h =
        let g = all_inner rs f.2 f.3 f.6 d o k (subst (λ s. Member (d, Held o) (tables rs p (children_at s) (before_at s))) f.4 m) h in
        (g.0, there (subst (λ s. Member (k, g.0) (tables rs p (children_at s) (before_at s))) (sym f.4) g.1))

    pub all_inner : (rs : Rests) (ps : Processes) (c : ℕ) → FitsAll p rs ps c → (d o k : ℕ) → Member (d, Held o) (tables rs p ps c) → ChildOf p o k → Given (tables rs p ps c) k
    all_inner no_rest ps c f d o k m h = member_none m
    all_inner (rests r rs) no_process c f d o k m h = absurd f
    all_inner (rests r rs) (beside (process ss end) ps) c f d o k m h =
        either (member_cases (table r p c end) m)
        (λ m. given_left _ _ k (inner_in r (spots_along ss end (suc c)) (near_along ss end (suc c)) end c end f.0 d o k m h))
        (λ m. given_right (table r p c end) _ k (all_inner rs ps (suc c + length (bodies_in ss)) f.1 d o k m h))

  -- locations of the table are those of the front
  mutual
    at_in : (r : Rest) (all own : List Spot) (e c end : ℕ) → Fits p r all own e → (l k : ℕ) → Member (k, Location l) (table r p c end) → Member l (front r p end)
    at_in Done all own e c end f l k (here q) = let z : Location l ≡ Location end = ap (λ z. z.1) q in here cc
    at_in Done all own e c end f l k (there m) = member_none m
    at_in (Run j) all own e c end f l k (here q) =
        let z : Location l ≡ Location (location_of (spot p j)) = ap (λ z. z.1) q in
        let y : l ≡ location_of (spot p j) = cc in
        subst (λ s. Member l (location_at s)) (sym f.2) (here (y ∙ ap location_of f.2))
    at_in (Run j) all own e c end f l k (there m) = member_none m
    at_in (Then r b j) all own e c end f l k m = at_in r all own (location f.1) c end f.5 l k m
    at_in (Again r w) all own e c end f l k m = at_in r all own f.1 c end f.9 l k m
    at_in (Inside j rs) all own e c end f l k (here q) = let z : Location l ≡ Held j = ap (λ z. z.1) q in cc
    at_in (Inside j rs) all own e c end f l k (there m) =
        subst (λ s. Member l (fronts rs p (children_at s))) (sym f.4) (all_at rs f.2 f.3 f.6 l k (subst (λ s. Member (k, Location l) (tables rs p (children_at s) (before_at s))) f.4 m))

    pub all_at : (rs : Rests) (ps : Processes) (c : ℕ) → FitsAll p rs ps c → (l k : ℕ) → Member (k, Location l) (tables rs p ps c) → Member l (fronts rs p ps)
    all_at no_rest ps c f l k m = member_none m
    all_at (rests r rs) no_process c f l k m = absurd f
    all_at (rests r rs) (beside (process ss end) ps) c f l k m =
        either (member_cases (table r p c end) m)
        (λ m. member_left _ (at_in r (spots_along ss end (suc c)) (near_along ss end (suc c)) end c end f.0 l k m))
        (λ m. member_right (front r p end) (all_at rs ps (suc c + length (bodies_in ss)) f.1 l k m))

  mutual
    from_front : (r : Rest) (all own : List Spot) (e c end : ℕ) → Fits p r all own e → (l : ℕ) → Member l (front r p end) → (k : ℕ) × Member (k, Location l) (table r p c end)
    from_front Done all own e c end f l (here q) = (c, here (ap (λ z. (c, Location z)) q))
    from_front Done all own e c end f l (there m) = member_none m
    from_front (Run j) all own e c end f l m =
        let y : l ≡ location f.0 = only (subst (λ s. Member l (location_at s)) f.2 m) in
        (c, here (ap (λ z. (c, Location z)) (y ∙ sym (ap location_of f.2))))
    from_front (Then r b j) all own e c end f l m = from_front r all own (location f.1) c end f.5 l m
    from_front (Again r w) all own e c end f l m = from_front r all own f.1 c end f.9 l m
    from_front (Inside j rs) all own e c end f l m =
        let t = all_from rs f.2 f.3 f.6 l (subst (λ s. Member l (fronts rs p (children_at s))) f.4 m) in
        (t.0, there (subst (λ s. Member (t.0, Location l) (tables rs p (children_at s) (before_at s))) (sym f.4) t.1))

    pub all_from : (rs : Rests) (ps : Processes) (c : ℕ) → FitsAll p rs ps c → (l : ℕ) → Member l (fronts rs p ps) → (k : ℕ) × Member (k, Location l) (tables rs p ps c)
    all_from no_rest ps c f l m = member_none m
    all_from (rests r rs) no_process c f l m = absurd f
    all_from (rests r rs) (beside (process ss end) ps) c f l m =
        either (member_cases (front r p end) m)
        (λ m. let t = from_front r (spots_along ss end (suc c)) (near_along ss end (suc c)) end c end f.0 l m in (t.0, member_left _ t.1))
        (λ m. let t = all_from rs ps (suc c + length (bodies_in ss)) f.1 l m in (t.0, member_right (table r p c end) t.1))
