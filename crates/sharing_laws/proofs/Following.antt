-- Where each move of a search is like that of another, it finds what the other finds.
use Rattle.std.proofs.Common.{◌≡◌, List, [], ◌∷◌, subst}
use Rattle.st_certificate.specs.Tree.{Tree, Trees, impossible, branch, farkas, linear, no_tree, with_tree}
use Rattle.search_laws.specs.Walks.{Move, closes, divides, fails}
use Rattle.sharing_laws.specs.Finds.{Finds, FindsAll}

-- as many, and each is so with its own
abbrev pub AreLike : {P Q : Type 0} → (P → Q → Type 0) → List P → List Q → Type 0
AreLike R [] [] = Unit {0}
AreLike R [] (q ∷ qs) = ⊥
AreLike R (p ∷ ps) [] = ⊥
AreLike R (p ∷ ps) (q ∷ qs) = R p q × AreLike R ps qs

-- a move is as the other; where the other fails, nothing is said
abbrev pub IsLike : {P Q : Type 0} → (P → Q → Type 0) → Move P → Move Q → Type 0
IsLike R m (closes t) = m ≡ closes t
IsLike {P} R m (divides s qs) = (ps : List P) × (m ≡ divides s ps) × AreLike R ps qs
IsLike R m (fails e) = Unit {0}

-- at each two that are so with one another
abbrev pub MovesAreLike : {P Q : Type 0} → (P → Q → Type 0) → (P → Move P) → (Q → Move Q) → Type 0
MovesAreLike {P} {Q} R move other = (p : P) (q : Q) → R p q → IsLike R (move p) (other q)

like-at : {P Q : Type 0} (R : P → Q → Type 0) (move : P → Move P) (other : Q → Move Q) → MovesAreLike R move other → (p : P) (q : Q) → R p q → (m : Move Q) → other q ≡ m → IsLike R (move p) m
like-at R move other like p q r m h = subst (λ m. IsLike R (move p) m) h (like p q r)

mutual
  pub finds-follow : {P Q : Type 0} (R : P → Q → Type 0) (move : P → Move P) (other : Q → Move Q) → MovesAreLike R move other → (t : Tree) (p : P) (q : Q) → R p q → Finds other t q → Finds move t p
  finds-follow R move other like impossible p q r h = like-at R move other like p q r (closes impossible) h
  finds-follow R move other like (farkas picks) p q r h = like-at R move other like p q r (closes (farkas picks)) h
  finds-follow R move other like (linear picks) p q r h = like-at R move other like p q r (closes (linear picks)) h
  finds-follow R move other like (branch s ts) p q r h =
      let m = like-at R move other like p q r (divides s h.0) h.1 in (m.0, m.1, all-follow R move other like ts m.0 h.0 m.2 h.2)

  all-follow : {P Q : Type 0} (R : P → Q → Type 0) (move : P → Move P) (other : Q → Move Q) → MovesAreLike R move other → (ts : Trees) (ps : List P) (qs : List Q) → AreLike R ps qs → FindsAll other ts qs → FindsAll move ts ps
  all-follow R move other like no_tree [] [] l h = tt
  all-follow R move other like no_tree (p ∷ ps) [] l h = absurd l
  all-follow R move other like no_tree [] (q ∷ qs) l h = absurd l
  all-follow R move other like no_tree (p ∷ ps) (q ∷ qs) l h = absurd h
  all-follow R move other like (with_tree t ts) [] [] l h = absurd h
  all-follow R move other like (with_tree t ts) (p ∷ ps) [] l h = absurd l
  all-follow R move other like (with_tree t ts) [] (q ∷ qs) l h = absurd l
  all-follow R move other like (with_tree t ts) (p ∷ ps) (q ∷ qs) l h = (finds-follow R move other like t p q l.0 h.0, all-follow R move other like ts ps qs l.1 h.1)
