-- Equations that are found are proper.
use Rattle.std.proofs.Common.{◌≡◌, ℕ, zero, suc, ◌+◌, ◌-◌, ◌^◌, Bool, true, false, cond, Option, Some, None, List, [], ◌∷◌, map, refl, subst, ℤ}
use Rattle.std.specs.Prelude.{IsTrue, nat_lt, ◌==◌, option_and_then}
use Rattle.std.specs.Option.{option_map}
use Rattle.st_linear.specs.Linear.{AreEntries, is_small, are_small, entries_within}
use Rattle.elimination_laws.specs.Mixing.{part}
use Rattle.elimination_laws.proofs.Mixes.{map-some}
use Rattle.null_laws.specs.Reduction.{Entries, Reduction, reduced}
use Rattle.null_laws.specs.Vectors.{vector, is_solved, front, vectors_within, basis}
use Rattle.null_laws.specs.Bases.{AllMeet}
use Rattle.equation_laws.specs.Space.{variables_of, columns_of}
use Rattle.equation_laws.specs.Rows.{rows_of, width_of, basis_of}
use Rattle.equation_laws.specs.Equations.{entries_below, entries_between, equation_of, with_variables, found_in}
use Rattle.equation_laws.proofs.Within.{the-basis}
use Rattle.equation_laws.proofs.Founds.{echelon-entries, with-meets, below-entries, between-entries}
use Rattle.equation_writer.specs.Proper.{IsProper, AreProper, FoundAreProper}
use Rattle.equation_writer.proofs.Casing.{both, zero-small}

abbrev AreSmallEntries : Entries → Type 0
AreSmallEntries es = IsTrue (are_small es)

small-both : (e : ℕ × ℤ) (es : Entries) → AreSmallEntries (e ∷ es) → (is_small e.1 ≡ true) × AreSmallEntries es
small-both e es h = both (is_small e.1) (are_small es) h

small-cons : (e : ℕ × ℤ) (es : Entries) → is_small e.1 ≡ true → AreSmallEntries es → AreSmallEntries (e ∷ es)
small-cons e es s h = rw s h

small-below : (n : ℕ) (es : Entries) → AreSmallEntries es → AreSmallEntries (entries_below n es)
small-below n [] h = h
small-below n (e ∷ es) h = let p = small-both e es h in by (nat_lt e.0 n) (small-cons e (entries_below n es) p.0 (small-below n es p.1))
  where
    by : (b : Bool) → AreSmallEntries (e ∷ entries_below n es) → AreSmallEntries (cond b (e ∷ entries_below n es) [])
    by true k = k
    by false k = refl

small-between : (n locations : ℕ) (es : Entries) → AreSmallEntries es → AreSmallEntries (entries_between n locations es)
small-between n locations [] h = h
small-between n locations (e ∷ es) h =
    let p = small-both e es h in
    let rest = small-between n locations es p.1 in
    by (nat_lt e.0 n) (nat_lt e.0 (n + locations)) rest (small-cons (e.0 - n, e.1) (entries_between n locations es) p.0 rest)
  where
    by : (a b : Bool) → AreSmallEntries (entries_between n locations es) → AreSmallEntries ((e.0 - n, e.1) ∷ entries_between n locations es)
        → AreSmallEntries (cond a (entries_between n locations es) (cond b ((e.0 - n, e.1) ∷ entries_between n locations es) []))
    by true b r k = r
    by false true r k = k
    by false false r k = refl

small-part : (c : ℕ) (es : Entries) → AreSmallEntries es → IsTrue (is_small (part c es))
small-part c [] h = zero-small
small-part c (e ∷ es) h = let p = small-both e es h in by (e.0 == c) p.0 (small-part c es p.1)
  where
    by : (b : Bool) → is_small e.1 ≡ true → IsTrue (is_small (part c es)) → IsTrue (is_small (cond b e.1 (part c es)))
    by true s k = s
    by false s k = k

-- the vectors of the basis
within-is : (es bs : Entries) → entries_within (2 ^ 100) es ≡ Some bs → AreSmallEntries bs
unfolding entries_within
within-is es bs h = by (are_small es) refl h
  where
    by : (b : Bool) → are_small es ≡ b → cond b (Some es) None ≡ Some bs → AreSmallEntries bs
    by true e h = let same : es ≡ bs = cc in subst AreSmallEntries same e
    by false e h = absurd cc

vectors-small : (n k : ℕ) (ss : List (ℕ × Entries)) (bs : List Entries) → vectors_within n k ss ≡ Some bs → AllMeet AreSmallEntries bs
vectors-small zero k ss [] h = tt
vectors-small zero k ss (b ∷ bs) h = absurd cc
vectors-small (suc n) k ss bs h = by_solved (vectors-small n (k + 1) ss) (is_solved k ss) h
  where
    by_rest : ((cs : List Entries) → vectors_within n (k + 1) ss ≡ Some cs → AllMeet AreSmallEntries cs) → (b : Entries) → AreSmallEntries b → (o : Option (List Entries)) → vectors_within n (k + 1) ss ≡ o
        → option_map (λ cs. b ∷ cs) o ≡ Some bs → AllMeet AreSmallEntries bs
    by_rest again b small (Some cs) e h = let same : b ∷ cs ≡ bs = cc in subst (AllMeet AreSmallEntries) same (small, again cs e)
    by_rest again b small None e h = absurd cc

    by_vector : ((cs : List Entries) → vectors_within n (k + 1) ss ≡ Some cs → AllMeet AreSmallEntries cs) → (o : Option Entries) → entries_within (2 ^ 100) (vector k ss) ≡ o
        → option_and_then (λ b. option_map (λ cs. b ∷ cs) (vectors_within n (k + 1) ss)) o ≡ Some bs → AllMeet AreSmallEntries bs
    by_vector again (Some b) e h = by_rest again b (within-is (vector k ss) b e) (vectors_within n (k + 1) ss) refl h
    by_vector again None e h = absurd cc

    by_solved : ((cs : List Entries) → vectors_within n (k + 1) ss ≡ Some cs → AllMeet AreSmallEntries cs) → (solved : Bool)
        → cond solved (vectors_within n (k + 1) ss) (option_and_then (λ b. option_map (λ cs. b ∷ cs) (vectors_within n (k + 1) ss)) (entries_within (2 ^ 100) (vector k ss))) ≡ Some bs → AllMeet AreSmallEntries bs
    by_solved again true h = again bs h
    by_solved again false h = by_vector again (entries_within (2 ^ 100) (vector k ss)) refl h

basis-small : (width n : ℕ) (rows bs : List Entries) → basis width n rows ≡ Some bs → AllMeet AreSmallEntries bs
basis-small width n rows bs h = by (reduced width rows) h
  where
    by : (o : Option Reduction) → option_and_then (λ s. vectors_within n 0 (front n s.solved)) o ≡ Some bs → AllMeet AreSmallEntries bs
    by (Some s) h = vectors-small n 0 (front n s.solved) bs h
    by None h = absurd cc

one-proper : (n locations : ℕ) (b : Entries) → AreEntries b → AreSmallEntries b → IsProper (equation_of n locations b)
one-proper n locations b e s = record {
  numbers = record { entries = below-entries n b e; small = small-below n b s };
  places = record { entries = between-entries n locations b e; small = small-between n locations b s };
  constant = small-part (n + locations) b s;
}

all-proper : (n locations : ℕ) (bs : List Entries) → AllMeet AreEntries bs → AllMeet AreSmallEntries bs → AreProper (map (equation_of n locations) bs)
all-proper n locations [] e s = tt
all-proper n locations (b ∷ bs) e s = (one-proper n locations b e.0 s.0, all-proper n locations bs e.1 s.1)

pub found_are_proper : FoundAreProper
found_are_proper system es is_system e =
    let f = map-some (found_in system) (basis_of system) es e in
    let b = the-basis system f.0 is_system f.1 in
    let n = variables_of system in
    let small = basis-small (width_of system) (columns_of system) (rows_of system) f.0 f.1 in
    subst AreProper f.2 (all-proper n system.locations (with_variables n f.0) (with-meets AreEntries n f.0 (echelon-entries f.0 b.echelon)) (with-meets AreSmallEntries n f.0 small))
