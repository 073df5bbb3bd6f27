-- What is remembered of a turn.
use Rattle.std.proofs.Common.{◌≡◌, ℕ, ◌+◌, ◌<◌, ◌≤◌, ◌⊎◌, inl, inr, List, slice_index_or, Option, Some, None, ap, sym, ◌∙◌, arith}
use Rattle.st_certificate.specs.Tree.{Tree}
use Rattle.tree_table.specs.Table.{tree}
use Rattle.table_check.specs.declared.memo.Same.{Same}
use Rattle.table_check.specs.Same.{AreEarlier, AreSame}

-- nothing is of a turn that begins
pub turn-begins : (turn : ℕ) (us ts : List Tree) (known : List (Option Same)) → AreEarlier turn known → AreSame turn us ts known
turn-begins turn us ts known h = λ a s e. (let l : s.turn < turn = h a s e in omega (arith, l), λ now. let l : s.turn < turn = h a s e in absurd (omega (arith, l, now)))

pub turn-ends : (turn : ℕ) (us ts : List Tree) (known : List (Option Same)) → AreSame turn us ts known → AreEarlier (turn + 1) known
turn-ends turn us ts known h = λ a s e. let l : s.turn ≤ turn = (h a s e).0 in omega (arith, l)

pub turn-passes : (turn : ℕ) (known : List (Option Same)) → AreEarlier turn known → AreEarlier (turn + 1) known
turn-passes turn known h = λ a s e. let l : s.turn < turn = h a s e in omega (arith, l)

-- a pair more
pub same-more : (turn : ℕ) (us ts : List Tree) (old new : List (Option Same)) (found given : ℕ) → AreSame turn us ts old → tree us found ≡ tree ts given
    → ((a : ℕ) (s : Same) → slice_index_or new a None ≡ Some s → (slice_index_or old a None ≡ Some s) ⊎ ((a ≡ found) × (s ≡ record { turn = turn; number = given })))
    → AreSame turn us ts new
same-more turn us ts old new found given h same put = λ a s e. by a s (put a s e)
  where
    by : (a : ℕ) (s : Same) → (slice_index_or old a None ≡ Some s) ⊎ ((a ≡ found) × (s ≡ record { turn = turn; number = given })) → (s.turn ≤ turn) × (s.turn ≡ turn → tree us a ≡ tree ts s.number)
    by a s (inl e) = h a s e
    by a s (inr e) =
        let is : s.turn ≡ turn = ap (λ (x : Same). x.turn) e.1 in
        (omega (arith, is), λ now. ap (tree us) e.0 ∙ same ∙ ap (tree ts) (sym (ap (λ (x : Same). x.number) e.1)))
