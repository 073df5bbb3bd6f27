-- A branch over numbers that were just put behind the parts of a table: its trees, and its size.
use Rattle.std.proofs.Common.{◌≡◌, ℕ, ◌+◌, ◌<◌, ◌≤◌, min, List, ◌++◌, length, take, drop, ap, subst, ◌∙◌, sym, All, arith}
use Rattle.std.proofs.lemmas.List.{length-append, drop-append-le, take_all, drop_all}
use Rattle.std.proofs.lemmas.List.Elements.{All-weaker}
use Rattle.st_certificate.specs.Tree.{Tree, Trees, branch, Step as PlainStep}
use Rattle.search_laws.specs.Sizes.{nodes_of, levels_of}
use Rattle.tree_table.specs.Table.{listed, Is, AreThere}
use Rattle.tree_table.specs.Nodes.{IsSize, ArePartsBelow, Kept, trees_in}
use Rattle.tree_table.specs.declared.nodes.Size.{Size}
use Rattle.tree_table.proofs.Pushing.{table-length}

-- what was just put behind a list stands there
pub put-behind : {A : Type 0} → (xs old x : List A) (from count : ℕ) → xs ≡ old ++ x → from ≡ length old → count ≡ length x → take count (drop from xs) ≡ x
put-behind xs old x from count a m n =
    ap (λ y. take count (drop from y)) a ∙ ap (λ i. take count (drop i (old ++ x))) m
    ∙ ap (take count) (drop-append-le (length old) old x (omega arith) ∙ ap (λ y. y ++ x) (drop_all (length old) old (omega arith)))
    ∙ take_all count x (omega (arith, n))

pub put-within : {A : Type 0} → (xs old x : List A) (from count : ℕ) → xs ≡ old ++ x → from ≡ length old → count ≡ length x → from + count ≤ length xs
put-within xs old x from count a m n = omega (arith, m, n, ap length a, length-append old x)

pub put-below : (s t : Kept) (ks k : List ℕ) (from count : ℕ) → s ≡ t → AreThere (trees_in t) k → ks ≡ s.parts ++ k → from ≡ length s.parts → count ≡ length k
    → ArePartsBelow ks (length s.nodes) from count
put-below s t ks k from count e h a m n =
    let P : List ℕ → Type 0 = λ x. All (λ i. i < length s.nodes) x in
    let l : length s.nodes ≡ length (trees_in t) = sym (table-length s) ∙ ap (λ w. length (trees_in w)) e in
    record {
      within = put-within ks s.parts k from count a m n;
      below = subst P (sym (put-behind ks s.parts k from count a m n)) (All-weaker (λ i. i < length (trees_in t)) (λ i. i < length s.nodes) (λ i g. omega (arith, g, l)) k h);
    }

pub listed-same : (ts us : List Tree) (ns ms : List ℕ) → us ≡ ts → ns ≡ ms → listed us ns ≡ listed ts ms
listed-same ts us ns ms e f = ap (listed us) f ∙ ap (λ x. listed x ms) e

pub branch-sized : (z : Size) (s : PlainStep) (l m : Trees) → l ≡ m → z.nodes ≡ min (1 + nodes_of m) 100001 → z.levels ≡ min (1 + levels_of m) 401 → IsSize z (branch s l)
branch-sized z s l m e a b = record {
  count = a ∙ ap (λ x. min (1 + nodes_of x) 100001) (sym e);
  depth = b ∙ ap (λ x. min (1 + levels_of x) 401) (sym e);
}

pub branch-made : (us : List Tree) (n : ℕ) (s : PlainStep) (l m : Trees) → l ≡ m → Is us n (branch s l) → Is us n (branch s m)
branch-made us n s l m e h = (h.0, h.1 ∙ ap (branch s) e)
