-- A node's tree, by its kind.
use Rattle.std.proofs.Common.{◌≡◌, ℕ, ◌+◌, ◌<◌, ◌≤◌, length, All, ap, subst, ◌∙◌}
use Rattle.st_certificate.specs.Tree.{impossible, linear, branch}
use Rattle.tree_table.specs.Table.{tree, listed, step_of}
use Rattle.tree_table.specs.Nodes.{IsNode, IsFormed, ArePartsBelow, formed, Kept, trees_in, parts_at, picks_at}
use Rattle.tree_table.specs.declared.nodes.Step.{Step}
use Rattle.tree_table.specs.declared.nodes.Node.{Node}
use Rattle.tree_table.specs.declared.nodes.Kind.{Kind}
use Rattle.tree_table.specs.declared.nodes.Kind.TheVariants.{Absurd, Linear, Branch}

pub kind-absurd : (t : Kept) (i : ℕ) (n : Node) → IsNode t i n → n.kind ≡ Absurd → tree (trees_in t) i ≡ impossible
kind-absurd t i n h e = h.same ∙ ap (formed t.parts t.picks (trees_in t)) e

pub kind-linear : (t : Kept) (i a b : ℕ) (n : Node) → IsNode t i n → n.kind ≡ Linear a b → tree (trees_in t) i ≡ linear (picks_at t.picks a b)
kind-linear t i a b n h e = h.same ∙ ap (formed t.parts t.picks (trees_in t)) e

pub kind-branch : (t : Kept) (i a b : ℕ) (s : Step) (n : Node) → IsNode t i n → n.kind ≡ Branch s a b → tree (trees_in t) i ≡ branch (step_of s) (listed (trees_in t) (parts_at t.parts a b))
kind-branch t i a b s n h e = h.same ∙ ap (formed t.parts t.picks (trees_in t)) e

pub picks-within : (t : Kept) (i a b : ℕ) (n : Node) → IsNode t i n → n.kind ≡ Linear a b → a + b ≤ length t.picks
picks-within t i a b n h e = let P : Kind → Type 0 = IsFormed t.parts t.picks i in subst P e h.formed

pub parts-within : (t : Kept) (i a b : ℕ) (s : Step) (n : Node) → IsNode t i n → n.kind ≡ Branch s a b → a + b ≤ length t.parts
parts-within t i a b s n h e =
    let P : Kind → Type 0 = IsFormed t.parts t.picks i in
    let g : ArePartsBelow t.parts i a b = subst P e h.formed in
    g.within

pub parts-below : (t : Kept) (i a b : ℕ) (s : Step) (n : Node) → IsNode t i n → n.kind ≡ Branch s a b → All (λ k. k < i) (parts_at t.parts a b)
parts-below t i a b s n h e =
    let P : Kind → Type 0 = IsFormed t.parts t.picks i in
    let g : ArePartsBelow t.parts i a b = subst P e h.formed in
    g.below

pub ruleset reading = (kind-absurd, kind-linear, kind-branch, picks-within, parts-within, parts-below)
