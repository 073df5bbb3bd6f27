-- What is remembered from one search to the next.
use Rattle.std.specs.Prelude.{◌≡◌, ℕ, ◌<◌, ◌≤◌, true, false, List, [], ◌∷◌, length, map, All, slice_get, Option, Some, None}
use Rattle.std.specs.declared.vec.Vec.{Vec}
use Rattle.std.specs.declared.alloc.Global.{Global}
use Rattle.st_form.specs.Formula.{Formula}
use Rattle.st_form.specs.Simple.{Decided}
use Rattle.control_states.specs.Control.{component_at}
use Rattle.st_certificate.specs.Tree.{Tree}
use Rattle.farkas_check.specs.Problem.{Setting, first_problem}
use Rattle.search_laws.specs.Moves.{valid, decided}
use Rattle.form_table.specs.Contents.{Choice, Grows, decision_at, formulas_of}
use Rattle.tree_table.specs.Table.{tree, Extends}
use Rattle.tree_table.specs.Nodes.{trees_in}
use Rattle.sharing_laws.specs.Lists.{by_case_alone, by_truth_alone}
use Rattle.sharing_laws.specs.Contexts.{first_context, in_context}
use Rattle.shared_search.specs.declared.decisions.Decisions.{Decisions}
use Rattle.shared_search.specs.declared.memo.Memo.{Memo}
use Rattle.shared_search.specs.declared.book.Book.{Book}
use Rattle.shared_search.specs.Contexts.{AreInside, Keeps}
use Rattle.shared_search.specs.Lists.{HasTree}
use Rattle.shared_search.specs.Found.{Holds}

-- these numbers are those of these decisions
pub record AreDecisions (ds : List Choice) (ns : List ℕ) (xs : List Decided) : Type 0 where
  pub there : All (λ n. n < length ds) ns
  pub same : map (decision_at ds) ns ≡ xs

-- decisions keep their numbers
pub record IsLonger (old new : List Choice) : Type 0 where
  pub longer : length old ≤ length new
  pub same : (n : ℕ) → n < length old → decision_at new n ≡ decision_at old n

-- a number has this decision
abbrev pub IsDecision : List Choice → ℕ → Decided → Type 0
IsDecision ds n d = (n < length ds) × (decision_at ds n ≡ d)

-- a component's decisions, one for each alternative
abbrev pub case_decisions : Setting → ℕ → List Decided
case_decisions k c = map (by_case_alone k.control c) (component_at k.control.components c).alternatives

-- both decisions of a boolean variable
abbrev pub truth_decisions : Setting → ℕ → List Decided
truth_decisions k v = by_truth_alone k v true ∷ by_truth_alone k v false ∷ []

-- what is kept under a number is the numbers of these decisions
abbrev pub AreKept : List Choice → (ℕ → List Decided) → List (Vec ℕ Global) → Type 0
AreKept ds decisions kept = (n : ℕ) (v : Vec ℕ Global) → slice_get kept n ≡ Some v → AreDecisions ds v.items (decisions n)

-- the numbers of the decisions of each component and of each variable, and which components have others inside
pub record AreNumbered (k : Setting) (ds : List Choice) (d : Decisions) : Type 0 where
  pub cases : AreKept ds (case_decisions k) d.cases.items
  pub truths : AreKept ds (truth_decisions k) d.truths.items
  pub insides : AreInside k.control d.insides.items

abbrev pub Remembers : Setting → Memo → Type 0
Remembers k m = Holds k (formulas_of m.table) (trees_in m.trees) m.contexts.kept.items m.found

-- numbers keep their formulas, trees and contexts
pub record GrowsTo (old new : Memo) : Type 0 where
  pub table : Grows old.table new.table
  pub trees : Extends (trees_in old.trees) (trees_in new.trees)
  pub contexts : Keeps old.contexts.kept.items new.contexts.kept.items

-- what a book says is so for this setting
pub record Knows (k : Setting) (b : Book) : Type 0 where
  pub decisions : AreNumbered k b.memo.table.decisions b.decisions
  pub remembers : Remembers k b.memo

-- the tree with a number
abbrev pub tree_in : Book → ℕ → Tree
tree_in b n = tree (trees_in b.memo.trees) n

abbrev pub IsThere : Book → ℕ → Type 0
IsThere b n = n < length (trees_in b.memo.trees)

-- the search over lists finds the tree with this number for the condition's conjuncts, whatever its size
abbrev pub IsTreeFound : Setting → Formula → Formula → Book → ℕ → Type 0
IsTreeFound k given shown b n = HasTree k (trees_in b.memo.trees) n (in_context (first_context k.control) (first_problem k given shown).conjuncts)

-- what is found is the certificate that the search finds
abbrev pub IsFound : Setting → Formula → Formula → Book → Option ℕ → Type 0
IsFound k given shown b None = Unit {0}
IsFound k given shown b (Some n) = IsThere b n × (decided k given shown ≡ valid (tree_in b n))
