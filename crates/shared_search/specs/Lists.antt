-- Lists of conjuncts in contexts, by number. A false problem has no list.
use Rattle.std.specs.Prelude.{◌≡◌, ℕ, ◌<◌, List, [], ◌∷◌, length, map, All, Option, Some, None}
use Rattle.st_form.specs.Formula.{Formula, Formulas}
use Rattle.st_certificate.specs.Tree.{Tree}
use Rattle.farkas_check.specs.Problem.{Setting}
use Rattle.form_table.specs.Contents.{Choice, decision_at}
use Rattle.form_table.specs.Lists.{conjuncts_of, IsList}
use Rattle.tree_table.specs.Table.{tree}
use Rattle.sharing_laws.specs.Lists.{under}
use Rattle.sharing_laws.specs.Contexts.{InContext, context_move, in_context}
use Rattle.sharing_laws.specs.Finds.{Finds}
use Rattle.shared_search.specs.declared.lists.Child.{Child}
use Rattle.shared_search.specs.declared.lists.Key.{Key}
use Rattle.shared_search.specs.Contexts.{ContextTable, context_at}

-- the conjuncts of a list, or None where it is false
abbrev pub conjuncts_at : List Formula → Option ℕ → Option Formulas
conjuncts_at ts None = None
conjuncts_at ts (Some n) = Some (conjuncts_of ts n)

abbrev pub IfList : List Formula → Option ℕ → Type 0
IfList ts None = Unit {0}
IfList ts (Some n) = IsList ts n

-- a list, or a false problem, in its context
abbrev pub child_of : List Formula → ContextTable → Child → InContext
child_of ts cs x = in_context (context_at cs x.context) (conjuncts_at ts x.list)

abbrev pub IsChild : List Formula → ContextTable → Child → Type 0
IsChild ts cs x = (x.context < length cs) × IfList ts x.list

-- numbers of lists in contexts, and what they stand for
pub record AreChildren (ts : List Formula) (cs : ContextTable) (xs : List Child) (ys : List InContext) : Type 0 where
  pub there : All (IsChild ts cs) xs
  pub same : map (child_of ts cs) xs ≡ ys

-- a list in its context
abbrev pub key_of : List Formula → ContextTable → Key → InContext
key_of ts cs x = in_context (context_at cs x.context) (Some (conjuncts_of ts x.list))

abbrev pub IsKey : List Formula → ContextTable → Key → Type 0
IsKey ts cs x = (x.context < length cs) × IsList ts x.list

-- conjuncts under each of these decisions
abbrev pub under_each : List Choice → Formulas → List ℕ → List (Option Formulas)
under_each ds fs [] = []
under_each ds fs (n ∷ ns) = under (decision_at ds n) fs ∷ under_each ds fs ns

-- a list that isn't false, in a context
abbrev pub child_at : ℕ → ℕ → Child
child_at context n = record { context = context; list = Some n }

-- the same lists, in other contexts
abbrev pub moved : List ℕ → List Child → List Child
moved [] xs = []
moved (n ∷ ns) [] = []
moved (n ∷ ns) (x ∷ xs) = record { context = n; list = x.list } ∷ moved ns xs

-- the search over lists in contexts finds the tree with this number
pub record HasTree (k : Setting) (us : List Tree) (n : ℕ) (x : InContext) : Type 0 where
  pub there : n < length us
  pub finds : Finds (context_move k) (tree us n) x

-- a tree for each list
abbrev pub HaveTrees : Setting → List Tree → List ℕ → List InContext → Type 0
HaveTrees k us [] [] = Unit {0}
HaveTrees k us [] (x ∷ rest) = ⊥
HaveTrees k us (n ∷ ns) [] = ⊥
HaveTrees k us (n ∷ ns) (x ∷ rest) = HasTree k us n x × HaveTrees k us ns rest
