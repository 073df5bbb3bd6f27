-- The trees that were found, by list and context.
use Rattle.std.specs.Prelude.{◌≡◌, ℕ, List, All, slice_index_or, Option, Some, None}
use Rattle.st_form.specs.Formula.{Formula}
use Rattle.st_certificate.specs.Tree.{Tree}
use Rattle.farkas_check.specs.Problem.{Setting}
use Rattle.form_table.specs.Lists.{IsList, conjuncts_of}
use Rattle.sharing_laws.specs.Contexts.{first_context, in_context}
use Rattle.shared_search.specs.declared.entries.Entry.{Entry}
use Rattle.shared_search.specs.declared.memo.Found.{Found}
use Rattle.shared_search.specs.Contexts.{ContextTable, IsContext}
use Rattle.shared_search.specs.Lists.{HasTree, IsKey, key_of}

-- each tree that is remembered for a list is found for it in the first context
abbrev pub AreFound : Setting → List Formula → List Tree → List (Option ℕ) → Type 0
AreFound k ts us known = (n t : ℕ) → slice_index_or known n None ≡ Some t → IsList ts n × HasTree k us t (in_context (first_context k.control) (Some (conjuncts_of ts n)))

-- the tree is found for the list in its context
abbrev pub IsEntry : Setting → List Formula → List Tree → ContextTable → Entry → Type 0
IsEntry k ts us cs e = IsKey ts cs e.key × HasTree k us e.tree (key_of ts cs e.key)

pub record AreEntries (k : Setting) (ts : List Formula) (us : List Tree) (cs : ContextTable) (es : List Entry) : Type 0 where
  pub each : All (λ e. IsEntry k ts us cs e) es

-- all that is remembered is found
pub record Holds (k : Setting) (ts : List Formula) (us : List Tree) (cs : ContextTable) (f : Found) : Type 0 where
  pub first : IsContext cs 0 (first_context k.control)
  pub known : AreFound k ts us f.known.items
  pub others : AreEntries k ts us cs f.others.kept.items
