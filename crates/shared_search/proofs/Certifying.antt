-- What is found is the certificate that the search finds.
use Rattle.std.proofs.Common.{◌≡◌, ℕ, List, ap, subst, ◌∙◌, sym, Option, Some, None}
use Rattle.std.specs.Prelude.{IfSome}
use Rattle.st_form.specs.Formula.{Formula}
use Rattle.farkas_check.specs.Problem.{Setting, first_problem}
use Rattle.st_certificate.specs.Tree.{Tree}
use Rattle.search_laws.specs.Sizes.{IsModestTree}
use Rattle.form_table.specs.Lists.{IsListed, first_conjuncts}
use Rattle.sharing_laws.specs.Contexts.{first_context, in_context}
use Rattle.sharing_laws.proofs.Moving.{contexts-find}
use Rattle.shared_search.specs.declared.book.Book.{Book}
use Rattle.shared_search.specs.Contexts.{ContextTable, IsContext, context_at}
use Rattle.shared_search.specs.Lists.{HasTree, conjuncts_at}
use Rattle.shared_search.specs.Books.{AreNumbered, GrowsTo, IsFound, IsTreeFound, Knows, Remembers, tree_in}
use Rattle.shared_search.proofs.Listing.{handed-same}
use Rattle.shared_search.proofs.Knowing.{numbered-later}

pub knows-later : (k : Setting) (b c : Book) → c.decisions ≡ b.decisions → GrowsTo b.memo c.memo → Remembers k c.memo → Knows k b → Knows k c
knows-later k b c d g r h = record {
  decisions = subst (AreNumbered k c.memo.table.decisions) (sym d) (numbered-later k b.memo.table.decisions c.memo.table.decisions b.decisions g.table.decisions h.decisions);
  remembers = r;
}

-- the tree of the list of a condition's conjuncts in the first context
tree-found : (k : Setting) (given shown : Formula) (us : List Tree) (ts : List Formula) (cs : ContextTable) (list : Option ℕ) (t : ℕ) → IsContext cs 0 (first_context k.control) → IsListed ts list (first_conjuncts given shown)
    → HasTree k us t (in_context (context_at cs 0) (conjuncts_at ts list)) → HasTree k us t (in_context (first_context k.control) (first_conjuncts given shown))
tree-found k given shown us ts cs list t first made has =
    let at : in_context (context_at cs 0) (conjuncts_at ts list) ≡ in_context (first_context k.control) (first_conjuncts given shown) =
    ap (λ c. in_context c (conjuncts_at ts list)) first.1 ∙ ap (in_context (first_context k.control)) (handed-same ts list (first_conjuncts given shown) made) in
    subst (HasTree k us t) at has

pub found-by : (k : Setting) (given shown : Formula) (us : List Tree) (ts : List Formula) (cs : ContextTable) (list o : Option ℕ) → IsContext cs 0 (first_context k.control) → IsListed ts list (first_conjuncts given shown)
    → IfSome o (λ t. HasTree k us t (in_context (context_at cs 0) (conjuncts_at ts list))) → IfSome o (λ t. HasTree k us t (in_context (first_context k.control) (first_problem k given shown).conjuncts))
found-by k given shown us ts cs list None first made has = tt
found-by k given shown us ts cs list (Some t) first made has = tree-found k given shown us ts cs list t first made has

pub modest-found : (k : Setting) (given shown : Formula) (b : Book) (t : ℕ) → IsTreeFound k given shown b t → IsModestTree (tree_in b t) → IsFound k given shown b (Some t)
modest-found k given shown b t has modest = (has.there, contexts-find k given shown (tree_in b t) modest has.finds)
