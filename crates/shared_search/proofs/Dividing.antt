-- The trees of a division: each list has its own.
use Rattle.std.proofs.Common.{◌≡◌, ℕ, ◌+◌, ◌<◌, List, [], ◌∷◌, ◌++◌, length, map, take, get_or, refl, ap, subst, ◌∙◌, sym, All, None, arith}
use Rattle.std.proofs.lemmas.List.{take_more}
use Rattle.std.proofs.lemmas.List.Elements.{All-cons}
use Rattle.st_certificate.specs.Tree.{Tree, impossible, branch, Step}
use Rattle.farkas_check.specs.Problem.{Setting}
use Rattle.form_table.specs.Contents.{formulas_of}
use Rattle.tree_table.specs.Table.{listed, AreThere, Is, Extends}
use Rattle.tree_table.specs.Nodes.{trees_in}
use Rattle.search_laws.specs.Walks.{divides}
use Rattle.sharing_laws.specs.Contexts.{InContext, context_move, in_context}
use Rattle.sharing_laws.specs.Finds.{Finds, FindsAll}
use Rattle.shared_search.specs.declared.memo.Memo.{Memo}
use Rattle.shared_search.specs.declared.lists.Child.{Child}
use Rattle.shared_search.specs.Contexts.{Context}
use Rattle.shared_search.specs.Lists.{HasTree, HaveTrees, IsChild, child_of}
use Rattle.shared_search.specs.Books.{GrowsTo}
use Rattle.std.proofs.lemmas.List.{map_push}
use Rattle.shared_search.proofs.Listing.{child-same}
use Rattle.shared_search.proofs.Knowing.{has-later}

pub have-later : (k : Setting) (us vs : List Tree) (ns : List ℕ) (xs : List InContext) → Extends us vs → HaveTrees k us ns xs → HaveTrees k vs ns xs
have-later k us vs [] [] e h = tt
have-later k us vs [] (x ∷ rest) e h = absurd h
have-later k us vs (n ∷ ns) [] e h = absurd h
have-later k us vs (n ∷ ns) (x ∷ rest) e h = (has-later k us vs n x e h.0, have-later k us vs ns rest e h.1)

pub have-push : (k : Setting) (us : List Tree) (ns : List ℕ) (xs : List InContext) (n : ℕ) (x : InContext) → HaveTrees k us ns xs → HasTree k us n x → HaveTrees k us (ns ++ n ∷ []) (xs ++ x ∷ [])
have-push k us [] [] n x h t = (t, tt)
have-push k us [] (other ∷ rest) n x h t = absurd h
have-push k us (m ∷ ms) [] n x h t = absurd h
have-push k us (m ∷ ms) (other ∷ rest) n x h t = (h.0, have-push k us ms rest n x h.1 t)

pub have-find : (k : Setting) (us : List Tree) (ns : List ℕ) (xs : List InContext) → HaveTrees k us ns xs → FindsAll (context_move k) (listed us ns) xs
have-find k us [] [] h = tt
have-find k us [] (x ∷ rest) h = absurd h
have-find k us (n ∷ ns) [] h = absurd h
have-find k us (n ∷ ns) (x ∷ rest) h = (h.0.finds, have-find k us ns rest h.1)

pub have-there : (k : Setting) (us : List Tree) (ns : List ℕ) (xs : List InContext) → HaveTrees k us ns xs → AreThere us ns
have-there k us [] [] h = λ i d l. absurd (omega (arith, l))
have-there k us [] (x ∷ rest) h = absurd h
have-there k us (n ∷ ns) [] h = absurd h
have-there k us (n ∷ ns) (x ∷ rest) h = All-cons (λ m. m < length us) n ns h.0.there (have-there k us ns rest h.1)

-- a tree more
pub walk-step : (k : Setting) (old mid new : Memo) (xs : List Child) (i : ℕ) (d : Child) (parts : List ℕ) (t : ℕ) → GrowsTo old mid → GrowsTo mid new → All (IsChild (formulas_of old.table) old.contexts.kept.items) xs → i < length xs
    → HaveTrees k (trees_in mid.trees) parts (map (child_of (formulas_of old.table) old.contexts.kept.items) (take i xs))
    → HasTree k (trees_in new.trees) t (child_of (formulas_of mid.table) mid.contexts.kept.items (get_or xs i d))
    → HaveTrees k (trees_in new.trees) (parts ++ t ∷ []) (map (child_of (formulas_of old.table) old.contexts.kept.items) (take (i + 1) xs))
walk-step k old mid new xs i d parts t g h l at have one =
    let f : Child → InContext = child_of (formulas_of old.table) old.contexts.kept.items in
    let x : Child = get_or xs i d in
    let same : child_of (formulas_of mid.table) mid.contexts.kept.items x ≡ f x = child-same (formulas_of old.table) (formulas_of mid.table) old.contexts.kept.items mid.contexts.kept.items x g.table.formulas g.contexts (l i d at) in
    let pushed = have-push k (trees_in new.trees) parts (map f (take i xs)) t (f x) (have-later k (trees_in mid.trees) (trees_in new.trees) parts _ h.trees have) (subst (HasTree k (trees_in new.trees) t) same one) in
    subst (HaveTrees k (trees_in new.trees) (parts ++ t ∷ [])) (sym (ap (map f) (take_more xs i d at) ∙ map_push f (take i xs) x)) pushed

-- the tree of a leaf, of a false problem and of a division
pub has-by : (k : Setting) (us : List Tree) (n : ℕ) (t : Tree) (x : InContext) → Is us n t → Finds (context_move k) t x → HasTree k us n x
has-by k us n t x h f = record { there = h.0; finds = subst (λ y. Finds (context_move k) y x) (sym h.1) f }

pub has-absurd : (k : Setting) (us : List Tree) (n : ℕ) (context : Context) → Is us n impossible → HasTree k us n (in_context context None)
has-absurd k us n context h = has-by k us n impossible (in_context context None) h refl

pub has-branch : (k : Setting) (us vs : List Tree) (n : ℕ) (s : Step) (parts : List ℕ) (xs : List InContext) (x : InContext) → context_move k x ≡ divides s xs → HaveTrees k us parts xs
    → Is vs n (branch s (listed us parts)) → HasTree k vs n x
has-branch k us vs n s parts xs x e h i = has-by k vs n (branch s (listed us parts)) x i (xs, e, have-find k us parts xs h)
