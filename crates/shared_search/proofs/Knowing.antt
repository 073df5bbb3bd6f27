-- What is remembered stays so while the tables grow.
use Rattle.std.proofs.Common.{◌≡◌, ℕ, ◌⊎◌, inl, inr, List, [], ◌∷◌, ◌++◌, slice_index_or, ap, subst, ◌∙◌, sym, Option, Some, None, IfSome, arith}
use Rattle.std.proofs.lemmas.List.Elements.{All-weaker, All-nil, All-push}
use Rattle.st_form.specs.Formula.{Formula}
use Rattle.st_certificate.specs.Tree.{Tree}
use Rattle.farkas_check.specs.Problem.{Setting}
use Rattle.form_table.specs.Table as forms
use Rattle.form_table.specs.Contents.{Choice}
use Rattle.form_table.specs.Lists.{conjuncts_of, IsList}
use Rattle.form_table.proofs.Calling.{grows-refl, grows-trans}
use Rattle.tree_table.specs.Table.{Extends}
use Rattle.tree_table.specs.Nodes.{trees_in}
use Rattle.tree_table.proofs.Making.{extends-refl, extends-trans}
use Rattle.sharing_laws.specs.Contexts.{InContext, context_move, first_context, in_context}
use Rattle.sharing_laws.specs.Finds.{Finds}
use Rattle.shared_search.specs.declared.decisions.Decisions.{Decisions}
use Rattle.shared_search.specs.declared.memo.Memo.{Memo}
use Rattle.shared_search.specs.declared.memo.Found.{Found}
use Rattle.shared_search.specs.declared.entries.Entry.{Entry}
use Rattle.shared_search.specs.declared.entries.Entries.{Entries}
use Rattle.shared_search.specs.declared.lists.Key.{Key}
use Rattle.shared_search.specs.Contexts.{ContextTable, Keeps, context_at}
use Rattle.shared_search.specs.Lists.{HasTree, IsKey, key_of}
use Rattle.shared_search.specs.Found.{AreEntries, AreFound, Holds, IsEntry}
use Rattle.shared_search.specs.Books.{AreNumbered, GrowsTo}
use Rattle.shared_search.proofs.Entering.{keeps-refl, keeps-trans}
use Rattle.shared_search.proofs.Listing.{conjuncts-later, is-list-later, key-later, key-same}

pub to-refl : (m : Memo) → GrowsTo m m
to-refl m = record { table = grows-refl m.table; trees = extends-refl (trees_in m.trees); contexts = keeps-refl m.contexts.kept.items }

pub to-trans : (l m n : Memo) → GrowsTo l m → GrowsTo m n → GrowsTo l n
to-trans l m n h k = record {
  table = grows-trans l.table m.table n.table h.table k.table;
  trees = extends-trans (trees_in l.trees) (trees_in m.trees) (trees_in n.trees) h.trees k.trees;
  contexts = keeps-trans l.contexts.kept.items m.contexts.kept.items n.contexts.kept.items h.contexts k.contexts;
}

pub has-later : (k : Setting) (us vs : List Tree) (n : ℕ) (x : InContext) → Extends us vs → HasTree k us n x → HasTree k vs n x
has-later k us vs n x h t = record { there = omega (arith, t.there, h.longer); finds = subst (λ y. Finds (context_move k) y x) (sym (h.same n t.there)) t.finds }

-- ---- what is remembered while the tables grow
pub found-later : (k : Setting) (ts us : List Formula) (vs ws : List Tree) (known : List (Option ℕ)) → forms.Extends ts us → Extends vs ws → AreFound k ts vs known → AreFound k us ws known
found-later k ts us vs ws known g h f = λ n t e.
    let r = f n t e in
    let x : InContext = in_context (first_context k.control) (Some (conjuncts_of ts n)) in
    (is-list-later ts us n g r.0, subst (λ fs. HasTree k ws t (in_context (first_context k.control) (Some fs))) (sym (conjuncts-later ts us n g r.0)) (has-later k vs ws t x h r.1))

pub has-key-later : (k : Setting) (ts us : List Formula) (vs ws : List Tree) (cs ds : ContextTable) (key : Key) (t : ℕ) → forms.Extends ts us → Extends vs ws → Keeps cs ds → IsKey ts cs key → HasTree k vs t (key_of ts cs key)
    → HasTree k ws t (key_of us ds key)
has-key-later k ts us vs ws cs ds key t g h l i r = subst (HasTree k ws t) (sym (key-same ts us cs ds key g l i)) (has-later k vs ws t (key_of ts cs key) h r)

entry-later : (k : Setting) (ts us : List Formula) (vs ws : List Tree) (cs ds : ContextTable) (e : Entry) → forms.Extends ts us → Extends vs ws → Keeps cs ds → IsEntry k ts vs cs e → IsEntry k us ws ds e
entry-later k ts us vs ws cs ds e g h l r = (key-later ts us cs ds e.key g l r.0, has-key-later k ts us vs ws cs ds e.key e.tree g h l r.0 r.1)

entries-later : (k : Setting) (ts us : List Formula) (vs ws : List Tree) (cs ds : ContextTable) (es : List Entry) → forms.Extends ts us → Extends vs ws → Keeps cs ds → AreEntries k ts vs cs es → AreEntries k us ws ds es
entries-later k ts us vs ws cs ds es g h l r = record { each = All-weaker (λ e. IsEntry k ts vs cs e) (λ e. IsEntry k us ws ds e) (λ e i. entry-later k ts us vs ws cs ds e g h l i) es r.each }

pub holds-later : (k : Setting) (ts us : List Formula) (vs ws : List Tree) (cs ds : ContextTable) (f : Found) → forms.Extends ts us → Extends vs ws → Keeps cs ds → Holds k ts vs cs f → Holds k us ws ds f
holds-later k ts us vs ws cs ds f g h l r = record {
  first = (omega (arith, r.first.0, l.longer), l.same 0 r.first.0 ∙ r.first.1);
  known = found-later k ts us vs ws f.known.items g h r.known;
  others = entries-later k ts us vs ws cs ds f.others.kept.items g h l r.others;
}

-- ---- a tree more is remembered
found-either : (k : Setting) (ts : List Formula) (us : List Tree) (old : List (Option ℕ)) (list one n t : ℕ) → AreFound k ts us old → IsList ts list → HasTree k us one (in_context (first_context k.control) (Some (conjuncts_of ts list)))
    → ((slice_index_or old n None ≡ Some t) ⊎ ((n ≡ list) × (t ≡ one))) → IsList ts n × HasTree k us t (in_context (first_context k.control) (Some (conjuncts_of ts n)))
found-either k ts us old list one n t f l h (inl e) = f n t e
found-either k ts us old list one n t f l h (inr e) =
    let there : ℕ → InContext = λ m. in_context (first_context k.control) (Some (conjuncts_of ts m)) in
    (subst (IsList ts) (sym e.0) l, subst (λ m. HasTree k us t (there m)) (sym e.0) (subst (λ x. HasTree k us x (there list)) (sym e.1) h))

found-more : (k : Setting) (ts : List Formula) (us : List Tree) (old new : List (Option ℕ)) (list one : ℕ) → AreFound k ts us old → IsList ts list → HasTree k us one (in_context (first_context k.control) (Some (conjuncts_of ts list)))
    → ((n t : ℕ) → slice_index_or new n None ≡ Some t → (slice_index_or old n None ≡ Some t) ⊎ ((n ≡ list) × (t ≡ one))) → AreFound k ts us new
found-more k ts us old new list one f l h e = λ n t s. found-either k ts us old list one n t f l h (e n t s)

-- in the first context
pub holds-first : (k : Setting) (ts : List Formula) (us : List Tree) (cs : ContextTable) (f g : Found) (key : Key) (one : ℕ) → key.context ≡ 0 → g.others ≡ f.others
    → ((n t : ℕ) → slice_index_or g.known.items n None ≡ Some t → (slice_index_or f.known.items n None ≡ Some t) ⊎ ((n ≡ key.list) × (t ≡ one)))
    → Holds k ts us cs f → IsKey ts cs key → HasTree k us one (key_of ts cs key) → Holds k ts us cs g
holds-first k ts us cs f g key one z o e h i t =
    let at : context_at cs key.context ≡ first_context k.control = ap (context_at cs) z ∙ h.first.1 in
    let has : HasTree k us one (in_context (first_context k.control) (Some (conjuncts_of ts key.list))) = subst (λ c. HasTree k us one (in_context c (Some (conjuncts_of ts key.list)))) at t in
    record {
      first = h.first;
      known = found-more k ts us f.known.items g.known.items key.list one h.known i.1 has e;
      others = subst (λ (es : Entries). AreEntries k ts us cs es.kept.items) (sym o) h.others;
    }

-- what is remembered in the first context
pub known-first : (k : Setting) (ts : List Formula) (us : List Tree) (cs : ContextTable) (f : Found) (key : Key) (o : Option ℕ) → key.context ≡ 0 → o ≡ slice_index_or f.known.items key.list None → Holds k ts us cs f
    → IfSome o (λ t. HasTree k us t (key_of ts cs key))
known-first k ts us cs f key None z e h = tt
known-first k ts us cs f key (Some t) z e h =
    let at : context_at cs key.context ≡ first_context k.control = ap (context_at cs) z ∙ h.first.1 in
    subst (λ c. HasTree k us t (in_context c (Some (conjuncts_of ts key.list)))) (sym at) (h.known key.list t (sym e)).1

pub entries-push : (k : Setting) (ts : List Formula) (us : List Tree) (cs : ContextTable) (old new : List Entry) (e : Entry) → new ≡ old ++ e ∷ [] → AreEntries k ts us cs old → IsEntry k ts us cs e → AreEntries k ts us cs new
entries-push k ts us cs old new e s h i = rw s (record { each = All-push (λ x. IsEntry k ts us cs x) old e h.each i })

pub numbered-later : (k : Setting) (ds es : List Choice) (d : Decisions) → es ≡ ds → AreNumbered k ds d → AreNumbered k es d
numbered-later k ds es d e h = subst (λ xs. AreNumbered k xs d) (sym e) h

pub none-found : (k : Setting) (ts : List Formula) (us : List Tree) → AreFound k ts us []
none-found k ts us = λ n t e. absurd (cc)

pub no-entries : (k : Setting) (ts : List Formula) (us : List Tree) (cs : ContextTable) → AreEntries k ts us cs []
no-entries k ts us cs = record { each = All-nil (λ e. IsEntry k ts us cs e) }
