-- A book whose table of formulas has grown.
use Rattle.std.proofs.Common.{refl}
use Rattle.farkas_check.specs.Problem.{Setting}
use Rattle.form_table.specs.Contents.{Contents, Grows, formulas_of}
use Rattle.tree_table.specs.Nodes.{trees_in}
use Rattle.tree_table.proofs.Making.{extends-refl}
use Rattle.shared_search.specs.declared.book.Book.{Book}
use Rattle.shared_search.specs.Books.{GrowsTo, Knows}
use Rattle.shared_search.proofs.Entering.{keeps-refl}
use Rattle.shared_search.proofs.Knowing.{holds-later}
use Rattle.shared_search.proofs.Certifying.{knows-later}

abbrev pub with_table : Book → Contents → Book
with_table b t = record { memo = record { table = t; trees = b.memo.trees; contexts = b.memo.contexts; found = b.memo.found; left = b.memo.left }; decisions = b.decisions }

pub knows-grown : (k : Setting) (b : Book) (t : Contents) → Grows b.memo.table t → Knows k b → Knows k (with_table b t)
knows-grown k b t g h =
    let trees = extends-refl (trees_in b.memo.trees) in
    let kept = keeps-refl b.memo.contexts.kept.items in
    let grown : GrowsTo b.memo (with_table b t).memo = record { table = g; trees = trees; contexts = kept } in
    knows-later k b (with_table b t) refl grown
    (holds-later k (formulas_of b.memo.table) (formulas_of t) (trees_in b.memo.trees) (trees_in b.memo.trees) b.memo.contexts.kept.items b.memo.contexts.kept.items b.memo.found g.formulas trees kept h.remembers) h
