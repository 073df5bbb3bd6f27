-- The first statement of a list.
use Rattle.std.proofs.Common.{◌≡◌, List, [], ◌∷◌, ◌++◌, Some, None, Result, Ok, Err, OnOk, refl, sym, ap, ◌∙◌}
use Rattle.std.specs.Prelude.{slice_get}
use Rattle.st_program.specs.declared.trees.Stmt as GStmt
use Rattle.st_program.specs.Plain.{plain_stmt, plain_stmts}
use Rattle.control_facts.specs.Walk.{heads, heads_first}

pub first_heads : (xs : List GStmt.Stmt) (x : GStmt.Stmt) → slice_get xs 0 ≡ Some x → heads_first (plain_stmts xs) ≡ heads (plain_stmt x)
first_heads [] x e = cc
first_heads (y ∷ ys) x e = let same : y ≡ x = cc in ap (λ z. heads (plain_stmt z)) same

pub no_heads : (xs : List GStmt.Stmt) → slice_get xs 0 ≡ None → heads_first (plain_stmts xs) ≡ []
no_heads [] e = refl
no_heads (y ∷ ys) e = cc

pub on_same : {T E A : Type 0} (r : Result T E) (new old a b : List A) → a ≡ b → OnOk r (new ≡ old ++ b) → OnOk r (new ≡ old ++ a)
on_same (Ok x) new old a b e h = h ∙ ap (λ z. old ++ z) (sym e)
on_same (Err x) new old a b e h = h
