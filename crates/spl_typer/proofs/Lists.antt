-- Lists of statements, of children and of pieces, one by one.
use Rattle.std.proofs.Common.{◌≡◌, ℕ, ◌+◌, ◌<◌, ◌≤◌, List, [], ◌∷◌, ◌++◌, length, drop, get_or, refl, ap, ◌∙◌, sym, Result, Ok, Err}
use Rattle.std.proofs.lemmas.List.{drop_more}
use Rattle.std.proofs.Math.ListN.{drop_of_length-le}
use Rattle.st_program.specs.declared.trees.Stmt.{Stmt}
use Rattle.st_program.specs.declared.trees.Child.{Child}
use Rattle.st_program.specs.declared.trees.Inner.{Inner}
use Rattle.st_program.specs.Plain.{plain_stmt, plain_child, plain_inner, plain_stmts, plain_children, plain_pieces}
use Rattle.st_program.specs.Tree.{Statements, no_statement, statement, Processes, no_process, beside, Pieces, no_piece, piece}
use Rattle.spl_parser.specs.declared.raw.RawStatement.{RawStatement}
use Rattle.spl_parser.specs.declared.raw.RawBody.{RawBody}
use Rattle.spl_parser.specs.ProgramTree.{statement_view, statement_views, statements, body_view, body_views, bodies, followed}
use Rattle.spl_parser.specs.ProgramTree as raw
use Rattle.expression_typer.specs.declared.fault.TypeFault.{TypeFault}
use Rattle.spl_typer.specs.declared.statement.Here.{Here}
use Rattle.expression_typer.specs.Answers.{◌>>=◌}
use Rattle.expression_typer.specs.Scope.{Known}
use Rattle.spl_typer.specs.Walk.{State, Made, give}
use Rattle.spl_typer.specs.Statements.{pieces_of, pieces_along, pieces_behind}
use Rattle.spl_typer.specs.Walking.{walked, along, inside, bodied}
use Rattle.spl_typer.specs.Row.{statements_onto, onto_statements, children_onto, onto_children, pieces_onto, onto_pieces}

abbrev viewed : List RawStatement → raw.Statements
viewed xs = statements (statement_views xs)

abbrev viewed_bodies : List RawBody → raw.Bodies
viewed_bodies xs = bodies (body_views xs)

statements_onto-push : (xs : List Stmt) (x : Stmt) (rest : Statements) → statements_onto (xs ++ x ∷ []) rest ≡ statements_onto xs (statement (plain_stmt x) rest)
statements_onto-push [] x rest = refl
statements_onto-push (y ∷ xs) x rest = ap (statement (plain_stmt y)) (statements_onto-push xs x rest)

statements_onto-none : (xs : List Stmt) → statements_onto xs no_statement ≡ plain_stmts xs
statements_onto-none [] = refl
statements_onto-none (x ∷ xs) = ap (statement (plain_stmt x)) (statements_onto-none xs)

onto_statements-push : (xs : List Stmt) (x : Stmt) (r : Result (Made Statements) TypeFault) → onto_statements (xs ++ x ∷ []) r ≡ onto_statements xs (r >>= λ b. give (statement (plain_stmt x) b.made) b.after)
onto_statements-push xs x (Ok b) = ap (λ z. give z b.after) (statements_onto-push xs x b.made)
onto_statements-push xs x (Err e) = refl

pub statements-step : (s : List Known) (here there : Here) (items : List RawStatement) (out : List Stmt) (i : ℕ) (e : RawStatement) (x : Stmt) (st st1 : State) (whole : Result (Made Statements) TypeFault)
    → i < length items → e ≡ get_or items i e → walked s here (statement_view e) st ≡ give (plain_stmt x) st1
    → onto_statements out (along s here there (viewed (drop i items)) st) ≡ whole
    → onto_statements (out ++ x ∷ []) (along s there there (viewed (drop (i + 1) items)) st1) ≡ whole
statements-step s here there items out i e x st st1 whole h k t g =
    onto_statements-push out x (along s there there (viewed (drop (i + 1) items)) st1)
    ∙ ap (λ r. onto_statements out (r >>= λ a. along s there there (viewed (drop (i + 1) items)) a.after >>= λ b. give (statement a.made b.made) b.after)) (sym t)
    ∙ ap (λ y. onto_statements out (along s here there (followed (statement_view y) (viewed (drop (i + 1) items))) st)) k
    ∙ ap (λ l. onto_statements out (along s here there (viewed l) st)) (sym (drop_more items i e h))
    ∙ g

pub statements-end : (s : List Known) (here there : Here) (items : List RawStatement) (out : List Stmt) (i : ℕ) (st : State) (whole : Result (Made Statements) TypeFault)
    → length items ≤ i → onto_statements out (along s here there (viewed (drop i items)) st) ≡ whole → whole ≡ give (plain_stmts out) st
statements-end s here there items out i st whole h g = sym (rw (drop_of_length-le items h) at g) ∙ ap (λ z. give z st) (statements_onto-none out)

children_onto-push : (xs : List Child) (x : Child) (rest : Processes) → children_onto (xs ++ x ∷ []) rest ≡ children_onto xs (beside (plain_child x) rest)
children_onto-push [] x rest = refl
children_onto-push (y ∷ xs) x rest = ap (beside (plain_child y)) (children_onto-push xs x rest)

children_onto-none : (xs : List Child) → children_onto xs no_process ≡ plain_children xs
children_onto-none [] = refl
children_onto-none (x ∷ xs) = ap (beside (plain_child x)) (children_onto-none xs)

onto_children-push : (xs : List Child) (x : Child) (r : Result (Made Processes) TypeFault) → onto_children (xs ++ x ∷ []) r ≡ onto_children xs (r >>= λ b. give (beside (plain_child x) b.made) b.after)
onto_children-push xs x (Ok b) = ap (λ z. give z b.after) (children_onto-push xs x b.made)
onto_children-push xs x (Err e) = refl

pub children-step : (s : List Known) (items : List RawBody) (out : List Child) (i : ℕ) (e : RawBody) (x : Child) (st st1 : State) (whole : Result (Made Processes) TypeFault)
    → i < length items → e ≡ get_or items i e → bodied s (body_view e) st ≡ give (plain_child x) st1
    → onto_children out (inside s (viewed_bodies (drop i items)) st) ≡ whole
    → onto_children (out ++ x ∷ []) (inside s (viewed_bodies (drop (i + 1) items)) st1) ≡ whole
children-step s items out i e x st st1 whole h k t g =
    onto_children-push out x (inside s (viewed_bodies (drop (i + 1) items)) st1)
    ∙ ap (λ r. onto_children out (r >>= λ a. inside s (viewed_bodies (drop (i + 1) items)) a.after >>= λ b. give (beside a.made b.made) b.after)) (sym t)
    ∙ ap (λ y. onto_children out (inside s (raw.beside (body_view y) (viewed_bodies (drop (i + 1) items))) st)) k
    ∙ ap (λ l. onto_children out (inside s (viewed_bodies l) st)) (sym (drop_more items i e h))
    ∙ g

pub children-end : (s : List Known) (items : List RawBody) (out : List Child) (i : ℕ) (st : State) (whole : Result (Made Processes) TypeFault)
    → length items ≤ i → onto_children out (inside s (viewed_bodies (drop i items)) st) ≡ whole → whole ≡ give (plain_children out) st
children-end s items out i st whole h g = sym (rw (drop_of_length-le items h) at g) ∙ ap (λ z. give z st) (children_onto-none out)

pieces_onto-behind : (xs ys : List Inner) (rest : Pieces) → pieces_onto (xs ++ ys) rest ≡ pieces_onto xs (pieces_behind (plain_pieces ys) rest)
pieces_onto-behind [] [] rest = refl
pieces_onto-behind [] (y ∷ ys) rest = ap (piece (plain_inner y)) (pieces_onto-behind [] ys rest)
pieces_onto-behind (x ∷ xs) ys rest = ap (piece (plain_inner x)) (pieces_onto-behind xs ys rest)

pieces_onto-none : (xs : List Inner) → pieces_onto xs no_piece ≡ plain_pieces xs
pieces_onto-none [] = refl
pieces_onto-none (x ∷ xs) = ap (piece (plain_inner x)) (pieces_onto-none xs)

onto_pieces-behind : (xs ys : List Inner) (r : Result Pieces TypeFault) → onto_pieces (xs ++ ys) r ≡ onto_pieces xs (r >>= λ zs. Ok (pieces_behind (plain_pieces ys) zs))
onto_pieces-behind xs ys (Ok zs) = ap Ok (pieces_onto-behind xs ys zs)
onto_pieces-behind xs ys (Err e) = refl

pub pieces-step : (s : List Known) (items : List RawStatement) (out more : List Inner) (i : ℕ) (e : RawStatement) (whole : Result Pieces TypeFault)
    → i < length items → e ≡ get_or items i e → pieces_of s (statement_view e) ≡ Ok (plain_pieces more)
    → onto_pieces out (pieces_along s (viewed (drop i items))) ≡ whole
    → onto_pieces (out ++ more) (pieces_along s (viewed (drop (i + 1) items))) ≡ whole
pieces-step s items out more i e whole h k t g =
    onto_pieces-behind out more (pieces_along s (viewed (drop (i + 1) items)))
    ∙ ap (λ r. onto_pieces out (r >>= λ ys. pieces_along s (viewed (drop (i + 1) items)) >>= λ zs. Ok (pieces_behind ys zs))) (sym t)
    ∙ ap (λ y. onto_pieces out (pieces_along s (followed (statement_view y) (viewed (drop (i + 1) items))))) k
    ∙ ap (λ l. onto_pieces out (pieces_along s (viewed l))) (sym (drop_more items i e h))
    ∙ g

pub pieces-end : (s : List Known) (items : List RawStatement) (out : List Inner) (i : ℕ) (whole : Result Pieces TypeFault)
    → length items ≤ i → onto_pieces out (pieces_along s (viewed (drop i items))) ≡ whole → whole ≡ Ok (plain_pieces out)
pieces-end s items out i whole h g = sym (rw (drop_of_length-le items h) at g) ∙ ap Ok (pieces_onto-none out)
