-- The next statement of a block, in the code's lists, and steps seen from around.
use Rattle.std.proofs.Common.{◌≡◌, ℕ, zero, suc, ◌+◌, ◌<◌, ◌≤◌, true, false, List, [], ◌∷◌, length, get_or, drop, Some, None, IfOk, Result, Ok, Err, refl, ap, ◌∙◌, sym, arith}
use Rattle.std.specs.Prelude.{◌&&◌}
use Rattle.std.proofs.Math.Numerals.{add-one}
use Rattle.std.proofs.lemmas.List.{drop_more}
use Rattle.st_program.specs.declared.trees.Stmt as GStmt
use Rattle.st_program.specs.declared.residuals.Residual as GResidual
use Rattle.st_program.specs.Tree.{Statement, Statements, nth}
use Rattle.st_program.specs.Plain.{plain_stmt, plain_stmts}
use Rattle.st_program.specs.Residuals.{Rest, Done, Run, Then, Again, Inside, Rests, rests, plain_residual, plain_residuals}
use Rattle.spl_semantics.specs.Going.{behind, go_on, join, back, all_done}
use Rattle.spl_semantics.specs.Data.{is_done}

nth_in : (xs : List GStmt.Stmt) (k : ℕ) (d : GStmt.Stmt) → k < length xs → nth (plain_stmts xs) k ≡ Some (plain_stmt (get_or xs k d))
nth_in [] k d le = absurd (omega arith)
nth_in (x ∷ xs) zero d le = refl
nth_in (x ∷ xs) (suc k) d le = nth_in xs k d (omega arith)

nth_past : (xs : List GStmt.Stmt) (k : ℕ) → length xs ≤ k → nth (plain_stmts xs) k ≡ None
nth_past [] k le = refl
nth_past (x ∷ xs) zero le = absurd (omega arith)
nth_past (x ∷ xs) (suc k) le = nth_past xs k (omega arith)

some_nth : (xs : List GStmt.Stmt) (k : ℕ) → k < length xs → (s : Statement) × (nth (plain_stmts xs) k ≡ Some s)
some_nth [] k le = absurd (omega arith)
some_nth (x ∷ xs) zero le = (plain_stmt x, refl)
some_nth (x ∷ xs) (suc k) le = some_nth xs k (omega arith)

pub behind_in : (xs : List GStmt.Stmt) (r : Rest) (b k : ℕ) → k < length xs → Then r b k ≡ behind (nth (plain_stmts xs) k) r b k
behind_in xs r b k le = let s = some_nth xs k le in sym (ap (λ o. behind o r b k) s.1)

pub behind_past : (xs : List GStmt.Stmt) (r : Rest) (b k : ℕ) → length xs ≤ k → r ≡ behind (nth (plain_stmts xs) k) r b k
behind_past xs r b k le = sym (ap (λ o. behind o r b k) (nth_past xs k le))

pub done_is : (r : Rest) → is_done r ≡ true → r ≡ Done
done_is Done h = refl
done_is (Run n) h = cc
done_is (Then r b k) h = cc
done_is (Again r w) h = cc
done_is (Inside c rs) h = cc

pub join_open : (ss : Statements) (r : Rest) (b k : ℕ) → is_done r ≡ false → behind (nth ss k) r b k ≡ join ss r b k
join_open ss Done b k h = cc
join_open ss (Run n) b k h = refl
join_open ss (Then r c j) b k h = refl
join_open ss (Again r w) b k h = refl
join_open ss (Inside c rs) b k h = refl

pub back_open : (w : ℕ) (r : Rest) → is_done r ≡ false → Again r w ≡ back w r
back_open w Done h = cc
back_open w (Run n) h = refl
back_open w (Then r c j) h = refl
back_open w (Again r v) h = refl
back_open w (Inside c rs) h = refl

pub back_done : (w : ℕ) (r : Rest) → is_done r ≡ true → Run w ≡ back w r
back_done w r h = sym (ap (back w) (done_is r h))

pub join_past : (xs : List GStmt.Stmt) (r : Rest) (b k : ℕ) → length xs ≤ k → is_done r ≡ true → Done ≡ join (plain_stmts xs) r b k
join_past xs r b k le e = sym (ap (λ z. join (plain_stmts xs) z b k) (done_is r e) ∙ ap (λ o. go_on o (nth (plain_stmts xs) (suc k)) b k) (nth_past xs k le))

pub join_in : (xs : List GStmt.Stmt) (r : Rest) (b k : ℕ) (x : GStmt.Stmt) → k < length xs → x ≡ get_or xs k x → is_done r ≡ true → behind (nth (plain_stmts xs) (k + 1)) (Run x.occ) b (k + 1) ≡ join (plain_stmts xs) r b k
join_in xs r b k x le q e =
    ap (λ j. behind (nth (plain_stmts xs) j) (Run x.occ) b j) (add-one k)
    ∙ sym (ap (λ z. join (plain_stmts xs) z b k) (done_is r e) ∙ ap (λ o. go_on o (nth (plain_stmts xs) (suc k)) b k) (nth_in xs k x le ∙ ap (λ z. Some (plain_stmt z)) (sym q)))

pub if_ok_more : {T E : Type 0} (r : Result T E) (f : T → Rest) (a b : Rest) → a ≡ b → IfOk r (λ x. f x ≡ a) → IfOk r (λ x. f x ≡ b)
if_ok_more (Ok x) f a b e h = h ∙ e
if_ok_more (Err x) f a b e h = h

-- whether all are done, one after the other
pub all_done-next : (rs : List GResidual.Residual) (i : ℕ) (r : GResidual.Residual) → i < length rs → r ≡ get_or rs i r
    → all_done (plain_residuals (drop i rs)) ≡ (is_done (plain_residual r) && all_done (plain_residuals (drop (i + 1) rs)))
all_done-next rs i r le is =
    ap (λ l. all_done (plain_residuals l)) (drop_more rs i r le)
    ∙ ap (λ x. all_done (rests (plain_residual x) (plain_residuals (drop (i + 1) rs)))) (sym is)
    ∙ by_first (plain_residual r) (plain_residuals (drop (i + 1) rs))
  where
    by_first : (r : Rest) (rs : Rests) → all_done (rests r rs) ≡ (is_done r && all_done rs)
    by_first Done rs = refl
    by_first (Run n) rs = refl
    by_first (Then r b k) rs = refl
    by_first (Again r w) rs = refl
    by_first (Inside c rss) rs = refl
