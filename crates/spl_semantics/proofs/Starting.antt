-- Components at the beginning of their bodies, and how many components there are.
use Rattle.std.proofs.Common.{◌≡◌, ℕ, suc, ◌+◌, ◌<◌, List, [], ◌∷◌, ◌++◌, length, map, drop, get_or, refl, ap, ◌∙◌, sym}
use Rattle.std.proofs.lemmas.List.{append-nil}
use Rattle.st_program.specs.declared.trees.Stmt as GStmt
use Rattle.st_program.specs.declared.trees.Child as GChild
use Rattle.st_program.specs.declared.residuals.Residual as GResidual
use Rattle.st_program.specs.Plain.{plain_stmts, plain_children}
use Rattle.st_program.specs.Residuals.{Rest, Done, Rests, no_rest, rests, rests_of, plain_residual, plain_residuals}
use Rattle.st_program.specs.Spots.{bodies_in}
use Rattle.spl_semantics.specs.Going.{join, begin}
use Rattle.spl_semantics.proofs.Counting.{next-child}

abbrev pub rest_list : Rests → List Rest
rest_list no_rest = []
rest_list (rests r rs) = r ∷ rest_list rs

of-list : (rs : Rests) → rests_of (rest_list rs) ≡ rs
of-list no_rest = refl
of-list (rests r rs) = ap (rests r) (of-list rs)

-- the list that was made is the whole
pub made-whole : (rs : List GResidual.Residual) (xs : List Rest) (whole : Rests) → xs ≡ [] → map plain_residual rs ++ xs ≡ rest_list whole → plain_residuals rs ≡ whole
made-whole rs xs whole e h = ap rests_of (sym (append-nil (map plain_residual rs)) ∙ ap (λ z. map plain_residual rs ++ z) (sym e) ∙ h) ∙ of-list whole

-- one more component at its beginning
pub begin-next : (cs : List GChild.Child) (i : ℕ) (c : GChild.Child) (body : List GStmt.Stmt) (n : ℕ) → i < length cs → c ≡ get_or cs i c → body ≡ (GChild.out-Child c).body.items
    → rest_list (begin (plain_children (drop i cs)) n) ≡ join (plain_stmts body) Done n 0 ∷ rest_list (begin (plain_children (drop (i + 1) cs)) (suc n + length (bodies_in (plain_stmts body))))
begin-next cs i c body n le e d =
    ap (λ p. rest_list (begin p n)) (next-child cs i c le e)
    ∙ ap (λ l. join (plain_stmts l) Done n 0 ∷ rest_list (begin (plain_children (drop (i + 1) cs)) (suc n + length (bodies_in (plain_stmts l))))) (sym d)

push-is : (out : List GResidual.Residual) (r : GResidual.Residual) (rest : List Rest) → map plain_residual (out ++ r ∷ []) ++ rest ≡ map plain_residual out ++ (plain_residual r ∷ rest)
push-is [] r rest = refl
push-is (o ∷ out) r rest = ap (λ l. plain_residual o ∷ l) (push-is out r rest)

-- one more is made
pub push-rest : (out made : List GResidual.Residual) (r : GResidual.Residual) (x : Rest) (rest front whole : List Rest) → made ≡ out ++ r ∷ [] → plain_residual r ≡ x → front ≡ x ∷ rest
    → map plain_residual out ++ front ≡ whole → map plain_residual made ++ rest ≡ whole
push-rest out made r x rest front whole m e f h =
    ap (λ l. map plain_residual l ++ rest) m
    ∙ push-is out r rest
    ∙ ap (λ z. map plain_residual out ++ (z ∷ rest)) e
    ∙ ap (λ l. map plain_residual out ++ l) (sym f)
    ∙ h
