-- A chain of formulas, one by one.
use Rattle.std.proofs.Common.{◌≡◌, ℕ, ◌+◌, ◌<◌, ◌≤◌, List, [], ◌∷◌, ◌++◌, length, drop, get_or, refl, ap, ◌∙◌, sym, Result, Ok, Err}
use Rattle.std.proofs.lemmas.List.{drop_more}
use Rattle.std.proofs.Math.ListN.{drop_of_length-le}
use Rattle.st_form.specs.Formula.{Formula, Formulas, none, more}
use Rattle.st_form.specs.Plain.{plain, plain_list}
use Rattle.expression_typer.specs.Row.{onto}
use Rattle.st_form.specs.declared.formulas.Form.{Form}
use Rattle.expression_parser.specs.ExpressionTree.{Expr, one_more, expr_view, exprs_view, start_of}
use Rattle.expression_parser.specs.declared.raw.RawExpr.{RawExpr}
use Rattle.expression_typer.specs.declared.fault.TypeFault.{TypeFault}
use Rattle.expression_typer.specs.Answers.{◌>>=◌}
use Rattle.expression_typer.specs.Scope.{Names}
use Rattle.st_program.specs.Tree.{Term}
use Rattle.expression_typer.specs.Typing.{typed_by, all_typed_by, as_truth}
use Rattle.expression_typer.specs.Row.{onto_all}

onto-push : (fs : List Form) (f : Form) (gs : Formulas) → onto (fs ++ f ∷ []) gs ≡ onto fs (more (plain f) gs)
onto-push [] f gs = refl
onto-push (e ∷ fs) f gs = ap (more (plain e)) (onto-push fs f gs)

onto-none : (fs : List Form) → onto fs none ≡ plain_list fs
onto-none [] = refl
onto-none (f ∷ fs) = ap (more (plain f)) (onto-none fs)

onto_all-push : (fs : List Form) (f : Form) (r : Result Formulas TypeFault) → onto_all (fs ++ f ∷ []) r ≡ onto_all fs (r >>= λ gs. Ok (more (plain f) gs))
onto_all-push fs f (Ok gs) = ap Ok (onto-push fs f gs)
onto_all-push fs f (Err e) = refl

-- a chain whose first part has this meaning
abbrev with_first : Result Formulas TypeFault → Expr → Result Term TypeFault → Result Formulas TypeFault
with_first rest e w = w >>= λ x. as_truth (start_of e) x >>= λ f. rest >>= λ fs. Ok (more f fs)

all-more : (s : Names) (es : List RawExpr) (i : ℕ) (e : RawExpr) → i < length es → e ≡ get_or es i e → all_typed_by s (exprs_view (drop i es)) ≡ all_typed_by s (one_more (expr_view e) (exprs_view (drop (i + 1) es)))
all-more s es i e h k = ap (λ l. all_typed_by s (exprs_view l)) (drop_more es i e h) ∙ ap (λ x. all_typed_by s (one_more (expr_view x) (exprs_view (drop (i + 1) es)))) (sym k)

first_is : (rest : Result Formulas TypeFault) (e : Expr) (w : Term) (r : Result Term TypeFault) (f : Formula) → r ≡ Ok w → as_truth (start_of e) w ≡ Ok f → with_first rest e r ≡ (rest >>= λ fs. Ok (more f fs))
first_is rest e w r f h k = rw (h, k)

pub conjunct-step : (s : Names) (es : List RawExpr) (out : List Form) (i : ℕ) (e : RawExpr) (w : Term) (f : Form) (whole : Result Formulas TypeFault) → i < length es → e ≡ get_or es i e
    → typed_by s (expr_view e) ≡ Ok w → as_truth e.place w ≡ Ok (plain f)
    → onto_all out (all_typed_by s (exprs_view (drop i es))) ≡ whole
    → onto_all (out ++ f ∷ []) (all_typed_by s (exprs_view (drop (i + 1) es))) ≡ whole
conjunct-step s es out i e w f whole h k t a g =
    onto_all-push out f (all_typed_by s (exprs_view (drop (i + 1) es)))
    ∙ ap (onto_all out) (sym (first_is (all_typed_by s (exprs_view (drop (i + 1) es))) (expr_view e) w (typed_by s (expr_view e)) (plain f) t a))
    ∙ ap (onto_all out) (sym (all-more s es i e h k))
    ∙ g

pub conjunct-end : (s : Names) (es : List RawExpr) (out : List Form) (i : ℕ) (whole : Result Formulas TypeFault) → length es ≤ i → onto_all out (all_typed_by s (exprs_view (drop i es))) ≡ whole → whole ≡ Ok (plain_list out)
conjunct-end s es out i whole h g = sym (rw (drop_of_length-le es h) at g) ∙ ap Ok (onto-none out)
