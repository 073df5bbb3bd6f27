-- A chain that is grouped from the left is typed from the left.
use Rattle.std.proofs.Common.{◌≡◌, ℕ, ◌+◌, ◌<◌, ◌≤◌, Bool, true, false, cond, List, [], ◌∷◌, length, drop, get_or, refl, ap, sym, ◌∙◌, Result, Ok, Err}
use Rattle.std.proofs.lemmas.List.{drop_more}
use Rattle.std.proofs.Math.ListN.{drop_of_length-le}
use Rattle.expression_parser.specs.declared.raw.Operator.{Operator}
use Rattle.expression_parser.specs.declared.raw.RawTerm.{RawTerm}
use Rattle.expression_parser.specs.ExpressionTree.{Expr, Kind, node, kind_of, start_of, joined, expr_view, terms_view}
use Rattle.st_program.specs.Tree.{Term, truth}
use Rattle.expression_typer.specs.declared.fault.TypeFault.{TypeFault}
use Rattle.expression_typer.specs.Answers.{◌>>=◌}
use Rattle.expression_typer.specs.Scope.{Names}
use Rattle.expression_typer.specs.Typing.{typed_by, kind_typed_by, as_number, as_truth, combine, implied, is_implication}
use Rattle.expression_typer.specs.Chains.{paired, chained}

then_then : {A B C : Type 0} (r : Result A TypeFault) (f : A → Result B TypeFault) (g : B → Result C TypeFault) → ((r >>= f) >>= g) ≡ (r >>= λ x. f x >>= g)
then_then (Ok x) f g = refl
then_then (Err e) f g = refl

then_ok : {A : Type 0} (r : Result A TypeFault) → (r >>= λ x. Ok x) ≡ r
then_ok (Ok x) = refl
then_ok (Err e) = refl

pair_is : (s : Names) (o : Operator) (at : ℕ) (l r : Expr) → typed_by s (joined o at l r) ≡ (typed_by s l >>= λ x. paired s o at (start_of l) x r)
pair_is s o at l r = go (is_implication o) (typed_by s l)
  where
    go : (b : Bool) (w : Result Term TypeFault)
        → cond b (w >>= λ x. as_truth (start_of l) x >>= λ f. typed_by s r >>= λ y. as_truth (start_of r) y >>= λ g. Ok (truth (implied f g)))
        (w >>= λ x. as_number (start_of l) x >>= λ f. typed_by s r >>= λ y. as_number (start_of r) y >>= λ g. combine o at f g)
        ≡ (w >>= λ x. cond b (as_truth (start_of l) x >>= λ f. typed_by s r >>= λ y. as_truth (start_of r) y >>= λ g. Ok (truth (implied f g)))
        (as_number (start_of l) x >>= λ f. typed_by s r >>= λ y. as_number (start_of r) y >>= λ g. combine o at f g))
    go true (Ok x) = refl
    go false (Ok x) = refl
    go true (Err f) = refl
    go false (Err f) = refl

chain_is : (s : Names) (e : Expr) (ts : List RawTerm) → typed_by s (terms_view e ts) ≡ (typed_by s e >>= λ x. chained s (start_of e) x ts)
chain_is s e [] = sym (then_ok (typed_by s e))
chain_is s e (t ∷ ts) =
    chain_is s (joined t.operator t.at e (expr_view t.of)) ts
    ∙ ap (λ r. r >>= λ x. chained s (start_of e) x ts) (pair_is s t.operator t.at e (expr_view t.of))
    ∙ then_then (typed_by s e) (λ x. paired s t.operator t.at (start_of e) x (expr_view t.of)) (λ y. chained s (start_of e) y ts)

kind_is : (s : Names) (e : Expr) → kind_typed_by s (kind_of e) ≡ typed_by s e
kind_is s (node place k) = refl

pub chain_typed : (s : Names) (e : Expr) (ts : List RawTerm) → kind_typed_by s (kind_of (terms_view e ts)) ≡ (typed_by s e >>= λ x. chained s (start_of e) x ts)
chain_typed s e ts = kind_is s (terms_view e ts) ∙ chain_is s e ts

-- what a chain gives, whose first expression gives a value
pub chain_given : (s : Names) (k : Kind) (e : Expr) (ts : List RawTerm) (x : Term) → k ≡ kind_of (terms_view e ts) → typed_by s e ≡ Ok x → kind_typed_by s k ≡ chained s (start_of e) x ts
chain_given s k e ts x h g = rw (h, chain_typed s e ts, g) refl

pub ruleset chains = (chain_typed)

-- a further term of the loop
pub term-more : (s : Names) (place : ℕ) (x : Term) (ts : List RawTerm) (i : ℕ) (t : RawTerm) → i < length ts → t ≡ get_or ts i t
    → chained s place x (drop i ts) ≡ (paired s t.operator t.at place x (expr_view t.of) >>= λ y. chained s place y (drop (i + 1) ts))
term-more s place x ts i t h k = ap (λ l. chained s place x l) (drop_more ts i t h) ∙ ap (λ z. chained s place x (z ∷ drop (i + 1) ts)) (sym k)

pub term-end : (s : Names) (place : ℕ) (x : Term) (ts : List RawTerm) (i : ℕ) → length ts ≤ i → chained s place x (drop i ts) ≡ Ok x
term-end s place x ts i h = ap (λ l. chained s place x l) (drop_of_length-le ts h)
