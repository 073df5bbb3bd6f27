-- Forms that the rules give use each variable by its type, and have small numbers.
use Rattle.std.proofs.Common.{◌≡◌, ℕ, zero, suc, ◌+◌, ◌^◌, ◌<◌, Bool, true, false, cond, List, [], ◌∷◌, map, refl, sym, arith, ℤ, pos, negsuc, ◌+ℤ◌, ◌*ℤ◌, Option, Some, None, Err}
use Rattle.std.specs.Prelude.{neg_ℤ}
use Rattle.st_linear.specs.Linear.{Linear, AreEntries, joined, with_entry, sum_of, scaled, scaled_entries, number, fitting}
use Rattle.st_linear.specs.Simple.{negated}
use Rattle.st_linear.proofs.Joined.{joined-ind, AreEntries-joined}
use Rattle.st_linear.proofs.Fitting.{AreEntries-scaled, fitting-is}
use Rattle.st_linear.proofs.Dividing.{AreEntries-negated}
use Rattle.st_form.specs.declared.variables.Variable.{Variable}
use Rattle.st_program.specs.Types.{type_of, EntriesFit, LinearFits}
use Rattle.expression_typer.specs.declared.fault.TypeFault.TheVariants as faults
use Rattle.expression_typer.specs.Written.{is_writable, limited, fitted, fitted_to, difference, lowered, is_constant, product}
use Rattle.expression_typer.specs.Rules.{minus, less_one}
use Rattle.expression_typer.proofs.Sizes.{Within, Bounded, bounded_written, bounded_minus, bounded_one, bounded_sum}
use Rattle.expression_typer.proofs.Holding.{Holds, bound, if_ok}

-- each entry is of an integer variable
abbrev pub Of : List Variable → List (ℕ × ℤ) → Type 0
Of vs [] = Unit {0}
Of vs (e ∷ es) = (type_of vs e.0 ≡ Some false) × Of vs es

of_entry : (vs : List Variable) (v : ℕ) (c : ℤ) (es : List (ℕ × ℤ)) → type_of vs v ≡ Some false → Of vs es → Of vs (with_entry v c es)
of_entry vs v (pos zero) es h k = k
of_entry vs v (pos (suc n)) es h k = (h, k)
of_entry vs v (negsuc n) es h k = (h, k)

of_joined : (vs : List Variable) (xs ys : List (ℕ × ℤ)) → Of vs xs → Of vs ys → Of vs (joined xs ys)
of_joined vs =
    joined-ind (λ xs ys zs. Of vs xs → Of vs ys → Of vs zs)
    (λ ys h k. k)
    (λ x xs h k. h)
    (λ x y xs ys zs o p h k. (h.0, p h.1 k))
    (λ x y xs ys zs o p h k. (k.0, p h k.1))
    (λ x y xs ys zs o p h k. of_entry vs x.0 (x.1 +ℤ y.1) zs h.0 (p h.1 k.1))

of_negated : (vs : List Variable) (es : List (ℕ × ℤ)) → Of vs es → Of vs (map (λ e. (e.0, neg_ℤ e.1)) es)
of_negated vs [] h = tt
of_negated vs (e ∷ es) h = (h.0, of_negated vs es h.1)

of_scaled : (vs : List Variable) (c : ℤ) (es : List (ℕ × ℤ)) → Of vs es → Of vs (scaled_entries c es)
of_scaled vs c [] h = tt
of_scaled vs c (e ∷ es) h = of_entry vs e.0 (e.1 *ℤ c) (scaled_entries c es) h.0 (of_scaled vs c es h.1)

-- a form of integer variables, which rise
pub record IsOf (vs : List Variable) (f : Linear) : Type 0 where
  pub rising : AreEntries f.entries
  pub types : Of vs f.entries

pub record IsWord (vs : List Variable) (f : Linear) : Type 0 where
  pub form : IsOf vs f
  pub written : is_writable f ≡ true

pub of_sum : (vs : List Variable) (f g : Linear) → IsOf vs f → IsOf vs g → IsOf vs (sum_of f g)
of_sum vs f g h k = record { rising = AreEntries-joined f.entries g.entries h.rising k.rising; types = of_joined vs f.entries g.entries h.types k.types }

pub of_opposite : (vs : List Variable) (f : Linear) → IsOf vs f → IsOf vs (negated f)
of_opposite vs f h = record { rising = AreEntries-negated f.entries h.rising; types = of_negated vs f.entries h.types }

pub of_multiple : (vs : List Variable) (c : ℤ) (f : Linear) → IsOf vs f → IsOf vs (scaled c f)
of_multiple vs c f h = record { rising = AreEntries-scaled c f.entries h.rising; types = of_scaled vs c f.entries h.types }

pub of_number : (vs : List Variable) (z : ℤ) → IsOf vs (number z)
of_number vs z = record { rising = tt; types = tt }

entries_fit : (vs : List Variable) (b c : ℕ) (es : List (ℕ × ℤ)) → b < c → Of vs es → Within b es → EntriesFit vs c es
entries_fit vs b c [] h k g = tt
entries_fit vs b c (e ∷ es) h k g = (k.0, omega (arith, h, g.0), entries_fit vs b c es h k.1 g.1)

pub fits_bounded : (vs : List Variable) (b c : ℕ) (f : Linear) → b < c → IsOf vs f → Bounded b f → LinearFits vs c f
fits_bounded vs b c f h k g = record { rising = k.rising; constant = omega (arith, h, g.constant); entries = entries_fit vs b c f.entries h k.types g.entries }

pub fits_word : (vs : List Variable) (f : Linear) → IsWord vs f → LinearFits vs (suc (2 ^ 30)) f
fits_word vs f h = fits_bounded vs (2 ^ 30) (suc (2 ^ 30)) f (omega arith) h.form (bounded_written f h.written)

limited_word : (vs : List Variable) (at : ℕ) (f : Linear) → IsOf vs f → Holds (IsWord vs) (limited at f)
limited_word vs at f h = if_ok (IsWord vs) (is_writable f) f _ (λ e. record { form = h; written = e })

pub sum_word : (vs : List Variable) (at : ℕ) (f g : Linear) → IsWord vs f → IsWord vs g → Holds (IsWord vs) (limited at (sum_of f g))
sum_word vs at f g h k = limited_word vs at (sum_of f g) (of_sum vs f g h.form k.form)

pub less_word : (vs : List Variable) (at : ℕ) (f g : Linear) → IsWord vs f → IsWord vs g → Holds (IsWord vs) (limited at (sum_of f (negated g)))
less_word vs at f g h k = limited_word vs at (sum_of f (negated g)) (of_sum vs f (negated g) h.form (of_opposite vs g k.form))

pub negative_word : (vs : List Variable) (at : ℕ) (f : Linear) → IsWord vs f → Holds (IsWord vs) (limited at (scaled (negsuc 0) f))
negative_word vs at f h = limited_word vs at (scaled (negsuc 0) f) (of_multiple vs (negsuc 0) f h.form)

pub product_word : (vs : List Variable) (at : ℕ) (f g : Linear) → IsWord vs f → IsWord vs g → Holds (IsWord vs) (product at f g)
product_word vs at f g h k = go (is_constant f.entries) (is_constant g.entries)
  where
    go : (a b : Bool) → Holds (IsWord vs) (cond a (limited at (scaled f.constant g)) (cond b (limited at (scaled g.constant f)) (Err (faults.NonLinear at))))
    go true b = limited_word vs at (scaled f.constant g) (of_multiple vs f.constant g k.form)
    go false true = limited_word vs at (scaled g.constant f) (of_multiple vs g.constant f h.form)
    go false false = tt

fitted_is_same : (P : Linear → Type 0) (at : ℕ) (f : Linear) → P f → Holds P (fitted at f)
fitted_is_same P at f h = go (fitting f) refl
  where
    go : (o : Option Linear) → fitting f ≡ o → Holds P (fitted_to at o)
    go None e = tt
    go (Some g) e = rw (sym (fitting-is f g e)) h

abbrev pub Compared : List Variable → Linear → Type 0
Compared vs f = LinearFits vs (2 ^ 32) f

pub difference_fits : (vs : List Variable) (at : ℕ) (f g : Linear) → IsWord vs f → IsWord vs g → Holds (Compared vs) (difference at f g)
difference_fits vs at f g h k =
    fitted_is_same (Compared vs) at (minus f g)
    (fits_bounded vs (2 ^ 30 + 2 ^ 30) (2 ^ 32) (minus f g) (omega arith) (of_sum vs f (negated g) h.form (of_opposite vs g k.form)) (bounded_minus _ _ f g (bounded_written f h.written) (bounded_written g k.written)))

pub lowered_fits : (vs : List Variable) (at : ℕ) (f g : Linear) → IsWord vs f → IsWord vs g → Holds (Compared vs) (lowered at f g)
lowered_fits vs at f g h k =
    bound (λ d. d ≡ minus f g) (Compared vs) (difference at f g) _ (fitted_is_same (λ d. d ≡ minus f g) at (minus f g) refl)
    (λ d e. bound (λ one. one ≡ number (negsuc 0)) (Compared vs) (fitted at (number (negsuc 0))) _ (fitted_is_same (λ one. one ≡ number (negsuc 0)) at (number (negsuc 0)) refl)
    (λ one i. rw (e, i)
    (fitted_is_same (Compared vs) at (less_one (minus f g))
    (fits_bounded vs (2 ^ 30 + 2 ^ 30 + 1) (2 ^ 32) (less_one (minus f g)) (omega arith)
    (of_sum vs (minus f g) (number (negsuc 0)) (of_sum vs f (negated g) h.form (of_opposite vs g k.form)) (of_number vs (negsuc 0)))
    (bounded_sum _ _ (minus f g) (number (negsuc 0)) (bounded_minus _ _ f g (bounded_written f h.written) (bounded_written g k.written)) bounded_one)))))
