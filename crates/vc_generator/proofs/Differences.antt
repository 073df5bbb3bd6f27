-- The difference of two numbers as forms, and numbers that fall.
use Rattle.std.proofs.Common.{◌≡◌, ◌∙◌, sym, ap, [], map, ℕ, IsTrue, List, Option, Some, false, true}
use Rattle.std.specs.Prelude.{ℤ, ◌+ℤ◌, neg_ℤ, unwrap_or, ◌&&◌, if◌then◌else◌, None, Bool}
use Rattle.std.specs.Option.{option_map}
use Rattle.st_form.specs.Formula.{Formula, row, truth_value}
use Rattle.st_linear.specs.Linear.{Linear, number, sum_of, joined, is_small, fitting, replaced, with_listed, kept_entries}
use Rattle.st_linear.specs.Simple.{negated}
use Rattle.transition_system.specs.Systems.{PlainMode}
use Rattle.vc_generator.specs.Building.{at_least, falls_to}

pub number-difference : (f g : Linear) (d : ℤ) → f.entries ≡ [] → g.entries ≡ [] → d ≡ f.constant +ℤ neg_ℤ g.constant → sum_of f (negated g) ≡ number d
number-difference f g d p q e = λ i. record {
  constant = sym e i;
  entries = joined (p i) (map {A = ℕ × ℤ} {B = ℕ × ℤ} (λ x. (x.0, neg_ℤ x.1)) (q i));
}

pub ruleset differences = (number-difference)

-- a form without entries is a number
pub is-number : (f : Linear) (d : ℤ) → f.constant ≡ d → f.entries ≡ [] → f ≡ number d
is-number f d e p = λ i. record { constant = e i; entries = p i }

-- no change replaces anything of a number
replaced-number : (ps : List (ℕ × Linear)) (f : Linear) → f.entries ≡ [] → replaced ps f ≡ Some f
replaced-number ps f p =
    (λ i. with_listed ps (p i) (record { constant = f.constant; entries = kept_entries ps (p i) }))
    ∙ (λ i. Some (record { constant = f.constant; entries = sym p i }))

-- a small number fits
fitting-number : (d : ℤ) → IsTrue (is_small d) → fitting (number d) ≡ Some (number d)
unfolding fitting
fitting-number d s = ap (λ (b : Bool). if (b && true) then Some (number d) else None) s

-- of numbers, the row of the difference says that the first falls to the second
pub number-falls : (m : PlainMode) (f g : Linear) (d : ℤ) → f.entries ≡ [] → g.entries ≡ [] → d ≡ g.constant +ℤ neg_ℤ f.constant → IsTrue (is_small d)
    → falls_to m (f, g) ≡ row (number d)
number-falls m f g d p q e s =
    ap (λ (o : Option Linear). unwrap_or (option_map (at_least g) o) (truth_value false)) (replaced-number m.change.numbers f p)
    ∙ (ap (λ (h : Linear). unwrap_or (option_map row (fitting h)) (truth_value false)) (number-difference g f d q p e)
    ∙ ap (λ (o : Option Linear). unwrap_or (option_map row o) (truth_value false)) (fitting-number d s))

pub ruleset falls = (is-number, number-falls)
