-- Decisions that agree on each literal of a formula simplify it to the same. And what is so of everything is so of literals.
use Rattle.std.proofs.Common.{◌≡◌, ℕ, Bool, refl, ap, ◌∙◌, Option, Some, None}
use Rattle.std.specs.Prelude.{not}
use Rattle.st_form.specs.Formula.{Formula, Formulas, truth_value, row, equal, bool_var, at, negation, every, some, none, more}
use Rattle.st_form.specs.Simple.{Decided, gathered, joined_parts, literal, simple, simples}
use Rattle.search_laws.specs.Ends.{AllLiterals, AllLiteralsOf, IfLiterals}

abbrev pub AreSame : (ℕ → Option Bool) → (ℕ → Option Bool) → ℕ → Type 0
AreSame d e i = d i ≡ e i

mutual
  same-simple : (d e : Decided) (f : Formula) (plus : Bool) → AllLiterals (AreSame d.places e.places) (AreSame d.truths e.truths) f → simple d f plus ≡ simple e f plus
  same-simple d e (truth_value b) plus h = refl
  same-simple d e (row f) plus h = refl
  same-simple d e (equal f) plus h = refl
  same-simple d e (bool_var v) plus h = ap (literal plus (bool_var v)) h
  same-simple d e (at l) plus h = ap (literal plus (at l)) h
  same-simple d e (negation f) plus h = same-simple d e f (not plus) h
  same-simple d e (every fs) plus h = ap (λ gs. joined_parts plus (gathered plus gs)) (same-simples d e fs plus h)
  same-simple d e (some fs) plus h = ap (λ gs. joined_parts (not plus) (gathered (not plus) gs)) (same-simples d e fs plus h)

  pub same-simples : (d e : Decided) (fs : Formulas) (plus : Bool) → AllLiteralsOf (AreSame d.places e.places) (AreSame d.truths e.truths) fs → simples d fs plus ≡ simples e fs plus
  same-simples d e none plus h = refl
  same-simples d e (more f fs) plus h =
      ap (λ g. more g (simples d fs plus)) (same-simple d e f plus h.0) ∙ ap (more (simple e f plus)) (same-simples d e fs plus h.1)

mutual
  any-literals : (L T : ℕ → Type 0) → ((l : ℕ) → L l) → ((v : ℕ) → T v) → (f : Formula) → AllLiterals L T f
  any-literals L T g k (truth_value b) = tt
  any-literals L T g k (row f) = tt
  any-literals L T g k (equal f) = tt
  any-literals L T g k (bool_var v) = k v
  any-literals L T g k (at l) = g l
  any-literals L T g k (negation f) = any-literals L T g k f
  any-literals L T g k (every fs) = any-literals-of L T g k fs
  any-literals L T g k (some fs) = any-literals-of L T g k fs

  pub any-literals-of : (L T : ℕ → Type 0) → ((l : ℕ) → L l) → ((v : ℕ) → T v) → (fs : Formulas) → AllLiteralsOf L T fs
  any-literals-of L T g k none = tt
  any-literals-of L T g k (more f fs) = (any-literals L T g k f, any-literals-of L T g k fs)

pub any-literals-if : (L T : ℕ → Type 0) → ((l : ℕ) → L l) → ((v : ℕ) → T v) → (o : Option Formulas) → IfLiterals L T o
any-literals-if L T g k None = tt
any-literals-if L T g k (Some fs) = any-literals-of L T g k fs
