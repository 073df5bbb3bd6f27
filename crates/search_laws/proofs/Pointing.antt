-- At the trial point every line holds.
use Rattle.std.proofs.Common.{◌≡◌, ℕ, zero, suc, ◌≤◌, Bool, true, false, cond, Option, Some, None, List, [], ◌∷◌, length, refl, ap, subst, arith, inl, inr, ℤ, pos, negsuc, ◌+ℤ◌, ◌*ℤ◌, ◌≤ℤ◌}
use Rattle.std.specs.Prelude.{option_and_then, ◌==◌, if◌then◌else◌, int_le, replicate}
use Rattle.std.proofs.lemmas.Int.{ints}
use Rattle.std.proofs.lemmas.Bool.{cases_eq, and_parts}
use Rattle.std.proofs.lemmas.Bool.Decides.{nat_tests}
use Rattle.st_linear.specs.Linear.{value, entries_value, narrow, is_wide, is_zero, valuation}
use Rattle.st_linear.specs.declared.rows.Line.{Line}
use Rattle.st_linear.proofs.Replacing.{bind-some}
use Rattle.elimination_laws.specs.Stages.{Use}
use Rattle.basic_laws.proofs.Integers.{times_zero}
use Rattle.farkas_leaf.specs.Lines.{HoldsBy, Holds, AllHold}
use Rattle.elimination_laws.specs.Points.{evaluated_but, rest_value, meets, meets_if, holds_at, all_hold_at, if_all_hold, point_of, pointed}
use Rattle.basic_laws.proofs.Integers.{by_test, held, least-is}
use Rattle.elimination_laws.proofs.Keeping.{zero-is}

narrow-is : (z r : ℤ) → narrow z ≡ Some r → z ≡ r
narrow-is z r h = by_test (is_wide z) z r h

past : (values : List ℤ) (v : ℕ) → length values ≤ v → valuation values v ≡ pos 0
past [] v h = refl
past (x ∷ xs) zero h = absurd (omega arith)
past (x ∷ xs) (suc v) h = past xs v (omega arith)

evaluated-is : (v : ℕ) (values : List ℤ) → length values ≤ v → (es : List (ℕ × ℤ)) (z r : ℤ) → evaluated_but v values es z ≡ Some r → r ≡ z +ℤ entries_value (valuation values) es
evaluated-is v values h [] z r k = let e : z ≡ r = cc in omega (arith, ints, e)
evaluated-is v values h (e ∷ es) z r k =
    elim (cases_eq e.0 v) [
      | inl same ↦ let t : (e.0 == v) ≡ true = grind (arith, nat_tests) in
          let i = evaluated-is v values h es z r (rw t at k) in
          let none : valuation values e.0 ≡ pos 0 = past values e.0 (omega arith) in
          omega (arith, ints, i, ap (λ x. e.1 *ℤ x) none, times_zero e.1)
      | inr other ↦ let t : (e.0 == v) ≡ false = grind (arith, nat_tests) in
          let p = bind-some (λ p. option_and_then (evaluated_but v values es) (narrow (z +ℤ p))) (narrow (e.1 *ℤ valuation values e.0)) r (rw t at k) in
          let q = bind-some (evaluated_but v values es) (narrow (z +ℤ p.0)) r p.2 in
          omega (arith, ints, narrow-is _ _ p.1, narrow-is _ _ q.1, evaluated-is v values h es q.0 r q.2)
    ]

meets-by : (b : Bool) (z : ℤ) → meets b z ≡ true → HoldsBy b z
meets-by true z h = zero-is z h
meets-by false z h = least-is z h

meets-some : (b : Bool) (o : Option ℤ) → meets_if b o ≡ true → (z : ℤ) × (o ≡ Some z) × (meets b z ≡ true)
meets-some b None h = absurd (cc)
meets-some b (Some z) h = (z, refl, h)

line-holds : (values : List ℤ) (l : Line) → holds_at values l ≡ true → Holds (valuation values) l
line-holds values l h =
    let m = meets-some l.equal (rest_value (length values) values l.form) h in
    let p = bind-some (evaluated_but (length values) values l.form.entries) (narrow l.form.constant) m.0 m.1 in
    let c = narrow-is l.form.constant p.0 p.1 in
    let e = evaluated-is (length values) values (omega arith) l.form.entries p.0 m.0 p.2 in
    let s : m.0 ≡ value (valuation values) l.form = omega (arith, ints, c, e) in
    subst (HoldsBy l.equal) s (meets-by l.equal m.0 m.2)

all-hold : (values : List ℤ) (ls : List Line) → all_hold_at values ls ≡ true → AllHold (valuation values) ls
all-hold values [] h = tt
all-hold values (l ∷ ls) h = let b = and_parts (holds_at values l) (all_hold_at values ls) h in (line-holds values l b.0, all-hold values ls b.1)

pub point-holds : (lines : List Line) (n : ℕ) (us : List Use) (point : List ℤ) → point_of lines n us ≡ Some point → AllHold (valuation point) lines
point-holds lines n us point h =
    let p = bind-some (if_all_hold lines) (pointed 0 us (replicate n (pos 0))) point h in
    let t = held (all_hold_at p.0 lines) p.0 point p.2 in
    subst (λ (vs : List ℤ). AllHold (valuation vs) lines) t.1 (all-hold p.0 lines t.0)
