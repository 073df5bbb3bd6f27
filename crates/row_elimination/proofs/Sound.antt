use Rattle.std.proofs.Common.{◌≡◌, ℕ, zero, suc, ◌+◌, ◌≤◌, Bool, true, false, cond, Option, Some, None, List, [], ◌∷◌, map, length, refl, ap, sym, subst, ◌∙◌, arith, inl, inr, ℤ, pos, negsuc, ◌+ℤ◌, ◌*ℤ◌, ◌≤ℤ◌}
use Rattle.std.specs.Prelude.{option_and_then, slice_index_or, ◌&&◌, ◌==◌, if◌then◌else◌, int_le, Vec, Result, Ok, Err, IfOk, replicate}
use Rattle.std.specs.Option.{option_map}
use Rattle.std.specs.Global.{Global}
use Rattle.std.proofs.lemmas.Int.{ints}
use Rattle.std.proofs.lemmas.Bool.{cases_eq}
use Rattle.std.proofs.lemmas.Bool.Decides.{nat_tests}
use Rattle.st_linear.specs.Linear.{value, entries_value, narrow, is_wide}
use Rattle.st_linear.specs.declared.rows.Line.{Line}
use Rattle.elimination_laws.specs.Mixing.{Tracked}
use Rattle.st_linear.specs.Linear.{is_zero}
use Rattle.elimination_laws.specs.Stages.{sifted, made, use_of, Use, at_variable, at_rows, Ending, through, too_wide, with_use, then_stages, stages, tracked, ending}
use Rattle.farkas_leaf.specs.Lines.{HoldsBy, Holds, AllHold}
use Rattle.elimination_laws.specs.Laws.{AreProper}
use Rattle.elimination_laws.proofs.Refuting.{after, used}
use Rattle.farkas_leaf.proofs.Laws.{lines_no_solution}
use Rattle.elimination_laws.proofs.Clashing.{contradiction-closes, contradiction-limited}
use Rattle.elimination_laws.proofs.Mixes.{and_then-some}
use Rattle.basic_laws.proofs.Integers.{times_zero}
use Rattle.row_elimination.specs.declared.top.Elimination.{Elimination}
use Rattle.st_memory.specs.declared.Memory.{Memory}
use Rattle.row_elimination.specs.declared.top.Stop.{Stop}
use Rattle.row_elimination.specs.declared.top.Stop.TheVariants as stop
use Rattle.row_elimination.specs.Runs.{Stops}
use Rattle.elimination_laws.specs.Points.{evaluated_but, rest_value, meets, meets_if, holds_at, all_hold_at, if_all_hold, point_of, pointed}
use Rattle.row_elimination.specs.Eliminations.{IsElimination, IsSound, HoldAt, StopGives}
use Rattle.basic_laws.proofs.Integers.{by_test, held, least-is}
use Rattle.elimination_laws.proofs.Keeping.{zero-is}
use Rattle.elimination_laws.proofs.Refuting.{from-test}

pub stop-exact : (s : Stop) (r : Result Elimination Memory) (lines : List Line) (n : ℕ) → Stops s (ending lines n) → StopGives s r → IfOk r (λ e. IsElimination lines n e)
stop-exact (stop.Clash ps) r lines n h k = subst (λ r. IfOk r (λ e. IsElimination lines n e)) (sym k) h
stop-exact (stop.Wide w) r lines n h k = subst (λ r. IfOk r (λ e. IsElimination lines n e)) (sym k) h
stop-exact stop.Memory (Ok e) lines n h k = absurd k
stop-exact stop.Memory (Err e) lines n h k = tt

pub stop-sound : (s : Stop) (r : Result Elimination Memory) (lines : List Line) (n : ℕ) → AreProper n lines → Stops s (ending lines n) → StopGives s r → IfOk r (λ e. IsSound lines e)
stop-sound (stop.Clash ps) r lines n p h k =
    let c = contradiction-closes lines n ps.items p h in
    subst (λ r. IfOk r (λ e. IsSound lines e)) (sym k) (c, contradiction-limited lines n ps.items p h, lines_no_solution lines ps.items c)
stop-sound (stop.Wide w) r lines n p h k = subst (λ r. IfOk r (λ e. IsSound lines e)) (sym k) tt
stop-sound stop.Memory (Ok e) lines n p h k = absurd k
stop-sound stop.Memory (Err e) lines n p h k = tt

-- as many uses as variables
through-is : (xs ys : List Use) → through xs ≡ through ys → xs ≡ ys
through-is xs ys h = cc

stages-length : (n v : ℕ) (ts : List Tracked) (us : List Use) → stages n v ts ≡ through us → length us ≡ n
stages-length zero v ts us h = let e : [] ≡ us = cc in ap length (sym e)
stages-length (suc n) v ts us h =
    let a = after (at_variable v) (sifted (made v ts) 4096) (λ rest. with_use (use_of v ts) (stages n (v + 1) rest)) us h in
    let b = used (use_of v ts) (stages n (v + 1) a.0) us a.2 in
    let r = stages-length n (v + 1) a.0 b.0 b.1 in
    let e : use_of v ts ∷ b.0 ≡ us = through-is _ us (sym (ap (with_use (use_of v ts)) b.1) ∙ a.2) in
    omega (arith, ap length (sym e), r)

pub uses-length : (lines : List Line) (n : ℕ) (us : List Use) → ending lines n ≡ through us → length us ≡ n
uses-length lines n us h =
    let i = from-test _ (then_stages at_rows (sifted (map Some (tracked 0 lines)) 4096) (stages n 0)) us h in
    let a = after at_rows (sifted (map Some (tracked 0 lines)) 4096) (stages n 0) us i in
    stages-length n 0 a.0 us a.2

narrow-is : (z r : ℤ) → narrow z ≡ Some r → z ≡ r
narrow-is z r h = by_test (is_wide z) z r h

past : (values : List ℤ) (k : ℕ) → length values ≤ k → slice_index_or values k (pos 0) ≡ pos 0
past [] k h = refl
past (x ∷ xs) zero h = absurd (omega arith)
past (x ∷ xs) (suc k) h = past xs k (omega arith)

abbrev At : List ℤ → ℕ → ℤ
At values k = slice_index_or values k (pos 0)

evaluated-is : (v : ℕ) (values : List ℤ) → length values ≤ v → (es : List (ℕ × ℤ)) (z r : ℤ) → evaluated_but v values es z ≡ Some r → r ≡ z +ℤ entries_value (At values) es
evaluated-is v values h [] z r k = let e : z ≡ r = cc in omega (arith, ints, e)
evaluated-is v values h (e ∷ es) z r k =
    elim (cases_eq e.0 v) [
      | inl same ↦ let t : (e.0 == v) ≡ true = grind (arith, nat_tests) in
          let i = evaluated-is v values h es z r (rw t at k) in
          let none : At values e.0 ≡ pos 0 = past values e.0 (omega arith) in
          omega (arith, ints, i, ap (λ x. e.1 *ℤ x) none, times_zero e.1)
      | inr other ↦ let t : (e.0 == v) ≡ false = grind (arith, nat_tests) in
          let p = and_then-some (λ p. option_and_then (evaluated_but v values es) (narrow (z +ℤ p))) (narrow (e.1 *ℤ At values e.0)) r (rw t at k) in
          let q = and_then-some (evaluated_but v values es) (narrow (z +ℤ p.0)) r p.2 in
          omega (arith, ints, narrow-is _ _ p.1, narrow-is _ _ q.1, evaluated-is v values h es q.0 r q.2)
    ]

meets-by : (b : Bool) (z : ℤ) → meets b z ≡ true → HoldsBy b z
meets-by true z h = zero-is z h
meets-by false z h = least-is z h

meets-some : (b : Bool) (o : Option ℤ) → meets_if b o ≡ true → (z : ℤ) × (o ≡ Some z) × (meets b z ≡ true)
meets-some b None h = absurd (cc)
meets-some b (Some z) h = (z, refl, h)

line-holds : (values : List ℤ) (l : Line) → holds_at values l ≡ true → Holds (At values) l
line-holds values l h =
    let m = meets-some l.equal (rest_value (length values) values l.form) h in
    let p = and_then-some (evaluated_but (length values) values l.form.entries) (narrow l.form.constant) m.0 m.1 in
    let c = narrow-is l.form.constant p.0 p.1 in
    let e = evaluated-is (length values) values (omega arith) l.form.entries p.0 m.0 p.2 in
    let s : m.0 ≡ value (At values) l.form = omega (arith, ints, c, e) in
    subst (HoldsBy l.equal) s (meets-by l.equal m.0 m.2)

and-both : (b c : Bool) → b && c ≡ true → (b ≡ true) × (c ≡ true)
and-both true c h = (refl, h)
and-both false c h = absurd (cc)

all-hold : (values : List ℤ) (ls : List Line) → all_hold_at values ls ≡ true → AllHold (At values) ls
all-hold values [] h = tt
all-hold values (l ∷ ls) h = let b = and-both (holds_at values l) (all_hold_at values ls) h in (line-holds values l b.0, all-hold values ls b.1)

pub point-holds : (lines : List Line) (n : ℕ) (us : List Use) (o : Option (Vec ℤ Global)) → option_map (λ v. v.items) o ≡ point_of lines n us → HoldAt lines o
point-holds lines n us None h = tt
point-holds lines n us (Some v) h =
    let p = and_then-some (if_all_hold lines) (pointed 0 us (replicate n (pos 0))) v.items (sym h) in
    let t = held (all_hold_at p.0 lines) p.0 v.items p.2 in
    subst (λ vs. AllHold (At vs) lines) t.1 (all-hold p.0 lines t.0)
