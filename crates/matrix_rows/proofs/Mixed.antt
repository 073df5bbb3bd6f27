-- Mixed entries as sums of multiples of forms without a constant.
use Rattle.std.proofs.Common.{◌≡◌, ◌^◌, ℕ, ◌<◌, Bool, true, false, ◌&&◌, Option, Some, None, List, map, refl, sym, ap, ◌∙◌, arith, ℤ, pos, ◌+ℤ◌, ◌*ℤ◌, rules}
use Rattle.std.specs.Prelude.{option_and_then, if◌then◌else◌, Result, Ok, Err, IfOk}
use Rattle.std.specs.Int.{int_div_euclid}
use Rattle.std.proofs.Math.IntN.{zero-*ℤ}
use Rattle.std.proofs.lemmas.Int.{ints}
use Rattle.st_linear.specs.Linear.{Linear, is_small, are_small, fits, fitting, scaled, scaled_entries, sum_of, joined, is_within, entries_within}
use Rattle.st_linear.specs.Simple.{divided, common_divisor}
use Rattle.st_linear.specs.Answers.{Gives}
use Rattle.st_linear.specs.declared.faults.LinFault.{LinFault}
use Rattle.st_memory.specs.declared.Memory.{Memory}
use Rattle.st_linear.proofs.Answering.{Fails-whole}
use Rattle.st_linear.proofs.Dividing.{divided-one}
use Rattle.st_linear.proofs.Withins.{entries_within-is}
use Rattle.elimination_laws.specs.Mixing.{mixed_entries}
use Rattle.null_laws.specs.Reduction.{primitive}
use Rattle.matrix_rows.proofs.Kept.{zero-within}

-- a form without a constant fits where its entries do
fits-entries : (f : Linear) → f.constant ≡ pos 0 → fits f ≡ are_small f.entries
fits-entries f h = ap (λ z. is_small z && are_small f.entries) h ∙ ap (λ b. b && are_small f.entries) zero-within

fitting-entries : (f r : Linear) → f.constant ≡ pos 0 → fitting f ≡ Some r → (entries_within (2 ^ 100) f.entries ≡ Some r.entries) × (r.constant ≡ pos 0)
unfolding fitting
fitting-entries f r h e = by_test (fits f) refl e
  where
    by_test : (b : Bool) → fits f ≡ b → (if b then Some f else None) ≡ Some r → (entries_within (2 ^ 100) f.entries ≡ Some r.entries) × (r.constant ≡ pos 0)
    by_test true i e =
        let s : f ≡ r = cc in
        let k : are_small f.entries ≡ true = sym (fits-entries f h) ∙ i in
        (entries_within-is (2 ^ 100) f.entries f.entries refl k ∙ ap (λ (r : Linear). Some r.entries) s, sym (ap (λ (r : Linear). r.constant) s) ∙ h)
    by_test false i e = absurd (cc)

none-within : (es : List (ℕ × ℤ)) → are_small es ≡ false → entries_within (2 ^ 100) es ≡ None
unfolding entries_within
none-within es h = rw h refl

fitting-out : (f : Linear) → f.constant ≡ pos 0 → fitting f ≡ None → entries_within (2 ^ 100) f.entries ≡ None
unfolding fitting
fitting-out f h e = by_test (fits f) refl e
  where
    by_test : (b : Bool) → fits f ≡ b → (if b then Some f else None) ≡ None → entries_within (2 ^ 100) f.entries ≡ None
    by_test true i e = absurd (cc)
    by_test false i e = none-within f.entries (sym (fits-entries f h) ∙ i)

scaled-constant : (x : ℤ) (f : Linear) → f.constant ≡ pos 0 → (scaled x f).constant ≡ pos 0
scaled-constant x f h = ap (λ z. z *ℤ x) h ∙ zero-*ℤ x

abbrev second : Option (List (ℕ × ℤ)) → Option (List (ℕ × ℤ)) → Option (List (ℕ × ℤ))
second o p = option_and_then (λ ps. option_and_then (λ qs. entries_within (2 ^ 100) (joined ps qs)) p) o

mixed-parts : (x : ℤ) (xs : List (ℕ × ℤ)) (y : ℤ) (ys : List (ℕ × ℤ)) → mixed_entries (2 ^ 100) x xs y ys ≡ second (entries_within (2 ^ 100) (scaled_entries x xs)) (entries_within (2 ^ 100) (scaled_entries y ys))
unfolding mixed_entries
mixed-parts x xs y ys = refl

pub no_first : (x : ℤ) (f : Linear) (y : ℤ) (g : Linear) → f.constant ≡ pos 0 → fitting (scaled x f) ≡ None → mixed_entries (2 ^ 100) x f.entries y g.entries ≡ None
no_first x f y g h e = mixed-parts x f.entries y g.entries ∙ ap (λ o. second o (entries_within (2 ^ 100) (scaled_entries y g.entries))) (fitting-out (scaled x f) (scaled-constant x f h) e)

pub no_second : (x : ℤ) (f : Linear) (y : ℤ) (g r : Linear) → f.constant ≡ pos 0 → g.constant ≡ pos 0 → fitting (scaled x f) ≡ Some r → fitting (scaled y g) ≡ None → mixed_entries (2 ^ 100) x f.entries y g.entries ≡ None
no_second x f y g r h k d e =
    let p = fitting-entries (scaled x f) r (scaled-constant x f h) d in
    mixed-parts x f.entries y g.entries
    ∙ ap (λ o. second o (entries_within (2 ^ 100) (scaled_entries y g.entries))) p.0
    ∙ ap (second (Some r.entries)) (fitting-out (scaled y g) (scaled-constant y g k) e)

-- both products are there: what is left is their sum
both-there : (x : ℤ) (f : Linear) (y : ℤ) (g r s : Linear) → f.constant ≡ pos 0 → g.constant ≡ pos 0 → fitting (scaled x f) ≡ Some r → fitting (scaled y g) ≡ Some s → mixed_entries (2 ^ 100) x f.entries y g.entries ≡ entries_within (2 ^ 100) (joined r.entries s.entries)
both-there x f y g r s h k d e =
    let p = fitting-entries (scaled x f) r (scaled-constant x f h) d in
    let q = fitting-entries (scaled y g) s (scaled-constant y g k) e in
    mixed-parts x f.entries y g.entries
    ∙ ap (λ o. second o (entries_within (2 ^ 100) (scaled_entries y g.entries))) p.0
    ∙ ap (second (Some r.entries)) q.0

sum-constant : (x : ℤ) (f : Linear) (y : ℤ) (g r s : Linear) → f.constant ≡ pos 0 → g.constant ≡ pos 0 → fitting (scaled x f) ≡ Some r → fitting (scaled y g) ≡ Some s → (sum_of r s).constant ≡ pos 0
sum-constant x f y g r s h k d e =
    let p = fitting-entries (scaled x f) r (scaled-constant x f h) d in
    let q = fitting-entries (scaled y g) s (scaled-constant y g k) e in
    omega (arith, ints, p.1, q.1)

pub no_sum : (x : ℤ) (f : Linear) (y : ℤ) (g r s : Linear) → f.constant ≡ pos 0 → g.constant ≡ pos 0 → fitting (scaled x f) ≡ Some r → fitting (scaled y g) ≡ Some s → fitting (sum_of r s) ≡ None → mixed_entries (2 ^ 100) x f.entries y g.entries ≡ None
no_sum x f y g r s h k d e n = both-there x f y g r s h k d e ∙ fitting-out (sum_of r s) (sum-constant x f y g r s h k d e) n

pub whole_sum : (x : ℤ) (f : Linear) (y : ℤ) (g r s t : Linear) → f.constant ≡ pos 0 → g.constant ≡ pos 0 → fitting (scaled x f) ≡ Some r → fitting (scaled y g) ≡ Some s → fitting (sum_of r s) ≡ Some t → (mixed_entries (2 ^ 100) x f.entries y g.entries ≡ Some t.entries) × (t.constant ≡ pos 0)
whole_sum x f y g r s t h k d e n =
    let w = fitting-entries (sum_of r s) t (sum-constant x f y g r s h k d e) n in
    (both-there x f y g r s h k d e ∙ w.0, w.1)

-- what is answered for the sum
pub gives-sum : (x : ℤ) (f : Linear) (y : ℤ) (g r s : Linear) (o : Result Linear LinFault) → f.constant ≡ pos 0 → g.constant ≡ pos 0 → fitting (scaled x f) ≡ Some r → fitting (scaled y g) ≡ Some s → Gives (λ f. f) o (fitting (sum_of r s)) → Gives (λ (f : Linear). f.entries) o (mixed_entries (2 ^ 100) x f.entries y g.entries)
gives-sum x f y g r s (Ok t) h k d e n = (whole_sum x f y g r s t h k d e n).0
gives-sum x f y g r s (Err fault) h k d e n = Fails-whole fault _ _ (λ n. no_sum x f y g r s h k d e n) n

pub sum-without : (x : ℤ) (f : Linear) (y : ℤ) (g r s : Linear) (o : Result Linear LinFault) → f.constant ≡ pos 0 → g.constant ≡ pos 0 → fitting (scaled x f) ≡ Some r → fitting (scaled y g) ≡ Some s → Gives (λ f. f) o (fitting (sum_of r s)) → IfOk o (λ (f : Linear). f.constant ≡ pos 0)
sum-without x f y g r s (Ok t) h k d e n = (whole_sum x f y g r s t h k d e n).1
sum-without x f y g r s (Err fault) h k d e n = tt

-- divided
pub primitive-one : (f : Linear) (d : ℕ) → d ≡ common_divisor f.entries → d ≡ 1 → f.entries ≡ primitive f.entries
primitive-one f d e h = sym (ap (λ (d : ℕ). map (λ e. (e.0, int_div_euclid e.1 (pos d))) f.entries) (sym e ∙ h) ∙ ap (λ g. g.entries) (divided-one f))

pub gives-primitive : (f : Linear) (d : ℕ) (o : Result Linear Memory) → d ≡ common_divisor f.entries → IfOk o (λ g. g ≡ divided d f) → IfOk o (λ (g : Linear). g.entries ≡ primitive f.entries)
gives-primitive f d (Ok g) e h = ap (λ (g : Linear). g.entries) h ∙ ap (λ (d : ℕ). map (λ e. (e.0, int_div_euclid e.1 (pos d))) f.entries) e
gives-primitive f d (Err m) e h = tt
