-- Sums of weights stand still at the largest number of 64 bits, and the limit is far below.
use Rattle.std.proofs.Common.{◌≡◌, ℕ, ◌+◌, ◌-◌, ◌^◌, ◌≤◌, ◌<◌, nat_le, min, Bool, true, false, cond, List, [], ◌∷◌, length, Result, Ok, Err, refl, sym, ap, subst, ◌∙◌, arith}
use Rattle.std.specs.Prelude.{sum_by}
use Rattle.std.proofs.lemmas.Bool.Decides.{nat_tests}
use Rattle.std.proofs.lemmas.List.Sums.{sum_by-cons}
use Rattle.st_linear.specs.Linear.{Linear}
use Rattle.st_form.specs.Formula.{Formula, weight}
use Rattle.st_program.specs.Groups.{Link, paths_along}
use Rattle.st_tokens.specs.declared.limit.LimitKind.TheVariants as limits
use Rattle.expression_typer.specs.declared.fault.TypeFault.{TypeFault}
use Rattle.expression_typer.specs.declared.fault.TypeFault.TheVariants as faults
use Rattle.expression_typer.specs.Answers.{◌>>=◌}
use Rattle.spl_typer.specs.Groups.{Composition, Numbers, limit_unless, all_small, added, numbers_weight, formulas_weight, truths_weight, with_path, with_paths}
use Rattle.group_limits.specs.Weights.{weight_of, AreComposed, WeightsAreAdded}
use Rattle.group_limits.proofs.Paths.{ways_along_count}

-- CAPPED SUMS
low : (w t : ℕ) → w ≤ t → w ≡ min (w + 0) t
low w t h = omega (arith, h)

cap : (w n s t : ℕ) → min (min (w + n) t + s) t ≡ min (w + (n + s)) t
cap w n s t = omega arith

below_cap : (n t : ℕ) → min n t ≤ t
below_cap n t = omega arith

abbrev top : ℕ
top = 2 ^ 64 - 1

abbrev entries_in : ℕ × Linear → ℕ
entries_in x = length x.1.entries

abbrev weight_in : ℕ × Formula → ℕ
weight_in x = weight x.1

numbers_capped : (w : ℕ) (xs : Numbers) → w ≤ top → numbers_weight w xs ≡ min (w + sum_by entries_in xs) top
numbers_capped w [] h = low w top h
numbers_capped w (x ∷ xs) h =
    numbers_capped (added w (entries_in x)) xs (below_cap (w + entries_in x) top) ∙ cap w (entries_in x) (sum_by entries_in xs) top ∙ ap (λ z. min (w + z) top) (sym (sum_by-cons entries_in x xs))

formulas_capped : (w : ℕ) (fs : List Formula) → w ≤ top → formulas_weight w fs ≡ min (w + sum_by weight fs) top
formulas_capped w [] h = low w top h
formulas_capped w (f ∷ fs) h =
    formulas_capped (added w (weight f)) fs (below_cap (w + weight f) top) ∙ cap w (weight f) (sum_by weight fs) top ∙ ap (λ z. min (w + z) top) (sym (sum_by-cons weight f fs))

truths_capped : (w : ℕ) (xs : List (ℕ × Formula)) → w ≤ top → truths_weight w xs ≡ min (w + sum_by weight_in xs) top
truths_capped w [] h = low w top h
truths_capped w (x ∷ xs) h =
    truths_capped (added w (weight_in x)) xs (below_cap (w + weight_in x) top) ∙ cap w (weight_in x) (sum_by weight_in xs) top ∙ ap (λ z. min (w + z) top) (sym (sum_by-cons weight_in x xs))

three : (w a b c t : ℕ) → min (min (min (w + a) t + b) t + c) t ≡ min (w + (a + b + c)) t
three w a b c t = omega arith

is_below : (n m t : ℕ) → n ≡ min m t → n ≤ t
is_below n m t e = omega (arith, e)

path_capped : (w : ℕ) (c : Composition) → w ≤ top → with_path w c ≡ min (w + weight_of c) top
path_capped w c h =
    let f = formulas_capped w c.tests h in
    let n = numbers_capped (formulas_weight w c.tests) c.change.numbers (is_below (formulas_weight w c.tests) (w + sum_by weight c.tests) top f) in
    let t = truths_capped (numbers_weight (formulas_weight w c.tests) c.change.numbers) c.change.truths
    (is_below (numbers_weight (formulas_weight w c.tests) c.change.numbers) (formulas_weight w c.tests + sum_by entries_in c.change.numbers) top n) in
    t ∙ ap (λ z. min (z + sum_by weight_in c.change.truths) top) n ∙ ap (λ z. min (min (z + sum_by entries_in c.change.numbers) top + sum_by weight_in c.change.truths) top) f
    ∙ three w (sum_by weight c.tests) (sum_by entries_in c.change.numbers) (sum_by weight_in c.change.truths) top

paths_capped : (place : ℕ) (paths : List (List Link)) (cs : List Composition) (w : ℕ) → w ≤ top → AreComposed place paths cs → with_paths place paths w ≡ Ok (min (w + sum_by weight_of cs) top)
paths_capped place [] cs w h a = ap Ok (low w top h ∙ ap (λ (z : List Composition). min (w + sum_by weight_of z) top) (sym a))
paths_capped place (path ∷ paths) [] w h a = absurd a
paths_capped place (path ∷ paths) (c ∷ cs) w h a =
    let p = path_capped w c h in
    ap (λ (r : Result Composition TypeFault). r >>= λ d. with_paths place paths (with_path w d)) a.0
    ∙ paths_capped place paths cs (with_path w c) (is_below (with_path w c) (w + weight_of c) top p) a.1
    ∙ ap (λ z. Ok (min (z + sum_by weight_of cs) top)) p
    ∙ ap Ok (cap w (weight_of c) (sum_by weight_of cs) top ∙ ap (λ z. min (w + z) top) (sym (sum_by-cons weight_of c cs)))

-- THE LIMIT
under : (s m t : ℕ) → nat_le s m ≡ true → m < t → min s t ≡ s
under s m t e l = let h : s ≤ m = grind (arith, nat_tests) in omega (arith, h, l)

not_over : (s m t : ℕ) → nat_le s m ≡ false → m < t → true ≡ nat_le (min s t) m → ⊥
not_over s m t e l i =
    let h : m < s = grind (arith, nat_tests) in
    let k : min s t ≤ m = at_most (min s t) m i in
    omega (arith, h, k, l)
  where
    at_most : (a b : ℕ) → true ≡ nat_le a b → a ≤ b
    at_most a b f = grind (arith, nat_tests)

over : (s m t : ℕ) → nat_le s m ≡ false → m < t → nat_le (min s t) m ≡ false
over s m t e l = go (nat_le (min s t) m) refl
  where
    go : (b : Bool) → b ≡ nat_le (min s t) m → b ≡ false
    go false i = refl
    go true i = absurd (not_over s m t e l i)

judged : (s m t : ℕ) (f : TypeFault) (b : Bool) → nat_le s m ≡ b → m < t → (limit_unless (nat_le (min s t) m) f >>= λ _. Ok (min s t)) ≡ cond b (Ok s) (Err f)
judged s m t f true e l = ap (λ z. limit_unless (nat_le z m) f >>= λ _. Ok z) (under s m t e l) ∙ ap (λ c. limit_unless c f >>= λ _. Ok s) e
judged s m t f false e l = ap (λ c. limit_unless c f >>= λ _. Ok (min s t)) (over s m t e l)

few : (n m : ℕ) → n ≤ m → nat_le n m ≡ true
few n m h = grind (arith, nat_tests)

abbrev heavy : ℕ → TypeFault
heavy place = faults.Limit limits.Weight place

abbrev last : ℕ → ℕ → Result ℕ TypeFault
last place v = limit_unless (nat_le v 16777216) (heavy place) >>= λ _. Ok v

far : 16777216 < top
far = omega arith

near : (n : ℕ) → n ≤ 16777216 → n ≤ top
near n h = omega (arith, h, far)

pub weights_are_added : WeightsAreAdded
weights_are_added place xs before cs ways small composed le =
    let f : nat_le (length (paths_along xs)) 64 ≡ true = few (length (paths_along xs)) 64 (subst (λ n. n ≤ 64) (sym (ways_along_count xs)) ways) in
    ap (λ b. limit_unless b (faults.Limit limits.Paths place) >>= λ _. all_small place (paths_along xs) >>= λ _. with_paths place (paths_along xs) before >>= λ v. last place v) f
    ∙ ap (λ (r : Result (Unit {0}) TypeFault). r >>= λ _. with_paths place (paths_along xs) before >>= λ v. last place v) small
    ∙ ap (λ (r : Result ℕ TypeFault). r >>= λ v. last place v) (paths_capped place (paths_along xs) cs before (near before le) composed)
    ∙ judged (before + sum_by weight_of cs) 16777216 top (heavy place) (nat_le (before + sum_by weight_of cs) 16777216) refl far
