-- A search that passes from place to place, and keeps no certificates.
use Rattle.std.proofs.Common.{◌≡◌, ℕ, zero, suc, ◌+◌, ◌-◌, ◌<◌, ◌≤◌, true, List, [], ◌∷◌, ◌++◌, length, get_or, slice_get, Some, None, take, drop, length-append, length-take, length-drop, ap, ◌∙◌, sym, subst, arith, refl}
use Rattle.std.proofs.lemmas.List.{length-map}
use Rattle.std.proofs.lemmas.Option.{slice_get_within}
use Rattle.st_form.specs.Shared.{given_of, shown_of, plain_condition}
use Rattle.st_form.specs.declared.conditions.Condition.{Condition}
use Rattle.st_certificate.specs.Tree.{Tree}
use Rattle.farkas_check.specs.Problem.{Setting}
use Rattle.search_laws.specs.Moves.{valid, open_at, wide_at, decided}
use Rattle.search_laws.specs.Moves as moves
use Rattle.search_verdicts.specs.declared.verdict.Verdict.{Verdict}
use Rattle.linear_prover.specs.Verdicts.{is_valid}
use Rattle.discharge.specs.Searched.{mark, ValidBefore, IsFirstOpen}
use Rattle.discharge.specs.Verdicts.{IsAnswer}
use Rattle.block_laws.specs.Plain.{plains}
use Rattle.step_plan.specs.declared.stage.Stage.{Stage}
use Rattle.step_plan.specs.declared.stage.Stage.TheVariants.{On, Over}
use Rattle.step_plan.specs.Outcome.{ended_view}
use Rattle.step_run.specs.Conditions.{Posed, setting_of}
use Rattle.step_run.specs.Verified.{by_verdict, verdict_on}
use Rattle.step_run.specs.Deciding.{tree_in, found_from, FoundTo, EndsAt, Pass, PassesFrom}
use Rattle.step_run.proofs.Slices.{Come, found_on, ends_on, found_step, one_found, one_ends, in_front, behind_front, some_of}

there : (cs : List Condition) (i : ℕ) (any : Condition) → i < length cs → slice_get cs i ≡ Some (get_or cs i any)
there [] i any lt = absurd (omega (arith, lt))
there (c ∷ cs) zero any lt = refl
there (c ∷ cs) (suc i) any lt = there cs i any (omega (arith, lt))

-- the condition at a place of a slice
in_slice : (cs : List Condition) (from n i : ℕ) (any : Condition) → i < n → from + n ≤ length cs → slice_get (take n (drop from cs)) i ≡ Some (get_or cs (from + i) any)
in_slice cs from n i any lt within =
    let front = length-take n (drop from cs) in
    let rest = length-drop from cs in
    there (take n (drop from cs)) i any (omega (arith, lt, within, front, rest)) ∙ ap Some (in_front (drop from cs) n i any lt ∙ behind_front cs from i any)

found_valid : (v : moves.Verdict) → is_valid v ≡ true → (t : Tree) × (v ≡ valid t)
found_valid (valid t) h = (t, refl)
found_valid (open_at path state) h = absurd cc
found_valid (wide_at path stage) h = absurd cc

verdict_found : (k : Setting) (c : Condition) (t : Tree) → decided k (given_of c) (shown_of c) ≡ valid t → verdict_on k (plain_condition c) ≡ valid t
unfolding verdict_on
verdict_found k c t e = e

some-same : {A : Type 0} (a b : A) → Some a ≡ Some b → a ≡ b
some-same a b e = cc

-- behind a place, or at an end
abbrev past : ℕ → Stage (Unit {0}) → Stage ℕ
past place (On u) = On (place + 1)
past place (Over ended) = Over ended

module _ (x : Posed) (cs : List Condition) (are : x.conditions ≡ plains cs) where
  -- a condition whose certificate is found
  pub found_passes : (place : ℕ) (any : Condition) (t : Tree) → place < length cs → decided (setting_of x.program) (given_of (get_or cs place any)) (shown_of (get_or cs place any)) ≡ valid t → FoundTo x place (place + 1) (t ∷ [])
  found_passes place any t lt is =
      let k = setting_of x.program in
      let c = get_or cs place any in
      found_step x cs are place any lt ∙ ap (by_verdict (place + 1) (plain_condition c) (found_from x (place + 1))) (verdict_found k c t is)

  one_passes : (place : ℕ) (any : Condition) → place < length cs → mark (setting_of x.program) (get_or cs place any) ≡ true → (t : Tree) × FoundTo x place (place + 1) (t ∷ [])
  one_passes place any lt m =
      let k = setting_of x.program in
      let c = get_or cs place any in
      let f = found_valid (decided k (given_of c) (shown_of c)) m in (
        f.0,
        found_step x cs are place any lt ∙ ap (by_verdict (place + 1) (plain_condition c) (found_from x (place + 1))) (verdict_found k c f.0 f.1),
      )

  -- conditions before the n-th of a slice
  passed : (from size n : ℕ) → n ≤ size → from + size ≤ length cs → ValidBefore (setting_of x.program) (take size (drop from cs)) n → (ts : List Tree) × (length ts ≡ n) × FoundTo x from (from + n) ts
  passed from size zero le within before = ([], refl, ap (found_from x) (let e : from ≡ from + 0 = omega arith in e))
  passed from size (suc n) le within before =
      let any = some_of cs (omega (arith, le, within)) in
      let less = passed from size n (omega (arith, le)) within (λ i c lt is. before i c (omega (arith, lt)) is) in
      let m = before n (get_or cs (from + n) any) (omega arith) (in_slice cs from size n any (omega (arith, le)) within) in
      let one = one_passes (from + n) any (omega (arith, le, within)) m in
      let sum : from + n + 1 ≡ from + suc n = omega arith in
      let many = length-append less.0 (one.0 ∷ []) in
      let counted = less.1 in (
        less.0 ++ one.0 ∷ [],
        (omega (arith, many, counted)),
        subst (λ (m : ℕ). FoundTo x from m (less.0 ++ one.0 ∷ [])) sum (found_on x from (from + n) (from + n + 1) less.0 (one.0 ∷ []) less.2 one.1),
      )

  sized : length x.conditions ≡ length cs
  sized = ap length are ∙ length-map cs plain_condition

  -- none of a slice is left open
  pub all_pass : (from to : ℕ) → from < to → to ≤ length cs → IsFirstOpen (setting_of x.program) (take (to - from) (drop from cs)) None → Pass x from to
  all_pass from to order within before =
      let front = length-take (to - from) (drop from cs) in
      let rest = length-drop from cs in
      let size : length (take (to - from) (drop from cs)) ≡ to - from = omega (arith, order, within, front, rest) in
      let p = passed from (to - from) (to - from) (omega arith) (omega (arith, order, within)) (subst (ValidBefore (setting_of x.program) (take (to - from) (drop from cs))) size before) in
      let sum : from + (to - from) ≡ to = omega (arith, order) in
      let many = p.1 in
      let whole = sized in
      record {
        further = order;
        within = omega (arith, within, whole);
        trees = p.0;
        as_many = omega (arith, many, sum);
        found = subst (λ (m : ℕ). FoundTo x from m p.0) sum p.2;
      }

  -- the first open one of a slice is within it
  pub open_within : (from to opened : ℕ) → from < to → to ≤ length cs → IsFirstOpen (setting_of x.program) (take (to - from) (drop from cs)) (Some opened) → from + opened < to
  open_within from to opened order within o =
      let front = length-take (to - from) (drop from cs) in
      let rest = length-drop from cs in
      let inside = slice_get_within (take (to - from) (drop from cs)) opened o.1.condition o.1.there in
      omega (arith, order, within, front, rest, inside)

  -- those before it pass, and what comes of it comes
  pub on_from_open : (from to opened : ℕ) (s : Stage ℕ) → from < to → to ≤ length cs → IsFirstOpen (setting_of x.program) (take (to - from) (drop from cs)) (Some opened) → PassesFrom x (from + opened) s → PassesFrom x from s
  on_from_open from to opened (On next) order within o pass =
      let lt = open_within from to opened order within o in
      let p = passed from (to - from) opened (omega (arith, lt)) (omega (arith, order, within)) o.0 in
      let many = p.1 in
      let more = length-append p.0 pass.trees in
      let further = pass.further in
      let counted = pass.as_many in
      record {
        further = omega (arith, further);
        within = pass.within;
        trees = p.0 ++ pass.trees;
        as_many = omega (arith, many, more, counted);
        found = found_on x from (from + opened) next p.0 pass.trees p.2 pass.found;
      }
  on_from_open from to opened (Over ended) order within o ends =
      let lt = open_within from to opened order within o in
      let p = passed from (to - from) opened (omega (arith, lt)) (omega (arith, order, within)) o.0 in
      ends_on x from (from + opened) p.0 (ended_view ended) p.2 ends

  -- the answer to the first open one of a slice
  pub answer_of_open : (from to opened : ℕ) (v : Verdict) (any c : Condition) → from < to → to ≤ length cs → opened < to - from → slice_get (take (to - from) (drop from cs)) opened ≡ Some c
      → IsAnswer (setting_of x.program) c v → IsAnswer (setting_of x.program) (get_or cs (from + opened) any) v
  answer_of_open from to opened v any c order within lt at answer =
      subst (λ (d : Condition). IsAnswer (setting_of x.program) d v) (some-same c (get_or cs (from + opened) any) (sym at ∙ in_slice cs from (to - from) opened any lt (omega (arith, order, within)))) answer

  -- a condition passes whose verdict is that it is valid, and else the run ends there
  pub by_verdict_there : (place : ℕ) (v : Verdict) (s : Stage (Unit {0})) (any : Condition) → place < length cs → IsAnswer (setting_of x.program) (get_or cs place any) v
      → EndsAt x (place + 1) (plain_condition (get_or cs place any)) v s → PassesFrom x place (past place s)
  by_verdict_there place v (On u) any lt answer passes =
      let whole = sized in
      record {
        further = omega arith;
        within = omega (arith, lt, whole);
        trees = tree_in v ∷ [];
        as_many = refl;
        found = one_found x cs are place any v lt answer passes;
      }
  by_verdict_there place v (Over ended) any lt answer ends = one_ends x cs are place any v ended lt answer ends

pub come_past : (x : Posed) (place to : ℕ) → Come x place (λ ts. Unit {0}) → Pass x place to → Come x to (λ ts. Unit {0})
come_past x place to come pass =
    let many = length-append come.trees pass.trees in
    let before = come.as_many in
    let counted = pass.as_many in
    record {
      within = pass.within;
      trees = come.trees ++ pass.trees;
      as_many = omega (arith, many, before, counted);
      found = found_on x 0 place to come.trees pass.trees come.found pass.found;
      kept = tt;
    }
