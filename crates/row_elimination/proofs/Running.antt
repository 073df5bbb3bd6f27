use Rattle.std.proofs.Common.{◌≡◌, ℕ, zero, suc, ◌+◌, ◌-◌, ◌<◌, ◌≤◌, true, false, Some, List, [], ◌∷◌, ◌++◌, map, length, refl, ap, sym, subst, ◌∙◌, arith, ℤ}
use Rattle.std.specs.Prelude.{nat_lt}
use Rattle.std.proofs.lemmas.Bool.Decides.{nat_tests}
use Rattle.st_linear.specs.declared.rows.Line.{Line}
use Rattle.elimination_laws.specs.Mixing.{Tracked}
use Rattle.elimination_laws.specs.Stages.{Sifted, list, clash, wide, sifted, made, use_of, Use, Stop, at_variable, at_rows, Ending, through, contradiction, too_wide, with_use, then_stages, stages, tracked, ending}
use Rattle.row_elimination.specs.declared.halt.Halt.{Halt}
use Rattle.row_elimination.specs.declared.halt.Halt.TheVariants as halt
use Rattle.row_elimination.specs.declared.stage.Used.{Used}
use Rattle.row_elimination.specs.declared.top.Stop as stop
use Rattle.elimination_laws.specs.declared.stage.WideStage.TheVariants.{Rows, Variable}
use Rattle.row_elimination.specs.Places.{use_plain, Halts, sift_from}
use Rattle.row_elimination.specs.Runs.{IsStop, Stops, uses_plain, with_uses}
use Rattle.row_elimination.proofs.Sifting.{sift-all}
use Rattle.basic_laws.proofs.Numbers.{one-more}

stages-suc : (k v : ℕ) (ts new : List Tracked) → sifted (made v ts) 4096 ≡ list new → stages (suc k) v ts ≡ with_use (use_of v ts) (stages k (v + 1) new)
stages-suc k v ts new h = ap (λ s. then_stages (at_variable v) s (λ rest. with_use (use_of v ts) (stages k (v + 1) rest))) h

stages-ok : (n v : ℕ) (ts new : List Tracked) (u : Use) → v < n → sifted (made v ts) 4096 ≡ list new → u ≡ use_of v ts → stages (n - v) v ts ≡ with_use u (stages (n - (v + 1)) (v + 1) new)
stages-ok n v ts new u h k e = ap (λ m. stages m v ts) (one-more n v h) ∙ stages-suc (n - (v + 1)) v ts new k ∙ ap (λ u. with_use u (stages (n - (v + 1)) (v + 1) new)) (sym e)

with_uses-push : (us : List Used) (u : Used) (e : Ending) → with_uses (uses_plain (us ++ u ∷ [])) e ≡ with_uses (uses_plain us) (with_use (use_plain u) e)
with_uses-push [] u e = refl
with_uses-push (x ∷ xs) u e = ap (with_use (use_plain x)) (with_uses-push xs u e)

pub all-step : (n v : ℕ) (us : List Used) (u : Used) (ts new : List Tracked) (whole : Ending) → v < n → sifted (made v ts) 4096 ≡ list new → use_plain u ≡ use_of v ts → with_uses (uses_plain us) (stages (n - v) v ts) ≡ whole → with_uses (uses_plain (us ++ u ∷ [])) (stages (n - (v + 1)) (v + 1) new) ≡ whole
all-step n v us u ts new whole h k e w =
    with_uses-push us u (stages (n - (v + 1)) (v + 1) new) ∙ sym (ap (with_uses (uses_plain us)) (stages-ok n v ts new (use_plain u) h k e)) ∙ w

uses-clash : (us : List Use) (ps : List (ℕ × ℤ)) → with_uses us (contradiction ps) ≡ contradiction ps
uses-clash [] ps = refl
uses-clash (u ∷ us) ps = ap (with_use u) (uses-clash us ps)

uses-wide : (us : List Use) (s : Stop) → with_uses us (too_wide s) ≡ too_wide s
uses-wide [] s = refl
uses-wide (u ∷ us) s = ap (with_use u) (uses-wide us s)

uses-end : (us : List Used) → with_uses (uses_plain us) (through []) ≡ through (uses_plain us)
uses-end [] = refl
uses-end (u ∷ us) = ap (with_use (use_plain u)) (uses-end us)

halted : (n v : ℕ) (ts : List Tracked) (s : Sifted) → v < n → sifted (made v ts) 4096 ≡ s → stages (n - v) v ts ≡ then_stages (at_variable v) s (λ rest. with_use (use_of v ts) (stages (n - (v + 1)) (v + 1) rest))
halted n v ts s h k = ap (λ m. stages m v ts) (one-more n v h) ∙ ap (λ s. then_stages (at_variable v) s (λ rest. with_use (use_of v ts) (stages (n - (v + 1)) (v + 1) rest))) k

pub all-err : (h : Halt) (r : stop.Stop) (n v : ℕ) (us : List Use) (ts : List Tracked) (whole : Ending) → v < n → IsStop h (Variable v) r → Halts h (sifted (made v ts) 4096) → with_uses us (stages (n - v) v ts) ≡ whole → Stops r whole
all-err (halt.Clash ps) r n v us ts whole i j k w =
    subst (λ r. Stops r whole) (sym j) (sym w ∙ ap (with_uses us) (halted n v ts (clash ps.items) i k) ∙ uses-clash us ps.items)
all-err halt.Wide r n v us ts whole i j k w =
    subst (λ r. Stops r whole) (sym j) (sym w ∙ ap (with_uses us) (halted n v ts wide i k) ∙ uses-wide us (at_variable v))
all-err halt.Memory r n v us ts whole i j k w = subst (λ r. Stops r whole) (sym j) tt

none-left : (n v : ℕ) → n ≤ v → n - v ≡ zero
none-left n v h = omega arith

pub all-end : (n v : ℕ) (us : List Used) (ts : List Tracked) (whole : Ending) → n ≤ v → with_uses (uses_plain us) (stages (n - v) v ts) ≡ whole → whole ≡ through (uses_plain us)
all-end n v us ts whole h w = sym w ∙ ap (λ m. with_uses (uses_plain us) (stages m v ts)) (none-left n v h) ∙ uses-end us

-- the input
few : (lines : List Line) (n : ℕ) → length lines ≤ 4096 → ending lines n ≡ then_stages at_rows (sifted (map Some (tracked 0 lines)) 4096) (stages n 0)
few lines n h = let t : nat_lt 4096 (length lines) ≡ false = grind (arith, nat_tests) in rw t refl

pub many : (lines : List Line) (n : ℕ) → 4096 < length lines → ending lines n ≡ too_wide at_rows
many lines n h = let t : nat_lt 4096 (length lines) ≡ true = grind (arith, nat_tests) in rw t refl

pub ending-ok : (lines : List Line) (n : ℕ) (new : List Tracked) → length lines ≤ 4096 → sift_from [] (map Some (tracked 0 lines)) ≡ list new → stages n 0 new ≡ ending lines n
ending-ok lines n new h k = sym (few lines n h ∙ ap (λ s. then_stages at_rows s (stages n 0)) (sym (sift-all (map Some (tracked 0 lines))) ∙ k))

pub ending-err : (h : Halt) (r : stop.Stop) (lines : List Line) (n : ℕ) → length lines ≤ 4096 → IsStop h Rows r → Halts h (sift_from [] (map Some (tracked 0 lines))) → Stops r (ending lines n)
ending-err (halt.Clash ps) r lines n i j k = subst (λ r. Stops r (ending lines n)) (sym j) (few lines n i ∙ ap (λ s. then_stages at_rows s (stages n 0)) (sym (sift-all (map Some (tracked 0 lines))) ∙ k))
ending-err halt.Wide r lines n i j k = subst (λ r. Stops r (ending lines n)) (sym j) (few lines n i ∙ ap (λ s. then_stages at_rows s (stages n 0)) (sym (sift-all (map Some (tracked 0 lines))) ∙ k))
ending-err halt.Memory r lines n i j k = subst (λ r. Stops r (ending lines n)) (sym j) tt
