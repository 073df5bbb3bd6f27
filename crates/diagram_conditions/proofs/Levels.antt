-- The goal's formula of a level by its place from the end.
use Rattle.std.proofs.Common.{◌≡◌, ◌∙◌, ap, sym, refl, arith, ℕ, zero, suc, ◌-◌, ◌<◌, ◌≤◌, Bool, true, false, ◌==◌, if◌then◌else◌, List, [], ◌∷◌, length, map, get_or}
use Rattle.std.proofs.lemmas.Bool.Decides.{nat_tests}
use Rattle.std.proofs.lemmas.List.{length-map}
use Rattle.st_form.specs.Formula.{Formula, truth_value}
use Rattle.st_form.specs.Plain.{plain}
use Rattle.st_form.specs.declared.formulas.Form.{Form}
use Rattle.rule_laws.specs.Diagrams.{level_goal}

choice : (b : Bool) (x y z : Formula) → (b ≡ true → x ≡ z) → (b ≡ false → y ≡ z) → (if b then x else y) ≡ z
choice true x y z here there = here refl
choice false x y z here there = there refl

pub level-at : (i : ℕ) (qs : List Formula) (d : Formula) → i < length qs → level_goal i qs ≡ get_or qs (length qs - 1 - i) d
level-at i [] d below = absurd (omega arith)
level-at i (q ∷ qs) d below =
    choice (i == length qs) q (level_goal i qs) (get_or (q ∷ qs) (length (q ∷ qs) - 1 - i) d)
    (λ same. let place : 0 ≡ length (q ∷ qs) - 1 - i = grind (arith, nat_tests) in ap (λ k. get_or (q ∷ qs) k d) place)
    (λ other. let less : i < length qs = grind (arith, nat_tests) in
    let place : suc (length qs - 1 - i) ≡ length (q ∷ qs) - 1 - i = omega arith in
    level-at i qs d less ∙ ap (λ k. get_or (q ∷ qs) k d) place)

pub level-above : (i : ℕ) (qs : List Formula) → length qs ≤ i → level_goal i qs ≡ truth_value false
level-above i [] above = refl
level-above i (q ∷ qs) above =
    choice (i == length qs) q (level_goal i qs) (truth_value false)
    (λ same. absurd (grind (arith, nat_tests)))
    (λ other. level-above i qs (omega arith))

get_or-plain : (xs : List Form) (k : ℕ) (d : Form) → get_or (map plain xs) k (plain d) ≡ plain (get_or xs k d)
get_or-plain [] k d = refl
get_or-plain (x ∷ xs) zero d = refl
get_or-plain (x ∷ xs) (suc k) d = get_or-plain xs k d

pub level-form : (i : ℕ) (goals : List Form) (x : Form) → i < length goals → x ≡ get_or goals (length goals - 1 - i) x → plain x ≡ level_goal i (map plain goals)
level-form i goals x below is =
    let size = length-map goals plain in
    ap plain is ∙ sym (get_or-plain goals (length goals - 1 - i) x)
    ∙ ap (λ n. get_or (map plain goals) (n - 1 - i) (plain x)) (sym size)
    ∙ sym (level-at i (map plain goals) (plain x) (omega arith))

pub level-none : (i : ℕ) (goals : List Form) → length goals ≤ i → truth_value false ≡ level_goal i (map plain goals)
level-none i goals above = let size = length-map goals plain in sym (level-above i (map plain goals) (omega arith))
