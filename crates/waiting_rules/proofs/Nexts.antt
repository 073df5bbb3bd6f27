-- The next level of a walk over levels.
use Rattle.std.proofs.Common.{arith, ◌≡◌, ◌∙◌, ap, sym, subst, refl, ℕ, ◌+◌, ◌-◌, ◌<◌, ◌≤◌, List, [], ◌∷◌, ◌++◌, length, map, take, drop, get_or, Some, None, Result}
use Rattle.std.proofs.lemmas.List.{drop_more, length-map, length-drop, take_rest}
use Rattle.st_form.specs.Formula.{Formula, some, formulas}
use Rattle.st_form.specs.Plain.{plain}
use Rattle.st_form.specs.declared.formulas.Form.{Form}
use Rattle.st_form.specs.declared.conditions.Premise.TheVariants.{Cover, Level}
use Rattle.st_form.specs.declared.conditions.CondName.{CondName}
use Rattle.transition_system.specs.Systems.{System}
use Rattle.st_form.specs.Condition.{Implication}
use Rattle.vc_generator.specs.Building.{Draft, entails_of}
use Rattle.vc_generator.specs.declared.faults.VcFault.{VcFault}
use Rattle.vc_generator.specs.Refusing.{Grows}
use Rattle.waiting_rules.specs.Walk.{falls}
use Rattle.vc_generator.specs.Walks.{each_mode, plainly}
use Rattle.rule_laws.specs.WaitingFor.{level_list, move_list}

drop-next : (xs : List Form) (i : ℕ) (x : Form) → i < length xs → x ≡ get_or xs i x → map plain (drop i xs) ≡ plain x ∷ map plain (drop (i + 1) xs)
drop-next xs i x below is = ap (map plain) (drop_more xs i x below) ∙ ap (λ y. plain y ∷ map plain (drop (i + 1) xs)) (sym is)

size-next : (xs : List Form) (i : ℕ) → length (map plain (drop (i + 1) xs)) ≡ length xs - 1 - i
size-next xs i = let size = length-map (drop (i + 1) xs) plain in let rest = length-drop (i + 1) xs in omega arith

pub level-next : (step : ℕ) (lemmas : List Formula) (levels goals : List Form) (i : ℕ) (f q : Form) → i < length levels → length levels ≡ length goals → f ≡ get_or levels i f → q ≡ get_or goals i q
    → level_list step lemmas (map plain (drop i levels)) (map plain (drop i goals))
    ≡ entails_of lemmas (plain f) (plain q) (plainly step Level (Some (length levels - 1 - i))) ∷ level_list step lemmas (map plain (drop (i + 1) levels)) (map plain (drop (i + 1) goals))
level-next step lemmas levels goals i f q below same is here =
    ap (λ fs. level_list step lemmas fs (map plain (drop i goals))) (drop-next levels i f below is)
    ∙ ap (λ qs. level_list step lemmas (plain f ∷ map plain (drop (i + 1) levels)) qs) (drop-next goals i q (omega arith) here)
    ∙ ap (λ n. entails_of lemmas (plain f) (plain q) (plainly step Level (Some n)) ∷ level_list step lemmas (map plain (drop (i + 1) levels)) (map plain (drop (i + 1) goals))) (size-next levels i)

fall-by : (step : ℕ) (system : System) (lemmas : List Formula) (f : Formula) (rest : List Formula) → 0 < length rest
    → move_list step system lemmas (f ∷ rest) ≡ each_mode (λ n t k m. falls step lemmas (length rest) f (some (formulas (f ∷ rest))) n t k m) system ++ move_list step system lemmas rest
fall-by step system lemmas f [] more = absurd (omega arith)
fall-by step system lemmas f (g ∷ fs) more = refl

pub fall-next : (step : ℕ) (system : System) (lemmas : List Formula) (levels : List Form) (i node : ℕ) (f below : Form) → i + 1 < length levels → node ≡ length levels - (i + 1) → f ≡ get_or levels i f → plain below ≡ some (formulas (map plain (drop i levels)))
    → move_list step system lemmas (map plain (drop i levels))
    ≡ each_mode (λ n t k m. falls step lemmas node (plain f) (plain below) n t k m) system ++ move_list step system lemmas (map plain (drop (i + 1) levels))
fall-next step system lemmas levels i node f below more numbered is all =
    let next = drop-next levels i f (omega arith) is in
    let size = size-next levels i in
    let number : length (map plain (drop (i + 1) levels)) ≡ node = omega arith in
    ap (move_list step system lemmas) next
    ∙ fall-by step system lemmas (plain f) (map plain (drop (i + 1) levels)) (omega arith)
    ∙ ap (λ n. each_mode (λ k t j m. falls step lemmas n (plain f) (some (formulas (plain f ∷ map plain (drop (i + 1) levels)))) k t j m) system ++ move_list step system lemmas (map plain (drop (i + 1) levels))) number
    ∙ ap (λ d. each_mode (λ k t j m. falls step lemmas node (plain f) d k t j m) system ++ move_list step system lemmas (map plain (drop (i + 1) levels))) (ap (λ fs. some (formulas fs)) (sym next) ∙ sym all)

-- the disjunction of a slice up to the end
pub to-the-end : (levels : List Form) (i : ℕ) (below : Form) → plain below ≡ some (formulas (map plain (take (length levels - i) (drop i levels)))) → plain below ≡ some (formulas (map plain (drop i levels)))
to-the-end levels i below all = all ∙ ap (λ fs. some (formulas (map plain fs))) (take_rest levels i)

-- a walk over one level or none asks nothing
pub none-fall : (step : ℕ) (system : System) (lemmas : List Formula) (levels : List Form) (i : ℕ) → length levels ≤ i + 1 → move_list step system lemmas (map plain (drop i levels)) ≡ []
none-fall step system lemmas levels i few = by-list (map plain (drop i levels)) (let size = length-map (drop i levels) plain in let rest = length-drop i levels in omega arith)
  where
    by-list : (fs : List Formula) → length fs ≤ 1 → move_list step system lemmas fs ≡ []
    by-list [] h = refl
    by-list (f ∷ []) h = refl
    by-list (f ∷ g ∷ fs) h = absurd (omega arith)

-- the first condition by its parts
pub first-of : (r : Result (Unit {0}) VcFault) (old new : List Implication) (step : ℕ) (lemmas levels : List Formula) (p q : Formula) (name : CondName) (ds : List Draft) → q ≡ some (formulas levels) → name ≡ plainly step Cover None
    → Grows r old new (entails_of lemmas p q name ∷ ds) → Grows r old new (entails_of lemmas p (some (formulas levels)) (plainly step Cover None) ∷ ds)
first-of r old new step lemmas levels p q name ds is named grows =
    subst (λ f. Grows r old new (entails_of lemmas p f (plainly step Cover None) ∷ ds)) is (subst (λ n. Grows r old new (entails_of lemmas p q n ∷ ds)) named grows)
