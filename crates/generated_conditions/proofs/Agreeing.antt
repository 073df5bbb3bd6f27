-- Cases agree where they are the same formulas of the same sizes before each mode.
use Rattle.std.proofs.Common.{◌≡◌, refl, sym, ap, ap₂, ◌∙◌, ℕ, ◌+◌, true, List, [], ◌∷◌, ◌++◌, map, flat_map, length, sum_by, add-zero}
use Rattle.st_linear.specs.Linear.{Linear}
use Rattle.st_form.specs.Formula.{Formula, truth_value, atoms}
use Rattle.st_form.specs.Exchange.{atoms_behind}
use Rattle.transition_system.specs.Systems.{PlainMode}
use Rattle.vc_generator.specs.Atoms.{PlainCase, cases_atoms}
use Rattle.st_form.specs.Shared.{together}
use Rattle.vc_generator.specs.Building.{after, falls_to, case_of, unless_true}
use Rattle.generated_conditions.specs.Cases.{Case, onto, stated}
use Rattle.generated_conditions.proofs.Lists.{map-append, map-map}
use Rattle.generated_conditions.proofs.Sizes.{sum_by-more}

abbrev pub as_before : PlainMode → PlainCase → Formula × ℕ
as_before m c = (case_of m c, atoms c.now + (atoms_behind m.change c.behind + length c.falls))

abbrev pub Agree : List Case → List PlainCase → Type 0
Agree cs ds = (m : PlainMode) → map (stated m) cs ≡ map (as_before m) ds

abbrev pub plain_case : Formula → Formula → List (Linear × Linear) → PlainCase
plain_case now behind falls = record { now = now; behind = behind; falls = falls }

pub nothing-agree : Agree [] []
nothing-agree m = refl

pub both-agree : (cs es : List Case) (ds fs : List PlainCase) → Agree cs ds → Agree es fs → Agree (cs ++ es) (ds ++ fs)
both-agree cs es ds fs h k m = map-append (stated m) cs es ∙ ap₂ (λ xs ys. xs ++ ys) (h m) (k m) ∙ sym (map-append (as_before m) ds fs)

pub onto-agrees : (f : Formula) (falls : List (Linear × Linear)) (cs : List Case) (ds : List PlainCase) → Agree cs ds
    → Agree (onto f [] falls ∷ cs) (plain_case (truth_value true) f falls ∷ ds)
onto-agrees f falls cs ds h m = λ i. stated m (onto f [] falls) ∷ h m i

pub onto-all-agree : {A : Type 0} (f : A → Formula) (falls : A → List (Linear × Linear)) (xs : List A)
    → Agree (map (λ x. onto (f x) [] (falls x)) xs) (map (λ x. plain_case (truth_value true) (f x) (falls x)) xs)
onto-all-agree f falls [] m = refl
onto-all-agree f falls (x ∷ xs) m = λ i. stated m (onto (f x) [] (falls x)) ∷ onto-all-agree f falls xs m i

-- a formula that isn't the truth value true is written
abbrev pub IsWritten : Formula → Type 0
IsWritten f = unless_true f ≡ f ∷ []

one-given : (g f : Formula) (falls : List (Linear × Linear)) (m : PlainMode) → IsWritten g → stated m (onto f (g ∷ []) falls) ≡ as_before m (plain_case g f falls)
one-given g f falls m w =
    let rest : List Formula = after m f ∷ map (falls_to m) falls in
    λ i. (together (sym w i ++ rest), ap (λ n. n + (atoms_behind m.change f + length falls)) (add-zero (atoms g)) i)

pub given-all-agree : {A : Type 0} (g : Formula) → IsWritten g → (f : A → Formula) (falls : A → List (Linear × Linear)) (xs : List A)
    → Agree (map (λ x. onto (f x) (g ∷ []) (falls x)) xs) (map (λ x. plain_case g (f x) (falls x)) xs)
given-all-agree g w f falls [] m = refl
given-all-agree g w f falls (x ∷ xs) m = λ i. one-given g (f x) (falls x) m w i ∷ given-all-agree g w f falls xs m i

pub flat-agree : {A : Type 0} (f : A → List Case) (g : A → List PlainCase) (xs : List A) → ((x : A) → Agree (f x) (g x)) → Agree (flat_map f xs) (flat_map g xs)
flat-agree f g [] h = nothing-agree
flat-agree f g (x ∷ xs) h = both-agree (f x) (flat_map f xs) (g x) (flat_map g xs) (h x) (flat-agree f g xs h)

sizes : (m : PlainMode) (cs : List Case) → sum_by (λ c. (stated m c).1) cs ≡ sum_by (λ (x : Formula × ℕ). x.1) (map (stated m) cs)
sizes m [] = refl
sizes m (c ∷ cs) = sum_by-more (λ d. (stated m d).1) c cs ∙ ap (λ n. (stated m c).1 + n) (sizes m cs) ∙ sym (sum_by-more (λ (x : Formula × ℕ). x.1) (stated m c) (map (stated m) cs))

sizes-before : (m : PlainMode) (ds : List PlainCase) → cases_atoms m ds ≡ sum_by (λ (x : Formula × ℕ). x.1) (map (as_before m) ds)
sizes-before m [] = refl
sizes-before m (d ∷ ds) = ap (λ n. (as_before m d).1 + n) (sizes-before m ds) ∙ sym (sum_by-more (λ (x : Formula × ℕ). x.1) (as_before m d) (map (as_before m) ds))

pub same_sizes : (m : PlainMode) (cs : List Case) (ds : List PlainCase) → Agree cs ds → sum_by (λ c. (stated m c).1) cs ≡ cases_atoms m ds
same_sizes m cs ds h = sizes m cs ∙ ap (λ xs. sum_by (λ (x : Formula × ℕ). x.1) xs) (h m) ∙ sym (sizes-before m ds)

pub same_formulas : (m : PlainMode) (cs : List Case) (ds : List PlainCase) → Agree cs ds → map (λ c. (stated m c).0) cs ≡ map (case_of m) ds
same_formulas m cs ds h = sym (map-map (λ (x : Formula × ℕ). x.0) (stated m) cs) ∙ ap (λ xs. map (λ (x : Formula × ℕ). x.0) xs) (h m) ∙ map-map (λ (x : Formula × ℕ). x.0) (as_before m) ds
