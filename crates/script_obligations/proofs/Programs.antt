-- What a script proves of a program, and that its conditions may be checked and decided.
use Rattle.std.proofs.Common.{arith, ◌≡◌, subst, ℕ, zero, suc, ◌<◌, true, List, [], ◌∷◌, map, length, Some, slice_get}
use Rattle.std.proofs.lemmas.List.{length-map}
use Rattle.st_form.specs.Formula.{Formula}
use Rattle.st_form.specs.Shared.{plain_condition}
use Rattle.st_form.specs.declared.conditions.Condition.{Condition}
use Rattle.st_form.specs.declared.variables.Variable.{Variable}
use Rattle.st_program.specs.Tree.{Processes}
use Rattle.st_program.specs.Programs.{IsProgram}
use Rattle.control_facts.specs.Alternatives.{control_of}
use Rattle.farkas_check.specs.PlainProblem.{setting}
use Rattle.farkas_check.specs.Limits.{IsNarrow}
use Rattle.search_laws.specs.Forms.{AllForms}
use Rattle.search_laws.specs.Ends.{HasOwner, IsTruth, IsTyped}
use Rattle.search_laws.specs.Programs.{ProgramsAreInOrder}
use Rattle.search_laws.specs.Searchable.{IsBelow}
use Rattle.search_laws.specs.Searchable.{AreSearchable}
use Rattle.transition_system.specs.Systems.{System}
use Rattle.vc_generator.specs.Building.{Draft}
use Rattle.obligation_laws.specs.Obligations.{ValidIsEnough}
use Rattle.control_facts.proofs.Owners.{owned_inside}
use Rattle.spl_translation.specs.Translation.{translation}
use Rattle.spl_translation.proofs.Systemic.{translation_is_system}
use Rattle.list_laws.specs.Each.{Each}
use Rattle.condition_sizes.specs.Within.{DraftWithin}
use Rattle.list_laws.proofs.Eachs.{each_weaker}
use Rattle.script_laws.specs.Script.{script_list}
use Rattle.script_laws.specs.Laws.{ScriptsProve, ScriptsAreWithin}
use Rattle.script_obligations.specs.Laws.{ScriptsHold, AreThese, ScriptsAreSearchable, ScriptsAreTyped, SearchableIsCheckable}
use Rattle.script_obligations.proofs.Folds.{narrow, in_range, literals}

pub scripts-hold : (p : Processes) (initial : Formula) (system : System) → ScriptsProve → ValidIsEnough p initial system → ScriptsHold p initial system
scripts-hold p initial system prove enough steps proof valid =
    λ k d lt. enough [] (script_list system steps) _ (prove system steps proof k d lt) tt valid

-- what is within bounds, of the program's conditions
searchable : (n : ℕ) (system : System) → length system.truths ≡ n → (cs : List Condition) (ds : List Draft) → AreThese cs ds → Each (DraftWithin system) ds → AreSearchable n cs
searchable n system same [] ds these h = tt
searchable n system same (c ∷ cs) [] these h = cc
searchable n system same (c ∷ cs) (d ∷ ds) these h =
    let here : d.condition ≡ plain_condition c = cc in
    let rest : AreThese cs ds = cc in (
      record {
        given = subst (λ i. IsNarrow i.given) here (narrow system.truths system.locations d.condition.given h.0.given);
        shown = subst (λ i. IsNarrow i.shown) here (narrow system.truths system.locations d.condition.shown h.0.shown);
        given_below = subst (λ i. AllForms (IsBelow n) i.given) here (subst (λ m. AllForms (IsBelow m) d.condition.given) same (in_range system.truths system.locations d.condition.given h.0.given));
        shown_below = subst (λ i. AllForms (IsBelow n) i.shown) here (subst (λ m. AllForms (IsBelow m) d.condition.shown) same (in_range system.truths system.locations d.condition.shown h.0.shown));
      },
      searchable n system same cs ds rest h.1,
    )

-- a boolean variable is one
truth_there : (vs : List Variable) (v : ℕ) → slice_get (map (λ x. x.truth) vs) v ≡ Some true → IsTruth vs v
truth_there [] v e = cc
truth_there (x ∷ vs) zero e = cc
truth_there (x ∷ vs) (suc v) e = truth_there vs v e

module _ (vs : List Variable) (initial : Formula) (p : Processes) (locations statements : ℕ) (is : IsProgram vs initial p locations statements) (within : ScriptsAreWithin) where
  pub scripts-searchable : ScriptsAreSearchable vs (translation vs initial p locations)
  scripts-searchable steps written cs these =
      let system = translation vs initial p locations in
      searchable (length vs) system (length-map vs (λ x. x.truth)) cs (script_list system steps) these (within system steps (translation_is_system vs initial p locations statements is) written)

  owned : ProgramsAreInOrder → (l : ℕ) → l < locations → HasOwner (control_of p) l
  owned order l lt = (order p).1 l (let count = owned_inside p 0 0 in let ends = is.location_count in omega arith)

  pub scripts-typed : ProgramsAreInOrder → ScriptsAreTyped vs p (translation vs initial p locations)
  scripts-typed order steps written =
      let system = translation vs initial p locations in
      each_weaker (DraftWithin system) (λ d. IsTyped (setting (control_of p) vs) d.condition.given × IsTyped (setting (control_of p) vs) d.condition.shown)
      (λ d h. (
        literals system.truths locations (HasOwner (control_of p)) (IsTruth vs) (owned order) (truth_there vs) d.condition.given h.given,
        literals system.truths locations (HasOwner (control_of p)) (IsTruth vs) (owned order) (truth_there vs) d.condition.shown h.shown,
      ))
      (script_list system steps) (within system steps (translation_is_system vs initial p locations statements is) written)

pub searchable-checkable : SearchableIsCheckable
searchable-checkable n [] [] h limited same = tt
searchable-checkable n [] (b ∷ bs) h limited same = absurd (omega arith)
searchable-checkable n (c ∷ cs) [] h limited same = absurd (omega arith)
searchable-checkable n (c ∷ cs) (b ∷ bs) h limited same = (record { limited = limited.0; given = h.0.given; shown = h.0.shown }, searchable-checkable n cs bs h.1 limited.1 (omega arith))
