-- The translation of a program is a system: what the type of transition systems keeps holds of it.
use Rattle.std.proofs.Common.{◌≡◌, ℕ, suc, ◌^◌, ◌<◌, List, [], ◌∷◌, map, length, All, refl, sym, ap, subst, arith}
use Rattle.st_form.specs.Formula.{Formula, at, formulas}
use Rattle.st_form.specs.Simple.{opened}
use Rattle.st_form.specs.declared.variables.Variable.{Variable}
use Rattle.transition_system.specs.Bounds.{IsSystem, ModeWithin}
use Rattle.st_program.specs.Tree.{Processes}
use Rattle.st_program.specs.Member.{Member}
use Rattle.st_program.specs.Spots.{Spot, all_spots}
use Rattle.st_program.specs.Programs.{IsProgram}
use Rattle.spl_semantics.specs.Control.{starts}
use Rattle.spl_translation.specs.Translation.{all_transitions, always, translation}
use Rattle.spl_translation.proofs.Corresponding.{corresponds}
use Rattle.spl_translation.proofs.Named.{distinct, few}
use Rattle.spl_translation.proofs.FewModes.{few_modes}
use Rattle.spl_translation.proofs.Fitted.{types, formula_within, append_within, opened_within, located_within}
use Rattle.spl_translation.proofs.Rises.{none_within, moving_within}
use Rattle.spl_translation.proofs.Owned.{ModesWithin, spots_within}
use Rattle.spl_translation.proofs.Reached.{Below, all_below, begins_below}
use Rattle.list_laws.specs.Each.{Each}
use Rattle.list_laws.proofs.Eachs.{all_of, each_weaker}

map_length : {A B : Type 0} (f : A → B) (xs : List A) → length (map f xs) ≡ length xs
map_length f [] = refl
map_length f (x ∷ xs) = ap suc (map_length f xs)

pub translation_is_system : (vs : List Variable) (initial : Formula) (p : Processes) (locations statements : ℕ) → IsProgram vs initial p locations statements → IsSystem (translation vs initial p locations)
translation_is_system vs initial p locations statements h =
    let ends = sym h.location_count in
    let at_starts : Each (λ l. l < locations) (starts p) = subst (λ z. Each (λ l. l < z) (starts p)) ends (begins_below p h.well.placed) in
    let placed : (x : Spot) → Member x (all_spots p) → Below locations x = λ x m. subst (λ z. Below z x) ends (all_below p h.well.placed x m) in
    record {
      distinct = distinct p h.well.numbered (all_transitions p) (corresponds vs initial p locations h.well h.typed h.start).names;
      few = let n = few (all_spots p) in let e = h.statement_count in let q = h.few_statements in omega arith;
      few_modes = few_modes vs initial p locations statements h;
      few_variables = let e = map_length (λ v. v.truth) vs in let q = h.few_variables in omega arith;
      initial = append_within (types vs) locations (2 ^ 32) (formulas (map (λ l. at l) (starts p))) (opened initial)
          (located_within (types vs) locations (2 ^ 32) (starts p) at_starts)
          (opened_within (types vs) locations (2 ^ 32) initial (formula_within vs locations (2 ^ 32) (2 ^ 32) (omega arith) initial h.start));
      modes = all_of (λ t. All (ModeWithin (types vs) locations) t.modes) (all_transitions p) (each_weaker (ModesWithin vs h.few_variables locations) _ (λ t e. all_of (ModeWithin (types vs) locations) t.modes e) (all_transitions p)
          ((moving_within vs locations [] [] always [] [] tt tt tt (none_within vs locations), tt), spots_within vs h.few_variables locations (all_spots p) h.typed placed));
    }
