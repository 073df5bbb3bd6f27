-- What is found holds on every run.
use Rattle.std.proofs.Common.{◌≡◌, ℕ, List, [], ◌∷◌, map, Some, ◌∙◌, subst}
use Rattle.st_form.specs.Formula.{Formula}
use Rattle.st_form.specs.declared.variables.Variable.{Variable}
use Rattle.st_linear.specs.Linear.{AreEntries}
use Rattle.observations.specs.Observation.{state_at}
use Rattle.st_program.specs.Tree.{Processes, action}
use Rattle.st_program.specs.Member.{Member}
use Rattle.st_program.specs.Spots.{Spot, all_spots}
use Rattle.st_program.specs.Programs.{WellFormed}
use Rattle.st_program.specs.Types.{ActionFits}
use Rattle.elimination_laws.proofs.Mixes.{map-some}
use Rattle.null_laws.specs.Reduction.{Entries}
use Rattle.null_laws.specs.Bases.{AllMeet, at_columns}
use Rattle.transition_system.specs.Systems.{System}
use Rattle.transition_system.specs.Bounds.{IsSystem}
use Rattle.spl_translation.specs.Translation.{translation}
use Rattle.spl_translation.specs.Correspondence.{Corresponds}
use Rattle.equation_laws.specs.Space.{variables_of, IsInductive}
use Rattle.equation_laws.specs.Rows.{basis_of}
use Rattle.equation_laws.specs.Equations.{PlainEquation, equation_of, with_variables, found_in, found}
use Rattle.equation_laws.proofs.Within.{the-basis}
use Rattle.equation_laws.proofs.Founds.{worth-value, echelon-entries, with-meets}
use Rattle.equation_runs.specs.Holding.{AllHold}
use Rattle.equation_runs.proofs.Runs.{holds-along}

module _ (vs : List Variable) (initial : Formula) (p : Processes) (locations : ℕ) (well : WellFormed p)
    (typed : (y : Spot) → Member y (all_spots p) → ActionFits vs (action y.stmt)) (both : Corresponds p initial (translation vs initial p locations))
    (is_system : IsSystem (translation vs initial p locations)) where
  abbrev system : System
  system = translation vs initial p locations

  all-hold : (bs : List Entries) → AllMeet AreEntries bs → AllMeet (λ b. IsInductive system (at_columns b)) bs → AllHold p initial (map (equation_of (variables_of system) locations) bs)
  all-hold [] h k = tt
  all-hold (b ∷ bs) h k = (
    λ o run j. worth-value (variables_of system) locations b (state_at o j) h.0 ∙ holds-along vs initial p locations well typed both (at_columns b) k.0 o run j,
    all-hold bs h.1 k.1,
  )

  pub found-hold : (es : List PlainEquation) → found system ≡ Some es → AllHold p initial es
  found-hold es e =
      let f = map-some (found_in system) (basis_of system) es e in
      let b = the-basis system f.0 is_system f.1 in
      let n = variables_of system in
      subst (AllHold p initial) f.2
      (all-hold (with_variables n f.0) (with-meets AreEntries n f.0 (echelon-entries f.0 b.echelon)) (with-meets (λ b. IsInductive system (at_columns b)) n f.0 b.within))
