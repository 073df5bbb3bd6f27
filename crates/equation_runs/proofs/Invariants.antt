-- The formulas of what is found are invariant.
use Rattle.std.proofs.Common.{◌≡◌, ℕ, zero, suc, ◌<◌, List, [], ◌∷◌, length, map, Some, refl, ap, ◌∙◌, sym, subst, arith}
use Rattle.std.specs.Prelude.{All, slice_get}
use Rattle.st_linear.specs.Linear.{AreEntries, AllBelow}
use Rattle.st_form.specs.Formula.{Formula, Situation, is_zero}
use Rattle.st_form.specs.declared.variables.Variable.{Variable}
use Rattle.observations.specs.Observation.{state_at}
use Rattle.st_program.specs.Tree.{Processes, action}
use Rattle.st_program.specs.Member.{Member}
use Rattle.st_program.specs.Spots.{Spot, all_spots}
use Rattle.st_program.specs.Locations.{inside_end}
use Rattle.st_program.specs.Programs.{WellFormed}
use Rattle.st_program.specs.Types.{ActionFits}
use Rattle.elimination_laws.proofs.Mixes.{map-some}
use Rattle.null_laws.specs.Reduction.{Entries}
use Rattle.null_laws.specs.Bases.{AllMeet, at_columns}
use Rattle.transition_system.specs.Systems.{System}
use Rattle.transition_system.specs.Bounds.{IsSystem}
use Rattle.control_states.specs.Control.{ControlFacts, InControl}
use Rattle.control_facts.specs.Alternatives.{control_of}
use Rattle.control_facts.proofs.Owners.{owners_count, owners_named}
use Rattle.spl_semantics.proofs.ControlMet.{reached_meets}
use Rattle.spl_translation.specs.Translation.{translation}
use Rattle.spl_translation.specs.Correspondence.{Corresponds}
use Rattle.temporal_goals.specs.Texts.{invariant}
use Rattle.obligation_laws.specs.Obligations.{HoldsOnRuns}
use Rattle.obligation_laws.proofs.Enough.{state-seen}
use Rattle.equation_laws.specs.Space.{variables_of, IsInductive}
use Rattle.equation_laws.specs.Rows.{basis_of}
use Rattle.equation_laws.specs.Equations.{PlainEquation, equation_of, with_variables, found_in, found}
use Rattle.equation_laws.proofs.Within.{the-basis}
use Rattle.equation_laws.proofs.Founds.{worth-value, echelon-entries, with-meets, between-entries, between-below}
use Rattle.equation_forms.specs.Formulas.{AreOwned, formula_of}
use Rattle.equation_forms.proofs.Truths.{says}
use Rattle.equation_runs.specs.Holding.{HoldsAlways, AllInvariant}
use Rattle.equation_runs.proofs.Runs.{holds-along}

-- owners of locations
owner-at : (n : ℕ) (os : List ℕ) (l : ℕ) → l < length os → All (λ c. c < n) os → (c : ℕ) × (slice_get os l ≡ Some c) × (c < n)
owner-at n [] l h all = absurd (omega arith)
owner-at n (o ∷ os) zero h all = (o, refl, all 0 o (omega arith))
owner-at n (o ∷ os) (suc l) h all = owner-at n os l (omega arith) (λ k d lt. all (suc k) d (omega arith))

all-owned : (k : ControlFacts) (ts : Entries) → All (λ c. c < length k.components) k.owners → AllBelow (length k.owners) ts → AreOwned k ts
all-owned k [] all h = tt
all-owned k (t ∷ ts) all h = let o = owner-at (length k.components) k.owners t.0 h.0 all in (o.0, o.1, o.2, all-owned k ts all h.1)

-- an equation that holds always, and its formula
formula-holds : (p : Processes) (initial : Formula) → WellFormed p → (e : PlainEquation) → AreOwned (control_of p) e.places → AreEntries e.places → HoldsAlways p initial e → HoldsOnRuns p initial (invariant (formula_of (control_of p) e))
formula-holds p initial well e owned entries holds o run k within =
    let seen = state-seen p initial o k run in
    let meets = reached_meets p initial well seen.state seen.reached in
    let s : Situation = state_at o k in
    let control = subst (λ (z : Situation). InControl (control_of p) meets.0 z.located) (sym seen.is) meets.1 in
    says s (control_of p) meets.0 control e owned entries ∙ ap is_zero (holds o run k)

module _ (vs : List Variable) (initial : Formula) (p : Processes) (locations : ℕ) (well : WellFormed p)
    (typed : (y : Spot) → Member y (all_spots p) → ActionFits vs (action y.stmt)) (both : Corresponds p initial (translation vs initial p locations))
    (is_system : IsSystem (translation vs initial p locations)) (ends : inside_end p 0 ≡ locations) where
  abbrev system : System
  system = translation vs initial p locations

  one-owned : (b : Entries) → AreOwned (control_of p) (equation_of (variables_of system) locations b).places
  one-owned b =
      all-owned (control_of p) _ (owners_named p)
      (subst (λ (m : ℕ). AllBelow m (equation_of (variables_of system) locations b).places) (sym (owners_count p ∙ ends)) (between-below (variables_of system) locations b))

  all-invariant : (bs : List Entries) → AllMeet AreEntries bs → AllMeet (λ b. IsInductive system (at_columns b)) bs → AllInvariant p initial (map (equation_of (variables_of system) locations) bs)
  all-invariant [] h k = tt
  all-invariant (b ∷ bs) h k = (
    formula-holds p initial well (equation_of (variables_of system) locations b) (one-owned b) (between-entries (variables_of system) locations b h.0)
        (λ o run j. worth-value (variables_of system) locations b (state_at o j) h.0 ∙ holds-along vs initial p locations well typed both (at_columns b) k.0 o run j),
    all-invariant bs h.1 k.1,
  )

  pub found-invariant : (es : List PlainEquation) → found system ≡ Some es → AllInvariant p initial es
  found-invariant es e =
      let f = map-some (found_in system) (basis_of system) es e in
      let b = the-basis system f.0 is_system f.1 in
      let n = variables_of system in
      subst (AllInvariant p initial) f.2
      (all-invariant (with_variables n f.0) (with-meets AreEntries n f.0 (echelon-entries f.0 b.echelon)) (with-meets (λ b. IsInductive system (at_columns b)) n f.0 b.within))
