-- What is so of the equations that are found for a program.
use Rattle.std.proofs.Common.{◌≡◌, ℕ, ◌<◌, ◌≤◌, Bool, List, [], ◌∷◌, length, map, Some, ◌∙◌, ap, sym, subst, arith}
use Rattle.std.specs.Prelude.{All, slice_get, get_or}
use Rattle.std.proofs.lemmas.List.{length-map}
use Rattle.std.proofs.lemmas.Option.{slice_get-map, slice_get-get_or}
use Rattle.st_linear.specs.Linear.{AreEntries, AllBelow}
use Rattle.st_program.specs.Names.{Names}
use Rattle.st_program.specs.Programs as programs
use Rattle.control_states.specs.Control.{ControlFacts}
use Rattle.control_facts.specs.Alternatives.{control_of}
use Rattle.control_facts.proofs.Owners.{owners_count, owners_named}
use Rattle.elimination_laws.proofs.Mixes.{map-some}
use Rattle.null_laws.specs.Reduction.{Entries}
use Rattle.null_laws.specs.Bases.{AllMeet}
use Rattle.transition_system.specs.Systems.{System}
use Rattle.transition_system.specs.Bounds.{IsSystem}
use Rattle.spl_translation.specs.Translation.{translation}
use Rattle.spl_translation.proofs.Corresponding.{corresponds}
use Rattle.spl_translation.proofs.Systemic.{translation_is_system}
use Rattle.spl_typer.specs.Programs.{Typed}
use Rattle.equation_laws.specs.Space.{variables_of}
use Rattle.equation_laws.specs.Rows.{basis_of}
use Rattle.equation_laws.specs.Equations.{PlainEquation, AreFound, equation_of, with_variables, found_in, found}
use Rattle.equation_laws.proofs.Within.{the-basis}
use Rattle.equation_laws.proofs.Founds.{echelon-entries, with-meets, below-entries, below-below, between-entries, between-below}
use Rattle.equation_forms.specs.Formulas.{AreOwned}
use Rattle.equation_forms.proofs.Truths.{says}
use Rattle.equation_runs.specs.Holding.{AllHold}
use Rattle.equation_runs.proofs.Holds.{found-hold}
use Rattle.equation_writer.specs.Proper.{AreProper}
use Rattle.equation_writer.proofs.Finding.{found_are_proper}
use Rattle.printed_formulas.specs.Theorems.{AreIntegers}
use Rattle.step_run.specs.Conditions.{system_of}
use Rattle.found_equations.specs.Said.{AreExact}
use Rattle.found_equations.proofs.Integers.{AreFalse, AllFalse, AllRows, found-false, few-found}
use Rattle.found_equations.proofs.Entering.{AreReady}

-- owners of locations
all_owned : (k : ControlFacts) (ts : Entries) → All (λ c. c < length k.components) k.owners → AllBelow (length k.owners) ts → AreOwned k ts
all_owned k [] all h = tt
all_owned k (t ∷ ts) all h = (get_or k.owners t.0 0, slice_get-get_or k.owners t.0 0 h.0, all t.0 0 h.0, all_owned k ts all h.1)

-- integer variables by their names
integers_of : (t : Names) (truths : List Bool) → map (λ (x : List ℕ × Bool). x.1) t.variables ≡ truths → (es : Entries) → AreFalse truths es → AreIntegers t es
integers_of t truths same [] h = tt
integers_of t truths same (e ∷ es) h = (sym (slice_get-map (λ (x : List ℕ × Bool). x.1) t.variables e.0) ∙ ap (λ (xs : List Bool). slice_get xs e.0) same ∙ h.0, integers_of t truths same es h.1)

all-rows : (system : System) (bs : List Entries) → AllMeet AreEntries bs → AllRows system (map (equation_of (variables_of system) system.locations) bs)
all-rows system [] h = tt
all-rows system (b ∷ bs) h = (below-entries (variables_of system) b h.0, below-below (variables_of system) b, all-rows system bs h.1)

-- what is found, from the basis
abbrev pub SpansFound : Type 0
SpansFound = (system : System) (bs : List Entries) → IsSystem system → basis_of system ≡ Some bs → AreFound system (found_in system bs)

module _ (p : Typed) (k : programs.IsProgram p.variables p.initial p.processes p.locations p.statements) where
  abbrev system : System
  system = translation p.variables p.initial p.processes p.locations

  is_system : IsSystem system
  is_system = translation_is_system p.variables p.initial p.processes p.locations p.statements k

  basis_here : SpansFound → (es : List PlainEquation) → found system ≡ Some es → AreFound system es
  basis_here law es e = let f = map-some (found_in system) (basis_of system) es e in subst (AreFound system) f.2 (law system f.0 is_system f.1)

  hold_here : (es : List PlainEquation) → found system ≡ Some es → AllHold p.processes p.initial es
  hold_here es e =
      found-hold p.variables p.initial p.processes p.locations k.well k.typed (corresponds p.variables p.initial p.processes p.locations k.well k.typed k.start) is_system es e

  one_owned : (b : Entries) → AreOwned (control_of p.processes) (equation_of (variables_of system) p.locations b).places
  one_owned b =
      all_owned (control_of p.processes) _ (owners_named p.processes)
      (subst (λ (m : ℕ). AllBelow m (equation_of (variables_of system) p.locations b).places) (sym (owners_count p.processes ∙ sym k.location_count)) (between-below (variables_of system) p.locations b))

  all_exact : (bs : List Entries) → AllMeet AreEntries bs → AreExact p (map (equation_of (variables_of system) p.locations) bs)
  all_exact [] h = tt
  all_exact (b ∷ bs) h = (
    λ place s control. says s (control_of p.processes) place control (equation_of (variables_of system) p.locations b) (one_owned b) (between-entries (variables_of system) p.locations b h.0),
    all_exact bs h.1,
  )

  exact_here : (es : List PlainEquation) → found system ≡ Some es → AreExact p es
  exact_here es e =
      let f = map-some (found_in system) (basis_of system) es e in
      let b = the-basis system f.0 is_system f.1 in
      subst (AreExact p) f.2 (all_exact (with_variables (variables_of system) f.0) (with-meets AreEntries (variables_of system) f.0 (echelon-entries f.0 b.echelon)))

  -- they are between integer variables, and few
  ready_here : SpansFound → (names_are : map (λ (x : List ℕ × Bool). x.1) p.names.variables ≡ map (λ v. v.truth) p.variables) → (es : List PlainEquation) → found system ≡ Some es → AreReady p es
  ready_here law names_are es e =
      let f = map-some (found_in system) (basis_of system) es e in
      let rows : AllRows system es = subst (AllRows system) f.2 (all-rows system (with_variables (variables_of system) f.0) (with-meets AreEntries (variables_of system) f.0 (echelon-entries f.0 (the-basis system f.0 is_system f.1).echelon))) in
      make_ready names_are es (found-false system is_system es rows (basis_here law es e).inductive) (found_are_proper system es is_system e)
    where
      make_ready : (names_are : map (λ (x : List ℕ × Bool). x.1) p.names.variables ≡ map (λ v. v.truth) p.variables) → (es : List PlainEquation) → AllFalse system.truths es → AreProper es → AreReady p es
      make_ready names_are [] h k = tt
      make_ready names_are (e ∷ es) h k = (record { integers = integers_of p.names system.truths names_are e.numbers h.0; kept = k.0.numbers }, make_ready names_are es h.1 k.1)

  few_here : (es : List PlainEquation) → found system ≡ Some es → length es ≤ 64
  few_here es e = let few : length p.variables ≤ 64 = k.few_variables in omega (arith, few, few-found system es is_system e, length-map p.variables (λ v. v.truth))

  -- the same of the program's system
  pub basis : SpansFound → (es : List PlainEquation) → found (system_of p) ≡ Some es → AreFound (system_of p) es
  unfolding system_of
  basis law es e = basis_here law es e

  pub hold : (es : List PlainEquation) → found (system_of p) ≡ Some es → AllHold p.processes p.initial es
  unfolding system_of
  hold es e = hold_here es e

  pub exact : (es : List PlainEquation) → found (system_of p) ≡ Some es → AreExact p es
  unfolding system_of
  exact es e = exact_here es e

  pub ready : SpansFound → map (λ (x : List ℕ × Bool). x.1) p.names.variables ≡ map (λ v. v.truth) p.variables → (es : List PlainEquation) → found (system_of p) ≡ Some es → AreReady p es
  unfolding system_of
  ready law names_are es e = ready_here law names_are es e

  pub few : (es : List PlainEquation) → found (system_of p) ≡ Some es → length es ≤ 64
  unfolding system_of
  few es e = few_here es e
