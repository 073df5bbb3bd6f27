-- Each open condition stands at its place, and is of a step of the script.
use Rattle.std.proofs.Common.{◌≡◌, ◌∙◌, ℕ, zero, suc, ◌+◌, ◌<◌, ◌≤◌, List, [], ◌∷◌, ◌++◌, map, length, ap, sym, subst, arith}
use Rattle.std.specs.Prelude.{Some, slice_get, take}
use Rattle.std.proofs.lemmas.List.{length-map}
use Rattle.st_form.specs.Condition.{Implication}
use Rattle.st_form.specs.Shared.{plain_condition}
use Rattle.st_form.specs.declared.conditions.Condition.{Condition}
use Rattle.farkas_check.specs.Problem.{Setting}
use Rattle.transition_system.specs.Plain.{plain_system}
use Rattle.transition_system.specs.Systems.{System}
use Rattle.temporal_goals.specs.Plain.{plain_step, plain_script}
use Rattle.temporal_goals.specs.Texts.{PlainStep}
use Rattle.vc_generator.specs.Building.{Draft}
use Rattle.list_laws.specs.Each.{Each}
use Rattle.list_laws.proofs.Eachs.{each_append, each_weaker}
use Rattle.script_laws.specs.Script.{cited_of, step_list, steps_list, script_list}
use Rattle.script_laws.proofs.Named.{steps-named}
use Rattle.script_obligations.specs.Laws.{AreThese}
use Rattle.discharge.specs.declared.marks.Undecided.{Undecided}
use Rattle.discharge.proofs.Marking.{searchable_at}
use Rattle.open_conditions.specs.Open.{AreOpen}
use Rattle.posed_conditions.specs.declared.translated.TranslatedProgram.{TranslatedProgram}
use Rattle.posed_conditions.specs.declared.scripts.PosedScript.{PosedScript}
use Rattle.posed_conditions.specs.Posed.{IsPosed}
use Rattle.explanations.specs.Explained.{AllStand, Stands}

-- conditions of steps with numbers below m
abbrev AreBelow : ℕ → List Draft → Type 0
AreBelow m ds = Each (λ d. d.condition.name.step < m) ds

-- the conditions of a script's steps bear their numbers
steps_below : (system : System) (earlier : List PlainStep) (n m : ℕ) (steps : List PlainStep) → n + length steps ≤ m → AreBelow m (steps_list system earlier n steps)
steps_below system earlier n m [] le = tt
steps_below system earlier n m (s ∷ steps) le =
    let own = step_list n system (cited_of earlier s.cited) s.goal s.rule in
    each_append (λ d. d.condition.name.step < m) own (steps_list system (earlier ++ s ∷ []) (n + 1) steps)
    (each_weaker (λ d. d.condition.name.step ≡ n) (λ d. d.condition.name.step < m) (λ d same. omega (arith, same, le)) own
    (steps-named n system (cited_of earlier s.cited) s.goal s.rule))
    (steps_below system (earlier ++ s ∷ []) (n + 1) m steps (omega (arith, le)))

-- conditions that are these have their numbers
at_place : (m : ℕ) (cs : List Condition) (ds : List Draft) → AreThese cs ds → AreBelow m ds → (i : ℕ) (c : Condition) → slice_get cs i ≡ Some c → c.name.step < m
at_place m [] ds these below i c at = absurd (cc)
at_place m (x ∷ cs) [] these below i c at = absurd (cc)
at_place m (x ∷ cs) (d ∷ ds) these below zero c at = subst (λ (n : ℕ). n < m) (sym (ap (λ (k : Condition). k.name.step) (some_same at) ∙ ap (λ (i : Implication). i.name.step) (heads these))) below.0
  where
    some_same : Some x ≡ Some c → c ≡ x
    some_same e = cc

    heads : map plain_condition (x ∷ cs) ≡ map (λ d. d.condition) (d ∷ ds) → plain_condition x ≡ d.condition
    heads e = cc
at_place m (x ∷ cs) (d ∷ ds) these below (suc i) c at = at_place m cs ds (tails these) below.1 i c at
  where
    tails : map plain_condition (x ∷ cs) ≡ map (λ d. d.condition) (d ∷ ds) → map plain_condition cs ≡ map (λ d. d.condition) ds
    tails e = cc

-- each condition of what is posed is of a step of the script
steps_stand : (x : TranslatedProgram) (p : PosedScript) → IsPosed x p → (i : ℕ) (c : Condition) → slice_get p.conditions.items i ≡ Some c → c.name.step < length p.script.steps.items
steps_stand x p is i c at =
    let system = plain_system x.system in
    let steps = plain_script p.script in
    let all = length-map p.script.steps.items plain_step in
    at_place (length p.script.steps.items) p.conditions.items (script_list system steps) is.made
    (steps_below system [] 0 (length p.script.steps.items) steps (omega (arith, all))) i c at

-- what is open stands
opens_stand : (x : TranslatedProgram) (p : PosedScript) (k : Setting) (us : List Undecided) → IsPosed x p → AreOpen k p.conditions.items us → AllStand p us
opens_stand x p k [] is all i u at = absurd (cc)
opens_stand x p k (v ∷ us) is all zero u at =
    let numbers = searchable_at (length x.program.variables) p.conditions.items v.place all.0.at.condition is.searchable all.0.at.there in
    subst (Stands p) (same at) (all.0.at.condition, all.0.at.there, steps_stand x p is v.place all.0.at.condition all.0.at.there, numbers.given, numbers.shown)
  where
    same : Some v ≡ Some u → v ≡ u
    same e = cc
opens_stand x p k (v ∷ us) is all (suc i) u at = opens_stand x p k us is all.1 i u at

pub open_stand : (x : TranslatedProgram) (p : PosedScript) (k : Setting) (us : List Undecided) → IsPosed x p → AreOpen k p.conditions.items us → AllStand p us
open_stand x p k us is all = opens_stand x p k us is all

-- the first so many of those that stand do
pub first_stand : (p : PosedScript) (n : ℕ) (us : List Undecided) → AllStand p us → AllStand p (take n us)
first_stand p n us all i u at = all i u (in_whole n us i u at)
  where
    in_whole : (n : ℕ) (us : List Undecided) (i : ℕ) (u : Undecided) → slice_get (take n us) i ≡ Some u → slice_get us i ≡ Some u
    in_whole zero us i u at = absurd (cc)
    in_whole (suc n) [] i u at = absurd (cc)
    in_whole (suc n) (v ∷ us) zero u at = at
    in_whole (suc n) (v ∷ us) (suc i) u at = in_whole n us i u at
