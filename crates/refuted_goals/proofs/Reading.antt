-- What three texts spell is one program, one script and one schedule.
use Rattle.std.proofs.Common.{◌≡◌, ℕ, ◌≤◌, ◌<◌, Bool, true, List, length, sym, ap, ◌∙◌, subst, arith}
use Rattle.std.specs.Prelude.{◌↔◌, Result, Ok}
use Rattle.st_program.specs.Plain.{plain_children}
use Rattle.transition_system.specs.Plain.{plain_system}
use Rattle.temporal_goals.specs.Texts.{PlainStep}
use Rattle.spl_parser.specs.Parsing.{parsed}
use Rattle.spl_typer.specs.Programs.{Typed, typing}
use Rattle.proof_script.specs.Script.{script_spelled}
use Rattle.schedule_reader.specs.Schedules.{PlainSchedule, schedule_spelled}
use Rattle.posed_conditions.specs.declared.translated.TranslatedProgram.{TranslatedProgram}
use Rattle.posed_conditions.specs.Translated.{IsOfText, typed_of}
use Rattle.refuted_goals.specs.Refuted.{system_of, FailsBy, SpellsProgram, Refutes}
use Rattle.refuted_goals.proofs.Answers.{through}

same_ok : {A E : Type 0} (r : Result A E) (a b : A) → r ≡ Ok a → r ≡ Ok b → a ≡ b
same_ok r a b e f = cc

module _ (x : TranslatedProgram) where
  -- the text of a schedule spells one by which the last goal fails
  abbrev pub ScheduleFails : List PlainStep → List ℕ → Type 0
  ScheduleFails steps text = (s : PlainSchedule) × (schedule_spelled x.names (plain_children x.program.processes) text ≡ Ok s) × FailsBy (typed_of x) steps s

  pub of_schedule : (steps : List PlainStep) (text : List ℕ) (s : PlainSchedule) → schedule_spelled x.names (plain_children x.program.processes) text ≡ Ok s
      → (b : Bool) → (b ≡ true) ↔ FailsBy (typed_of x) steps s → (b ≡ true) ↔ ScheduleFails steps text
  of_schedule steps text s is b h = through b h (λ f. (s, is, f)) (λ f. subst (FailsBy (typed_of x) steps) (same_ok _ f.0 s f.1 is) f.2)

  -- and that of a proof a script, whose last goal fails so
  abbrev pub ProofFails : List ℕ → List ℕ → Type 0
  ProofFails proof schedule = (steps : List PlainStep) × (script_spelled x.names (plain_system x.system) proof ≡ Ok steps) × ScheduleFails steps schedule

  pub of_proof : (proof schedule : List ℕ) (steps : List PlainStep) → script_spelled x.names (plain_system x.system) proof ≡ Ok steps
      → (b : Bool) → (b ≡ true) ↔ ScheduleFails steps schedule → (b ≡ true) ↔ ProofFails proof schedule
  of_proof proof schedule steps is b h = through b h (λ f. (steps, is, f)) (λ f. subst (λ t. ScheduleFails t schedule) (same_ok _ f.0 steps f.1 is) f.2)

  module _ (program proof schedule : List ℕ) (short : (length proof ≤ 4194304) × (length schedule ≤ 4194304)) (of : IsOfText program x) where
    abbrev p : Typed
    p = typed_of x

    spells : SpellsProgram program p
    spells = record { tree = of.made.tree; spells = of.spells; types = of.made.types }

    -- a text spells one program
    same_program : (q : Typed) → SpellsProgram program q → q ≡ p
    same_program q h =
        let tree : h.tree ≡ of.made.tree = same_ok (parsed program) h.tree of.made.tree h.spells of.spells in
        same_ok (typing of.made.tree) q p (sym (ap typing tree) ∙ h.types) of.made.types

    forth : ProofFails proof schedule → Refutes program proof schedule
    forth f = record {
      short = short;
      typed = p;
      is_program = spells;
      steps = f.0;
      is_proof = subst (λ s. script_spelled x.names s proof ≡ Ok f.0) of.made.system f.1;
      moves = f.2.0;
      is_schedule = f.2.1;
      fails = f.2.2;
    }

    record Failing (q : Typed) : Type 0 where
      steps : List PlainStep
      is_proof : script_spelled q.names (system_of q) proof ≡ Ok steps
      moves : PlainSchedule
      is_schedule : schedule_spelled q.names q.processes schedule ≡ Ok moves
      fails : FailsBy q steps moves

    back : Refutes program proof schedule → ProofFails proof schedule
    back r =
        let f = subst Failing (same_program r.typed r.is_program) (record { steps = r.steps; is_proof = r.is_proof; moves = r.moves; is_schedule = r.is_schedule; fails = r.fails }) in
        (f.steps, subst (λ s. script_spelled x.names s proof ≡ Ok f.steps) (sym of.made.system) f.is_proof, (f.moves, f.is_schedule, f.fails))

    pub of_program : (b : Bool) → (b ≡ true) ↔ ProofFails proof schedule → (b ≡ true) ↔ Refutes program proof schedule
    of_program b h = through b h forth back

-- a text that is too long refutes nothing
pub long_proof : (program proof schedule : List ℕ) → 4194304 < length proof → Refutes program proof schedule → ⊥
long_proof program proof schedule long r = let short = r.short.0 in absurd (omega (arith, short, long))

pub long_schedule : (program proof schedule : List ℕ) → 4194304 < length schedule → Refutes program proof schedule → ⊥
long_schedule program proof schedule long r = let short = r.short.1 in absurd (omega (arith, short, long))
