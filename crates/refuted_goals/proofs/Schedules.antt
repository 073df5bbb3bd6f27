-- A schedule that is played gives the run that it stands for, and no other.
use Rattle.std.proofs.Common.{◌≡◌, ℕ, Bool, true, false, List, [], ◌∷◌, map, refl, sym, ap, ◌∙◌, subst}
use Rattle.std.specs.Prelude.{◌↔◌}
use Rattle.st_form.specs.declared.conditions.TransName.{TransName}
use Rattle.st_program.specs.declared.residuals.Datum.{Datum}
use Rattle.st_program.specs.Programs.{WellFormed}
use Rattle.spl_semantics.specs.Stores.{holds}
use Rattle.spl_semantics.specs.Data.{store_of, types, StoreFits}
use Rattle.spl_semantics.specs.Runs.{State, first}
use Rattle.spl_semantics.specs.Observed.{observed}
use Rattle.spl_semantics.proofs.SeenRuns.{seen_is, observed_seen}
use Rattle.temporal_goals.specs.Texts.{PlainStep}
use Rattle.spl_typer.specs.Programs.{Typed}
use Rattle.spl_typer.proofs.Tabled.{kinds_stand}
use Rattle.typing_laws.proofs.Whole.{typed_is_well}
use Rattle.schedule_reader.specs.Values.{has_type}
use Rattle.schedule_reader.specs.Schedules.{PlainSchedule}
use Rattle.trace_player.specs.Playing.{Outcome, made, too_large, illegal, outcome}
use Rattle.trace_laws.proofs.Played.{made_follows, run_made}
use Rattle.posed_conditions.specs.declared.translated.TranslatedProgram.{TranslatedProgram}
use Rattle.posed_conditions.specs.Translated.{IsTranslated, typed_of}
use Rattle.refuted_goals.specs.Refuted.{start_of, LastFails, FailsBy}
use Rattle.refuted_goals.proofs.Answers.{through}
use Rattle.trace_player.proofs.Fitting.{types_are}

module _ (x : TranslatedProgram) (translated : IsTranslated x) where
  -- names are those of the program's variables, and the store of a schedule is one of the program
  pub names_are : map (λ v. v.1) x.names.variables ≡ map (λ v. v.truth) x.program.variables
  names_are = kinds_stand translated.tree (typed_of x) translated.types

  pub store_fits : (ds : List Datum) → map (has_type true) ds ≡ map (λ v. v.1) x.names.variables → StoreFits x.program.variables ds
  store_fits ds is = types_are ds ∙ is ∙ names_are

  module _ (steps : List PlainStep) (s : PlainSchedule) where
    abbrev p : Typed
    p = typed_of x

    well : WellFormed p.processes
    well = (typed_is_well translated.tree p translated.types).well

    -- how the schedule ends where it gives a run on which the last goal fails
    ends_made : (f : FailsBy p steps s) → outcome p.processes s.moves (start_of p s) 0 ≡ made f.run.later
    ends_made f = run_made p.processes p.initial well s.moves (start_of p s) 0 f.run.later (first f.run.first) f.run.run

    abbrev later_in : Outcome → List (TransName × State)
    later_in (made later) = later
    later_in (too_large k) = []
    later_in (illegal k) = []

    pub where_made : (later : List (TransName × State)) → holds p.initial (store_of s.store) ≡ true → outcome p.processes s.moves (start_of p s) 0 ≡ made later
        → (b : Bool) → (b ≡ true) ↔ LastFails steps (observed p.processes (start_of p s) later) → (b ≡ true) ↔ FailsBy p steps s
    where_made later meets is b h = through b h forth back where
      forth : LastFails steps (observed p.processes (start_of p s) later) → FailsBy p steps s
      forth fails = record {
        seen = observed p.processes (start_of p s) later;
        run = record {
          later = later;
          first = record { begins = refl; meets = meets };
          run = made_follows p.processes well.numbered s.moves (start_of p s) 0 later is;
          seen = observed_seen p.processes well.numbered (start_of p s) later;
        };
        fails = fails;
      }

      back : FailsBy p steps s → LastFails steps (observed p.processes (start_of p s) later)
      back f =
          let seen = seen_is p.processes well.numbered (start_of p s) f.run.later f.seen f.run.seen in
          let same = ap later_in (sym (ends_made f) ∙ is) in
          subst (LastFails steps) (seen ∙ ap (observed p.processes (start_of p s)) same) f.fails

    pub never_starts : holds p.initial (store_of s.store) ≡ false → FailsBy p steps s → ⊥
    never_starts fails f = let begins : holds p.initial (store_of s.store) ≡ true = f.run.first.meets in cc

    pub grows_too_large : (k : ℕ) → outcome p.processes s.moves (start_of p s) 0 ≡ too_large k → FailsBy p steps s → ⊥
    grows_too_large k is f = let e : too_large k ≡ made f.run.later = sym is ∙ ends_made f in cc

    pub stops : (k : ℕ) → outcome p.processes s.moves (start_of p s) 0 ≡ illegal k → FailsBy p steps s → ⊥
    stops k is f = let e : illegal k ≡ made f.run.later = sym is ∙ ends_made f in cc
