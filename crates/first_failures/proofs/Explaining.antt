-- What is so of a condition of a script that isn't decided valid.
use Rattle.std.proofs.Common.{◌≡◌, List, [], ◌∷◌, ◌++◌, length, map, refl, subst}
use Rattle.std.specs.Prelude.{Option, Some, None, IfSome}
use Rattle.st_form.specs.Condition.{Implication}
use Rattle.farkas_check.specs.Problem.{Setting}
use Rattle.temporal_goals.specs.Texts.{PlainStep}
use Rattle.vc_generator.specs.Building.{Draft}
use Rattle.list_laws.specs.Each.{Each}
use Rattle.script_obligations.proofs.Programs.{scripts-typed}
use Rattle.spl_typer.specs.Programs.{Typed}
use Rattle.search_laws.specs.States.{State}
use Rattle.search_laws.specs.Walks.{PathStep}
use Rattle.search_laws.specs.Moves.{open_at, wide_at, decided}
use Rattle.elimination_laws.specs.declared.stage.WideStage.{WideStage}
use Rattle.search_laws.specs.Forms.{AllForms, IsProper, IsInOrder}
use Rattle.search_laws.specs.Ends.{IsTyped, SearchesEndThere}
use Rattle.search_laws.specs.Laws.{IsCounterexample, ShownStatesRefute}
use Rattle.search_laws.specs.Programs.{ProgramsAreInOrder}
use Rattle.open_points.specs.Points.{OpenProblemsHold}
use Rattle.step_run.specs.Source.{IsSpelled}
use Rattle.step_run.specs.Posing.{IsScript}
use Rattle.step_run.specs.Conditions.{system_of, setting_of, drafts, conditions_of}
use Rattle.step_run.proofs.Posing.{is_written}
use Rattle.step_run.proofs.Typed.{well_typed}
use Rattle.step_run.proofs.Headline.{Laws, IsSearched, searched_drafts}
use Rattle.first_failures.specs.Failing.{IsLeftOpen, IsGivenUp}

pub record MoreLaws : Type 0 where
  pub below : Laws
  pub ordered : ProgramsAreInOrder
  pub end_there : SearchesEndThere
  pub refute : ShownStatesRefute
  pub hold : OpenProblemsHold

-- what the laws of the search ask of a condition
record IsAsked (k : Setting) (c : Implication) : Type 0 where
  given : AllForms (IsProper (length k.variables)) c.given
  shown : AllForms (IsProper (length k.variables)) c.shown
  given_typed : IsTyped k c.given
  shown_typed : IsTyped k c.shown

-- what is so of each is so of the one that stands behind some
each_at : (P : Implication → Type 0) (ds : List Draft) (before behind : List Implication) (c : Implication) → Each (λ d. P d.condition) ds → map (λ d. d.condition) ds ≡ before ++ c ∷ behind → P c
each_at P [] [] behind c h e = absurd cc
each_at P [] (b ∷ before) behind c h e = absurd cc
each_at P (d ∷ ds) [] behind c h e = let same : d.condition ≡ c = cc in subst P same h.0
each_at P (d ∷ ds) (b ∷ before) behind c h e = let rest : map (λ d. d.condition) ds ≡ before ++ c ∷ behind = cc in each_at P ds before behind c h.1 rest

both : (p : Typed) (ds : List Draft) → Each (λ d. IsSearched p d) ds → Each (λ d. IsTyped (setting_of p) d.condition.given × IsTyped (setting_of p) d.condition.shown) ds → Each (λ d. IsAsked (setting_of p) d.condition) ds
both p [] h k = tt
both p (d ∷ ds) h k = (record { given = h.0.given; shown = h.0.shown; given_typed = k.0.0; shown_typed = k.0.1 }, both p ds h.1 k.1)

module _ (law : MoreLaws) (p : Typed) (spelled : IsSpelled p) (steps : List PlainStep) (script : IsScript p steps) where
  order : IsInOrder (setting_of p).control
  unfolding setting_of
  order = (law.ordered p.processes).0

  typed_drafts : Each (λ d. IsTyped (setting_of p) d.condition.given × IsTyped (setting_of p) d.condition.shown) (drafts p steps)
  unfolding setting_of system_of drafts
  typed_drafts =
      scripts-typed p.variables p.initial p.processes p.locations p.statements (well_typed p spelled) law.below.within law.ordered steps
      (is_written law.below.over law.below.written p (system_of p) steps spelled refl script)

  asked : (before behind : List Implication) (c : Implication) → conditions_of p steps ≡ before ++ c ∷ behind → IsAsked (setting_of p) c
  asked before behind c are =
      each_at (IsAsked (setting_of p)) (drafts p steps) before behind c (both p (drafts p steps) (searched_drafts law.below p steps spelled script) typed_drafts) are

  module _ (before behind : List Implication) (c : Implication) (are : conditions_of p steps ≡ before ++ c ∷ behind) where
    refuted : (path : List PathStep) (state : Option State) → decided (setting_of p) c.given c.shown ≡ open_at path state → IfSome state (IsCounterexample (setting_of p) c.given c.shown)
    refuted path None e = tt
    refuted path (Some state) e = law.refute (setting_of p) c.given c.shown path state order e

    pub open' : (path : List PathStep) (state : Option State) → decided (setting_of p) c.given c.shown ≡ open_at path state → IsLeftOpen (setting_of p) c path state
    open' path state e =
        let a = asked before behind c are in
        record { verdict = e; leads = law.hold (setting_of p) c.given c.shown path state order a.given_typed a.shown_typed a.given a.shown e; refutes = refuted path state e }

    pub wide' : (path : List PathStep) (stage : WideStage) → decided (setting_of p) c.given c.shown ≡ wide_at path stage → IsGivenUp (setting_of p) c path stage
    wide' path stage e =
        let a = asked before behind c are in
        record { verdict = e; leads = (law.end_there (setting_of p) c.given c.shown order a.given_typed a.shown_typed).wide_path path stage e }
