-- From how the work ended to what the whole run promises.
use Rattle.std.proofs.Common.{◌≡◌, inl, inr, ℕ, ◌<◌, ◌^◌, ◌-◌, List, subst, sym, ap, ◌∙◌, refl, arith}
use Rattle.std.specs.Prelude.{Option, Some, None, IfSome}
use Rattle.st_outside.specs.Faults.{Rose}
use Rattle.st_outside.specs.Sink.{behind}
use Rattle.step_report.specs.declared.refusals.FileRole.{FileRole}
use Rattle.step_plan.specs.declared.ended.Ended.{Ended}
use Rattle.step_plan.specs.declared.status.Status.{Status}
use Rattle.step_plan.specs.declared.status.Status.TheVariants.{ReadFault, WriteFault, Memory}
use Rattle.step_plan.specs.Outcome.{Outcome, ended_view, IsDecided}
use Rattle.step_plan.specs.Plan.{Told, Counts, Plan, outcome_of, ComesTo, Faulted, Follows}
use Rattle.step_plan.specs.Ending.{Names, UnlessFault, IsReached, IsReadFault, IsOutput, Written, Causes, NothingFailed, EndsHonestly}
use Rattle.step_plan.proofs.Follow.{one_end}

weaker : (o : Option Outcome) (P Q : Outcome → Type 0) → ((x : Outcome) → P x → Q x) → IfSome o P → IfSome o Q
weaker None P Q f h = tt
weaker (Some x) P Q f h = f x h

pub unless : (s : Status) (P : Type 0) → P → UnlessFault s P
unless ReadFault P p = tt
unless WriteFault P p = tt
unless Memory P p = tt
unless _ P p = p

written_decided : (s : Status) → IsDecided s → (before now : Option (List ℕ)) (IsText IsFault : List ℕ → Type 0) (text : List ℕ) → IsText text → now ≡ behind before text → Written s before now IsText IsFault
written_decided ReadFault d before now IsText IsFault text is taken = absurd d
written_decided WriteFault d before now IsText IsFault text is taken = absurd d
written_decided Memory d before now IsText IsFault text is taken = absurd d
written_decided _ d before now IsText IsFault text is taken = (text, is, taken)

causes_decided : (s : Status) → IsDecided s → (files files' : Counts) (sink sink' : ℕ) → files' ≡ files → sink' ≡ sink → Causes s files files' sink sink'
causes_decided ReadFault d files files' sink sink' f s = absurd d
causes_decided WriteFault d files files' sink sink' f s = absurd d
causes_decided Memory d files files' sink sink' f s = absurd d
causes_decided _ d files files' sink sink' f s = (f, s)

same_not_rose : (before now : ℕ) → now ≡ before → now < 2 ^ 64 - 1 → Rose before now → ⊥
same_not_rose before now same below rose = omega arith

reached : (ended : Ended) (taken taken' : Option (List ℕ)) (o : Outcome) → taken' ≡ behind taken ended.text.items → ended_view ended ≡ o → IsReached ended.status taken taken' o
reached ended taken taken' o wrote is = record {
  status_is = ap (λ (x : Outcome). x.status) is;
  written = wrote ∙ ap (λ (x : Outcome). behind taken x.text) is;
}

module _ (Named : Names) (told : Told) (plan : Plan ⊥) (before now : Counts) (ended : Ended) (named : (role : FileRole) (name : List ℕ) → ComesTo told plan role name → Named role name) where
  read_fault_of : Faulted told before now plan ended → IsReadFault Named told plan before now ended.text.items
  read_fault_of f = record {
    role = f.role;
    name = f.name;
    named = named f.role f.name f.asked;
    asked = f.asked;
    rose = f.rose;
    prints = ap (λ (o : Outcome). o.text) f.view;
  }

  status_of : Faulted told before now plan ended → ended.status ≡ ReadFault
  status_of f = ap (λ (o : Outcome). o.status) f.view

  pub output : Follows told before now plan ended → IsOutput Named told plan before now ended.text.items
  output (inl plain) = record {
    fault = λ role name is rose. (let same : now name ≡ before name = ap (λ (f : Counts). f name) plain.quiet in absurd (omega arith));
    outcome = λ none. weaker (outcome_of told plan) (λ o. ended_view ended ≡ o) (λ o. ended.text.items ≡ o.text) (λ o e. ap (λ (x : Outcome). x.text) e) (one_end told plan (ended_view ended) plain.outcome);
  }
  output (inr f) = record {
    fault = λ role name is rose. read_fault_of f;
    outcome = λ none. (let n = none f.role f.name (named f.role f.name f.asked) in absurd (same_not_rose (before f.name) (now f.name) n.0 n.1 f.rose));
  }

  module _ (taken taken' : Option (List ℕ)) (wrote : taken' ≡ behind taken ended.text.items) where
    abbrev Reached : Outcome → Type 0
    Reached o = IsReached ended.status taken taken' o

    pub outcome_is : Follows told before now plan ended → UnlessFault ended.status (IfSome (outcome_of told plan) (IsReached ended.status taken taken'))
    outcome_is (inl plain) =
        unless ended.status _ (weaker (outcome_of told plan) (λ o. ended_view ended ≡ o) Reached (λ o e. reached ended taken taken' o wrote e) (one_end told plan (ended_view ended) plain.outcome))
    outcome_is (inr f) = subst (λ (s : Status). UnlessFault s (IfSome (outcome_of told plan) (IsReached s taken taken'))) (sym (status_of f)) tt

    pub written_is : Follows told before now plan ended → Written ended.status taken taken' (IsOutput Named told plan before now) (IsReadFault Named told plan before now)
    written_is (inl plain) = written_decided ended.status plain.decided taken taken' _ _ ended.text.items (output (inl plain)) wrote
    written_is (inr f) =
        subst (λ (s : Status). Written s taken taken' (IsOutput Named told plan before now) (IsReadFault Named told plan before now)) (sym (status_of f))
        (ended.text.items, output (inr f), wrote, read_fault_of f)

    pub honest_is : (sink sink' : ℕ) → Follows told before now plan ended → NothingFailed Named before now sink sink' → IfSome (outcome_of told plan) (EndsHonestly ended.status taken taken')
    honest_is sink sink' (inl plain) nothing =
        weaker (outcome_of told plan) (λ o. ended_view ended ≡ o) (EndsHonestly ended.status taken taken') (λ o e. inr (reached ended taken taken' o wrote e)) (one_end told plan (ended_view ended) plain.outcome)
    honest_is sink sink' (inr f) nothing =
        let n = nothing.files f.role f.name (named f.role f.name f.asked) in
        absurd (same_not_rose (before f.name) (now f.name) n.0 n.1 f.rose)

  pub causes_are : (sink sink' : ℕ) → sink' ≡ sink → Follows told before now plan ended → Causes ended.status before now sink sink'
  causes_are sink sink' is (inl plain) = causes_decided ended.status plain.decided before now sink sink' plain.quiet is
  causes_are sink sink' is (inr f) = subst (λ (s : Status). Causes s before now sink sink') (sym (status_of f)) is

pub not_nothing : (Named : Names) (before now : Counts) (sink sink' : ℕ) → Rose sink sink' → NothingFailed Named before now sink sink' → ⊥
not_nothing Named before now sink sink' rose nothing = same_not_rose sink sink' nothing.sink_same nothing.sink_below rose

pub memory_honest : (o : Option Outcome) (taken taken' : Option (List ℕ)) → IfSome o (EndsHonestly Memory taken taken')
memory_honest None taken taken' = tt
memory_honest (Some x) taken taken' = inl refl
