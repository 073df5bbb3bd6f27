-- What a run that follows a plan promises of its status, its output and its causes. Which files it may ask for is a relation
-- between a file's part in the run and its name.
use Rattle.std.specs.Prelude.{ℕ, List, ◌≡◌, ◌<◌, ◌-◌, ◌^◌, ◌⊎◌, Option, IfSome}
use Rattle.st_outside.specs.Faults.{Rose}
use Rattle.st_outside.specs.Sink.{behind}
use Rattle.step_report.specs.declared.refusals.FileRole.{FileRole}
use Rattle.step_report.specs.Refused.{read_fault_text}
use Rattle.step_plan.specs.declared.status.Status.{Status}
use Rattle.step_plan.specs.declared.status.Status.TheVariants.{ReadFault, WriteFault, Memory}
use Rattle.step_plan.specs.Outcome.{Outcome}
use Rattle.step_plan.specs.Plan.{Told, Counts, Plan, outcome_of, ComesTo}
use Rattle.step_plan.specs.Writing.{TookProperPrefix}

-- unless the outside failed or memory was refused
abbrev pub UnlessFault : Status → Type 0 → Type 0
UnlessFault ReadFault P = Unit {0}
UnlessFault WriteFault P = Unit {0}
UnlessFault Memory P = Unit {0}
UnlessFault _ P = P

-- the status is that of the outcome, and behind what the sink had before stands its text
pub record IsReached (status : Status) (before now : Option (List ℕ)) (o : Outcome) : Type 0 where
  pub status_is : status ≡ o.status
  pub written : now ≡ behind before o.text

abbrev pub Names : Type 1
Names = FileRole → List ℕ → Type 0

-- the text of a read fault: it names a file that may be asked for, that the run came to, and whose own count rose
pub record IsReadFault (Named : Names) (told : Told) (plan : Plan ⊥) (before now : Counts) (text : List ℕ) : Type 0 where
  pub role : FileRole
  pub name : List ℕ
  pub named : Named role name
  pub asked : ComesTo told plan role name
  pub rose : Rose (before name) (now name)
  pub prints : text ≡ read_fault_text role

-- no count of a file that may be asked for rose, or stands at its end
abbrev pub NoneRose : Names → Counts → Counts → Type 0
NoneRose Named before now = (role : FileRole) (name : List ℕ) → Named role name → (now name ≡ before name) × (now name < 2 ^ 64 - 1)

-- the output text: that of a read fault where a count rose, and the plan's where none did
pub record IsOutput (Named : Names) (told : Told) (plan : Plan ⊥) (before now : Counts) (text : List ℕ) : Type 0 where
  pub fault : (role : FileRole) (name : List ℕ) → Named role name → before name < now name → IsReadFault Named told plan before now text
  pub outcome : NoneRose Named before now → IfSome (outcome_of told plan) (λ o. text ≡ o.text)

-- what the sink holds behind a run
abbrev pub Written : Status → Option (List ℕ) → Option (List ℕ) → (IsText IsFault : List ℕ → Type 0) → Type 0
Written Memory before now IsText IsFault = now ≡ before
Written WriteFault before now IsText IsFault = (text : List ℕ) × IsText text × TookProperPrefix before now text
Written ReadFault before now IsText IsFault = (text : List ℕ) × IsText text × (now ≡ behind before text) × IsFault text
Written _ before now IsText IsFault = (text : List ℕ) × IsText text × (now ≡ behind before text)

-- which counts moved
abbrev pub Causes : Status → Counts → Counts → ℕ → ℕ → Type 0
Causes Memory files files' sink sink' = sink' ≡ sink
Causes ReadFault files files' sink sink' = sink' ≡ sink
Causes WriteFault files files' sink sink' = Rose sink sink'
Causes _ files files' sink sink' = (files' ≡ files) × (sink' ≡ sink)

-- nothing of the outside failed
pub record NothingFailed (Named : Names) (before now : Counts) (sink sink' : ℕ) : Type 0 where
  pub files : NoneRose Named before now
  pub sink_same : sink' ≡ sink
  pub sink_below : sink' < 2 ^ 64 - 1

-- the run ended as the plan says, or memory was refused
abbrev pub EndsHonestly : Status → Option (List ℕ) → Option (List ℕ) → Outcome → Type 0
EndsHonestly status before now o = (status ≡ Memory) ⊎ IsReached status before now o
