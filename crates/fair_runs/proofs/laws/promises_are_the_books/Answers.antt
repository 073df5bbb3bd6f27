use Rattle.std.proofs.Common.{ℕ, subst}
use Rattle.st_form.specs.Plain.{plain}
use Rattle.st_program.specs.Plain.{plain_children}
use Rattle.st_program.specs.Programs.{View}
use Rattle.spl_semantics.specs.Runs.{State, image}
use Rattle.temporal_goals.specs.Texts.{PlainGoal}
use Rattle.obligation_laws.specs.Obligations.{HoldsOnRuns}
use Rattle.fair_computations.specs.Fair.{SearchesEnd}
use Rattle.fair_runs.specs.Goals.{HoldsAlong, HoldsEventually}
use Rattle.fair_runs.specs.Sequences.{IsSequenceOf, IsFairSequenceByTheBooks, IsFairSequenceClassically}
use Rattle.fair_runs.proofs.Sequences.{along, eventually, known_fair}
use Rattle.fair_runs.proofs.laws.promises_are_the_books.Goals as goal

abbrev Words : View → Type 0
Words v =
    (aim : PlainGoal) → HoldsOnRuns (plain_children v.processes) (plain v.initial) aim → SearchesEnd → (state : ℕ → State)
    → IsSequenceOf (plain_children v.processes) (plain v.initial) state → IsFairSequenceByTheBooks (plain_children v.processes) state
    → HoldsAlong aim (λ k. image (plain_children v.processes) (state k))

abbrev Classical : View → Type 0
Classical v =
    (aim : PlainGoal) → HoldsOnRuns (plain_children v.processes) (plain v.initial) aim → (state : ℕ → State)
    → IsSequenceOf (plain_children v.processes) (plain v.initial) state → IsFairSequenceClassically (plain_children v.processes) state
    → HoldsEventually aim (λ k. image (plain_children v.processes) (state k))

pub returns : goal.returns
returns c =
    let p = plain_children c.program.inside.processes.items in
    let initial = plain c.program.inside.initial in
    let well = c.program.invariant.well in
    record {
      words = subst Words c.program.view_is (λ aim holds ends state sequence fair. along p initial well state sequence aim holds (known_fair p initial well state sequence ends fair));
      classical = subst Classical c.program.view_is (λ aim holds state sequence fair. eventually p initial well state sequence aim holds fair);
    }
