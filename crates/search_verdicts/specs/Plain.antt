-- What the search says, as plain data.
use Rattle.std.specs.Prelude.{ℕ, List, map}
use Rattle.std.specs.Option.{option_map}
use Rattle.st_certificate.specs.Tree.{Step, by_case, by_truth, by_split}
use Rattle.st_certificate.specs.Plain.{plain as tree_of}
use Rattle.search_laws.specs.States.{State}
use Rattle.search_laws.specs.Walks as plain
use Rattle.search_laws.specs.Moves as moves
use Rattle.search_verdicts.specs.declared.verdict.PathKind.{PathKind}
use Rattle.search_verdicts.specs.declared.verdict.PathKind.TheVariants as kind
use Rattle.search_verdicts.specs.declared.verdict.PathStep.{PathStep}
use Rattle.search_verdicts.specs.declared.verdict.Shown.{Shown}
use Rattle.search_verdicts.specs.declared.verdict.Verdict.{Verdict}
use Rattle.search_verdicts.specs.declared.verdict.Verdict.TheVariants.{Valid, Open, Wide}

abbrev pub step_by : PathKind → ℕ → Step
step_by kind.Case n = by_case n
step_by kind.Bool n = by_truth n
step_by kind.Split n = by_split n

abbrev pub plain_step : PathStep → plain.PathStep
plain_step s = record { step = step_by s.kind s.number; branch = s.branch }

abbrev pub plain_path : List PathStep → List plain.PathStep
plain_path steps = map plain_step steps

abbrev pub plain_shown : Shown → State
plain_shown s = record { control = s.control.items; store = s.store.items }

-- what is said of a condition
abbrev pub plain_verdict : Verdict → moves.Verdict
plain_verdict (Valid c) = moves.valid (tree_of c)
plain_verdict (Open path state) = moves.open_at (plain_path path.items) (option_map plain_shown state)
plain_verdict (Wide path w) = moves.wide_at (plain_path path.items) w
