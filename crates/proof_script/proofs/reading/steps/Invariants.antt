use Rattle.std.proofs.Common.{◌≡◌, ◌+◌, ◌≤◌, [], length, map}
use Rattle.st_tokens.specs.Stream.{stream}
use Rattle.st_reading.specs.Reading.{size}
use Rattle.st_reading.proofs.Chains.{Running}
use Rattle.st_program.specs.Names.{as_bytes}
use Rattle.temporal_goals.specs.Plain.{plain_step}
use Rattle.proof_script.specs.Listing.{setting_view}
use Rattle.proof_script.specs.Steps.{claim_in, earlier_of}
use Rattle.proof_script.specs.Script.{step_turn, ended, steps_of}
use Rattle.proof_script.proofs.reading.steps.Given as goal

abbrev pub invariant-chain : goal.invariant-chain
invariant-chain l =
    Running claim_in (step_turn (setting_view l.setting)) ended (map plain_step l.steps.items) (stream l.tokens) (stream l.fn.tokens) (steps_of (setting_view l.setting) [] (stream l.fn.tokens))
    × (as_bytes l.earlier.entries ≡ earlier_of (map plain_step l.steps.items))
    × (length l.earlier.entries + size (stream l.tokens) ≤ size (stream l.fn.tokens))

abbrev pub decreases-chain : goal.decreases-chain
decreases-chain l = size (stream l.tokens)
