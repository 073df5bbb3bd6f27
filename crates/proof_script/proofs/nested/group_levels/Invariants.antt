use Rattle.std.proofs.Common.{◌≡◌, ◌≤◌, [], map}
use Rattle.st_tokens.specs.Stream.{stream}
use Rattle.st_reading.specs.Reading.{size}
use Rattle.temporal_goals.specs.Plain.{plain_level}
use Rattle.proof_script.specs.Listing.{setting_view}
use Rattle.proof_script.specs.Rules.{group_levels_of}
use Rattle.proof_script.proofs.nested.group_levels.Given as goal

abbrev pub invariant-groups : goal.invariant-groups
invariant-groups l =
    (group_levels_of (setting_view l.setting) l.room (map plain_level l.levels.items) (stream l.tokens) ≡ group_levels_of (setting_view l.setting) 4 [] (stream l.fn.tokens)) × (size (stream l.tokens) ≤ size (stream l.fn.tokens))

abbrev pub decreases-groups : goal.decreases-groups
decreases-groups l = l.room
