-- The texts of runs that report nothing: words, texts and files that are refused, limits, schedules that give no run.
use Rattle.std.specs.Prelude.{ℕ, List, [], ◌∷◌, codes}
use Rattle.step_report.specs.declared.ends.End.{End}
use Rattle.step_report.specs.declared.ends.End.TheVariants as ends
use Rattle.step_report.specs.declared.refusals.FileRole.TheVariants.{Program, Proof, Schedule}
use Rattle.step_report.specs.declared.usage.Command.{Command}
use Rattle.step_report.specs.declared.usage.Command.TheVariants as commands
use Rattle.step_report.specs.Names.{line}
use Rattle.step_report.specs.Limits.{limit_text}
use Rattle.step_report.specs.Refused.{words_refused_text, read_fault_text, refused_text, trailing_text}
use Rattle.step_report.specs.Traces.{moves_limit_text, illegal_start_text, illegal_move_text, value_limit_text}

-- the commands that are answered
abbrev pub answered : List Command
answered = commands.Check ∷ commands.Verify ∷ commands.Prove ∷ commands.Workload ∷ commands.Trace ∷ commands.Invariants ∷ []

-- a number is too large while invariants are looked for
abbrev pub wide_invariants_text : List ℕ
wide_invariants_text = line (codes "wide: invariants")

abbrev pub end_text : End → List ℕ
end_text ends.Words = words_refused_text answered
end_text (ends.ReadFault role) = read_fault_text role
end_text (ends.Limit kind) = limit_text kind
end_text (ends.Program kind place) = refused_text Program kind place
end_text (ends.Proof kind place) = refused_text Proof kind place
end_text (ends.Schedule kind place) = refused_text Schedule kind place
end_text ends.Moves = moves_limit_text
end_text ends.NoStart = illegal_start_text
end_text (ends.NotEnabled k) = illegal_move_text k
end_text (ends.TooLarge k) = value_limit_text k
end_text ends.WideInvariants = wide_invariants_text
end_text (ends.Trailing place) = trailing_text place
