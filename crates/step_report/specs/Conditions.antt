-- The condition that isn't discharged. Its name is the step's name, the premise, the node's number if it has one, and the
-- transition and mode if it has them.
use Rattle.std.specs.Prelude.{ℕ, ◌+◌, List, [], ◌++◌, codes, slice_get, Option, Some, None}
use Rattle.std.specs.Fmt.{decimal}
use Rattle.st_form.specs.declared.conditions.CondName.{CondName}
use Rattle.st_form.specs.declared.conditions.TransName.{TransName}
use Rattle.st_form.specs.declared.conditions.Premise.{Premise}
use Rattle.st_form.specs.declared.conditions.Premise.TheVariants.{Implies, Start, Keep, Cover, Level, Target, Rank, Help, Move}
use Rattle.st_program.specs.Names.{Names}
use Rattle.temporal_goals.specs.Texts.{PlainRule, basic, stronger, levels, net, diagram, nested, PlainStep}
use Rattle.step_report.specs.declared.conditions.Reason.{Reason}
use Rattle.step_report.specs.declared.conditions.Reason.TheVariants.{Absent, Malformed, OverLimit, NotValid, Open, Wide}
use Rattle.step_report.specs.Names.{line, transition_text}

abbrev pub premise_text : Premise → List ℕ
premise_text Implies = codes "implies"
premise_text Start = codes "start"
premise_text Keep = codes "keep"
premise_text Cover = codes "cover"
premise_text Level = codes "level"
premise_text Target = codes "target"
premise_text Rank = codes "rank"
premise_text Help = codes "help"
premise_text Move = codes "move"

-- nodes of nets count from 1; levels, and nodes of diagrams, have numbers of their own
abbrev pub node_number : PlainRule → ℕ → ℕ
node_number (net nodes) n = n + 1
node_number (nested nodes) n = n + 1
node_number (levels forms) n = n
node_number (diagram drawing) n = n
node_number basic n = n
node_number (stronger form) n = n

abbrev pub node_text : PlainRule → Option ℕ → List ℕ
node_text rule None = []
node_text rule (Some n) = codes " " ++ decimal (node_number rule n)

abbrev pub mode_text : Names → Option TransName → ℕ → List ℕ
mode_text names None mode = []
mode_text names (Some t) mode = codes " " ++ transition_text names t ++ codes " " ++ decimal mode

-- of a step that isn't there a condition has no name
abbrev pub name_text : Names → Option PlainStep → CondName → List ℕ
name_text names None c = []
name_text names (Some s) c = s.name ++ codes " " ++ premise_text c.premise ++ node_text s.rule c.node ++ mode_text names c.trans c.mode

abbrev pub reason_text : Reason → List ℕ
reason_text Absent = codes "absent"
reason_text Malformed = codes "malformed"
reason_text OverLimit = codes "over a limit"
reason_text NotValid = codes "not valid"
reason_text Open = codes "open"
reason_text Wide = codes "wide"

-- condition n of these steps isn't discharged
abbrev pub not_proved_text : Names → List PlainStep → ℕ → CondName → Reason → List ℕ
not_proved_text names steps n c reason =
    line (codes "not proved: condition " ++ decimal n ++ codes ", " ++ name_text names (slice_get steps c.step) c ++ codes ", " ++ reason_text reason)
