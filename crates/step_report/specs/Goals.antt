-- What is reported of a proof whose conditions are all discharged.
use Rattle.std.specs.Prelude.{ℕ, ◌+◌, List, [], ◌∷◌, ◌++◌, length, codes}
use Rattle.std.specs.Fmt.{decimal}
use Rattle.cert_text.specs.Spelling.{block_text}
use Rattle.st_certificate.specs.Tree.{Tree}
use Rattle.st_program.specs.Names.{Names}
use Rattle.temporal_goals.specs.Texts.{PlainGoal, invariant, waiting, response, PlainStep}
use Rattle.step_report.specs.Names.{line}
use Rattle.step_report.specs.Sums.{sum_text}

-- a goal by its step's name; a response with its bound
abbrev pub goal_text : Names → List ℕ → PlainGoal → List ℕ
goal_text names name (invariant p) = codes "invariant " ++ name
goal_text names name (waiting p qs) = codes "waiting " ++ name
goal_text names name (response p q bound) = codes "response " ++ name ++ codes " within " ++ sum_text names bound

abbrev pub goal_lines : Names → List PlainStep → List ℕ
goal_lines names [] = []
goal_lines names (s ∷ ss) = line (goal_text names s.name s.goal) ++ goal_lines names ss

abbrev pub counts_text : List PlainStep → ℕ → List ℕ
counts_text steps conditions = codes "proved: goals " ++ decimal (length steps) ++ codes ", conditions " ++ decimal conditions

-- of `check` and `verify`
abbrev pub proved_text : Names → List PlainStep → ℕ → List ℕ
proved_text names steps conditions = line (counts_text steps conditions) ++ goal_lines names steps

-- of a workload, behind its own line
abbrev pub counted_text : List PlainStep → ℕ → ℕ → List ℕ
counted_text steps conditions nodes = line (counts_text steps conditions ++ codes ", nodes " ++ decimal nodes)

-- in front of whatever a workload comes to
abbrev pub workload_line : ℕ → List ℕ
workload_line n = line (codes "workload " ++ decimal n)

-- the blocks of certificates from number n on
abbrev pub blocks_text : ℕ → List Tree → List ℕ
blocks_text n [] = []
blocks_text n (t ∷ ts) = block_text n t ++ blocks_text (n + 1) ts

-- of `prove`: a text of certificates of version 2
abbrev pub certificates_text : List Tree → List ℕ
certificates_text ts = codes "version 2;\n" ++ blocks_text 1 ts
