-- What is reported of a given run: that there is none, or how many rounds begin at each position, and of each goal whether it
-- holds on the run. Positions count from 0, moves from 1.
use Rattle.std.specs.Prelude.{ℕ, ◌+◌, List, [], ◌∷◌, ◌++◌, codes}
use Rattle.std.specs.Fmt.{decimal}
use Rattle.st_program.specs.Names.{Names}
use Rattle.temporal_goals.specs.Texts.{PlainStep}
use Rattle.run_judging.specs.declared.judged.Judged.{Judged}
use Rattle.run_judging.specs.declared.judged.Judged.TheVariants.{Holds, Fails, Unclear}
use Rattle.step_report.specs.Names.{line}
use Rattle.step_report.specs.Goals.{goal_text}

-- a schedule of more moves than are read
abbrev pub moves_limit_text : List ℕ
moves_limit_text = line (codes "limit: Moves 1000")

-- the initial condition doesn't hold; the move from this position isn't enabled; a number is too large at this position
abbrev pub illegal_start_text : List ℕ
illegal_start_text = line (codes "illegal: start")

abbrev pub illegal_move_text : ℕ → List ℕ
illegal_move_text k = line (codes "illegal: move " ++ decimal (k + 1))

abbrev pub value_limit_text : ℕ → List ℕ
value_limit_text k = line (codes "value limit: position " ++ decimal k)

-- the rounds that begin at the positions from k on
abbrev pub round_lines : ℕ → List ℕ → List ℕ
round_lines k [] = []
round_lines k (n ∷ ns) = line (codes "rounds " ++ decimal k ++ codes ": " ++ decimal n) ++ round_lines (k + 1) ns

abbrev pub judged_text : Judged → List ℕ
judged_text Holds = codes "holds"
judged_text (Fails k) = codes "fails at " ++ decimal k
judged_text (Unclear k) = codes "unclear at " ++ decimal k

-- each goal, with what was judged of it
abbrev pub judged_lines : Names → List PlainStep → List Judged → List ℕ
judged_lines names [] js = []
judged_lines names (s ∷ ss) [] = []
judged_lines names (s ∷ ss) (j ∷ js) = line (goal_text names s.name s.goal ++ codes ": " ++ judged_text j) ++ judged_lines names ss js

-- a run of so many moves
abbrev pub played_text : Names → List PlainStep → ℕ → List ℕ → List Judged → List ℕ
played_text names steps moves rounds judged = line (codes "played " ++ decimal moves) ++ round_lines 0 rounds ++ judged_lines names steps judged
