-- How many conditions each step of a script has.
use Rattle.std.specs.Prelude.{ℕ, ◌+◌, List, [], ◌∷◌, ◌++◌, length}
use Rattle.transition_system.specs.Systems.{System}
use Rattle.temporal_goals.specs.Texts.{PlainStep}
use Rattle.script_laws.specs.Script.{cited_of, step_list}

-- of the steps behind so many earlier ones
abbrev pub counts_from : System → List PlainStep → ℕ → List PlainStep → List ℕ
counts_from system earlier n [] = []
counts_from system earlier n (s ∷ ss) = length (step_list n system (cited_of earlier s.cited) s.goal s.rule) ∷ counts_from system (earlier ++ s ∷ []) (n + 1) ss

-- of each step of a script
abbrev pub counts_of : System → List PlainStep → List ℕ
counts_of system steps = counts_from system [] 0 steps
