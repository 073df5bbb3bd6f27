-- What every script that is read obeys: it is a proof, and the nodes of its nested nets stand in few groups.
use Rattle.std.specs.Prelude.{◌≡◌, ℕ, ◌≤◌, List, [], length, All, Ok, ⊤}
use Rattle.st_program.specs.Names.{Names}
use Rattle.transition_system.specs.Systems.{System}
use Rattle.temporal_goals.specs.Texts.{PlainRule, basic, stronger, levels, net, diagram, nested, PlainStep}
use Rattle.rule_fits.specs.Obeying.{CiteLemmas, RuleFits, IsProof}
use Rattle.proof_script.specs.Script.{script_spelled}

-- each step cites invariances among those before it
abbrev pub ScriptsCiteInvariances : Type 0
ScriptsCiteInvariances = (names : Names) (system : System) (text : List ℕ) (steps : List PlainStep) → script_spelled names system text ≡ Ok steps → CiteLemmas [] steps

-- the rule of each step fits its goal and the system
abbrev pub RulesFitGoals : Type 0
RulesFitGoals =
    (names : Names) (system : System) (text : List ℕ) (steps : List PlainStep) → script_spelled names system text ≡ Ok steps → All (λ s. RuleFits system s.goal s.rule) steps

-- both
abbrev pub ScriptsAreProofs : Type 0
ScriptsAreProofs = (names : Names) (system : System) (text : List ℕ) (steps : List PlainStep) → script_spelled names system text ≡ Ok steps → IsProof system steps

-- a node of a nested net stands in at most four groups
abbrev pub HasFewGroups : PlainRule → Type 0
HasFewGroups basic = ⊤
HasFewGroups (stronger f) = ⊤
HasFewGroups (levels fs) = ⊤
HasFewGroups (net ns) = ⊤
HasFewGroups (diagram d) = ⊤
HasFewGroups (nested ns) = All (λ n. length n.levels ≤ 4) ns

abbrev pub GroupsAreFew : Type 0
GroupsAreFew = (names : Names) (system : System) (text : List ℕ) (steps : List PlainStep) → script_spelled names system text ≡ Ok steps → All (λ s. HasFewGroups s.rule) steps
