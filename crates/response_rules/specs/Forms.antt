-- The short forms of a response as nets: by one helper, by a chain of helpers, by ranks, and under the compassion of one
-- transition (Manna and Pnueli, *Temporal Verification of Reactive Systems: Progress*: rules RESP-J, CHAIN-J, WELL-J and
-- RESP-C).
use Rattle.std.specs.Prelude.{◌≡◌, ℕ, ◌-◌, pos, List, [], ◌∷◌, length, map, Option, Some, None, Result, Ok, Err}
use Rattle.st_linear.specs.Linear.{Linear, number}
use Rattle.st_form.specs.Formula.{Formula}
use Rattle.st_form.specs.Plain.{plain}
use Rattle.st_form.specs.declared.formulas.Form.{Form}
use Rattle.transition_system.specs.Systems.{System}
use Rattle.temporal_goals.specs.Texts.{PlainNode}
use Rattle.temporal_goals.specs.Plain.{plain_net}
use Rattle.temporal_goals.specs.declared.nets.Net.{Net}
use Rattle.ranked_net.specs.Making.{first_fault}
use Rattle.ranked_net.specs.declared.faults.NetFault.{NetFault}
use Rattle.ranked_net.specs.declared.faults.NetFault.TheVariants as faults

-- items as plain data
abbrev pub plain_chain : List (Form × ℕ) → List (Formula × ℕ)
plain_chain items = map (λ x. (plain x.0, x.1)) items

abbrev pub plain_ranked : List (Form × Linear × ℕ) → List (Formula × Linear × ℕ)
plain_ranked items = map (λ x. (plain x.0, x.1, x.2)) items

abbrev pub plain_fair : List (Form × Option ℕ) → List (Formula × Option ℕ)
plain_fair items = map (λ x. (plain x.0, x.1)) items

-- a node with a rank: it is the base and the top, and nothing is delayed
abbrev pub by_rank : Formula → Linear → ℕ → PlainNode
by_rank f rank helper = record { form = f; base = rank; delay = number (pos 0); top = rank; group = None; helper = Some helper }

-- the rank of an item is how many items stand behind it
abbrev pub chain_nodes : List (Formula × ℕ) → List PlainNode
chain_nodes [] = []
chain_nodes (x ∷ xs) = by_rank x.0 (number (pos (length xs))) x.1 ∷ chain_nodes xs

-- each item has a rank of its own
abbrev pub ranked_nodes : List (Formula × Linear × ℕ) → List PlainNode
ranked_nodes items = map (λ x. by_rank x.0 x.1 x.2) items

-- all items stand in one group under one top; the delay of an item is how many items stand behind it
abbrev pub fair_under : ℕ → ℕ → List (Formula × Option ℕ) → List PlainNode
fair_under top group [] = []
fair_under top group (x ∷ xs) =
    record { form = x.0; base = number (pos 0); delay = number (pos (length xs)); top = number (pos top); group = Some group; helper = x.1 } ∷ fair_under top group xs

abbrev pub fair_nodes : ℕ → List (Formula × Option ℕ) → List PlainNode
fair_nodes group items = fair_under (length items - 1) group items

-- want of memory is free
abbrev pub Refuses : NetFault → Option NetFault → Type 0
Refuses faults.Memory reason = Unit {0}
Refuses (faults.UnfairHelper i) reason = reason ≡ Some (faults.UnfairHelper i)
Refuses (faults.NotCompassionate i) reason = reason ≡ Some (faults.NotCompassionate i)
Refuses (faults.NoHelper i) reason = reason ≡ Some (faults.NoHelper i)

-- a short form gives the net of its nodes exactly where none breaks a rule, else the first fault
abbrev pub GivesNet : Result Net NetFault → System → List PlainNode → Type 0
GivesNet (Ok net) system nodes = (first_fault system 0 nodes ≡ None) × (plain_net net ≡ nodes)
GivesNet (Err fault) system nodes = Refuses fault (first_fault system 0 nodes)
