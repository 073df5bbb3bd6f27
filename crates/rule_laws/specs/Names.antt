-- Names of transitions that a node may have or lack: numbers in a system.
use Rattle.std.specs.Prelude.{ℕ, Bool, true, false, ◌==◌, Option, None, Some, slice_get}
use Rattle.st_form.specs.Formula.{Formula, truth_value}
use Rattle.transition_system.specs.Systems.{PlainTransition, System}
use Rattle.transition_system.specs.Meaning.{enabled_form}

abbrev pub is_name : Option ℕ → ℕ → Bool
is_name None n = false
is_name (Some m) n = m == n

-- both have the same group, or none has one
abbrev pub same_group : Option ℕ → Option ℕ → Bool
same_group None None = true
same_group None (Some h) = false
same_group (Some g) None = false
same_group (Some g) (Some h) = g == h

abbrev pub enabled_if : Option PlainTransition → Formula
enabled_if None = truth_value false
enabled_if (Some t) = enabled_form t

-- the transition is enabled; one that is absent never is
abbrev pub enabled_of : System → Option ℕ → Formula
enabled_of system None = truth_value false
enabled_of system (Some n) = enabled_if (slice_get system.transitions n)
