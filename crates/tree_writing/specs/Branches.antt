-- What stands before the parts of a branch.
use Rattle.std.specs.Prelude.{ℕ, List, codes}
use Rattle.cert_text.specs.Spelling.{head_text}
use Rattle.tree_table.specs.declared.nodes.Step.{Step}
use Rattle.tree_table.specs.declared.nodes.Step.TheVariants.{Case, Truth, Split}

abbrev pub step_text : Step → List ℕ
step_text (Case c) = head_text (codes "case ") c
step_text (Truth v) = head_text (codes "bool ") v
step_text (Split k) = head_text (codes "split ") k
