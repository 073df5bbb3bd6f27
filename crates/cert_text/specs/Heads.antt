-- What stands before the braces of a node, as plain data.
use Rattle.std.specs.Prelude.{ℕ}
use Rattle.st_linear.specs.Linear.{Linear}
use Rattle.cert_text.specs.declared.scan.Branching.{Branching}

pub data Head : Type 0 where
  Node : Branching → ℕ → Head
  Cut : Linear → Head
