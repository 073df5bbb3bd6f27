-- What is so of a program, its script and conditions once they are posed: names and conditions are as many as they should be,
-- and the conditions may be checked and decided.
use Rattle.std.specs.Prelude.{◌≡◌, ◌≤◌, length}
use Rattle.search_laws.specs.Searchable.{AreSearchable}
use Rattle.step_run.specs.declared.posed.Posed.{Posed}

pub record IsReady (x : Posed) : Type 0 where
  pub named : length x.source.program.variables ≡ length x.source.names.variables
  pub few_variables : length x.source.program.variables ≤ 64
  pub few : length x.conditions.items ≤ 20000
  pub searchable : AreSearchable (length x.source.program.variables) x.conditions.items
