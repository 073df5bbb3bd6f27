use Rattle.diagram_conditions.proofs.Levels.{level-form, level-none}
use Rattle.diagram_conditions.proofs.ends.level_goal.Goals as goal

pub returns-then-level-goals : goal.returns-then-level-goals
returns-then-level-goals c = level-form c.args.level c.args.goals.now c.index-goals-goals.result c.if-level-goals.true c.index-goals-goals.is

pub returns-else-level-goals : goal.returns-else-level-goals
returns-else-level-goals c = level-none c.args.level c.args.goals.now c.if-level-goals.false
