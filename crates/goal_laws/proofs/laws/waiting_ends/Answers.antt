use Rattle.goal_laws.proofs.Waiting.{ends}
use Rattle.goal_laws.proofs.laws.waiting_ends.Goals as goal

pub returns : goal.returns
returns g c p a b e o waits responds = ends o p a b e waits responds
