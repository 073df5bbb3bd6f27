use Rattle.goal_laws.proofs.Chaining.{chain}
use Rattle.goal_laws.proofs.laws.responses_chain.Goals as goal

pub returns : goal.returns
returns g c p q r d e n o sum least first second = chain o p q r d e n sum least first second
