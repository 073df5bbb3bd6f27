use Rattle.equation_writer.proofs.Finding.{found_are_proper}
use Rattle.equation_writer.proofs.laws.what_is_found_is_proper.Goals as goal

pub returns : goal.returns
returns c = found_are_proper
