use Rattle.block_laws.proofs.Tests.{certificate_is, certificate_of}
use Rattle.block_laws.proofs.laws.test_is_exact.Goals as goal

pub returns : goal.returns
returns c = λ k given shown t. (λ e. certificate_is k given shown t e, λ h. certificate_of k given shown t h)
