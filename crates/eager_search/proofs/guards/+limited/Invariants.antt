use Rattle.std.proofs.Common.{drop}
use Rattle.st_certificate.specs.Plain.{plain_trees}
use Rattle.farkas_check.specs.Limits.{AreLimited}
use Rattle.eager_search.proofs.guards.+limited.Given as goal

abbrev pub invariant-are_limited-loop-certificate : goal.invariant-are_limited-loop-certificate
invariant-are_limited-loop-certificate l = AreLimited (plain_trees (drop l.certificate-index l.certificates)) → AreLimited (plain_trees l.certificates)
