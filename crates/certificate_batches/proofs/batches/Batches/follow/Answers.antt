use Rattle.std.proofs.Common.{◌≡◌, true, [], length, subst, arith, rules}
use Rattle.std.proofs.lemmas.Bool.Decides.{nat_tests}
use Rattle.std.proofs.lemmas.List.{nil_from_length}
use Rattle.certificate_batches.specs.Claims.{setting_of}
use Rattle.certificate_batches.specs.Following.{IsPassed, IsCompared}
use Rattle.certificate_batches.proofs.Steps.{passed_keeps}
use Rattle.certificate_batches.proofs.batches.Batches.follow.Goals as goal

pub returns-in-Same-clause-keeps : goal.returns-in-Same-clause-keeps
returns-in-Same-clause-keeps g c =
    let old = c.args.self.now in
    let claims = c.args.claims.now in
    let k = setting_of claims in
    let cs = claims.conditions.now in
    let is : c.is_empty.result ≡ true = search rules in
    let none : length old.blocks.items ≡ 0 = grind (arith, nat_tests, old.blocks.ok.0, is, c.is_empty.ensures) in
    let empty : old.blocks.items ≡ [] = nil_from_length old.blocks.items none in
    let passed : IsPassed k cs old.discharged old.reader c.follow.new.reader = subst (IsCompared k cs old.discharged old.reader c.follow.new.reader) c.in-Same.is c.in_ok-follow.ensures.compared in
    passed_keeps k cs old c.follow.new.reader empty passed c.requires.unsettled
