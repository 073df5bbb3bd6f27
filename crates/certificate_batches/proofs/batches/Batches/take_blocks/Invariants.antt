use Rattle.std.proofs.Common.{◌≡◌, ◌+◌, ◌-◌, ◌≤◌, None, length}
use Rattle.certificate_batches.specs.Claims.{setting_of, conditions_of}
use Rattle.certificate_batches.specs.Turns.{reach}
use Rattle.certificate_batches.specs.Following.{IsFollower}
use Rattle.certificate_batches.specs.Batches.{Keeps, AreInOrder}
use Rattle.certificate_batches.proofs.batches.Batches.take_blocks.Given as goal

abbrev pub invariant-loop-self : goal.invariant-loop-self
invariant-loop-self g l = record {
  keeps : Keeps (setting_of l.claims) (conditions_of l.claims) l.initial.self l.self;
  order : AreInOrder (conditions_of l.claims) l.self;
  follower : IsFollower l.claims l.follower;
  finished : l.self.reader.finished ≡ l.initial.self.reader.finished;
  reached : reach l.self.reader ≤ reach l.initial.self.reader;
  unsettled : l.self.settled ≡ None;
}

abbrev pub decreases-loop-self : goal.decreases-loop-self
decreases-loop-self g l = length l.claims.conditions.now - (l.self.discharged + length l.self.blocks.items)
