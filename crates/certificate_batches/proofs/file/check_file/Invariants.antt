use Rattle.std.proofs.Common.{◌≡◌, ◌+◌, ◌-◌, ◌≤◌, length}
use Rattle.std.specs.Prelude.{false}
use Rattle.certificate_batches.specs.Finding.{finding}
use Rattle.certificate_batches.specs.Claims.{setting_of, conditions_of, implications_of}
use Rattle.certificate_batches.specs.Turns.{reach}
use Rattle.certificate_batches.specs.Batches.{comes_to, AreInOrder}
use Rattle.certificate_batches.specs.Following.{IsFollower}
use Rattle.certificate_batches.specs.SoFar.{SoFar}
use Rattle.certificate_batches.proofs.file.check_file.Given as goal

abbrev pub invariant-loop-size : goal.invariant-loop-size
invariant-loop-size g l = record {
  same : g.F.Files.told l.files ≡ g.F.Files.told l.initial.files;
  counts : g.F.Files.faults l.files ≡ g.F.Files.faults l.initial.files;
  buffer : length l.buf.items ≡ 65536;
  within : l.size ≤ 268435456 + 65536;
  order : AreInOrder (conditions_of l.claims) l.batches;
  follower : IsFollower l.claims l.follower;
  unfinished : l.batches.reader.finished ≡ false;
  reached : reach l.batches.reader ≤ l.size;
  so_far : SoFar (g.F.Files.told l.initial.files l.name) (finding (setting_of l.claims) (implications_of l.claims)) (comes_to (setting_of l.claims) (conditions_of l.claims) l.batches) l.size;
}

abbrev pub decreases-loop-size : goal.decreases-loop-size
decreases-loop-size g l = 268435456 + 1 - l.size
