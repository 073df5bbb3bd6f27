use Rattle.std.proofs.Common.{◌≡◌, ◌<◌, ◌≤◌, ℕ, slice_get}
use Rattle.std.specs.Option.{option_map}
use Rattle.run_judging.specs.Paying.{earlier, is_on, is_of}
use Rattle.run_judging.proofs.ahead.look_back.Given as goal

abbrev pub invariant-loop-name : goal.invariant-loop-name
invariant-loop-name l = record {
  done : (x : ℕ) → x < l.name → slice_get l.aheads x ≡ option_map (earlier l.position (is_on l.enabled x) (is_of l.taken x)) (slice_get l.fn.aheads x);
  rest : (x : ℕ) → l.name ≤ x → slice_get l.aheads x ≡ slice_get l.fn.aheads x;
}
