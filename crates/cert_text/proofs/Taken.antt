-- What a token leads to, in one formula where its scan hangs on a test.
use Rattle.std.proofs.Common.{◌≡◌, ℕ, ◌+◌, Bool, true, false, cond, ◌==◌, refl}
use Rattle.cert_text.specs.declared.scan.Want.{Want}
use Rattle.cert_text.specs.declared.scan.Want.TheVariants as wants
use Rattle.cert_text.specs.declared.scan.Scan.{Scan}
use Rattle.cert_text.specs.declared.scan.Action.{Action}
use Rattle.cert_text.specs.declared.scan.Action.TheVariants as actions
use Rattle.cert_text.specs.declared.scan.Given.TheVariants as givens
use Rattle.cert_text.specs.Control.{behind, tree_begun, is_full}
use Rattle.cert_text.specs.Run.{want_behind}
use Rattle.cert_text.specs.Tree.{Built, applied}
use Rattle.cert_text.specs.Reading.{going, over, idle, is_whole, token_taken}

on_if : (start end : ℕ) (scan : Scan) (depth : ℕ) (action : Action) (built : Built) (b : Bool) → token_taken start end (cond b (givens.On (record scan { want = wants.End; depth = depth }) action) (givens.On (record scan { want = wants.Tree true; depth = depth }) action)) built ≡ going (record scan { want = cond b wants.End (wants.Tree true); depth = depth }) (applied action built) idle
on_if start end scan depth action built true = refl
on_if start end scan depth action built false = refl

pub behind_taken : (start end : ℕ) (scan : Scan) (depth : ℕ) (action : Action) (built : Built) → token_taken start end (behind scan depth action) built ≡ going (record scan { want = want_behind depth; depth = depth }) (applied action built) idle
behind_taken start end scan depth action built = on_if start end scan depth action built (depth == 0)

pub begun_taken : (start end : ℕ) (scan : Scan) (want : Want) (built : Built) → is_whole want ≡ false → token_taken start end (tree_begun scan want) built ≡ cond (is_full scan) (over start) (going (record scan { want = want; trees = scan.trees + 1 }) built idle)
begun_taken start end scan want built h = by (is_full scan) (is_whole want) h where
  by : (b w : Bool) → w ≡ false → token_taken start end (cond b givens.Over (givens.On (record scan { want = want; trees = scan.trees + 1 }) actions.Nothing)) built ≡ cond b (over start) (going (record scan { want = want; trees = scan.trees + 1 }) built idle)
  by true w e = refl
  by false true e = cc
  by false false e = cc
