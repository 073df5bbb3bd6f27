-- Where tokens lead, one behind the other.
use Rattle.std.specs.Prelude.{ℕ, ◌==◌, Bool, true, if◌then◌else◌, List, [], ◌∷◌}
use Rattle.cert_text.specs.declared.scan.Token.{Token}
use Rattle.cert_text.specs.declared.scan.Want.{Want}
use Rattle.cert_text.specs.declared.scan.Want.TheVariants as wants
use Rattle.cert_text.specs.declared.scan.Scan.{Scan}
use Rattle.cert_text.specs.declared.scan.Given.{Given}
use Rattle.cert_text.specs.declared.scan.Given.TheVariants as givens
use Rattle.cert_text.specs.Control.{give}
use Rattle.cert_text.specs.Tree.{Built, applied}

-- where tokens lead
pub data Run : Type 0 where
  on : Scan → Built → Run
  wrong : Run
  passed : Run

abbrev pub go : Given → Built → (Scan → Built → Run) → Run
go (givens.On scan action) built next = next scan (applied action built)
go givens.Wrong built next = wrong
go givens.Over built next = passed

abbrev pub run : List Token → Scan → Built → Run
run [] scan built = on scan built
run (t ∷ ts) scan built = go (give scan t) built (run ts)

abbrev pub scan_at : ℕ → Bool → Want → ℕ → ℕ → Scan
scan_at number second want depth trees = record { want = want; number = number; second = second; depth = depth; trees = trees }

-- what stands behind a whole tree
abbrev pub want_behind : ℕ → Want
want_behind depth = if depth == 0 then wants.End else wants.Tree true
