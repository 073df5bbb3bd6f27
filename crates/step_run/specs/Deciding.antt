-- What the verdicts of a run come to, slice by slice.
use Rattle.std.specs.Prelude.{◌≡◌, ℕ, ◌+◌, ◌<◌, ◌≤◌, Bool, true, false, List, [], ◌∷◌, ◌++◌, length, map, drop}
use Rattle.std.specs.declared.vec.Vec.{Vec}
use Rattle.std.specs.declared.alloc.Global.{Global}
use Rattle.st_form.specs.Condition.{Implication}
use Rattle.st_certificate.specs.Tree.{Tree, impossible}
use Rattle.st_certificate.specs.Plain.{plain}
use Rattle.search_verdicts.specs.declared.verdict.Verdict.{Verdict}
use Rattle.search_verdicts.specs.declared.verdict.Verdict.TheVariants.{Valid, Open, Wide}
use Rattle.search_verdicts.specs.Plain.{plain_verdict}
use Rattle.search_laws.specs.Sizes.{nodes}
use Rattle.cert_text.specs.Spelling.{block_text}
pub use Rattle.tree_writing.specs.Standing.{IsWritten}
use Rattle.tree_writing.specs.Standing.{AreWithin}
use Rattle.step_plan.specs.declared.stage.Stage.{Stage}
use Rattle.step_plan.specs.declared.stage.Stage.TheVariants.{On, Over}
use Rattle.step_plan.specs.Outcome.{Outcome, ended_view, IsDecided}
use Rattle.step_run.specs.declared.proving.Sheet.{Sheet}
use Rattle.step_run.specs.Conditions.{Posed, setting_of}
use Rattle.step_run.specs.Verified.{Verified, found_before, by_verdict, verified_from, search_ended}

abbrev pub is_valid : Verdict → Bool
is_valid (Valid certificate) = true
is_valid (Open path state) = false
is_valid (Wide path stage) = false

-- the certificate of a condition that is valid
abbrev pub tree_in : Verdict → Tree
tree_in (Valid certificate) = plain certificate
tree_in (Open path state) = impossible
tree_in (Wide path stage) = impossible

abbrev pub trees_in : List Verdict → List Tree
trees_in vs = map tree_in vs

-- the run goes on where the condition of this number is valid, and else ends there, whatever comes behind
abbrev pub EndsAt : Posed → ℕ → Implication → Verdict → Stage (Unit {0}) → Type 0
EndsAt x n c v (On u) = is_valid v ≡ true
EndsAt x n c v (Over ended) = ((more : Verified) (all : List Tree → Outcome) → ended_view ended ≡ search_ended x all (by_verdict n c more (plain_verdict v))) × IsDecided ended.status

-- all verdicts are that their conditions are valid
abbrev pub AreValid : List Verdict → Type 0
AreValid [] = Unit {0}
AreValid (v ∷ vs) = (is_valid v ≡ true) × AreValid vs

-- no certificate has more nodes than the search makes
abbrev pub AreModest : List Verdict → Type 0
AreModest [] = Unit {0}
AreModest (v ∷ vs) = (nodes (tree_in v) ≤ 100000) × AreModest vs

-- what the search finds of the conditions from a place on
unfoldable pub found_from : Posed → ℕ → Verified
found_from x place = verified_from (setting_of x.program) (place + 1) (drop place x.conditions)

-- the same behind conditions that have these certificates
abbrev pub all_before : List Tree → Verified → Verified
all_before [] found = found
all_before (t ∷ ts) found = found_before t (all_before ts found)

-- the conditions from one place to another are valid, with these certificates
abbrev pub FoundTo : Posed → ℕ → ℕ → List Tree → Type 0
FoundTo x from to ts = found_from x from ≡ all_before ts (found_from x to)

-- the run ends as it is defined by what is found from a place on, whatever would come of all certificates
abbrev pub EndsFrom : Posed → ℕ → Outcome → Type 0
EndsFrom x place o = (all : List Tree → Outcome) → o ≡ search_ended x all (found_from x place)

-- the verdicts on the conditions from a place on are that these are valid, or the run ends
abbrev pub Settled : Posed → ℕ → List Verdict → Stage (Unit {0}) → Type 0
Settled x place vs (On u) = AreValid vs × FoundTo x place (place + length vs) (trees_in vs)
Settled x place vs (Over ended) = EndsFrom x place (ended_view ended)

-- some conditions from a place on are valid, with these certificates
pub record AreNext (x : Posed) (place : ℕ) (vs : List Verdict) : Type 0 where
  pub some : 0 < length vs
  pub within : place + length vs ≤ length x.conditions
  pub valid : AreValid vs
  pub modest : AreModest vs
  pub found : FoundTo x place (place + length vs) (trees_in vs)

-- the conditions from one place up to another are valid, whatever their certificates
pub record Pass (x : Posed) (from to : ℕ) : Type 0 where
  pub further : from < to
  pub within : to ≤ length x.conditions
  pub trees : List Tree
  pub as_many : from + length trees ≡ to
  pub found : FoundTo x from to trees

-- the run goes on at a place, up to which the conditions pass, or it ends
abbrev pub PassesFrom : Posed → ℕ → Stage ℕ → Type 0
PassesFrom x place (On to) = Pass x place to
PassesFrom x place (Over ended) = EndsFrom x place (ended_view ended)

-- the run goes on behind these, or it ends
abbrev pub GoesFrom : Posed → ℕ → Stage (Vec Verdict Global) → Type 0
GoesFrom x place (On verdicts) = AreNext x place verdicts.items
GoesFrom x place (Over ended) = EndsFrom x place (ended_view ended)

-- where the text fits, it isn't too long, and what is told of places in it is there
abbrev pub IsSheet : Sheet → Type 0
IsSheet s = s.fits ≡ true → (length s.text.items ≤ 268435456) × AreWithin s.text.items s.places.kept.items

-- whatever was written so far, this was written behind it, as long as it fits
abbrev pub Writes : Sheet → Sheet → List ℕ → Type 0
Writes old new piece = (whole : List ℕ) → IsWritten whole old.text.items old.fits → IsWritten (whole ++ piece) new.text.items new.fits

-- the condition at a place is valid, and the block of its certificate was written, as long as it fits; or the run ends
abbrev pub WritesFrom : Posed → ℕ → Sheet → Sheet → Stage (Unit {0}) → Type 0
WritesFrom x place old new (On u) = (t : Tree) × FoundTo x place (place + 1) (t ∷ []) × Writes old new (block_text (place + 1) t)
WritesFrom x place old new (Over ended) = EndsFrom x place (ended_view ended)
