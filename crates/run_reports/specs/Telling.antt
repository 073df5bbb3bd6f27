-- What is told of what was judged of a goal.
use Rattle.std.specs.Prelude.{◌≡◌, ℕ, Bool, true, ◌||◌, List, bytes_eq, codes, Option, Some, None}
use Rattle.run_judging.specs.declared.judged.Judged.{Judged}
use Rattle.run_judging.specs.declared.judged.Judged.TheVariants.{Holds, Fails, Unclear}

-- a goal holds, also where the run tries nothing of it
abbrev pub says_holds : List ℕ → Bool
says_holds word = bytes_eq word (codes "holds") || bytes_eq word (codes "untried")

-- the word for what was judged, and the position that it speaks of
abbrev pub Says : Judged → List ℕ → Option ℕ → Type 0
Says Holds word at = (at ≡ None) × (says_holds word ≡ true)
Says (Fails i) word at = (at ≡ Some i) × (word ≡ codes "fails")
Says (Unclear i) word at = (at ≡ Some i) × (word ≡ codes "unclear")
