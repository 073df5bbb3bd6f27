-- What loops keep.
use Rattle.std.specs.Prelude.{ℕ, Bool, false, List, [], ◌∷◌, ℤ, Option, None, slice_index_or, unwrap_or}
use Rattle.st_linear.specs.Linear.{valuation}
use Rattle.st_form.specs.Formula.{Situation}
use Rattle.st_certificate.specs.declared.Certificate.{Certificate}
use Rattle.st_certificate.specs.Plain.{plain as tree_of}
use Rattle.search_laws.specs.Walks.{FoundAll, onto_trees}

-- certificates in front of what comes
abbrev pub onto_all : List Certificate → FoundAll → FoundAll
onto_all [] a = a
onto_all (t ∷ ts) a = onto_trees (tree_of t) (onto_all ts a)

-- boolean variables as decided or false, and integer variables as the point says
abbrev pub valued : List (Option Bool) → List ℤ → (ℕ → Bool) → Situation
valued truths point located = record {
  numbers = valuation point;
  truths = λ v. unwrap_or (slice_index_or truths v None) false;
  located = located;
}
