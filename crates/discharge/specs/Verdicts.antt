-- The verdicts on conditions.
use Rattle.std.specs.Prelude.{◌≡◌, List, [], ◌∷◌}
use Rattle.st_form.specs.Shared.{given_of, shown_of}
use Rattle.st_form.specs.declared.conditions.Condition.{Condition}
use Rattle.farkas_check.specs.Problem.{Setting}
use Rattle.search_laws.specs.Moves.{decided}
use Rattle.search_verdicts.specs.declared.verdict.Verdict.{Verdict}
use Rattle.search_verdicts.specs.Plain.{plain_verdict}
use Rattle.linear_prover.specs.Verdicts.{IsRight}

-- the verdict is the one that is defined, and right
pub record IsAnswer (k : Setting) (c : Condition) (v : Verdict) : Type 0 where
  pub exact : plain_verdict v ≡ decided k (given_of c) (shown_of c)
  pub right : IsRight k (given_of c) (shown_of c) v

-- as many verdicts as conditions, and each is the answer to the condition at its place
abbrev pub AreAnswers : Setting → List Condition → List Verdict → Type 0
AreAnswers k [] [] = Unit {0}
AreAnswers k [] (v ∷ vs) = ⊥
AreAnswers k (c ∷ cs) [] = ⊥
AreAnswers k (c ∷ cs) (v ∷ vs) = IsAnswer k c v × AreAnswers k cs vs
