-- Pieces that are pushed one behind the other. A long piece of fixed text is a long list, in which tactics lose their way;
-- so it is named here.
use Rattle.std.proofs.Common.{◌≡◌, List, ◌++◌, Result, OnOk, ap, ◌∙◌, append_assoc}
use Rattle.std.proofs.lemmas.Option.{slice_get-map}
use Rattle.std.proofs.lemmas.Result.{on_ok_weaker}

-- what is behind `out` by then, and a further piece
pub further : {A : Type 0} (out text piece old new : List A) → old ≡ out ++ text → new ≡ old ++ piece → new ≡ out ++ (text ++ piece)
further out text piece old new e f = f ∙ (ap (λ x. x ++ piece) e ∙ append_assoc out text piece)

-- the same of the last piece, whose result is returned
pub last : {T E A : Type 0} (r : Result T E) (out text piece old new : List A) → old ≡ out ++ text → OnOk r (new ≡ old ++ piece) → OnOk r (new ≡ out ++ (text ++ piece))
last r out text piece old new e f = on_ok_weaker r (further out text piece old new e) f

-- a step that is looked up
pub ruleset step_of = (slice_get-map)
