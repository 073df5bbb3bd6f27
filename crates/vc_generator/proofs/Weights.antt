-- The weight of a list with one condition more.
use Rattle.std.proofs.Common.{ℕ, zero, suc, take, ◌≡◌, ap, refl, arith, ◌+◌, List, [], ◌∷◌, ◌++◌, map}
use Rattle.st_form.specs.Condition.{Implication}
use Rattle.st_form.specs.Shared.{plain_condition}
use Rattle.st_form.specs.declared.conditions.Condition.{Condition}
use Rattle.vc_generator.specs.Refusing.{weight_in, weights}

pub weights-more : (cs : List Implication) (c : Implication) → weights (cs ++ c ∷ []) ≡ weights cs + weight_in c
weights-more [] c = omega arith
weights-more (d ∷ ds) c = let rest = weights-more ds c in omega arith

pub plain-more : (cs : List Condition) (c : Condition) → map plain_condition (cs ++ c ∷ []) ≡ map plain_condition cs ++ plain_condition c ∷ []
plain-more [] c = refl
plain-more (d ∷ ds) c = ap (λ xs. plain_condition d ∷ xs) (plain-more ds c)

pub plain-take : (n : ℕ) (cs : List Condition) → map plain_condition (take n cs) ≡ take n (map plain_condition cs)
plain-take zero cs = refl
plain-take (suc n) [] = refl
plain-take (suc n) (c ∷ cs) = ap (λ xs. plain_condition c ∷ xs) (plain-take n cs)
