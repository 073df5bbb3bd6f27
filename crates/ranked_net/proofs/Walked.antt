-- Nodes of a list, and the cover before the other conditions.
use Rattle.std.proofs.Common.{◌≡◌, sym, subst, arith, ℕ, zero, suc, ◌<◌, List, [], ◌∷◌, ◌++◌, length, map, get_or, None, Result}
use Rattle.st_linear.specs.Linear.{Linear}
use Rattle.st_form.specs.Condition.{Implication}
use Rattle.st_form.specs.Formula.{Formula, some, formulas}
use Rattle.st_form.specs.declared.conditions.CondName.{CondName}
use Rattle.st_form.specs.declared.conditions.Premise.TheVariants.{Cover}
use Rattle.temporal_goals.specs.Texts.{PlainNode}
use Rattle.temporal_goals.specs.Plain.{plain_node}
use Rattle.temporal_goals.specs.declared.nets.Node.{Node}
use Rattle.vc_generator.specs.Building.{Draft, entails_of}
use Rattle.vc_generator.specs.declared.faults.VcFault.{VcFault}
use Rattle.vc_generator.specs.Refusing.{refusal, Grows}
use Rattle.vc_generator.specs.Walks.{plainly}
use Rattle.rule_laws.specs.RankedNet.{starts_on, cover_of}
use Rattle.vc_generator.proofs.Growing.{one_then}
use Rattle.rule_fits.specs.Fitting.{CanFall}
use Rattle.ranked_net.specs.Asked.{NodesCanFall}

-- the numbers of each node can fall
pub can-fall-at : (xs : List Node) (i : ℕ) (x d : Node) → i < length xs → x ≡ get_or xs i d → NodesCanFall (map plain_node xs) → CanFall x.base × CanFall x.delay
can-fall-at [] i x d below is all = absurd (omega arith)
can-fall-at (y ∷ ys) zero x d below is all = subst (λ z. CanFall z.base × CanFall z.delay) (sym is) (all.0, all.1)
can-fall-at (y ∷ ys) (suc i) x d below is all = can-fall-at ys i x d (omega arith) is all.2

-- the cover and then the conditions of three walks
pub cover-then : (r : Result (Unit {0}) VcFault) (old mid new : List Implication) (step : ℕ) (lemmas : List Formula) (p q shown : Formula) (e : Linear) (nodes : List PlainNode) (name : CondName) (ds : List Draft)
    → shown ≡ some (formulas (q ∷ map (starts_on e) nodes)) → name ≡ plainly step Cover None → refusal old (entails_of lemmas p shown name) ≡ None → mid ≡ old ++ (entails_of lemmas p shown name).condition ∷ []
    → Grows r mid new ds → Grows r old new (cover_of step lemmas p q e nodes ∷ ds)
cover-then r old mid new step lemmas p q shown e nodes name ds is named none grown grows =
    subst (λ n. Grows r old new (entails_of lemmas p (some (formulas (q ∷ map (starts_on e) nodes))) n ∷ ds)) named
    (subst (λ f. Grows r old new (entails_of lemmas p f name ∷ ds)) is (one_then r old mid new (entails_of lemmas p shown name) ds none grown grows))
