-- Nodes of a list, and the cover with the conditions of three walks behind it.
use Rattle.std.proofs.Common.{◌≡◌, sym, subst, arith, ℕ, zero, suc, ◌<◌, List, [], ◌∷◌, ◌++◌, length, map, get_or, None, Result}
use Rattle.st_linear.specs.Linear.{Linear}
use Rattle.st_form.specs.Condition.{Implication}
use Rattle.st_form.specs.Formula.{Formula, some, formulas}
use Rattle.st_form.specs.declared.conditions.CondName.{CondName}
use Rattle.st_form.specs.declared.conditions.Premise.TheVariants.{Cover}
use Rattle.temporal_goals.specs.Texts.{PlainNestedNode}
use Rattle.temporal_goals.specs.Plain.{plain_nested_node}
use Rattle.temporal_goals.specs.declared.nested.NestedNode.{NestedNode}
use Rattle.vc_generator.specs.Building.{Draft, entails_of}
use Rattle.vc_generator.specs.declared.faults.VcFault.{VcFault}
use Rattle.vc_generator.specs.Refusing.{refusal, Grows}
use Rattle.vc_generator.specs.Walks.{plainly}
use Rattle.vc_generator.proofs.Growing.{one_then}
use Rattle.rule_laws.specs.NestedNet.{nested_starts, nested_cover}
use Rattle.nested_net.specs.Asked.{NodeCanFall, NodesCanFall}

-- the numbers of each node can fall
pub can-fall-at : (xs : List NestedNode) (i : ℕ) (x d : NestedNode) → i < length xs → x ≡ get_or xs i d → NodesCanFall (map plain_nested_node xs) → NodeCanFall (plain_nested_node x)
can-fall-at [] i x d below is all = absurd (omega arith)
can-fall-at (y ∷ ys) zero x d below is all = subst (λ z. NodeCanFall (plain_nested_node z)) (sym is) all.0
can-fall-at (y ∷ ys) (suc i) x d below is all = can-fall-at ys i x d (omega arith) is all.1

-- the cover and then other conditions
pub cover-then : (r : Result (Unit {0}) VcFault) (old mid new : List Implication) (step : ℕ) (lemmas : List Formula) (p q shown : Formula) (e : Linear) (nodes : List PlainNestedNode) (name : CondName) (ds : List Draft)
    → shown ≡ some (formulas (q ∷ map (nested_starts e) nodes)) → name ≡ plainly step Cover None → refusal old (entails_of lemmas p shown name) ≡ None → mid ≡ old ++ (entails_of lemmas p shown name).condition ∷ []
    → Grows r mid new ds → Grows r old new (nested_cover step lemmas p q e nodes ∷ ds)
cover-then r old mid new step lemmas p q shown e nodes name ds is named none grown grows =
    subst (λ n. Grows r old new (entails_of lemmas p (some (formulas (q ∷ map (nested_starts e) nodes))) n ∷ ds)) named
    (subst (λ f. Grows r old new (entails_of lemmas p f name ∷ ds)) is (one_then r old mid new (entails_of lemmas p shown name) ds none grown grows))
