-- What the rules for response share: the cover, and each node's ranks, help and moves.
use Rattle.std.proofs.Common.{◌≡◌, refl, ap, subst, ◌∙◌, ℕ, Bool, true, false, nat_eq, if◌then◌else◌, List, [], ◌∷◌, ◌++◌, map, flat_map, Option, Some, None, slice_get}
use Rattle.std.specs.Option.{option_eq, option_map}
use Rattle.st_form.specs.Formula.{Formula, every, some, formulas}
use Rattle.st_form.specs.declared.conditions.Premise.TheVariants.{Cover, Rank, Help, Move}
use Rattle.transition_system.specs.Systems.{PlainTransition, System}
use Rattle.transition_system.specs.Meaning.{enabled_form}
use Rattle.vc_generator.specs.Atoms.{PlainCase}
use Rattle.vc_generator.specs.Building.{Draft, entails_of}
use Rattle.vc_generator.specs.Walks.{plainly}
use Rattle.rule_laws.specs.Names.{is_name, same_group, enabled_if, enabled_of}
use Rattle.generated_conditions.specs.Cases.{Case, Node, one_of, enabled, or_false, unless}
use Rattle.generated_conditions.specs.Scripts.{entails, moves, responds}
use Rattle.generated_conditions.proofs.Lists.{map-same, map-map, flat_map-same, flat_map-map, as_flat_map}
use Rattle.generated_conditions.proofs.Agreeing.{Agree, IsWritten, nothing-agree}
use Rattle.generated_conditions.proofs.Asked.{entailed}

module _ (step : ℕ) (system : System) (lemmas : List Formula) where
  -- the conditions of nodes, where each node's are as they were said before
  pub answered : {X : Type 0} (node : X → Node) (p q : Formula) (starts : X → Formula) (ranks helps leads : X → List Draft) (xs : List X)
      → ((x : X) → every (formulas ((node x).form ∷ (node x).starts ∷ [])) ≡ starts x)
      → ((x : X) → map (entails step system lemmas Rank (Some (node x).number) (node x).form) (node x).ranked ≡ ranks x)
      → ((x : X) → entails step system lemmas Help (Some (node x).number) (node x).form (node x).helped ∷ [] ≡ helps x)
      → ((x : X) → moves step system lemmas Move (Some (node x).number) (node x).form (λ t m. one_of m ((node x).cases t)) ≡ leads x)
      → responds step system lemmas p q (map node xs)
      ≡ entails_of lemmas p (some (formulas (q ∷ map starts xs))) (plainly step Cover None) ∷ (flat_map ranks xs ++ (flat_map helps xs ++ flat_map leads xs))
  answered {X} node p q starts ranks helps leads xs a b c d = λ i. cover i ∷ (ranked i ++ (helped i ++ led i))
    where
      starting : map (λ (n : Node). every (formulas (n.form ∷ n.starts ∷ []))) (map node xs) ≡ map starts xs
      starting = map-map (λ (n : Node). every (formulas (n.form ∷ n.starts ∷ []))) node xs ∙ map-same (λ x. every (formulas ((node x).form ∷ (node x).starts ∷ []))) starts xs a

      cover : entails step system lemmas Cover None p (some (formulas (q ∷ map (λ (n : Node). every (formulas (n.form ∷ n.starts ∷ []))) (map node xs))))
          ≡ entails_of lemmas p (some (formulas (q ∷ map starts xs))) (plainly step Cover None)
      cover = ap (λ fs. entails step system lemmas Cover None p (some (formulas (q ∷ fs)))) starting ∙ entailed step system lemmas Cover None p (some (formulas (q ∷ map starts xs)))

      ranked : flat_map (λ (n : Node). map (entails step system lemmas Rank (Some n.number) n.form) n.ranked) (map node xs) ≡ flat_map ranks xs
      ranked = flat_map-map (λ (n : Node). map (entails step system lemmas Rank (Some n.number) n.form) n.ranked) node xs
          ∙ flat_map-same (λ x. map (entails step system lemmas Rank (Some (node x).number) (node x).form) (node x).ranked) ranks xs b

      helped : map (λ (n : Node). entails step system lemmas Help (Some n.number) n.form n.helped) (map node xs) ≡ flat_map helps xs
      helped = map-map (λ (n : Node). entails step system lemmas Help (Some n.number) n.form n.helped) node xs
          ∙ as_flat_map (λ x. entails step system lemmas Help (Some (node x).number) (node x).form (node x).helped) xs
          ∙ flat_map-same (λ x. entails step system lemmas Help (Some (node x).number) (node x).form (node x).helped ∷ []) helps xs c

      led : flat_map (λ (n : Node). moves step system lemmas Move (Some n.number) n.form (λ t m. one_of m (n.cases t))) (map node xs) ≡ flat_map leads xs
      led = flat_map-map (λ (n : Node). moves step system lemmas Move (Some n.number) n.form (λ t m. one_of m (n.cases t))) node xs
          ∙ flat_map-same (λ x. moves step system lemmas Move (Some (node x).number) (node x).form (λ t m. one_of m ((node x).cases t))) leads xs d

-- names of transitions
pub same_names : (o : Option ℕ) (n : ℕ) → option_eq nat_eq o (Some n) ≡ is_name o n
same_names None n = refl
same_names (Some m) n = refl

pub same_groups : (g h : Option ℕ) → same_group g h ≡ option_eq nat_eq g h
same_groups None None = refl
same_groups None (Some h) = refl
same_groups (Some g) None = refl
same_groups (Some g) (Some h) = refl

found : (t : Option PlainTransition) → or_false (option_map enabled_form t) ≡ enabled_if t
found None = refl
found (Some t) = refl

pub same_enabled : (system : System) (o : Option ℕ) → enabled system o ≡ enabled_of system o
same_enabled system None = refl
same_enabled system (Some n) = found (slice_get system.transitions n)

written-if : (t : Option PlainTransition) → IsWritten (or_false (option_map enabled_form t))
written-if None = refl
written-if (Some t) = refl

pub enabled-written : (system : System) (o : Option ℕ) → IsWritten (enabled system o)
enabled-written system None = refl
enabled-written system (Some n) = written-if (slice_get system.transitions n)

unless-by : (b : Bool) (cs : List Case) (ds : List PlainCase) → Agree cs ds → Agree (if b then [] else cs) (if b then [] else ds)
unless-by true cs ds h = nothing-agree
unless-by false cs ds h = h

pub unless-agree : (name : Option ℕ) (n : ℕ) (cs : List Case) (ds : List PlainCase) → Agree cs ds → Agree (unless name n cs) (if is_name name n then [] else ds)
unless-agree name n cs ds h = subst (λ b. Agree (unless name n cs) (if b then [] else ds)) (same_names name n) (unless-by (option_eq nat_eq name (Some n)) cs ds h)
