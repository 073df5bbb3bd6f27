-- Pairs with distinct names are inserted into a map in their order.
use Rattle.std.proofs.Common.{◌≡◌, ◌++◌, ◌∙◌, ap, sym, subst, append_assoc, ℕ, List, [], ◌∷◌, map, false, if◌then◌else◌, refl}
use Rattle.std.specs.Str.{bytes_eq}
use Rattle.indexmap.specs.IndexMap.{insert_entry}
use Rattle.st_program.specs.Names.{IsNew, AreApart}

module _ {K V : Type 0} (name : K → List ℕ) where
  pub new-among : (x : List ℕ) (es : List (K × V)) (e : K × V) (rest : List (K × V)) → IsNew x (map (λ p. name p.0) (es ++ e ∷ rest)) → bytes_eq (name e.0) x ≡ false
  new-among x [] e rest new = new.0
  new-among x (y ∷ ys) e rest new = new-among x ys e rest new.1

  pub goes-last : (es : List (K × V)) (k : K) (v : V) (rest : List (K × V)) → AreApart (map (λ p. name p.0) (es ++ (k, v) ∷ rest))
      → insert_entry (λ x y. bytes_eq (name x) (name y)) es k v ≡ es ++ (k, v) ∷ []
  goes-last [] k v rest apart = refl
  goes-last (e ∷ es) k v rest apart =
      ap (λ b. if b then (e.0, v) ∷ es else e ∷ insert_entry (λ x y. bytes_eq (name x) (name y)) es k v) (new-among (name e.0) es (k, v) rest apart.0)
      ∙ ap (λ l. e ∷ l) (goes-last es k v rest apart.1)

  -- one pair more goes over
  pub one-more : (all rest pairs new left : List (K × V)) (k : K) (v : V) → all ++ rest ≡ pairs → rest ≡ (k, v) ∷ left → AreApart (map (λ p. name p.0) pairs)
      → new ≡ insert_entry (λ x y. bytes_eq (name x) (name y)) all k v → new ++ left ≡ pairs
  one-more all rest pairs new left k v whole parted apart is =
      let parts = ap (λ r. all ++ r) (sym parted) ∙ whole in
      let ends = is ∙ goes-last all k v left (subst (λ ps. AreApart (map (λ p. name p.0) ps)) (sym parts) apart) in
      ap (λ n. n ++ left) ends ∙ append_assoc all ((k, v) ∷ []) left ∙ parts
