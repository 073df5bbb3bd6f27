-- Conditions, one after the other, each with its own tree.
use Rattle.std.proofs.Common.{◌≡◌, ◌↔◌, ℕ, ◌+◌, ◌<◌, ◌≤◌, List, [], ◌∷◌, map, length, drop, get_or, refl, ap, ◌∙◌, sym, suc}
use Rattle.std.proofs.lemmas.List.{drop_more, drop_all, length-map}
use Rattle.st_form.specs.Condition.{Implication}
use Rattle.st_form.specs.Shared.{given_of, plain_condition, shown_of}
use Rattle.st_form.specs.declared.conditions.Condition.{Condition}
use Rattle.st_certificate.specs.Tree.{Tree}
use Rattle.farkas_check.specs.Problem.{Setting}
use Rattle.farkas_check.specs.Valid.{IsCertificate}
use Rattle.search_laws.specs.Searchable.{AreSearchable}
use Rattle.shared_certificates.specs.Nodes.{tree}
use Rattle.table_check.specs.Conditions.{HaveTrees}

abbrev pub AreProved : Setting → List Condition → List Tree → List ℕ → Type 0
AreProved k cs ts ns = HaveTrees k (map plain_condition cs) (map (tree ts) ns)

abbrev pub IsProved : Setting → Condition → Tree → Type 0
IsProved k c t = IsCertificate k (given_of c) (shown_of c) t

-- one is passed
pub searchable-on : (n : ℕ) (cs : List Condition) (i : ℕ) (c : Condition) → i < length cs → AreSearchable n (drop i cs) → AreSearchable n (drop (i + 1) cs)
searchable-on n cs i c h s = let b = rw (drop_more cs i c h) at s in b.1

-- one is valid
pub proved-on : (k : Setting) (cs : List Condition) (ts : List Tree) (ns : List ℕ) (i : ℕ) (c : Condition) (W : Type 0) → i < length cs → i < length ns → c ≡ get_or cs i c
    → IsProved k c (tree ts (get_or ns i 0)) → (AreProved k (drop i cs) ts (drop i ns) ↔ W) → AreProved k (drop (i + 1) cs) ts (drop (i + 1) ns) ↔ W
proved-on k cs ts ns i c W h g e v s =
    let one : drop i cs ≡ c ∷ drop (i + 1) cs = drop_more cs i c h ∙ ap (λ x. x ∷ drop (i + 1) cs) (sym e) in
    let two : drop i ns ≡ get_or ns i 0 ∷ drop (i + 1) ns = drop_more ns i 0 g in
    let b = rw (one, two) at s in
    (λ p. b.0 (v, p), λ w. (b.1 w).1)

-- one is not valid
pub proved-ends : (k : Setting) (cs : List Condition) (ts : List Tree) (ns : List ℕ) (i : ℕ) (c : Condition) (W : Type 0) → i < length cs → i < length ns → c ≡ get_or cs i c
    → (IsProved k c (tree ts (get_or ns i 0)) → ⊥) → (AreProved k (drop i cs) ts (drop i ns) ↔ W) → W → ⊥
proved-ends k cs ts ns i c W h g e v s w =
    let one : drop i cs ≡ c ∷ drop (i + 1) cs = drop_more cs i c h ∙ ap (λ x. x ∷ drop (i + 1) cs) (sym e) in
    let two : drop i ns ≡ get_or ns i 0 ∷ drop (i + 1) ns = drop_more ns i 0 g in
    let b = rw (one, two) at s in
    v (b.1 w).0

-- none is left
pub proved-whole : (k : Setting) (cs : List Condition) (ts : List Tree) (ns : List ℕ) (i : ℕ) (W : Type 0) → length cs ≤ i → length ns ≤ i → (AreProved k (drop i cs) ts (drop i ns) ↔ W) → W
proved-whole k cs ts ns i W h g s = let b = rw (drop_all i cs h, drop_all i ns g) at s in b.0 tt

lengths : (k : Setting) (cs : List Implication) (ts : List Tree) → HaveTrees k cs ts → length ts ≡ length cs
lengths k [] [] v = refl
lengths k [] (t ∷ ts) v = absurd v
lengths k (c ∷ cs) [] v = absurd v
lengths k (c ∷ cs) (t ∷ ts) v = ap suc (lengths k cs ts v.1)

-- there are as many trees as conditions
pub proved-lengths : (k : Setting) (cs : List Condition) (ts : List Tree) (ns : List ℕ) → AreProved k cs ts ns → length ns ≡ length cs
proved-lengths k cs ts ns v = sym (length-map ns (tree ts)) ∙ lengths k (map plain_condition cs) (map (tree ts) ns) v ∙ length-map cs plain_condition
