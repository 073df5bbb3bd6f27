-- From trees that are found to certificates.
use Rattle.std.proofs.Common.{◌≡◌, ◌∙◌, ℕ, zero, suc, ◌+◌, ◌<◌, ◌≤◌, Bool, true, false, List, [], ◌∷◌, length, sym, subst, arith, All, inl, inr}
use Rattle.std.proofs.lemmas.Bool.{cases_lt}
use Rattle.std.specs.Prelude.{Option, Some, None, IfSome, is_some, slice_get, slice_index_or}
use Rattle.std.proofs.lemmas.Option.{slice_get-get_or}
use Rattle.st_form.specs.Shared.{given_of, shown_of, plain_condition}
use Rattle.st_form.specs.declared.conditions.Condition.{Condition}
use Rattle.farkas_check.specs.Problem.{Setting}
use Rattle.search_laws.specs.Forms.{AllForms}
use Rattle.search_laws.specs.Steady.{HasEntries}
use Rattle.search_laws.specs.Searchable.{IsSearchable, AreSearchable}
use Rattle.sharing_laws.specs.Contexts.{FoundTreesAreValid}
use Rattle.shared_search.specs.declared.book.Book.{Book}
use Rattle.shared_search.specs.Books.{IsTreeFound, tree_in}
use Rattle.linear_prover.proofs.Readying.{proper}
use Rattle.found_trees.specs.Certified.{HasCertificate}

-- a tree that is found is a certificate
pub found-certified : FoundTreesAreValid → (k : Setting) (c : Condition) (b : Book) (o : Option ℕ) → AllForms HasEntries (given_of c) → AllForms HasEntries (shown_of c) → IsSearchable (length k.variables) c
    → IfSome o (IsTreeFound k (given_of c) (shown_of c) b) → (is : Bool) → is ≡ is_some o → is ≡ true → HasCertificate k (plain_condition c)
found-certified law k c b None given shown it found is same true_is = let e : false ≡ true = sym same ∙ true_is in absurd (cc)
found-certified law k c b (Some n) given shown it found is same true_is = (
  tree_in b n,
  law k (given_of c) (shown_of c) (tree_in b n) (proper (length k.variables) (given_of c) given it.given_below) (proper (length k.variables) (shown_of c) shown it.shown_below) found.finds,
)

some-same : (x y : Condition) → Some x ≡ Some y → x ≡ y
some-same x y e = cc

-- each condition is one that may be searched
pub searchable-at : (n : ℕ) (cs : List Condition) (i : ℕ) (c : Condition) → AreSearchable n cs → slice_get cs i ≡ Some c → IsSearchable n c
searchable-at n [] i c all there = absurd (cc)
searchable-at n (d ∷ cs) zero c all there = subst (IsSearchable n) (some-same d c there) all.0
searchable-at n (d ∷ cs) (suc i) c all there = searchable-at n cs i c all.1 there

module _ (k : Setting) (cs : List Condition) where
  -- the conditions before a place have certificates
  abbrev pub AreBefore : ℕ → Type 0
  AreBefore i = (j : ℕ) (c : Condition) → j < i → slice_get cs j ≡ Some c → HasCertificate k (plain_condition c)

  pub none-before : AreBefore 0
  none-before j c below there = absurd (omega (arith, below))

  pub one-more : (i : ℕ) (c : Condition) → slice_get cs i ≡ Some c → HasCertificate k (plain_condition c) → AreBefore i → AreBefore (i + 1)
  one-more i c at has before j d below there = elim (cases_lt j i) [
    | inl less ↦ before j d less there
    | inr from ↦
        let same : j ≡ i = omega (arith, below, from) in
        subst (λ (x : Condition). HasCertificate k (plain_condition x)) (some-same c d (sym at ∙ subst (λ (m : ℕ). slice_get cs m ≡ Some d) same there)) has
  ]

  pub all-have : (i : ℕ) → length cs ≤ i → AreBefore i → All (λ c. HasCertificate k (plain_condition c)) cs
  all-have i past before j d below = before j (slice_index_or cs j d) (omega (arith, past, below)) (slice_get-get_or cs j d below)
