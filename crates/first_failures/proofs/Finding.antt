-- The search ends at the first condition that isn't decided valid.
use Rattle.std.proofs.Common.{◌≡◌, ℕ, ◌+◌, List, [], ◌∷◌, ◌++◌, length, refl, ap, arith}
use Rattle.st_form.specs.Condition.{Implication}
use Rattle.st_certificate.specs.Tree.{Tree}
use Rattle.farkas_check.specs.Problem.{Setting}
use Rattle.search_laws.specs.Moves.{Verdict, valid, open_at, wide_at, decided}
use Rattle.step_run.specs.Verified.{Verified, all_found, left_open, given_up, by_verdict, verdict_on, verified_from}
use Rattle.step_run.specs.WellFormed.{AreFound}

-- of conditions that are numbered from j on, number n is the first with this verdict; those before it are valid
pub record IsFirst (k : Setting) (j : ℕ) (conditions : List Implication) (n : ℕ) (c : Implication) (v : Verdict) : Type 0 where
  pub before : List Implication
  pub behind : List Implication
  pub are : conditions ≡ before ++ c ∷ behind
  pub number : n ≡ j + length before
  pub trees : List Tree
  pub valid : AreFound k before trees
  pub verdict : decided k c.given c.shown ≡ v

abbrev pub EndsAt : Setting → ℕ → List Implication → Verified → Type 0
EndsAt k j cs (all_found ts) = Unit {0}
EndsAt k j cs (left_open n c path state) = IsFirst k j cs n c (open_at path state)
EndsAt k j cs (given_up n c path stage) = IsFirst k j cs n c (wide_at path stage)

behind_valid : (k : Setting) (j : ℕ) (c : Implication) (cs : List Implication) (t : Tree) → decided k c.given c.shown ≡ valid t → (n : ℕ) (d : Implication) (v : Verdict) → IsFirst k (j + 1) cs n d v → IsFirst k j (c ∷ cs) n d v
behind_valid k j c cs t is n d v f = record {
  before = c ∷ f.before;
  behind = f.behind;
  are = ap (λ (l : List Implication). c ∷ l) f.are;
  number = (let e = f.number in omega (arith, e));
  trees = t ∷ f.trees;
  valid = (is, f.valid);
  verdict = f.verdict;
}

at_once : (k : Setting) (j : ℕ) (c : Implication) (cs : List Implication) (v : Verdict) → decided k c.given c.shown ≡ v → IsFirst k j (c ∷ cs) j c v
at_once k j c cs v is = record { before = []; behind = cs; are = refl; number = omega arith; trees = []; valid = refl; verdict = is }

one : (k : Setting) (j : ℕ) (c : Implication) (cs : List Implication) (v : Verdict) → decided k c.given c.shown ≡ v → (r : Verified) → EndsAt k (j + 1) cs r → EndsAt k j (c ∷ cs) (by_verdict j c r v)
one k j c cs (valid t) is (all_found ts) h = tt
one k j c cs (valid t) is (left_open n d path state) h = behind_valid k j c cs t is n d (open_at path state) h
one k j c cs (valid t) is (given_up n d path stage) h = behind_valid k j c cs t is n d (wide_at path stage) h
one k j c cs (open_at path state) is r h = at_once k j c cs (open_at path state) is
one k j c cs (wide_at path stage) is r h = at_once k j c cs (wide_at path stage) is

pub ends_at : (k : Setting) (j : ℕ) (cs : List Implication) → EndsAt k j cs (verified_from k j cs)
unfolding verdict_on
ends_at k j [] = tt
ends_at k j (c ∷ cs) = one k j c cs (decided k c.given c.shown) refl (verified_from k (j + 1) cs) (ends_at k (j + 1) cs)
