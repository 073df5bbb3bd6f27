-- Which groups of a node are passed before a transition is one of them, and the cases of so many depths.
use Rattle.std.proofs.Common.{◌≡◌, ◌∙◌, ap, refl, arith, ℕ, zero, suc, ◌+◌, ◌-◌, ◌<◌, ◌≤◌, Bool, true, false, not, ◌&&◌, ◌==◌, if◌then◌else◌, List, [], ◌∷◌, ◌++◌, length, slice_index_or}
use Rattle.temporal_goals.specs.Texts.{PlainLevel}
use Rattle.vc_generator.specs.Atoms.{PlainCase}
use Rattle.rule_laws.specs.NestedNet.{none_of, each_depth}
use Rattle.nested_net.specs.Walk.{outside, listed_depths}

-- as many groups as stand outside may be asked about, and no more
passed-by : (b : Bool) (number k : ℕ) (ls : List PlainLevel) → suc k ≤ (if b then 0 else suc (outside number ls)) → (k ≤ outside number ls → none_of number k ls ≡ true) → (not b && none_of number k ls) ≡ true
passed-by true number k ls h rest = absurd (omega arith)
passed-by false number k ls h rest = rest (omega arith)

pub passed : (number k : ℕ) (ls : List PlainLevel) → k ≤ outside number ls → none_of number k ls ≡ true
passed number zero ls h = refl
passed number (suc k) [] h = refl
passed number (suc k) (l ∷ ls) h = passed-by (l.group == number) number k ls h (passed number k ls)

met-by : (b : Bool) (number k : ℕ) (ls : List PlainLevel) → (if b then 0 else suc (outside number ls)) < suc k → (if b then 0 else suc (outside number ls)) < suc (length ls)
    → (outside number ls < k → outside number ls < length ls → none_of number k ls ≡ false) → (not b && none_of number k ls) ≡ false
met-by true number k ls h within rest = refl
met-by false number k ls h within rest = rest (omega arith) (omega arith)

pub met : (number k : ℕ) (ls : List PlainLevel) → outside number ls < k → outside number ls < length ls → none_of number k ls ≡ false
met number zero ls h within = absurd (omega arith)
met number (suc k) [] h within = absurd (omega arith)
met number (suc k) (l ∷ ls) h within = met-by (l.group == number) number k ls h within (met number k ls)

within-by : (b : Bool) (number : ℕ) (ls : List PlainLevel) → outside number ls ≤ length ls → (if b then 0 else suc (outside number ls)) ≤ suc (length ls)
within-by true number ls h = omega arith
within-by false number ls h = omega arith

pub outside-within : (number : ℕ) (ls : List PlainLevel) → outside number ls ≤ length ls
outside-within number [] = omega arith
outside-within number (l ∷ ls) = within-by (l.group == number) number ls (outside-within number ls)

-- the next depth of a walk over so many
pub depth-next : (f : ℕ → List PlainCase) (k n : ℕ) → k < n → each_depth f k (n - k) ≡ f k ++ each_depth f (k + 1) (n - (k + 1))
depth-next f k n below = let more : n - k ≡ suc (n - (k + 1)) = omega arith in ap (each_depth f k) more

pub depth-end : (f : ℕ → List PlainCase) (k n : ℕ) → n ≤ k → each_depth f k (n - k) ≡ []
depth-end f k n past = let none : n - k ≡ 0 = omega arith in ap (each_depth f k) none

pub list-next : (f : ℕ → List PlainCase) (k n : ℕ) → k < n → listed_depths f k (n - k) ≡ f k ∷ listed_depths f (k + 1) (n - (k + 1))
list-next f k n below = let more : n - k ≡ suc (n - (k + 1)) = omega arith in ap (listed_depths f k) more

pub list-end : (f : ℕ → List PlainCase) (k n : ℕ) → n ≤ k → listed_depths f k (n - k) ≡ []
list-end f k n past = let none : n - k ≡ 0 = omega arith in ap (listed_depths f k) none

pub list-at : (f : ℕ → List PlainCase) (k n i : ℕ) → i < n → slice_index_or (listed_depths f k n) i [] ≡ f (k + i)
list-at f k zero i below = absurd (omega arith)
list-at f k (suc n) zero below = let same : k ≡ k + 0 = omega arith in ap f same
list-at f k (suc n) (suc i) below = let same : k + 1 + i ≡ k + suc i = omega arith in list-at f (k + 1) n i (omega arith) ∙ ap f same

-- cases that are there only at the first of so many depths
pub cut : (f g : ℕ → List PlainCase) (k m n : ℕ) → m ≤ n → ((j : ℕ) → k ≤ j → j < k + m → f j ≡ g j) → ((j : ℕ) → k + m ≤ j → j < k + n → f j ≡ []) → each_depth f k n ≡ each_depth g k m
cut f g k zero zero h same none = refl
cut f g k (suc m) zero h same none = absurd (omega arith)
cut f g k zero (suc n) h same none =
    ap (λ cs. cs ++ each_depth f (k + 1) n) (none k (omega arith) (omega arith)) ∙ cut f g (k + 1) zero n (omega arith) (λ j a b. absurd (omega arith)) (λ j a b. none j (omega arith) (omega arith))
cut f g k (suc m) (suc n) h same none =
    ap (λ cs. cs ++ each_depth f (k + 1) n) (same k (omega arith) (omega arith))
    ∙ ap (λ cs. g k ++ cs) (cut f g (k + 1) m n (omega arith) (λ j a b. same j (omega arith) (omega arith)) (λ j a b. none j (omega arith) (omega arith)))
