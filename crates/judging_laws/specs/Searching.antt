-- Tests that go through numbers.
use Rattle.std.specs.Prelude.{ℕ, zero, suc, ◌-◌, Bool, not, if◌then◌else◌, Option}
use Rattle.std.specs.List.{list_any, list_all, find, range_with_len}

-- whether a number from k on and below l passes
abbrev pub some_between : ℕ → ℕ → (ℕ → Bool) → Bool
some_between k l test = list_any test (range_with_len k (l - k))

-- whether each of them does
abbrev pub each_between : ℕ → ℕ → (ℕ → Bool) → Bool
each_between k l test = list_all test (range_with_len k (l - k))

-- the greatest number up to n that passes, or 0
abbrev pub greatest : ℕ → (ℕ → Bool) → ℕ
greatest zero test = 0
greatest (suc n) test = if test (suc n) then suc n else greatest n test

-- the least of the numbers below n that doesn't pass, or none
abbrev pub first_failure : ℕ → (ℕ → Bool) → Option ℕ
first_failure n test = find (λ i. not (test i)) (range_with_len 0 n)
