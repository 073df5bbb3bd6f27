-- Each number from 1 to 64, written as a decimal, is a number of workers to clap.
use Rattle.std.proofs.Common.{ℕ, [], ◌∷◌, ◌≡◌, ◌⊎◌, inl, inr, ◌≤◌, ◌&&◌, ◌==◌, refl, ◌∙◌, ap, arith, Bool, true, false, zero, suc}
use Rattle.std.specs.Prelude.{if◌then◌else◌, pos}
use Rattle.std.specs.Fmt.{decimal, digits}
use Rattle.clap.specs.Words.{Text}
use Rattle.clap.specs.ValueTests.{is_signed_in}

-- a number of workers
abbrev pub passes : Text → Bool
passes [] = false
passes (d ∷ ds) = if d == 45 then false else is_signed_in (pos 1) (pos 64) (d ∷ ds)

abbrev pub pass_to : ℕ → Bool
pass_to zero = true
pass_to (suc n) = passes (decimal (suc n)) && pass_to n

pub all_pass : pass_to 64 ≡ true
unfolding digits
all_pass = refl

and_first : (a b : Bool) → (a && b) ≡ true → a ≡ true
and_first true b e = refl
and_first false b e = cc

and_second : (a b : Bool) → (a && b) ≡ true → b ≡ true
and_second true b e = e
and_second false b e = cc

same_or_less : (n m : ℕ) → n ≤ suc m → (n ≡ suc m) ⊎ (n ≤ m)
same_or_less zero m h = inr (omega arith)
same_or_less (suc zero) zero h = inl refl
same_or_less (suc (suc n)) zero h = absurd (omega (arith, h))
same_or_less (suc n) (suc m) h = elim (same_or_less n m (omega (arith, h))) [ inl e ↦ inl (ap suc e) | inr l ↦ inr (omega (arith, l)) ]

pub pass_below : (m n : ℕ) → pass_to m ≡ true → 1 ≤ n → n ≤ m → passes (decimal n) ≡ true
pass_below zero n all least most = absurd (omega (arith, least, most))
pass_below (suc m) n all least most =
    elim (same_or_less n m most) [
      | inl e ↦ ap (λ (i : ℕ). passes (decimal i)) e ∙ and_first (passes (decimal (suc m))) (pass_to m) all
      | inr l ↦ pass_below m n (and_second (passes (decimal (suc m))) (pass_to m) all) least l
    ]

pub number_of : (t : Bool) (s : Bool) → (if t then false else s) ≡ true → (t ≡ false) × (s ≡ true)
number_of true s e = cc
number_of false s e = (refl, e)
