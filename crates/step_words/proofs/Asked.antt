-- The number of workers that clap finds.
use Rattle.std.proofs.Common.{◌≡◌, ℕ, List, ◌≤◌, ◌<◌, ◌^◌, refl, ◌∙◌, subst, sym, arith}
use Rattle.std.specs.Prelude.{Option, Some, None, Result, Ok, Err}
use Rattle.std.specs.Str.Parse.{ParsesUnsigned, digits_value, without_leading_plus}
use Rattle.clap.specs.Matches.{ReadsOne}
use Rattle.clap.specs.Words.{Text}
use Rattle.step_words.specs.Request.{AreWorkers}

module _ {E : Type 0} (Gives : List ℕ → Result ℕ E → Type 0) (parses : (t : List ℕ) (r : Result ℕ E) → Gives t r → ParsesUnsigned 32 10 t r) where
  pub asked : (o : Option Text) (n w : ℕ) (r : Option ℕ) → r ≡ Some w → (o ≡ None → r ≡ None) → ((t : Text) → o ≡ Some t → ReadsOne Gives t r) → (1 ≤ w → w ≤ 64 → n ≡ w) → AreWorkers o n
  asked None n w r is none value same = absurd (let both : None ≡ Some w = sym (none refl) ∙ is in cc)
  asked (Some t) n w r is none value same = λ numeral least most.
      (let reads : ReadsOne Gives t (Some w) = subst (ReadsOne Gives t) is (value t refl) in
      let e : w ≡ digits_value 10 (without_leading_plus t) = (parses t (Ok w) reads).1 in
      same (omega (arith, e, least)) (omega (arith, e, most)) ∙ e)

  pub not_asked : (o : Option Text) (r : Option ℕ) → r ≡ None → ((t : Text) → o ≡ Some t → ReadsOne Gives t r) → AreWorkers o 1
  not_asked None r is value = refl
  not_asked (Some t) r is value = λ numeral least most.
      (let reads : ReadsOne Gives t None = subst (ReadsOne Gives t) is (value t refl) in
      let small : digits_value 10 (without_leading_plus t) < 2 ^ 32 = omega (arith, most) in
      absurd (parses t (Err reads.0) reads.1 (numeral, small)))
