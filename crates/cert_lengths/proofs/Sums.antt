-- What is left behind a sum, part by part.
use Rattle.std.proofs.Common.{◌≡◌, ℕ, ◌+◌, ◌-◌, arith}
use Rattle.std.proofs.lemmas.List.{length-append}
use Rattle.cert_text.proofs.Digits.{digits_end, digits_short, digits_more}

pub less_sum : (room a b : ℕ) → room - (a + b) ≡ room - a - b
less_sum room a b = omega arith

pub ruleset sums = (length-append, less_sum)

pub ruleset digits = (digits_end, digits_short, digits_more, length-append, less_sum)
