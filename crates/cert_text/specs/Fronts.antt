-- Digits in front of some bytes, which are read as one number.
use Rattle.std.specs.Prelude.{ℕ, Bool, true, false, if◌then◌else◌, List, [], ◌∷◌}
use Rattle.cert_text.specs.declared.scan.Want.{Want}
use Rattle.cert_text.specs.declared.scan.Want.TheVariants as wants
use Rattle.cert_text.specs.Letters.{is_digit, grown}

-- what n becomes by the digits in front
abbrev pub number_by : ℕ → List ℕ → ℕ
number_by n [] = n
number_by n (b ∷ bs) = if is_digit b then number_by (grown n b) bs else n

-- whatever digits are read here, a number may stand
abbrev pub takes_numbers : Want → Bool
takes_numbers (wants.Subject branching) = true
takes_numbers (wants.Row signed count) = true
takes_numbers (wants.Multiplier signed count row) = true
takes_numbers (wants.Negative count row) = true
takes_numbers (wants.Coefficient first negative last) = true
takes_numbers (wants.Variable negative size last) = true
takes_numbers (wants.Constant negative) = true
takes_numbers _ = false
