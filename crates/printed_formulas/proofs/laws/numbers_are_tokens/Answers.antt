use Rattle.printed_formulas.proofs.Numerals as proved
use Rattle.printed_formulas.proofs.laws.numbers_are_tokens.Goals as goal

pub returns : goal.returns
returns c = record { one = proved.number_front; same = proved.number_value }
