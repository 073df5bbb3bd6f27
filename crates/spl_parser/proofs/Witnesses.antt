-- A token for each mark that may complete a text.
use Rattle.std.proofs.Common.{◌≡◌, ℕ, Bool, true, List, [], codes, ◌==◌, refl, ap, ◌∙◌, arith}
use Rattle.std.proofs.lemmas.Bool.Decides.{nat_tests}
use Rattle.st_tokens.specs.declared.kind.TokenKind.TheVariants as kinds
use Rattle.st_tokens.specs.Stream.{Lexeme, IsSpelled}
use Rattle.st_reading.specs.declared.mark.Mark.{Mark}
use Rattle.st_reading.specs.declared.mark.Mark.TheVariants as marks
use Rattle.st_reading.specs.declared.sign.Sign.{Sign}
use Rattle.st_reading.specs.declared.sign.Sign.TheVariants as signs
use Rattle.st_reading.specs.Mark.{number}
use Rattle.st_reading.specs.Sign.{sign_of, is, declaring_word, basic_word, compound_word}
use Rattle.st_reading.specs.Faults.{Passed}
use Rattle.st_reading.specs.Reading.{expected}
use Rattle.st_reading.specs.Steady.{Viable, anything}
use Rattle.st_reading.proofs.Steadiness.{viable_expected}
use Rattle.st_reading.proofs.Lawful.{Lawful, lawful_expected}

-- a token that is the mark, and that texts have
pub record Witness (m : Mark) : Type 0 where
  pub token : Lexeme
  pub spelled : IsSpelled token
  pub sign : sign_of token ≡ signs.Marked m

equal_self : (n : ℕ) → (n == n) ≡ true
equal_self n = grind (arith, nat_tests)

pub is_self : (m : Mark) → is (signs.Marked m) m ≡ true
is_self m = equal_self (number m)

pub witness_is : (m : Mark) (w : Witness m) → is (sign_of w.token) m ≡ true
witness_is m w = ap (λ g. is g m) w.sign ∙ is_self m

pub witness_in : (m : Mark) (w : Witness m) (set : Sign → Bool) → set (signs.Marked m) ≡ true → set (sign_of w.token) ≡ true
witness_in m w set h = ap set w.sign ∙ h

-- the token that is wanted
pub lawful_mark : {I : Type 0} (m : Mark) (w : Witness m) (set : Sign → Bool) → set (signs.Marked m) ≡ true → Lawful {I = I} {X = Passed} set anything (expected m) (λ i. expected m)
lawful_mark m w set h = lawful_expected set anything m w.token w.spelled (witness_is m w) (witness_in m w set h)

pub completes_mark : (m : Mark) (w : Witness m) (set calm : Sign → Bool) → set (signs.Marked m) ≡ true → Viable {X = Passed} set calm (expected m) []
completes_mark m w set calm h = viable_expected set calm m w.token w.spelled (witness_is m w) (witness_in m w set h)

symbol_at : List ℕ → Lexeme
symbol_at text = record { kind = kinds.Symbol; text = text; start = 0 }

word_at : List ℕ → Lexeme
word_at text = record { kind = kinds.Keyword; text = text; start = 0 }

pub open_mark : Witness marks.Open
unfolding symbol_at
open_mark = record { token = symbol_at (codes "("); spelled = refl; sign = refl }

pub close_mark : Witness marks.Close
unfolding symbol_at
close_mark = record { token = symbol_at (codes ")"); spelled = refl; sign = refl }

pub open_block_mark : Witness marks.OpenBlock
unfolding symbol_at
open_block_mark = record { token = symbol_at (codes "["); spelled = refl; sign = refl }

pub close_block_mark : Witness marks.CloseBlock
unfolding symbol_at
close_block_mark = record { token = symbol_at (codes "]"); spelled = refl; sign = refl }

pub close_group_mark : Witness marks.CloseGroup
unfolding symbol_at
close_group_mark = record { token = symbol_at (codes ">>"); spelled = refl; sign = refl }

pub colon_mark : Witness marks.Colon
unfolding symbol_at
colon_mark = record { token = symbol_at (codes ":"); spelled = refl; sign = refl }

pub colons_mark : Witness marks.Colons
unfolding symbol_at
colons_mark = record { token = symbol_at (codes "::"); spelled = refl; sign = refl }

pub semicolon_mark : Witness marks.Semicolon
unfolding symbol_at
semicolon_mark = record { token = symbol_at (codes ";"); spelled = refl; sign = refl }

pub comma_mark : Witness marks.Comma
unfolding symbol_at
comma_mark = record { token = symbol_at (codes ","); spelled = refl; sign = refl }

pub becomes_mark : Witness marks.Becomes
unfolding symbol_at
becomes_mark = record { token = symbol_at (codes ":="); spelled = refl; sign = refl }

pub bars_mark : Witness marks.Bars
unfolding symbol_at
bars_mark = record { token = symbol_at (codes "||"); spelled = refl; sign = refl }

pub skip_mark : Witness marks.Skip
unfolding word_at declaring_word basic_word compound_word
skip_mark = record { token = word_at (codes "skip"); spelled = refl; sign = refl }

pub then_mark : Witness marks.Then
unfolding word_at declaring_word basic_word compound_word
then_mark = record { token = word_at (codes "then"); spelled = refl; sign = refl }

pub fi_mark : Witness marks.Fi
unfolding word_at declaring_word basic_word compound_word
fi_mark = record { token = word_at (codes "fi"); spelled = refl; sign = refl }

pub forever_mark : Witness marks.Forever
unfolding word_at declaring_word basic_word compound_word
forever_mark = record { token = word_at (codes "forever"); spelled = refl; sign = refl }

pub do_mark : Witness marks.Do
unfolding word_at declaring_word basic_word compound_word
do_mark = record { token = word_at (codes "do"); spelled = refl; sign = refl }

pub either_mark : Witness marks.Either
unfolding word_at declaring_word basic_word compound_word
either_mark = record { token = word_at (codes "or"); spelled = refl; sign = refl }

pub coend_mark : Witness marks.Coend
unfolding word_at declaring_word basic_word compound_word
coend_mark = record { token = word_at (codes "coend"); spelled = refl; sign = refl }

pub integer_mark : Witness marks.Integer
unfolding word_at declaring_word basic_word compound_word
integer_mark = record { token = word_at (codes "integer"); spelled = refl; sign = refl }

pub where_mark : Witness marks.Where
unfolding word_at declaring_word basic_word compound_word
where_mark = record { token = word_at (codes "where"); spelled = refl; sign = refl }
