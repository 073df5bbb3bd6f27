-- A token for each mark that may complete a schedule; each is one that texts have.
use Rattle.std.proofs.Common.{ℕ, List, [], ◌∷◌, refl}
use Rattle.st_tokens.specs.declared.kind.TokenKind.TheVariants as kinds
use Rattle.st_tokens.specs.Stream.{Lexeme, IsSpelled}
use Rattle.st_reading.specs.declared.mark.Mark.TheVariants as marks
use Rattle.st_reading.specs.Mark.{number}
use Rattle.st_reading.specs.Spelling.{Is, IsName}

abbrev pub symbol : List ℕ → Lexeme
symbol text = record { kind = kinds.Symbol; text = text; start = 0 }

abbrev pub equal_token : Lexeme
equal_token = symbol (61 ∷ [])

abbrev pub semicolon_token : Lexeme
semicolon_token = symbol (59 ∷ [])

abbrev pub colons_token : Lexeme
colons_token = symbol (58 ∷ 58 ∷ [])

abbrev pub minus_token : Lexeme
minus_token = symbol (45 ∷ [])

abbrev pub zero_token : Lexeme
zero_token = record { kind = kinds.Numeral; text = 48 ∷ []; start = 0 }

abbrev pub name_token : Lexeme
name_token = record { kind = kinds.Name; text = 97 ∷ []; start = 0 }

pub equal_spelled : IsSpelled equal_token
equal_spelled = refl

pub semicolon_spelled : IsSpelled semicolon_token
semicolon_spelled = refl

pub colons_spelled : IsSpelled colons_token
colons_spelled = refl

pub minus_spelled : IsSpelled minus_token
minus_spelled = refl

pub zero_spelled : IsSpelled zero_token
zero_spelled = refl

pub name_spelled : IsSpelled name_token
name_spelled = refl

pub equal_is : Is marks.Equal equal_token
unfolding number
equal_is = refl

pub semicolon_is : Is marks.Semicolon semicolon_token
unfolding number
semicolon_is = refl

pub colons_is : Is marks.Colons colons_token
unfolding number
colons_is = refl

pub name_is : IsName name_token
name_is = refl
