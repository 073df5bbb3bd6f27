-- Tokens that texts have.
use Rattle.std.proofs.Common.{zero, suc, List, [], ◌∷◌, All, arith}
use Rattle.std.proofs.lemmas.List.Elements.{All-nil}
use Rattle.st_tokens.specs.Stream.{Lexeme, IsSpelled}

pub none_spelled : All IsSpelled []
none_spelled = All-nil IsSpelled

pub more_spelled : (t : Lexeme) (ts : List Lexeme) → IsSpelled t → All IsSpelled ts → All IsSpelled (t ∷ ts)
more_spelled t ts h hs zero d le = h
more_spelled t ts h hs (suc k) d le = hs k d (omega arith)

pub one_spelled : (t : Lexeme) → IsSpelled t → All IsSpelled (t ∷ [])
one_spelled t h = more_spelled t [] h none_spelled
