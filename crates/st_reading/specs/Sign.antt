-- What a token is, apart from its place.
use Rattle.std.specs.Prelude.{ℕ, ◌^◌, Bool, false, List, [], ◌∷◌, codes, Option, Some, None, if◌then◌else◌, nat_lt}
use Rattle.std.specs.Str.{bytes_eq}
use Rattle.st_tokens.specs.declared.kind.TokenKind.{TokenKind}
use Rattle.st_tokens.specs.declared.kind.TokenKind.TheVariants as kinds
use Rattle.st_tokens.specs.Text.{value_of}
use Rattle.st_tokens.specs.Stream.{Lexeme}
use Rattle.st_reading.specs.declared.mark.Mark.{Mark}
use Rattle.st_reading.specs.declared.mark.Mark.TheVariants as marks
use Rattle.st_reading.specs.declared.sign.Sign.{Sign}
use Rattle.st_reading.specs.declared.sign.Sign.TheVariants as signs
use Rattle.st_reading.specs.Mark.{same}

-- the mark that stands beside a text in a list
abbrev pub listed : List ℕ → List (List ℕ × Mark) → Option Mark
listed s [] = None
listed s (entry ∷ entries) = if bytes_eq s entry.0 then Some entry.1 else listed s entries

abbrev pub symbol_mark : List ℕ → Option Mark
symbol_mark s =
    listed s ((codes "(", marks.Open) ∷ (codes ")", marks.Close) ∷ (codes "[", marks.OpenBlock) ∷ (codes "]", marks.CloseBlock) ∷ (codes "{", marks.OpenBrace) ∷
    (codes "}", marks.CloseBrace) ∷ (codes "<<", marks.OpenGroup) ∷ (codes ">>", marks.CloseGroup) ∷ (codes ":", marks.Colon) ∷ (codes "::", marks.Colons) ∷
    (codes ";", marks.Semicolon) ∷ (codes ",", marks.Comma) ∷ (codes ".", marks.Dot) ∷ (codes ":=", marks.Becomes) ∷ (codes "||", marks.Bars) ∷
    (codes "/\\", marks.And) ∷ (codes "\\/", marks.Or) ∷ (codes "~", marks.Not) ∷ (codes "->", marks.Implies) ∷ (codes "==>", marks.Unless) ∷
    (codes "=", marks.Equal) ∷ (codes "!=", marks.Unequal) ∷ (codes "<", marks.Less) ∷ (codes "<=", marks.AtMost) ∷ (codes ">", marks.Greater) ∷
    (codes ">=", marks.AtLeast) ∷ (codes "+", marks.Plus) ∷ (codes "-", marks.Minus) ∷ (codes "*", marks.Times) ∷ [])

unfoldable pub declaring_word : List ℕ → Option Mark
declaring_word s =
    listed s ((codes "in", marks.In) ∷ (codes "local", marks.Local) ∷ (codes "out", marks.Out) ∷ (codes "where", marks.Where) ∷
    (codes "integer", marks.Integer) ∷ (codes "boolean", marks.Boolean) ∷ (codes "true", marks.True) ∷ (codes "false", marks.False) ∷
    (codes "at", marks.At) ∷ [])

unfoldable pub basic_word : List ℕ → Option Mark
basic_word s =
    listed s ((codes "skip", marks.Skip) ∷ (codes "await", marks.Await) ∷ (codes "request", marks.Request) ∷ (codes "release", marks.Release) ∷
    (codes "noncritical", marks.Noncritical) ∷ (codes "critical", marks.Critical) ∷ (codes "if", marks.If) ∷ (codes "then", marks.Then) ∷
    (codes "else", marks.Else) ∷ (codes "fi", marks.Fi) ∷ [])

unfoldable pub compound_word : List ℕ → Option Mark
compound_word s =
    listed s ((codes "while", marks.While) ∷ (codes "loop", marks.Loop) ∷ (codes "forever", marks.Forever) ∷ (codes "do", marks.Do) ∷
    (codes "select", marks.Select) ∷ (codes "or", marks.Either) ∷ (codes "cobegin", marks.Cobegin) ∷ (codes "coend", marks.Coend) ∷ [])

unfoldable pub step_word : List ℕ → Option Mark
step_word s =
    listed s ((codes "invariant", marks.Invariant) ∷ (codes "waiting", marks.Waiting) ∷ (codes "wait", marks.Wait) ∷ (codes "response", marks.Response) ∷
    (codes "leads", marks.Leads) ∷ (codes "within", marks.Within) ∷ (codes "by", marks.By) ∷ (codes "using", marks.Using) ∷ [])

unfoldable pub rule_word : List ℕ → Option Mark
rule_word s =
    listed s ((codes "just", marks.Just) ∷ (codes "chain", marks.Chain) ∷ (codes "ranked", marks.Ranked) ∷ (codes "fair", marks.Fair) ∷
    (codes "net", marks.Net) ∷ (codes "base", marks.Base) ∷ (codes "delay", marks.Delay) ∷ (codes "top", marks.Top) ∷ [])

unfoldable pub drawing_word : List ℕ → Option Mark
drawing_word s =
    listed s ((codes "group", marks.Group) ∷ (codes "helper", marks.Helper) ∷ (codes "rank", marks.Rank) ∷ (codes "diagram", marks.Diagram) ∷
    (codes "terminal", marks.Terminal) ∷ (codes "node", marks.Node) ∷ (codes "edge", marks.Edge) ∷ (codes "on", marks.On) ∷ [])

-- the first of two marks
abbrev pub or_else : Option Mark → Option Mark → Option Mark
or_else None y = y
or_else (Some x) y = Some x

abbrev pub word_mark : List ℕ → Option Mark
word_mark s = or_else (declaring_word s) (or_else (basic_word s) (or_else (compound_word s) (or_else (step_word s) (or_else (rule_word s) (drawing_word s)))))

abbrev pub marked : Option Mark → Sign
marked None = signs.Other
marked (Some mark) = signs.Marked mark

abbrev pub symbol_sign : List ℕ → Sign
symbol_sign s = marked (symbol_mark s)

abbrev pub word_sign : List ℕ → Sign
word_sign s = marked (word_mark s)

abbrev pub kind_sign : TokenKind → List ℕ → Sign
kind_sign kinds.Name s = signs.Name
kind_sign kinds.Keyword s = word_sign s
kind_sign kinds.Symbol s = symbol_sign s
kind_sign kinds.Numeral s = if nat_lt (2 ^ 30) (value_of s) then signs.Other else signs.Numeral (value_of s)

abbrev pub sign_of : Lexeme → Sign
sign_of t = kind_sign t.kind t.text

-- whether it is that mark
abbrev pub is : Sign → Mark → Bool
is (signs.Marked mark) wanted = same mark wanted
is _ _ = false
