-- What calm tokens are not, and calm tokens for shortest texts.
use Rattle.std.proofs.Common.{◌≡◌, ℕ, zero, suc, ◌<◌, Bool, true, false, not, ◌||◌, ◌&&◌, List, [], ◌∷◌, length, None, refl, arith}
use Rattle.std.specs.List.{list_any}
use Rattle.st_tokens.specs.declared.kind.TokenKind.TheVariants as kinds
use Rattle.st_tokens.specs.Stream.{Lexeme, IsSpelled}
use Rattle.st_reading.specs.declared.mark.Mark.{Mark}
use Rattle.st_reading.specs.declared.mark.Mark.TheVariants as marks
use Rattle.st_reading.specs.declared.sign.Sign.{Sign}
use Rattle.st_reading.specs.Mark.{number}
use Rattle.st_reading.specs.Sign.{sign_of, is}
use Rattle.st_reading.specs.Reading.{only}
use Rattle.expression_parser.specs.Calm.{loud, calm, calm_but, calm_but2}
use Rattle.expression_parser.specs.Signs.{product_sign, sum_sign, comparison_sign}

or_parts : (a b : Bool) → a || b ≡ false → (a ≡ false) × (b ≡ false)
or_parts true b h = cc
or_parts false b h = (refl, h)

abbrev pub nth : ℕ → List Mark → Mark
nth k [] = marks.Open
nth zero (x ∷ xs) = x
nth (suc k) (x ∷ xs) = nth k xs

none_of : (f : Mark → Bool) (k : ℕ) (xs : List Mark) → list_any f xs ≡ false → k < length xs → f (nth k xs) ≡ false
none_of f k [] h le = absurd (omega arith)
none_of f zero (x ∷ xs) h le = (or_parts (f x) (list_any f xs) h).0
none_of f (suc k) (x ∷ xs) h le = none_of f k xs (or_parts (f x) (list_any f xs) h).1 (omega arith)

not_true : (b : Bool) → not b ≡ true → b ≡ false
not_true true h = cc
not_true false h = refl

-- the k-th of the marks that aren't calm
pub quiet : (k : ℕ) → k < 13 → (g : Sign) → calm g ≡ true → is g (nth k loud) ≡ false
unfolding calm
quiet k le g h = none_of (is g) k loud (not_true (list_any (is g) loud) h) le

pub product_calm : (g : Sign) → calm g ≡ true → product_sign g ≡ None
product_calm g h = let e : is g marks.Times ≡ false = quiet 0 (omega arith) g h in rw e refl

pub sum_calm : (g : Sign) → calm g ≡ true → sum_sign g ≡ None
sum_calm g h =
    let e : is g marks.Plus ≡ false = quiet 1 (omega arith) g h in
    let f : is g marks.Minus ≡ false = quiet 2 (omega arith) g h in
    rw (e, f) refl

pub comparison_calm : (g : Sign) → calm g ≡ true → comparison_sign g ≡ None
comparison_calm g h =
    let a : is g marks.Equal ≡ false = quiet 3 (omega arith) g h in
    let b : is g marks.Unequal ≡ false = quiet 4 (omega arith) g h in
    let c : is g marks.Less ≡ false = quiet 5 (omega arith) g h in
    let d : is g marks.AtMost ≡ false = quiet 6 (omega arith) g h in
    let e : is g marks.Greater ≡ false = quiet 7 (omega arith) g h in
    let f : is g marks.AtLeast ≡ false = quiet 8 (omega arith) g h in
    rw (a, b, c, d, e, f) refl

pub only_calm : (k : ℕ) → k < 13 → (g : Sign) → calm g ≡ true → only (nth k loud) g ≡ None
only_calm k le g h = let e = quiet k le g h in rw e refl

-- tokens of shortest texts
unfoldable pub zero_token : Lexeme
zero_token = record { kind = kinds.Numeral; text = 48 ∷ []; start = 0 }

unfoldable pub name_token : Lexeme
name_token = record { kind = kinds.Name; text = 97 ∷ []; start = 0 }

unfoldable pub close_token : Lexeme
close_token = record { kind = kinds.Symbol; text = 41 ∷ []; start = 0 }

pub zero_spelled : IsSpelled zero_token
unfolding zero_token
zero_spelled = refl

pub name_spelled : IsSpelled name_token
unfolding name_token
name_spelled = refl

pub close_spelled : IsSpelled close_token
unfolding close_token
close_spelled = refl

pub close_is : is (sign_of close_token) marks.Close ≡ true
unfolding close_token number
close_is = refl

pub close_calm : calm (sign_of close_token) ≡ true
unfolding close_token calm number
close_calm = refl

pub name_calm : calm (sign_of name_token) ≡ true
unfolding name_token calm
name_calm = refl

pub zero_calm : calm (sign_of zero_token) ≡ true
unfolding zero_token calm
zero_calm = refl

pub and_parts : (a b : Bool) → a && b ≡ true → (a ≡ true) × (b ≡ true)
and_parts true b h = (refl, h)
and_parts false b h = cc

pub but_calm : (m : Mark) (g : Sign) → calm_but m g ≡ true → calm g ≡ true
unfolding calm_but
but_calm m g h = (and_parts (calm g) (not (is g m)) h).0

pub but_none : (m : Mark) (g : Sign) → calm_but m g ≡ true → only m g ≡ None
unfolding calm_but
but_none m g h = let e = not_true (is g m) (and_parts (calm g) (not (is g m)) h).1 in rw e refl

pub but_false : (m : Mark) (g : Sign) → calm_but m g ≡ true → is g m ≡ false
unfolding calm_but
but_false m g h = not_true (is g m) (and_parts (calm g) (not (is g m)) h).1

pub but2_but : (m k : Mark) (g : Sign) → calm_but2 m k g ≡ true → calm_but m g ≡ true
unfolding calm_but2
but2_but m k g h = (and_parts (calm_but m g) (not (is g k)) h).0

pub but2_other : (m k : Mark) (g : Sign) → calm_but2 m k g ≡ true → calm_but k g ≡ true
unfolding calm_but2 calm_but
but2_other m k g h =
    let a = and_parts (calm_but m g) (not (is g k)) h in
    let b = and_parts (calm g) (not (is g m)) a.0 in
    rw (b.0, a.1) refl

pub but2_none : (m k : Mark) (g : Sign) → calm_but2 m k g ≡ true → only m g ≡ None
but2_none m k g h = but_none m g (but2_but m k g h)
