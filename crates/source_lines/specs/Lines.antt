-- Lines and columns of a text, by its bytes.
use Rattle.std.specs.Prelude.{◌≡◌, ℕ, zero, suc, ◌+◌, ◌-◌, Bool, false, not, ◌&&◌, List, [], ◌∷◌, take, drop, length, if◌then◌else◌, ◌==◌, nat_le, nat_lt}
use Rattle.std.specs.List.{take_while}
use Rattle.source_lines.specs.declared.units.Units.{Units}
use Rattle.source_lines.specs.declared.units.Units.TheVariants.{Characters, CodeUnits}
use Rattle.source_lines.specs.declared.lines.Position.{Position}

abbrev pub is_feed : ℕ → Bool
is_feed b = b == 10

-- a byte of UTF-8 that goes on with a character
abbrev pub goes_on : ℕ → Bool
goes_on b = nat_le 128 b && nat_lt b 192

-- how many units a byte adds to those before it
abbrev pub width : Units → ℕ → ℕ
width Characters b = if goes_on b then 0 else 1
width CodeUnits b = if nat_le 240 b then 2 else (if goes_on b then 0 else 1)

-- how many units the bytes have
abbrev pub total : Units → List ℕ → ℕ
total units [] = 0
total units (b ∷ bs) = width units b + total units bs

-- how many bytes stand before the character that n units stand before, or before the end
abbrev pub reach : Units → ℕ → List ℕ → ℕ
reach units n [] = 0
reach units n (b ∷ bs) = if nat_lt n (width units b) then 0 else 1 + reach units (n - width units b) bs

-- the places of the line feeds, where the bytes stand from `place` on
abbrev pub feeds_from : ℕ → List ℕ → List ℕ
feeds_from place [] = []
feeds_from place (b ∷ bs) = if is_feed b then place ∷ feeds_from (place + 1) bs else feeds_from (place + 1) bs

-- how many line feeds there are
abbrev pub feeds : List ℕ → ℕ
feeds [] = 0
feeds (b ∷ bs) = if is_feed b then suc (feeds bs) else feeds bs

-- what stands behind the first n line feeds
abbrev pub behind_feeds : ℕ → List ℕ → List ℕ
behind_feeds zero bs = bs
behind_feeds (suc n) [] = []
behind_feeds (suc n) (b ∷ bs) = if is_feed b then behind_feeds n bs else behind_feeds (suc n) bs

-- what stands behind the last line feed
abbrev pub last_line : List ℕ → List ℕ
last_line bs = behind_feeds (feeds bs) bs

-- the bytes before the first line feed
abbrev pub first_line : List ℕ → List ℕ
first_line bs = take_while (λ b. not (is_feed b)) bs

-- the line with this number, from 1, without its line feed
abbrev pub line_in : List ℕ → ℕ → List ℕ
line_in text number = first_line (behind_feeds (number - 1) text)

-- where one is behind these bytes
abbrev pub position_behind : List ℕ → Position
position_behind bs = record { line = 1 + feeds bs; column = 1 + total Characters (last_line bs); utf16 = total CodeUnits (last_line bs) }

-- where a place is
abbrev pub position_in : List ℕ → ℕ → Position
position_in text place = position_behind (take place text)

-- a character begins there, or the text ends
abbrev pub BeginsCharacter : List ℕ → Type 0
BeginsCharacter [] = Unit {0}
BeginsCharacter (b ∷ bs) = goes_on b ≡ false
