-- What counts as blank between blocks: spaces and line ends, and a header where one may still come.
use Rattle.std.specs.Prelude.{ℕ, ◌+◌, Bool, true, false, ◌==◌, ◌&&◌, ◌||◌, not, nat_lt, nat_eq, if◌then◌else◌, List, [], ◌∷◌, length, drop, codes, Option, Some, None}
use Rattle.std.specs.List.{starts_with, prefix_len}
use Rattle.cert_text.specs.Letters.{is_blank}
use Rattle.cert_text.specs.Held.{Held}

-- how many blanks stand in front
abbrev pub blank_len : List ℕ → ℕ
blank_len bs = prefix_len is_blank bs

-- where one byte stands behind blanks, how far it reaches from `from`; else 0
abbrev pub byte_behind : ℕ → ℕ → List ℕ → ℕ
byte_behind b from bs = let at = from + blank_len (drop from bs) in if starts_with nat_eq (drop at bs) (b ∷ []) then at + 1 else 0

-- the length of a whole header in front, or 0
unfoldable pub header_len : List ℕ → ℕ
header_len bs =
    if starts_with nat_eq bs (codes "version") then
    (let two = byte_behind 50 7 bs in if two == 0 then 0 else byte_behind 59 two bs)
    else 0

-- the length of what counts as blank in front, and whether a header is among it
abbrev pub front_len : Bool → List ℕ → ℕ × Bool
front_len header bs =
    let blanks = blank_len bs in
    let rest = drop blanks bs in
    let len = if header then header_len rest else 0 in
    if len == 0 then (blanks, false) else (blanks + len + blank_len (drop len rest), true)

abbrev pub past : ℕ × Bool → Held → Held
past front h = if front.0 == 0 then h else record h { bytes = drop front.0 h.bytes; place = h.place + front.0; second = front.1 || h.second }

abbrev pub header_may_come : ℕ → Bool → Bool
header_may_come number second = nat_lt number 2 && not second

-- a header may still come
abbrev pub may_begin : Held → Bool
may_begin h = header_may_come h.number h.second

-- what is held behind the blanks
abbrev pub past_blanks : Held → Held
past_blanks h = past (front_len (may_begin h) h.bytes) h

abbrev pub first_place : Held → Option ℕ
first_place h = if length h.bytes == 0 then None else Some h.place
