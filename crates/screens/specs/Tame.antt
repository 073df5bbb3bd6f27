-- What a screen is made of.
use Rattle.std.specs.Prelude.{◌≡◌, ℕ, Bool, true, false, ◌||◌, ◌&&◌, nat_lt, nat_le, nat_eq, List, [], ◌∷◌, ◌++◌, encode_utf8}
use Rattle.std.specs.List.{list_all}

-- a character that steers a terminal, or the direction of what stands behind it
abbrev pub steers : ℕ → Bool
steers c = nat_lt c 32 || ((nat_le 127 c && nat_lt c 160) || ((nat_le 8234 c && nat_le c 8238) || (nat_le 8294 c && nat_le c 8297)))

-- a digit or a semicolon
abbrev pub is_parameter : ℕ → Bool
is_parameter b = (nat_le 48 b && nat_le b 57) || nat_eq b 59

-- ESC [ PARAMETERS m: how what stands behind it is drawn, and nothing else (ECMA-48, 8.3.117)
abbrev pub rendition : List ℕ → List ℕ
rendition parameters = 27 ∷ 91 ∷ (parameters ++ 109 ∷ [])

pub record IsInk (bytes : List ℕ) : Type 0 where
  pub parameters : List ℕ
  pub are : list_all is_parameter parameters ≡ true
  pub is : bytes ≡ rendition parameters

-- characters that steer nothing, line feeds, and inks
pub data IsScreen : List ℕ → Type 0 where
  nothing : IsScreen []
  character : {bytes : List ℕ} → IsScreen bytes → (c : ℕ) → steers c ≡ false → IsScreen (bytes ++ encode_utf8 c)
  line_feed : {bytes : List ℕ} → IsScreen bytes → IsScreen (bytes ++ 10 ∷ [])
  ink : {bytes code : List ℕ} → IsScreen bytes → IsInk code → IsScreen (bytes ++ code)
