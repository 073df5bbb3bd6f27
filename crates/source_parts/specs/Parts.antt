-- A text that is parted in two.
use Rattle.std.specs.Prelude.{ℕ, List, ◌≡◌, ◌++◌, ◌==◌, if◌then◌else◌, map}

-- a byte that is blanked; line feeds stay
abbrev pub blank : ℕ → ℕ
blank b = if b == 10 then 10 else 32

-- the text is the program, the line that parts, and the rest; the proof is the rest, with blanks for all before it
pub record IsParted (text program proof : List ℕ) : Type 0 where
  pub line : List ℕ
  pub rest : List ℕ
  pub whole : text ≡ (program ++ line) ++ rest
  pub blanked : proof ≡ map blank (program ++ line) ++ rest
