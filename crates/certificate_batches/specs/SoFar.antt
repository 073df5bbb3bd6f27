-- A file that is read in pieces, which are kept nowhere.
use Rattle.std.specs.Prelude.{ℕ, List, ◌++◌, ◌≡◌, length, take, Option, IfSome}

-- Some bytes were read, from the file's front where its bytes are told. With more bytes behind, what is answered now is
-- what was answered in the beginning with all of them.
pub record SoFar {A : Type 0} (told : Option (List ℕ)) (begun now : List ℕ → A) (size : ℕ) : Type 0 where
  pub bytes : List ℕ
  pub sized : length bytes ≡ size
  pub front : IfSome told (λ whole. bytes ≡ take (length bytes) whole)
  pub same : (rest : List ℕ) → now rest ≡ begun (bytes ++ rest)
