-- The text of version 2 of some certificates, and when there is none.
use Rattle.std.specs.Prelude.{◌≡◌, ℕ, ◌+◌, ◌<◌, List, [], ◌∷◌, ◌++◌, codes, length, nat_lt, if◌then◌else◌, Option, Some, None, Result, Ok, Err}
use Rattle.std.specs.declared.vec.Vec.{Vec}
use Rattle.std.specs.declared.alloc.Global.{Global}
use Rattle.st_certificate.specs.Tree.{Tree}
use Rattle.search_laws.specs.Sizes.{nodes}
use Rattle.cert_text.specs.Spelling.{block_text}
use Rattle.certificate_unfolding.specs.declared.texts.Refusal.{Refusal}
use Rattle.certificate_unfolding.specs.declared.texts.Refusal.TheVariants.{Large, Long, Memory}

-- blocks from a number on
abbrev pub blocks_text : ℕ → List Tree → List ℕ
blocks_text number [] = []
blocks_text number (t ∷ ts) = block_text number t ++ blocks_text (number + 1) ts

abbrev pub version_2_text : List Tree → List ℕ
version_2_text ts = codes "version 2;\n" ++ blocks_text 1 ts

-- the first certificate, from a number on, that has more than 100,000 nodes
abbrev pub large_from : ℕ → List Tree → Option ℕ
large_from i [] = None
large_from i (t ∷ ts) = if nat_lt 100000 (nodes t) then Some i else large_from (i + 1) ts

-- what is told of the text: it, or that it is too long
abbrev pub Written : Result (Vec ℕ Global) Refusal → List Tree → Type 0
Written (Ok v) ts = v.items ≡ version_2_text ts
Written (Err (Large i)) ts = ⊥
Written (Err Long) ts = 268435456 < length (version_2_text ts)
Written (Err Memory) ts = Unit {0}

-- and that a certificate is too large
abbrev pub Told : Result (Vec ℕ Global) Refusal → List Tree → Type 0
Told (Ok v) ts = (large_from 0 ts ≡ None) × (v.items ≡ version_2_text ts)
Told (Err (Large i)) ts = large_from 0 ts ≡ Some i
Told (Err Long) ts = (large_from 0 ts ≡ None) × (268435456 < length (version_2_text ts))
Told (Err Memory) ts = Unit {0}
