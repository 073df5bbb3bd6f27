-- The first block that isn't valid for its condition.
use Rattle.std.specs.Prelude.{◌≡◌, ℕ, ◌<◌, List, [], ◌∷◌, length, slice_get, Option, Some, None}
use Rattle.st_form.specs.Shared.{given_of, shown_of}
use Rattle.st_form.specs.declared.conditions.Condition.{Condition}
use Rattle.st_certificate.specs.Plain.{plain as tree_of}
use Rattle.cert_text.specs.declared.reader.Block.{Block}
use Rattle.farkas_check.specs.Problem.{Setting}
use Rattle.farkas_check.specs.Limits.{IsNarrow, IsLimited}
use Rattle.farkas_check.specs.Valid.{IsCertificate}

-- what the check of a block for a condition asks
pub record IsCheckable (c : Condition) (b : Block) : Type 0 where
  pub limited : IsLimited (tree_of b.certificate)
  pub given : IsNarrow (given_of c)
  pub shown : IsNarrow (shown_of c)

-- the same of each condition and the block at its place, as many blocks as conditions
abbrev pub AreCheckable : List Condition → List Block → Type 0
AreCheckable [] [] = Unit {0}
AreCheckable [] (b ∷ bs) = ⊥
AreCheckable (c ∷ cs) [] = ⊥
AreCheckable (c ∷ cs) (b ∷ bs) = IsCheckable c b × AreCheckable cs bs

-- the block's certificate is valid for the condition
abbrev pub Proves : Setting → Condition → Block → Type 0
Proves k c b = IsCertificate k (given_of c) (shown_of c) (tree_of b.certificate)

-- each block before the n-th is valid for the condition at its place
abbrev pub ProveBefore : Setting → List Condition → List Block → ℕ → Type 0
ProveBefore k cs bs n = (i : ℕ) (c : Condition) (b : Block) → i < n → slice_get cs i ≡ Some c → slice_get bs i ≡ Some b → Proves k c b

-- the block at a place is there and isn't valid
pub record Fails (k : Setting) (cs : List Condition) (bs : List Block) (i : ℕ) : Type 0 where
  pub condition : Condition
  pub block : Block
  pub condition_there : slice_get cs i ≡ Some condition
  pub block_there : slice_get bs i ≡ Some block
  pub refused : Proves k condition block → ⊥

-- the first place whose block isn't valid, or none where all are valid
abbrev pub IsFirstFailing : Setting → List Condition → List Block → Option ℕ → Type 0
IsFirstFailing k cs bs None = ProveBefore k cs bs (length cs)
IsFirstFailing k cs bs (Some i) = ProveBefore k cs bs i × Fails k cs bs i
