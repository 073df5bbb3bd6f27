-- Which texts are certificates of conditions: the grammar of versions 1 and 2, as relations between tokens and what they stand for, one
-- case for each production, within the limits of certificates.
--
-- One text behind another is `a ++ b`. What is named counts from 1 in the text, and from 0 in what it stands for. A sign is its byte: 42
-- is "*", 44 ",", 45 "-", 58 ":", 59 ";", 91 "[", 93 "]", 123 "{" and 125 "}".
use Rattle.std.specs.Prelude.{◌≡◌, ◌≢◌, ℕ, suc, ◌+◌, ◌-◌, ◌^◌, ◌<◌, ◌≤◌, Bool, true, false, List, [], ◌∷◌, ◌++◌, length, ℤ, pos, neg_ℤ}
use Rattle.st_linear.specs.Linear.{number}
use Rattle.st_form.specs.Condition.{Implication}
use Rattle.farkas_leaf.specs.Lines.{RiseWithin}
use Rattle.st_certificate.specs.Tree.{Step, by_case, by_truth, by_split, by_cut, Tree, Trees, impossible, branch, farkas, linear, no_tree, with_tree}
use Rattle.farkas_check.specs.Problem.{Setting}
use Rattle.certificate_validity.specs.Validity.{Certifies}
use Rattle.cert_text.specs.declared.scan.Token.{Token}
use Rattle.cert_text.specs.declared.scan.Token.TheVariants.{Word, Number, Sign}
use Rattle.cert_text.specs.declared.scan.Word.TheVariants.{Cert, Absurd, Farkas, Linear, Case, Truth, Split, Cut}
use Rattle.cert_text.specs.Letters.{is_blank}
use Rattle.cert_laws.specs.Spelled.{AreAll, Spells, IsHeader}

-- [ "-" ] number: an integer between minus the limit and the limit
pub data IsInt (limit : ℕ) : List Token → ℤ → Type 0 where
  plain : {n : ℕ} → n ≤ limit → IsInt limit (Number n ∷ []) (pos n)
  negated : {n : ℕ} → n ≤ limit → IsInt limit (Sign 45 ∷ Number n ∷ []) (neg_ℤ (pos n))

-- row "*" number: a row, and how many times it is taken
pub data IsPick : List Token → ℕ × ℕ → Type 0 where
  pick : {row n : ℕ} → row + 1 < 2 ^ 32 → n < 2 ^ 40 → IsPick (Number (row + 1) ∷ Sign 42 ∷ Number n ∷ []) (row, n)

-- line "*" integer: a row or an equation, and how many times it is taken
pub data IsLine : List Token → ℕ × ℤ → Type 0 where
  line : {l : ℕ} {ts : List Token} {z : ℤ} → l + 1 < 2 ^ 32 → IsInt (2 ^ 40 - 1) ts z → IsLine (Number (l + 1) ∷ Sign 42 ∷ ts) (l, z)

-- integer ":" variable: a variable, and its coefficient, which isn't 0
pub data IsTerm : List Token → ℕ × ℤ → Type 0 where
  term : {v : ℕ} {ts : List Token} {z : ℤ} → IsInt (2 ^ 60) ts z → z ≢ pos 0 → IsTerm (ts ++ Sign 58 ∷ Number (v + 1) ∷ []) (v, z)

-- item { "," item }
pub data Listed {A : Type 0} (item : List Token → A → Type 0) : List Token → List A → Type 0 where
  one : {ts : List Token} {x : A} → item ts x → Listed item ts (x ∷ [])
  more : {a b : List Token} {x : A} {xs : List A} → item a x → Listed item b xs → Listed item (a ++ Sign 44 ∷ b) (x ∷ xs)

-- how a problem is divided: "case" component | "bool" variable | "split" disjunction | "cut" "[" [ terms ] ";" integer "]", where the
-- variables of the terms rise and are below 2^32 - 1
pub data IsDivision : List Token → Step → Type 0 where
  a_case : {n : ℕ} → n + 1 < 2 ^ 32 → IsDivision (Word Case ∷ Number (n + 1) ∷ []) (by_case n)
  a_truth : {n : ℕ} → n + 1 < 2 ^ 32 → IsDivision (Word Truth ∷ Number (n + 1) ∷ []) (by_truth n)
  a_split : {n : ℕ} → n + 1 < 2 ^ 32 → IsDivision (Word Split ∷ Number (n + 1) ∷ []) (by_split n)
  a_constant : {ts : List Token} {z : ℤ} → IsInt (2 ^ 60) ts z → IsDivision (Word Cut ∷ Sign 91 ∷ Sign 59 ∷ (ts ++ Sign 93 ∷ [])) (by_cut (number z))
  a_cut : {a b : List Token} {es : List (ℕ × ℤ)} {z : ℤ} → Listed IsTerm a es → RiseWithin (2 ^ 32 - 1) 0 es → IsInt (2 ^ 60) b z
      → IsDivision (Word Cut ∷ Sign 91 ∷ (a ++ Sign 59 ∷ (b ++ Sign 93 ∷ []))) (by_cut (record { constant = z; entries = es }))

-- how a problem is closed: "absurd" | "farkas" "[" picks "]" | in version 2 also "linear" "[" lines "]"
pub data IsLeaf (second : Bool) : List Token → Tree → Type 0 where
  is_absurd : IsLeaf second (Word Absurd ∷ []) impossible
  is_farkas : {ts : List Token} {ps : List (ℕ × ℕ)} → Listed IsPick ts ps → length ps ≤ 4096
      → IsLeaf second (Word Farkas ∷ Sign 91 ∷ (ts ++ Sign 93 ∷ [])) (farkas ps)
  is_linear : {ts : List Token} {ps : List (ℕ × ℤ)} → second ≡ true → Listed IsLine ts ps → length ps ≤ 4096
      → IsLeaf second (Word Linear ∷ Sign 91 ∷ (ts ++ Sign 93 ∷ [])) (linear ps)

-- leaf | division "{" tree { tree } "}"; the first number is how many levels it may have, the second how many trees it has, itself
-- among them
mutual
  pub data IsTree (second : Bool) : ℕ → ℕ → List Token → Tree → Type 0 where
    leaf : {levels : ℕ} {ts : List Token} {t : Tree} → IsLeaf second ts t → IsTree second (suc levels) 1 ts t
    divided : {levels n : ℕ} {a b : List Token} {s : Step} {xs : Trees} → IsDivision a s → AreTrees second levels n b xs
        → IsTree second (suc levels) (1 + n) (a ++ Sign 123 ∷ (b ++ Sign 125 ∷ [])) (branch s xs)

  pub data AreTrees (second : Bool) : ℕ → ℕ → List Token → Trees → Type 0 where
    last_tree : {levels n : ℕ} {ts : List Token} {x : Tree} → IsTree second levels n ts x → AreTrees second levels n ts (with_tree x no_tree)
    tree_and : {levels m n : ℕ} {a b : List Token} {x : Tree} {xs : Trees} → IsTree second levels m a x → AreTrees second levels n b xs
        → AreTrees second levels (m + n) (a ++ b) (with_tree x xs)

-- { "cert" number tree ";" }: for each condition, from this number on, a certificate that is valid for it, of at most 400 levels and
-- 100,000 trees
pub data AreBlocks (k : Setting) (second : Bool) : ℕ → List Token → List Implication → Type 0 where
  no_block : {number : ℕ} → AreBlocks k second number [] []
  a_block : {number n : ℕ} {a b : List Token} {t : Tree} {c : Implication} {cs : List Implication}
      → IsTree second 400 n a t → n ≤ 100000 → Certifies k c.given c.shown t → AreBlocks k second (number + 1) b cs
      → AreBlocks k second number (Word Cert ∷ Number number ∷ (a ++ Sign 59 ∷ b)) (c ∷ cs)

-- a text of certificates for these conditions: in version 2 a header, then a block for each condition, then blanks
pub data AreCertificates (k : Setting) (cs : List Implication) : List ℕ → Type 0 where
  first_version : (text blanks : List ℕ) {ts : List Token} → Spells text ts → AreBlocks k false 1 ts cs → AreAll is_blank blanks
      → AreCertificates k cs (text ++ blanks)
  second_version : (header text blanks : List ℕ) {ts : List Token} → IsHeader header → Spells text ts → AreBlocks k true 1 ts cs → AreAll is_blank blanks
      → AreCertificates k cs (header ++ (text ++ blanks))
