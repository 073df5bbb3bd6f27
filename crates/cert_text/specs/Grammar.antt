-- The grammar of certificate texts of versions 1 and 2: the tokens of a tree, one constructor for each production, and of a block.
use Rattle.std.specs.Prelude.{◌≡◌, ℕ, ◌+◌, ◌<◌, ◌≤◌, Bool, true, false, ◌||◌, nat_lt, nat_le, if◌then◌else◌, List, [], ◌∷◌, map, ℤ}
use Rattle.cert_text.specs.declared.scan.Word.{Word}
use Rattle.cert_text.specs.declared.scan.Word.TheVariants as words
use Rattle.cert_text.specs.declared.scan.Branching.{Branching}
use Rattle.cert_text.specs.declared.scan.Branching.TheVariants as nodes
use Rattle.cert_text.specs.declared.scan.Token.{Token}
use Rattle.cert_text.specs.declared.scan.Token.TheVariants as tokens
use Rattle.st_certificate.specs.Tree.{Tree, Trees, no_tree, with_tree, branch, by_cut, impossible, farkas, linear}
use Rattle.cert_text.specs.Tree.{branching_of, signed_of}

-- a number with its sign, as written
abbrev pub Int : Type 0
Int = Bool × ℕ

abbrev pub int_value : Int → ℤ
int_value i = signed_of i.0 i.1

-- a tree as it is written: one constructor for each production; what is named counts from 0 here, and from 1 in the text
mutual
  pub data Written : Type 0 where
    w_absurd : Written
    w_farkas : (ℕ × ℕ) → List (ℕ × ℕ) → Written
    w_linear : (ℕ × Int) → List (ℕ × Int) → Written
    w_node : Branching → ℕ → Rows → Written
    w_cut : List (ℕ × Int) → Int → Rows → Written

  pub data Rows : Type 0 where
    w_last : Written → Rows
    w_and : Written → Rows → Rows

-- the tokens, in front of what follows
abbrev pub int_tokens : Int → List Token → List Token
int_tokens i k = if i.0 then tokens.Sign 45 ∷ tokens.Number i.1 ∷ k else tokens.Number i.1 ∷ k

abbrev pub pick_tokens : ℕ × ℕ → List Token → List Token
pick_tokens p k = tokens.Number (p.0 + 1) ∷ tokens.Sign 42 ∷ tokens.Number p.1 ∷ k

abbrev pub picks_tokens : List (ℕ × ℕ) → List Token → List Token
picks_tokens [] k = k
picks_tokens (p ∷ ps) k = tokens.Sign 44 ∷ pick_tokens p (picks_tokens ps k)

abbrev pub line_tokens : ℕ × Int → List Token → List Token
line_tokens p k = tokens.Number (p.0 + 1) ∷ tokens.Sign 42 ∷ int_tokens p.1 k

abbrev pub lines_tokens : List (ℕ × Int) → List Token → List Token
lines_tokens [] k = k
lines_tokens (p ∷ ps) k = tokens.Sign 44 ∷ line_tokens p (lines_tokens ps k)

abbrev pub term_tokens : ℕ × Int → List Token → List Token
term_tokens t k = int_tokens t.1 (tokens.Sign 58 ∷ tokens.Number (t.0 + 1) ∷ k)

abbrev pub more_terms : List (ℕ × Int) → List Token → List Token
more_terms [] k = k
more_terms (t ∷ ts) k = tokens.Sign 44 ∷ term_tokens t (more_terms ts k)

abbrev pub terms_tokens : List (ℕ × Int) → List Token → List Token
terms_tokens [] k = k
terms_tokens (t ∷ ts) k = term_tokens t (more_terms ts k)

abbrev pub word_of_node : Branching → Word
word_of_node nodes.Case = words.Case
word_of_node nodes.Truth = words.Truth
word_of_node nodes.Split = words.Split

abbrev mutual
  pub tree_tokens : Written → List Token → List Token
  tree_tokens w_absurd k = tokens.Word words.Absurd ∷ k
  tree_tokens (w_farkas p ps) k = tokens.Word words.Farkas ∷ tokens.Sign 91 ∷ pick_tokens p (picks_tokens ps (tokens.Sign 93 ∷ k))
  tree_tokens (w_linear p ps) k = tokens.Word words.Linear ∷ tokens.Sign 91 ∷ line_tokens p (lines_tokens ps (tokens.Sign 93 ∷ k))
  tree_tokens (w_node b n ws) k = tokens.Word (word_of_node b) ∷ tokens.Number (n + 1) ∷ tokens.Sign 123 ∷ rows_tokens ws (tokens.Sign 125 ∷ k)
  tree_tokens (w_cut ts c ws) k = tokens.Word words.Cut ∷ tokens.Sign 91 ∷ terms_tokens ts (tokens.Sign 59 ∷ int_tokens c (tokens.Sign 93 ∷ tokens.Sign 123 ∷ rows_tokens ws (tokens.Sign 125 ∷ k)))

  pub rows_tokens : Rows → List Token → List Token
  rows_tokens (w_last w) k = tree_tokens w k
  rows_tokens (w_and w ws) k = tree_tokens w (rows_tokens ws k)

-- a block and what follows it
abbrev pub block_tokens : ℕ → Written → List Token → List Token
block_tokens number w k = tokens.Word words.Cert ∷ tokens.Number number ∷ tree_tokens w (tokens.Sign 59 ∷ k)

-- what a tree means
abbrev pub entry_of : ℕ × Int → ℕ × ℤ
entry_of t = (t.0, int_value t.1)

abbrev mutual
  pub meaning : Written → Tree
  meaning w_absurd = impossible
  meaning (w_farkas p ps) = farkas (p ∷ ps)
  meaning (w_linear p ps) = linear (map entry_of (p ∷ ps))
  meaning (w_node b n ws) = branching_of b n (meanings ws)
  meaning (w_cut ts c ws) = branch (by_cut (record { constant = int_value c; entries = map entry_of ts })) (meanings ws)

  pub meanings : Rows → Trees
  meanings (w_last w) = with_tree (meaning w) no_tree
  meanings (w_and w ws) = with_tree (meaning w) (meanings ws)

-- variables rise from `low` on, and coefficients are not 0
abbrev pub AreTerms : ℕ → List (ℕ × Int) → Type 0
AreTerms low [] = Unit {0}
AreTerms low (t ∷ ts) = (low ≤ t.0) × (0 < t.1.1) × AreTerms (t.0 + 1) ts

-- what a version allows
abbrev mutual
  pub IsProper : Bool → Written → Type 0
  IsProper second w_absurd = Unit {0}
  IsProper second (w_farkas p ps) = Unit {0}
  IsProper second (w_linear p ps) = second ≡ true
  IsProper second (w_node b n ws) = AreProper second ws
  IsProper second (w_cut ts c ws) = AreTerms 0 ts × AreProper second ws

  pub AreProper : Bool → Rows → Type 0
  AreProper second (w_last w) = IsProper second w
  AreProper second (w_and w ws) = IsProper second w × AreProper second ws

-- the trees of a tree
abbrev mutual
  pub tree_count : Written → ℕ
  tree_count w_absurd = 1
  tree_count (w_farkas p ps) = 1
  tree_count (w_linear p ps) = 1
  tree_count (w_node b n ws) = 1 + row_count ws
  tree_count (w_cut ts c ws) = 1 + row_count ws

  pub row_count : Rows → ℕ
  row_count (w_last w) = tree_count w
  row_count (w_and w ws) = tree_count w + row_count ws

-- whether a number of the text is past its limit
abbrev pub is_long : ℕ → Bool
is_long n = nat_lt 4294967295 n

abbrev pub is_long_entry : ℕ → Bool
is_long_entry n = nat_lt 1152921504606846976 n

abbrev pub is_long_pick : ℕ → ℕ → ℕ → Bool
is_long_pick count row size = (is_long (row + 1) || nat_le 4096 count) || nat_le 1099511627776 size

abbrev pub picks_over : ℕ → List (ℕ × ℕ) → Bool
picks_over count [] = false
picks_over count (p ∷ ps) = is_long_pick count p.0 p.1 || picks_over (count + 1) ps

abbrev pub lines_over : ℕ → List (ℕ × Int) → Bool
lines_over count [] = false
lines_over count (p ∷ ps) = is_long_pick count p.0 p.1.1 || lines_over (count + 1) ps

abbrev pub terms_over : List (ℕ × Int) → Bool
terms_over [] = false
terms_over (t ∷ ts) = (is_long_entry t.1.1 || is_long (t.0 + 1)) || terms_over ts

-- whether a tree, with `trees` before it in its block and `depth` round it, is over a limit
abbrev pub none_left : ℕ → ℕ → Bool
none_left trees depth = nat_le 100000 trees || nat_le 400 depth

abbrev mutual
  pub tree_over : ℕ → ℕ → Written → Bool
  tree_over trees depth w_absurd = none_left trees depth
  tree_over trees depth (w_farkas p ps) = none_left trees depth || picks_over 0 (p ∷ ps)
  tree_over trees depth (w_linear p ps) = none_left trees depth || lines_over 0 (p ∷ ps)
  tree_over trees depth (w_node b n ws) = none_left trees depth || (is_long (n + 1) || rows_over (trees + 1) (depth + 1) ws)
  tree_over trees depth (w_cut ts c ws) = none_left trees depth || (terms_over ts || (is_long_entry c.1 || rows_over (trees + 1) (depth + 1) ws))

  pub rows_over : ℕ → ℕ → Rows → Bool
  rows_over trees depth (w_last w) = tree_over trees depth w
  rows_over trees depth (w_and w ws) = tree_over trees depth w || rows_over (trees + tree_count w) depth ws

-- a block that a version allows, within the limits
pub record IsBlock (number : ℕ) (second : Bool) (w : Written) : Type 0 where
  pub proper : IsProper second w
  pub within : tree_over 0 0 w ≡ false
