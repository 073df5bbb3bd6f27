-- The one spelling of a block that is written.
use Rattle.std.specs.Prelude.{ℕ, zero, suc, ◌+◌, ◌/◌, ◌%◌, nat_le, if◌then◌else◌, List, [], ◌∷◌, ◌++◌, codes, ℤ, pos, negsuc, unsigned_abs}
use Rattle.st_linear.specs.Linear.{Linear}
use Rattle.st_certificate.specs.Tree.{Tree, Trees, no_tree, with_tree, branch, by_case, by_truth, by_split, by_cut, impossible, farkas, linear}

-- the digits of a number, at most left + 1 of them
unfoldable pub digits_in : ℕ → ℕ → List ℕ
digits_in zero n = (48 + n % 10) ∷ []
digits_in (suc left) n = (if nat_le 10 n then digits_in left (n / 10) else []) ++ (48 + n % 10) ∷ []

unfoldable pub decimal : ℕ → List ℕ
decimal n = digits_in 39 n

abbrev pub sign_text : ℤ → List ℕ
sign_text (pos n) = []
sign_text (negsuc n) = 45 ∷ []

abbrev pub int_text : ℤ → List ℕ
int_text z = sign_text z ++ decimal (unsigned_abs z)

abbrev pub pick_text : ℕ × ℕ → List ℕ
pick_text p = decimal (p.0 + 1) ++ codes "*" ++ decimal p.1

abbrev pub line_text : ℕ × ℤ → List ℕ
line_text p = decimal (p.0 + 1) ++ codes "*" ++ int_text p.1

abbrev pub term_text : ℕ × ℤ → List ℕ
term_text p = int_text p.1 ++ codes ":" ++ decimal (p.0 + 1)

-- each behind a comma
abbrev pub more_picks_text : List (ℕ × ℕ) → List ℕ
more_picks_text [] = []
more_picks_text (p ∷ ps) = codes ", " ++ pick_text p ++ more_picks_text ps

abbrev pub picks_text : List (ℕ × ℕ) → List ℕ
picks_text [] = []
picks_text (p ∷ ps) = pick_text p ++ more_picks_text ps

abbrev pub more_lines_text : List (ℕ × ℤ) → List ℕ
more_lines_text [] = []
more_lines_text (p ∷ ps) = codes ", " ++ line_text p ++ more_lines_text ps

abbrev pub lines_text : List (ℕ × ℤ) → List ℕ
lines_text [] = []
lines_text (p ∷ ps) = line_text p ++ more_lines_text ps

abbrev pub more_terms_text : List (ℕ × ℤ) → List ℕ
more_terms_text [] = []
more_terms_text (p ∷ ps) = codes ", " ++ term_text p ++ more_terms_text ps

abbrev pub terms_text : List (ℕ × ℤ) → List ℕ
terms_text [] = []
terms_text (p ∷ ps) = term_text p ++ more_terms_text ps

abbrev pub head_text : List ℕ → ℕ → List ℕ
head_text word n = word ++ decimal (n + 1) ++ codes " { "

abbrev pub cut_text : Linear → List ℕ
cut_text f = codes "cut [" ++ terms_text f.entries ++ codes "; " ++ int_text f.constant ++ codes "] { "

abbrev mutual
  pub tree_text : Tree → List ℕ
  tree_text impossible = codes "absurd"
  tree_text (farkas ps) = codes "farkas [" ++ picks_text ps ++ codes "]"
  tree_text (linear ps) = codes "linear [" ++ lines_text ps ++ codes "]"
  tree_text (branch (by_case n) ts) = head_text (codes "case ") n ++ trees_text ts ++ codes "}"
  tree_text (branch (by_truth n) ts) = head_text (codes "bool ") n ++ trees_text ts ++ codes "}"
  tree_text (branch (by_split n) ts) = head_text (codes "split ") n ++ trees_text ts ++ codes "}"
  tree_text (branch (by_cut f) ts) = cut_text f ++ trees_text ts ++ codes "}"

  pub trees_text : Trees → List ℕ
  trees_text no_tree = []
  trees_text (with_tree t ts) = tree_text t ++ codes " " ++ trees_text ts

abbrev pub block_text : ℕ → Tree → List ℕ
block_text number t = codes "cert " ++ decimal number ++ codes " " ++ tree_text t ++ codes ";\n"
