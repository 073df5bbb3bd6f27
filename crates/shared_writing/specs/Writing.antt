-- The text that is written: the trees, one a line, and then the certificates.
use Rattle.std.specs.Prelude.{◌≡◌, ℕ, ◌+◌, ◌<◌, ◌≤◌, List, [], ◌∷◌, ◌++◌, codes, length, All}
use Rattle.shared_certificates.specs.Nodes.{Node, Shared, nothing_shared}
use Rattle.shared_certificates.specs.Grammar.{IsNode, cert_words, header_words, tree_words}
use Rattle.shared_certificates.specs.Reading.{added, level, rooted}

-- words, each behind a space
abbrev pub spaced : List (List ℕ) → List ℕ
spaced [] = []
spaced (w ∷ ws) = 32 ∷ (w ++ spaced ws)

-- words in one line
abbrev pub line_text : List (List ℕ) → List ℕ
line_text [] = 10 ∷ []
line_text (w ∷ ws) = w ++ (spaced ws ++ 10 ∷ [])

-- trees from a number on, and certificates
abbrev pub tree_lines : ℕ → List Node → List ℕ
tree_lines number [] = []
tree_lines number (n ∷ ns) = line_text (tree_words number n) ++ tree_lines (number + 1) ns

abbrev pub cert_lines : ℕ → List ℕ → List ℕ
cert_lines number [] = []
cert_lines number (root ∷ roots) = line_text (cert_words number root) ++ cert_lines (number + 1) roots

abbrev pub text_of : Shared → List ℕ
text_of t = line_text header_words ++ (tree_lines 0 t.nodes ++ cert_lines 0 t.roots)

-- trees that may be added one after the other, and what they make
abbrev pub MayAdd : Shared → List Node → Type 0
MayAdd t [] = Unit {0}
MayAdd t (n ∷ ns) = (length t.nodes < 4294967295) × IsNode (length t.nodes) n × (level t.levels n ≤ 400) × MayAdd (added t n) ns

abbrev pub with_nodes : Shared → List Node → Shared
with_nodes t [] = t
with_nodes t (n ∷ ns) = with_nodes (added t n) ns

abbrev pub with_roots : Shared → List ℕ → Shared
with_roots t [] = t
with_roots t (root ∷ roots) = with_roots (rooted t root) roots

-- a table within the limits: each tree refers to earlier ones, has the levels that are noted, and each certificate is there
pub record IsTable (t : Shared) : Type 0 where
  pub nodes : MayAdd nothing_shared t.nodes
  pub roots : All (λ root. (root < length t.nodes) × (root < 4294967295)) t.roots
  pub few : length t.roots < 4294967295
  pub noted : with_roots (with_nodes nothing_shared t.nodes) t.roots ≡ t
