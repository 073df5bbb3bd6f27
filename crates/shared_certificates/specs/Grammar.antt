-- Certificate texts of version 3: a line of words for each tree and each certificate. In the text all that is counted counts from 1.
use Rattle.std.specs.Prelude.{◌≡◌, ℕ, ◌+◌, ◌<◌, ◌≤◌, ◌^◌, ℤ, unsigned_abs, List, [], ◌∷◌, ◌++◌, codes, map, length, All, Some}
use Rattle.std.specs.Fmt.{decimal, signed_decimal}
use Rattle.st_linear.specs.Linear.{of_entries}
use Rattle.st_certificate.specs.Tree.{Step, by_case, by_truth, by_split, by_cut}
use Rattle.shared_certificates.specs.Nodes.{Node, contradiction, farkas_sum, linear_sum, division, Shared}
use Rattle.shared_certificates.specs.Lines.{words}
use Rattle.shared_certificates.specs.Reading.{level, added, rooted}

-- row "*" multiplier
abbrev pub pick_word : ℕ × ℕ → List ℕ
pick_word p = decimal (p.0 + 1) ++ 42 ∷ decimal p.1

-- line "*" multiplier
abbrev pub line_word : ℕ × ℤ → List ℕ
line_word p = decimal (p.0 + 1) ++ 42 ∷ signed_decimal p.1

-- coefficient ":" variable
abbrev pub term_word : ℕ × ℤ → List ℕ
term_word e = signed_decimal e.1 ++ 58 ∷ decimal (e.0 + 1)

abbrev pub number_word : ℕ → List ℕ
number_word n = decimal (n + 1)

abbrev pub step_words : Step → List (List ℕ)
step_words (by_case c) = codes "case" ∷ number_word c ∷ []
step_words (by_truth v) = codes "bool" ∷ number_word v ∷ []
step_words (by_split k) = codes "split" ∷ number_word k ∷ []
step_words (by_cut f) = codes "cut" ∷ signed_decimal f.constant ∷ map term_word f.entries

abbrev pub node_words : Node → List (List ℕ)
node_words contradiction = codes "absurd" ∷ []
node_words (farkas_sum ps) = codes "farkas" ∷ map pick_word ps
node_words (linear_sum ps) = codes "linear" ∷ map line_word ps
node_words (division s ns) = step_words s ++ codes ":" ∷ map number_word ns

-- the line of a tree and of a certificate, each with its number
abbrev pub tree_words : ℕ → Node → List (List ℕ)
tree_words number n = codes "tree" ∷ number_word number ∷ node_words n

abbrev pub cert_words : ℕ → ℕ → List (List ℕ)
cert_words number root = codes "cert" ∷ number_word number ∷ number_word root ∷ []

-- a step within the limits; variables of a cut rise, and its coefficients aren't 0
abbrev pub IsStep : Step → Type 0
IsStep (by_case c) = c < 4294967295
IsStep (by_truth v) = v < 4294967295
IsStep (by_split k) = k < 4294967295
IsStep (by_cut f) =
    (of_entries f.constant f.entries ≡ Some f) × (unsigned_abs f.constant ≤ 1152921504606846976)
    × All (λ e. (e.0 < 4294967295) × (unsigned_abs e.1 ≤ 1152921504606846976)) f.entries

-- a node within the limits, whose parts are among so many trees
abbrev pub IsNode : ℕ → Node → Type 0
IsNode count contradiction = Unit {0}
IsNode count (farkas_sum ps) = (length ps ≤ 4096) × All (λ p. (p.0 < 4294967295) × (p.1 < 1099511627776)) ps
IsNode count (linear_sum ps) = (length ps ≤ 4096) × All (λ p. (p.0 < 4294967295) × (unsigned_abs p.1 < 1099511627776)) ps
IsNode count (division s ns) = IsStep s × All (λ n. (n < count) × (n < 4294967295)) ns

-- what a line of words adds to the lines before: nothing, a tree that refers to earlier ones alone, or the next certificate
pub data Adds (t : Shared) (ws : List (List ℕ)) (u : Shared) : Type 0 where
  adds_nothing : ws ≡ [] → t ≡ u → Adds t ws u
  adds_tree : (n : Node) → ws ≡ tree_words (length t.nodes) n → length t.nodes < 4294967295 → IsNode (length t.nodes) n → level t.levels n ≤ 400 → added t n ≡ u → Adds t ws u
  adds_certificate : (root : ℕ) → ws ≡ cert_words (length t.roots) root → length t.roots < 4294967295 → (root < length t.nodes) × (root < 4294967295) → rooted t root ≡ u → Adds t ws u

-- lines behind one another
abbrev pub AddAll : Shared → List (List ℕ) → Shared → Type 0
AddAll t [] v = t ≡ v
AddAll t (l ∷ ls) v = (u : Shared) × Adds t (words l) u × AddAll u ls v

abbrev pub header_words : List (List ℕ)
header_words = codes "version" ∷ codes "3" ∷ []
