-- Whether a certificate is valid, as a test.
use Rattle.std.specs.Prelude.{ℕ, ◌+◌, Bool, true, false, ◌&&◌, nat_le, nat_lt, int_lt, int_le, ℤ, pos, List, [], ◌∷◌, length, Option, Some, None, is_none}
use Rattle.st_linear.specs.Linear.{Linear}
use Rattle.st_linear.specs.declared.rows.Line.{Line}
use Rattle.st_form.specs.Formula.{Formula}
use Rattle.st_certificate.specs.Tree.{Tree, Trees, impossible, branch, farkas, linear, no_tree, with_tree}
use Rattle.farkas_leaf.specs.Leaf as of_rows
use Rattle.farkas_leaf.specs.Lines as of_lines
use Rattle.farkas_check.specs.Problem.{Setting, Problem, division, rows_of, lines_of, first_problem}

-- numbers rise from low on, and are below n
abbrev pub rise_within : {M : Type 0} → ℕ → ℕ → List (ℕ × M) → Bool
rise_within n low [] = true
rise_within n low (p ∷ ps) = nat_le low p.0 && (nat_lt p.0 n && rise_within n (p.0 + 1) ps)

abbrev pub has_none : {A : Type 0} → List A → Bool
has_none [] = true
has_none (x ∷ xs) = false

-- the form is a negative constant
abbrev pub is_contradiction : Linear → Bool
is_contradiction f = has_none f.entries && int_lt f.constant (pos 0)

abbrev pub closes_rows : List Linear → List (ℕ × ℕ) → Bool
closes_rows rows picks = rise_within (length rows) 0 picks && is_contradiction (of_rows.total rows picks)

abbrev pub is_signed : Bool → ℤ → Bool
is_signed true z = true
is_signed false z = int_le (pos 0) z

abbrev pub are_signed : List Line → List (ℕ × ℤ) → Bool
are_signed lines [] = true
are_signed lines (p ∷ ps) = is_signed (of_lines.line_at lines p.0).equal p.1 && are_signed lines ps

abbrev pub closes_lines : List Line → List (ℕ × ℤ) → Bool
closes_lines lines picks = rise_within (length lines) 0 picks && (are_signed lines picks && is_contradiction (of_lines.total lines picks))

-- there is a value, and it passes
abbrev pub there : {A : Type 0} → (A → Bool) → Option A → Bool
there test None = false
there test (Some x) = test x

abbrev mutual
  -- a certificate is valid for a problem
  pub is_valid : Setting → Tree → Problem → Bool
  is_valid k impossible p = is_none p.conjuncts
  is_valid k (branch s ts) p = there (are_valid k ts) (division k p s)
  is_valid k (farkas picks) p = there (λ fs. closes_rows (rows_of fs) picks) p.conjuncts
  is_valid k (linear picks) p = there (λ fs. closes_lines (lines_of fs) picks) p.conjuncts

  pub are_valid : Setting → Trees → List Problem → Bool
  are_valid k no_tree [] = true
  are_valid k no_tree (p ∷ ps) = false
  are_valid k (with_tree t ts) [] = false
  are_valid k (with_tree t ts) (p ∷ ps) = is_valid k t p && are_valid k ts ps

-- a certificate is valid for a condition
unfoldable pub is_certificate : Setting → Formula → Formula → Tree → Bool
is_certificate k given shown t = is_valid k t (first_problem k given shown)
