-- Each token of a block has a mark.
use Rattle.std.proofs.Common.{◌≡◌, ℕ, suc, ◌+◌, Bool, true, false, cond, List, [], ◌∷◌, length, refl, ap}
use Rattle.cert_text.specs.declared.scan.Token.{Token}
use Rattle.cert_text.specs.declared.scan.Token.TheVariants as tokens
use Rattle.cert_text.specs.Grammar.{Int, int_tokens, picks_tokens, lines_tokens, term_tokens, more_terms, terms_tokens, Written, Rows, w_absurd, w_farkas, w_linear, w_node, w_cut, w_last, w_and, tree_tokens, rows_tokens, block_tokens, tree_count, is_long, is_long_entry}
use Rattle.cert_laws.specs.Limits.{int_marks, is_size_over, picks_marks, lines_marks, term_marks, more_marks, terms_marks, tree_marks, rows_marks, block_marks}

abbrev AsMany : List Bool → List Token → Type 0
AsMany ms ts = length ms ≡ length ts

int_many : (over : Bool) (i : Int) (ms : List Bool) (ts : List Token) → AsMany ms ts → AsMany (int_marks over i ms) (int_tokens i ts)
int_many over i ms ts e = by i.0 where
  by : (c : Bool) → length (cond c (false ∷ over ∷ ms) (over ∷ ms)) ≡ length (cond c (tokens.Sign 45 ∷ tokens.Number i.1 ∷ ts) (tokens.Number i.1 ∷ ts))
  by true = ap (λ n. suc (suc n)) e
  by false = ap suc e

picks_many : (ps : List (ℕ × ℕ)) (count : ℕ) (ms : List Bool) (ts : List Token) → AsMany ms ts → AsMany (picks_marks count ps ms) (picks_tokens ps ts)
picks_many [] count ms ts e = e
picks_many (p ∷ ps) count ms ts e = ap (λ n. suc (suc (suc (suc n)))) (picks_many ps (count + 1) ms ts e)

lines_many : (ps : List (ℕ × Int)) (count : ℕ) (ms : List Bool) (ts : List Token) → AsMany ms ts → AsMany (lines_marks count ps ms) (lines_tokens ps ts)
lines_many [] count ms ts e = e
lines_many (p ∷ ps) count ms ts e = ap (λ n. suc (suc (suc n))) (int_many (is_size_over p.1.1) p.1 (lines_marks (count + 1) ps ms) (lines_tokens ps ts) (lines_many ps (count + 1) ms ts e))

term_many : (t : ℕ × Int) (ms : List Bool) (ts : List Token) → AsMany ms ts → AsMany (term_marks t ms) (term_tokens t ts)
term_many t ms ts e = int_many (is_long_entry t.1.1) t.1 (false ∷ is_long (t.0 + 1) ∷ ms) (tokens.Sign 58 ∷ tokens.Number (t.0 + 1) ∷ ts) (ap (λ n. suc (suc n)) e)

more_many : (us : List (ℕ × Int)) (ms : List Bool) (ts : List Token) → AsMany ms ts → AsMany (more_marks us ms) (more_terms us ts)
more_many [] ms ts e = e
more_many (u ∷ us) ms ts e = ap suc (term_many u (more_marks us ms) (more_terms us ts) (more_many us ms ts e))

terms_many : (us : List (ℕ × Int)) (ms : List Bool) (ts : List Token) → AsMany ms ts → AsMany (terms_marks us ms) (terms_tokens us ts)
terms_many [] ms ts e = e
terms_many (u ∷ us) ms ts e = term_many u (more_marks us ms) (more_terms us ts) (more_many us ms ts e)

mutual
  tree_many : (w : Written) (trees depth : ℕ) (ms : List Bool) (ts : List Token) → AsMany ms ts → AsMany (tree_marks trees depth w ms) (tree_tokens w ts)
  tree_many w_absurd trees depth ms ts e = ap suc e
  tree_many (w_farkas p ps) trees depth ms ts e = ap (λ n. suc (suc (suc (suc (suc n))))) (picks_many ps 1 (false ∷ ms) (tokens.Sign 93 ∷ ts) (ap suc e))
  tree_many (w_linear p ps) trees depth ms ts e = ap (λ n. suc (suc (suc (suc n)))) (int_many (is_size_over p.1.1) p.1 (lines_marks 1 ps (false ∷ ms)) (lines_tokens ps (tokens.Sign 93 ∷ ts)) (lines_many ps 1 (false ∷ ms) (tokens.Sign 93 ∷ ts) (ap suc e)))
  tree_many (w_node b n ws) trees depth ms ts e = ap (λ m. suc (suc (suc m))) (rows_many ws (trees + 1) (depth + 1) (false ∷ ms) (tokens.Sign 125 ∷ ts) (ap suc e))
  tree_many (w_cut us c ws) trees depth ms ts e =
      let inner = rows_marks (trees + 1) (depth + 1) ws (false ∷ ms) in
      let rows = rows_tokens ws (tokens.Sign 125 ∷ ts) in
      let deep = rows_many ws (trees + 1) (depth + 1) (false ∷ ms) (tokens.Sign 125 ∷ ts) (ap suc e) in
      let constant = int_many (is_long_entry c.1) c (false ∷ false ∷ inner) (tokens.Sign 93 ∷ tokens.Sign 123 ∷ rows) (ap (λ m. suc (suc m)) deep) in
      ap (λ m. suc (suc m)) (terms_many us (false ∷ int_marks (is_long_entry c.1) c (false ∷ false ∷ inner)) (tokens.Sign 59 ∷ int_tokens c (tokens.Sign 93 ∷ tokens.Sign 123 ∷ rows)) (ap suc constant))

  rows_many : (ws : Rows) (trees depth : ℕ) (ms : List Bool) (ts : List Token) → AsMany ms ts → AsMany (rows_marks trees depth ws ms) (rows_tokens ws ts)
  rows_many (w_last w) trees depth ms ts e = tree_many w trees depth ms ts e
  rows_many (w_and w ws) trees depth ms ts e = tree_many w trees depth (rows_marks (trees + tree_count w) depth ws ms) (rows_tokens ws ts) (rows_many ws (trees + tree_count w) depth ms ts e)

pub as-many : (number : ℕ) (w : Written) → length (block_marks w) ≡ length (block_tokens number w [])
as-many number w = ap (λ n. suc (suc n)) (tree_many w 0 0 (false ∷ []) (tokens.Sign 59 ∷ []) refl)
