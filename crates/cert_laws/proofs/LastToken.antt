-- A block's last token is its `;`.
use Rattle.std.proofs.Common.{◌≡◌, ℕ, ◌+◌, Bool, true, false, cond, List, [], ◌∷◌, ◌++◌, refl, sym, ap, ◌∙◌}
use Rattle.cert_text.specs.declared.scan.Word.TheVariants as words
use Rattle.cert_text.specs.declared.scan.Token.{Token}
use Rattle.cert_text.specs.declared.scan.Token.TheVariants as tokens
use Rattle.cert_text.specs.Grammar.{Int, int_tokens, picks_tokens, lines_tokens, more_terms, terms_tokens, Written, Rows, w_absurd, w_farkas, w_linear, w_node, w_cut, w_last, w_and, tree_tokens, rows_tokens, block_tokens}

abbrev last_of : Token → List Token → Token
last_of t [] = t
last_of t (u ∷ us) = last_of u us

-- what follows ends in this token, whatever stands before it
abbrev EndsIn : List Token → Token → Type 0
EndsIn k end = (d : Token) → last_of d k ≡ end

int_last : (i : Int) (k : List Token) (end : Token) → EndsIn k end → EndsIn (int_tokens i k) end
int_last i k end f d = by i.0 where
  by : (c : Bool) → last_of d (cond c (tokens.Sign 45 ∷ tokens.Number i.1 ∷ k) (tokens.Number i.1 ∷ k)) ≡ end
  by true = f (tokens.Number i.1)
  by false = f (tokens.Number i.1)

picks_last : (ps : List (ℕ × ℕ)) (k : List Token) (end : Token) → EndsIn k end → EndsIn (picks_tokens ps k) end
picks_last [] k end f d = f d
picks_last (p ∷ ps) k end f d = picks_last ps k end f (tokens.Number p.1)

lines_last : (ps : List (ℕ × Int)) (k : List Token) (end : Token) → EndsIn k end → EndsIn (lines_tokens ps k) end
lines_last [] k end f d = f d
lines_last (p ∷ ps) k end f d = int_last p.1 (lines_tokens ps k) end (lines_last ps k end f) (tokens.Sign 42)

more_last : (ts : List (ℕ × Int)) (k : List Token) (end : Token) → EndsIn k end → EndsIn (more_terms ts k) end
more_last [] k end f d = f d
more_last (t ∷ ts) k end f d = int_last t.1 (tokens.Sign 58 ∷ tokens.Number (t.0 + 1) ∷ more_terms ts k) end (λ e. more_last ts k end f (tokens.Number (t.0 + 1))) (tokens.Sign 44)

terms_last : (ts : List (ℕ × Int)) (k : List Token) (end : Token) → EndsIn k end → EndsIn (terms_tokens ts k) end
terms_last [] k end f d = f d
terms_last (t ∷ ts) k end f d = int_last t.1 (tokens.Sign 58 ∷ tokens.Number (t.0 + 1) ∷ more_terms ts k) end (λ e. more_last ts k end f (tokens.Number (t.0 + 1))) d

mutual
  tree_last : (w : Written) (k : List Token) (end : Token) → EndsIn k end → EndsIn (tree_tokens w k) end
  tree_last w_absurd k end f d = f (tokens.Word words.Absurd)
  tree_last (w_farkas p ps) k end f d = picks_last ps (tokens.Sign 93 ∷ k) end (λ e. f (tokens.Sign 93)) (tokens.Number p.1)
  tree_last (w_linear p ps) k end f d = int_last p.1 (lines_tokens ps (tokens.Sign 93 ∷ k)) end (lines_last ps (tokens.Sign 93 ∷ k) end (λ e. f (tokens.Sign 93))) (tokens.Sign 42)
  tree_last (w_node b n ws) k end f d = rows_last ws (tokens.Sign 125 ∷ k) end (λ e. f (tokens.Sign 125)) (tokens.Sign 123)
  tree_last (w_cut ts c ws) k end f d =
      let rows = rows_tokens ws (tokens.Sign 125 ∷ k) in
      terms_last ts (tokens.Sign 59 ∷ int_tokens c (tokens.Sign 93 ∷ tokens.Sign 123 ∷ rows)) end
      (λ e. int_last c (tokens.Sign 93 ∷ tokens.Sign 123 ∷ rows) end (λ g. rows_last ws (tokens.Sign 125 ∷ k) end (λ o. f (tokens.Sign 125)) (tokens.Sign 123)) (tokens.Sign 59)) (tokens.Sign 91)

  rows_last : (ws : Rows) (k : List Token) (end : Token) → EndsIn k end → EndsIn (rows_tokens ws k) end
  rows_last (w_last w) k end f d = tree_last w k end f d
  rows_last (w_and w ws) k end f d = tree_last w (rows_tokens ws k) end (rows_last ws k end f) d

-- what stands alone at the end
alone : (before : List Token) (d t : Token) → last_of d (before ++ t ∷ []) ≡ t
alone [] d t = refl
alone (v ∷ before) d t = alone before v t

pub last_is : (number : ℕ) (w : Written) (before : List Token) (t : Token) → block_tokens number w [] ≡ before ++ t ∷ [] → t ≡ tokens.Sign 59
last_is number w before t e = sym (alone before (tokens.Sign 59) t) ∙ ap (last_of (tokens.Sign 59)) (sym e) ∙ tree_last w (tokens.Sign 59 ∷ []) (tokens.Sign 59) (λ d. refl) (tokens.Number number)
