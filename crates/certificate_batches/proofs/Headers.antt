-- A header in front reaches as far as it does in the first bytes, or beyond them.
use Rattle.std.proofs.Common.{◌≡◌, ◌∙◌, ℕ, zero, suc, ◌+◌, ◌<◌, ◌≤◌, Bool, true, false, cond, List, [], ◌∷◌, ◌++◌, length, drop, refl, sym, ap, subst, arith, inl, inr, ◌⊎◌, codes, length-drop}
use Rattle.std.specs.Prelude.{◌==◌, ◌&&◌, nat_eq}
use Rattle.std.specs.List.{starts_with}
use Rattle.std.proofs.Math.Nat.{eq-or-lt_of_le}
use Rattle.std.proofs.lemmas.Bool.{cases_lt, false≢true}
use Rattle.std.proofs.lemmas.List.{drop-append-le, nil_from_length}
use Rattle.cert_text.specs.Letters.{is_blank}
use Rattle.cert_text.specs.Blank.{blank_len, byte_behind, header_len}
use Rattle.certificate_batches.proofs.Blanks.{plus_none, more_than_none, blanks_within}

-- ---- blanks in front, and more bytes behind
pub blanks_then : (bs rest : List ℕ) → blank_len (bs ++ rest) ≡ blank_len bs + blank_len (drop (blank_len bs) bs ++ rest)
blanks_then [] rest = let sum : blank_len rest ≡ 0 + blank_len rest = omega arith in sum
blanks_then (b ∷ bs) rest = by (is_blank b) refl (blanks_then bs rest) where
  by : (c : Bool) → is_blank b ≡ c → blank_len (bs ++ rest) ≡ blank_len bs + blank_len (drop (blank_len bs) bs ++ rest)
      → blank_len (b ∷ (bs ++ rest)) ≡ blank_len (b ∷ bs) + blank_len (drop (blank_len (b ∷ bs)) (b ∷ bs) ++ rest)
  by true e more =
      let one : blank_len (b ∷ (bs ++ rest)) ≡ 1 + blank_len (bs ++ rest) = ap (λ (c : Bool). cond c (1 + blank_len (bs ++ rest)) 0) e in
      let this : blank_len (b ∷ bs) ≡ suc (blank_len bs) = ap (λ (c : Bool). cond c (1 + blank_len bs) 0) e ∙ (let s : 1 + blank_len bs ≡ suc (blank_len bs) = omega arith in s) in
      let sum : 1 + blank_len (bs ++ rest) ≡ suc (blank_len bs) + blank_len (drop (blank_len bs) bs ++ rest) = omega (arith, more) in
      one ∙ sum ∙ ap (λ (m : ℕ). m + blank_len (drop m (b ∷ bs) ++ rest)) (sym this)
  by false e more =
      let this : blank_len (b ∷ bs) ≡ 0 = ap (λ (c : Bool). cond c (1 + blank_len bs) 0) e in
      let sum : blank_len (b ∷ (bs ++ rest)) ≡ 0 + blank_len (b ∷ (bs ++ rest)) = omega arith in
      sum ∙ ap (λ (m : ℕ). m + blank_len (drop m (b ∷ bs) ++ rest)) (sym this)

-- behind the blanks stands none
pub none_behind : (bs : List ℕ) → blank_len (drop (blank_len bs) bs) ≡ 0
none_behind [] = refl
none_behind (b ∷ bs) = by (is_blank b) refl (none_behind bs) where
  by : (c : Bool) → is_blank b ≡ c → blank_len (drop (blank_len bs) bs) ≡ 0 → blank_len (drop (blank_len (b ∷ bs)) (b ∷ bs)) ≡ 0
  by true e more =
      let this : blank_len (b ∷ bs) ≡ suc (blank_len bs) = ap (λ (c : Bool). cond c (1 + blank_len bs) 0) e ∙ (let s : 1 + blank_len bs ≡ suc (blank_len bs) = omega arith in s) in
      ap (λ (m : ℕ). blank_len (drop m (b ∷ bs))) this ∙ more
  by false e more =
      let this : blank_len (b ∷ bs) ≡ 0 = ap (λ (c : Bool). cond c (1 + blank_len bs) 0) e in
      ap (λ (m : ℕ). blank_len (drop m (b ∷ bs))) this ∙ this

pub none_then : (bs rest : List ℕ) → blank_len bs ≡ 0 → 0 < length bs → blank_len (bs ++ rest) ≡ 0
none_then [] rest none some = absurd (omega (arith, some))
none_then (b ∷ bs) rest none some = by (is_blank b) refl where
  by : (c : Bool) → is_blank b ≡ c → blank_len (b ∷ (bs ++ rest)) ≡ 0
  by true e = let this : blank_len (b ∷ bs) ≡ 1 + blank_len bs = ap (λ (c : Bool). cond c (1 + blank_len bs) 0) e in absurd (omega (arith, this, none))
  by false e = ap (λ (c : Bool). cond c (1 + blank_len (bs ++ rest)) 0) e

-- ---- a length that bytes have, and with more bytes behind: the same, or it was none and reaches beyond them
abbrev pub Reaches : ℕ → ℕ → ℕ → Type 0
Reaches size before now = (now ≡ before) ⊎ ((before ≡ 0) × (size < now))

-- one byte in front
starts_one : (b : ℕ) (xs rest : List ℕ) → 0 < length xs → starts_with nat_eq (xs ++ rest) (b ∷ []) ≡ starts_with nat_eq xs (b ∷ [])
starts_one b [] rest some = absurd (omega (arith, some))
starts_one b (x ∷ xs) rest some = refl

byte_value : (b from : ℕ) (bs : List ℕ) → (byte_behind b from bs ≡ 0) ⊎ (byte_behind b from bs ≡ from + blank_len (drop from bs) + 1)
byte_value b from bs = by (starts_with nat_eq (drop (from + blank_len (drop from bs)) bs) (b ∷ [])) where
  by : (c : Bool) → (cond c (from + blank_len (drop from bs) + 1) 0 ≡ 0) ⊎ (cond c (from + blank_len (drop from bs) + 1) 0 ≡ from + blank_len (drop from bs) + 1)
  by true = inr refl
  by false = inl refl

byte_reaches : (b from : ℕ) (bs rest : List ℕ) → from ≤ length bs → Reaches (length bs) (byte_behind b from bs) (byte_behind b from (bs ++ rest))
byte_reaches b from bs rest within = by (eq-or-lt_of_le (blanks_within (drop from bs))) where
  longer : drop from (bs ++ rest) ≡ drop from bs ++ rest
  longer = drop-append-le from bs rest within

  by : (blank_len (drop from bs) ≡ length (drop from bs)) ⊎ (blank_len (drop from bs) < length (drop from bs)) → Reaches (length bs) (byte_behind b from bs) (byte_behind b from (bs ++ rest))
  by (inr less) =
      let n = blank_len (drop from bs) in
      let size = length-drop from bs in
      let left : 0 < length (drop n (drop from bs)) = omega (arith, less, length-drop n (drop from bs)) in
      let same : blank_len (drop from (bs ++ rest)) ≡ n =
      ap blank_len longer ∙ blanks_then (drop from bs) rest ∙ ap (λ (m : ℕ). n + m) (none_then (drop n (drop from bs)) rest (none_behind (drop from bs)) left) ∙ plus_none n in
      let at : from + n ≤ length bs = omega (arith, less, size, within) in
      let some : 0 < length (drop (from + n) bs) = omega (arith, less, size, within, length-drop (from + n) bs) in
      inl (ap (λ (m : ℕ). cond (starts_with nat_eq (drop (from + m) (bs ++ rest)) (b ∷ [])) (from + m + 1) 0) same
      ∙ ap (λ (l : List ℕ). cond (starts_with nat_eq l (b ∷ [])) (from + n + 1) 0) (drop-append-le (from + n) bs rest at)
      ∙ ap (λ (c : Bool). cond c (from + n + 1) 0) (starts_one b (drop (from + n) bs) rest some))
  by (inl all) =
      let n = blank_len (drop from bs) in
      let size = length-drop from bs in
      let empty : drop (from + n) bs ≡ [] = nil_from_length (drop (from + n) bs) (omega (arith, all, size, within, length-drop (from + n) bs)) in
      let none : byte_behind b from bs ≡ 0 = ap (λ (l : List ℕ). cond (starts_with nat_eq l (b ∷ [])) (from + n + 1) 0) empty in
      let far : n ≤ blank_len (drop from (bs ++ rest)) = omega (arith, ap blank_len longer ∙ blanks_then (drop from bs) rest) in
      elim (byte_value b from (bs ++ rest)) [
        | inl e ↦ inl (e ∙ sym none)
        | inr e ↦ inr (none, omega (arith, e, far, all, size, within))
      ]

byte_within : (b from : ℕ) (bs : List ℕ) → from ≤ length bs → byte_behind b from bs ≤ length bs
byte_within b from bs within = by (starts_with nat_eq (drop (from + blank_len (drop from bs)) bs) (b ∷ [])) refl where
  n : ℕ
  n = blank_len (drop from bs)

  by : (c : Bool) → starts_with nat_eq (drop (from + blank_len (drop from bs)) bs) (b ∷ []) ≡ c → cond c (from + blank_len (drop from bs) + 1) 0 ≤ length bs
  by true e = inside (drop (from + blank_len (drop from bs)) bs) refl e where
    inside : (l : List ℕ) → drop (from + blank_len (drop from bs)) bs ≡ l → starts_with nat_eq l (b ∷ []) ≡ true → from + blank_len (drop from bs) + 1 ≤ length bs
    inside [] f g = absurd (false≢true g)
    inside (x ∷ l) f g = omega (arith, ap length f, length-drop (from + blank_len (drop from bs)) bs)
  by false e = omega arith

-- ---- a whole header in front
abbrev two_of : List ℕ → ℕ
two_of bs = byte_behind 50 7 bs

abbrev end_of : ℕ → List ℕ → ℕ
end_of two bs = cond (two == 0) 0 (byte_behind 59 two bs)

zero_or_more : (n : ℕ) → ((n == 0) ≡ true) ⊎ (0 < n)
zero_or_more zero = inl refl
zero_or_more (suc n) = inr (omega arith)

pub is_some : (n : ℕ) → 0 < n → (n == 0) ≡ false
is_some zero h = absurd (omega (arith, h))
is_some (suc n) h = more_than_none n

-- where the number 2 stands beyond some bytes, the header's end does too
end_beyond : (two size : ℕ) (bs : List ℕ) → size < two → (end_of two bs ≡ 0) ⊎ (size < end_of two bs)
end_beyond two size bs beyond =
    let value : end_of two bs ≡ byte_behind 59 two bs = ap (λ (c : Bool). cond c 0 (byte_behind 59 two bs)) (is_some two (omega (arith, beyond))) in
    elim (byte_value 59 two bs) [ inl e ↦ inl (value ∙ e) | inr e ↦ inr (omega (arith, value, e, beyond)) ]

end_reaches : (bs rest : List ℕ) → 7 ≤ length bs → Reaches (length bs) (end_of (two_of bs) bs) (end_of (two_of (bs ++ rest)) (bs ++ rest))
end_reaches bs rest within = by (byte_reaches 50 7 bs rest within) (zero_or_more (two_of bs)) where
  by : Reaches (length bs) (two_of bs) (two_of (bs ++ rest)) → ((two_of bs == 0) ≡ true) ⊎ (0 < two_of bs) → Reaches (length bs) (end_of (two_of bs) bs) (end_of (two_of (bs ++ rest)) (bs ++ rest))
  by (inl same) (inl none) =
      inl (ap (λ (m : ℕ). end_of m (bs ++ rest)) same ∙ ap (λ (c : Bool). cond c 0 (byte_behind 59 (two_of bs) (bs ++ rest))) none ∙ sym (ap (λ (c : Bool). cond c 0 (byte_behind 59 (two_of bs) bs)) none))
  by (inl same) (inr some) =
      let two = two_of bs in
      let old : end_of two bs ≡ byte_behind 59 two bs = ap (λ (c : Bool). cond c 0 (byte_behind 59 two bs)) (is_some two some) in
      let new : end_of (two_of (bs ++ rest)) (bs ++ rest) ≡ byte_behind 59 two (bs ++ rest) =
      ap (λ (m : ℕ). end_of m (bs ++ rest)) same ∙ ap (λ (c : Bool). cond c 0 (byte_behind 59 two (bs ++ rest))) (is_some two some) in
      elim (byte_reaches 59 two bs rest (byte_within 50 7 bs within)) [
        | inl e ↦ inl (new ∙ e ∙ sym old)
        | inr e ↦ inr (old ∙ e.0, omega (arith, new, e.1))
      ]
  by (inr beyond) zero_is =
      let none : end_of (two_of bs) bs ≡ 0 = ap (λ (m : ℕ). end_of m bs) beyond.0 in
      elim (end_beyond (two_of (bs ++ rest)) (length bs) (bs ++ rest) beyond.1) [ inl e ↦ inl (e ∙ sym none) | inr e ↦ inr (none, e) ]

-- the word in front
starts_longer : (word bs rest : List ℕ) → length word ≤ length bs → starts_with nat_eq (bs ++ rest) word ≡ starts_with nat_eq bs word
starts_longer [] bs rest h = refl
starts_longer (w ∷ word) [] rest h = absurd (omega (arith, h))
starts_longer (w ∷ word) (b ∷ bs) rest h = ap (λ (c : Bool). nat_eq w b && c) (starts_longer word bs rest (omega (arith, h)))

starts_short : (word bs : List ℕ) → length bs < length word → starts_with nat_eq bs word ≡ false
starts_short [] bs h = absurd (omega (arith, h))
starts_short (w ∷ word) [] h = refl
starts_short (w ∷ word) (b ∷ bs) h = by (nat_eq w b) (starts_short word bs (omega (arith, h))) where
  by : (c : Bool) → starts_with nat_eq bs word ≡ false → (c && starts_with nat_eq bs word) ≡ false
  by true e = e
  by false e = refl

header_beyond : (bs : List ℕ) (size : ℕ) → size < 7 → (header_len bs ≡ 0) ⊎ (size < header_len bs)
unfolding header_len
header_beyond bs size small = by (starts_with nat_eq bs (codes "version")) where
  by : (c : Bool) → (cond c (end_of (two_of bs) bs) 0 ≡ 0) ⊎ (size < cond c (end_of (two_of bs) bs) 0)
  by false = inl refl
  by true = elim (byte_value 50 7 bs) [
    | inl e ↦ inl (ap (λ (m : ℕ). end_of m bs) e)
    | inr e ↦ end_beyond (two_of bs) size bs (omega (arith, e, small))
  ]

pub header_reaches : (bs rest : List ℕ) → Reaches (length bs) (header_len bs) (header_len (bs ++ rest))
unfolding header_len
header_reaches bs rest = by (cases_lt (length bs) 7) where
  both : (c : Bool) → Reaches (length bs) (end_of (two_of bs) bs) (end_of (two_of (bs ++ rest)) (bs ++ rest))
      → Reaches (length bs) (cond c (end_of (two_of bs) bs) 0) (cond c (end_of (two_of (bs ++ rest)) (bs ++ rest)) 0)
  both true r = r
  both false r = inl refl

  by : (length bs < 7) ⊎ (7 ≤ length bs) → Reaches (length bs) (header_len bs) (header_len (bs ++ rest))
  by (inl short) =
      let none : header_len bs ≡ 0 = ap (λ (c : Bool). cond c (end_of (two_of bs) bs) 0) (starts_short (codes "version") bs short) in
      elim (header_beyond (bs ++ rest) (length bs) short) [ inl e ↦ inl (e ∙ sym none) | inr e ↦ inr (none, e) ]
  by (inr long) =
      let same : starts_with nat_eq (bs ++ rest) (codes "version") ≡ starts_with nat_eq bs (codes "version") = starts_longer (codes "version") bs rest long in
      subst (λ (c : Bool). Reaches (length bs) (header_len bs) (cond c (end_of (two_of (bs ++ rest)) (bs ++ rest)) 0)) (sym same)
      (both (starts_with nat_eq bs (codes "version")) (end_reaches bs rest long))

pub header_within : (bs : List ℕ) → header_len bs ≤ length bs
unfolding header_len
header_within bs = by (starts_with nat_eq bs (codes "version")) refl where
  ends : 7 ≤ length bs → end_of (two_of bs) bs ≤ length bs
  ends long = by_two (two_of bs == 0) where
    by_two : (c : Bool) → cond c 0 (byte_behind 59 (two_of bs) bs) ≤ length bs
    by_two true = omega arith
    by_two false = byte_within 59 (two_of bs) bs (byte_within 50 7 bs long)

  by : (c : Bool) → starts_with nat_eq bs (codes "version") ≡ c → cond c (end_of (two_of bs) bs) 0 ≤ length bs
  by false e = omega arith
  by true e = elim (cases_lt (length bs) 7) [
    | inl short ↦ absurd (let f = starts_short (codes "version") bs short in false≢true (sym f ∙ e))
    | inr long ↦ ends long
  ]
