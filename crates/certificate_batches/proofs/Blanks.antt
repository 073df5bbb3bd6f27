-- Blanks where no header may stand, as behind the last block, and text that is still to come.
use Rattle.std.proofs.Common.{◌≡◌, ℕ, zero, suc, ◌+◌, ◌≤◌, Bool, true, false, cond, List, [], ◌∷◌, ◌++◌, length, drop, refl, sym, ap, ◌∙◌, subst, arith, one-add, length-drop}
use Rattle.std.specs.Prelude.{Option, Some, None, IfSome, nat_lt, ◌==◌, ◌&&◌, not, if◌then◌else◌}
use Rattle.std.proofs.lemmas.Bool.Decides.{nat_tests}
use Rattle.cert_text.specs.Letters.{is_blank}
use Rattle.cert_text.specs.Blank.{blank_len, front_len, past, may_begin, past_blanks, first_place}
use Rattle.cert_text.specs.Held.{Held}
use Rattle.cert_laws.specs.Laws.{closed}
use Rattle.certificate_batches.specs.Turns.{trailing, AreDropped}

pub plus_none : (p : ℕ) → p + 0 ≡ p
plus_none p = omega arith

pub more_than_none : (n : ℕ) → (suc n == 0) ≡ false
more_than_none n = grind (arith, nat_tests)

-- the place of the first byte that isn't blank
abbrev pub nonblank : ℕ → List ℕ → Option ℕ
nonblank p [] = None
nonblank p (b ∷ bs) = if is_blank b then nonblank (p + 1) bs else Some p

blank_one : (b : ℕ) (bs : List ℕ) → is_blank b ≡ true → blank_len (b ∷ bs) ≡ suc (blank_len bs)
blank_one b bs e = ap (λ c. cond c (1 + blank_len bs) 0) e ∙ one-add (blank_len bs)

blank_none : (b : ℕ) (bs : List ℕ) → is_blank b ≡ false → blank_len (b ∷ bs) ≡ 0
blank_none b bs e = ap (λ c. cond c (1 + blank_len bs) 0) e

-- the blanks in front change no place
pub behind_blanks : (p : ℕ) (bs rest : List ℕ) → nonblank (p + blank_len bs) (drop (blank_len bs) bs ++ rest) ≡ nonblank p (bs ++ rest)
behind_blanks p [] rest = ap (λ (m : ℕ). nonblank m rest) (plus_none p)
behind_blanks p (b ∷ bs) rest = by (is_blank b) refl (behind_blanks (p + 1) bs rest) where
  by : (c : Bool) → is_blank b ≡ c → nonblank (p + 1 + blank_len bs) (drop (blank_len bs) bs ++ rest) ≡ nonblank (p + 1) (bs ++ rest)
      → nonblank (p + blank_len (b ∷ bs)) (drop (blank_len (b ∷ bs)) (b ∷ bs) ++ rest) ≡ nonblank p (b ∷ (bs ++ rest))
  by true e more =
      let sum : p + suc (blank_len bs) ≡ p + 1 + blank_len bs = omega arith in
      ap (λ (m : ℕ). nonblank (p + m) (drop m (b ∷ bs) ++ rest)) (blank_one b bs e) ∙ ap (λ (m : ℕ). nonblank m (drop (blank_len bs) bs ++ rest)) sum
      ∙ more ∙ sym (ap (λ (c : Bool). cond c (nonblank (p + 1) (bs ++ rest)) (Some p)) e)
  by false e more = ap (λ (m : ℕ). nonblank (p + m) (drop m (b ∷ bs) ++ rest)) (blank_none b bs e) ∙ ap (λ (m : ℕ). nonblank m (b ∷ (bs ++ rest))) (plus_none p)

-- behind them stands the first byte that isn't blank
abbrev pub place_of : ℕ → List ℕ → Option ℕ
place_of p bs = if length bs == 0 then None else Some p

pub first_behind : (p : ℕ) (bs : List ℕ) → place_of (p + blank_len bs) (drop (blank_len bs) bs) ≡ nonblank p bs
first_behind p [] = ap (λ (m : ℕ). place_of m []) (plus_none p)
first_behind p (b ∷ bs) = by (is_blank b) refl (first_behind (p + 1) bs) where
  by : (c : Bool) → is_blank b ≡ c → place_of (p + 1 + blank_len bs) (drop (blank_len bs) bs) ≡ nonblank (p + 1) bs
      → place_of (p + blank_len (b ∷ bs)) (drop (blank_len (b ∷ bs)) (b ∷ bs)) ≡ nonblank p (b ∷ bs)
  by true e more =
      let sum : p + suc (blank_len bs) ≡ p + 1 + blank_len bs = omega arith in
      ap (λ (m : ℕ). place_of (p + m) (drop m (b ∷ bs))) (blank_one b bs e) ∙ ap (λ (m : ℕ). place_of m (drop (blank_len bs) bs)) sum
      ∙ more ∙ sym (ap (λ (c : Bool). cond c (nonblank (p + 1) bs) (Some p)) e)
  by false e more = ap (λ (m : ℕ). place_of (p + m) (drop m (b ∷ bs))) (blank_none b bs e) ∙ ap (λ (c : Bool). cond c None (Some (p + 0))) (more_than_none (length bs)) ∙ ap Some (plus_none p) ∙ sym (ap (λ (c : Bool). cond c (nonblank (p + 1) bs) (Some p)) e)

pub blanks_within : (bs : List ℕ) → blank_len bs ≤ length bs
blanks_within [] = omega arith
blanks_within (b ∷ bs) = by (is_blank b) refl (blanks_within bs) where
  by : (c : Bool) → is_blank b ≡ c → blank_len bs ≤ length bs → blank_len (b ∷ bs) ≤ suc (length bs)
  by true e more = omega (arith, blank_one b bs e, more)
  by false e more = omega (arith, blank_none b bs e)

-- the first byte, where it isn't blank
pub first_nonblank : (p b : ℕ) (bs rest : List ℕ) → blank_len (b ∷ bs) ≡ 0 → nonblank p (b ∷ (bs ++ rest)) ≡ Some p
first_nonblank p b bs rest none = by (is_blank b) refl where
  by : (c : Bool) → is_blank b ≡ c → nonblank p (b ∷ (bs ++ rest)) ≡ Some p
  by true e = let more = blank_one b bs e in absurd (omega (arith, more, none))
  by false e = ap (λ (c : Bool). cond c (nonblank (p + 1) (bs ++ rest)) (Some p)) e

-- a place stays, whatever comes behind it
place_stays : (p : ℕ) (bs rest : List ℕ) (q : ℕ) → nonblank p bs ≡ Some q → nonblank p (bs ++ rest) ≡ Some q
place_stays p [] rest q e = cc
place_stays p (b ∷ bs) rest q e = by (is_blank b) refl (place_stays (p + 1) bs rest q) where
  by : (c : Bool) → is_blank b ≡ c → (nonblank (p + 1) bs ≡ Some q → nonblank (p + 1) (bs ++ rest) ≡ Some q) → nonblank p (b ∷ (bs ++ rest)) ≡ Some q
  by true f more = ap (λ (c : Bool). cond c (nonblank (p + 1) (bs ++ rest)) (Some p)) f ∙ more (sym (ap (λ (c : Bool). cond c (nonblank (p + 1) bs) (Some p)) f) ∙ e)
  by false f more = ap (λ (c : Bool). cond c (nonblank (p + 1) (bs ++ rest)) (Some p)) f ∙ sym (ap (λ (c : Bool). cond c (nonblank (p + 1) bs) (Some p)) f) ∙ e

pub no_header : (h : Held) → 2 ≤ h.number → may_begin h ≡ false
no_header h later = let test : nat_lt h.number 2 ≡ false = grind (arith, nat_tests) in ap (λ (c : Bool). c && not h.second) test

-- what is held behind so many blanks
abbrev pub moved : Held → ℕ → Held
moved h n = record h { bytes = drop n h.bytes; place = h.place + n }

pub past_is : (h : Held) (n : ℕ) → past (n, false) h ≡ moved h n
past_is h zero = ap (λ (m : ℕ). record h { place = m }) (sym (plus_none h.place))
past_is h (suc n) = ap (λ (c : Bool). cond c h (moved h (suc n))) (more_than_none n)

module _ (h : Held) (none : may_begin h ≡ false) where
  dropped : past_blanks h ≡ moved h (blank_len h.bytes)
  dropped = ap (λ (c : Bool). past (front_len c h.bytes) h) none ∙ past_is h (blank_len h.bytes)

  first_is : first_place (past_blanks h) ≡ nonblank h.place h.bytes
  first_is = ap first_place dropped ∙ first_behind h.place h.bytes

pub trailing_is : (h : Held) (rest : List ℕ) → may_begin h ≡ false → trailing h rest ≡ nonblank h.place (h.bytes ++ rest)
trailing_is h rest none = first_is (closed h rest) none

pub place_is_settled : (h now : Held) (o : Option ℕ) → may_begin h ≡ false → now ≡ past_blanks h → o ≡ first_place now → IfSome o (λ place. (rest : List ℕ) → trailing h rest ≡ Some place)
place_is_settled h now None none left is = tt
place_is_settled h now (Some place) none left is = λ rest.
    trailing_is h rest none ∙ place_stays h.place h.bytes rest place (sym (first_is h none) ∙ sym (ap first_place left) ∙ sym is)

moved_dropped : (h : Held) → may_begin h ≡ false → AreDropped h (moved h (blank_len h.bytes))
moved_dropped h none = record {
  number = refl;
  finished = refl;
  reached = omega (arith, blanks_within h.bytes, length-drop (blank_len h.bytes) h.bytes);
  same = λ rest. trailing_is (moved h (blank_len h.bytes)) rest none ∙ behind_blanks h.place h.bytes rest ∙ sym (trailing_is h rest none);
}

pub blanks_dropped : (h now : Held) → may_begin h ≡ false → now ≡ past_blanks h → AreDropped h now
blanks_dropped h now none left = subst (AreDropped h) (sym (left ∙ dropped h none)) (moved_dropped h none)
