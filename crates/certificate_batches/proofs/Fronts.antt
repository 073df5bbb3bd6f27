-- What isn't blank in front, where a header may stand: what is dropped of it changes no place.
use Rattle.std.proofs.Common.{◌≡◌, ◌∙◌, ℕ, zero, suc, ◌+◌, ◌<◌, Bool, true, false, cond, List, [], ◌∷◌, ◌++◌, length, drop, refl, sym, ap, subst, arith, inl, inr, length-drop}
use Rattle.std.specs.Prelude.{Option, Some, None, ◌==◌, ◌&&◌, ◌||◌, nat_lt}
use Rattle.std.proofs.lemmas.Bool.{false≢true}
use Rattle.std.proofs.lemmas.List.{drop-drop, drop-append-le}
use Rattle.cert_text.specs.Blank.{blank_len, header_len, front_len, past, may_begin, past_blanks, first_place}
use Rattle.cert_text.specs.Held.{Held}
use Rattle.cert_laws.specs.Laws.{closed}
use Rattle.certificate_batches.specs.Turns.{trailing, AreDropped}
use Rattle.certificate_batches.proofs.Blanks.{plus_none, more_than_none, nonblank, place_of, blanks_within, behind_blanks, first_behind, moved, past_is, trailing_is, blanks_dropped}
use Rattle.certificate_batches.proofs.Headers.{is_some, blanks_then, none_behind, none_then, header_reaches, header_within}

-- ---- what isn't blank in front, a header counting as blank
abbrev skipped : List ℕ → ℕ
skipped bs = (front_len true bs).0

abbrev fronted : ℕ → List ℕ → Option ℕ
fronted p bs = place_of (p + skipped bs) (drop (skipped bs) bs)

first_past : (n : ℕ) (header : Bool) (h : Held) → first_place (past (n, header) h) ≡ place_of (h.place + n) (drop n h.bytes)
first_past zero header h = ap (λ (m : ℕ). place_of m h.bytes) (sym (plus_none h.place))
first_past (suc n) header h = ap (λ (c : Bool). first_place (cond c h (record h { bytes = drop (suc n) h.bytes; place = h.place + suc n; second = header || h.second }))) (more_than_none n)

pub trailing_fronted : (h : Held) (rest : List ℕ) → may_begin h ≡ true → trailing h rest ≡ fronted h.place (h.bytes ++ rest)
trailing_fronted h rest may =
    let bs = h.bytes ++ rest in
    ap (λ (c : Bool). first_place (past (front_len c bs) (closed h rest))) may ∙ first_past (skipped bs) ((front_len true bs).1) (closed h rest)

-- behind so many blanks the header counts as it does
abbrev behind : ℕ → ℕ → List ℕ → ℕ
behind blanks header bs = (cond {A = ℕ × Bool} (header == 0) (blanks, false) (blanks + header + blank_len (drop header bs), true)).0

behind_sum : (n m header : ℕ) (bs : List ℕ) → behind (n + m) header bs ≡ n + behind m header bs
behind_sum n m header bs = by (header == 0) where
  by : (c : Bool) → (cond {A = ℕ × Bool} c (n + m, false) (n + m + header + blank_len (drop header bs), true)).0 ≡ n + (cond {A = ℕ × Bool} c (m, false) (m + header + blank_len (drop header bs), true)).0
  by true = refl
  by false = omega arith

blanks_skipped : (p : ℕ) (bs rest : List ℕ) → fronted p (bs ++ rest) ≡ fronted (p + blank_len bs) (drop (blank_len bs) bs ++ rest)
blanks_skipped p bs rest =
    let n = blank_len bs in
    let more = drop n bs ++ rest in
    let m = blank_len more in
    let front : drop n (bs ++ rest) ≡ more = drop-append-le n bs rest (blanks_within bs) in
    let len : blank_len (bs ++ rest) ≡ n + m = blanks_then bs rest in
    let left : drop (n + m) (bs ++ rest) ≡ drop m more = sym (drop-drop m n (bs ++ rest)) ∙ ap (drop m) front in
    let header = header_len (drop m more) in
    let all : skipped (bs ++ rest) ≡ n + skipped more =
    ap (λ (k : ℕ). behind k (header_len (drop k (bs ++ rest))) (drop k (bs ++ rest))) len ∙ ap (λ (l : List ℕ). behind (n + m) (header_len l) l) left ∙ behind_sum n m header (drop m more) in
    let k = skipped more in
    let sum : p + (n + k) ≡ p + n + k = omega arith in
    ap (λ (j : ℕ). place_of (p + j) (drop j (bs ++ rest))) all ∙ ap (λ (j : ℕ). place_of j (drop (n + k) (bs ++ rest))) sum
    ∙ ap (place_of (p + n + k)) (sym (drop-drop k n (bs ++ rest)) ∙ ap (drop k) front)

-- in front of a header that is whole
behind_whole : (header : ℕ) (bs : List ℕ) → (header == 0) ≡ false → behind 0 header bs ≡ header + blank_len (drop header bs)
behind_whole header bs some =
    ap (λ (c : Bool). (cond {A = ℕ × Bool} c (0, false) (0 + header + blank_len (drop header bs), true)).0) some
    ∙ (let sum : 0 + header + blank_len (drop header bs) ≡ header + blank_len (drop header bs) = omega arith in sum)

header_skipped : (p : ℕ) (bs : List ℕ) → blank_len bs ≡ 0 → (header_len bs == 0) ≡ false → fronted p bs ≡ nonblank (p + header_len bs) (drop (header_len bs) bs)
header_skipped p bs none some =
    let n = header_len bs in
    let m = blank_len (drop n bs) in
    let all : skipped bs ≡ n + m = ap (λ (k : ℕ). behind k (header_len (drop k bs)) (drop k bs)) none ∙ behind_whole n bs some in
    let sum : p + (n + m) ≡ p + n + m = omega arith in
    ap (λ (j : ℕ). place_of (p + j) (drop j bs)) all ∙ ap (λ (j : ℕ). place_of j (drop (n + m) bs)) sum ∙ ap (place_of (p + n + m)) (sym (drop-drop m n bs)) ∙ first_behind (p + n) (drop n bs)

-- where none begins
pub place_skipped : (p : ℕ) (bs : List ℕ) → blank_len bs ≡ 0 → header_len bs ≡ 0 → 0 < length bs → fronted p bs ≡ Some p
place_skipped p [] none zero_is some = absurd (omega (arith, some))
place_skipped p (b ∷ bs) none zero_is some =
    let l = b ∷ bs in
    let all : skipped l ≡ 0 = ap (λ (k : ℕ). behind k (header_len (drop k l)) (drop k l)) none ∙ ap (λ (k : ℕ). behind 0 k l) zero_is in
    ap (λ (j : ℕ). place_of (p + j) (drop j l)) all ∙ ap (λ (c : Bool). cond c None (Some (p + 0))) (more_than_none (length bs)) ∙ ap Some (plus_none p)

some_is : (n : ℕ) → (n == 0) ≡ false → 0 < n
some_is zero h = absurd (false≢true (sym h))
some_is (suc n) h = omega arith

pub none_is : (n : ℕ) → (n == 0) ≡ true → n ≡ 0
none_is zero h = refl
none_is (suc n) h = absurd (false≢true (sym (more_than_none n) ∙ h))

-- ---- what is held behind the blanks
module _ (h : Held) (may : may_begin h ≡ true) where
  -- with no whole header, only blanks are dropped
  pub only : (header_len (drop (blank_len h.bytes) h.bytes) == 0) ≡ true → past_blanks h ≡ moved h (blank_len h.bytes)
  only none =
      let l = drop (blank_len h.bytes) h.bytes in
      ap (λ (c : Bool). past (front_len c h.bytes) h) may
      ∙ ap (λ (c : Bool). past (cond {A = ℕ × Bool} c (blank_len h.bytes, false) (blank_len h.bytes + header_len l + blank_len (drop (header_len l) l), true)) h) none ∙ past_is h (blank_len h.bytes)

  only_dropped : AreDropped h (moved h (blank_len h.bytes))
  only_dropped = record {
    number = refl;
    finished = refl;
    reached = omega (arith, blanks_within h.bytes, length-drop (blank_len h.bytes) h.bytes);
    same = λ rest. trailing_fronted (moved h (blank_len h.bytes)) rest may ∙ sym (blanks_skipped h.place h.bytes rest) ∙ sym (trailing_fronted h rest may);
  }

  -- else the header too, and the blanks behind it
  abbrev pub all_blank : ℕ
  all_blank = blank_len h.bytes + header_len (drop (blank_len h.bytes) h.bytes) + blank_len (drop (header_len (drop (blank_len h.bytes) h.bytes)) (drop (blank_len h.bytes) h.bytes))

  abbrev pub behind_header : Held
  behind_header = record h { bytes = drop all_blank h.bytes; place = h.place + all_blank; second = true }

  pub header_too : (header_len (drop (blank_len h.bytes) h.bytes) == 0) ≡ false → past_blanks h ≡ behind_header
  header_too some =
      let l = drop (blank_len h.bytes) h.bytes in
      let size : 0 < all_blank = omega (arith, some_is (header_len l) some) in
      ap (λ (c : Bool). past (front_len c h.bytes) h) may
      ∙ ap (λ (c : Bool). past (cond {A = ℕ × Bool} c (blank_len h.bytes, false) (all_blank, true)) h) some ∙ ap (λ (c : Bool). cond c h behind_header) (is_some all_blank size)

  pub none_may : may_begin behind_header ≡ false
  none_may = by (nat_lt h.number 2) where
    by : (c : Bool) → (c && false) ≡ false
    by true = refl
    by false = refl

  header_dropped : (header_len (drop (blank_len h.bytes) h.bytes) == 0) ≡ false → AreDropped h behind_header
  header_dropped some = record {
    number = refl;
    finished = refl;
    reached =
        let l = drop (blank_len h.bytes) h.bytes in
        omega (arith, blanks_within h.bytes, header_within l, blanks_within (drop (header_len l) l), length-drop (blank_len h.bytes) h.bytes, length-drop (header_len l) l, length-drop all_blank h.bytes);
    same = λ rest.
        (let n = blank_len h.bytes in
        let l = drop n h.bytes in
        let k = header_len l in
        let more = drop k l in
        let m = blank_len more in
        let within = header_within l in
        let size : 0 < length l = omega (arith, some_is k some, within) in
        let same : header_len (l ++ rest) ≡ k = elim (header_reaches l rest) [ inl e ↦ e | inr e ↦ absurd (omega (arith, e.0, some_is k some)) ] in
        let still : (header_len (l ++ rest) == 0) ≡ false = ap (λ (j : ℕ). j == 0) same ∙ some in
        let bytes : drop (n + k + m) h.bytes ≡ drop m more = sym (drop-drop m (n + k) h.bytes) ∙ ap (drop m) (sym (drop-drop k n h.bytes)) in
        let place : h.place + (n + k + m) ≡ h.place + n + k + m = omega arith in
        trailing_is behind_header rest none_may
        ∙ ap (λ (j : ℕ). nonblank j (drop (n + k + m) h.bytes ++ rest)) place
        ∙ ap (λ (x : List ℕ). nonblank (h.place + n + k + m) (x ++ rest)) bytes
        ∙ behind_blanks (h.place + n + k) more rest
        ∙ ap (nonblank (h.place + n + k)) (sym (drop-append-le k l rest within))
        ∙ sym (ap (λ (j : ℕ). nonblank (h.place + n + j) (drop j (l ++ rest))) same)
        ∙ sym (header_skipped (h.place + n) (l ++ rest) (none_then l rest (none_behind h.bytes) size) still)
        ∙ sym (blanks_skipped h.place h.bytes rest) ∙ sym (trailing_fronted h rest may));
  }

pub front_dropped : (h : Held) → AreDropped h (past_blanks h)
front_dropped h = by (may_begin h) refl where
  header : (c : Bool) → may_begin h ≡ true → (header_len (drop (blank_len h.bytes) h.bytes) == 0) ≡ c → AreDropped h (past_blanks h)
  header true may e = subst (AreDropped h) (sym (only h may e)) (only_dropped h may)
  header false may e = subst (AreDropped h) (sym (header_too h may e)) (header_dropped h may e)

  by : (c : Bool) → may_begin h ≡ c → AreDropped h (past_blanks h)
  by true may = header (header_len (drop (blank_len h.bytes) h.bytes) == 0) may refl
  by false may = blanks_dropped h (past_blanks h) may refl
