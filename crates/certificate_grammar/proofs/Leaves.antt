-- Picks, lines and terms as they are written, against those of the grammar.
use Rattle.std.proofs.Common.{◌≡◌, ℕ, ◌+◌, ◌-◌, ◌^◌, ◌<◌, ◌≤◌, ◌||◌, false, nat_le, List, [], ◌∷◌, ◌++◌, map, length, ℤ, refl, sym, ap, ◌∙◌, arith, append_assoc}
use Rattle.cert_text.specs.declared.scan.Token.{Token}
use Rattle.cert_text.specs.declared.scan.Token.TheVariants.{Number, Sign}
use Rattle.cert_text.specs.Grammar.{Int, entry_of, pick_tokens, picks_tokens, line_tokens, lines_tokens, term_tokens, more_terms, AreTerms, is_long, is_long_entry, is_long_pick, picks_over, lines_over, terms_over}
use Rattle.farkas_leaf.specs.Lines.{RiseWithin}
use Rattle.certificate_grammar.specs.Grammar.{IsPick, pick, IsLine, line, IsTerm, term}
use Rattle.certificate_grammar.proofs.Numbers.{neither, both_false, below_of, of_below, short_of, of_short, entry_of_test, test_of_entry, int_written, int_spelled, not_zero, some_size}
use Rattle.certificate_grammar.proofs.Lists.{AllGood, Way, Wrote, Stands}

-- limits of one
pub long_pick_of : (count r n : ℕ) → r + 1 < 2 ^ 32 → count < 4096 → n < 2 ^ 40 → is_long_pick count r n ≡ false
long_pick_of count r n a b c =
    both_false (is_long (r + 1) || nat_le 4096 count) (nat_le 1099511627776 n) (both_false (is_long (r + 1)) (nat_le 4096 count) (of_short (r + 1) a) (of_below 4096 count b)) (of_below 1099511627776 n (omega (arith, c)))

pub record Short (count r n : ℕ) : Type 0 where
  pub row : r + 1 < 2 ^ 32
  pub place : count < 4096
  pub size : n < 2 ^ 40

pub pick_short : (count r n : ℕ) → is_long_pick count r n ≡ false → Short count r n
pick_short count r n e =
    let a = neither (is_long (r + 1) || nat_le 4096 count) (nat_le 1099511627776 n) e in
    let b = neither (is_long (r + 1)) (nat_le 4096 count) a.0 in
    let size = below_of 1099511627776 n a.1 in
    record { row = short_of (r + 1) b.0; place = below_of 4096 count b.1; size = omega (arith, size) }

-- PICKS
abbrev pub IsShortPick : ℕ × ℕ → Type 0
IsShortPick p = (p.0 + 1 < 2 ^ 32) × (p.1 < 2 ^ 40)

abbrev pub picks : Way (ℕ × ℕ) (ℕ × ℕ)
picks = record { tokens = pick_tokens; listed = picks_tokens; view = λ p. p; Good = IsShortPick; none = λ k. refl; some = λ x xs k. refl }

pub pick_written : (ts : List Token) (p : ℕ × ℕ) → IsPick ts p → Wrote picks ts p
pick_written ts p (pick {row = r} {n} l m) = record { item = (r, n); spelled = λ k. refl; means = refl; good = (l, m) }

pub pick_stands : (p : ℕ × ℕ) → IsShortPick p → Stands picks IsPick p
pick_stands p g = record { ts = Number (p.0 + 1) ∷ Sign 42 ∷ Number p.1 ∷ []; spelled = λ k. refl; is = pick g.0 g.1 }

pub picks_same : (ps : List (ℕ × ℕ)) → map (λ p. p) ps ≡ ps
picks_same [] = refl
picks_same (p ∷ ps) = ap (λ qs. p ∷ qs) (picks_same ps)

pub picks_within : (ps : List (ℕ × ℕ)) (count : ℕ) → AllGood IsShortPick ps → count + length ps ≤ 4096 → picks_over count ps ≡ false
picks_within [] count g l = refl
picks_within (p ∷ ps) count g l =
    both_false (is_long_pick count p.0 p.1) (picks_over (count + 1) ps) (long_pick_of count p.0 p.1 g.0.0 (omega (arith, l)) g.0.1) (picks_within ps (count + 1) g.1 (omega (arith, l)))

pub picks_short : (p : ℕ × ℕ) (ps : List (ℕ × ℕ)) (count : ℕ) → picks_over count (p ∷ ps) ≡ false → AllGood IsShortPick (p ∷ ps) × (count + length (p ∷ ps) ≤ 4096)
picks_short p [] count e =
    let s = pick_short count p.0 p.1 (neither (is_long_pick count p.0 p.1) (picks_over (count + 1) []) e).0 in
    let place = s.place in (((s.row, s.size), tt), omega (arith, place))
picks_short p (q ∷ qs) count e =
    let a = neither (is_long_pick count p.0 p.1) (picks_over (count + 1) (q ∷ qs)) e in
    let s = pick_short count p.0 p.1 a.0 in
    let more = picks_short q qs (count + 1) a.1 in
    let few = more.1 in (((s.row, s.size), more.0), omega (arith, few))

-- LINES
abbrev pub IsShortLine : ℕ × Int → Type 0
IsShortLine p = (p.0 + 1 < 2 ^ 32) × (p.1.1 < 2 ^ 40)

abbrev pub lines : Way (ℕ × Int) (ℕ × ℤ)
lines = record { tokens = line_tokens; listed = lines_tokens; view = entry_of; Good = IsShortLine; none = λ k. refl; some = λ x xs k. refl }

pub line_written : (ts : List Token) (p : ℕ × ℤ) → IsLine ts p → Wrote lines ts p
line_written ts p (line {l} {ts = us} {z} h i) =
    let r = int_written (2 ^ 40 - 1) us z i in
    let size = r.within in
    record {
      item = (l, r.int);
      spelled = λ k. ap (λ j. Number (l + 1) ∷ Sign 42 ∷ j) (r.spelled k);
      means = ap (λ y. (l, y)) r.means;
      good = (h, omega (arith, size));
    }

pub line_stands : (p : ℕ × Int) → IsShortLine p → Stands lines IsLine p
line_stands p g =
    let size = g.1 in
    let r = int_spelled (2 ^ 40 - 1) p.1 (omega (arith, size)) in
    record { ts = Number (p.0 + 1) ∷ Sign 42 ∷ r.ts; spelled = λ k. ap (λ j. Number (p.0 + 1) ∷ Sign 42 ∷ j) (r.spelled k); is = line g.0 r.is }

pub lines_within : (ps : List (ℕ × Int)) (count : ℕ) → AllGood IsShortLine ps → count + length ps ≤ 4096 → lines_over count ps ≡ false
lines_within [] count g l = refl
lines_within (p ∷ ps) count g l =
    both_false (is_long_pick count p.0 p.1.1) (lines_over (count + 1) ps) (long_pick_of count p.0 p.1.1 g.0.0 (omega (arith, l)) g.0.1) (lines_within ps (count + 1) g.1 (omega (arith, l)))

pub lines_short : (p : ℕ × Int) (ps : List (ℕ × Int)) (count : ℕ) → lines_over count (p ∷ ps) ≡ false → AllGood IsShortLine (p ∷ ps) × (count + length (p ∷ ps) ≤ 4096)
lines_short p [] count e =
    let s = pick_short count p.0 p.1.1 (neither (is_long_pick count p.0 p.1.1) (lines_over (count + 1) []) e).0 in
    let place = s.place in (((s.row, s.size), tt), omega (arith, place))
lines_short p (q ∷ qs) count e =
    let a = neither (is_long_pick count p.0 p.1.1) (lines_over (count + 1) (q ∷ qs)) e in
    let s = pick_short count p.0 p.1.1 a.0 in
    let more = lines_short q qs (count + 1) a.1 in
    let few = more.1 in (((s.row, s.size), more.0), omega (arith, few))

-- TERMS
abbrev pub IsShortTerm : ℕ × Int → Type 0
IsShortTerm t = (t.1.1 ≤ 2 ^ 60) × (0 < t.1.1)

abbrev pub terms : Way (ℕ × Int) (ℕ × ℤ)
terms = record { tokens = term_tokens; listed = more_terms; view = entry_of; Good = IsShortTerm; none = λ k. refl; some = λ x xs k. refl }

pub term_written : (ts : List Token) (e : ℕ × ℤ) → IsTerm ts e → Wrote terms ts e
term_written ts e (term {v} {ts = us} {z} i f) =
    let r = int_written (2 ^ 60) us z i in
    record {
      item = (v, r.int);
      spelled = λ k. r.spelled (Sign 58 ∷ Number (v + 1) ∷ k) ∙ sym (append_assoc us (Sign 58 ∷ Number (v + 1) ∷ []) k);
      means = ap (λ y. (v, y)) r.means;
      good = (r.within, some_size r.int (λ q. f (sym r.means ∙ q)));
    }

pub term_stands : (t : ℕ × Int) → IsShortTerm t → Stands terms IsTerm t
term_stands t g =
    let r = int_spelled (2 ^ 60) t.1 g.0 in
    record {
      ts = r.ts ++ Sign 58 ∷ Number (t.0 + 1) ∷ [];
      spelled = λ k. r.spelled (Sign 58 ∷ Number (t.0 + 1) ∷ k) ∙ sym (append_assoc r.ts (Sign 58 ∷ Number (t.0 + 1) ∷ []) k);
      is = term r.is (not_zero t.1 g.1);
    }

-- variables rise
abbrev pub Rise : ℕ → List (ℕ × Int) → Type 0
Rise low ts = RiseWithin (2 ^ 32 - 1) low (map entry_of ts)

pub terms_proper : (ts : List (ℕ × Int)) (low : ℕ) → AllGood IsShortTerm ts → Rise low ts → AreTerms low ts
terms_proper [] low g r = tt
terms_proper (t ∷ ts) low g r = (r.0, g.0.1, terms_proper ts (t.0 + 1) g.1 r.2)

pub terms_within : (ts : List (ℕ × Int)) (low : ℕ) → AllGood IsShortTerm ts → Rise low ts → terms_over ts ≡ false
terms_within [] low g r = refl
terms_within (t ∷ ts) low g r =
    let room = r.1 in
    both_false (is_long_entry t.1.1 || is_long (t.0 + 1)) (terms_over ts) (both_false (is_long_entry t.1.1) (is_long (t.0 + 1)) (test_of_entry t.1.1 g.0.0) (of_short (t.0 + 1) (omega (arith, room)))) (terms_within ts (t.0 + 1) g.1 r.2)

pub terms_good : (ts : List (ℕ × Int)) (low : ℕ) → AreTerms low ts → terms_over ts ≡ false → AllGood IsShortTerm ts
terms_good [] low p e = tt
terms_good (t ∷ ts) low p e =
    let a = neither (is_long_entry t.1.1 || is_long (t.0 + 1)) (terms_over ts) e in
    let b = neither (is_long_entry t.1.1) (is_long (t.0 + 1)) a.0 in ((entry_of_test t.1.1 b.0, p.1), terms_good ts (t.0 + 1) p.2 a.1)

pub terms_rise : (ts : List (ℕ × Int)) (low : ℕ) → AreTerms low ts → terms_over ts ≡ false → Rise low ts
terms_rise [] low p e = tt
terms_rise (t ∷ ts) low p e =
    let a = neither (is_long_entry t.1.1 || is_long (t.0 + 1)) (terms_over ts) e in
    let b = neither (is_long_entry t.1.1) (is_long (t.0 + 1)) a.0 in
    let room = short_of (t.0 + 1) b.1 in (p.0, omega (arith, room), terms_rise ts (t.0 + 1) p.2 a.1)
