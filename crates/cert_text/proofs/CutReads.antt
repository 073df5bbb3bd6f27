use Rattle.std.proofs.Common.{◌≡◌, ℕ, zero, suc, ◌+◌, ◌<◌, ◌≤◌, ◌^◌, Bool, true, false, cond, ◌||◌, ◌&&◌, not, List, [], ◌∷◌, map, refl, ap, ◌∙◌, arith, nat_lt, unsigned_abs, Some, None}
use Rattle.std.proofs.lemmas.Bool.Decides.{nat_tests}
use Rattle.st_linear.specs.Linear.{Linear, of_entries, rise_from, is_zero, is_small, is_within}
use Rattle.cert_text.specs.Tree.{signed_of}
use Rattle.cert_text.specs.Grammar.{Int, int_value, entry_of, terms_over, is_long_entry, is_long, AreTerms}

abs_signed : (negative : Bool) (n : ℕ) → unsigned_abs (signed_of negative n) ≡ n
abs_signed true zero = refl
abs_signed true (suc n) = refl
abs_signed false n = refl

small_number : (n : ℕ) → is_long_entry n ≡ false → nat_lt n (2 ^ 100) ≡ true
small_number n h = grind (arith, nat_tests)

pub small_signed : (negative : Bool) (n : ℕ) → is_long_entry n ≡ false → is_small (signed_of negative n) ≡ true
unfolding is_within
small_signed negative n h = ap (λ m. nat_lt m (2 ^ 100)) (abs_signed negative n) ∙ small_number n h

signed_not_zero : (negative : Bool) (n : ℕ) → 0 < n → is_zero (signed_of negative n) ≡ false
signed_not_zero true zero h = absurd (omega (arith, h))
signed_not_zero true (suc n) h = refl
signed_not_zero false zero h = absurd (omega (arith, h))
signed_not_zero false (suc n) h = refl

or_parts : (a b : Bool) → (a || b) ≡ false → (a ≡ false) × (b ≡ false)
or_parts true b h = cc
or_parts false b h = (refl, h)

not_below : (v low : ℕ) → low ≤ v → nat_lt v low ≡ false
not_below v low h = grind (arith, nat_tests)

terms_rise : (low : ℕ) (us : List (ℕ × Int)) → AreTerms low us → terms_over us ≡ false → rise_from low (map entry_of us) ≡ true
terms_rise low [] h o = refl
terms_rise low (u ∷ us) h o =
    let p = or_parts (is_long_entry u.1.1 || is_long (u.0 + 1)) (terms_over us) o in
    let q = or_parts (is_long_entry u.1.1) (is_long (u.0 + 1)) p.0 in
    let a = not_below u.0 low h.0 in
    let b = signed_not_zero u.1.0 u.1.1 h.1 in
    let e = small_signed u.1.0 u.1.1 q.0 in
    let rest = terms_rise (u.0 + 1) us h.2 p.1 in
    ap (λ x. cond ((x || is_zero (int_value u.1)) || not (is_small (int_value u.1))) false (rise_from (u.0 + 1) (map entry_of us))) a
    ∙ ap (λ x. cond (x || not (is_small (int_value u.1))) false (rise_from (u.0 + 1) (map entry_of us))) b
    ∙ ap (λ x. cond (not x) false (rise_from (u.0 + 1) (map entry_of us))) e
    ∙ rest

-- terms within the limits are the entries of a form
pub cut_form : (us : List (ℕ × Int)) (c : Int) → AreTerms 0 us → terms_over us ≡ false → is_long_entry c.1 ≡ false → of_entries (int_value c) (map entry_of us) ≡ Some (record { constant = int_value c; entries = map entry_of us })
cut_form us c h o l =
    let f : Linear = record { constant = int_value c; entries = map entry_of us } in
    ap (λ x. cond (x && rise_from 0 (map entry_of us)) (Some f) None) (small_signed c.0 c.1 l) ∙ ap (λ x. cond x (Some f) None) (terms_rise 0 us h o)
