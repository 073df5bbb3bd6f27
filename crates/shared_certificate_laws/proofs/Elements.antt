-- Words of two numbers, and lists of words.
use Rattle.std.proofs.Common.{◌≡◌, ℕ, ℤ, pos, negsuc, zero, suc, ◌+◌, ◌<◌, ◌≤◌, ◌^◌, Bool, true, false, not, ◌&&◌, cond, List, [], ◌∷◌, ◌++◌, length, map, take, drop, get_or, refl, ap, subst, ◌∙◌, sym, Result, Ok, Err, Option, Some, None, nat_lt, ◌==◌, arith, unsigned_abs, All}
use Rattle.std.specs.Fmt.{decimal, signed_decimal}
use Rattle.std.specs.List.{prefix_len}
use Rattle.std.proofs.lemmas.Bool.{and_parts}
use Rattle.std.proofs.lemmas.List.{length-append, drop_all, drop-append-le, take_all, take-append-le}
use Rattle.std.proofs.lemmas.List.Elements.{All-cons, All-head, All-tail}
use Rattle.std.proofs.lemmas.Fmt.{digits_decimal}
use Rattle.shared_certificates.specs.declared.refusals.Refusal.{Refusal}
use Rattle.shared_certificates.specs.declared.refusals.Refusal.TheVariants.{Malformed, Limit}
use Rattle.shared_certificates.specs.Lines.{halves, until}
use Rattle.shared_certificates.specs.Grammar.{line_word, pick_word, term_word}
use Rattle.shared_certificates.specs.Reading.{Read, ◌>>=◌, all_of, are_digits, both, few_of, index, is_digit, line, number, on_halves, pair, pick, signed, term, turned}
use Rattle.shared_certificate_laws.proofs.Numerals.{as-ok, binds, digit-in, eq-false, eq-self, eq-true, lt-true, never-ok, true-lt, index-complete, index-sound, number-complete, number-sound, on-bound, own, signed-complete, signed-sound}

-- ---- what stands before a sign, and behind it
abbrev pub some_or : {A : Type 0} → A → Option A → A
some_or x None = x
some_or x (Some y) = y

pub if-none : {A : Type 0} (b : Bool) (x p : A) → cond b (Some x) None ≡ Some p → (b ≡ true) × (x ≡ p)
if-none true x p h = (refl, ap (some_or x) h)
if-none false x p h = absurd (cc)

cut-there : (sign : ℕ) (w : List ℕ) → until sign w < length w → w ≡ take (until sign w) w ++ sign ∷ drop (until sign w + 1) w
cut-there sign [] h = absurd (omega (arith, h))
cut-there sign (c ∷ cs) h = by (c == sign) refl h (λ k. cut-there sign cs k) where
  by : (l : Bool) → (c == sign) ≡ l → cond (not l) (1 + until sign cs) 0 < suc (length cs) → (until sign cs < length cs → cs ≡ take (until sign cs) cs ++ sign ∷ drop (until sign cs + 1) cs)
      → c ∷ cs ≡ take (until sign (c ∷ cs)) (c ∷ cs) ++ sign ∷ drop (until sign (c ∷ cs) + 1) (c ∷ cs)
  by true e k next =
      let same : c ≡ sign = eq-true c sign e in
      ap (λ x. x ∷ cs) same ∙ sym (ap (λ u. take u (c ∷ cs) ++ sign ∷ drop (u + 1) (c ∷ cs)) (ap (λ l. cond (not l) (1 + until sign cs) 0) e))
  by false e k next =
      let n : 1 + until sign cs ≡ suc (until sign cs) = omega arith in
      let m : suc (until sign cs) + 1 ≡ suc (until sign cs + 1) = omega arith in
      ap (λ x. c ∷ x) (next (omega (arith, k))) ∙ sym (ap (λ u. take u (c ∷ cs) ++ sign ∷ drop (u + 1) (c ∷ cs)) (ap (λ l. cond (not l) (1 + until sign cs) 0) e ∙ n) ∙ ap (λ v. c ∷ (take (until sign cs) cs ++ sign ∷ drop v (c ∷ cs))) m)

halves-sound : (sign : ℕ) (w : List ℕ) (p : List ℕ × List ℕ) → halves sign w ≡ Some p → w ≡ p.0 ++ sign ∷ p.1
halves-sound sign w p h =
    let t = if-none (nat_lt (until sign w) (length w)) (take (until sign w) w, drop (until sign w + 1) w) p h in
    cut-there sign w (lt-true (until sign w) (length w) t.0) ∙ ap (λ (q : List ℕ × List ℕ). q.0 ++ sign ∷ q.1) t.1

-- no byte is the sign
abbrev pub Lacks : ℕ → List ℕ → Type 0
Lacks sign a = until sign a ≡ length a

until-append : (sign : ℕ) (a b : List ℕ) → Lacks sign a → until sign (a ++ sign ∷ b) ≡ length a
until-append sign [] b h = ap (λ l. cond (not l) (1 + until sign b) 0) (eq-self sign)
until-append sign (c ∷ cs) b h = by (c == sign) h (λ k. until-append sign cs b k) where
  by : (l : Bool) → cond (not l) (1 + until sign cs) 0 ≡ suc (length cs) → (Lacks sign cs → until sign (cs ++ sign ∷ b) ≡ length cs) → cond (not l) (1 + until sign (cs ++ sign ∷ b)) 0 ≡ suc (length cs)
  by true k next = absurd (omega (arith, k))
  by false k next = omega (arith, next (omega (arith, k)))

halves-complete : (sign : ℕ) (a b : List ℕ) → Lacks sign a → halves sign (a ++ sign ∷ b) ≡ Some (a, b)
halves-complete sign a b h =
    let w : List ℕ = a ++ sign ∷ b in
    let long : length a < length w = omega (arith, length-append a (sign ∷ b)) in
    let front : take (length a) w ≡ a = take-append-le (length a) a (sign ∷ b) (omega arith) ∙ take_all (length a) a (omega arith) in
    let back : drop (length a + 1) w ≡ b = behind a b in
    ap (λ u. cond (nat_lt u (length w)) (Some (take u w, drop (u + 1) w)) None) (until-append sign a b h)
    ∙ ap (λ t. cond t (Some (take (length a) w, drop (length a + 1) w)) None) (true-lt (length a) (length w) long)
    ∙ ap (λ x. Some (x, drop (length a + 1) w)) front ∙ ap (λ y. Some (a, y)) back where
      behind : (xs ys : List ℕ) → drop (length xs + 1) (xs ++ sign ∷ ys) ≡ ys
      behind [] ys = refl
      behind (x ∷ xs) ys = let e : suc (length xs) + 1 ≡ suc (length xs + 1) = omega arith in ap (λ n. drop n (x ∷ (xs ++ sign ∷ ys))) e ∙ behind xs ys

-- ---- both sides read
pub record Sides {A B C : Type 0} (sign : ℕ) (f : List ℕ → Read A) (g : List ℕ → Read B) (made : A → B → C) (w : List ℕ) (z : C) : Type 0 where
  pub left : List ℕ
  pub right : List ℕ
  pub x : A
  pub y : B
  pub is : w ≡ left ++ sign ∷ right
  pub first : f left ≡ Ok x
  pub second : g right ≡ Ok y
  pub same : made x y ≡ z

both-sound : {A B C : Type 0} (sign : ℕ) (f : List ℕ → Read A) (g : List ℕ → Read B) (made : A → B → C) (w : List ℕ) (z : C) → both sign f g made w ≡ Ok z → Sides sign f g made w z
both-sound {A} {B} {C} sign f g made w z h = by (halves sign w) refl h where
  by : (o : Option (List ℕ × List ℕ)) → halves sign w ≡ o → on_halves f g made o ≡ Ok z → Sides sign f g made w z
  by None e k = absurd (never-ok Malformed z k)
  by (Some p) e k =
      let u = on-bound (f p.0) (λ x. g p.1 >>= λ y. Ok (made x y)) z k in
      let v = on-bound (g p.1) (λ y. Ok (made u.0 y)) z u.2 in
      record { left = p.0; right = p.1; x = u.0; y = v.0; is = halves-sound sign w p e; first = u.1; second = v.1; same = as-ok (made u.0 v.0) z v.2 }

both-complete : {A B C : Type 0} (sign : ℕ) (f : List ℕ → Read A) (g : List ℕ → Read B) (made : A → B → C) (a b : List ℕ) (x : A) (y : B) → Lacks sign a → f a ≡ Ok x → g b ≡ Ok y → both sign f g made (a ++ sign ∷ b) ≡ Ok (made x y)
both-complete sign f g made a b x y h k l =
    ap (on_halves f g made) (halves-complete sign a b h) ∙ binds (f a) (λ u. g b >>= λ v. Ok (made u v)) x (made x y) k (binds (g b) (λ v. Ok (made x v)) y (made x y) l refl)

lacks-digits : (sign : ℕ) → ((c : ℕ) → is_digit c ≡ true → (c == sign) ≡ false) → (ds : List ℕ) → are_digits ds ≡ true → Lacks sign ds
lacks-digits sign other [] h = refl
lacks-digits sign other (d ∷ ds) h =
    let p = and_parts (is_digit d) (are_digits ds) h in
    ap (λ l. cond (not l) (1 + until sign ds) 0) (other d p.0) ∙ omega (arith, lacks-digits sign other ds p.1)

not-star : (c : ℕ) → is_digit c ≡ true → (c == 42) ≡ false
not-star c h = let p = digit-in c h in eq-false c 42 (λ e. omega (arith, e, p.0))

not-colon : (c : ℕ) → is_digit c ≡ true → (c == 58) ≡ false
not-colon c h = let p = digit-in c h in eq-false c 58 (λ e. omega (arith, e, p.1))

no-star : (n : ℕ) → n < 2 ^ 64 → Lacks 42 (decimal n)
no-star n h = lacks-digits 42 not-star (decimal n) (digits_decimal own n h)

no-colon : (z : ℤ) → unsigned_abs z < 2 ^ 64 → Lacks 58 (signed_decimal z)
no-colon (pos n) h = lacks-digits 58 not-colon (decimal n) (digits_decimal own n h)
no-colon (negsuc n) h =
    let l = lacks-digits 58 not-colon (decimal (suc n)) (digits_decimal own (suc n) h) in
    let e : 1 + until 58 (decimal (suc n)) ≡ suc (length (decimal (suc n))) = omega (arith, l) in
    e

-- ---- the words of leaves and cuts
abbrev pub IsPick : ℕ × ℕ → Type 0
IsPick p = (p.0 < 4294967295) × (p.1 < 1099511627776)

abbrev pub IsLine : ℕ × ℤ → Type 0
IsLine p = (p.0 < 4294967295) × (unsigned_abs p.1 < 1099511627776)

abbrev pub IsTerm : ℕ × ℤ → Type 0
IsTerm e = (e.0 < 4294967295) × (unsigned_abs e.1 ≤ 1152921504606846976)

pub pick-sound : (w : List ℕ) (p : ℕ × ℕ) → pick w ≡ Ok p → (w ≡ pick_word p) × IsPick p
unfolding pick
pick-sound w p h =
    let s = both-sound 42 index (number 1099511627775) pair w p h in
    let a = index-sound s.left s.x s.first in
    let b = number-sound 1099511627775 s.right s.y (omega arith) s.second in
    subst (λ (q : ℕ × ℕ). (w ≡ pick_word q) × IsPick q) s.same
    (s.is ∙ ap (λ l. l ++ 42 ∷ s.right) a.0 ∙ ap (λ r. decimal (s.x + 1) ++ 42 ∷ r) b.0, (a.1, omega (arith, b.1)))

pub pick-complete : (p : ℕ × ℕ) → IsPick p → pick (pick_word p) ≡ Ok p
unfolding pick
pick-complete p h =
    both-complete 42 index (number 1099511627775) pair (decimal (p.0 + 1)) (decimal p.1) p.0 p.1 (no-star (p.0 + 1) (omega (arith, h.0))) (index-complete p.0 h.0)
    (number-complete 1099511627775 p.1 (omega (arith, h.1)) (omega (arith, h.1)))

pub line-sound : (w : List ℕ) (p : ℕ × ℤ) → line w ≡ Ok p → (w ≡ line_word p) × IsLine p
unfolding line
line-sound w p h =
    let s = both-sound 42 index (signed 1099511627775) pair w p h in
    let a = index-sound s.left s.x s.first in
    let b = signed-sound 1099511627775 s.right s.y (omega arith) s.second in
    subst (λ (q : ℕ × ℤ). (w ≡ line_word q) × IsLine q) s.same
    (s.is ∙ ap (λ l. l ++ 42 ∷ s.right) a.0 ∙ ap (λ r. decimal (s.x + 1) ++ 42 ∷ r) b.0, (a.1, omega (arith, b.1)))

pub line-complete : (p : ℕ × ℤ) → IsLine p → line (line_word p) ≡ Ok p
unfolding line
line-complete p h =
    both-complete 42 index (signed 1099511627775) pair (decimal (p.0 + 1)) (signed_decimal p.1) p.0 p.1 (no-star (p.0 + 1) (omega (arith, h.0))) (index-complete p.0 h.0)
    (signed-complete 1099511627775 p.1 (omega (arith, h.1)) (omega arith))

pub term-sound : (w : List ℕ) (e : ℕ × ℤ) → term w ≡ Ok e → (w ≡ term_word e) × IsTerm e
unfolding term
term-sound w e h =
    let s = both-sound 58 (signed 1152921504606846976) index turned w e h in
    let a = signed-sound 1152921504606846976 s.left s.x (omega arith) s.first in
    let b = index-sound s.right s.y s.second in
    subst (λ (q : ℕ × ℤ). (w ≡ term_word q) × IsTerm q) s.same
    (s.is ∙ ap (λ l. l ++ 58 ∷ s.right) a.0 ∙ ap (λ r. signed_decimal s.x ++ 58 ∷ r) b.0, (b.1, a.1))

pub term-complete : (e : ℕ × ℤ) → IsTerm e → term (term_word e) ≡ Ok e
unfolding term
term-complete e h =
    both-complete 58 (signed 1152921504606846976) index turned (signed_decimal e.1) (decimal (e.0 + 1)) e.1 e.0 (no-colon e.1 (omega (arith, h.1)))
    (signed-complete 1152921504606846976 e.1 h.1 (omega arith)) (index-complete e.0 h.0)

-- ---- each word of a list
none-all : {A : Type 0} (Q : A → Type 0) → All Q []
none-all Q = λ i d h. absurd (omega (arith, h))

pub all-sound : {A : Type 0} (f : List ℕ → Read A) (g : A → List ℕ) (Q : A → Type 0) → ((w : List ℕ) (x : A) → f w ≡ Ok x → (w ≡ g x) × Q x) → (ws : List (List ℕ)) (xs : List A) → all_of f ws ≡ Ok xs → (ws ≡ map g xs) × All Q xs
all-sound {A} f g Q each [] xs h = subst (λ (ys : List A). ([] ≡ map g ys) × All Q ys) (as-ok [] xs h) (refl, none-all Q)
all-sound {A} f g Q each (w ∷ ws) xs h =
    let u = on-bound (f w) (λ x. all_of f ws >>= λ ys. Ok (x ∷ ys)) xs h in
    let v = on-bound (all_of f ws) (λ ys. Ok (u.0 ∷ ys)) xs u.2 in
    let one = each w u.0 u.1 in
    let others = all-sound f g Q each ws v.0 v.1 in
    subst (λ (ys : List A). (w ∷ ws ≡ map g ys) × All Q ys) (as-ok (u.0 ∷ v.0) xs v.2)
    (ap (λ x. x ∷ ws) one.0 ∙ ap (λ l. g u.0 ∷ l) others.0, All-cons Q u.0 v.0 one.1 others.1)

pub all-complete : {A : Type 0} (f : List ℕ → Read A) (g : A → List ℕ) (Q : A → Type 0) → ((x : A) → Q x → f (g x) ≡ Ok x) → (xs : List A) → All Q xs → all_of f (map g xs) ≡ Ok xs
all-complete f g Q each [] h = refl
all-complete f g Q each (x ∷ xs) h =
    binds (f (g x)) (λ y. all_of f (map g xs) >>= λ ys. Ok (y ∷ ys)) x (x ∷ xs) (each x (All-head Q x xs h))
    (binds (all_of f (map g xs)) (λ ys. Ok (x ∷ ys)) xs (x ∷ xs) (all-complete f g Q each xs (All-tail Q x xs h)) refl)
