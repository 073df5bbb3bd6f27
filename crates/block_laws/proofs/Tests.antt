-- The test of certificates is right.
use Rattle.std.proofs.Common.{◌≡◌, ℕ, ◌+◌, ◌<◌, ◌≤◌, List, [], ◌∷◌, refl, sym, arith}
use Rattle.std.specs.Prelude.{Bool, true, false, ◌&&◌, IsTrue, nat_le, nat_lt, int_lt, int_le, is_none, ◌↔◌, ℤ, pos, ◌≤ℤ◌, ◌<ℤ◌, Option, Some, None}
use Rattle.std.proofs.lemmas.Bool.Decides.{nat_tests}
use Rattle.std.proofs.lemmas.Int.{ints}
use Rattle.st_linear.specs.Linear.{Linear}
use Rattle.st_linear.specs.declared.rows.Line.{Line}
use Rattle.st_form.specs.Formula.{Formula}
use Rattle.st_certificate.specs.Tree.{Tree, Trees, impossible, branch, farkas, linear, no_tree, with_tree}
use Rattle.farkas_leaf.specs.Leaf as of_rows
use Rattle.farkas_leaf.specs.Lines as of_lines
use Rattle.farkas_check.specs.Problem.{Setting, Problem, division, rows_of, lines_of, first_problem}
use Rattle.farkas_check.specs.Valid.{There, Valid, AreValid, IsCertificate}
use Rattle.block_laws.specs.Tests.{rise_within, has_none, closes_rows, is_signed, are_signed, closes_lines, there, is_valid, are_valid, is_certificate}

both : (a b : Bool) → (a && b) ≡ true → (a ≡ true) × (b ≡ true)
both true true e = (refl, refl)
both true false e = absurd cc
both false b e = absurd cc

join : (a b : Bool) → a ≡ true → b ≡ true → (a && b) ≡ true
join a b p q = rw (p, q) refl

rising_rows : (n low : ℕ) (ps : List (ℕ × ℕ)) → rise_within n low ps ≡ true → of_rows.RiseWithin n low ps
rising_rows n low [] e = tt
rising_rows n low (p ∷ ps) e =
    let x = both (nat_le low p.0) (nat_lt p.0 n && rise_within n (p.0 + 1) ps) e in
    let y = both (nat_lt p.0 n) (rise_within n (p.0 + 1) ps) x.1 in
    let low_le : low ≤ p.0 = grind (arith, nat_tests, x.0) in
    let below : p.0 < n = grind (arith, nat_tests, y.0) in
    (low_le, below, rising_rows n (p.0 + 1) ps y.1)

rows_rising : (n low : ℕ) (ps : List (ℕ × ℕ)) → of_rows.RiseWithin n low ps → rise_within n low ps ≡ true
rows_rising n low [] r = refl
rows_rising n low (p ∷ ps) r = join _ _ (grind (arith, nat_tests, r.0)) (join _ _ (grind (arith, nat_tests, r.1)) (rows_rising n (p.0 + 1) ps r.2))

rising_lines : (n low : ℕ) (ps : List (ℕ × ℤ)) → rise_within n low ps ≡ true → of_lines.RiseWithin n low ps
rising_lines n low [] e = tt
rising_lines n low (p ∷ ps) e =
    let x = both (nat_le low p.0) (nat_lt p.0 n && rise_within n (p.0 + 1) ps) e in
    let y = both (nat_lt p.0 n) (rise_within n (p.0 + 1) ps) x.1 in
    let low_le : low ≤ p.0 = grind (arith, nat_tests, x.0) in
    let below : p.0 < n = grind (arith, nat_tests, y.0) in
    (low_le, below, rising_lines n (p.0 + 1) ps y.1)

lines_rising : (n low : ℕ) (ps : List (ℕ × ℤ)) → of_lines.RiseWithin n low ps → rise_within n low ps ≡ true
lines_rising n low [] r = refl
lines_rising n low (p ∷ ps) r = join _ _ (grind (arith, nat_tests, r.0)) (join _ _ (grind (arith, nat_tests, r.1)) (lines_rising n (p.0 + 1) ps r.2))

none_is : {A : Type 0} (xs : List A) → has_none xs ≡ true → xs ≡ []
none_is [] e = refl
none_is (x ∷ xs) e = absurd cc

is_none_of : {A : Type 0} (xs : List A) → xs ≡ [] → has_none xs ≡ true
is_none_of [] e = refl
is_none_of (x ∷ xs) e = absurd cc

negative_is : (z : ℤ) → int_lt z (pos 0) ≡ true → z <ℤ pos 0
negative_is z e = grind (arith, ints)

is_negative : (z : ℤ) → z <ℤ pos 0 → int_lt z (pos 0) ≡ true
is_negative z e = grind (arith, ints)

natural_is : (z : ℤ) → int_le (pos 0) z ≡ true → pos 0 ≤ℤ z
natural_is z e = grind (arith, ints)

is_natural : (z : ℤ) → pos 0 ≤ℤ z → int_le (pos 0) z ≡ true
is_natural z e = grind (arith, ints)

signed_is : (b : Bool) (z : ℤ) → is_signed b z ≡ true → b ≡ false → pos 0 ≤ℤ z
signed_is true z e f = absurd cc
signed_is false z e f = natural_is z e

is_signed_of : (b : Bool) (z : ℤ) → (b ≡ false → pos 0 ≤ℤ z) → is_signed b z ≡ true
is_signed_of true z h = refl
is_signed_of false z h = is_natural z (h refl)

are_signed_is : (lines : List Line) (ps : List (ℕ × ℤ)) → are_signed lines ps ≡ true → of_lines.IsSigned lines ps
are_signed_is lines [] e = tt
are_signed_is lines (p ∷ ps) e = let x = both _ _ e in (signed_is _ _ x.0, are_signed_is lines ps x.1)

are_signed_of : (lines : List Line) (ps : List (ℕ × ℤ)) → of_lines.IsSigned lines ps → are_signed lines ps ≡ true
are_signed_of lines [] h = refl
are_signed_of lines (p ∷ ps) h = join _ _ (is_signed_of _ _ h.0) (are_signed_of lines ps h.1)

closes_rows_is : (rows : List Linear) (ps : List (ℕ × ℕ)) → closes_rows rows ps ≡ true → of_rows.Closes rows ps
closes_rows_is rows ps e =
    let x = both _ _ e in
    let y = both _ _ x.1 in
    record { rising = rising_rows _ _ ps x.0; no_variable = none_is _ y.0; negative = negative_is _ y.1 }

closes_rows_of : (rows : List Linear) (ps : List (ℕ × ℕ)) → of_rows.Closes rows ps → closes_rows rows ps ≡ true
closes_rows_of rows ps h = join _ _ (rows_rising _ _ ps h.rising) (join _ _ (is_none_of _ h.no_variable) (is_negative _ h.negative))

closes_lines_is : (lines : List Line) (ps : List (ℕ × ℤ)) → closes_lines lines ps ≡ true → of_lines.Closes lines ps
closes_lines_is lines ps e =
    let x = both _ _ e in
    let y = both _ _ x.1 in
    let z = both _ _ y.1 in
    record { rising = rising_lines _ _ ps x.0; signed = are_signed_is lines ps y.0; no_variable = none_is _ z.0; negative = negative_is _ z.1 }

closes_lines_of : (lines : List Line) (ps : List (ℕ × ℤ)) → of_lines.Closes lines ps → closes_lines lines ps ≡ true
closes_lines_of lines ps h =
    join _ _ (lines_rising _ _ ps h.rising) (join _ _ (are_signed_of lines ps h.signed) (join _ _ (is_none_of _ h.no_variable) (is_negative _ h.negative)))

there_is : {A : Type 0} (test : A → Bool) (P : A → Type 0) (o : Option A) → ((x : A) → test x ≡ true → P x) → there test o ≡ true → There o P
there_is test P None f e = absurd cc
there_is test P (Some x) f e = f x e

there_of : {A : Type 0} (test : A → Bool) (P : A → Type 0) (o : Option A) → ((x : A) → P x → test x ≡ true) → There o P → there test o ≡ true
there_of test P None f h = absurd h
there_of test P (Some x) f h = f x h

no_value : {A : Type 0} (o : Option A) → is_none o ≡ true → o ≡ None
no_value None e = refl
no_value (Some x) e = absurd cc

without_value : {A : Type 0} (o : Option A) → o ≡ None → is_none o ≡ true
without_value None e = refl
without_value (Some x) e = absurd cc

mutual
  valid_is : (k : Setting) (t : Tree) (p : Problem) → is_valid k t p ≡ true → Valid k t p
  valid_is k impossible p e = no_value p.conjuncts e
  valid_is k (branch s ts) p e = there_is (are_valid k ts) (AreValid k ts) (division k p s) (λ ps h. valid_are k ts ps h) e
  valid_is k (farkas picks) p e = there_is _ _ p.conjuncts (λ fs h. closes_rows_is (rows_of fs) picks h) e
  valid_is k (linear picks) p e = there_is _ _ p.conjuncts (λ fs h. closes_lines_is (lines_of fs) picks h) e

  valid_are : (k : Setting) (ts : Trees) (ps : List Problem) → are_valid k ts ps ≡ true → AreValid k ts ps
  valid_are k no_tree [] e = tt
  valid_are k no_tree (p ∷ ps) e = absurd cc
  valid_are k (with_tree t ts) [] e = absurd cc
  valid_are k (with_tree t ts) (p ∷ ps) e = let x = both _ _ e in (valid_is k t p x.0, valid_are k ts ps x.1)

mutual
  valid_of : (k : Setting) (t : Tree) (p : Problem) → Valid k t p → is_valid k t p ≡ true
  valid_of k impossible p h = without_value p.conjuncts h
  valid_of k (branch s ts) p h = there_of (are_valid k ts) (AreValid k ts) (division k p s) (λ ps v. are_valid_of k ts ps v) h
  valid_of k (farkas picks) p h = there_of _ _ p.conjuncts (λ fs v. closes_rows_of (rows_of fs) picks v) h
  valid_of k (linear picks) p h = there_of _ _ p.conjuncts (λ fs v. closes_lines_of (lines_of fs) picks v) h

  are_valid_of : (k : Setting) (ts : Trees) (ps : List Problem) → AreValid k ts ps → are_valid k ts ps ≡ true
  are_valid_of k no_tree [] h = refl
  are_valid_of k no_tree (p ∷ ps) h = absurd h
  are_valid_of k (with_tree t ts) [] h = absurd h
  are_valid_of k (with_tree t ts) (p ∷ ps) h = join _ _ (valid_of k t p h.0) (are_valid_of k ts ps h.1)

-- the test and the relation are one
pub certificate_is : (k : Setting) (given shown : Formula) (t : Tree) → is_certificate k given shown t ≡ true → IsCertificate k given shown t
unfolding is_certificate
certificate_is k given shown t e = valid_is k t (first_problem k given shown) e

pub certificate_of : (k : Setting) (given shown : Formula) (t : Tree) → IsCertificate k given shown t → is_certificate k given shown t ≡ true
unfolding is_certificate
certificate_of k given shown t h = valid_of k t (first_problem k given shown) h

by_both : (a b : Bool) → (a ≡ true → b ≡ true) → (b ≡ true → a ≡ true) → a ≡ b
by_both true b f g = sym (f refl)
by_both false true f g = g refl
by_both false false f g = refl

-- the test of a certificate that was checked
pub tested : (k : Setting) (given shown : Formula) (t : Tree) (valid : Bool) → (IsTrue valid ↔ IsCertificate k given shown t) → is_certificate k given shown t ≡ valid
tested k given shown t valid exact =
    by_both (is_certificate k given shown t) valid (λ e. exact.1 (certificate_is k given shown t e)) (λ e. certificate_of k given shown t (exact.0 e))
