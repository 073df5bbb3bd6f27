-- A pair in its place by rising variable.
use Rattle.std.proofs.Common.{◌≡◌, ℕ, zero, suc, ◌<◌, ◌≤◌, Bool, true, false, List, [], ◌∷◌, drop, length, Result, Ok, Err, OnOk, refl, sym, ap, ◌∙◌, arith}
use Rattle.std.specs.Prelude.{nat_lt, ◌==◌, if◌then◌else◌, slice_set}
use Rattle.std.specs.List.{insert}
use Rattle.std.proofs.lemmas.Bool.Decides.{nat_tests}
use Rattle.st_form.specs.Plain.{plain}
use Rattle.st_form.specs.declared.formulas.Form.{Form}
use Rattle.st_program.specs.Groups.{inserted}
use Rattle.spl_translation.specs.Making.{plain_truths, place_of, begins_with}

pub place_le : {X : Type 0} (v : ℕ) (ps : List (ℕ × X)) → place_of v ps ≤ length ps
place_le v [] = omega arith
place_le v (p ∷ ps) = by_test (nat_lt p.0 v) (place_le v ps)
  where
    by_test : (b : Bool) → place_of v ps ≤ length ps → (if b then suc (place_of v ps) else 0) ≤ suc (length ps)
    by_test true h = omega arith
    by_test false h = omega arith

pub begins_lt : {X : Type 0} (v n : ℕ) (ps : List (ℕ × X)) → begins_with v (drop n ps) ≡ true → n < length ps
begins_lt v zero [] e = cc
begins_lt v (suc n) [] e = cc
begins_lt v zero (p ∷ ps) e = omega arith
begins_lt v (suc n) (p ∷ ps) e = let h = begins_lt v n ps e in omega arith

above : (v w : ℕ) → nat_lt w v ≡ true → (nat_lt v w ≡ false) × ((v == w) ≡ false)
above v w e = (grind (arith, nat_tests), grind (arith, nat_tests))

here_tests : (v w : ℕ) → (w == v) ≡ true → (nat_lt v w ≡ false) × ((v == w) ≡ true)
here_tests v w e = (grind (arith, nat_tests), grind (arith, nat_tests))

before_test : (v w : ℕ) → nat_lt w v ≡ false → (w == v) ≡ false → nat_lt v w ≡ true
before_test v w e f = grind (arith, nat_tests)

-- a pair that stands there already is replaced
pub inserted_here : {X : Type 0} (v : ℕ) (x : X) (ps : List (ℕ × X)) → begins_with v (drop (place_of v ps) ps) ≡ true → slice_set ps (place_of v ps) (v, x) ≡ inserted v x ps
inserted_here v x [] e = cc
inserted_here {X} v x (p ∷ ps) e = by_test (nat_lt p.0 v) refl e (λ k. inserted_here v x ps k)
  where
    by_test : (b : Bool) → nat_lt p.0 v ≡ b → begins_with v (drop (if b then suc (place_of v ps) else 0) (p ∷ ps)) ≡ true → (begins_with v (drop (place_of v ps) ps) ≡ true → slice_set ps (place_of v ps) (v, x) ≡ inserted v x ps)
        → slice_set (p ∷ ps) (if b then suc (place_of v ps) else 0) (v, x) ≡ inserted v x (p ∷ ps)
    by_test true t k down =
        let q = above v p.0 t in
        ap (λ z. p ∷ z) (down k)
        ∙ sym (ap (λ b. if b then (v, x) ∷ p ∷ ps else (if v == p.0 then (v, x) ∷ ps else p ∷ inserted v x ps)) q.0 ∙ ap (λ b. if b then (v, x) ∷ ps else p ∷ inserted v x ps) q.1)
    by_test false t k down =
        let q = here_tests v p.0 k in
        sym (ap (λ b. if b then (v, x) ∷ p ∷ ps else (if v == p.0 then (v, x) ∷ ps else p ∷ inserted v x ps)) q.0 ∙ ap (λ b. if b then (v, x) ∷ ps else p ∷ inserted v x ps) q.1)

-- where there is none, the pair is put before the others
pub inserted_new : {X : Type 0} (v : ℕ) (x : X) (ps : List (ℕ × X)) → begins_with v (drop (place_of v ps) ps) ≡ false → insert ps (place_of v ps) (v, x) ≡ inserted v x ps
inserted_new v x [] e = refl
inserted_new {X} v x (p ∷ ps) e = by_test (nat_lt p.0 v) refl e (λ k. inserted_new v x ps k)
  where
    by_test : (b : Bool) → nat_lt p.0 v ≡ b → begins_with v (drop (if b then suc (place_of v ps) else 0) (p ∷ ps)) ≡ false → (begins_with v (drop (place_of v ps) ps) ≡ false → insert ps (place_of v ps) (v, x) ≡ inserted v x ps)
        → insert (p ∷ ps) (if b then suc (place_of v ps) else 0) (v, x) ≡ inserted v x (p ∷ ps)
    by_test true t k down =
        let q = above v p.0 t in
        ap (λ z. p ∷ z) (down k)
        ∙ sym (ap (λ b. if b then (v, x) ∷ p ∷ ps else (if v == p.0 then (v, x) ∷ ps else p ∷ inserted v x ps)) q.0 ∙ ap (λ b. if b then (v, x) ∷ ps else p ∷ inserted v x ps) q.1)
    by_test false t k down =
        sym (ap (λ b. if b then (v, x) ∷ p ∷ ps else (if v == p.0 then (v, x) ∷ ps else p ∷ inserted v x ps)) (before_test v p.0 t k))

-- formulas as plain data keep their places
pub inserted_plain : (v : ℕ) (f : Form) (ps : List (ℕ × Form)) → plain_truths (inserted v f ps) ≡ inserted v (plain f) (plain_truths ps)
inserted_plain v f [] = refl
inserted_plain v f (p ∷ ps) = by_tests (nat_lt v p.0) (v == p.0) (inserted_plain v f ps)
  where
    by_tests : (a b : Bool) → plain_truths (inserted v f ps) ≡ inserted v (plain f) (plain_truths ps)
        → plain_truths (if a then (v, f) ∷ p ∷ ps else (if b then (v, f) ∷ ps else p ∷ inserted v f ps))
        ≡ (if a then (v, plain f) ∷ plain_truths (p ∷ ps) else (if b then (v, plain f) ∷ plain_truths ps else (p.0, plain p.1) ∷ inserted v (plain f) (plain_truths ps)))
    by_tests true b e = refl
    by_tests false true e = refl
    by_tests false false e = ap (λ z. (p.0, plain p.1) ∷ z) e

pub on_plain : {T E : Type 0} (r : Result T E) (v : ℕ) (f : Form) (new old : List (ℕ × Form)) → OnOk r (new ≡ inserted v f old) → OnOk r (plain_truths new ≡ inserted v (plain f) (plain_truths old))
on_plain (Ok x) v f new old h = ap plain_truths h ∙ inserted_plain v f old
on_plain (Err x) v f new old h = h
