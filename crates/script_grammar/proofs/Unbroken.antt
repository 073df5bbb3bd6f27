-- Rules that are kept, and what is the same in its parts.
use Rattle.std.proofs.Common.{◌≡◌, ℕ, suc, ◌+◌, ◌≤◌, Bool, true, false, cond, nat_lt, not, List, [], ◌∷◌, ◌++◌, length, Option, Some, None, Ok, Err, refl, ap, ◌∙◌, arith, unwrap_or}
use Rattle.std.specs.Prelude.{Result, is_none}
use Rattle.std.proofs.lemmas.Bool.Decides.{nat_tests}
use Rattle.st_reading.specs.Breaches.{Breach}
use Rattle.st_reading.specs.BrokenRules.{Broken}
use Rattle.expression_typer.specs.declared.fault.TypeFault.{TypeFault}
use Rattle.script_grammar.specs.RawScripts.{RawUnit}
use Rattle.script_grammar.specs.Meaning.{value_or}
use Rattle.script_grammar.specs.Nesting.{first_passing, form_passes}
use Rattle.script_grammar.specs.Breaking.{broken_where, nesting_rules, typing_rules, marked_rules, listed_rules}

-- NO RULE IS BROKEN
pub none_broken : {X : Type 0} {xs ys : List X} → xs ≡ [] → ys ≡ [] → xs ++ ys ≡ []
none_broken {X} {xs} {ys} e f = ap (λ (z : List X). z ++ ys) e ∙ f

pub both_kept : {X : Type 0} (xs ys : List X) → xs ++ ys ≡ [] → (xs ≡ []) × (ys ≡ [])
both_kept [] ys h = (refl, h)
both_kept (x ∷ xs) ys h = absurd cc

pub not_broken : (b : Bool) (n : ℕ) (f : Breach) → b ≡ false → broken_where b n f ≡ []
not_broken false n f e = refl
not_broken true n f e = absurd cc

pub is_kept : (b : Bool) (n : ℕ) (f : Breach) → broken_where b n f ≡ [] → b ≡ false
is_kept false n f h = refl
is_kept true n f h = absurd cc

pub is_typed : {A : Type 0} (other : A) (n : ℕ) (r : Result A TypeFault) → typing_rules n r ≡ [] → r ≡ Ok (value_or other r)
is_typed other n (Ok x) h = refl
is_typed other n (Err f) h = absurd cc

pub no_fault : {A : Type 0} (x : A) (n : ℕ) (r : Result A TypeFault) → r ≡ Ok x → typing_rules n r ≡ []
no_fault x n r e = ap (typing_rules n) e

pub typed_value : {A : Type 0} (other x : A) (r : Result A TypeFault) → r ≡ Ok x → value_or other r ≡ x
typed_value other x r e = ap (value_or other) e

pub is_there : {A : Type 0} (other : A) (o : Option A) → is_none o ≡ false → o ≡ Some (unwrap_or o other)
is_there other None h = absurd cc
is_there other (Some x) h = refl

pub there_is : {A : Type 0} (other x : A) (o : Option A) → o ≡ Some x → unwrap_or o other ≡ x
there_is {A} other x o e = ap (λ (z : Option A). unwrap_or z other) e

pub not_true : (b : Bool) → not b ≡ false → b ≡ true
not_true true h = refl
not_true false h = absurd cc

-- THE SAME PARTS
pub same2 : {A B C : Type 0} (f : A → B → C) {a a2 : A} {b b2 : B} → a ≡ a2 → b ≡ b2 → f a b ≡ f a2 b2
same2 f {a} {a2} {b} {b2} e h = ap (λ x. f x b) e ∙ ap (f a2) h

pub same3 : {A B C D : Type 0} (f : A → B → C → D) {a a2 : A} {b b2 : B} {c c2 : C} → a ≡ a2 → b ≡ b2 → c ≡ c2 → f a b c ≡ f a2 b2 c2
same3 f {a} {a2} {b} {b2} {c} {c2} e h k = ap (λ x. f x b c) e ∙ same2 (f a2) h k

pub same4 : {A B C D E : Type 0} (f : A → B → C → D → E) {a a2 : A} {b b2 : B} {c c2 : C} {d d2 : D} → a ≡ a2 → b ≡ b2 → c ≡ c2 → d ≡ d2 → f a b c d ≡ f a2 b2 c2 d2
same4 f {a} {a2} {b} {b2} {c} {c2} {d} {d2} e h k m = ap (λ x. f x b c d) e ∙ same3 (f a2) h k m

-- LISTS OF AT MOST 64
pub few_at_first : 0 ≤ 64
few_at_first = omega arith

below_64 : (n m : ℕ) → n + suc m ≤ 64 → nat_lt n 64 ≡ true
below_64 n m h = grind (arith, nat_tests)

is_below_64 : (n : ℕ) → nat_lt n 64 ≡ true → suc n ≤ 64
is_below_64 n h = grind (arith, nat_tests)

module _ {R : Type 0} (form : R → RawUnit) (size : R → ℕ) (judge : ℕ → R → List (Broken Breach)) where
  -- they keep their rules, and are few
  pub listed_kept : (before at : ℕ) (xs : List R) → before + length xs ≤ 64 → marked_rules size judge at xs ≡ [] → listed_rules form size judge before at xs ≡ []
  listed_kept before at [] few h = refl
  listed_kept before at (x ∷ xs) few h =
      let k = both_kept (judge (at + 1) x) (marked_rules size judge (at + (1 + size x)) xs) h in
      let e = below_64 before (length xs) few in
      none_broken (rw e k.0) (listed_kept (suc before) (at + (1 + size x)) xs (omega (arith, few)) k.1)

  one_is_one : (y : Broken Breach) → y ∷ [] ≡ [] → ⊥
  one_is_one y h = absurd cc

  one_of_few : (b : Bool) (xs ys zs : List (Broken Breach)) (y : Broken Breach) → cond b xs (ys ++ y ∷ []) ++ zs ≡ [] → (b ≡ true) × (xs ≡ []) × (zs ≡ [])
  one_of_few true xs ys zs y h = let k = both_kept xs zs h in (refl, k.0, k.1)
  one_of_few false xs ys zs y h = absurd (one_is_one y (both_kept ys (y ∷ []) (both_kept (ys ++ y ∷ []) zs h).0).1)

  pub kept_listed : (before at : ℕ) (xs : List R) → before ≤ 64 → listed_rules form size judge before at xs ≡ [] → (before + length xs ≤ 64) × (marked_rules size judge at xs ≡ [])
  kept_listed before at [] few h = (omega (arith, few), refl)
  kept_listed before at (x ∷ xs) few h =
      let k = one_of_few (nat_lt before 64) (judge (at + 1) x) (nesting_rules (at + 1) (first_passing form_passes (form x).text)) (listed_rules form size judge (suc before) (at + (1 + size x)) xs) _ h in
      let n = is_below_64 before k.0 in
      let m = kept_listed (suc before) (at + (1 + size x)) xs n k.2 in
      let less = m.0 in
      (omega (arith, less), none_broken k.1 m.1)
