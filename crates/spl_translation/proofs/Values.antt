-- Formulas of programs don't look at locations, and values by rising variable are those of the assignment.
use Rattle.std.proofs.Common.{◌≡◌, ◌≢◌, ℕ, Bool, true, false, List, [], ◌∷◌, Some, None, refl, sym, ap, ◌∙◌, subst, arith}
use Rattle.std.specs.Prelude.{◌==◌, not, nat_lt, if◌then◌else◌}
use Rattle.std.proofs.lemmas.Bool.Decides.{nat_tests}
use Rattle.st_linear.specs.Linear.{Linear, value, value_or, form_for, changed}
use Rattle.st_form.specs.Formula.{Formula, Formulas, truth_value, row, equal, bool_var, at, negation, every, some, none, more, Situation, every_truth, some_truth}
use Rattle.st_form.specs.Formula as formulas
use Rattle.st_form.specs.Exchange.{truth_for}
use Rattle.st_form.specs.declared.variables.Variable.{Variable}
use Rattle.st_program.specs.Tree.{Term, number, truth}
use Rattle.st_program.specs.Types.{FormulaFits, FormulasFit, TermFits, IsNoTarget, TargetsFit}
use Rattle.st_program.specs.Groups.{inserted}
use Rattle.spl_semantics.specs.Stores.{Store, situation, holds, number_given, truth_given}
use Rattle.spl_translation.specs.Translation.{numbers_of, truths_of}

-- the truth of the formula is the same wherever control is
abbrev pub IsBlind : Formula → Type 0
IsBlind f = (s : Store) (here there : ℕ → Bool) → formulas.truth (situation s here) f ≡ formulas.truth (situation s there) f

mutual
  pub blind : (vs : List Variable) (bound : ℕ) (f : Formula) → FormulaFits vs bound f → IsBlind f
  blind vs bound (truth_value b) h s x y = refl
  blind vs bound (row f) h s x y = refl
  blind vs bound (equal f) h s x y = refl
  blind vs bound (bool_var v) h s x y = refl
  blind vs bound (at l) h s x y = absurd h
  blind vs bound (negation f) h s x y = ap not (blind vs bound f h s x y)
  blind vs bound (every fs) h s x y = (blind_all vs bound fs h s x y).0
  blind vs bound (some fs) h s x y = (blind_all vs bound fs h s x y).1

  blind_all : (vs : List Variable) (bound : ℕ) (fs : Formulas) → FormulasFit vs bound fs → (s : Store) (x y : ℕ → Bool)
      → (every_truth (situation s x) fs ≡ every_truth (situation s y) fs) × (some_truth (situation s x) fs ≡ some_truth (situation s y) fs)
  blind_all vs bound none h s x y = (refl, refl)
  blind_all vs bound (more f fs) h s x y =
      let a = blind vs bound f h.0 s x y in
      let b = blind_all vs bound fs h.1 s x y in
      (rw (a, b.0) refl, rw (a, b.1) refl)

-- what a term says is the same wherever control is
abbrev pub BlindTerm : Term → Type 0
BlindTerm (number f) = Unit {0}
BlindTerm (truth f) = IsBlind f

-- targets are distinct, and right sides don't look at locations
abbrev pub Plainly : List (ℕ × Term) → Type 0
Plainly [] = Unit {0}
Plainly (x ∷ xs) = IsNoTarget x.0 xs × BlindTerm x.1 × Plainly xs

blind_term : (vs : List Variable) (t : Term) → TermFits vs t → BlindTerm t
blind_term vs (number f) h = tt
blind_term vs (truth f) h = blind vs _ f h

pub plainly : (vs : List Variable) (xs : List (ℕ × Term)) → TargetsFit vs xs → Plainly xs
plainly vs [] h = tt
plainly vs (x ∷ xs) h = (h.2, blind_term vs x.1 h.1, plainly vs xs h.3)

test_is : (m n : ℕ) → (m == n) ≡ true → m ≡ n
test_is m n e = grind (arith, nat_tests)

-- a value that was put is found, and the others are as before
pub put-number : (v w : ℕ) (f : Linear) (ps : List (ℕ × Linear)) → form_for v (inserted w f ps) ≡ (if w == v then Some f else form_for v ps)
put-number v w f [] = refl
put-number v w f (p ∷ ps) = by_order (nat_lt w p.0) (w == p.0) refl (put-number v w f ps)
  where
    by_order : (a b : Bool) → (w == p.0) ≡ b → form_for v (inserted w f ps) ≡ (if w == v then Some f else form_for v ps)
        → form_for v (if a then (w, f) ∷ p ∷ ps else (if b then (w, f) ∷ ps else p ∷ inserted w f ps)) ≡ (if w == v then Some f else form_for v (p ∷ ps))
    by_order true b q rest = refl
    by_order false true q rest = same_key (w == v) (p.0 == v) refl refl
      where
        same_key : (c d : Bool) → (w == v) ≡ c → (p.0 == v) ≡ d → (if c then Some f else form_for v ps) ≡ (if c then Some f else (if d then Some p.1 else form_for v ps))
        same_key true d e g = refl
        same_key false false e g = refl
        same_key false true e g = let same : w ≡ p.0 = test_is w p.0 q in let other : p.0 ≡ v = test_is p.0 v g in let no_way : (w == v) ≡ true = let z : w ≡ v = same ∙ other in grind (arith, nat_tests) in cc
    by_order false false q rest = apart_key (w == v) (p.0 == v) refl refl rest
      where
        apart_key : (c d : Bool) → (w == v) ≡ c → (p.0 == v) ≡ d → form_for v (inserted w f ps) ≡ (if c then Some f else form_for v ps)
            → (if d then Some p.1 else form_for v (inserted w f ps)) ≡ (if c then Some f else (if d then Some p.1 else form_for v ps))
        apart_key true false e g rest = rest
        apart_key false false e g rest = rest
        apart_key false true e g rest = refl
        apart_key true true e g rest = let a : w ≡ v = test_is w v e in let b : p.0 ≡ v = test_is p.0 v g in let no_way : (w == p.0) ≡ true = let z : w ≡ p.0 = a ∙ sym b in grind (arith, nat_tests) in cc

pub put-truth : (v w : ℕ) (f : Formula) (ps : List (ℕ × Formula)) → truth_for v (inserted w f ps) ≡ (if w == v then f else truth_for v ps)
put-truth v w f [] = refl
put-truth v w f (p ∷ ps) = by_order (nat_lt w p.0) (w == p.0) refl (put-truth v w f ps)
  where
    by_order : (a b : Bool) → (w == p.0) ≡ b → truth_for v (inserted w f ps) ≡ (if w == v then f else truth_for v ps)
        → truth_for v (if a then (w, f) ∷ p ∷ ps else (if b then (w, f) ∷ ps else p ∷ inserted w f ps)) ≡ (if w == v then f else truth_for v (p ∷ ps))
    by_order true b q rest = refl
    by_order false true q rest = same_key (w == v) (p.0 == v) refl refl
      where
        same_key : (c d : Bool) → (w == v) ≡ c → (p.0 == v) ≡ d → (if c then f else truth_for v ps) ≡ (if c then f else (if d then p.1 else truth_for v ps))
        same_key true d e g = refl
        same_key false false e g = refl
        same_key false true e g = let same : w ≡ p.0 = test_is w p.0 q in let other : p.0 ≡ v = test_is p.0 v g in let no_way : (w == v) ≡ true = let z : w ≡ v = same ∙ other in grind (arith, nat_tests) in cc
    by_order false false q rest = apart_key (w == v) (p.0 == v) refl refl rest
      where
        apart_key : (c d : Bool) → (w == v) ≡ c → (p.0 == v) ≡ d → truth_for v (inserted w f ps) ≡ (if c then f else truth_for v ps)
            → (if d then p.1 else truth_for v (inserted w f ps)) ≡ (if c then f else (if d then p.1 else truth_for v ps))
        apart_key true false e g rest = rest
        apart_key false false e g rest = rest
        apart_key false true e g rest = refl
        apart_key true true e g rest = let a : w ≡ v = test_is w v e in let b : p.0 ≡ v = test_is p.0 v g in let no_way : (w == p.0) ≡ true = let z : w ≡ p.0 = a ∙ sym b in grind (arith, nat_tests) in cc

-- a variable that is no target keeps its value
no_number : (v : ℕ) (xs : List (ℕ × Term)) → IsNoTarget v xs → form_for v (numbers_of xs) ≡ None
no_number v [] h = refl
no_number v ((w, number f) ∷ xs) h =
    let other : (w == v) ≡ false = let d : w ≢ v = h.0 in grind (arith, nat_tests) in
    put-number v w f (numbers_of xs) ∙ ap (λ b. if b then Some f else form_for v (numbers_of xs)) other ∙ no_number v xs h.1
no_number v ((w, truth f) ∷ xs) h = no_number v xs h.1

no_truth : (v : ℕ) (xs : List (ℕ × Term)) → IsNoTarget v xs → truth_for v (truths_of xs) ≡ bool_var v
no_truth v [] h = refl
no_truth v ((w, number f) ∷ xs) h = no_truth v xs h.1
no_truth v ((w, truth f) ∷ xs) h =
    let other : (w == v) ≡ false = let d : w ≢ v = h.0 in grind (arith, nat_tests) in
    put-truth v w f (truths_of xs) ∙ ap (λ b. if b then f else truth_for v (truths_of xs)) other ∙ no_truth v xs h.1

pub numbers-given : (xs : List (ℕ × Term)) → Plainly xs → (s : Store) (v : ℕ) → changed s.numbers (numbers_of xs) v ≡ number_given v xs s
numbers-given [] h s v = refl
numbers-given ((w, number f) ∷ xs) h s v = ap (value_or (s.numbers v) s.numbers) (put-number v w f (numbers_of xs)) ∙ by_key (w == v) (numbers-given xs h.2 s v)
  where
    by_key : (b : Bool) → changed s.numbers (numbers_of xs) v ≡ number_given v xs s → value_or (s.numbers v) s.numbers (if b then Some f else form_for v (numbers_of xs)) ≡ (if b then value s.numbers f else number_given v xs s)
    by_key true rest = refl
    by_key false rest = rest
numbers-given ((w, truth f) ∷ xs) h s v = by_key (w == v) refl (numbers-given xs h.2 s v)
  where
    by_key : (b : Bool) → (w == v) ≡ b → changed s.numbers (numbers_of xs) v ≡ number_given v xs s → changed s.numbers (numbers_of xs) v ≡ (if b then s.numbers v else number_given v xs s)
    by_key true e rest =
        let same : w ≡ v = test_is w v e in
        ap (value_or (s.numbers v) s.numbers) (no_number v xs (subst (λ z. IsNoTarget z xs) same h.0))
    by_key false e rest = rest

pub truths-given : (xs : List (ℕ × Term)) → Plainly xs → (s : Store) (here : ℕ → Bool) (v : ℕ) → formulas.truth (situation s here) (truth_for v (truths_of xs)) ≡ truth_given v xs s
truths-given [] h s here v = refl
truths-given ((w, number f) ∷ xs) h s here v = by_key (w == v) refl (truths-given xs h.2 s here v)
  where
    by_key : (b : Bool) → (w == v) ≡ b → formulas.truth (situation s here) (truth_for v (truths_of xs)) ≡ truth_given v xs s → formulas.truth (situation s here) (truth_for v (truths_of xs)) ≡ (if b then s.truths v else truth_given v xs s)
    by_key true e rest =
        let same : w ≡ v = test_is w v e in
        ap (formulas.truth (situation s here)) (no_truth v xs (subst (λ z. IsNoTarget z xs) same h.0))
    by_key false e rest = rest
truths-given ((w, truth f) ∷ xs) h s here v = ap (formulas.truth (situation s here)) (put-truth v w f (truths_of xs)) ∙ by_key (w == v) (truths-given xs h.2 s here v)
  where
    by_key : (b : Bool) → formulas.truth (situation s here) (truth_for v (truths_of xs)) ≡ truth_given v xs s → formulas.truth (situation s here) (if b then f else truth_for v (truths_of xs)) ≡ (if b then holds f s else truth_given v xs s)
    by_key true rest = h.1 s here (λ l. false)
    by_key false rest = rest
