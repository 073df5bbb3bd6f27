-- What a path amounts to is what walking it does.
--
-- Along a path the composed values, read in the store before the step, are the store that the walk has left; so a
-- composed test is true where the test is, and a path can be walked exactly where all its composed tests hold.
use Rattle.std.proofs.Common.{◌≡◌, ◌≢◌, ℕ, Bool, true, false, List, [], ◌∷◌, ◌++◌, Option, Some, None, ℤ, refl, sym, ap, ◌∙◌, subst, arith}
use Rattle.std.specs.Prelude.{◌==◌, ◌&&◌, is_some, if◌then◌else◌, option_and_then}
use Rattle.std.specs.Option.{option_map}
use Rattle.std.proofs.lemmas.Bool.Decides.{nat_tests}
use Rattle.st_linear.specs.Linear.{Linear, value, value_or, form_for, changed, replaced}
use Rattle.st_linear.proofs.Replacing.{value-replaced}
use Rattle.st_form.specs.Formula.{Formula, Situation, negation, bool_var, formulas as listed, every_truth}
use Rattle.st_form.specs.Formula as formulas
use Rattle.st_form.specs.Exchange.{exchanged, truth_for, before}
use Rattle.st_form.proofs.Truths.{truth-exchanged}
use Rattle.st_program.specs.Tree.{Term, number, truth}
use Rattle.st_program.specs.Types.{IsNoTarget}
use Rattle.st_program.specs.Groups.{Link, tested, given, Composed, nothing_composed, exchange_of, is_written, if_written, composed_term, put, put_all, signed, met, composed}
use Rattle.spl_semantics.specs.Stores.{Store, situation, holds, number_given, truth_given, assigned, is_wanted, walked}
use Rattle.spl_translation.proofs.Values.{IsBlind, BlindTerm, Plainly, put-number, put-truth}

-- read in the store before, the composed values are those of the store now
pub record Stands (c : Composed) (s now : Store) : Type 0 where
  pub numbers : (v : ℕ) → changed s.numbers c.numbers v ≡ now.numbers v
  pub truths : (here : ℕ → Bool) (v : ℕ) → formulas.truth (situation s here) (truth_for v c.truths) ≡ now.truths v

pub nothing_stands : (s : Store) → Stands nothing_composed s s
nothing_stands s = record { numbers = λ v. refl; truths = λ here v. refl }

stands_path : (c : Composed) (s now : Store) (here : ℕ → Bool) → Stands c s now → before (situation s here) (exchange_of c) ≡ situation now here
stands_path c s now here st = λ i. record { numbers = λ v. st.numbers v i; truths = λ v. st.truths here v i; located = λ l. here l }

-- a composed formula, read before, is the formula, read now
exchanged_now : (c : Composed) (s now : Store) (here : ℕ → Bool) (f g : Formula) → Stands c s now → exchanged (exchange_of c) f ≡ Some g → formulas.truth (situation s here) g ≡ formulas.truth (situation now here) f
exchanged_now c s now here f g st q =
    truth-exchanged f (situation s here) (exchange_of c) g q ∙ ap (λ z. formulas.truth z f) (stands_path c s now here st)

-- what a term becomes, and what it says
pub data Becomes (s now : Store) : Term → Term → Type 0 where
  a_number : {f g : Linear} → value s.numbers g ≡ value now.numbers f → Becomes s now (number f) (number g)
  a_truth : {f g : Formula} → ((here : ℕ → Bool) → formulas.truth (situation s here) g ≡ formulas.truth (situation now here) f) → Becomes s now (truth f) (truth g)

if_written_is : (f g : Linear) → if_written f ≡ Some g → f ≡ g
if_written_is f g q = at_test (is_written f) q
  where
    at_test : (b : Bool) → (if b then Some f else None) ≡ Some g → f ≡ g
    at_test true q = cc
    at_test false q = cc

replaced_value : (s : ℕ → ℤ) (ps : List (ℕ × Linear)) (f g : Linear) (o : Option Linear) → replaced ps f ≡ o → option_and_then if_written o ≡ Some g → value s g ≡ value (changed s ps) f
replaced_value s ps f g None q r = cc
replaced_value s ps f g (Some h) q r = ap (value s) (sym (if_written_is h g r)) ∙ value-replaced s ps f h q

becomes : (c : Composed) (s now : Store) (x y : Term) → Stands c s now → composed_term c x ≡ Some y → Becomes s now x y
becomes c s now (number f) y st q = at_form (option_and_then if_written (replaced c.numbers f)) refl q
  where
    at_form : (o : Option Linear) → option_and_then if_written (replaced c.numbers f) ≡ o → option_map number o ≡ Some y → Becomes s now (number f) y
    at_form None r q = cc
    at_form (Some g) r q =
        let is : number g ≡ y = cc in
        let same : changed s.numbers c.numbers ≡ now.numbers = λ i v. st.numbers v i in
        subst (Becomes s now (number f)) is (a_number (replaced_value s.numbers c.numbers f g (replaced c.numbers f) refl r ∙ ap (λ z. value z f) same))
becomes c s now (truth f) y st q = at_form (exchanged (exchange_of c) f) refl q
  where
    at_form : (o : Option Formula) → exchanged (exchange_of c) f ≡ o → option_map truth o ≡ Some y → Becomes s now (truth f) y
    at_form None r q = cc
    at_form (Some g) r q =
        let is : truth g ≡ y = cc in
        subst (Becomes s now (truth f)) is (a_truth (λ here. exchanged_now c s now here f g st r))

-- the values of an assignment, where the others are as given
abbrev number_or : ℕ → List (ℕ × Term) → Store → ℤ → ℤ
number_or v [] now d = d
number_or v ((w, number f) ∷ xs) now d = if w == v then value now.numbers f else number_or v xs now d
number_or v ((w, truth f) ∷ xs) now d = number_or v xs now d

abbrev truth_or : ℕ → List (ℕ × Term) → Store → Bool → Bool
truth_or v [] now d = d
truth_or v ((w, number f) ∷ xs) now d = truth_or v xs now d
truth_or v ((w, truth f) ∷ xs) now d = if w == v then holds f now else truth_or v xs now d

number_kept : (v : ℕ) (xs : List (ℕ × Term)) (now : Store) (d : ℤ) → IsNoTarget v xs → number_or v xs now d ≡ d
number_kept v [] now d h = refl
number_kept v ((w, number f) ∷ xs) now d h =
    let other : (w == v) ≡ false = let e : w ≢ v = h.0 in grind (arith, nat_tests) in
    ap (λ b. if b then value now.numbers f else number_or v xs now d) other ∙ number_kept v xs now d h.1
number_kept v ((w, truth f) ∷ xs) now d h = number_kept v xs now d h.1

truth_kept : (v : ℕ) (xs : List (ℕ × Term)) (now : Store) (d : Bool) → IsNoTarget v xs → truth_or v xs now d ≡ d
truth_kept v [] now d h = refl
truth_kept v ((w, truth f) ∷ xs) now d h =
    let other : (w == v) ≡ false = let e : w ≢ v = h.0 in grind (arith, nat_tests) in
    ap (λ b. if b then holds f now else truth_or v xs now d) other ∙ truth_kept v xs now d h.1
truth_kept v ((w, number f) ∷ xs) now d h = truth_kept v xs now d h.1

test_is : (m n : ℕ) → (m == n) ≡ true → m ≡ n
test_is m n e = grind (arith, nat_tests)

number_or-given : (xs : List (ℕ × Term)) → Plainly xs → (now : Store) (v : ℕ) → number_or v xs now (now.numbers v) ≡ number_given v xs now
number_or-given [] h now v = refl
number_or-given ((w, number f) ∷ xs) h now v = ap (λ z. if w == v then value now.numbers f else z) (number_or-given xs h.2 now v)
number_or-given ((w, truth f) ∷ xs) h now v = by_key (w == v) refl (number_or-given xs h.2 now v)
  where
    by_key : (b : Bool) → (w == v) ≡ b → number_or v xs now (now.numbers v) ≡ number_given v xs now → number_or v xs now (now.numbers v) ≡ (if b then now.numbers v else number_given v xs now)
    by_key true e rest = number_kept v xs now (now.numbers v) (subst (λ z. IsNoTarget z xs) (test_is w v e) h.0)
    by_key false e rest = rest

truth_or-given : (xs : List (ℕ × Term)) → Plainly xs → (now : Store) (v : ℕ) → truth_or v xs now (now.truths v) ≡ truth_given v xs now
truth_or-given [] h now v = refl
truth_or-given ((w, truth f) ∷ xs) h now v = ap (λ z. if w == v then holds f now else z) (truth_or-given xs h.2 now v)
truth_or-given ((w, number f) ∷ xs) h now v = by_key (w == v) refl (truth_or-given xs h.2 now v)
  where
    by_key : (b : Bool) → (w == v) ≡ b → truth_or v xs now (now.truths v) ≡ truth_given v xs now → truth_or v xs now (now.truths v) ≡ (if b then now.truths v else truth_given v xs now)
    by_key true e rest = truth_kept v xs now (now.truths v) (subst (λ z. IsNoTarget z xs) (test_is w v e) h.0)
    by_key false e rest = rest

-- what stands behind an assignment
pub record Put (s now : Store) (xs : List (ℕ × Term)) (c c' : Composed) : Type 0 where
  pub tests : c'.tests ≡ c.tests
  pub numbers : (v : ℕ) → changed s.numbers c'.numbers v ≡ number_or v xs now (changed s.numbers c.numbers v)
  pub truths : (here : ℕ → Bool) (v : ℕ) → formulas.truth (situation s here) (truth_for v c'.truths) ≡ truth_or v xs now (formulas.truth (situation s here) (truth_for v c.truths))

some_same : {X : Type 0} (x y : X) → Some x ≡ Some y → x ≡ y
some_same x y e = cc

-- one value is put, and then those of the rest
put_one : (s now : Store) (xs : List (ℕ × Term)) (c c' : Composed) (w : ℕ) (x y : Term) → IsNoTarget w xs → BlindTerm x → Becomes s now x y → Put s now xs (put w y c) c' → Put s now ((w, x) ∷ xs) c c'
put_one s now xs c c' w (number f) (number g) fresh tame (a_number e) rest = record {
  tests = rest.tests;
  numbers = λ v. rest.numbers v ∙ ap (number_or v xs now) (ap (value_or (s.numbers v) s.numbers) (put-number v w g c.numbers)) ∙ by_number v (w == v) refl;
  truths = rest.truths;
}
  where
    by_number : (v : ℕ) (b : Bool) → (w == v) ≡ b → number_or v xs now (value_or (s.numbers v) s.numbers (if b then Some g else form_for v c.numbers)) ≡ (if b then value now.numbers f else number_or v xs now (changed s.numbers c.numbers v))
    by_number v true k = number_kept v xs now _ (subst (λ z. IsNoTarget z xs) (test_is w v k) fresh) ∙ e
    by_number v false k = refl
put_one s now xs c c' w (truth f) (truth g) fresh tame (a_truth e) rest = record {
  tests = rest.tests;
  numbers = rest.numbers;
  truths = λ here v. rest.truths here v ∙ ap (truth_or v xs now) (ap (formulas.truth (situation s here)) (put-truth v w g c.truths)) ∙ by_truth here v (w == v) refl;
}
  where
    by_truth : (here : ℕ → Bool) (v : ℕ) (b : Bool) → (w == v) ≡ b → truth_or v xs now (formulas.truth (situation s here) (if b then g else truth_for v c.truths)) ≡ (if b then holds f now else truth_or v xs now (formulas.truth (situation s here) (truth_for v c.truths)))
    by_truth here v true k = truth_kept v xs now _ (subst (λ z. IsNoTarget z xs) (test_is w v k) fresh) ∙ e here ∙ tame now here (λ l. false)
    by_truth here v false k = refl
put_one s now xs c c' w (number f) (truth g) fresh tame becoming rest = elim becoming [ ]
put_one s now xs c c' w (truth f) (number g) fresh tame becoming rest = elim becoming [ ]

put_stands : (b : Composed) (s now : Store) → Stands b s now → (xs : List (ℕ × Term)) → Plainly xs → (c c' : Composed) → put_all b xs c ≡ Some c' → Put s now xs c c'
put_stands b s now st [] h c c' q =
    let same : c ≡ c' = some_same c c' q in
    subst (Put s now [] c) same record { tests = refl; numbers = λ v. refl; truths = λ here v. refl }
put_stands b s now st ((w, x) ∷ xs) h c c' q = at_term (composed_term b x) refl q (λ d r. put_stands b s now st xs h.2 d c' r)
  where
    at_term : (o : Option Term) → composed_term b x ≡ o → option_and_then (λ term. put_all b xs (put w term c)) o ≡ Some c' → ((d : Composed) → put_all b xs d ≡ Some c' → Put s now xs d c') → Put s now ((w, x) ∷ xs) c c'
    at_term None r q down = cc
    at_term (Some y) r q down = put_one s now xs c c' w x y h.0 h.1 (becomes b s now x y st r) (down (put w y c) q)

-- an assignment on a path
given_stands : (c c' : Composed) (s now : Store) (xs : List (ℕ × Term)) → Plainly xs → Stands c s now → put_all c xs c ≡ Some c' → Stands c' s (assigned xs now)
given_stands c c' s now xs h st q =
    let put_is = put_stands c s now st xs h c c' q in
    record {
      numbers = λ v. put_is.numbers v ∙ ap (number_or v xs now) (st.numbers v) ∙ number_or-given xs h now v;
      truths = λ here v. put_is.truths here v ∙ ap (truth_or v xs now) (st.truths here v) ∙ truth_or-given xs h now v;
    }

-- the tests of a path don't look at locations, and its assignments are plain
abbrev pub PlainLink : Link → Type 0
PlainLink (tested f b) = IsBlind f
PlainLink (given xs) = Plainly xs

abbrev pub PlainPath : List Link → Type 0
PlainPath [] = Unit {0}
PlainPath (link ∷ path) = PlainLink link × PlainPath path

tests-append : (s : Situation) (fs : List Formula) (f : Formula) → every_truth s (listed (fs ++ f ∷ [])) ≡ (every_truth s (listed fs) && formulas.truth s f)
tests-append s [] f = with_true (formulas.truth s f)
  where
    with_true : (b : Bool) → (b && true) ≡ b
    with_true true = refl
    with_true false = refl
tests-append s (g ∷ fs) f = ap (λ z. formulas.truth s g && z) (tests-append s fs f) ∙ regroup (formulas.truth s g) (every_truth s (listed fs)) (formulas.truth s f)
  where
    regroup : (a b c : Bool) → (a && (b && c)) ≡ ((a && b) && c)
    regroup true b c = refl
    regroup false b c = refl

signed_truth : (s : Situation) (b : Bool) (f : Formula) → formulas.truth s (signed b f) ≡ is_wanted b (formulas.truth s f)
signed_truth s true f = refl
signed_truth s false f = refl

-- where the composed tests hold, the path can be walked, and then its composed values stand
pub record Amounts (s : Store) (path : List Link) (now : Store) (c c' : Composed) : Type 0 where
  pub walks : (here : ℕ → Bool) → every_truth (situation s here) (listed c'.tests) ≡ (every_truth (situation s here) (listed c.tests) && is_some (walked path now))
  pub stands : (t : Store) → walked path now ≡ Some t → Stands c' s t

pub amounts : (path : List Link) → PlainPath path → (s now : Store) (c c' : Composed) → Stands c s now → composed path c ≡ Some c' → Amounts s path now c c'
amounts [] h s now c c' st q =
    let same : c ≡ c' = some_same c c' q in
    subst (Amounts s [] now c) same record {
      walks = λ here. with_true (every_truth (situation s here) (listed c.tests));
      stands = λ t e. (let is : now ≡ t = some_same now t e in subst (Stands c s) is st);
    }
  where
    with_true : (b : Bool) → b ≡ (b && true)
    with_true true = refl
    with_true false = refl
amounts (given xs ∷ path) h s now c c' st q = at_put (put_all c xs c) refl q (λ d e r. amounts path h.1 s (assigned xs now) d c' e r)
  where
    at_put : (o : Option Composed) → put_all c xs c ≡ o → option_and_then (composed path) o ≡ Some c' → ((d : Composed) → Stands d s (assigned xs now) → composed path d ≡ Some c' → Amounts s path (assigned xs now) d c') → Amounts s (given xs ∷ path) now c c'
    at_put None r q down = cc
    at_put (Some d) r q down =
        let rest = down d (given_stands c d s now xs h.0 st r) q in
        let tests = (put_stands c s now st xs h.0 c d r).tests in
        record {
          walks = λ here. rest.walks here ∙ ap (λ z. every_truth (situation s here) (listed z) && is_some (walked path (assigned xs now))) tests;
          stands = rest.stands;
        }
amounts (tested f b ∷ path) h s now c c' st q = at_test (exchanged (exchange_of c) f) refl q (λ d e r. amounts path h.1 s now d c' e r)
  where
    at_test : (o : Option Formula) → exchanged (exchange_of c) f ≡ o → option_and_then (composed path) (option_map (λ g. met (signed b g) c) o) ≡ Some c' → ((d : Composed) → Stands d s now → composed path d ≡ Some c' → Amounts s path now d c') → Amounts s (tested f b ∷ path) now c c'
    at_test None r q down = cc
    at_test (Some g) r q down =
        let d = met (signed b g) c in
        let rest = down d (record { numbers = st.numbers; truths = st.truths }) q in
        let wanted : (here : ℕ → Bool) → formulas.truth (situation s here) (signed b g) ≡ is_wanted b (holds f now) = λ here.
        signed_truth (situation s here) b g ∙ ap (is_wanted b) (exchanged_now c s now here f g st r ∙ h.0 now here (λ l. false)) in
        record {
          walks = λ here.
              rest.walks here
              ∙ ap (λ z. z && is_some (walked path now)) (tests-append (situation s here) c.tests (signed b g) ∙ ap (λ z. every_truth (situation s here) (listed c.tests) && z) (wanted here))
              ∙ by_wanted (every_truth (situation s here) (listed c.tests)) (is_wanted b (holds f now));
          stands = λ t e. stands_if (is_wanted b (holds f now)) t e rest;
        }
      where
        by_wanted : (a w : Bool) → ((a && w) && is_some (walked path now)) ≡ (a && is_some (if w then walked path now else None))
        by_wanted true true = refl
        by_wanted true false = refl
        by_wanted false true = refl
        by_wanted false false = refl

        stands_if : (w : Bool) (t : Store) → (if w then walked path now else None) ≡ Some t → Amounts s path now (met (signed b g) c) c' → Stands c' s t
        stands_if true t e rest = rest.stands t e
        stands_if false t e rest = cc
