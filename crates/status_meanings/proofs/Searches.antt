-- How a search ends over conditions.
use Rattle.std.proofs.Common.{◌≡◌, ℕ, ◌+◌, ◌<◌, ◌≤◌, Bool, true, false, cond, nat_lt, List, [], ◌∷◌, ◌++◌, length, refl, sym, ap, ◌∙◌, subst, arith}
use Rattle.std.specs.Prelude.{Option, Some, None}
use Rattle.std.proofs.lemmas.Bool.Decides.{nat_tests}
use Rattle.st_tokens.specs.declared.limit.LimitKind.TheVariants as limits
use Rattle.st_form.specs.Condition.{Implication}
use Rattle.st_certificate.specs.Tree.{Tree}
use Rattle.farkas_check.specs.Problem.{Setting}
use Rattle.search_laws.specs.Moves.{Verdict, valid, open_at, wide_at, decided}
use Rattle.equation_laws.specs.Equations.{PlainEquation, found}
use Rattle.spl_typer.specs.Programs.{Typed}
use Rattle.step_report.specs.Goals.{certificates_text}
use Rattle.step_plan.specs.declared.status.Status.TheVariants.{Proved}
use Rattle.step_plan.specs.Limits.{limited}
use Rattle.step_plan.specs.Outcome.{Outcome}
use Rattle.step_run.specs.Conditions.{Posed, system_of, setting_of}
use Rattle.step_run.specs.Verified.{Verified, all_found, left_open, given_up, found_before, by_verdict, verdict_on, verified_from, search_ended, searched, certificates}
use Rattle.step_run.specs.Invariants.{looked_for, invariants_of}
use Rattle.step_run.specs.WellFormed.{AreFound}
use Rattle.status_meanings.specs.Ends.{IsFirstOpen, SearchGoes, leaves_open, gives_up, finds_all, WritesGo, writes, writes_none, FindsGo, finds_none, finds_these}

verdict_is : (k : Setting) (c : Implication) (v : Verdict) → decided k c.given c.shown ≡ v → verdict_on k c ≡ v
unfolding verdict_on
verdict_is k c v is = is

module _ (k : Setting) where
  abbrev Judged : ℕ → List Implication → Verified → Type 0
  Judged n cs (all_found ts) = AreFound k cs ts
  Judged n cs (left_open m c path state) = IsFirstOpen k n cs m c (open_at path state)
  Judged n cs (given_up m c path stage) = IsFirstOpen k n cs m c (wide_at path stage)

  later : (n : ℕ) (c : Implication) (cs : List Implication) (t : Tree) (m : ℕ) (d : Implication) (v : Verdict) → decided k c.given c.shown ≡ valid t → IsFirstOpen k (n + 1) cs m d v → IsFirstOpen k n (c ∷ cs) m d v
  later n c cs t m d v is h = record {
    before = c ∷ h.before;
    further = h.further;
    are = ap (λ l. c ∷ l) h.are;
    number = (let e = h.number in omega (arith, e));
    trees = t ∷ h.trees;
    valid = (is, h.valid);
    verdict = h.verdict;
  }

  first_here : (n : ℕ) (c : Implication) (cs : List Implication) (v : Verdict) → decided k c.given c.shown ≡ v → IsFirstOpen k n (c ∷ cs) n c v
  first_here n c cs v is = record { before = []; further = cs; are = refl; number = omega arith; trees = []; valid = refl; verdict = is }

  by_decision : (n : ℕ) (c : Implication) (cs : List Implication) (v : Verdict) → decided k c.given c.shown ≡ v → (r : Verified) → Judged (n + 1) cs r → Judged n (c ∷ cs) (by_verdict n c r v)
  by_decision n c cs (valid t) is (all_found ts) j = (is, j)
  by_decision n c cs (valid t) is (left_open m d path state) j = later n c cs t m d (open_at path state) is j
  by_decision n c cs (valid t) is (given_up m d path stage) j = later n c cs t m d (wide_at path stage) is j
  by_decision n c cs (open_at path state) is r j = first_here n c cs (open_at path state) is
  by_decision n c cs (wide_at path stage) is r j = first_here n c cs (wide_at path stage) is

  judged : (n : ℕ) (cs : List Implication) → Judged n cs (verified_from k n cs)
  judged n [] = refl
  judged n (c ∷ cs) =
      subst (λ (v : Verdict). Judged n (c ∷ cs) (by_verdict n c (verified_from k (n + 1) cs) v)) (sym (verdict_is k c (decided k c.given c.shown) refl))
      (by_decision n c cs (decided k c.given c.shown) refl (verified_from k (n + 1) cs) (judged (n + 1) cs))

  all_is : (n : ℕ) (cs : List Implication) (ts : List Tree) → AreFound k cs ts → verified_from k n cs ≡ all_found ts
  all_is n [] ts f = ap all_found (sym f)
  all_is n (c ∷ cs) [] f = absurd f
  all_is n (c ∷ cs) (t ∷ ts) f = ap (by_verdict n c (verified_from k (n + 1) cs)) (verdict_is k c (valid t) f.0) ∙ ap (found_before t) (all_is (n + 1) cs ts f.1)

  -- what a verdict that isn't valid makes of a condition
  abbrev stopped : ℕ → Implication → Verdict → Verified
  stopped m c (valid t) = all_found []
  stopped m c (open_at path state) = left_open m c path state
  stopped m c (wide_at path stage) = given_up m c path stage

  abbrev IsNotValid : Verdict → Type 0
  IsNotValid (valid t) = ⊥
  IsNotValid (open_at path state) = Unit {0}
  IsNotValid (wide_at path stage) = Unit {0}

  stops_there : (n : ℕ) (c : Implication) (more : Verified) (v : Verdict) → IsNotValid v → by_verdict n c more v ≡ stopped n c v
  stops_there n c more (valid t) not = absurd not
  stops_there n c more (open_at path state) not = refl
  stops_there n c more (wide_at path stage) not = refl

  stays : (t : Tree) (m : ℕ) (c : Implication) (v : Verdict) → IsNotValid v → found_before t (stopped m c v) ≡ stopped m c v
  stays t m c (valid s) not = absurd not
  stays t m c (open_at path state) not = refl
  stays t m c (wide_at path stage) not = refl

  stopped_at : (n : ℕ) (before : List Implication) (c : Implication) (further : List Implication) (ts : List Tree) (v : Verdict) → IsNotValid v → AreFound k before ts → decided k c.given c.shown ≡ v
      → verified_from k n (before ++ c ∷ further) ≡ stopped (n + length before) c v
  stopped_at n [] c further ts v not f is =
      let size : n ≡ n + length {A = Implication} [] = omega arith in
      ap (by_verdict n c (verified_from k (n + 1) further)) (verdict_is k c v is) ∙ stops_there n c (verified_from k (n + 1) further) v not ∙ ap (λ m. stopped m c v) size
  stopped_at n (d ∷ before) c further [] v not f is = absurd f
  stopped_at n (d ∷ before) c further (t ∷ ts) v not f is =
      let size : n + 1 + length before ≡ n + length (d ∷ before) = omega arith in
      ap (by_verdict n d (verified_from k (n + 1) (before ++ c ∷ further))) (verdict_is k d (valid t) f.0) ∙ ap (found_before t) (stopped_at (n + 1) before c further ts v not f.1 is)
      ∙ stays t (n + 1 + length before) c v not ∙ ap (λ m. stopped m c v) size

  first_is : (n : ℕ) (cs : List Implication) (m : ℕ) (c : Implication) (v : Verdict) → IsNotValid v → IsFirstOpen k n cs m c v → verified_from k n cs ≡ stopped m c v
  first_is n cs m c v not f = ap (verified_from k n) f.are ∙ stopped_at n f.before c f.further f.trees v not f.valid f.verdict ∙ ap (λ i. stopped i c v) (sym f.number)

module _ (x : Posed) (all : List Tree → Outcome) (Next : List Tree → Outcome → Type 0) where
  searched_is : (r : Verified) → verified_from (setting_of x.program) 1 x.conditions ≡ r → searched x all ≡ search_ended x all r
  unfolding searched
  searched_is r is = ap (search_ended x all) is

  by_found : ((ts : List Tree) → Next ts (all ts)) → (r : Verified) → Judged (setting_of x.program) 1 x.conditions r → SearchGoes x Next (search_ended x all r)
  by_found behind (all_found ts) j = finds_all ts (all ts) j (behind ts)
  by_found behind (left_open n c path state) j = leaves_open n c path state j
  by_found behind (given_up n c path stage) j = gives_up n c path stage j

  pub search_to : ((ts : List Tree) → Next ts (all ts)) → (o : Outcome) → searched x all ≡ o → SearchGoes x Next o
  search_to behind o e =
      let r = verified_from (setting_of x.program) 1 x.conditions in
      subst (SearchGoes x Next) (sym (searched_is r refl) ∙ e) (by_found behind r (judged (setting_of x.program) 1 x.conditions))

  pub search_from : ((ts : List Tree) (o : Outcome) → Next ts o → all ts ≡ o) → (o : Outcome) → SearchGoes x Next o → searched x all ≡ o
  search_from behind o (leaves_open n c path state f) = searched_is (left_open n c path state) (first_is (setting_of x.program) 1 x.conditions n c (open_at path state) tt f)
  search_from behind o (gives_up n c path stage f) = searched_is (given_up n c path stage) (first_is (setting_of x.program) 1 x.conditions n c (wide_at path stage) tt f)
  search_from behind o (finds_all ts q f n) = searched_is (all_found ts) (all_is (setting_of x.program) 1 x.conditions ts f) ∙ behind ts q n

-- WHAT IS WRITTEN
past : (n m : ℕ) → nat_lt n m ≡ true → n < m
past n m e = grind (arith, nat_tests)

within : (n m : ℕ) → nat_lt n m ≡ false → m ≤ n
within n m e = grind (arith, nat_tests)

is_past : (n m : ℕ) → n < m → nat_lt n m ≡ true
is_past n m h = grind (arith, nat_tests)

is_within : (n m : ℕ) → m ≤ n → nat_lt n m ≡ false
is_within n m h = grind (arith, nat_tests)

abbrev by_size : List Tree → Bool → Outcome
by_size ts b = cond b (limited limits.Certificates) (record { status = Proved; text = certificates_text ts })

pub writes_to : (ts : List Tree) → WritesGo ts (certificates ts)
writes_to ts = by (nat_lt 268435456 (length (certificates_text ts))) refl
  where
    by : (b : Bool) → nat_lt 268435456 (length (certificates_text ts)) ≡ b → WritesGo ts (by_size ts b)
    by true e = writes_none (past 268435456 (length (certificates_text ts)) e)
    by false e = writes (within 268435456 (length (certificates_text ts)) e)

pub writes_from : (ts : List Tree) (o : Outcome) → WritesGo ts o → certificates ts ≡ o
writes_from ts o (writes short) = ap (by_size ts) (is_within 268435456 (length (certificates_text ts)) short)
writes_from ts o (writes_none long) = ap (by_size ts) (is_past 268435456 (length (certificates_text ts)) long)

-- WHAT IS FOUND
invariants_are : (p : Typed) (r : Option (List PlainEquation)) → found (system_of p) ≡ r → invariants_of p ≡ looked_for p r
unfolding invariants_of
invariants_are p r is = ap (looked_for p) is

by_equations : (p : Typed) (r : Option (List PlainEquation)) → found (system_of p) ≡ r → FindsGo p (looked_for p r)
by_equations p None is = finds_none is
by_equations p (Some es) is = finds_these es is

pub finds_to : (p : Typed) (o : Outcome) → invariants_of p ≡ o → FindsGo p o
finds_to p o e = subst (FindsGo p) (sym (invariants_are p (found (system_of p)) refl) ∙ e) (by_equations p (found (system_of p)) refl)

pub finds_from : (p : Typed) (o : Outcome) → FindsGo p o → invariants_of p ≡ o
finds_from p o (finds_none is) = invariants_are p None is
finds_from p o (finds_these es is) = invariants_are p (Some es) is
