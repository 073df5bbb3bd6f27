-- The formula of an equation is printable where it is short and its locations have labels.
use Rattle.std.proofs.Common.{◌≡◌, ℕ, zero, suc, ◌+◌, ◌<◌, ◌≤◌, ◌^◌, nat_le, Bool, true, false, cond, ◌&&◌, List, [], ◌∷◌, ◌++◌, length, map, refl, subst, arith, Option, Some, None, ℤ, pos, negsuc, ◌+ℤ◌, unsigned_abs}
use Rattle.std.specs.Prelude.{◌==◌, filter, flat_map, slice_get, slice_index_or, is_some}
use Rattle.std.specs.Option.{option_map}
use Rattle.std.specs.Ordering.{int_eq}
use Rattle.std.proofs.lemmas.Bool.Decides.{nat_tests}
use Rattle.st_linear.specs.Linear.{is_within, is_small}
use Rattle.st_form.specs.Formula.{Formula, equal, at, negation, formulas, atoms}
use Rattle.st_form.specs.Simple.{closed}
use Rattle.st_program.specs.Names.{Names, label_of}
use Rattle.st_program.specs.Groups.{is_written_number, are_written}
use Rattle.control_states.specs.Control.{ControlFacts}
use Rattle.matrix_rows.specs.Rows.{IsKept}
use Rattle.equation_laws.specs.Equations.{PlainEquation}
use Rattle.equation_forms.specs.Formulas.{Terms, terms_of, with_terms, groups, classes, whereabouts, choices, case_of, groups_of, formula_of, is_slight, are_slight, cases_slight, is_short}
use Rattle.equation_writer.specs.Sentences.{are_labelled}
use Rattle.list_laws.specs.Each.{Each}
use Rattle.list_laws.proofs.Eachs.{each_append, each_mapped, each_filtered}
use Rattle.declared_names.specs.Words.{AreNames}
use Rattle.printed_formulas.specs.Printable.{IsNamed, IsPlace, AreNumbers, IsPrintableSum, IsPrintable, ArePrintable}
use Rattle.printed_formulas.specs.Theorems.{AreIntegers, ShortFormulasArePrintable}
use Rattle.printed_formulas.proofs.Atoms.{writable}
use Rattle.printed_formulas.proofs.Formulas.{weaker}
use Rattle.printed_formulas.proofs.Named.{is_named, is_place}

each-flat : {A B : Type 0} (Q : B → Type 0) (f : A → List B) → ((x : A) → Each Q (f x)) → (xs : List A) → Each Q (flat_map f xs)
each-flat Q f go [] = tt
each-flat Q f go (x ∷ xs) = each_append Q (f x) (flat_map f xs) (go x) (each-flat Q f go xs)

both : (a b : Bool) → (a && b) ≡ true → (a ≡ true) × (b ≡ true)
both true b h = (refl, h)
both false b h = absurd cc

-- numbers of texts
slight-size : (c : ℤ) → is_slight c ≡ true → unsigned_abs c ≤ 2 ^ 30
slight-size c h = grind (arith, nat_tests, h)

slight-small : (c : ℤ) → is_slight c ≡ true → is_small c ≡ true
unfolding is_within
slight-small c h = let le = slight-size c h in let less : unsigned_abs c < 2 ^ 100 = omega (arith, le) in grind (arith, nat_tests, less)

slight-written : (c : ℤ) → is_slight c ≡ true → is_written_number c ≡ true
unfolding is_written_number
slight-written c h = h

all-written : (es : List (ℕ × ℤ)) → are_slight es ≡ true → are_written es ≡ true
all-written [] h = refl
all-written (e ∷ es) h = let p = both (is_slight e.1) (are_slight es) h in rw (slight-written e.1 p.0, all-written es p.1) refl

module _ (t : Names) where
  abbrev P : ℕ → Formula → Type 0
  P n f = IsPrintable t n f

  as_printable : (n : ℕ) (fs : List Formula) → Each (P n) fs → ArePrintable t n (formulas fs)
  as_printable n [] h = tt
  as_printable n (f ∷ fs) h = (h.0, as_printable n fs h.1)

  closed-printable : (b : Bool) (n : ℕ) (fs : List Formula) → Each (P n) fs → P (suc n) (closed b (formulas fs))
  closed-printable b n [] h = tt
  closed-printable b n (f ∷ []) h = weaker t n f h.0
  closed-printable true n (f ∷ g ∷ fs) h = (tt, as_printable n (f ∷ g ∷ fs) h)
  closed-printable false n (f ∷ g ∷ fs) h = (tt, as_printable n (f ∷ g ∷ fs) h)

  lift : (k n : ℕ) (f : Formula) → P n f → P (k + n) f
  lift zero n f h = let e : n ≡ 0 + n = omega arith in subst (λ (m : ℕ). P m f) e h
  lift (suc k) n f h = let e : suc (k + n) ≡ suc k + n = omega arith in subst (λ (m : ℕ). P m f) e (weaker t (k + n) f (lift k n f h))

  -- where control is
  abbrev Placed : ℕ × ℤ → Type 0
  Placed x = IsPlace t x.0

  all-placed : AreNames t → (ts : Terms) → are_labelled t ts ≡ true → Each Placed ts
  all-placed names [] h = tt
  all-placed names (x ∷ ts) h = let p = both (is_some (label_of x.0 t.labels)) (are_labelled t ts) h in (is_place t x.0 names p.0, all-placed names ts p.1)

  nowhere : (ts : Terms) → Each Placed ts → Each (P 2) (map (λ x. negation (at x.0)) ts)
  nowhere ts h = each_mapped Placed (P 2) (λ (x : ℕ × ℤ). negation (at x.0)) (λ x p. p) ts h

  somewhere : (ts : Terms) (k : ℤ) → Each Placed ts → P 2 (closed false (formulas (map (λ x. at x.0) (filter (λ x. int_eq x.1 k) ts))))
  somewhere ts k h =
      closed-printable false 1 (map (λ x. at x.0) (filter (λ x. int_eq x.1 k) ts))
      (each_mapped Placed (P 1) (λ (x : ℕ × ℤ). at x.0) (λ x p. p) (filter (λ x. int_eq x.1 k) ts) (each_filtered Placed (λ x. int_eq x.1 k) ts h))

  whereabouts-printable : (ts : Terms) (k : ℤ) → Each Placed ts → Each (P 2) (whereabouts ts k)
  whereabouts-printable ts (pos zero) h = nowhere ts h
  whereabouts-printable ts (pos (suc n)) h = (somewhere ts (pos (suc n)) h, tt)
  whereabouts-printable ts (negsuc n) h = (somewhere ts (negsuc n) h, tt)

  with-placed : (ts : Terms) (rest : List Terms) → Each Placed ts → Each (Each Placed) rest → Each (Each Placed) (with_terms ts rest)
  with-placed [] rest h k = k
  with-placed (x ∷ ts) rest h k = (h, k)

  groups-placed : (owners : List ℕ) (ts : Terms) (m c : ℕ) → Each Placed ts → Each (Each Placed) (groups owners ts m c)
  groups-placed owners ts zero c h = tt
  groups-placed owners ts (suc m) c h = with-placed (terms_of owners c ts) (groups owners ts m (c + 1)) (each_filtered Placed (λ (x : ℕ × ℤ). c == slice_index_or owners x.0 0) ts h) (groups-placed owners ts m (c + 1) h)

  -- the cases
  abbrev CasePrintable : List Formula × ℤ → Type 0
  CasePrintable x = Each (P 2) x.0

  choices-printable : (gs : List Terms) → Each (Each Placed) gs → Each CasePrintable (choices gs)
  choices-printable [] h = (tt, tt)
  choices-printable (ts ∷ gs) h =
      let rest = choices-printable gs h.1 in
      each-flat CasePrintable (λ (k : ℤ). map (λ (x : List Formula × ℤ). (whereabouts ts k ++ x.0, k +ℤ x.1)) (choices gs))
      (λ k. each_mapped CasePrintable CasePrintable (λ (x : List Formula × ℤ). (whereabouts ts k ++ x.0, k +ℤ x.1)) (λ x p. each_append (P 2) (whereabouts ts k) x.0 (whereabouts-printable ts k h.0) p) (choices gs) rest) (classes ts)

  -- integer variables
  numbers-named : AreNames t → (es : List (ℕ × ℤ)) → AreIntegers t es → AreNumbers t es
  numbers-named names [] h = tt
  numbers-named names (e ∷ es) h = (by (slice_get t.variables e.0) refl h.0, numbers-named names es h.1)
    where
      by : (o : Option (List ℕ × Bool)) → slice_get t.variables e.0 ≡ o → option_map (λ (x : List ℕ × Bool). x.1) o ≡ Some false → IsNamed t e.0 false
      by None i k = absurd cc
      by (Some x) i k = let number : x.1 ≡ false = cc in subst (λ (b : Bool). IsNamed t e.0 b) number (is_named t e.0 x names i)

  module _ (e : PlainEquation) (names : AreNames t) (integers : AreIntegers t e.numbers) (kept : IsKept e.numbers) where
    sum-printable : (c : ℤ) → is_slight c ≡ true → are_slight e.numbers ≡ true → IsPrintableSum t (record { constant = c; entries = e.numbers })
    sum-printable c s es = record {
      linear = record { constant_small = slight-small c s; entries_small = kept.small; entries = kept.entries };
      written = writable c e.numbers (slight-written c s) (all-written e.numbers es);
      named = numbers-named names e.numbers integers;
    }

    cases-printable : (xs : List (List Formula × ℤ)) → Each CasePrintable xs → cases_slight e xs ≡ true → Each (P 3) (map (case_of e) xs)
    cases-printable [] h s = tt
    cases-printable (x ∷ xs) h s =
        let p = both (is_slight (e.constant +ℤ x.1) && are_slight e.numbers) (cases_slight e xs) s in
        let q = both (is_slight (e.constant +ℤ x.1)) (are_slight e.numbers) p.0 in (
          closed-printable true 2 (x.0 ++ equal (record { constant = e.constant +ℤ x.1; entries = e.numbers }) ∷ [])
              (each_append (P 2) x.0 (equal (record { constant = e.constant +ℤ x.1; entries = e.numbers }) ∷ []) h.0 (sum-printable (e.constant +ℤ x.1) q.0 q.1, tt)),
          cases-printable xs h.1 p.1,
        )

    whole : (k : ControlFacts) → are_labelled t e.places ≡ true → is_short k e ≡ true → P 4 (formula_of k e)
    whole k labelled short =
        let p = both (nat_le (length (choices (groups_of k e))) 64) (nat_le (atoms (formula_of k e)) 1024 && cases_slight e (choices (groups_of k e))) short in
        let q = both (nat_le (atoms (formula_of k e)) 1024) (cases_slight e (choices (groups_of k e))) p.1 in
        closed-printable false 3 (map (case_of e) (choices (groups_of k e)))
        (cases-printable (choices (groups_of k e)) (choices-printable (groups_of k e) (groups-placed k.owners e.places (length k.components) 0 (all-placed names e.places labelled))) q.1)

pub short_formulas_are_printable : ShortFormulasArePrintable
short_formulas_are_printable t k e names integers kept labelled short = lift t 28 4 (formula_of k e) (whole t e names integers kept k labelled short)
