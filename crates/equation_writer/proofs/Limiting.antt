-- Where the limits are passed, and where they aren't.
use Rattle.std.proofs.Common.{◌≡◌, ◌≢◌, ℕ, zero, suc, ◌+◌, ◌-◌, ◌*◌, ◌^◌, ◌<◌, ◌≤◌, Bool, true, false, ◌&&◌, Some, None, List, [], ◌∷◌, length, map, drop, get_or, refl, sym, ap, ◌∙◌, subst, arith, ℤ, pos, negsuc, ◌+ℤ◌}
use Rattle.std.specs.declared.vec.Vec.{Vec}
use Rattle.std.specs.declared.alloc.Global.{Global}
use Rattle.std.specs.Prelude.{nat_le, filter, unsigned_abs}
use Rattle.std.specs.Ordering.{int_eq}
use Rattle.std.proofs.lemmas.Bool.Decides.{nat_tests}
use Rattle.std.proofs.lemmas.List.{drop_more, drop-map}
use Rattle.std.proofs.lemmas.Nat.{mul-le}
use Rattle.st_linear.specs.Linear.{is_within, is_small, rise_from, of_entries}
use Rattle.st_form.specs.Formula.{Formula, formulas, at, atoms}
use Rattle.st_form.specs.Simple.{closed}
use Rattle.control_states.specs.Control.{ControlFacts}
use Rattle.matrix_rows.specs.Rows.{IsKept}
use Rattle.matrix_rows.proofs.Kept.{kept-made, zero-within}
use Rattle.equation_laws.specs.Equations.{PlainEquation}
use Rattle.equation_forms.specs.Formulas.{Terms, classes, whereabouts, choices, case_of, groups_of, formula_of, is_slight, are_slight, cases_slight, is_short, short_formula}
use Rattle.equation_writer.specs.Plain.{plain_terms}
use Rattle.equation_writer.specs.Sizes.{classes_atoms, case_count, atom_count, are_few}
use Rattle.equation_writer.specs.Sums.{AreModest, IsGroup, AreGroups}
use Rattle.equation_writer.proofs.Counting.{count-grows, atoms-grow, choices-count, formula-atoms}
use Rattle.equation_writer.proofs.Casing.{both, modest, groups-drop}

abbrev Vecs : Type 0
Vecs = List (Vec (ℕ × ℤ) Global)

-- the component in front of the last ones
pub at-left : (vs : Vecs) (l : ℕ) (v : Vec (ℕ × ℤ) Global) → 0 < l → l ≤ length vs → v ≡ get_or vs (l - 1) v → plain_terms (drop (l - 1) vs) ≡ v.items ∷ plain_terms (drop l vs)
at-left vs l v some le is =
    let next : l - 1 + 1 ≡ l = omega arith in
    ap plain_terms (drop_more vs (l - 1) v (omega arith))
    ∙ ap (λ (w : Vec (ℕ × ℤ) Global). w.items ∷ plain_terms (drop (l - 1 + 1) vs)) (sym is)
    ∙ ap (λ (n : ℕ). v.items ∷ plain_terms (drop n vs)) next

count-some : (gs : List Terms) → 0 < case_count gs
count-some [] = omega arith
count-some (ts ∷ gs) = omega (arith, count-some gs)

times-grows : (n x : ℕ) → 0 < x → n ≤ n * x
times-grows n x h = omega (arith, mul-le n 1 n x (omega arith) (omega arith))

-- too many cases, or atoms, among the last components
not-few-cases : (gs : List Terms) → 64 < case_count gs → are_few gs ≡ false
not-few-cases gs h = let t : nat_le (case_count gs) 64 ≡ false = grind (arith, nat_tests) in rw t refl

and-false : (a : Bool) → (a && false) ≡ false
and-false true = refl
and-false false = refl

not-few-atoms : (gs : List Terms) → 1024 < atom_count gs → are_few gs ≡ false
not-few-atoms gs h = let t : nat_le (atom_count gs) 1024 ≡ false = grind (arith, nat_tests) in rw t (and-false (nat_le (case_count gs) 64))

few-both : (gs : List Terms) → case_count gs ≤ 64 → atom_count gs ≤ 1024 → are_few gs ≡ true
few-both gs a b =
    let t : nat_le (case_count gs) 64 ≡ true = grind (arith, nat_tests) in
    let u : nat_le (atom_count gs) 1024 ≡ true = grind (arith, nat_tests) in
    rw (t, u) refl

few-cases : (gs : List Terms) → are_few gs ≡ true → case_count gs ≤ 64
few-cases gs h = let p = both (nat_le (case_count gs) 64) (nat_le (atom_count gs) 1024) h in let t = p.0 in grind (arith, nat_tests)

module _ (vs : Vecs) (l : ℕ) (v : Vec (ℕ × ℤ) Global) (some : 0 < l) (le : l ≤ length vs) (is : v ≡ get_or vs (l - 1) v) where
  count-left : case_count (plain_terms (drop (l - 1) vs)) ≡ length (classes v.items) * case_count (plain_terms (drop l vs))
  count-left = ap case_count (at-left vs l v some le is)

  atoms-left : atom_count (plain_terms (drop (l - 1) vs)) ≡ case_count (plain_terms (drop l vs)) * classes_atoms v.items (classes v.items) + length (classes v.items) * atom_count (plain_terms (drop l vs))
  atoms-left = ap atom_count (at-left vs l v some le is)

  left-is : plain_terms (drop (l - 1) vs) ≡ drop (l - 1) (plain_terms vs)
  left-is = sym (drop-map (λ (w : Vec (ℕ × ℤ) Global). w.items) (l - 1) vs)

  pub many-classes : 64 < length (classes v.items) → false ≡ are_few (plain_terms vs)
  many-classes h =
      let more : length (classes v.items) ≤ length (classes v.items) * case_count (plain_terms (drop l vs)) = times-grows (length (classes v.items)) (case_count (plain_terms (drop l vs))) (count-some (plain_terms (drop l vs))) in
      let many : 64 < case_count (drop (l - 1) (plain_terms vs)) = omega (arith, h, more, count-left, ap case_count left-is) in
      sym (not-few-cases (plain_terms vs) (omega (arith, many, count-grows (l - 1) (plain_terms vs))))

  module _ (cases atoms count sum : ℕ) (cases-are : cases ≡ case_count (plain_terms (drop l vs))) (atoms-are : atoms ≡ atom_count (plain_terms (drop l vs))) (count-is : count ≡ length (classes v.items))
      (sum-is : sum ≡ classes_atoms v.items (classes v.items)) where
    pub cases-now : cases * count ≡ case_count (plain_terms (drop (l - 1) vs))
    cases-now = rw (cases-are, count-is) (omega (arith, count-left))

    pub atoms-now : cases * sum + count * atoms ≡ atom_count (plain_terms (drop (l - 1) vs))
    atoms-now = rw (cases-are, atoms-are, count-is, sum-is) (sym atoms-left)

    pub many-cases : 64 < cases * count → false ≡ are_few (plain_terms vs)
    many-cases h = sym (not-few-cases (plain_terms vs) (omega (arith, cases-now, ap case_count left-is, count-grows (l - 1) (plain_terms vs))))

    pub many-atoms : 1024 < cases * sum + count * atoms → false ≡ are_few (plain_terms vs)
    many-atoms h = sym (not-few-atoms (plain_terms vs) (omega (arith, atoms-now, ap atom_count left-is, atoms-grow (l - 1) (plain_terms vs))))

-- the components that are left are few, and what they add is small
pub modest-left : (vs : Vecs) (k : ℕ) → AreGroups (plain_terms vs) → are_few (plain_terms vs) ≡ true → AreModest (choices (plain_terms (drop k vs)))
modest-left vs k groups few =
    let e : drop k (plain_terms vs) ≡ plain_terms (drop k vs) = drop-map (λ (w : Vec (ℕ × ℤ) Global). w.items) k vs in
    subst (λ (gs : List Terms). AreModest (choices gs)) e
    (modest (drop k (plain_terms vs)) (groups-drop k (plain_terms vs) groups) (omega (arith, count-grows k (plain_terms vs), few-cases (plain_terms vs) few)))

pub all-modest-of : (vs : Vecs) → AreGroups (plain_terms vs) → are_few (plain_terms vs) ≡ true → AreModest (choices (plain_terms vs))
all-modest-of vs groups few = modest-left vs 0 groups few

pub group-at : (vs : Vecs) (i : ℕ) (v : Vec (ℕ × ℤ) Global) → i < length vs → v ≡ get_or vs i v → AreGroups (plain_terms vs) → IsGroup v.items
group-at [] i v l is h = absurd (omega arith)
group-at (w ∷ vs) zero v l is h = subst (λ (x : Vec (ℕ × ℤ) Global). IsGroup x.items) (sym is) h.0
group-at (w ∷ vs) (suc i) v l is h = group-at vs i v (omega arith) is h.1

-- where control is in a class that isn't 0
pub other-whereabouts : (ts : Terms) (k : ℤ) → k ≢ pos 0 → whereabouts ts k ≡ closed false (formulas (map (λ t. at t.0) (filter (λ t. int_eq t.1 k) ts))) ∷ []
other-whereabouts ts (pos zero) n = absurd (n refl)
other-whereabouts ts (pos (suc m)) n = refl
other-whereabouts ts (negsuc m) n = refl

-- the limits of a formula
and-assoc : (a b c : Bool) → (a && (b && c)) ≡ ((a && b) && c)
and-assoc true b c = refl
and-assoc false b c = refl

short-is : (k : ControlFacts) (e : PlainEquation) → is_short k e ≡ (are_few (groups_of k e) && cases_slight e (choices (groups_of k e)))
short-is k e =
    ap (λ (n : ℕ). nat_le n 64 && (nat_le (atoms (formula_of k e)) 1024 && cases_slight e (choices (groups_of k e)))) (choices-count (groups_of k e))
    ∙ ap (λ (n : ℕ). nat_le (case_count (groups_of k e)) 64 && (nat_le n 1024 && cases_slight e (choices (groups_of k e)))) (formula-atoms k e)
    ∙ and-assoc (nat_le (case_count (groups_of k e)) 64) (nat_le (atom_count (groups_of k e)) 1024) (cases_slight e (choices (groups_of k e)))

pub not-few : (k : ControlFacts) (e : PlainEquation) (gs : List Terms) → gs ≡ groups_of k e → are_few gs ≡ false → None ≡ short_formula k e
not-few k e gs is h = let t : is_short k e ≡ false = short-is k e ∙ ap (λ b. b && cases_slight e (choices (groups_of k e))) (ap are_few (sym is) ∙ h) in rw t refl

pub not-slight : (k : ControlFacts) (e : PlainEquation) (gs : List Terms) (xs : List (List Formula × ℤ)) → gs ≡ groups_of k e → xs ≡ choices gs → cases_slight e xs ≡ false → None ≡ short_formula k e
not-slight k e gs xs is made h =
    let t : is_short k e ≡ false =
    short-is k e ∙ ap (λ b. are_few (groups_of k e) && b) (ap (λ z. cases_slight e (choices z)) (sym is) ∙ ap (cases_slight e) (sym made) ∙ h) ∙ and-false (are_few (groups_of k e)) in
    rw t refl

pub short-made : (k : ControlFacts) (e : PlainEquation) (gs : List Terms) (xs : List (List Formula × ℤ)) (f : Formula) → gs ≡ groups_of k e → xs ≡ choices gs → are_few gs ≡ true → cases_slight e xs ≡ true
    → f ≡ closed false (formulas (map (case_of e) xs)) → Some f ≡ short_formula k e
short-made k e gs xs f is made few slight f-is =
    let same : xs ≡ choices (groups_of k e) = made ∙ ap choices is in
    let t : is_short k e ≡ true = short-is k e ∙ ap (λ b. b && cases_slight e (choices (groups_of k e))) (ap are_few (sym is) ∙ few) ∙ ap (cases_slight e) (sym same) ∙ slight in
    rw t (ap Some (f-is ∙ ap (λ z. closed false (formulas (map (case_of e) z))) same))

-- the equation of a case is a form
rises : (es : List (ℕ × ℤ)) → IsKept es → rise_from 0 es ≡ true
rises es k = by (rise_from 0 es) refl (kept-made es k)
  where
    by : (b : Bool) → rise_from 0 es ≡ b → of_entries (pos 0) es ≡ Some (record { constant = pos 0; entries = es }) → rise_from 0 es ≡ true
    by true e h = e
    by false e h = absurd (let none : of_entries (pos 0) es ≡ None = rw (zero-within, e) refl in cc)

slight-small : (z : ℤ) → is_slight z ≡ true → is_small z ≡ true
unfolding is_within
slight-small z h = grind (arith, nat_tests)

pub slight-size : (z : ℤ) → is_slight z ≡ true → unsigned_abs z < 2 ^ 127
slight-size z h = grind (arith, nat_tests)

pub slight-sum : (e : PlainEquation) (z : ℤ) → cases_slight e (([], z) ∷ []) ≡ true → is_slight (e.constant +ℤ z) ≡ true
slight-sum e z h = (both (is_slight (e.constant +ℤ z)) (are_slight e.numbers) (both (is_slight (e.constant +ℤ z) && are_slight e.numbers) true h).0).0

pub equation-made : (e : PlainEquation) (z : ℤ) → IsKept e.numbers → is_slight z ≡ true → of_entries z e.numbers ≡ Some (record { constant = z; entries = e.numbers })
equation-made e z k h = rw (slight-small z h, rises e.numbers k) refl
