-- A certificate that is found is valid, and within the limits.
use Rattle.std.proofs.Common.{◌≡◌, ℕ, ◌<◌, ◌^◌, Bool, true, false, List, [], ◌∷◌, length, map, refl, ap, subst, sym, ◌∙◌, Option, Some, None, inl, inr, arith, ℤ, pos}
use Rattle.std.specs.Prelude.{unsigned_abs, All, if◌then◌else◌, option_and_then, neg_ℤ}
use Rattle.std.specs.Option.{option_map}
use Rattle.std.specs.Int.{int_div_euclid}
use Rattle.std.proofs.lemmas.Bool.{and_parts}
use Rattle.std.proofs.lemmas.Bool.Decides.{nat_tests}
use Rattle.std.proofs.lemmas.List.Elements.{All-cons}
use Rattle.st_linear.specs.Linear.{Linear, AllBelow, is_within, are_within}
use Rattle.st_linear.specs.Simple.{common_divisor}
use Rattle.st_linear.specs.declared.rows.Line.{Line}
use Rattle.st_linear.proofs.Dividing.{AreEntries-divided, AreEntries-negated, common_divisor-divides}
use Rattle.st_form.specs.Formula.{Formula, Formulas, truth_value, row, equal, bool_var, at, negation, every, some, none, more}
use Rattle.control_states.specs.Control.{component_at}
use Rattle.st_certificate.specs.Tree.{Step, by_case, by_truth, by_split, by_cut, Tree, Trees, branch, linear, no_tree, with_tree}
use Rattle.farkas_leaf.specs.Lines as of_lines
use Rattle.farkas_check.specs.Problem.{Setting, Problem, divided_into, division, may_case, case_problems, may_truth, truth_problem, split_from, split_problems, lines_with, lines_of, first_problem}
use Rattle.farkas_check.specs.Valid.{There, Valid, AreValid}
use Rattle.farkas_check.specs.Limits.{IsLimited, AreLimited, IsLimitedStep}
use Rattle.farkas_check.proofs.Law.{certified}
use Rattle.elimination_laws.specs.Laws.{AreProper}
use Rattle.elimination_laws.proofs.Clashing.{contradiction-closes, contradiction-limited}
use Rattle.search_laws.specs.Walks.{Failure, left_open, given_up, divides, PathStep, Found, found, stopped, searched}
use Rattle.search_laws.specs.Moves.{move_of, valid, failed_at, verdict_of, decided}
use Rattle.search_laws.specs.Forms.{AllForms, IsProper}
use Rattle.search_laws.specs.Laws.{IsProved}
use Rattle.search_laws.proofs.Walking.{AllOf, EachOf, Explains, Told, walk-told, IsLeaf, ClosesByLeaves, found-modest}
use Rattle.search_laws.proofs.Shapes.{Keeps, IsPart, AreParts, IfParts, IsShaped, first-shaped, cases-shaped, truth-shaped, split-shaped}
use Rattle.search_laws.specs.Steady.{IsNoCut}
use Rattle.search_laws.proofs.Describing.{IsClosed, IsContradicted, IsDivided, Describes, describes}

-- ---- forms stay proper
below-mapped : (n : ℕ) (f : ℤ → ℤ) (es : List (ℕ × ℤ)) → AllBelow n es → AllBelow n (map (λ e. (e.0, f e.1)) es)
below-mapped n f [] h = tt
below-mapped n f (e ∷ es) h = (h.0, below-mapped n f es h.1)

pub proper-keeps : (n : ℕ) → Keeps (IsProper n)
proper-keeps n = record {
  divided = λ f h.
      let d = common_divisor-divides f.entries in
      record { entries = AreEntries-divided (common_divisor f.entries) f.entries d.0 d.1 h.entries; below = below-mapped n (λ z. int_div_euclid z (pos (common_divisor f.entries))) f.entries h.below };
  negated = λ f h. record { entries = AreEntries-negated f.entries h.entries; below = below-mapped n neg_ℤ f.entries h.below };
  lowered = λ f h. record { entries = h.entries; below = h.below };
  complement = λ f h. record { entries = AreEntries-negated f.entries h.entries; below = below-mapped n neg_ℤ f.entries h.below };
}

proper-line : (n : ℕ) (f : Formula) (rest : List Line) → IsPart (IsProper n) f true → AreProper n rest → AreProper n (lines_with f rest)
proper-line n (row f) rest h k = (h.entries, h.below, k)
proper-line n (equal f) rest h k = (h.entries, h.below, k)
proper-line n (truth_value b) rest h k = k
proper-line n (bool_var v) rest h k = k
proper-line n (at l) rest h k = k
proper-line n (negation f) rest h k = k
proper-line n (every fs) rest h k = k
proper-line n (some fs) rest h k = k

pub proper-lines : (n : ℕ) (fs : Formulas) → AreParts (IsProper n) fs true → AreProper n (lines_of fs)
proper-lines n none h = tt
proper-lines n (more f fs) h = proper-line n f (lines_of fs) h.0 (proper-lines n fs h.1)

-- ---- picks
within-less : (limit : ℕ) (z : ℤ) → is_within limit z ≡ true → unsigned_abs z < limit
unfolding is_within
within-less limit z h = grind (arith, nat_tests)

all-within : (limit : ℕ) (ps : List (ℕ × ℤ)) → are_within limit ps ≡ true → All (λ p. unsigned_abs p.1 < limit) ps
all-within limit [] h = λ k d l. absurd (omega (arith, l))
all-within limit (p ∷ ps) h =
    let b = and_parts (is_within limit p.1) (are_within limit ps) h in
    All-cons (λ p. unsigned_abs p.1 < limit) p ps (within-less limit p.1 b.0) (all-within limit ps b.1)

-- ---- moves
abbrev pub Sound : Setting → Tree → Problem → Type 0
Sound k t p = Valid k t p × IsLimited t

abbrev pub Good : Setting → Problem → Type 0
Good k p = IsShaped (IsProper (length k.variables)) p

there : {A : Type 0} (o : Option A) (P : A → Type 0) (x : A) → o ≡ Some x → P x → There o P
there o P x e h = rw e h

parts-of : (Q : Linear → Type 0) (o : Option Formulas) (fs : Formulas) → o ≡ Some fs → IfParts Q true o → AreParts Q fs true
parts-of Q o fs e h = rw e at h

leaf-sound : (k : Setting) (p : Problem) (t : Tree) → Good k p → IsContradicted k p t → Sound k t p
leaf-sound k p t g c =
    let proper = proper-lines (length k.variables) c.conjuncts (parts-of (IsProper (length k.variables)) p.conjuncts c.conjuncts c.are g) in
    let closing = contradiction-closes (lines_of c.conjuncts) (length k.variables) c.picks proper c.ends in
    let limits = contradiction-limited (lines_of c.conjuncts) (length k.variables) c.picks proper c.ends in
    let sound : Sound k (linear c.picks) p = (there p.conjuncts (λ fs. of_lines.Closes (lines_of fs) c.picks) c.conjuncts c.are closing, (all-within (2 ^ 40) c.picks limits.within, limits.few)) in
    subst (λ (t : Tree). Sound k t p) (sym c.leaf) sound

closed-sound : (k : Setting) (p : Problem) (t : Tree) → Good k p → IsClosed k p t → Sound k t p
closed-sound k p t g (inl h) = subst (λ (t : Tree). Sound k t p) (sym h.1) (h.0, tt)
closed-sound k p t g (inr c) = leaf-sound k p t g c

-- a division keeps the shape of conjuncts
pub division-shaped : (Q : Linear → Type 0) → Keeps Q → (k : Setting) (p : Problem) (fs : Formulas) (s : Step) (ps : List Problem) → IsNoCut s → AreParts Q fs true → divided_into k p fs s ≡ Some ps → AllOf (IsShaped Q) ps
division-shaped Q q k p fs (by_case c) ps n h e = by_test (may_case k.control p.cases c) e
  where
    by_test : (b : Bool) → (if b then Some (case_problems k.control p fs c (component_at k.control.components c).alternatives) else None) ≡ Some ps → AllOf (IsShaped Q) ps
    by_test true e =
        let same : case_problems k.control p fs c (component_at k.control.components c).alternatives ≡ ps = cc in
        subst (λ (x : List Problem). AllOf (IsShaped Q) x) same (cases-shaped Q q k.control p fs c (component_at k.control.components c).alternatives h)
    by_test false e = absurd (cc)
division-shaped Q q k p fs (by_truth v) ps n h e = by_test (may_truth k.variables p.truths v) e
  where
    by_test : (b : Bool) → (if b then Some (truth_problem k.control p fs v true ∷ truth_problem k.control p fs v false ∷ []) else None) ≡ Some ps → AllOf (IsShaped Q) ps
    by_test true e =
        let same : truth_problem k.control p fs v true ∷ truth_problem k.control p fs v false ∷ [] ≡ ps = cc in
        subst (λ (x : List Problem). AllOf (IsShaped Q) x) same (truth-shaped Q q k.control p fs v true h, (truth-shaped Q q k.control p fs v false h, tt))
    by_test false e = absurd (cc)
division-shaped Q q k p fs (by_split i) ps n h e = by_lists (split_from none i fs) refl e
  where
    by_lists : (o : Option (List Formulas)) → split_from none i fs ≡ o → option_map (split_problems p) o ≡ Some ps → AllOf (IsShaped Q) ps
    by_lists None s e = absurd (cc)
    by_lists (Some ls) s e = let same : split_problems p ls ≡ ps = cc in subst (λ (x : List Problem). AllOf (IsShaped Q) x) same (split-shaped Q p fs i ls h s)
division-shaped Q q k p fs (by_cut f) ps n h e = absurd n

step-limited : (s : Step) → IsNoCut s → IsLimitedStep s
step-limited (by_case c) n = tt
step-limited (by_truth v) n = tt
step-limited (by_split i) n = tt
step-limited (by_cut f) n = absurd n

each-valid : (k : Setting) (ts : Trees) (ps : List Problem) → EachOf (Sound k) ts ps → AreValid k ts ps × AreLimited ts
each-valid k no_tree [] h = (tt, tt)
each-valid k no_tree (p ∷ ps) h = absurd h
each-valid k (with_tree t ts) [] h = absurd h
each-valid k (with_tree t ts) (p ∷ ps) h = let r = each-valid k ts ps h.1 in ((h.0.0, r.0), (h.0.1, r.1))

pub is-divided : (k : Setting) (p : Problem) (s : Step) (ps : List Problem) → move_of k p ≡ divides s ps → IsDivided k p s ps
is-divided k p s ps e = subst (Describes k p) e (describes k p)

branch-sound : (k : Setting) (p : Problem) (s : Step) (ps : List Problem) (ts : Trees) → IsDivided k p s ps → EachOf (Sound k) ts ps → Sound k (branch s ts) p
branch-sound k p s ps ts d h =
    let r = each-valid k ts ps h in
    let whole : division k p s ≡ Some ps = ap (option_and_then (λ fs. divided_into k p fs s)) d.are ∙ d.division in
    (there (division k p s) (AreValid k ts) ps whole r.0, (step-limited s d.step, r.1))

abbrev pub Any : Failure → Problem → Type 0
Any e p = Unit {0}

pub search-sound : (k : Setting) → Explains (move_of k) (Good k) (Sound k) Any
search-sound k = record {
  closing = λ p t g e. closed-sound k p t g (subst (Describes k p) e (describes k p));
  keeping = λ p s ps g e.
      let d = is-divided k p s ps e in
      division-shaped (IsProper (length k.variables)) (proper-keeps (length k.variables)) k p d.conjuncts s ps d.step (parts-of (IsProper (length k.variables)) p.conjuncts d.conjuncts d.are g) d.division;
  dividing = λ p s ps ts g e h. branch-sound k p s ps ts (is-divided k p s ps e) h;
  failing = λ p e g h. tt;
  opening = λ p s ps e g h o. tt;
  tree = λ p. tt;
}

-- ---- sizes
closed-leaf : (k : Setting) (p : Problem) (t : Tree) → IsClosed k p t → IsLeaf t
closed-leaf k p t (inl h) = subst IsLeaf (sym h.1) (refl, refl)
closed-leaf k p t (inr c) = subst IsLeaf (sym c.leaf) (refl, refl)

closes-by-leaves : (k : Setting) → ClosesByLeaves (move_of k)
closes-by-leaves k p t e = closed-leaf k p t (subst (Describes k p) e (describes k p))

-- ---- verdicts
not-valid : (path : List PathStep) (e : Failure) (t : Tree) → failed_at path e ≡ valid t → ⊥
not-valid path (left_open state) t h = absurd (cc)
not-valid path (given_up s) t h = absurd (cc)

valid-found : (f : Found) (t : Tree) → verdict_of f ≡ valid t → (n : ℕ) × (f ≡ found t n)
valid-found (found u n) t h = (n, let same : u ≡ t = cc in ap (λ u. found u n) same)
valid-found (stopped path e) t h = absurd (not-valid path e t h)

pub proved : (k : Setting) (given shown : Formula) (t : Tree) → AllForms (IsProper (length k.variables)) given → AllForms (IsProper (length k.variables)) shown → decided k given shown ≡ valid t → IsProved k given shown t
proved k given shown t g h e =
    let p : Problem = first_problem k given shown in
    let f = valid-found (searched (move_of k) p) t e in
    let good = first-shaped (IsProper (length k.variables)) (proper-keeps (length k.variables)) k given shown g h in
    let told = subst (Told (Sound k) Any p) f.1 (walk-told (move_of k) (Good k) (Sound k) Any (search-sound k) 400 p 0 good) in
    record {
      certificate = told.0;
      limited = told.1;
      modest = found-modest (move_of k) (closes-by-leaves k) p t f.0 f.1;
      holds = certified k given shown t told.0;
    }
