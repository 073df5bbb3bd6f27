-- When a certificate is valid for a condition, by rules.
--
-- What is given and the opposite of what is shown are posed as one problem: conjuncts, simplified under the decisions of components
-- and of boolean variables that were taken so far. A certificate is a tree that refutes the problem. At a leaf the problem is false, or
-- multiples of its inequalities and equations add up to a negative number (Farkas' lemma). At a node a step divides the problem into
-- cases, of which one comes true wherever the problem does, and the node has a tree for each case, in order.
use Rattle.std.specs.Prelude.{◌≡◌, ℕ, suc, ◌≤◌, ℤ, pos, ◌≤ℤ◌, ◌<ℤ◌, Bool, true, false, List, [], ◌∷◌, ◌++◌, map, flat_map, filter, length, replicate, slice_get, slice_set, Option, Some, None, IfSome}
use Rattle.std.specs.Option.{option_map}
use Rattle.list_laws.specs.Each.{Each}
use Rattle.st_linear.specs.Linear.{Linear, number, sum_of, scaled}
use Rattle.st_linear.specs.Simple.{complement, negated}
use Rattle.st_linear.specs.declared.rows.Line.{Line}
use Rattle.st_form.specs.Formula.{Formula, row, equal, negation, some, formulas}
use Rattle.st_form.specs.Simple.{append, opened, parts, simple_row}
use Rattle.control_states.specs.declared.alternative.Alternative.TheVariants.{Inside}
use Rattle.control_states.specs.Control.{ComponentFacts}
use Rattle.st_certificate.specs.Tree.{Step, by_case, by_truth, by_split, by_cut, Tree, Trees, impossible, branch, farkas, linear, no_tree, with_tree}
use Rattle.farkas_check.specs.Problem.{Setting, Problem, posed}

-- LEAVES
-- the line of a conjunct: an inequality says that its form is at least 0, an equation that it is 0, and no other conjunct has a line
abbrev pub lines_of : Formula → List Line
lines_of (row f) = record { form = f; equal = false } ∷ []
lines_of (equal f) = record { form = f; equal = true } ∷ []
lines_of f = []

-- the same, with two inequalities for an equation
abbrev pub inequalities_of : Formula → List Line
inequalities_of (equal f) = lines_of (row f) ++ lines_of (row (negated f))
inequalities_of f = lines_of f

-- multiples of lines, which are picked by rising numbers from n on, add up to a form; no inequality is multiplied by a negative number
pub data AddUp (lines : List Line) : ℕ → List (ℕ × ℤ) → Linear → Type 0 where
  no_pick : {n : ℕ} → AddUp lines n [] (number (pos 0))
  one_pick : {n i : ℕ} {l : Line} {z : ℤ} {picks : List (ℕ × ℤ)} {f : Linear}
      → n ≤ i → slice_get lines i ≡ Some l → (l.equal ≡ false → pos 0 ≤ℤ z) → AddUp lines (suc i) picks f → AddUp lines n ((i, z) ∷ picks) (sum_of (scaled z l.form) f)

-- the picked multiples add up to a negative number, so the lines don't all hold
abbrev pub Contradict : List Line → List (ℕ × ℤ) → Type 0
Contradict lines picks = (z : ℤ) × (z <ℤ pos 0) × AddUp lines 0 picks (number z)

-- NODES
-- a formula is a disjunction
abbrev pub is_disjunction : Formula → Bool
is_disjunction (some fs) = true
is_disjunction f = false

-- whether a variable is boolean, or None where there is no such variable
abbrev pub is_boolean : Setting → ℕ → Option Bool
is_boolean k v = option_map (λ x. x.truth) (slice_get k.variables v)

-- What a step divides a problem with these conjuncts into:
-- the places of a component that isn't decided, and is active: nothing is round it, or what is round it is decided to be inside its cooperation;
-- both values of a boolean variable that isn't decided;
-- the disjuncts of a disjunction, each in its place, where the step counts the disjunctions in front of it;
-- both sides of a cut by an inequality over integer variables
pub data Divides (k : Setting) (p : Problem) (fs : List Formula) : Step → List Problem → Type 0 where
  by_places : {c : ℕ} {x : ComponentFacts}
      → slice_get k.control.components c ≡ Some x → slice_get p.cases c ≡ Some None → IfSome x.around (λ w. slice_get p.cases w.0 ≡ Some (Some (Inside w.1)))
      → Divides k p fs (by_case c) (map (λ a. posed k.control (slice_set p.cases c (Some a)) p.truths (formulas fs)) x.alternatives)
  by_values : {v : ℕ} → is_boolean k v ≡ Some true → slice_get p.truths v ≡ Some None
      → Divides k p fs (by_truth v) (map (λ b. posed k.control p.cases (slice_set p.truths v (Some b)) (formulas fs)) (true ∷ false ∷ []))
  by_disjuncts : (before gs behind : List Formula) → fs ≡ before ++ (some (formulas gs) ∷ behind)
      → Divides k p fs (by_split (length (filter is_disjunction before))) (map (λ g. record p { conjuncts = Some (append (formulas before) (append (opened g) (formulas behind))) }) gs)
  by_sides : {f : Linear} → Each (λ e. is_boolean k e.0 ≡ Some false) f.entries
      → Divides k p fs (by_cut f) (map (λ g. record p { conjuncts = option_map (append (formulas fs)) (parts true (simple_row g)) }) (f ∷ complement f ∷ []))

-- TREES
mutual
  -- a tree refutes a problem
  pub data Refutes (k : Setting) : Tree → Problem → Type 0 where
    at_once : {p : Problem} → p.conjuncts ≡ None → Refutes k impossible p
    by_inequalities : {p : Problem} (fs : List Formula) {picks : List (ℕ × ℕ)}
        → p.conjuncts ≡ Some (formulas fs) → Contradict (flat_map inequalities_of fs) (map (λ n. (n.0, pos n.1)) picks) → Refutes k (farkas picks) p
    by_lines : {p : Problem} (fs : List Formula) {picks : List (ℕ × ℤ)}
        → p.conjuncts ≡ Some (formulas fs) → Contradict (flat_map lines_of fs) picks → Refutes k (linear picks) p
    by_division : {p : Problem} (fs : List Formula) {s : Step} {ps : List Problem} {ts : Trees}
        → p.conjuncts ≡ Some (formulas fs) → Divides k p fs s ps → RefuteEach k ts ps → Refutes k (branch s ts) p

  -- there are as many trees as problems, and each refutes its own
  pub data RefuteEach (k : Setting) : Trees → List Problem → Type 0 where
    no_problem : RefuteEach k no_tree []
    one_problem : {p : Problem} {ps : List Problem} {t : Tree} {ts : Trees} → Refutes k t p → RefuteEach k ts ps → RefuteEach k (with_tree t ts) (p ∷ ps)

-- a certificate is valid for a condition: with nothing decided, it refutes what is given with the opposite of what is shown
abbrev pub Certifies : Setting → Formula → Formula → Tree → Type 0
Certifies k given shown t =
    Refutes k t (posed k.control (replicate (length k.control.components) None) (replicate (length k.variables) None) (formulas (given ∷ negation shown ∷ [])))
