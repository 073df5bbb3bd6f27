-- The tree that is found is written node by node, as the search walks.
use Rattle.std.proofs.Common.{◌≡◌, ℕ, ◌+◌, ◌^◌, ◌<◌, ◌≤◌, Bool, true, false, ◌||◌, nat_lt, nat_le, List, [], ◌∷◌, length, map, refl, sym, ap, ◌∙◌, subst, inl, inr, arith, ℤ, unsigned_abs}
use Rattle.std.specs.Prelude.{Option, Some, if◌then◌else◌}
use Rattle.std.proofs.lemmas.Bool.{and_parts}
use Rattle.std.proofs.lemmas.Bool.Decides.{nat_tests}
use Rattle.std.proofs.lemmas.Int.{ints}
use Rattle.st_linear.specs.Linear.{Linear, is_within, are_within}
use Rattle.st_linear.specs.declared.rows.Line.{Line}
use Rattle.st_form.specs.Formula.{Formula, Formulas, truth_value, row, equal, bool_var, at, negation, every, some, none, more}
use Rattle.st_certificate.specs.Tree.{Step, Tree, Trees, branch, linear, no_tree, with_tree}
use Rattle.farkas_leaf.specs.Lines.{RiseWithin, Closes}
use Rattle.farkas_check.specs.Problem.{Setting, Problem, lines_of, first_problem}
use Rattle.cert_text.specs.Grammar.{Written, w_absurd, w_linear, w_node, Rows, w_last, w_and, meaning, meanings, is_long, is_long_pick, lines_over}
use Rattle.cert_text.specs.Tree.{branching_of}
use Rattle.elimination_laws.specs.Stages.{contradiction, too_wide, at_rows, then_stages, sifted, tracked, stages, ending}
use Rattle.elimination_laws.proofs.Clashing.{contradiction-closes, contradiction-limited}
use Rattle.search_laws.specs.Walks.{Failure, left_open, given_up, PathStep, Found, found, stopped, searched}
use Rattle.search_laws.specs.Moves.{move_of, valid, failed_at, verdict_of, decided}
use Rattle.search_laws.specs.Forms.{AllForms, AllFormsOf, IsProper, IsInOrder}
use Rattle.search_laws.specs.Steady.{AreSteady, IfSteady, AllSteady, HasEntries}
use Rattle.search_laws.specs.Sizes.{IsModestTree}
use Rattle.search_laws.proofs.Walking.{AllOf, EachOf, Explains, Told, walk-told}
use Rattle.search_laws.proofs.Shapes.{AreParts, IfParts, IsShaped, first-shaped}
use Rattle.search_laws.proofs.Describing.{IsClosed, Describes, describes}
use Rattle.search_laws.proofs.Finding.{proper-keeps, proper-lines, division-shaped, is-divided, proved}
use Rattle.search_laws.proofs.Steadying.{first-steady, division-steady}
use Rattle.search_blocks.specs.Writable.{IsWritable}
use Rattle.search_blocks.proofs.Fitting.{or_false, IsNumbered, AreNumbered, proper, within, line_of, lines_same, line_size}
use Rattle.search_blocks.proofs.Dividing.{HasOne, IsWritten, step_divides}

-- a tree, written, with its numbers within their limits
record Writes (t : Tree) : Type 0 where
  written : Written
  numbered : IsNumbered written
  means : meaning written ≡ t

record AllWritten (ts : Trees) : Type 0 where
  rows : Rows
  numbered : AreNumbered rows
  means : meanings rows ≡ ts

-- ---- leaves
within_less : (limit : ℕ) (z : ℤ) → is_within limit z ≡ true → unsigned_abs z < limit
unfolding is_within
within_less limit z h = grind (arith, nat_tests)

short_line : (count line size : ℕ) → count < 4096 → line < 4096 → size < 2 ^ 40 → is_long_pick count line size ≡ false
short_line count line size h g s =
    or_false (is_long (line + 1) || nat_le 4096 count) (nat_le 1099511627776 size)
    (or_false (is_long (line + 1)) (nat_le 4096 count) (grind (arith, nat_tests)) (grind (arith, nat_tests))) (grind (arith, nat_tests))

short_lines : (n low count : ℕ) (ps : List (ℕ × ℤ)) → n ≤ 4096 → RiseWithin n low ps → are_within (2 ^ 40) ps ≡ true → count + length ps ≤ 4096 → lines_over count (map line_of ps) ≡ false
short_lines n low count [] m rise sizes few = refl
short_lines n low count (p ∷ ps) m rise sizes few =
    let s = and_parts (is_within (2 ^ 40) p.1) (are_within (2 ^ 40) ps) sizes in
    let size = within_less (2 ^ 40) p.1 s.0 in
    let same = line_size p.1 in
    or_false (is_long_pick count p.0 (line_of p).1.1) (lines_over (count + 1) (map line_of ps))
    (short_line count p.0 (line_of p).1.1 (omega (arith, few)) (let below = rise.1 in omega (arith, below, m)) (subst (λ (z : ℕ). z < 2 ^ 40) (sym same) size))
    (short_lines n (p.0 + 1) (count + 1) ps m rise.2 s.1 (omega (arith, few)))

-- no more lines than elimination takes
few_lines : (lines : List Line) (n : ℕ) (picks : List (ℕ × ℤ)) → ending lines n ≡ contradiction picks → length lines ≤ 4096
few_lines lines n picks e = by_test (nat_lt 4096 (length lines)) refl e where
  below : (m : ℕ) → nat_lt 4096 m ≡ false → m ≤ 4096
  below m h = grind (arith, nat_tests)

  by_test : (b : Bool) → nat_lt 4096 (length lines) ≡ b → (if b then too_wide at_rows else then_stages at_rows (sifted (map Some (tracked 0 lines)) 4096) (stages n 0)) ≡ contradiction picks → length lines ≤ 4096
  by_test true is h = absurd cc
  by_test false is h = below (length lines) is

-- an empty sum is no contradiction
leaf_written : (lines : List Line) (picks : List (ℕ × ℤ)) → length lines ≤ 4096 → Closes lines picks → are_within (2 ^ 40) picks ≡ true → length picks ≤ 4096 → Writes (linear picks)
leaf_written lines [] few closes sizes count = let z = closes.negative in absurd (omega (arith, ints, z))
leaf_written lines (p ∷ ps) few closes sizes count = record {
  written = w_linear (line_of p) (map line_of ps);
  numbered = short_lines (length lines) 0 0 (p ∷ ps) few closes.rising sizes (omega (arith, count));
  means = ap linear (lines_same (p ∷ ps));
}

-- ---- nodes
rows_written : {P : Type 0} (ts : Trees) (ps : List P) → HasOne ps → EachOf (λ t p. Writes t) ts ps → AllWritten ts
rows_written no_tree [] one h = absurd one
rows_written no_tree (p ∷ ps) one h = absurd h
rows_written (with_tree t ts) [] one h = absurd one
rows_written (with_tree t no_tree) (p ∷ []) one h = record { rows = w_last h.0.written; numbered = h.0.numbered; means = ap (λ u. with_tree u no_tree) h.0.means }
rows_written (with_tree t no_tree) (p ∷ q ∷ ps) one h = absurd h.1
rows_written (with_tree t (with_tree u us)) (p ∷ []) one h = absurd h.1
rows_written (with_tree t (with_tree u us)) (p ∷ q ∷ ps) one h =
    let more = rows_written (with_tree u us) (q ∷ ps) tt h.1 in
    record {
      rows = w_and h.0.written more.rows;
      numbered = (h.0.numbered, more.numbered);
      means = ap (λ v. with_tree v (meanings more.rows)) h.0.means ∙ ap (with_tree t) more.means;
    }

node_written : (s : Step) (ts : Trees) → IsWritten s → AllWritten ts → Writes (branch s ts)
node_written s ts step rows = record {
  written = w_node step.branching step.number rows.rows;
  numbered = (step.short, rows.numbered);
  means = ap (branching_of step.branching step.number) rows.means ∙ step.same ts;
}

-- ---- the walk
mutual
  entries_of : (n : ℕ) (f : Formula) → AllForms (IsProper n) f → AllForms HasEntries f
  entries_of n (truth_value b) h = tt
  entries_of n (row f) h = h.entries
  entries_of n (equal f) h = h.entries
  entries_of n (bool_var v) h = tt
  entries_of n (at l) h = tt
  entries_of n (negation f) h = entries_of n f h
  entries_of n (every fs) h = all_entries n fs h
  entries_of n (some fs) h = all_entries n fs h

  all_entries : (n : ℕ) (fs : Formulas) → AllFormsOf (IsProper n) fs → AllFormsOf HasEntries fs
  all_entries n none h = tt
  all_entries n (more f fs) h = (entries_of n f h.0, all_entries n fs h.1)

parts_of : (Q : Linear → Type 0) (o : Option Formulas) (fs : Formulas) → o ≡ Some fs → IfParts Q true o → AreParts Q fs true
parts_of Q o fs e h = rw e at h

steady_of : (o : Option Formulas) (fs : Formulas) → o ≡ Some fs → IfSteady true o → AreSteady fs true
steady_of o fs e h = rw e at h

module _ (k : Setting) (order : IsInOrder k.control) (parts : length k.control.components < 2 ^ 32) (variables : length k.variables < 2 ^ 32) where
  abbrev Good : Problem → Type 0
  Good p = IsShaped (IsProper (length k.variables)) p × IfSteady true p.conjuncts

  both : (ps : List Problem) → AllOf (IsShaped (IsProper (length k.variables))) ps → AllSteady ps → AllOf Good ps
  both [] h g = tt
  both (p ∷ ps) h g = ((h.0, g.0), both ps h.1 g.1)

  closed_written : (p : Problem) (t : Tree) → Good p → IsClosed k p t → Writes t
  closed_written p t good (inl h) = record { written = w_absurd; numbered = tt; means = sym h.1 }
  closed_written p t good (inr c) =
      let lines = lines_of c.conjuncts in
      let own = proper-lines (length k.variables) c.conjuncts (parts_of (IsProper (length k.variables)) p.conjuncts c.conjuncts c.are good.0) in
      let limits = contradiction-limited lines (length k.variables) c.picks own c.ends in
      subst Writes (sym c.leaf) (leaf_written lines c.picks (few_lines lines (length k.variables) c.picks c.ends) (contradiction-closes lines (length k.variables) c.picks own c.ends) limits.within limits.few)

  abbrev Any : Failure → Problem → Type 0
  Any e p = Unit {0}

  search_written : Explains (move_of k) Good (λ t p. Writes t) Any
  search_written = record {
    closing = λ p t good e. closed_written p t good (subst (Describes k p) e (describes k p));
    keeping = λ p s ps good e.
        let d = is-divided k p s ps e in
        both ps
        (division-shaped (IsProper (length k.variables)) (proper-keeps (length k.variables)) k p d.conjuncts s ps d.step (parts_of (IsProper (length k.variables)) p.conjuncts d.conjuncts d.are good.0) d.division)
        (division-steady k p d.conjuncts s ps d.step (steady_of p.conjuncts d.conjuncts d.are good.1) d.division);
    dividing = λ p s ps ts good e h.
        let d = is-divided k p s ps e in
        let divides_it = step_divides k order parts variables p d.conjuncts s ps e d.step (steady_of p.conjuncts d.conjuncts d.are good.1) d.division in
        node_written s ts divides_it.written (rows_written ts ps divides_it.some h);
    failing = λ p e good h. tt;
    opening = λ p s ps e good h o. tt;
    tree = λ p. tt;
  }

  not_valid : (path : List PathStep) (e : Failure) (t : Tree) → failed_at path e ≡ valid t → ⊥
  not_valid path (left_open state) t h = absurd cc
  not_valid path (given_up s) t h = absurd cc

  by_found : (p : Problem) (f : Found) (t : Tree) → Told (λ u p. Writes u) Any p f → verdict_of f ≡ valid t → Writes t
  by_found p (found u n) t told h = let same : u ≡ t = cc in subst Writes same told
  by_found p (stopped path e) t told h = absurd (not_valid path e t h)

  written_of : (given shown : Formula) (t : Tree) → AllForms (IsProper (length k.variables)) given → AllForms (IsProper (length k.variables)) shown → decided k given shown ≡ valid t → Writes t
  written_of given shown t g h e =
      let p : Problem = first_problem k given shown in
      let good : Good p = (first-shaped (IsProper (length k.variables)) (proper-keeps (length k.variables)) k given shown g h, first-steady k given shown (entries_of (length k.variables) given g) (entries_of (length k.variables) shown h)) in
      by_found p (searched (move_of k) p) t (walk-told (move_of k) Good (λ u p. Writes u) Any search_written 400 p 0 good) e

writes_fit : (t : Tree) → Writes t → IsModestTree t → IsWritable t
writes_fit t w modest =
    let small = subst IsModestTree (sym w.means) modest in
    record {
      written = w.written;
      block = λ number. record { proper = proper w.written w.numbered; within = within w.written 0 0 w.numbered (let c = small.count in omega (arith, c), let d = small.depth in omega (arith, d)) };
      means = w.means;
    }

pub writable : (k : Setting) (given shown : Formula) (t : Tree)
    → IsInOrder k.control → length k.control.components < 2 ^ 32 → length k.variables < 2 ^ 32
    → AllForms (IsProper (length k.variables)) given → AllForms (IsProper (length k.variables)) shown
    → decided k given shown ≡ valid t → IsWritable t
writable k given shown t order parts variables g h e =
    writes_fit t (written_of k order parts variables given shown t g h e) (proved k given shown t g h e).modest
