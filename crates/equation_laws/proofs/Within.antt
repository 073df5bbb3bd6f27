-- The rows of a system: what its numbers are within, and that rows are rows.
use Rattle.std.proofs.Common.{◌≡◌, ◌≢◌, ℕ, zero, suc, ◌+◌, ◌<◌, ◌≤◌, ◌^◌, true, false, Bool, List, [], ◌∷◌, ◌++◌, length, Some, None, refl, ap, ◌∙◌, sym, subst, arith, ℤ, pos, negsuc, neg_ℤ}
use Rattle.std.specs.Prelude.{flat_map, take, slice_get, All, unsigned_abs, ◌==◌, if◌then◌else◌}
use Rattle.st_linear.specs.Linear.{Linear, AreEntries, AllAbove, AllBelow, with_entry}
use Rattle.st_linear.proofs.Joined.{AreEntries-with_entry, AllAbove-with_entry}
use Rattle.st_form.specs.Formula.{Formula, Formulas, truth_value, row, equal, bool_var, at, negation, every, some, none, more}
use Rattle.st_form.specs.Exchange.{Exchange, is_listed}
use Rattle.elimination_laws.specs.Mixing.{part}
use Rattle.null_laws.specs.Reduction.{Entries}
use Rattle.null_laws.specs.Bases.{AllMeet, IsRow, IsBasis}
use Rattle.null_laws.proofs.Rows.{below_weaker}
use Rattle.null_laws.proofs.Basis.{basis-is}
use Rattle.transition_system.specs.Bounds.{RisesFrom, EntriesWithin, LinearWithin, FormulaWithin, FormulasWithin, ExchangeWithin, ModeWithin, IsSystem}
use Rattle.transition_system.specs.Systems.{PlainMode, PlainTransition, System}
use Rattle.equation_laws.specs.Sums.{passage, presence}
use Rattle.equation_laws.specs.Space.{equations, equations_among, IsInductive, start_forms, start_places, modes_of, variables_of, columns_of}
use Rattle.equation_laws.specs.Rows.{with_row, gain, over_changed, over_places, over_forms, variable_row, constant_row, first_variable_row, first_constant_row, variable_rows, mode_rows, first_rows, rows_of, width_of, basis_of}
use Rattle.equation_laws.proofs.Changing.{AreWithin}
use Rattle.equation_laws.proofs.Starting.{AreForms}
use Rattle.equation_laws.proofs.Spaces.{ModesWithin, SystemWithin, basis-space}
use Rattle.null_laws.proofs.Basis.{below-with}

-- from places in a list to its elements
first-of : {X : Type 0} (P : X → Type 0) (x : X) (xs : List X) → All P (x ∷ xs) → P x
first-of P x xs all = all 0 x (omega arith)

rest-of : {X : Type 0} (P : X → Type 0) (x : X) (xs : List X) → All P (x ∷ xs) → All P xs
rest-of P x xs all = λ k d lt. all (suc k) d (omega arith)

-- a number in a list of truths
found-below : (truths : List Bool) (v : ℕ) (b : Bool) → slice_get truths v ≡ Some b → v < length truths
found-below [] v b e = absurd (cc)
found-below (t ∷ truths) zero b e = omega arith
found-below (t ∷ truths) (suc v) b e = let l = found-below truths v b e in omega arith

entries-below : (truths : List Bool) (bound : ℕ) (es : Entries) → EntriesWithin truths bound es → AllBelow (length truths) es
entries-below truths bound [] h = tt
entries-below truths bound (e ∷ es) h = (found-below truths e.0 false h.0, entries-below truths bound es h.2)

pub numbers-within : (truths : List Bool) (ps : List (ℕ × Linear)) → All (λ p. (slice_get truths p.0 ≡ Some false) × LinearWithin truths (2 ^ 30 + 1) p.1) ps → AreWithin (length truths) ps
numbers-within truths [] h = tt
numbers-within truths (p ∷ ps) h =
    let f = first-of (λ p. (slice_get truths p.0 ≡ Some false) × LinearWithin truths (2 ^ 30 + 1) p.1) p ps h in
    (found-below truths p.0 false f.0, f.1.rising, entries-below truths (2 ^ 30 + 1) p.1.entries f.1.entries, numbers-within truths ps (rest-of (λ p. (slice_get truths p.0 ≡ Some false) × LinearWithin truths (2 ^ 30 + 1) p.1) p ps h))

modes-append : (n : ℕ) (ms ns : List PlainMode) → ModesWithin n ms → ModesWithin n ns → ModesWithin n (ms ++ ns)
modes-append n [] ns h k = k
modes-append n (m ∷ ms) ns h k = (h.0, h.1, modes-append n ms ns h.2 k)

modes-within : (truths : List Bool) (locations : ℕ) (ms : List PlainMode) → All (ModeWithin truths locations) ms → ModesWithin (length truths) ms
modes-within truths locations [] h = tt
modes-within truths locations (m ∷ ms) h =
    let f = first-of (ModeWithin truths locations) m ms h in
    (numbers-within truths m.change.numbers f.change.numbers, f.change.numbers_rise, modes-within truths locations ms (rest-of (ModeWithin truths locations) m ms h))

transitions-within : (truths : List Bool) (locations : ℕ) (ts : List PlainTransition) → All (λ t. All (ModeWithin truths locations) t.modes) ts → ModesWithin (length truths) (flat_map (λ t. t.modes) ts)
transitions-within truths locations [] h = tt
transitions-within truths locations (t ∷ ts) h =
    modes-append (length truths) t.modes (flat_map (λ t. t.modes) ts)
    (modes-within truths locations t.modes (first-of (λ t. All (ModeWithin truths locations) t.modes) t ts h))
    (transitions-within truths locations ts (rest-of (λ t. All (ModeWithin truths locations) t.modes) t ts h))

-- the start's equations
abbrev pub AllLinear : List Bool → ℕ → List Linear → Type 0
AllLinear truths bound [] = Unit {0}
AllLinear truths bound (f ∷ fs) = LinearWithin truths bound f × AllLinear truths bound fs

linear-append : (truths : List Bool) (bound : ℕ) (fs gs : List Linear) → AllLinear truths bound fs → AllLinear truths bound gs → AllLinear truths bound (fs ++ gs)
linear-append truths bound [] gs h k = k
linear-append truths bound (f ∷ fs) gs h k = (h.0, linear-append truths bound fs gs h.1 k)

linear-take : (truths : List Bool) (bound k : ℕ) (fs : List Linear) → AllLinear truths bound fs → AllLinear truths bound (take k fs)
linear-take truths bound zero fs h = tt
linear-take truths bound (suc k) [] h = tt
linear-take truths bound (suc k) (f ∷ fs) h = (h.0, linear-take truths bound k fs h.1)

mutual
  equations-within : (truths : List Bool) (locations bound : ℕ) (f : Formula) → FormulaWithin truths locations bound f → AllLinear truths bound (equations f)
  equations-within truths locations bound (truth_value b) h = tt
  equations-within truths locations bound (row f) h = tt
  equations-within truths locations bound (equal f) h = (h, tt)
  equations-within truths locations bound (bool_var v) h = tt
  equations-within truths locations bound (at l) h = tt
  equations-within truths locations bound (negation f) h = tt
  equations-within truths locations bound (every fs) h = among-within truths locations bound fs h
  equations-within truths locations bound (some fs) h = tt

  among-within : (truths : List Bool) (locations bound : ℕ) (fs : Formulas) → FormulasWithin truths locations bound fs → AllLinear truths bound (equations_among fs)
  among-within truths locations bound none h = tt
  among-within truths locations bound (more f fs) h =
      linear-append truths bound (equations f) (equations_among fs) (equations-within truths locations bound f h.0) (among-within truths locations bound fs h.1)

forms-within : (truths : List Bool) (bound : ℕ) (fs : List Linear) → AllLinear truths bound fs → AreForms (length truths) fs
forms-within truths bound [] h = tt
forms-within truths bound (f ∷ fs) h = (h.0.rising, entries-below truths bound f.entries h.0.entries, forms-within truths bound fs h.1)

pub start-linear : (system : System) → IsSystem system → AllLinear system.truths (2 ^ 32) (start_forms system)
start-linear system s = linear-take system.truths (2 ^ 32) 256 (equations system.initial) (equations-within system.truths system.locations (2 ^ 32) system.initial s.initial)

pub system-within : (system : System) → IsSystem system → SystemWithin system
system-within system s = record {
  modes = transitions-within system.truths system.locations system.transitions s.modes;
  forms = forms-within system.truths (2 ^ 32) (start_forms system) (start-linear system s);
}

-- rows are rows
changed-above : (g : ℕ → Linear → ℤ) (v : ℕ) (ps : List (ℕ × Linear)) → RisesFrom (suc v) ps → AllAbove v (over_changed g ps)
changed-above g v [] h = tt
changed-above g v (p ∷ ps) h =
    let l : suc v ≤ p.0 = h.0 in
    AllAbove-with_entry v p.0 (g p.0 p.1) (over_changed g ps) (omega arith) (above-weaker v p.0 (over_changed g ps) (omega arith) (changed-above g p.0 ps h.1))
  where
    above-weaker : (v w : ℕ) (es : Entries) → v ≤ w → AllAbove w es → AllAbove v es
    above-weaker v w [] l h = tt
    above-weaker v w (e ∷ es) l h = (let k : w < e.0 = h.0 in omega arith, above-weaker v w es l h.1)

changed-entries : (g : ℕ → Linear → ℤ) (low : ℕ) (ps : List (ℕ × Linear)) → RisesFrom low ps → AreEntries (over_changed g ps)
changed-entries g low [] h = tt
changed-entries g low (p ∷ ps) h = AreEntries-with_entry p.0 (g p.0 p.1) (over_changed g ps) (changed-above g p.0 ps h.1) (changed-entries g (suc p.0) ps h.1)

changed-below : (g : ℕ → Linear → ℤ) (n : ℕ) (ps : List (ℕ × Linear)) → AreWithin n ps → AllBelow n (over_changed g ps)
changed-below g n [] h = tt
changed-below g n (p ∷ ps) h = below-with n p.0 (g p.0 p.1) (over_changed g ps) h.0 (changed-below g n ps h.3)

places-above : (n : ℕ) (g : ℕ → ℤ) (v m l : ℕ) → v < n + l → AllAbove v (over_places n g m l)
places-above n g v zero l h = tt
places-above n g v (suc m) l h = AllAbove-with_entry v (n + l) (g l) (over_places n g m (l + 1)) h (places-above n g v m (l + 1) (omega arith))

places-entries : (n : ℕ) (g : ℕ → ℤ) (m l : ℕ) → AreEntries (over_places n g m l)
places-entries n g zero l = tt
places-entries n g (suc m) l = AreEntries-with_entry (n + l) (g l) (over_places n g m (l + 1)) (places-above n g (n + l) m (l + 1) (omega arith)) (places-entries n g m (l + 1))

places-below : (n : ℕ) (g : ℕ → ℤ) (m l k : ℕ) → n + (l + m) ≤ k → AllBelow k (over_places n g m l)
places-below n g zero l k h = tt
places-below n g (suc m) l k h = below-with k (n + l) (g l) (over_places n g m (l + 1)) (omega arith) (places-below n g m (l + 1) k (omega arith))

forms-above : (g : Linear → ℤ) (v k : ℕ) (fs : List Linear) → v < k → AllAbove v (over_forms g k fs)
forms-above g v k [] h = tt
forms-above g v k (f ∷ fs) h = AllAbove-with_entry v k (neg_ℤ (g f)) (over_forms g (k + 1) fs) h (forms-above g v (k + 1) fs (omega arith))

forms-entries : (g : Linear → ℤ) (k : ℕ) (fs : List Linear) → AreEntries (over_forms g k fs)
forms-entries g k [] = tt
forms-entries g k (f ∷ fs) = AreEntries-with_entry k (neg_ℤ (g f)) (over_forms g (k + 1) fs) (forms-above g k (k + 1) fs (omega arith)) (forms-entries g (k + 1) fs)

forms-below : (g : Linear → ℤ) (k w : ℕ) (fs : List Linear) → k + length fs ≤ w → AllBelow w (over_forms g k fs)
forms-below g k w [] h = tt
forms-below g k w (f ∷ fs) h = below-with w k (neg_ℤ (g f)) (over_forms g (k + 1) fs) (omega arith) (forms-below g (k + 1) w fs (omega arith))

-- two lists of entries, the one in front of the other
above-append : (v : ℕ) (es fs : Entries) → AllAbove v es → AllAbove v fs → AllAbove v (es ++ fs)
above-append v [] fs h k = k
above-append v (e ∷ es) fs h k = (h.0, above-append v es fs h.1 k)

pub entries-append : (n : ℕ) (es fs : Entries) → AreEntries es → AllBelow n es → AreEntries fs → ((v : ℕ) → v < n → AllAbove v fs) → AreEntries (es ++ fs)
entries-append n [] fs h b k a = k
entries-append n (e ∷ es) fs h b k a = (above-append e.0 es fs h.0 (a e.0 b.0), h.1, entries-append n es fs h.2 b.1 k a)

below-append : (n : ℕ) (es fs : Entries) → AllBelow n es → AllBelow n fs → AllBelow n (es ++ fs)
below-append n [] fs h k = k
below-append n (e ∷ es) fs h k = (h.0, below-append n es fs h.1 k)

pub variable_row-is : (n width u : ℕ) (change : Exchange) → n ≤ width → AreWithin n change.numbers → RisesFrom 0 change.numbers → IsRow width (variable_row change u)
variable_row-is n width u change l w r = (changed-entries (gain u) 0 change.numbers r, below_weaker n width (variable_row change u) l (changed-below (gain u) n change.numbers w))

pub constant_row-is : (n locations width : ℕ) (change : Exchange) → n + locations ≤ width → AreWithin n change.numbers → RisesFrom 0 change.numbers → IsRow width (constant_row n locations change)
constant_row-is n locations width change l w r =
    let es : Entries = over_changed (λ v f. f.constant) change.numbers in
    let fs : Entries = over_places n (passage change) locations 0 in
    let b : AllBelow n es = changed-below (λ v f. f.constant) n change.numbers w in (
      entries-append n es fs (changed-entries (λ v f. f.constant) 0 change.numbers r) b (places-entries n (passage change) locations 0) (λ v k. places-above n (passage change) v locations 0 (omega arith)),
      below-append width es fs (below_weaker n width es (omega arith) b) (places-below n (passage change) locations 0 width (omega arith)),
    )

one-not_zero : pos 1 ≢ pos 0
one-not_zero e = absurd (cc)

pub first_variable_row-is : (k width u : ℕ) (forms : List Linear) → u < k → k + length forms ≤ width → IsRow width (first_variable_row k forms u)
first_variable_row-is k width u forms l h = (
  (forms-above (λ f. part u f.entries) u k forms l, one-not_zero, forms-entries (λ f. part u f.entries) k forms),
  (omega arith, forms-below (λ f. part u f.entries) k width forms h),
)

pub first_constant_row-is : (n locations width : ℕ) (firsts : List ℕ) (forms : List Linear) → n + locations + 1 + length forms ≤ width → IsRow width (first_constant_row n locations firsts forms)
first_constant_row-is n locations width firsts forms h =
    let k : ℕ = n + locations + 1 in
    let es = over_places n (λ l. presence (is_listed l firsts)) locations 0 in
    let fs : Entries = (n + locations, pos 1) ∷ over_forms (λ f. f.constant) k forms in (
      entries-append (n + locations) es fs (places-entries n _ locations 0) (places-below n _ locations 0 (n + locations) (omega arith))
          (forms-above (λ f. f.constant) (n + locations) k forms (omega arith), one-not_zero, forms-entries (λ f. f.constant) k forms)
          (λ v l. (l, forms-above (λ f. f.constant) v k forms (omega arith))),
      below-append width es fs (places-below n _ locations 0 width (omega arith)) (omega arith, forms-below (λ f. f.constant) k width forms h),
    )

row-with : (width : ℕ) (r : Entries) (rows : List Entries) → IsRow width r → AllMeet (IsRow width) rows → AllMeet (IsRow width) (with_row r rows)
row-with width [] rows h k = k
row-with width (e ∷ es) rows h k = (h, k)

rows-with : (width n : ℕ) (make : ℕ → Entries) (m u : ℕ) (rows : List Entries) → u + m ≤ n → ((v : ℕ) → v < n → IsRow width (make v)) → AllMeet (IsRow width) rows → AllMeet (IsRow width) (variable_rows make m u rows)
rows-with width n make zero u rows l f h = h
rows-with width n make (suc m) u rows l f h = row-with width (make u) (variable_rows make m (u + 1) rows) (f u (omega arith)) (rows-with width n make m (u + 1) rows (omega arith) f h)

mode-rows : (width n locations : ℕ) (ms : List PlainMode) (rows : List Entries) → n + locations ≤ width → ModesWithin n ms → AllMeet (IsRow width) rows → AllMeet (IsRow width) (mode_rows n locations ms rows)
mode-rows width n locations [] rows l w h = h
mode-rows width n locations (m ∷ ms) rows l w h =
    rows-with width n (variable_row m.change) n 0 _ (omega arith) (λ v k. variable_row-is n width v m.change (omega arith) w.0 w.1)
    (row-with width (constant_row n locations m.change) (mode_rows n locations ms rows) (constant_row-is n locations width m.change l w.0 w.1) (mode-rows width n locations ms rows l w.2 h))

pub rows-are : (system : System) → SystemWithin system → AllMeet (IsRow (width_of system)) (rows_of system)
rows-are system w =
    let n = variables_of system in
    let k = width_of system in
    mode-rows k n system.locations (modes_of system) _ (omega arith) w.modes
    (rows-with k n (first_variable_row (n + system.locations + 1) (start_forms system)) n 0 _ (omega arith)
    (λ v l. first_variable_row-is (n + system.locations + 1) k v (start_forms system) (omega arith) (omega arith))
    (row-with k (first_constant_row n system.locations (start_places system) (start_forms system)) [] (first_constant_row-is n system.locations k (start_places system) (start_forms system) (omega arith)) tt))

pub the-basis : (system : System) (bs : List Entries) → IsSystem system → basis_of system ≡ Some bs → IsBasis (IsInductive system) (columns_of system) bs
the-basis system bs s e =
    let w = system-within system s in
    basis-space system bs w (basis-is (width_of system) (columns_of system) (rows_of system) bs (rows-are system w) e)
