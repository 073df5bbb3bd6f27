-- What is judged of a goal, from lists of what its formulas are in the states of a run.
use Rattle.std.proofs.Common.{◌≡◌, ℕ, zero, suc, ◌≤◌, ◌<◌, Bool, false, List, [], ◌∷◌, length, map, ℤ, Option, Some, None, Result, Ok, Err, IfOk, refl, ap, ◌∙◌, sym, arith}
use Rattle.std.specs.Prelude.{◌||◌, min, slice_get}
use Rattle.std.proofs.lemmas.List.{length-map}
use Rattle.std.specs.declared.vec.Vec.{Vec}
use Rattle.std.specs.declared.alloc.Global.{Global}
use Rattle.st_linear.specs.Linear.{Linear, value}
use Rattle.st_form.specs.Formula.{Formula, Situation}
use Rattle.st_form.specs.Exchange.{is_listed}
use Rattle.st_form.specs.declared.conditions.TransName.{TransName}
use Rattle.observations.specs.Observation.{Moment, Observation, state_at, last}
use Rattle.st_program.specs.Tree.{Processes}
use Rattle.st_program.specs.declared.residuals.State as GState
use Rattle.spl_semantics.specs.Stores.{situation}
use Rattle.spl_semantics.specs.Data.{store_of}
use Rattle.spl_semantics.specs.Limits.{wide_form}
use Rattle.spl_semantics.specs.Plain.{plain_state}
use Rattle.spl_semantics.specs.Runs.{State, control, image, place_of}
use Rattle.spl_semantics.specs.Observed.{observed, seen}
use Rattle.temporal_goals.specs.Texts.{PlainGoal, invariant, waiting, response}
use Rattle.temporal_goals.specs.Meaning.{test_of, number_of}
use Rattle.run_judging.specs.Judging.{IsFirstFailure}
use Rattle.run_judging.specs.Rows.{flags_at}
use Rattle.run_judging.specs.Shown.{AreFlags, AreValues, AreRows}
use Rattle.run_judging.specs.declared.judged.Judged.TheVariants.{Unclear}
use Rattle.trace_player.specs.declared.runs.Played.{Played}
use Rattle.trace_player.specs.Playing.{states_of, IsPlayed}
use Rattle.trace_player.specs.Judgements.{wide_goal, store_in, IsClear, GoalFrom, JudgedOn, judged_by}
use Rattle.trace_player.specs.Columns.{states_in, sights, stores, column, is_wide_formula, some_wide, row_of}
use Rattle.trace_player.proofs.Clear.{clear, column-long, clear-within, clear-or, column-map, before-clear, at-clear, state-there, states-long, each-long, each-value}

abbrev pub wide_in : PlainGoal → Situation → Bool
wide_in g x = wide_goal g (store_in x)

module _ (g : PlainGoal) (o : Observation Situation) (n : ℕ) (is : n ≡ clear (wide_in g) (states_in o)) where
  before : (j : ℕ) → j < n → j ≤ last o → wide_in g (state_at o j) ≡ false
  before j h le = before-clear (wide_in g) (states_in o) j (state_at o j) (omega (arith, h, is)) (state-there o j le)

  -- the goal is unclear behind the states that are clear
  pub unclear : n < length (states_in o) → JudgedOn g o (Unclear n)
  unclear h =
      let le : n ≤ last o = omega (arith, h, states-long o) in (
        le,
        at-clear (wide_in g) (states_in o) (state_at o n) (ap (slice_get (states_in o)) (sym is) ∙ state-there o n le),
        λ j lt. before j lt (omega (arith, lt, le)),
      )

  pub all-clear : length (states_in o) ≤ n → IsClear g o
  all-clear h i le = before i (omega (arith, h, le, states-long o)) le

-- a goal that is clear, from where it first fails
pub judged : (g : PlainGoal) (o : Observation Situation) (failure : Option ℕ) → IsClear g o → IsFirstFailure (suc (last o)) (GoalFrom g o) failure → JudgedOn g o (judged_by failure)
judged g o (Some i) h k = (h, (let lt = k.0 in omega (arith, lt)), k.1, k.2)
judged (invariant p) o None h k = (h, λ i le. k i (omega (arith, le)))
judged (waiting p forms) o None h k = (h, λ i le. k i (omega (arith, le)))
judged (response p q bound) o None h k = (h, λ i le. k i (omega (arith, le)))

pub column-within : {B : Type 0} (wide : Situation → Bool) (value : Situation → B) (xs : List Situation) (ys : List B) → ys ≡ column wide value xs → length ys ≤ length xs
column-within wide value xs ys is = let within = clear-within wide xs in omega (arith, within, ap length is, column-long wide value xs)

pub same-length : (rows : List (Vec Bool Global)) → length (map (λ (r : Vec Bool Global). r.items) rows) ≡ length rows
same-length rows = length-map rows (λ (r : Vec Bool Global). r.items)

-- lists of values of the formulas and of the bound
module _ (o : Observation Situation) (xs : List Situation) (seen_are : states_in o ≡ xs) where
  pub count : {B : Type 0} (wide : Situation → Bool) (value : Situation → B) (ys : List B) → ys ≡ column wide value xs → length ys ≡ clear wide (states_in o)
  count wide value ys is = ap length is ∙ column-long wide value xs ∙ ap (clear wide) (sym seen_are)

  -- a goal is clear as far as each of its lists goes
  pub clear-invariant : (p : Formula) (ps : List Bool) → ps ≡ column (is_wide_formula p) (test_of p) xs → length ps ≡ clear (wide_in (invariant p)) (states_in o)
  clear-invariant p ps p_is = count (is_wide_formula p) (test_of p) ps p_is

  pub clear-waiting : (p : Formula) (fs : List Formula) (ps : List Bool) (rows : List (Vec Bool Global)) → ps ≡ column (is_wide_formula p) (test_of p) xs
      → map (λ r. r.items) rows ≡ column (some_wide fs) (row_of fs) xs → min (length ps) (length rows) ≡ clear (wide_in (waiting p fs)) (states_in o)
  clear-waiting p fs ps rows p_is rows_are =
      ap (λ a. min a (length rows)) (count (is_wide_formula p) (test_of p) ps p_is)
      ∙ ap (min (clear (is_wide_formula p) (states_in o))) (sym (same-length rows) ∙ count (some_wide fs) (row_of fs) _ rows_are)
      ∙ clear-or (is_wide_formula p) (some_wide fs) (states_in o)

  pub clear-response : (p q : Formula) (bound : Linear) (ps qs : List Bool) (bs : List ℤ) → ps ≡ column (is_wide_formula p) (test_of p) xs → qs ≡ column (is_wide_formula q) (test_of q) xs
      → bs ≡ column (λ x. wide_form bound (store_in x)) (number_of bound) xs → min (length ps) (min (length qs) (length bs)) ≡ clear (wide_in (response p q bound)) (states_in o)
  clear-response p q bound ps qs bs p_is q_is b_is =
      ap (λ a. min a (min (length qs) (length bs))) (count (is_wide_formula p) (test_of p) ps p_is)
      ∙ ap (λ b. min (clear (is_wide_formula p) (states_in o)) (min b (length bs))) (count (is_wide_formula q) (test_of q) qs q_is)
      ∙ ap (λ b. min (clear (is_wide_formula p) (states_in o)) (min (clear (is_wide_formula q) (states_in o)) b)) (count (λ x. wide_form bound (store_in x)) (number_of bound) bs b_is)
      ∙ ap (min (clear (is_wide_formula p) (states_in o))) (clear-or (is_wide_formula q) (λ x. wide_form bound (store_in x)) (states_in o))
      ∙ clear-or (is_wide_formula p) (λ x. is_wide_formula q x || wide_form bound (store_in x)) (states_in o)

  pub flags-are : (f : Formula) (ys : List Bool) → ys ≡ column (is_wide_formula f) (test_of f) xs → length xs ≤ length ys → AreFlags (test_of f) o ys
  flags-are f ys is all =
      let is' = is ∙ ap (column (is_wide_formula f) (test_of f)) (sym seen_are) in
      let all' : length (states_in o) ≤ length ys = omega (arith, all, ap length seen_are) in
      record { long = each-long (is_wide_formula f) (test_of f) o ys is' all'; each = each-value (is_wide_formula f) (test_of f) o ys is' all' }

  pub values-are : (f : Linear) (ys : List ℤ) → ys ≡ column (λ x. wide_form f (store_in x)) (number_of f) xs → length xs ≤ length ys → AreValues (number_of f) o ys
  values-are f ys is all =
      let is' = is ∙ ap (column (λ x. wide_form f (store_in x)) (number_of f)) (sym seen_are) in
      let all' : length (states_in o) ≤ length ys = omega (arith, all, ap length seen_are) in
      record { long = each-long (λ x. wide_form f (store_in x)) (number_of f) o ys is' all'; each = each-value (λ x. wide_form f (store_in x)) (number_of f) o ys is' all' }

  pub rows-are : (fs : List Formula) (rows : List (Vec Bool Global)) → map (λ r. r.items) rows ≡ column (some_wide fs) (row_of fs) xs → length xs ≤ length rows → AreRows (map test_of fs) o rows
  rows-are fs rows is all =
      let is' = is ∙ ap (column (some_wide fs) (row_of fs)) (sym seen_are) in
      let all' : length (states_in o) ≤ length (map (λ (r : Vec Bool Global). r.items) rows) = omega (arith, all, ap length seen_are, same-length rows) in
      record {
        long = sym (same-length rows) ∙ each-long (some_wide fs) (row_of fs) o _ is' all';
        each = λ k le. row-at rows k _ (each-value (some_wide fs) (row_of fs) o _ is' all' k le) ∙ tests fs (state_at o k);
      }
    where
      row-at : (rows : List (Vec Bool Global)) (k : ℕ) (row : List Bool) → slice_get (map (λ (r : Vec Bool Global). r.items) rows) k ≡ Some row → flags_at rows k ≡ row
      row-at [] k row e = cc
      row-at (r ∷ rows) zero row e = cc
      row-at (r ∷ rows) (suc k) row e = row-at rows k row e

      tests : (fs : List Formula) (x : Situation) → row_of fs x ≡ map (λ f. f x) (map test_of fs)
      tests [] x = refl
      tests (f ∷ fs) x = ap (λ l. test_of f x ∷ l) (tests fs x)

-- what is seen of each state of a run that was played
abbrev first : List (List ℕ) → List ℕ
first [] = []
first (l ∷ ls) = l

abbrev others : List (List ℕ) → List (List ℕ)
others [] = []
others (l ∷ ls) = ls

module _ (p : Processes) where
  sights-images : (ss : List GState.State) (fs : List (Vec ℕ Global)) → map (λ f. f.items) fs ≡ map (λ s. control p (plain_state s)) ss → sights ss fs ≡ map (image p) (map plain_state ss)
  sights-images [] fs h = refl
  sights-images (s ∷ ss) [] h = cc
  sights-images (s ∷ ss) (f ∷ fs) h =
      ap (λ l. situation (store_of s.store.items) (λ x. is_listed x l) ∷ sights ss fs) (ap first h)
      ∙ ap (λ l. image p (plain_state s) ∷ l) (sights-images ss fs (ap others h))

  images : (s : State) (later : List (TransName × State)) → states_in (observed p s later) ≡ map (image p) (states_of s later)
  images s later = ap (λ l. image p s ∷ l) (behind later)
    where
      behind : (later : List (TransName × State)) → map (λ (x : ℕ × Moment Situation). x.1.state) (map (λ (step : TransName × State). (place_of p step.0, seen p step.1)) later) ≡ map (image p) (map (λ (step : TransName × State). step.1) later)
      behind [] = refl
      behind (step ∷ later) = ap (λ l. image p step.1 ∷ l) (behind later)

  pub seen-played : (s : State) (later : List (TransName × State)) (ss : List GState.State) (fs : List (Vec ℕ Global)) → map plain_state ss ≡ states_of s later
      → map (λ f. f.items) fs ≡ map (λ s. control p (plain_state s)) ss → states_in (observed p s later) ≡ sights ss fs
  seen-played s later ss fs played fronts = images s later ∙ ap (map (image p)) (sym played) ∙ sym (sights-images ss fs fronts)

-- what is seen in a run is what the code sees
pub seen-here : (p : Processes) (s : State) (later : List (TransName × State)) (played : Played) → IsPlayed p s later played → (ss read : List GState.State) (fs fronts : List (Vec ℕ Global))
    → ss ≡ played.states.items → read ≡ played.states.items → fs ≡ fronts → map (λ f. f.items) fronts ≡ map (λ s. control p (plain_state s)) read → states_in (observed p s later) ≡ sights ss fs
seen-here p s later played is ss read fs fronts ss_are read_are fs_are made =
    seen-played p s later ss fs (ap (map plain_state) ss_are ∙ is.states)
    (ap (map (λ f. f.items)) fs_are ∙ made ∙ ap (map (λ s. control p (plain_state s))) (read_are ∙ sym ss_are))

-- what a call promises of a judgement
pub if-ok : {A E : Type 0} (r : Result A E) (P Q : A → Type 0) → ((x : A) → P x → Q x) → IfOk r P → IfOk r Q
if-ok (Ok x) P Q f h = f x h
if-ok (Err e) P Q f h = tt

pub sights-long : (ss : List GState.State) (fs : List (Vec ℕ Global)) → length fs ≡ length ss → length (sights ss fs) ≡ length ss
sights-long [] fs h = refl
sights-long (s ∷ ss) [] h = absurd (omega (arith, h))
sights-long (s ∷ ss) (f ∷ fs) h = ap suc (sights-long ss fs (omega (arith, h)))

stores-seen : (ss : List GState.State) (fs : List (Vec ℕ Global)) → length fs ≡ length ss → stores ss ≡ map store_in (sights ss fs)
stores-seen [] fs h = refl
stores-seen (s ∷ ss) [] h = absurd (omega (arith, h))
stores-seen (s ∷ ss) (f ∷ fs) h = ap (λ l. store_of s.store.items ∷ l) (stores-seen ss fs (omega (arith, h)))

pub numbers-seen : (f : Linear) (ss : List GState.State) (fs : List (Vec ℕ Global)) → length fs ≡ length ss
    → column (λ s. wide_form f s) (λ s. value s.numbers f) (stores ss) ≡ column (λ x. wide_form f (store_in x)) (number_of f) (sights ss fs)
numbers-seen f ss fs h =
    ap (column (λ s. wide_form f s) (λ s. value s.numbers f)) (stores-seen ss fs h)
    ∙ column-map store_in (λ s. wide_form f s) (λ s. value s.numbers f) (sights ss fs)
