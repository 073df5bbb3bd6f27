-- The lists of a run show what is observed of it.
use Rattle.std.proofs.Common.{◌≡◌, ℕ, zero, suc, ◌+◌, ◌<◌, ◌≤◌, Bool, List, [], ◌∷◌, ◌++◌, append_assoc, length, map, drop, get_or, refl, ap, ◌∙◌, sym, arith}
use Rattle.std.specs.Prelude.{slice_get}
use Rattle.std.proofs.lemmas.List.{length-map, map-append, drop_more}
use Rattle.std.specs.declared.vec.Vec.{Vec}
use Rattle.std.specs.declared.alloc.Global.{Global}
use Rattle.observations.specs.declared.Fairness.{Fairness}
use Rattle.observations.specs.Observation.{Moment, moment_after, name_at}
use Rattle.st_form.specs.Formula.{Situation}
use Rattle.st_form.specs.declared.conditions.TransName.{TransName}
use Rattle.st_program.specs.Tree.{Processes}
use Rattle.spl_semantics.specs.Names.{all_names}
use Rattle.spl_semantics.specs.Runs.{State, place_in, place_of}
use Rattle.spl_semantics.specs.Observed.{is_enabled, seen, observed}
use Rattle.run_judging.specs.Rows.{flags_at}
use Rattle.run_judging.specs.Shown.{Shows}
use Rattle.run_judging.specs.declared.course.Course.{Course}
use Rattle.trace_player.specs.declared.runs.Played.{Played}
use Rattle.trace_player.specs.Playing.{states_of, is_among, AreEnabled, IsPlayed}
use Rattle.trace_player.specs.Courses.{as_flags, are_rows}

abbrev pub plain_rows : List (Vec Bool Global) → List (List Bool)
plain_rows rows = map (λ r. r.items) rows

pub rows_next : (names : List (TransName × Fairness)) (enabled : List (Vec TransName Global)) (i : ℕ) → i < length enabled → (row : Vec TransName Global) → row ≡ get_or enabled i row
    → (rows after : List (Vec Bool Global)) (flags : Vec Bool Global) (whole : List (List Bool)) → after ≡ rows ++ flags ∷ [] → flags.items ≡ as_flags names row
    → plain_rows rows ++ are_rows names (drop i enabled) ≡ whole → plain_rows after ++ are_rows names (drop (i + 1) enabled) ≡ whole
rows_next names enabled i within row is rows after flags whole made flags_are h =
    let rest = are_rows names (drop (i + 1) enabled) in
    ap (λ l. plain_rows l ++ rest) made
    ∙ ap (λ l. l ++ rest) (map-append (λ (r : Vec Bool Global). r.items) rows (flags ∷ []))
    ∙ append_assoc (plain_rows rows) (flags.items ∷ []) rest
    ∙ ap (λ f. plain_rows rows ++ f ∷ rest) (flags_are ∙ ap (as_flags names) is)
    ∙ ap (λ l. plain_rows rows ++ are_rows names l) (sym (drop_more enabled i row within))
    ∙ h

module _ (p : Processes) where
  abbrev step_seen : TransName × State → ℕ × Moment Situation
  step_seen step = (place_of p step.0, seen p step.1)

  same_flags : (s : State) (row : Vec TransName Global) → ((name : TransName) → is_among name row.items ≡ is_enabled p s name)
      → (names : List (TransName × Fairness)) → as_flags names row ≡ map (λ n. is_enabled p s n.0) names
  same_flags s row h [] = refl
  same_flags s row h (n ∷ names) = ap (λ b. b ∷ as_flags names row) (h n.0) ∙ ap (λ l. is_enabled p s n.0 ∷ l) (same_flags s row h names)

  abbrev first_row : List (List Bool) → List Bool
  first_row [] = []
  first_row (r ∷ rs) = r

  abbrev rest_rows : List (List Bool) → List (List Bool)
  rest_rows [] = []
  rest_rows (r ∷ rs) = rs

  rows_show : (s : State) (later : List (TransName × State)) (enabled : List (Vec TransName Global)) (rows : List (Vec Bool Global)) → AreEnabled p (states_of s later) enabled
      → plain_rows rows ≡ are_rows (all_names p) enabled → (k : ℕ) → k ≤ length later → (moment_after (seen p s) (map step_seen later) k).enabled ≡ flags_at rows k
  rows_show s later [] rows h e k le = absurd h
  rows_show s later (row ∷ enabled) [] h e k le = cc
  rows_show s [] (row ∷ enabled) (r ∷ rows) h e zero le = sym (ap first_row e ∙ same_flags s row h.0 (all_names p))
  rows_show s [] (row ∷ enabled) (r ∷ rows) h e (suc k) le = absurd (omega (arith, le))
  rows_show s (step ∷ later) (row ∷ enabled) (r ∷ rows) h e zero le = sym (ap first_row e ∙ same_flags s row h.0 (all_names p))
  rows_show s (step ∷ later) (row ∷ enabled) (r ∷ rows) h e (suc k) le = rows_show step.1 later enabled rows h.1 (ap rest_rows e) k (omega (arith, le))

  names_show : (later : List (TransName × State)) (k : ℕ) → name_at (map step_seen later) k ≡ slice_get (map (λ name. place_in (all_names p) name) (map (λ step. step.0) later)) k
  names_show [] k = refl
  names_show (step ∷ later) zero = refl
  names_show (step ∷ later) (suc k) = names_show later k

  pub rows_long : (ss : List State) (enabled : List (Vec TransName Global)) → AreEnabled p ss enabled → length enabled ≡ length ss
  rows_long [] [] h = refl
  rows_long [] (row ∷ enabled) h = absurd h
  rows_long (s ∷ ss) [] h = absurd h
  rows_long (s ∷ ss) (row ∷ enabled) h = ap suc (rows_long ss enabled h.1)

  pub same_length : (names : List (TransName × Fairness)) (rows : List (Vec Bool Global)) (enabled : List (Vec TransName Global)) → plain_rows rows ≡ are_rows names enabled → length rows ≡ length enabled
  same_length names rows enabled e = sym (length-map rows (λ (r : Vec Bool Global). r.items)) ∙ ap length e ∙ length-map enabled (as_flags names)

  pub course_shows : (c : Course) (names : List (TransName × Fairness)) (played : Played) → names ≡ all_names p → c.fairness.items ≡ map (λ n. n.1) names → plain_rows c.enabled.items ≡ are_rows names played.enabled.items
      → c.taken.items ≡ map (λ name. place_in names name) played.names.items → (s : State) (later : List (TransName × State)) → IsPlayed p s later played → Shows c (observed p s later)
  course_shows c names played is fair rows taken s later h =
      let steps : length (map step_seen later) ≡ length later = length-map later step_seen in
      let states : length (states_of s later) ≡ suc (length later) = ap suc (length-map later (λ (step : TransName × State). step.1)) in
      let rows' : plain_rows c.enabled.items ≡ are_rows (all_names p) played.enabled.items = rows ∙ ap (λ l. are_rows l played.enabled.items) is in
      record {
        fairness = sym (fair ∙ ap (map (λ n. n.1)) is);
        long = same_length names c.enabled.items played.enabled.items rows ∙ rows_long (states_of s later) played.enabled.items h.enabled ∙ states ∙ ap suc (sym steps);
        enabled = λ k le. rows_show s later played.enabled.items c.enabled.items h.enabled rows' k (omega (arith, le, steps));
        taken = λ k. names_show later k ∙ sym (ap (λ l. slice_get l k) (taken ∙ ap (λ l. map (λ name. place_in l name) played.names.items) is ∙ ap (map (λ name. place_in (all_names p) name)) h.names));
      }
