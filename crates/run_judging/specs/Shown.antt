-- What the lists of a course show of an observation.
use Rattle.std.specs.Prelude.{◌≡◌, ℕ, suc, ◌≤◌, List, Bool, ℤ, map, length, slice_get}
use Rattle.std.specs.declared.vec.Vec.{Vec}
use Rattle.std.specs.declared.alloc.Global.{Global}
use Rattle.std.specs.declared.option.Option.TheVariants.{Some}
use Rattle.observations.specs.Observation.{Observation, moment_at, state_at, name_at, last}
use Rattle.run_judging.specs.Rows.{flags_at}
use Rattle.run_judging.specs.declared.course.Course.{Course}

-- the course has the fairness of each name, which names are enabled in each state, and the name of each step
pub record Shows {S : Type 0} (c : Course) (o : Observation S) : Type 0 where
  pub fairness : o.fairness ≡ c.fairness.items
  pub long : length c.enabled.items ≡ suc (last o)
  pub enabled : (k : ℕ) → k ≤ last o → (moment_at o k).enabled ≡ flags_at c.enabled.items k
  pub taken : (k : ℕ) → name_at o.later k ≡ slice_get c.taken.items k

-- for each state of the observation a flag, whether the formula holds there
pub record AreFlags {S : Type 0} (p : S → Bool) (o : Observation S) (flags : List Bool) : Type 0 where
  pub long : length flags ≡ suc (last o)
  pub each : (k : ℕ) → k ≤ last o → slice_get flags k ≡ Some (p (state_at o k))

-- for each state of the observation a number, the value of the expression there
pub record AreValues {S : Type 0} (e : S → ℤ) (o : Observation S) (values : List ℤ) : Type 0 where
  pub long : length values ≡ suc (last o)
  pub each : (k : ℕ) → k ≤ last o → slice_get values k ≡ Some (e (state_at o k))

-- for each state of the observation a row of flags, whether each of the formulas holds there
pub record AreRows {S : Type 0} (forms : List (S → Bool)) (o : Observation S) (rows : List (Vec Bool Global)) : Type 0 where
  pub long : length rows ≡ suc (last o)
  pub each : (k : ℕ) → k ≤ last o → flags_at rows k ≡ map (λ f. f (state_at o k)) forms
