-- The rules of schedules, on trees: which are broken, in the order of the text. A rule is found broken at a token, behind which
-- nothing can mend it: `at` counts the tokens before, and the breach names the place.
use Rattle.std.specs.Prelude.{◌≡◌, ℕ, suc, ◌+◌, Bool, true, false, not, nat_lt, is_none, List, [], ◌∷◌, ◌++◌, map, length, replicate, slice_set, Option, Some, None}
use Rattle.st_reading.specs.Reading.{Label}
use Rattle.st_reading.specs.Rule as rules
use Rattle.st_reading.specs.Breaches.{Breach, broke, crowded}
use Rattle.st_reading.specs.BrokenRules.{Broken}
use Rattle.st_form.specs.declared.conditions.Part.{Part}
use Rattle.st_form.specs.declared.conditions.Part.TheVariants.{Whole}
use Rattle.st_form.specs.declared.conditions.TransName.{TransName}
use Rattle.st_form.specs.declared.conditions.TransName.TheVariants.{Idle}
use Rattle.st_program.specs.Names.{Names}
use Rattle.st_program.specs.Tree.{Processes}
use Rattle.st_program.specs.declared.residuals.Datum.{Datum}
use Rattle.expression_typer.specs.Naming.{names_of}
use Rattle.assertions.specs.Labels.{part_named}
use Rattle.schedule_reader.specs.declared.moving.Opening.{Opening}
use Rattle.schedule_reader.specs.declared.moving.Opening.TheVariants.{Idling, Label as By, Number as Numbered}
use Rattle.schedule_reader.specs.Values.{has_type}
use Rattle.schedule_reader.specs.Settings.{Settings, is_set}
use Rattle.schedule_reader.specs.Moves.{named_by}
use Rattle.schedule_reader.specs.Schedules.{PlainSchedule, all_set}
use Rattle.schedule_grammar.specs.RawSchedules.{RawValue, RawSetting, RawMove, RawSchedule, setting_size, move_size}

-- what is broken is found at the last of so many tokens
abbrev pub found_at : ℕ → Breach → Broken Breach
found_at n breach = record { found = n; fault = breach }

-- what is broken where the test holds, before others
abbrev pub breaks_where : Bool → Broken Breach → List (Broken Breach) → List (Broken Breach)
breaks_where true b bs = b ∷ bs
breaks_where false b bs = bs

-- the value that ends `at` tokens is of the variable's type
abbrev pub type_rules : ℕ → RawValue → Option (ℕ × Bool) → List (Broken Breach)
type_rules at w None = []
type_rules at w (Some v) = breaks_where (not (has_type v.1 w.datum)) (found_at at (broke rules.WrongType w.place)) []

-- what is set where the variable gets a value
abbrev pub put_value : Settings → Datum → Option (ℕ × Bool) → Settings
put_value store d None = store
put_value store d (Some v) = slice_set store v.0 (Some d)

-- how many tokens stand before what follows settings
abbrev pub behind_settings : ℕ → List RawSetting → ℕ
behind_settings at [] = at
behind_settings at (s ∷ ss) = behind_settings (at + setting_size s) ss

-- the part that is named; none where the name is that of no part
abbrev pub part_seen : Option Label → Option Part
part_seen None = Some Whole
part_seen (Some l) = part_named l.text

module _ (names : Names) where
  abbrev pub variable_of : Label → Option (ℕ × Bool)
  variable_of l = (names_of names).variable l.text

  -- the name that ends `at` tokens is that of a variable, which has no value in `store`, what was set before
  abbrev pub name_rules : Settings → ℕ → Label → Option (ℕ × Bool) → List (Broken Breach)
  name_rules store at l None = found_at at (broke rules.Unknown l.place) ∷ []
  name_rules store at l (Some v) = breaks_where (is_set store v.0) (found_at at (broke rules.Twice l.place)) []

  -- a setting behind `at` tokens
  abbrev pub setting_rules : Settings → ℕ → RawSetting → List (Broken Breach)
  setting_rules store at s = name_rules store (at + 1) s.name (variable_of s.name) ++ type_rules (at + 2 + s.value.size) s.value (variable_of s.name)

  -- what is set behind a setting
  abbrev pub put : Settings → RawSetting → Settings
  put store s = put_value store s.value.datum (variable_of s.name)

  -- what is set behind settings
  abbrev pub put_all : Settings → List RawSetting → Settings
  put_all store [] = store
  put_all store (s ∷ ss) = put_all (put store s) ss

  abbrev pub settings_rules : Settings → ℕ → List RawSetting → List (Broken Breach)
  settings_rules store at [] = []
  settings_rules store at (s ∷ ss) = setting_rules store at s ++ settings_rules (put store s) (at + setting_size s) ss

  abbrev pub nothing_set : Settings
  nothing_set = replicate (length names.variables) None

  module _ (p : Processes) where
    -- the transition that a move names
    abbrev pub transition_by : Opening → Label → Option Part → Option TransName
    transition_by Idling l part = Some Idle
    transition_by By l part = named_by names p By l part
    transition_by (Numbered n) l part = named_by names p (Numbered n) l part

    abbrev pub transition_of : RawMove → Option TransName
    transition_of m = transition_by m.opening m.first (part_seen m.part)

    -- a move behind `at` tokens and `before` moves: it names a transition, and there are less than 1,000 before it
    abbrev pub move_rules : ℕ → ℕ → RawMove → List (Broken Breach)
    move_rules before at m =
        breaks_where (is_none (transition_of m)) (found_at (at + move_size m) (broke rules.UnknownTransition m.first.place))
        (breaks_where (not (nat_lt before 1000)) (found_at (at + move_size m) (crowded m.first.place)) [])

    abbrev pub moves_rules : ℕ → ℕ → List RawMove → List (Broken Breach)
    moves_rules before at [] = []
    moves_rules before at (m ∷ ms) = move_rules before at m ++ moves_rules (suc before) (at + (move_size m + 1)) ms

    -- all rules that a schedule breaks
    abbrev pub broken_rules : RawSchedule → List (Broken Breach)
    broken_rules raw =
        settings_rules nothing_set 0 raw.settings
        ++ (breaks_where (is_none (all_set (put_all nothing_set raw.settings))) (found_at (behind_settings 0 raw.settings + 1) (broke rules.Unset raw.colons)) []
        ++ moves_rules 0 (behind_settings 0 raw.settings + 1) raw.moves)

    -- the schedule that a tree without broken rules is
    pub record IsScheduled (raw : RawSchedule) (s : PlainSchedule) : Type 0 where
      pub store : all_set (put_all nothing_set raw.settings) ≡ Some s.store
      pub moves : map transition_of raw.moves ≡ map (λ m. Some m) s.moves
