-- When it can be told whether a mode or a transition can be taken in a state that is shown.
use Rattle.std.specs.Prelude.{Bool, not, ◌&&◌}
use Rattle.std.specs.List.{list_any, list_all}
use Rattle.spl_semantics.specs.Data.{store_of}
use Rattle.spl_semantics.specs.Limits.{wide_formula}
use Rattle.transition_system.specs.Systems.{PlainMode, PlainTransition}
use Rattle.transition_system.specs.Meaning.{can_go}
use Rattle.shown_states.specs.declared.pictures.Picture.{Picture}
use Rattle.shown_states.specs.Pictures.{seen}

-- control is at the mode's locations, and a number on the way to its guard is too large
abbrev pub wide_mode : PlainMode → Picture → Bool
wide_mode m p = list_all (λ l. (seen p).located l) m.at && wide_formula m.guard (store_of p.store.items)

-- the mode can be taken, and no number is too large to tell
abbrev pub surely_goes : PlainMode → Picture → Bool
surely_goes m p = not (wide_mode m p) && can_go m (seen p)

-- no mode surely goes, and of some it can't be told
abbrev pub wide_transition : PlainTransition → Picture → Bool
wide_transition t p = not (list_any (λ m. surely_goes m p) t.modes) && list_any (λ m. wide_mode m p) t.modes
