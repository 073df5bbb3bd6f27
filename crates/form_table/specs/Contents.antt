-- A table as callers see it: its formulas, and the decisions under which they may be asked for.
use Rattle.std.specs.Prelude.{◌≡◌, ℕ, Bool, List, [], Option, slice_index_or}
use Rattle.st_form.specs.Formula.{Formula}
use Rattle.st_form.specs.Simple.{Decided, tabled}
use Rattle.form_table.specs.Table.{Extends}
use Rattle.form_table.specs.Nodes.{Kept, formulas_in}

-- what is decided of boolean variables and of being at locations, by number
pub record Choice : Type 0 where
  pub truths : List (Option Bool)
  pub places : List (Option Bool)

abbrev pub no_choice : Choice
no_choice = record { truths = []; places = [] }

abbrev pub decided : Choice → Decided
decided c = tabled c.truths c.places

-- what the decision with this number says
abbrev pub decision_at : List Choice → ℕ → Decided
decision_at cs i = decided (slice_index_or cs i no_choice)

pub record Contents : Type 0 where
  pub kept : Kept
  pub decisions : List Choice

abbrev pub formulas_of : Contents → List Formula
formulas_of t = formulas_in t.kept

-- formulas are added, and the decisions stay
pub record Grows (old new : Contents) : Type 0 where
  pub formulas : Extends (formulas_of old) (formulas_of new)
  pub decisions : new.decisions ≡ old.decisions
