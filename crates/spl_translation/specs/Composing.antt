-- The compositions of a group's paths, made while going along its statements.
--
-- What is composed so far goes through a statement in as many ways as the statement has paths; a path whose numbers grow
-- past written ones is dropped. A theorem in `proofs/` says that this gives the composition of each path, in order.
use Rattle.std.specs.Prelude.{ℕ, true, false, List, [], ◌∷◌, ◌++◌, flat_map, map, Option, Some, None, option_and_then}
use Rattle.std.specs.Option.{option_map}
use Rattle.st_linear.specs.Linear.{Linear, replaced}
use Rattle.st_form.specs.Formula.{Formula, every, formulas}
use Rattle.st_form.specs.Exchange.{Exchange, exchanged}
use Rattle.st_form.specs.Plain.{plain}
use Rattle.st_program.specs.Tree.{Term, number, truth, Piece, Pieces, piece_skip, piece_assign, piece_await, piece_if, no_piece, piece}
use Rattle.st_program.specs.Groups.{tested, if_written, Composed, exchange_of, composed_link}
use Rattle.transition_system.specs.Systems.{PlainMode}
use Rattle.spl_translation.specs.declared.composing.Composed as GComposed
use Rattle.spl_translation.specs.Translation.{moving, number_put, truth_put}
use Rattle.spl_translation.specs.Making.{plain_truths}

abbrev pub listed : {X : Type 0} → Option X → List X
listed None = []
listed (Some x) = x ∷ []

-- a right side over the store before the step; its numbers stay as small as written ones
abbrev pub term_before : Exchange → Term → Option Term
term_before x (number f) = option_map number (option_and_then if_written (replaced x.numbers f))
term_before x (truth f) = option_map truth (exchanged x f)

abbrev pub terms_before : Exchange → List (ℕ × Term) → Option (List (ℕ × Term))
terms_before x [] = Some []
terms_before x (t ∷ ts) = option_and_then (λ term. option_map (λ rest. (t.0, term) ∷ rest) (terms_before x ts)) (term_before x t.1)

-- values put one after another
abbrev pub put_numbers : List (ℕ × Term) → List (ℕ × Linear) → List (ℕ × Linear)
put_numbers [] ns = ns
put_numbers (x ∷ xs) ns = put_numbers xs (number_put x.0 x.1 ns)

abbrev pub put_truths : List (ℕ × Term) → List (ℕ × Formula) → List (ℕ × Formula)
put_truths [] ts = ts
put_truths (x ∷ xs) ts = put_truths xs (truth_put x.0 x.1 ts)

abbrev pub put_in : List (ℕ × Term) → Composed → Composed
put_in ts c = record { tests = c.tests; numbers = put_numbers ts c.numbers; truths = put_truths ts c.truths }

-- behind an assignment: all right sides are read, and then they are put
abbrev pub behind_assignment : List (ℕ × Term) → Composed → Option Composed
behind_assignment xs c = option_map (λ ts. put_in ts c) (terms_before (exchange_of c) xs)

abbrev mutual
  pub onward : Piece → Composed → List Composed
  onward piece_skip c = c ∷ []
  onward (piece_assign xs) c = listed (behind_assignment xs c)
  onward (piece_await t) c = listed (composed_link (tested t true) c)
  onward (piece_if t y n) c =
      flat_map (onward_along y) (listed (composed_link (tested t true) c)) ++ flat_map (onward_along n) (listed (composed_link (tested t false) c))

  pub onward_along : Pieces → Composed → List Composed
  onward_along no_piece c = c ∷ []
  onward_along (piece x xs) c = flat_map (onward_along xs) (onward x c)

-- the mode of a composition
abbrev pub composed_mode : ℕ → ℕ → Composed → PlainMode
composed_mode l next c = moving (l ∷ []) (every (formulas c.tests)) c.numbers c.truths (next ∷ [])

abbrev pub plain_composed : GComposed.Composed → Composed
plain_composed c = record {
  tests = map plain c.tests.items;
  numbers = c.values.numbers.items;
  truths = plain_truths c.values.truths.items;
}
