-- What names a transition: the label of a statement, and for a cooperation also which part it is.
use Rattle.std.specs.Prelude.{ℕ, suc, Bool, true, false, cond, if◌then◌else◌, ◌==◌, ◌&&◌, List, [], ◌∷◌, slice_get, Option, Some, None, Ok, Err}
use Rattle.std.specs.Option.{option_map, option_and_then}
use Rattle.st_tokens.specs.Stream.{Stream, behind}
use Rattle.st_reading.specs.declared.mark.Mark.TheVariants as marks
use Rattle.st_reading.specs.Sign.{is}
use Rattle.st_reading.specs.Reading.{ahead, name_of, is_name, refusal, named, then_reads, on_operator}
use Rattle.st_reading.specs.Rule as rules
use Rattle.st_reading.specs.Breaches.{broke, Reader, present}
use Rattle.st_form.specs.declared.conditions.Part.{Part}
use Rattle.st_form.specs.declared.conditions.Part.TheVariants.{Whole, Entry, Exit}
use Rattle.st_form.specs.declared.conditions.TransName.{TransName}
use Rattle.st_form.specs.declared.conditions.TransName.TheVariants.{Idle, Step}
use Rattle.st_program.specs.Names.{Names}
use Rattle.observations.specs.declared.Fairness.{Fairness}
use Rattle.observations.specs.declared.Fairness.TheVariants.{Unfair, Just, Compassionate}
use Rattle.transition_system.specs.Systems.{PlainTransition, System}
use Rattle.rule_fits.specs.Fitting.{fairness_of}
use Rattle.assertions.specs.Labels.{labelled, part_named}

abbrev pub same_part : Part → Part → Bool
same_part Whole Whole = true
same_part Entry Entry = true
same_part Exit Exit = true
same_part _ _ = false

-- the name is that of a part of the statement with this occurrence
abbrev pub is_step : ℕ → Part → TransName → Bool
is_step occ part Idle = false
is_step occ part (Step o p) = (o == occ) && same_part p part

-- the number of the transition that is that part of the statement, counted from 0
abbrev pub number_of : ℕ → Part → List PlainTransition → Option ℕ
number_of occ part [] = None
number_of occ part (t ∷ ts) = if is_step occ part t.name then Some 0 else option_map suc (number_of occ part ts)

-- the number of the transition that is that part of the statement with this label
abbrev pub transition_named : Names → System → List ℕ → Part → Option ℕ
transition_named names system label part = option_and_then (λ occ. number_of occ part system.transitions) (labelled names label)

-- justice is owed; a compassionate transition is just as well
abbrev pub owes_justice : Option Fairness → Bool
owes_justice None = false
owes_justice (Some Unfair) = false
owes_justice (Some Just) = true
owes_justice (Some Compassionate) = true

-- the transition with this number is just
abbrev pub is_just : System → ℕ → Bool
is_just system number = owes_justice (slice_get (fairness_of system) number)

abbrev pub part_at : Stream → Option Part
part_at s = cond (is_name (ahead s)) (part_named (name_of s).text) None

-- "entry" or "exit"
unfoldable pub suffix_of : Reader Part
suffix_of s = on_operator (part_at s) (Err (refusal s)) (λ part. Ok (part, behind s))

-- [ "." ( "entry" | "exit" ) ]
unfoldable pub part_of : Reader Part
part_of s = cond (is (ahead s) marks.Dot) (suffix_of (behind s)) (Ok (Whole, s))

-- name [ "." ( "entry" | "exit" ) ]: the number of the transition, and the place of its first token
unfoldable pub transition_of : Names → System → Reader (ℕ × ℕ)
transition_of names system s =
    then_reads named (λ l. then_reads part_of (λ part. present (broke rules.UnknownTransition l.place) (option_map (λ n. (n, l.place)) (transition_named names system l.text part)))) s
