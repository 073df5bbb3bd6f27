-- Moves: each names a transition of the program, by the label or the number of a statement.
use Rattle.std.specs.Prelude.{ℕ, zero, suc, Bool, true, false, not, cond, nat_lt, if◌then◌else◌, List, [], ◌∷◌, ◌++◌, length, Option, Some, None, Ok, Err}
use Rattle.std.specs.Option.{option_map, option_and_then}
use Rattle.st_tokens.specs.Stream.{behind}
use Rattle.st_reading.specs.declared.mark.Mark.TheVariants as marks
use Rattle.st_reading.specs.declared.sign.Sign.{Sign}
use Rattle.st_reading.specs.Sign.{is}
use Rattle.st_reading.specs.Reading.{Read, Stop, other, Label, ahead, is_name, named, expected, gives, then_reads}
use Rattle.st_reading.specs.Rule as rules
use Rattle.st_reading.specs.Breaches.{Breach, broke, crowded, Reader, present, numeral_in}
use Rattle.st_form.specs.declared.conditions.Part.{Part}
use Rattle.st_form.specs.declared.conditions.Part.TheVariants.{Whole, Entry, Exit}
use Rattle.st_form.specs.declared.conditions.TransName.{TransName}
use Rattle.st_form.specs.declared.conditions.TransName.TheVariants.{Idle, Step}
use Rattle.st_program.specs.Names.{Names}
use Rattle.st_program.specs.Tree.{Action, skip, block, select, cooperate, Processes, action}
use Rattle.st_program.specs.Spots.{statement_at}
use Rattle.assertions.specs.Labels.{labelled, part_named}
use Rattle.schedule_reader.specs.declared.moving.Opening.{Opening}
use Rattle.schedule_reader.specs.declared.moving.Opening.TheVariants.{Idling, Label as By, Number}

-- what a move begins with
abbrev pub opening_in : Sign → Option Opening
opening_in g = cond (is g marks.Minus) (Some Idling) (cond (is_name g) (Some By) (option_map Number (numeral_in g)))

-- [ "." name ]: the part, if the name is that of one
unfoldable pub part_of : Reader (Option Part)
part_of s = cond (is (ahead s) marks.Dot) (then_reads named (λ l. gives (part_named l.text)) (behind s)) (Ok (Some Whole, s))

abbrev pub is_whole : Part → Bool
is_whole Whole = true
is_whole Entry = false
is_whole Exit = false

-- a statement has a transition for this part of it: blocks and selections have none, and cooperations one for their entry and
-- one for their exit
abbrev pub has_part : Action → Part → Bool
has_part (block ss) part = false
has_part (select ss) part = false
has_part (cooperate ps) part = not (is_whole part)
has_part skip part = is_whole part
has_part _ part = is_whole part

-- the transition that is this part of the statement with this occurrence
abbrev pub step_of : Processes → ℕ → Part → Option TransName
step_of p o part = option_and_then (λ s. if has_part (action s) part then Some (Step o part) else None) (statement_at p o)

-- numbers count from 1
abbrev pub less_one : ℕ → Option ℕ
less_one zero = None
less_one (suc n) = Some n

-- the occurrence of the statement that is named
abbrev pub statement_of : Names → Opening → Label → Option ℕ
statement_of names Idling l = None
statement_of names By l = labelled names l.text
statement_of names (Number n) l = less_one n

abbrev pub named_by : Names → Processes → Opening → Label → Option Part → Option TransName
named_by names p opening l part = option_and_then (λ o. option_and_then (step_of p o) part) (statement_of names opening l)

-- what stands behind the first token of a move, whose text and place are those of l
unfoldable pub move_of : Names → Processes → Opening → Label → Reader TransName
move_of names p Idling l s = Ok (Idle, s)
move_of names p By l s = then_reads part_of (λ part. present (broke rules.UnknownTransition l.place) (named_by names p By l part)) s
move_of names p (Number n) l s = then_reads part_of (λ part. present (broke rules.UnknownTransition l.place) (named_by names p (Number n) l part)) s

-- the first fault of a move that is one too many, at its place: that it names no transition, or that it is too many; what
-- breaks further on comes later
abbrev pub too_many : ℕ → Read Breach TransName → Stop Breach
too_many place (Err (other (broke rules.UnknownTransition p))) = other (broke rules.UnknownTransition p)
too_many place _ = other (crowded place)

-- a further move, of at most 1,000: move ";"
unfoldable pub next_move_of : Names → Processes → Opening → Label → List TransName → Reader (List TransName)
next_move_of names p opening l moves s =
    cond (nat_lt (length moves) 1000)
    (then_reads (move_of names p opening l) (λ m. then_reads (expected marks.Semicolon) (λ z. gives (moves ++ m ∷ []))) s)
    (Err (too_many l.place (move_of names p opening l s)))
