-- The typing of the parts of statements, in text order, with the first fault that is met.
use Rattle.std.specs.Prelude.{ℕ, Bool, true, false, if◌then◌else◌, nat_eq, List, [], ◌∷◌, ◌++◌, length, Option, Some, None, Result, Ok, Err}
use Rattle.st_form.specs.Formula.{Formula}
use Rattle.st_tokens.specs.declared.limit.LimitKind.TheVariants as limits
use Rattle.st_reading.specs.Reading.{Label}
use Rattle.st_program.specs.Tree.{Term, number, truth, Piece, Pieces, piece_skip, piece_assign, piece_await, piece_if, no_piece, piece}
use Rattle.expression_parser.specs.ExpressionTree.{Expr, start_of}
use Rattle.spl_parser.specs.ProgramTree as raw
use Rattle.expression_typer.specs.declared.fault.TypeFault.{TypeFault}
use Rattle.expression_typer.specs.declared.fault.TypeFault.TheVariants as faults
use Rattle.expression_typer.specs.Answers.{◌>>=◌}
use Rattle.expression_typer.specs.Scope.{Known, find}
use Rattle.expression_typer.specs.Typing.{typed, as_number, as_truth}
use Rattle.spl_typer.specs.Shapes.{something, some_statement}

-- a test
abbrev pub tested : List Known → Expr → Result Formula TypeFault
tested s e = typed s e >>= λ x. as_truth (start_of e) x

abbrev pub writable : ℕ → Option Known → Result Known TypeFault
writable place None = Err (faults.Unknown place)
writable place (Some k) = if k.input then Err (faults.InputAssigned place) else Ok k

-- a variable that may be assigned
abbrev pub target : List Known → Label → Result Known TypeFault
target s n = writable n.place (find n.text s)

abbrev pub counting : ℕ → Option Known → Result ℕ TypeFault
counting place None = Err (faults.Unknown place)
counting place (Some k) =
    if k.truth then Err (faults.WrongType place) else (if k.input then Err (faults.InputAssigned place) else Ok k.var)

-- an integer variable that may be assigned
abbrev pub counter : List Known → Label → Result ℕ TypeFault
counter s n = counting n.place (find n.text s)

-- a right side of the type that its target wants
abbrev pub wanted : Bool → ℕ → Term → Result Term TypeFault
wanted b place w =
    if b then (as_truth place w >>= λ f. Ok (truth f)) else (as_number place w >>= λ f. Ok (number f))

abbrev pub right_side : List Known → Known → Expr → Result (ℕ × Term) TypeFault
right_side s k e = typed s e >>= λ x. wanted k.truth (start_of e) x >>= λ w. Ok (k.var, w)

abbrev pub is_target : ℕ → List Known → Bool
is_target v [] = false
is_target v (k ∷ ks) = if nat_eq k.var v then true else is_target v ks

-- the targets of a multiple assignment, behind those that are done
abbrev pub targets : List Known → List Known → List Label → Result (List Known) TypeFault
targets s done [] = Ok done
targets s done (n ∷ ns) =
    target s n >>= λ k. if is_target k.var done then Err (faults.SameTarget n.place) else targets s (done ++ k ∷ []) ns

-- the targets with their right sides, behind those that are done
abbrev pub changes : List Known → List (ℕ × Term) → List Known → List Expr → Result (List (ℕ × Term)) TypeFault
changes s done [] es = Ok done
changes s done (k ∷ ks) [] = Ok done
changes s done (k ∷ ks) (e ∷ es) = right_side s k e >>= λ x. changes s (done ++ x ∷ []) ks es

abbrev pub assigned : List Known → List Label → ℕ → List Expr → Result (List (ℕ × Term)) TypeFault
assigned s ns list es =
    targets s [] ns >>= λ ks. if nat_eq (length ns) (length es) then changes s [] ks es else Err (faults.WrongType list)

abbrev pub pieces_behind : Pieces → Pieces → Pieces
pieces_behind no_piece ys = ys
pieces_behind (piece x xs) ys = piece x (pieces_behind xs ys)

abbrev pub alone : Piece → Result Pieces TypeFault
alone x = Ok (piece x no_piece)

-- The pieces that a statement of a group stands for: a block is joined into the list round it, and a missing "else" is
-- an empty list. What no text has in a group gets an answer too.
abbrev mutual
  pub pieces_of : List Known → raw.Statement → Result Pieces TypeFault
  pieces_of s (raw.stated label place act) = pieces_in s place act

  pub pieces_in : List Known → ℕ → raw.Action → Result Pieces TypeFault
  pieces_in s place raw.skip = alone piece_skip
  pieces_in s place (raw.assign n e) = target s n >>= λ k. right_side s k e >>= λ x. alone (piece_assign (x ∷ []))
  pieces_in s place (raw.assign_all ns list es) = assigned s ns list es >>= λ xs. alone (piece_assign xs)
  pieces_in s place (raw.await e) = tested s e >>= λ f. alone (piece_await f)
  pieces_in s place (raw.conditional e y other) =
      tested s e >>= λ f. pieces_of s y >>= λ ys. other_pieces s other >>= λ ns. alone (piece_if f ys ns)
  pieces_in s place (raw.block ss) = something (some_statement ss) place >>= λ _. pieces_along s ss
  pieces_in s place _ = Err (faults.Limit limits.Statements place)

  pub other_pieces : List Known → raw.Branch → Result Pieces TypeFault
  other_pieces s raw.no_branch = Ok no_piece
  other_pieces s (raw.branch x) = pieces_of s x

  pub pieces_along : List Known → raw.Statements → Result Pieces TypeFault
  pieces_along s raw.no_statements = Ok no_piece
  pieces_along s (raw.followed x xs) = pieces_of s x >>= λ ys. pieces_along s xs >>= λ zs. Ok (pieces_behind ys zs)

-- what stands in a group
abbrev pub pieces_inside : List Known → ℕ → raw.Statements → Result Pieces TypeFault
pieces_inside s place ss = something (some_statement ss) place >>= λ _. pieces_along s ss
