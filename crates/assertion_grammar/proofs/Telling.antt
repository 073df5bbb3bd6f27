-- What is typed of an expression, and why it isn't.
use Rattle.std.proofs.Common.{◌≡◌, ℕ, List, [], ◌∷◌, Result, Ok, Err, inr, refl, arith, append-nil}
use Rattle.st_tokens.specs.Stream.{Lexeme, Stream, ends, breaks, more}
use Rattle.st_reading.specs.Reading.{Stop, syntax, broken, other, Read}
use Rattle.st_reading.specs.Faults.{Passed, passed}
use Rattle.st_reading.specs.Breaches.{Breach}
use Rattle.st_reading.specs.Theorem.{IsStuck, IsFirst, IsMet}
use Rattle.st_program.specs.Tree.{Term, number, truth}
use Rattle.expression_parser.specs.ExpressionTree.{Expr, start_of}
use Rattle.expression_typer.specs.declared.fault.TypeFault.{TypeFault}
use Rattle.expression_typer.specs.declared.fault.TypeFault.TheVariants as faults
use Rattle.expression_typer.specs.Answers.{◌>>=◌}
use Rattle.expression_typer.specs.Scope.{Names}
use Rattle.expression_typer.specs.Typing.{typed_by, as_truth, as_number}
use Rattle.expression_typer.specs.Rules.{meaning_by, faults_by}
use Rattle.expression_typer.specs.Told.{Told, IsWritten}
use Rattle.expression_typer.specs.Placed.{IsLeast}
use Rattle.expression_typer.proofs.Tells.{told_by}
use Rattle.expression_typer.proofs.Rising.{least_by}
use Rattle.typing_laws.proofs.Laying.{ExprLaid}
use Rattle.assertions.specs.Faults.{of_stop}
use Rattle.assertions.specs.Reading.{truth_of, number_of, before, typed_behind}
use Rattle.assertion_grammar.specs.Standing.{Language, Stands, test_faults_by, number_faults_by, IsFault, breaks_rule, refused_at, broken_by, too_deep, Tells}
use Rattle.assertion_grammar.specs.Theorems.{MeansTruth, MeansNumber}

-- the meaning where no rule is broken, or the lowest rule at the first place
abbrev pub TellsOf : {A : Type 0} → (Expr → List TypeFault) → (Expr → A → Type 0) → Expr → Result A TypeFault → Type 0
TellsOf faults Means e (Ok x) = (faults e ≡ []) × Means e x
TellsOf faults Means e (Err f) = IsLeast f (faults e)

one_least : (f : TypeFault) → IsLeast f (f ∷ [])
one_least f = record { rest = []; among = refl; least = (inr (refl, omega arith), tt) }

module _ (names : Names) (e : Expr) (from to : ℕ) (l : ExprLaid e from to) where
  least : (f : TypeFault) → typed_by names e ≡ Err f → IsLeast f (faults_by names e)
  least f h = least_by names e from to l.modest l.placed f h

  pub tells_test : TellsOf (test_faults_by names) (MeansTruth names) e (truth_of names e)
  tells_test = at_typed (typed_by names e) refl (told_by names e l.modest)
    where
      at_typed : (r : Result Term TypeFault) → typed_by names e ≡ r → Told IsWritten r (faults_by names e) (meaning_by names e) → TellsOf (test_faults_by names) (MeansTruth names) e (r >>= λ x. as_truth (start_of e) x)
      at_typed (Ok (truth f)) h t = (rw (t.0, t.1) refl, t.1)
      at_typed (Ok (number f)) h t = rw (t.0, t.1) (one_least (faults.WrongType (start_of e)))
      at_typed (Err f) h t = rw (t.1, append-nil (faults_by names e)) (least f h)

  pub tells_number : TellsOf (number_faults_by names) (MeansNumber names) e (number_of names e)
  tells_number = at_typed (typed_by names e) refl (told_by names e l.modest)
    where
      at_typed : (r : Result Term TypeFault) → typed_by names e ≡ r → Told IsWritten r (faults_by names e) (meaning_by names e) → TellsOf (number_faults_by names) (MeansNumber names) e (r >>= λ x. as_number (start_of e) x)
      at_typed (Ok (number f)) h t = (rw (t.0, t.1) refl, t.1)
      at_typed (Ok (truth f)) h t = rw (t.0, t.1) (one_least (faults.WrongType (start_of e)))
      at_typed (Err f) h t = rw (t.1, append-nil (faults_by names e)) (least f h)

-- a fault of the grammar is the same, whatever else may refuse
stuck_syntax : (L : Language) (ts : List Lexeme) (place : ℕ) (rest : Stream) → IsStuck {X = Passed} L ts (syntax place) rest → IsStuck {X = Breach} L ts (syntax place) rest
stuck_syntax L ts place (ends q) h = h
stuck_syntax L ts place (breaks f) h = h
stuck_syntax L ts place (more t s) h = h

module _ (L Deep : Language) (read : Stream → Read Passed Expr) (stands : (s : Stream) (e : Expr) (rest : Stream) → read s ≡ Ok (e, rest) → Stands L Deep s e rest) (first : (s : Stream) (f : Stop Passed) → read s ≡ Err f → IsFirst Deep s f) (met : (s : Stream) (y : Passed) → read s ≡ Err (other y) → IsMet Deep L s) where
  stops : (faults : Expr → List TypeFault) (s : Stream) (f : Stop Passed) → read s ≡ Err f → IsFault L Deep faults s (of_stop f)
  stops faults s (syntax place) h =
      let k = first s (syntax place) h in
      refused_at place (record { text = k.text; rest = k.rest; is = k.is; begins = k.begins; stuck = stuck_syntax Deep k.text place k.rest k.stuck })
  stops faults s (broken f) h = let k = first s (broken f) h in broken_by f (record { text = k.text; rest = k.rest; is = k.is; begins = k.begins; stuck = k.stuck })
  stops faults s (other (passed kind place)) h = too_deep place (met s (passed kind place) h)

  pub tells : {A : Type 0} (typing : Expr → Result A TypeFault) (faults : Expr → List TypeFault) (Means : Expr → A → Type 0) (s : Stream)
      → ((e : Expr) (rest : Stream) → Stands L Deep s e rest → TellsOf faults Means e (typing e)) → Tells L Deep faults Means s (typed_behind typing (read s))
  tells {A} typing faults Means s told = at_read (read s) refl
    where
      at_typed : (e : Expr) (rest : Stream) → Stands L Deep s e rest → (r : Result A TypeFault) → TellsOf faults Means e r → Tells L Deep faults Means s (before rest r)
      at_typed e rest k (Ok x) t = (e, k, t.0, t.1)
      at_typed e rest k (Err f) t = breaks_rule e rest f k t

      at_read : (r : Read Passed Expr) → read s ≡ r → Tells L Deep faults Means s (typed_behind typing r)
      at_read (Ok (e, rest)) h = at_typed e rest (stands s e rest h) (typing e) (told e rest (stands s e rest h))
      at_read (Err f) h = stops faults s f h
