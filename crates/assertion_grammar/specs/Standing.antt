-- Formulas and integer expressions at the front of what is left of a text: which stands there, and why none is read.
use Rattle.std.specs.Prelude.{◌≡◌, ℕ, true, List, [], ◌∷◌, ◌++◌, Ok, Err}
use Rattle.st_tokens.specs.declared.kind.TokenFault.{TokenFault}
use Rattle.st_tokens.specs.declared.limit.LimitKind.TheVariants as limits
use Rattle.st_tokens.specs.Stream.{◌++>◌, Lexeme, Stream, more, text_stream}
use Rattle.st_reading.specs.Reading.{Stop, syntax, broken, other, Read}
use Rattle.st_reading.specs.Breaches.{Breach, limited}
use Rattle.st_reading.specs.Theorem.{GoesOn, IsFirst, IsMet}
use Rattle.expression_parser.specs.ExpressionTree.{Expr, start_of}
use Rattle.expression_parser.specs.Grammar.{Inside, IsSum, SpellsWithin}
use Rattle.expression_typer.specs.declared.fault.TypeFault.{TypeFault}
use Rattle.expression_typer.specs.Scope.{Names}
use Rattle.expression_typer.specs.Rules.{meaning_by, faults_by, not_number, not_truth}
use Rattle.expression_typer.specs.Placed.{IsLeast}
use Rattle.assertions.specs.Faults.{of_rule}

abbrev pub Language : Type 1
Language = List Lexeme → Expr → Type 0

-- formulas and integer expressions with `at` names and at most 32 levels; and integer expressions of any number of levels
abbrev pub ShallowFormula : Language
ShallowFormula = SpellsWithin true 32

abbrev pub SumWithin : ℕ → Language
SumWithin n ts x = IsSum true (Inside true n) ts x

abbrev pub ShallowSum : Language
ShallowSum = SumWithin 32

abbrev pub Sum : Language
Sum ts x = (n : ℕ) × SumWithin n ts x

-- s is left of a text behind some of its tokens
pub record IsOfText (s : Stream) : Type 0 where
  pub text : List ℕ
  pub front : List Lexeme
  pub is : text_stream text ≡ front ++> s

-- e stands at the front of s, before rest, and none of any depth goes on over the token behind it
pub record Stands (L Deep : Language) (s : Stream) (e : Expr) (rest : Stream) : Type 0 where
  pub text : List Lexeme
  pub is : s ≡ text ++> rest
  pub spells : L text e
  pub longest : (t : Lexeme) (after : Stream) → rest ≡ more t after → GoesOn Deep (text ++ t ∷ []) → ⊥

-- the rules that are broken where a truth value, or a number, is asked for: those of the parts, then the type of the whole
abbrev pub test_faults_by : Names → Expr → List TypeFault
test_faults_by names e = faults_by names e ++ not_truth (start_of e) (meaning_by names e)

abbrev pub number_faults_by : Names → Expr → List TypeFault
number_faults_by names e = faults_by names e ++ not_number (start_of e) (meaning_by names e)

-- Why none is read: the lowest rule that is broken at the first place, where the whole stands; the grammar's own first fault; or
-- that the limit on levels is met.
pub data IsFault (L Deep : Language) (faults : Expr → List TypeFault) (s : Stream) : Stop Breach → Type 0 where
  breaks_rule : (e : Expr) (rest : Stream) (h : TypeFault) → Stands L Deep s e rest → IsLeast h (faults e) → IsFault L Deep faults s (other (of_rule h))
  refused_at : (place : ℕ) → IsFirst {X = Breach} Deep s (syntax place) → IsFault L Deep faults s (syntax place)
  broken_by : (f : TokenFault) → IsFirst {X = Breach} Deep s (broken f) → IsFault L Deep faults s (broken f)
  too_deep : (place : ℕ) → IsMet Deep L s → IsFault L Deep faults s (other (limited limits.Nesting place))

-- what was read, or why not
abbrev pub Tells : {A : Type 0} → Language → Language → (Expr → List TypeFault) → (Expr → A → Type 0) → Stream → Read Breach A → Type 0
Tells L Deep faults Means s (Ok (x, rest)) = (e : Expr) × Stands L Deep s e rest × (faults e ≡ []) × Means e x
Tells L Deep faults Means s (Err f) = IsFault L Deep faults s f
