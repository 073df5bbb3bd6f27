-- Formulas and sums: their readers have the laws of rooms.
use Rattle.std.proofs.Common.{◌≡◌, ℕ, ◌≤◌, true, List, arith}
use Rattle.std.specs.Prelude.{nat_lt}
use Rattle.std.proofs.lemmas.Bool.Decides.{nat_tests}
use Rattle.st_tokens.specs.Stream.{Lexeme}
use Rattle.st_reading.specs.Reading.{ahead}
use Rattle.st_reading.specs.Spelling.{Sound}
use Rattle.st_reading.specs.Steady.{Within}
use Rattle.st_reading.proofs.Lawful.{Lawful}
use Rattle.st_reading.proofs.ListCompleteness.{Complete}
use Rattle.expression_parser.specs.ExpressionTree.{Expr}
use Rattle.expression_parser.specs.Calm.{calm}
use Rattle.expression_parser.specs.Reading.{Reader, below, expression_of, sum_of}
use Rattle.expression_parser.specs.Grammar.{Inside, sum, straight, disjunction, alone, SpellsWithin}
use Rattle.expression_parser.proofs.ExpressionLaw.{larger, level_opens, lawful_sum, lawful_formula}
use Rattle.expression_parser.proofs.ExpressionShrinking.{below_shrinks}
use Rattle.expression_parser.proofs.ExpressionSoundness.{sum_sound, expression_sound, below_sound}
use Rattle.expression_parser.proofs.ExpressionCompleteness.{rank, above, calm_above, sum_complete, below_complete}
use Rattle.assertion_grammar.specs.Standing.{SumWithin}

abbrev pub formula_reader : ℕ → Reader Expr
formula_reader room s = expression_of true (below true room) s

abbrev pub sum_reader : ℕ → Reader Expr
sum_reader room s = sum_of true (below true room) s

pub formula_sound : (room : ℕ) → Sound (formula_reader room) (SpellsWithin true room)
formula_sound room s x rest h = expression_sound true (below true room) (Inside true room) (below_sound true room) s x rest h

pub formula_lawful : (room : ℕ) → Lawful calm calm (formula_reader room) (λ i. formula_reader (larger room i))
formula_lawful room = lawful_formula true room

pub sums_sound : (room : ℕ) → Sound (sum_reader room) (SumWithin room)
sums_sound room s x rest h = sum_sound true (below true room) (Inside true room) (below_sound true room) s x rest h

-- a calm token binds less tightly than any operator of sums
weaker : (n : ℕ) → nat_lt 6 n ≡ true → nat_lt 2 n ≡ true
weaker n h = grind (arith, nat_tests)

calm_sum : Within calm (above 2)
calm_sum g h = weaker (rank g) (calm_above g h)

pub sums_complete : (n room : ℕ) → n ≤ room → Complete calm (sum_reader room) (SumWithin n)
sums_complete n room le ts x l after h = sum_complete true (below true room) (Inside true n) (Inside true room) (below_sound true room) (below_complete true n room le) ts x l after (calm_sum (ahead after) h)

pub sums_lawful : (room : ℕ) → Lawful calm calm (sum_reader room) (λ i. sum_reader (larger room i))
sums_lawful room = lawful_sum true (below true room) (λ i. below true (larger room i)) (level_opens true room) (below_shrinks true room) (λ i. below_shrinks true (larger room i))

-- a sum is a formula of the grammar
pub sum_as_formula : (ts : List Lexeme) (x : Expr) → SumWithin 32 ts x → SpellsWithin true 32 ts x
sum_as_formula ts x l = disjunction ts x (alone ts x (alone ts x (straight ts x (sum ts x l))))
