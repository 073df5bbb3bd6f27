-- What stands in a text has rising places and small numerals.
use Rattle.std.proofs.Common.{◌≡◌, ℕ, suc, ◌≤◌, true, List, [], ◌∷◌, subst, arith}
use Rattle.st_tokens.specs.Stream.{◌++>◌, Lexeme, Stream, first_place, IsRising, AreThere}
use Rattle.st_tokens.proofs.Rising.{starts_rise}
use Rattle.st_tokens.proofs.Shifting.{tokens_are_there}
use Rattle.expression_parser.specs.ExpressionTree.{Expr}
use Rattle.typing_laws.proofs.Names.{name_plain}
use Rattle.typing_laws.proofs.Standing.{Stand}
use Rattle.typing_laws.proofs.Laying.{ExprLaid}
use Rattle.typing_laws.proofs.Expressions.{formula_lays}
use Rattle.assertion_grammar.specs.Standing.{ShallowFormula, IsOfText}

-- what is left behind some tokens
rising_behind : (ts : List Lexeme) (s : Stream) → IsRising (ts ++> s) → IsRising s
rising_behind [] s h = h
rising_behind (t ∷ ts) s h = rising_behind ts s h.1

there_behind : (text : List ℕ) (ts : List Lexeme) (s : Stream) → AreThere text (ts ++> s) → AreThere text s
there_behind text [] s h = h
there_behind text (t ∷ ts) s h = there_behind text ts s h.1

stands_so : (text : List ℕ) (ts : List Lexeme) (rest : Stream) (from : ℕ) → from ≤ first_place (ts ++> rest) → IsRising (ts ++> rest) → AreThere text (ts ++> rest) → Stand from (first_place rest) ts
stands_so text [] rest from h r a = h
stands_so text (t ∷ ts) rest from h r a = (h, name_plain text t a.0.0 a.0.1 a.0.2, stands_so text ts rest (suc t.start) r.0 r.1 a.1)

pub laid : (s : Stream) → IsOfText s → (ts : List Lexeme) (rest : Stream) → s ≡ ts ++> rest → (e : Expr) → ShallowFormula ts e → ExprLaid e 0 (first_place rest)
laid s o ts rest is e l =
    let r = subst IsRising o.is (starts_rise o.text) in
    let a = subst (AreThere o.text) o.is (tokens_are_there o.text) in
    let r2 = subst IsRising is (rising_behind o.front s r) in
    let a2 = subst (AreThere o.text) is (there_behind o.text o.front s a) in
    formula_lays true 32 ts e 0 (first_place rest) (stands_so o.text ts rest 0 (omega arith) r2 a2) l
