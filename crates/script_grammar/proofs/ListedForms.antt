-- Formulas that are listed: behind 64 others one is too many, unless it is no formula or passes its levels.
use Rattle.std.proofs.Common.{◌≡◌, ℕ, Bool, true, false, cond, List, [], ◌∷◌, Result, Ok, Err, refl, sym, ap, subst, ◌∙◌}
use Rattle.std.specs.Prelude.{nat_lt}
use Rattle.st_tokens.specs.declared.limit.LimitKind.TheVariants as limits
use Rattle.st_tokens.specs.Stream.{◌++>◌, Lexeme, Stream, more}
use Rattle.st_reading.specs.Faults.{Passed, passed}
use Rattle.st_reading.specs.Reading.{Read, Stop, syntax, broken, other, place_of}
use Rattle.st_reading.specs.Breaches.{Breach, broke, limited, crowded, unformed}
use Rattle.st_reading.specs.BrokenRules.{Broken}
use Rattle.st_reading.specs.Steady.{anything}
use Rattle.st_reading.proofs.Judging.{JudgedAt}
use Rattle.st_reading.proofs.JudgedParts.{judged_as}
use Rattle.st_form.specs.Formula.{Formula}
use Rattle.expression_parser.specs.ExpressionTree.{Expr}
use Rattle.expression_parser.specs.Calm.{calm}
use Rattle.expression_parser.specs.Reading.{below, expression_of}
use Rattle.expression_parser.proofs.FormulaTheorems.{quiet}
use Rattle.expression_typer.specs.declared.fault.TypeFault.{TypeFault}
use Rattle.expression_typer.specs.Naming.{names_of}
use Rattle.assertions.specs.Faults.{of_rule, of_stop}
use Rattle.assertions.specs.Reading.{before, form_of, truth_of, typed_behind}
use Rattle.proof_script.specs.Faults.{one_too_many, past}
use Rattle.proof_script.specs.Listing.{Setting, formula_of, listed_formula_of}
use Rattle.script_grammar.specs.RawScripts.{RawUnit}
use Rattle.script_grammar.specs.Drawings.{IsUnit}
use Rattle.script_grammar.specs.Breaking.{found_at, one_too_many_rules}
use Rattle.script_grammar.specs.Rules.{form_rules, listed_form_rules}
use Rattle.script_grammar.specs.Theorems.{Forms}
use Rattle.script_grammar.specs.FirstFaults.{IsSyntactic, StopsAtFirst, ListedFormulasFirstFault}
use Rattle.script_grammar.proofs.JudgedReferences.{said}
use Rattle.script_grammar.proofs.RawUnits.{raw, raw_lawful, the_unit}
use Rattle.script_grammar.proofs.TypingRules.{IsKept, IsRule, truths_ruled}
use Rattle.script_grammar.proofs.JudgedUnits.{judged_unit}
use Rattle.script_grammar.proofs.UnitLaws.{forms, judged_form, typed_unit}
use Rattle.script_grammar.proofs.JudgedItems.{listed_is}
use Rattle.script_grammar.proofs.PartLaws.{stops_at_first}

abbrev pub too_many : RawUnit → Result Formula Breach
too_many u = Err (limited limits.Nodes u.place)

too_many_kept : (n : ℕ) (u : RawUnit) (f : Formula) → too_many u ≡ Ok f → found_at n (limited limits.Nodes u.place) ∷ [] ≡ []
too_many_kept n u f h = absurd cc

too_many_broken : (n : ℕ) (u : RawUnit) (b : Breach) → too_many u ≡ Err b → found_at n (limited limits.Nodes u.place) ∷ [] ≡ found_at n b ∷ []
too_many_broken n u b h = ap (λ z. found_at n z ∷ []) (let e : limited limits.Nodes u.place ≡ b = cc in e)

past_stop : (place : ℕ) (f : Stop Passed) → past place (of_stop f) ≡ of_stop f
past_stop place (syntax p) = refl
past_stop place (broken f) = refl
past_stop place (other (passed kind p)) = refl

past_rule : (place : ℕ) (b : Breach) → IsRule b → past place (other b) ≡ other (limited limits.Nodes place)
past_rule place (broke rule p) h = refl
past_rule place (limited kind p) h = absurd h
past_rule place (crowded p) h = absurd h
past_rule place (unformed p) h = absurd h

past_typed : (place : ℕ) (rest : Stream) (r : Result Formula TypeFault) → IsKept r → one_too_many place (before rest r) ≡ Err (other (limited limits.Nodes place))
past_typed place rest (Ok x) h = refl
past_typed place rest (Err f) h = ap Err (past_rule place (of_rule f) h)

module _ (g : Setting) (others : ℕ) where
  module _ (over : nat_lt others 64 ≡ false) where
    many_is : (s : Stream) → listed_formula_of g others s ≡ one_too_many (place_of s) (typed_behind (truth_of (names_of g.names)) (expression_of true (below true 32) s))
    unfolding listed_formula_of form_of
    many_is s = rw over refl

    many_ok : (t : Lexeme) (ts : List Lexeme) (e : Expr) (rest : Stream) → expression_of true (below true 32) (more t (ts ++> rest)) ≡ Ok (e, rest) → listed_formula_of g others (more t (ts ++> rest)) ≡ said (too_many (the_unit (t ∷ ts) e)) rest
    many_ok t ts e rest h = many_is (more t (ts ++> rest)) ∙ ap (λ (r : Read Passed Expr). one_too_many t.start (typed_behind (truth_of (names_of g.names)) r)) h ∙ past_typed t.start rest (truth_of (names_of g.names) e) (truths_ruled (names_of g.names) e)

    many_err : (s : Stream) (f : Stop Passed) → expression_of true (below true 32) s ≡ Err f → listed_formula_of g others s ≡ Err (of_stop f)
    many_err s f h = many_is s ∙ ap (λ (r : Read Passed Expr). one_too_many (place_of s) (typed_behind (truth_of (names_of g.names)) r)) h ∙ ap Err (past_stop (place_of s) f)

    pub judged_many : (at : ℕ) (s : Stream) → JudgedAt IsSyntactic calm at (listed_formula_of g others) (raw forms) (λ u. u.size) (one_too_many_rules at) (λ u f. too_many u ≡ Ok f) s
    judged_many at s = judged_unit forms too_many (listed_formula_of g others) many_ok many_err (λ n u. found_at n (limited limits.Nodes u.place) ∷ []) too_many_kept too_many_broken at s

  module _ (few : nat_lt others 64 ≡ true) where
    pub judged_few : (at : ℕ) (s : Stream) → JudgedAt IsSyntactic calm at (listed_formula_of g others) (raw forms) (λ u. u.size) (form_rules g at) (λ u f. typed_unit (truth_of (names_of g.names)) u ≡ Ok f) s
    judged_few at s =
        judged_as IsSyntactic calm at (formula_of g) (raw forms) (λ u. u.size) (form_rules g at) (λ u f. typed_unit (truth_of (names_of g.names)) u ≡ Ok f) (listed_formula_of g others) (raw forms) s
        (λ after h. listed_is g others few after) (λ after h. refl) (judged_form g at s)

  -- the rules, with the test decided
  decided : (b : Bool) → nat_lt others 64 ≡ b → listed_form_rules g others 0 ≡ (λ u. cond b (form_rules g 0 u) (one_too_many_rules 0 u))
  decided b e = ap {B = RawUnit → List (Broken Breach)} (λ (c : Bool) (u : RawUnit). cond c (form_rules g 0 u) (one_too_many_rules 0 u)) e

  by_rules : (b : Bool) → nat_lt others 64 ≡ b → StopsAtFirst (IsUnit Forms) (λ u. cond b (form_rules g 0 u) (one_too_many_rules 0 u)) (listed_formula_of g others) → StopsAtFirst (IsUnit Forms) (listed_form_rules g others 0) (listed_formula_of g others)
  by_rules b e h = subst (λ (r : RawUnit → List (Broken Breach)). StopsAtFirst (IsUnit Forms) r (listed_formula_of g others)) (sym (decided b e)) h

  listed : (b : Bool) → nat_lt others 64 ≡ b → StopsAtFirst (IsUnit Forms) (listed_form_rules g others 0) (listed_formula_of g others)
  listed true few = by_rules true few (stops_at_first anything calm quiet (raw_lawful forms) (form_rules g 0) (listed_formula_of g others) (λ u. u.size) (λ u f. typed_unit (truth_of (names_of g.names)) u ≡ Ok f) (judged_few few 0))
  listed false over = by_rules false over (stops_at_first anything calm quiet (raw_lawful forms) (one_too_many_rules 0) (listed_formula_of g others) (λ u. u.size) (λ u f. too_many u ≡ Ok f) (judged_many over 0))

pub listed_formulas_first_fault : ListedFormulasFirstFault
listed_formulas_first_fault g others = listed g others (nat_lt others 64) refl
