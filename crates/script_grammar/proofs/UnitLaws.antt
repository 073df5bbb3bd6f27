-- Formulas and integer expressions: what they are read by, with at most 32 levels and with any; and refused exactly at their
-- first fault.
use Rattle.std.proofs.Common.{◌≡◌, ℕ, ◌+◌, ◌≤◌, Bool, true, List, [], ◌∷◌, ◌++◌, Option, Some, None, Result, Ok, Err, inl, inr, refl, sym, ap, subst, ◌∙◌, arith}
use Rattle.std.proofs.lemmas.Bool.Decides.{nat_tests}
use Rattle.st_tokens.specs.Stream.{◌++>◌, Lexeme, Stream, ends, breaks, more}
use Rattle.st_reading.specs.declared.sign.Sign.{Sign}
use Rattle.st_reading.specs.Faults.{Passed, passed}
use Rattle.st_reading.specs.Reading.{Stop, other, Read, ahead, refusal}
use Rattle.st_reading.specs.Breaches.{Breach, Reader}
use Rattle.st_reading.specs.BrokenRules.{Broken}
use Rattle.st_reading.specs.Steady.{anything}
use Rattle.st_reading.proofs.Streams.{same_text}
use Rattle.st_reading.proofs.Soundness.{values}
use Rattle.st_reading.proofs.Judging.{JudgedAt}
use Rattle.expression_parser.specs.ExpressionTree.{Expr}
use Rattle.expression_parser.specs.Calm.{calm}
use Rattle.expression_parser.specs.Grammar.{Inside, IsSum, SpellsWithin}
use Rattle.expression_parser.specs.Reading.{below, expression_of, sum_of as tree_sum_of}
use Rattle.expression_parser.proofs.FormulaTheorems.{quiet}
use Rattle.expression_parser.proofs.ExpressionShrinking.{below_shrinks}
use Rattle.expression_parser.proofs.ExpressionSoundness.{below_sound, expression_sound, sum_sound}
use Rattle.expression_parser.proofs.ExpressionCompleteness.{above, below_complete, calm_above, formula_complete, sum_complete}
use Rattle.expression_parser.proofs.ExpressionLaw.{larger, lawful_formula, lawful_sum, level_opens}
use Rattle.expression_typer.specs.declared.fault.TypeFault.{TypeFault}
use Rattle.expression_typer.specs.Naming.{names_of}
use Rattle.assertions.specs.Faults.{of_rule, of_stop}
use Rattle.assertions.specs.Reading.{before, form_of, linear_of, number_of, truth_of, typed_behind}
use Rattle.proof_script.specs.Listing.{Setting, formula_of, sum_of}
use Rattle.script_grammar.specs.RawScripts.{RawUnit}
use Rattle.script_grammar.specs.Nesting.{broken_off, first_passing}
use Rattle.script_grammar.specs.Drawings.{IsUnit}
use Rattle.script_grammar.specs.Breaking.{found_at, nesting_rules, typing_rules}
use Rattle.script_grammar.specs.Rules.{form_rules, sum_rules}
use Rattle.script_grammar.specs.Theorems.{Forms, Sums}
use Rattle.script_grammar.specs.FirstFaults.{IsSyntactic, FormulasFirstFault, SumsFirstFault}
use Rattle.script_grammar.proofs.Unlimited.{Passes, Comes, reads, refuses, passes, comes, read_so, refused_so}
use Rattle.script_grammar.proofs.Greedy.{not_both}
use Rattle.script_grammar.proofs.GreedyExpressions.{expression_needs, sum_needs_token, formulas_greedy, sums_greedy}
use Rattle.script_grammar.proofs.Passing.{Least, Least_place, find_least, read_passes_none}
use Rattle.script_grammar.proofs.RawUnits.{Expressions, Any, the_unit, free, free_complete, raw, raw_lawful}
use Rattle.script_grammar.proofs.JudgedReferences.{said}
use Rattle.script_grammar.proofs.JudgedUnits.{judged_unit}
use Rattle.script_grammar.proofs.PartLaws.{stops_at_first}

pub above_two : (g : Sign) → above 6 g ≡ true → above 2 g ≡ true
above_two g h = grind (arith, nat_tests)

abbrev pub forms : Expressions
forms = record {
  reader = λ n s. expression_of true (below true n) s;
  law = λ n s. (lawful_formula true n).law s;
  within = λ n. SpellsWithin true n;
  sound = λ n. expression_sound true (below true n) (Inside true n) (below_sound true n);
  complete = λ n. formula_complete true n n (omega arith);
  needs = λ n. expression_needs true (below true n);
  greedy = λ n k. formulas_greedy true n k;
}

abbrev pub sums : Expressions
sums = record {
  reader = λ n s. tree_sum_of true (below true n) s;
  law = λ n s. (lawful_sum true (below true n) (λ i. below true (larger n i)) (level_opens true n) (below_shrinks true n) (λ i. below_shrinks true (larger n i))).law s;
  within = λ n. IsSum true (Inside true n);
  sound = λ n. sum_sound true (below true n) (Inside true n) (below_sound true n);
  complete = λ n ts x l after h. sum_complete true (below true n) (Inside true n) (Inside true n) (below_sound true n) (below_complete true n n (omega arith)) ts x l after (above_two (ahead after) (calm_above (ahead after) h));
  needs = λ n. sum_needs_token true (below true n);
  greedy = λ n k. sums_greedy true n k;
}

-- WITH AT MOST 32 LEVELS
module _ (x : Expressions) where
  abbrev pub levels : List Lexeme → Option ℕ
  levels ts = broken_off (x.reader 32 (ts ++> ends 0))

  -- they have no token that passes
  pub none_passing : (ts : List Lexeme) (e : Expr) → x.within 32 ts e → first_passing levels ts ≡ None
  none_passing ts e l = read_passes_none x.reader x.law 32 ts e (ends 0) (x.complete 32 ts e l (ends 0) quiet)

  some_passing : (t : Lexeme) (ts : List Lexeme) (place : ℕ) → levels (t ∷ ts) ≡ Some place → first_passing levels (t ∷ ts) ≡ None → ⊥
  some_passing t ts place h none =
      let l = find_least levels t ts place h in
      let some : first_passing levels (t ∷ ts) ≡ first_passing levels (l.it.before ++ l.it.token ∷ l.it.after) = ap (first_passing levels) l.it.is_cut in
      let told = l.it.told l.it.after in
      absurd cc

  none_before_end : (a : List Lexeme) (t : Lexeme) (m : Stream) → ends 0 ≡ a ++> more t m → ⊥
  none_before_end [] t m h = absurd cc
  none_before_end (u ∷ a) t m h = absurd cc

  passes_some : (ts us : List Lexeme) → ts ≡ us → (p : Passes calm calm quiet x.reader x.law 32 (ts ++> ends 0)) (limit : Passed) → x.reader 32 (us ++> ends 0) ≡ Err (other limit) → first_passing levels us ≡ None → ⊥
  passes_some ts [] k p limit h none = none_before_end p.before p.passing p.after (ap (λ (z : List Lexeme). z ++> ends 0) (sym k) ∙ p.is_cut)
  passes_some ts (t ∷ us) k p (passed kind place) h none = some_passing t us place (ap broken_off h) none

  -- and those that have none are they
  pub within_32 : (ts : List Lexeme) (e : Expr) → Any x ts e → first_passing levels ts ≡ None → x.within 32 ts e
  within_32 ts e l none = at_comes (comes calm calm quiet x.reader x.law 32 (ts ++> ends 0))
    where
      read : free x (ts ++> ends 0) ≡ Ok (e, ends 0)
      read = free_complete x ts e l (ends 0) quiet

      at_comes : Comes calm calm quiet x.reader x.law 32 (ts ++> ends 0) → x.within 32 ts e
      at_comes (reads us y rest is go1 go2) =
          let h : x.reader 32 (ts ++> ends 0) ≡ Ok (y, rest) = ap (x.reader 32) is ∙ go1 rest (inl refl) in
          let v = values (free x (ts ++> ends 0)) y e rest (ends 0) (read_so calm calm quiet x.reader x.law 32 (ts ++> ends 0) y rest h) read in
          let c = x.sound 32 (ts ++> ends 0) y rest h in
          let text : ts ≡ c.text = same_text ts c.text 0 (c.is ∙ ap (λ m. c.text ++> m) v.1) in
          subst (λ (z : List Lexeme). x.within 32 z e) (sym text) (subst (x.within 32 c.text) v.0 c.spells)
      at_comes (refuses us rest is no1 no2 v) = absurd (not_both (free x (ts ++> ends 0)) (e, ends 0) (refusal rest) read (refused_so calm calm quiet x.reader x.law 32 (ts ++> ends 0) us rest is no2))
      at_comes (passes p) = absurd (passes_some ts ts refl p p.limit (ap (x.reader 32) p.is_cut ∙ p.stuck p.after) none)

-- WHAT THEY ARE TYPED AS
abbrev pub typed_so : {A : Type 0} → Result A TypeFault → Result A Breach
typed_so (Ok x) = Ok x
typed_so (Err f) = Err (of_rule f)

module _ {A : Type 0} (typing : Expr → Result A TypeFault) where
  abbrev pub typed_unit : RawUnit → Result A Breach
  typed_unit u = typed_so (typing u.tree)

  typed_kept : (n : ℕ) (u : RawUnit) (a : A) → typed_unit u ≡ Ok a → typing_rules n (typing u.tree) ≡ []
  typed_kept n u a h = at_type (typing u.tree) h
    where
      at_type : (r : Result A TypeFault) → typed_so r ≡ Ok a → typing_rules n r ≡ []
      at_type (Ok y) h = refl
      at_type (Err f) h = absurd cc

  typed_broken : (n : ℕ) (u : RawUnit) (f : Breach) → typed_unit u ≡ Err f → typing_rules n (typing u.tree) ≡ found_at n f ∷ []
  typed_broken n u f h = at_type (typing u.tree) h
    where
      at_type : (r : Result A TypeFault) → typed_so r ≡ Err f → typing_rules n r ≡ found_at n f ∷ []
      at_type (Ok y) h = absurd cc
      at_type (Err b) h = ap (λ z. found_at n z ∷ []) (let e : of_rule b ≡ f = cc in e)

  said_so : (r : Result A TypeFault) (rest : Stream) → before rest r ≡ said (typed_so r) rest
  said_so (Ok y) rest = refl
  said_so (Err f) rest = refl

  module _ (x : Expressions) (judge : Reader A) (judge_is : (s : Stream) → judge s ≡ typed_behind typing (x.reader 32 s)) where
    typed_ok : (t : Lexeme) (ts : List Lexeme) (e : Expr) (rest : Stream) → x.reader 32 (more t (ts ++> rest)) ≡ Ok (e, rest) → judge (more t (ts ++> rest)) ≡ said (typed_unit (the_unit (t ∷ ts) e)) rest
    typed_ok t ts e rest h = judge_is (more t (ts ++> rest)) ∙ ap (typed_behind typing) h ∙ said_so (typing e) rest

    typed_err : (s : Stream) (f : Stop Passed) → x.reader 32 s ≡ Err f → judge s ≡ Err (of_stop f)
    typed_err s f h = judge_is s ∙ ap (typed_behind typing) h

    pub judged_typed : (at : ℕ) (s : Stream) → JudgedAt IsSyntactic calm at judge (raw x) (λ u. u.size) (λ u. nesting_rules at (first_passing (λ ts. broken_off (x.reader 32 (ts ++> ends 0))) u.text) ++ typing_rules (at + u.size) (typing u.tree)) (λ u a. typed_unit u ≡ Ok a) s
    judged_typed at s = judged_unit x typed_unit judge typed_ok typed_err (λ n u. typing_rules n (typing u.tree)) typed_kept typed_broken at s

-- FIRST FAULTS
module _ (g : Setting) where
  formula_is : (s : Stream) → formula_of g s ≡ typed_behind (truth_of (names_of g.names)) (expression_of true (below true 32) s)
  unfolding formula_of form_of
  formula_is s = refl

  sum_is : (s : Stream) → sum_of g s ≡ typed_behind (number_of (names_of g.names)) (tree_sum_of true (below true 32) s)
  unfolding sum_of linear_of
  sum_is s = refl

  pub judged_form : (at : ℕ) (s : Stream) → JudgedAt IsSyntactic calm at (formula_of g) (raw forms) (λ u. u.size) (form_rules g at) (λ u f. typed_unit (truth_of (names_of g.names)) u ≡ Ok f) s
  judged_form at s = judged_typed (truth_of (names_of g.names)) forms (formula_of g) formula_is at s

  pub judged_sum : (at : ℕ) (s : Stream) → JudgedAt IsSyntactic calm at (sum_of g) (raw sums) (λ u. u.size) (sum_rules g at) (λ u f. typed_unit (number_of (names_of g.names)) u ≡ Ok f) s
  judged_sum at s = judged_typed (number_of (names_of g.names)) sums (sum_of g) sum_is at s

pub formulas_first_fault : FormulasFirstFault
formulas_first_fault g = stops_at_first anything calm quiet (raw_lawful forms) (form_rules g 0) (formula_of g) (λ u. u.size) (λ u f. typed_unit (truth_of (names_of g.names)) u ≡ Ok f) (judged_form g 0)

pub sums_first_fault : SumsFirstFault
sums_first_fault g = stops_at_first anything calm quiet (raw_lawful sums) (sum_rules g 0) (sum_of g) (λ u. u.size) (λ u f. typed_unit (number_of (names_of g.names)) u ≡ Ok f) (judged_sum g 0)
