-- What a waiting-for claims: expr "==>" expr "wait" expr { "wait" expr }. And formulas that are listed, behind any number of others.
use Rattle.std.proofs.Common.{◌≡◌, ℕ, suc, ◌+◌, Bool, true, false, cond, List, [], ◌∷◌, ◌++◌, length, Ok, refl, arith}
use Rattle.std.specs.Prelude.{codes, nat_lt, ◌||◌}
use Rattle.st_tokens.specs.Stream.{Lexeme, IsSpelled}
use Rattle.st_reading.specs.declared.mark.Mark.TheVariants as marks
use Rattle.st_reading.specs.declared.sign.Sign.{Sign}
use Rattle.st_reading.specs.declared.sign.Sign.TheVariants as signs
use Rattle.st_reading.specs.Mark.{number}
use Rattle.st_reading.specs.Sign.{is, declaring_word, basic_word, compound_word, step_word, rule_word, drawing_word}
use Rattle.st_reading.specs.Reading.{syntax, gives, then_reads}
use Rattle.st_reading.specs.Breaches.{Breach, Reader}
use Rattle.st_reading.specs.BrokenRules.{Broken}
use Rattle.st_reading.specs.Spelling.{Is}
use Rattle.st_reading.specs.Steady.{Within, moves, wider, anything}
use Rattle.st_reading.proofs.Tokens.{among, but, marks_within}
use Rattle.st_reading.proofs.LawfulPhrases.{LawfulPhrase}
use Rattle.st_form.specs.Formula.{Formula}
use Rattle.expression_parser.specs.Calm.{calm}
use Rattle.expression_parser.proofs.FormulaTheorems.{quiet}
use Rattle.expression_typer.specs.Naming.{names_of}
use Rattle.assertions.specs.Reading.{truth_of}
use Rattle.proof_script.specs.Listing.{Setting, behind_mark, further_counted, listed_formula_of}
use Rattle.proof_script.specs.Steps.{waiting_goal_of}
use Rattle.script_grammar.specs.RawScripts.{RawUnit}
use Rattle.script_grammar.specs.Sizes.{marked_size, unit_size}
use Rattle.script_grammar.specs.Breaking.{listed_rules, one_too_many_rules}
use Rattle.script_grammar.specs.Rules.{form_rules}
use Rattle.script_grammar.proofs.RawUnits.{raw, raw_lawful}
use Rattle.script_grammar.proofs.UnitLaws.{forms, typed_unit}
use Rattle.script_grammar.proofs.ListedForms.{judged_few, judged_many, too_many}
use Rattle.script_grammar.proofs.JudgedPairs.{after_lawful, pair_lawful}
use Rattle.script_grammar.proofs.JudgedItems.{keyword}
use Rattle.script_grammar.proofs.Judges.{Judges, Whatever, pair_so, made_so, after_so, weaker_so}
use Rattle.script_grammar.proofs.MarkedItems.{items_lawful, items_or_next}
use Rattle.script_grammar.proofs.JudgedLists.{counted_so, turns_length}
use Rattle.script_grammar.proofs.JudgedBrackets.{symbol}
use Rattle.script_grammar.proofs.ListedItems.{by_count}
use Rattle.script_grammar.proofs.Citations.{is_nothing, loose_lawful}
use Rattle.script_grammar.proofs.NetMarks.{marked_or_within, nothing_within}
use Rattle.script_grammar.proofs.JudgedResponses.{form_so}

-- LISTED FORMULAS
module _ (g : Setting) where
  pub listed_form_so : (before : ℕ) → Judges calm (listed_formula_of g before) (raw forms) unit_size (λ at u. cond (nat_lt before 64) (form_rules g at u) (one_too_many_rules at u)) Whatever
  listed_form_so before = by_count calm before (listed_formula_of g before) (raw forms) unit_size (λ u. u) (form_rules g) few_so over_so
    where
      few_so : nat_lt before 64 ≡ true → Judges calm (listed_formula_of g before) (raw forms) unit_size (form_rules g) Whatever
      few_so few = weaker_so Whatever (λ u f m. tt) typed_so
        where
          typed_so : Judges calm (listed_formula_of g before) (raw forms) unit_size (form_rules g) (λ u f. typed_unit (truth_of (names_of g.names)) u ≡ Ok f)
          typed_so = record { judged = λ at s. judged_few g before few at s }

      over_so : nat_lt before 64 ≡ false → Judges calm (listed_formula_of g before) (raw forms) unit_size one_too_many_rules Whatever
      over_so over = weaker_so Whatever (λ u f m. tt) refused_so
        where
          refused_so : Judges calm (listed_formula_of g before) (raw forms) unit_size one_too_many_rules (λ u f. too_many u ≡ Ok f)
          refused_so = record { judged = λ at s. judged_many g before over at s }

-- MARKS
abbrev pub unless_token : Lexeme
unless_token = symbol (codes "==>")

pub unless_spelled : IsSpelled unless_token
unless_spelled = refl

pub unless_is : Is marks.Unless unless_token
unfolding number
unless_is = refl

abbrev pub wait_token : Lexeme
wait_token = keyword (codes "wait")

pub wait_spelled : IsSpelled wait_token
wait_spelled = refl

pub wait_is : Is marks.Wait wait_token
unfolding number declaring_word basic_word compound_word step_word rule_word drawing_word
wait_is = refl

pub unless_calm : Within (among (marks.Unless ∷ [])) calm
unfolding number calm
unless_calm = marks_within calm (marks.Unless ∷ []) refl

pub wait_calm : Within (among (marks.Wait ∷ [])) calm
unfolding number calm
wait_calm = marks_within calm (marks.Wait ∷ []) refl

-- what stands behind the goal
abbrev pub by_end : Sign → Bool
by_end g = is g marks.By || is_nothing g

pub by_end_within : (set : Sign → Bool) → set (signs.Marked marks.By) ≡ true → set signs.Nothing ≡ true → Within by_end set
by_end_within set by nothing = marked_or_within marks.By is_nothing set by (nothing_within set nothing)

pub by_not_wait : Within by_end (but marks.Wait)
unfolding number
by_not_wait = by_end_within (but marks.Wait) refl refl

pub by_end_calm : Within by_end calm
unfolding number calm
by_end_calm = by_end_within calm refl refl

pub wait_among_calm : calm (signs.Marked marks.Wait) ≡ true
unfolding number calm
wait_among_calm = refl

-- { "wait" expr }
abbrev pub waits_front : Sign → Bool
waits_front g = is g marks.Wait || by_end g

abbrev pub waits_lawful : LawfulPhrase Breach (List RawUnit) waits_front by_end
waits_lawful = items_lawful marks.Wait anything calm by_end wait_among_calm by_not_wait by_end_calm (raw_lawful forms)

pub waits_calm : Within waits_front calm
waits_calm = marked_or_within marks.Wait by_end calm wait_among_calm by_end_calm

pub waits_or_by : Within by_end waits_front
waits_or_by = items_or_next marks.Wait anything calm by_end wait_among_calm by_not_wait by_end_calm (raw_lawful forms)

abbrev pub third_lawful : LawfulPhrase Breach (RawUnit × List RawUnit) (among (marks.Wait ∷ [])) by_end
third_lawful = loose_lawful (among (marks.Wait ∷ [])) calm waits_front by_end waits_calm (after_lawful marks.Wait wait_token wait_spelled wait_is anything calm (raw_lawful forms) (wider (λ g h. refl))) (moves quiet (syntax 0) refl) waits_lawful waits_or_by by_end_calm

abbrev pub second_lawful : LawfulPhrase Breach (RawUnit × (RawUnit × List RawUnit)) (among (marks.Unless ∷ [])) by_end
second_lawful =
    pair_lawful (among (marks.Unless ∷ [])) calm (among (marks.Wait ∷ [])) by_end wait_calm refl (after_lawful marks.Unless unless_token unless_spelled unless_is anything calm (raw_lawful forms) (wider (λ g h. refl))) (moves quiet (syntax 0) refl) third_lawful refl

abbrev pub RawGoal : Type 0
RawGoal = RawUnit × (RawUnit × (RawUnit × List RawUnit))

abbrev pub goal_lawful : LawfulPhrase Breach RawGoal anything by_end
goal_lawful = pair_lawful anything calm (among (marks.Unless ∷ [])) by_end unless_calm refl (raw_lawful forms) (wider (λ g h. refl)) second_lawful refl

-- the formulas behind "==>"
abbrev pub phases : RawGoal → List RawUnit
phases p = p.1.0 ∷ p.1.1.0 ∷ p.1.1.1

-- JUDGED
module _ (g : Setting) where
  abbrev pub phase_rules : ℕ → ℕ → List RawUnit → List (Broken Breach)
  phase_rules before at us = listed_rules (λ u. u) unit_size (form_rules g) before at us

  abbrev pub item_rules : ℕ → ℕ → RawUnit → List (Broken Breach)
  item_rules before at u = cond (nat_lt before 64) (form_rules g at u) (one_too_many_rules at u)

  abbrev waiting_for : Formula → List Formula → Formula × List Formula
  waiting_for p qs = (p, qs)

  abbrev by_waits : Formula → Formula → Formula → Reader (Formula × List Formula)
  by_waits p q r = then_reads (further_counted marks.Wait (listed_formula_of g) (q ∷ r ∷ [])) (λ qs. gives (waiting_for p qs))

  abbrev by_third : Formula → Formula → Reader (Formula × List Formula)
  by_third p q = then_reads (behind_mark marks.Wait (listed_formula_of g 1)) (by_waits p q)

  abbrev by_second : Formula → Reader (Formula × List Formula)
  by_second p = then_reads (behind_mark marks.Unless (listed_formula_of g 0)) (by_third p)

  -- as many are made as are written
  abbrev AsMany : List RawUnit → Formula × List Formula → Type 0
  AsMany us w = length w.1 ≡ suc (suc (length us))

  waits_so : (p q r : Formula) → Judges by_end (by_waits p q r) waits_lawful.phrase.reader (marked_size unit_size) (phase_rules 2) AsMany
  waits_so p q r =
      made_so (waiting_for p) AsMany (λ us qs m. omega (arith, turns_length (q ∷ r ∷ []) us qs m))
      (counted_so marks.Wait anything calm by_end wait_among_calm by_not_wait by_end_calm (raw_lawful forms) (wider (λ g h. refl)) unit_size (form_rules g) (λ u. u) (listed_formula_of g) (listed_form_so g) (q ∷ r ∷ []) 2 refl)

  third_so : (p q : Formula) → Judges by_end (by_third p q) third_lawful.phrase.reader (λ z. (1 + unit_size z.0) + marked_size unit_size z.1) (λ at z. item_rules 1 (at + 1) z.0 ++ phase_rules 2 (at + (1 + unit_size z.0)) z.1) (λ z w. AsMany z.1 w)
  third_so p q = pair_so {makes = λ z w. AsMany z.1 w} waits_calm waits_lawful (wider waits_or_by) (after_so marks.Wait (raw_lawful forms) (wider (λ g h. refl)) (listed_form_so g 1)) (λ u r m. waits_so p q r)

  second_so : (p : Formula) → Judges by_end (by_second p) second_lawful.phrase.reader (λ z. (1 + unit_size z.0) + ((1 + unit_size z.1.0) + marked_size unit_size z.1.1))
      (λ at z. item_rules 0 (at + 1) z.0 ++ (item_rules 1 (at + (1 + unit_size z.0) + 1) z.1.0 ++ phase_rules 2 (at + (1 + unit_size z.0) + (1 + unit_size z.1.0)) z.1.1)) (λ z w. AsMany z.1.1 w)
  second_so p = pair_so {makes = λ z w. AsMany z.1.1 w} wait_calm third_lawful (moves refl (syntax 0) refl) (after_so marks.Unless (raw_lawful forms) (wider (λ g h. refl)) (listed_form_so g 0)) (λ u q m. third_so p q)

  pub goal_so : Judges by_end (waiting_goal_of g) goal_lawful.phrase.reader (λ z. unit_size z.0 + ((1 + unit_size z.1.0) + ((1 + unit_size z.1.1.0) + marked_size unit_size z.1.1.1)))
      (λ at z. form_rules g at z.0 ++ phase_rules 0 (at + unit_size z.0) (phases z)) (λ z w. AsMany z.1.1.1 w)
  unfolding waiting_goal_of
  goal_so = pair_so {makes = λ z w. AsMany z.1.1.1 w} unless_calm second_lawful (moves refl (syntax 0) refl) (form_so g) (λ u p m. second_so p)
