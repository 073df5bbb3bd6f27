-- Items of a fair rule, and claims of invariance.
use Rattle.std.proofs.Common.{◌≡◌, ℕ, ◌+◌, Bool, true, false, List, ◌++◌, Option, Ok, refl, ap}
use Rattle.std.specs.Prelude.{not, ◌||◌, nat_lt}
use Rattle.st_tokens.specs.Stream.{Lexeme, Stream}
use Rattle.st_reading.specs.declared.mark.Mark.{Mark}
use Rattle.st_reading.specs.declared.mark.Mark.TheVariants as marks
use Rattle.st_reading.specs.declared.sign.Sign.{Sign}
use Rattle.st_reading.specs.declared.sign.Sign.TheVariants as signs
use Rattle.st_reading.specs.Mark.{number}
use Rattle.st_reading.specs.Sign.{is}
use Rattle.st_reading.specs.Reading.{Read, ◌>>=◌, syntax, is_name, gives, then_reads}
use Rattle.st_reading.specs.Breaches.{Breach, Reader}
use Rattle.st_reading.specs.Spelling.{behind_it}
use Rattle.st_reading.specs.Steady.{Within, moves, wider, anything}
use Rattle.st_reading.proofs.Tokens.{but, at_mark}
use Rattle.st_reading.proofs.Phrases.{made}
use Rattle.st_reading.proofs.LawfulPhrases.{LawfulPhrase, map_lawful, as_lawful, optional_lawful, optional_front, or_next}
use Rattle.st_reading.proofs.Judging.{JudgedAt}
use Rattle.st_reading.proofs.JudgedParts.{judged_as, judged_map}
use Rattle.st_form.specs.Formula.{Formula}
use Rattle.temporal_goals.specs.Texts.{PlainGoal, PlainRule, invariant}
use Rattle.expression_parser.specs.Calm.{calm, calm_but, calm_but2}
use Rattle.expression_parser.proofs.Quiet.{and_parts, but_calm, but2_but}
use Rattle.expression_typer.specs.Naming.{names_of}
use Rattle.assertions.specs.Reading.{truth_of}
use Rattle.proof_script.specs.Listing.{Setting, formula_of, just_of, optional}
use Rattle.proof_script.specs.Rules.{fair_of, helper_of}
use Rattle.proof_script.specs.Steps.{invariance_of, invariance_rule, is_invariance}
use Rattle.script_grammar.specs.RawScripts.{RawUnit, RawTransition, RawFair, RawClaim, raw_invariance}
use Rattle.script_grammar.specs.Sizes.{optional_size, transition_size, fair_size, claim_size}
use Rattle.script_grammar.specs.Grammar.{IsRawFair, IsRawInvariance, spells_fair, spells_invariance}
use Rattle.script_grammar.specs.Breaking.{optional_rules}
use Rattle.script_grammar.specs.Rules.{form_rules, helper_rules, fair_rules, claim_rules}
use Rattle.script_grammar.specs.Theorems.{Forms, Sums}
use Rattle.script_grammar.specs.FirstFaults.{IsSyntactic, StopsAtFirst, FairFirstFault, InvariancesFirstFault}
use Rattle.script_grammar.proofs.RawReferences.{no_dot, raw_reference, reference_lawful}
use Rattle.script_grammar.proofs.References.{judged_helper}
use Rattle.script_grammar.proofs.RawUnits.{raw, raw_lawful}
use Rattle.script_grammar.proofs.UnitLaws.{forms, judged_form, typed_unit}
use Rattle.script_grammar.proofs.JudgedPairs.{both_of, short_pair, short_after, judge_map, judged_pair, pairs}
use Rattle.script_grammar.proofs.JudgedItems.{listed_is}
use Rattle.script_grammar.proofs.JudgedOptions.{SameThere, judged_option, open_lawful}
use Rattle.script_grammar.proofs.Judges.{Judges, pair_so, made_so, seen_so, optional_so}
use Rattle.script_grammar.proofs.PartLaws.{stops_at_first}

-- what follows an item whose helper may be left out
abbrev pub fair_next : Sign → Bool
fair_next = calm_but2 marks.Dot marks.Helper

pub fair_clear : Within fair_next (but marks.Helper)
unfolding calm_but2
fair_clear g h = (and_parts (calm_but marks.Dot g) (not (is g marks.Helper)) h).1

pub fair_undotted : Within fair_next no_dot
unfolding calm_but2 calm_but
fair_undotted g h = (and_parts (calm g) (not (is g marks.Dot)) (and_parts (calm_but marks.Dot g) (not (is g marks.Helper)) h).0).1

pub fair_calm : Within fair_next calm
fair_calm g h = but_calm marks.Dot g (but2_but marks.Dot marks.Helper g h)

pub fair_quiet : fair_next signs.Nothing ≡ true
unfolding calm_but2 calm_but calm
fair_quiet = refl

pub helper_calm_so : calm (signs.Marked marks.Helper) ≡ true
unfolding number calm
helper_calm_so = refl

pub either_calm : (m : Mark) (next : Sign → Bool) → calm (signs.Marked m) ≡ true → Within next calm → (g : Sign) → (is g m || next g) ≡ true → calm g ≡ true
either_calm m next one closes g h = at_test (is g m) refl h
  where
    at_test : (b : Bool) → is g m ≡ b → (b || next g) ≡ true → calm g ≡ true
    at_test true e h = at_mark calm true m one g e
    at_test false e h = closes g h

-- expr [ "helper" trans ]
abbrev pub helper_option : LawfulPhrase Breach (Option RawTransition) (optional_front marks.Helper is_name no_dot fair_next fair_clear fair_undotted reference_lawful fair_quiet) fair_next
helper_option = optional_lawful marks.Helper is_name no_dot fair_next fair_clear fair_undotted reference_lawful fair_quiet

abbrev pub the_fair : RawUnit × Option RawTransition → RawFair
the_fair p = record { form = p.0; helper = p.1 }

abbrev pub fair_parts : LawfulPhrase Breach RawFair anything fair_next
fair_parts = map_lawful anything fair_next (λ g h. refl) the_fair (open_lawful calm marks.Helper is_name no_dot fair_next fair_clear fair_undotted fair_calm (raw_lawful forms) reference_lawful fair_quiet (either_calm marks.Helper fair_next helper_calm_so fair_calm))

pub to_fair : (ts : List Lexeme) (r : RawFair) → fair_parts.phrase.language ts r → IsRawFair Forms Sums ts r
to_fair ts r (made us p (behind_it a b u q lu (made c h lh))) = spells_fair a c u h lu lh

pub from_fair : (ts : List Lexeme) (r : RawFair) → IsRawFair Forms Sums ts r → fair_parts.phrase.language ts r
from_fair ts r (spells_fair a b f h lf lh) = made (a ++ b) (both_of f h) (behind_it a b f (both_of f h) lf (made b h lh))

abbrev pub fair_lawful : LawfulPhrase Breach RawFair anything fair_next
fair_lawful = as_lawful anything fair_next fair_parts (IsRawFair Forms Sums) to_fair from_fair

abbrev pub fair_with : Formula → Option ℕ → Formula × Option ℕ
fair_with f h = (f, h)

abbrev pub invariance_with : Formula → Option Formula → PlainGoal × PlainRule
invariance_with p f = (invariant p, invariance_rule f)

module _ (g : Setting) (before : ℕ) (few : nat_lt before 64 ≡ true) where
  abbrev fairs : Reader (Formula × Option ℕ)
  fairs = then_reads (formula_of g) (λ f. then_reads (helper_of g) (λ h. gives (fair_with f h)))

  fair_is : (s : Stream) → fair_of g before s ≡ fairs s
  unfolding fair_of
  fair_is s = ap (λ (r : Read Breach Formula). r >>= λ x. then_reads (helper_of g) (λ h. gives (fair_with x.0 h)) x.1) (listed_is g before few s)

  judged_option_helper : (f : Formula) (at : ℕ) (s : Stream) → JudgedAt IsSyntactic fair_next at (then_reads (helper_of g) (λ h. gives (fair_with f h))) helper_option.phrase.reader (optional_size transition_size) (optional_rules (helper_rules g) at) (λ o x. Unit {0}) s
  unfolding helper_of
  judged_option_helper f at s =
      judge_map fair_next at (optional marks.Helper (just_of g)) helper_option.phrase.reader (optional_size transition_size) (optional_rules (helper_rules g) at) SameThere (fair_with f) (λ o x. Unit {0}) (λ o x m. tt) s
      (judged_option marks.Helper no_dot fair_next fair_undotted (just_of g) raw_reference transition_size (helper_rules g) _ (short_after is_name no_dot reference_lawful (moves refl (syntax 0) refl)) at (λ m. judged_helper g (at + 1) m) s)

  pub judged_fair : (at : ℕ) (s : Stream) → JudgedAt IsSyntactic fair_next at (fair_of g before) fair_lawful.phrase.reader fair_size (fair_rules g at) (λ r x. Unit {0}) s
  judged_fair at s =
      judged_as IsSyntactic fair_next at fairs fair_lawful.phrase.reader fair_size (fair_rules g at) (λ r x. Unit {0}) (fair_of g before) fair_lawful.phrase.reader s (λ after h. fair_is after) (λ after h. refl)
      (judged_map IsSyntactic fair_next at fairs (pairs (raw forms) helper_option.phrase.reader) (λ p. p.0.size + optional_size transition_size p.1) (λ p. form_rules g at p.0 ++ optional_rules (helper_rules g) (at + p.0.size) p.1) (λ p x. Unit {0})
      the_fair fair_size (fair_rules g at) (λ r x. Unit {0}) (λ p. refl) (λ p. refl) (λ p x m. tt) s
      (judged_pair calm fair_next (formula_of g) (raw forms) (λ u. u.size) (form_rules g) (λ u f. typed_unit (truth_of (names_of g.names)) u ≡ Ok f) (λ f. then_reads (helper_of g) (λ h. gives (fair_with f h))) helper_option.phrase.reader (optional_size transition_size) (optional_rules (helper_rules g)) (λ p x. Unit {0})
      (short_pair calm (optional_front marks.Helper is_name no_dot fair_next fair_clear fair_undotted reference_lawful fair_quiet) fair_next (either_calm marks.Helper fair_next helper_calm_so fair_calm) helper_option (wider (or_next marks.Helper is_name no_dot fair_next fair_clear fair_undotted reference_lawful fair_quiet)))
      at s (judged_form g at s) (λ b f made at2 m. judged_option_helper f at2 m)))

  fair_items : StopsAtFirst (IsRawFair Forms Sums) (fair_rules g 0) (fair_of g before)
  fair_items = stops_at_first anything fair_next fair_quiet fair_lawful (fair_rules g 0) (fair_of g before) fair_size (λ r x. Unit {0}) (judged_fair 0)

pub fair_first_fault : FairFirstFault
fair_first_fault g before few = fair_items g before few

-- expr [ "by" expr ]
abbrev pub by_next : Sign → Bool
by_next = calm_but marks.By

pub by_clear : Within by_next (but marks.By)
unfolding calm_but
by_clear g h = (and_parts (calm g) (not (is g marks.By)) h).1

pub by_calm : Within by_next calm
by_calm g h = but_calm marks.By g h

pub by_quiet : by_next signs.Nothing ≡ true
unfolding calm_but calm
by_quiet = refl

pub by_calm_so : calm (signs.Marked marks.By) ≡ true
unfolding number calm
by_calm_so = refl

abbrev pub by_option : LawfulPhrase Breach (Option RawUnit) (optional_front marks.By anything calm by_next by_clear by_calm (raw_lawful forms) by_quiet) by_next
by_option = optional_lawful marks.By anything calm by_next by_clear by_calm (raw_lawful forms) by_quiet

abbrev pub the_invariance : RawUnit × Option RawUnit → RawClaim
the_invariance p = raw_invariance p.0 p.1

abbrev pub invariance_parts : LawfulPhrase Breach RawClaim anything by_next
invariance_parts = map_lawful anything by_next (λ g h. refl) the_invariance (open_lawful calm marks.By anything calm by_next by_clear by_calm by_calm (raw_lawful forms) (raw_lawful forms) by_quiet (either_calm marks.By by_next by_calm_so by_calm))

pub to_invariance : (ts : List Lexeme) (r : RawClaim) → invariance_parts.phrase.language ts r → IsRawInvariance Forms Sums ts r
to_invariance ts r (made us p (behind_it a b u q lu (made c f lf))) = spells_invariance a c u f lu lf

pub from_invariance : (ts : List Lexeme) (r : RawClaim) → IsRawInvariance Forms Sums ts r → invariance_parts.phrase.language ts r
from_invariance ts r (spells_invariance a b p f lp lf) = made (a ++ b) (both_of p f) (behind_it a b p (both_of p f) lp (made b f lf))

abbrev pub invariance_lawful : LawfulPhrase Breach RawClaim anything by_next
invariance_lawful = as_lawful anything by_next invariance_parts (IsRawInvariance Forms Sums) to_invariance from_invariance

module _ (g : Setting) where
  form_so : Judges calm (formula_of g) (raw forms) (λ u. u.size) (form_rules g) (λ u f. typed_unit (truth_of (names_of g.names)) u ≡ Ok f)
  form_so = record { judged = λ at s. judged_form g at s }

  abbrev pub IsOne : {B : Type 0} → B → PlainGoal × PlainRule → Type 0
  IsOne b x = is_invariance x.0 ≡ true

  by_form_so : (p : Formula) → Judges by_next (then_reads (optional marks.By (formula_of g)) (λ f. gives (invariance_with p f))) by_option.phrase.reader (optional_size (λ u. u.size)) (optional_rules (form_rules g)) IsOne
  by_form_so p = made_so (invariance_with p) IsOne (λ o x m. refl) (optional_so marks.By by_next by_calm (raw_lawful forms) (wider (λ g h. refl)) form_so)

  pub invariance_parts_so : Judges by_next (invariance_of g) (pairs (raw forms) by_option.phrase.reader) (λ p. p.0.size + optional_size (λ u. u.size) p.1) (λ at p. form_rules g at p.0 ++ optional_rules (form_rules g) (at + p.0.size) p.1) IsOne
  unfolding invariance_of
  invariance_parts_so = pair_so {makes = IsOne} (either_calm marks.By by_next by_calm_so by_calm) by_option (wider (or_next marks.By anything calm by_next by_clear by_calm (raw_lawful forms) by_quiet)) form_so (λ u p m. by_form_so p)

  invariance_so : Judges by_next (invariance_of g) invariance_lawful.phrase.reader claim_size (claim_rules g) IsOne
  invariance_so = seen_so the_invariance claim_size (claim_rules g) IsOne (λ p. refl) (λ at p. refl) (λ p x m. m) invariance_parts_so

pub invariances_first_fault : InvariancesFirstFault
invariances_first_fault g = stops_at_first anything by_next by_quiet invariance_lawful (claim_rules g 0) (invariance_of g) claim_size (IsOne g) ((invariance_so g).judged 0)
