-- Claims of responses, with their rules.
use Rattle.std.proofs.Common.{◌≡◌, ◌+◌, false, List, [], ◌∷◌, ◌++◌, Ok, refl, arith}
use Rattle.std.specs.Prelude.{codes}
use Rattle.st_tokens.specs.Stream.{Lexeme, IsSpelled}
use Rattle.st_reading.specs.declared.mark.Mark.TheVariants as marks
use Rattle.st_reading.specs.Mark.{number}
use Rattle.st_reading.specs.Sign.{declaring_word, basic_word, compound_word, step_word, rule_word, drawing_word}
use Rattle.st_reading.specs.Reading.{syntax, gives, then_reads}
use Rattle.st_reading.specs.Breaches.{Breach, Reader}
use Rattle.st_reading.specs.Spelling.{Is, behind_it}
use Rattle.st_reading.specs.Steady.{Within, moves, wider, anything}
use Rattle.st_reading.proofs.Tokens.{among, marks_within}
use Rattle.st_reading.proofs.Phrases.{made}
use Rattle.st_reading.proofs.LawfulPhrases.{LawfulPhrase, as_lawful, map_lawful}
use Rattle.st_linear.specs.Linear.{Linear}
use Rattle.st_form.specs.Formula.{Formula}
use Rattle.temporal_goals.specs.Texts.{PlainGoal, PlainRule, response}
use Rattle.expression_parser.specs.Calm.{calm}
use Rattle.expression_parser.proofs.FormulaTheorems.{quiet}
use Rattle.expression_typer.specs.Naming.{names_of}
use Rattle.assertions.specs.Reading.{truth_of}
use Rattle.proof_script.specs.Listing.{Setting, behind_mark, formula_of, sum_of}
use Rattle.proof_script.specs.Rules.{rule_of}
use Rattle.proof_script.specs.Steps.{is_invariance, response_of}
use Rattle.script_grammar.specs.RawScripts.{RawUnit, RawRule, RawClaim, raw_response}
use Rattle.script_grammar.specs.Sizes.{claim_size, rule_size}
use Rattle.script_grammar.specs.Grammar.{IsRawResponse, spells_response}
use Rattle.script_grammar.specs.Rules.{claim_rules, form_rules, rule_rules, sum_rules}
use Rattle.script_grammar.specs.Theorems.{Forms, Sums}
use Rattle.script_grammar.specs.FirstFaults.{ResponsesFirstFault}
use Rattle.script_grammar.proofs.RawReferences.{no_dot}
use Rattle.script_grammar.proofs.RawUnits.{raw, raw_lawful}
use Rattle.script_grammar.proofs.UnitLaws.{forms, sums, judged_form, typed_unit}
use Rattle.script_grammar.proofs.JudgedPairs.{both_of, after_lawful, pair_lawful, pairs}
use Rattle.script_grammar.proofs.JudgedItems.{keyword}
use Rattle.script_grammar.proofs.Judges.{Judges, Whatever, pair_so, made_so, seen_so, after_so, weaker_so}
use Rattle.script_grammar.proofs.NetMarks.{sum_so}
use Rattle.script_grammar.proofs.RawRules.{rule_lawful}
use Rattle.script_grammar.proofs.JudgedRules.{rule_so}
use Rattle.script_grammar.proofs.PartLaws.{stops_at_first}

-- MARKS
abbrev pub by_token : Lexeme
by_token = keyword (codes "by")

pub by_spelled : IsSpelled by_token
by_spelled = refl

pub by_is : Is marks.By by_token
unfolding number declaring_word basic_word compound_word step_word rule_word drawing_word
by_is = refl

abbrev pub leads_token : Lexeme
leads_token = keyword (codes "leads")

pub leads_spelled : IsSpelled leads_token
leads_spelled = refl

pub leads_is : Is marks.Leads leads_token
unfolding number declaring_word basic_word compound_word step_word rule_word drawing_word
leads_is = refl

abbrev pub within_token : Lexeme
within_token = keyword (codes "within")

pub within_spelled : IsSpelled within_token
within_spelled = refl

pub within_is : Is marks.Within within_token
unfolding number declaring_word basic_word compound_word step_word rule_word drawing_word
within_is = refl

pub by_there_calm : Within (among (marks.By ∷ [])) calm
unfolding number calm
by_there_calm = marks_within calm (marks.By ∷ []) refl

pub leads_calm : Within (among (marks.Leads ∷ [])) calm
unfolding number calm
leads_calm = marks_within calm (marks.Leads ∷ []) refl

pub within_calm : Within (among (marks.Within ∷ [])) calm
unfolding number calm
within_calm = marks_within calm (marks.Within ∷ []) refl

-- expr "leads" expr "within" sum "by" rule
abbrev pub by_lawful : LawfulPhrase Breach RawRule (among (marks.By ∷ [])) no_dot
by_lawful = after_lawful marks.By by_token by_spelled by_is anything no_dot rule_lawful (wider (λ g h. refl))

abbrev pub bounded_lawful : LawfulPhrase Breach (RawUnit × RawRule) (among (marks.Within ∷ [])) no_dot
bounded_lawful =
    pair_lawful (among (marks.Within ∷ [])) calm (among (marks.By ∷ [])) no_dot by_there_calm refl (after_lawful marks.Within within_token within_spelled within_is anything calm (raw_lawful sums) (wider (λ g h. refl))) (moves quiet (syntax 0) refl) by_lawful refl

abbrev pub led_lawful : LawfulPhrase Breach (RawUnit × (RawUnit × RawRule)) (among (marks.Leads ∷ [])) no_dot
led_lawful =
    pair_lawful (among (marks.Leads ∷ [])) calm (among (marks.Within ∷ [])) no_dot within_calm refl (after_lawful marks.Leads leads_token leads_spelled leads_is anything calm (raw_lawful forms) (wider (λ g h. refl))) (moves quiet (syntax 0) refl) bounded_lawful refl

abbrev pub the_response : RawUnit × (RawUnit × (RawUnit × RawRule)) → RawClaim
the_response p = raw_response p.0 p.1.0 p.1.1.0 p.1.1.1

abbrev pub response_parts : LawfulPhrase Breach RawClaim anything no_dot
response_parts = map_lawful anything no_dot (λ g h. refl) the_response (pair_lawful anything calm (among (marks.Leads ∷ [])) no_dot leads_calm refl (raw_lawful forms) (wider (λ g h. refl)) led_lawful refl)

pub to_response : (ts : List Lexeme) (r : RawClaim) → response_parts.phrase.language ts r → IsRawResponse Forms Sums ts r
to_response ts r (made us p (behind_it a k1 f q1 lf (made k2 q2 (behind_it b k3 q q3 lq (made k4 q4 (behind_it c k5 e q5 le (made d x lx))))))) = spells_response a b c d f q e x lf lq le lx

pub from_response : (ts : List Lexeme) (r : RawClaim) → IsRawResponse Forms Sums ts r → response_parts.phrase.language ts r
from_response ts r (spells_response a b c d p q e x lp lq le lx) =
    let bounded = both_of e x in
    let led = both_of q bounded in
    made (a ++ (b ++ (c ++ d))) (both_of p led) (behind_it a (b ++ (c ++ d)) p (both_of p led) lp (made (b ++ (c ++ d)) led (behind_it b (c ++ d) q led lq (made (c ++ d) bounded (behind_it c d e bounded le (made d x lx))))))

abbrev pub response_lawful : LawfulPhrase Breach RawClaim anything no_dot
response_lawful = as_lawful anything no_dot response_parts (IsRawResponse Forms Sums) to_response from_response

-- JUDGED
module _ (g : Setting) where
  pub form_so : Judges calm (formula_of g) (raw forms) (λ u. u.size) (form_rules g) Whatever
  form_so = weaker_so Whatever (λ u f m. tt) typed_so
    where
      typed_so : Judges calm (formula_of g) (raw forms) (λ u. u.size) (form_rules g) (λ u f. typed_unit (truth_of (names_of g.names)) u ≡ Ok f)
      typed_so = record { judged = λ at s. judged_form g at s }

  -- a claim that is no invariance
  abbrev pub Other : {B : Type 0} → B → PlainGoal × PlainRule → Type 0
  Other b x = is_invariance x.0 ≡ false

  abbrev responding : Formula → Formula → Linear → PlainRule → PlainGoal × PlainRule
  responding p q e r = (response p q e, r)

  abbrev by_rule : Formula → Formula → Linear → Reader (PlainGoal × PlainRule)
  by_rule p q e = then_reads (behind_mark marks.By (rule_of g)) (λ r. gives (responding p q e r))

  abbrev by_bound : Formula → Formula → Reader (PlainGoal × PlainRule)
  by_bound p q = then_reads (behind_mark marks.Within (sum_of g)) (by_rule p q)

  abbrev by_leading : Formula → Reader (PlainGoal × PlainRule)
  by_leading p = then_reads (behind_mark marks.Leads (formula_of g)) (by_bound p)

  by_rule_so : (p q : Formula) (e : Linear) → Judges no_dot (by_rule p q e) by_lawful.phrase.reader (λ r. 1 + rule_size r) (λ at r. rule_rules g (at + 1) r) Other
  by_rule_so p q e = made_so (responding p q e) Other (λ r x m. refl) (after_so marks.By rule_lawful (wider (λ g h. refl)) (rule_so g))

  bound_so : (p q : Formula) → Judges no_dot (by_bound p q) bounded_lawful.phrase.reader (λ z. (1 + z.0.size) + (1 + rule_size z.1)) (λ at z. sum_rules g (at + 1) z.0 ++ rule_rules g (at + (1 + z.0.size) + 1) z.1) Other
  bound_so p q = pair_so {makes = Other} by_there_calm by_lawful (moves refl (syntax 0) refl) (after_so marks.Within (raw_lawful sums) (wider (λ g h. refl)) (sum_so g)) (λ u e m. by_rule_so p q e)

  leading_so : (p : Formula) → Judges no_dot (by_leading p) led_lawful.phrase.reader (λ z. (1 + z.0.size) + ((1 + z.1.0.size) + (1 + rule_size z.1.1)))
      (λ at z. form_rules g (at + 1) z.0 ++ (sum_rules g (at + (1 + z.0.size) + 1) z.1.0 ++ rule_rules g (at + (1 + z.0.size) + (1 + z.1.0.size) + 1) z.1.1)) Other
  leading_so p = pair_so {makes = Other} within_calm bounded_lawful (moves refl (syntax 0) refl) (after_so marks.Leads (raw_lawful forms) (wider (λ g h. refl)) form_so) (λ u q m. bound_so p q)

  pub response_parts_so : Judges no_dot (response_of g) (pairs (raw forms) led_lawful.phrase.reader) (λ z. z.0.size + ((1 + z.1.0.size) + ((1 + z.1.1.0.size) + (1 + rule_size z.1.1.1))))
      (λ at z. form_rules g at z.0 ++ (form_rules g (at + z.0.size + 1) z.1.0 ++ (sum_rules g (at + z.0.size + (1 + z.1.0.size) + 1) z.1.1.0 ++ rule_rules g (at + z.0.size + (1 + z.1.0.size) + (1 + z.1.1.0.size) + 1) z.1.1.1))) Other
  unfolding response_of
  response_parts_so = pair_so {makes = Other} leads_calm led_lawful (moves refl (syntax 0) refl) form_so (λ u p m. leading_so p)

  response_so : Judges no_dot (response_of g) response_lawful.phrase.reader claim_size (claim_rules g) Other
  response_so = seen_so the_response claim_size (claim_rules g) Other (λ p. omega arith) (λ at p. refl) (λ p x m. m) response_parts_so

pub responses_first_fault : ResponsesFirstFault
responses_first_fault g = stops_at_first anything no_dot refl response_lawful (claim_rules g 0) (response_of g) claim_size (Other g) ((response_so g).judged 0)
