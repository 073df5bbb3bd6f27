-- Claims of waiting-for, with their rules. How many levels there are is judged at the token behind them.
use Rattle.std.proofs.Common.{◌≡◌, ℕ, suc, ◌+◌, ◌⊎◌, inl, inr, Bool, true, false, cond, not, List, [], ◌∷◌, ◌++◌, length, Ok, Err, refl, sym, ap, subst, ◌∙◌, arith, append_assoc}
use Rattle.std.specs.Prelude.{◌-◌, codes, nat_eq, ◌||◌}
use Rattle.st_tokens.specs.Stream.{Lexeme, Stream, ends, behind, IsSpelled}
use Rattle.st_reading.specs.declared.mark.Mark.TheVariants as marks
use Rattle.st_reading.specs.declared.sign.Sign.{Sign}
use Rattle.st_reading.specs.declared.sign.Sign.TheVariants as signs
use Rattle.st_reading.specs.Mark.{number}
use Rattle.st_reading.specs.Sign.{is, declaring_word, basic_word, compound_word, step_word, rule_word, drawing_word}
use Rattle.st_reading.specs.Reading.{Read, ◌>>=◌, other, syntax, ahead, refusal, expected, gives, then_reads}
use Rattle.st_reading.specs.Rule as rules
use Rattle.st_reading.specs.Breaches.{Breach, Reader, broke, unless}
use Rattle.st_reading.specs.BrokenRules.{Broken}
use Rattle.st_reading.specs.Spelling.{Is, behind_it, row}
use Rattle.st_reading.specs.Phrases.{after_mark}
use Rattle.st_reading.specs.Steady.{Within, moves, wider, anything}
use Rattle.st_reading.proofs.Steadiness.{bind_err}
use Rattle.st_reading.proofs.Tokens.{among, but, marks_within}
use Rattle.st_reading.proofs.Choices.{behind_mark as with_diagram, without_mark as with_levels}
use Rattle.st_reading.proofs.ListSoundness.{one_mark}
use Rattle.st_reading.proofs.Phrases.{made}
use Rattle.st_reading.proofs.LawfulPhrases.{LawfulPhrase, as_lawful, either_lawful, map_lawful, mark_lawful, within_lawful}
use Rattle.st_form.specs.Formula.{Formula}
use Rattle.temporal_goals.specs.Texts.{PlainDiagram, PlainRule, diagram, levels, waiting}
use Rattle.temporal_goals.specs.declared.diagrams.DiagramKind.TheVariants.{Wait}
use Rattle.expression_parser.specs.Calm.{calm}
use Rattle.expression_parser.proofs.FormulaTheorems.{quiet}
use Rattle.proof_script.specs.Listing.{Setting, listed, listed_formula_of}
use Rattle.proof_script.specs.Steps.{ends_rule, is_invariance, levels_of, matched_of, wait_diagram_of, waiting_by_of, waiting_goal_of, waiting_of}
use Rattle.script_grammar.specs.RawScripts.{RawUnit, RawDrawing, RawWaitingRule, raw_levels, raw_wait_diagram, RawClaim, raw_waiting}
use Rattle.script_grammar.specs.Sizes.{claim_size, drawing_size, marked_size, unit_size}
use Rattle.script_grammar.specs.Grammar.{IsRawWaiting, spells_waiting, IsRawWaitingRule, spells_levels, spells_wait_diagram}
use Rattle.script_grammar.specs.Rules.{drawing_rules, form_rules}
use Rattle.script_grammar.specs.Theorems.{Forms, Sums}
use Rattle.script_grammar.proofs.RawUnits.{raw, raw_lawful}
use Rattle.script_grammar.proofs.UnitLaws.{forms}
use Rattle.script_grammar.proofs.JudgedItems.{keyword}
use Rattle.script_grammar.proofs.JudgedPairs.{both_of, after_lawful, made_lawful, pair_lawful, pairs}
use Rattle.script_grammar.proofs.Judges.{Judges, Whatever, pair_so, made_so, seen_so, as_so, after_so, calmer_so, place_so, weaker_so, regroup}
use Rattle.script_grammar.proofs.JudgedChoices.{either, either_so}
use Rattle.script_grammar.proofs.JudgedLists.{counted_so, turns_length}
use Rattle.script_grammar.proofs.MarkedItems.{items_lawful, items_or_next}
use Rattle.script_grammar.proofs.Citations.{loose_lawful, step_end_within, using_front}
use Rattle.script_grammar.proofs.CompletedItems.{Pending}
use Rattle.script_grammar.proofs.DrawingLaws.{wait_drawing, wait_so}
use Rattle.script_grammar.proofs.NetMarks.{marked_or_within}
use Rattle.script_grammar.proofs.JudgedResponses.{by_token, by_spelled, by_is}
use Rattle.script_grammar.proofs.UndrawnForms.{form_ends, form_refuses, unmarked_lawful}
use Rattle.script_grammar.proofs.WaitingGoals.{RawGoal, phases, goal_lawful, goal_so, by_end, listed_form_so, item_rules, phase_rules, wait_token, wait_spelled, wait_is}
use Rattle.script_grammar.proofs.NamedSteps.{using_within}
use Rattle.script_grammar.proofs.EndedClaims.{guarded, unguarded}
use Rattle.script_grammar.proofs.ClaimRules.{Claimed, FitsClaim, own_claim_rules}

-- MARKS
abbrev pub diagram_token : Lexeme
diagram_token = keyword (codes "diagram")

pub diagram_spelled : IsSpelled diagram_token
diagram_spelled = refl

pub diagram_is : Is marks.Diagram diagram_token
unfolding number declaring_word basic_word compound_word step_word rule_word drawing_word
diagram_is = refl

pub using_not_comma : Within using_front (but marks.Comma)
unfolding number
using_not_comma = using_within (but marks.Comma) refl (step_end_within (but marks.Comma) refl refl)

pub using_calm : Within using_front calm
unfolding number calm
using_calm = using_within calm refl (step_end_within calm refl refl)

pub comma_calm : calm (signs.Marked marks.Comma) ≡ true
unfolding number calm
comma_calm = refl

pub by_there : Within (among (marks.By ∷ [])) by_end
unfolding number
by_there = marks_within by_end (marks.By ∷ []) refl

-- LEVELS: expr { "," expr }
abbrev pub commas_front : Sign → Bool
commas_front g = is g marks.Comma || using_front g

abbrev pub commas_lawful : LawfulPhrase Breach (List RawUnit) commas_front using_front
commas_lawful = items_lawful marks.Comma anything calm using_front comma_calm using_not_comma using_calm (raw_lawful forms)

pub commas_calm : Within commas_front calm
commas_calm = marked_or_within marks.Comma using_front calm comma_calm using_calm

pub commas_or_end : Within using_front commas_front
commas_or_end = items_or_next marks.Comma anything calm using_front comma_calm using_not_comma using_calm (raw_lawful forms)

abbrev pub RawRow : Type 0
RawRow = RawUnit × List RawUnit

abbrev pub row_lawful : LawfulPhrase Breach RawRow (but marks.Diagram) using_front
row_lawful = loose_lawful (but marks.Diagram) calm commas_front using_front commas_calm (unmarked_lawful marks.Diagram calm (raw_lawful forms) form_refuses) (moves quiet (syntax 0) form_ends) commas_lawful commas_or_end using_calm

pub row_ends : row_lawful.phrase.reader (ends 0) ≡ Err (syntax 0)
row_ends = bind_err (raw forms) (λ u. then_reads commas_lawful.phrase.reader (λ us. gives (both_of u us))) (ends 0) (syntax 0) form_ends

-- or a diagram
abbrev pub RawRule : Type 0
RawRule = RawDrawing ⊎ RawRow

abbrev pub a_diagram : RawDrawing → RawRule
a_diagram d = inl d

abbrev pub a_row : RawRow → RawRule
a_row p = inr p

abbrev pub waits_drawing : LawfulPhrase Breach RawDrawing (among (marks.Wait ∷ [])) anything
waits_drawing = after_lawful marks.Wait wait_token wait_spelled wait_is (among (marks.OpenBrace ∷ [])) anything wait_drawing (moves refl (syntax 0) refl)

abbrev pub diagram_lawful : LawfulPhrase Breach RawRule (among (marks.Wait ∷ [])) using_front
diagram_lawful = within_lawful (among (marks.Wait ∷ [])) anything (among (marks.Wait ∷ [])) using_front (λ g h. h) (λ g h. refl) (made_lawful (among (marks.Wait ∷ [])) anything a_diagram waits_drawing (moves refl (syntax 0) refl))

abbrev pub levels_lawful : LawfulPhrase Breach RawRule (but marks.Diagram) using_front
levels_lawful = made_lawful (but marks.Diagram) using_front a_row row_lawful (moves refl (syntax 0) row_ends)

pub levels_end : levels_lawful.phrase.reader (ends 0) ≡ Err (syntax 0)
levels_end = bind_err row_lawful.phrase.reader (λ p. gives (a_row p)) (ends 0) (syntax 0) row_ends

abbrev pub rule_front : Sign → Bool
rule_front g = is g marks.Diagram || but marks.Diagram g

abbrev pub rule_lawful : LawfulPhrase Breach RawRule rule_front using_front
rule_lawful = either_lawful marks.Diagram diagram_token diagram_spelled diagram_is (among (marks.Wait ∷ [])) (but marks.Diagram) using_front (λ g h. h) refl diagram_lawful levels_lawful (moves refl (syntax 0) refl) (syntax 0) levels_end

-- THE CLAIM
abbrev pub by_mark : LawfulPhrase Breach ℕ (among (marks.By ∷ [])) anything
by_mark = mark_lawful marks.By by_token by_spelled by_is (rw by_is refl)

abbrev pub ruled_lawful : LawfulPhrase Breach (ℕ × RawRule) (among (marks.By ∷ [])) using_front
ruled_lawful = pair_lawful (among (marks.By ∷ [])) anything rule_front using_front (λ g h. refl) refl by_mark (moves refl (syntax 0) refl) rule_lawful levels_end

abbrev pub written : RawRule → RawWaitingRule
written (inl d) = raw_wait_diagram d
written (inr p) = raw_levels (p.0 ∷ p.1)

abbrev pub RawWaitingClaim : Type 0
RawWaitingClaim = RawGoal × (ℕ × RawRule)

abbrev pub the_waiting : RawWaitingClaim → RawClaim
the_waiting z = raw_waiting z.0.0 (phases z.0) z.1.0 (written z.1.1)

abbrev pub waiting_parts : LawfulPhrase Breach RawClaim anything using_front
waiting_parts = map_lawful anything using_front (λ g h. refl) the_waiting (pair_lawful anything by_end (among (marks.By ∷ [])) using_front by_there refl goal_lawful (wider (λ g h. refl)) ruled_lawful refl)

pub to_rule : (ts : List Lexeme) (r : RawRule) → rule_lawful.phrase.language ts r → IsRawWaitingRule Forms Sums ts (written r)
to_rule ts r (with_diagram t us y e (made vs d (after_mark u ws x f l))) = spells_wait_diagram t u ws d e f l
to_rule ts r (with_levels us y (made vs p (behind_it a b q z lq (made c qs items)))) = spells_levels (a ++ c) (q ∷ qs) (row a c q qs lq items)

from_levels : (ts : List Lexeme) (q : RawUnit) (qs : List RawUnit) (a b : List Lexeme) → ts ≡ a ++ b → (raw_lawful forms).phrase.language a q → commas_lawful.phrase.language b qs → rule_lawful.phrase.language ts (inr (q, qs))
from_levels ts q qs a b e lq items = subst (λ (z : List Lexeme). rule_lawful.phrase.language z (inr (q, qs))) (sym e) (with_levels (a ++ b) (inr (q, qs)) (made (a ++ b) (both_of q qs) (behind_it a b q (both_of q qs) lq (made b qs items))))

pub from_rule : (ts : List Lexeme) (x : RawWaitingRule) → IsRawWaitingRule Forms Sums ts x → (r : RawRule) × (written r ≡ x) × rule_lawful.phrase.language ts r
from_rule ts x (spells_levels us ls (row a b q qs lq items)) = (inr (both_of q qs), refl, from_levels (a ++ b) q qs a b refl lq items)
from_rule ts x (spells_wait_diagram t u us d e f l) = (inl d, refl, with_diagram t (u ∷ us) (inl d) e (made (u ∷ us) d (after_mark u us d f l)))

pub to_waiting : (ts : List Lexeme) (x : RawClaim) → waiting_parts.phrase.language ts x → IsRawWaiting Forms Sums ts x
to_waiting ts x (made us z (behind_it k1 k2 w k3 (behind_it a k4 p k5 lp (made k6 k7 (behind_it b k8 q k9 lq (made k10 k11 (behind_it c k12 r k13 lr (made d qs items)))))) (made k14 k15 (behind_it k16 k17 n k18 (one_mark t e) (made h rule l))))) =
    spells_waiting a b c d h t p q r qs (written rule) lp lq lr items e (to_rule h rule l)

pub from_waiting : (ts : List Lexeme) (x : RawClaim) → IsRawWaiting Forms Sums ts x → waiting_parts.phrase.language ts x
from_waiting ts x (spells_waiting a b c d h t p q r qs y lp lq lr items e l) =
    let k = from_rule h y l in
    let third = both_of r qs in
    let second = both_of q third in
    let goal = both_of p second in
    let by_rule = both_of t.start k.0 in
    subst (λ v. waiting_parts.phrase.language ((a ++ (b ++ (c ++ d))) ++ t ∷ h) (raw_waiting p (q ∷ r ∷ qs) t.start v)) k.1
    (made ((a ++ (b ++ (c ++ d))) ++ t ∷ h) (both_of goal by_rule) (behind_it (a ++ (b ++ (c ++ d))) (t ∷ h) goal (both_of goal by_rule)
    (behind_it a (b ++ (c ++ d)) p goal lp (made (b ++ (c ++ d)) second (behind_it b (c ++ d) q second lq (made (c ++ d) third (behind_it c d r third lr (made d qs items))))))
    (made (t ∷ h) by_rule (behind_it (t ∷ []) h t.start by_rule (one_mark t e) (made h k.0 k.2)))))

abbrev pub waiting_lawful : LawfulPhrase Breach RawClaim anything using_front
waiting_lawful = as_lawful anything using_front waiting_parts (IsRawWaiting Forms Sums) to_waiting from_waiting

-- JUDGED
module _ (g : Setting) where
  -- with whether the levels are another number
  abbrev counted_levels : ℕ → ℕ → List Formula → Pending PlainRule
  counted_levels place count ls = record { wrong = not (nat_eq (length ls) count); breach = broke rules.WrongCount place; item = levels ls }

  abbrev uncounted : ℕ → PlainRule → Pending PlainRule
  uncounted place r = record { wrong = false; breach = broke rules.WrongCount place; item = r }

  abbrev levels_judge : ℕ → ℕ → Reader (Pending PlainRule)
  levels_judge count place = then_reads (listed marks.Comma (listed_formula_of g)) (λ ls. gives (counted_levels place count ls))

  abbrev diagram_judge : ℕ → ℕ → Reader (Pending PlainRule)
  diagram_judge count place = then_reads (wait_diagram_of g count) (λ r. gives (uncounted place r))

  abbrev rule_judge : ℕ → ℕ → Reader (Pending PlainRule)
  rule_judge count place = either marks.Diagram (diagram_judge count place) (levels_judge count place)

  abbrev claiming : Formula × List Formula → Pending PlainRule → Pending Claimed
  claiming w r = record { wrong = r.wrong; breach = r.breach; item = (waiting w.0 w.1, r.item) }

  abbrev by_judge : Formula × List Formula → Reader (Pending Claimed)
  by_judge w = then_reads (then_reads (expected marks.By) (rule_judge (length w.1))) (λ r. gives (claiming w r))

  abbrev pub waiting_judge : Reader (Pending Claimed)
  waiting_judge = then_reads (waiting_goal_of g) by_judge

  -- the rule's tokens and rules, behind "by"
  abbrev size_in : RawRule → ℕ
  size_in (inl d) = 2 + drawing_size d
  size_in (inr p) = unit_size p.0 + marked_size unit_size p.1

  abbrev rules_in : ℕ → ℕ → RawRule → List (Broken Breach)
  rules_in count at (inl d) = drawing_rules g Wait (count - 1) (at + 2) d
  rules_in count at (inr p) = item_rules g 0 at p.0 ++ phase_rules g 1 (at + unit_size p.0) p.1

  abbrev wrong_in : ℕ → RawRule → Bool
  wrong_in count (inl d) = false
  wrong_in count (inr p) = not (nat_eq (length (p.0 ∷ p.1)) count)

  abbrev Fits : {B : Type 0} → ℕ → ℕ → RawRule → Pending B → Type 0
  Fits count place r x = (x.wrong ≡ wrong_in count r) × (x.breach ≡ broke rules.WrongCount place)

  listed_so : Judges using_front (listed marks.Comma (listed_formula_of g)) row_lawful.phrase.reader (λ p. unit_size p.0 + marked_size unit_size p.1) (λ at p. item_rules g 0 at p.0 ++ phase_rules g 1 (at + unit_size p.0) p.1) (λ p ls. length ls ≡ length (p.0 ∷ p.1))
  listed_so =
      pair_so {makes = λ p ls. length ls ≡ length (p.0 ∷ p.1)} commas_calm commas_lawful (wider commas_or_end) (listed_form_so g 0)
      (λ u f m. weaker_so (λ us ls. length ls ≡ suc (length us)) (λ us ls k. omega (arith, turns_length (f ∷ []) us ls k))
      (counted_so marks.Comma anything calm using_front comma_calm using_not_comma using_calm (raw_lawful forms) (wider (λ g h. refl)) unit_size (form_rules g) (λ u. u) (listed_formula_of g) (listed_form_so g) (f ∷ []) 1 refl))

  levels_so : (count place : ℕ) → Judges using_front (levels_judge count place) levels_lawful.phrase.reader size_in (rules_in count) (Fits count place)
  levels_so count place =
      seen_so a_row size_in (rules_in count) (Fits count place) (λ p. refl) (λ at p. refl) (λ p x m. m)
      (made_so (counted_levels place count) (λ p x. Fits count place (inr p) x) (λ p ls m. (ap (λ n. not (nat_eq n count)) m, refl)) listed_so)

  abbrev as_diagram : PlainDiagram → PlainRule
  as_diagram d = diagram d

  drawn_so : (count : ℕ) → Judges anything (wait_diagram_of g count) waits_drawing.phrase.reader (λ d. 1 + drawing_size d) (λ at d. drawing_rules g Wait (count - 1) (at + 1) d) Whatever
  unfolding wait_diagram_of
  drawn_so count = after_so marks.Wait wait_drawing (moves refl (syntax 0) refl) (made_so as_diagram Whatever (λ d r m. tt) (wait_so g (count - 1)))

  diagram_so : (count place : ℕ) → Judges anything (then_reads (expected marks.Diagram) (λ m. diagram_judge count place)) (then_reads (expected marks.Diagram) (λ m. diagram_lawful.phrase.reader)) size_in (rules_in count) (Fits count place)
  diagram_so count place =
      as_so (then_reads (expected marks.Diagram) (λ m. diagram_judge count place)) (then_reads (expected marks.Diagram) (λ m. diagram_lawful.phrase.reader)) (λ s. refl) (λ s. sym (regroup (expected marks.Diagram) (λ m. waits_drawing.phrase.reader) (λ d. gives (a_diagram d)) s))
      (seen_so a_diagram size_in (rules_in count) (Fits count place) (λ d. omega arith) (λ at d. let e : at + 2 ≡ at + 1 + 1 = omega arith in ap (λ n. drawing_rules g Wait (count - 1) n d) e) (λ d x m. m)
      (after_so marks.Diagram waits_drawing (moves refl (syntax 0) refl) (made_so (uncounted place) (λ d x. Fits count place (inl d) x) (λ d r m. (refl, refl)) (drawn_so count))))

  rule_so : (count place : ℕ) → Judges using_front (rule_judge count place) rule_lawful.phrase.reader size_in (rules_in count) (Fits count place)
  rule_so count place = either_so marks.Diagram (diagram_judge count place) diagram_lawful.phrase.reader (calmer_so using_front (λ g h. refl) (diagram_so count place)) (levels_so count place)

  abbrev Owed : ℕ → ℕ × RawRule → Pending Claimed → Type 0
  Owed count q x = Fits count q.0 q.1 x × (is_invariance x.item.0 ≡ false)

  by_so : (w : Formula × List Formula) → Judges using_front (by_judge w) ruled_lawful.phrase.reader (λ q. 1 + size_in q.1) (λ at q. [] ++ rules_in (length w.1) (at + 1) q.1) (Owed (length w.1))
  by_so w =
      made_so (claiming w) (Owed (length w.1)) (λ q r m. (m, refl))
      (pair_so {makes = λ q r. Fits (length w.1) q.0 q.1 r} (λ g h. refl) rule_lawful (moves refl (syntax 0) levels_end) (place_so marks.By) (λ n k m. weaker_so (λ c r. Fits (length w.1) n c r) (λ c r f. subst (λ z. Fits (length w.1) z c r) m f) (rule_so (length w.1) k)))

  -- THE CLAIM
  abbrev goal_size : RawGoal → ℕ
  goal_size w = unit_size w.0 + ((1 + unit_size w.1.0) + ((1 + unit_size w.1.1.0) + marked_size unit_size w.1.1.1))

  abbrev parts_rules : ℕ → RawWaitingClaim → List (Broken Breach)
  parts_rules at z = (form_rules g at z.0.0 ++ phase_rules g 0 (at + unit_size z.0.0) (phases z.0)) ++ ([] ++ rules_in (length (phases z.0)) (at + goal_size z.0 + 1) z.1.1)

  parts_so : Judges using_front waiting_judge (pairs goal_lawful.phrase.reader ruled_lawful.phrase.reader) (λ z. goal_size z.0 + (1 + size_in z.1.1)) parts_rules (λ z x. Owed (length (phases z.0)) z.1 x)
  parts_so =
      pair_so {rules2 = λ w at q. [] ++ rules_in (length (phases w)) (at + 1) q.1} {makes = λ z x. Owed (length (phases z.0)) z.1 x} by_there ruled_lawful (moves refl (syntax 0) refl) (goal_so g)
      (λ z w m. subst (λ n. Judges using_front (by_judge w) ruled_lawful.phrase.reader (λ q. 1 + size_in q.1) (λ at q. [] ++ rules_in n (at + 1) q.1) (Owed n)) m (by_so w))

  sized : (w : RawGoal) (n : ℕ) (r : RawRule) → claim_size (the_waiting (w, (n, r))) ≡ goal_size w + (1 + size_in r)
  sized w n (inl d) = omega arith
  sized w n (inr p) = omega arith

  ruled : (at : ℕ) (w : RawGoal) (n : ℕ) (r : RawRule) → own_claim_rules g at (the_waiting (w, (n, r))) ≡ parts_rules at (w, (n, r))
  ruled at w n (inl d) =
      let e : at + unit_size w.0 + marked_size unit_size (phases w) + 3 ≡ at + goal_size w + 1 + 2 = omega arith in
      ap (λ k. form_rules g at w.0 ++ (phase_rules g 0 (at + unit_size w.0) (phases w) ++ drawing_rules g Wait (length (phases w) - 1) k d)) e
      ∙ sym (append_assoc (form_rules g at w.0) (phase_rules g 0 (at + unit_size w.0) (phases w)) (drawing_rules g Wait (length (phases w) - 1) (at + goal_size w + 1 + 2) d))
  ruled at w n (inr p) =
      let later = at + unit_size w.0 + marked_size unit_size (phases w) in
      let e : later + 1 ≡ at + goal_size w + 1 = omega arith in
      let f : later + (1 + unit_size p.0) ≡ at + goal_size w + 1 + unit_size p.0 = omega arith in
      ap (λ k. form_rules g at w.0 ++ (phase_rules g 0 (at + unit_size w.0) (phases w) ++ (item_rules g 0 k p.0 ++ phase_rules g 1 (later + (1 + unit_size p.0)) p.1))) e
      ∙ ap (λ k. form_rules g at w.0 ++ (phase_rules g 0 (at + unit_size w.0) (phases w) ++ (item_rules g 0 (at + goal_size w + 1) p.0 ++ phase_rules g 1 k p.1))) f
      ∙ sym (append_assoc (form_rules g at w.0) (phase_rules g 0 (at + unit_size w.0) (phases w)) (rules_in (length (phases w)) (at + goal_size w + 1) (inr p)))

  fits : (w : RawGoal) (n : ℕ) (r : RawRule) (x : Pending Claimed) → Owed (length (phases w)) (n, r) x → FitsClaim g (the_waiting (w, (n, r))) x
  fits w n (inl d) x m = (m.0.0, m.0.1, m.1)
  fits w n (inr p) x m = (m.0.0, m.0.1, m.1)

  pub waiting_so : Judges using_front waiting_judge waiting_lawful.phrase.reader claim_size (own_claim_rules g) (FitsClaim g)
  waiting_so = seen_so the_waiting claim_size (own_claim_rules g) (FitsClaim g) (λ z. sized z.0 z.1.0 z.1.1) (λ at z. ruled at z.0 z.1.0 z.1.1) (λ z x m. fits z.0 z.1.0 z.1.1 x m) parts_so

  -- as the reader of scripts judges the levels
  module _ {A : Type 0} (ended : Claimed → Reader A) (refuses : (c : Claimed) (s : Stream) → ends_rule (ahead s) ≡ false → ended c s ≡ Err (refusal s)) where
    abbrev ending : Pending Claimed → Reader A
    ending q = guarded q.wrong q.breach (ended q.item)

    abbrev as_claim : Formula × List Formula → PlainRule → Claimed
    as_claim w r = (waiting w.0 w.1, r)

    at_matched : (w : Formula × List Formula) (place count : ℕ) (ls : List Formula) (s : Stream) → ((matched_of place count ls s >>= λ r. gives {X = Breach} (as_claim w r.0) r.1) >>= λ c. ended c.0 c.1) ≡ ending (claiming w (counted_levels place count ls)) s
    unfolding matched_of
    at_matched w place count ls s = at_tests (ends_rule (ahead s)) (not (nat_eq (length ls) count))
      where
        at_tests : (b c : Bool) → ((cond b (unless c (broke rules.WrongCount place) (levels ls) s) (Err (refusal s)) >>= λ r. gives {X = Breach} (as_claim w r.0) r.1) >>= λ c. ended c.0 c.1) ≡ cond b (cond c (Err (other (broke rules.WrongCount place))) (ended (as_claim w (levels ls)) s)) (Err (refusal s))
        at_tests true true = refl
        at_tests true false = refl
        at_tests false c = refl

    at_by : (w : Formula × List Formula) (place : ℕ) (s : Stream) → ((waiting_by_of g (length w.1) place s >>= λ r. gives {X = Breach} (as_claim w r.0) r.1) >>= λ c. ended c.0 c.1) ≡ ((rule_judge (length w.1) place s >>= λ r. gives {X = Breach} (claiming w r.0) r.1) >>= λ q. ending q.0 q.1)
    unfolding waiting_by_of levels_of
    at_by w place s = at_test (is (ahead s) marks.Diagram)
      where
        at_diagram : (o : Read Breach PlainRule) → ((o >>= λ r. gives {X = Breach} (as_claim w r.0) r.1) >>= λ c. ended c.0 c.1) ≡ (((o >>= λ r. gives {X = Breach} (uncounted place r.0) r.1) >>= λ r. gives {X = Breach} (claiming w r.0) r.1) >>= λ q. ending q.0 q.1)
        at_diagram (Ok r) = sym (unguarded (broke rules.WrongCount place) (ended (as_claim w r.0)) (λ m e. refuses (as_claim w r.0) m e) r.1)
        at_diagram (Err f) = refl

        at_levels : (o : Read Breach (List Formula)) → (((o >>= λ ls. matched_of place (length w.1) ls.0 ls.1) >>= λ r. gives {X = Breach} (as_claim w r.0) r.1) >>= λ c. ended c.0 c.1) ≡ (((o >>= λ ls. gives {X = Breach} (counted_levels place (length w.1) ls.0) ls.1) >>= λ r. gives {X = Breach} (claiming w r.0) r.1) >>= λ q. ending q.0 q.1)
        at_levels (Ok ls) = at_matched w place (length w.1) ls.0 ls.1
        at_levels (Err f) = refl

        at_test : (b : Bool) → ((cond b (wait_diagram_of g (length w.1) (behind s)) (then_reads (listed marks.Comma (listed_formula_of g)) (λ ls. matched_of place (length w.1) ls) s) >>= λ r. gives {X = Breach} (as_claim w r.0) r.1) >>= λ c. ended c.0 c.1)
            ≡ ((cond b (diagram_judge (length w.1) place (behind s)) (levels_judge (length w.1) place s) >>= λ r. gives {X = Breach} (claiming w r.0) r.1) >>= λ q. ending q.0 q.1)
        at_test true = at_diagram (wait_diagram_of g (length w.1) (behind s))
        at_test false = at_levels (listed marks.Comma (listed_formula_of g) s)

    pub waiting_same : (s : Stream) → then_reads (waiting_of g) ended s ≡ then_reads waiting_judge ending s
    unfolding waiting_of
    waiting_same s = at_goal (waiting_goal_of g s)
      where
        at_mark : (w : Formula × List Formula) (o : Read Breach ℕ) → (((o >>= λ k. waiting_by_of g (length w.1) k.0 k.1) >>= λ r. gives {X = Breach} (as_claim w r.0) r.1) >>= λ c. ended c.0 c.1) ≡ (((o >>= λ k. rule_judge (length w.1) k.0 k.1) >>= λ r. gives {X = Breach} (claiming w r.0) r.1) >>= λ q. ending q.0 q.1)
        at_mark w (Ok k) = at_by w k.0 k.1
        at_mark w (Err f) = refl

        at_goal : (o : Read Breach (Formula × List Formula)) → ((o >>= λ w. then_reads (then_reads (expected marks.By) (waiting_by_of g (length w.0.1))) (λ r. gives (as_claim w.0 r)) w.1) >>= λ c. ended c.0 c.1) ≡ ((o >>= λ w. by_judge w.0 w.1) >>= λ q. ending q.0 q.1)
        at_goal (Ok w) = at_mark w.0 (expected marks.By w.1)
        at_goal (Err f) = refl
