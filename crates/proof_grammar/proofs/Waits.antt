-- Nested waiting-for, by levels or by a diagram: read exactly where it is spelled.
use Rattle.std.proofs.Common.{List, [], length, nat_eq, not, refl, subst, sym, ℕ, ◌-◌, ◌∷◌, ◌≡◌, ◌≤◌}
use Rattle.st_reading.specs.Rule as rules
use Rattle.st_reading.specs.Breaches.{Breach, broke}
use Rattle.st_reading.specs.Reading.{other}
use Rattle.st_tokens.specs.Stream.{Lexeme}
use Rattle.st_reading.proofs.ListCompleteness.{Complete}
use Rattle.st_reading.proofs.ListSoundness.{one_mark}
use Rattle.st_reading.specs.Spelling.{Is, Row, Sound, behind_it}
use Rattle.st_reading.specs.Steady.{anything}
use Rattle.st_reading.specs.declared.mark.Mark.TheVariants as marks
use Rattle.st_form.specs.Formula.{Formula}
use Rattle.temporal_goals.specs.Texts.{PlainDiagram, PlainGoal, PlainRule, diagram, levels, waiting}
use Rattle.temporal_goals.specs.declared.diagrams.DiagramKind.TheVariants as drawings
use Rattle.expression_parser.specs.Calm.{calm}
use Rattle.proof_script.specs.Listing.{Setting}
use Rattle.proof_script.specs.Steps.{ends_rule, levels_of, matched_of, wait_diagram_of, waiting_by_of, waiting_of}
use Rattle.proof_grammar.specs.Drawings.{IsDrawing}
use Rattle.proof_grammar.specs.Grammar.{IsWaiting, IsWaitingGoal, IsWaitingRule, by_levels, by_wait_diagram, waiting_goal, waits}
use Rattle.st_reading.specs.Phrases.{after_mark}
use Rattle.proof_grammar.specs.Units.{IsFormula}
use Rattle.st_reading.proofs.Choices.{behind_mark, either_front, either_phrase, without_mark}
use Rattle.proof_grammar.proofs.Counted.{listed_phrase}
use Rattle.proof_grammar.proofs.Drawings.{rule_drawing}
use Rattle.proof_grammar.proofs.Formulas.{listed_truth}
use Rattle.proof_grammar.proofs.GoalEnds.{comma_calm, ending_calm, ending_no_comma, ends_so, not_other, same_number}
use Rattle.proof_grammar.proofs.ItemEnds.{only_mark}
use Rattle.proof_grammar.proofs.Judgements.{judge_phrase, judged}
use Rattle.st_reading.proofs.Phrases.{Phrase, after_phrase, as_phrase, made, map_phrase, the_mark, then_phrase, within_phrase}
use Rattle.proof_grammar.proofs.Rules.{ending}
use Rattle.proof_grammar.proofs.TypedTexts.{undrawn}
use Rattle.proof_grammar.proofs.WaitingGoals.{goal_phrase}

module _ (g : Setting) where
  -- a rule as it is read: the goal has at most 64 formulas, and so there are at most 64 levels
  pub data IsRuleRead (count : ℕ) : List Lexeme → PlainRule → Type 0 where
    levels_read : (ts : List Lexeme) (ls : List Formula) → Row marks.Comma (IsFormula g) ts ls → length ls ≤ 64 → length ls ≡ count → IsRuleRead count ts (levels ls)
    wait_diagram_read : (t u : Lexeme) (ts : List Lexeme) (d : PlainDiagram) → Is marks.Diagram t → Is marks.Wait u → IsDrawing g drawings.Wait (count - 1) ts d → IsRuleRead count (t ∷ u ∷ ts) (diagram d)

  to_rule_of : (count : ℕ) (ts : List Lexeme) (x : PlainRule) → IsRuleRead count ts x → IsWaitingRule g count ts x
  to_rule_of count ts x (levels_read us ls rows le e) = by_levels us ls rows e
  to_rule_of count ts x (wait_diagram_read t u us d e f l) = by_wait_diagram t u us d e f l

  from_rule_of : (count : ℕ) (ts : List Lexeme) (x : PlainRule) → count ≤ 64 → IsWaitingRule g count ts x → IsRuleRead count ts x
  from_rule_of count ts x few (by_levels us ls rows e) = levels_read us ls rows (subst (λ (n : ℕ). n ≤ 64) (sym e) few) e
  from_rule_of count ts x few (by_wait_diagram t u us d e f l) = wait_diagram_read t u us d e f l

  goal_few : (ts : List Lexeme) (w : Formula × List Formula) → IsWaitingGoal g ts w → length w.1 ≤ 64
  goal_few ts w (waiting_goal a b c d p q r qs l1 l2 l3 items le) = le

  -- RULES, for a goal with so many formulas, behind "by" at the place
  abbrev pub levels_parts : ℕ → ℕ → Phrase Breach PlainRule undrawn ending
  levels_parts place count =
      judge_phrase undrawn ending ends_rule ends_so (λ ls. not (nat_eq (length ls) count)) (λ ls. other (broke rules.WrongCount place)) (λ ls. levels ls)
      (listed_phrase marks.Comma (IsFormula g) undrawn calm ending comma_calm ending_no_comma ending_calm (listed_truth g) (λ n ts x l. l) (λ n ts x l. l))

  abbrev pub wait_drawing : ℕ → Phrase Breach PlainRule (only_mark marks.Wait) anything
  wait_drawing count = after_phrase marks.Wait anything anything (rule_drawing g drawings.Wait (count - 1))

  abbrev pub wait_rule_parts : ℕ → ℕ → Phrase Breach PlainRule anything ending
  wait_rule_parts place count =
      within_phrase (either_front marks.Diagram (only_mark marks.Wait) undrawn ending (λ g h. h) (within_phrase (only_mark marks.Wait) anything (only_mark marks.Wait) ending (λ g h. h) (λ g h. refl) (wait_drawing count)) (levels_parts place count)) ending anything ending (λ g h. refl) (λ g h. h)
      (either_phrase marks.Diagram (only_mark marks.Wait) undrawn ending (λ g h. h) (within_phrase (only_mark marks.Wait) anything (only_mark marks.Wait) ending (λ g h. h) (λ g h. refl) (wait_drawing count)) (levels_parts place count))

  pub to_wait_rule : (place count : ℕ) (ts : List Lexeme) (x : PlainRule) → (wait_rule_parts place count).language ts x → IsRuleRead count ts x
  to_wait_rule place count ts x (behind_mark t us y e (after_mark u vs z f (made ws d l))) = wait_diagram_read t u ws d e f l
  to_wait_rule place count ts x (without_mark us y (judged vs ls l k)) = levels_read vs ls l.0 l.1 (same_number (length ls) count k)

  pub from_wait_rule : (place count : ℕ) (ts : List Lexeme) (x : PlainRule) → IsRuleRead count ts x → (wait_rule_parts place count).language ts x
  from_wait_rule place count ts x (levels_read us ls rows le e) = without_mark us (levels ls) (judged us ls (rows, le) (not_other (length ls) count e))
  from_wait_rule place count ts x (wait_diagram_read t u us d e f l) = behind_mark t (u ∷ us) (diagram d) e (after_mark u us (diagram d) f (made us d l))

  abbrev pub wait_rule_as : ℕ → ℕ → Phrase Breach PlainRule anything ending
  wait_rule_as place count = as_phrase anything ending (wait_rule_parts place count) (IsRuleRead count) (to_wait_rule place count) (from_wait_rule place count)

  pub wait_rule_sound : (place count : ℕ) → Sound (waiting_by_of g count place) (IsRuleRead count)
  unfolding waiting_by_of levels_of matched_of wait_diagram_of
  wait_rule_sound place count = (wait_rule_as place count).sound

  pub wait_rule_complete : (place count : ℕ) → Complete ending (waiting_by_of g count place) (IsRuleRead count)
  unfolding waiting_by_of levels_of matched_of wait_diagram_of
  wait_rule_complete place count = (wait_rule_as place count).complete

  abbrev pub wait_rule_phrase : ℕ → ℕ → Phrase Breach PlainRule anything ending
  wait_rule_phrase place count = record { reader = waiting_by_of g count place; language = IsRuleRead count; sound = wait_rule_sound place count; complete = wait_rule_complete place count; begins = λ ts x l after h. refl }

  -- GOALS WITH THEIR RULES
  abbrev pub wait_parts : Phrase Breach (PlainGoal × PlainRule) undrawn ending
  wait_parts =
      then_phrase undrawn (only_mark marks.By) (only_mark marks.By) ending (λ g h. h) (goal_phrase g) (λ w.
      map_phrase (only_mark marks.By) ending (λ r. (waiting w.0 w.1, r)) (then_phrase (only_mark marks.By) anything anything ending (λ g h. refl) (the_mark marks.By) (λ place. wait_rule_phrase place (length w.1))))

  pub to_waiting : (ts : List Lexeme) (x : PlainGoal × PlainRule) → wait_parts.language ts x → IsWaiting g ts x
  to_waiting ts x (behind_it a b w y l (made us r (behind_it m n place z (one_mark t e) k))) = waits a (t ∷ n) w z l (after_mark t n z e (to_rule_of (length w.1) n z k))

  pub from_waiting : (ts : List Lexeme) (x : PlainGoal × PlainRule) → IsWaiting g ts x → wait_parts.language ts x
  from_waiting ts x (waits a b w r l (after_mark t n z e k)) = behind_it a (t ∷ n) w _ l (made (t ∷ n) z (behind_it (t ∷ []) n t.start z (one_mark t e) (from_rule_of (length w.1) n z (goal_few a w l) k)))

  abbrev pub wait_as : Phrase Breach (PlainGoal × PlainRule) undrawn ending
  wait_as = as_phrase undrawn ending wait_parts (IsWaiting g) to_waiting from_waiting

  pub waiting_sound : Sound (waiting_of g) (IsWaiting g)
  unfolding waiting_of
  waiting_sound = wait_as.sound

  pub waiting_complete : Complete ending (waiting_of g) (IsWaiting g)
  unfolding waiting_of
  waiting_complete = wait_as.complete
