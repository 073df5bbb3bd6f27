-- Goals of nested waiting-for: read exactly where they are spelled.
use Rattle.std.proofs.Common.{List, [], arith, length, refl, subst, sym, ℕ, ◌++◌, ◌<◌, ◌∷◌, ◌≤◌}
use Rattle.st_reading.specs.Breaches.{Breach}
use Rattle.st_tokens.specs.Stream.{Lexeme}
use Rattle.st_reading.proofs.ListCompleteness.{Complete}
use Rattle.st_reading.specs.Spelling.{Sound, behind_it}
use Rattle.st_reading.specs.declared.mark.Mark.{Mark}
use Rattle.st_reading.specs.declared.mark.Mark.TheVariants as marks
use Rattle.st_form.specs.Formula.{Formula}
use Rattle.expression_parser.specs.Calm.{calm}
use Rattle.proof_script.specs.Listing.{Setting}
use Rattle.proof_script.specs.Steps.{waiting_goal_of}
use Rattle.proof_grammar.specs.Grammar.{IsWaitingGoal, waiting_goal}
use Rattle.st_reading.specs.Phrases.{After, after_mark}
use Rattle.proof_grammar.specs.Units.{IsFormula}
use Rattle.proof_grammar.proofs.Counted.{Few, further_phrase}
use Rattle.proof_grammar.proofs.Formulas.{listed_truth, truth_phrase}
use Rattle.proof_grammar.proofs.GoalEnds.{before_by, before_unless, before_wait, no_wait, two_few, wait_calm}
use Rattle.proof_grammar.proofs.ItemEnds.{only_mark}
use Rattle.st_reading.proofs.Phrases.{Phrase, after_phrase, as_phrase, made, map_phrase, then_phrase}
use Rattle.proof_grammar.proofs.TypedTexts.{undrawn}

module _ (g : Setting) where
  pub to_few : (m : Mark) (before : ℕ) → before < 64 → (ts : List Lexeme) (x : Formula) → After m (IsFormula g) ts x → After m (Few before (IsFormula g)) ts x
  to_few m before h ts x (after_mark t us y e l) = after_mark t us y e (h, l)

  pub from_few : (m : Mark) (before : ℕ) (ts : List Lexeme) (x : Formula) → After m (Few before (IsFormula g)) ts x → After m (IsFormula g) ts x
  from_few m before ts x (after_mark t us y e l) = after_mark t us y e l.1

  abbrev pub goal_parts : Phrase Breach (Formula × List Formula) undrawn (only_mark marks.By)
  goal_parts =
      then_phrase undrawn calm (only_mark marks.Unless) (only_mark marks.By) before_unless (truth_phrase g) (λ p.
      then_phrase (only_mark marks.Unless) calm (only_mark marks.Wait) (only_mark marks.By) before_wait (after_phrase marks.Unless undrawn calm (listed_truth g 0)) (λ q.
      then_phrase (only_mark marks.Wait) calm calm (only_mark marks.By) (λ g h. h) (after_phrase marks.Wait undrawn calm (listed_truth g 1)) (λ r.
      map_phrase calm (only_mark marks.By) (λ qs. (p, qs)) (further_phrase marks.Wait (IsFormula g) undrawn calm (only_mark marks.By) wait_calm no_wait before_by (listed_truth g) (λ n ts x l. l) (λ n ts x l. l) (q ∷ r ∷ []) (two_few q r)))))

  pub to_goal : (ts : List Lexeme) (w : Formula × List Formula) → goal_parts.language ts w → IsWaitingGoal g ts w
  to_goal ts w (behind_it a b1 p y1 l1 (behind_it b c1 q y2 l2 (behind_it c d1 r y3 l3 (made d zs k)))) =
      let le : length ((q ∷ r ∷ []) ++ k.others) ≤ 64 = subst (λ (vs : List Formula). length vs ≤ 64) k.joined k.limited in
      subst (λ (vs : List Formula). IsWaitingGoal g (a ++ (b ++ (c ++ d))) (p, vs)) (sym k.joined) (waiting_goal a b c d p q r k.others l1 (from_few marks.Unless 0 b q l2) (from_few marks.Wait 1 c r l3) k.spells le)

  pub from_goal : (ts : List Lexeme) (w : Formula × List Formula) → IsWaitingGoal g ts w → goal_parts.language ts w
  from_goal ts w (waiting_goal a b c d p q r qs l1 l2 l3 items le) =
      behind_it a (b ++ (c ++ d)) p _ l1 (behind_it b (c ++ d) q _ (to_few marks.Unless 0 (omega arith) b q l2) (behind_it c d r _ (to_few marks.Wait 1 (omega arith) c r l3) (made d (q ∷ r ∷ qs) (record { others = qs; joined = refl; spells = items; limited = le }))))

  abbrev pub goal_as : Phrase Breach (Formula × List Formula) undrawn (only_mark marks.By)
  goal_as = as_phrase undrawn (only_mark marks.By) goal_parts (IsWaitingGoal g) to_goal from_goal

  pub goal_sound : Sound (waiting_goal_of g) (IsWaitingGoal g)
  unfolding waiting_goal_of
  goal_sound = goal_as.sound

  pub goal_complete : Complete (only_mark marks.By) (waiting_goal_of g) (IsWaitingGoal g)
  unfolding waiting_goal_of
  goal_complete = goal_as.complete

  abbrev pub goal_phrase : Phrase Breach (Formula × List Formula) undrawn (only_mark marks.By)
  goal_phrase = record { reader = waiting_goal_of g; language = IsWaitingGoal g; sound = goal_sound; complete = goal_complete; begins = goal_as.begins }
