-- Responses with their rules: read exactly where they are spelled.
use Rattle.std.proofs.Common.{List, ◌++◌}
use Rattle.st_reading.specs.Breaches.{Breach}
use Rattle.st_tokens.specs.Stream.{Lexeme}
use Rattle.st_reading.proofs.ListCompleteness.{Complete}
use Rattle.st_reading.specs.Spelling.{Sound, behind_it}
use Rattle.st_reading.specs.Steady.{anything}
use Rattle.st_reading.specs.declared.mark.Mark.TheVariants as marks
use Rattle.temporal_goals.specs.Texts.{PlainGoal, PlainRule, response}
use Rattle.expression_parser.specs.Calm.{calm}
use Rattle.proof_script.specs.Listing.{Setting}
use Rattle.proof_script.specs.Steps.{response_of}
use Rattle.proof_grammar.specs.Grammar.{IsResponse, responds}
use Rattle.proof_grammar.proofs.Formulas.{number_phrase, truth_phrase}
use Rattle.proof_grammar.proofs.GoalEnds.{before_by, before_leads, before_within}
use Rattle.proof_grammar.proofs.ItemEnds.{only_mark}
use Rattle.st_reading.proofs.Phrases.{Phrase, after_phrase, as_phrase, made, map_phrase, then_phrase}
use Rattle.proof_grammar.proofs.Rules.{ending, rule_phrase}
use Rattle.proof_grammar.proofs.TypedTexts.{undrawn}

module _ (g : Setting) where
  abbrev pub response_parts : Phrase Breach (PlainGoal × PlainRule) undrawn ending
  response_parts =
      then_phrase undrawn calm (only_mark marks.Leads) ending before_leads (truth_phrase g) (λ p.
      then_phrase (only_mark marks.Leads) calm (only_mark marks.Within) ending before_within (after_phrase marks.Leads undrawn calm (truth_phrase g)) (λ q.
      then_phrase (only_mark marks.Within) calm (only_mark marks.By) ending before_by (after_phrase marks.Within anything calm (number_phrase g)) (λ e.
      map_phrase (only_mark marks.By) ending (λ r. (response p q e, r)) (after_phrase marks.By anything ending (rule_phrase g)))))

  pub to_response : (ts : List Lexeme) (x : PlainGoal × PlainRule) → response_parts.language ts x → IsResponse g ts x
  to_response ts x (behind_it a b1 p y1 l1 (behind_it b c1 q y2 l2 (behind_it c d1 e y3 l3 (made d r l4)))) = responds a b c d p q e r l1 l2 l3 l4

  pub from_response : (ts : List Lexeme) (x : PlainGoal × PlainRule) → IsResponse g ts x → response_parts.language ts x
  from_response ts x (responds a b c d p q e r l1 l2 l3 l4) = behind_it a (b ++ (c ++ d)) p _ l1 (behind_it b (c ++ d) q _ l2 (behind_it c d e _ l3 (made d r l4)))

  abbrev pub response_as : Phrase Breach (PlainGoal × PlainRule) undrawn ending
  response_as = as_phrase undrawn ending response_parts (IsResponse g) to_response from_response

  pub response_sound : Sound (response_of g) (IsResponse g)
  unfolding response_of
  response_sound = response_as.sound

  pub response_complete : Complete ending (response_of g) (IsResponse g)
  unfolding response_of
  response_complete = response_as.complete
