-- Goals of an invariance with their rules: read exactly where they are spelled.
use Rattle.std.proofs.Common.{List, None, Some, [], append-nil, subst, sym, ◌∷◌}
use Rattle.st_reading.specs.Breaches.{Breach}
use Rattle.st_tokens.specs.Stream.{Lexeme}
use Rattle.st_reading.proofs.ListCompleteness.{Complete}
use Rattle.st_reading.specs.Spelling.{Sound, behind_it}
use Rattle.st_reading.specs.declared.mark.Mark.TheVariants as marks
use Rattle.temporal_goals.specs.Texts.{PlainGoal, PlainRule, basic, invariant, stronger}
use Rattle.expression_parser.specs.Calm.{calm}
use Rattle.proof_script.specs.Listing.{Setting}
use Rattle.proof_script.specs.Steps.{invariance_of, invariance_rule}
use Rattle.proof_grammar.specs.Grammar.{IsInvariance, by_itself, by_stronger}
use Rattle.st_reading.specs.Phrases.{after_mark, left_out, put_in}
use Rattle.st_reading.proofs.Choices.{optional_phrase}
use Rattle.proof_grammar.proofs.Formulas.{truth_phrase}
use Rattle.proof_grammar.proofs.GoalEnds.{by_or_ending_calm, ending_calm, unlike_by}
use Rattle.st_reading.proofs.Phrases.{Phrase, as_phrase, made, map_phrase, then_phrase}
use Rattle.proof_grammar.proofs.Rules.{ending}
use Rattle.st_reading.proofs.Tokens.{among}
use Rattle.proof_grammar.proofs.TypedTexts.{undrawn}

module _ (g : Setting) where
  abbrev pub invariance_parts : Phrase Breach (PlainGoal × PlainRule) undrawn ending
  invariance_parts =
      then_phrase undrawn calm (among (marks.By ∷ marks.Using ∷ marks.Semicolon ∷ [])) ending by_or_ending_calm (truth_phrase g) (λ p.
      map_phrase (among (marks.By ∷ marks.Using ∷ marks.Semicolon ∷ [])) ending (λ f. (invariant p, invariance_rule f)) (optional_phrase marks.By undrawn calm ending unlike_by ending_calm (truth_phrase g)))

  pub to_invariance : (ts : List Lexeme) (x : PlainGoal × PlainRule) → invariance_parts.language ts x → IsInvariance g ts x
  to_invariance ts x (behind_it a c p x1 l (made b f (put_in t us q e m))) = by_stronger a (t ∷ us) p q l (after_mark t us q e m)
  to_invariance ts x (behind_it a c p x1 l (made b f left_out)) = subst (λ (us : List Lexeme). IsInvariance g us (invariant p, basic)) (sym (append-nil a)) (by_itself a p l)

  pub from_invariance : (ts : List Lexeme) (x : PlainGoal × PlainRule) → IsInvariance g ts x → invariance_parts.language ts x
  from_invariance ts x (by_itself a p l) = subst (λ (us : List Lexeme). invariance_parts.language us (invariant p, basic)) (append-nil a) (behind_it a [] p (invariant p, basic) l (made [] None left_out))
  from_invariance ts x (by_stronger a b p f l (after_mark t us q e m)) = behind_it a (t ∷ us) p (invariant p, stronger q) l (made (t ∷ us) (Some q) (put_in t us q e m))

  abbrev pub invariance_as : Phrase Breach (PlainGoal × PlainRule) undrawn ending
  invariance_as = as_phrase undrawn ending invariance_parts (IsInvariance g) to_invariance from_invariance

  pub invariance_sound : Sound (invariance_of g) (IsInvariance g)
  unfolding invariance_of
  invariance_sound = invariance_as.sound

  pub invariance_complete : Complete ending (invariance_of g) (IsInvariance g)
  unfolding invariance_of
  invariance_complete = invariance_as.complete
