-- The rules of a response, by the token behind "by": read exactly where they are spelled.
use Rattle.std.proofs.Common.{Bool, List, [], refl, ◌++◌, ◌∷◌}
use Rattle.st_reading.specs.Breaches.{Breach}
use Rattle.st_tokens.specs.Stream.{Lexeme, Stream}
use Rattle.st_reading.proofs.ListCompleteness.{Complete}
use Rattle.st_reading.specs.Mark.{number}
use Rattle.st_reading.specs.Reading.{Read, ahead}
use Rattle.st_reading.specs.Sign.{sign_of}
use Rattle.st_reading.specs.Spelling.{Sound}
use Rattle.st_reading.specs.Steady.{Within, anything}
use Rattle.st_reading.specs.declared.mark.Mark.TheVariants as marks
use Rattle.st_reading.specs.declared.sign.Sign.{Sign}
use Rattle.temporal_goals.specs.Texts.{PlainNode, PlainRule, diagram, nested, net}
use Rattle.temporal_goals.specs.declared.diagrams.DiagramKind.{DiagramKind}
use Rattle.temporal_goals.specs.declared.diagrams.DiagramKind.TheVariants as kinds
use Rattle.response_rules.specs.Forms.{chain_nodes, fair_nodes, ranked_nodes}
use Rattle.proof_script.specs.Listing.{Setting}
use Rattle.proof_script.specs.Rules.{chain_nodes_of, fair_nodes_of, just_nodes_of, kind_in, manner_in, nested_nodes_of, net_rule_of, nodes_of, ranked_nodes_of, response_diagram_of, rule_of, ruled_of}
use Rattle.proof_script.specs.declared.rules.Manner.{Manner}
use Rattle.proof_script.specs.declared.rules.Manner.TheVariants as manners
use Rattle.proof_grammar.specs.Drawings.{IsDrawing}
use Rattle.st_reading.specs.Phrases.{Bracketed}
use Rattle.proof_grammar.specs.Rules.{IsHelped, IsNestedNode, IsNode, IsRanked, IsRule, by_chain, by_chain_diagram, by_compassion, by_just, by_nested_net, by_net, by_rank_diagram, by_ranks}
use Rattle.st_reading.proofs.Choices.{Chosen, Either, behind_mark, choice_phrase, chosen, either_front, either_phrase, without_mark}
use Rattle.proof_grammar.proofs.Drawings.{rule_drawing}
use Rattle.proof_grammar.proofs.ItemEnds.{only_mark}
use Rattle.proof_grammar.proofs.Manners.{kind_found, kind_is, manner_found, manner_is}
use Rattle.proof_grammar.proofs.Nested.{nested_complete, nested_sound}
use Rattle.proof_grammar.proofs.Nets.{IsFairList, IsJustList, chain_nodes_complete, chain_nodes_sound, fair_items, fair_nodes_complete, fair_nodes_sound, just_complete, just_items, just_sound, nodes_begin, nodes_complete, nodes_sound, ranked_nodes_complete, ranked_nodes_sound}
use Rattle.proof_grammar.proofs.Parts.{no_dot}
use Rattle.st_reading.proofs.Phrases.{Made, Phrase, as_phrase, made, map_phrase}
use Rattle.st_reading.proofs.Tokens.{among, but, marks_within}

-- what stands behind a goal with its rule
abbrev pub ending : Sign → Bool
ending = among (marks.Using ∷ marks.Semicolon ∷ [])

ending_undotted : Within ending no_dot
unfolding number
ending_undotted = marks_within no_dot (marks.Using ∷ marks.Semicolon ∷ []) refl

pub block_ungrouped : Within (only_mark marks.OpenBlock) (but marks.Group)
unfolding number
block_ungrouped = marks_within (but marks.Group) (marks.OpenBlock ∷ []) refl

module _ (g : Setting) where
  -- behind "net"
  abbrev pub plain_net_phrase : Phrase Breach PlainRule (only_mark marks.OpenBlock) anything
  plain_net_phrase =
      map_phrase (only_mark marks.OpenBlock) anything (λ ns. net ns) (record { reader = nodes_of g; language = Bracketed (IsNode g); sound = nodes_sound g; complete = nodes_complete g; begins = nodes_begin g })

  abbrev pub nested_net_phrase : Phrase Breach PlainRule anything anything
  nested_net_phrase = map_phrase anything anything (λ ns. nested ns) (record { reader = nested_nodes_of g; language = Bracketed (IsNestedNode g); sound = nested_sound g; complete = nested_complete g; begins = λ ts x l after h. refl })

  abbrev pub net_phrase : Phrase Breach PlainRule (either_front marks.Group anything (only_mark marks.OpenBlock) anything block_ungrouped nested_net_phrase plain_net_phrase) anything
  net_phrase = either_phrase marks.Group anything (only_mark marks.OpenBlock) anything block_ungrouped nested_net_phrase plain_net_phrase

  -- behind "diagram"
  abbrev pub drawn_rule : DiagramKind → Phrase Breach PlainRule anything anything
  drawn_rule k = rule_drawing g k 0

  abbrev pub Drawn : DiagramKind → List Lexeme → PlainRule → Type 0
  Drawn k = Made (λ d. diagram d) (IsDrawing g k 0)

  abbrev pub drawn_choice : Phrase Breach PlainRule anything anything
  drawn_choice = choice_phrase kind_in refl anything (λ k. (drawn_rule k).reader) Drawn (λ k. (drawn_rule k).sound) (λ k. (drawn_rule k).complete)

  -- behind each token
  abbrev pub Ruled : Manner → List Lexeme → PlainRule → Type 0
  Ruled manners.Just = Made (λ ns. net ns) (IsJustList g)
  Ruled manners.Chain = Made (λ ns. net ns) (Made (λ xs. chain_nodes xs) (Bracketed (IsHelped g)))
  Ruled manners.Ranked = Made (λ ns. net ns) (Made (λ xs. ranked_nodes xs) (Bracketed (IsRanked g)))
  Ruled manners.Fair = Made (λ ns. net ns) (IsFairList g)
  Ruled manners.Net = Either marks.Group (Made (λ ns. nested ns) (Bracketed (IsNestedNode g))) (Made (λ ns. net ns) (Bracketed (IsNode g)))
  Ruled manners.Diagram = Chosen kind_in Drawn

  abbrev pub by_list : (r : Stream → Read Breach (List PlainNode)) (L : List Lexeme → List PlainNode → Type 0) → Sound r L → Complete no_dot r L → Phrase Breach PlainRule anything no_dot
  by_list r L sound complete = map_phrase anything no_dot (λ ns. net ns) (record { reader = r; language = L; sound = sound; complete = complete; begins = λ ts x l after h. refl })

  pub ruled_sound : (m : Manner) → Sound (ruled_of g m) (Ruled m)
  unfolding ruled_of net_rule_of response_diagram_of
  ruled_sound manners.Just s x rest h = (by_list (just_nodes_of g) (IsJustList g) (just_sound g) (just_complete g)).sound s x rest h
  ruled_sound manners.Chain s x rest h = (by_list (chain_nodes_of g) (Made (λ xs. chain_nodes xs) (Bracketed (IsHelped g))) (chain_nodes_sound g) (λ ts x l after h. chain_nodes_complete g ts x l after refl)).sound s x rest h
  ruled_sound manners.Ranked s x rest h = (by_list (ranked_nodes_of g) (Made (λ xs. ranked_nodes xs) (Bracketed (IsRanked g))) (ranked_nodes_sound g) (λ ts x l after h. ranked_nodes_complete g ts x l after refl)).sound s x rest h
  ruled_sound manners.Fair s x rest h = (by_list (fair_nodes_of g) (IsFairList g) (fair_nodes_sound g) (λ ts x l after h. fair_nodes_complete g ts x l after refl)).sound s x rest h
  ruled_sound manners.Net s x rest h = net_phrase.sound s x rest h
  ruled_sound manners.Diagram s x rest h = drawn_choice.sound s x rest h

  pub ruled_complete : (m : Manner) → Complete ending (ruled_of g m) (Ruled m)
  unfolding ruled_of net_rule_of response_diagram_of
  ruled_complete manners.Just ts x l after h = (by_list (just_nodes_of g) (IsJustList g) (just_sound g) (just_complete g)).complete ts x l after (ending_undotted (ahead after) h)
  ruled_complete manners.Chain ts x l after h = (by_list (chain_nodes_of g) (Made (λ xs. chain_nodes xs) (Bracketed (IsHelped g))) (chain_nodes_sound g) (λ ts x l after h. chain_nodes_complete g ts x l after refl)).complete ts x l after (ending_undotted (ahead after) h)
  ruled_complete manners.Ranked ts x l after h = (by_list (ranked_nodes_of g) (Made (λ xs. ranked_nodes xs) (Bracketed (IsRanked g))) (ranked_nodes_sound g) (λ ts x l after h. ranked_nodes_complete g ts x l after refl)).complete ts x l after (ending_undotted (ahead after) h)
  ruled_complete manners.Fair ts x l after h = (by_list (fair_nodes_of g) (IsFairList g) (fair_nodes_sound g) (λ ts x l after h. fair_nodes_complete g ts x l after refl)).complete ts x l after (ending_undotted (ahead after) h)
  ruled_complete manners.Net ts x l after h = net_phrase.complete ts x l after refl
  ruled_complete manners.Diagram ts x l after h = drawn_choice.complete ts x l after refl

  abbrev pub rule_choice : Phrase Breach PlainRule anything ending
  rule_choice = choice_phrase manner_in refl ending (ruled_of g) Ruled ruled_sound ruled_complete

  pub to_rule : (ts : List Lexeme) (x : PlainRule) → rule_choice.language ts x → IsRule g ts x
  to_rule ts x (chosen manners.Just t us y e (made vs ns (just_items ws i l))) = by_just t ws i (manner_is (sign_of t) manners.Just e) l
  to_rule ts x (chosen manners.Chain t us y e (made vs ns (made ws xs l))) = by_chain t ws xs (manner_is (sign_of t) manners.Chain e) l
  to_rule ts x (chosen manners.Ranked t us y e (made vs ns (made ws xs l))) = by_ranks t ws xs (manner_is (sign_of t) manners.Ranked e) l
  to_rule ts x (chosen manners.Fair t us y e (made vs ns (fair_items a b c xs l k))) = by_compassion t a b c xs (manner_is (sign_of t) manners.Fair e) l k
  to_rule ts x (chosen manners.Net t us y e (behind_mark u vs z f (made ws ns l))) = by_nested_net t u ws ns (manner_is (sign_of t) manners.Net e) f l
  to_rule ts x (chosen manners.Net t us y e (without_mark vs z (made ws ns l))) = by_net t ws ns (manner_is (sign_of t) manners.Net e) l
  to_rule ts x (chosen manners.Diagram t us y e (chosen kinds.Wait u vs z f (made ws d l))) = absurd (kind_is (sign_of u) kinds.Wait f)
  to_rule ts x (chosen manners.Diagram t us y e (chosen kinds.Chain u vs z f (made ws d l))) = by_chain_diagram t u ws d (manner_is (sign_of t) manners.Diagram e) (kind_is (sign_of u) kinds.Chain f) l
  to_rule ts x (chosen manners.Diagram t us y e (chosen kinds.Rank u vs z f (made ws d l))) = by_rank_diagram t u ws d (manner_is (sign_of t) manners.Diagram e) (kind_is (sign_of u) kinds.Rank f) l

  pub from_rule : (ts : List Lexeme) (x : PlainRule) → IsRule g ts x → rule_choice.language ts x
  from_rule ts x (by_just t us i e l) = chosen manners.Just t us (net (chain_nodes (i ∷ []))) (manner_found (sign_of t) manners.Just e) (made us (chain_nodes (i ∷ [])) (just_items us i l))
  from_rule ts x (by_chain t us xs e l) = chosen manners.Chain t us (net (chain_nodes xs)) (manner_found (sign_of t) manners.Chain e) (made us (chain_nodes xs) (made us xs l))
  from_rule ts x (by_ranks t us xs e l) = chosen manners.Ranked t us (net (ranked_nodes xs)) (manner_found (sign_of t) manners.Ranked e) (made us (ranked_nodes xs) (made us xs l))
  from_rule ts x (by_compassion t a b c xs e l k) = chosen manners.Fair t (a ++ b) (net (fair_nodes c xs)) (manner_found (sign_of t) manners.Fair e) (made (a ++ b) (fair_nodes c xs) (fair_items a b c xs l k))
  from_rule ts x (by_net t us ns e l) = chosen manners.Net t us (net ns) (manner_found (sign_of t) manners.Net e) (without_mark us (net ns) (made us ns l))
  from_rule ts x (by_nested_net t u us ns e f l) = chosen manners.Net t (u ∷ us) (nested ns) (manner_found (sign_of t) manners.Net e) (behind_mark u us (nested ns) f (made us ns l))
  from_rule ts x (by_chain_diagram t u us d e f l) = chosen manners.Diagram t (u ∷ us) (diagram d) (manner_found (sign_of t) manners.Diagram e) (chosen kinds.Chain u us (diagram d) (kind_found (sign_of u) kinds.Chain f) (made us d l))
  from_rule ts x (by_rank_diagram t u us d e f l) = chosen manners.Diagram t (u ∷ us) (diagram d) (manner_found (sign_of t) manners.Diagram e) (chosen kinds.Rank u us (diagram d) (kind_found (sign_of u) kinds.Rank f) (made us d l))

  abbrev pub rule_as : Phrase Breach PlainRule anything ending
  rule_as = as_phrase anything ending rule_choice (IsRule g) to_rule from_rule

  pub rule_sound : Sound (rule_of g) (IsRule g)
  unfolding rule_of
  rule_sound = rule_as.sound

  pub rule_complete : Complete ending (rule_of g) (IsRule g)
  unfolding rule_of
  rule_complete = rule_as.complete

  abbrev pub rule_phrase : Phrase Breach PlainRule anything ending
  rule_phrase = record { reader = rule_of g; language = IsRule g; sound = rule_sound; complete = rule_complete; begins = λ ts x l after h. refl }
