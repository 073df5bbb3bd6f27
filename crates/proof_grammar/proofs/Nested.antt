-- Nodes of nested nets: read exactly where they are spelled.
use Rattle.std.proofs.Common.{List, is_none, length, nat_eq, ℕ, ◌&&◌, ◌++◌}
use Rattle.st_reading.specs.Rule as rules
use Rattle.st_reading.specs.Breaches.{Breach, broke}
use Rattle.st_reading.specs.Reading.{other}
use Rattle.st_tokens.specs.Stream.{Lexeme}
use Rattle.st_reading.proofs.ListCompleteness.{Complete}
use Rattle.st_reading.specs.Spelling.{Sound, behind_it}
use Rattle.st_reading.specs.Steady.{anything}
use Rattle.st_reading.specs.declared.mark.Mark.TheVariants as marks
use Rattle.temporal_goals.specs.Texts.{PlainNestedNode}
use Rattle.expression_parser.specs.Calm.{calm}
use Rattle.proof_script.specs.Listing.{Setting}
use Rattle.proof_script.specs.Rules.{ends_item, helper_of, nested_completed_of, nested_node_of, nested_nodes_of, weight_of}
use Rattle.st_reading.specs.Phrases.{Bracketed}
use Rattle.proof_grammar.specs.Rules.{IsNestedNode, a_nested_node}
use Rattle.proof_grammar.proofs.Counted.{Few, bracketed_phrase, item_end}
use Rattle.proof_grammar.proofs.Formulas.{listed_truth}
use Rattle.proof_grammar.proofs.ItemEnds.{helper_calm, helper_or_end, item_ends, only_mark}
use Rattle.proof_grammar.proofs.Judgements.{judge_phrase, judged, placed_phrase}
use Rattle.proof_grammar.proofs.Levels.{before_levels, few_levels, level_or_delay, levels_phrase}
use Rattle.proof_grammar.proofs.NetItems.{optional_helper_phrase, weight_phrase}
use Rattle.st_reading.proofs.Phrases.{Phrase, then_phrase}
use Rattle.proof_grammar.proofs.TypedTexts.{undrawn}

module _ (g : Setting) where
  abbrev pub nested_behind : ℕ → ℕ → Phrase Breach PlainNestedNode undrawn item_end
  nested_behind before place =
      then_phrase undrawn calm level_or_delay item_end before_levels (listed_truth g before) (λ f.
      then_phrase level_or_delay (only_mark marks.Delay) (only_mark marks.Delay) item_end (λ g h. h) (levels_phrase g) (λ ls.
      then_phrase (only_mark marks.Delay) calm helper_or_end item_end helper_calm (weight_phrase g marks.Delay) (λ d.
      judge_phrase helper_or_end item_end ends_item item_ends (λ h. nat_eq (length ls) 0 && is_none h) (λ h. other (broke rules.NoHelper place)) (λ h. record { form = f; levels = ls; delay = d; helper = h }) (optional_helper_phrase g))))

  pub to_nested : (before place : ℕ) (ts : List Lexeme) (n : PlainNestedNode) → (nested_behind before place).language ts n → Few before (IsNestedNode g) ts n
  to_nested before place ts n (behind_it a a1 f y1 l1 (behind_it b b1 ls y2 (few_levels l2 le) (behind_it c c1 delay y3 l3 (judged d helper l4 fit)))) =
      (l1.0, a_nested_node a b c d f ls delay helper l1.1 l2 le l3 l4 fit)

  pub from_nested : (before place : ℕ) (ts : List Lexeme) (n : PlainNestedNode) → Few before (IsNestedNode g) ts n → (nested_behind before place).language ts n
  from_nested before place ts n (few, a_nested_node a b c d f ls delay helper l1 l2 le l3 l4 fit) =
      behind_it a (b ++ (c ++ d)) f _ (few, l1) (behind_it b (c ++ d) ls _ (few_levels l2 le) (behind_it c d delay _ l3 (judged d helper l4 fit)))

  abbrev pub nested_placed : ℕ → Phrase Breach PlainNestedNode undrawn item_end
  nested_placed before = placed_phrase undrawn item_end (Few before (IsNestedNode g)) (nested_behind before) (to_nested before) (from_nested before)

  abbrev pub nested_list : Phrase Breach (List PlainNestedNode) (only_mark marks.OpenBlock) anything
  nested_list = bracketed_phrase (IsNestedNode g) undrawn nested_placed (λ n ts x l. l) (λ n ts x l. l)

  pub nested_sound : Sound (nested_nodes_of g) (Bracketed (IsNestedNode g))
  unfolding nested_nodes_of nested_node_of weight_of helper_of nested_completed_of
  nested_sound = nested_list.sound

  pub nested_complete : Complete anything (nested_nodes_of g) (Bracketed (IsNestedNode g))
  unfolding nested_nodes_of nested_node_of weight_of helper_of nested_completed_of
  nested_complete = nested_list.complete
