-- The items of a response's rule, between "[" and "]": read exactly where they are spelled.
use Rattle.std.proofs.Common.{List, Option, is_none, ℕ, ◌&&◌, ◌++◌}
use Rattle.st_reading.specs.Rule as rules
use Rattle.st_reading.specs.Breaches.{Breach, broke}
use Rattle.st_tokens.specs.Stream.{Lexeme}
use Rattle.st_reading.specs.Reading.{other, is_name}
use Rattle.st_reading.specs.Spelling.{behind_it}
use Rattle.st_reading.specs.Steady.{anything}
use Rattle.st_reading.specs.declared.mark.Mark.{Mark}
use Rattle.st_reading.specs.declared.mark.Mark.TheVariants as marks
use Rattle.st_linear.specs.Linear.{Linear}
use Rattle.st_form.specs.Formula.{Formula}
use Rattle.temporal_goals.specs.Texts.{PlainNode}
use Rattle.expression_parser.specs.Calm.{calm}
use Rattle.proof_script.specs.Listing.{Setting}
use Rattle.proof_script.specs.Rules.{ends_item}
use Rattle.proof_grammar.specs.Rules.{IsFairItem, IsHelped, IsNode, IsRanked, a_node, fair_item, helped, ranked}
use Rattle.st_reading.proofs.Choices.{optional_phrase}
use Rattle.proof_grammar.proofs.Counted.{Few, item_end}
use Rattle.proof_grammar.proofs.Formulas.{listed_truth, number_phrase}
use Rattle.proof_grammar.proofs.ItemEnds.{before_base, before_delay, before_helper, before_rank, before_top, end_undotted, end_unhelped, group_calm, group_or_end, helper_calm, helper_or_end, helper_undotted, helper_ungrouped, item_ends, only_mark}
use Rattle.proof_grammar.proofs.Judgements.{judge_phrase, judged, placed_phrase}
use Rattle.proof_grammar.proofs.Parts.{no_dot}
use Rattle.st_reading.proofs.Phrases.{Phrase, after_phrase, made, map_phrase, then_phrase, within_phrase}
use Rattle.proof_grammar.proofs.Transitions.{group_phrase, helper_phrase}
use Rattle.proof_grammar.proofs.TypedTexts.{undrawn}

module _ (g : Setting) where
  -- PARTS
  abbrev pub weight_phrase : (m : Mark) → Phrase Breach Linear (only_mark m) calm
  weight_phrase m = after_phrase m anything calm (number_phrase g)

  abbrev pub wanted_helper_phrase : Phrase Breach ℕ (only_mark marks.Helper) no_dot
  wanted_helper_phrase = after_phrase marks.Helper is_name no_dot (helper_phrase g)

  abbrev pub optional_helper_phrase : Phrase Breach (Option ℕ) helper_or_end item_end
  optional_helper_phrase = optional_phrase marks.Helper is_name no_dot item_end end_unhelped end_undotted (helper_phrase g)

  abbrev pub optional_group_phrase : Phrase Breach (Option ℕ) group_or_end helper_or_end
  optional_group_phrase = optional_phrase marks.Group is_name no_dot helper_or_end helper_ungrouped helper_undotted (group_phrase g)

  -- expr "helper" trans
  abbrev pub helped_phrase : ℕ → Phrase Breach (Formula × ℕ) undrawn no_dot
  helped_phrase before = then_phrase undrawn calm (only_mark marks.Helper) no_dot before_helper (listed_truth g before) (λ f. map_phrase (only_mark marks.Helper) no_dot (λ h. (f, h)) wanted_helper_phrase)

  pub to_helped : (before : ℕ) (ts : List Lexeme) (x : Formula × ℕ) → (helped_phrase before).language ts x → Few before (IsHelped g) ts x
  to_helped before ts x (behind_it a b f y l (made c h k)) = (l.0, helped a c f h l.1 k)

  pub from_helped : (before : ℕ) (ts : List Lexeme) (x : Formula × ℕ) → Few before (IsHelped g) ts x → (helped_phrase before).language ts x
  from_helped before ts x (few, helped a b f h k m) = behind_it a b f (f, h) (few, k) (made b h m)

  abbrev pub listed_helped : ℕ → Phrase Breach (Formula × ℕ) undrawn item_end
  listed_helped before = within_phrase undrawn no_dot undrawn item_end (λ g h. h) end_undotted (helped_phrase before)

  -- expr "rank" sum "helper" trans
  abbrev pub ranked_item : ℕ → Phrase Breach (Formula × Linear × ℕ) undrawn item_end
  ranked_item before =
      then_phrase undrawn calm (only_mark marks.Rank) item_end before_rank (listed_truth g before) (λ f.
      then_phrase (only_mark marks.Rank) calm (only_mark marks.Helper) item_end before_helper (weight_phrase marks.Rank) (λ e.
      map_phrase (only_mark marks.Helper) item_end (λ h. (f, e, h)) (within_phrase (only_mark marks.Helper) no_dot (only_mark marks.Helper) item_end (λ g h. h) end_undotted wanted_helper_phrase)))

  pub to_ranked : (before : ℕ) (ts : List Lexeme) (x : Formula × Linear × ℕ) → (ranked_item before).language ts x → Few before (IsRanked g) ts x
  to_ranked before ts x (behind_it a b1 f y1 l (behind_it b c1 e y2 m (made c h k))) = (l.0, ranked a b c f e h l.1 m k)

  pub from_ranked : (before : ℕ) (ts : List Lexeme) (x : Formula × Linear × ℕ) → Few before (IsRanked g) ts x → (ranked_item before).language ts x
  from_ranked before ts x (few, ranked a b c f e h k m n) = behind_it a (b ++ c) f (f, e, h) (few, k) (behind_it b c e (f, e, h) m (made c h n))

  -- expr [ "helper" trans ]
  abbrev pub fair_parts : ℕ → Phrase Breach (Formula × Option ℕ) undrawn item_end
  fair_parts before = then_phrase undrawn calm helper_or_end item_end helper_calm (listed_truth g before) (λ f. map_phrase helper_or_end item_end (λ h. (f, h)) optional_helper_phrase)

  pub to_fair : (before : ℕ) (ts : List Lexeme) (x : Formula × Option ℕ) → (fair_parts before).language ts x → Few before (IsFairItem g) ts x
  to_fair before ts x (behind_it a b f y l (made c h k)) = (l.0, fair_item a c f h l.1 k)

  pub from_fair : (before : ℕ) (ts : List Lexeme) (x : Formula × Option ℕ) → Few before (IsFairItem g) ts x → (fair_parts before).language ts x
  from_fair before ts x (few, fair_item a b f h k m) = behind_it a b f (f, h) (few, k) (made b h m)

  -- expr "base" sum "delay" sum "top" sum [ "group" trans ] [ "helper" trans ]
  abbrev pub node_behind : ℕ → ℕ → Phrase Breach PlainNode undrawn item_end
  node_behind before place =
      then_phrase undrawn calm (only_mark marks.Base) item_end before_base (listed_truth g before) (λ f.
      then_phrase (only_mark marks.Base) calm (only_mark marks.Delay) item_end before_delay (weight_phrase marks.Base) (λ b.
      then_phrase (only_mark marks.Delay) calm (only_mark marks.Top) item_end before_top (weight_phrase marks.Delay) (λ d.
      then_phrase (only_mark marks.Top) calm group_or_end item_end group_calm (weight_phrase marks.Top) (λ t.
      then_phrase group_or_end helper_or_end helper_or_end item_end (λ g h. h) optional_group_phrase (λ c.
      judge_phrase helper_or_end item_end ends_item item_ends (λ h. is_none c && is_none h) (λ h. other (broke rules.NoHelper place)) (λ h. record { form = f; base = b; delay = d; top = t; group = c; helper = h }) optional_helper_phrase)))))

  pub to_node : (before place : ℕ) (ts : List Lexeme) (n : PlainNode) → (node_behind before place).language ts n → Few before (IsNode g) ts n
  to_node before place ts n (behind_it a a1 f y1 l1 (behind_it b b1 base y2 l2 (behind_it c c1 delay y3 l3 (behind_it d d1 top y4 l4 (behind_it e e1 group y5 l5 (judged k helper l6 fit)))))) =
      (l1.0, a_node a b c d e k f base delay top group helper l1.1 l2 l3 l4 l5 l6 fit)

  pub from_node : (before place : ℕ) (ts : List Lexeme) (n : PlainNode) → Few before (IsNode g) ts n → (node_behind before place).language ts n
  from_node before place ts n (few, a_node a b c d e k f base delay top group helper l1 l2 l3 l4 l5 l6 fit) =
      behind_it a (b ++ (c ++ (d ++ (e ++ k)))) f _ (few, l1) (behind_it b (c ++ (d ++ (e ++ k))) base _ l2 (behind_it c (d ++ (e ++ k)) delay _ l3 (behind_it d (e ++ k) top _ l4 (behind_it e k group _ l5 (judged k helper l6 fit)))))

  abbrev pub node_placed : ℕ → Phrase Breach PlainNode undrawn item_end
  node_placed before = placed_phrase undrawn item_end (Few before (IsNode g)) (node_behind before) (to_node before) (from_node before)
