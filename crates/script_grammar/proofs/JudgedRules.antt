-- Rules of responses, judged: what stands behind the token that says which.
use Rattle.std.proofs.Common.{◌≡◌, ℕ, ◌+◌, List, [], ◌∷◌, ◌++◌, Option, refl, sym, ap, arith}
use Rattle.st_reading.specs.declared.mark.Mark.TheVariants as marks
use Rattle.st_reading.specs.Reading.{syntax, expected, gives, then_reads}
use Rattle.st_reading.specs.Breaches.{Breach, Reader}
use Rattle.st_reading.specs.BrokenRules.{Broken}
use Rattle.st_reading.specs.Steady.{moves, anything}
use Rattle.st_form.specs.Formula.{Formula}
use Rattle.temporal_goals.specs.Texts.{PlainDiagram, PlainNode, PlainNestedNode, PlainRule, diagram, nested, net}
use Rattle.temporal_goals.specs.declared.diagrams.DiagramKind.{DiagramKind}
use Rattle.temporal_goals.specs.declared.diagrams.DiagramKind.TheVariants as kinds
use Rattle.response_rules.specs.Forms.{chain_nodes, fair_nodes, ranked_nodes}
use Rattle.diagram_reader.specs.Drawing.{diagram_of}
use Rattle.st_linear.specs.Linear.{Linear}
use Rattle.proof_script.specs.Faults.{drawn}
use Rattle.proof_script.specs.Listing.{Setting, bracketed}
use Rattle.proof_script.specs.Rules.{as_net, chain_nodes_of, fair_nodes_of, helped_of, just_nodes_of, kind_in, manner_in, nested_nodes_of, net_rule_of, nodes_of, ranked_nodes_of, ranked_of, response_diagram_of, rule_of, ruled_of}
use Rattle.proof_script.specs.declared.rules.Manner.{Manner}
use Rattle.proof_script.specs.declared.rules.Manner.TheVariants as manners
use Rattle.script_grammar.specs.RawScripts.{RawDrawing, RawRule, raw_just, raw_chain, raw_ranked, raw_fair, raw_net, raw_nested, raw_diagram}
use Rattle.script_grammar.specs.Sizes.{bracketed_size, drawing_size, fair_size, helped_size, nested_node_size, node_size, ranked_size, rule_size, transition_size}
use Rattle.script_grammar.specs.Breaking.{listed_rules}
use Rattle.script_grammar.specs.Rules.{drawing_rules, fair_rules, group_rules, helped_rules, nested_node_rules, node_rules, ranked_rules, rule_rules}
use Rattle.script_grammar.specs.FirstFaults.{RulesFirstFault}
use Rattle.script_grammar.proofs.RawReferences.{no_dot}
use Rattle.script_grammar.proofs.JudgedPairs.{both_of}
use Rattle.script_grammar.proofs.JudgedItems.{helped_lawful, judged_helped}
use Rattle.script_grammar.proofs.Judges.{Judges, Whatever, pair_so, made_so, seen_so, as_so, after_so, calmer_so, regroup}
use Rattle.script_grammar.proofs.JudgedChoices.{choice_so, choosing, either, either_so}
use Rattle.script_grammar.proofs.NetMarks.{compassionate_so}
use Rattle.script_grammar.proofs.ListedItems.{chains_so, rankings_so, fair_lists_so}
use Rattle.script_grammar.proofs.NetNodes.{nodes_so}
use Rattle.script_grammar.proofs.NestedNodes.{nested_lawful, nested_so}
use Rattle.script_grammar.proofs.DrawingLaws.{wait_so, chain_so, rank_so}
use Rattle.script_grammar.proofs.RawRules.{bracket_undotted, fair_list_lawful, compassion_lawful, the_compassion, plain_net, nested_net, drawing_of, kind_drawing, drawn_lawful, drawn_short, the_diagram, rule_at, rule_short, rule_lawful}
use Rattle.script_grammar.proofs.PartLaws.{stops_at_first}

-- BEHIND THE FIRST TOKEN
abbrev pub later_size : RawRule → ℕ
later_size (raw_just x) = helped_size x
later_size (raw_chain xs) = bracketed_size helped_size xs
later_size (raw_ranked xs) = bracketed_size ranked_size xs
later_size (raw_fair t xs) = transition_size t + bracketed_size fair_size xs
later_size (raw_net ns) = bracketed_size node_size ns
later_size (raw_nested ns) = 1 + bracketed_size nested_node_size ns
later_size (raw_diagram kind d) = 1 + drawing_size d

sized : (r : RawRule) → rule_size r ≡ 1 + later_size r
sized (raw_just x) = refl
sized (raw_chain xs) = refl
sized (raw_ranked xs) = refl
sized (raw_fair t xs) = omega arith
sized (raw_net ns) = refl
sized (raw_nested ns) = omega arith
sized (raw_diagram kind d) = omega arith

module _ (g : Setting) where
  abbrev pub later_rules : ℕ → RawRule → List (Broken Breach)
  later_rules at (raw_just x) = helped_rules g at x
  later_rules at (raw_chain xs) = listed_rules (λ x. x.form) helped_size (helped_rules g) 0 at xs
  later_rules at (raw_ranked xs) = listed_rules (λ x. x.form) ranked_size (ranked_rules g) 0 at xs
  later_rules at (raw_fair t xs) = group_rules g at t ++ listed_rules (λ x. x.form) fair_size (fair_rules g) 0 (at + transition_size t) xs
  later_rules at (raw_net ns) = listed_rules (λ n. n.form) node_size (node_rules g) 0 at ns
  later_rules at (raw_nested ns) = listed_rules (λ n. n.form) nested_node_size (nested_node_rules g) 0 (at + 1) ns
  later_rules at (raw_diagram kind d) = drawing_rules g kind 0 (at + 1) d

  ruled : (at : ℕ) (r : RawRule) → rule_rules g at r ≡ later_rules (at + 1) r
  ruled at (raw_just x) = refl
  ruled at (raw_chain xs) = refl
  ruled at (raw_ranked xs) = refl
  ruled at (raw_fair t xs) = refl
  ruled at (raw_net ns) = refl
  ruled at (raw_nested ns) = let e : at + 2 ≡ at + 1 + 1 = omega arith in ap (λ n. listed_rules (λ n. n.form) nested_node_size (nested_node_rules g) 0 n ns) e
  ruled at (raw_diagram kind d) = let e : at + 2 ≡ at + 1 + 1 = omega arith in ap (λ n. drawing_rules g kind 0 n d) e

  abbrev RuleSo : Manner → Type 0
  RuleSo m = Judges no_dot (ruled_of g m) (rule_at m).phrase.reader later_size later_rules Whatever

  abbrev as_rule : List PlainNode → PlainRule
  as_rule ns = net ns

  -- JUST, CHAIN, RANKED
  abbrev one_node : Formula × ℕ → List PlainNode
  one_node x = chain_nodes (x ∷ [])

  abbrev just_judge : Reader PlainRule
  just_judge = then_reads (then_reads (helped_of g 0) (λ x. gives (one_node x))) (λ ns. gives (as_rule ns))

  just_made_so : Judges no_dot just_judge (rule_at manners.Just).phrase.reader later_size later_rules Whatever
  just_made_so = seen_so raw_just later_size later_rules Whatever (λ x. refl) (λ at x. refl) (λ x r m. tt) (made_so as_rule Whatever (λ x r m. tt) (made_so one_node Whatever (λ x ns m. tt) helped_so))
    where
      helped_so : Judges no_dot (helped_of g 0) helped_lawful.phrase.reader helped_size (helped_rules g) Whatever
      helped_so = record { judged = λ at s. judged_helped g 0 refl at s }

  just_so : RuleSo manners.Just
  unfolding ruled_of just_nodes_of
  just_so = just_made_so

  abbrev chain_made : List (Formula × ℕ) → List PlainNode
  chain_made items = chain_nodes items

  abbrev chain_judge : Reader PlainRule
  chain_judge = then_reads (then_reads (bracketed (helped_of g)) (λ items. gives (chain_made items))) (λ ns. gives (as_rule ns))

  chain_made_so : Judges anything chain_judge (rule_at manners.Chain).phrase.reader later_size later_rules Whatever
  chain_made_so = seen_so raw_chain later_size later_rules Whatever (λ x. refl) (λ at x. refl) (λ x r m. tt) (made_so as_rule Whatever (λ x r m. tt) (made_so chain_made Whatever (λ x ns m. tt) (chains_so g)))

  chained_so : RuleSo manners.Chain
  unfolding ruled_of chain_nodes_of
  chained_so = calmer_so no_dot (λ g h. refl) chain_made_so

  abbrev ranked_made : List (Formula × Linear × ℕ) → List PlainNode
  ranked_made items = ranked_nodes items

  abbrev ranked_judge : Reader PlainRule
  ranked_judge = then_reads (then_reads (bracketed (ranked_of g)) (λ items. gives (ranked_made items))) (λ ns. gives (as_rule ns))

  ranked_made_so : Judges anything ranked_judge (rule_at manners.Ranked).phrase.reader later_size later_rules Whatever
  ranked_made_so = seen_so raw_ranked later_size later_rules Whatever (λ x. refl) (λ at x. refl) (λ x r m. tt) (made_so as_rule Whatever (λ x r m. tt) (made_so ranked_made Whatever (λ x ns m. tt) (rankings_so g)))

  ranks_so : RuleSo manners.Ranked
  unfolding ruled_of ranked_nodes_of
  ranks_so = calmer_so no_dot (λ g h. refl) ranked_made_so

  -- FAIR
  abbrev fair_made : ℕ → List (Formula × Option ℕ) → List PlainNode
  fair_made t items = fair_nodes t items

  compassion_so : Judges anything (fair_nodes_of g) compassion_lawful.phrase.reader (λ p. transition_size p.0 + bracketed_size fair_size p.1) (λ at p. group_rules g at p.0 ++ listed_rules (λ x. x.form) fair_size (fair_rules g) 0 (at + transition_size p.0) p.1) Whatever
  unfolding fair_nodes_of
  compassion_so = pair_so {makes = Whatever} bracket_undotted fair_list_lawful (moves refl (syntax 0) refl) (compassionate_so g) (λ r t m. made_so (fair_made t) Whatever (λ x ns k. tt) (fair_lists_so g))

  fair_made_so : Judges anything (then_reads (fair_nodes_of g) (λ ns. gives (as_rule ns))) (rule_at manners.Fair).phrase.reader later_size later_rules Whatever
  fair_made_so = seen_so the_compassion later_size later_rules Whatever (λ x. refl) (λ at x. refl) (λ x r m. tt) (made_so as_rule Whatever (λ x r m. tt) compassion_so)

  fairs_so : RuleSo manners.Fair
  unfolding ruled_of
  fairs_so = calmer_so no_dot (λ g h. refl) fair_made_so

  -- NETS
  plain_net_so : Judges anything (as_net (nodes_of g)) plain_net.phrase.reader later_size later_rules Whatever
  unfolding nodes_of
  plain_net_so = seen_so raw_net later_size later_rules Whatever (λ x. refl) (λ at x. refl) (λ x r m. tt) (made_so as_rule Whatever (λ x r m. tt) (nodes_so g))

  abbrev as_nested : List PlainNestedNode → PlainRule
  as_nested ns = nested ns

  abbrev nested_judge : Reader PlainRule
  nested_judge = then_reads (nested_nodes_of g) (λ ns. gives (as_nested ns))

  nested_net_so : Judges anything (then_reads (expected marks.Group) (λ m. nested_judge)) (then_reads (expected marks.Group) (λ m. nested_net.phrase.reader)) later_size later_rules Whatever
  unfolding nested_nodes_of
  nested_net_so =
      as_so (then_reads (expected marks.Group) (λ m. nested_judge)) (then_reads (expected marks.Group) (λ m. nested_net.phrase.reader)) (λ s. refl) (λ s. sym (regroup (expected marks.Group) (λ m. nested_lawful.phrase.reader) (λ ns. gives (raw_nested ns)) s))
      (seen_so raw_nested later_size later_rules Whatever (λ ns. refl) (λ at ns. refl) (λ ns r m. tt) (after_so marks.Group nested_lawful (moves refl (syntax 0) refl) (made_so as_nested Whatever (λ ns r m. tt) (nested_so g))))

  either_net_so : Judges anything (either marks.Group nested_judge (as_net (nodes_of g))) (rule_at manners.Net).phrase.reader later_size later_rules Whatever
  either_net_so = either_so marks.Group nested_judge nested_net.phrase.reader nested_net_so plain_net_so

  nets_so : RuleSo manners.Net
  unfolding ruled_of net_rule_of
  nets_so = calmer_so no_dot (λ g h. refl) either_net_so

  -- DIAGRAMS
  abbrev as_diagram : PlainDiagram → PlainRule
  as_diagram d = diagram d

  abbrev drawing_judge : DiagramKind → Reader PlainDiagram
  drawing_judge kind s = drawn (diagram_of kind 0 g.names g.system s)

  drawing_so : (kind : DiagramKind) → Judges anything (drawing_judge kind) (drawing_of kind).phrase.reader drawing_size (drawing_rules g kind 0) Whatever
  drawing_so kinds.Wait = wait_so g 0
  drawing_so kinds.Chain = chain_so g 0
  drawing_so kinds.Rank = rank_so g 0

  abbrev size_in : DiagramKind × RawDrawing → ℕ
  size_in p = drawing_size p.1

  abbrev rules_in : ℕ → DiagramKind × RawDrawing → List (Broken Breach)
  rules_in at p = drawing_rules g p.0 0 at p.1

  kind_so : (kind : DiagramKind) → Judges anything (then_reads (drawing_judge kind) (λ d. gives (as_diagram d))) (kind_drawing kind).phrase.reader size_in rules_in Whatever
  kind_so kind = seen_so (both_of kind) size_in rules_in Whatever (λ d. refl) (λ at d. refl) (λ d r m. tt) (made_so as_diagram Whatever (λ d r m. tt) (drawing_so kind))

  abbrev kind_judge : DiagramKind → Reader PlainRule
  kind_judge kind = then_reads (drawing_judge kind) (λ d. gives (as_diagram d))

  drawn_so : Judges anything (choosing kind_in kind_judge) drawn_lawful.phrase.reader (λ p. 1 + size_in p) (λ at p. rules_in (at + 1) p) Whatever
  drawn_so = choice_so kind_in refl anything kind_judge (λ k. (kind_drawing k).phrase.reader) drawn_short (λ p. 1 + size_in p) size_in (λ p. refl) (λ at p. rules_in (at + 1) p) rules_in (λ at p. refl) Whatever kind_so

  diagram_made_so : Judges anything (choosing kind_in kind_judge) (rule_at manners.Diagram).phrase.reader later_size later_rules Whatever
  diagram_made_so = seen_so the_diagram later_size later_rules Whatever (λ p. refl) (λ at p. refl) (λ p r m. tt) drawn_so

  diagrams_so : RuleSo manners.Diagram
  unfolding ruled_of response_diagram_of
  diagrams_so = calmer_so no_dot (λ g h. refl) diagram_made_so

  -- BY THE FIRST TOKEN
  each_so : (m : Manner) → RuleSo m
  each_so manners.Just = just_so
  each_so manners.Chain = chained_so
  each_so manners.Ranked = ranks_so
  each_so manners.Fair = fairs_so
  each_so manners.Net = nets_so
  each_so manners.Diagram = diagrams_so

  chosen_so : Judges no_dot (choosing manner_in (ruled_of g)) rule_lawful.phrase.reader rule_size (rule_rules g) Whatever
  chosen_so = choice_so manner_in refl no_dot (ruled_of g) (λ m. (rule_at m).phrase.reader) rule_short rule_size later_size sized (rule_rules g) later_rules ruled Whatever each_so

  pub rule_so : Judges no_dot (rule_of g) rule_lawful.phrase.reader rule_size (rule_rules g) Whatever
  unfolding rule_of
  rule_so = chosen_so

pub rules_first_fault : RulesFirstFault
rules_first_fault g = stops_at_first anything no_dot refl rule_lawful (rule_rules g 0) (rule_of g) rule_size Whatever ((rule_so g).judged 0)
