-- Nodes of nested nets, and lists of them: that a node has neither a level nor a helper is found at the token behind it.
use Rattle.std.proofs.Common.{◌≡◌, ℕ, ◌+◌, Bool, List, [], ◌∷◌, ◌++◌, length, Option, Ok, Err, refl, sym, ap, ◌∙◌, arith, append_assoc}
use Rattle.std.specs.Prelude.{nat_eq, ◌&&◌, is_none}
use Rattle.st_tokens.specs.Stream.{Lexeme, Stream, ends}
use Rattle.st_reading.specs.declared.mark.Mark.TheVariants as marks
use Rattle.st_reading.specs.Mark.{number}
use Rattle.st_reading.specs.Reading.{Read, ◌>>=◌, syntax, place_of, gives, then_reads}
use Rattle.st_reading.specs.Rule as rules
use Rattle.st_reading.specs.Breaches.{Breach, Reader, broke}
use Rattle.st_reading.specs.BrokenRules.{Broken}
use Rattle.st_reading.specs.Spelling.{behind_it}
use Rattle.st_reading.specs.Steady.{Within, moves, wider, anything}
use Rattle.st_reading.proofs.Tokens.{among, marks_within}
use Rattle.st_reading.proofs.Phrases.{made}
use Rattle.st_reading.proofs.LawfulPhrases.{LawfulPhrase, as_lawful, map_lawful}
use Rattle.st_linear.specs.Linear.{Linear}
use Rattle.st_form.specs.Formula.{Formula}
use Rattle.temporal_goals.specs.Texts.{PlainLevel, PlainNestedNode}
use Rattle.expression_parser.specs.Calm.{calm}
use Rattle.expression_parser.proofs.FormulaTheorems.{quiet}
use Rattle.proof_script.specs.Listing.{Setting, bracketed, listed_formula_of}
use Rattle.proof_script.specs.Rules.{group_levels_of, helper_of, nested_completed_of, nested_node_of, weight_of}
use Rattle.script_grammar.specs.RawScripts.{RawUnit, RawTransition, RawLevel, RawNestedNode}
use Rattle.script_grammar.specs.Sizes.{bracketed_size, level_size, many_size, nested_node_size, optional_size, transition_size}
use Rattle.script_grammar.specs.Grammar.{IsRawNestedNode, spells_nested_node}
use Rattle.script_grammar.specs.Breaking.{broken_where, listed_rules, many_rules, optional_rules}
use Rattle.script_grammar.specs.Rules.{form_rules, sum_rules, helper_rules, level_rules, nested_node_rules}
use Rattle.script_grammar.specs.Theorems.{Forms, Sums}
use Rattle.script_grammar.specs.FirstFaults.{NestedNetsFirstFault}
use Rattle.script_grammar.proofs.RawUnits.{raw_lawful}
use Rattle.script_grammar.proofs.UnitLaws.{forms}
use Rattle.script_grammar.proofs.JudgedPairs.{both_of, pair_lawful}
use Rattle.script_grammar.proofs.Judges.{Judges, Whatever, pair_so, made_so, regroup}
use Rattle.script_grammar.proofs.JudgedBrackets.{brackets_lawful}
use Rattle.script_grammar.proofs.Citations.{loose_lawful}
use Rattle.script_grammar.proofs.PlacedUnits.{placed, with_place}
use Rattle.script_grammar.proofs.CompletedItems.{Pending, completed, completed_so}
use Rattle.script_grammar.proofs.ListedNodes.{Owes, placed_item_so, under}
use Rattle.script_grammar.proofs.NetMarks.{item_end, end_between, end_calm, end_closes, end_quiet, delayed, weight_so}
use Rattle.script_grammar.proofs.NetNodes.{helper_calm, helper_front, helper_option_so, helper_or_end, helper_part}
use Rattle.script_grammar.proofs.NestedLevels.{base_front, delay_next, levels_calm, four_levels}
use Rattle.script_grammar.proofs.PartLaws.{stops_at_first}

pub delay_there : Within (among (marks.Delay ∷ [])) delay_next
unfolding number
delay_there = marks_within delay_next (marks.Delay ∷ []) refl

pub delay_or_level : Within (among (marks.Delay ∷ [])) base_front
unfolding number
delay_or_level = marks_within base_front (marks.Delay ∷ []) refl

-- { level } "delay" sum [ "helper" trans ]
abbrev pub delayed_lawful : LawfulPhrase Breach (RawUnit × Option RawTransition) (among (marks.Delay ∷ [])) item_end
delayed_lawful = loose_lawful (among (marks.Delay ∷ [])) calm helper_front item_end helper_calm delayed (moves quiet (syntax 0) refl) helper_part helper_or_end end_calm

abbrev pub Rest : Type 0
Rest = List RawLevel × (RawUnit × Option RawTransition)

abbrev pub rest_lawful : LawfulPhrase Breach Rest base_front item_end
rest_lawful = pair_lawful base_front delay_next (among (marks.Delay ∷ [])) item_end delay_there end_quiet four_levels.lawful (wider delay_or_level) delayed_lawful refl

pub rest_needs : rest_lawful.phrase.reader (ends 0) ≡ Err (syntax 0)
rest_needs = refl

abbrev pub the_node : RawUnit × Rest → RawNestedNode
the_node p = record { form = p.0; levels = p.1.0; delay = p.1.1.0; helper = p.1.1.1 }

abbrev pub node_parts : LawfulPhrase Breach RawNestedNode anything item_end
node_parts = map_lawful anything item_end (λ g h. refl) the_node (pair_lawful anything calm base_front item_end levels_calm end_quiet (raw_lawful forms) (wider (λ g h. refl)) rest_lawful rest_needs)

pub to_node : (ts : List Lexeme) (n : RawNestedNode) → node_parts.phrase.language ts n → IsRawNestedNode Forms Sums ts n
to_node ts n (made us p (behind_it a k1 f q1 lf (made k2 q2 (behind_it b k3 ls q3 ll (made k4 q4 (behind_it c k5 delay q5 ld (made k helper lh))))))) =
    let m = four_levels.to_many b ls ll in
    spells_nested_node a b c k f ls delay helper lf m.0 m.1 ld lh

pub from_node : (ts : List Lexeme) (n : RawNestedNode) → IsRawNestedNode Forms Sums ts n → node_parts.phrase.language ts n
from_node ts n (spells_nested_node a b c d f ls delay helper lf ll few ld lh) =
    let later = both_of delay helper in
    let rest = both_of ls later in
    made (a ++ (b ++ (c ++ d))) (both_of f rest) (behind_it a (b ++ (c ++ d)) f (both_of f rest) lf
    (made (b ++ (c ++ d)) rest (behind_it b (c ++ d) ls rest (four_levels.from_many b ls ll few) (made (c ++ d) later (behind_it c d delay later ld (made d helper lh))))))

abbrev pub node_lawful : LawfulPhrase Breach RawNestedNode anything item_end
node_lawful = as_lawful anything item_end node_parts (IsRawNestedNode Forms Sums) to_node from_node

abbrev pub nested_lawful : LawfulPhrase Breach (List RawNestedNode) (among (marks.OpenBlock ∷ [])) anything
nested_lawful = brackets_lawful anything item_end end_between end_closes end_quiet node_lawful (wider (λ g h. refl))

-- WHAT A NODE LACKS
abbrev pub lacks : RawNestedNode → Bool
lacks n = nat_eq (length n.levels) 0 && is_none n.helper

abbrev pub lack : RawNestedNode → Breach
lack n = broke rules.NoHelper n.form.place

module _ (g : Setting) where
  -- a node's own rules
  abbrev pub own_rules : ℕ → RawNestedNode → List (Broken Breach)
  own_rules at n =
      form_rules g at n.form
      ++ (many_rules level_size (level_rules g) (at + n.form.size) n.levels
      ++ (sum_rules g (at + n.form.size + many_size level_size n.levels + 1) n.delay
      ++ optional_rules (helper_rules g) (at + n.form.size + many_size level_size n.levels + (1 + n.delay.size)) n.helper))

  grouped3 : (a b c d z : List (Broken Breach)) → a ++ (b ++ (c ++ (d ++ z))) ≡ (a ++ (b ++ (c ++ d))) ++ z
  grouped3 a b c d z = ap (λ v. a ++ (b ++ v)) (sym (append_assoc c d z)) ∙ ap (λ v. a ++ v) (sym (append_assoc b (c ++ d) z)) ∙ sym (append_assoc a (b ++ (c ++ d)) z)

  rules_are : (at : ℕ) (n : RawNestedNode) → nested_node_rules g at n ≡ own_rules at n ++ broken_where (lacks n) (at + nested_node_size n + 1) (lack n)
  rules_are at n =
      grouped3 (form_rules g at n.form) (many_rules level_size (level_rules g) (at + n.form.size) n.levels) (sum_rules g (at + n.form.size + many_size level_size n.levels + 1) n.delay)
      (optional_rules (helper_rules g) (at + n.form.size + many_size level_size n.levels + (1 + n.delay.size)) n.helper) (broken_where (lacks n) (at + nested_node_size n + 1) (lack n))

  -- JUDGED
  module _ (f : ℕ × Formula) where
    abbrev pending : List PlainLevel → Linear → Option ℕ → Pending PlainNestedNode
    pending ls d h = record { wrong = nat_eq (length ls) 0 && is_none h; breach = broke rules.NoHelper f.0; item = record { form = f.1; levels = ls; delay = d; helper = h } }

    abbrev by_helper : List PlainLevel → Linear → Reader (Pending PlainNestedNode)
    by_helper ls d = then_reads (helper_of g) (λ h. gives (pending ls d h))

    abbrev by_delay : List PlainLevel → Reader (Pending PlainNestedNode)
    by_delay ls = then_reads (weight_of g marks.Delay) (by_helper ls)

    abbrev pub by_levels : Reader (Pending PlainNestedNode)
    by_levels = then_reads (group_levels_of g 4 []) by_delay

    abbrev Owed : List RawLevel → Option RawTransition → Pending PlainNestedNode → Type 0
    Owed rs rh x = Owes (nat_eq (length rs) 0 && is_none rh) f.0 x

    helper_so : (rs : List RawLevel) (ls : List PlainLevel) (d : Linear) → length ls ≡ length rs → Judges item_end (by_helper ls d) helper_part.phrase.reader (optional_size transition_size) (optional_rules (helper_rules g)) (Owed rs)
    helper_so rs ls d same = made_so (pending ls d) (Owed rs) (λ rh h m. let e : is_none h ≡ is_none rh = m in (rw (same, e) refl, refl)) (helper_option_so g)

    delay_so : (rs : List RawLevel) (ls : List PlainLevel) → length ls ≡ length rs → Judges item_end (by_delay ls) delayed_lawful.phrase.reader (λ p. (1 + p.0.size) + optional_size transition_size p.1)
        (λ at p. sum_rules g (at + 1) p.0 ++ optional_rules (helper_rules g) (at + (1 + p.0.size)) p.1) (λ p x. Owed rs p.1 x)
    delay_so rs ls same = pair_so {makes = λ p x. Owed rs p.1 x} helper_calm helper_part (wider helper_or_end) (weight_so g marks.Delay) (λ e d m. helper_so rs ls d same)

    pub levels_so : Judges item_end by_levels rest_lawful.phrase.reader (λ p. many_size level_size p.0 + ((1 + p.1.0.size) + optional_size transition_size p.1.1))
        (λ at p. many_rules level_size (level_rules g) at p.0 ++ (sum_rules g (at + many_size level_size p.0 + 1) p.1.0 ++ optional_rules (helper_rules g) (at + many_size level_size p.0 + (1 + p.1.0.size)) p.1.1)) (λ p x. Owed p.0 p.1.1 x)
    levels_so = pair_so {makes = λ p x. Owed p.0 p.1.1 x} delay_there delayed_lawful (moves end_quiet (syntax 0) refl) (four_levels.judges g []) (λ rs ls same. delay_so rs ls (omega (arith, same)))

    -- as the reader of nested nets completes it
    abbrev pub completing : Reader PlainNestedNode
    completing = then_reads (group_levels_of g 4 []) (λ ls. then_reads (weight_of g marks.Delay) (λ d. then_reads (helper_of g) (λ h. completed (pending ls d h))))

    pub completes : (s : Stream) → then_reads by_levels completed s ≡ completing s
    completes s =
        regroup (group_levels_of g 4 []) by_delay completed s
        ∙ under (group_levels_of g 4 []) (λ ls. then_reads (by_delay ls) completed) (λ ls. then_reads (weight_of g marks.Delay) (λ d. then_reads (helper_of g) (λ h. completed (pending ls d h))))
        (λ ls m1. regroup (weight_of g marks.Delay) (by_helper ls) completed m1
        ∙ under (weight_of g marks.Delay) (λ d. then_reads (by_helper ls d) completed) (λ d. then_reads (helper_of g) (λ h. completed (pending ls d h)))
        (λ d m2. regroup (helper_of g) (λ h. gives (pending ls d h)) completed m2) m1) s

  abbrev pub pending_node : ℕ → Reader (Pending PlainNestedNode)
  pending_node before = then_reads (placed (listed_formula_of g before)) by_levels

  node_reads : (before : ℕ) (s : Stream) → nested_node_of g before s ≡ then_reads (pending_node before) completed s
  unfolding nested_node_of nested_completed_of
  node_reads before s = sym (regroup (placed (listed_formula_of g before)) by_levels completed s ∙ under (placed (listed_formula_of g before)) (λ f. then_reads (by_levels f) completed) completing completes s ∙ at_read (listed_formula_of g before s))
    where
      at_read : (o : Read Breach Formula) → (with_place (place_of s) o >>= λ x. completing x.0 x.1) ≡ (o >>= λ x. completing (place_of s, x.0) x.1)
      at_read (Ok x) = refl
      at_read (Err f) = refl

  pub nested_so : Judges anything (bracketed (nested_node_of g)) nested_lawful.phrase.reader (bracketed_size nested_node_size) (listed_rules (λ n. n.form) nested_node_size (nested_node_rules g) 0) Whatever
  nested_so =
      completed_so anything item_end end_between end_closes end_quiet node_lawful (wider (λ g h. refl)) (λ n. n.form) nested_node_size (nested_node_rules g) own_rules lacks lack rules_are (nested_node_of g) pending_node node_reads
      (λ before. placed_item_so g levels_calm rest_lawful (moves end_quiet (syntax 0) rest_needs) _ _ by_levels (λ place p x. Owes (nat_eq (length p.0) 0 && is_none p.1.1) place x) levels_so the_node (λ n. n.form) (λ p. refl) nested_node_size (λ p. omega arith) own_rules (λ at p. refl) (λ n x. Owes (lacks n) n.form.place x) (λ p x m. m) before)

pub nested_nets_first_fault : NestedNetsFirstFault
nested_nets_first_fault g = stops_at_first (among (marks.OpenBlock ∷ [])) anything refl nested_lawful (listed_rules (λ n. n.form) nested_node_size (nested_node_rules g) 0 0) (bracketed (nested_node_of g)) (bracketed_size nested_node_size) Whatever ((nested_so g).judged 0)
