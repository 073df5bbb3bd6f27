-- Nodes of nets, and lists of them: that a node has neither a group nor a helper is found at the token behind it.
use Rattle.std.proofs.Common.{◌≡◌, ℕ, ◌+◌, Bool, true, List, [], ◌∷◌, ◌++◌, Option, Ok, Err, refl, sym, ap, ◌∙◌, arith, append_assoc}
use Rattle.std.specs.Prelude.{◌&&◌, is_none}
use Rattle.st_tokens.specs.Stream.{Lexeme, Stream}
use Rattle.st_reading.specs.declared.mark.Mark.TheVariants as marks
use Rattle.st_reading.specs.declared.sign.Sign.{Sign}
use Rattle.st_reading.specs.declared.sign.Sign.TheVariants as signs
use Rattle.st_reading.specs.Mark.{number}
use Rattle.st_reading.specs.Reading.{Read, ◌>>=◌, syntax, is_name, place_of, gives, then_reads}
use Rattle.st_reading.specs.Rule as rules
use Rattle.st_reading.specs.Breaches.{Breach, Reader, broke}
use Rattle.st_reading.specs.BrokenRules.{Broken}
use Rattle.st_reading.specs.Spelling.{behind_it}
use Rattle.st_reading.specs.Steady.{Within, moves, wider, anything}
use Rattle.st_reading.proofs.Tokens.{among, but}
use Rattle.st_reading.proofs.Phrases.{made}
use Rattle.st_reading.proofs.LawfulPhrases.{LawfulPhrase, as_lawful, map_lawful, optional_front, optional_lawful, or_next}
use Rattle.st_linear.specs.Linear.{Linear}
use Rattle.st_form.specs.Formula.{Formula}
use Rattle.temporal_goals.specs.Texts.{PlainNode}
use Rattle.expression_parser.specs.Calm.{calm}
use Rattle.expression_parser.proofs.FormulaTheorems.{quiet}
use Rattle.proof_script.specs.Listing.{Setting, bracketed, listed_formula_of}
use Rattle.proof_script.specs.Rules.{completed_of, group_of, helper_of, node_of, weight_of}
use Rattle.script_grammar.specs.RawScripts.{RawUnit, RawTransition, RawNode}
use Rattle.script_grammar.specs.Sizes.{bracketed_size, optional_size, transition_size, node_size}
use Rattle.script_grammar.specs.Grammar.{IsRawNode, spells_node}
use Rattle.script_grammar.specs.Breaking.{broken_where, listed_rules, optional_rules}
use Rattle.script_grammar.specs.Rules.{form_rules, sum_rules, helper_rules, group_rules, node_rules}
use Rattle.script_grammar.specs.Theorems.{Forms, Sums}
use Rattle.script_grammar.specs.FirstFaults.{NetsFirstFault}
use Rattle.script_grammar.proofs.RawReferences.{no_dot, reference_lawful}
use Rattle.script_grammar.proofs.References.{judged_group, judged_helper}
use Rattle.script_grammar.proofs.RawUnits.{raw_lawful}
use Rattle.script_grammar.proofs.UnitLaws.{forms}
use Rattle.script_grammar.proofs.JudgedPairs.{both_of, pair_lawful}
use Rattle.script_grammar.proofs.JudgedOptions.{SameThere}
use Rattle.script_grammar.proofs.JudgedClaims.{helper_calm_so}
use Rattle.script_grammar.proofs.Judges.{Judges, Whatever, pair_so, made_so, optional_so, regroup}
use Rattle.script_grammar.proofs.JudgedBrackets.{brackets_lawful}
use Rattle.script_grammar.proofs.Citations.{loose_lawful}
use Rattle.script_grammar.proofs.PlacedUnits.{placed, with_place}
use Rattle.script_grammar.proofs.CompletedItems.{Pending, completed, completed_so}
use Rattle.script_grammar.proofs.ListedNodes.{Owes, placed_item_so, under}
use Rattle.script_grammar.proofs.NetMarks.{item_end, end_between, end_calm, end_closes, end_not_group, end_not_helper, end_quiet, end_undotted, marked_or_within, based, base_calm, delayed, delay_calm, topped, top_calm, weight_so}
use Rattle.script_grammar.proofs.PartLaws.{stops_at_first}

-- [ "group" trans ] [ "helper" trans ]
abbrev pub helper_front : Sign → Bool
helper_front = optional_front marks.Helper is_name no_dot item_end end_not_helper end_undotted reference_lawful end_quiet

abbrev pub helper_part : LawfulPhrase Breach (Option RawTransition) helper_front item_end
helper_part = optional_lawful marks.Helper is_name no_dot item_end end_not_helper end_undotted reference_lawful end_quiet

pub helper_or_end : Within item_end helper_front
helper_or_end = or_next marks.Helper is_name no_dot item_end end_not_helper end_undotted reference_lawful end_quiet

pub helper_not_group : Within helper_front (but marks.Group)
unfolding number
helper_not_group = marked_or_within marks.Helper item_end (but marks.Group) refl end_not_group

pub helper_undotted : Within helper_front no_dot
unfolding number
helper_undotted = marked_or_within marks.Helper item_end no_dot refl end_undotted

pub helper_calm : Within helper_front calm
helper_calm = marked_or_within marks.Helper item_end calm helper_calm_so end_calm

pub helper_quiet : helper_front signs.Nothing ≡ true
helper_quiet = refl

abbrev pub group_front : Sign → Bool
group_front = optional_front marks.Group is_name no_dot helper_front helper_not_group helper_undotted reference_lawful helper_quiet

abbrev pub group_part : LawfulPhrase Breach (Option RawTransition) group_front helper_front
group_part = optional_lawful marks.Group is_name no_dot helper_front helper_not_group helper_undotted reference_lawful helper_quiet

pub group_or_helper : Within helper_front group_front
group_or_helper = or_next marks.Group is_name no_dot helper_front helper_not_group helper_undotted reference_lawful helper_quiet

pub group_calm_so : calm (signs.Marked marks.Group) ≡ true
unfolding number calm
group_calm_so = refl

pub group_calm : Within group_front calm
group_calm = marked_or_within marks.Group helper_front calm group_calm_so helper_calm

pub group_or_end : Within item_end group_front
group_or_end g h = group_or_helper g (helper_or_end g h)

abbrev pub options_lawful : LawfulPhrase Breach (Option RawTransition × Option RawTransition) group_front item_end
options_lawful = loose_lawful group_front helper_front helper_front item_end (λ g h. h) group_part (wider group_or_helper) helper_part helper_or_end helper_or_end

-- and integer expressions before that
abbrev pub topped_lawful : LawfulPhrase Breach (RawUnit × (Option RawTransition × Option RawTransition)) (among (marks.Top ∷ [])) item_end
topped_lawful = loose_lawful (among (marks.Top ∷ [])) calm group_front item_end group_calm topped (moves quiet (syntax 0) refl) options_lawful group_or_end end_calm

abbrev pub delayed_lawful : LawfulPhrase Breach (RawUnit × (RawUnit × (Option RawTransition × Option RawTransition))) (among (marks.Delay ∷ [])) item_end
delayed_lawful = pair_lawful (among (marks.Delay ∷ [])) calm (among (marks.Top ∷ [])) item_end top_calm end_quiet delayed (moves quiet (syntax 0) refl) topped_lawful refl

abbrev pub Rest : Type 0
Rest = RawUnit × (RawUnit × (RawUnit × (Option RawTransition × Option RawTransition)))

abbrev pub rest_lawful : LawfulPhrase Breach Rest (among (marks.Base ∷ [])) item_end
rest_lawful = pair_lawful (among (marks.Base ∷ [])) calm (among (marks.Delay ∷ [])) item_end delay_calm end_quiet based (moves quiet (syntax 0) refl) delayed_lawful refl

abbrev pub the_node : RawUnit × Rest → RawNode
the_node p = record { form = p.0; base = p.1.0; delay = p.1.1.0; top = p.1.1.1.0; group = p.1.1.1.1.0; helper = p.1.1.1.1.1 }

abbrev pub node_parts : LawfulPhrase Breach RawNode anything item_end
node_parts = map_lawful anything item_end (λ g h. refl) the_node (pair_lawful anything calm (among (marks.Base ∷ [])) item_end base_calm end_quiet (raw_lawful forms) (wider (λ g h. refl)) rest_lawful refl)

pub to_node : (ts : List Lexeme) (n : RawNode) → node_parts.phrase.language ts n → IsRawNode Forms Sums ts n
to_node ts n (made us p (behind_it a k1 f q1 lf (made k2 q2 (behind_it b k3 base q3 lb (made k4 q4 (behind_it c k5 delay q5 ld (made k6 q6 (behind_it d k7 top q7 lt (made k8 q8 (behind_it e k9 group q9 lg (made k helper lh))))))))))) = spells_node a b c d e k f base delay top group helper lf lb ld lt lg lh

pub from_node : (ts : List Lexeme) (n : RawNode) → IsRawNode Forms Sums ts n → node_parts.phrase.language ts n
from_node ts n (spells_node a b c d e k f base delay top group helper lf lb ld lt lg lh) =
    let options = both_of group helper in
    let after_top = both_of top options in
    let after_delay = both_of delay after_top in
    let after_base = both_of base after_delay in
    made (a ++ (b ++ (c ++ (d ++ (e ++ k))))) (both_of f after_base) (behind_it a (b ++ (c ++ (d ++ (e ++ k)))) f (both_of f after_base) lf
    (made (b ++ (c ++ (d ++ (e ++ k)))) after_base (behind_it b (c ++ (d ++ (e ++ k))) base after_base lb
    (made (c ++ (d ++ (e ++ k))) after_delay (behind_it c (d ++ (e ++ k)) delay after_delay ld
    (made (d ++ (e ++ k)) after_top (behind_it d (e ++ k) top after_top lt
    (made (e ++ k) options (behind_it e k group options lg (made k helper lh))))))))))

abbrev pub node_lawful : LawfulPhrase Breach RawNode anything item_end
node_lawful = as_lawful anything item_end node_parts (IsRawNode Forms Sums) to_node from_node

abbrev pub nodes_lawful : LawfulPhrase Breach (List RawNode) (among (marks.OpenBlock ∷ [])) anything
nodes_lawful = brackets_lawful anything item_end end_between end_closes end_quiet node_lawful (wider (λ g h. refl))

-- WHAT A NODE LACKS
abbrev pub lacks : RawNode → Bool
lacks n = is_none n.group && is_none n.helper

abbrev pub lack : RawNode → Breach
lack n = broke rules.NoHelper n.form.place

module _ (g : Setting) where
  -- a node's own rules
  abbrev pub own_rules : ℕ → RawNode → List (Broken Breach)
  own_rules at n =
      form_rules g at n.form
      ++ (sum_rules g (at + n.form.size + 1) n.base
      ++ (sum_rules g (at + n.form.size + (1 + n.base.size) + 1) n.delay
      ++ (sum_rules g (at + n.form.size + (1 + n.base.size) + (1 + n.delay.size) + 1) n.top
      ++ (optional_rules (group_rules g) (at + n.form.size + (1 + n.base.size) + (1 + n.delay.size) + (1 + n.top.size)) n.group
      ++ optional_rules (helper_rules g) (at + n.form.size + (1 + n.base.size) + (1 + n.delay.size) + (1 + n.top.size) + optional_size transition_size n.group) n.helper))))

  grouped5 : (a b c d e f z : List (Broken Breach)) → a ++ (b ++ (c ++ (d ++ (e ++ (f ++ z))))) ≡ (a ++ (b ++ (c ++ (d ++ (e ++ f))))) ++ z
  grouped5 a b c d e f z =
      ap (λ v. a ++ (b ++ (c ++ (d ++ v)))) (sym (append_assoc e f z))
      ∙ ap (λ v. a ++ (b ++ (c ++ v))) (sym (append_assoc d (e ++ f) z))
      ∙ ap (λ v. a ++ (b ++ v)) (sym (append_assoc c (d ++ (e ++ f)) z))
      ∙ ap (λ v. a ++ v) (sym (append_assoc b (c ++ (d ++ (e ++ f))) z))
      ∙ sym (append_assoc a (b ++ (c ++ (d ++ (e ++ f)))) z)

  rules_are : (at : ℕ) (n : RawNode) → node_rules g at n ≡ own_rules at n ++ broken_where (lacks n) (at + node_size n + 1) (lack n)
  rules_are at n =
      grouped5 (form_rules g at n.form) (sum_rules g (at + n.form.size + 1) n.base) (sum_rules g (at + n.form.size + (1 + n.base.size) + 1) n.delay) (sum_rules g (at + n.form.size + (1 + n.base.size) + (1 + n.delay.size) + 1) n.top)
      (optional_rules (group_rules g) (at + n.form.size + (1 + n.base.size) + (1 + n.delay.size) + (1 + n.top.size)) n.group)
      (optional_rules (helper_rules g) (at + n.form.size + (1 + n.base.size) + (1 + n.delay.size) + (1 + n.top.size) + optional_size transition_size n.group) n.helper) (broken_where (lacks n) (at + node_size n + 1) (lack n))

  -- JUDGED
  pub helper_option_so : Judges item_end (helper_of g) helper_part.phrase.reader (optional_size transition_size) (optional_rules (helper_rules g)) (SameThere {A = ℕ})
  unfolding helper_of
  helper_option_so = optional_so marks.Helper item_end end_undotted reference_lawful (moves refl (syntax 0) refl) (record { judged = λ at s. judged_helper g at s })

  group_option_so : Judges helper_front (group_of g) group_part.phrase.reader (optional_size transition_size) (optional_rules (group_rules g)) (SameThere {A = ℕ})
  unfolding group_of
  group_option_so = optional_so marks.Group helper_front helper_undotted reference_lawful (moves refl (syntax 0) refl) (record { judged = λ at s. judged_group g at s })

  module _ (f : ℕ × Formula) where
    abbrev pending : Linear → Linear → Linear → Option ℕ → Option ℕ → Pending PlainNode
    pending b d t c h = record { wrong = is_none c && is_none h; breach = broke rules.NoHelper f.0; item = record { form = f.1; base = b; delay = d; top = t; group = c; helper = h } }

    abbrev by_helper : Linear → Linear → Linear → Option ℕ → Reader (Pending PlainNode)
    by_helper b d t c = then_reads (helper_of g) (λ h. gives (pending b d t c h))

    abbrev by_group : Linear → Linear → Linear → Reader (Pending PlainNode)
    by_group b d t = then_reads (group_of g) (by_helper b d t)

    abbrev by_top : Linear → Linear → Reader (Pending PlainNode)
    by_top b d = then_reads (weight_of g marks.Top) (by_group b d)

    abbrev by_delay : Linear → Reader (Pending PlainNode)
    by_delay b = then_reads (weight_of g marks.Delay) (by_top b)

    abbrev pub by_base : Reader (Pending PlainNode)
    by_base = then_reads (weight_of g marks.Base) by_delay

    helper_so : (b d t : Linear) (rc : Option RawTransition) (c : Option ℕ) → is_none c ≡ is_none rc
        → Judges item_end (by_helper b d t c) helper_part.phrase.reader (optional_size transition_size) (optional_rules (helper_rules g)) (λ rh x. Owes (is_none rc && is_none rh) f.0 x)
    helper_so b d t rc c same = made_so (pending b d t c) (λ rh x. Owes (is_none rc && is_none rh) f.0 x) (λ rh h m. let e : is_none h ≡ is_none rh = m in (rw (same, e) refl, refl)) helper_option_so

    abbrev Owed : Option RawTransition × Option RawTransition → Pending PlainNode → Type 0
    Owed p x = Owes (is_none p.0 && is_none p.1) f.0 x

    options_so : (b d t : Linear) → Judges item_end (by_group b d t) options_lawful.phrase.reader (λ p. optional_size transition_size p.0 + optional_size transition_size p.1)
        (λ at p. optional_rules (group_rules g) at p.0 ++ optional_rules (helper_rules g) (at + optional_size transition_size p.0) p.1) Owed
    options_so b d t = pair_so {makes = Owed} (λ g h. h) helper_part (wider helper_or_end) group_option_so (λ rc c same. helper_so b d t rc c same)

    top_so : (b d : Linear) → Judges item_end (by_top b d) topped_lawful.phrase.reader (λ p. (1 + p.0.size) + (optional_size transition_size p.1.0 + optional_size transition_size p.1.1))
        (λ at p. sum_rules g (at + 1) p.0 ++ (optional_rules (group_rules g) (at + (1 + p.0.size)) p.1.0 ++ optional_rules (helper_rules g) (at + (1 + p.0.size) + optional_size transition_size p.1.0) p.1.1)) (λ p x. Owed p.1 x)
    top_so b d = pair_so {makes = λ p x. Owed p.1 x} group_calm options_lawful (wider group_or_end) (weight_so g marks.Top) (λ e t m. options_so b d t)

    delay_so : (b : Linear) → Judges item_end (by_delay b) delayed_lawful.phrase.reader (λ p. (1 + p.0.size) + ((1 + p.1.0.size) + (optional_size transition_size p.1.1.0 + optional_size transition_size p.1.1.1)))
        (λ at p. sum_rules g (at + 1) p.0 ++ (sum_rules g (at + (1 + p.0.size) + 1) p.1.0
        ++ (optional_rules (group_rules g) (at + (1 + p.0.size) + (1 + p.1.0.size)) p.1.1.0 ++ optional_rules (helper_rules g) (at + (1 + p.0.size) + (1 + p.1.0.size) + optional_size transition_size p.1.1.0) p.1.1.1))) (λ p x. Owed p.1.1 x)
    delay_so b = pair_so {makes = λ p x. Owed p.1.1 x} top_calm topped_lawful (moves end_quiet (syntax 0) refl) (weight_so g marks.Delay) (λ e d m. top_so b d)

    pub base_so : Judges item_end by_base rest_lawful.phrase.reader (λ p. (1 + p.0.size) + ((1 + p.1.0.size) + ((1 + p.1.1.0.size) + (optional_size transition_size p.1.1.1.0 + optional_size transition_size p.1.1.1.1))))
        (λ at p. sum_rules g (at + 1) p.0 ++ (sum_rules g (at + (1 + p.0.size) + 1) p.1.0 ++ (sum_rules g (at + (1 + p.0.size) + (1 + p.1.0.size) + 1) p.1.1.0
        ++ (optional_rules (group_rules g) (at + (1 + p.0.size) + (1 + p.1.0.size) + (1 + p.1.1.0.size)) p.1.1.1.0 ++ optional_rules (helper_rules g) (at + (1 + p.0.size) + (1 + p.1.0.size) + (1 + p.1.1.0.size) + optional_size transition_size p.1.1.1.0) p.1.1.1.1)))) (λ p x. Owed p.1.1.1 x)
    base_so = pair_so {makes = λ p x. Owed p.1.1.1 x} delay_calm delayed_lawful (moves end_quiet (syntax 0) refl) (weight_so g marks.Base) (λ e b m. delay_so b)

    -- as the reader of nets completes it
    abbrev pub completing : Reader PlainNode
    completing = then_reads (weight_of g marks.Base) (λ b. then_reads (weight_of g marks.Delay) (λ d. then_reads (weight_of g marks.Top) (λ t. then_reads (group_of g) (λ c. then_reads (helper_of g) (λ h. completed (pending b d t c h))))))

    pub completes : (s : Stream) → then_reads by_base completed s ≡ completing s
    completes s =
        regroup (weight_of g marks.Base) by_delay completed s
        ∙ under (weight_of g marks.Base) (λ b. then_reads (by_delay b) completed) (λ b. then_reads (weight_of g marks.Delay) (λ d. then_reads (weight_of g marks.Top) (λ t. then_reads (group_of g) (λ c. then_reads (helper_of g) (λ h. completed (pending b d t c h))))))
        (λ b m1. regroup (weight_of g marks.Delay) (by_top b) completed m1
        ∙ under (weight_of g marks.Delay) (λ d. then_reads (by_top b d) completed) (λ d. then_reads (weight_of g marks.Top) (λ t. then_reads (group_of g) (λ c. then_reads (helper_of g) (λ h. completed (pending b d t c h)))))
        (λ d m2. regroup (weight_of g marks.Top) (by_group b d) completed m2
        ∙ under (weight_of g marks.Top) (λ t. then_reads (by_group b d t) completed) (λ t. then_reads (group_of g) (λ c. then_reads (helper_of g) (λ h. completed (pending b d t c h))))
        (λ t m3. regroup (group_of g) (by_helper b d t) completed m3
        ∙ under (group_of g) (λ c. then_reads (by_helper b d t c) completed) (λ c. then_reads (helper_of g) (λ h. completed (pending b d t c h)))
        (λ c m4. regroup (helper_of g) (λ h. gives (pending b d t c h)) completed m4) m3) m2) m1) s

  abbrev pub pending_node : ℕ → Reader (Pending PlainNode)
  pending_node before = then_reads (placed (listed_formula_of g before)) by_base

  node_reads : (before : ℕ) (s : Stream) → node_of g before s ≡ then_reads (pending_node before) completed s
  unfolding node_of completed_of
  node_reads before s = sym (regroup (placed (listed_formula_of g before)) by_base completed s ∙ under (placed (listed_formula_of g before)) (λ f. then_reads (by_base f) completed) completing completes s ∙ at_read (listed_formula_of g before s))
    where
      at_read : (o : Read Breach Formula) → (with_place (place_of s) o >>= λ x. completing x.0 x.1) ≡ (o >>= λ x. completing (place_of s, x.0) x.1)
      at_read (Ok x) = refl
      at_read (Err f) = refl

  pub nodes_so : Judges anything (bracketed (node_of g)) nodes_lawful.phrase.reader (bracketed_size node_size) (listed_rules (λ n. n.form) node_size (node_rules g) 0) Whatever
  nodes_so =
      completed_so anything item_end end_between end_closes end_quiet node_lawful (wider (λ g h. refl)) (λ n. n.form) node_size (node_rules g) own_rules lacks lack rules_are (node_of g) pending_node node_reads
      (λ before. placed_item_so g base_calm rest_lawful (moves end_quiet (syntax 0) refl) _ _ by_base (λ place p x. Owes (is_none p.1.1.1.0 && is_none p.1.1.1.1) place x) base_so the_node (λ n. n.form) (λ p. refl) node_size (λ p. omega arith) own_rules (λ at p. refl) (λ n x. Owes (lacks n) n.form.place x) (λ p x m. m) before)

pub nets_first_fault : NetsFirstFault
nets_first_fault g = stops_at_first (among (marks.OpenBlock ∷ [])) anything refl nodes_lawful (listed_rules (λ n. n.form) node_size (node_rules g) 0 0) (bracketed (node_of g)) (bracketed_size node_size) Whatever ((nodes_so g).judged 0)
