-- Items of rules: helped, ranked, and the levels of nested nets.
use Rattle.std.proofs.Common.{◌≡◌, ℕ, ◌+◌, Bool, true, List, [], ◌∷◌, ◌++◌, Ok, Err, refl, sym, ap, ◌∙◌, arith}
use Rattle.std.specs.Prelude.{codes, nat_lt}
use Rattle.st_tokens.specs.declared.kind.TokenKind.TheVariants as kinds
use Rattle.st_tokens.specs.Stream.{Lexeme, Stream, IsSpelled}
use Rattle.st_reading.specs.declared.mark.Mark.{Mark}
use Rattle.st_reading.specs.declared.mark.Mark.TheVariants as marks
use Rattle.st_reading.specs.declared.sign.Sign.{Sign}
use Rattle.st_reading.specs.Mark.{number}
use Rattle.st_reading.specs.Sign.{declaring_word, basic_word, compound_word, step_word, rule_word, drawing_word}
use Rattle.st_reading.specs.Reading.{Read, ◌>>=◌, syntax, is_name, expected, gives, then_reads}
use Rattle.st_reading.specs.Breaches.{Breach, Reader}
use Rattle.st_reading.specs.BrokenRules.{Broken}
use Rattle.st_reading.specs.Spelling.{Is, behind_it}
use Rattle.st_reading.specs.Steady.{Within, moves, wider, anything}
use Rattle.st_reading.proofs.Tokens.{among, marks_within}
use Rattle.st_reading.proofs.Phrases.{made}
use Rattle.st_reading.proofs.LawfulPhrases.{LawfulPhrase, map_lawful, as_lawful}
use Rattle.st_reading.proofs.Judging.{JudgedAt}
use Rattle.st_reading.proofs.JudgedParts.{judged_as, judged_map}
use Rattle.st_linear.specs.Linear.{Linear}
use Rattle.st_form.specs.Formula.{Formula}
use Rattle.expression_parser.specs.Calm.{calm}
use Rattle.expression_parser.proofs.FormulaTheorems.{quiet}
use Rattle.expression_typer.specs.Naming.{names_of}
use Rattle.assertions.specs.Reading.{number_of, truth_of}
use Rattle.proof_script.specs.Listing.{Setting, formula_of, just_of, listed_formula_of, sum_of}
use Rattle.proof_script.specs.Rules.{helped_of, ranked_of, wanted_helper_of, weight_of}
use Rattle.script_grammar.specs.RawScripts.{RawUnit, RawTransition, RawHelped, RawRanked}
use Rattle.script_grammar.specs.Sizes.{transition_size, helped_size, ranked_size}
use Rattle.script_grammar.specs.Grammar.{IsRawHelped, IsRawRanked, spells_helped, spells_ranked}
use Rattle.script_grammar.specs.Rules.{form_rules, sum_rules, helper_rules, helped_rules, ranked_rules}
use Rattle.script_grammar.specs.Theorems.{Forms, Sums}
use Rattle.script_grammar.specs.FirstFaults.{IsSyntactic, StopsAtFirst, HelpedFirstFault, RankedFirstFault}
use Rattle.script_grammar.proofs.RawReferences.{no_dot, raw_reference, reference_lawful}
use Rattle.script_grammar.proofs.References.{judged_helper}
use Rattle.script_grammar.proofs.RawUnits.{raw, raw_lawful}
use Rattle.script_grammar.proofs.UnitLaws.{forms, sums, judged_form, judged_sum, typed_unit}
use Rattle.script_grammar.proofs.JudgedPairs.{both_of, pair_lawful, after_lawful, short_pair, short_after, judge_map, judged_pair, judged_after, pairs, pair_count, pair_rules}
use Rattle.script_grammar.proofs.PartLaws.{stops_at_first}

-- MARKS
abbrev pub keyword : List ℕ → Lexeme
keyword text = record { kind = kinds.Keyword; text = text; start = 0 }

abbrev pub helper_token : Lexeme
helper_token = keyword (codes "helper")

pub helper_spelled : IsSpelled helper_token
helper_spelled = refl

pub helper_is : Is marks.Helper helper_token
unfolding number declaring_word basic_word compound_word step_word rule_word drawing_word
helper_is = refl

pub helper_calm : Within (among (marks.Helper ∷ [])) calm
unfolding number calm
helper_calm = marks_within calm (marks.Helper ∷ []) refl

-- "helper" trans
abbrev pub helper_lawful : LawfulPhrase Breach RawTransition (among (marks.Helper ∷ [])) no_dot
helper_lawful = after_lawful marks.Helper helper_token helper_spelled helper_is is_name no_dot reference_lawful (moves refl (syntax 0) refl)

-- expr "helper" trans
abbrev pub the_helped : RawUnit × RawTransition → RawHelped
the_helped p = record { form = p.0; helper = p.1 }

abbrev pub helped_parts : LawfulPhrase Breach RawHelped anything no_dot
helped_parts = map_lawful anything no_dot (λ g h. refl) the_helped (pair_lawful anything calm (among (marks.Helper ∷ [])) no_dot helper_calm refl (raw_lawful forms) (wider (λ g h. refl)) helper_lawful refl)

pub to_helped : (ts : List Lexeme) (r : RawHelped) → helped_parts.phrase.language ts r → IsRawHelped Forms Sums ts r
to_helped ts r (made us p (behind_it a b u q lu (made c h lh))) = spells_helped a c u h lu lh

pub from_helped : (ts : List Lexeme) (r : RawHelped) → IsRawHelped Forms Sums ts r → helped_parts.phrase.language ts r
from_helped ts r (spells_helped a b f h lf lh) = made (a ++ b) (both_of f h) (behind_it a b f (both_of f h) lf (made b h lh))

abbrev pub helped_lawful : LawfulPhrase Breach RawHelped anything no_dot
helped_lawful = as_lawful anything no_dot helped_parts (IsRawHelped Forms Sums) to_helped from_helped

-- expr "rank" sum "helper" trans
abbrev pub rank_token : Lexeme
rank_token = keyword (codes "rank")

pub rank_spelled : IsSpelled rank_token
rank_spelled = refl

pub rank_is : Is marks.Rank rank_token
unfolding number declaring_word basic_word compound_word step_word rule_word drawing_word
rank_is = refl

pub rank_calm : Within (among (marks.Rank ∷ [])) calm
unfolding number calm
rank_calm = marks_within calm (marks.Rank ∷ []) refl

-- "rank" sum
abbrev pub rank_lawful : LawfulPhrase Breach RawUnit (among (marks.Rank ∷ [])) calm
rank_lawful = after_lawful marks.Rank rank_token rank_spelled rank_is anything calm (raw_lawful sums) (wider (λ g h. refl))

abbrev pub weighted_lawful : LawfulPhrase Breach (RawUnit × RawTransition) (among (marks.Rank ∷ [])) no_dot
weighted_lawful = pair_lawful (among (marks.Rank ∷ [])) calm (among (marks.Helper ∷ [])) no_dot helper_calm refl rank_lawful (moves quiet (syntax 0) refl) helper_lawful refl

abbrev pub the_ranked : RawUnit × (RawUnit × RawTransition) → RawRanked
the_ranked p = record { form = p.0; rank = p.1.0; helper = p.1.1 }

abbrev pub ranked_parts : LawfulPhrase Breach RawRanked anything no_dot
ranked_parts = map_lawful anything no_dot (λ g h. refl) the_ranked (pair_lawful anything calm (among (marks.Rank ∷ [])) no_dot rank_calm refl (raw_lawful forms) (wider (λ g h. refl)) weighted_lawful refl)

pub to_ranked : (ts : List Lexeme) (r : RawRanked) → ranked_parts.phrase.language ts r → IsRawRanked Forms Sums ts r
to_ranked ts r (made us p (behind_it a d u q lu (made vs w (behind_it b c e z le (made ws h lh))))) = spells_ranked a b ws u e h lu le lh

pub from_ranked : (ts : List Lexeme) (r : RawRanked) → IsRawRanked Forms Sums ts r → ranked_parts.phrase.language ts r
from_ranked ts r (spells_ranked a b c f e h lf le lh) = made (a ++ (b ++ c)) (both_of f (both_of e h)) (behind_it a (b ++ c) f (both_of f (both_of e h)) lf (made (b ++ c) (both_of e h) (behind_it b c e (both_of e h) le (made c h lh))))

abbrev pub ranked_lawful : LawfulPhrase Breach RawRanked anything no_dot
ranked_lawful = as_lawful anything no_dot ranked_parts (IsRawRanked Forms Sums) to_ranked from_ranked

abbrev pub helped_with : Formula → ℕ → Formula × ℕ
helped_with f h = (f, h)

abbrev pub ranked_with : Formula → Linear → ℕ → Formula × Linear × ℕ
ranked_with f r h = (f, r, h)

module _ (g : Setting) where
  -- behind fewer than 64 others a formula is read as any is
  pub listed_is : (before : ℕ) → nat_lt before 64 ≡ true → (s : Stream) → listed_formula_of g before s ≡ formula_of g s
  unfolding listed_formula_of
  listed_is before few s = rw few refl

  pub judged_wanted : {A : Type 0} (k : ℕ → A) (at : ℕ) (s : Stream) → JudgedAt IsSyntactic no_dot at (then_reads (wanted_helper_of g) (λ h. gives (k h))) (then_reads (expected marks.Helper) (λ m. raw_reference)) (λ h. 1 + transition_size h) (λ h. helper_rules g (at + 1) h) (λ h x. Unit {0}) s
  unfolding wanted_helper_of
  judged_wanted k at s =
      judge_map no_dot at (then_reads (expected marks.Helper) (λ m. just_of g)) (then_reads (expected marks.Helper) (λ m. raw_reference)) (λ h. 1 + transition_size h) (λ h. helper_rules g (at + 1) h) _ k (λ h x. Unit {0}) (λ h n made. tt) s
      (judged_after marks.Helper no_dot (just_of g) raw_reference transition_size (helper_rules g) _ (short_after is_name no_dot reference_lawful (moves refl (syntax 0) refl)) at (λ m. judged_helper g (at + 1) m) s)

  module _ (before : ℕ) (few : nat_lt before 64 ≡ true) where
    pub helped_is : (s : Stream) → helped_of g before s ≡ then_reads (formula_of g) (λ f. then_reads (wanted_helper_of g) (λ h. gives (helped_with f h))) s
    unfolding helped_of
    helped_is s = ap (λ (r : Read Breach Formula). r >>= λ x. then_reads (wanted_helper_of g) (λ h. gives (helped_with x.0 h)) x.1) (listed_is before few s)

    pub judged_helped : (at : ℕ) (s : Stream) → JudgedAt IsSyntactic no_dot at (helped_of g before) helped_lawful.phrase.reader helped_size (helped_rules g at) (λ r x. Unit {0}) s
    judged_helped at s =
        judged_as IsSyntactic no_dot at (then_reads (formula_of g) (λ f. then_reads (wanted_helper_of g) (λ h. gives (helped_with f h)))) helped_lawful.phrase.reader helped_size (helped_rules g at) (λ r x. Unit {0}) (helped_of g before) helped_lawful.phrase.reader s
        (λ after h. helped_is after) (λ after h. refl)
        (judged_map IsSyntactic no_dot at (then_reads (formula_of g) (λ f. then_reads (wanted_helper_of g) (λ h. gives (helped_with f h)))) (pairs (raw forms) helper_lawful.phrase.reader) (λ p. p.0.size + (1 + transition_size p.1)) (λ p. form_rules g at p.0 ++ helper_rules g (at + p.0.size + 1) p.1) (λ p x. Unit {0})
        the_helped helped_size (helped_rules g at) (λ r x. Unit {0}) (λ p. refl) (λ p. refl) (λ p x m. tt) s
        (judged_pair calm no_dot (formula_of g) (raw forms) (λ u. u.size) (form_rules g) _ (λ f. then_reads (wanted_helper_of g) (λ h. gives (helped_with f h))) helper_lawful.phrase.reader (λ h. 1 + transition_size h) (λ at h. helper_rules g (at + 1) h) (λ p x. Unit {0})
        (short_pair calm (among (marks.Helper ∷ [])) no_dot helper_calm helper_lawful (moves refl (syntax 0) refl)) at s (judged_form g at s) (λ b f made at2 m. judged_wanted (helped_with f) at2 m)))

    pub helpeds : StopsAtFirst (IsRawHelped Forms Sums) (helped_rules g 0) (helped_of g before)
    helpeds = stops_at_first anything no_dot refl helped_lawful (helped_rules g 0) (helped_of g before) helped_size (λ r x. Unit {0}) (judged_helped 0)

    -- RANKED
    abbrev ranks : Reader (Formula × Linear × ℕ)
    ranks = then_reads (formula_of g) (λ f. then_reads (weight_of g marks.Rank) (λ r. then_reads (wanted_helper_of g) (λ h. gives (ranked_with f r h))))

    pub ranked_is : (s : Stream) → ranked_of g before s ≡ ranks s
    unfolding ranked_of
    ranked_is s = ap (λ (r : Read Breach Formula). r >>= λ x. then_reads (weight_of g marks.Rank) (λ r. then_reads (wanted_helper_of g) (λ h. gives (ranked_with x.0 r h))) x.1) (listed_is before few s)

    judged_rank : (at : ℕ) (s : Stream) → JudgedAt IsSyntactic calm at (weight_of g marks.Rank) rank_lawful.phrase.reader (λ e. 1 + e.size) (sum_rules g (at + 1)) (λ e x. typed_unit (number_of (names_of g.names)) e ≡ Ok x) s
    unfolding weight_of
    judged_rank at s = judged_after marks.Rank calm (sum_of g) (raw sums) (λ e. e.size) (sum_rules g) (λ e x. typed_unit (number_of (names_of g.names)) e ≡ Ok x) (short_after anything calm (raw_lawful sums) (wider (λ g h. refl))) at (λ m. judged_sum g (at + 1) m) s

    judged_weighted : (f : Formula) (at : ℕ) (s : Stream) → JudgedAt IsSyntactic no_dot at (then_reads (weight_of g marks.Rank) (λ r. then_reads (wanted_helper_of g) (λ h. gives (ranked_with f r h)))) weighted_lawful.phrase.reader (λ p. (1 + p.0.size) + (1 + transition_size p.1))
        (λ p. sum_rules g (at + 1) p.0 ++ helper_rules g (at + (1 + p.0.size) + 1) p.1) (λ p x. Unit {0}) s
    judged_weighted f at s =
        judged_pair calm no_dot (weight_of g marks.Rank) rank_lawful.phrase.reader (λ e. 1 + e.size) (λ at e. sum_rules g (at + 1) e) (λ e x. typed_unit (number_of (names_of g.names)) e ≡ Ok x)
        (λ r. then_reads (wanted_helper_of g) (λ h. gives (ranked_with f r h))) helper_lawful.phrase.reader (λ h. 1 + transition_size h) (λ at h. helper_rules g (at + 1) h) (λ p x. Unit {0})
        (short_pair calm (among (marks.Helper ∷ [])) no_dot helper_calm helper_lawful (moves refl (syntax 0) refl)) at s (judged_rank at s) (λ b r made at2 m. judged_wanted (ranked_with f r) at2 m)

    pub judged_ranked : (at : ℕ) (s : Stream) → JudgedAt IsSyntactic no_dot at (ranked_of g before) ranked_lawful.phrase.reader ranked_size (ranked_rules g at) (λ r x. Unit {0}) s
    judged_ranked at s =
        judged_as IsSyntactic no_dot at ranks ranked_lawful.phrase.reader ranked_size (ranked_rules g at) (λ r x. Unit {0}) (ranked_of g before) ranked_lawful.phrase.reader s (λ after h. ranked_is after) (λ after h. refl)
        (judged_map IsSyntactic no_dot at ranks (pairs (raw forms) weighted_lawful.phrase.reader) (λ p. p.0.size + ((1 + p.1.0.size) + (1 + transition_size p.1.1)))
        (λ p. form_rules g at p.0 ++ (sum_rules g (at + p.0.size + 1) p.1.0 ++ helper_rules g (at + p.0.size + (1 + p.1.0.size) + 1) p.1.1)) (λ p x. Unit {0}) the_ranked ranked_size (ranked_rules g at) (λ r x. Unit {0}) (λ p. omega arith) (λ p. refl) (λ p x m. tt) s
        (judged_pair calm no_dot (formula_of g) (raw forms) (λ u. u.size) (form_rules g) (λ u f. typed_unit (truth_of (names_of g.names)) u ≡ Ok f) (λ f. then_reads (weight_of g marks.Rank) (λ r. then_reads (wanted_helper_of g) (λ h. gives (ranked_with f r h)))) weighted_lawful.phrase.reader
        (λ p. (1 + p.0.size) + (1 + transition_size p.1)) (λ at p. sum_rules g (at + 1) p.0 ++ helper_rules g (at + (1 + p.0.size) + 1) p.1) (λ p x. Unit {0})
        (short_pair calm (among (marks.Rank ∷ [])) no_dot rank_calm weighted_lawful (moves refl (syntax 0) refl)) at s (judged_form g at s) (λ b f made at2 m. judged_weighted f at2 m)))

    rankeds : StopsAtFirst (IsRawRanked Forms Sums) (ranked_rules g 0) (ranked_of g before)
    rankeds = stops_at_first anything no_dot refl ranked_lawful (ranked_rules g 0) (ranked_of g before) ranked_size (λ r x. Unit {0}) (judged_ranked 0)

pub helped_first_fault : HelpedFirstFault
helped_first_fault g before few = helpeds g before few

pub ranked_first_fault : RankedFirstFault
ranked_first_fault g before few = rankeds g before few
