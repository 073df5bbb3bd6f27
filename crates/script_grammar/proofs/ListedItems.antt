-- Items that begin with a formula, behind any number of others, and lists of them in brackets.
use Rattle.std.proofs.Common.{◌≡◌, ℕ, ◌+◌, Bool, true, false, cond, List, [], ◌∷◌, ◌++◌, Option, Ok, Err, refl, sym, ap, subst, ◌∙◌, arith, append-nil}
use Rattle.std.specs.Prelude.{nat_lt}
use Rattle.st_tokens.specs.Stream.{Stream}
use Rattle.st_reading.specs.declared.mark.Mark.TheVariants as marks
use Rattle.st_reading.specs.declared.sign.Sign.{Sign}
use Rattle.st_reading.specs.declared.sign.Sign.TheVariants as signs
use Rattle.st_reading.specs.Mark.{number}
use Rattle.st_reading.specs.Reading.{syntax, is_name, gives, then_reads}
use Rattle.st_reading.specs.Breaches.{Breach, Reader}
use Rattle.st_reading.specs.BrokenRules.{Broken}
use Rattle.st_reading.specs.Steady.{Within, Wide, moves, wider, anything}
use Rattle.st_reading.proofs.Tokens.{among}
use Rattle.st_reading.proofs.LawfulPhrases.{LawfulPhrase, optional_front, or_next}
use Rattle.st_linear.specs.Linear.{Linear}
use Rattle.st_form.specs.Formula.{Formula}
use Rattle.expression_parser.specs.Calm.{calm, calm_but, calm_but2}
use Rattle.expression_typer.specs.Naming.{names_of}
use Rattle.assertions.specs.Reading.{truth_of}
use Rattle.proof_script.specs.Listing.{Setting, bracketed, listed_formula_of}
use Rattle.proof_script.specs.Rules.{fair_of, helped_of, helper_of, ranked_of, wanted_helper_of, weight_of}
use Rattle.script_grammar.specs.RawScripts.{RawUnit, RawHelped, RawRanked, RawFair}
use Rattle.script_grammar.specs.Sizes.{bracketed_size, optional_size, transition_size, helped_size, ranked_size, fair_size}
use Rattle.script_grammar.specs.Grammar.{InBrackets, IsRawFair, IsRawHelped, IsRawRanked}
use Rattle.script_grammar.specs.Breaking.{listed_rules, one_too_many_rules}
use Rattle.script_grammar.specs.Rules.{fair_rules, helped_rules, ranked_rules}
use Rattle.script_grammar.specs.Theorems.{Forms, Sums}
use Rattle.script_grammar.specs.FirstFaults.{IsSyntactic, StopsAtFirst, ChainsFirstFault, RankingsFirstFault, FairListsFirstFault}
use Rattle.script_grammar.proofs.RawReferences.{no_dot, reference_lawful}
use Rattle.script_grammar.proofs.RawUnits.{raw, raw_lawful}
use Rattle.script_grammar.proofs.UnitLaws.{forms}
use Rattle.script_grammar.proofs.ListedForms.{too_many, judged_many}
use Rattle.script_grammar.proofs.JudgedPairs.{pairs}
use Rattle.script_grammar.proofs.JudgedItems.{helped_lawful, helped_with, helper_calm, helper_lawful, judged_helped, judged_ranked, rank_calm, ranked_lawful, ranked_with, the_helped, the_ranked, weighted_lawful}
use Rattle.script_grammar.proofs.JudgedClaims.{either_calm, fair_calm, fair_clear, fair_lawful, fair_next, fair_quiet, fair_undotted, fair_with, helper_calm_so, helper_option, judged_fair, the_fair}
use Rattle.script_grammar.proofs.Judges.{Judges, Whatever, pair_so, seen_so, as_so}
use Rattle.script_grammar.proofs.JudgedBrackets.{brackets_lawful, brackets_so}
use Rattle.script_grammar.proofs.PartLaws.{stops_at_first}

-- what may follow an item in brackets
pub undotted_between : no_dot (signs.Marked marks.Semicolon) ≡ true
unfolding number
undotted_between = refl

pub undotted_closes : no_dot (signs.Marked marks.CloseBlock) ≡ true
unfolding number
undotted_closes = refl

pub fair_between : fair_next (signs.Marked marks.Semicolon) ≡ true
unfolding number calm_but2 calm_but calm
fair_between = refl

pub fair_closes : fair_next (signs.Marked marks.CloseBlock) ≡ true
unfolding number calm_but2 calm_but calm
fair_closes = refl

-- behind 64 others the formula is one too many, and nothing more is judged
module _ (g : Setting) (before : ℕ) (over : nat_lt before 64 ≡ false) {A B R : Type 0} {front2 next : Sign → Bool} (meets : Within front2 calm) (q : LawfulPhrase Breach B front2 next) (fits : Wide front2 next next q.phrase.reader) (count : B → ℕ) (k : Formula → Reader A) (f : RawUnit × B → R) (form : R → RawUnit) (is_form : (p : RawUnit × B) → form (f p) ≡ p.0) (size : R → ℕ)
    (is_size : (p : RawUnit × B) → size (f p) ≡ p.0.size + count p.1) where
  never : (b : RawUnit) (a : Formula) → too_many b ≡ Ok a → ⊥
  never b a h = absurd cc

  pub over_so : Judges next (then_reads (listed_formula_of g before) k) (then_reads (pairs (raw forms) q.phrase.reader) (λ p. gives (f p))) size (λ at x. one_too_many_rules at (form x)) Whatever
  over_so =
      seen_so f size (λ at x. one_too_many_rules at (form x)) Whatever is_size (λ at p. ap (λ u. one_too_many_rules at u) (is_form p) ∙ sym (append-nil (one_too_many_rules at p.0))) (λ p x m. tt)
      (pair_so {count2 = count} {rules2 = λ b at c. []} {makes = Whatever} meets q fits (record { judged = λ at s. judged_many g before over at s }) (λ b a m. absurd (never b a m)))

-- by whether there are fewer
pub by_count : {A R : Type 0} (next : Sign → Bool) (before : ℕ) (r : Reader A) (plain : Reader R) (size : R → ℕ) (form : R → RawUnit) (rules : ℕ → R → List (Broken Breach)) → (nat_lt before 64 ≡ true → Judges next r plain size rules Whatever) → (nat_lt before 64 ≡ false → Judges next r plain size (λ at x. one_too_many_rules at (form x)) Whatever)
    → Judges next r plain size (λ at x. cond (nat_lt before 64) (rules at x) (one_too_many_rules at (form x))) Whatever
by_count next before r plain size form rules few over = at_test (nat_lt before 64) refl
  where
    at_test : (b : Bool) → nat_lt before 64 ≡ b → Judges next r plain size (λ at x. cond (nat_lt before 64) (rules at x) (one_too_many_rules at (form x))) Whatever
    at_test true e = subst (λ c. Judges next r plain size (λ at x. cond c (rules at x) (one_too_many_rules at (form x))) Whatever) (sym e) (few e)
    at_test false e = subst (λ c. Judges next r plain size (λ at x. cond c (rules at x) (one_too_many_rules at (form x))) Whatever) (sym e) (over e)

module _ (g : Setting) where
  -- HELPED
  abbrev helped_rest : Formula → Reader (Formula × ℕ)
  helped_rest f = then_reads (wanted_helper_of g) (λ h. gives (helped_with f h))

  helped_reads : (before : ℕ) (s : Stream) → helped_of g before s ≡ then_reads (listed_formula_of g before) helped_rest s
  unfolding helped_of
  helped_reads before s = refl

  pub listed_helped : (before : ℕ) → Judges no_dot (helped_of g before) helped_lawful.phrase.reader helped_size (λ at x. cond (nat_lt before 64) (helped_rules g at x) (one_too_many_rules at x.form)) Whatever
  listed_helped before =
      by_count no_dot before (helped_of g before) helped_lawful.phrase.reader helped_size (λ x. x.form) (helped_rules g) (λ few. record { judged = λ at s. judged_helped g before few at s })
      (λ over. as_so (helped_of g before) helped_lawful.phrase.reader (helped_reads before) (λ s. refl)
      (over_so g before over helper_calm helper_lawful (moves refl (syntax 0) refl) (λ h. 1 + transition_size h) helped_rest the_helped (λ x. x.form) (λ p. refl) helped_size (λ p. refl)))

  pub chains_so : Judges anything (bracketed (helped_of g)) (brackets_lawful anything no_dot undotted_between undotted_closes refl helped_lawful (wider (λ g h. refl))).phrase.reader (bracketed_size helped_size) (listed_rules (λ x. x.form) helped_size (helped_rules g) 0) Whatever
  chains_so = brackets_so anything no_dot undotted_between undotted_closes refl helped_lawful (wider (λ g h. refl)) (λ x. x.form) helped_size (helped_rules g) (helped_of g) listed_helped

  chains : StopsAtFirst (InBrackets (IsRawHelped Forms Sums)) (listed_rules (λ x. x.form) helped_size (helped_rules g) 0 0) (bracketed (helped_of g))
  chains = stops_at_first (among (marks.OpenBlock ∷ [])) anything refl (brackets_lawful anything no_dot undotted_between undotted_closes refl helped_lawful (wider (λ g h. refl))) (listed_rules (λ x. x.form) helped_size (helped_rules g) 0 0) (bracketed (helped_of g)) (bracketed_size helped_size) Whatever
      (chains_so.judged 0)

  -- RANKED
  abbrev ranked_rest : Formula → Reader (Formula × Linear × ℕ)
  ranked_rest f = then_reads (weight_of g marks.Rank) (λ r. then_reads (wanted_helper_of g) (λ h. gives (ranked_with f r h)))

  ranked_reads : (before : ℕ) (s : Stream) → ranked_of g before s ≡ then_reads (listed_formula_of g before) ranked_rest s
  unfolding ranked_of
  ranked_reads before s = refl

  pub listed_ranked : (before : ℕ) → Judges no_dot (ranked_of g before) ranked_lawful.phrase.reader ranked_size (λ at x. cond (nat_lt before 64) (ranked_rules g at x) (one_too_many_rules at x.form)) Whatever
  listed_ranked before =
      by_count no_dot before (ranked_of g before) ranked_lawful.phrase.reader ranked_size (λ x. x.form) (ranked_rules g) (λ few. record { judged = λ at s. judged_ranked g before few at s })
      (λ over. as_so (ranked_of g before) ranked_lawful.phrase.reader (ranked_reads before) (λ s. refl)
      (over_so g before over rank_calm weighted_lawful (moves refl (syntax 0) refl) (λ w. (1 + w.0.size) + (1 + transition_size w.1)) ranked_rest the_ranked (λ x. x.form) (λ p. refl) ranked_size (λ p. omega arith)))

  pub rankings_so : Judges anything (bracketed (ranked_of g)) (brackets_lawful anything no_dot undotted_between undotted_closes refl ranked_lawful (wider (λ g h. refl))).phrase.reader (bracketed_size ranked_size) (listed_rules (λ x. x.form) ranked_size (ranked_rules g) 0) Whatever
  rankings_so = brackets_so anything no_dot undotted_between undotted_closes refl ranked_lawful (wider (λ g h. refl)) (λ x. x.form) ranked_size (ranked_rules g) (ranked_of g) listed_ranked

  rankings : StopsAtFirst (InBrackets (IsRawRanked Forms Sums)) (listed_rules (λ x. x.form) ranked_size (ranked_rules g) 0 0) (bracketed (ranked_of g))
  rankings = stops_at_first (among (marks.OpenBlock ∷ [])) anything refl (brackets_lawful anything no_dot undotted_between undotted_closes refl ranked_lawful (wider (λ g h. refl))) (listed_rules (λ x. x.form) ranked_size (ranked_rules g) 0 0) (bracketed (ranked_of g)) (bracketed_size ranked_size) Whatever
      (rankings_so.judged 0)

  -- FAIR
  abbrev fair_rest : Formula → Reader (Formula × Option ℕ)
  fair_rest f = then_reads (helper_of g) (λ h. gives (fair_with f h))

  fair_reads : (before : ℕ) (s : Stream) → fair_of g before s ≡ then_reads (listed_formula_of g before) fair_rest s
  unfolding fair_of
  fair_reads before s = refl

  pub listed_fair : (before : ℕ) → Judges fair_next (fair_of g before) fair_lawful.phrase.reader fair_size (λ at x. cond (nat_lt before 64) (fair_rules g at x) (one_too_many_rules at x.form)) Whatever
  listed_fair before =
      by_count fair_next before (fair_of g before) fair_lawful.phrase.reader fair_size (λ x. x.form) (fair_rules g) (λ few. record { judged = λ at s. judged_fair g before few at s })
      (λ over. as_so (fair_of g before) fair_lawful.phrase.reader (fair_reads before) (λ s. refl)
      (over_so g before over (either_calm marks.Helper fair_next helper_calm_so fair_calm) helper_option (wider (or_next marks.Helper is_name no_dot fair_next fair_clear fair_undotted reference_lawful fair_quiet)) (optional_size transition_size) fair_rest the_fair (λ x. x.form) (λ p. refl) fair_size (λ p. refl)))

  pub fair_lists_so : Judges anything (bracketed (fair_of g)) (brackets_lawful anything fair_next fair_between fair_closes fair_quiet fair_lawful (wider (λ g h. refl))).phrase.reader (bracketed_size fair_size) (listed_rules (λ x. x.form) fair_size (fair_rules g) 0) Whatever
  fair_lists_so = brackets_so anything fair_next fair_between fair_closes fair_quiet fair_lawful (wider (λ g h. refl)) (λ x. x.form) fair_size (fair_rules g) (fair_of g) listed_fair

  fair_lists : StopsAtFirst (InBrackets (IsRawFair Forms Sums)) (listed_rules (λ x. x.form) fair_size (fair_rules g) 0 0) (bracketed (fair_of g))
  fair_lists = stops_at_first (among (marks.OpenBlock ∷ [])) anything refl (brackets_lawful anything fair_next fair_between fair_closes fair_quiet fair_lawful (wider (λ g h. refl))) (listed_rules (λ x. x.form) fair_size (fair_rules g) 0 0) (bracketed (fair_of g)) (bracketed_size fair_size) Whatever
      (fair_lists_so.judged 0)

pub chains_first_fault : ChainsFirstFault
chains_first_fault g = chains g

pub rankings_first_fault : RankingsFirstFault
rankings_first_fault g = rankings g

pub fair_lists_first_fault : FairListsFirstFault
fair_lists_first_fault g = fair_lists g
