-- The tokens behind the parts of a goal.
use Rattle.std.proofs.Common.{Bool, [], arith, false, length, nat_eq, not, refl, true, ℕ, ◌||◌, ◌∷◌, ◌≡◌, ◌≤◌}
use Rattle.std.proofs.lemmas.Bool.Decides.{nat_tests}
use Rattle.st_reading.specs.Mark.{number}
use Rattle.st_reading.specs.Sign.{is}
use Rattle.st_reading.specs.Steady.{Within}
use Rattle.st_reading.specs.declared.mark.Mark.TheVariants as marks
use Rattle.st_reading.specs.declared.sign.Sign.{Sign}
use Rattle.st_reading.specs.declared.sign.Sign.TheVariants as signs
use Rattle.st_form.specs.Formula.{Formula}
use Rattle.expression_parser.specs.Calm.{calm}
use Rattle.proof_script.specs.Steps.{ends_rule}
use Rattle.proof_grammar.proofs.ItemEnds.{only_mark}
use Rattle.proof_grammar.proofs.Rules.{ending}
use Rattle.st_reading.proofs.Tokens.{among, but, marks_within}

pub same_number : (m n : ℕ) → not (nat_eq m n) ≡ false → m ≡ n
same_number m n h = grind (arith, nat_tests)

pub not_other : (m n : ℕ) → m ≡ n → not (nat_eq m n) ≡ false
not_other m n h = grind (arith, nat_tests)

pub ending_calm : Within ending calm
unfolding number calm
ending_calm = marks_within calm (marks.Using ∷ marks.Semicolon ∷ []) refl

pub unlike_by : Within ending (but marks.By)
unfolding number
unlike_by = marks_within (but marks.By) (marks.Using ∷ marks.Semicolon ∷ []) refl

pub by_or_ending_calm : Within (among (marks.By ∷ marks.Using ∷ marks.Semicolon ∷ [])) calm
unfolding number calm
by_or_ending_calm = marks_within calm (marks.By ∷ marks.Using ∷ marks.Semicolon ∷ []) refl

pub before_unless : Within (only_mark marks.Unless) calm
unfolding number calm
before_unless = marks_within calm (marks.Unless ∷ []) refl

pub before_wait : Within (only_mark marks.Wait) calm
unfolding number calm
before_wait = marks_within calm (marks.Wait ∷ []) refl

pub before_by : Within (only_mark marks.By) calm
unfolding number calm
before_by = marks_within calm (marks.By ∷ []) refl

pub before_leads : Within (only_mark marks.Leads) calm
unfolding number calm
before_leads = marks_within calm (marks.Leads ∷ []) refl

pub before_within : Within (only_mark marks.Within) calm
unfolding number calm
before_within = marks_within calm (marks.Within ∷ []) refl

pub no_wait : Within (only_mark marks.By) (but marks.Wait)
unfolding number
no_wait = marks_within (but marks.Wait) (marks.By ∷ []) refl

pub wait_calm : calm (signs.Marked marks.Wait) ≡ true
unfolding number calm
wait_calm = refl

pub ending_no_comma : Within ending (but marks.Comma)
unfolding number
ending_no_comma = marks_within (but marks.Comma) (marks.Using ∷ marks.Semicolon ∷ []) refl

pub comma_calm : calm (signs.Marked marks.Comma) ≡ true
unfolding number calm
comma_calm = refl

pub two_few : (q r : Formula) → length (q ∷ r ∷ []) ≤ 64
two_few q r = omega arith

pub ends_so : (g : Sign) → ending g ≡ true → ends_rule g ≡ true
ends_so g h = by_two (is g marks.Using) (is g marks.Semicolon) h
  where
    by_two : (a b : Bool) → (a || (b || false)) ≡ true → (a || b) ≡ true
    by_two true b h = refl
    by_two false true h = refl
    by_two false false h = h
