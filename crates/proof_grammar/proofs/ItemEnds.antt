-- The tokens behind the parts of an item between "[" and "]".
use Rattle.std.proofs.Common.{Bool, [], false, refl, true, ◌||◌, ◌∷◌, ◌≡◌}
use Rattle.st_reading.specs.Mark.{number}
use Rattle.st_reading.specs.Sign.{is}
use Rattle.st_reading.specs.Steady.{Within}
use Rattle.st_reading.specs.declared.mark.Mark.{Mark}
use Rattle.st_reading.specs.declared.mark.Mark.TheVariants as marks
use Rattle.st_reading.specs.declared.sign.Sign.{Sign}
use Rattle.expression_parser.specs.Calm.{calm}
use Rattle.proof_script.specs.Rules.{ends_item}
use Rattle.proof_grammar.proofs.Counted.{item_end}
use Rattle.proof_grammar.proofs.Parts.{no_dot}
use Rattle.st_reading.proofs.Tokens.{among, but, marks_within}

abbrev pub helper_or_end : Sign → Bool
helper_or_end = among (marks.Helper ∷ marks.Semicolon ∷ marks.CloseBlock ∷ [])

abbrev pub group_or_end : Sign → Bool
group_or_end = among (marks.Group ∷ marks.Helper ∷ marks.Semicolon ∷ marks.CloseBlock ∷ [])

abbrev pub only_mark : Mark → Sign → Bool
only_mark m = among (m ∷ [])

pub end_undotted : Within item_end no_dot
unfolding number
end_undotted = marks_within no_dot (marks.Semicolon ∷ marks.CloseBlock ∷ []) refl

pub end_unhelped : Within item_end (but marks.Helper)
unfolding number
end_unhelped = marks_within (but marks.Helper) (marks.Semicolon ∷ marks.CloseBlock ∷ []) refl

pub helper_undotted : Within helper_or_end no_dot
unfolding number
helper_undotted = marks_within no_dot (marks.Helper ∷ marks.Semicolon ∷ marks.CloseBlock ∷ []) refl

pub helper_ungrouped : Within helper_or_end (but marks.Group)
unfolding number
helper_ungrouped = marks_within (but marks.Group) (marks.Helper ∷ marks.Semicolon ∷ marks.CloseBlock ∷ []) refl

pub helper_calm : Within helper_or_end calm
unfolding number calm
helper_calm = marks_within calm (marks.Helper ∷ marks.Semicolon ∷ marks.CloseBlock ∷ []) refl

pub group_calm : Within group_or_end calm
unfolding number calm
group_calm = marks_within calm (marks.Group ∷ marks.Helper ∷ marks.Semicolon ∷ marks.CloseBlock ∷ []) refl

pub before_helper : Within (only_mark marks.Helper) calm
unfolding number calm
before_helper = marks_within calm (marks.Helper ∷ []) refl

pub before_rank : Within (only_mark marks.Rank) calm
unfolding number calm
before_rank = marks_within calm (marks.Rank ∷ []) refl

pub before_base : Within (only_mark marks.Base) calm
unfolding number calm
before_base = marks_within calm (marks.Base ∷ []) refl

pub before_delay : Within (only_mark marks.Delay) calm
unfolding number calm
before_delay = marks_within calm (marks.Delay ∷ []) refl

pub before_top : Within (only_mark marks.Top) calm
unfolding number calm
before_top = marks_within calm (marks.Top ∷ []) refl

pub item_ends : (g : Sign) → item_end g ≡ true → ends_item g ≡ true
item_ends g h = by_two (is g marks.Semicolon) (is g marks.CloseBlock) h
  where
    by_two : (a b : Bool) → (a || (b || false)) ≡ true → (a || b) ≡ true
    by_two true b h = refl
    by_two false true h = refl
    by_two false false h = h
