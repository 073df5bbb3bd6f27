-- What nodes of nets are made of: integer expressions behind marks, and what may follow a node.
use Rattle.std.proofs.Common.{◌≡◌, ◌+◌, Bool, true, false, [], ◌∷◌, Ok, refl}
use Rattle.std.specs.Prelude.{codes, ◌||◌}
use Rattle.st_tokens.specs.Stream.{Lexeme, IsSpelled}
use Rattle.st_reading.specs.declared.mark.Mark.{Mark}
use Rattle.st_reading.specs.declared.mark.Mark.TheVariants as marks
use Rattle.st_reading.specs.declared.sign.Sign.{Sign}
use Rattle.st_reading.specs.declared.sign.Sign.TheVariants as signs
use Rattle.st_reading.specs.Mark.{number}
use Rattle.st_reading.specs.Sign.{is, declaring_word, basic_word, compound_word, step_word, rule_word, drawing_word}
use Rattle.st_reading.specs.Reading.{syntax, is_name, expected, then_reads}
use Rattle.st_reading.specs.Rule as rules
use Rattle.st_reading.specs.Breaches.{Breach}
use Rattle.st_reading.specs.Spelling.{Is}
use Rattle.st_reading.specs.Steady.{Within, moves, wider, anything}
use Rattle.st_reading.proofs.Tokens.{among, at_mark, but, marks_within}
use Rattle.st_reading.proofs.LawfulPhrases.{LawfulPhrase}
use Rattle.expression_parser.specs.Calm.{calm}
use Rattle.expression_typer.specs.Naming.{names_of}
use Rattle.assertions.specs.Reading.{number_of}
use Rattle.ranked_net.specs.Making.{is_uncompassionate}
use Rattle.proof_script.specs.Listing.{Setting, compassionate_of, sum_of}
use Rattle.proof_script.specs.Rules.{weight_of}
use Rattle.script_grammar.specs.RawScripts.{RawUnit, RawTransition}
use Rattle.script_grammar.specs.Sizes.{transition_size}
use Rattle.script_grammar.specs.Rules.{group_rules, sum_rules}
use Rattle.script_grammar.proofs.RawReferences.{no_dot, raw_reference, reference_lawful}
use Rattle.script_grammar.proofs.References.{judged_group, owed_verdict}
use Rattle.script_grammar.proofs.RawUnits.{raw, raw_lawful}
use Rattle.script_grammar.proofs.UnitLaws.{sums, judged_sum, typed_unit}
use Rattle.script_grammar.proofs.JudgedPairs.{after_lawful}
use Rattle.script_grammar.proofs.JudgedItems.{keyword}
use Rattle.script_grammar.proofs.Judges.{Judges, Whatever, after_so, weaker_so}
use Rattle.script_grammar.proofs.Citations.{is_nothing}

-- SETS OF TOKENS
-- the mark, or what stands there instead
pub marked_or_within : (m : Mark) (next set : Sign → Bool) → set (signs.Marked m) ≡ true → Within next set → (g : Sign) → (is g m || next g) ≡ true → set g ≡ true
marked_or_within m next set one others g h = at_test (is g m) refl h
  where
    at_test : (b : Bool) → is g m ≡ b → (b || next g) ≡ true → set g ≡ true
    at_test true e k = at_mark set true m one g e
    at_test false e k = others g k

pub nothing_within : (set : Sign → Bool) → set signs.Nothing ≡ true → Within is_nothing set
nothing_within set nothing signs.Nothing h = nothing
nothing_within set nothing signs.Name h = absurd cc
nothing_within set nothing signs.Other h = absurd cc
nothing_within set nothing (signs.Numeral n) h = absurd cc
nothing_within set nothing (signs.Marked m) h = absurd cc

-- an item's end, or that of the text
abbrev pub item_end : Sign → Bool
item_end g = is g marks.Semicolon || (is g marks.CloseBlock || is_nothing g)

pub item_end_within : (set : Sign → Bool) → set (signs.Marked marks.Semicolon) ≡ true → set (signs.Marked marks.CloseBlock) ≡ true → set signs.Nothing ≡ true → Within item_end set
item_end_within set semicolon close nothing =
    marked_or_within marks.Semicolon (λ g. is g marks.CloseBlock || is_nothing g) set semicolon (marked_or_within marks.CloseBlock is_nothing set close (nothing_within set nothing))

pub end_not_helper : Within item_end (but marks.Helper)
unfolding number
end_not_helper = item_end_within (but marks.Helper) refl refl refl

pub end_not_group : Within item_end (but marks.Group)
unfolding number
end_not_group = item_end_within (but marks.Group) refl refl refl

pub end_undotted : Within item_end no_dot
unfolding number
end_undotted = item_end_within no_dot refl refl refl

pub end_calm : Within item_end calm
unfolding number calm
end_calm = item_end_within calm refl refl refl

pub end_between : item_end (signs.Marked marks.Semicolon) ≡ true
unfolding number
end_between = refl

pub end_closes : item_end (signs.Marked marks.CloseBlock) ≡ true
unfolding number
end_closes = refl

pub end_quiet : item_end signs.Nothing ≡ true
end_quiet = refl

-- MARKS
abbrev pub base_token : Lexeme
base_token = keyword (codes "base")

pub base_spelled : IsSpelled base_token
base_spelled = refl

pub base_is : Is marks.Base base_token
unfolding number declaring_word basic_word compound_word step_word rule_word drawing_word
base_is = refl

abbrev pub delay_token : Lexeme
delay_token = keyword (codes "delay")

pub delay_spelled : IsSpelled delay_token
delay_spelled = refl

pub delay_is : Is marks.Delay delay_token
unfolding number declaring_word basic_word compound_word step_word rule_word drawing_word
delay_is = refl

abbrev pub top_token : Lexeme
top_token = keyword (codes "top")

pub top_spelled : IsSpelled top_token
top_spelled = refl

pub top_is : Is marks.Top top_token
unfolding number declaring_word basic_word compound_word step_word rule_word drawing_word
top_is = refl

abbrev pub group_token : Lexeme
group_token = keyword (codes "group")

pub group_spelled : IsSpelled group_token
group_spelled = refl

pub group_is : Is marks.Group group_token
unfolding number declaring_word basic_word compound_word step_word rule_word drawing_word
group_is = refl

pub base_calm : Within (among (marks.Base ∷ [])) calm
unfolding number calm
base_calm = marks_within calm (marks.Base ∷ []) refl

pub delay_calm : Within (among (marks.Delay ∷ [])) calm
unfolding number calm
delay_calm = marks_within calm (marks.Delay ∷ []) refl

pub top_calm : Within (among (marks.Top ∷ [])) calm
unfolding number calm
top_calm = marks_within calm (marks.Top ∷ []) refl

pub group_calm : Within (among (marks.Group ∷ [])) calm
unfolding number calm
group_calm = marks_within calm (marks.Group ∷ []) refl

-- an integer expression behind each
abbrev pub based : LawfulPhrase Breach RawUnit (among (marks.Base ∷ [])) calm
based = after_lawful marks.Base base_token base_spelled base_is anything calm (raw_lawful sums) (wider (λ g h. refl))

abbrev pub delayed : LawfulPhrase Breach RawUnit (among (marks.Delay ∷ [])) calm
delayed = after_lawful marks.Delay delay_token delay_spelled delay_is anything calm (raw_lawful sums) (wider (λ g h. refl))

abbrev pub topped : LawfulPhrase Breach RawUnit (among (marks.Top ∷ [])) calm
topped = after_lawful marks.Top top_token top_spelled top_is anything calm (raw_lawful sums) (wider (λ g h. refl))

-- "group" trans
abbrev pub grouped : LawfulPhrase Breach RawTransition (among (marks.Group ∷ [])) no_dot
grouped = after_lawful marks.Group group_token group_spelled group_is is_name no_dot reference_lawful (moves refl (syntax 0) refl)

-- JUDGED
module _ (g : Setting) where
  pub sum_so : Judges calm (sum_of g) (raw sums) (λ e. e.size) (sum_rules g) Whatever
  sum_so = weaker_so Whatever (λ e x m. tt) typed_so
    where
      typed_so : Judges calm (sum_of g) (raw sums) (λ e. e.size) (sum_rules g) (λ e x. typed_unit (number_of (names_of g.names)) e ≡ Ok x)
      typed_so = record { judged = λ at s. judged_sum g at s }

  pub weight_so : (mark : Mark) → Judges calm (weight_of g mark) (then_reads (expected mark) (λ m. raw sums)) (λ e. 1 + e.size) (λ at e. sum_rules g (at + 1) e) Whatever
  unfolding weight_of
  weight_so mark = after_so mark (raw_lawful sums) (wider (λ g h. refl)) sum_so

  pub compassionate_so : Judges no_dot (compassionate_of g) raw_reference transition_size (group_rules g) Whatever
  compassionate_so = weaker_so Whatever (λ t n m. tt) told_so
    where
      told_so : Judges no_dot (compassionate_of g) raw_reference transition_size (group_rules g) (λ t n. owed_verdict g (is_uncompassionate g.system) rules.NotCompassionate t.label t.part ≡ Ok n)
      told_so = record { judged = λ at s. judged_group g at s }
