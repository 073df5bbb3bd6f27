-- Rules of responses, by the token that says which: read and not judged.
use Rattle.std.proofs.Common.{◌≡◌, Bool, List, [], ◌∷◌, ◌++◌, Some, Err, refl}
use Rattle.std.specs.Prelude.{codes, ◌||◌}
use Rattle.st_tokens.specs.Stream.{Lexeme, ends, IsSpelled}
use Rattle.st_reading.specs.declared.mark.Mark.TheVariants as marks
use Rattle.st_reading.specs.declared.sign.Sign.{Sign}
use Rattle.st_reading.specs.Mark.{number}
use Rattle.st_reading.specs.Sign.{sign_of, is, declaring_word, basic_word, compound_word, step_word, rule_word, drawing_word}
use Rattle.st_reading.specs.Reading.{syntax, is_name}
use Rattle.st_reading.specs.Breaches.{Breach}
use Rattle.st_reading.specs.Spelling.{Is, behind_it}
use Rattle.st_reading.specs.Steady.{Short, Within, moves, wider, anything}
use Rattle.st_reading.proofs.Tokens.{among, but, marks_within}
use Rattle.st_reading.proofs.Choices.{behind_mark, without_mark, chosen}
use Rattle.st_reading.proofs.Phrases.{made}
use Rattle.st_reading.proofs.Lawful.{short_of}
use Rattle.st_reading.proofs.LawfulPhrases.{LawfulPhrase, as_lawful, choice_lawful, either_lawful, map_lawful, within_lawful}
use Rattle.temporal_goals.specs.declared.diagrams.DiagramKind.{DiagramKind}
use Rattle.temporal_goals.specs.declared.diagrams.DiagramKind.TheVariants as kinds
use Rattle.proof_script.specs.Rules.{kind_in, manner_in}
use Rattle.proof_script.specs.declared.rules.Manner.{Manner}
use Rattle.proof_script.specs.declared.rules.Manner.TheVariants as manners
use Rattle.script_grammar.proofs.ChoosingTokens.{kind_found, kind_is, manner_found, manner_is}
use Rattle.script_grammar.specs.RawScripts.{RawDrawing, RawTransition, RawHelped, RawRanked, RawFair, RawRule, raw_just, raw_chain, raw_ranked, raw_fair, raw_net, raw_nested, raw_diagram}
use Rattle.script_grammar.specs.Grammar.{IsRawRule, spells_just, spells_chain, spells_ranks, spells_compassion, spells_net, spells_nested_net, spells_chain_diagram, spells_rank_diagram}
use Rattle.script_grammar.specs.Theorems.{Forms, Sums}
use Rattle.script_grammar.proofs.RawReferences.{no_dot, reference_lawful}
use Rattle.script_grammar.proofs.JudgedPairs.{both_of, made_lawful, pair_lawful}
use Rattle.script_grammar.proofs.JudgedItems.{keyword, helped_lawful, rank_token, rank_spelled, rank_is, ranked_lawful}
use Rattle.script_grammar.proofs.JudgedClaims.{fair_lawful, fair_next, fair_quiet}
use Rattle.script_grammar.proofs.JudgedBrackets.{brackets_lawful}
use Rattle.script_grammar.proofs.ListedItems.{fair_between, fair_closes, undotted_between, undotted_closes}
use Rattle.script_grammar.proofs.NetMarks.{group_token, group_spelled, group_is}
use Rattle.script_grammar.proofs.NetNodes.{nodes_lawful}
use Rattle.script_grammar.proofs.NestedNodes.{nested_lawful}
use Rattle.script_grammar.proofs.DrawingLaws.{wait_drawing, chain_drawing, rank_drawing}

-- MARKS
abbrev pub bracket : Sign → Bool
bracket = among (marks.OpenBlock ∷ [])

pub bracket_undotted : Within bracket no_dot
unfolding number
bracket_undotted = marks_within no_dot (marks.OpenBlock ∷ []) refl

pub bracket_no_group : Within bracket (but marks.Group)
unfolding number
bracket_no_group = marks_within (but marks.Group) (marks.OpenBlock ∷ []) refl

abbrev pub just_token : Lexeme
just_token = keyword (codes "just")

pub just_spelled : IsSpelled just_token
just_spelled = refl

pub just_is : Is marks.Just just_token
unfolding number declaring_word basic_word compound_word step_word rule_word drawing_word
just_is = refl

pub says_just : manner_in (sign_of just_token) ≡ Some manners.Just
says_just = manner_found (sign_of just_token) manners.Just just_is

pub says_rank : kind_in (sign_of rank_token) ≡ Some kinds.Rank
says_rank = kind_found (sign_of rank_token) kinds.Rank rank_is

-- LISTS
abbrev pub chain_lawful : LawfulPhrase Breach (List RawHelped) bracket anything
chain_lawful = brackets_lawful anything no_dot undotted_between undotted_closes refl helped_lawful (wider (λ g h. refl))

abbrev pub ranking_lawful : LawfulPhrase Breach (List RawRanked) bracket anything
ranking_lawful = brackets_lawful anything no_dot undotted_between undotted_closes refl ranked_lawful (wider (λ g h. refl))

abbrev pub fair_list_lawful : LawfulPhrase Breach (List RawFair) bracket anything
fair_list_lawful = brackets_lawful anything fair_next fair_between fair_closes fair_quiet fair_lawful (wider (λ g h. refl))

abbrev pub compassion_lawful : LawfulPhrase Breach (RawTransition × List RawFair) is_name anything
compassion_lawful = pair_lawful is_name no_dot bracket anything bracket_undotted refl reference_lawful (moves refl (syntax 0) refl) fair_list_lawful refl

abbrev pub the_compassion : RawTransition × List RawFair → RawRule
the_compassion p = raw_fair p.0 p.1

-- NETS
abbrev pub plain_net : LawfulPhrase Breach RawRule bracket anything
plain_net = made_lawful bracket anything raw_net nodes_lawful (moves refl (syntax 0) refl)

abbrev pub nested_net : LawfulPhrase Breach RawRule bracket anything
nested_net = made_lawful bracket anything raw_nested nested_lawful (moves refl (syntax 0) refl)

abbrev pub net_front : Sign → Bool
net_front g = is g marks.Group || bracket g

abbrev pub a_net : LawfulPhrase Breach RawRule net_front anything
a_net = either_lawful marks.Group group_token group_spelled group_is bracket bracket anything bracket_no_group refl nested_net plain_net (moves refl (syntax 0) refl) (syntax 0) refl

-- DRAWINGS
abbrev pub drawing_of : DiagramKind → LawfulPhrase Breach RawDrawing (among (marks.OpenBrace ∷ [])) anything
drawing_of kinds.Wait = wait_drawing
drawing_of kinds.Chain = chain_drawing
drawing_of kinds.Rank = rank_drawing

pub drawing_needs : (kind : DiagramKind) → (drawing_of kind).phrase.reader (ends 0) ≡ Err (syntax 0)
drawing_needs kinds.Wait = refl
drawing_needs kinds.Chain = refl
drawing_needs kinds.Rank = refl

abbrev pub kind_drawing : DiagramKind → LawfulPhrase Breach (DiagramKind × RawDrawing) anything anything
kind_drawing kind = within_lawful (among (marks.OpenBrace ∷ [])) anything anything anything (λ g h. refl) (λ g h. refl) (made_lawful (among (marks.OpenBrace ∷ [])) anything (both_of kind) (drawing_of kind) (moves refl (syntax 0) (drawing_needs kind)))

abbrev pub drawn_lawful : LawfulPhrase Breach (DiagramKind × RawDrawing) anything anything
drawn_lawful =
    choice_lawful kind_in refl anything (λ k. (kind_drawing k).phrase.reader) (λ k. (kind_drawing k).phrase.language) (λ k. (kind_drawing k).phrase.sound) (λ k. (kind_drawing k).phrase.complete) rank_token rank_spelled kinds.Rank says_rank (λ k. (kind_drawing k).lawful)

pub drawn_short : Short {A = DiagramKind} anything anything (λ k. (kind_drawing k).phrase.reader)
drawn_short = short_of anything anything (λ k. (kind_drawing k).phrase.reader) (λ k. wider (λ g h. refl)) (λ (i : Unit {0}) k. (kind_drawing k).phrase.reader) (λ k. (kind_drawing k).lawful) tt

abbrev pub the_diagram : DiagramKind × RawDrawing → RawRule
the_diagram p = raw_diagram p.0 p.1

-- BY THE FIRST TOKEN
-- what takes any token behind it
abbrev pub loosely : {front : Sign → Bool} → LawfulPhrase Breach RawRule front anything → LawfulPhrase Breach RawRule anything no_dot
loosely {front} p = within_lawful front anything anything no_dot (λ g h. refl) (λ g h. refl) p

abbrev pub rule_at : Manner → LawfulPhrase Breach RawRule anything no_dot
rule_at manners.Just = map_lawful anything no_dot (λ g h. refl) raw_just helped_lawful
rule_at manners.Chain = loosely (made_lawful bracket anything raw_chain chain_lawful (moves refl (syntax 0) refl))
rule_at manners.Ranked = loosely (made_lawful bracket anything raw_ranked ranking_lawful (moves refl (syntax 0) refl))
rule_at manners.Fair = loosely (made_lawful is_name anything the_compassion compassion_lawful (moves refl (syntax 0) refl))
rule_at manners.Net = loosely a_net
rule_at manners.Diagram = loosely (map_lawful anything anything (λ g h. refl) the_diagram drawn_lawful)

abbrev pub rule_parts : LawfulPhrase Breach RawRule anything no_dot
rule_parts = choice_lawful manner_in refl no_dot (λ m. (rule_at m).phrase.reader) (λ m. (rule_at m).phrase.language) (λ m. (rule_at m).phrase.sound) (λ m. (rule_at m).phrase.complete) just_token just_spelled manners.Just says_just (λ m. (rule_at m).lawful)

pub rule_short : Short {A = Manner} anything no_dot (λ m. (rule_at m).phrase.reader)
rule_short = short_of anything no_dot (λ m. (rule_at m).phrase.reader) (λ m. wider (λ g h. refl)) (λ (i : Unit {0}) m. (rule_at m).phrase.reader) (λ m. (rule_at m).lawful) tt

pub to_rule : (ts : List Lexeme) (r : RawRule) → rule_parts.phrase.language ts r → IsRawRule Forms Sums ts r
to_rule ts r (chosen manners.Just t us y e (made vs x l)) = spells_just t us x (manner_is (sign_of t) manners.Just e) l
to_rule ts r (chosen manners.Chain t us y e (made vs x l)) = spells_chain t us x (manner_is (sign_of t) manners.Chain e) l
to_rule ts r (chosen manners.Ranked t us y e (made vs x l)) = spells_ranks t us x (manner_is (sign_of t) manners.Ranked e) l
to_rule ts r (chosen manners.Fair t us y e (made vs x (behind_it a b c z lc (made ws xs l)))) = spells_compassion t a ws c xs (manner_is (sign_of t) manners.Fair e) lc l
to_rule ts r (chosen manners.Net t us y e (behind_mark u vs x f (made ws ns l))) = spells_nested_net t u vs ns (manner_is (sign_of t) manners.Net e) f l
to_rule ts r (chosen manners.Net t us y e (without_mark vs x (made ws ns l))) = spells_net t vs ns (manner_is (sign_of t) manners.Net e) l
to_rule ts r (chosen manners.Diagram t us y e (made vs x (chosen kinds.Wait u ws z f l))) = absurd (kind_is (sign_of u) kinds.Wait f)
to_rule ts r (chosen manners.Diagram t us y e (made vs x (chosen kinds.Chain u ws z f (made k d l)))) = spells_chain_diagram t u ws d (manner_is (sign_of t) manners.Diagram e) (kind_is (sign_of u) kinds.Chain f) l
to_rule ts r (chosen manners.Diagram t us y e (made vs x (chosen kinds.Rank u ws z f (made k d l)))) = spells_rank_diagram t u ws d (manner_is (sign_of t) manners.Diagram e) (kind_is (sign_of u) kinds.Rank f) l

pub from_rule : (ts : List Lexeme) (r : RawRule) → IsRawRule Forms Sums ts r → rule_parts.phrase.language ts r
from_rule ts r (spells_just t us x e l) = chosen manners.Just t us (raw_just x) (manner_found (sign_of t) manners.Just e) (made us x l)
from_rule ts r (spells_chain t us xs e l) = chosen manners.Chain t us (raw_chain xs) (manner_found (sign_of t) manners.Chain e) (made us xs l)
from_rule ts r (spells_ranks t us xs e l) = chosen manners.Ranked t us (raw_ranked xs) (manner_found (sign_of t) manners.Ranked e) (made us xs l)
from_rule ts r (spells_compassion t a b c xs e lc l) = chosen manners.Fair t (a ++ b) (raw_fair c xs) (manner_found (sign_of t) manners.Fair e) (made (a ++ b) (both_of c xs) (behind_it a b c (both_of c xs) lc (made b xs l)))
from_rule ts r (spells_net t us ns e l) = chosen manners.Net t us (raw_net ns) (manner_found (sign_of t) manners.Net e) (without_mark us (raw_net ns) (made us ns l))
from_rule ts r (spells_nested_net t u us ns e f l) = chosen manners.Net t (u ∷ us) (raw_nested ns) (manner_found (sign_of t) manners.Net e) (behind_mark u us (raw_nested ns) f (made us ns l))
from_rule ts r (spells_chain_diagram t u us d e f l) = chosen manners.Diagram t (u ∷ us) (raw_diagram kinds.Chain d) (manner_found (sign_of t) manners.Diagram e) (made (u ∷ us) (both_of kinds.Chain d) (chosen kinds.Chain u us (both_of kinds.Chain d) (kind_found (sign_of u) kinds.Chain f) (made us d l)))
from_rule ts r (spells_rank_diagram t u us d e f l) = chosen manners.Diagram t (u ∷ us) (raw_diagram kinds.Rank d) (manner_found (sign_of t) manners.Diagram e) (made (u ∷ us) (both_of kinds.Rank d) (chosen kinds.Rank u us (both_of kinds.Rank d) (kind_found (sign_of u) kinds.Rank f) (made us d l)))

abbrev pub rule_lawful : LawfulPhrase Breach RawRule anything no_dot
rule_lawful = as_lawful anything no_dot rule_parts (IsRawRule Forms Sums) to_rule from_rule
