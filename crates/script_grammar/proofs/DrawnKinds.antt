-- Nodes of each kind of drawing: in a wait diagram they have neither ranks nor helpers, in a chain diagram helpers, in a rank
-- diagram both.
use Rattle.std.proofs.Common.{◌≡◌, ℕ, ◌+◌, Bool, true, false, cond, List, [], ◌∷◌, ◌++◌, Option, Some, None, Ok, Err, refl, sym, ap, ◌∙◌}
use Rattle.std.specs.Prelude.{◌||◌}
use Rattle.st_tokens.specs.Stream.{Lexeme, Stream, ends, behind}
use Rattle.st_reading.specs.declared.mark.Mark.TheVariants as marks
use Rattle.st_reading.specs.declared.sign.Sign.{Sign}
use Rattle.st_reading.specs.declared.sign.Sign.TheVariants as signs
use Rattle.st_reading.specs.Mark.{number}
use Rattle.st_reading.specs.Sign.{is}
use Rattle.st_reading.specs.Reading.{Read, ◌>>=◌, syntax, ahead, is_name, expected, gives, then_reads}
use Rattle.st_reading.specs.Breaches.{Breach, Reader}
use Rattle.st_reading.specs.Phrases.{After, after_mark, left_out, put_in}
use Rattle.st_reading.specs.Steady.{Within, moves, wider, anything}
use Rattle.st_reading.proofs.Tokens.{among, at_mark}
use Rattle.st_reading.proofs.ListSoundness.{given}
use Rattle.st_reading.proofs.Phrases.{made}
use Rattle.st_reading.proofs.LawfulPhrases.{LawfulPhrase, value_lawful, optional_front, optional_lawful, or_next}
use Rattle.st_linear.specs.Linear.{Linear}
use Rattle.temporal_goals.specs.declared.diagrams.DiagramKind.{DiagramKind}
use Rattle.temporal_goals.specs.declared.diagrams.DiagramKind.TheVariants.{Wait, Chain, Rank}
use Rattle.expression_parser.specs.Calm.{calm}
use Rattle.expression_parser.proofs.FormulaTheorems.{quiet}
use Rattle.expression_typer.specs.Naming.{names_of}
use Rattle.assertions.specs.Reading.{number_of}
use Rattle.diagram_reader.specs.Drawing as drawings
use Rattle.proof_script.specs.Faults.{drawn}
use Rattle.proof_script.specs.Listing.{Setting, just_of, optional, sum_of}
use Rattle.script_grammar.specs.RawScripts.{RawUnit, RawTransition}
use Rattle.script_grammar.specs.Sizes.{optional_size, transition_size, unit_size}
use Rattle.script_grammar.specs.Drawings.{IsUnit, IsReference, IsRawHelper, IsRawRank, spells_no_rank, spells_rank, spells_no_helper, spells_helper}
use Rattle.script_grammar.specs.Breaking.{optional_rules}
use Rattle.script_grammar.specs.Rules.{helper_rules, sum_rules}
use Rattle.script_grammar.specs.Theorems.{Forms, Sums}
use Rattle.script_grammar.specs.FirstFaults.{drawing_over}
use Rattle.script_grammar.proofs.RawReferences.{no_dot, reference_lawful}
use Rattle.script_grammar.proofs.References.{judged_helper}
use Rattle.script_grammar.proofs.RawUnits.{raw, raw_lawful}
use Rattle.script_grammar.proofs.UnitLaws.{sums, judged_sum, typed_unit}
use Rattle.script_grammar.proofs.JudgedItems.{rank_calm, rank_lawful}
use Rattle.script_grammar.proofs.JudgedClaims.{helper_calm_so}
use Rattle.script_grammar.proofs.JudgedOptions.{SameThere}
use Rattle.script_grammar.proofs.JudgedPairs.{made_lawful}
use Rattle.script_grammar.proofs.Judges.{Judges, Whatever, made_so, seen_so, after_so, optional_so, value_so, regroup}
use Rattle.script_grammar.proofs.Citations.{step_end, end_quiet}
use Rattle.script_grammar.proofs.DrawnMarks.{end_calm, end_not_helper, end_undotted}
use Rattle.script_grammar.proofs.DrawnReaders.{drawn_then, drawn_expected, just_drawn, sum_drawn}

-- HELPERS
abbrev pub no_helper : LawfulPhrase Breach (Option RawTransition) step_end step_end
no_helper = value_lawful step_end None

abbrev pub helper_front : Sign → Bool
helper_front = optional_front marks.Helper is_name no_dot step_end end_not_helper end_undotted reference_lawful end_quiet

abbrev pub some_helper : LawfulPhrase Breach (Option RawTransition) helper_front step_end
some_helper = optional_lawful marks.Helper is_name no_dot step_end end_not_helper end_undotted reference_lawful end_quiet

pub helper_fits : Within step_end helper_front
helper_fits = or_next marks.Helper is_name no_dot step_end end_not_helper end_undotted reference_lawful end_quiet

pub helper_or_end : Within helper_front calm
helper_or_end g h = at_test (is g marks.Helper) refl h
  where
    at_test : (b : Bool) → is g marks.Helper ≡ b → (b || step_end g) ≡ true → calm g ≡ true
    at_test true e k = at_mark calm true marks.Helper helper_calm_so g e
    at_test false e k = end_calm g k

pub to_no_helper : (ts : List Lexeme) (h : Option RawTransition) → no_helper.phrase.language ts h → IsRawHelper Forms Sums Wait ts h
to_no_helper ts h given = spells_no_helper

pub from_no_helper : (ts : List Lexeme) (h : Option RawTransition) → IsRawHelper Forms Sums Wait ts h → no_helper.phrase.language ts h
from_no_helper ts h spells_no_helper = given
from_no_helper ts h (spells_helper us r e l) = absurd cc

pub to_chain_helper : (ts : List Lexeme) (h : Option RawTransition) → some_helper.phrase.language ts h → IsRawHelper Forms Sums Chain ts h
to_chain_helper ts h left_out = spells_no_helper
to_chain_helper ts h (put_in t us r e l) = spells_helper (t ∷ us) r refl (after_mark t us r e l)

pub from_chain_helper : (ts : List Lexeme) (h : Option RawTransition) → IsRawHelper Forms Sums Chain ts h → some_helper.phrase.language ts h
from_chain_helper ts h spells_no_helper = left_out
from_chain_helper ts h (spells_helper us r e (after_mark t vs r2 f l)) = put_in t vs r2 f l

pub to_rank_helper : (ts : List Lexeme) (h : Option RawTransition) → some_helper.phrase.language ts h → IsRawHelper Forms Sums Rank ts h
to_rank_helper ts h left_out = spells_no_helper
to_rank_helper ts h (put_in t us r e l) = spells_helper (t ∷ us) r refl (after_mark t us r e l)

pub from_rank_helper : (ts : List Lexeme) (h : Option RawTransition) → IsRawHelper Forms Sums Rank ts h → some_helper.phrase.language ts h
from_rank_helper ts h spells_no_helper = left_out
from_rank_helper ts h (spells_helper us r e (after_mark t vs r2 f l)) = put_in t vs r2 f l

-- RANKS
abbrev pub no_rank : (next : Sign → Bool) → LawfulPhrase Breach (Option RawUnit) next next
no_rank next = value_lawful next None

abbrev pub the_rank : RawUnit → Option RawUnit
the_rank e = Some e

abbrev pub some_rank : LawfulPhrase Breach (Option RawUnit) (among (marks.Rank ∷ [])) calm
some_rank = made_lawful (among (marks.Rank ∷ [])) calm the_rank rank_lawful (moves quiet (syntax 0) refl)

pub to_wait_rank : (next : Sign → Bool) (ts : List Lexeme) (r : Option RawUnit) → (no_rank next).phrase.language ts r → IsRawRank Forms Sums Wait ts r
to_wait_rank next ts r given = spells_no_rank refl

pub from_wait_rank : (next : Sign → Bool) (ts : List Lexeme) (r : Option RawUnit) → IsRawRank Forms Sums Wait ts r → (no_rank next).phrase.language ts r
from_wait_rank next ts r (spells_no_rank e) = given
from_wait_rank next ts r (spells_rank us x e l) = absurd cc

pub to_chain_rank : (next : Sign → Bool) (ts : List Lexeme) (r : Option RawUnit) → (no_rank next).phrase.language ts r → IsRawRank Forms Sums Chain ts r
to_chain_rank next ts r given = spells_no_rank refl

pub from_chain_rank : (next : Sign → Bool) (ts : List Lexeme) (r : Option RawUnit) → IsRawRank Forms Sums Chain ts r → (no_rank next).phrase.language ts r
from_chain_rank next ts r (spells_no_rank e) = given
from_chain_rank next ts r (spells_rank us x e l) = absurd cc

pub to_rank_rank : (ts : List Lexeme) (r : Option RawUnit) → some_rank.phrase.language ts r → IsRawRank Forms Sums Rank ts r
to_rank_rank ts r (made us x l) = spells_rank us x refl l

pub from_rank_rank : (ts : List Lexeme) (r : Option RawUnit) → IsRawRank Forms Sums Rank ts r → some_rank.phrase.language ts r
from_rank_rank ts r (spells_no_rank e) = absurd cc
from_rank_rank ts r (spells_rank us x e l) = made us x l

-- JUDGED
module _ (g : Setting) where
  abbrev pub helper_judge : Reader (Option ℕ)
  helper_judge = optional marks.Helper (just_of g)

  abbrev pub ranking : Linear → Option Linear
  ranking x = Some x

  abbrev pub rank_judge : Reader (Option Linear)
  rank_judge = then_reads (then_reads (expected marks.Rank) (λ m. sum_of g)) (λ f. gives (ranking f))

  pub no_helper_so : Judges step_end (gives None) no_helper.phrase.reader (optional_size transition_size) (optional_rules (helper_rules g)) (SameThere {A = ℕ})
  no_helper_so = value_so None None refl (λ at. refl) refl

  pub no_rank_so : (next : Sign → Bool) → Judges next (gives None) (no_rank next).phrase.reader (optional_size unit_size) (optional_rules (sum_rules g)) (Whatever {A = Option Linear})
  no_rank_so next = value_so None None refl (λ at. refl) tt

  pub some_helper_so : Judges step_end helper_judge some_helper.phrase.reader (optional_size transition_size) (optional_rules (helper_rules g)) SameThere
  some_helper_so = optional_so marks.Helper step_end end_undotted reference_lawful (moves refl (syntax 0) refl) (record { judged = λ at s. judged_helper g at s })

  pub some_rank_so : Judges calm rank_judge some_rank.phrase.reader (optional_size unit_size) (optional_rules (sum_rules g)) Whatever
  some_rank_so =
      seen_so the_rank (optional_size unit_size) (optional_rules (sum_rules g)) Whatever (λ e. refl) (λ at e. refl) (λ e x m. tt)
      (made_so ranking Whatever (λ e x m. tt) (after_so marks.Rank (raw_lawful sums) (wider (λ g h. refl)) sum_so))
    where
      sum_so : Judges calm (sum_of g) (raw sums) (λ e. e.size) (sum_rules g) (λ e x. typed_unit (number_of (names_of g.names)) e ≡ Ok x)
      sum_so = record { judged = λ at s. judged_sum g at s }

  module _ (highest : ℕ) where
    -- what the reader of diagrams does
    pub wait_helper_drawn : (s : Stream) → drawn (drawings.helper_of (drawing_over g Wait highest) s) ≡ gives None s
    unfolding drawings.helper_of
    wait_helper_drawn s = refl

    pub wait_rank_drawn : (s : Stream) → drawn (drawings.rank_of (drawing_over g Wait highest) s) ≡ gives None s
    unfolding drawings.rank_of
    wait_rank_drawn s = refl

    pub chain_rank_drawn : (s : Stream) → drawn (drawings.rank_of (drawing_over g Chain highest) s) ≡ gives None s
    unfolding drawings.rank_of
    chain_rank_drawn s = refl

    abbrev put : ℕ → Option ℕ
    put h = Some h

    abbrev none_read : Stream → Read Breach (Option ℕ)
    none_read s = Ok (None, s)

    helper_there : (kind : DiagramKind) (s : Stream) → drawn (then_reads (drawings.just_of (drawing_over g kind highest)) (λ h. gives (put h)) s) ≡ then_reads (just_of g) (λ h. gives (put h)) s
    helper_there kind s = drawn_then (drawings.just_of (drawing_over g kind highest)) (just_of g) (λ h. gives (put h)) (λ h. gives (put h)) (just_drawn g kind highest) (λ h k. refl) s

    helper_or_none : (kind : DiagramKind) (s : Stream) (b : Bool) → drawn (cond b (then_reads (drawings.just_of (drawing_over g kind highest)) (λ h. gives (put h)) (behind s)) (none_read s)) ≡ cond b (then_reads (just_of g) (λ h. gives (put h)) (behind s)) (none_read s)
    helper_or_none kind s true = helper_there kind (behind s)
    helper_or_none kind s false = refl

    pub chain_helper_drawn : (s : Stream) → drawn (drawings.helper_of (drawing_over g Chain highest) s) ≡ helper_judge s
    unfolding drawings.helper_of
    chain_helper_drawn s = helper_or_none Chain s (is (ahead s) marks.Helper)

    pub rank_helper_drawn : (s : Stream) → drawn (drawings.helper_of (drawing_over g Rank highest) s) ≡ helper_judge s
    unfolding drawings.helper_of
    rank_helper_drawn s = helper_or_none Rank s (is (ahead s) marks.Helper)

    abbrev ranked : ℕ → Reader (Option Linear)
    ranked m = then_reads (sum_of g) (λ f. gives (ranking f))

    pub rank_rank_drawn : (s : Stream) → drawn (drawings.rank_of (drawing_over g Rank highest) s) ≡ rank_judge s
    unfolding drawings.rank_of
    rank_rank_drawn s =
        drawn_then (expected marks.Rank) (expected marks.Rank) (λ m. then_reads (drawings.sum_of (drawing_over g Rank highest)) (λ f. gives (ranking f))) ranked (drawn_expected marks.Rank)
        (λ m k. drawn_then (drawings.sum_of (drawing_over g Rank highest)) (sum_of g) (λ f. gives (ranking f)) (λ f. gives (ranking f)) (sum_drawn g Rank highest) (λ f n. refl) k) s
        ∙ sym (regroup (expected marks.Rank) (λ m. sum_of g) (λ f. gives (ranking f)) s)
