-- The groups of a node in a nested net, one inside the other: at most so many.
use Rattle.std.proofs.Common.{◌≡◌, ℕ, suc, ◌+◌, ◌≤◌, Bool, true, false, cond, List, [], ◌∷◌, ◌++◌, length, length-append, Option, Some, None, Ok, Err, refl, sym, ap, ◌∙◌, arith}
use Rattle.std.specs.Prelude.{◌||◌}
use Rattle.st_tokens.specs.Stream.{Lexeme, Stream, behind}
use Rattle.st_reading.specs.declared.mark.Mark.TheVariants as marks
use Rattle.st_reading.specs.declared.sign.Sign.{Sign}
use Rattle.st_reading.specs.declared.sign.Sign.TheVariants as signs
use Rattle.st_reading.specs.Mark.{number}
use Rattle.st_reading.specs.Sign.{is}
use Rattle.st_reading.specs.Reading.{Read, ◌>>=◌, syntax, ahead, expected, gives, then_reads}
use Rattle.st_reading.specs.Breaches.{Breach, Reader}
use Rattle.st_reading.specs.BrokenRules.{Broken}
use Rattle.st_reading.specs.Phrases.{Many, none_more, one_more, after_mark, left_out, put_in}
use Rattle.st_reading.specs.Spelling.{Is, behind_it}
use Rattle.st_reading.specs.Steady.{Within, moves, wider, anything}
use Rattle.st_reading.proofs.Tokens.{among, but}
use Rattle.st_reading.proofs.ListSoundness.{given}
use Rattle.st_reading.proofs.Phrases.{made}
use Rattle.st_reading.proofs.LawfulPhrases.{LawfulPhrase, map_lawful, optional_lawful, value_lawful, within_lawful}
use Rattle.st_linear.specs.Linear.{Linear}
use Rattle.temporal_goals.specs.Texts.{PlainLevel}
use Rattle.expression_parser.specs.Calm.{calm}
use Rattle.expression_parser.proofs.FormulaTheorems.{quiet}
use Rattle.proof_script.specs.Listing.{Setting, behind_mark, compassionate_of}
use Rattle.proof_script.specs.Rules.{group_level_of, group_levels_of, weight_of}
use Rattle.script_grammar.specs.RawScripts.{RawUnit, RawTransition, RawLevel}
use Rattle.script_grammar.specs.Sizes.{level_size, many_size, transition_size}
use Rattle.script_grammar.specs.Grammar.{IsRawLevel, spells_level}
use Rattle.script_grammar.specs.Breaking.{many_rules}
use Rattle.script_grammar.specs.Rules.{sum_rules, group_rules, level_rules}
use Rattle.script_grammar.specs.Theorems.{Forms, Sums}
use Rattle.script_grammar.proofs.RawReferences.{no_dot, reference_lawful}
use Rattle.script_grammar.proofs.RawUnits.{raw_lawful}
use Rattle.script_grammar.proofs.UnitLaws.{sums}
use Rattle.script_grammar.proofs.JudgedPairs.{both_of, pair_lawful}
use Rattle.script_grammar.proofs.Judges.{Judges, Whatever, pair_so, made_so, seen_so, as_so, after_so, value_so, weaker_so, regroup}
use Rattle.script_grammar.proofs.JudgedChoices.{either, either_so}
use Rattle.script_grammar.proofs.Citations.{is_nothing, loose_lawful}
use Rattle.script_grammar.proofs.NetMarks.{marked_or_within, nothing_within, group_calm, grouped, topped, top_calm, compassionate_so, sum_so, weight_so}

-- what stands behind the groups
abbrev pub delay_next : Sign → Bool
delay_next g = is g marks.Delay || is_nothing g

abbrev pub base_front : Sign → Bool
base_front g = is g marks.Base || delay_next g

pub delay_within : (set : Sign → Bool) → set (signs.Marked marks.Delay) ≡ true → set signs.Nothing ≡ true → Within delay_next set
delay_within set delay nothing = marked_or_within marks.Delay is_nothing set delay (nothing_within set nothing)

pub delay_not_base : Within delay_next (but marks.Base)
unfolding number
delay_not_base = delay_within (but marks.Base) refl refl

pub delay_undotted : Within delay_next no_dot
unfolding number
delay_undotted = delay_within no_dot refl refl

pub delay_or_base : Within delay_next base_front
unfolding number
delay_or_base = delay_within base_front refl refl

pub base_undotted : Within base_front no_dot
unfolding number
base_undotted = marked_or_within marks.Base delay_next no_dot refl delay_undotted

pub levels_calm : Within base_front calm
unfolding number calm
levels_calm = marked_or_within marks.Base delay_next calm refl (delay_within calm refl refl)

-- a level, behind its "base"
abbrev pub capped_lawful : LawfulPhrase Breach (RawUnit × RawTransition) (among (marks.Top ∷ [])) no_dot
capped_lawful = pair_lawful (among (marks.Top ∷ [])) calm (among (marks.Group ∷ [])) no_dot group_calm refl topped (moves quiet (syntax 0) refl) grouped refl

abbrev pub the_level : RawUnit × (RawUnit × RawTransition) → RawLevel
the_level p = record { base = p.0; top = p.1.0; group = p.1.1 }

abbrev pub level_lawful : LawfulPhrase Breach RawLevel anything no_dot
level_lawful = map_lawful anything no_dot (λ g h. refl) the_level (pair_lawful anything calm (among (marks.Top ∷ [])) no_dot top_calm refl (raw_lawful sums) (wider (λ g h. refl)) capped_lawful refl)

pub to_level : (t : Lexeme) (ts : List Lexeme) (l : RawLevel) → Is marks.Base t → level_lawful.phrase.language ts l → IsRawLevel Forms Sums (t ∷ ts) l
to_level t ts l e (made us p (behind_it a k1 base q1 lb (made k2 q2 (behind_it b k3 top q3 lt (made k group lg))))) = spells_level (t ∷ a) b k base top group (after_mark t a base e lb) lt lg

from_level : (a b c : List Lexeme) (base top : RawUnit) (group : RawTransition) → (raw_lawful sums).phrase.language a base → topped.phrase.language b top → grouped.phrase.language c group
    → level_lawful.phrase.language (a ++ (b ++ c)) (record { base = base; top = top; group = group })
from_level a b c base top group lb lt lg =
    made (a ++ (b ++ c)) (both_of base (both_of top group)) (behind_it a (b ++ c) base (both_of base (both_of top group)) lb (made (b ++ c) (both_of top group) (behind_it b c top (both_of top group) lt (made c group lg))))

abbrev pub inner_size : RawLevel → ℕ
inner_size l = l.base.size + ((1 + l.top.size) + (1 + transition_size l.group))

abbrev pub inner_rules : Setting → ℕ → RawLevel → List (Broken Breach)
inner_rules g at l = sum_rules g at l.base ++ (sum_rules g (at + l.base.size + 1) l.top ++ group_rules g (at + l.base.size + (1 + l.top.size) + 1) l.group)

level_ruled : (g : Setting) (at : ℕ) (l : RawLevel) → level_rules g at l ≡ inner_rules g (at + 1) l
level_ruled g at l =
    let e : at + (1 + l.base.size) + 1 ≡ at + 1 + l.base.size + 1 = omega arith in
    let f : at + (1 + l.base.size) + (1 + l.top.size) + 1 ≡ at + 1 + l.base.size + (1 + l.top.size) + 1 = omega arith in
    ap (λ n. sum_rules g (at + 1) l.base ++ (sum_rules g n l.top ++ group_rules g (at + (1 + l.base.size) + (1 + l.top.size) + 1) l.group)) e
    ∙ ap (λ n. sum_rules g (at + 1) l.base ++ (sum_rules g (at + 1 + l.base.size + 1) l.top ++ group_rules g n l.group)) f

module _ (g : Setting) where
  abbrev level_with : Linear → Linear → ℕ → PlainLevel
  level_with b t c = record { base = b; top = t; group = c }

  group_so : Judges no_dot (behind_mark marks.Group (compassionate_of g)) grouped.phrase.reader (λ t. 1 + transition_size t) (λ at t. group_rules g (at + 1) t) Whatever
  group_so = after_so marks.Group reference_lawful (moves refl (syntax 0) refl) (compassionate_so g)

  capped_so : (b : Linear) → Judges no_dot (then_reads (weight_of g marks.Top) (λ t. then_reads (behind_mark marks.Group (compassionate_of g)) (λ c. gives (level_with b t c)))) capped_lawful.phrase.reader (λ p. (1 + p.0.size) + (1 + transition_size p.1))
      (λ at p. sum_rules g (at + 1) p.0 ++ group_rules g (at + (1 + p.0.size) + 1) p.1) Whatever
  capped_so b = pair_so {makes = Whatever} group_calm grouped (moves refl (syntax 0) refl) (weight_so g marks.Top) (λ e t m. made_so (level_with b t) Whatever (λ c x k. tt) group_so)

  level_so : Judges no_dot (group_level_of g) level_lawful.phrase.reader inner_size (inner_rules g) Whatever
  unfolding group_level_of
  level_so = seen_so the_level inner_size (inner_rules g) Whatever (λ p. refl) (λ at p. refl) (λ p x m. tt) (pair_so {makes = Whatever} top_calm capped_lawful (moves refl (syntax 0) refl) (sum_so g) (λ e b m. capped_so b))

-- AT MOST SO MANY, behind others
abbrev pub the_levels : Option (RawLevel × List RawLevel) → List RawLevel
the_levels None = []
the_levels (Some p) = p.0 ∷ p.1

pub record Levels (n : ℕ) : Type 1 where
  pub lawful : LawfulPhrase Breach (List RawLevel) base_front delay_next
  pub to_many : (ts : List Lexeme) (ls : List RawLevel) → lawful.phrase.language ts ls → Many (IsRawLevel Forms Sums) ts ls × (length ls ≤ n)
  pub from_many : (ts : List Lexeme) (ls : List RawLevel) → Many (IsRawLevel Forms Sums) ts ls → length ls ≤ n → lawful.phrase.language ts ls
  pub judges : (g : Setting) (ls : List PlainLevel) → Judges delay_next (group_levels_of g n ls) lawful.phrase.reader (many_size level_size) (many_rules level_size (level_rules g)) (λ rs xs. length xs ≡ length ls + length rs)

module _ (n : ℕ) (less : Levels n) where
  abbrev further : LawfulPhrase Breach (RawLevel × List RawLevel) anything delay_next
  further = loose_lawful anything no_dot base_front delay_next base_undotted level_lawful (wider (λ g h. refl)) less.lawful delay_or_base delay_undotted

  abbrev one_or_none : LawfulPhrase Breach (Option (RawLevel × List RawLevel)) base_front delay_next
  one_or_none = optional_lawful marks.Base anything delay_next delay_next delay_not_base (λ g h. h) further refl

  abbrev more_lawful : LawfulPhrase Breach (List RawLevel) base_front delay_next
  more_lawful = map_lawful base_front delay_next delay_or_base the_levels one_or_none

  pub to_more : (ts : List Lexeme) (ls : List RawLevel) → more_lawful.phrase.language ts ls → Many (IsRawLevel Forms Sums) ts ls × (length ls ≤ suc n)
  to_more ts ls (made us o left_out) = (none_more, omega arith)
  to_more ts ls (made us o (put_in t vs p e (behind_it a b x q l (made c xs rest)))) = let k = less.to_many c xs rest in (one_more (t ∷ a) c x xs (to_level t a x e l) k.0, omega (arith, k.1))

  pub from_more : (ts : List Lexeme) (ls : List RawLevel) → Many (IsRawLevel Forms Sums) ts ls → length ls ≤ suc n → more_lawful.phrase.language ts ls
  from_more ts ls none_more le = made [] None left_out
  from_more ts ls (one_more a b x xs (spells_level a1 a2 a3 base top group (after_mark t us y e lb) lt lg) rest) le =
      let level : RawLevel = record { base = base; top = top; group = group } in
      made (t ∷ ((us ++ (a2 ++ a3)) ++ b)) (Some (both_of level xs)) (put_in t ((us ++ (a2 ++ a3)) ++ b) (both_of level xs) e
      (behind_it (us ++ (a2 ++ a3)) b level (both_of level xs) (from_level us a2 a3 base top group lb lt lg) (made b xs (less.from_many b xs rest (omega (arith, le))))))

  module _ (g : Setting) (ls : List PlainLevel) where
    abbrev appended : PlainLevel → List PlainLevel
    appended l = ls ++ l ∷ []

    abbrev again : PlainLevel → Reader (List PlainLevel)
    again l = group_levels_of g n (appended l)

    abbrev judge : Reader (List PlainLevel)
    judge = then_reads (group_level_of g) again

    abbrev consed : RawLevel × List RawLevel → List RawLevel
    consed p = p.0 ∷ p.1

    abbrev plain : Reader (List RawLevel)
    plain = then_reads further.phrase.reader (λ p. gives (consed p))

    abbrev Longer : List RawLevel → List PlainLevel → Type 0
    Longer rs xs = length xs ≡ length ls + length rs

    further_so : Judges delay_next judge further.phrase.reader (λ p. inner_size p.0 + many_size level_size p.1) (λ at p. inner_rules g at p.0 ++ many_rules level_size (level_rules g) (at + inner_size p.0) p.1) (λ p xs. Longer (consed p) xs)
    further_so =
        pair_so {makes = λ p xs. Longer (consed p) xs} base_undotted less.lawful (wider delay_or_base) (level_so g)
        (λ x l m. weaker_so (λ rs xs. Longer (x ∷ rs) xs) (λ rs xs k. omega (arith, k, length-append ls (l ∷ []))) (less.judges g (appended l)))

    many_ruled : (at : ℕ) (p : RawLevel × List RawLevel) → many_rules level_size (level_rules g) at (consed p) ≡ inner_rules g (at + 1) p.0 ++ many_rules level_size (level_rules g) (at + 1 + inner_size p.0) p.1
    many_ruled at p =
        let e : at + level_size p.0 ≡ at + 1 + inner_size p.0 = omega arith in
        ap (λ z. z ++ many_rules level_size (level_rules g) (at + level_size p.0) p.1) (level_ruled g at p.0) ∙ ap (λ m. inner_rules g (at + 1) p.0 ++ many_rules level_size (level_rules g) m p.1) e

    some_so : Judges delay_next (then_reads (expected marks.Base) (λ m. judge)) (then_reads (expected marks.Base) (λ m. plain)) (many_size level_size) (many_rules level_size (level_rules g)) Longer
    some_so =
        as_so (then_reads (expected marks.Base) (λ m. judge)) (then_reads (expected marks.Base) (λ m. plain)) (λ s. refl) (λ s. sym (regroup (expected marks.Base) (λ m. further.phrase.reader) (λ p. gives (consed p)) s))
        (seen_so consed (many_size level_size) (many_rules level_size (level_rules g)) Longer (λ p. omega arith) many_ruled (λ p xs m. m) (after_so marks.Base further (wider (λ g h. refl)) further_so))

    none_so : Judges delay_next (gives ls) (gives []) (many_size level_size) (many_rules level_size (level_rules g)) Longer
    none_so = value_so ls [] refl (λ at. refl) (omega arith)

    reads_either : (s : Stream) → more_lawful.phrase.reader s ≡ either marks.Base plain (gives []) s
    reads_either s = at_test (is (ahead s) marks.Base)
      where
        at_read : (o : Read Breach (RawLevel × List RawLevel)) → ((o >>= λ p. gives {X = Breach} (Some p.0) p.1) >>= λ o. gives {X = Breach} (the_levels o.0) o.1) ≡ (o >>= λ p. gives {X = Breach} (consed p.0) p.1)
        at_read (Ok p) = refl
        at_read (Err f) = refl

        at_test : (b : Bool) → (cond b (then_reads further.phrase.reader (λ p. gives (Some p)) (behind s)) (Ok (None, s)) >>= λ o. gives {X = Breach} (the_levels o.0) o.1) ≡ cond b (plain (behind s)) (gives [] s)
        at_test true = at_read (further.phrase.reader (behind s))
        at_test false = refl

    pub more_so : Judges delay_next (group_levels_of g (suc n) ls) more_lawful.phrase.reader (many_size level_size) (many_rules level_size (level_rules g)) Longer
    unfolding group_levels_of
    more_so = as_so (group_levels_of g (suc n) ls) more_lawful.phrase.reader (λ s. refl) reads_either (either_so marks.Base judge plain some_so none_so)

  abbrev pub one_level_more : Levels (suc n)
  one_level_more = record { lawful = more_lawful; to_many = to_more; from_many = from_more; judges = more_so }

-- none
pub to_none : (ts : List Lexeme) (ls : List RawLevel) → (value_lawful {X = Breach} delay_next []).phrase.language ts ls → Many (IsRawLevel Forms Sums) ts ls × (length ls ≤ 0)
to_none ts ls given = (none_more, omega arith)

pub from_none : (ts : List Lexeme) (ls : List RawLevel) → Many (IsRawLevel Forms Sums) ts ls → length ls ≤ 0 → (value_lawful {X = Breach} delay_next []).phrase.language ts ls
from_none ts ls none_more le = given
from_none ts ls (one_more a b x xs l m) le = absurd (omega (arith, le))

pub no_levels_so : (g : Setting) (ls : List PlainLevel) → Judges delay_next (group_levels_of g 0 ls) (gives []) (many_size level_size) (many_rules level_size (level_rules g)) (λ rs xs. length xs ≡ length ls + length rs)
unfolding group_levels_of
no_levels_so g ls = value_so ls [] refl (λ at. refl) (omega arith)

abbrev pub no_level : Levels 0
no_level = record { lawful = within_lawful delay_next delay_next base_front delay_next delay_or_base (λ g h. h) (value_lawful delay_next []); to_many = to_none; from_many = from_none; judges = no_levels_so }

abbrev pub four_levels : Levels 4
four_levels = one_level_more 3 (one_level_more 2 (one_level_more 1 (one_level_more 0 no_level)))
