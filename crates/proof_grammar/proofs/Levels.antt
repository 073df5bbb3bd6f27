-- The levels of a node of a nested net, at most four, each a group with its base and top: read exactly where they are spelled.
use Rattle.std.proofs.Common.{Bool, List, Ok, [], ap, append-nil, append_assoc, arith, cond, false, length, refl, subst, suc, sym, true, zero, ℕ, ◌++◌, ◌∙◌, ◌∷◌, ◌≡◌, ◌≤◌}
use Rattle.st_reading.specs.Breaches.{Breach}
use Rattle.st_tokens.specs.Stream.{Lexeme, Stream, behind, breaks, ends, more, ◌++>◌}
use Rattle.st_reading.proofs.ListCompleteness.{Complete}
use Rattle.st_reading.proofs.Soundness.{split, values}
use Rattle.st_reading.proofs.Steadiness.{bind_ok}
use Rattle.st_reading.proofs.Streams.{append_stream}
use Rattle.st_reading.specs.Mark.{number}
use Rattle.st_reading.specs.Reading.{ahead, gives, is_name, then_reads}
use Rattle.st_reading.specs.Sign.{is}
use Rattle.st_reading.specs.Spelling.{Cut, Is, Sound, behind_it}
use Rattle.st_reading.specs.Steady.{Within, anything}
use Rattle.st_reading.specs.declared.mark.Mark.TheVariants as marks
use Rattle.st_reading.specs.declared.sign.Sign.{Sign}
use Rattle.st_linear.specs.Linear.{Linear}
use Rattle.temporal_goals.specs.Texts.{PlainLevel}
use Rattle.expression_parser.specs.Calm.{calm}
use Rattle.proof_script.specs.Listing.{Setting}
use Rattle.proof_script.specs.Rules.{group_level_of, group_levels_of, weight_of}
use Rattle.st_reading.specs.Phrases.{After, Many, after_mark, none_more, one_more}
use Rattle.proof_grammar.specs.Rules.{IsLevel, a_level}
use Rattle.proof_grammar.specs.Units.{IsGroup, IsNumber}
use Rattle.proof_grammar.proofs.Formulas.{number_phrase}
use Rattle.proof_grammar.proofs.ItemEnds.{before_top, only_mark}
use Rattle.proof_grammar.proofs.NetItems.{weight_phrase}
use Rattle.proof_grammar.proofs.Parts.{no_dot}
use Rattle.st_reading.proofs.Phrases.{Phrase, after_phrase, as_phrase, made, map_phrase, then_phrase}
use Rattle.st_reading.proofs.Tokens.{among, but, marks_within, not_that}
use Rattle.proof_grammar.proofs.Transitions.{group_phrase}

abbrev pub level_or_delay : Sign → Bool
level_or_delay = among (marks.Base ∷ marks.Delay ∷ [])

pub before_levels : Within level_or_delay calm
unfolding number calm
before_levels = marks_within calm (marks.Base ∷ marks.Delay ∷ []) refl

pub before_group : Within (only_mark marks.Group) calm
unfolding number calm
before_group = marks_within calm (marks.Group ∷ []) refl

level_undotted : Within level_or_delay no_dot
unfolding number
level_undotted = marks_within no_dot (marks.Base ∷ marks.Delay ∷ []) refl

delay_no_base : Within (only_mark marks.Delay) (but marks.Base)
unfolding number
delay_no_base = marks_within (but marks.Base) (marks.Delay ∷ []) refl

delay_behind : Within (only_mark marks.Delay) level_or_delay
unfolding number
delay_behind = marks_within level_or_delay (marks.Delay ∷ []) refl

module _ (g : Setting) where
  -- "base" sum "top" sum "group" trans, behind "base"
  pub data IsInnerLevel : List Lexeme → PlainLevel → Type 0 where
    inner_level : (a b c : List Lexeme) (base top : Linear) (group : ℕ) → IsNumber g a base → After marks.Top (IsNumber g) b top → After marks.Group (IsGroup g) c group
        → IsInnerLevel (a ++ (b ++ c)) (record { base = base; top = top; group = group })

  abbrev pub level_parts : Phrase Breach PlainLevel anything no_dot
  level_parts =
      then_phrase anything calm (only_mark marks.Top) no_dot before_top (number_phrase g) (λ b.
      then_phrase (only_mark marks.Top) calm (only_mark marks.Group) no_dot before_group (weight_phrase g marks.Top) (λ t.
      map_phrase (only_mark marks.Group) no_dot (λ c. record { base = b; top = t; group = c }) (after_phrase marks.Group is_name no_dot (group_phrase g))))

  pub to_level : (ts : List Lexeme) (x : PlainLevel) → level_parts.language ts x → IsInnerLevel ts x
  to_level ts x (behind_it a a1 base y1 l (behind_it b b1 top y2 m (made c group k))) = inner_level a b c base top group l m k

  pub from_level : (ts : List Lexeme) (x : PlainLevel) → IsInnerLevel ts x → level_parts.language ts x
  from_level ts x (inner_level a b c base top group l m k) = behind_it a (b ++ c) base _ l (behind_it b c top _ m (made c group k))

  abbrev pub level_as : Phrase Breach PlainLevel anything no_dot
  level_as = as_phrase anything no_dot level_parts IsInnerLevel to_level from_level

  level_sound : Sound (group_level_of g) IsInnerLevel
  unfolding group_level_of weight_of
  level_sound = level_as.sound

  level_complete : Complete no_dot (group_level_of g) IsInnerLevel
  unfolding group_level_of weight_of
  level_complete = level_as.complete

  -- behind those that were read, at most so many further ones
  pub record MoreLevels (room : ℕ) (ls : List PlainLevel) (ts : List Lexeme) (zs : List PlainLevel) : Type 0 where
    pub others : List PlainLevel
    pub joined : zs ≡ ls ++ others
    pub spells : Many (IsLevel g) ts others
    pub limited : length others ≤ room

  one_less : (k : ℕ) (l : PlainLevel) (ls : List PlainLevel) → length ls ≤ k → length (l ∷ ls) ≤ suc k
  one_less k l ls h = omega arith

  one_more_level : (k : ℕ) (l : PlainLevel) (ls : List PlainLevel) → length (l ∷ ls) ≤ suc k → length ls ≤ k
  one_more_level k l ls h = omega arith

  none_left : (l : PlainLevel) (ls : List PlainLevel) → length (l ∷ ls) ≤ 0 → ⊥
  none_left l ls h = omega arith

  outer_level : (t : Lexeme) (ts : List Lexeme) (x : PlainLevel) → Is marks.Base t → IsInnerLevel ts x → IsLevel g (t ∷ ts) x
  outer_level t ts x e (inner_level a b c base top group l m k) = a_level (t ∷ a) b c base top group (after_mark t a base e l) m k

  levels_sound : (room : ℕ) (ls : List PlainLevel) → Sound (group_levels_of g room ls) (MoreLevels room ls)
  unfolding group_levels_of
  levels_sound zero ls s zs rest h =
      let v = values {X = Breach} (gives ls s) ls zs s rest refl h in
      record { text = []; is = v.1; spells = record { others = []; joined = sym v.0 ∙ sym (append-nil ls); spells = none_more; limited = omega arith } }
  levels_sound (suc k) ls s zs rest h = at_base (λ l m r e. levels_sound k (ls ++ l ∷ []) m zs r e) s (is (ahead s) marks.Base) refl h
    where
      at_base : ((l : PlainLevel) (m r : Stream) → group_levels_of g k (ls ++ l ∷ []) m ≡ Ok (zs, r) → Cut (MoreLevels k (ls ++ l ∷ [])) m zs r) → (s : Stream) (b : Bool) → b ≡ is (ahead s) marks.Base
          → cond b (then_reads (group_level_of g) (λ l. group_levels_of g k (ls ++ l ∷ [])) (behind s)) (Ok (ls, s)) ≡ Ok (zs, rest) → Cut (MoreLevels (suc k) ls) s zs rest
      at_base again s false e h =
          let v = values {X = Breach} (gives ls s) ls zs s rest refl h in
          record { text = []; is = v.1; spells = record { others = []; joined = sym v.0 ∙ sym (append-nil ls); spells = none_more; limited = omega arith } }
      at_base again (ends place) true e h = absurd cc
      at_base again (breaks f) true e h = absurd cc
      at_base again (more t s) true e h =
          let a = split (group_level_of g) (λ l. group_levels_of g k (ls ++ l ∷ [])) s zs rest h in
          let c = level_sound s a.value a.middle a.first in
          let d = again a.value a.middle rest a.second in
          record {
            text = t ∷ c.text ++ d.text;
            is = ap (more t) (c.is ∙ ap (λ m. c.text ++> m) d.is ∙ sym (append_stream c.text d.text rest));
            spells = record {
              others = a.value ∷ d.spells.others;
              joined = d.spells.joined ∙ append_assoc ls (a.value ∷ []) d.spells.others;
              spells = one_more (t ∷ c.text) d.text a.value d.spells.others (outer_level t c.text a.value (sym e) c.spells) d.spells.spells;
              limited = one_less k a.value d.spells.others d.spells.limited;
            };
          }

  inner_of : (ts : List Lexeme) (x : PlainLevel) → IsLevel g ts x → (t : Lexeme) × (us : List Lexeme) × (ts ≡ t ∷ us) × Is marks.Base t × IsInnerLevel us x
  inner_of ts x (a_level a b c base top group (after_mark t us y e l) m k) = (t, us ++ (b ++ c), refl, e, inner_level us b c y top group l m k)

  levels_follow : (ts : List Lexeme) (ls : List PlainLevel) → Many (IsLevel g) ts ls → (after : Stream) → only_mark marks.Delay (ahead after) ≡ true → level_or_delay (ahead (ts ++> after)) ≡ true
  levels_follow ts ls none_more after h = delay_behind (ahead after) h
  levels_follow ts ls (one_more a b x xs l rest) after h =
      let i = inner_of a x l in
      let e = i.3 in
      ap (λ us. level_or_delay (ahead ((us ++ b) ++> after))) i.2 ∙ rw e refl

  spelled_levels : (ts : List Lexeme) (others : List PlainLevel) → Many (IsLevel g) ts others → (room : ℕ) (ls : List PlainLevel) → length others ≤ room → (after : Stream) → only_mark marks.Delay (ahead after) ≡ true
      → group_levels_of g room ls (ts ++> after) ≡ Ok (ls ++ others, after)
  unfolding group_levels_of
  spelled_levels ts others none_more zero ls le after h = ap (λ xs. Ok (xs, after)) (sym (append-nil ls))
  spelled_levels ts others none_more (suc k) ls le after h =
      let e = not_that marks.Base (ahead after) (delay_no_base (ahead after) h) in
      rw e (ap (λ xs. Ok (xs, after)) (sym (append-nil ls)))
  spelled_levels ts others (one_more a b x xs l rest) zero ls le after h = absurd (none_left x xs le)
  spelled_levels ts others (one_more a b x xs l rest) (suc k) ls le after h =
      let i = inner_of a x l in
      let again = spelled_levels b xs rest k (ls ++ x ∷ []) (one_more_level k x xs le) after h in
      let first = level_complete i.1 x i.4 (b ++> after) (level_undotted (ahead (b ++> after)) (levels_follow b xs rest after h)) in
      let e = i.3 in
      ap (λ us. group_levels_of g (suc k) ls ((us ++ b) ++> after)) i.2
      ∙ rw e (ap (then_reads (group_level_of g) (λ l. group_levels_of g k (ls ++ l ∷ []))) (append_stream i.1 b after)
      ∙ bind_ok (group_level_of g) (λ l. group_levels_of g k (ls ++ l ∷ [])) (i.1 ++> (b ++> after)) x (b ++> after) first
      ∙ again
      ∙ ap (λ ys. Ok (ys, after)) (append_assoc ls (x ∷ []) xs))

  -- from none on
  pub data FewLevels (ts : List Lexeme) (ls : List PlainLevel) : Type 0 where
    few_levels : Many (IsLevel g) ts ls → length ls ≤ 4 → FewLevels ts ls

  pub four_sound : Sound (group_levels_of g 4 []) FewLevels
  four_sound s zs rest h =
      let c = levels_sound 4 [] s zs rest h in
      record { text = c.text; is = c.is; spells = subst (FewLevels c.text) (sym c.spells.joined) (few_levels c.spells.spells c.spells.limited) }

  pub four_complete : Complete (only_mark marks.Delay) (group_levels_of g 4 []) FewLevels
  four_complete ts zs (few_levels l le) after h = spelled_levels ts zs l 4 [] le after h

  pub four_begin : (ts : List Lexeme) (ls : List PlainLevel) → FewLevels ts ls → (after : Stream) → only_mark marks.Delay (ahead after) ≡ true → level_or_delay (ahead (ts ++> after)) ≡ true
  four_begin ts ls (few_levels l le) after h = levels_follow ts ls l after h

  abbrev pub levels_phrase : Phrase Breach (List PlainLevel) level_or_delay (only_mark marks.Delay)
  levels_phrase = record { reader = group_levels_of g 4 []; language = FewLevels; sound = four_sound; complete = four_complete; begins = four_begin }
