-- What a move names, judged and not, beside each other. A label alone is settled where no "." goes on.
use Rattle.std.proofs.Common.{◌≡◌, ℕ, suc, ◌+◌, Bool, true, false, cond, List, [], ◌∷◌, ◌++◌, length, Option, Some, None, Ok, Err, refl, sym, ap, subst, ◌∙◌, arith}
use Rattle.std.specs.Prelude.{not, nat_lt, is_none}
use Rattle.st_tokens.specs.Stream.{◌++>◌, Lexeme, Stream, ends, breaks, more, behind}
use Rattle.st_reading.specs.declared.mark.Mark.TheVariants as marks
use Rattle.st_reading.specs.Sign.{sign_of, is}
use Rattle.st_reading.specs.Reading.{Stop, other, Read, Label, ahead, label_of, name_of, is_name, refusal, then_reads, gives, on_operator}
use Rattle.st_reading.specs.Rule as rules
use Rattle.st_reading.specs.Breaches.{Breach, broke, crowded, Reader, present}
use Rattle.st_reading.specs.BrokenRules.{Broken}
use Rattle.st_reading.specs.Spelling.{Is}
use Rattle.st_reading.specs.Steady.{head}
use Rattle.st_reading.proofs.Spelled.{none_spelled, one_spelled}
use Rattle.st_reading.proofs.Tokens.{but, not_that}
use Rattle.st_reading.proofs.Soundness.{values}
use Rattle.st_reading.proofs.Judging.{Settled, closed, Completed, good, bad, alike}
use Rattle.st_form.specs.declared.conditions.Part.{Part}
use Rattle.st_form.specs.declared.conditions.Part.TheVariants.{Whole}
use Rattle.st_form.specs.declared.conditions.TransName.{TransName}
use Rattle.st_form.specs.declared.conditions.TransName.TheVariants.{Idle}
use Rattle.st_program.specs.Names.{Names}
use Rattle.st_program.specs.Tree.{Processes}
use Rattle.assertions.specs.Labels.{part_named}
use Rattle.schedule_reader.specs.declared.moving.Opening.{Opening}
use Rattle.schedule_reader.specs.declared.moving.Opening.TheVariants.{Idling, Label as By, Number as Numbered}
use Rattle.schedule_reader.specs.Moves.{opening_in, part_of, named_by, move_of}
use Rattle.schedule_grammar.specs.RawSchedules.{RawMove, part_size, move_size}
use Rattle.schedule_grammar.specs.Rules.{found_at, breaks_where, part_seen, transition_by, transition_of, move_rules}
use Rattle.schedule_grammar.proofs.Closed.{refusal_syntactic, Judged, both_refuse, breaks_at}
use Rattle.schedule_grammar.proofs.RawReaders.{the_move, raw_part, raw_behind, raw_target}
use Rattle.schedule_grammar.proofs.Witnesses.{name_token, name_spelled}

-- WHAT SETTLES A MOVE
abbrev pub waits : Option Label → Lexeme → Bool
waits None t = is (sign_of t) marks.Dot
waits (Some l) t = false

same_settled : (open_to : Lexeme → Bool) (s after : Stream) → Settled open_to s → head after ≡ head s → Settled open_to after
same_settled open_to s (ends q) h e = tt
same_settled open_to s (breaks f) h e = tt
same_settled open_to (ends q) (more u z) h e = absurd cc
same_settled open_to (breaks f) (more u z) h e = absurd cc
same_settled open_to (more t m) (more u z) h e = let k : u ≡ t = cc in ap open_to k ∙ h

undotted : (s : Stream) → Settled (waits None) s → is (ahead s) marks.Dot ≡ false
undotted (ends q) h = refl
undotted (breaks f) h = refl
undotted (more t s) h = h

undotted_settles : (s : Stream) → is (ahead s) marks.Dot ≡ false → Settled (waits None) s
undotted_settles (ends q) h = tt
undotted_settles (breaks f) h = tt
undotted_settles (more t s) h = h

part_settles : (l : Label) (s : Stream) → Settled (waits (Some l)) s
part_settles l (ends p) = tt
part_settles l (breaks f) = tt
part_settles l (more t s) = refl

calm_settles : (q : Option Label) (s : Stream) → but marks.Dot (ahead s) ≡ true → Settled (waits q) s
calm_settles None s h = undotted_settles s (not_that marks.Dot (ahead s) h)
calm_settles (Some l) s h = part_settles l s

-- WHAT A MOVE NAMES
-- Where there is no room, a move that breaks off is refused as the grammar refuses it: so the judging differs from the plain
-- reading by rules alone.
abbrev pub soft_many : ℕ → Read Breach TransName → Stop Breach
soft_many place (Ok x) = other (crowded place)
soft_many place (Err f) = f

module _ (names : Names) (p : Processes) where
  abbrev judged_by : ℕ → Opening → Label → Reader TransName
  judged_by before o l s = cond (nat_lt before 1000) (move_of names p o l s) (Err (soft_many l.place (move_of names p o l s)))

  abbrev pub target_of : ℕ → Reader TransName
  target_of before s = on_operator (opening_in (ahead s)) (Err (refusal s)) (λ o. judged_by before o (name_of s) (behind s))

  abbrev pub Named : RawMove → TransName → Type 0
  Named m n = transition_of names p m ≡ Some n

  module _ (before at : ℕ) where
    abbrev pub JudgedTarget : Stream → Type 0
    JudgedTarget s = Judged (but marks.Dot) at (target_of before) raw_target move_size (move_rules names p before at) Named s

    refused : (s : Stream) → target_of before s ≡ Err (refusal s) → raw_target s ≡ Err (refusal s) → JudgedTarget s
    refused s h k = both_refuse (but marks.Dot) at (target_of before) raw_target move_size (move_rules names p before at) Named s h k

    -- a label or a number
    module _ (t : Lexeme) (o : Opening) (opens : opening_in (sign_of t) ≡ Some o) (look : Option Part → Option TransName)
        (moves_so : (m : Stream) → move_of names p o (label_of t) m ≡ then_reads part_of (λ part. present (broke rules.UnknownTransition t.start) (look part)) m)
        (reads_so : (m : Stream) → raw_behind o (label_of t) m ≡ then_reads raw_part (λ q. gives (the_move o (label_of t) q)) m)
        (names_so : (part : Option Part) → transition_by names p o (label_of t) part ≡ look part) where
      dot_goes_on : (d : Lexeme) → Is marks.Dot d → Completed (but marks.Dot) raw_target (t ∷ d ∷ []) closed
      dot_goes_on d g = record {
        others = name_token ∷ [];
        spelled = one_spelled name_token name_spelled;
        value = the_move o (label_of t) (Some (label_of name_token));
        reads = λ after h. let k = reads_so (more d (more name_token after)) in rw (opens, k, g) refl;
        settled = λ after h. refl;
      }

      module _ (ts : List Lexeme) (q : Option Label) (onward : (d : Lexeme) → waits q d ≡ true → Completed (but marks.Dot) raw_target (t ∷ ts ++ d ∷ []) closed) (rest : Stream) (settles : Settled (waits q) rest) (many : part_size q ≡ suc (length ts))
          (reads : (after : Stream) → Settled (waits q) after → raw_part (ts ++> after) ≡ Ok (q, after))
          (reads2 : (after : Stream) → Settled (waits q) after → part_of (ts ++> after) ≡ Ok (part_seen q, after)) where
        abbrev it : RawMove
        it = the_move o (label_of t) q

        read_plain : (after : Stream) → Settled (waits q) after → raw_target (more t (ts ++> after)) ≡ Ok (it, after)
        read_plain after h = let r = reads after h in let k = reads_so (ts ++> after) in rw (opens, k, r) refl

        read_move : (after : Stream) → Settled (waits q) after → move_of names p o (label_of t) (ts ++> after) ≡ present (broke rules.UnknownTransition t.start) (look (part_seen q)) after
        read_move after h = let r = reads2 after h in moves_so (ts ++> after) ∙ rw r refl

        read_judged : (after : Stream) → Settled (waits q) after → target_of before (more t (ts ++> after))
            ≡ cond (nat_lt before 1000) (present (broke rules.UnknownTransition t.start) (look (part_seen q)) after) (Err (soft_many t.start (present (broke rules.UnknownTransition t.start) (look (part_seen q)) after)))
        read_judged after h = let r = read_move after h in rw (opens, r) refl

        the_rules : move_rules names p before at it ≡ breaks_where (is_none (look (part_seen q))) (found_at (at + part_size q) (broke rules.UnknownTransition t.start))
            (breaks_where (not (nat_lt before 1000)) (found_at (at + part_size q) (crowded t.start)) [])
        the_rules = let a = names_so (part_seen q) in rw a refl

        breaks_first : (breach : Breach) (further : List (Broken Breach)) → move_rules names p before at it ≡ found_at (at + part_size q) breach ∷ further → ((after : Stream) → Settled (waits q) after → target_of before (more t (ts ++> after)) ≡ Err (other breach)) → JudgedTarget (more t (ts ++> rest))
        breaks_first breach further broken stops =
            bad t ts rest (found_at (at + part_size q) breach) (waits q) refl (omega (arith, many)) settles stops
            (λ after x m h r. let v = values (raw_target (more t (ts ++> after))) it x after m (read_plain after h) r in (further, ap (move_rules names p before at) (sym v.0) ∙ broken))
            (record { others = []; spelled = none_spelled; value = it; reads = λ after h. read_plain after (calm_settles q after h); settled = λ after h. calm_settles q after h })
            onward

        at_room : (b : Bool) → nat_lt before 1000 ≡ b → (n : TransName) → look (part_seen q) ≡ Some n → JudgedTarget (more t (ts ++> rest))
        at_room true r n e =
            good (t ∷ ts) it n rest refl (λ after h. read_plain after (same_settled (waits q) rest after settles h)) (λ after h. read_judged after (same_settled (waits q) rest after settles h) ∙ rw (r, e) refl)
            many (the_rules ∙ rw (e, r) refl) (names_so (part_seen q) ∙ e)
        at_room false r n e = breaks_first (crowded t.start) [] (the_rules ∙ rw (e, r) refl) (λ after h. read_judged after h ∙ rw (r, e) refl)

        at_unknown : (b : Bool) → nat_lt before 1000 ≡ b → look (part_seen q) ≡ None → JudgedTarget (more t (ts ++> rest))
        at_unknown true r e = breaks_first (broke rules.UnknownTransition t.start) [] (the_rules ∙ rw (e, r) refl) (λ after h. read_judged after h ∙ rw (r, e) refl)
        at_unknown false r e = breaks_first (broke rules.UnknownTransition t.start) (found_at (at + part_size q) (crowded t.start) ∷ []) (the_rules ∙ rw (e, r) refl) (λ after h. read_judged after h ∙ rw (r, e) refl)

        whole_target : (x : Option TransName) → look (part_seen q) ≡ x → JudgedTarget (more t (ts ++> rest))
        whole_target None e = at_unknown (nat_lt before 1000) refl e
        whole_target (Some n) e = at_room (nat_lt before 1000) refl n e

      -- no name behind a "."
      stuck : (d : Lexeme) (s : Stream) → Is marks.Dot d → is_name (ahead s) ≡ false → JudgedTarget (more t (more d s))
      unfolding part_of
      stuck d s e n = at_room (nat_lt before 1000) refl
        where
          moved : move_of names p o (label_of t) (more d s) ≡ Err (refusal s)
          moved = moves_so (more d s) ∙ rw (e, n) refl

          plainly : raw_target (more t (more d s)) ≡ Err (refusal s)
          plainly = let k = reads_so (more d s) in rw (opens, k, e, n) refl

          at_room : (b : Bool) → nat_lt before 1000 ≡ b → JudgedTarget (more t (more d s))
          at_room true r = alike (refusal s) (refusal_syntactic s) (rw (opens, r, moved) refl) plainly
          at_room false r = alike (refusal s) (refusal_syntactic s) (rw (opens, r, moved) refl) plainly

      called : (s : Stream) → JudgedTarget (more t s)
      unfolding part_of
      called s = at_dot (is (ahead s) marks.Dot) refl
        where
          at_name : (d u : Lexeme) (m : Stream) → Is marks.Dot d → s ≡ more d (more u m) → (b : Bool) → is_name (sign_of u) ≡ b → JudgedTarget (more t s)
          at_name d u m e is_s false n = subst (λ z. JudgedTarget (more t z)) (sym is_s) (stuck d (more u m) e n)
          at_name d u m e is_s true n =
              subst (λ z. JudgedTarget (more t z)) (sym is_s)
              (whole_target (d ∷ u ∷ []) (Some (label_of u)) (λ d g. absurd cc) m (part_settles (label_of u) m) refl (λ after h. rw (e, n) refl) (λ after h. rw (e, n) refl) (look (part_named u.text)) refl)

          at_next : (d : Lexeme) (m z : Stream) → Is marks.Dot d → s ≡ more d m → m ≡ z → JudgedTarget (more t s)
          at_next d m (ends q) e is_s is_m = subst (λ z. JudgedTarget (more t z)) (sym is_s) (stuck d m e (rw is_m refl))
          at_next d m (breaks f) e is_s is_m = subst (λ z. JudgedTarget (more t z)) (sym is_s) (stuck d m e (rw is_m refl))
          at_next d m (more u r) e is_s is_m = at_name d u r e (is_s ∙ ap (more d) is_m) (is_name (sign_of u)) refl

          at_first : (z : Stream) → s ≡ z → is (ahead z) marks.Dot ≡ true → JudgedTarget (more t s)
          at_first (ends q) is_s e = absurd cc
          at_first (breaks f) is_s e = absurd cc
          at_first (more d m) is_s e = at_next d m m e is_s refl

          at_dot : (b : Bool) → is (ahead s) marks.Dot ≡ b → JudgedTarget (more t s)
          at_dot true e = at_first s refl e
          at_dot false e = whole_target [] None (λ d g. dot_goes_on d g) s (undotted_settles s e) refl (λ after h. let no = undotted after h in rw no refl) (λ after h. let no = undotted after h in rw no refl) (look (Some Whole)) refl

    idled : (t : Lexeme) (s : Stream) → opening_in (sign_of t) ≡ Some Idling → JudgedTarget (more t s)
    unfolding move_of
    idled t s opens = at_room (nat_lt before 1000) refl
      where
        at_room : (b : Bool) → nat_lt before 1000 ≡ b → JudgedTarget (more t s)
        at_room true r = good (t ∷ []) (the_move Idling (label_of t) None) Idle s refl (λ after h. rw opens refl) (λ after h. rw (opens, r) refl) refl (rw r refl) refl
        at_room false r =
            breaks_at (but marks.Dot) at (target_of before) raw_target move_size (move_rules names p before at) Named t [] s (the_move Idling (label_of t) None) (found_at (at + 1) (crowded t.start)) [] refl (rw r refl) (λ after. rw opens refl) (λ after. rw (opens, r) refl)

    pub judged_target : (s : Stream) → JudgedTarget s
    unfolding move_of
    judged_target (ends q) = refused (ends q) refl refl
    judged_target (breaks f) = refused (breaks f) refl refl
    judged_target (more t s) = at_opening (opening_in (sign_of t)) refl
      where
        at_opening : (x : Option Opening) → opening_in (sign_of t) ≡ x → JudgedTarget (more t s)
        at_opening None e = refused (more t s) (rw e refl) (rw e refl)
        at_opening (Some Idling) e = idled t s e
        at_opening (Some By) e = called t By e (named_by names p By (label_of t)) (λ m. refl) (λ m. refl) (λ part. refl) s
        at_opening (Some (Numbered n)) e = called t (Numbered n) e (named_by names p (Numbered n) (label_of t)) (λ m. refl) (λ m. refl) (λ part. refl) s
