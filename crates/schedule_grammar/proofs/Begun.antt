-- Behind 1,000 moves a further one is too many, where the judging reader breaks off and no rule is broken before.
use Rattle.std.proofs.Common.{◌≡◌, ℕ, suc, ◌+◌, ◌≤◌, false, List, [], ◌∷◌, ◌++◌, length, length-append, Some, Ok, Err, ◌⊎◌, inl, inr, refl, sym, ap, subst, ◌∙◌, arith}
use Rattle.std.specs.Prelude.{nat_lt}
use Rattle.std.proofs.lemmas.Bool.Decides.{nat_tests}
use Rattle.st_tokens.specs.Stream.{◌++>◌, Lexeme, Stream, more}
use Rattle.st_reading.specs.Sign.{sign_of}
use Rattle.st_reading.specs.Reading.{Stop, syntax, broken, other, Read, size, is_name, label_of, expected, then_reads, gives, whole}
use Rattle.st_reading.specs.Breaches.{Breach, crowded, Reader}
use Rattle.st_reading.specs.Phrases.{Many, none_more, one_more}
use Rattle.st_reading.specs.Steady.{anything}
use Rattle.st_reading.specs.declared.mark.Mark.TheVariants as marks
use Rattle.st_reading.proofs.Streams.{append_stream}
use Rattle.st_reading.proofs.Steadiness.{bind_ok, bind_err}
use Rattle.st_reading.proofs.Whiles.{while_complete}
use Rattle.st_reading.proofs.Refusing.{not_both, same_stop}
use Rattle.st_form.specs.declared.conditions.TransName.{TransName}
use Rattle.st_program.specs.Names.{Names}
use Rattle.st_program.specs.Tree.{Processes}
use Rattle.st_program.specs.declared.residuals.Datum.{Datum}
use Rattle.schedule_reader.specs.declared.moving.Opening.{Opening}
use Rattle.schedule_reader.specs.Items.{items}
use Rattle.schedule_reader.specs.Moves.{opening_in, move_of, next_move_of}
use Rattle.schedule_reader.specs.Schedules.{store_of, moves_of, schedule_of}
use Rattle.schedule_grammar.specs.RawSchedules.{RawMove, RawSchedule}
use Rattle.schedule_grammar.specs.Grammar.{IsEnded, ends_move, idles, takes, takes_part, IsSetting, IsRawSchedule, a_schedule}
use Rattle.schedule_grammar.specs.Rules.{move_rules}
use Rattle.schedule_grammar.specs.FirstFault.{IsSyntactic}
use Rattle.schedule_grammar.proofs.Closed.{no_breach, reads_or_breaks}
use Rattle.schedule_grammar.proofs.ItemLoops.{items_step}
use Rattle.schedule_grammar.proofs.RawReaders.{raw_setting, raw_settings, raw_move, raw_front}
use Rattle.schedule_grammar.proofs.RawCompleteness.{setting_begins, setting_complete, move_begins, move_complete, no_name}
use Rattle.schedule_grammar.proofs.JudgedMoves.{one_opens, whole_size, soft_next, front_move, front_is, Adds, judged_move, move_shrinks, move_loop, loop_step}
use Rattle.schedule_grammar.proofs.FullMoves.{Late, item_cases}
use Rattle.schedule_grammar.proofs.Whole.{front_size, front_rules, Stores, judged_front, body}
use Rattle.schedule_grammar.proofs.Excess.{hard_tail_err, soft_tail_err, hard_schedule, soft_schedule}

starts : (a : List Lexeme) (m : RawMove) → IsEnded a m → (u : Lexeme) × (us : List Lexeme) × (a ≡ u ∷ us)
starts a m (ends_move b z x (idles t h) e) = (t, z ∷ [], refl)
starts a m (ends_move b z x (takes t o l) e) = (t, z ∷ [], refl)
starts a m (ends_move b z x (takes_part t d n o l f k) e) = (t, d ∷ n ∷ z ∷ [], refl)

module _ (names : Names) (p : Processes) where
  abbrev hard_loop : List TransName → Reader (List TransName)
  hard_loop ms s = items opening_in (next_move_of names p) ms s

  hard_shrinks : (t : Lexeme) (o : Opening) (ms : List TransName) (s : Stream) (y : List TransName) (rest : Stream) → opening_in (sign_of t) ≡ Some o → next_move_of names p o (label_of t) ms s ≡ Ok (y, rest) → size rest ≤ size s
  hard_shrinks t o ms s y rest e h = at_case (item_cases names p o (label_of t) ms s)
    where
      at_case : (next_move_of names p o (label_of t) ms s ≡ soft_next names p o (label_of t) ms s) ⊎ Late names p o (label_of t) ms s → size rest ≤ size s
      at_case (inl k) = move_shrinks names p t o ms s y rest e (sym k ∙ h)
      at_case (inr l) = absurd (not_both (next_move_of names p o (label_of t) ms s) (y, rest) (other (crowded t.start)) h l.hard)

  hard_step : (t : Lexeme) (o : Opening) (x : List TransName) (s : Stream) → opening_in (sign_of t) ≡ Some o → hard_loop x (more t s) ≡ then_reads (next_move_of names p o (label_of t) x) hard_loop s
  hard_step t o x s e = items_step opening_in (next_move_of names p) refl hard_shrinks t o x s e

  -- both loops go over the moves alike, from x to n moves; or a rule is broken in them
  data Walks (x : List TransName) (n : ℕ) (s after : Stream) : Type 0 where
    passes : (y : List TransName) → length y ≡ n → hard_loop x s ≡ hard_loop y after → move_loop names p x s ≡ move_loop names p y after → Walks x n s after
    fails : (breach : Breach) → move_loop names p x s ≡ Err (other breach) → Walks x n s after

  walks_on : (x : List TransName) (k n : ℕ) (s mid after : Stream) → Walks x k s mid → ((y : List TransName) → length y ≡ k → Walks y n mid after) → Walks x n s after
  walks_on x k n s mid after (fails breach e) next = fails breach e
  walks_on x k n s mid after (passes y many h soft) next = at_next (next y many)
    where
      at_next : Walks y n mid after → Walks x n s after
      at_next (passes z all h2 soft2) = passes z all (h ∙ h2) (soft ∙ soft2)
      at_next (fails breach e) = fails breach (soft ∙ e)

  first_move : (x : List TransName) (u : Lexeme) (us : List Lexeme) (m : RawMove) → IsEnded (u ∷ us) m → (after : Stream) → Walks x (suc (length x)) (more u (us ++> after)) after
  first_move x u us m l after = at_read (reads_or_breaks anything 0 (front_move names p x) raw_move whole_size (move_rules names p (length x) 0) (Adds names p x) (more u (us ++> after)) (judged_move names p x 0 (more u (us ++> after))) m after (move_complete (u ∷ us) m after l))
    where
      opened : (o : Opening) × (opening_in (sign_of u) ≡ Some o)
      opened = one_opens (sign_of u) (move_begins (u ∷ us) m after l).0

      soft_step : move_loop names p x (more u (us ++> after)) ≡ then_reads (front_move names p x) (move_loop names p) (more u (us ++> after))
      soft_step = loop_step names p x u (us ++> after) (move_begins (u ∷ us) m after l).0

      hard_reads : (y : List TransName) → soft_next names p opened.0 (label_of u) x (us ++> after) ≡ Ok (y, after) → (next_move_of names p opened.0 (label_of u) x (us ++> after) ≡ soft_next names p opened.0 (label_of u) x (us ++> after)) ⊎ Late names p opened.0 (label_of u) x (us ++> after)
          → next_move_of names p opened.0 (label_of u) x (us ++> after) ≡ Ok (y, after)
      hard_reads y k (inl e) = e ∙ k
      hard_reads y k (inr late) = absurd (not_both (soft_next names p opened.0 (label_of u) x (us ++> after)) (y, after) late.stop k late.soft)

      at_read : ((y : List TransName) × (front_move names p x (more u (us ++> after)) ≡ Ok (y, after)) × Adds names p x m y) ⊎ ((breach : Breach) × (front_move names p x (more u (us ++> after)) ≡ Err (other breach))) → Walks x (suc (length x)) (more u (us ++> after)) after
      at_read (inr b) = fails b.0 (soft_step ∙ bind_err (front_move names p x) (move_loop names p) (more u (us ++> after)) (other b.0) b.1)
      at_read (inl r) =
          let soft : soft_next names p opened.0 (label_of u) x (us ++> after) ≡ Ok (r.0, after) = sym (front_is names p x u opened.0 (us ++> after) opened.1) ∙ r.1 in
          let hard = hard_reads r.0 soft (item_cases names p opened.0 (label_of u) x (us ++> after)) in
          passes r.0 (ap length r.2.2 ∙ length-append x (r.2.0 ∷ []) ∙ omega arith)
          (hard_step u opened.0 x (us ++> after) opened.1 ∙ bind_ok (next_move_of names p opened.0 (label_of u) x) hard_loop (us ++> after) r.0 after hard)
          (soft_step ∙ bind_ok (front_move names p x) (move_loop names p) (more u (us ++> after)) r.0 after r.1)

  one_move : (x : List TransName) (a : List Lexeme) (m : RawMove) → IsEnded a m → (after : Stream) → Walks x (suc (length x)) (a ++> after) after
  one_move x a m l after =
      let s = starts a m l in
      subst (λ (z : List Lexeme). Walks x (suc (length x)) (z ++> after) after) (sym s.2) (first_move x s.0 s.1 m (subst (λ (z : List Lexeme). IsEnded z m) s.2 l) after)

  all_moves : (b : List Lexeme) (ms : List RawMove) → Many IsEnded b ms → (x : List TransName) (after : Stream) → Walks x (length x + length ms) (b ++> after) after
  all_moves b ms none_more x after = passes x (omega arith) refl refl
  all_moves b zs (one_more a c m ms l rest) x after =
      subst (λ z. Walks x (length x + suc (length ms)) z after) (sym (append_stream a c after))
      (walks_on x (suc (length x)) (length x + suc (length ms)) (a ++> (c ++> after)) (c ++> after) after (one_move x a m l (c ++> after)) (λ y n.
      subst (λ z. Walks y z (c ++> after) after) (omega (arith, n)) (all_moves c ms rest y after)))

  -- where 1,000 are read, the next one is too many, or breaks a rule
  full_stops : (y : List TransName) → length y ≡ 1000 → (t : Lexeme) (o : Opening) → opening_in (sign_of t) ≡ Some o → (rest : Stream) → (hard_loop y (more t rest) ≡ Err (other (crowded t.start))) ⊎ ((breach : Breach) × (move_loop names p y (more t rest) ≡ Err (other breach)))
  unfolding next_move_of soft_next
  full_stops y n t o e rest = at_read (move_of names p o (label_of t) rest) refl
    where
      full : nat_lt (length y) 1000 ≡ false
      full = grind (arith, nat_tests)

      hard : (stop : Stop Breach) → next_move_of names p o (label_of t) y rest ≡ Err stop → hard_loop y (more t rest) ≡ Err stop
      hard stop h = hard_step t o y rest e ∙ bind_err (next_move_of names p o (label_of t) y) hard_loop rest stop h

      soft : (stop : Stop Breach) → soft_next names p o (label_of t) y rest ≡ Err stop → move_loop names p y (more t rest) ≡ Err stop
      soft stop h =
          items_step opening_in (soft_next names p) refl (move_shrinks names p) t o y rest e
          ∙ bind_err (soft_next names p o (label_of t) y) (move_loop names p) rest stop h

      at_read : (r : Read Breach TransName) → move_of names p o (label_of t) rest ≡ r → (hard_loop y (more t rest) ≡ Err (other (crowded t.start))) ⊎ ((breach : Breach) × (move_loop names p y (more t rest) ≡ Err (other breach)))
      at_read (Ok x) k = inr (crowded t.start, soft (other (crowded t.start)) (rw (full, k) refl))
      at_read (Err (other breach)) k = inr (breach, soft (other breach) (rw (full, k) refl))
      at_read (Err (syntax q)) k = inl (hard (other (crowded t.start)) (rw (full, k) refl))
      at_read (Err (broken g)) k = inl (hard (other (crowded t.start)) (rw (full, k) refl))

  failed_front : (s : Stream) (breach : Breach) → store_of names s ≡ Err (other breach) → whole (body names p) s ≡ Err (other breach)
  failed_front s breach k = rw k refl

  module _ (f : Stop Breach) (syntactic : IsSyntactic f) where
    not_broken : (s : Stream) (breach : Breach) → whole (body names p) s ≡ Err f → whole (body names p) s ≡ Err (other breach) → ⊥
    not_broken s breach h k = no_breach f syntactic breach (same_stop (whole (body names p) s) f (other breach) h k)

    behind_front : (s after : Stream) (ds : List Datum) → store_of names s ≡ Ok (ds, after) → whole (body names p) s ≡ Err f → (t : Lexeme) (o : Opening) → opening_in (sign_of t) ≡ Some o → (rest : Stream) → Walks [] 1000 after (more t rest)
        → schedule_of names p s ≡ Err (other (crowded t.start))
    unfolding moves_of
    behind_front s after ds e h t o opens rest (fails breach k) = absurd (not_broken s breach h (soft_schedule names p s ds after e ∙ soft_tail_err names p ds (move_loop names p [] after) (other breach) k))
    behind_front s after ds e h t o opens rest (passes y n hard soft) = at_stop (full_stops y n t o opens rest)
      where
        at_stop : (hard_loop y (more t rest) ≡ Err (other (crowded t.start))) ⊎ ((breach : Breach) × (move_loop names p y (more t rest) ≡ Err (other breach))) → schedule_of names p s ≡ Err (other (crowded t.start))
        at_stop (inl k) = hard_schedule names p s ds after e ∙ hard_tail_err names p ds (hard_loop [] after) (other (crowded t.start)) (hard ∙ k)
        at_stop (inr b) = absurd (not_broken s b.0 h (soft_schedule names p s ds after e ∙ soft_tail_err names p ds (move_loop names p [] after) (other b.0) (soft ∙ b.1)))

    pub begun_stops : (front : List Lexeme) (raw : RawSchedule) → IsRawSchedule front raw → length raw.moves ≡ 1000 → (t : Lexeme) (o : Opening) → opening_in (sign_of t) ≡ Some o → (rest : Stream) → whole (body names p) (front ++> more t rest) ≡ Err f → schedule_of names p (front ++> more t rest) ≡ Err (other (crowded t.start))
    begun_stops front raw (a_schedule a b c ss ms l e m) n t o opens rest h = ap (schedule_of names p) same ∙ at_front (reads_or_breaks anything 0 (store_of names) raw_front (front_size names) (front_rules names) (Stores names) (a ++> more c (b ++> more t rest)) (judged_front names (a ++> more c (b ++> more t rest))) (ss, c.start) (b ++> more t rest) read)
      where
        same : (a ++ c ∷ b) ++> more t rest ≡ a ++> more c (b ++> more t rest)
        same = append_stream a (c ∷ b) (more t rest)

        stop : whole (body names p) (a ++> more c (b ++> more t rest)) ≡ Err f
        stop = ap (whole (body names p)) (sym same) ∙ h

        read : raw_front (a ++> more c (b ++> more t rest)) ≡ Ok ((ss, c.start), b ++> more t rest)
        read = bind_ok raw_settings (λ ss. then_reads (expected marks.Colons) (λ c. gives (ss, c))) (a ++> more c (b ++> more t rest)) ss (more c (b ++> more t rest))
            (while_complete is_name raw_setting IsSetting setting_begins setting_complete a ss l (more c (b ++> more t rest)) (no_name c e)) ∙ rw e refl

        walk : Walks [] 1000 (b ++> more t rest) (more t rest)
        walk = subst (λ z. Walks [] z (b ++> more t rest) (more t rest)) (omega (arith, n)) (all_moves b ms m [] (more t rest))

        at_front : ((ds : List Datum) × (store_of names (a ++> more c (b ++> more t rest)) ≡ Ok (ds, b ++> more t rest)) × Stores names (ss, c.start) ds) ⊎ ((breach : Breach) × (store_of names (a ++> more c (b ++> more t rest)) ≡ Err (other breach)))
            → schedule_of names p (a ++> more c (b ++> more t rest)) ≡ Err (other (crowded t.start))
        at_front (inl r) = behind_front (a ++> more c (b ++> more t rest)) (b ++> more t rest) r.0 r.1 stop t o opens rest walk
        at_front (inr r) = absurd (not_broken (a ++> more c (b ++> more t rest)) r.0 stop (failed_front (a ++> more c (b ++> more t rest)) r.0 r.1))
