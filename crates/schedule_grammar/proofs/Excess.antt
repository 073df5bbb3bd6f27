-- All moves, and whole schedules: where the 1,001st move breaks off, the code says that it is too many; else it does what the
-- judging reader does.
use Rattle.std.proofs.Common.{◌≡◌, ℕ, zero, suc, ◌+◌, ◌<◌, ◌≤◌, List, [], ◌∷◌, ◌++◌, length, Option, Some, None, Ok, Err, ◌⊎◌, inl, inr, refl, sym, ap, ◌∙◌, arith}
use Rattle.std.proofs.lemmas.Bool.Decides.{nat_tests}
use Rattle.st_tokens.specs.Stream.{◌++>◌, Lexeme, Stream, ends, breaks, more}
use Rattle.st_reading.specs.Sign.{sign_of}
use Rattle.st_reading.specs.Reading.{Stop, other, Read, ◌>>=◌, size, label_of, then_reads, gives, on_operator, at_end, whole}
use Rattle.st_reading.specs.Breaches.{Breach, crowded}
use Rattle.st_reading.specs.Phrases.{Many, none_more, one_more}
use Rattle.st_reading.proofs.Streams.{append_stream}
use Rattle.st_reading.proofs.Steadiness.{bind_ok, bind_err}
use Rattle.st_reading.proofs.JudgedParts.{judged_ok}
use Rattle.st_form.specs.declared.conditions.TransName.{TransName}
use Rattle.st_program.specs.Names.{Names}
use Rattle.st_program.specs.Tree.{Processes}
use Rattle.st_program.specs.declared.residuals.Datum.{Datum}
use Rattle.schedule_reader.specs.declared.moving.Opening.{Opening}
use Rattle.schedule_reader.specs.Items.{items_from}
use Rattle.schedule_reader.specs.Moves.{opening_in, next_move_of}
use Rattle.schedule_reader.specs.Schedules.{PlainSchedule, store_of, moves_of, schedule_of}
use Rattle.schedule_grammar.specs.RawSchedules.{RawMove, RawSchedule}
use Rattle.schedule_grammar.specs.Grammar.{IsEnded, IsRawSchedule, a_schedule}
use Rattle.schedule_grammar.specs.FirstFault.{IsSyntactic}
use Rattle.schedule_grammar.proofs.RawReaders.{raw_front, the_schedule}
use Rattle.schedule_grammar.proofs.RawReading.{move_sound, front_sound}
use Rattle.schedule_grammar.proofs.JudgedMoves.{soft_next, move_loop}
use Rattle.schedule_grammar.proofs.FullMoves.{Late, item_cases, soft_room, went}
use Rattle.schedule_grammar.proofs.Whole.{front_size, front_rules, Stores, the_plain, judged_front, body}

module _ (names : Names) (p : Processes) where
  pub data Loop (x : List TransName) (s : Stream) (hard soft : Read Breach (List TransName)) : Type 0 where
    same : hard ≡ soft → Loop x s hard soft
    late : (b : List Lexeme) (ms : List RawMove) (t : Lexeme) (o : Opening) (rest : Stream) (f : Stop Breach) → opening_in (sign_of t) ≡ Some o → s ≡ b ++> more t rest → Many IsEnded b ms → length ms + length x ≡ 1000 → IsSyntactic f → soft ≡ Err f → hard ≡ Err (other (crowded t.start)) → Loop x s hard soft

  pub loop_cases : (k : ℕ) (x : List TransName) (s : Stream) → length x ≤ 1000 → Loop x s (items_from opening_in (next_move_of names p) k x s) (items_from opening_in (soft_next names p) k x s)
  unfolding items_from
  loop_cases zero x s le = same refl
  loop_cases (suc k) x (ends q) le = same refl
  loop_cases (suc k) x (breaks f) le = same refl
  loop_cases (suc k) x (more t m) le = at_opens (λ y rest le. loop_cases k y rest le) (opening_in (sign_of t)) refl
    where
      hard_on : List TransName → Stream → Read Breach (List TransName)
      hard_on y rest = items_from opening_in (next_move_of names p) k y rest

      soft_on : List TransName → Stream → Read Breach (List TransName)
      soft_on y rest = items_from opening_in (soft_next names p) k y rest

      hard_all : Opening → Read Breach (List TransName)
      hard_all o = next_move_of names p o (label_of t) x m >>= λ y. hard_on y.0 y.1

      soft_all : Opening → Read Breach (List TransName)
      soft_all o = soft_next names p o (label_of t) x m >>= λ y. soft_on y.0 y.1

      further : (o : Opening) → opening_in (sign_of t) ≡ Some o → (y : List TransName) (rest : Stream) → soft_next names p o (label_of t) x m ≡ Ok (y, rest) → hard_all o ≡ hard_on y rest → soft_all o ≡ soft_on y rest → Loop y rest (hard_on y rest) (soft_on y rest) → Loop x (more t m) (hard_all o) (soft_all o)
      further o e y rest ok h1 h2 (same k) = same (h1 ∙ k ∙ sym h2)
      further o e y rest ok h1 h2 (late b ms u o2 r f e2 is l n q s1 s2) =
          let w = went names p t o x m y rest e ok in
          let c = move_sound (more t m) w.0 rest w.1 in
          late (c.text ++ b) (w.0 ∷ ms) u o2 r f e2 (c.is ∙ ap (λ z. c.text ++> z) is ∙ sym (append_stream c.text b (more u r))) (one_more c.text b w.0 ms c.spells l) (omega (arith, n, w.2)) q (h2 ∙ s1) (h1 ∙ s2)

      at_read : ((y : List TransName) (rest : Stream) → length y ≤ 1000 → Loop y rest (hard_on y rest) (soft_on y rest)) → (o : Opening) → opening_in (sign_of t) ≡ Some o → next_move_of names p o (label_of t) x m ≡ soft_next names p o (label_of t) x m → (r : Read Breach (List TransName)) → soft_next names p o (label_of t) x m ≡ r → Loop x (more t m) (hard_all o) (soft_all o)
      at_read again o e k (Err f) is = same (bind_err (next_move_of names p o (label_of t) x) hard_on m f (k ∙ is) ∙ sym (bind_err (soft_next names p o (label_of t) x) soft_on m f is))
      at_read again o e k (Ok (y, rest)) is =
          let w = went names p t o x m y rest e is in
          let room = soft_room names p o (label_of t) x m (y, rest) is in
          let less : length x < 1000 = grind (arith, nat_tests) in
          further o e y rest is (bind_ok (next_move_of names p o (label_of t) x) hard_on m y rest (k ∙ is)) (bind_ok (soft_next names p o (label_of t) x) soft_on m y rest is) (again y rest (omega (arith, w.2, less)))

      at_item : ((y : List TransName) (rest : Stream) → length y ≤ 1000 → Loop y rest (hard_on y rest) (soft_on y rest)) → (o : Opening) → opening_in (sign_of t) ≡ Some o → (next_move_of names p o (label_of t) x m ≡ soft_next names p o (label_of t) x m) ⊎ Late names p o (label_of t) x m → Loop x (more t m) (hard_all o) (soft_all o)
      at_item again o e (inl k) = at_read again o e k (soft_next names p o (label_of t) x m) refl
      at_item again o e (inr l) =
          let full = l.full in
          let n : 0 + length x ≡ 1000 = grind (arith, nat_tests) in
          late [] [] t o m l.stop e refl none_more n l.plain (bind_err (soft_next names p o (label_of t) x) soft_on m l.stop l.soft) (bind_err (next_move_of names p o (label_of t) x) hard_on m (other (crowded t.start)) l.hard)

      at_opens : ((y : List TransName) (rest : Stream) → length y ≤ 1000 → Loop y rest (hard_on y rest) (soft_on y rest)) → (c : Option Opening) → opening_in (sign_of t) ≡ c → Loop x (more t m) (on_operator c (Ok (x, more t m)) (λ o. hard_all o)) (on_operator c (Ok (x, more t m)) (λ o. soft_all o))
      at_opens again None e = same refl
      at_opens again (Some o) e = at_item again o e (item_cases names p o (label_of t) x m)

  -- WHOLE SCHEDULES
  pub data WholeCases (s : Stream) : Type 0 where
    same_whole : schedule_of names p s ≡ whole (body names p) s → WholeCases s
    late_whole : (front : List Lexeme) (raw : RawSchedule) (t : Lexeme) (o : Opening) (rest : Stream) (f : Stop Breach) → opening_in (sign_of t) ≡ Some o → s ≡ front ++> more t rest → IsRawSchedule front raw → length raw.moves ≡ 1000 → IsSyntactic f → whole (body names p) s ≡ Err f → schedule_of names p s ≡ Err (other (crowded t.start)) → WholeCases s

  pub hard_tail : List Datum → Read Breach (List TransName) → Read Breach PlainSchedule
  hard_tail ds r = r >>= λ ms. then_reads {X = Breach} at_end (λ e. gives (the_plain names p ds ms.0)) ms.1

  pub soft_tail : List Datum → Read Breach (List TransName) → Read Breach PlainSchedule
  soft_tail ds r = (r >>= λ ms. gives {X = Breach} (the_plain names p ds ms.0) ms.1) >>= λ x. then_reads {X = Breach} at_end (λ e. gives x.0) x.1

  tails_same : (ds : List Datum) (r : Read Breach (List TransName)) → hard_tail ds r ≡ soft_tail ds r
  unfolding hard_tail soft_tail
  tails_same ds (Ok x) = refl
  tails_same ds (Err f) = refl

  pub hard_tail_err : (ds : List Datum) (r : Read Breach (List TransName)) (f : Stop Breach) → r ≡ Err f → hard_tail ds r ≡ Err f
  unfolding hard_tail
  hard_tail_err ds r f e = rw e refl

  pub soft_tail_err : (ds : List Datum) (r : Read Breach (List TransName)) (f : Stop Breach) → r ≡ Err f → soft_tail ds r ≡ Err f
  unfolding soft_tail
  soft_tail_err ds r f e = rw e refl

  pub hard_schedule : (s : Stream) (ds : List Datum) (m : Stream) → store_of names s ≡ Ok (ds, m) → schedule_of names p s ≡ hard_tail ds (moves_of names p m)
  unfolding schedule_of hard_tail
  hard_schedule s ds m e = rw e refl

  pub soft_schedule : (s : Stream) (ds : List Datum) (m : Stream) → store_of names s ≡ Ok (ds, m) → whole (body names p) s ≡ soft_tail ds (move_loop names p [] m)
  unfolding soft_tail
  soft_schedule s ds m e = rw e refl

  failed_store : (s : Stream) (f : Stop Breach) → store_of names s ≡ Err f → schedule_of names p s ≡ whole (body names p) s
  unfolding schedule_of
  failed_store s f e = rw e refl

  pub whole_cases : (s : Stream) → WholeCases s
  unfolding moves_of
  whole_cases s = at_store (store_of names s) refl
    where
      at_loop : (ds : List Datum) (m : Stream) → store_of names s ≡ Ok (ds, m) → Loop [] m (items_from opening_in (next_move_of names p) (size m) [] m) (items_from opening_in (soft_next names p) (size m) [] m) → WholeCases s
      at_loop ds m e (same k) = same_whole (hard_schedule s ds m e ∙ ap (hard_tail ds) k ∙ tails_same ds (move_loop names p [] m) ∙ sym (soft_schedule s ds m e))
      at_loop ds m e (late b ms t o rest f opens is l n q s1 s2) =
          let j = judged_ok IsSyntactic _ 0 (store_of names) raw_front (front_size names) (front_rules names) (Stores names) s (judged_front names s) ds m e in
          let c = front_sound s j.0 m j.1 in
          late_whole (c.settings ++ c.token ∷ b) (the_schedule (j.0.0, c.token.start) ms) t o rest f opens
          (c.is_cut ∙ ap (λ z. c.settings ++> more c.token z) is ∙ sym (append_stream c.settings (c.token ∷ b) (more t rest)))
          (a_schedule c.settings b c.token j.0.0 ms c.spells c.is_colons l) (omega (arith, n)) q
          (soft_schedule s ds m e ∙ soft_tail_err ds (move_loop names p [] m) f s1) (hard_schedule s ds m e ∙ hard_tail_err ds _ (other (crowded t.start)) s2)

      at_store : (r : Read Breach (List Datum)) → store_of names s ≡ r → WholeCases s
      at_store (Err f) e = same_whole (failed_store s f e)
      at_store (Ok (ds, m)) e = at_loop ds m e (loop_cases (size m) [] m (omega arith))
