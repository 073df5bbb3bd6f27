-- A text is refused exactly for its first fault.
use Rattle.std.proofs.Common.{◌≡◌, ℕ, List, [], ◌∷◌, ◌++◌, length, Option, Some, None, Ok, Err, refl, sym, ap, subst, ◌∙◌, append_assoc, append-nil}
use Rattle.st_tokens.specs.Stream.{◌++>◌, Lexeme, Stream, ends, more, text_stream}
use Rattle.st_reading.specs.Sign.{sign_of}
use Rattle.st_reading.specs.Reading.{Stop, other, Read, label_of, then_reads, gives, at_end, whole}
use Rattle.st_reading.specs.Breaches.{Breach, crowded, alone}
use Rattle.st_reading.specs.Phrases.{Many, none_more, one_more}
use Rattle.st_reading.specs.Theorem.{Begins, IsFirst}
use Rattle.st_reading.proofs.Spelled.{one_spelled}
use Rattle.st_reading.proofs.Streams.{append_stream}
use Rattle.st_reading.proofs.Soundness.{values}
use Rattle.st_reading.proofs.Steadiness.{bind_err}
use Rattle.st_reading.proofs.Stops.{beyond}
use Rattle.st_reading.proofs.JudgedParts.{but_not}
use Rattle.st_reading.proofs.Refusing.{same_stop, Stopped, by_rule, by_stop, stopped_so, breaks_stop, stops_stop}
use Rattle.st_program.specs.Names.{Names}
use Rattle.st_program.specs.Tree.{Processes}
use Rattle.schedule_reader.specs.declared.moving.Opening.{Opening}
use Rattle.schedule_reader.specs.declared.moving.Opening.TheVariants.{Idling, Label as By, Number as Numbered}
use Rattle.schedule_reader.specs.Moves.{opening_in}
use Rattle.schedule_reader.specs.Schedules.{PlainSchedule, schedule_of, schedule_spelled}
use Rattle.schedule_grammar.specs.RawSchedules.{RawMove, RawSchedule}
use Rattle.schedule_grammar.specs.Grammar.{IsEnded, ends_move, idles, takes, IsRawSchedule, a_schedule}
use Rattle.schedule_grammar.specs.Rules.{broken_rules, IsScheduled}
use Rattle.schedule_grammar.specs.FirstFault.{IsSyntactic, IsBegun, Breaks, Ends, IsFirstFault, breaks_rule, goes_no_further, too_many}
use Rattle.schedule_grammar.specs.Theorems.{SchedulesFirstFault}
use Rattle.schedule_grammar.proofs.Closed.{refusal_syntactic, no_breach}
use Rattle.schedule_grammar.proofs.RawReaders.{the_move, is_opening, raw_schedule}
use Rattle.schedule_grammar.proofs.RawReading.{target_spelled, schedule_sound}
use Rattle.schedule_grammar.proofs.RawCompleteness.{schedule_complete}
use Rattle.schedule_grammar.proofs.RawLaw.{raw_first}
use Rattle.schedule_grammar.proofs.Witnesses.{semicolon_token, semicolon_spelled, semicolon_is}
use Rattle.schedule_grammar.proofs.Whole.{body, schedule_size, judged_body}
use Rattle.schedule_grammar.proofs.Excess.{WholeCases, same_whole, late_whole, whole_cases}
use Rattle.schedule_grammar.proofs.Begun.{begun_stops}

-- A FURTHER MOVE
push : {A : Type 0} (L : List Lexeme → A → Type 0) (b : List Lexeme) (ms : List A) (a : List Lexeme) (m : A) → Many L b ms → L a m → Many L (b ++ a) (ms ++ m ∷ [])
push L b ms a m none_more l = subst (λ (z : List Lexeme). Many L z (m ∷ [])) (append-nil a) (one_more a [] m [] l none_more)
push L b zs a m (one_more c d x xs k rest) l = subst (λ (z : List Lexeme). Many L z (x ∷ xs ++ m ∷ [])) (sym (append_assoc c d a)) (one_more c (d ++ a) x (xs ++ m ∷ []) k (push L d xs a m rest l))

ended : (t : Lexeme) (o : Opening) → opening_in (sign_of t) ≡ Some o → (m : RawMove) × IsEnded (t ∷ semicolon_token ∷ []) m
ended t Idling e = (the_move Idling (label_of t) None, ends_move (t ∷ []) semicolon_token (the_move Idling (label_of t) None) (idles t ((target_spelled t Idling e).0 refl)) semicolon_is)
ended t By e = (the_move By (label_of t) None, ends_move (t ∷ []) semicolon_token (the_move By (label_of t) None) (takes t By ((target_spelled t By e).1 (λ i. absurd cc))) semicolon_is)
ended t (Numbered n) e = (the_move (Numbered n) (label_of t) None, ends_move (t ∷ []) semicolon_token (the_move (Numbered n) (label_of t) None) (takes t (Numbered n) ((target_spelled t (Numbered n) e).1 (λ i. absurd cc))) semicolon_is)

goes_over : (front : List Lexeme) (raw : RawSchedule) → IsRawSchedule front raw → (t : Lexeme) (o : Opening) → opening_in (sign_of t) ≡ Some o → Begins IsRawSchedule (front ++ t ∷ [])
goes_over front raw (a_schedule a b c ss ms l e k) t o opens =
    let m = ended t o opens in
    let same : ((a ++ c ∷ b) ++ t ∷ []) ++ semicolon_token ∷ [] ≡ a ++ c ∷ (b ++ t ∷ semicolon_token ∷ []) = append_assoc (a ++ c ∷ b) (t ∷ []) (semicolon_token ∷ []) ∙ append_assoc a (c ∷ b) (t ∷ semicolon_token ∷ []) in (
      semicolon_token ∷ [],
      one_spelled semicolon_token semicolon_spelled,
      record { settings = ss; colons = c.start; moves = ms ++ m.0 ∷ [] },
      subst (λ (z : List Lexeme). IsRawSchedule z (record { settings = ss; colons = c.start; moves = ms ++ m.0 ∷ [] })) (sym same) (a_schedule a (b ++ t ∷ semicolon_token ∷ []) c ss (ms ++ m.0 ∷ []) l e (push IsEnded b ms (t ∷ semicolon_token ∷ []) m.0 k m.1)),
    )

-- what begins a move
must_open : (front : List Lexeme) (raw : RawSchedule) → IsRawSchedule front raw → (t : Lexeme) (others : List Lexeme) (raw2 : RawSchedule) → IsRawSchedule (front ++ t ∷ others) raw2 → (o : Opening) × (opening_in (sign_of t) ≡ Some o)
must_open front raw l t others raw2 l2 = at_option (opening_in (sign_of t)) refl
  where
    at_option : (x : Option Opening) → opening_in (sign_of t) ≡ x → (o : Opening) × (opening_in (sign_of t) ≡ Some o)
    at_option (Some o) e = (o, e)
    at_option None e =
        let one : raw_schedule (front ++> more t (others ++> ends 0)) ≡ Ok (raw, more t (others ++> ends 0)) = schedule_complete front raw l (more t (others ++> ends 0)) (rw e refl) in
        let two : raw_schedule (front ++> more t (others ++> ends 0)) ≡ Ok (raw2, ends 0) = ap raw_schedule (sym (append_stream front (t ∷ others) (ends 0))) ∙ schedule_complete (front ++ t ∷ others) raw2 l2 (ends 0) refl in
        let v = values (raw_schedule (front ++> more t (others ++> ends 0))) raw raw2 (more t (others ++> ends 0)) (ends 0) one two in
        let bad : more t (others ++> ends 0) ≡ ends 0 = v.1 in
        absurd cc

-- Complete texts of the plain reader.
whole_complete : (ts : List Lexeme) (x : RawSchedule) → IsRawSchedule ts x → raw_schedule (ts ++> ends 0) ≡ Ok (x, ends 0)
whole_complete ts x l = schedule_complete ts x l (ends 0) refl

module _ (names : Names) (p : Processes) (s : Stream) where
  abbrev StoppedBy : Stop Breach → Type 0
  StoppedBy f = Stopped IsSyntactic refusal_syntactic (but_not is_opening) refl IsRawSchedule (body names p) raw_schedule (schedule_size names p) (broken_rules names p) (IsScheduled names p) schedule_sound whole_complete raw_first (judged_body names p) s f

  stopped_by : (f : Stop Breach) → whole (body names p) s ≡ Err f → StoppedBy f
  stopped_by f h = stopped_so IsSyntactic refusal_syntactic (but_not is_opening) refl IsRawSchedule (body names p) raw_schedule (schedule_size names p) (broken_rules names p) (IsScheduled names p) schedule_sound whole_complete raw_first (judged_body names p) s f h

  breach_stops : (breach : Breach) → Breaks names p s breach → whole (body names p) s ≡ Err (other breach)
  breach_stops breach b =
      bind_err (body names p) (λ x. then_reads at_end (λ e. gives x)) s (other breach)
      (breaks_stop IsSyntactic refusal_syntactic (but_not is_opening) refl IsRawSchedule (body names p) raw_schedule (schedule_size names p) (broken_rules names p) (IsScheduled names p) schedule_sound whole_complete raw_first (judged_body names p) s breach b)

  end_stops : (f : Stop Breach) → Ends names p s f → whole (body names p) s ≡ Err f
  end_stops f h = stops_stop IsSyntactic refusal_syntactic (but_not is_opening) refl IsRawSchedule (body names p) raw_schedule (schedule_size names p) (broken_rules names p) (IsScheduled names p) schedule_sound whole_complete raw_first (judged_body names p) no_breach s f h

  -- a further move than 1,000, where the grammar doesn't go on and no rule is broken before
  begun_fault : (f : Stop Breach) → IsSyntactic f → whole (body names p) s ≡ Err f → (first : IsFirst IsRawSchedule s f) (place : ℕ) → IsBegun first.text place → schedule_of names p s ≡ Err (other (crowded place))
  begun_fault f syntactic h first place b =
      let cut : s ≡ b.front ++> more b.token (b.others ++> first.rest) = first.is ∙ ap (λ (z : List Lexeme). z ++> first.rest) b.is_cut ∙ append_stream b.front (b.token ∷ b.others) first.rest in
      let same : first.text ++ first.begins.0 ≡ b.front ++ b.token ∷ (b.others ++ first.begins.0) = ap (λ (z : List Lexeme). z ++ first.begins.0) b.is_cut ∙ append_assoc b.front (b.token ∷ b.others) first.begins.0 in
      let o = must_open b.front b.raw b.spells b.token (b.others ++ first.begins.0) first.begins.2 (subst (λ (z : List Lexeme). IsRawSchedule z first.begins.2) same first.begins.3) in
      ap (schedule_of names p) cut
      ∙ begun_stops names p f syntactic b.front b.raw b.spells b.many b.token o.0 o.1 (b.others ++> first.rest) (ap (whole (body names p)) (sym cut) ∙ h)
      ∙ ap (λ n. Err (other (crowded n))) b.named

  -- and one that is begun behind these tokens
  is_begun : (f : Stop Breach) → IsSyntactic f → (first : IsFirst IsRawSchedule s f) (front : List Lexeme) (raw : RawSchedule) → IsRawSchedule front raw → length raw.moves ≡ 1000 → (t : Lexeme) (o : Opening) → opening_in (sign_of t) ≡ Some o → (rest : Stream) → s ≡ front ++> more t rest → IsBegun first.text t.start
  is_begun f syntactic first front raw l n t o opens rest is =
      let over = goes_over front raw l t o opens in
      let further = beyond IsRawSchedule s f (no_breach f syntactic) first front t rest is over.0 over.2 over.3 in
      record { front = front; raw = raw; spells = l; many = n; token = t; others = further.0; is_cut = further.1; named = refl }

  -- where the grammar doesn't go on, no rule is broken before
  sound_at : (f : Stop Breach) → IsSyntactic f → whole (body names p) s ≡ Err f → (breach : Breach) → Breaks names p s breach → ⊥
  sound_at f syntactic h breach b = no_breach f syntactic breach (same_stop (whole (body names p) s) f (other breach) h (breach_stops breach b))

  -- A FAULT IS THE FIRST
  to_first : (f : Stop Breach) → schedule_of names p s ≡ Err f → IsFirstFault names p s f
  to_first f h = at_case (whole_cases names p s)
    where
      at_same : whole (body names p) s ≡ Err f → StoppedBy f → IsFirstFault names p s f
      at_same k (by_rule breach e b) = subst (IsFirstFault names p s) (sym e) (breaks_rule breach b)
      at_same k (by_stop syntactic first) =
          goes_no_further f (record { plain = syntactic; first = first; sound = sound_at f syntactic k }) (λ place b.
          no_breach f syntactic (crowded place) (same_stop (schedule_of names p s) f (other (crowded place)) h (begun_fault f syntactic k first place b)))

      at_late : (g : Stop Breach) → IsSyntactic g → whole (body names p) s ≡ Err g → (front : List Lexeme) (raw : RawSchedule) → IsRawSchedule front raw → length raw.moves ≡ 1000 → (t : Lexeme) (o : Opening) → opening_in (sign_of t) ≡ Some o → (rest : Stream) → s ≡ front ++> more t rest → StoppedBy g → IsFirstFault names p s (other (crowded t.start))
      at_late g syntactic k front raw l n t o opens rest is (by_rule breach e b) = absurd (no_breach g syntactic breach e)
      at_late g syntactic k front raw l n t o opens rest is (by_stop q first) =
          too_many g (record { plain = syntactic; first = first; sound = sound_at g syntactic k }) t.start (is_begun g syntactic first front raw l n t o opens rest is)

      at_case : WholeCases names p s → IsFirstFault names p s f
      at_case (same_whole e) = at_same (sym e ∙ h) (stopped_by f (sym e ∙ h))
      at_case (late_whole front raw t o rest g opens is l n syntactic soft hard) =
          subst (IsFirstFault names p s) (same_stop (schedule_of names p s) (other (crowded t.start)) f hard h) (at_late g syntactic soft front raw l n t o opens rest is (stopped_by g soft))

  -- AND THE FIRST IS THE FAULT
  from_first : (f : Stop Breach) → IsFirstFault names p s f → schedule_of names p s ≡ Err f
  from_first f (breaks_rule breach b) = at_case (whole_cases names p s)
    where
      at_case : WholeCases names p s → schedule_of names p s ≡ Err (other breach)
      at_case (same_whole e) = e ∙ breach_stops breach b
      at_case (late_whole front raw t o rest g opens is l n syntactic soft hard) = absurd (sound_at g syntactic soft breach b)
  from_first f (goes_no_further g stop none) = at_case (whole_cases names p s)
    where
      at_case : WholeCases names p s → schedule_of names p s ≡ Err g
      at_case (same_whole e) = e ∙ end_stops g stop
      at_case (late_whole front raw t o rest h opens is l n syntactic soft hard) = absurd (none t.start (is_begun g stop.plain stop.first front raw l n t o opens rest is))
  from_first f (too_many g stop place b) = begun_fault g stop.plain (end_stops g stop) stop.first place b

alone_stops : (r : Read Breach PlainSchedule) (f : Stop Breach) → alone r ≡ Err f → r ≡ Err f
alone_stops (Ok x) f h = absurd cc
alone_stops (Err g) f h = cc

pub schedules_first_fault : SchedulesFirstFault
unfolding schedule_spelled
schedules_first_fault names p text f = (
  λ h. to_first names p (text_stream text) f (alone_stops (schedule_of names p (text_stream text)) f h),
  λ h. ap alone (from_first names p (text_stream text) f h),
)
