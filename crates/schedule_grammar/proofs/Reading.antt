-- What is spelled is read, and what is read is spelled.
use Rattle.std.proofs.Common.{◌≡◌, ℕ, List, [], ◌∷◌, map, Some, Ok, Err, refl, sym, ap, subst, ◌∙◌}
use Rattle.st_tokens.specs.Stream.{◌++>◌, Stream, ends, breaks, more, text_stream}
use Rattle.st_reading.specs.Reading.{other, Read, then_reads, gives, at_end, whole}
use Rattle.st_reading.specs.Breaches.{Breach, crowded, alone}
use Rattle.st_reading.proofs.Soundness.{split, values}
use Rattle.st_reading.proofs.Steadiness.{bind_ok}
use Rattle.st_reading.proofs.JudgedParts.{but_not, judged_ok, judged_raw}
use Rattle.st_reading.proofs.Refusing.{not_both}
use Rattle.st_form.specs.declared.conditions.TransName.{TransName}
use Rattle.st_program.specs.Names.{Names}
use Rattle.st_program.specs.Tree.{Processes}
use Rattle.st_program.specs.declared.residuals.Datum.{Datum}
use Rattle.schedule_reader.specs.Schedules.{PlainSchedule, schedule_of, schedule_spelled}
use Rattle.schedule_grammar.specs.RawSchedules.{RawSchedule}
use Rattle.schedule_grammar.specs.Rules.{broken_rules, IsScheduled}
use Rattle.schedule_grammar.specs.FirstFault.{IsSyntactic}
use Rattle.schedule_grammar.specs.Theorems.{SpellsSchedule, SpelledSchedulesAreRead, ReadSchedulesAreSpelled}
use Rattle.schedule_grammar.proofs.RawReaders.{is_opening, raw_schedule}
use Rattle.schedule_grammar.proofs.RawReading.{schedule_sound}
use Rattle.schedule_grammar.proofs.RawCompleteness.{schedule_complete}
use Rattle.schedule_grammar.proofs.Whole.{body, schedule_size, judged_body}
use Rattle.schedule_grammar.proofs.Excess.{WholeCases, same_whole, late_whole, whole_cases}

some_same : (xs ys : List TransName) → map (λ n. Some n) xs ≡ map (λ n. Some n) ys → xs ≡ ys
some_same [] [] h = refl
some_same [] (y ∷ ys) h = absurd cc
some_same (x ∷ xs) [] h = absurd cc
some_same (x ∷ xs) (y ∷ ys) h =
    let a : x ≡ y = cc in
    let b : map (λ n. Some n) xs ≡ map (λ n. Some n) ys = cc in
    let c = some_same xs ys b in cc

alone_read : (r : Read Breach PlainSchedule) (x : PlainSchedule) → alone r ≡ Ok x → (rest : Stream) × (r ≡ Ok (x, rest))
alone_read (Ok (y, rest)) x h = let e : y ≡ x = cc in (rest, ap (λ z. Ok (z, rest)) e)
alone_read (Err f) x h = absurd cc

at_the_end : (x : PlainSchedule) (q : ℕ) → then_reads {X = Breach} at_end (λ e. gives x) (ends q) ≡ Ok (x, ends q)
unfolding at_end
at_the_end x q = refl

is_at_end : (x y : PlainSchedule) (s rest : Stream) → then_reads {X = Breach} at_end (λ e. gives x) s ≡ Ok (y, rest) → (x ≡ y) × ((q : ℕ) × (s ≡ ends q))
unfolding at_end
is_at_end x y (ends q) rest h = ((values {X = Breach} (gives x (ends q)) x y (ends q) rest refl h).0, (q, refl))
is_at_end x y (breaks f) rest h = absurd cc
is_at_end x y (more t s) rest h = absurd cc

module _ (names : Names) (p : Processes) where
  one_scheduled : (raw : RawSchedule) (x y : PlainSchedule) → IsScheduled names p raw x → IsScheduled names p raw y → x ≡ y
  one_scheduled raw x y h k =
      let a : Some x.store ≡ Some y.store = sym h.store ∙ k.store in
      let s : x.store ≡ y.store = cc in
      let m = some_same x.moves y.moves (sym h.moves ∙ k.moves) in
      ap (λ (z : List Datum). record { store = z; moves = x.moves }) s ∙ ap (λ (z : List TransName). record { store = y.store; moves = z }) m

  read_whole : (s : Stream) (x : PlainSchedule) (q : ℕ) → body names p s ≡ Ok (x, ends q) → schedule_of names p s ≡ Ok (x, ends q)
  read_whole s x q h = at_case (whole_cases names p s)
    where
      at : whole (body names p) s ≡ Ok (x, ends q)
      at = bind_ok (body names p) (λ x. then_reads at_end (λ e. gives x)) s x (ends q) h ∙ at_the_end x q

      at_case : WholeCases names p s → schedule_of names p s ≡ Ok (x, ends q)
      at_case (same_whole e) = e ∙ at
      at_case (late_whole front raw t o rest f opens is l n syntactic soft hard) = absurd (not_both (whole (body names p) s) (x, ends q) f at soft)

  whole_read : (s : Stream) (x : PlainSchedule) (rest : Stream) → schedule_of names p s ≡ Ok (x, rest) → whole (body names p) s ≡ Ok (x, rest)
  whole_read s x rest h = at_case (whole_cases names p s)
    where
      at_case : WholeCases names p s → whole (body names p) s ≡ Ok (x, rest)
      at_case (same_whole e) = sym e ∙ h
      at_case (late_whole front raw t o r f opens is l n syntactic soft hard) = absurd (not_both (schedule_of names p s) (x, rest) (other (crowded t.start)) h hard)

  spelled_is_read : (text : List ℕ) (x : PlainSchedule) → SpellsSchedule names p text x → schedule_spelled names p text ≡ Ok x
  unfolding schedule_spelled
  spelled_is_read text x h =
      let s = h.tokens ++> ends h.place in
      let r = schedule_complete h.tokens h.raw h.spells (ends h.place) refl in
      let k = judged_raw IsSyntactic (but_not is_opening) 0 (body names p) raw_schedule (schedule_size names p) (broken_rules names p) (IsScheduled names p) s (judged_body names p s) h.raw (ends h.place) r h.lawful in
      ap (λ z. alone (schedule_of names p z)) h.has ∙ ap alone (read_whole s k.0 h.place k.1) ∙ ap Ok (one_scheduled h.raw k.0 x k.2 h.scheduled)

  read_is_spelled : (text : List ℕ) (x : PlainSchedule) → schedule_spelled names p text ≡ Ok x → SpellsSchedule names p text x
  unfolding schedule_spelled
  read_is_spelled text x h =
      let s = text_stream text in
      let r = alone_read (schedule_of names p s) x h in
      let q = split (body names p) (λ x. then_reads at_end (λ e. gives x)) s x r.0 (whole_read s x r.0 r.1) in
      let e = is_at_end q.value x q.middle r.0 q.second in
      let k = judged_ok IsSyntactic (but_not is_opening) 0 (body names p) raw_schedule (schedule_size names p) (broken_rules names p) (IsScheduled names p) s (judged_body names p s) q.value q.middle q.first in
      let c = schedule_sound s k.0 q.middle k.1 in
      record { tokens = c.text; place = e.1.0; has = c.is ∙ ap (λ m. c.text ++> m) e.1.1; raw = k.0; spells = c.spells; lawful = k.3; scheduled = subst (IsScheduled names p k.0) e.0 k.2 }

pub spelled_schedules_are_read : SpelledSchedulesAreRead
spelled_schedules_are_read names p text x h = spelled_is_read names p text x h

pub read_schedules_are_spelled : ReadSchedulesAreSpelled
read_schedules_are_spelled names p text x h = read_is_spelled names p text x h
