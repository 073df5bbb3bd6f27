-- Whole schedules, judged and not, beside each other.
use Rattle.std.proofs.Common.{◌≡◌, ℕ, ◌+◌, Bool, true, false, List, [], ◌∷◌, ◌++◌, map, Option, Some, None, Ok, Err, refl, sym, ap, subst, ◌∙◌, arith, append-nil, append_assoc}
use Rattle.std.specs.Prelude.{is_none}
use Rattle.st_tokens.specs.Stream.{Lexeme, Stream, ends, breaks, more}
use Rattle.st_reading.specs.declared.mark.Mark.TheVariants as marks
use Rattle.st_reading.specs.Sign.{sign_of, is}
use Rattle.st_reading.specs.Reading.{ahead, size, is_name, refusal, expected, then_reads, gives}
use Rattle.st_reading.specs.Rule as rules
use Rattle.st_reading.specs.Breaches.{Breach, broke, Reader, present}
use Rattle.st_reading.specs.BrokenRules.{Broken}
use Rattle.st_reading.specs.Steady.{anything}
use Rattle.st_reading.proofs.Spelled.{none_spelled, one_spelled}
use Rattle.st_reading.proofs.Soundness.{split, values}
use Rattle.st_reading.proofs.Judging.{good, judged_bind}
use Rattle.st_reading.proofs.JudgedParts.{total, Turns, but_not, not_tested, judged_gives}
use Rattle.st_reading.proofs.Whiles.{while_none}
use Rattle.st_form.specs.declared.conditions.TransName.{TransName}
use Rattle.st_program.specs.Names.{Names}
use Rattle.st_program.specs.Tree.{Processes}
use Rattle.st_program.specs.declared.residuals.Datum.{Datum}
use Rattle.schedule_reader.specs.Settings.{Settings}
use Rattle.schedule_reader.specs.Schedules.{PlainSchedule, all_set, settings_of, store_of}
use Rattle.schedule_grammar.specs.RawSchedules.{RawSetting, RawMove, RawSchedule, setting_size}
use Rattle.schedule_grammar.specs.Rules.{found_at, breaks_where, behind_settings, put, put_all, settings_rules, nothing_set, transition_of, moves_rules, broken_rules, IsScheduled}
use Rattle.schedule_grammar.specs.FirstFault.{IsSyntactic}
use Rattle.schedule_grammar.proofs.Closed.{Judged, both_refuse, breaks_at}
use Rattle.schedule_grammar.proofs.RawReaders.{raw_settings, raw_front, raw_move, raw_moves, is_opening, the_schedule, raw_schedule}
use Rattle.schedule_grammar.proofs.JudgedSettings.{setting_loop, judged_settings}
use Rattle.schedule_grammar.proofs.JudgedMoves.{Adds, whole_size, move_loop, judged_moves}
use Rattle.schedule_grammar.proofs.Witnesses.{colons_token, colons_spelled, colons_is}

behind_is : (at : ℕ) (ss : List RawSetting) → behind_settings at ss ≡ at + total setting_size ss
behind_is at [] = omega arith
behind_is at (s ∷ ss) = omega (arith, behind_is (at + setting_size s) ss)

module _ (names : Names) where
  puts : (x : Settings) (ss : List RawSetting) (y : Settings) → Turns (λ x c y. y ≡ put names x c) x ss y → y ≡ put_all names x ss
  puts x [] y h = sym h
  puts x (s ∷ ss) y h = puts h.0 ss y h.2 ∙ ap (λ z. put_all names z ss) h.1

  -- "::", with each variable set
  abbrev colons : Settings → Reader (List Datum)
  colons y = then_reads (expected marks.Colons) (λ place. present (broke rules.Unset place) (all_set y))

  abbrev raw_colons : List RawSetting → Reader (List RawSetting × ℕ)
  raw_colons ss = then_reads (expected marks.Colons) (λ c. gives (ss, c))

  abbrev pub unset_rules : List RawSetting × ℕ → List (Broken Breach)
  unset_rules f = breaks_where (is_none (all_set (put_all names (nothing_set names) f.0))) (found_at (behind_settings 0 f.0 + 1) (broke rules.Unset f.1)) []

  abbrev pub front_rules : List RawSetting × ℕ → List (Broken Breach)
  front_rules f = settings_rules names (nothing_set names) 0 f.0 ++ unset_rules f

  abbrev pub front_size : List RawSetting × ℕ → ℕ
  front_size f = total setting_size f.0 + 1

  abbrev pub Stores : List RawSetting × ℕ → List Datum → Type 0
  Stores f ds = all_set (put_all names (nothing_set names) f.0) ≡ Some ds

  module _ (ss : List RawSetting) (y : Settings) (is_y : y ≡ put_all names (nothing_set names) ss) where
    abbrev JudgedColons : Stream → Type 0
    JudgedColons s = Judged anything (0 + total setting_size ss) (colons y) (raw_colons ss) (λ f. 1) unset_rules Stores s

    at_colons : (t : Lexeme) (s : Stream) → is (sign_of t) marks.Colons ≡ true → (o : Option (List Datum)) → all_set y ≡ o → JudgedColons (more t s)
    at_colons t s e (Some ds) k =
        let here : all_set (put_all names (nothing_set names) ss) ≡ Some ds = ap all_set (sym is_y) ∙ k in
        good (t ∷ []) (ss, t.start) ds s refl (λ after h. rw e refl) (λ after h. rw (e, k) refl) refl (rw here refl) here
    at_colons t s e None k =
        let here : all_set (put_all names (nothing_set names) ss) ≡ None = ap all_set (sym is_y) ∙ k in
        breaks_at anything (0 + total setting_size ss) (colons y) (raw_colons ss) (λ f. 1) unset_rules Stores t [] s (ss, t.start) (found_at (behind_settings 0 ss + 1) (broke rules.Unset t.start)) [] (omega (arith, behind_is 0 ss)) (rw here refl)
        (λ after. rw e refl) (λ after. rw (e, k) refl)

    refused : (s : Stream) → colons y s ≡ Err (refusal s) → raw_colons ss s ≡ Err (refusal s) → JudgedColons s
    refused s h k = both_refuse anything (0 + total setting_size ss) (colons y) (raw_colons ss) (λ f. 1) unset_rules Stores s h k

    judged_colons : (s : Stream) → JudgedColons s
    judged_colons (ends p) = refused (ends p) refl refl
    judged_colons (breaks f) = refused (breaks f) refl refl
    judged_colons (more t s) = at_test (is (sign_of t) marks.Colons) refl
      where
        at_test : (b : Bool) → is (sign_of t) marks.Colons ≡ b → JudgedColons (more t s)
        at_test true e = at_colons t s e (all_set y) refl
        at_test false e = refused (more t s) (rw e refl) (rw e refl)

  colons_by : (ss : List RawSetting) (f : List RawSetting × ℕ) (s rest : Stream) → raw_colons ss s ≡ Ok (f, rest) → f.0 ≡ ss
  colons_by ss f s rest h =
      let p = split (expected {X = Breach} marks.Colons) (λ c. gives (ss, c)) s f rest h in
      let v = values {X = Breach} (gives (ss, p.value) p.middle) (ss, p.value) f p.middle rest refl p.second in
      ap (λ (x : List RawSetting × ℕ). x.0) (sym v.0)

  pub judged_front : (s : Stream) → Judged anything 0 (store_of names) raw_front front_size front_rules Stores s
  unfolding store_of settings_of
  judged_front s =
      judged_bind IsSyntactic (but_not is_name) anything 0 (setting_loop names (nothing_set names)) raw_settings (total setting_size) (settings_rules names (nothing_set names) 0) (Turns (λ x c y. y ≡ put names x c) (nothing_set names)) colons raw_colons front_size front_rules Stores
      (λ ss f. 1) (λ ss f. unset_rules f)
      (λ ss f m rest h. ap (λ z. total setting_size z + 1) (colons_by ss f m rest h))
      (λ ss f m rest h. ap (λ z. settings_rules names (nothing_set names) 0 z ++ unset_rules f) (colons_by ss f m rest h))
      (record { text = λ ss. colons_token ∷ []; spelled = λ ss. one_spelled colons_token colons_spelled; value = λ ss. (ss, 0); begins = λ ss after h. refl; reads = λ ss after h. let e = colons_is in rw e refl }) s
      (judged_settings names (nothing_set names) 0 s)
      (λ ts ss y rest is many made. judged_colons ss y (puts (nothing_set names) ss y made) rest)

  module _ (p : Processes) where
    record Moved (xs : List TransName) (ms : List RawMove) (ys : List TransName) : Type 0 where
      pub news : List TransName
      pub joined : ys ≡ xs ++ news
      pub named : map (transition_of names p) ms ≡ map (λ n. Some n) news

    moved : (xs : List TransName) (ms : List RawMove) (ys : List TransName) → Turns (Adds names p) xs ms ys → Moved xs ms ys
    moved xs [] ys h = record { news = []; joined = sym h ∙ sym (append-nil xs); named = refl }
    moved xs (m ∷ ms) ys h =
        let z = h.0 in let a = h.1 in
        let r = moved z ms ys h.2 in
        record {
          news = a.0 ∷ r.news;
          joined = r.joined ∙ ap (λ w. w ++ r.news) a.2 ∙ append_assoc xs (a.0 ∷ []) r.news;
          named = ap (λ o. o ∷ map (transition_of names p) ms) a.1 ∙ ap (λ w. Some a.0 ∷ w) r.named;
        }

    abbrev pub the_plain : List Datum → List TransName → PlainSchedule
    the_plain ds ms = record { store = ds; moves = ms }

    abbrev pub moves_body : List Datum → Reader PlainSchedule
    moves_body ds = then_reads (move_loop names p []) (λ ms. gives (the_plain ds ms))

    abbrev raw_body : List RawSetting × ℕ → Reader RawSchedule
    raw_body f = then_reads raw_moves (λ ms. gives (the_schedule f ms))

    abbrev pub body : Reader PlainSchedule
    body = then_reads (store_of names) moves_body

    abbrev later_rules : List RawSetting × ℕ → RawSchedule → List (Broken Breach)
    later_rules f c = moves_rules names p 0 (behind_settings 0 f.0 + 1) c.moves

    abbrev pub schedule_size : RawSchedule → ℕ
    schedule_size c = front_size (c.settings, c.colons) + total whole_size c.moves

    body_by : (f : List RawSetting × ℕ) (c : RawSchedule) (s rest : Stream) → raw_body f s ≡ Ok (c, rest) → c ≡ the_schedule f c.moves
    body_by f c s rest h =
        let q = split raw_moves (λ ms. gives (the_schedule f ms)) s c rest h in
        let v = values {X = Breach} (gives (the_schedule f q.value) q.middle) (the_schedule f q.value) c q.middle rest refl q.second in
        sym v.0 ∙ ap (λ (x : RawSchedule). the_schedule f x.moves) v.0

    judged_rest : (f : List RawSetting × ℕ) (ds : List Datum) → Stores f ds → (s : Stream) → Judged (but_not is_opening) (0 + front_size f) (moves_body ds) (raw_body f) (λ c. total whole_size c.moves) (later_rules f) (IsScheduled names p) s
    judged_rest f ds stored s =
        let at : ℕ = 0 + front_size f in
        let same : behind_settings 0 f.0 + 1 ≡ 0 + front_size f = omega (arith, behind_is 0 f.0) in
        judged_bind IsSyntactic (but_not is_opening) (but_not is_opening) (0 + front_size f) (move_loop names p []) raw_moves (total whole_size) (moves_rules names p 0 (behind_settings 0 f.0 + 1)) (Turns (Adds names p) []) (λ ms. gives (the_plain ds ms)) (λ ms. gives (the_schedule f ms))
        (λ c. total whole_size c.moves) (later_rules f) (IsScheduled names p) (λ ms c. 0) (λ ms c. [])
        (λ ms c m rest h. let v = values {X = Breach} (gives (the_schedule f ms) m) (the_schedule f ms) c m rest refl h in ap (λ (x : RawSchedule). total whole_size x.moves) (sym v.0) ∙ omega arith)
        (λ ms c m rest h. let v = values {X = Breach} (gives (the_schedule f ms) m) (the_schedule f ms) c m rest refl h in ap (later_rules f) (sym v.0) ∙ sym (append-nil (moves_rules names p 0 (behind_settings 0 f.0 + 1) ms)))
        (record { text = λ ms. []; spelled = λ ms. none_spelled; value = λ ms. the_schedule f ms; begins = λ ms after h. h; reads = λ ms after h. refl }) s
        (subst (λ n. Judged (but_not is_opening) n (move_loop names p []) raw_moves (total whole_size) (moves_rules names p 0 (behind_settings 0 f.0 + 1)) (Turns (Adds names p) []) s) same (judged_moves names p [] (behind_settings 0 f.0 + 1) s))
        (λ ts ms ys rest is many made.
        let k = moved [] ms ys made in
        judged_gives IsSyntactic (but_not is_opening) (0 + front_size f + total whole_size ms) (the_plain ds ys) (the_schedule f ms) (λ c. 0) (λ c. []) (IsScheduled names p) refl refl
        (record { store = stored; moves = k.named ∙ ap (λ z. map (λ n. Some n) z) (sym k.joined) }) rest)

    pub judged_body : (s : Stream) → Judged (but_not is_opening) 0 body raw_schedule schedule_size (broken_rules names p) (IsScheduled names p) s
    judged_body s =
        judged_bind IsSyntactic anything (but_not is_opening) 0 (store_of names) raw_front front_size front_rules Stores moves_body raw_body schedule_size (broken_rules names p) (IsScheduled names p)
        (λ f c. total whole_size c.moves) (λ f c. later_rules f c)
        (λ f c m rest h. ap schedule_size (body_by f c m rest h))
        (λ f c m rest h. ap (broken_rules names p) (body_by f c m rest h) ∙ sym (append_assoc (settings_rules names (nothing_set names) 0 f.0) (unset_rules f) (later_rules f c)))
        (record { text = λ f. []; spelled = λ f. none_spelled; value = λ f. the_schedule f []; begins = λ f after h. refl; reads = λ f after h. none f after h }) s
        (judged_front s)
        (λ ts f ds rest is many made. judged_rest f ds made rest)
      where
        none : (f : List RawSetting × ℕ) (after : Stream) → but_not is_opening (ahead after) ≡ true → raw_body f after ≡ Ok (the_schedule f [], after)
        none f after h = let k = while_none is_opening raw_move (size after) after (not_tested is_opening (ahead after) h) in rw k refl
