-- Settings, judged and not, beside each other.
use Rattle.std.proofs.Common.{◌≡◌, ℕ, ◌+◌, ◌≤◌, Bool, true, false, cond, pos, List, [], ◌∷◌, ◌++◌, All, Option, Some, None, Result, Ok, Err, refl, sym, ap, subst, ◌∙◌, arith, append-nil}
use Rattle.std.specs.Prelude.{slice_set}
use Rattle.st_tokens.specs.Stream.{Lexeme, Stream, more, IsSpelled}
use Rattle.st_reading.specs.declared.mark.Mark.TheVariants as marks
use Rattle.st_reading.specs.declared.sign.Sign.{Sign}
use Rattle.st_reading.specs.Sign.{sign_of}
use Rattle.st_reading.specs.Reading.{Stop, ◌>>=◌, Label, ahead, size, label_of, is_name, expected, named, then_reads, gives}
use Rattle.st_reading.specs.Breaches.{Breach, Reader}
use Rattle.st_reading.specs.BrokenRules.{Broken}
use Rattle.st_reading.specs.Steady.{anything}
use Rattle.st_reading.proofs.Spelled.{more_spelled, one_spelled}
use Rattle.st_reading.proofs.Soundness.{split}
use Rattle.st_reading.proofs.Judging.{judged_bind}
use Rattle.st_reading.proofs.JudgedParts.{total, Turns, but_not, judged_shrinks, judged_expected, judged_loop}
use Rattle.st_program.specs.Names.{Names}
use Rattle.st_program.specs.declared.residuals.Datum.{Datum}
use Rattle.st_program.specs.declared.residuals.Datum.TheVariants.{Number}
use Rattle.schedule_reader.specs.Items.{items}
use Rattle.schedule_reader.specs.Values.{typed_of}
use Rattle.schedule_reader.specs.Settings.{Settings, unset_in, setting_of}
use Rattle.schedule_reader.specs.Schedules.{only_name}
use Rattle.schedule_grammar.specs.RawSchedules.{RawSetting, setting_size}
use Rattle.schedule_grammar.specs.Rules.{variable_of, name_rules, type_rules, setting_rules, settings_rules, put_value, put}
use Rattle.schedule_grammar.specs.FirstFault.{IsSyntactic}
use Rattle.schedule_grammar.proofs.Closed.{refusal_syntactic, Judged}
use Rattle.schedule_grammar.proofs.ItemLoops.{bind_same, items_none, items_step}
use Rattle.schedule_grammar.proofs.RawReaders.{the_value, raw_value, the_setting, raw_setting, raw_settings}
use Rattle.schedule_grammar.proofs.RawLaw.{setting_strict}
use Rattle.schedule_grammar.proofs.JudgedNames.{at_variable, chosen, judged_name}
use Rattle.schedule_grammar.proofs.JudgedValues.{judged_value}
use Rattle.schedule_grammar.proofs.JudgedEnds.{ended_by, short_ended, judged_ended}
use Rattle.schedule_grammar.proofs.Witnesses.{equal_token, semicolon_token, zero_token, equal_spelled, semicolon_spelled, zero_spelled, equal_is, semicolon_is}

-- A SETTING
zero_spelled_ended : All IsSpelled (zero_token ∷ semicolon_token ∷ [])
zero_spelled_ended = more_spelled zero_token (semicolon_token ∷ []) zero_spelled (one_spelled semicolon_token semicolon_spelled)

abbrev valued : Label → Reader RawSetting
valued l = then_reads raw_value (λ w. then_reads (expected marks.Semicolon) (λ z. gives (the_setting l w)))

abbrev equalled : Label → Reader RawSetting
equalled l = then_reads (expected marks.Equal) (λ e. valued l)

valued_by : (l : Label) (c : RawSetting) (s rest : Stream) → valued l s ≡ Ok (c, rest) → c.name ≡ l
valued_by l c s rest h =
    let p = split raw_value (λ w. then_reads (expected marks.Semicolon) (λ z. gives (the_setting l w))) s c rest h in
    ap (λ (x : RawSetting). x.name) (ended_by (the_setting l p.value) c p.middle rest p.second)

equalled_by : (l : Label) (c : RawSetting) (s rest : Stream) → equalled l s ≡ Ok (c, rest) → c.name ≡ l
equalled_by l c s rest h = let p = split (expected {X = Breach} marks.Equal) (λ e. valued l) s c rest h in valued_by l c p.middle rest p.second

module _ (names : Names) (store : Settings) where
  abbrev setter : ℕ × Bool → Datum → Reader Settings
  setter v d = then_reads (expected marks.Semicolon) (λ z. gives (slice_set store v.0 (Some d)))

  abbrev typer : ℕ × Bool → Reader Settings
  typer v = then_reads (typed_of v.1) (setter v)

  abbrev names_it : ℕ × Bool → Reader Settings
  names_it v = then_reads (expected marks.Equal) (λ e. typer v)

  abbrev pub front_setting : Reader Settings
  front_setting = then_reads (chosen names store) names_it

  abbrev Puts : RawSetting → Settings → Type 0
  Puts c y = y ≡ put names store c

  module _ (at : ℕ) where
    abbrev later_rules : Option (ℕ × Bool) → RawSetting → List (Broken Breach)
    later_rules o c = type_rules (at + 2 + c.value.size) c.value o

    module _ (l : Label) (v : ℕ × Bool) (is_v : variable_of names l ≡ Some v) where
      judged_valued : (s : Stream) → Judged anything (at + 1 + 1) (typer v) (valued l) (λ c. c.value.size + 1) (later_rules (Some v)) Puts s
      judged_valued s =
          judged_bind IsSyntactic anything anything (at + 1 + 1) (typed_of v.1) raw_value (λ w. w.size) (λ w. type_rules (at + 2 + w.size) w (Some v)) (λ w d. w.datum ≡ d) (setter v) (λ w. then_reads (expected marks.Semicolon) (λ z. gives (the_setting l w)))
          (λ c. c.value.size + 1) (later_rules (Some v)) Puts (λ w c. 1) (λ w c. [])
          (λ w c m rest h. ap (λ (x : RawSetting). x.value.size + 1) (ended_by (the_setting l w) c m rest h))
          (λ w c m rest h. ap (later_rules (Some v)) (ended_by (the_setting l w) c m rest h) ∙ sym (append-nil (type_rules (at + 2 + w.size) w (Some v))))
          (short_ended (the_setting l)) s
          (judged_value v (at + 1 + 1) (λ n. at + 2 + n) (λ n. omega arith) s)
          (λ ts w d rest is many e. judged_ended (at + 1 + 1 + w.size) (slice_set store v.0 (Some d)) (the_setting l w) Puts (ap (λ x. slice_set store v.0 (Some x)) (sym e) ∙ sym (ap (put_value store w.datum) is_v)) rest)

      judged_equalled : (s : Stream) → Judged anything (at + 1) (names_it v) (equalled l) (λ c. c.value.size + 2) (later_rules (Some v)) Puts s
      judged_equalled s =
          judged_bind IsSyntactic anything anything (at + 1) (expected marks.Equal) (expected marks.Equal) (λ n. 1) (λ n. []) (λ n k. k ≡ n) (λ e. typer v) (λ e. valued l) (λ c. c.value.size + 2) (later_rules (Some v)) Puts (λ n c. c.value.size + 1) (λ n c. later_rules (Some v) c)
          (λ n c m rest h. omega arith) (λ n c m rest h. refl)
          (record { text = λ n. zero_token ∷ semicolon_token ∷ []; spelled = λ n. zero_spelled_ended; value = λ n. the_setting l (the_value (Number (pos 0)) 0 1); begins = λ n after h. refl; reads = λ n after h. let e = semicolon_is in rw e refl }) s
          (judged_expected IsSyntactic refusal_syntactic anything (at + 1) marks.Equal s)
          (λ ts n k rest is many e. judged_valued rest)

    judged_setting : (s : Stream) → Judged anything at front_setting raw_setting setting_size (setting_rules names store at) Puts s
    judged_setting s =
        judged_bind IsSyntactic anything anything at (chosen names store) named (λ l. 1) (λ l. name_rules names store (at + 1) l (variable_of names l)) (λ l v. variable_of names l ≡ Some v) names_it equalled setting_size (setting_rules names store at) Puts
        (λ l c. c.value.size + 2) (λ l c. later_rules (variable_of names l) c)
        (λ l c m rest h. omega arith)
        (λ l c m rest h. ap (λ x. name_rules names store (at + 1) x (variable_of names x) ++ later_rules (variable_of names x) c) (equalled_by l c m rest h))
        (record { text = λ l. equal_token ∷ zero_token ∷ semicolon_token ∷ []; spelled = λ l. more_spelled equal_token (zero_token ∷ semicolon_token ∷ []) equal_spelled zero_spelled_ended; value = λ l. the_setting l (the_value (Number (pos 0)) 0 1); begins = λ l after h. refl; reads = λ l after h. let e = equal_is in let k = semicolon_is in rw (e, k) refl }) s
        (judged_name names store at s)
        (λ ts l v rest is many e. subst (λ o. Judged anything (at + 1) (names_it v) (equalled l) (λ c. c.value.size + 2) (later_rules o) Puts rest) (sym e) (judged_equalled l v e rest))

-- ALL SETTINGS
module _ (names : Names) where
  front_is : (store : Settings) (t : Lexeme) (s : Stream) → is_name (sign_of t) ≡ true → front_setting names store (more t s) ≡ setting_of names (label_of t) store s
  unfolding setting_of
  front_is store t s e = rw e (at_read (unset_in names store (label_of t)))
    where
      at_read : (r : Result (ℕ × Bool) (Stop Breach)) → (at_variable names store r s >>= λ v. names_it names store v.0 v.1) ≡ (r >>= λ v. names_it names store v s)
      at_read (Ok v) = refl
      at_read (Err f) = refl

  only_name_is : (g : Sign) → is_name g ≡ true → only_name g ≡ Some tt
  only_name_is g h = rw h refl

  is_only_name : (g : Sign) (o : Unit {0}) → only_name g ≡ Some o → is_name g ≡ true
  is_only_name g o h = at_test (is_name g) refl h
    where
      at_test : (b : Bool) → is_name g ≡ b → cond b (Some tt) None ≡ Some o → is_name g ≡ true
      at_test true e h = e
      at_test false e h = absurd cc

  setting_shrinks : (t : Lexeme) (o : Unit {0}) (store : Settings) (s : Stream) (y : Settings) (rest : Stream) → only_name (sign_of t) ≡ Some o → setting_of names (label_of t) store s ≡ Ok (y, rest) → size rest ≤ size s
  setting_shrinks t o store s y rest e h =
      let k = judged_shrinks IsSyntactic anything 0 (front_setting names store) raw_setting setting_size (setting_rules names store 0) (Puts names store) (λ c. omega arith) (more t s) (judged_setting names store 0 (more t s)) y rest (front_is store t s (is_only_name (sign_of t) o e) ∙ h) in
      omega (arith, k)

  abbrev pub setting_loop : Settings → Reader Settings
  setting_loop store s = items only_name (λ o. setting_of names) store s

  loop_none : (store : Settings) (s : Stream) → is_name (ahead s) ≡ false → setting_loop store s ≡ Ok (store, s)
  loop_none store s h = items_none only_name (λ o. setting_of names) (size s) store s (rw h refl)

  loop_step : (store : Settings) (t : Lexeme) (s : Stream) → is_name (sign_of t) ≡ true → setting_loop store (more t s) ≡ then_reads (front_setting names store) setting_loop (more t s)
  loop_step store t s h =
      items_step only_name (λ o. setting_of names) refl setting_shrinks t tt store s (only_name_is (sign_of t) h)
      ∙ bind_same (setting_of names (label_of t) store s) (front_setting names store (more t s)) (λ y m. setting_loop y m) (sym (front_is store t s h))

  pub judged_settings : (store : Settings) (at : ℕ) (s : Stream) → Judged (but_not is_name) at (setting_loop store) raw_settings (total setting_size) (settings_rules names store at) (Turns (λ x c y. y ≡ put names x c) store) s
  judged_settings store at s =
      judged_loop IsSyntactic is_name refl setting_loop (λ x. front_setting names x) raw_setting loop_none loop_step setting_strict setting_size (λ c. omega arith) (λ x c y. y ≡ put names x c) (λ x k. x ≡ k) (put names) (λ x y k a e made. made ∙ ap (λ z. put names z a) e)
      (λ k at c. setting_rules names k at c) (λ k at xs. settings_rules names k at xs) (λ k at. refl) (λ k at a xs. refl)
      (λ x k at e s. subst (λ k. Judged anything at (front_setting names x) raw_setting setting_size (setting_rules names k at) (λ c y. y ≡ put names x c) s) e (judged_setting names x at s)) store store at refl s
