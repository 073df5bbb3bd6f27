-- What the plain readers read is spelled.
use Rattle.std.proofs.Common.{◌≡◌, ℕ, Bool, true, false, cond, pos, List, [], ◌∷◌, ◌++◌, Option, Some, None, Ok, Err, refl, sym, ap, subst, ◌∙◌}
use Rattle.std.specs.Prelude.{neg_ℤ}
use Rattle.std.specs.Option.{option_map}
use Rattle.st_tokens.specs.Stream.{◌++>◌, Lexeme, Stream, ends, breaks, more, behind}
use Rattle.st_reading.specs.declared.mark.Mark.TheVariants as marks
use Rattle.st_reading.specs.declared.sign.Sign.{Sign}
use Rattle.st_reading.specs.declared.sign.Sign.TheVariants as signs
use Rattle.st_reading.specs.Sign.{sign_of, is}
use Rattle.st_reading.specs.Reading.{Read, ◌>>=◌, Label, ahead, place_of, label_of, is_name, refusal, expected, named, then_reads, gives, on_operator}
use Rattle.st_reading.specs.Spelling.{Cut, Sound, Both, behind_it, Is, IsName, OneName, one_name}
use Rattle.st_reading.specs.Breaches.{Breach, numeral_in, numeral_of}
use Rattle.st_reading.specs.Phrases.{Many}
use Rattle.st_reading.proofs.Streams.{append_stream}
use Rattle.st_reading.proofs.Soundness.{split, values, taken, sound_bind}
use Rattle.st_reading.proofs.ListSoundness.{OneMark, one_mark, Given, given, sound_as, sound_gives, sound_expected, sound_named}
use Rattle.st_reading.proofs.Whiles.{while_sound}
use Rattle.st_program.specs.declared.residuals.Datum.{Datum}
use Rattle.st_program.specs.declared.residuals.Datum.TheVariants.{Number, Truth}
use Rattle.schedule_reader.specs.declared.moving.Opening.{Opening}
use Rattle.schedule_reader.specs.declared.moving.Opening.TheVariants.{Idling, Label as By, Number as Numbered}
use Rattle.schedule_reader.specs.Values.{value_in}
use Rattle.schedule_reader.specs.Moves.{opening_in}
use Rattle.schedule_grammar.specs.RawSchedules.{RawValue, RawSetting, RawMove}
use Rattle.schedule_grammar.specs.Grammar.{IsValue, a_number, a_negative, is_true, is_false, IsSetting, sets, IsTarget, by_label, by_number, IsMove, idles, takes, takes_part, IsEnded, ends_move, IsRawSchedule, a_schedule}
use Rattle.schedule_grammar.proofs.RawReaders.{is_opening, raw_behind, raw_front, raw_move, raw_moves, raw_part, raw_schedule, raw_setting, raw_settings, raw_target, raw_value, the_move, the_schedule, the_setting, the_value}

pub is_numeral : (g : Sign) (n : ℕ) → numeral_in g ≡ Some n → g ≡ signs.Numeral n
is_numeral signs.Name n h = absurd cc
is_numeral (signs.Numeral k) n h = let e : k ≡ n = cc in ap signs.Numeral e
is_numeral signs.Other n h = absurd cc
is_numeral signs.Nothing n h = absurd cc
is_numeral (signs.Marked k) n h = absurd cc

value_spelled : (t : Lexeme) (d : Datum) → value_in (sign_of t) ≡ Some d → IsValue (t ∷ []) (the_value d t.start 1)
value_spelled t d h = at_true (is (sign_of t) marks.True) refl h
  where
    at_numeral : (o : Option ℕ) → numeral_in (sign_of t) ≡ o → option_map (λ n. Number (pos n)) o ≡ Some d → IsValue (t ∷ []) (the_value d t.start 1)
    at_numeral None e h = absurd cc
    at_numeral (Some n) e h = let k : Number (pos n) ≡ d = cc in subst (λ x. IsValue (t ∷ []) (the_value x t.start 1)) k (a_number t n (is_numeral (sign_of t) n e))

    at_false : (b : Bool) → is (sign_of t) marks.False ≡ b → cond b (Some (Truth false)) (option_map (λ n. Number (pos n)) (numeral_in (sign_of t))) ≡ Some d → IsValue (t ∷ []) (the_value d t.start 1)
    at_false true e h = let k : Truth false ≡ d = cc in subst (λ x. IsValue (t ∷ []) (the_value x t.start 1)) k (is_false t e)
    at_false false e h = at_numeral (numeral_in (sign_of t)) refl h

    at_true : (b : Bool) → is (sign_of t) marks.True ≡ b → cond b (Some (Truth true)) (cond (is (sign_of t) marks.False) (Some (Truth false)) (option_map (λ n. Number (pos n)) (numeral_in (sign_of t)))) ≡ Some d → IsValue (t ∷ []) (the_value d t.start 1)
    at_true true e h = let k : Truth true ≡ d = cc in subst (λ x. IsValue (t ∷ []) (the_value x t.start 1)) k (is_true t e)
    at_true false e h = at_false (is (sign_of t) marks.False) refl h

negative_sound : (t : Lexeme) → Is marks.Minus t → (v : RawValue) (s rest : Stream) → then_reads numeral_of (λ n. gives (the_value (Number (neg_ℤ (pos n.0))) t.start 2)) s ≡ Ok (v, rest) → Cut IsValue (more t s) v rest
unfolding numeral_of
negative_sound t m v (ends p) rest h = absurd cc
negative_sound t m v (breaks f) rest h = absurd cc
negative_sound t m v (more u s) rest h = at_sign (numeral_in (sign_of u)) refl h
  where
    at_sign : (o : Option ℕ) → numeral_in (sign_of u) ≡ o → (on_operator {A = Read Breach (ℕ × ℕ)} o (Err (refusal (more u s))) (λ n. Ok ((n, u.start), s)) >>= λ x. gives {X = Breach} (the_value (Number (neg_ℤ (pos x.0.0))) t.start 2) x.1) ≡ Ok (v, rest) → Cut IsValue (more t (more u s)) v rest
    at_sign None e h = absurd cc
    at_sign (Some n) e h = taken {X = Breach} IsValue (t ∷ u ∷ []) (gives (the_value (Number (neg_ℤ (pos n))) t.start 2) s) (the_value (Number (neg_ℤ (pos n))) t.start 2) v s rest refl h (a_negative t u n m (is_numeral (sign_of u) n e))

pub value_sound : Sound raw_value IsValue
value_sound s v rest h = at_minus s (is (ahead s) marks.Minus) refl h
  where
    at_single : (s : Stream) (o : Option Datum) → value_in (ahead s) ≡ o → on_operator {A = Read Breach RawValue} o (Err (refusal s)) (λ d. Ok (the_value d (place_of s) 1, behind s)) ≡ Ok (v, rest) → Cut IsValue s v rest
    at_single s None e h = absurd cc
    at_single (ends p) (Some d) e h = absurd cc
    at_single (breaks f) (Some d) e h = absurd cc
    at_single (more t s) (Some d) e h = taken {X = Breach} IsValue (t ∷ []) (gives (the_value d t.start 1) s) (the_value d t.start 1) v s rest refl h (value_spelled t d e)

    at_minus : (s : Stream) (b : Bool) → is (ahead s) marks.Minus ≡ b
        → cond b (then_reads numeral_of (λ n. gives (the_value (Number (neg_ℤ (pos n.0))) (place_of s) 2)) (behind s)) (on_operator (value_in (ahead s)) (Err (refusal s)) (λ d. Ok (the_value d (place_of s) 1, behind s))) ≡ Ok (v, rest) → Cut IsValue s v rest
    at_minus s false e h = at_single s (value_in (ahead s)) refl h
    at_minus (ends p) true e h = absurd cc
    at_minus (breaks f) true e h = absurd cc
    at_minus (more t s) true e h = negative_sound t e v s rest h

abbrev Ended : {A : Type 0} → A → List Lexeme → A → Type 0
Ended x = Both (OneMark marks.Semicolon) (λ z. Given x)

ended_sound : {A : Type 0} (x : A) → Sound (then_reads (expected {X = Breach} marks.Semicolon) (λ z. gives x)) (Ended x)
ended_sound x = sound_bind (expected marks.Semicolon) (λ z. gives x) (OneMark marks.Semicolon) (λ z. Given x) (sound_expected marks.Semicolon) (λ z. sound_gives x)

pub setting_sound : Sound raw_setting IsSetting
setting_sound =
    sound_as raw_setting (Both OneName (λ l. Both (OneMark marks.Equal) (λ e. Both IsValue (λ v. Ended (the_setting l v))))) IsSetting to
    (sound_bind named _ OneName _ sound_named (λ l. sound_bind (expected marks.Equal) _ (OneMark marks.Equal) _ (sound_expected marks.Equal) (λ e. sound_bind raw_value _ IsValue _ value_sound (λ v. ended_sound (the_setting l v)))))
  where
    to : (ts : List Lexeme) (x : RawSetting) → Both OneName (λ l. Both (OneMark marks.Equal) (λ e. Both IsValue (λ v. Ended (the_setting l v)))) ts x → IsSetting ts x
    to ts x (behind_it a b l y (one_name t h) (behind_it a2 b2 p y2 (one_mark e h2) (behind_it a3 b3 v y3 h3 (behind_it a4 b4 q y4 (one_mark z h4) given)))) = sets t e z a3 v h h2 h3 h4

pub target_spelled : (t : Lexeme) (o : Opening) → opening_in (sign_of t) ≡ Some o → (o ≡ Idling → Is marks.Minus t) × ((o ≡ Idling → ⊥) → IsTarget t o)
target_spelled t o h = at_minus (is (sign_of t) marks.Minus) refl h
  where
    at_numeral : (q : Option ℕ) → numeral_in (sign_of t) ≡ q → option_map Numbered q ≡ Some o → (o ≡ Idling → Is marks.Minus t) × ((o ≡ Idling → ⊥) → IsTarget t o)
    at_numeral None e h = absurd cc
    at_numeral (Some n) e h = let k : Numbered n ≡ o = cc in (λ i. absurd cc, λ i. subst (IsTarget t) k (by_number t n (is_numeral (sign_of t) n e)))

    at_name : (b : Bool) → is_name (sign_of t) ≡ b → cond b (Some By) (option_map Numbered (numeral_in (sign_of t))) ≡ Some o → (o ≡ Idling → Is marks.Minus t) × ((o ≡ Idling → ⊥) → IsTarget t o)
    at_name true e h = let k : By ≡ o = cc in (λ i. absurd cc, λ i. subst (IsTarget t) k (by_label t e))
    at_name false e h = at_numeral (numeral_in (sign_of t)) refl h

    at_minus : (b : Bool) → is (sign_of t) marks.Minus ≡ b → cond b (Some Idling) (cond (is_name (sign_of t)) (Some By) (option_map Numbered (numeral_in (sign_of t)))) ≡ Some o → (o ≡ Idling → Is marks.Minus t) × ((o ≡ Idling → ⊥) → IsTarget t o)
    at_minus true e h = let k : Idling ≡ o = cc in (λ i. e, λ i. absurd (i (sym k)))
    at_minus false e h = at_name (is_name (sign_of t)) refl h

-- what stands behind a target: nothing, or "." name
pub data IsPart : List Lexeme → Option Label → Type 0 where
  no_part : IsPart [] None
  a_part : (d n : Lexeme) → Is marks.Dot d → IsName n → IsPart (d ∷ n ∷ []) (Some (label_of n))

part_whole : (d : Lexeme) → Is marks.Dot d → (ts : List Lexeme) (l : Label) → OneName ts l → IsPart (d ∷ ts) (Some l)
part_whole d e ts l (one_name n f) = a_part d n e f

name_sound : (d : Lexeme) → Is marks.Dot d → (q : Option Label) (s rest : Stream) → then_reads {X = Breach} named (λ l. gives (Some l)) s ≡ Ok (q, rest) → Cut IsPart (more d s) q rest
name_sound d e q s rest h =
    let p = split {X = Breach} named (λ l. gives (Some l)) s q rest h in
    let c = sound_named {X = Breach} s p.value p.middle p.first in
    let v = values {X = Breach} (gives (Some p.value) p.middle) (Some p.value) q p.middle rest refl p.second in
    record { text = d ∷ c.text; is = ap (more d) (c.is ∙ ap (λ m. c.text ++> m) v.1); spells = subst (IsPart (d ∷ c.text)) v.0 (part_whole d e c.text p.value c.spells) }

pub part_sound : Sound raw_part IsPart
part_sound s q rest h = at_dot s (is (ahead s) marks.Dot) refl h
  where
    at_dot : (s : Stream) (b : Bool) → is (ahead s) marks.Dot ≡ b → cond b (then_reads {X = Breach} named (λ l. gives (Some l)) (behind s)) (Ok (None, s)) ≡ Ok (q, rest) → Cut IsPart s q rest
    at_dot s false e h = taken {X = Breach} IsPart [] (gives None s) None q s rest refl h no_part
    at_dot (ends p) true e h = absurd cc
    at_dot (breaks f) true e h = absurd cc
    at_dot (more d s) true e h = name_sound d e q s rest h

target_whole : (t : Lexeme) (o : Opening) → IsTarget t o → (ts : List Lexeme) (q : Option Label) → IsPart ts q → IsMove (t ∷ ts) (the_move o (label_of t) q)
target_whole t o l ts q no_part = takes t o l
target_whole t o l ts q (a_part d n e f) = takes_part t d n o l e f

pub target_sound : Sound raw_target IsMove
target_sound (ends p) m rest h = absurd cc
target_sound (breaks f) m rest h = absurd cc
target_sound (more t s) m rest h = at_opening (opening_in (sign_of t)) refl h
  where
    at_part : (o : Opening) → IsTarget t o → then_reads raw_part (λ q. gives (the_move o (label_of t) q)) s ≡ Ok (m, rest) → Cut IsMove (more t s) m rest
    at_part o l h =
        let p = split raw_part (λ q. gives (the_move o (label_of t) q)) s m rest h in
        let c = part_sound s p.value p.middle p.first in
        let v = values {X = Breach} (gives (the_move o (label_of t) p.value) p.middle) (the_move o (label_of t) p.value) m p.middle rest refl p.second in
        record { text = t ∷ c.text; is = ap (more t) (c.is ∙ ap (λ m. c.text ++> m) v.1); spells = subst (IsMove (t ∷ c.text)) v.0 (target_whole t o l c.text p.value c.spells) }

    at_opening : (o : Option Opening) → opening_in (sign_of t) ≡ o → on_operator {A = Read Breach RawMove} o (Err (refusal (more t s))) (λ o. raw_behind o (label_of t) s) ≡ Ok (m, rest) → Cut IsMove (more t s) m rest
    at_opening None e h = absurd cc
    at_opening (Some Idling) e h = taken {X = Breach} IsMove (t ∷ []) (gives (the_move Idling (label_of t) None) s) (the_move Idling (label_of t) None) m s rest refl h (idles t ((target_spelled t Idling e).0 refl))
    at_opening (Some By) e h = at_part By ((target_spelled t By e).1 (λ i. absurd cc)) h
    at_opening (Some (Numbered n)) e h = at_part (Numbered n) ((target_spelled t (Numbered n) e).1 (λ i. absurd cc)) h

pub move_sound : Sound raw_move IsEnded
move_sound = sound_as raw_move (Both IsMove (λ m. Ended m)) IsEnded to (sound_bind raw_target _ IsMove _ target_sound (λ m. ended_sound m))
  where
    to : (ts : List Lexeme) (m : RawMove) → Both IsMove (λ m. Ended m) ts m → IsEnded ts m
    to ts m (behind_it a b x y h (behind_it a2 b2 p y2 (one_mark z h2) given)) = ends_move a z x h h2

-- { setting } "::"
pub record FrontCut (s : Stream) (f : List RawSetting × ℕ) (rest : Stream) : Type 0 where
  pub settings : List Lexeme
  pub token : Lexeme
  pub is_cut : s ≡ settings ++> more token rest
  pub spells : Many IsSetting settings f.0
  pub is_colons : Is marks.Colons token
  pub place : token.start ≡ f.1

pub front_sound : (s : Stream) (f : List RawSetting × ℕ) (rest : Stream) → raw_front s ≡ Ok (f, rest) → FrontCut s f rest
front_sound s f rest h =
    let q = split raw_settings (λ ss. then_reads (expected marks.Colons) (λ c. gives (ss, c))) s f rest h in
    let r = split (expected marks.Colons) (λ c. gives (q.value, c)) q.middle f rest q.second in
    let a = while_sound is_name raw_setting IsSetting setting_sound s q.value q.middle q.first in
    let c = sound_expected {X = Breach} marks.Colons q.middle r.value r.middle r.first in
    let v = values {X = Breach} (gives (q.value, r.value) r.middle) (q.value, r.value) f r.middle rest refl r.second in
    cut a.text c.text a.is a.spells c.is c.spells v.0 v.1
  where
    cut : (a c : List Lexeme) {ss : List RawSetting} {n : ℕ} {m m2 : Stream} → s ≡ a ++> m → Many IsSetting a ss → m ≡ c ++> m2 → OneMark marks.Colons c n → (ss, n) ≡ f → m2 ≡ rest → FrontCut s f rest
    cut a c {ss} {n} is l is2 (one_mark t e) same same2 =
        record { settings = a; token = t; is_cut = is ∙ ap (λ z. a ++> z) (is2 ∙ ap (more t) same2); spells = subst (λ (z : List RawSetting × ℕ). Many IsSetting a z.0) same l; is_colons = e; place = ap (λ (z : List RawSetting × ℕ). z.1) same }

whole_spelled : (a b : List Lexeme) (t : Lexeme) (f : List RawSetting × ℕ) (ms : List RawMove) → Many IsSetting a f.0 → Is marks.Colons t → t.start ≡ f.1 → Many IsEnded b ms → IsRawSchedule (a ++ t ∷ b) (the_schedule f ms)
whole_spelled a b t f ms l e n m = subst (λ k. IsRawSchedule (a ++ t ∷ b) (record { settings = f.0; colons = k; moves = ms })) n (a_schedule a b t f.0 ms l e m)

pub schedule_sound : Sound raw_schedule IsRawSchedule
schedule_sound s x rest h =
    let p = split raw_front (λ f. then_reads raw_moves (λ ms. gives (the_schedule f ms))) s x rest h in
    let f = front_sound s p.value p.middle p.first in
    let u = split raw_moves (λ ms. gives (the_schedule p.value ms)) p.middle x rest p.second in
    let b = while_sound is_opening raw_move IsEnded move_sound p.middle u.value u.middle u.first in
    let v = values {X = Breach} (gives (the_schedule p.value u.value) u.middle) (the_schedule p.value u.value) x u.middle rest refl u.second in
    record {
      text = f.settings ++ f.token ∷ b.text;
      is = f.is_cut ∙ ap (λ m. f.settings ++> more f.token m) (b.is ∙ ap (λ m. b.text ++> m) v.1) ∙ sym (append_stream f.settings (f.token ∷ b.text) rest);
      spells = subst (IsRawSchedule (f.settings ++ f.token ∷ b.text)) v.0 (whole_spelled f.settings b.text f.token p.value u.value f.spells f.is_colons f.place b.spells);
    }
