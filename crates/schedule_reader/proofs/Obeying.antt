-- A schedule that was read obeys its rules, part by part.
use Rattle.std.proofs.Common.{◌≡◌, ℕ, zero, suc, ◌<◌, ◌≤◌, ◌^◌, Bool, true, false, cond, List, [], ◌∷◌, ◌++◌, length, length-append, map, pos, Option, Some, None, Ok, Err, refl, sym, ap, subst, ◌∙◌, arith}
use Rattle.std.specs.Prelude.{⊤, not, nat_lt, unsigned_abs, neg_ℤ, slice_get, slice_set, replicate, if◌then◌else◌}
use Rattle.std.specs.Option.{option_map, option_and_then}
use Rattle.std.specs.List.{All}
use Rattle.std.proofs.lemmas.Bool.Decides.{nat_tests}
use Rattle.std.proofs.lemmas.List.Elements.{All-push}
use Rattle.st_linear.proofs.Dividing.{unsigned_abs-neg}
use Rattle.st_tokens.specs.Stream.{Stream, behind, text_stream}
use Rattle.st_reading.specs.declared.mark.Mark.TheVariants as marks
use Rattle.st_reading.specs.declared.sign.Sign.{Sign}
use Rattle.st_reading.specs.Sign.{is}
use Rattle.st_reading.specs.Reading.{Stop, other, Read, ◌>>=◌, Label, ahead, place_of, name_of, refusal, expected, at_end, gives, then_reads, on_operator, size}
use Rattle.st_form.specs.declared.conditions.Part.{Part}
use Rattle.st_form.specs.declared.conditions.TransName.{TransName}
use Rattle.st_form.specs.declared.conditions.TransName.TheVariants.{Idle, Step}
use Rattle.st_program.specs.declared.residuals.Datum.{Datum}
use Rattle.st_program.specs.declared.residuals.Datum.TheVariants.{Number, Truth}
use Rattle.st_program.specs.Names.{Names}
use Rattle.st_program.specs.Tree.{Statement, Processes, action}
use Rattle.st_program.specs.Spots.{statement_at}
use Rattle.expression_typer.specs.Naming.{is_text, variable_at, variable_named, names_of}
use Rattle.st_reading.proofs.Judged.{both, given, allowed, there}
use Rattle.st_reading.proofs.Numerals.{numeral_small, numeral_within}
use Rattle.st_reading.specs.Rule as rules
use Rattle.st_reading.specs.Breaches.{Breach, broke, Reader, unless, numeral_in, numeral_of, alone}
use Rattle.schedule_reader.specs.declared.moving.Opening.{Opening}
use Rattle.schedule_reader.specs.declared.moving.Opening.TheVariants.{Idling, Label as By, Number as Numbered}
use Rattle.schedule_reader.specs.Items.{items_from}
use Rattle.schedule_reader.specs.Values.{value_in, value_of, has_type, typed_of, IsWritten}
use Rattle.schedule_reader.specs.Settings.{Settings, is_set, unset_variable, unset_in, setting_of}
use Rattle.schedule_reader.specs.Moves.{opening_in, part_of, has_part, step_of, statement_of, named_by, move_of, next_move_of, too_many}
use Rattle.schedule_reader.specs.Schedules.{PlainSchedule, all_set, only_name, settings_of, store_of, moves_of, schedule_of, schedule_spelled}
use Rattle.schedule_reader.specs.Obeying.{IsName, Obeys}
use Rattle.basic_laws.proofs.Truths.{not_false}

module _ {A : Type 0} where
  abbrev taken : Option A → Stop Breach → Stream → Read Breach A
  taken o stop s = on_operator o (Err stop) (λ x. Ok (x, behind s))

  passed : (o : Option A) (stop : Stop Breach) (s : Stream) (y : A) (rest : Stream) → taken o stop s ≡ Ok (y, rest) → o ≡ Some y
  passed None stop s y rest h = absurd cc
  passed (Some x) stop s y rest h = ap Some (given x y (behind s) rest h)

-- what holds at first, and goes on to hold with each item, holds behind them all
module _ {O S : Type 0} (begins : Sign → Option O) (item : O → Label → S → Reader S) (P : S → Type 0)
    (keeps : (o : O) (l : Label) (x y : S) (s rest : Stream) → P x → item o l x s ≡ Ok (y, rest) → P y) where
  at_start : (next : S → Stream → Read Breach S) → ((x y : S) (s rest : Stream) → P x → next x s ≡ Ok (y, rest) → P y) → (b : Option O) (x y : S) (s rest : Stream) → P x
      → on_operator b (Ok (x, s)) (λ o. item o (name_of s) x (behind s) >>= λ z. next z.0 z.1) ≡ Ok (y, rest) → P y
  at_start next again None x y s rest h e = subst P (given x y s rest e) h
  at_start next again (Some o) x y s rest h e =
      let r = both (item o (name_of s) x (behind s)) (λ z. next z.0 z.1) (y, rest) e in
      again r.value.0 y r.value.1 rest (keeps o (name_of s) x r.value.0 (behind s) r.value.1 h r.first) r.second

  kept : (k : ℕ) (x y : S) (s rest : Stream) → P x → items_from begins item k x s ≡ Ok (y, rest) → P y
  unfolding items_from
  kept zero x y s rest h e = subst P (given x y s rest e) h
  kept (suc k) x y s rest h e = at_start (λ z m. items_from begins item k z m) (λ x y s rest h e. kept k x y s rest h e) (begins (ahead s)) x y s rest h e

-- values
module _ (s : Stream) (d : Datum) where
  number_written : (o : Option ℕ) → numeral_in (ahead s) ≡ o → option_map (λ n. Number (pos n)) o ≡ Some d → IsWritten d
  number_written None q h = cc
  number_written (Some n) q h = let e : Number (pos n) ≡ d = cc in subst IsWritten e (numeral_within s n q)

  token_written : value_in (ahead s) ≡ Some d → IsWritten d
  token_written h = at_true (is (ahead s) marks.True) h
    where
      at_false : (b : Bool) → cond b (Some (Truth false)) (option_map (λ n. Number (pos n)) (numeral_in (ahead s))) ≡ Some d → IsWritten d
      at_false true h = let e : Truth false ≡ d = cc in subst IsWritten e tt
      at_false false h = number_written (numeral_in (ahead s)) refl h

      at_true : (b : Bool) → cond b (Some (Truth true)) (cond (is (ahead s) marks.False) (Some (Truth false)) (option_map (λ n. Number (pos n)) (numeral_in (ahead s)))) ≡ Some d → IsWritten d
      at_true true h = let e : Truth true ≡ d = cc in subst IsWritten e tt
      at_true false h = at_false (is (ahead s) marks.False) h

  value_written : (rest : Stream) → value_of s ≡ Ok (d, rest) → IsWritten d
  unfolding value_of
  value_written rest h = at_minus (is (ahead s) marks.Minus) h
    where
      at_minus : (b : Bool) → cond b (then_reads numeral_of (λ n. gives (Number (neg_ℤ (pos n.0)))) (behind s)) (taken (value_in (ahead s)) (refusal s) s) ≡ Ok (d, rest) → IsWritten d
      at_minus true h =
          let r = both (numeral_of (behind s)) (λ x. gives (Number (neg_ℤ (pos x.0.0))) x.1) (d, rest) h in
          let n = numeral_small (behind s) r.value.0 r.value.1 r.first in
          let size : unsigned_abs (neg_ℤ (pos r.value.0.0)) ≤ 2 ^ 30 = omega (arith, unsigned_abs-neg (pos r.value.0.0), n) in
          subst IsWritten (given (Number (neg_ℤ (pos r.value.0.0))) d r.value.1 rest r.second) size
      at_minus false h = token_written (passed (value_in (ahead s)) (refusal s) s d rest h)

-- what is set for a variable of the type
abbrev Slot : Bool → Option Datum → Type 0
Slot truth None = ⊤
Slot truth (Some d) = (has_type truth d ≡ true) × IsWritten d

typed_slot : (truth : Bool) (s : Stream) (d : Datum) (rest : Stream) → typed_of truth s ≡ Ok (d, rest) → Slot truth (Some d)
unfolding typed_of
typed_slot truth s d rest h =
    let r = both (value_of s) (λ x. unless (not (has_type truth x.0)) (broke rules.WrongType (place_of s)) x.0 x.1) (d, rest) h in
    let a = allowed (not (has_type truth r.value.0)) (broke rules.WrongType (place_of s)) r.value.0 d r.value.1 rest r.second in
    subst (λ x. Slot truth (Some x)) a.1 (not_false (has_type truth r.value.0) a.0, value_written s r.value.0 r.value.1 r.first)

abbrev Variables : Type 0
Variables = List (List ℕ × Bool)

-- a slot for each variable
abbrev Meets : Variables → Settings → Type 0
Meets [] [] = ⊤
Meets [] (x ∷ xs) = ⊥
Meets (v ∷ vs) [] = ⊥
Meets (v ∷ vs) (x ∷ xs) = Slot v.1 x × Meets vs xs

meets_none : (vs : Variables) → Meets vs (replicate (length vs) None)
meets_none [] = tt
meets_none (v ∷ vs) = (tt, meets_none vs)

meets_set : (vs : Variables) (store : Settings) (v : ℕ) (x : List ℕ × Bool) (d : Datum) → slice_get vs v ≡ Some x → Slot x.1 (Some d) → Meets vs store → Meets vs (slice_set store v (Some d))
meets_set [] store v x d at slot m = cc
meets_set (y ∷ vs) [] v x d at slot m = absurd m
meets_set (y ∷ vs) (z ∷ store) zero x d at slot m = let e : x ≡ y = cc in (subst (λ t. Slot t.1 (Some d)) e slot, m.1)
meets_set (y ∷ vs) (z ∷ store) (suc v) x d at slot m = (m.0, meets_set vs store v x d at slot m.1)

-- the variable that is chosen
Found : Variables → ℕ × Bool → Type 0
Found vs v = (x : List ℕ × Bool) × (slice_get vs v.0 ≡ Some x) × (x.1 ≡ v.1)

unset_found : (store : Settings) (place : ℕ) (o : Option (ℕ × Bool)) (v : ℕ × Bool) → unset_variable store place o ≡ Ok v → o ≡ Some v
unset_found store place None v h = cc
unset_found store place (Some w) v h = at_set (is_set store w.0) h
  where
    at_set : (b : Bool) → (if b then Err (other (broke rules.Twice place)) else Ok w) ≡ Ok v → Some w ≡ Some v
    at_set true h = cc
    at_set false h = let e : w ≡ v = cc in ap Some e

place_found : (vs : Variables) (place : ℕ) (o : Option (List ℕ × Bool)) (v : ℕ × Bool) → slice_get vs place ≡ o → option_map (λ x. (place, x.1)) o ≡ Some v → Found vs v
unfolding Found
place_found vs place None v q h = cc
place_found vs place (Some x) v q h =
    let e : (place, x.1) ≡ v = cc in
    (x, ap (slice_get vs) (sym (ap (λ (w : ℕ × Bool). w.0) e)) ∙ q, ap (λ (w : ℕ × Bool). w.1) e)

variable_found : (names : Names) (text : List ℕ) (v : ℕ × Bool) → (names_of names).variable text ≡ Some v → Found names.variables v
variable_found names text v h = at_text (is_text text) h
  where
    at_place : (o : Option ℕ) → variable_at names.variables o ≡ Some v → Found names.variables v
    at_place None h = cc
    at_place (Some place) h = place_found names.variables place (slice_get names.variables place) v refl h

    at_text : (b : Bool) → (if b then variable_named names.variables text else None) ≡ Some v → Found names.variables v
    at_text true h = at_place _ h
    at_text false h = cc

setting_meets : (names : Names) (l : Label) (store after : Settings) (s rest : Stream) → Meets names.variables store → setting_of names l store s ≡ Ok (after, rest) → Meets names.variables after
unfolding setting_of Found
setting_meets names l store after s rest m h =
    let a = both (unset_in names store l) _ (after, rest) h in
    let b = both (expected marks.Equal s) _ (after, rest) a.second in
    let c = both (typed_of a.value.1 b.value.1) _ (after, rest) b.second in
    let e = both (expected marks.Semicolon c.value.1) _ (after, rest) c.second in
    let x = variable_found names l.text a.value (unset_found store l.place ((names_of names).variable l.text) a.value a.first) in
    let slot = subst (λ t. Slot t (Some c.value.0)) (sym x.2) (typed_slot a.value.1 b.value.1 c.value.0 c.value.1 c.first) in
    subst (Meets names.variables) (given (slice_set store a.value.0 (Some c.value.0)) after e.value.1 rest e.second)
    (meets_set names.variables store a.value.0 x.0 c.value.0 x.1 slot m)

-- all values
cons_all : (d : Datum) (ds : List Datum) → IsWritten d → All IsWritten ds → All IsWritten (d ∷ ds)
cons_all d ds e r zero x h = e
cons_all d ds e r (suc k) x h = r k x (omega (arith, h))

same_type : (truth : Bool) (d : Datum) → has_type truth d ≡ true → has_type true d ≡ truth
same_type true d h = h
same_type false (Number z) h = refl
same_type false (Truth b) h = cc

abbrev Valued : Variables → List Datum → Type 0
Valued vs ds = (map (has_type true) ds ≡ map (λ v. v.1) vs) × All IsWritten ds

all_valued : (vs : Variables) (store : Settings) (ds : List Datum) → Meets vs store → all_set store ≡ Some ds → Valued vs ds
all_valued [] [] ds m h = let e : [] ≡ ds = cc in subst (Valued []) e (refl, λ k x le. absurd (omega (arith, le)))
all_valued [] (x ∷ xs) ds m h = absurd m
all_valued (v ∷ vs) [] ds m h = absurd m
all_valued (v ∷ vs) (None ∷ xs) ds m h = cc
all_valued (v ∷ vs) (Some d ∷ xs) ds m h = at_rest (all_set xs) refl h (λ es q. all_valued vs xs es m.1 q)
  where
    at_rest : (o : Option (List Datum)) → all_set xs ≡ o → option_map (λ es. d ∷ es) o ≡ Some ds → ((es : List Datum) → all_set xs ≡ Some es → Valued vs es) → Valued (v ∷ vs) ds
    at_rest None q h again = cc
    at_rest (Some es) q h again =
        let e : d ∷ es ≡ ds = cc in
        let r = again es q in
        subst (Valued (v ∷ vs)) e (ap (λ b. b ∷ map (has_type true) es) (same_type v.1 d m.0.0) ∙ ap (λ bs. v.1 ∷ bs) r.0, cons_all d es m.0.1 r.1)

store_valued : (names : Names) (ds : List Datum) (s rest : Stream) → store_of names s ≡ Ok (ds, rest) → Valued names.variables ds
unfolding store_of settings_of
store_valued names ds s rest h =
    let start : Settings = replicate (length names.variables) None in
    let a = both (items_from only_name (λ o. setting_of names) (size s) start s) _ (ds, rest) h in
    let b = both (expected marks.Colons a.value.1) _ (ds, rest) a.second in
    let m = kept only_name (λ o. setting_of names) (Meets names.variables) (λ o l x y s rest m h. setting_meets names l x y s rest m h) (size s) start a.value.0 s a.value.1 (meets_none names.variables) a.first in
    all_valued names.variables a.value.0 ds m (there (broke rules.Unset b.value.0) (all_set a.value.0) ds b.value.1 rest b.second)

-- moves
module _ (names : Names) (p : Processes) where
  step_is : (o : ℕ) (q : Part) (m : TransName) → step_of p o q ≡ Some m → IsName p m
  step_is o q m h = subst (IsName p) (at_statement (statement_at p o) h) (h ∙ ap Some (sym (at_statement (statement_at p o) h)))
    where
      at_part : (b : Bool) → (if b then Some (Step o q) else None) ≡ Some m → Step o q ≡ m
      at_part true h = cc
      at_part false h = cc

      at_statement : (x : Option Statement) → option_and_then (λ s. if has_part (action s) q then Some (Step o q) else None) x ≡ Some m → Step o q ≡ m
      at_statement None h = cc
      at_statement (Some s) h = at_part (has_part (action s) q) h

  named_is : (x : Option ℕ) (part : Option Part) (m : TransName) → option_and_then (λ o. option_and_then (step_of p o) part) x ≡ Some m → IsName p m
  named_is None part m h = cc
  named_is (Some o) None m h = cc
  named_is (Some o) (Some q) m h = step_is o q m h

  move_named : (opening : Opening) (l : Label) (m : TransName) (s rest : Stream) → move_of names p opening l s ≡ Ok (m, rest) → IsName p m
  unfolding move_of
  move_named Idling l m s rest h = subst (IsName p) (given Idle m s rest h) tt
  move_named By l m s rest h =
      let a = both (part_of s) _ (m, rest) h in
      named_is (statement_of names By l) a.value.0 m (there (broke rules.UnknownTransition l.place) (named_by names p By l a.value.0) m a.value.1 rest a.second)
  move_named (Numbered n) l m s rest h =
      let a = both (part_of s) _ (m, rest) h in
      named_is (statement_of names (Numbered n) l) a.value.0 m (there (broke rules.UnknownTransition l.place) (named_by names p (Numbered n) l a.value.0) m a.value.1 rest a.second)

  abbrev Few : List TransName → Type 0
  Few moves = (length moves ≤ 1000) × All (IsName p) moves

  next_few : (opening : Opening) (l : Label) (moves after : List TransName) (s rest : Stream) → Few moves → next_move_of names p opening l moves s ≡ Ok (after, rest) → Few after
  unfolding next_move_of
  next_few opening l moves after s rest m h = at_test (nat_lt (length moves) 1000) refl h
    where
      at_test : (b : Bool) → nat_lt (length moves) 1000 ≡ b
          → cond b (then_reads (move_of names p opening l) (λ x. then_reads (expected marks.Semicolon) (λ z. gives (moves ++ x ∷ []))) s) (Err (too_many l.place (move_of names p opening l s))) ≡ Ok (after, rest) → Few after
      at_test true q h =
          let a = both (move_of names p opening l s) _ (after, rest) h in
          let b = both (expected marks.Semicolon a.value.1) _ (after, rest) a.second in
          let below : length moves < 1000 = grind (arith, nat_tests) in
          let size : length (moves ++ a.value.0 ∷ []) ≤ 1000 = omega (arith, below, length-append moves (a.value.0 ∷ [])) in
          subst Few (given (moves ++ a.value.0 ∷ []) after b.value.1 rest b.second) (size, All-push (IsName p) moves a.value.0 m.1 (move_named opening l a.value.0 s a.value.1 a.first))
      at_test false q h = cc

  moves_few : (moves : List TransName) (s rest : Stream) → moves_of names p s ≡ Ok (moves, rest) → Few moves
  unfolding moves_of
  moves_few moves s rest h =
      kept opening_in (next_move_of names p) Few (λ o l x y s rest m h. next_few o l x y s rest m h) (size s) [] moves s rest (omega arith, λ k x le. absurd (omega (arith, le))) h

  read_obeys : (x : PlainSchedule) (s rest : Stream) → schedule_of names p s ≡ Ok (x, rest) → Obeys names p x
  unfolding schedule_of
  read_obeys x s rest h =
      let a = both (store_of names s) _ (x, rest) h in
      let b = both (moves_of names p a.value.1) _ (x, rest) a.second in
      let c = both (at_end b.value.1) _ (x, rest) b.second in
      let v = store_valued names a.value.0 s a.value.1 a.first in
      let m = moves_few b.value.0 a.value.1 b.value.1 b.first in
      subst (Obeys names p) (given (record { store = a.value.0; moves = b.value.0 }) x c.value.1 rest c.second) (record { types = v.0; written = v.1; few = m.0; named = m.1 })

alone_read : (read : Read Breach PlainSchedule) (x : PlainSchedule) → alone read ≡ Ok x → (rest : Stream) × (read ≡ Ok (x, rest))
alone_read (Ok (y, rest)) x h = let e : y ≡ x = cc in (rest, ap (λ z. Ok (z, rest)) e)
alone_read (Err f) x h = absurd cc

pub schedule_obeys : (names : Names) (p : Processes) (text : List ℕ) (x : PlainSchedule) → schedule_spelled names p text ≡ Ok x → Obeys names p x
unfolding schedule_spelled
schedule_obeys names p text x h =
    let r = alone_read (schedule_of names p (text_stream text)) x h in
    read_obeys names p x (text_stream text) r.0 r.1
