-- Moves, judged and not, beside each other.
use Rattle.std.proofs.Common.{◌≡◌, ℕ, suc, ◌+◌, ◌≤◌, Bool, true, false, cond, List, [], ◌∷◌, ◌++◌, length, length-append, Option, Some, None, Ok, Err, refl, sym, ap, subst, ◌∙◌, arith, append-nil}
use Rattle.std.specs.Prelude.{nat_lt, is_some}
use Rattle.st_tokens.specs.Stream.{Lexeme, Stream, more}
use Rattle.st_reading.specs.declared.mark.Mark.TheVariants as marks
use Rattle.st_reading.specs.declared.sign.Sign.{Sign}
use Rattle.st_reading.specs.Mark.{number}
use Rattle.st_reading.specs.Sign.{sign_of}
use Rattle.st_reading.specs.Reading.{◌>>=◌, Label, ahead, size, label_of, expected, then_reads, gives}
use Rattle.st_reading.specs.Breaches.{Breach, Reader}
use Rattle.st_reading.specs.Steady.{anything}
use Rattle.st_reading.proofs.Spelled.{one_spelled}
use Rattle.st_reading.proofs.Tokens.{but}
use Rattle.st_reading.proofs.Judging.{judged_bind}
use Rattle.st_reading.proofs.JudgedParts.{total, Turns, but_not, judged_shrinks, judged_loop}
use Rattle.st_form.specs.declared.conditions.TransName.{TransName}
use Rattle.st_program.specs.Names.{Names}
use Rattle.st_program.specs.Tree.{Processes}
use Rattle.schedule_reader.specs.declared.moving.Opening.{Opening}
use Rattle.schedule_reader.specs.Items.{items}
use Rattle.schedule_reader.specs.Moves.{opening_in, move_of}
use Rattle.schedule_grammar.specs.RawSchedules.{RawMove, move_size}
use Rattle.schedule_grammar.specs.Rules.{transition_of, move_rules, moves_rules}
use Rattle.schedule_grammar.specs.FirstFault.{IsSyntactic}
use Rattle.schedule_grammar.proofs.Closed.{Judged}
use Rattle.schedule_grammar.proofs.ItemLoops.{bind_same, items_none, items_step}
use Rattle.schedule_grammar.proofs.RawReaders.{raw_target, raw_move, raw_moves, is_opening}
use Rattle.schedule_grammar.proofs.RawLaw.{move_strict}
use Rattle.schedule_grammar.proofs.JudgedEnds.{ended_by, judged_ended}
use Rattle.schedule_grammar.proofs.JudgedTargets.{soft_many, target_of, Named, judged_target}
use Rattle.schedule_grammar.proofs.Witnesses.{semicolon_token, semicolon_spelled}

abbrev pub whole_size : RawMove → ℕ
whole_size m = move_size m + 1

pub none_opens : (g : Sign) → is_opening g ≡ false → opening_in g ≡ None
none_opens g h = at_option (opening_in g) refl h
  where
    at_option : (o : Option Opening) → opening_in g ≡ o → is_some (opening_in g) ≡ false → opening_in g ≡ None
    at_option None e h = e
    at_option (Some o) e h = let yes : is_some (opening_in g) ≡ true = rw e refl in absurd cc

pub one_opens : (g : Sign) → is_opening g ≡ true → (o : Opening) × (opening_in g ≡ Some o)
one_opens g h = at_option (opening_in g) refl h
  where
    at_option : (o : Option Opening) → opening_in g ≡ o → is_some (opening_in g) ≡ true → (o : Opening) × (opening_in g ≡ Some o)
    at_option None e h = let no : is_some (opening_in g) ≡ false = rw e refl in absurd cc
    at_option (Some o) e h = (o, e)

module _ (names : Names) (p : Processes) where
  -- a further move where no room is left breaks off as the grammar has it
  unfoldable pub soft_next : Opening → Label → List TransName → Reader (List TransName)
  soft_next o l ms s =
      cond (nat_lt (length ms) 1000)
      (then_reads (move_of names p o l) (λ m. then_reads (expected marks.Semicolon) (λ z. gives (ms ++ m ∷ []))) s)
      (Err (soft_many l.place (move_of names p o l s)))

  -- A MOVE AND ITS ";"
  abbrev pub front_move : List TransName → Reader (List TransName)
  front_move ms = then_reads (target_of names p (length ms)) (λ n. then_reads (expected marks.Semicolon) (λ z. gives (ms ++ n ∷ [])))

  abbrev pub Adds : List TransName → RawMove → List TransName → Type 0
  Adds ms m ys = (n : TransName) × (transition_of names p m ≡ Some n) × (ys ≡ ms ++ n ∷ [])

  pub judged_move : (ms : List TransName) (at : ℕ) (s : Stream) → Judged anything at (front_move ms) raw_move whole_size (move_rules names p (length ms) at) (Adds ms) s
  unfolding number
  judged_move ms at s =
      judged_bind IsSyntactic (but marks.Dot) anything at (target_of names p (length ms)) raw_target move_size (move_rules names p (length ms) at) (Named names p) (λ n. then_reads (expected marks.Semicolon) (λ z. gives (ms ++ n ∷ []))) (λ m. then_reads (expected marks.Semicolon) (λ z. gives m))
      whole_size (move_rules names p (length ms) at) (Adds ms) (λ m c. 1) (λ m c. [])
      (λ m c z rest h. ap whole_size (ended_by m c z rest h))
      (λ m c z rest h. ap (move_rules names p (length ms) at) (ended_by m c z rest h) ∙ sym (append-nil (move_rules names p (length ms) at m)))
      (record { text = λ m. semicolon_token ∷ []; spelled = λ m. one_spelled semicolon_token semicolon_spelled; value = λ m. m; begins = λ m after h. refl; reads = λ m after h. refl }) s
      (judged_target names p (length ms) at s)
      (λ ts m n rest is many e. judged_ended (at + move_size m) (ms ++ n ∷ []) m (Adds ms) (n, e, refl) rest)

  -- ALL MOVES
  pub front_is : (ms : List TransName) (t : Lexeme) (o : Opening) (s : Stream) → opening_in (sign_of t) ≡ Some o → front_move ms (more t s) ≡ soft_next o (label_of t) ms s
  unfolding soft_next
  front_is ms t o s e = rw e (at_room (nat_lt (length ms) 1000))
    where
      at_room : (b : Bool) → (cond b (move_of names p o (label_of t) s) (Err (soft_many t.start (move_of names p o (label_of t) s))) >>= λ n. then_reads {X = Breach} (expected marks.Semicolon) (λ z. gives (ms ++ n.0 ∷ [])) n.1)
          ≡ cond b (then_reads (move_of names p o (label_of t)) (λ n. then_reads (expected marks.Semicolon) (λ z. gives (ms ++ n ∷ []))) s) (Err (soft_many t.start (move_of names p o (label_of t) s)))
      at_room true = refl
      at_room false = refl

  pub move_shrinks : (t : Lexeme) (o : Opening) (ms : List TransName) (s : Stream) (y : List TransName) (rest : Stream) → opening_in (sign_of t) ≡ Some o → soft_next o (label_of t) ms s ≡ Ok (y, rest) → size rest ≤ size s
  move_shrinks t o ms s y rest e h =
      let k = judged_shrinks IsSyntactic anything 0 (front_move ms) raw_move whole_size (move_rules names p (length ms) 0) (Adds ms) (λ c. omega arith) (more t s) (judged_move ms 0 (more t s)) y rest (front_is ms t o s e ∙ h) in
      omega (arith, k)

  abbrev pub move_loop : List TransName → Reader (List TransName)
  move_loop ms s = items opening_in soft_next ms s

  loop_none : (ms : List TransName) (s : Stream) → is_opening (ahead s) ≡ false → move_loop ms s ≡ Ok (ms, s)
  loop_none ms s h = items_none opening_in soft_next (size s) ms s (none_opens (ahead s) h)

  pub loop_step : (ms : List TransName) (t : Lexeme) (s : Stream) → is_opening (sign_of t) ≡ true → move_loop ms (more t s) ≡ then_reads (front_move ms) move_loop (more t s)
  loop_step ms t s h =
      let o = one_opens (sign_of t) h in
      items_step opening_in soft_next refl move_shrinks t o.0 ms s o.1
      ∙ bind_same (soft_next o.0 (label_of t) ms s) (front_move ms (more t s)) (λ y m. move_loop y m) (sym (front_is ms t o.0 s o.1))

  pub judged_moves : (ms : List TransName) (at : ℕ) (s : Stream) → Judged (but_not is_opening) at (move_loop ms) raw_moves (total whole_size) (moves_rules names p (length ms) at) (Turns Adds ms) s
  judged_moves ms at s =
      judged_loop IsSyntactic is_opening refl move_loop front_move raw_move loop_none loop_step move_strict whole_size (λ c. omega arith) Adds (λ x k. length x ≡ k) (λ k a. suc k)
      (λ x y k a e made. ap length made.2 ∙ length-append x (made.0 ∷ []) ∙ omega (arith, e))
      (λ k at m. move_rules names p k at m) (λ k at xs. moves_rules names p k at xs) (λ k at. refl) (λ k at a xs. refl)
      (λ x k at e s. subst (λ k. Judged anything at (front_move x) raw_move whole_size (move_rules names p k at) (Adds x) s) e (judged_move x at s)) ms (length ms) at refl s
