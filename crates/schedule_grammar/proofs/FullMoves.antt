-- A further move where 1,000 are read: the code says that it is too many where the judging reader breaks off, else it does the same.
use Rattle.std.proofs.Common.{◌≡◌, ℕ, suc, Bool, true, false, cond, List, [], ◌∷◌, length, length-append, Option, Some, None, Ok, Err, ◌⊎◌, inl, inr, refl, sym, ap, subst, ◌∙◌, arith}
use Rattle.std.specs.Prelude.{nat_lt}
use Rattle.st_tokens.specs.Stream.{Lexeme, Stream, more, behind}
use Rattle.st_reading.specs.declared.mark.Mark.TheVariants as marks
use Rattle.st_reading.specs.Sign.{sign_of, is}
use Rattle.st_reading.specs.Reading.{Stop, syntax, broken, other, Read, ◌>>=◌, Label, ahead, label_of, name_of, is_name, refusal, named, then_reads, gives}
use Rattle.st_reading.specs.Rule as rules
use Rattle.st_reading.specs.Breaches.{Breach, broke, crowded, present}
use Rattle.st_reading.proofs.JudgedParts.{judged_ok}
use Rattle.st_form.specs.declared.conditions.Part.{Part}
use Rattle.st_form.specs.declared.conditions.Part.TheVariants.{Whole}
use Rattle.st_form.specs.declared.conditions.TransName.{TransName}
use Rattle.st_program.specs.Names.{Names}
use Rattle.st_program.specs.Tree.{Processes}
use Rattle.assertions.specs.Labels.{part_named}
use Rattle.schedule_reader.specs.declared.moving.Opening.{Opening}
use Rattle.schedule_reader.specs.declared.moving.Opening.TheVariants.{Idling, Label as By, Number as Numbered}
use Rattle.schedule_reader.specs.Moves.{opening_in, part_of, named_by, move_of, too_many, next_move_of}
use Rattle.schedule_grammar.specs.RawSchedules.{RawMove}
use Rattle.schedule_grammar.specs.Rules.{move_rules}
use Rattle.schedule_grammar.specs.FirstFault.{IsSyntactic}
use Rattle.schedule_grammar.proofs.Closed.{refusal_syntactic}
use Rattle.schedule_grammar.proofs.RawReaders.{raw_move}
use Rattle.schedule_grammar.proofs.JudgedTargets.{soft_many}
use Rattle.schedule_grammar.proofs.JudgedMoves.{whole_size, soft_next, front_move, front_is, Adds, judged_move}

module _ (names : Names) (p : Processes) where
  part_plain : (s : Stream) (f : Stop Breach) → part_of s ≡ Err f → IsSyntactic f
  unfolding part_of
  part_plain s f h = at_dot (is (ahead s) marks.Dot) h
    where
      at_name : (b : Bool) → (cond b (gives {X = Breach} (name_of (behind s)) (behind (behind s))) (Err (refusal (behind s))) >>= λ l. gives {X = Breach} (part_named l.0.text) l.1) ≡ Err f → IsSyntactic f
      at_name true h = absurd cc
      at_name false h = let e : refusal (behind s) ≡ f = cc in subst IsSyntactic e (refusal_syntactic (behind s))

      at_dot : (b : Bool) → cond b (then_reads named (λ l. gives (part_named l.text)) (behind s)) (Ok (Some Whole, s)) ≡ Err f → IsSyntactic f
      at_dot true h = at_name (is_name (ahead (behind s))) h
      at_dot false h = absurd cc

  abbrev IsKnown : Stop Breach → Type 0
  IsKnown f = IsSyntactic f ⊎ ((q : ℕ) × (f ≡ other (broke rules.UnknownTransition q)))

  judged_part : (fault : ℕ) (look : Option Part → Option TransName) (s : Stream) (f : Stop Breach) → then_reads part_of (λ part. present (broke rules.UnknownTransition fault) (look part)) s ≡ Err f → IsKnown f
  judged_part fault look s f h = at_read (part_of s) refl h
    where
      at_look : (o : Option TransName) (m : Stream) → present (broke rules.UnknownTransition fault) o m ≡ Err f → IsKnown f
      at_look None m h = let e : other (broke rules.UnknownTransition fault) ≡ f = cc in inr (fault, sym e)
      at_look (Some n) m h = absurd cc

      at_read : (r : Read Breach (Option Part)) → r ≡ part_of s → (r >>= λ x. present (broke rules.UnknownTransition fault) (look x.0) x.1) ≡ Err f → IsKnown f
      at_read (Ok x) e h = at_look (look x.0) x.1 h
      at_read (Err g) e h = let k : g ≡ f = cc in inl (part_plain s f (sym e ∙ ap Err k))

  move_told : (o : Opening) (l : Label) (s : Stream) (f : Stop Breach) → move_of names p o l s ≡ Err f → IsKnown f
  unfolding move_of
  move_told Idling l s f h = absurd cc
  move_told By l s f h = judged_part l.place (named_by names p By l) s f h
  move_told (Numbered n) l s f h = judged_part l.place (named_by names p (Numbered n) l) s f h

  plain_many : (place : ℕ) (f : Stop Breach) → IsSyntactic f → too_many place (Err f) ≡ other (crowded place)
  plain_many place (syntax q) h = refl
  plain_many place (broken g) h = refl
  plain_many place (other x) h = absurd h

  pub record Late (o : Opening) (l : Label) (ms : List TransName) (s : Stream) : Type 0 where
    pub full : nat_lt (length ms) 1000 ≡ false
    pub stop : Stop Breach
    pub plain : IsSyntactic stop
    pub soft : soft_next names p o l ms s ≡ Err stop
    pub hard : next_move_of names p o l ms s ≡ Err (other (crowded l.place))

  pub item_cases : (o : Opening) (l : Label) (ms : List TransName) (s : Stream) → (next_move_of names p o l ms s ≡ soft_next names p o l ms s) ⊎ Late o l ms s
  unfolding next_move_of soft_next
  item_cases o l ms s = at_room (nat_lt (length ms) 1000) refl
    where
      at_known : nat_lt (length ms) 1000 ≡ false → (f : Stop Breach) → move_of names p o l s ≡ Err f → IsKnown f → (next_move_of names p o l ms s ≡ soft_next names p o l ms s) ⊎ Late o l ms s
      at_known e f k (inl q) = inr (record { full = e; stop = f; plain = q; soft = rw (e, k) refl; hard = rw (e, k) (ap Err (plain_many l.place f q)) })
      at_known e f k (inr u) = let k2 : move_of names p o l s ≡ Err (other (broke rules.UnknownTransition u.0)) = k ∙ ap Err u.1 in inl (rw (e, k2) refl)

      at_read : nat_lt (length ms) 1000 ≡ false → (r : Read Breach TransName) → move_of names p o l s ≡ r → (next_move_of names p o l ms s ≡ soft_next names p o l ms s) ⊎ Late o l ms s
      at_read e (Ok x) k = inl (rw (e, k) refl)
      at_read e (Err f) k = at_known e f k (move_told o l s f k)

      at_room : (b : Bool) → nat_lt (length ms) 1000 ≡ b → (next_move_of names p o l ms s ≡ soft_next names p o l ms s) ⊎ Late o l ms s
      at_room true e = inl (rw e refl)
      at_room false e = at_read e (move_of names p o l s) refl

  pub soft_room : (o : Opening) (l : Label) (ms : List TransName) (s : Stream) (y : List TransName × Stream) → soft_next names p o l ms s ≡ Ok y → nat_lt (length ms) 1000 ≡ true
  unfolding soft_next
  soft_room o l ms s y h = at_room (nat_lt (length ms) 1000) refl
    where
      at_room : (b : Bool) → nat_lt (length ms) 1000 ≡ b → nat_lt (length ms) 1000 ≡ true
      at_room true e = e
      at_room false e = let no : soft_next names p o l ms s ≡ Err (soft_many l.place (move_of names p o l s)) = rw e refl in absurd cc

  -- what a move that went through says
  pub went : (t : Lexeme) (o : Opening) (x : List TransName) (m : Stream) (y : List TransName) (rest : Stream) → opening_in (sign_of t) ≡ Some o → soft_next names p o (label_of t) x m ≡ Ok (y, rest)
      → (raw : RawMove) × (raw_move (more t m) ≡ Ok (raw, rest)) × (length y ≡ suc (length x))
  went t o x m y rest e h =
      let k = judged_ok IsSyntactic _ 0 (front_move names p x) raw_move whole_size (move_rules names p (length x) 0) (Adds names p x) (more t m) (judged_move names p x 0 (more t m)) y rest (front_is names p x t o m e ∙ h) in
      (k.0, k.1, ap length k.2.2 ∙ length-append x (k.2.0 ∷ []) ∙ omega arith)
