-- Plain readers, beside themselves: what they do depends on the tokens that they take and on the next one alone.
use Rattle.std.proofs.Common.{◌≡◌, ℕ, zero, suc, ◌<◌, ◌≤◌, Bool, true, false, List, [], ◌∷◌, ◌++◌, Ok, Err, inr, refl, ap, ◌∙◌, arith}
use Rattle.st_tokens.specs.Stream.{◌++>◌, Lexeme, Stream, ends, breaks, more}
use Rattle.st_reading.specs.declared.sign.Sign.{Sign}
use Rattle.st_reading.specs.declared.sign.Sign.TheVariants as signs
use Rattle.st_reading.specs.Sign.{sign_of}
use Rattle.st_reading.specs.Reading.{Stop, ahead, size, then_reads, gives}
use Rattle.st_reading.specs.Steady.{head, Cause, refused, over, SteadyAt, both, stops, Short, calmer, wider, anything}
use Rattle.st_reading.proofs.Streams.{follow_test, more_parts}
use Rattle.st_reading.proofs.Spelled.{none_spelled}
use Rattle.st_reading.proofs.Soundness.{Shrinks}
use Rattle.st_reading.proofs.Steadiness.{at_bind, at_shift, at_gives, short_gives, bind_err, viable_first}
use Rattle.st_reading.proofs.Lawful.{Lawful, at_head}
use Rattle.st_reading.proofs.Judging.{Reader}
use Rattle.st_reading.proofs.JudgedParts.{but_not, not_tested}
use Rattle.st_reading.proofs.Whiles.{while_of, while_none, while_step, stream_size}

-- the reader has its law
abbrev pub Fair : {X A : Type 0} → (Sign → Bool) → (Sign → Bool) → Reader X A → Type 0
Fair front calm r = Lawful {I = Unit {0}} front calm r (λ i. r)

-- Items behind one another, told by their first tokens.
module _ {X A : Type 0} (test : Sign → Bool) (nothing : test signs.Nothing ≡ false) (item : Reader X A) (strict : (s : Stream) (y : A) (rest : Stream) → item s ≡ Ok (y, rest) → size rest < size s)
    (stop : Stop X) (item_ends : item (ends 0) ≡ Err stop) (fair : Fair anything anything item) where
  abbrev loops : Reader X (List A)
  loops = while_of test item

  abbrev behind_it : A → Reader X (List A)
  behind_it a = then_reads loops (λ xs. gives (a ∷ xs))

  abbrev Steady : {B : Type 0} → Reader X B → Stream → Type 0
  Steady r s = SteadyAt {I = Unit {0}} anything (but_not test) r (λ i. r) s

  quiet : but_not test signs.Nothing ≡ true
  quiet = rw nothing refl

  loops_end : (s : Stream) → test (ahead s) ≡ false → loops s ≡ Ok ([], s)
  loops_end s h = while_none test item (size s) s h

  steady_end : (s : Stream) → test (ahead s) ≡ false → Steady loops s
  steady_end s h = both [] [] s refl (λ after f. loops_end after (follow_test (but_not test) test false (not_tested test) s after h f)) (λ i after f. loops_end after (follow_test (but_not test) test false (not_tested test) s after h f))

  short : Short anything (but_not test) behind_it
  short = record { text = λ a. []; spelled = λ a. none_spelled; value = λ a. a ∷ []; begins = λ a after h. refl; reads = λ a after h. let e = loops_end after (not_tested test (ahead after) h) in rw e refl }

  steady_behind : (a : A) (s : Stream) → Steady loops s → Steady (behind_it a) s
  steady_behind a s l =
      at_bind anything (but_not test) (but_not test) (but_not test) (λ g h. h) loops (λ i. loops) (λ xs. gives (a ∷ xs)) (λ i xs. gives (a ∷ xs)) (wider (λ g h. refl)) (calmer (λ g h. h)) (λ i. short_gives (but_not test) (but_not test) (λ g h. h) (λ xs. a ∷ xs)) s l (λ ts xs rest e. at_gives (but_not test) (but_not test) (a ∷ xs) rest)

  -- an item behind its first token
  item_behind : Lexeme → Reader X A
  item_behind t m = item (more t m)

  bound : (n : ℕ) → ((s : Stream) → size s ≤ n → Steady loops s) → (t : Lexeme) (s : Stream) → size s ≤ n → SteadyAt {I = Unit {0}} anything anything item (λ i. item) (more t s) → Steady (then_reads item behind_it) (more t s)
  unfolding item_behind
  bound n again t s le (both [] a rest is go go2) = let bad = go (ends 0) (inr refl) in absurd cc
  bound n again t s le (both (u ∷ ts) a rest is go go2) =
      let m = more_parts t u s (ts ++> rest) is in
      at_shift anything anything (but_not test) (then_reads item behind_it) (then_reads (item_behind t) behind_it) (λ i. then_reads item behind_it) (λ i. then_reads (item_behind t) behind_it) t s (λ after. refl) (λ i after. refl)
      (at_bind anything anything anything (but_not test) (λ g h. refl) (item_behind t) (λ i. item_behind t) behind_it (λ i. behind_it) (wider (λ g h. refl)) (calmer (λ g h. refl)) (λ i. short) s
      (both ts a rest m.1 (λ after h. ap (λ v. item (more v (ts ++> after))) m.0 ∙ go after h) (λ i after h. ap (λ v. item (more v (ts ++> after))) m.0 ∙ go2 i after h))
      (λ us b rest2 e. steady_behind b rest2 (again rest2 (omega (arith, le, stream_size us rest2, ap size e)))))
  bound n again t s le (stops ts f rest is same v cause) =
      stops ts f rest is (λ after h. bind_err item behind_it (ts ++> after) f (same after h)) (λ i. viable_first anything anything anything (but_not test) (λ g h. refl) item behind_it short ts (v i)) (caused cause)
    where
      caused : Cause {I = Unit {0}} anything anything (λ i. item) ts f rest → Cause {I = Unit {0}} anything (but_not test) (λ i. then_reads item behind_it) ts f rest
      caused (refused e k) = refused e (λ i after h. bind_err item behind_it (ts ++> after) f (k i after h))
      caused (over y u after e k w) = over y u after e k (λ i. viable_first anything anything anything (but_not test) (λ g h. refl) item behind_it short (ts ++ u ∷ []) (w i))

  steady_item : (n : ℕ) → ((s : Stream) → size s ≤ n → Steady loops s) → (t : Lexeme) (s : Stream) → size s ≤ n → test (sign_of t) ≡ true → Steady loops (more t s)
  steady_item n again t s le e =
      at_head anything anything (but_not test) quiet loops (then_reads item behind_it) (λ i. loops) (λ i. then_reads item behind_it) (more t s) (λ after h. same after h) (λ i after h. same after h) stop (rw item_ends refl)
      (λ i. record { others = []; spelled = none_spelled; value = []; begins = λ n after h. refl; reads = λ after h. loops_end after (not_tested test (ahead after) h) })
      (bound n again t s le (fair.law (more t s)))
    where
      same : (after : Stream) → head after ≡ head (more t s) → loops after ≡ then_reads item behind_it after
      same (ends q) h = absurd cc
      same (breaks f) h = absurd cc
      same (more u m) h = let k : u ≡ t = cc in while_step test item nothing strict u m (ap (λ (v : Lexeme). test (sign_of v)) k ∙ e)

  steady_test : (n : ℕ) → ((s : Stream) → size s ≤ n → Steady loops s) → (t : Lexeme) (s : Stream) → size s ≤ n → (b : Bool) → test (sign_of t) ≡ b → Steady loops (more t s)
  steady_test n again t s le true e = steady_item n again t s le e
  steady_test n again t s le false e = steady_end (more t s) e

  steady_loops : (n : ℕ) (s : Stream) → size s ≤ n → Steady loops s
  steady_loops n (ends q) le = steady_end (ends q) nothing
  steady_loops n (breaks f) le = steady_end (breaks f) nothing
  steady_loops zero (more t s) le = absurd (omega arith)
  steady_loops (suc n) (more t s) le = steady_test n (λ m h. steady_loops n m h) t s (omega arith) (test (sign_of t)) refl

  pub fair_loop : Shrinks loops → Fair anything (but_not test) loops
  fair_loop shrinks = record { law = λ s. steady_loops (size s) s (omega arith); one = shrinks; each = λ i. shrinks }
