-- A chain by its turns, whatever fuel it has; its law; and a chain as a loop reads it.
use Rattle.std.proofs.Common.{◌≡◌, ℕ, zero, suc, ◌≤◌, Bool, true, List, [], All, Option, Some, None, Ok, Err, refl, sym, ap, ◌∙◌, arith}
use Rattle.st_tokens.specs.Stream.{◌++>◌, Lexeme, Stream, ends, breaks, more, behind, IsSpelled}
use Rattle.st_reading.specs.declared.sign.Sign.{Sign}
use Rattle.st_reading.specs.declared.sign.Sign.TheVariants as signs
use Rattle.st_reading.specs.Sign.{sign_of}
use Rattle.st_reading.specs.Reading.{Stop, Read, ◌>>=◌, ahead, size, place_of, then_reads, Turn, leaves, goes, turned, on_operator, chain, IsStop}
use Rattle.st_reading.specs.Steady.{SteadyAt, Short, Within, calmer, wider, anything}
use Rattle.st_reading.proofs.Streams.{size_through, follow_test, behind_size}
use Rattle.st_reading.proofs.Spelled.{none_spelled}
use Rattle.st_reading.proofs.Steadiness.{at_bind, at_choice, at_shift, at_gives}
use Rattle.st_reading.proofs.Soundness.{Shrinks}

pub chain_none : {X O B S : Type 0} (op : Sign → Option O) (turn : O → ℕ → S → Stream → Read X (Turn B S)) (finish : S → Stream → Read X B) (k : ℕ) (x : S) (s : Stream) → None ≡ op (ahead s) → chain op turn finish k x s ≡ finish x s
unfolding chain
chain_none op turn finish zero x s h = refl
chain_none op turn finish (suc k) x s h = rw (← h) refl

-- a turn, with fuel for it
pub chain_turn : {X O B S : Type 0} (op : Sign → Option O) (turn : O → ℕ → S → Stream → Read X (Turn B S)) (finish : S → Stream → Read X B) (x : S) (s : Stream) (o : O) (k : ℕ)
    → Some o ≡ op (ahead s) → None ≡ op signs.Nothing → size s ≤ k
    → (n : ℕ) × (size (behind s) ≤ n) × (chain op turn finish k x s ≡ then_reads (turn o (place_of s) x) (turned (λ z m. chain op turn finish n z m)) (behind s))
unfolding chain
chain_turn op turn finish x (ends place) o k h none le = cc
chain_turn op turn finish x (breaks f) o k h none le = cc
chain_turn op turn finish x (more t s) o zero h none le = absurd (omega arith)
chain_turn op turn finish x (more t s) o (suc k) h none le = (k, omega arith, rw (← h) refl)

-- `x` is what a loop has read, s is left, and the chain from there is the whole.
pub record Running {X O B S : Type 0} (op : Sign → Option O) (turn : O → ℕ → S → Stream → Read X (Turn B S)) (finish : S → Stream → Read X B) (x : S) (s start : Stream) (whole : Read X B) : Type 0 where
  pub shrinks : size s ≤ size start
  pub fuel : ℕ
  pub enough : size s ≤ fuel
  pub completes : chain op turn finish fuel x s ≡ whole

module _ {X O B S : Type 0} (op : Sign → Option O) (turn : O → ℕ → S → Stream → Read X (Turn B S)) (finish : S → Stream → Read X B) where
  pub running_starts : (x : S) (s : Stream) → Running op turn finish x s s (chain op turn finish (size s) x s)
  running_starts x s = record { shrinks = omega arith; fuel = size s; enough = omega arith; completes = refl }

  module _ (none : None ≡ op signs.Nothing) (x : S) (s start : Stream) (whole : Read X B) (g : Running op turn finish x s start whole) where
    pub running_next : (o : O) (y : S) (next after : Stream) → Some o ≡ op (ahead s) → next ≡ behind s → turn o (place_of s) x next ≡ Ok (goes y, after) → size after ≤ size next → Running op turn finish y after start whole
    running_next o y next after h is e le =
        let m = chain_turn op turn finish x s o g.fuel h none g.enough in
        let turned_so : turn o (place_of s) x (behind s) ≡ Ok (goes y, after) = ap (turn o (place_of s) x) (sym is) ∙ e in
        record {
          shrinks = omega (arith, g.shrinks, behind_size s, ap size is);
          fuel = m.0;
          enough = omega (arith, m.1, ap size is);
          completes = sym (ap (λ (r : Read X (Turn B S)). r >>= λ y. turned (λ z m2. chain op turn finish m.0 z m2) y.0 y.1) turned_so) ∙ sym m.2 ∙ g.completes;
        }

    pub running_leaves : (o : O) (b : B) (next after : Stream) → Some o ≡ op (ahead s) → next ≡ behind s → turn o (place_of s) x next ≡ Ok (leaves b, after) → whole ≡ Ok (b, after)
    running_leaves o b next after h is e =
        let m = chain_turn op turn finish x s o g.fuel h none g.enough in
        let turned_so : turn o (place_of s) x (behind s) ≡ Ok (leaves b, after) = ap (turn o (place_of s) x) (sym is) ∙ e in
        sym g.completes ∙ m.2 ∙ ap (λ (r : Read X (Turn B S)). r >>= λ y. turned (λ z m2. chain op turn finish m.0 z m2) y.0 y.1) turned_so

    pub running_ends : None ≡ op (ahead s) → whole ≡ finish x s
    running_ends h = sym g.completes ∙ chain_none op turn finish g.fuel x s h

    pub running_fails : (o : O) (e : Option (Stop X)) (next : Stream) → Some o ≡ op (ahead s) → next ≡ behind s → IsStop e (turn o (place_of s) x next) → IsStop e whole
    running_fails o None next h is bad = tt
    running_fails o (Some f) next h is bad =
        let m = chain_turn op turn finish x s o g.fuel h none g.enough in
        let turned_so : turn o (place_of s) x (behind s) ≡ Err f = ap (turn o (place_of s) x) (sym is) ∙ bad in
        sym g.completes ∙ m.2 ∙ ap (λ (r : Read X (Turn B S)). r >>= λ y. turned (λ z m2. chain op turn finish m.0 z m2) y.0 y.1) turned_so

module _ {X O B S : Type 0} (op : Sign → Option O) (none : None ≡ op signs.Nothing) (turn : O → ℕ → S → Stream → Read X (Turn B S)) (finish : S → Stream → Read X B) (shrinks : (o : O) (place : ℕ) (x : S) → Shrinks (turn o place x)) where
  abbrev pub chain_of : S → Stream → Read X B
  chain_of x s = chain op turn finish (size s) x s

  module _ (j k : ℕ) (again : (x : S) (s : Stream) → size s ≤ j → size s ≤ k → chain op turn finish j x s ≡ chain op turn finish k x s) where
    same_turn : (o : O) (place : ℕ) (x : S) (s : Stream) (r : Read X (Turn B S)) → size s ≤ j → size s ≤ k → r ≡ turn o place x s
        → (r >>= λ y. turned (λ z m. chain op turn finish j z m) y.0 y.1) ≡ (r >>= λ y. turned (λ z m. chain op turn finish k z m) y.0 y.1)
    same_turn o place x s (Ok (leaves b, rest)) h i e = refl
    same_turn o place x s (Ok (goes y, rest)) h i e = let le = shrinks o place x s (goes y) rest (sym e) in again y rest (omega arith) (omega arith)
    same_turn o place x s (Err f) h i e = refl

  -- more fuel changes nothing
  pub enough : (j k : ℕ) (x : S) (s : Stream) → size s ≤ j → size s ≤ k → chain op turn finish j x s ≡ chain op turn finish k x s
  unfolding chain
  enough j k x (ends p) h i = chain_none op turn finish j x (ends p) none ∙ sym (chain_none op turn finish k x (ends p) none)
  enough j k x (breaks f) h i = chain_none op turn finish j x (breaks f) none ∙ sym (chain_none op turn finish k x (breaks f) none)
  enough zero k x (more t s) h i = absurd (omega arith)
  enough (suc j) zero x (more t s) h i = absurd (omega arith)
  enough (suc j) (suc k) x (more t s) h i = at_operator (λ y m a b. enough j k y m a b) (op (sign_of t))
    where
      at_operator : ((y : S) (m : Stream) → size m ≤ j → size m ≤ k → chain op turn finish j y m ≡ chain op turn finish k y m) → (p : Option O)
          → on_operator p (finish x (more t s)) (λ o. turn o t.start x s >>= λ y. turned (λ z m. chain op turn finish j z m) y.0 y.1) ≡ on_operator p (finish x (more t s)) (λ o. turn o t.start x s >>= λ y. turned (λ z m. chain op turn finish k z m) y.0 y.1)
      at_operator again None = refl
      at_operator again (Some o) = same_turn j k again o t.start x s (turn o t.start x s) (omega arith) (omega arith) refl

  -- one turn of the chain
  pub chain_step : (t : Lexeme) (o : O) (x : S) (s : Stream) → op (sign_of t) ≡ Some o → chain_of x (more t s) ≡ then_reads (turn o t.start x) (turned chain_of) s
  unfolding chain
  chain_step t o x s h = rw h (at_turn (turn o t.start x s) refl)
    where
      at_turn : (r : Read X (Turn B S)) → r ≡ turn o t.start x s → (r >>= λ y. turned (λ z m. chain op turn finish (size s) z m) y.0 y.1) ≡ (r >>= λ y. turned chain_of y.0 y.1)
      at_turn (Ok (leaves b, rest)) e = refl
      at_turn (Ok (goes y, rest)) e = let le = shrinks o t.start x s (goes y) rest (sym e) in enough (size s) (size rest) y rest le (omega arith)
      at_turn (Err f) e = refl

-- The law of chains: r and the readers p beside each other. The turns are calm before what may begin the last reader.
module _ {I X O B S : Type 0} (front calm calm1 : Sign → Bool) (fits : Within calm front) (meets : Within front calm1)
    (op : Sign → Option O) (calms : (g : Sign) → front g ≡ true → op g ≡ None) (none : None ≡ op signs.Nothing)
    (turn : O → ℕ → S → Stream → Read X (Turn B S)) (turn2 : I → O → ℕ → S → Stream → Read X (Turn B S)) (finish : S → Stream → Read X B) (finish2 : I → S → Stream → Read X B)
    (shrinks : (o : O) (place : ℕ) (x : S) → Shrinks (turn o place x)) (shrinks2 : (i : I) (o : O) (place : ℕ) (x : S) → Shrinks (turn2 i o place x))
    (at_turn : (o : O) (place : ℕ) (x : S) (s : Stream) → SteadyAt anything calm1 (turn o place x) (λ i. turn2 i o place x) s)
    (at_finish : (x : S) (s : Stream) → SteadyAt front calm (finish x) (λ i. finish2 i x) s) (short : (i : I) → Short front calm (finish2 i)) where
  abbrev one : S → Stream → Read X B
  one = chain_of op none turn finish shrinks

  abbrev two : I → S → Stream → Read X B
  two i = chain_of op none (turn2 i) (finish2 i) (shrinks2 i)

  two_front : (i : I) (x : S) (s : Stream) → front (ahead s) ≡ true → two i x s ≡ finish2 i x s
  two_front i x s c = chain_none op (turn2 i) (finish2 i) (size s) x s (sym (calms (ahead s) c))

  short_text : (i : I) → Turn B S → List Lexeme
  short_text i (leaves b) = []
  short_text i (goes y) = (short i).text y

  short_spelled : (i : I) (y : Turn B S) → All IsSpelled (short_text i y)
  unfolding short_text
  short_spelled i (leaves b) = none_spelled
  short_spelled i (goes y) = (short i).spelled y

  short_value : (i : I) → Turn B S → B
  short_value i (leaves b) = b
  short_value i (goes y) = (short i).value y

  short_begins : (i : I) (y : Turn B S) (after : Stream) → calm (ahead after) ≡ true → front (ahead (short_text i y ++> after)) ≡ true
  unfolding short_text
  short_begins i (leaves b) after c = fits _ c
  short_begins i (goes y) after c = (short i).begins y after c

  short_reads : (i : I) (y : Turn B S) (after : Stream) → calm (ahead after) ≡ true → turned (two i) y (short_text i y ++> after) ≡ Ok (short_value i y, after)
  unfolding short_text short_value
  short_reads i (leaves b) after c = refl
  short_reads i (goes y) after c = two_front i y ((short i).text y ++> after) ((short i).begins y after c) ∙ (short i).reads y after c

  pub short_turned : (i : I) → Short front calm (turned (two i))
  short_turned i = record { text = short_text i; spelled = short_spelled i; value = short_value i; begins = short_begins i; reads = short_reads i }

  at_end : (x : S) (s : Stream) → op (ahead s) ≡ None → SteadyAt front calm (one x) (λ i. two i x) s
  at_end x s h =
      at_choice front calm (one x) (finish x) (λ i. two i x) (λ i. finish2 i x) s
      (λ after fol. chain_none op turn finish (size after) x after (sym (follow_test calm op None (λ g c. calms g (fits g c)) s after h fol)))
      (λ i after fol. chain_none op (turn2 i) (finish2 i) (size after) x after (sym (follow_test calm op None (λ g c. calms g (fits g c)) s after h fol)))
      (λ i after c. two_front i x after c)
      (at_finish x s)

  at_rest : (n : ℕ) (again : (x : S) (s : Stream) → size s ≤ n → SteadyAt front calm (one x) (λ i. two i x) s) (y : Turn B S) (rest : Stream) → size rest ≤ n → SteadyAt front calm (turned one y) (λ i. turned (two i) y) rest
  at_rest n again (leaves b) rest le = at_gives front calm b rest
  at_rest n again (goes y) rest le = again y rest le

  at_step : (n : ℕ) (again : (x : S) (s : Stream) → size s ≤ n → SteadyAt front calm (one x) (λ i. two i x) s) (x : S) (t : Lexeme) (s : Stream) → size s ≤ n → (p : Option O) → p ≡ op (sign_of t) → SteadyAt front calm (one x) (λ i. two i x) (more t s)
  at_step n again x t s le None e = at_end x (more t s) (sym e)
  at_step n again x t s le (Some o) e =
      at_shift front anything calm (one x) (then_reads (turn o t.start x) (turned one)) (λ i. two i x) (λ i. then_reads (turn2 i o t.start x) (turned (two i))) t s
      (λ after. chain_step op none turn finish shrinks t o x after (sym e))
      (λ i after. chain_step op none (turn2 i) (finish2 i) (shrinks2 i) t o x after (sym e))
      (at_bind anything calm1 front calm meets (turn o t.start x) (λ i. turn2 i o t.start x) (turned one) (λ i. turned (two i)) (wider (λ g h. refl)) (calmer (λ g h. meets g (fits g h))) short_turned s (at_turn o t.start x s)
      (λ ts y rest is. at_rest n again y rest (omega (arith, size_through ts rest, ap size is))))

  within : (n : ℕ) (x : S) (s : Stream) → size s ≤ n → SteadyAt front calm (one x) (λ i. two i x) s
  within n x (ends p) le = at_end x (ends p) (sym none)
  within n x (breaks f) le = at_end x (breaks f) (sym none)
  within zero x (more t s) le = absurd (omega arith)
  within (suc n) x (more t s) le = at_step n (λ x s h. within n x s h) x t s (omega arith) (op (sign_of t)) refl

  pub at_chain : (x : S) (s : Stream) → SteadyAt front calm (λ m. chain op turn finish (size m) x m) (λ i m. chain op (turn2 i) (finish2 i) (size m) x m) s
  at_chain x s = within (size s) x s (omega arith)
