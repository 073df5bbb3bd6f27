-- What was read by readers that went through, part by part.
use Rattle.std.proofs.Common.{◌≡◌, ℕ, zero, suc, Bool, true, false, cond, List, [], ◌∷◌, ◌++◌, Option, Some, None, Result, Ok, Err, refl, sym, ap, ◌∙◌}
use Rattle.st_tokens.specs.Stream.{Stream, behind}
use Rattle.st_reading.specs.declared.mark.Mark.{Mark}
use Rattle.st_reading.specs.declared.sign.Sign.{Sign}
use Rattle.st_reading.specs.Reading.{Stop, other, Read, ◌>>=◌, ahead, place_of, Turn, leaves, goes, turned, on_operator, chain, gives, only, listing, further, size}
use Rattle.st_reading.specs.Breaches.{Breach}
use Rattle.st_reading.proofs.Judged.{both, given}

abbrev pub going : {B S : Type 0} → S → Turn B S
going x = goes x

-- What holds of what a chain has read at first, and goes on to hold, holds at its end.
module _ {X O B S : Type 0} (op : Sign → Option O) (turn : O → ℕ → S → Stream → Read X (Turn B S)) (finish : S → Stream → Read X B) (P : S → Type 0) (Q : B → Type 0)
    (keeps : (o : O) (place : ℕ) (x y : S) (s rest : Stream) → P x → turn o place x s ≡ Ok (goes y, rest) → P y)
    (leaves_so : (o : O) (place : ℕ) (x : S) (y : B) (s rest : Stream) → P x → turn o place x s ≡ Ok (leaves y, rest) → Q y)
    (ends_so : (x : S) (y : B) (s rest : Stream) → P x → finish x s ≡ Ok (y, rest) → Q y) where
  at_turn : (k : ℕ) (again : (x : S) (s : Stream) (y : B) (rest : Stream) → P x → chain op turn finish k x s ≡ Ok (y, rest) → Q y)
      → (o : O) (place : ℕ) (x : S) (s : Stream) (t : Turn B S) (m : Stream) (y : B) (rest : Stream) → P x → turn o place x s ≡ Ok (t, m) → turned (λ z n. chain op turn finish k z n) t m ≡ Ok (y, rest) → Q y
  at_turn k again o place x s (leaves b) m y rest p e h = let i : b ≡ y = let f : (b, m) ≡ (y, rest) = cc in ap (λ (p : B × Stream). p.0) f in rw (← i) (leaves_so o place x b s m p e)
  at_turn k again o place x s (goes z) m y rest p e h = again z m y rest (keeps o place x z s m p e) h

  at_operator : (k : ℕ) (again : (x : S) (s : Stream) (y : B) (rest : Stream) → P x → chain op turn finish k x s ≡ Ok (y, rest) → Q y)
      → (o : Option O) (x : S) (s : Stream) (y : B) (rest : Stream) → P x
      → on_operator o (finish x s) (λ o. turn o (place_of s) x (behind s) >>= λ z. turned (λ w m. chain op turn finish k w m) z.0 z.1) ≡ Ok (y, rest) → Q y
  at_operator k again None x s y rest p h = ends_so x y s rest p h
  at_operator k again (Some o) x s y rest p h =
      let b = both (turn o (place_of s) x (behind s)) (λ z. turned (λ w m. chain op turn finish k w m) z.0 z.1) (y, rest) h in
      at_turn k again o (place_of s) x (behind s) b.value.0 b.value.1 y rest p b.first b.second

  pub chain_keeps : (k : ℕ) (x : S) (s : Stream) (y : B) (rest : Stream) → P x → chain op turn finish k x s ≡ Ok (y, rest) → Q y
  unfolding chain
  chain_keeps zero x s y rest p h = ends_so x y s rest p h
  chain_keeps (suc k) x s y rest p h = at_operator k (λ z m w end q e. chain_keeps k z m w end q e) (op (ahead s)) x s y rest p h

-- What holds of a list at first, and of each further item, holds of the whole list.
module _ {A : Type 0} (mark : Mark) (r : Stream → Read Breach A) (P : List A → Type 0) (keeps : (x : A) (xs : List A) (s rest : Stream) → r s ≡ Ok (x, rest) → P xs → P (xs ++ x ∷ [])) where
  pushed : (o : Unit {0}) (place : ℕ) (xs ys : List A) (s rest : Stream) → P xs → listing {X = Breach} {B = List A} r o place xs s ≡ Ok (goes ys, rest) → P ys
  pushed o place xs ys s rest p h =
      let b = both (r s) (λ x. gives {X = Breach} (going {B = List A} (xs ++ x.0 ∷ [])) x.1) (goes ys, rest) h in
      let e : going {B = List A} (xs ++ b.value.0 ∷ []) ≡ goes ys = given (going {B = List A} (xs ++ b.value.0 ∷ [])) (goes ys) b.value.1 rest b.second in
      let i : xs ++ b.value.0 ∷ [] ≡ ys = cc in
      rw (← i) (keeps b.value.0 xs s b.value.1 b.first p)

  never : (o : Unit {0}) (place : ℕ) (xs ys : List A) (s rest : Stream) → P xs → listing {X = Breach} {B = List A} r o place xs s ≡ Ok (leaves ys, rest) → P ys
  never o place xs ys s rest p h =
      let b = both (r s) (λ x. gives {X = Breach} (going {B = List A} (xs ++ x.0 ∷ [])) x.1) (leaves ys, rest) h in
      let e : going {B = List A} (xs ++ b.value.0 ∷ []) ≡ leaves ys = given (going {B = List A} (xs ++ b.value.0 ∷ [])) (leaves ys) b.value.1 rest b.second in
      absurd cc

  ended : (xs ys : List A) (s rest : Stream) → P xs → gives {X = Breach} xs s ≡ Ok (ys, rest) → P ys
  ended xs ys s rest p h = rw (← given xs ys s rest h) p

  pub further_keeps : (xs ys : List A) (s rest : Stream) → P xs → further mark r xs s ≡ Ok (ys, rest) → P ys
  further_keeps xs ys s rest p h = chain_keeps (only mark) (listing r) gives P P pushed never ended (size s) xs s ys rest p h
