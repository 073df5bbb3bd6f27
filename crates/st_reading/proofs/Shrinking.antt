-- What is left is no more than what there was.
use Rattle.std.proofs.Common.{◌≡◌, ℕ, zero, suc, ◌≤◌, Bool, true, false, cond, Option, Some, None, Ok, Err, inl, refl, ap, ◌∙◌, arith}
use Rattle.st_tokens.specs.Stream.{Stream, behind}
use Rattle.st_reading.specs.declared.mark.Mark.{Mark}
use Rattle.st_reading.specs.declared.sign.Sign.{Sign}
use Rattle.st_reading.specs.Sign.{is}
use Rattle.st_reading.specs.Reading.{Read, ◌>>=◌, ahead, size, place_of, refusal, then_reads, Turn, leaves, goes, turned, on_operator, chain, gives, expected, named, is_name, name_of}
use Rattle.st_reading.specs.Steady.{SteadyAt, both, stops}
use Rattle.st_reading.proofs.Streams.{size_through, behind_size}
use Rattle.st_reading.proofs.Soundness.{Shrinks, split, values}

pub at_shrinks : {I X A : Type 0} (front calm : Sign → Bool) (r : Stream → Read X A) (p : I → Stream → Read X A) → ((s : Stream) → SteadyAt front calm r p s) → Shrinks r
at_shrinks front calm r p law s x rest h = shrunk (law s)
  where
    shrunk : SteadyAt front calm r p s → size rest ≤ size s
    shrunk (both ts y after is stable stable2) =
        let same = values (r s) y x after rest (ap r is ∙ stable after (inl refl)) h in
        omega (arith, size_through ts after, ap size is, ap size same.1)
    shrunk (stops ts f after is same v cause) = let bad : r s ≡ Err f = ap r is ∙ same after refl in cc

-- a value with what is left
pub left : {X A : Type 0} (y x : A) (s rest : Stream) → gives {X = X} y s ≡ Ok (x, rest) → size rest ≤ size s
left {X} {A} y x s rest h = let v = values {X = X} (gives y s) y x s rest refl h in omega (arith, ap size v.1)

pub shrinks_gives : {X A : Type 0} (x : A) → Shrinks {X = X} (gives x)
shrinks_gives {X} x s y rest h = left {X = X} x y s rest h

pub shrinks_bind : {X A B : Type 0} (r : Stream → Read X A) (q : A → Stream → Read X B) → Shrinks r → ((x : A) → Shrinks (q x)) → Shrinks (then_reads r q)
shrinks_bind r q first second s y rest h =
    let p = split r q s y rest h in
    let a = first s p.value p.middle p.first in
    let b = second p.value p.middle y rest p.second in
    omega (arith, a, b)

pub shrinks_map : {X A B : Type 0} (f : A → B) (r : Stream → Read X A) → Shrinks r → Shrinks (then_reads r (λ x. gives (f x)))
shrinks_map f r first = shrinks_bind r (λ x. gives (f x)) first (λ x. shrinks_gives (f x))

pub shrinks_expected : {X : Type 0} (mark : Mark) → Shrinks {X = X} (expected mark)
shrinks_expected {X} mark s x rest h = at_test (is (ahead s) mark) h
  where
    at_test : (b : Bool) → cond b (gives {X = X} (place_of s) (behind s)) (Err (refusal s)) ≡ Ok (x, rest) → size rest ≤ size s
    at_test true h = let a = left {X = X} (place_of s) x (behind s) rest h in omega (arith, a, behind_size s)
    at_test false h = cc

pub shrinks_named : {X : Type 0} → Shrinks {X = X} named
shrinks_named {X} s x rest h = at_test (is_name (ahead s)) h
  where
    at_test : (b : Bool) → cond b (gives {X = X} (name_of s) (behind s)) (Err (refusal s)) ≡ Ok (x, rest) → size rest ≤ size s
    at_test true h = let a = left {X = X} (name_of s) x (behind s) rest h in omega (arith, a, behind_size s)
    at_test false h = cc

module _ {X O B S : Type 0} (op : Sign → Option O) (turn : O → ℕ → S → Stream → Read X (Turn B S)) (finish : S → Stream → Read X B) (shrinks : (o : O) (place : ℕ) (x : S) → Shrinks (turn o place x)) (shrinks2 : (x : S) → Shrinks (finish x)) where
  at_turned : (next : S → Stream → Read X B) → ((x : S) → Shrinks (next x)) → (y : Turn B S) → Shrinks (turned next y)
  at_turned next again (leaves b) s z rest h = left {X = X} b z s rest h
  at_turned next again (goes x) s z rest h = again x s z rest h

  at_operator : (next : S → Stream → Read X B) → ((x : S) → Shrinks (next x)) → (p : Option O) (x : S) (s : Stream) (z : B) (rest : Stream) → on_operator p (finish x s) (λ o. turn o (place_of s) x (behind s) >>= λ y. turned next y.0 y.1) ≡ Ok (z, rest) → size rest ≤ size s
  at_operator next again None x s z rest h = shrinks2 x s z rest h
  at_operator next again (Some o) x s z rest h =
      let a = shrinks_bind (turn o (place_of s) x) (turned next) (shrinks o (place_of s) x) (at_turned next again) (behind s) z rest h in
      omega (arith, a, behind_size s)

  pub shrinks_chain : (k : ℕ) (x : S) → Shrinks (chain op turn finish k x)
  unfolding chain
  shrinks_chain zero x s z rest h = shrinks2 x s z rest h
  shrinks_chain (suc k) x s z rest h = at_operator (λ y m. chain op turn finish k y m) (λ y. shrinks_chain k y) (op (ahead s)) x s z rest h
