-- A reader beside one that allows more: what is read stays read, and the faults that are kept stay.
use Rattle.std.proofs.Common.{◌≡◌, ℕ, zero, suc, Bool, true, false, cond, List, [], ◌∷◌, ◌++◌, Option, Some, None, Ok, Err, refl, sym, ap, subst}
use Rattle.st_tokens.specs.Stream.{Stream, behind}
use Rattle.st_reading.specs.declared.mark.Mark.{Mark}
use Rattle.st_reading.specs.declared.sign.Sign.{Sign}
use Rattle.st_reading.specs.Reading.{Stop, syntax, broken, other, Read, ◌>>=◌, ahead, place_of, size, then_reads, gives, Turn, leaves, goes, turned, on_operator, chain, only, listing, further, Carried, counting, linked}

module _ {X : Type 0} (Keep : X → Type 0) where
  -- the language's own faults are kept, and those that are named
  abbrev pub Kept : Stop X → Type 0
  Kept (syntax place) = Unit {0}
  Kept (broken f) = Unit {0}
  Kept (other y) = Keep y

  abbrev pub Lifted : {A : Type 0} → Read X A → Read X A → Type 0
  Lifted (Ok x) o = o ≡ Ok x
  Lifted (Err f) o = Kept f → o ≡ Err f

  abbrev pub Lifts : {A : Type 0} → (Stream → Read X A) → (Stream → Read X A) → Type 0
  Lifts r q = (s : Stream) → Lifted (r s) (q s)

  pub lifted_same : {A : Type 0} (o : Read X A) → Lifted o o
  lifted_same (Ok x) = refl
  lifted_same (Err f) = λ k. refl

  pub lifts_same : {A : Type 0} (r : Stream → Read X A) → Lifts r r
  lifts_same r s = lifted_same (r s)

  pub lifts_bind : {A B : Type 0} (r q : Stream → Read X A) (u w : A → Stream → Read X B) → Lifts r q → ((x : A) → Lifts (u x) (w x)) → Lifts (then_reads r u) (then_reads q w)
  lifts_bind {A} {B} r q u w first second s = at_read (r s) (q s) (first s)
    where
      at_read : (o p : Read X A) → Lifted o p → Lifted (o >>= λ x. u x.0 x.1) (p >>= λ x. w x.0 x.1)
      at_read (Ok x) p e = subst (λ (z : Read X A). Lifted (u x.0 x.1) (z >>= λ x. w x.0 x.1)) (sym e) (second x.0 x.1)
      at_read (Err f) p e = λ k. ap (λ (z : Read X A). z >>= λ x. w x.0 x.1) (e k)

  -- what is read behind the same reader
  pub lifts_behind : {A B : Type 0} (r : Stream → Read X A) (u w : A → Stream → Read X B) → ((x : A) → Lifts (u x) (w x)) → Lifts (then_reads r u) (then_reads r w)
  lifts_behind r u w second = lifts_bind r r u w (lifts_same r) second

  pub lifts_map : {A B : Type 0} (f : A → B) (r q : Stream → Read X A) → Lifts r q → Lifts (then_reads r (λ x. gives (f x))) (then_reads q (λ x. gives (f x)))
  lifts_map f r q first = lifts_bind r q (λ x. gives (f x)) (λ x. gives (f x)) first (λ x s. refl)

  pub lifted_cond : {A : Type 0} (b : Bool) (o p o2 p2 : Read X A) → Lifted o o2 → Lifted p p2 → Lifted (cond b o p) (cond b o2 p2)
  lifted_cond true o p o2 p2 g h = g
  lifted_cond false o p o2 p2 g h = h

  pub lifted_operator : {O A : Type 0} (c : Option O) (o o2 : Read X A) (go go2 : O → Read X A) → Lifted o o2 → ((x : O) → Lifted (go x) (go2 x)) → Lifted (on_operator c o go) (on_operator c o2 go2)
  lifted_operator None o o2 go go2 g h = g
  lifted_operator (Some x) o o2 go go2 g h = h x

  pub lifts_turned : {B S : Type 0} (next next2 : S → Stream → Read X B) → ((x : S) → Lifts (next x) (next2 x)) → (y : Turn B S) → Lifts (turned next y) (turned next2 y)
  lifts_turned next next2 h (leaves b) s = refl
  lifts_turned next next2 h (goes x) s = h x s

  module _ {O B S : Type 0} (op : Sign → Option O) (turn turn2 : O → ℕ → S → Stream → Read X (Turn B S)) (finish finish2 : S → Stream → Read X B) (at_turn : (o : O) (place : ℕ) (x : S) → Lifts (turn o place x) (turn2 o place x)) (at_finish : (x : S) → Lifts (finish x) (finish2 x)) where
    pub lifts_chain : (k : ℕ) (x : S) → Lifts (chain op turn finish k x) (chain op turn2 finish2 k x)
    unfolding chain
    lifts_chain zero x s = at_finish x s
    lifts_chain (suc k) x s =
        lifted_operator (op (ahead s)) (finish x s) (finish2 x s) (λ o. turn o (place_of s) x (behind s) >>= λ y. turned (λ z m. chain op turn finish k z m) y.0 y.1) (λ o. turn2 o (place_of s) x (behind s) >>= λ y. turned (λ z m. chain op turn2 finish2 k z m) y.0 y.1) (at_finish x s)
        (λ o. lifts_bind (turn o (place_of s) x) (turn2 o (place_of s) x) (turned (λ z m. chain op turn finish k z m)) (turned (λ z m. chain op turn2 finish2 k z m)) (at_turn o (place_of s) x)
        (lifts_turned (λ z m. chain op turn finish k z m) (λ z m. chain op turn2 finish2 k z m) (λ y. lifts_chain k y)) (behind s))

  pub lifts_further : {A : Type 0} (mark : Mark) (r q : Stream → Read X A) → Lifts r q → (xs : List A) → Lifts (further mark r xs) (further mark q xs)
  lifts_further mark r q h xs s = lifts_chain (only mark) (listing r) (listing q) gives gives (λ o place ys. lifts_map (λ x. goes (ys ++ x ∷ [])) r q h) (λ ys s. refl) (size s) xs s

  pub lifts_counting : {O N A : Type 0} (op : Sign → Option O) (r q : O → N → Stream → Read X (Carried N A)) → ((o : O) (n : N) → Lifts (r o n) (q o n)) → (k : ℕ) (xs : Carried N (List A)) → Lifts (chain op (counting r) gives k xs) (chain op (counting q) gives k xs)
  lifts_counting op r q h k xs = lifts_chain op (counting r) (counting q) gives gives (λ o place ys. lifts_map (λ x. goes (ys.0 ++ x.0 ∷ [], x.1)) (r o ys.1) (q o ys.1) (h o ys.1)) (λ ys s. refl) k xs

  pub lifts_linked : {N A : Type 0} (mark : Mark) (r q : N → Stream → Read X (Carried N A)) → ((n : N) → Lifts (r n) (q n)) → (xs : Carried N (List A)) → Lifts (linked mark r xs) (linked mark q xs)
  lifts_linked mark r q h xs s = lifts_counting (only mark) (λ o. r) (λ o. q) (λ o. h) (size s) xs s
