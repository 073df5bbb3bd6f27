-- Loops over lists, as the code goes through them: what was read so far, and what is left.
use Rattle.std.proofs.Common.{◌≡◌, ◌≤◌, true, false, List, [], ◌∷◌, ◌++◌, Option, Some, None, Result, Ok, Err, refl, sym, ap, ◌∙◌}
use Rattle.st_tokens.specs.Stream.{Stream, behind}
use Rattle.st_reading.specs.declared.mark.Mark.{Mark}
use Rattle.st_reading.specs.declared.sign.Sign.{Sign}
use Rattle.st_reading.specs.declared.sign.Sign.TheVariants as signs
use Rattle.st_reading.specs.Sign.{is}
use Rattle.st_reading.specs.Reading.{Stop, Read, ahead, size, gives, then_reads, goes, IsStop, only, listing, Carried, counting}
use Rattle.st_reading.proofs.Chains.{Running, running_next, running_ends, running_fails}

-- A fault is carried from one reading to another.
pub stop_as : {X A B : Type 0} (e : Option (Stop X)) (r : Result A (Stop X)) (w : Result B (Stop X)) → ((f : Stop X) → r ≡ Err f → w ≡ Err f) → IsStop e r → IsStop e w
stop_as None r w go h = tt
stop_as (Some f) r w go h = go f h

pub only_some : (g : Sign) (m : Mark) → true ≡ is g m → Some tt ≡ only m g
only_some g m h = rw (← h) refl

pub only_none : (g : Sign) (m : Mark) → false ≡ is g m → None ≡ only m g
only_none g m h = rw (← h) refl

pub mapped : {X A B : Type 0} (f : A → B) (r : Stream → Read X A) (s after : Stream) (x : A) → r s ≡ Ok (x, after) → then_reads r (λ y. gives (f y)) s ≡ Ok (f x, after)
mapped f r s after x e = rw e refl

pub map_fails : {X A B : Type 0} (f : A → B) (r : Stream → Read X A) (s : Stream) (e : Option (Stop X)) → IsStop e (r s) → IsStop e (then_reads r (λ y. gives (f y)) s)
map_fails f r s e h = stop_as e (r s) (then_reads r (λ y. gives (f y)) s) (λ g c. rw c refl) h

module _ {X A B : Type 0} (mark : Mark) (item : Stream → Read X A) (finish : List A → Stream → Read X B) (xs : List A) (s start : Stream) (whole : Read X B) where
  pub listing_next : (x : A) (next after : Stream) (xs2 : List A) → Running (only mark) (listing item) finish xs s start whole → true ≡ is (ahead s) mark → next ≡ behind s → item next ≡ Ok (x, after) → size after ≤ size next → xs2 ≡ xs ++ x ∷ []
      → Running (only mark) (listing item) finish xs2 after start whole
  listing_next x next after xs2 g h is_next e le made =
      running_next (only mark) (listing item) finish refl xs s start whole g tt xs2 next after (only_some (ahead s) mark h) is_next
      (mapped (λ y. goes (xs ++ y ∷ [])) item next after x e ∙ ap (λ z. Ok (goes z, after)) (sym made)) le

  pub listing_ends : Running (only mark) (listing item) finish xs s start whole → false ≡ is (ahead s) mark → whole ≡ finish xs s
  listing_ends g h = running_ends (only mark) (listing item) finish refl xs s start whole g (only_none (ahead s) mark h)

  pub listing_fails : (e : Option (Stop X)) (next : Stream) → Running (only mark) (listing item) finish xs s start whole → true ≡ is (ahead s) mark → next ≡ behind s → IsStop e (item next) → IsStop e whole
  listing_fails e next g h is_next fails = running_fails (only mark) (listing item) finish refl xs s start whole g tt e next (only_some (ahead s) mark h) is_next (map_fails (λ y. goes (xs ++ y ∷ [])) item next e fails)

module _ {X O N A B : Type 0} (op : Sign → Option O) (r : O → N → Stream → Read X (Carried N A)) (finish : Carried N (List A) → Stream → Read X B) (none : None ≡ op signs.Nothing) (xs : List A) (n : N) (s start : Stream) (whole : Read X B) where
  pub counting_next : (o : O) (x : A) (m : N) (next after : Stream) (ys : List A) → Running op (counting r) finish (xs, n) s start whole → Some o ≡ op (ahead s) → next ≡ behind s → r o n next ≡ Ok ((x, m), after) → size after ≤ size next → ys ≡ xs ++ x ∷ []
      → Running op (counting r) finish (ys, m) after start whole
  counting_next o x m next after ys g h is_next e le made =
      running_next op (counting r) finish none (xs, n) s start whole g o (ys, m) next after h is_next
      (mapped (λ (y : Carried N A). goes (xs ++ y.0 ∷ [], y.1)) (r o n) next after (x, m) e ∙ ap (λ z. Ok (goes (z, m), after)) (sym made)) le

  pub counting_ends : Running op (counting r) finish (xs, n) s start whole → None ≡ op (ahead s) → whole ≡ finish (xs, n) s
  counting_ends g h = running_ends op (counting r) finish none (xs, n) s start whole g h

  pub counting_fails : (o : O) (e : Option (Stop X)) (next : Stream) → Running op (counting r) finish (xs, n) s start whole → Some o ≡ op (ahead s) → next ≡ behind s → IsStop e (r o n next) → IsStop e whole
  counting_fails o e next g h is_next fails =
      running_fails op (counting r) finish none (xs, n) s start whole g o e next h is_next (map_fails (λ (y : Carried N A). goes (xs ++ y.0 ∷ [], y.1)) (r o n) next e fails)

-- behind a mark
module _ {X N A B : Type 0} (mark : Mark) (r : N → Stream → Read X (Carried N A)) (finish : Carried N (List A) → Stream → Read X B) (xs : List A) (n : N) (s start : Stream) (whole : Read X B) where
  pub linked_next : (x : A) (m : N) (next after : Stream) (ys : List A) → Running (only mark) (counting (λ o. r)) finish (xs, n) s start whole → true ≡ is (ahead s) mark → next ≡ behind s → r n next ≡ Ok ((x, m), after) → size after ≤ size next → ys ≡ xs ++ x ∷ []
      → Running (only mark) (counting (λ o. r)) finish (ys, m) after start whole
  linked_next x m next after ys g h is_next e le made =
      counting_next (only mark) (λ o. r) finish refl xs n s start whole tt x m next after ys g (only_some (ahead s) mark h) is_next e le made

  pub linked_ends : Running (only mark) (counting (λ o. r)) finish (xs, n) s start whole → false ≡ is (ahead s) mark → whole ≡ finish (xs, n) s
  linked_ends g h = counting_ends (only mark) (λ o. r) finish refl xs n s start whole g (only_none (ahead s) mark h)

  pub linked_fails : (e : Option (Stop X)) (next : Stream) → Running (only mark) (counting (λ o. r)) finish (xs, n) s start whole → true ≡ is (ahead s) mark → next ≡ behind s → IsStop e (r n next) → IsStop e whole
  linked_fails e next g h is_next fails = counting_fails (only mark) (λ o. r) finish refl xs n s start whole tt e next g (only_some (ahead s) mark h) is_next fails
