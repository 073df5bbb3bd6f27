-- Items behind one another, each told by its first token.
use Rattle.std.specs.Prelude.{ℕ, zero, suc, Option, Ok}
use Rattle.st_tokens.specs.Stream.{behind}
use Rattle.st_reading.specs.declared.sign.Sign.{Sign}
use Rattle.st_reading.specs.Reading.{Label, ahead, name_of, then_reads, on_operator, size}
use Rattle.st_reading.specs.Breaches.{Reader}

-- `begins` tells an item by its first token, and `item` reads it behind this token, whose text and place it gets, on top of what
-- was read before. `fuel` is at least the number of tokens.
unfoldable pub items_from : {O S : Type 0} → (Sign → Option O) → (O → Label → S → Reader S) → ℕ → S → Reader S
items_from begins item zero x s = Ok (x, s)
items_from begins item (suc k) x s =
    on_operator (begins (ahead s)) (Ok (x, s)) (λ o. then_reads (item o (name_of s) x) (λ y. items_from begins item k y) (behind s))

abbrev pub items : {O S : Type 0} → (Sign → Option O) → (O → Label → S → Reader S) → S → Reader S
items begins item x s = items_from begins item (size s) x s
