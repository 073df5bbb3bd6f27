-- The loop over the items of a list, each of which is read by how many stand before it.
use Rattle.std.proofs.Common.{◌≡◌, ℕ, ◌≤◌, true, false, List, [], ◌∷◌, ◌++◌, length, Option, Ok, refl, sym, ap, ◌∙◌}
use Rattle.st_tokens.specs.Stream.{Stream, behind}
use Rattle.st_reading.specs.declared.mark.Mark.{Mark}
use Rattle.st_reading.specs.Sign.{is}
use Rattle.st_reading.specs.Reading.{Stop, Read, IsStop, ahead, size, gives, goes, only}
use Rattle.st_reading.proofs.Chains.{Running, running_next, running_ends, running_fails}
use Rattle.st_reading.proofs.Loops.{mapped, map_fails, only_some, only_none}
use Rattle.st_reading.specs.Breaches.{Breach, Reader}
use Rattle.proof_script.specs.Listing.{counted}

module _ {A : Type 0} (mark : Mark) (r : ℕ → Reader A) (start : Stream) (whole : Read Breach (List A)) where
  -- so far these items were read, and that is left
  abbrev pub Listing_on : List A → Stream → Type 0
  Listing_on ys after = Running (only mark) (counted r) gives ys after start whole

module _ {A : Type 0} (mark : Mark) (r : ℕ → Reader A) (xs : List A) (s start : Stream) (whole : Read Breach (List A)) where
  abbrev Reading_on : List A → Stream → Type 0
  Reading_on = Listing_on mark r start whole

  pub counted_next : (n : ℕ) (x : A) (next after : Stream) (ys : List A) → Reading_on xs s → true ≡ is (ahead s) mark → next ≡ behind s → n ≡ length xs → r n next ≡ Ok (x, after) → size after ≤ size next → ys ≡ xs ++ x ∷ []
      → Reading_on ys after
  counted_next n x next after ys g h is_next count e le made =
      running_next (only mark) (counted r) gives refl xs s start whole g tt ys next after (only_some (ahead s) mark h) is_next
      (mapped (λ y. goes (xs ++ y ∷ [])) (r (length xs)) next after x (ap (λ k. r k next) (sym count) ∙ e) ∙ ap (λ z. Ok (goes z, after)) (sym made)) le

  pub counted_ends : Reading_on xs s → false ≡ is (ahead s) mark → whole ≡ Ok (xs, s)
  counted_ends g h = running_ends (only mark) (counted r) gives refl xs s start whole g (only_none (ahead s) mark h)

  pub counted_fails : (n : ℕ) (e : Option (Stop Breach)) (next : Stream) → Reading_on xs s → true ≡ is (ahead s) mark → next ≡ behind s → n ≡ length xs → IsStop e (r n next) → IsStop e whole
  counted_fails n e next g h is_next count fails =
      running_fails (only mark) (counted r) gives refl xs s start whole g tt e next (only_some (ahead s) mark h) is_next
      (map_fails (λ y. goes (xs ++ y ∷ [])) (r (length xs)) next e (rw (← count) fails))
