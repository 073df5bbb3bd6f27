-- The loop over the items of a drawing.
use Rattle.std.proofs.Common.{◌≡◌, ℕ, ◌≤◌, Option, Some, None, Ok, refl, sym, ap, ◌∙◌}
use Rattle.st_tokens.specs.Stream.{Stream, behind}
use Rattle.st_reading.specs.Reading.{Stop, Read, ahead, place_of, size, gives, goes, IsStop}
use Rattle.st_reading.proofs.Chains.{Running, running_next, running_ends, running_fails}
use Rattle.st_reading.proofs.Loops.{mapped, map_fails}
use Rattle.st_reading.specs.Breaches.{Breach}
use Rattle.diagram_reader.specs.declared.item.Item.{Item}
use Rattle.diagram_reader.specs.Drawn.{Setting, Drawing}
use Rattle.diagram_reader.specs.Drawing.{item_in, item_of, turn_of}

module _ (g : Setting) (d : Drawing) (s start : Stream) (whole : Read Breach Drawing) where
  abbrev pub Drawing_on : Drawing → Stream → Type 0
  Drawing_on e after = Running item_in (turn_of g) gives e after start whole

  pub item_next : (item : Item) (place : ℕ) (e : Drawing) (next after : Stream) → Drawing_on d s → Some item ≡ item_in (ahead s) → place ≡ place_of s → next ≡ behind s → item_of g item place d next ≡ Ok (e, after) → size after ≤ size next → Drawing_on e after
  item_next item place e next after h begins at is_next reads le =
      running_next item_in (turn_of g) gives refl d s start whole h item e next after begins is_next
      (mapped goes (item_of g item (place_of s) d) next after e (ap (λ p. item_of g item p d next) (sym at) ∙ reads)) le

  pub items_end : Drawing_on d s → None ≡ item_in (ahead s) → whole ≡ Ok (d, s)
  items_end h ends = running_ends item_in (turn_of g) gives refl d s start whole h ends

  pub item_fails : (item : Item) (place : ℕ) (e : Option (Stop Breach)) (next : Stream) → Drawing_on d s → Some item ≡ item_in (ahead s) → place ≡ place_of s → next ≡ behind s → IsStop e (item_of g item place d next) → IsStop e whole
  item_fails item place e next h begins at is_next fails =
      running_fails item_in (turn_of g) gives refl d s start whole h item e next begins is_next
      (map_fails goes (item_of g item (place_of s) d) next e (rw (← at) fails))
