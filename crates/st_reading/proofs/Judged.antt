-- What was read by readers that went through, part by part.
use Rattle.std.proofs.Common.{◌≡◌, Bool, true, false, Option, Some, None, Result, Ok, Err, refl, ap}
use Rattle.st_tokens.specs.Stream.{Stream}
use Rattle.st_reading.specs.Reading.{◌>>=◌, gives}
use Rattle.st_reading.specs.Breaches.{Breach, present, unless}

module _ {E A B : Type 0} where
  -- both parts went through
  pub record Both (r : Result A E) (q : A → Result B E) (y : B) : Type 0 where
    pub value : A
    pub first : r ≡ Ok value
    pub second : q value ≡ Ok y

  pub both : (r : Result A E) (q : A → Result B E) (y : B) → (r >>= q) ≡ Ok y → Both r q y
  both (Ok x) q y h = record { value = x; first = refl; second = h }
  both (Err e) q y h = absurd cc

module _ {A : Type 0} where
  pub given : (x y : A) (s rest : Stream) → gives {X = Breach} x s ≡ Ok (y, rest) → x ≡ y
  given x y s rest h = let e : (x, s) ≡ (y, rest) = cc in ap (λ (p : A × Stream). p.0) e

  pub allowed : (wrong : Bool) (breach : Breach) (x y : A) (s rest : Stream) → unless wrong breach x s ≡ Ok (y, rest) → (wrong ≡ false) × (x ≡ y)
  allowed true breach x y s rest h = absurd cc
  allowed false breach x y s rest h = (refl, given x y s rest h)

  pub there : (breach : Breach) (o : Option A) (y : A) (s rest : Stream) → present breach o s ≡ Ok (y, rest) → o ≡ Some y
  there breach None y s rest h = absurd cc
  there breach (Some x) y s rest h = ap Some (given x y s rest h)
