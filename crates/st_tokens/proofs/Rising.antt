-- The tokens of a text stand in rising order.
use Rattle.std.proofs.Common.{ℕ, zero, suc, pred, ◌-◌, ◌≤◌, List, [], ◌∷◌, length, arith}
use Rattle.st_tokens.specs.declared.kind.Front.{Front}
use Rattle.st_tokens.specs.declared.kind.Front.TheVariants.{Blank, Whole, Bad, Long}
use Rattle.st_tokens.specs.Text.{front_at}
use Rattle.st_tokens.specs.Stream.{lex, begin, text_stream, first_place, IsRising}

pub first_at : (end skip : ℕ) (bs : List ℕ) → length bs ≤ end → end - length bs ≤ first_place (lex end skip bs)
unfolding lex
first_at end skip [] h = omega arith
first_at end (suc skip) (b ∷ bs) h = omega (arith, first_at end skip bs (omega arith))
first_at end zero (b ∷ bs) h = at_front (λ k. first_at end k bs (omega arith)) (front_at b bs)
  where
    at_front : ((k : ℕ) → end - length bs ≤ first_place (lex end k bs)) → (f : Front) → end - length (b ∷ bs) ≤ first_place (begin f (end - length (b ∷ bs)) (b ∷ bs) (λ k. lex end k bs))
    at_front go (Blank n) = omega (arith, go (pred n))
    at_front go (Whole kind n) = omega arith
    at_front go Bad = omega arith
    at_front go Long = omega arith

pub rising : (end skip : ℕ) (bs : List ℕ) → length bs ≤ end → IsRising (lex end skip bs)
unfolding lex
rising end skip [] h = tt
rising end (suc skip) (b ∷ bs) h = rising end skip bs (omega arith)
rising end zero (b ∷ bs) h = at_front (λ k. rising end k bs (omega arith)) (front_at b bs)
  where
    at_front : ((k : ℕ) → IsRising (lex end k bs)) → (f : Front) → IsRising (begin f (end - length (b ∷ bs)) (b ∷ bs) (λ k. lex end k bs))
    at_front go (Blank n) = go (pred n)
    at_front go (Whole kind n) = (omega (arith, first_at end (pred n) bs (omega arith)), go (pred n))
    at_front go Bad = tt
    at_front go Long = tt

pub starts_rise : (text : List ℕ) → IsRising (text_stream text)
starts_rise text = rising (length text) 0 text (omega arith)
