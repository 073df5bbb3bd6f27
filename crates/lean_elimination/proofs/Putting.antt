-- One more line that is made: it is put into the new list, or it clashes.
use Rattle.std.proofs.Common.{◌≡◌, ℕ, ◌+◌, ◌<◌, Option, Some, List, [], ◌∷◌, ◌++◌, length, get_or, drop, refl, ap, sym, subst, ◌∙◌, true, false, Bool, ℤ, negsuc}
use Rattle.std.proofs.lemmas.List.{drop_more}
use Rattle.elimination_laws.specs.Mixing.{Tracked}
use Rattle.elimination_laws.specs.Stages.{stays, goes, clashes, judged, Sifted, list, clash, kept_by, made}
use Rattle.row_elimination.specs.Places.{placed_on, then_sifted, sift_from}
use Rattle.row_elimination.proofs.Sifting.{sift_from-append}
use Rattle.lean_elimination.specs.declared.row.Row.{Row}
use Rattle.lean_elimination.specs.declared.stop.Stop.{Stop}
use Rattle.lean_elimination.specs.declared.stop.Stop.TheVariants.{Clash, Unfit, Memory}
use Rattle.lean_elimination.specs.declared.stop.Refusal.{Refusal}
use Rattle.lean_elimination.specs.declared.stop.Refusal.TheVariants as refusal
use Rattle.lean_elimination.specs.Refusals.{stop_of}
use Rattle.lean_elimination.specs.Arenas.{row_at, listed, tracks, AllUnder, IsGrown, IsMade}
use Rattle.lean_elimination.specs.Placings.{StopsBy}
use Rattle.lean_elimination.proofs.Growing.{at-grown, listed-grown}

-- the rest follows the new list, or the clash is that of the whole
pub step-ok : (ts us : List Tracked) (t : Tracked) (o : Option Tracked) (ms : List (Option Tracked)) (whole : Sifted) → o ≡ Some t → sift_from ts (o ∷ ms) ≡ whole → placed_on ts t ≡ list us → sift_from us ms ≡ whole
step-ok ts us t o ms whole e h k = sym (rw (e, k) refl) ∙ h

pub step-clash : (ts : List Tracked) (t : Tracked) (o : Option Tracked) (ms : List (Option Tracked)) (whole : Sifted) (ps : List (ℕ × ℤ)) → o ≡ Some t → sift_from ts (o ∷ ms) ≡ whole → placed_on ts t ≡ clash ps → whole ≡ clash ps
step-clash ts t o ms whole ps e h k = sym h ∙ rw (e, k) refl

-- the same for a row that was made in a longer arena
pub put-ok : (now new : List Row) (m : ℕ) (o : Option Tracked) (next after : List ℕ) (ms : List (Option Tracked)) (whole : Sifted) → IsMade now new m o → AllUnder (length now) next → sift_from (listed (tracks now) next) (o ∷ ms) ≡ whole → placed_on (listed (tracks new) next) (row_at (tracks new) m) ≡ list (listed (tracks new) after) → sift_from (listed (tracks new) after) ms ≡ whole
put-ok now new m o next after ms whole made under h k =
    step-ok (listed (tracks now) next) (listed (tracks new) after) (row_at (tracks new) m) o ms whole made.same h
    (ap (λ ts. placed_on ts (row_at (tracks new) m)) (sym (listed-grown now new next made.grown under)) ∙ k)

pub put-stops : (now new : List Row) (m : ℕ) (o : Option Tracked) (next : List ℕ) (ms : List (Option Tracked)) (whole : Sifted) (stop : Stop) → IsMade now new m o → AllUnder (length now) next → sift_from (listed (tracks now) next) (o ∷ ms) ≡ whole → StopsBy (tracks new) stop (placed_on (listed (tracks new) next) (row_at (tracks new) m)) → StopsBy (tracks new) stop whole
put-stops now new m o next ms whole (Clash k) made under h s = record {
  multiples = s.multiples;
  found = s.found;
  is = step-clash (listed (tracks now) next) (row_at (tracks new) m) o ms whole s.multiples made.same h
      (ap (λ ts. placed_on ts (row_at (tracks new) m)) (sym (listed-grown now new next made.grown under)) ∙ s.is);
}
put-stops now new m o next ms whole Unfit made under h s = tt
put-stops now new m o next ms whole Memory made under h s = tt

pub stops-same : (ts : List Tracked) (stop : Stop) (a b : Sifted) → a ≡ b → StopsBy ts stop a → StopsBy ts stop b
stops-same ts stop a b e s = subst (StopsBy ts stop) e s

-- a stop among the first lines is a stop of all
pub stops-then : (ts : List Tracked) (stop : Stop) (s : Sifted) (f : List Tracked → Sifted) → StopsBy ts stop s → StopsBy ts stop (then_sifted s f)
stops-then ts (Clash k) s f h = record { multiples = h.multiples; found = h.found; is = ap (λ s. then_sifted s f) h.is }
stops-then ts Unfit s f h = tt
stops-then ts Memory s f h = tt

pub stops-append : (ts us : List Tracked) (stop : Stop) (xs ys : List (Option Tracked)) → StopsBy ts stop (sift_from us xs) → StopsBy ts stop (sift_from us (xs ++ ys))
stops-append ts us stop xs ys h = stops-same ts stop _ _ (sym (sift_from-append us xs ys)) (stops-then ts stop (sift_from us xs) (λ us. sift_from us ys) h)

pub list-append : (us new : List Tracked) (xs ys : List (Option Tracked)) → sift_from us xs ≡ list new → sift_from us (xs ++ ys) ≡ sift_from new ys
list-append us new xs ys h = sift_from-append us xs ys ∙ ap (λ s. then_sifted s (λ us. sift_from us ys)) h

-- a row that is made of rows in a longer arena
pub made-old : (old now new : List Row) (m : ℕ) (f g : Tracked → Option Tracked) (k : ℕ) → IsGrown old now → k < length old → ((t : Tracked) → f t ≡ g t) → IsMade now new m (f (row_at (tracks now) k)) → IsMade now new m (g (row_at (tracks old) k))
made-old old now new m f g k grown under same made = record {
  grown = made.grown;
  under = made.under;
  same = sym (same (row_at (tracks old) k)) ∙ ap f (sym (at-grown old now k grown under)) ∙ made.same;
}

-- the listed rows from a place on
pub listed-more : (ts : List Tracked) (ks : List ℕ) (i k : ℕ) → i < length ks → k ≡ get_or ks i k → listed ts (drop i ks) ≡ row_at ts k ∷ listed ts (drop (i + 1) ks)
listed-more ts ks i k h e = ap (listed ts) (drop_more ks i k h ∙ ap (λ x. x ∷ drop (i + 1) ks) (sym e))

pub kept-yes : (test : Tracked → Bool) (t : Tracked) (ts all : List Tracked) → all ≡ t ∷ ts → test t ≡ true → kept_by test all ≡ t ∷ kept_by test ts
kept-yes test t ts all e h = rw (e, h) refl

pub kept-no : (test : Tracked → Bool) (t : Tracked) (ts all : List Tracked) → all ≡ t ∷ ts → test t ≡ false → kept_by test all ≡ kept_by test ts
kept-no test t ts all e h = rw (e, h) refl

-- what becomes of a row, by its entries and its constant
pub fate-stays : (e : ℕ × ℤ) (es : List (ℕ × ℤ)) (t : Tracked) → t.form.entries ≡ e ∷ es → judged t ≡ stays
fate-stays e es t h = rw h refl

pub fate-below : (n : ℕ) (t : Tracked) → t.form.entries ≡ [] → t.form.constant ≡ negsuc n → judged t ≡ clashes t.picks
fate-below n t h k = rw (h, k) refl

-- the rows at the places of a list
pub fate-put : (ts : List Tracked) (t : Tracked) (us : List Tracked) → judged t ≡ goes → placed_on us t ≡ list us
fate-put ts t us h = rw h refl

-- a refusal is no clash
pub refused : (ts : List Tracked) (r : Refusal) (stop : Stop) (s : Sifted) → stop ≡ stop_of r → StopsBy ts stop s
refused ts refusal.Unfit stop s e = rw e tt
refused ts refusal.Memory stop s e = rw e tt
