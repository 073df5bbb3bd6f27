-- One line more in the loops of a stage.
use Rattle.std.proofs.Common.{◌≡◌, ℕ, zero, suc, ◌<◌, ◌^◌, Bool, true, false, Option, Some, List, ◌∷◌, length, map, refl, ap, sym, ◌∙◌, arith, ℤ, pos, negsuc}
use Rattle.std.specs.Prelude.{IsTrue}
use lib.Signed.{lt_z}
use mir.Syntax.{w64}
use mir.Val.{to_z, of_z}
use Rattle.std.proofs.lemmas.Bool.Decides.{nat_tests}
use Rattle.st_linear.specs.Linear.{is_within}
use Rattle.elimination_laws.specs.Mixing.{Tracked, part_of, is_up, is_down}
use Rattle.elimination_laws.specs.Stages.{list, Sifted, freed, paired, pairs, kept_by, bounds_above}
use Rattle.row_elimination.specs.Places.{placed_on, sift_from}
use Rattle.lean_elimination.specs.declared.row.Row.{Row}
use Rattle.lean_elimination.specs.declared.stop.Stop.{Stop}
use Rattle.lean_elimination.specs.Arenas.{row_at, listed, tracks, AllUnder, IsGrown, IsMade}
use Rattle.lean_elimination.specs.Placings.{StopsBy}
use Rattle.lean_elimination.proofs.Growing.{at-grown, listed-grown, grown-same}
use Rattle.lean_elimination.proofs.Putting.{put-ok, put-stops, stops-same, stops-append, list-append}
use Rattle.lean_elimination.proofs.Narrowing.{to_z-narrow}

-- the first of the lines that are left is made and put
pub turn-ok : (now new : List Row) (m : ℕ) (f : Tracked → Option Tracked) (t : Tracked) (all rest : List Tracked) (next after : List ℕ) (whole : Sifted) → all ≡ t ∷ rest → IsMade now new m (f t) → AllUnder (length now) next → sift_from (listed (tracks now) next) (map f all) ≡ whole → placed_on (listed (tracks new) next) (row_at (tracks new) m) ≡ list (listed (tracks new) after) → sift_from (listed (tracks new) after) (map f rest) ≡ whole
turn-ok now new m f t all rest next after whole e made under h k =
    put-ok now new m (f t) next after (map f rest) whole made under (sym (ap (λ l. sift_from (listed (tracks now) next) (map f l)) e) ∙ h) k

pub turn-stops : (now new : List Row) (m : ℕ) (f : Tracked → Option Tracked) (t : Tracked) (all rest : List Tracked) (next : List ℕ) (whole : Sifted) (stop : Stop) → all ≡ t ∷ rest → IsMade now new m (f t) → AllUnder (length now) next → sift_from (listed (tracks now) next) (map f all) ≡ whole → StopsBy (tracks new) stop (placed_on (listed (tracks new) next) (row_at (tracks new) m)) → StopsBy (tracks new) stop whole
turn-stops now new m f t all rest next whole stop e made under h k =
    put-stops now new m (f t) next (map f rest) whole stop made under (sym (ap (λ l. sift_from (listed (tracks now) next) (map f l)) e) ∙ h) k

-- a row of the arena itself
pub made-self : (rs : List Row) (k : ℕ) → k < length rs → IsMade rs rs k (Some (row_at (tracks rs) k))
made-self rs k h = record { grown = grown-same rs; under = h; same = refl }

pub freed-old : (v : ℕ) (old now new : List Row) (m e k : ℕ) → IsGrown old now → e < length old → k < length old → IsMade now new m (freed v (row_at (tracks now) e) (row_at (tracks now) k)) → IsMade now new m (freed v (row_at (tracks old) e) (row_at (tracks old) k))
freed-old v old now new m e k g h l made = rw (at-grown old now e g h, at-grown old now k g l) at made

pub paired-old : (v : ℕ) (old now new : List Row) (m p k : ℕ) → IsGrown old now → p < length old → k < length old → IsMade now new m (paired v (row_at (tracks now) p) (row_at (tracks now) k)) → IsMade now new m (paired v (row_at (tracks old) p) (row_at (tracks old) k))
paired-old v old now new m p k g h l made = rw (at-grown old now p g h, at-grown old now k g l) at made

-- the side on which a coefficient bounds
down-yes : (z : ℤ) → lt_z z (pos 0) ≡ true → is_down z ≡ true
down-yes (pos n) h = absurd (grind (arith, nat_tests))
down-yes (negsuc n) h = refl

down-no : (z : ℤ) → lt_z z (pos 0) ≡ false → is_down z ≡ false
down-no (pos n) h = refl
down-no (negsuc n) h = absurd (cc)

up-yes : (z : ℤ) → lt_z (pos 0) z ≡ true → is_up z ≡ true
up-yes (pos zero) h = absurd (grind (arith, nat_tests))
up-yes (pos (suc n)) h = refl
up-yes (negsuc n) h = absurd (cc)

up-no : (z : ℤ) → lt_z (pos 0) z ≡ false → is_up z ≡ false
up-no (pos zero) h = refl
up-no (pos (suc n)) h = absurd (grind (arith, nat_tests))
up-no (negsuc n) h = refl

-- what a test of a coefficient in a longer arena says of the row
pub side-of : (test : ℤ → Bool) (b : Bool) (v : ℕ) (old now : List Row) (k : ℕ) (z : ℤ) → IsGrown old now → k < length old → z ≡ part_of v (row_at (tracks now) k) → test z ≡ b → test (part_of v (row_at (tracks old) k)) ≡ b
side-of test b v old now k z g h e t = ap (λ u. test (part_of v u)) (sym (at-grown old now k g h)) ∙ ap test (sym e) ∙ t

pub is-below-zero : (b : Bool) (z : ℤ) → IsTrue (is_within (2 ^ 62) z) → lt_z (to_z w64 (of_z w64 z)) (pos 0) ≡ b → is_down z ≡ b
is-below-zero true z h t = down-yes z (rw (to_z-narrow (2 ^ 62) z (omega arith) h) at t)
is-below-zero false z h t = down-no z (rw (to_z-narrow (2 ^ 62) z (omega arith) h) at t)

pub is-above-zero : (b : Bool) (z : ℤ) → IsTrue (is_within (2 ^ 62) z) → lt_z (pos 0) (to_z w64 (of_z w64 z)) ≡ b → is_up z ≡ b
is-above-zero true z h t = up-yes z (rw (to_z-narrow (2 ^ 62) z (omega arith) h) at t)
is-above-zero false z h t = up-no z (rw (to_z-narrow (2 ^ 62) z (omega arith) h) at t)

-- one lower bound's pairs
pub pairs-ok : (v : ℕ) (lo : Tracked) (all rest us old new : List Tracked) (whole : Sifted) → all ≡ lo ∷ rest → sift_from old (pairs v all us) ≡ whole → sift_from old (map (paired v lo) us) ≡ list new → sift_from new (pairs v rest us) ≡ whole
pairs-ok v lo all rest us old new whole e h k = sym (list-append old new (map (paired v lo) us) (pairs v rest us) k) ∙ sym (ap (λ l. sift_from old (pairs v l us)) e) ∙ h

pub pairs-stops : (v : ℕ) (lo : Tracked) (all rest us old rows : List Tracked) (stop : Stop) (whole : Sifted) → all ≡ lo ∷ rest → sift_from old (pairs v all us) ≡ whole → StopsBy rows stop (sift_from old (map (paired v lo) us)) → StopsBy rows stop whole
pairs-stops v lo all rest us old rows stop whole e h k =
    stops-same rows stop _ _ (sym (ap (λ l. sift_from old (pairs v l us)) e) ∙ h) (stops-append rows old stop (map (paired v lo) us) (pairs v rest us) k)

-- what a lower bound's pairs are in a longer arena
pub pairs-old : (v : ℕ) (old now : List Row) (p : ℕ) (ks : List ℕ) → IsGrown old now → p < length old → AllUnder (length old) ks → map (paired v (row_at (tracks now) p)) (kept_by (bounds_above v) (listed (tracks now) ks)) ≡ map (paired v (row_at (tracks old) p)) (kept_by (bounds_above v) (listed (tracks old) ks))
pairs-old v old now p ks g h u = rw (at-grown old now p g h, listed-grown old now ks g u) refl
