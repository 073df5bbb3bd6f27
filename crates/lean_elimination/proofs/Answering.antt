-- The multiples of a row, and the answer that they are.
use Rattle.std.proofs.Common.{◌≡◌, ℕ, zero, suc, ◌+◌, ◌<◌, ◌^◌, Bool, true, false, Some, List, [], ◌∷◌, length, get_or, take, drop, map, refl, ap, sym, ◌∙◌, arith, rules, ℤ, pos, negsuc}
use Rattle.std.specs.Prelude.{IsTrue, Result, Ok, Err, IfOk}
use Rattle.std.proofs.lemmas.List.{drop_more}
use Rattle.farkas_leaf.specs.declared.terms.LentLine.{LentLine}
use Rattle.farkas_leaf.specs.Lent.{lent_line}
use Rattle.row_elimination.specs.Runs.{first_row}
use lib.Signed.{lt_z}
use Rattle.std.proofs.lemmas.Bool.Decides.{nat_tests}
use Rattle.st_linear.specs.Linear.{is_within, are_within}
use Rattle.elimination_laws.specs.Mixing.{Tracked, mixed_entries}
use Rattle.elimination_laws.specs.Stages.{clashes, judged, judged_by, turned, tracked}
use Rattle.lean_elimination.specs.declared.row.Row.{Row}
use Rattle.lean_elimination.specs.declared.row.Parts.{Parts}
use Rattle.lean_elimination.specs.declared.row.Origin.TheVariants.{Input, Sum}
use Rattle.lean_elimination.specs.Arenas.{row_at, tracks, picks_by}
use Rattle.lean_elimination.proofs.Growing.{row-is, grown-take, at-grown}

pub picks-input : (rs : List Row) (k n : ℕ) (r : Row) → k < length rs → r ≡ get_or rs k r → r.origin ≡ Input n → (n, pos 1) ∷ [] ≡ (row_at (tracks rs) k).picks
picks-input rs k n r h e o = sym (ap (λ t. t.picks) (row-is rs k r h e) ∙ ap (picks_by (tracks (take k rs))) o)

-- a row before another, among those before it
before : (rs : List Row) (k i : ℕ) → k < length rs → i < k → row_at (tracks (take k rs)) i ≡ row_at (tracks rs) i
before rs k i h l = let n : length (take k rs) ≡ k = search rules in sym (at-grown (take k rs) rs i (grown-take rs k (omega arith)) (omega (arith, n)))

pub picks-sum : (rs : List Row) (k : ℕ) (p : Parts) (r : Row) (out : List (ℕ × ℤ)) → k < length rs → r ≡ get_or rs k r → r.origin ≡ Sum p → p.first < k → p.second < k → mixed_entries (2 ^ 40) p.x (row_at (tracks rs) p.first).picks p.y (row_at (tracks rs) p.second).picks ≡ Some out → out ≡ (row_at (tracks rs) k).picks
picks-sum rs k p r out h e o l m s =
    sym (ap (λ t. t.picks) (row-is rs k r h e) ∙ ap (picks_by (tracks (take k rs))) o ∙ rw (before rs k p.first h l, before rs k p.second h m, s) refl)

pub one-bounded : (k : ℕ) → IsTrue (are_within 2 ((k, pos 1) ∷ []))
unfolding is_within
one-bounded k = search rules

clash-is : (ps qs : List (ℕ × ℤ)) → clashes ps ≡ clashes qs → ps ≡ qs
clash-is ps qs h = cc

above-by : (es : List (ℕ × ℤ)) (c : ℤ) (equal : Bool) (ps qs : List (ℕ × ℤ)) → judged_by es c equal ps ≡ clashes qs → lt_z (pos 0) c ≡ true → turned ps ≡ qs
above-by (e ∷ es) c equal ps qs h k = absurd (cc)
above-by [] (pos zero) equal ps qs h k = absurd (cc)
above-by [] (pos (suc n)) true ps qs h k = clash-is (turned ps) qs h
above-by [] (pos (suc n)) false ps qs h k = absurd (cc)
above-by [] (negsuc n) equal ps qs h k = absurd (cc)

below-by : (es : List (ℕ × ℤ)) (c : ℤ) (equal : Bool) (ps qs : List (ℕ × ℤ)) → judged_by es c equal ps ≡ clashes qs → lt_z (pos 0) c ≡ false → ps ≡ qs
below-by (e ∷ es) c equal ps qs h k = absurd (cc)
below-by [] (pos zero) equal ps qs h k = absurd (cc)
below-by [] (pos (suc n)) equal ps qs h k = absurd (grind (arith, nat_tests))
below-by [] (negsuc n) equal ps qs h k = clash-is ps qs h

pub answer-turned : (t : Tracked) (qs : List (ℕ × ℤ)) → judged t ≡ clashes qs → lt_z (pos 0) t.form.constant ≡ true → turned t.picks ≡ qs
answer-turned t qs h k = above-by t.form.entries t.form.constant t.equal t.picks qs h k

pub answer-same : (t : Tracked) (qs : List (ℕ × ℤ)) → judged t ≡ clashes qs → lt_z (pos 0) t.form.constant ≡ false → t.picks ≡ qs
answer-same t qs h k = below-by t.form.entries t.form.constant t.equal t.picks qs h k

pub if_ok : {A E : Type 0} (r : Result A E) (P Q : A → Type 0) → ((a : A) → P a → Q a) → IfOk r P → IfOk r Q
if_ok (Ok a) P Q f h = f a h
if_ok (Err e) P Q f h = tt

-- the input's lines from a place on
pub tracked-more : (lines : List LentLine) (i : ℕ) (d : LentLine) → i < length lines → tracked i (map lent_line (drop i lines)) ≡ first_row i (lent_line (get_or lines i d)) ∷ tracked (i + 1) (map lent_line (drop (i + 1) lines))
tracked-more lines i d h = ap (λ ls. tracked i (map lent_line ls)) (drop_more lines i d h)

pub mix-same : (n : ℕ) (x p y q : ℤ) (xs ps ys qs out : List (ℕ × ℤ)) → p ≡ x → q ≡ y → ps ≡ xs → qs ≡ ys → mixed_entries n p ps q qs ≡ Some out → mixed_entries n x xs y ys ≡ Some out
mix-same n x p y q xs ps ys qs out e f g h m = rw (e, f, g, h) at m
