-- Arenas with more rows: what a place stands for stays.
use Rattle.std.proofs.Common.{◌≡◌, ℕ, zero, suc, ◌+◌, ◌<◌, ◌≤◌, List, [], ◌∷◌, ◌++◌, length, get_or, take, drop, refl, ap, sym, ◌∙◌, arith, append_assoc, append-nil, take-append-drop, length-append, Some}
use Rattle.elimination_laws.specs.Mixing.{Tracked}
use Rattle.lean_elimination.specs.declared.row.Row.{Row}
use Rattle.lean_elimination.specs.Arenas.{row_at, listed, tracked_row, tracks_from, tracks, AllUnder, IsGrown, IsMade}

tracks_from-append : (done : List Tracked) (xs ys : List Row) → tracks_from done (xs ++ ys) ≡ tracks_from (tracks_from done xs) ys
tracks_from-append done [] ys = refl
tracks_from-append done (x ∷ xs) ys = tracks_from-append (done ++ tracked_row done x ∷ []) xs ys

pub tracks-push : (rs : List Row) (r : Row) → tracks (rs ++ r ∷ []) ≡ tracks rs ++ tracked_row (tracks rs) r ∷ []
tracks-push rs r = tracks_from-append [] rs (r ∷ [])

length-from : (done : List Tracked) (rs : List Row) → length (tracks_from done rs) ≡ length done + length rs
length-from done [] = omega arith
length-from done (r ∷ rs) = omega (arith, length-from (done ++ tracked_row done r ∷ []) rs, length-append done (tracked_row done r ∷ []))

pub length-tracks : (rs : List Row) → length (tracks rs) ≡ length rs
length-tracks rs = omega (arith, length-from [] rs)

at-front : (ts us : List Tracked) (k : ℕ) → k < length ts → row_at (ts ++ us) k ≡ row_at ts k
at-front [] us k h = absurd (omega arith)
at-front (t ∷ ts) us zero h = refl
at-front (t ∷ ts) us (suc k) h = at-front ts us k (omega arith)

at-end : (ts : List Tracked) (t : Tracked) → row_at (ts ++ t ∷ []) (length ts) ≡ t
at-end [] t = refl
at-end (x ∷ xs) t = at-end xs t

record Extends (done all : List Tracked) : Type 0 where
  more : List Tracked
  is : all ≡ done ++ more

from-extends : (done : List Tracked) (rs : List Row) → Extends done (tracks_from done rs)
from-extends done [] = record { more = []; is = sym (append-nil done) }
from-extends done (r ∷ rs) =
    let e = from-extends (done ++ tracked_row done r ∷ []) rs in
    record { more = tracked_row done r ∷ e.more; is = e.is ∙ append_assoc done (tracked_row done r ∷ []) e.more }

at-from : (done : List Tracked) (rs : List Row) (k n : ℕ) (d : Row) → k < length rs → n ≡ length done + k → row_at (tracks_from done rs) n ≡ tracked_row (tracks_from done (take k rs)) (get_or rs k d)
at-from done [] k n d h e = absurd (omega arith)
at-from done (r ∷ rs) zero n d h e =
    let x = from-extends (done ++ tracked_row done r ∷ []) rs in
    let l = length-append done (tracked_row done r ∷ []) in
    let i : n ≡ length done = omega (arith, e) in
    rw (x.is, i) (at-front (done ++ tracked_row done r ∷ []) x.more (length done) (omega (arith, l)) ∙ at-end done (tracked_row done r))
at-from done (r ∷ rs) (suc k) n d h e = at-from (done ++ tracked_row done r ∷ []) rs k n d (omega arith) (omega (arith, e, length-append done (tracked_row done r ∷ [])))

-- what the row at a place is
pub row-is : (rs : List Row) (k : ℕ) (r : Row) → k < length rs → r ≡ get_or rs k r → row_at (tracks rs) k ≡ tracked_row (tracks (take k rs)) r
row-is rs k r h e = at-from [] rs k k r h (omega arith) ∙ ap (tracked_row (tracks (take k rs))) (sym e)

pub grown-same : (rs : List Row) → IsGrown rs rs
grown-same rs = record { more = []; is = sym (append-nil (tracks rs)); longer = omega arith }

pub grown-then : (old now new : List Row) → IsGrown old now → IsGrown now new → IsGrown old new
grown-then old now new g h = record {
  more = g.more ++ h.more;
  is = h.is ∙ ap (λ ts. ts ++ h.more) g.is ∙ append_assoc (tracks old) g.more h.more;
  longer = omega (arith, g.longer, h.longer);
}

pub grown-push : (rs : List Row) (r : Row) → IsGrown rs (rs ++ r ∷ [])
grown-push rs r = record { more = tracked_row (tracks rs) r ∷ []; is = tracks-push rs r; longer = omega (arith, length-append rs (r ∷ [])) }

pub at-grown : (old new : List Row) (k : ℕ) → IsGrown old new → k < length old → row_at (tracks new) k ≡ row_at (tracks old) k
at-grown old new k g h = ap (λ ts. row_at ts k) g.is ∙ at-front (tracks old) g.more k (omega (arith, h, length-tracks old))

pub listed-grown : (old new : List Row) (ks : List ℕ) → IsGrown old new → AllUnder (length old) ks → listed (tracks new) ks ≡ listed (tracks old) ks
listed-grown old new [] g h = refl
listed-grown old new (k ∷ ks) g h = rw (at-grown old new k g h.0, listed-grown old new ks g h.1) refl

pub grown-take : (rs : List Row) (k : ℕ) → k ≤ length rs → IsGrown (take k rs) rs
grown-take rs k h =
    let x = from-extends (tracks (take k rs)) (drop k rs) in
    let e : take k rs ++ drop k rs ≡ rs = take-append-drop k rs in
    record {
      more = x.more;
      is = ap tracks (sym e) ∙ tracks_from-append [] (take k rs) (drop k rs) ∙ x.is;
      longer = omega (arith, ap length e, length-append (take k rs) (drop k rs));
    }

pub under-more : (m n : ℕ) (ks : List ℕ) → m ≤ n → AllUnder m ks → AllUnder n ks
under-more m n [] h u = tt
under-more m n (k ∷ ks) h u = (omega (arith, u.0), under-more m n ks h u.1)

pub under-push : (n : ℕ) (ks : List ℕ) (k : ℕ) → AllUnder n ks → k < n → AllUnder n (ks ++ k ∷ [])
under-push n [] k u h = (h, tt)
under-push n (x ∷ xs) k u h = (u.0, under-push n xs k u.1 h)

pub under-at : (n : ℕ) (ks : List ℕ) (i d : ℕ) → AllUnder n ks → i < length ks → get_or ks i d < n
under-at n [] i d u h = absurd (omega arith)
under-at n (k ∷ ks) zero d u h = u.0
under-at n (k ∷ ks) (suc i) d u h = under-at n ks i d u.1 (omega arith)

under-append : (n : ℕ) (ks ls : List ℕ) → AllUnder n ks → AllUnder n ls → AllUnder n (ks ++ ls)
under-append n [] ls u w = w
under-append n (k ∷ ks) ls u w = (u.0, under-append n ks ls u.1 w)

under-take : (n : ℕ) (ks : List ℕ) (i : ℕ) → AllUnder n ks → AllUnder n (take i ks)
under-take n ks zero u = tt
under-take n [] (suc i) u = tt
under-take n (k ∷ ks) (suc i) u = (u.0, under-take n ks i u.1)

under-drop : (n : ℕ) (ks : List ℕ) (i : ℕ) → AllUnder n ks → AllUnder n (drop i ks)
under-drop n ks zero u = u
under-drop n [] (suc i) u = u
under-drop n (k ∷ ks) (suc i) u = under-drop n ks i u.1

pub under-without : (n : ℕ) (ks : List ℕ) (i : ℕ) → AllUnder n ks → AllUnder n (take i ks ++ drop (i + 1) ks)
under-without n ks i u = under-append n (take i ks) (drop (i + 1) ks) (under-take n ks i u) (under-drop n ks (i + 1) u)

pub listed-push : (ts : List Tracked) (ks : List ℕ) (k : ℕ) → listed ts (ks ++ k ∷ []) ≡ listed ts ks ++ row_at ts k ∷ []
listed-push ts [] k = refl
listed-push ts (x ∷ xs) k = ap (λ l. row_at ts x ∷ l) (listed-push ts xs k)

pub made-push : (rs : List Row) (r : Row) → IsMade rs (rs ++ r ∷ []) (length rs) (Some (tracked_row (tracks rs) r))
made-push rs r = record {
  grown = grown-push rs r;
  under = omega (arith, length-append rs (r ∷ []));
  same = ap Some (sym (ap (λ ts. row_at ts (length rs)) (tracks-push rs r) ∙ ap (row_at (tracks rs ++ tracked_row (tracks rs) r ∷ [])) (sym (length-tracks rs)) ∙ at-end (tracks rs) (tracked_row (tracks rs) r)));
}
