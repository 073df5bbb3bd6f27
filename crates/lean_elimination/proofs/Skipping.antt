-- The stages: one that goes on, one that stops, and one of a variable that no line has, which changes nothing.
use Rattle.std.proofs.Common.{◌≡◌, ℕ, zero, suc, ◌+◌, ◌-◌, ◌<◌, ◌≤◌, Bool, true, false, Option, Some, None, List, [], ◌∷◌, length, map, refl, ap, sym, subst, ◌∙◌, arith, ℤ, append-nil}
use Rattle.std.specs.Prelude.{◌&&◌, not, nat_lt}
use Rattle.std.proofs.lemmas.Bool.Decides.{nat_tests}
use Rattle.st_linear.specs.Linear.{is_zero}
use Rattle.st_linear.specs.declared.rows.Line.{Line}
use Rattle.elimination_laws.specs.Mixing.{Tracked, part_of}
use Rattle.elimination_laws.specs.Stages.{Judgement, stays, goes, clashes, judged, Sifted, list, clash, wide, onto, placed, sifted, solver, kept_by, is_free, bounds_below, made, use_of, Ending, contradiction, with_use, then_stages, stages, at_rows, tracked, ending}
use Rattle.row_elimination.specs.Places.{sift_from}
use Rattle.row_elimination.proofs.Sifting.{sift-all, zero-others}
use Rattle.lean_elimination.specs.declared.stop.Stop.{Stop}
use Rattle.lean_elimination.specs.declared.stop.Stop.TheVariants.{Clash, Unfit, Memory}
use Rattle.lean_elimination.specs.Arenas.{listed}
use Rattle.lean_elimination.specs.Placings.{StopsBy, EndsBy, AreFree, AllStay}
use Rattle.basic_laws.proofs.Numbers.{one-more}

solves-free : (b z : Bool) → z ≡ true → b && not z ≡ false
solves-free true z h = rw h refl
solves-free false z h = refl

free-solver : (v : ℕ) (ts : List Tracked) → AreFree v ts → solver v ts ≡ None
free-solver v [] h = refl
free-solver v (t ∷ ts) h = rw (solves-free t.equal (is_zero (part_of v t)) h.0) (free-solver v ts h.1)

free-kept : (v : ℕ) (ts : List Tracked) → AreFree v ts → kept_by (is_free v) ts ≡ ts
free-kept v [] h = refl
free-kept v (t ∷ ts) h = rw h.0 (ap (λ l. t ∷ l) (free-kept v ts h.1))

free-below : (v : ℕ) (ts : List Tracked) → AreFree v ts → kept_by (bounds_below v) ts ≡ []
free-below v [] h = refl
free-below v (t ∷ ts) h = rw (zero-others (part_of v t) h.0).0 (free-below v ts h.1)

free-made : (v : ℕ) (ts : List Tracked) → AreFree v ts → made v ts ≡ map Some ts
free-made v ts h = rw (free-solver v ts h, free-kept v ts h, free-below v ts h) (append-nil (map Some ts))

stay-sifted : (ts : List Tracked) (room : ℕ) → AllStay ts → length ts ≤ room → sifted (map Some ts) room ≡ list ts
stay-sifted [] room h k = refl
stay-sifted (t ∷ ts) zero h k = absurd (omega (arith, k))
stay-sifted (t ∷ ts) (suc room) h k = rw h.0 (ap (onto t) (stay-sifted ts room h.1 (omega (arith, k))))

pub stage-free : (v : ℕ) (ts : List Tracked) → AreFree v ts → AllStay ts → length ts ≤ 4096 → sifted (made v ts) 4096 ≡ list ts
stage-free v ts h k l = ap (λ ms. sifted ms 4096) (free-made v ts h) ∙ stay-sifted ts 4096 k l

-- the lines of a new list are no constants, and there are few
pub record AreFew (ts : List Tracked) (room : ℕ) : Type 0 where
  pub stay : AllStay ts
  pub few : length ts ≤ room

lists-same : (us vs : List Tracked) → list us ≡ list vs → us ≡ vs
lists-same us vs h = cc

few-onto : (t : Tracked) (s : Sifted) (us : List Tracked) (room : ℕ) → judged t ≡ stays → onto t s ≡ list us → ((vs : List Tracked) → s ≡ list vs → AreFew vs room) → AreFew us (suc room)
few-onto t (list ts) us room h e f =
    let g = f ts refl in
    subst (λ l. AreFew l (suc room)) (lists-same (t ∷ ts) us e) record { stay = (h, g.stay); few = omega (arith, g.few) }
few-onto t (clash ps) us room h e f = absurd (cc)
few-onto t wide us room h e f = absurd (cc)

few-more : (us : List Tracked) (room : ℕ) → AreFew us room → AreFew us (suc room)
few-more us room f = record { stay = f.stay; few = omega (arith, f.few) }

few-placed : (j : Judgement) (t : Tracked) (ms : List (Option Tracked)) (room : ℕ) (us : List Tracked) → judged t ≡ j → placed j t room (sifted ms) ≡ list us → ((room : ℕ) (vs : List Tracked) → sifted ms room ≡ list vs → AreFew vs room) → AreFew us room
few-placed stays t ms zero us h e f = absurd (cc)
few-placed stays t ms (suc room) us h e f = few-onto t (sifted ms room) us room h e (f room)
few-placed goes t ms room us h e f = f room us e
few-placed (clashes ps) t ms room us h e f = absurd (cc)

pub sifted-few : (ms : List (Option Tracked)) (room : ℕ) (us : List Tracked) → sifted ms room ≡ list us → AreFew us room
sifted-few [] room us e = subst (λ l. AreFew l room) (lists-same [] us e) record { stay = tt; few = omega arith }
sifted-few (None ∷ ms) room us e = absurd (cc)
sifted-few (Some t ∷ ms) room us e = few-placed (judged t) t ms room us refl e (sifted-few ms)

after : (n v : ℕ) (ts us : List Tracked) (ps : List (ℕ × ℤ)) → sifted (made v ts) 4096 ≡ list us → stages n (v + 1) us ≡ contradiction ps → stages (suc n) v ts ≡ contradiction ps
after n v ts us ps h k = rw h (ap (with_use (use_of v ts)) k)

pub stages-after : (n v : ℕ) (ts us : List Tracked) (ps : List (ℕ × ℤ)) → v < n → sifted (made v ts) 4096 ≡ list us → stages (n - (v + 1)) (v + 1) us ≡ contradiction ps → stages (n - v) v ts ≡ contradiction ps
stages-after n v ts us ps l h k = ap (λ m. stages m v ts) (one-more n v l) ∙ after (n - (v + 1)) v ts us ps h k

stopped : (n v : ℕ) (ts : List Tracked) (ps : List (ℕ × ℤ)) → v < n → sifted (made v ts) 4096 ≡ clash ps → stages (n - v) v ts ≡ contradiction ps
stopped n v ts ps l h = ap (λ m. stages m v ts) (one-more n v l) ∙ rw h refl

pub stages-stop : (n v : ℕ) (ts rows : List Tracked) (stop : Stop) (whole : Ending) → v < n → StopsBy rows stop (sifted (made v ts) 4096) → ((ps : List (ℕ × ℤ)) → stages (n - v) v ts ≡ contradiction ps → whole ≡ contradiction ps) → EndsBy rows stop whole
stages-stop n v ts rows (Clash k) whole l s f = record { multiples = s.multiples; found = s.found; is = f s.multiples (stopped n v ts s.multiples l s.is) }
stages-stop n v ts rows Unfit whole l s f = tt
stages-stop n v ts rows Memory whole l s f = tt

few-lines : (lines : List Line) (n : ℕ) → length lines ≤ 4096 → ending lines n ≡ then_stages at_rows (sifted (map Some (tracked 0 lines)) 4096) (stages n 0)
few-lines lines n h = let t : nat_lt 4096 (length lines) ≡ false = grind (arith, nat_tests) in rw t refl

first-clash : (lines : List Line) (n : ℕ) (ps : List (ℕ × ℤ)) → length lines ≤ 4096 → sift_from [] (map Some (tracked 0 lines)) ≡ clash ps → ending lines n ≡ contradiction ps
first-clash lines n ps h k = few-lines lines n h ∙ ap (λ s. then_stages at_rows s (stages n 0)) (sym (sift-all (map Some (tracked 0 lines))) ∙ k)

pub ending-stop : (lines : List Line) (n : ℕ) (rows : List Tracked) (stop : Stop) → length lines ≤ 4096 → StopsBy rows stop (sift_from [] (map Some (tracked 0 lines))) → EndsBy rows stop (ending lines n)
ending-stop lines n rows (Clash k) h s = record { multiples = s.multiples; found = s.found; is = first-clash lines n s.multiples h s.is }
ending-stop lines n rows Unfit h s = tt
ending-stop lines n rows Memory h s = tt

pub length-listed : (ts : List Tracked) (ks : List ℕ) → length (listed ts ks) ≡ length ks
length-listed ts [] = refl
length-listed ts (k ∷ ks) = omega (arith, length-listed ts ks)

pub first-few : (lines : List Line) (us : List Tracked) → sift_from [] (map Some (tracked 0 lines)) ≡ list us → AreFew us 4096
first-few lines us h = sifted-few (map Some (tracked 0 lines)) 4096 us (sym (sift-all (map Some (tracked 0 lines))) ∙ h)

pub ending-is : (lines : List Line) (n : ℕ) (us : List Tracked) → length lines ≤ 4096 → sift_from [] (map Some (tracked 0 lines)) ≡ list us → stages n 0 us ≡ ending lines n
ending-is lines n us h k = sym (few-lines lines n h ∙ ap (λ s. then_stages at_rows s (stages n 0)) (sym (sift-all (map Some (tracked 0 lines))) ∙ k))
