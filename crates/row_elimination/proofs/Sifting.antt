use Rattle.std.proofs.Common.{◌≡◌, ℕ, zero, suc, ◌+◌, ◌<◌, Bool, true, false, Option, Some, None, List, [], ◌∷◌, ◌++◌, map, length, get_or, drop, refl, ap, sym, subst, ◌∙◌, arith, append_assoc, append-nil, length-append, ℤ, pos, negsuc}
use Rattle.std.specs.Prelude.{nat_lt, ◌&&◌, not, Result}
use Rattle.std.proofs.lemmas.List.{drop_more}
use Rattle.std.proofs.lemmas.Bool.Decides.{nat_tests}
use Rattle.elimination_laws.specs.Mixing.{Tracked, part, part_of, is_up, is_down}
use Rattle.st_linear.specs.Linear.{is_zero}
use Rattle.elimination_laws.specs.Stages.{Judgement, stays, goes, clashes, judged, Sifted, list, clash, wide, onto, placed, sifted, paired, pairs, kept_by, is_free, bounds_below, bounds_above, by_bounds, by_equation, forms, solver, others, freed, made, made_with, use_of, use_with}
use Rattle.elimination_laws.proofs.Lists.{AllT, solver-is}
use Rattle.row_elimination.specs.declared.stage.Stage.{Stage}
use Rattle.row_elimination.specs.declared.row.Row.{Row}
use Rattle.row_elimination.specs.declared.halt.Halt.{Halt}
use Rattle.row_elimination.specs.declared.halt.Halt.TheVariants.{Clash, Wide, Memory}
use Rattle.row_elimination.specs.Plain.{tracked_row, rows}
use Rattle.row_elimination.specs.Places.{placed_by, placed_next, then_sifted, sift_from, Halts, HaveAll, IsSolver, GivesStage}

then-then : (s : Sifted) (f g : List Tracked → Sifted) → then_sifted (then_sifted s f) g ≡ then_sifted s (λ us. then_sifted (f us) g)
then-then (list ts) f g = refl
then-then (clash ps) f g = refl
then-then wide f g = refl

then-same : (s : Sifted) (f g : List Tracked → Sifted) → ((us : List Tracked) → f us ≡ g us) → then_sifted s f ≡ then_sifted s g
then-same (list ts) f g h = h ts
then-same (clash ps) f g h = refl
then-same wide f g h = refl

pub sift_from-append : (ts : List Tracked) (xs ys : List (Option Tracked)) → sift_from ts (xs ++ ys) ≡ then_sifted (sift_from ts xs) (λ us. sift_from us ys)
sift_from-append ts [] ys = refl
sift_from-append ts (x ∷ xs) ys =
    then-same (placed_next ts x) _ _ (λ us. sift_from-append us xs ys) ∙ sym (then-then (placed_next ts x) (λ us. sift_from us xs) (λ us. sift_from us ys))

-- one lower bound's pairs
pub pairs-more : (v : ℕ) (old : List Tracked) (ps : List Row) (ns : List Tracked) (i : ℕ) (item : Row) → i < length ps → item ≡ get_or ps i item → sift_from old (pairs v (rows (drop i ps)) ns) ≡ then_sifted (sift_from old (map (paired v (tracked_row item)) ns)) (λ us. sift_from us (pairs v (rows (drop (i + 1) ps)) ns))
pairs-more v old ps ns i item h e =
    let d = drop_more ps i item h in
    ap (λ l. sift_from old (pairs v (rows l) ns)) (d ∙ ap (λ x. x ∷ drop (i + 1) ps) (sym e)) ∙ sift_from-append old (map (paired v (tracked_row item)) ns) (pairs v (rows (drop (i + 1) ps)) ns)

pub pairs-ok : (v : ℕ) (old new : List Tracked) (ps : List Row) (ns : List Tracked) (i : ℕ) (item : Row) → i < length ps → item ≡ get_or ps i item → sift_from old (map (paired v (tracked_row item)) ns) ≡ list new → sift_from old (pairs v (rows (drop i ps)) ns) ≡ sift_from new (pairs v (rows (drop (i + 1) ps)) ns)
pairs-ok v old new ps ns i item h e k = pairs-more v old ps ns i item h e ∙ ap (λ s. then_sifted s (λ us. sift_from us (pairs v (rows (drop (i + 1) ps)) ns))) k

Halts-then : (h : Halt) (s : Sifted) (f : List Tracked → Sifted) → Halts h s → Halts h (then_sifted s f)
Halts-then (Clash ps) s f k = ap (λ s. then_sifted s f) k
Halts-then Wide s f k = ap (λ s. then_sifted s f) k
Halts-then Memory s f k = tt

pub pairs-err : (v : ℕ) (old : List Tracked) (halt : Halt) (ps : List Row) (ns : List Tracked) (i : ℕ) (item : Row) → i < length ps → item ≡ get_or ps i item → Halts halt (sift_from old (map (paired v (tracked_row item)) ns)) → Halts halt (sift_from old (pairs v (rows (drop i ps)) ns))
pairs-err v old halt ps ns i item h e k = subst (Halts halt) (sym (pairs-more v old ps ns i item h e)) (Halts-then halt _ _ k)

pub HaveAll-more : (v : ℕ) (ps : List Row) (i : ℕ) (item : Row) → i < length ps → HaveAll v (drop i ps) → HaveAll v (drop (i + 1) ps)
HaveAll-more v ps i item h k = (subst (HaveAll v) (drop_more ps i item h) k).1

-- lines put in front
abbrev pub onto_all : List Tracked → Sifted → Sifted
onto_all [] s = s
onto_all (t ∷ ts) s = onto t (onto_all ts s)

onto_all-list : (ts us : List Tracked) → onto_all ts (list us) ≡ list (ts ++ us)
onto_all-list [] us = refl
onto_all-list (t ∷ ts) us = ap (onto t) (onto_all-list ts us)

onto_all-wide : (ts : List Tracked) → onto_all ts wide ≡ wide
onto_all-wide [] = refl
onto_all-wide (t ∷ ts) = ap (onto t) (onto_all-wide ts)

onto_all-clash : (ts : List Tracked) (ps : List (ℕ × ℤ)) → onto_all ts (clash ps) ≡ clash ps
onto_all-clash [] ps = refl
onto_all-clash (t ∷ ts) ps = ap (onto t) (onto_all-clash ts ps)

onto_all-more : (ts : List Tracked) (t : Tracked) (s : Sifted) → onto_all (ts ++ t ∷ []) s ≡ onto_all ts (onto t s)
onto_all-more [] t s = refl
onto_all-more (x ∷ xs) t s = ap (onto x) (onto_all-more xs t s)

step-by : (j : Judgement) (ts : List Tracked) (t : Tracked) (ms : List (Option Tracked)) (room : ℕ) → length ts + room ≡ 4096 → ((us : List Tracked) (room : ℕ) → length us + room ≡ 4096 → sift_from us ms ≡ onto_all us (sifted ms room)) → then_sifted (placed_by j ts t) (λ us. sift_from us ms) ≡ onto_all ts (placed j t room (sifted ms))
step-by stays ts t ms zero e h = let n : nat_lt (length ts) 4096 ≡ false = grind (arith, nat_tests) in rw n (sym (onto_all-wide ts))
step-by stays ts t ms (suc room) e h =
    let n : nat_lt (length ts) 4096 ≡ true = grind (arith, nat_tests) in
    rw n (h (ts ++ t ∷ []) room (omega (arith, length-append ts (t ∷ []))) ∙ onto_all-more ts t (sifted ms room))
step-by goes ts t ms room e h = h ts room e
step-by (clashes ps) ts t ms room e h = sym (onto_all-clash ts ps)

pub sift_from-is : (ms : List (Option Tracked)) (ts : List Tracked) (room : ℕ) → length ts + room ≡ 4096 → sift_from ts ms ≡ onto_all ts (sifted ms room)
sift_from-is [] ts room e = ap list (sym (append-nil ts)) ∙ sym (onto_all-list ts [])
sift_from-is (None ∷ ms) ts room e = sym (onto_all-wide ts)
sift_from-is (Some t ∷ ms) ts room e = step-by (judged t) ts t ms room e (sift_from-is ms)

-- from nothing
pub sift-all : (ms : List (Option Tracked)) → sift_from [] ms ≡ sifted ms 4096
sift-all ms = sift_from-is ms [] 4096 (omega arith)

-- one line of those that are left
pub skipped : (test : Tracked → Bool) (line : Row) (left rest : List Row) → left ≡ line ∷ rest → test (tracked_row line) ≡ false → kept_by test (rows left) ≡ kept_by test (rows rest)
skipped test line left rest h k = rw (h, k) refl

pub taken : (test : Tracked → Bool) (line : Row) (left rest : List Row) → left ≡ line ∷ rest → test (tracked_row line) ≡ true → kept_by test (rows left) ≡ tracked_row line ∷ kept_by test (rows rest)
taken test line left rest h k = rw (h, k) refl

rows-push : (out : List Row) (line : Row) → rows (out ++ line ∷ []) ≡ rows out ++ tracked_row line ∷ []
rows-push [] line = refl
rows-push (x ∷ xs) line = ap (λ l. tracked_row x ∷ l) (rows-push xs line)

pub kept-push : (out : List Row) (line : Row) (left rest whole : List Tracked) → rows out ++ left ≡ whole → left ≡ tracked_row line ∷ rest → rows (out ++ line ∷ []) ++ rest ≡ whole
kept-push out line left rest whole h k = rw (rows-push out line, append_assoc) (rw k at h)

pub HaveAll-push : (v : ℕ) (out : List Row) (line : Row) → HaveAll v out → is_zero (part v line.entries.items) ≡ false → HaveAll v (out ++ line ∷ [])
HaveAll-push v [] line h k = (k, tt)
HaveAll-push v (x ∷ xs) line h k = (h.0, HaveAll-push v xs line h.1 k)

pub zero-others : (z : ℤ) → is_zero z ≡ true → (is_up z ≡ false) × (is_down z ≡ false)
zero-others (pos zero) h = (refl, refl)
zero-others (pos (suc n)) h = absurd (cc)
zero-others (negsuc n) h = absurd (cc)

pub up-others : (z : ℤ) → is_up z ≡ true → (is_zero z ≡ false) × (is_down z ≡ false)
up-others (pos zero) h = absurd (cc)
up-others (pos (suc n)) h = (refl, refl)
up-others (negsuc n) h = absurd (cc)

pub down-others : (z : ℤ) → is_down z ≡ true → (is_zero z ≡ false) × (is_up z ≡ false)
down-others (pos n) h = absurd (cc)
down-others (negsuc n) h = (refl, refl)

-- the free lines first, and then the pairs
pub bound-err : (v : ℕ) (ts : List Tracked) (halt : Halt) → Halts halt (sift_from [] (map Some (kept_by (is_free v) ts))) → Halts halt (sift_from [] (made_with v None ts))
bound-err v ts halt h = subst (Halts halt) (sym (sift_from-append [] (map Some (kept_by (is_free v) ts)) (pairs v (kept_by (bounds_below v) ts) (kept_by (bounds_above v) ts)))) (Halts-then halt _ _ h)

pub bound-then : (new : List Tracked) (xs ys : List (Option Tracked)) → sift_from [] xs ≡ list new → sift_from [] (xs ++ ys) ≡ sift_from new ys
bound-then new xs ys h = sift_from-append [] xs ys ∙ ap (λ s. then_sifted s (λ us. sift_from us ys)) h

pub bound-pairs : (v : ℕ) (ts new ls us : List Tracked) → sift_from [] (map Some (kept_by (is_free v) ts)) ≡ list new → ls ≡ kept_by (bounds_below v) ts → us ≡ kept_by (bounds_above v) ts → sift_from [] (made_with v None ts) ≡ sift_from new (pairs v ls us)
bound-pairs v ts new ls us h i j = rw (i, j) (bound-then new (map Some (kept_by (is_free v) ts)) (pairs v (kept_by (bounds_below v) ts) (kept_by (bounds_above v) ts)) h)

pub bounds-same : (ls us l u : List Tracked) → ls ≡ l → us ≡ u → by_bounds (forms ls) (forms us) ≡ by_bounds (forms l) (forms u)
bounds-same ls us l u i j = rw (i, j) refl

pub solved-by : (v : ℕ) (ls : List Row) (k : ℕ) (e : Row) → IsSolver v ls k → e ≡ get_or ls k e → solver v (rows ls) ≡ Some (tracked_row e)
solved-by v ls k e s h = s.here e ∙ ap (λ r. Some (tracked_row r)) (sym h)

all-any : (ts : List Tracked) → AllT (λ t. Unit {0}) ts
all-any [] = tt
all-any (t ∷ ts) = (tt, all-any ts)

has-part : (b z : Bool) → b && not z ≡ true → z ≡ false
has-part true true h = absurd (cc)
has-part true false h = refl
has-part false z h = absurd (cc)

pub solver-has : (v : ℕ) (ts : List Tracked) (e : Tracked) → solver v ts ≡ Some e → is_zero (part_of v e) ≡ false
solver-has v ts e h = has-part e.equal (is_zero (part_of v e)) (solver-is (λ t. Unit {0}) v ts e (all-any ts) h).1

pub made-solved : (v : ℕ) (ts : List Tracked) (e : Tracked) (rest : List Tracked) → solver v ts ≡ Some e → others v ts ≡ rest → sift_from [] (map (freed v e) rest) ≡ sifted (made v ts) 4096
made-solved v ts e rest h k = sift-all (map (freed v e) rest) ∙ ap (λ l. sifted (map (freed v e) l) 4096) (sym k) ∙ ap (λ o. sifted (made_with v o ts) 4096) (sym h)

pub use-solved : (v : ℕ) (ts : List Tracked) (e : Tracked) → solver v ts ≡ Some e → by_equation e.form ≡ use_of v ts
use-solved v ts e h = ap (λ o. use_with v o ts) (sym h)

pub stage-none : (v : ℕ) (ts : List Tracked) (r : Result Stage Halt) → solver v ts ≡ None → GivesStage r (sift_from [] (made_with v None ts)) (use_with v None ts) → GivesStage r (sifted (made v ts) 4096) (use_of v ts)
stage-none v ts r h k =
    let a = sift-all (made_with v None ts) ∙ ap (λ o. sifted (made_with v o ts) 4096) (sym h) in
    let b = ap (λ o. use_with v o ts) (sym h) in
    subst (λ u. GivesStage r (sifted (made v ts) 4096) u) b (subst (λ s. GivesStage r s (use_with v None ts)) a k)
