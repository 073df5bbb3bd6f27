-- Lines that are eliminated without a contradiction hold at a point in fractions: each stage of the elimination turns a point of
-- the new list into one of the old.
use Rattle.std.proofs.Common.{◌≡◌, ℕ, ◌+◌, Some, List, [], ◌∷◌, map, refl, arith, length, ℤ, pos}
use Rattle.std.specs.Prelude.{nat_lt}
use Rattle.st_linear.specs.declared.rows.Line.{Line}
use Rattle.elimination_laws.specs.Stages.{sifted, Use, at_rows, through, then_stages, stages, tracked, ending}
use Rattle.elimination_laws.specs.Laws.{AreProper}
use Rattle.elimination_laws.proofs.Heights.{Store}
use Rattle.elimination_laws.proofs.Lists.{AllIsMade, sifted-keeps, sifted-restores}
use Rattle.elimination_laws.proofs.Keeping.{IsProper}
use Rattle.elimination_laws.proofs.Refuting.{tracked-proper, through-point, from-test, after}
use Rattle.elimination_laws.proofs.Solving.{Good, goes-good}
use Rattle.open_points.specs.Points.{AllHoldAt, HoldInFractions}

tracked-hold : (d : ℤ) (s : Store) (k : ℕ) (ls : List Line) → AllIsMade (Good d s) (map Some (tracked k ls)) → AllHoldAt d s ls
tracked-hold d s k [] h = tt
tracked-hold d s k (l ∷ ls) h = (h.0, tracked-hold d s (k + 1) ls h.1)

pub hold : (lines : List Line) (n : ℕ) (us : List Use) → AreProper n lines → ending lines n ≡ through us → HoldInFractions lines
hold lines n us h l =
    let i = from-test (nat_lt 4096 (length lines)) (then_stages at_rows (sifted (map Some (tracked 0 lines)) 4096) (stages n 0)) us l in
    let a = after at_rows (sifted (map Some (tracked 0 lines)) 4096) (stages n 0) us i in
    let k = sifted-keeps (IsProper 0 n) (map Some (tracked 0 lines)) (tracked-proper n 0 lines h) 4096 a.0 a.1 in
    let x = through-point n 0 n a.0 us (omega arith) k a.2 in
    let all = sifted-restores (Good x.d x.s) (λ t g. (goes-good 0 x.d x.s t.form.entries t.form.constant t.equal t.picks x.positive g).0) (map Some (tracked 0 lines)) 4096 a.0 a.1 x.holds in
    record { denominator = x.d; numerators = x.s; positive = x.positive; hold = tracked-hold x.d x.s 0 lines all }
