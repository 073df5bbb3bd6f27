-- Faults in text order, at one place by their rules.
use Rattle.std.proofs.Common.{◌≡◌, ℕ, suc, ◌<◌, ◌≤◌, inl, inr, Bool, true, false, List, [], ◌∷◌, ◌++◌, refl, arith}
use Rattle.expression_typer.specs.declared.fault.TypeFault.{TypeFault}
use Rattle.expression_typer.specs.Placed.{place, AllBehind, IsLeast}
use Rattle.spl_typer.specs.StatementRules.{unless, where_true}
use Rattle.expression_typer.proofs.Rising.{Rising}
use Rattle.typing_laws.specs.Laws.{IsRule, AreRules}

-- rules that are broken at places from one on and before another, in their order
abbrev pub Ordered : ℕ → ℕ → List TypeFault → Type 0
Ordered from to [] = from ≤ to
Ordered from to (f ∷ fs) = (from ≤ place f) × (place f < to) × IsRule f × AllBehind f fs × Ordered from to fs

pub ordered_within : (from to : ℕ) (fs : List TypeFault) → Ordered from to fs → from ≤ to
ordered_within from to [] h = h
ordered_within from to (f ∷ fs) h = omega (arith, h.0, h.1)

pub ordered_from : (a b to : ℕ) (fs : List TypeFault) → a ≤ b → Ordered b to fs → Ordered a to fs
ordered_from a b to [] h k = omega (arith, h, k)
ordered_from a b to (f ∷ fs) h k = (omega (arith, h, k.0), k.1, k.2, k.3, ordered_from a b to fs h k.4)

pub ordered_to : (from a b : ℕ) (fs : List TypeFault) → a ≤ b → Ordered from a fs → Ordered from b fs
ordered_to from a b [] h k = omega (arith, h, k)
ordered_to from a b (f ∷ fs) h k = (k.0, omega (arith, h, k.1), k.2, k.3, ordered_to from a b fs h k.4)

behind_from : (f : TypeFault) (from to : ℕ) (fs : List TypeFault) → place f < from → Ordered from to fs → AllBehind f fs
behind_from f from to [] h k = tt
behind_from f from to (g ∷ gs) h k = (inl (omega (arith, h, k.0)), behind_from f from to gs h k.4)

behind_append : (f : TypeFault) (mid to : ℕ) (fs gs : List TypeFault) → place f < mid → AllBehind f fs → Ordered mid to gs → AllBehind f (fs ++ gs)
behind_append f mid to [] gs h a k = behind_from f mid to gs h k
behind_append f mid to (g ∷ fs) gs h a k = (a.0, behind_append f mid to fs gs h a.1 k)

pub ordered_append : (from mid to : ℕ) (fs gs : List TypeFault) → Ordered from mid fs → Ordered mid to gs → Ordered from to (fs ++ gs)
ordered_append from mid to [] gs h k = ordered_from from mid to gs h k
ordered_append from mid to (f ∷ fs) gs h k =
    let w = ordered_within mid to gs k in
    (h.0, omega (arith, h.1, w), h.2, behind_append f mid to fs gs h.1 h.3 k, ordered_append from mid to fs gs h.4 k)

pub ordered_rules : (from to : ℕ) (fs : List TypeFault) → Ordered from to fs → AreRules fs
ordered_rules from to [] h = tt
ordered_rules from to (f ∷ fs) h = (h.2, ordered_rules from to fs h.4)

pub ordered_least : (f : TypeFault) (from to : ℕ) (fs rest : List TypeFault) → fs ≡ f ∷ rest → Ordered from to fs → IsLeast f fs
ordered_least f from to fs rest e h =
    let k = rw e at h in
    record { rest = rest; among = e; least = rw e (inr (refl, omega arith), k.3) }

pub of_rising : (from to : ℕ) (fs : List TypeFault) → Rising from to fs → AreRules fs → Ordered from to fs
of_rising from to [] h k = h
of_rising from to (f ∷ fs) h k =
    let r = of_rising (suc (place f)) to fs h.1 k.1 in
    let w = ordered_within (suc (place f)) to fs r in
    (h.0, omega (arith, w), k.0, behind_from f (suc (place f)) to fs (omega arith) r, ordered_from from (suc (place f)) to fs (omega (arith, h.0)) r)

-- one fault
pub alone : (f : TypeFault) → IsRule f → Ordered (place f) (suc (place f)) (f ∷ [])
alone f h = (omega arith, omega arith, h, tt, omega arith)

pub alone_where : (b : Bool) (f : TypeFault) → IsRule f → Ordered (place f) (suc (place f)) (where_true b f)
alone_where true f h = alone f h
alone_where false f h = omega arith

pub alone_unless : (b : Bool) (f : TypeFault) → IsRule f → Ordered (place f) (suc (place f)) (unless b f)
alone_unless true f h = omega arith
alone_unless false f h = alone f h

-- within a wider stretch
pub widened : (a b from to : ℕ) (fs : List TypeFault) → from ≤ a → b ≤ to → Ordered a b fs → Ordered from to fs
widened a b from to fs h k o = ordered_to from b to fs k (ordered_from from a b fs h o)
