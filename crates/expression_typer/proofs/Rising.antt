-- The faults of an expression come in text order, so the first of them is the least.
use Rattle.std.proofs.Common.{◌≡◌, ℕ, suc, ◌<◌, ◌≤◌, Bool, true, false, cond, List, [], ◌∷◌, ◌++◌, refl, arith, negsuc, Option, Some, None, Result, Ok, Err, append-nil, append_assoc, inl, inr}
use Rattle.std.specs.Option.{option_map}
use Rattle.st_linear.specs.Linear.{Linear, scaled}
use Rattle.st_program.specs.Tree.{Term, number, truth}
use Rattle.expression_parser.specs.declared.raw.Operator.{Operator}
use Rattle.expression_parser.specs.declared.raw.Operator.TheVariants as operators
use Rattle.expression_parser.specs.ExpressionTree.{Expr, Kind, Exprs, start_of}
use Rattle.expression_parser.specs.ExpressionTree as raw
use Rattle.expression_typer.specs.declared.fault.TypeFault.{TypeFault}
use Rattle.expression_typer.specs.declared.fault.TypeFault.TheVariants as faults
use Rattle.expression_typer.specs.Scope.{Names}
use Rattle.expression_typer.specs.Written.{is_writable}
use Rattle.expression_typer.specs.Typing.{typed_by, is_implication}
use Rattle.expression_typer.specs.Rules.{number_in, not_number, not_truth, unknown, too_large, not_linear, operator_faults, form_of, meaning_by, faults_by, kind_faults_by, all_faults_by}
use Rattle.expression_typer.specs.Told.{Told, IsWritten, IsModest, IsModestKind, AreModest}
use Rattle.expression_typer.specs.Placed.{place, AllBehind, IsLeast, IsPlaced, IsPlacedKind, ArePlaced}
use Rattle.expression_typer.proofs.Tells.{told_by}

abbrev pub Rising : ℕ → ℕ → List TypeFault → Type 0
Rising from to [] = from ≤ to
Rising from to (f ∷ fs) = (from ≤ place f) × Rising (suc (place f)) to fs

rising_le : (from to : ℕ) (fs : List TypeFault) → Rising from to fs → from ≤ to
rising_le from to [] h = h
rising_le from to (f ∷ fs) h = let k = rising_le (suc (place f)) to fs h.1 in omega (arith, h.0, k)

rising_from : (a b to : ℕ) (fs : List TypeFault) → a ≤ b → Rising b to fs → Rising a to fs
rising_from a b to [] h k = omega (arith, h, k)
rising_from a b to (f ∷ fs) h k = (omega (arith, h, k.0), k.1)

rising_to : (from a b : ℕ) (fs : List TypeFault) → a ≤ b → Rising from a fs → Rising from b fs
rising_to from a b [] h k = omega (arith, h, k)
rising_to from a b (f ∷ fs) h k = (k.0, rising_to (suc (place f)) a b fs h k.1)

rising_append : (from mid to : ℕ) (fs gs : List TypeFault) → Rising from mid fs → Rising mid to gs → Rising from to (fs ++ gs)
rising_append from mid to [] gs h k = rising_from from mid to gs h k
rising_append from mid to (f ∷ fs) gs h k = (h.0, rising_append (suc (place f)) mid to fs gs h.1 k)

placed_start : (e : Expr) (from to : ℕ) → IsPlaced e from to → from ≤ start_of e
placed_start (raw.node p k) from to h = h.0

-- an expression with its own wrong type
side_truth : (r : Result Term TypeFault) (fs : List TypeFault) (m : Option Term) (from to p : ℕ) → Told IsWritten r fs m → from ≤ p → p < to → Rising from to fs → Rising from to (fs ++ not_truth p m)
side_truth (Ok (number f)) fs m from to p t h k g = rw (t.0, t.1) (h, k)
side_truth (Ok (truth f)) fs m from to p t h k g = rw (t.0, t.1) (omega (arith, h, k))
side_truth (Err f) fs m from to p t h k g = rw (t.1, append-nil fs) g

side_number : (r : Result Term TypeFault) (fs : List TypeFault) (m : Option Term) (from to p : ℕ) → Told IsWritten r fs m → from ≤ p → p < to → Rising from to fs → Rising from to (fs ++ not_number p m)
side_number (Ok (truth f)) fs m from to p t h k g = rw (t.0, t.1) (h, k)
side_number (Ok (number f)) fs m from to p t h k g = rw (t.0, t.1) (omega (arith, h, k))
side_number (Err f) fs m from to p t h k g = rw (t.1, append-nil fs) g

mutual
  placed_end : (e : Expr) (from to : ℕ) → IsPlaced e from to → start_of e < to
  placed_end (raw.node p k) from to h = kind_end k p to h.1

  kind_end : (k : Kind) (p to : ℕ) → IsPlacedKind k p to → p < to
  kind_end (raw.numeral n) p to h = h
  kind_end (raw.truth b) p to h = h
  kind_end (raw.name n) p to h = omega (arith, h.0, h.1)
  kind_end (raw.at n) p to h = omega (arith, h.0, h.1)
  kind_end (raw.negation e) p to h = let a = placed_start e (suc p) to h in let b = placed_end e (suc p) to h in omega (arith, a, b)
  kind_end (raw.negative at e) p to h = let a = placed_start e (suc at) to h.1 in let b = placed_end e (suc at) to h.1 in omega (arith, a, b, h.0)
  kind_end (raw.all es) p to h = h.0
  kind_end (raw.any es) p to h = h.0
  kind_end (raw.pair o at l r) p to h =
      let a = placed_start l p at h.0 in let b = placed_end l p at h.0 in let c = placed_start r (suc at) to h.1 in let d = placed_end r (suc at) to h.1 in omega (arith, a, b, c, d)

single_large : (at from to : ℕ) (f : Linear) → from ≤ at → at < to → Rising from to (too_large at (Some f))
single_large at from to f h k = go (is_writable f)
  where
    go : (b : Bool) → Rising from to (cond b [] (faults.TooLarge at ∷ []))
    go true = omega (arith, h, k)
    go false = (h, k)

linear_rises : (at from to : ℕ) (o : Option Linear) → from ≤ at → at < to → Rising from to (not_linear at o)
linear_rises at from to None h k = (h, k)
linear_rises at from to (Some f) h k = single_large at from to f h k

own_rises : (o : Operator) (at from to : ℕ) (f g : Linear) → from ≤ at → at < to → Rising from to (operator_faults o at (Some f) (Some g))
own_rises operators.Implies at from to f g h k = omega (arith, h, k)
own_rises operators.Equal at from to f g h k = omega (arith, h, k)
own_rises operators.Unequal at from to f g h k = omega (arith, h, k)
own_rises operators.Less at from to f g h k = omega (arith, h, k)
own_rises operators.AtMost at from to f g h k = omega (arith, h, k)
own_rises operators.Greater at from to f g h k = omega (arith, h, k)
own_rises operators.AtLeast at from to f g h k = omega (arith, h, k)
own_rises operators.Plus at from to f g h k = single_large at from to _ h k
own_rises operators.Minus at from to f g h k = single_large at from to _ h k
own_rises operators.Times at from to f g h k = linear_rises at from to (form_of operators.Times f g) h k

none_left : (o : Operator) (at : ℕ) (y : Option Linear) → operator_faults o at None y ≡ []
none_left operators.Implies at y = refl
none_left operators.Equal at y = refl
none_left operators.Unequal at y = refl
none_left operators.Less at y = refl
none_left operators.AtMost at y = refl
none_left operators.Greater at y = refl
none_left operators.AtLeast at y = refl
none_left operators.Plus at y = refl
none_left operators.Minus at y = refl
none_left operators.Times at y = refl

none_right : (o : Operator) (at : ℕ) (f : Linear) → operator_faults o at (Some f) None ≡ []
none_right operators.Implies at f = refl
none_right operators.Equal at f = refl
none_right operators.Unequal at f = refl
none_right operators.Less at f = refl
none_right operators.AtMost at f = refl
none_right operators.Greater at f = refl
none_right operators.AtLeast at f = refl
none_right operators.Plus at f = refl
none_right operators.Minus at f = refl
none_right operators.Times at f = refl

two_sides : (from at to : ℕ) (fl a fr b : List TypeFault) → Rising from at (fl ++ a) → Rising (suc at) to (fr ++ b) → Rising from to (fl ++ (a ++ (fr ++ b)))
two_sides from at to fl a fr b h k = rw (← append_assoc fl a (fr ++ b)) (rising_append from at to (fl ++ a) (fr ++ b) h (rising_from at (suc at) to (fr ++ b) (omega arith) k))

two_sides_own : (from at to : ℕ) (fl a fr b own : List TypeFault) → own ≡ [] → Rising from at (fl ++ a) → Rising (suc at) to (fr ++ b) → Rising from to (fl ++ (a ++ (fr ++ (b ++ own))))
two_sides_own from at to fl a fr b own e h k = rw (e, append-nil b) (two_sides from at to fl a fr b h k)

pair_rises : (o : Operator) (from at to pl pr : ℕ) (rl rr : Result Term TypeFault) (fl fr : List TypeFault) (ml mr : Option Term) → Told IsWritten rl fl ml → Told IsWritten rr fr mr
    → from ≤ pl → pl < at → suc at ≤ pr → pr < to → Rising from at fl → Rising (suc at) to fr
    → Rising from to (fl ++ (not_number pl ml ++ (fr ++ (not_number pr mr ++ operator_faults o at (number_in ml) (number_in mr)))))
pair_rises o from at to pl pr (Ok (number f)) (Ok (number g)) fl fr ml mr tl tr a b c d hl hr = rw (tl.0, tl.1, tr.0, tr.1) (own_rises o at from to f g (omega (arith, a, b)) (omega (arith, c, d)))
pair_rises o from at to pl pr (Ok (number f)) (Ok (truth g)) fl fr ml mr tl tr a b c d hl hr =
    two_sides_own from at to fl _ fr _ _ (rw (tl.1, tr.1) (none_right o at f)) (side_number (Ok (number f)) fl ml from at pl tl a b hl) (side_number (Ok (truth g)) fr mr (suc at) to pr tr c d hr)
pair_rises o from at to pl pr (Ok (number f)) (Err e) fl fr ml mr tl tr a b c d hl hr =
    two_sides_own from at to fl _ fr _ _ (rw (tl.1, tr.1) (none_right o at f)) (side_number (Ok (number f)) fl ml from at pl tl a b hl) (side_number (Err e) fr mr (suc at) to pr tr c d hr)
pair_rises o from at to pl pr (Ok (truth f)) rr fl fr ml mr tl tr a b c d hl hr =
    two_sides_own from at to fl _ fr _ _ (rw tl.1 (none_left o at (number_in mr))) (side_number (Ok (truth f)) fl ml from at pl tl a b hl) (side_number rr fr mr (suc at) to pr tr c d hr)
pair_rises o from at to pl pr (Err e) rr fl fr ml mr tl tr a b c d hl hr =
    two_sides_own from at to fl _ fr _ _ (rw tl.1 (none_left o at (number_in mr))) (side_number (Err e) fl ml from at pl tl a b hl) (side_number rr fr mr (suc at) to pr tr c d hr)

negative_rises : (r : Result Term TypeFault) (fs : List TypeFault) (m : Option Term) (at from to p : ℕ) → Told IsWritten r fs m → from ≤ at → at < p → p < to → Rising (suc at) to fs
    → Rising from to (fs ++ (not_number p m ++ too_large at (option_map (scaled (negsuc 0)) (number_in m))))
negative_rises (Ok (number f)) fs m at from to p t a b c h = rw (t.0, t.1) (single_large at from to _ a (omega (arith, b, c)))
negative_rises (Ok (truth f)) fs m at from to p t a b c h = rw (t.0, t.1) (omega (arith, a, b), c)
negative_rises (Err e) fs m at from to p t a b c h = rw (t.1, append-nil fs) (rising_from from (suc at) to fs (omega (arith, a)) h)

name_rises : {A : Type 0} (o : Option A) (p from to : ℕ) → from ≤ p → p < to → Rising from to (unknown p o)
name_rises None p from to h k = (h, k)
name_rises (Some x) p from to h k = omega (arith, h, k)

mutual
  pub rises_by : (s : Names) (e : Expr) (from to : ℕ) → IsModest e → IsPlaced e from to → Rising from to (faults_by s e)
  rises_by s (raw.node p k) from to m h = rising_from from p to (kind_faults_by s k) h.0 (kind_rises_by s k p to m h.1)

  kind_rises_by : (s : Names) (k : Kind) (p to : ℕ) → IsModestKind k → IsPlacedKind k p to → Rising p to (kind_faults_by s k)
  kind_rises_by s (raw.numeral n) p to m h = omega (arith, h)
  kind_rises_by s (raw.truth b) p to m h = omega (arith, h)
  kind_rises_by s (raw.name n) p to m h = name_rises (s.variable n.text) n.place p to h.0 h.1
  kind_rises_by s (raw.at n) p to m h = name_rises (s.place n.text) n.place p to h.0 h.1
  kind_rises_by s (raw.negation e) p to m h =
      rising_from p (suc p) to _ (omega arith) (side_truth (typed_by s e) (faults_by s e) (meaning_by s e) (suc p) to (start_of e) (told_by s e m) (placed_start e (suc p) to h) (placed_end e (suc p) to h) (rises_by s e (suc p) to m h))
  kind_rises_by s (raw.negative at e) p to m h =
      negative_rises (typed_by s e) (faults_by s e) (meaning_by s e) at p to (start_of e) (told_by s e m) h.0 (let a = placed_start e (suc at) to h.1 in omega (arith, a)) (placed_end e (suc at) to h.1) (rises_by s e (suc at) to m h.1)
  kind_rises_by s (raw.all es) p to m h = all_rise_by s es p to m h.1
  kind_rises_by s (raw.any es) p to m h = all_rise_by s es p to m h.1
  kind_rises_by s (raw.pair o at l r) p to m h =
      choose (is_implication o) _ _
      (two_sides p at to (faults_by s l) _ (faults_by s r) _
      (side_truth (typed_by s l) (faults_by s l) (meaning_by s l) p at (start_of l) (told_by s l m.0) (placed_start l p at h.0) (placed_end l p at h.0) (rises_by s l p at m.0 h.0))
      (side_truth (typed_by s r) (faults_by s r) (meaning_by s r) (suc at) to (start_of r) (told_by s r m.1) (placed_start r (suc at) to h.1) (placed_end r (suc at) to h.1) (rises_by s r (suc at) to m.1 h.1)))
      (pair_rises o p at to (start_of l) (start_of r) (typed_by s l) (typed_by s r) (faults_by s l) (faults_by s r) (meaning_by s l) (meaning_by s r) (told_by s l m.0) (told_by s r m.1)
      (placed_start l p at h.0) (placed_end l p at h.0) (placed_start r (suc at) to h.1) (placed_end r (suc at) to h.1) (rises_by s l p at m.0 h.0) (rises_by s r (suc at) to m.1 h.1))
    where
      choose : (b : Bool) (x y : List TypeFault) → Rising p to x → Rising p to y → Rising p to (cond b x y)
      choose true x y a c = a
      choose false x y a c = c

  all_rise_by : (s : Names) (es : Exprs) (from to : ℕ) → AreModest es → ArePlaced es from to → Rising from to (all_faults_by s es)
  all_rise_by s raw.none from to m h = h
  all_rise_by s (raw.one_more e es) from to m h =
      rw (← append_assoc (faults_by s e) (not_truth (start_of e) (meaning_by s e)) (all_faults_by s es))
      (rising_append from h.0 to _ (all_faults_by s es)
      (side_truth (typed_by s e) (faults_by s e) (meaning_by s e) from h.0 (start_of e) (told_by s e m.0) (placed_start e from h.0 h.1) (placed_end e from h.0 h.1) (rises_by s e from h.0 m.0 h.1))
      (all_rise_by s es h.0 to m.1 h.2))

behind : (f : TypeFault) (from to : ℕ) (fs : List TypeFault) → place f < from → Rising from to fs → AllBehind f fs
behind f from to [] h k = tt
behind f from to (g ∷ fs) h k = (inl (omega (arith, h, k.0)), behind f (suc (place g)) to fs (omega (arith, h, k.0)) k.1)

pub first_least : (f : TypeFault) (from to : ℕ) (fs rest : List TypeFault) → fs ≡ f ∷ rest → Rising from to fs → IsLeast f fs
first_least f from to fs rest e h =
    let k = rw e at h in
    record { rest = rest; among = e; least = rw e (inr (refl, omega arith), behind f (suc (place f)) to rest (omega arith) k.1) }

-- the walk answers the lowest rule that is broken at the first place
pub least_by : (s : Names) (e : Expr) (from to : ℕ) → IsModest e → IsPlaced e from to → (f : TypeFault) → typed_by s e ≡ Err f → IsLeast f (faults_by s e)
least_by s e from to m h f i =
    let t = rw i at (told_by s e m) in
    first_least f from to (faults_by s e) t.0.0 t.0.1 (rises_by s e from to m h)
