-- Counting one after the other goes through exactly where all is within the limits, and stops at the first that passes its limit.
use Rattle.std.proofs.Common.{◌≡◌, ℕ, ◌+◌, ◌≤◌, ◌<◌, nat_lt, Bool, true, false, List, [], ◌∷◌, ◌++◌, Result, Ok, Err, refl, sym, ap, subst, ◌∙◌, append-nil, append_assoc, arith}
use Rattle.std.proofs.lemmas.Bool.Decides.{nat_tests}
use Rattle.st_tokens.specs.declared.limit.LimitKind.{LimitKind}
use Rattle.st_tokens.specs.declared.limit.LimitKind.TheVariants as limits
use Rattle.st_reading.specs.Reading.{◌>>=◌}
use Rattle.st_reading.specs.Faults.{Passed, passed}
use Rattle.spl_parser.specs.Programs.{Limits, Totals, totals}
use Rattle.program_limits.specs.Order.{one_of, how_many, AreWithin, IsFirstPassed}
use Rattle.program_limits.proofs.Walking.{step, walk, walk_append, walk_step}

how_many_append : (kind : LimitKind) (a b : List Passed) → how_many kind (a ++ b) ≡ how_many kind a + how_many kind b
how_many_append kind [] b = omega arith
how_many_append kind (c ∷ a) b = let e = how_many_append kind a b in omega (arith, e)

-- with one more
with_one : (kind : LimitKind) (a : List Passed) (c : Passed) (k : ℕ) → one_of kind c ≡ k → how_many kind (a ++ c ∷ []) ≡ how_many kind a + k
with_one kind a c k h = let e = how_many_append kind a (c ∷ []) in omega (arith, e, h)

within_first : (a b : List Passed) → AreWithin (a ++ b) → AreWithin a
within_first a b w =
    let v = how_many_append limits.Variables a b in
    let p = how_many_append limits.Processes a b in
    let s = how_many_append limits.Statements a b in
    let n = how_many_append limits.Nesting a b in
    let wv = w.variables in
    let wp = w.processes in
    let ws = w.statements in
    let wn = w.nesting in
    record { variables = omega (arith, v, wv); processes = omega (arith, p, wp); statements = omega (arith, s, ws); nesting = omega (arith, n, wn) }

-- so many there are
record Tallied (cs : List Passed) (t : Totals) : Type 0 where
  variables : how_many limits.Variables cs ≡ t.variables
  processes : how_many limits.Processes cs ≡ t.processes
  statements : how_many limits.Statements cs ≡ t.statements

smaller : (n m : ℕ) → true ≡ nat_lt n m → n < m
smaller n m e = grind (arith, nat_tests)

no_smaller : (n m : ℕ) → false ≡ nat_lt n m → m ≤ n
no_smaller n m e = grind (arith, nat_tests)

-- the limits on numbers, and so many levels of formulas
abbrev pub numbers : ℕ → Limits
numbers o = record { variables = λ n. nat_lt n 64; processes = λ n. nat_lt n 16; statements = λ n. nat_lt n 400; opened = o; round = 32 }

module _ (o : ℕ) where
  -- one more is counted, or it is one too many
  data Stepped (cs : List Passed) (t : Totals) (c : Passed) : Type 0 where
    on : (u : Totals) → step (numbers o) t c ≡ Ok u → Tallied (cs ++ c ∷ []) u → AreWithin (cs ++ c ∷ []) → Stepped cs t c
    off : step (numbers o) t c ≡ Err c → (AreWithin (cs ++ c ∷ []) → ⊥) → Stepped cs t c

  module _ (cs : List Passed) (t : Totals) (y : Tallied cs t) (w : AreWithin cs) where
    one_variable : (place : ℕ) (b : Bool) → b ≡ nat_lt t.variables 64 → Stepped cs t (passed limits.Variables place)
    one_variable place true e =
        let c = passed limits.Variables place in
        let v = with_one limits.Variables cs c 1 refl in
        let p = with_one limits.Processes cs c 0 refl in
        let s = with_one limits.Statements cs c 0 refl in
        let n = with_one limits.Nesting cs c 0 refl in
        let l = smaller t.variables 64 e in
        let yv = y.variables in
        let yp = y.processes in
        let ys = y.statements in
        let wp = w.processes in
        let ws = w.statements in
        let wn = w.nesting in
        on (totals t.processes (t.variables + 1) t.statements) (rw (← e) refl) (record { variables = omega (arith, v, yv); processes = omega (arith, p, yp); statements = omega (arith, s, ys) })
        (record { variables = omega (arith, v, yv, l); processes = omega (arith, p, wp); statements = omega (arith, s, ws); nesting = omega (arith, n, wn) })
    one_variable place false e =
        let v = with_one limits.Variables cs (passed limits.Variables place) 1 refl in
        let l = no_smaller t.variables 64 e in
        let yv = y.variables in
        off (rw (← e) refl) (λ z. let zv = z.variables in absurd (omega (arith, v, yv, l, zv)))

    one_process : (place : ℕ) (b : Bool) → b ≡ nat_lt t.processes 16 → Stepped cs t (passed limits.Processes place)
    one_process place true e =
        let c = passed limits.Processes place in
        let v = with_one limits.Variables cs c 0 refl in
        let p = with_one limits.Processes cs c 1 refl in
        let s = with_one limits.Statements cs c 0 refl in
        let n = with_one limits.Nesting cs c 0 refl in
        let l = smaller t.processes 16 e in
        let yv = y.variables in
        let yp = y.processes in
        let ys = y.statements in
        let wv = w.variables in
        let ws = w.statements in
        let wn = w.nesting in
        on (totals (t.processes + 1) t.variables t.statements) (rw (← e) refl) (record { variables = omega (arith, v, yv); processes = omega (arith, p, yp); statements = omega (arith, s, ys) })
        (record { variables = omega (arith, v, wv); processes = omega (arith, p, yp, l); statements = omega (arith, s, ws); nesting = omega (arith, n, wn) })
    one_process place false e =
        let p = with_one limits.Processes cs (passed limits.Processes place) 1 refl in
        let l = no_smaller t.processes 16 e in
        let yp = y.processes in
        off (rw (← e) refl) (λ z. let zp = z.processes in absurd (omega (arith, p, yp, l, zp)))

    one_statement : (place : ℕ) (b : Bool) → b ≡ nat_lt t.statements 400 → Stepped cs t (passed limits.Statements place)
    one_statement place true e =
        let c = passed limits.Statements place in
        let v = with_one limits.Variables cs c 0 refl in
        let p = with_one limits.Processes cs c 0 refl in
        let s = with_one limits.Statements cs c 1 refl in
        let n = with_one limits.Nesting cs c 0 refl in
        let l = smaller t.statements 400 e in
        let yv = y.variables in
        let yp = y.processes in
        let ys = y.statements in
        let wv = w.variables in
        let wp = w.processes in
        let wn = w.nesting in
        on (totals t.processes t.variables (t.statements + 1)) (rw (← e) refl) (record { variables = omega (arith, v, yv); processes = omega (arith, p, yp); statements = omega (arith, s, ys) })
        (record { variables = omega (arith, v, wv); processes = omega (arith, p, wp); statements = omega (arith, s, ys, l); nesting = omega (arith, n, wn) })
    one_statement place false e =
        let s = with_one limits.Statements cs (passed limits.Statements place) 1 refl in
        let l = no_smaller t.statements 400 e in
        let ys = y.statements in
        off (rw (← e) refl) (λ z. let zs = z.statements in absurd (omega (arith, s, ys, l, zs)))

    too_deep : (place : ℕ) → Stepped cs t (passed limits.Nesting place)
    too_deep place = let n = with_one limits.Nesting cs (passed limits.Nesting place) 1 refl in off refl (λ z. let zn = z.nesting in absurd (omega (arith, n, zn)))

    -- what no limit of programs counts
    uncounted : (c : Passed) → step (numbers o) t c ≡ Ok t → one_of limits.Variables c ≡ 0 → one_of limits.Processes c ≡ 0 → one_of limits.Statements c ≡ 0 → one_of limits.Nesting c ≡ 0 → Stepped cs t c
    uncounted c e hv hp hs hn =
        let v = with_one limits.Variables cs c 0 hv in
        let p = with_one limits.Processes cs c 0 hp in
        let s = with_one limits.Statements cs c 0 hs in
        let n = with_one limits.Nesting cs c 0 hn in
        let yv = y.variables in
        let yp = y.processes in
        let ys = y.statements in
        let wv = w.variables in
        let wp = w.processes in
        let ws = w.statements in
        let wn = w.nesting in
        on t e (record { variables = omega (arith, v, yv); processes = omega (arith, p, yp); statements = omega (arith, s, ys) }) (record { variables = omega (arith, v, wv); processes = omega (arith, p, wp); statements = omega (arith, s, ws); nesting = omega (arith, n, wn) })

    one : (c : Passed) → Stepped cs t c
    one (passed limits.Variables place) = one_variable place (nat_lt t.variables 64) refl
    one (passed limits.Processes place) = one_process place (nat_lt t.processes 16) refl
    one (passed limits.Statements place) = one_statement place (nat_lt t.statements 400) refl
    one (passed limits.Nesting place) = too_deep place
    one (passed limits.Text place) = uncounted (passed limits.Text place) refl refl refl refl refl
    one (passed limits.Certificates place) = uncounted (passed limits.Certificates place) refl refl refl refl refl
    one (passed limits.Nodes place) = uncounted (passed limits.Nodes place) refl refl refl refl refl
    one (passed limits.Conditions place) = uncounted (passed limits.Conditions place) refl refl refl refl refl
    one (passed limits.Atoms place) = uncounted (passed limits.Atoms place) refl refl refl refl refl
    one (passed limits.Weight place) = uncounted (passed limits.Weight place) refl refl refl refl refl
    one (passed limits.Paths place) = uncounted (passed limits.Paths place) refl refl refl refl refl

  -- all is within the limits, or one is the first that passes its limit
  data Walked (r : Result Totals Passed) (cs : List Passed) : Type 0 where
    all_on : (u : Totals) → r ≡ Ok u → Tallied cs u → AreWithin cs → Walked r cs
    first_off : (c : Passed) → r ≡ Err c → IsFirstPassed cs c → Walked r cs

  walked_from : (ds cs : List Passed) (t : Totals) → Tallied cs t → AreWithin cs → Walked (walk (numbers o) t ds) (cs ++ ds)
  unfolding walk
  walked_from [] cs t y w = subst (λ z. Walked (Ok t) z) (sym (append-nil cs)) (all_on t refl y w)
  walked_from (d ∷ ds) cs t y w = at_step (one cs t y w d) (λ u y w. walked_from ds (cs ++ d ∷ []) u y w)
    where
      at_step : Stepped cs t d → ((u : Totals) → Tallied (cs ++ d ∷ []) u → AreWithin (cs ++ d ∷ []) → Walked (walk (numbers o) u ds) ((cs ++ d ∷ []) ++ ds)) → Walked (walk (numbers o) t (d ∷ ds)) (cs ++ d ∷ ds)
      at_step (on u e y2 w2) further = subst (λ z. Walked (walk (numbers o) t (d ∷ ds)) z) (append_assoc cs (d ∷ []) ds) (subst (λ (r : Result Totals Passed). Walked r ((cs ++ d ∷ []) ++ ds)) (sym (walk_step (numbers o) t d ds (Ok u) e)) (further u y2 w2))
      at_step (off e over) further = first_off d (walk_step (numbers o) t d ds (Err d) e) (record { before = cs; further = ds; is = refl; within = w; over = over })

  nothing_tallied : Tallied [] (totals 0 0 0)
  nothing_tallied = record { variables = refl; processes = refl; statements = refl }

  nothing_within : AreWithin []
  nothing_within = record { variables = omega arith; processes = omega arith; statements = omega arith; nesting = refl }

  walked : (cs : List Passed) → Walked (walk (numbers o) (totals 0 0 0) cs) cs
  walked cs = walked_from cs [] (totals 0 0 0) nothing_tallied nothing_within

  -- THE SAME, BOTH WAYS
  pub walk_within : (cs : List Passed) (u : Totals) → walk (numbers o) (totals 0 0 0) cs ≡ Ok u → AreWithin cs
  walk_within cs u h = at_walk (walked cs)
    where
      at_walk : Walked (walk (numbers o) (totals 0 0 0) cs) cs → AreWithin cs
      at_walk (all_on v e y w) = w
      at_walk (first_off c e f) = cc

  not_both : (cs : List Passed) (c : Passed) → IsFirstPassed cs c → AreWithin cs → ⊥
  not_both cs c f w = f.over (within_first (f.before ++ c ∷ []) f.further (subst AreWithin (f.is ∙ sym (append_assoc f.before (c ∷ []) f.further)) w))

  pub within_walk : (cs : List Passed) (c : Passed) → AreWithin cs → walk (numbers o) (totals 0 0 0) cs ≡ Err c → ⊥
  within_walk cs c w h = at_walk (walked cs)
    where
      at_walk : Walked (walk (numbers o) (totals 0 0 0) cs) cs → ⊥
      at_walk (all_on v e y z) = cc
      at_walk (first_off d e f) = not_both cs d f w

  pub walk_first : (cs : List Passed) (c : Passed) → walk (numbers o) (totals 0 0 0) cs ≡ Err c → IsFirstPassed cs c
  walk_first cs c h = at_walk (walked cs)
    where
      at_walk : Walked (walk (numbers o) (totals 0 0 0) cs) cs → IsFirstPassed cs c
      at_walk (all_on v e y z) = cc
      at_walk (first_off d e f) = let same : d ≡ c = cc in subst (IsFirstPassed cs) same f

  pub first_walk : (cs : List Passed) (c : Passed) → IsFirstPassed cs c → walk (numbers o) (totals 0 0 0) cs ≡ Err c
  first_walk cs c f = ap (walk (numbers o) (totals 0 0 0)) f.is ∙ walk_append (numbers o) f.before (c ∷ f.further) (totals 0 0 0) ∙ at_before (walked f.before)
    where
      at_one : (u : Totals) → Stepped f.before u c → walk (numbers o) u (c ∷ f.further) ≡ Err c
      at_one u (on t e y w) = absurd (f.over w)
      at_one u (off e over) = walk_step (numbers o) u c f.further (Err c) e

      at_before : Walked (walk (numbers o) (totals 0 0 0) f.before) f.before → (walk (numbers o) (totals 0 0 0) f.before >>= λ u. walk (numbers o) u (c ∷ f.further)) ≡ Err c
      at_before (all_on u e y w) = ap (λ z. z >>= λ u. walk (numbers o) u (c ∷ f.further)) e ∙ at_one u (one f.before u y w c)
      at_before (first_off d e g) = absurd (not_both f.before d g f.within)
