-- A form of a program has no more entries than there are variables.
use Rattle.std.proofs.Common.{◌≡◌, ℕ, zero, suc, ◌+◌, ◌<◌, ◌≤◌, Bool, false, List, [], ◌∷◌, length, ℤ, Option, Some, None, arith}
use Rattle.st_linear.specs.Linear.{Linear, AreEntries, AllAbove}
use Rattle.st_form.specs.declared.variables.Variable.{Variable}
use Rattle.st_program.specs.Types.{type_of, EntriesFit, LinearFits}
use Rattle.list_laws.specs.Each.{Each}

index_lt : (vs : List Variable) (v : ℕ) (b : Bool) → type_of vs v ≡ Some b → v < length vs
index_lt [] v b e = cc
index_lt (x ∷ xs) zero b e = omega arith
index_lt (x ∷ xs) (suc v) b e = let h = index_lt xs v b e in omega arith

count : (vs : List Variable) (bound : ℕ) (es : List (ℕ × ℤ)) (low : ℕ) → low ≤ length vs → Each (λ e. low ≤ e.0) es → AreEntries es → EntriesFit vs bound es → length es + low ≤ length vs
count vs bound [] low le h k g = omega arith
count vs bound (e ∷ es) low le h k g =
    let lt = index_lt vs e.0 false g.0 in
    let r = count vs bound es (suc e.0) (omega arith) (above e.0 es k.0) k.2 g.2 in
    let q = h.0 in
    omega arith
  where
    above : (v : ℕ) (es : List (ℕ × ℤ)) → AllAbove v es → Each (λ e. suc v ≤ e.0) es
    above v [] h = tt
    above v (e ∷ es) h = ((let q = h.0 in omega arith), above v es h.1)

from_zero : (es : List (ℕ × ℤ)) → Each (λ e. 0 ≤ e.0) es
from_zero [] = tt
from_zero (e ∷ es) = (omega arith, from_zero es)

pub entries_few : (vs : List Variable) (bound : ℕ) (f : Linear) → LinearFits vs bound f → length f.entries ≤ length vs
entries_few vs bound f h = let r = count vs bound f.entries 0 (omega arith) (from_zero f.entries) h.rising h.entries in omega arith
