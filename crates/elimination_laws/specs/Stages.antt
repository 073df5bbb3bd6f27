-- Elimination by lines, stage by stage: a variable goes by the first equation that has it, or by all pairs of a row that bounds it
-- from below with one that bounds it from above (J. B. J. Fourier, 1826; L. L. Dines, 1918). What is made is sifted: true lines go,
-- a false one ends it all.
use Rattle.std.specs.Prelude.{ℕ, zero, suc, ◌+◌, Bool, false, ◌&&◌, nat_lt, not, if◌then◌else◌, List, [], ◌∷◌, ◌++◌, length, map, ℤ, pos, negsuc, neg_ℤ, Option, Some, None}
use Rattle.std.specs.List.{flat_map}
use Rattle.st_linear.specs.Linear.{Linear}
use Rattle.st_linear.specs.declared.rows.Line.{Line}
use Rattle.elimination_laws.specs.Mixing.{Tracked, mixed, part_of, first_factor, second_factor, against, is_up, is_down}
use Rattle.st_linear.specs.Linear.{is_zero}

-- the lines for which a test holds, in order
abbrev pub kept_by : (Tracked → Bool) → List Tracked → List Tracked
kept_by test [] = []
kept_by test (t ∷ ts) = if test t then t ∷ kept_by test ts else kept_by test ts

-- an equation with the variable
abbrev pub solves : ℕ → Tracked → Bool
solves v t = t.equal && not (is_zero (part_of v t))

abbrev pub solver : ℕ → List Tracked → Option Tracked
solver v [] = None
solver v (t ∷ ts) = if solves v t then Some t else solver v ts

-- the lines without the first equation that has the variable
abbrev pub others : ℕ → List Tracked → List Tracked
others v [] = []
others v (t ∷ ts) = if solves v t then ts else t ∷ others v ts

-- a line, freed from the variable by an equation
abbrev pub freed : ℕ → Tracked → Tracked → Option Tracked
freed v e t =
    if is_zero (part_of v t) then Some t
    else mixed t.equal (first_factor (part_of v t) (part_of v e)) t (against (part_of v t) (part_of v e)) e

abbrev pub is_free : ℕ → Tracked → Bool
is_free v t = is_zero (part_of v t)

abbrev pub bounds_below : ℕ → Tracked → Bool
bounds_below v t = is_up (part_of v t)

abbrev pub bounds_above : ℕ → Tracked → Bool
bounds_above v t = is_down (part_of v t)

-- a lower bound and an upper bound, without the variable
abbrev pub paired : ℕ → Tracked → Tracked → Option Tracked
paired v p n = mixed false (first_factor (part_of v p) (part_of v n)) p (second_factor (part_of v p) (part_of v n)) n

abbrev pub pairs : ℕ → List Tracked → List Tracked → List (Option Tracked)
pairs v ps ns = flat_map (λ p. map (paired v p) ns) ps

abbrev pub made_with : ℕ → Option Tracked → List Tracked → List (Option Tracked)
made_with v (Some e) ts = map (freed v e) (others v ts)
made_with v None ts = map Some (kept_by (is_free v) ts) ++ pairs v (kept_by (bounds_below v) ts) (kept_by (bounds_above v) ts)

-- the lines that are made for the new list, in order; none where one is too wide
abbrev pub made : ℕ → List Tracked → List (Option Tracked)
made v ts = made_with v (solver v ts) ts

-- what becomes of a line: it stays, it goes, or it can't hold
pub data Judgement : Type 0 where
  stays : Judgement
  goes : Judgement
  clashes : List (ℕ × ℤ) → Judgement

-- the multiples, each with the other sign
abbrev pub turned : List (ℕ × ℤ) → List (ℕ × ℤ)
turned ps = map (λ p. (p.0, neg_ℤ p.1)) ps

abbrev pub judged_constant : ℤ → Bool → List (ℕ × ℤ) → Judgement
judged_constant (pos zero) equal ps = goes
judged_constant (pos (suc n)) equal ps = if equal then clashes (turned ps) else goes
judged_constant (negsuc n) equal ps = clashes ps

abbrev pub judged_by : List (ℕ × ℤ) → ℤ → Bool → List (ℕ × ℤ) → Judgement
judged_by [] c equal ps = judged_constant c equal ps
judged_by (e ∷ es) c equal ps = stays

abbrev pub judged : Tracked → Judgement
judged t = judged_by t.form.entries t.form.constant t.equal t.picks

-- a new list, the multiples that clash, or none for want of room
pub data Sifted : Type 0 where
  list : List Tracked → Sifted
  clash : List (ℕ × ℤ) → Sifted
  wide : Sifted

abbrev pub onto : Tracked → Sifted → Sifted
onto t (list ts) = list (t ∷ ts)
onto t (clash ps) = clash ps
onto t wide = wide

abbrev pub placed : Judgement → Tracked → ℕ → (ℕ → Sifted) → Sifted
placed stays t zero rest = wide
placed stays t (suc room) rest = onto t (rest room)
placed goes t room rest = rest room
placed (clashes ps) t room rest = clash ps

abbrev pub placed_one : Option Tracked → ℕ → (ℕ → Sifted) → Sifted
placed_one None room rest = wide
placed_one (Some t) room rest = placed (judged t) t room rest

-- the new list, of at most so many lines
abbrev pub sifted : List (Option Tracked) → ℕ → Sifted
sifted [] room = list []
sifted (m ∷ ms) room = placed_one m room (sifted ms)

-- how a variable's value is found: by an equation, or between bounds
pub data Use : Type 0 where
  by_equation : Linear → Use
  by_bounds : List Linear → List Linear → Use

abbrev pub forms : List Tracked → List Linear
forms ts = map (λ t. t.form) ts

abbrev pub use_with : ℕ → Option Tracked → List Tracked → Use
use_with v (Some e) ts = by_equation e.form
use_with v None ts = by_bounds (forms (kept_by (bounds_below v) ts)) (forms (kept_by (bounds_above v) ts))

abbrev pub use_of : ℕ → List Tracked → Use
use_of v ts = use_with v (solver v ts) ts

pub data Stop : Type 0 where
  at_rows : Stop
  at_variable : ℕ → Stop

-- all variables are gone, or a clash, or too wide
pub data Ending : Type 0 where
  through : List Use → Ending
  contradiction : List (ℕ × ℤ) → Ending
  too_wide : Stop → Ending

abbrev pub with_use : Use → Ending → Ending
with_use u (through us) = through (u ∷ us)
with_use u (contradiction ps) = contradiction ps
with_use u (too_wide s) = too_wide s

abbrev pub then_stages : Stop → Sifted → (List Tracked → Ending) → Ending
then_stages s (list ts) rest = rest ts
then_stages s (clash ps) rest = contradiction ps
then_stages s wide rest = too_wide s

-- the stages of n variables, from v on
abbrev pub stages : ℕ → ℕ → List Tracked → Ending
stages zero v ts = through []
stages (suc n) v ts = then_stages (at_variable v) (sifted (made v ts) 4096) (λ rest. with_use (use_of v ts) (stages n (v + 1) rest))

-- the input's lines, each as one times itself
abbrev pub tracked : ℕ → List Line → List Tracked
tracked k [] = []
tracked k (l ∷ ls) = record { form = l.form; equal = l.equal; picks = (k, pos 1) ∷ [] } ∷ tracked (k + 1) ls

abbrev pub ending : List Line → ℕ → Ending
ending lines variables =
    if nat_lt 4096 (length lines) then too_wide at_rows
    else then_stages at_rows (sifted (map Some (tracked 0 lines)) 4096) (stages variables 0)
