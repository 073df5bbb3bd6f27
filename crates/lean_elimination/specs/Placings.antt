-- What a call says of the new list: it is there, or a row clashes. Where the way is given up nothing is said.
use Rattle.std.specs.Prelude.{◌≡◌, ℕ, ◌<◌, ◌+◌, true, List, [], ◌∷◌, ◌++◌, length, take, drop, slice_index_or, ℤ, Result, Ok, Err, Some, Vec}
use Rattle.std.specs.Global.{Global}
use Rattle.elimination_laws.specs.Mixing.{Tracked}
use Rattle.elimination_laws.specs.Stages.{stays, goes, clashes, judged, Sifted, list, clash, Ending, contradiction, solver, others, is_free}
use Rattle.lean_elimination.specs.declared.row.Row.{Row}
use Rattle.lean_elimination.specs.declared.stop.Stop.{Stop}
use Rattle.lean_elimination.specs.declared.stop.Stop.TheVariants.{Clash, Unfit, Memory}
use Rattle.lean_elimination.specs.declared.fate.Fate.{Fate}
use Rattle.lean_elimination.specs.declared.fate.Fate.TheVariants.{Stays, Goes, Clashes}
use Rattle.lean_elimination.specs.Arenas.{row_at, listed, tracks, AllUnder, IsGrown}

-- the row at a place clashes
pub record ClashesAt (ts : List Tracked) (k : ℕ) (s : Sifted) : Type 0 where
  pub multiples : List (ℕ × ℤ)
  pub found : judged (row_at ts k) ≡ clashes multiples
  pub is : s ≡ clash multiples

abbrev pub StopsBy : List Tracked → Stop → Sifted → Type 0
StopsBy ts (Clash k) s = ClashesAt ts k s
StopsBy ts Unfit s = Unit {0}
StopsBy ts Memory s = Unit {0}

-- a row is put into a list
abbrev pub Places : {A : Type 0} → Result A Stop → List Tracked → List ℕ → Sifted → Type 0
Places (Ok x) ts ks s = s ≡ list (listed ts ks)
Places (Err stop) ts ks s = StopsBy ts stop s

-- more rows are made and put into a list
pub record IsPut (old new : List Row) (ks : List ℕ) (s : Sifted) : Type 0 where
  pub grown : IsGrown old new
  pub under : AllUnder (length new) ks
  pub same : s ≡ list (listed (tracks new) ks)

abbrev pub Puts : {A : Type 0} → Result A Stop → List Row → List Row → List ℕ → Sifted → Type 0
Puts (Ok x) old new ks s = IsPut old new ks s
Puts (Err stop) old new ks s = StopsBy (tracks new) stop s

-- a new list
abbrev pub GivesList : Result (Vec ℕ Global) Stop → List Row → List Row → Sifted → Type 0
GivesList (Ok v) old new s = IsPut old new v.items s
GivesList (Err stop) old new s = StopsBy (tracks new) stop s

-- the row at a place is the contradiction that elimination ends with
pub record ContradictsAt (ts : List Tracked) (k : ℕ) (e : Ending) : Type 0 where
  pub multiples : List (ℕ × ℤ)
  pub found : judged (row_at ts k) ≡ clashes multiples
  pub is : e ≡ contradiction multiples

abbrev pub EndsBy : List Tracked → Stop → Ending → Type 0
EndsBy ts (Clash k) e = ContradictsAt ts k e
EndsBy ts Unfit e = Unit {0}
EndsBy ts Memory e = Unit {0}

-- where the stages stop by a contradiction
abbrev pub Ends : Result Unit Stop → List Tracked → Ending → Type 0
Ends (Ok x) ts e = Unit {0}
Ends (Err stop) ts e = EndsBy ts stop e

-- the lines without a variable, of rows that stay as they are
abbrev pub GivesFree : Result (Vec ℕ Global) Stop → List Row → Sifted → Type 0
GivesFree (Ok v) rs s = (s ≡ list (listed (tracks rs) v.items)) × AllUnder (length rs) v.items
GivesFree (Err stop) rs s = StopsBy (tracks rs) stop s

-- the place of the first equation with the variable
pub record IsSolver (v : ℕ) (ts : List Tracked) (ks : List ℕ) (i : ℕ) : Type 0 where
  pub within : i < length ks
  pub here : (d : ℕ) → solver v (listed ts ks) ≡ Some (row_at ts (slice_index_or ks i d))
  pub rest : others v (listed ts ks) ≡ listed ts (take i ks ++ drop (i + 1) ks)

-- no line has the variable
abbrev pub AreFree : ℕ → List Tracked → Type 0
AreFree v [] = Unit {0}
AreFree v (t ∷ ts) = (is_free v t ≡ true) × AreFree v ts

-- no line is a constant
abbrev pub AllStay : List Tracked → Type 0
AllStay [] = Unit {0}
AllStay (t ∷ ts) = (judged t ≡ stays) × AllStay ts

-- a line can't hold
pub record Clashing (t : Tracked) : Type 0 where
  pub multiples : List (ℕ × ℤ)
  pub found : judged t ≡ clashes multiples

abbrev pub IsFate : Tracked → Fate → Type 0
IsFate t Stays = judged t ≡ stays
IsFate t Goes = judged t ≡ goes
IsFate t Clashes = Clashing t
