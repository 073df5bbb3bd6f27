-- What is remembered: of formulas under decisions, and of shared formulas.
use Rattle.std.specs.Prelude.{◌≡◌, ℕ, ◌<◌, true, All, List, length, map, slice_index_or, Option, Some, None}
use Rattle.std.specs.Int.{bit_at}
use Rattle.st_form.specs.Formula.{Formula, more, none}
use Rattle.st_form.specs.Plain.{plain}
use Rattle.st_form.specs.Simple.{nothing, parts, simple}
use Rattle.form_table.specs.Table.{Is, formula}
use Rattle.form_table.specs.Contents.{Choice, decision_at}
use Rattle.form_table.specs.declared.choices.Decision.{Decision}
use Rattle.form_table.specs.declared.memos.Entry.{Entry}
use Rattle.form_table.specs.declared.memos.Memo.{Memo}
use Rattle.form_table.specs.declared.readings.Reading.{Reading}

abbrev pub choice_of : Decision → Choice
choice_of d = record { truths = d.truths.items; places = d.places.items }

abbrev pub choices : List Decision → List Choice
choices ds = map choice_of ds

-- the formula under the decision has that number
abbrev pub IsEntry : List Formula → List Choice → Entry → Type 0
IsEntry ts cs e = (e.number < length ts) × Is ts e.simple (simple (decision_at cs e.decision) (formula ts e.number) true)

abbrev pub IsFree : List Formula → List Choice → Option Entry → Type 0
IsFree ts cs None = Unit {0}
IsFree ts cs (Some e) = IsEntry ts cs e

pub record AreEntries (ts : List Formula) (cs : List Choice) (es : List (Option Entry)) : Type 0 where
  pub each : All (λ o. IsFree ts cs o) es

-- the n-th formula stays as it is under the decision, and is one part of a conjunction
pub record Lasts (ts : List Formula) (cs : List Choice) (decision n : ℕ) : Type 0 where
  pub there : n < length ts
  pub same : simple (decision_at cs decision) (formula ts n) true ≡ formula ts n
  pub single : parts true (formula ts n) ≡ Some (more (formula ts n) none)

-- a number's word has a bit for each decision under which its formula is known to last
pub record Last (ts : List Formula) (cs : List Choice) (words : List ℕ) : Type 0 where
  pub each : (n decision : ℕ) → bit_at (slice_index_or words n 0) decision ≡ 1 → Lasts ts cs decision n

-- what is remembered of formulas under decisions is so
pub record Remembers (ts : List Formula) (cs : List Choice) (m : Memo) : Type 0 where
  pub entries : AreEntries ts cs m.entries.items
  pub lasting : Last ts cs m.lasting.items

-- the simplified formula under the sign has that number
abbrev pub IsReading : List Formula → Reading → Type 0
IsReading ts r = Is ts r.number (simple nothing (plain r.form) r.plus)

abbrev pub IfReading : List Formula → Option Reading → Type 0
IfReading ts None = Unit {0}
IfReading ts (Some r) = IsReading ts r

pub record AreRead (ts : List Formula) (rs : List (Option Reading)) : Type 0 where
  pub each : All (λ o. IfReading ts o) rs

-- all that a table remembers is so
pub record IsKnown (ts : List Formula) (cs : List Choice) (m : Memo) (rs : List (Option Reading)) : Type 0 where
  pub remembers : Remembers ts cs m
  pub read : AreRead ts rs
