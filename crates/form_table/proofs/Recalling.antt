-- What is remembered of shared formulas stays right while a table grows.
use Rattle.std.proofs.Common.{◌≡◌, ℕ, ◌<◌, Bool, List, [], ◌∷◌, ◌++◌, length, get_or, ap, subst, ◌∙◌, sym, Option, Some, None}
use Rattle.std.specs.Prelude.{slice_set}
use Rattle.std.proofs.lemmas.List.Elements.{All-weaker, All-set, All-push, All-nil}
use Rattle.st_form.specs.Formula.{Formula}
use Rattle.st_form.specs.Plain.{plain}
use Rattle.st_form.specs.Simple.{nothing, simple}
use Rattle.st_form.specs.declared.formulas.Form.{Form}
use Rattle.form_table.specs.Table.{Is, Extends}
use Rattle.form_table.specs.Memory.{IsReading, IfReading, AreRead}
use Rattle.form_table.specs.declared.readings.Reading.{Reading}
use Rattle.form_table.proofs.Making.{is-later}

if-later : (ts us : List Formula) (o : Option Reading) → Extends ts us → IfReading ts o → IfReading us o
if-later ts us None e h = tt
if-later ts us (Some r) e h = is-later ts us r.number _ e h

pub read-later : (ts us : List Formula) (rs : List (Option Reading)) → Extends ts us → AreRead ts rs → AreRead us rs
read-later ts us rs e h = record { each = All-weaker (λ o. IfReading ts o) (λ o. IfReading us o) (λ o k. if-later ts us o e k) rs h.each }

pub read-none : (ts : List Formula) (rs : List (Option Reading)) → rs ≡ [] → AreRead ts rs
read-none ts rs e = subst (AreRead ts) (sym e) (record { each = All-nil (λ o. IfReading ts o) })

pub read-more : (ts : List Formula) (rs ss : List (Option Reading)) → ss ≡ rs ++ None ∷ [] → AreRead ts rs → AreRead ts ss
read-more ts rs ss e h = subst (AreRead ts) (sym e) (record { each = All-push (λ o. IfReading ts o) rs None h.each tt })

pub read-set : (ts : List Formula) (rs : List (Option Reading)) (i : ℕ) (r : Reading) → AreRead ts rs → IsReading ts r → AreRead ts (slice_set rs i (Some r))
read-set ts rs i r h k = record { each = All-set (λ o. IfReading ts o) rs i (Some r) k h.each }

pub read-at : (ts : List Formula) (rs : List (Option Reading)) (i : ℕ) (o d : Option Reading) (r : Reading) (f : Form) (plus : Bool) → i < length rs → o ≡ get_or rs i d → o ≡ Some r
    → r.plus ≡ plus → plain r.form ≡ plain f → AreRead ts rs → Is ts r.number (simple nothing (plain f) plus)
read-at ts rs i o d r f plus l e s p q h =
    let one : IsReading ts r = subst (IfReading ts) s (subst (IfReading ts) (sym e) (h.each i d l)) in
    (one.0, one.1 ∙ ap (λ x. simple nothing (plain r.form) x) p ∙ ap (λ x. simple nothing x plus) q)
