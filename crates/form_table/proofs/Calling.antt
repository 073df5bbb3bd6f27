-- What callers of a table cite.
use Rattle.std.proofs.Common.{◌≡◌, ℕ, List, refl, ap, subst, ◌∙◌, sym, arith}
use Rattle.st_form.specs.Formula.{Formula, Formulas, every}
use Rattle.st_form.specs.Simple.{opened}
use Rattle.form_table.specs.Table.{formula, Is, Extends}
use Rattle.form_table.specs.Nodes.{Kept, formulas_in}
use Rattle.form_table.specs.Contents.{Contents, Grows, formulas_of}
use Rattle.form_table.specs.Lists.{IsList, conjuncts_of}
use Rattle.form_table.proofs.Making as making

pub extends-refl : (ts : List Formula) → Extends ts ts
extends-refl ts = making.extends-refl ts

pub extends-trans : (ts us vs : List Formula) → Extends ts us → Extends us vs → Extends ts vs
extends-trans ts us vs h k = making.extends-trans ts us vs h k

pub is-later : (ts us : List Formula) (n : ℕ) (f : Formula) → Extends ts us → Is ts n f → Is us n f
is-later ts us n f h k = making.is-later ts us n f h k

pub grows-refl : (t : Contents) → Grows t t
grows-refl t = record { formulas = making.extends-refl (formulas_of t); decisions = refl }

pub grows-trans : (s t u : Contents) → Grows s t → Grows t u → Grows s u
grows-trans s t u h k = record {
  formulas = making.extends-trans (formulas_of s) (formulas_of t) (formulas_of u) h.formulas k.formulas;
  decisions = k.decisions ∙ h.decisions;
}

-- a number with a conjunction's formula is that of a list
pub list-there : (ts : List Formula) (n : ℕ) (fs : Formulas) → Is ts n (every fs) → IsList ts n
list-there ts n fs h = (h.0, h.1 ∙ ap every (sym (ap opened h.1)))

pub list-same : (ts : List Formula) (n : ℕ) (fs : Formulas) → Is ts n (every fs) → conjuncts_of ts n ≡ fs
list-same ts n fs h = ap opened h.1

pub list-later : (ts us : List Formula) (n : ℕ) → Extends ts us → IsList ts n → IsList us n
list-later ts us n e h =
    let same : formula us n ≡ formula ts n = e.same n h.0 in
    (omega (arith, h.0, e.longer), same ∙ h.1 ∙ ap every (ap opened (sym same)))

-- ---- a table whose formulas have grown
pub grows-by : (s t : Contents) (k : Kept) → s ≡ t → Extends (formulas_of s) (formulas_in k) → Grows t (record { kept = k; decisions = s.decisions })
grows-by s t k e h =
    let P : Contents → Type 0 = λ w. Grows w (record { kept = k; decisions = s.decisions }) in
    subst P e (record { formulas = h; decisions = refl })
