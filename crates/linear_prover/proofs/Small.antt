-- Small formulas are within the limits.
use Rattle.std.proofs.Common.{ℕ, ◌<◌, ◌^◌, List, [], ◌∷◌, ◌++◌, pos, arith}
use Rattle.std.specs.Prelude.{unsigned_abs}
use Rattle.std.proofs.lemmas.List.Elements.{All-cons, All-nil}
use Rattle.st_linear.specs.Linear.{variable}
use Rattle.st_form.specs.Plain.{plain, plain_list}
use Rattle.st_form.specs.declared.formulas.Form.{Form}
use Rattle.farkas_check.specs.Limits.{IsSlight, IsNarrow, AreNarrow}
use Rattle.search_laws.specs.Forms.{AllForms, AllFormsOf}
use Rattle.search_laws.specs.Searchable.{IsBelow}

pub variable_slight : (v : ℕ) → IsSlight (variable v)
variable_slight v = record {
  constant = omega arith;
  entries = All-cons (λ e. unsigned_abs e.1 < 2 ^ 69) (v, pos 1) [] (omega arith) (All-nil (λ e. unsigned_abs e.1 < 2 ^ 69));
}

pub narrow_more : (fs : List Form) (f : Form) → AreNarrow (plain_list fs) → IsNarrow (plain f) → AreNarrow (plain_list (fs ++ f ∷ []))
narrow_more [] f h k = (k, tt)
narrow_more (g ∷ gs) f h k = (h.0, narrow_more gs f h.1 k)

pub below_more : (n : ℕ) (fs : List Form) (f : Form) → AllFormsOf (IsBelow n) (plain_list fs) → AllForms (IsBelow n) (plain f) → AllFormsOf (IsBelow n) (plain_list (fs ++ f ∷ []))
below_more n [] f h k = (k, tt)
below_more n (g ∷ gs) f h k = (h.0, below_more n gs f h.1 k)
