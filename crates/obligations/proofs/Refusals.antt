-- The first refusal of a list of conditions: it is there exactly where one of them isn't appended.
use Rattle.std.proofs.Common.{◌≡◌, refl, ℕ, List, [], ◌∷◌, ◌++◌, Option, Some, None}
use Rattle.st_form.specs.Condition.{Implication}
use Rattle.vc_generator.specs.Building.{Draft}
use Rattle.vc_generator.specs.Refusing.{Refuses, refusal, refusals, else_refusal}
use Rattle.vc_generator.specs.declared.faults.VcFault.{VcFault}
use Rattle.vc_generator.specs.declared.faults.VcFault.TheVariants as limits
use Rattle.list_laws.specs.Each.{Each}
use Rattle.script_laws.specs.Refused.{refused_by, refused_at}
use Rattle.script_laws.proofs.Refused.{refused-end}
use Rattle.obligations.specs.Faults.{fault_at}
use Rattle.obligations.specs.Made.{IsRefusal}

none-else : (o : Option VcFault) (n : ℕ) (first : Option (VcFault × ℕ)) (rest : Option VcFault) → refused_by o n first ≡ None → (first ≡ None → rest ≡ None) → else_refusal o rest ≡ None
none-else None n first rest e f = f e
none-else (Some fault) n first rest e f = cc

none-by : (o : Option VcFault) (n : ℕ) (first : Option (VcFault × ℕ)) (rest : Option VcFault) → else_refusal o rest ≡ None → (rest ≡ None → first ≡ None) → refused_by o n first ≡ None
none-by None n first rest e f = f e
none-by (Some fault) n first rest e f = cc

pub refused_none : (old : List Implication) (ds : List Draft) → refused_at old ds ≡ None → refusals old ds ≡ None
refused_none old [] e = refl
refused_none old (d ∷ ds) e =
    none-else (refusal old d) d.condition.name.step (refused_at (old ++ d.condition ∷ []) ds) (refusals (old ++ d.condition ∷ []) ds) e (refused_none (old ++ d.condition ∷ []) ds)

pub none_refused : (old : List Implication) (ds : List Draft) → refusals old ds ≡ None → refused_at old ds ≡ None
none_refused old [] e = refl
none_refused old (d ∷ ds) e =
    none-by (refusal old d) d.condition.name.step (refused_at (old ++ d.condition ∷ []) ds) (refusals (old ++ d.condition ∷ []) ds) e (none_refused (old ++ d.condition ∷ []) ds)

-- a refusal among the conditions of a step is the first of all behind, and bears the step's number
pub refused-here : (n : ℕ) (now : List Implication) (ds es : List Draft) (fault : VcFault) → Each (λ d. d.condition.name.step ≡ n) ds → Refuses fault (refusals now ds)
    → IsRefusal (fault_at n fault) (refused_at now (ds ++ es))
refused-here n now ds es limits.TooMany named is = refused-end n now ds es limits.TooMany named is
refused-here n now ds es limits.TooWide named is = refused-end n now ds es limits.TooWide named is
refused-here n now ds es limits.TooHeavy named is = refused-end n now ds es limits.TooHeavy named is
refused-here n now ds es limits.Memory named is = tt
