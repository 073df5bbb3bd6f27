-- What a sink that was empty holds behind a read fault.
use Rattle.std.proofs.Common.{◌≡◌, ◌∙◌, refl, subst, sym, ℕ, List, [], ◌++◌, Some}
use Rattle.step_plan.specs.declared.status.Status.{Status}
use Rattle.step_plan.specs.declared.status.Status.TheVariants.{ReadFault}
use Rattle.step_plan.specs.Ending.{Written}

-- it is the text of the fault
pub is_fault : (status : Status) (before now : List ℕ) (IsText IsFault : List ℕ → Type 0) → Written status (Some before) (Some now) IsText IsFault → before ≡ [] → status ≡ ReadFault → IsFault now
is_fault status before now IsText IsFault written empty is =
    let at : Written ReadFault (Some before) (Some now) IsText IsFault = subst (λ (s : Status). Written s (Some before) (Some now) IsText IsFault) is written in
    let behind : now ≡ before ++ at.0 = (let whole : Some now ≡ Some (before ++ at.0) = at.2 in cc) in
    let alone : before ++ at.0 ≡ at.0 = subst (λ (b : List ℕ). b ++ at.0 ≡ at.0) (sym empty) refl in
    subst IsFault (sym (behind ∙ alone)) at.3
