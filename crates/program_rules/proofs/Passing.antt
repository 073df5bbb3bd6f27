-- What isn't refused for a rule: something holds of the value, or the fault is none that a text's program has.
use Rattle.std.proofs.Common.{◌≡◌, Bool, true, false, cond, Result, Ok, Err, sym, subst}
use Rattle.expression_typer.specs.declared.fault.TypeFault.{TypeFault}
use Rattle.expression_typer.specs.Answers.{◌>>=◌}
use Rattle.typing_laws.specs.Laws.{IsRule}

abbrev pub Passes : {A : Type 0} → (A → Type 0) → Result A TypeFault → Type 0
Passes P (Ok x) = P x
Passes P (Err f) = IsRule f → ⊥

pub onward : {A B : Type 0} (P : A → Type 0) (Q : B → Type 0) (r : Result A TypeFault) (k : A → Result B TypeFault) → Passes P r → ((x : A) → P x → Passes Q (k x)) → Passes Q (r >>= k)
onward P Q (Ok x) k h go = go x h
onward P Q (Err f) k h go = h

pub known_as : {A B : Type 0} (Q : B → Type 0) (r : Result A TypeFault) (x : A) (k : A → Result B TypeFault) → r ≡ Ok x → Passes Q (k x) → Passes Q (r >>= k)
known_as Q r x k e h = subst (λ z. Passes Q (z >>= k)) (sym e) h

pub if_passes : {A : Type 0} (P : A → Type 0) (b : Bool) (x : A) (f : TypeFault) → (IsRule f → ⊥) → P x → Passes P (cond b (Ok x) (Err f))
if_passes P true x f never h = h
if_passes P false x f never h = never

pub more_passes : {A : Type 0} (P Q : A → Type 0) (r : Result A TypeFault) → Passes P r → ((x : A) → P x → Q x) → Passes Q r
more_passes P Q (Ok x) h go = go x h
more_passes P Q (Err f) h go = h
