-- What holds of a value that the rules give.
use Rattle.std.proofs.Common.{◌≡◌, Bool, true, false, cond, Result, Ok, Err, refl}
use Rattle.expression_typer.specs.declared.fault.TypeFault.{TypeFault}
use Rattle.expression_typer.specs.Answers.{◌>>=◌}

abbrev pub Holds : {A : Type 0} → (A → Type 0) → Result A TypeFault → Type 0
Holds P (Ok x) = P x
Holds P (Err f) = Unit {0}

pub bound : {A B : Type 0} (P : A → Type 0) (Q : B → Type 0) (r : Result A TypeFault) (k : A → Result B TypeFault) → Holds P r → ((x : A) → P x → Holds Q (k x)) → Holds Q (r >>= k)
bound P Q (Ok x) k h go = go x h
bound P Q (Err f) k h go = tt

pub anyway : {A B : Type 0} (Q : B → Type 0) (r : Result A TypeFault) (k : A → Result B TypeFault) → ((x : A) → Holds Q (k x)) → Holds Q (r >>= k)
anyway Q (Ok x) k go = go x
anyway Q (Err f) k go = tt

pub weaker : {A : Type 0} (P Q : A → Type 0) (r : Result A TypeFault) → Holds P r → ((x : A) → P x → Q x) → Holds Q r
weaker P Q (Ok x) h go = go x h
weaker P Q (Err f) h go = tt

pub unless_err : {A : Type 0} (P : A → Type 0) (b : Bool) (x : A) (f : TypeFault) → P x → Holds P (cond b (Err f) (Ok x))
unless_err P true x f h = tt
unless_err P false x f h = h

pub if_ok : {A : Type 0} (P : A → Type 0) (b : Bool) (x : A) (f : TypeFault) → (b ≡ true → P x) → Holds P (cond b (Ok x) (Err f))
if_ok P true x f h = h refl
if_ok P false x f h = tt
