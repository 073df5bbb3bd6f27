-- Answers that are handed on.
use Rattle.std.specs.Prelude.{◌≡◌, Option, Some, None, Result, Ok, Err, IfOk}
use Rattle.st_linear.specs.declared.faults.LinFault.{LinFault}
use Rattle.st_linear.specs.declared.faults.LinFault.TheVariants.{TooLarge, Memory}
use Rattle.st_linear.specs.Answers.{Fails, Gives}

-- a part's fault is handed on
pub Fails-whole : {B D : Type 0} (fault : LinFault) (o : Option B) (o' : Option D) → (o ≡ None → o' ≡ None) → Fails fault o → Fails fault o'
Fails-whole TooLarge o o' h k = h k
Fails-whole Memory o o' h k = tt

-- what holds of the value that is due holds of what is answered
pub IfOk-from_gives : {A B : Type 0} (view : A → B) (P : A → Type 0) (r : Result A LinFault) (o : Option B) → ((x : A) → o ≡ Some (view x) → P x) → Gives view r o → IfOk r P
IfOk-from_gives view P (Ok x) o h k = h x k
IfOk-from_gives view P (Err fault) o h k = tt
