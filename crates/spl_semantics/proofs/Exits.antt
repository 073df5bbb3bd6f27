-- Faults that are handed on.
use Rattle.std.proofs.Common.{◌≡◌, Bool, true, false, Result, Ok, Err, IfOk, List, [], ◌∷◌, ◌++◌, refl, sym, subst}
use Rattle.std.specs.Prelude.{◌||◌}
use Rattle.std.specs.Result.{IsErrAnd}
use Rattle.spl_semantics.specs.declared.faults.MoveFault.{MoveFault}
use Rattle.spl_semantics.specs.declared.faults.MoveFault.TheVariants.{ValueLimit, Memory}
use Rattle.st_program.specs.declared.residuals.Datum.{Datum}
use Rattle.spl_semantics.specs.Answers.{Fails, Answers}
use Rattle.spl_semantics.specs.Data.{types}
use Rattle.spl_semantics.specs.declared.acts.Act.{Act}
use Rattle.spl_semantics.specs.Plain.{act_stores, AllOfTypes}

pub Fails-whole : (fault : MoveFault) (part whole : Bool) → (part ≡ true → whole ≡ true) → Fails fault part → Fails fault whole
Fails-whole ValueLimit part whole h k = h k
Fails-whole Memory part whole h k = tt

-- the fault of a part is the answer
pub handed : {A B : Type 0} (view : A → B) (r : Result A MoveFault) (fault : MoveFault) (part whole : Bool) (value : B)
    → IsErrAnd r (λ y. y ≡ fault) → Fails fault part → (part ≡ true → whole ≡ true) → Answers view r whole value
handed view (Ok x) fault part whole value h k l = absurd h
handed view (Err y) fault part whole value h k l = subst (λ z. Fails z whole) (sym h) (Fails-whole fault part whole l k)

pub or_here : (a b : Bool) → a ≡ true → (a || b) ≡ true
or_here a b h = rw h refl

pub or_there : (a b : Bool) → b ≡ true → (a || b) ≡ true
or_there true b h = refl
or_there false b h = h

pub or_none : (a b : Bool) → a ≡ false → (a || b) ≡ b
or_none a b h = rw h refl

-- one store of the types
pub one-store : {A E : Type 0} (f : A → List (List Datum)) (r : Result A E) (ds after : List Datum) → types after ≡ types ds → IfOk r (λ v. f v ≡ after ∷ []) → IfOk r (λ v. AllOfTypes (types ds) (f v))
one-store f (Ok x) ds after t h = subst (AllOfTypes (types ds)) (sym h) (t, tt)
one-store f (Err e) ds after t h = tt

-- further stores of the types
pub appended-stores : (ts : List Bool) (xs ys zs : List Act) → zs ≡ xs ++ ys → AllOfTypes ts (act_stores xs) → AllOfTypes ts (act_stores ys) → AllOfTypes ts (act_stores zs)
appended-stores ts xs ys zs e h k = subst (λ l. AllOfTypes ts (act_stores l)) (sym e) (both xs h)
  where
    both : (xs : List Act) → AllOfTypes ts (act_stores xs) → AllOfTypes ts (act_stores (xs ++ ys))
    both [] h = k
    both (x ∷ xs) h = (h.0, both xs h.1)
