-- A read fault over texts that are held is of one that isn't there.
use Rattle.std.proofs.Common.{ℕ, List, ◌≡◌, refl, ap, subst, sym, arith, min}
use Rattle.std.specs.Prelude.{Option, Some, None, Result, Ok, Err, IfOk, ◌+◌, ◌-◌, ◌^◌, ◌≤◌}
use Rattle.st_outside.specs.Faults.{Rose}
use Rattle.step_plan.specs.Plan.{Plan}
use Rattle.step_plan.specs.Ending.{IsReadFault}
use Rattle.step_run.specs.Request.{NamesFile}
use Rattle.milkhour_run.specs.declared.held_texts.Texts.{Texts}
use Rattle.milkhour_run.specs.declared.question.Question.{Question}
use Rattle.milkhour_run.specs.Held.{told_in, misses_of}
use Rattle.milkhour_run.specs.Asked.{asked, LacksText}

-- what is held has no count that could rise
unheld : (found : Option (List ℕ)) (before now : ℕ) → Rose (misses_of found before) (misses_of found now) → found ≡ None
unheld None before now rose = refl
unheld (Some bytes) before now rose = absurd (omega (arith, rose))

pub lacks : (t t' : Texts) (q : Question) (before now : ℕ) (plan : Plan ⊥) (text : List ℕ) → told_in t' ≡ told_in t
    → IsReadFault (NamesFile (Some (asked q))) (told_in t) plan (λ name. misses_of (told_in t name) before) (λ name. misses_of (told_in t' name) now) text
    → LacksText t q
lacks t t' q before now plan text same fault =
    let rose : Rose (misses_of (told_in t fault.name) before) (misses_of (told_in t fault.name) now) =
    subst (λ (told : List ℕ → Option (List ℕ)). Rose (misses_of (told_in t fault.name) before) (misses_of (told fault.name) now)) same fault.rose in
    (fault.role, fault.name, fault.named, unheld (told_in t fault.name) before now rose)

-- a fact of a value, where there is one
pub ok_map : {T E : Type 0} {P Q : T → Type 0} (r : Result T E) → IfOk r P → ((a : T) → P a → Q a) → IfOk r Q
ok_map (Ok a) p follows = follows a p
ok_map (Err e) p follows = tt
