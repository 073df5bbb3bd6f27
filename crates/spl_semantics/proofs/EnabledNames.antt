-- A name is enabled where some step has it.
use Rattle.std.proofs.Common.{◌≡◌, Bool, true, false, List, [], ◌∷◌, refl, ap, ◌∙◌, sym}
use Rattle.std.specs.Prelude.{◌||◌}
use Rattle.std.specs.List.{list_any}
use Rattle.st_form.specs.declared.conditions.TransName.{TransName}
use Rattle.st_form.specs.declared.conditions.TransName.TheVariants.{Idle, Step}
use Rattle.st_program.specs.Member.{Member, here, there}
use Rattle.st_program.specs.Residuals.{Rests}
use Rattle.st_program.specs.Spots.{IsNumbered}
use Rattle.st_program.specs.Tree.{Processes}
use Rattle.spl_semantics.specs.Names.{same_name}
use Rattle.spl_semantics.specs.Steps.{steps_of}
use Rattle.spl_semantics.specs.Going.{Act}
use Rattle.spl_semantics.specs.Runs.{State, Leads}
use Rattle.spl_semantics.specs.Observed.{is_enabled}
use Rattle.spl_semantics.proofs.ByCases.{behind_act, listed, by_cases}
use Rattle.spl_semantics.proofs.NameOrder.{same_name_is, name_same}

-- some step of a list has the name
has_name : (name : TransName) (xs : List (Act Rests)) → list_any (λ a. same_name a.name name) xs ≡ true → (a : Act Rests) × Member a xs × (a.name ≡ name)
has_name name [] h = cc
has_name name (x ∷ xs) h = at_first (same_name x.name name) refl h (λ k. has_name name xs k)
  where
    at_first : (b : Bool) → same_name x.name name ≡ b → (b || list_any (λ a. same_name a.name name) xs) ≡ true
        → (list_any (λ a. same_name a.name name) xs ≡ true → (a : Act Rests) × Member a xs × (a.name ≡ name)) → (a : Act Rests) × Member a (x ∷ xs) × (a.name ≡ name)
    at_first true q h rest = (x, here refl, same_name_is x.name name q)
    at_first false q h rest = let r = rest h in (r.0, there r.1, r.2)

name_has : (name : TransName) (a : Act Rests) (xs : List (Act Rests)) → Member a xs → a.name ≡ name → list_any (λ a. same_name a.name name) xs ≡ true
name_has name a [] m q = elim m [ ]
name_has name a (x ∷ xs) (here e) q =
    let t : same_name x.name name ≡ true = ap (λ z. same_name z.name name) (sym e) ∙ ap (λ z. same_name z name) q ∙ name_same name in
    ap (λ b. b || list_any (λ a. same_name a.name name) xs) t
name_has name a (x ∷ xs) (there m) q = at_first (same_name x.name name) (name_has name a xs m q)
  where
    at_first : (b : Bool) → list_any (λ a. same_name a.name name) xs ≡ true → (b || list_any (λ a. same_name a.name name) xs) ≡ true
    at_first true h = refl
    at_first false h = h

pub enabled_step : (p : Processes) → IsNumbered p → (s : State) (name : TransName) → is_enabled p s name ≡ true → (t : State) × Leads p s name t
enabled_step p numbered s Idle h = (s, (1, (refl, refl)))
enabled_step p numbered s (Step o part) h =
    let r = has_name (Step o part) (steps_of s.left p s.store) h in
    (behind_act r.0, (r.0.mode, by_cases p numbered s o part r.0 r.1 r.2))

pub step_enabled : (p : Processes) → IsNumbered p → (s : State) (name : TransName) (t : State) → Leads p s name t → is_enabled p s name ≡ true
step_enabled p numbered s Idle t d = refl
step_enabled p numbered s (Step o part) t d =
    let a = listed p numbered s t o part d.0 d.1 in
    name_has (Step o part) a.0 (steps_of s.left p s.store) a.1 a.2
