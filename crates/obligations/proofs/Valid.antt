-- That all conditions of a list are valid.
use Rattle.std.proofs.Common.{◌≡◌, subst, List, [], ◌∷◌}
use Rattle.st_form.specs.Shared.{given_of, shown_of, plain_condition}
use Rattle.st_form.specs.declared.conditions.Condition.{Condition}
use Rattle.control_states.specs.Control.{ControlFacts}
use Rattle.farkas_check.specs.Meaning.{IsValidCondition}
use Rattle.vc_generator.specs.Building.{Draft}
use Rattle.obligation_laws.specs.Obligations.{AreValid}
use Rattle.list_laws.specs.Each.{Each}
use Rattle.list_laws.proofs.Eachs.{each_of}
use Rattle.script_obligations.specs.Laws.{AreThese}
use Rattle.obligations.specs.Made.{AllValid}

each-valid : (k : ControlFacts) (cs : List Condition) (ds : List Draft) → AreThese cs ds → Each (λ c. IsValidCondition k (given_of c) (shown_of c)) cs → AreValid k ds
each-valid k [] [] these h = tt
each-valid k [] (d ∷ ds) these h = cc
each-valid k (c ∷ cs) [] these h = cc
each-valid k (c ∷ cs) (d ∷ ds) these h =
    let here : plain_condition c ≡ d.condition = cc in
    let rest : AreThese cs ds = cc in
    (subst (λ i. IsValidCondition k i.given i.shown) here h.0, each-valid k cs ds rest h.1)

pub are-valid : (k : ControlFacts) (cs : List Condition) (ds : List Draft) → AreThese cs ds → AllValid k cs → AreValid k ds
are-valid k cs ds these all = each-valid k cs ds these (each_of (λ c. IsValidCondition k (given_of c) (shown_of c)) cs all)
