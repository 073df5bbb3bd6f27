-- Every run of a well-formed program goes on: each of its steps has a name of the list.
use Rattle.std.proofs.Common.{◌≡◌, ℕ, List, [], ◌∷◌, Some, sym, ap, ◌∙◌, subst}
use Rattle.std.specs.Prelude.{slice_get}
use Rattle.st_form.specs.Formula.{Formula}
use Rattle.st_form.specs.declared.conditions.TransName.{TransName}
use Rattle.st_program.specs.Tree.{Processes}
use Rattle.st_program.specs.Member.{Member, here, there}
use Rattle.st_program.specs.Programs.{WellFormed}
use Rattle.spl_semantics.specs.Names.{all_names}
use Rattle.spl_semantics.specs.Runs.{State, IsFirst, Reached, first, next, Follows, place_in, place_of}
use Rattle.spl_semantics.specs.Facts.{GoesOn}
use Rattle.spl_semantics.proofs.Members.{member_none}
use Rattle.spl_semantics.proofs.NameOrder.{Named, at_its_place}
use Rattle.spl_semantics.proofs.ControlMoves.{step_named}
use Rattle.spl_semantics.proofs.RoundsGo.{goes_on}

module _ (p : Processes) (initial : Formula) (well : WellFormed p) where
  all_named : (s : State) (later : List (TransName × State)) → Reached p initial s → Follows p s later → (x : TransName × State) → Member x later → (n : Named) × (slice_get (all_names p) (place_of p x.0) ≡ Some n) × (n.0 ≡ x.0)
  all_named s [] r f x m = member_none m
  all_named s (y ∷ later) r f x (here q) =
      let n = step_named p initial well s y.1 y.0 r f.0 in
      let at = at_its_place (all_names p) n.0 n.1 in
      let name : n.0.0 ≡ x.0 = n.2 ∙ sym (ap (λ z. z.0) q) in
      (at.0, subst (λ z. slice_get (all_names p) (place_in (all_names p) z) ≡ Some at.0) name at.1, at.2 ∙ name)
  all_named s (y ∷ later) r f x (there m) = all_named y.1 later (next y.0 r f.0) f.1 x m

  pub runs_go_on : (s : State) (later : List (TransName × State)) (n : ℕ) → IsFirst p initial s → Follows p s later → GoesOn p s later n
  runs_go_on s later n is_first f = goes_on p well.numbered s later n f (all_named s later (first is_first) f)
