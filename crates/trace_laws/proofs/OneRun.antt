-- The names of a run and its first state determine the run.
use Rattle.std.proofs.Common.{◌≡◌, List, [], ◌∷◌, map, refl, sym, ap, ◌∙◌, subst}
use Rattle.st_form.specs.Formula.{Formula}
use Rattle.st_form.specs.declared.conditions.TransName.{TransName}
use Rattle.st_program.specs.Tree.{Processes}
use Rattle.st_program.specs.Programs.{WellFormed}
use Rattle.spl_semantics.specs.Runs.{State, Reached, next, Follows, Leads}
use Rattle.trace_laws.proofs.Ways.{one_way}

abbrev names_of : List (TransName × State) → List TransName
names_of later = map (λ step. step.0) later

module _ (p : Processes) (initial : Formula) (well : WellFormed p) where
  pub one_run : (later other : List (TransName × State)) (s : State) → Reached p initial s → Follows p s later → Follows p s other → names_of later ≡ names_of other → later ≡ other
  one_run [] [] s r f g e = refl
  one_run [] (y ∷ ys) s r f g e = cc
  one_run (x ∷ xs) [] s r f g e = cc
  one_run (x ∷ xs) (y ∷ ys) s r f g e =
      let name : x.0 ≡ y.0 = cc in
      let names : names_of xs ≡ names_of ys = cc in
      let state : x.1 ≡ y.1 = (one_way p initial well).one s r x.0 x.1 y.1 f.0 (subst (λ n. Leads p s n y.1) (sym name) g.0) in
      let rest = one_run xs ys x.1 (next x.0 r f.0) f.1 (subst (λ t. Follows p t ys) (sym state) g.1) names in
      ap (λ n. (n, x.1) ∷ xs) name ∙ ap (λ t. (y.0, t) ∷ xs) state ∙ ap (λ l. y ∷ l) rest
