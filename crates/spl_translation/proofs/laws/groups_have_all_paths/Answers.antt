use Rattle.std.proofs.Common.{◌≡◌, ℕ, suc, List, [], ◌∷◌, ◌++◌, length, Option, Some, None, refl, ap, subst}
use Rattle.std.specs.Prelude.{IsSome}
use Rattle.st_program.specs.Member.{Member, here, there}
use Rattle.st_program.specs.Types.{ActionFits}
use Rattle.st_program.specs.Groups.{Link, paths_along, Composed, nothing_composed, composed}
use Rattle.spl_translation.specs.Translation.{path_mode, path_modes}
use Rattle.spl_translation.proofs.laws.groups_have_all_paths.Goals as goal

all_there : (l next : ℕ) (ps : List (List Link)) → ((path : List Link) → Member path ps → IsSome (composed path nothing_composed)) → length (path_modes l ps next) ≡ length ps
all_there l next [] h = refl
all_there l next (p ∷ ps) h = by_path (composed p nothing_composed) (h p (here refl)) (all_there l next ps (λ q m. h q (there m)))
  where
    by_path : (o : Option Composed) → IsSome o → length (path_modes l ps next) ≡ length ps → length (path_mode l o next ++ path_modes l ps next) ≡ suc (length ps)
    by_path None s e = cc
    by_path (Some c) s e = ap suc e

pub returns : goal.returns
returns c variables initial p locations statements keeps x pieces l next m e =
    all_there l next (paths_along pieces) (subst (ActionFits variables) e (keeps.typed x m)).1.small
