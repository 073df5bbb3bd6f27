use Rattle.std.proofs.Common.{refl, [], ◌∷◌}
use Rattle.screens.proofs.screen.code.Goals as goal

pub returns-in-Plain : goal.returns-in-Plain
returns-in-Plain c = record { parameters = 48 ∷ []; are = refl; is = refl }

pub returns-in-Bad : goal.returns-in-Bad
returns-in-Bad c = record { parameters = 49 ∷ 59 ∷ 51 ∷ 49 ∷ []; are = refl; is = refl }

pub returns-in-Good : goal.returns-in-Good
returns-in-Good c = record { parameters = 49 ∷ 59 ∷ 51 ∷ 50 ∷ []; are = refl; is = refl }

pub returns-in-Bold : goal.returns-in-Bold
returns-in-Bold c = record { parameters = 49 ∷ []; are = refl; is = refl }

pub returns-in-Rule : goal.returns-in-Rule
returns-in-Rule c = record { parameters = 49 ∷ 59 ∷ 51 ∷ 52 ∷ []; are = refl; is = refl }
