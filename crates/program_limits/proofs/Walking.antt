-- What is counted, one after the other: how many there are, up to the first that passes its limit.
use Rattle.std.proofs.Common.{◌≡◌, ◌+◌, Bool, true, false, cond, List, [], ◌∷◌, ◌++◌, Result, Ok, Err, refl, ap, subst, ◌∙◌}
use Rattle.st_tokens.specs.declared.limit.LimitKind.TheVariants as limits
use Rattle.st_tokens.specs.Stream.{Stream}
use Rattle.st_reading.specs.Reading.{other, Read, ◌>>=◌}
use Rattle.st_reading.specs.Faults.{Passed, passed}
use Rattle.spl_parser.specs.Programs.{Limits, Totals, totals}

module _ (limit : Limits) where
  -- one more is counted, or it passes its limit
  abbrev pub step : Totals → Passed → Result Totals Passed
  step t (passed limits.Variables place) = cond (limit.variables t.variables) (Ok (totals t.processes (t.variables + 1) t.statements)) (Err (passed limits.Variables place))
  step t (passed limits.Processes place) = cond (limit.processes t.processes) (Ok (totals (t.processes + 1) t.variables t.statements)) (Err (passed limits.Processes place))
  step t (passed limits.Statements place) = cond (limit.statements t.statements) (Ok (totals t.processes t.variables (t.statements + 1))) (Err (passed limits.Statements place))
  step t (passed limits.Nesting place) = Err (passed limits.Nesting place)
  step t (passed kind place) = Ok t

  unfoldable pub walk : Totals → List Passed → Result Totals Passed
  walk t [] = Ok t
  walk t (c ∷ cs) = step t c >>= λ u. walk u cs

  through : (a b : List Passed) → ((u : Totals) → walk u (a ++ b) ≡ (walk u a >>= λ w. walk w b)) → (o : Result Totals Passed) → (o >>= λ u. walk u (a ++ b)) ≡ ((o >>= λ u. walk u a) >>= λ w. walk w b)
  through a b h (Ok u) = h u
  through a b h (Err e) = refl

  pub walk_append : (a b : List Passed) (t : Totals) → walk t (a ++ b) ≡ (walk t a >>= λ u. walk u b)
  unfolding walk
  walk_append [] b t = refl
  walk_append (c ∷ a) b t = through a b (λ u. walk_append a b u) (step t c)

  -- one, and what comes behind it
  pub walk_step : (t : Totals) (c : Passed) (cs : List Passed) (o : Result Totals Passed) → step t c ≡ o → walk t (c ∷ cs) ≡ (o >>= λ u. walk u cs)
  unfolding walk
  walk_step t c cs o e = ap (λ z. z >>= λ u. walk u cs) e

  -- What is read within the limits, where x is read without them: x, or the first limit that is passed.
  pub data Meets {A : Type 0} (o : Read Passed A) (x : A) (rest : Stream) (cs : List Passed) (t u : Totals) : Type 0 where
    fits : walk t cs ≡ Ok u → o ≡ Ok (x, rest) → Meets o x rest cs t u
    passes : (c : Passed) → walk t cs ≡ Err c → o ≡ Err (other c) → Meets o x rest cs t u

  -- nothing is counted
  meets_nothing : {A : Type 0} (x : A) (rest : Stream) (t : Totals) → Meets (Ok (x, rest)) x rest [] t t
  unfolding walk
  meets_nothing x rest t = fits refl refl

  pub meets_value : {A : Type 0} (y x : A) (m rest : Stream) (t u : Totals) → y ≡ x → m ≡ rest → t ≡ u → Meets (Ok (y, m)) x rest [] t u
  meets_value y x m rest t u e f g = subst (λ w. Meets (Ok (y, m)) w rest [] t u) e (subst (λ w. Meets (Ok (y, m)) y w [] t u) f (subst (λ w. Meets (Ok (y, m)) y m [] t w) g (meets_nothing y m t)))

  -- one reader behind another
  pub meets_behind : {A B : Type 0} (o : Read Passed A) (q : A → Stream → Read Passed B) (x : A) (m : Stream) (y : B) (rest : Stream) (a b : List Passed) (t u v : Totals) → Meets o x m a t u → Meets (q x m) y rest b u v
      → Meets (o >>= λ z. q z.0 z.1) y rest (a ++ b) t v
  meets_behind o q x m y rest a b t u v (passes c w e) h = passes c (walk_append a b t ∙ ap (λ z. z >>= λ u. walk u b) w) (ap (λ z. z >>= λ z. q z.0 z.1) e)
  meets_behind o q x m y rest a b t u v (fits w e) (fits w2 e2) = fits (walk_append a b t ∙ ap (λ z. z >>= λ u. walk u b) w ∙ w2) (ap (λ z. z >>= λ z. q z.0 z.1) e ∙ e2)
  meets_behind o q x m y rest a b t u v (fits w e) (passes c w2 e2) = passes c (walk_append a b t ∙ ap (λ z. z >>= λ u. walk u b) w ∙ w2) (ap (λ z. z >>= λ z. q z.0 z.1) e ∙ e2)

  -- a test of the number, and what comes behind it
  pub meets_test : {A : Type 0} (t u w : Totals) (c : Passed) (b : Bool) → step t c ≡ cond b (Ok u) (Err c) → (o : Read Passed A) (x : A) (rest : Stream) (cs : List Passed) → Meets o x rest cs u w → Meets (cond b o (Err (other c))) x rest (c ∷ cs) t w
  meets_test t u w c true e o x rest cs (fits h g) = fits (walk_step t c cs (Ok u) e ∙ h) g
  meets_test t u w c true e o x rest cs (passes d h g) = passes d (walk_step t c cs (Ok u) e ∙ h) g
  meets_test t u w c false e o x rest cs m = passes c (walk_step t c cs (Err c) e) refl
