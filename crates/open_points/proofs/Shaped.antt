-- What is so of the forms of a condition is so of those of the problem that a path leads to.
use Rattle.std.proofs.Common.{◌≡◌, ℕ, zero, suc, ◌+◌, Bool, true, false, List, [], ◌∷◌, refl, ap, ◌∙◌, sym, subst, Option, Some, None, arith}
use Rattle.std.specs.Prelude.{nat_lt, if◌then◌else◌, slice_get, option_and_then}
use Rattle.st_linear.specs.Linear.{Linear}
use Rattle.st_form.specs.Formula.{Formula, Formulas}
use Rattle.st_certificate.specs.Tree.{Step, Tree}
use Rattle.farkas_check.specs.Problem.{Setting, Problem, divided_into, division, first_problem}
use Rattle.elimination_laws.specs.declared.stage.WideStage.TheVariants as stage
use Rattle.search_laws.specs.States.{State}
use Rattle.search_laws.specs.Walks.{left_open, given_up, Move, closes, divides, fails, PathStep, Found, found, stopped, FoundAll, all, broke, onto_trees, then_rest, walk_all, divided_by, walk_node, walk, searched}
use Rattle.search_laws.specs.Moves.{move_of, open_at, verdict_of, decided}
use Rattle.search_laws.specs.Forms.{AllForms}
use Rattle.search_laws.specs.Ends.{problem_at}
use Rattle.search_laws.proofs.Walking.{AllOf}
use Rattle.search_laws.proofs.Shapes.{Keeps, AreParts, IfParts, IsShaped, first-shaped}
use Rattle.search_laws.proofs.Finding.{is-divided, division-shaped}

abbrev pub IfThere : {A : Type 0} → (A → Type 0) → Option A → Type 0
IfThere P None = Unit {0}
IfThere P (Some x) = P x

pub parts_of : (Q : Linear → Type 0) (o : Option Formulas) (fs : Formulas) → o ≡ Some fs → IfParts Q true o → AreParts Q fs true
parts_of Q o fs e h = rw e at h

module _ (Q : Linear → Type 0) (keeps : Keeps Q) (k : Setting) where
  -- the problem that the path of a failure leads to is so shaped
  abbrev Led : Problem → Found → Type 0
  Led p (found t n) = Unit {0}
  Led p (stopped path e) = IfThere (IsShaped Q) (problem_at k p path)

  -- the j-th from the i-th on
  abbrev LedAll : List Problem → ℕ → FoundAll → Type 0
  LedAll ps i (all ts n) = Unit {0}
  LedAll ps i (broke j path e) = (b : ℕ) × (j ≡ i + b) × IfThere (IsShaped Q) (option_and_then (λ q. problem_at k q path) (slice_get ps b))

  onto-led : (p : Problem) (ps : List Problem) (i : ℕ) (t : Tree) (a : FoundAll) → LedAll ps (i + 1) a → LedAll (p ∷ ps) i (onto_trees t a)
  onto-led p ps i t (all ts n) h = tt
  onto-led p ps i t (broke j path e) h = (suc h.0, omega (arith, h.1), h.2)

  rest-led : (p : Problem) (ps : List Problem) (i : ℕ) (f : Found) (rest : ℕ → FoundAll) → Led p f → ((n : ℕ) → LedAll ps (i + 1) (rest n)) → LedAll (p ∷ ps) i (then_rest i f rest)
  rest-led p ps i (found t n) rest h r = onto-led p ps i t (rest n) (r n)
  rest-led p ps i (stopped path e) rest h r = (zero, omega arith, h)

  all-led : (rec : Problem → ℕ → Found) → ((p : Problem) (n : ℕ) → IsShaped Q p → Led p (rec p n)) → (ps : List Problem) (i n : ℕ) → AllOf (IsShaped Q) ps → LedAll ps i (walk_all rec ps i n)
  all-led rec f [] i n h = tt
  all-led rec f (p ∷ ps) i n h = rest-led p ps i (rec p n) (walk_all rec ps (i + 1)) (f p n h.0) (λ m. all-led rec f ps (i + 1) m h.1)

  divided-led : (p : Problem) (s : Step) (ps : List Problem) → division k p s ≡ Some ps → (a : FoundAll) → LedAll ps 0 a → Led p (divided_by s a)
  divided-led p s ps d (all ts n) h = tt
  divided-led p s ps d (broke j path e) h =
      let same : h.0 ≡ j = omega (arith, h.1) in
      let there = subst (λ (b : ℕ). IfThere (IsShaped Q) (option_and_then (λ q. problem_at k q path) (slice_get ps b))) same h.2 in
      subst (λ (o : Option (List Problem)). IfThere (IsShaped Q) (option_and_then (λ ps. option_and_then (λ q. problem_at k q path) (slice_get ps j)) o)) (sym d) there

  node-led : (rec : Problem → ℕ → Found) → ((p : Problem) (n : ℕ) → IsShaped Q p → Led p (rec p n)) → (p : Problem) → IsShaped Q p → (m : Move Problem) → move_of k p ≡ m → (n : ℕ) → Led p (walk_node rec m n)
  node-led rec f p g (closes t) h n = tt
  node-led rec f p g (divides s ps) h n =
      let d = is-divided k p s ps h in
      let whole : division k p s ≡ Some ps = ap (option_and_then (λ fs. divided_into k p fs s)) d.are ∙ d.division in
      let shaped = division-shaped Q keeps k p d.conjuncts s ps d.step (parts_of Q p.conjuncts d.conjuncts d.are g) d.division in
      divided-led p s ps whole (walk_all rec ps 0 n) (all-led rec f ps 0 n shaped)
  node-led rec f p g (fails e) h n = g

  by_room : (p : Problem) → IsShaped Q p → (b : Bool) (f : Found) → Led p f → Led p (if b then f else stopped [] (given_up stage.Tree))
  by_room p g true f h = h
  by_room p g false f h = g

  walk-led : (levels : ℕ) (p : Problem) (n : ℕ) → IsShaped Q p → Led p (walk (move_of k) levels p n)
  walk-led zero p n g = g
  walk-led (suc d) p n g =
      by_room p g (nat_lt n 100000) (walk_node (walk (move_of k) d) (move_of k p) (n + 1)) (node-led (walk (move_of k) d) (λ q m h. walk-led d q m h) p g (move_of k p) refl (n + 1))

  of_open : (p : Problem) (f : Found) (path : List PathStep) (state : Option State) → verdict_of f ≡ open_at path state → Led p f → IfThere (IsShaped Q) (problem_at k p path)
  of_open p (found t n) path state e h = absurd cc
  of_open p (stopped other (given_up w)) path state e h = absurd cc
  of_open p (stopped other (left_open o)) path state e h = let same : other ≡ path = cc in subst (λ (x : List PathStep). IfThere (IsShaped Q) (problem_at k p x)) same h

  pub open_shaped : (given shown : Formula) → AllForms Q given → AllForms Q shown → (path : List PathStep) (state : Option State) → decided k given shown ≡ open_at path state
      → IfThere (IsShaped Q) (problem_at k (first_problem k given shown) path)
  open_shaped given shown g h path state e =
      let p : Problem = first_problem k given shown in
      of_open p (searched (move_of k) p) path state e (walk-led 400 p 0 (first-shaped Q keeps k given shown g h))
