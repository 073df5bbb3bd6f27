-- Inductive facts hold in each state of each run.
use Rattle.std.proofs.Common.{◌≡◌, ℕ, zero, suc, Bool, true, false, not, ◌||◌, List, [], ◌∷◌, ◌++◌, refl, ap, sym, subst, arith, ℤ, pos, neg_ℤ, ◌+ℤ◌, ◌*ℤ◌, Some}
use Rattle.std.specs.Prelude.{flat_map, slice_get}
use Rattle.std.proofs.lemmas.Int.{ints}
use Rattle.list_laws.specs.Each.{Each}
use Rattle.basic_laws.proofs.Types.{some_same}
use Rattle.st_form.specs.Formula.{Formula, Situation, truth, is_zero}
use Rattle.st_form.specs.declared.variables.Variable.{Variable}
use Rattle.observations.specs.Observation.{Observation, state_at}
use Rattle.st_program.specs.Tree.{Processes}
use Rattle.st_program.specs.Programs.{WellFormed}
use Rattle.control_facts.specs.Alternatives.{control_of}
use Rattle.transition_system.specs.Systems.{PlainMode, PlainTransition}
use Rattle.spl_semantics.specs.Runs.{State, Reached, image, IsRunOf}
use Rattle.spl_semantics.specs.Runs.Reached.{first, next}
use Rattle.spl_semantics.proofs.ControlMet.{reached_meets}
use Rattle.spl_translation.specs.Translation.{translation}
use Rattle.spl_translation.specs.Correspondence.{Corresponds}
use Rattle.obligation_laws.proofs.Enough.{state-seen}
use Rattle.constant_facts.specs.declared.fact.Constant.{Constant}
use Rattle.constant_facts.specs.declared.fact.Constant.TheVariants.{Number, Truth}
use Rattle.constant_facts.specs.declared.fact.Fact.{Fact}
use Rattle.constant_facts.specs.Facts.{Has, Holds, AllHold, AreInductive}
use Rattle.fact_runs.specs.Holding.{HoldAlways, has, formula_of, AllInvariant}

each-split : {X : Type 0} (P : X → Type 0) (xs ys : List X) → Each P (xs ++ ys) → Each P xs × Each P ys
each-split P [] ys h = (tt, h)
each-split P (x ∷ xs) ys h = let r = each-split P xs ys h.1 in ((h.0, r.0), r.1)

each-at : {X : Type 0} (P : X → Type 0) (xs : List X) (i : ℕ) (x : X) → slice_get xs i ≡ Some x → Each P xs → P x
each-at P [] i x e h = absurd (cc)
each-at P (y ∷ xs) zero x e h = subst P (some_same y x e) h.0
each-at P (y ∷ xs) (suc i) x e h = each-at P xs i x e h.1

mode-at : (P : PlainMode → Type 0) (ts : List PlainTransition) (i j : ℕ) (t : PlainTransition) (m : PlainMode) → slice_get ts i ≡ Some t → slice_get t.modes j ≡ Some m
    → Each P (flat_map (λ t. t.modes) ts) → P m
mode-at P [] i j t m e f h = absurd (cc)
mode-at P (u ∷ ts) zero j t m e f h =
    let r = each-split P u.modes (flat_map (λ t. t.modes) ts) h in
    each-at P t.modes j m f (subst (λ (w : PlainTransition). Each P w.modes) (some_same u t e) r.0)
mode-at P (u ∷ ts) (suc i) j t m e f h = mode-at P ts i j t m e f (each-split P u.modes (flat_map (λ t. t.modes) ts) h).1

-- a fact that holds, and its formula
has-true : (s : Situation) (v : ℕ) (c : Constant) → Has s v c → truth s (has v c) ≡ true
has-true s v (Number z) h = let e : neg_ℤ z +ℤ (pos 1 *ℤ s.numbers v +ℤ pos 0) ≡ pos 0 = omega (arith, ints, h) in ap is_zero e
has-true s v (Truth true) h = h
has-true s v (Truth false) h = ap not h

formula-true : (s : Situation) (f : Fact) → Holds s f → truth s (formula_of f) ≡ true
formula-true s f h = by_place (s.located f.place) refl
  where
    ends : (b : Bool) → b ≡ true → (b || false) ≡ true
    ends true e = refl
    ends false e = e

    by_place : (b : Bool) → s.located f.place ≡ b → (not b || (truth s (has f.variable f.value) || false)) ≡ true
    by_place true e = ends _ (has-true s f.variable f.value (h e))
    by_place false e = refl

module _ (vs : List Variable) (initial : Formula) (p : Processes) (locations : ℕ) (well : WellFormed p) (both : Corresponds p initial (translation vs initial p locations))
    (fs : List Fact) (inductive : AreInductive (control_of p) (translation vs initial p locations) fs) where
  reached-hold : (s : State) → Reached p initial s → AllHold (image p s) fs
  reached-hold s (first f) = let c = reached_meets p initial well s (first f) in inductive.starts (image p s) (c.0, c.1) (both.begins s f)
  reached-hold t (next {s} name r leads) =
      let g = both.follows s t name leads.0 r leads.1 in
      let c = reached_meets p initial well s r in
      let keeps = mode-at _ (translation vs initial p locations).transitions g.number g.step.place g.step.transition g.step.mode g.step.numbered g.step.placed inductive.kept in
      subst (λ (u : Situation). AllHold u fs) (sym g.step.leads) (keeps (image p s) (c.0, c.1) (reached-hold s r) g.step.goes)

  pub hold-always : HoldAlways p initial fs
  hold-always o run k = let s = state-seen p initial o k run in subst (λ (u : Situation). AllHold u fs) (sym s.is) (reached-hold s.state s.reached)

  along : (gs : List Fact) → ((o : Observation Situation) → IsRunOf p initial o → (k : ℕ) → AllHold (state_at o k) gs) → AllInvariant p initial gs
  along [] h = tt
  along (f ∷ gs) h = (λ o run k within. formula-true (state_at o k) f (h o run k).0, along gs (λ o run k. (h o run k).1))

  pub all-invariant : AllInvariant p initial fs
  all-invariant = along fs hold-always
