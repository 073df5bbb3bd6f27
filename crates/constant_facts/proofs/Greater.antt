-- A set of facts that the rules admit stays within what is left of the candidates, as more facts keep more.
use Rattle.std.proofs.Common.{cond, ◌≡◌, ℕ, Bool, true, false, ◌||◌, ◌&&◌, List, [], ◌∷◌, filter, refl, ap, ◌∙◌, sym, subst, ℤ, pos, Option, Some, None, inl, inr}
use Rattle.std.specs.Prelude.{not, ◌==◌}
use Rattle.std.specs.List.{list_any}
use Rattle.std.specs.Ordering.{int_eq}
use Rattle.list_laws.specs.Each.{Each}
use Rattle.basic_laws.proofs.Truths.{or_parts, both_true, and_both}
use Rattle.st_linear.specs.Linear.{Linear, form_for}
use Rattle.st_form.specs.Formula.{Formula, truth_value, row, equal, bool_var, at, negation, every, some}
use Rattle.st_form.specs.Exchange.{Exchange, is_listed, truth_for}
use Rattle.st_program.specs.Member.{Member, here, there}
use Rattle.control_states.specs.Control.{ControlFacts}
use Rattle.transition_system.specs.Systems.{PlainMode, System}
use Rattle.constant_facts.specs.declared.fact.Constant.{Constant}
use Rattle.constant_facts.specs.declared.fact.Constant.TheVariants.{Number, Truth}
use Rattle.constant_facts.specs.declared.fact.Fact.{Fact}
use Rattle.constant_facts.specs.Facts.{modes_of}
use Rattle.constant_facts.specs.Rules.{is_same, knows, known_at, entries_are, formula_is, number_is, gives, is_spared, is_kept, decided, kept_by, kept_by_all, places, is_first, first_of, narrowed}
use Rattle.constant_facts.specs.Greatest.{IsKeptBy, AreSteady, AreAmong}

or-left : (a b : Bool) → a ≡ true → (a || b) ≡ true
or-left true b h = refl
or-left false b h = absurd (cc)

or-right : (a b : Bool) → b ≡ true → (a || b) ≡ true
or-right true b h = refl
or-right false b h = h

each-member : {X : Type 0} (P : X → Type 0) (x : X) (xs : List X) → Member x xs → Each P xs → P x
each-member P x [] m h = elim m [ ]
each-member P x (y ∷ xs) (here e) h = subst P (sym e) h.0
each-member P x (y ∷ xs) (there m) h = each-member P x xs m h.1

module _ (test : Fact → Bool) where
  any-member : (fs : List Fact) → list_any test fs ≡ true → (f : Fact) × (Member f fs × (test f ≡ true))
  any-member [] h = absurd (cc)
  any-member (f ∷ fs) h =
      elim (or_parts (test f) (list_any test fs) h) [
        | inl e ↦ (f, (here refl, e))
        | inr e ↦ let r = any-member fs e in (r.0, (there r.1.0, r.1.1))
      ]

  member-any : (f : Fact) (fs : List Fact) → Member f fs → test f ≡ true → list_any test fs ≡ true
  member-any f [] m h = elim m [ ]
  member-any f (g ∷ fs) (here e) h = or-left (test g) (list_any test fs) (ap test (sym e) ∙ h)
  member-any f (g ∷ fs) (there m) h = or-right (test g) (list_any test fs) (member-any f fs m h)

  filter-member : (f : Fact) (fs : List Fact) → Member f fs → test f ≡ true → Member f (filter test fs)
  filter-member f [] m h = elim m [ ]
  filter-member f (g ∷ fs) (here e) h =
      let t : test g ≡ true = ap test (sym e) ∙ h in
      subst (λ (b : Bool). Member f (cond b (g ∷ filter test fs) (filter test fs))) (sym t) (here e)
  filter-member f (g ∷ fs) (there m) h = by_test (test g) (filter-member f fs m h)
    where
      by_test : (b : Bool) → Member f (filter test fs) → Member f (cond b (g ∷ filter test fs) (filter test fs))
      by_test true m = there m
      by_test false m = m

  member-filter : (f : Fact) (fs : List Fact) → Member f (filter test fs) → Member f fs × (test f ≡ true)
  member-filter f [] m = elim m [ ]
  member-filter f (g ∷ fs) m = by_test (test g) refl (λ m. member-filter f fs m) m
    where
      by_test : (b : Bool) → test g ≡ b → (Member f (filter test fs) → Member f fs × (test f ≡ true)) → Member f (cond b (g ∷ filter test fs) (filter test fs)) → Member f (g ∷ fs) × (test f ≡ true)
      by_test true t more (here e) = (here e, ap test e ∙ t)
      by_test true t more (there m) = let r = more m in (there r.0, r.1)
      by_test false t more m = let r = more m in (there r.0, r.1)

module _ (gs fs : List Fact) (among : AreAmong gs fs) where
  known-among : (ls : List ℕ) → AreAmong (known_at ls gs) (known_at ls fs)
  known-among ls f m =
      let test : Fact → Bool = λ f. is_listed f.place ls in
      let r = member-filter test f gs m in filter-member test f fs (among f r.0) r.1

  knows-more : (v : ℕ) (c : Constant) → knows gs v c ≡ true → knows fs v c ≡ true
  knows-more v c h =
      let test : Fact → Bool = λ f. f.variable == v && is_same f.value c in
      let r = any-member test gs h in member-any test r.0 fs (among r.0 r.1.0) r.1.1

  entries-more : (k : ℤ) (es : List (ℕ × ℤ)) (z : ℤ) → entries_are gs k es z ≡ true → entries_are fs k es z ≡ true
  entries-more k [] z h = h
  entries-more k (e ∷ []) z h =
      let b = both_true (int_eq k (pos 0) && int_eq e.1 (pos 1)) (knows gs e.0 (Number z)) h in
      and_both _ _ b.0 (knows-more e.0 (Number z) b.1)
  entries-more k (e ∷ (d ∷ es)) z h = h

  formula-more : (f : Formula) (b : Bool) → formula_is gs f b ≡ true → formula_is fs f b ≡ true
  formula-more (truth_value a) b h = h
  formula-more (row f) b h = h
  formula-more (equal f) b h = h
  formula-more (bool_var w) b h = knows-more w (Truth b) h
  formula-more (at l) b h = h
  formula-more (negation f) b h = formula-more f (not b) h
  formula-more (every ps) b h = h
  formula-more (some ps) b h = h

  number-more : (o : Option Linear) (v : ℕ) (z : ℤ) → number_is gs o v z ≡ true → number_is fs o v z ≡ true
  number-more None v z h = knows-more v (Number z) h
  number-more (Some f) v z h = entries-more f.constant f.entries z h

  gives-more : (x : Exchange) (v : ℕ) (c : Constant) → gives gs x v c ≡ true → gives fs x v c ≡ true
  gives-more x v (Number z) h = number-more (form_for v x.numbers) v z h
  gives-more x v (Truth b) h = formula-more (truth_for v x.truths) b h

  kept-more : (table : ℕ → Option Bool) (x : Exchange) (f : Fact) → is_kept gs table x f ≡ true → is_kept fs table x f ≡ true
  kept-more table x f h =
      elim (or_parts (gives gs x f.variable f.value) (not (is_listed f.place x.enters) && is_spared table x f) h) [
        | inl e ↦ or-left _ _ (gives-more x f.variable f.value e)
        | inr e ↦ or-right (gives fs x f.variable f.value) _ e
      ]

module _ (k : ControlFacts) (gs : List Fact) where
  mode-among : (m : PlainMode) (fs : List Fact) → IsKeptBy k gs m → AreAmong gs fs → AreAmong gs (kept_by k m fs)
  mode-among m fs h among f i =
      let kept : is_kept (known_at m.at gs) (decided k m.at) m.change f ≡ true = each-member _ f gs i h in
      filter-member (is_kept (known_at m.at fs) (decided k m.at) m.change) f fs (among f i)
      (kept-more (known_at m.at gs) (known_at m.at fs) (known-among gs fs among m.at) (decided k m.at) m.change f kept)

  modes-among : (ms : List PlainMode) (fs : List Fact) → Each (IsKeptBy k gs) ms → AreAmong gs fs → AreAmong gs (kept_by_all k ms fs)
  modes-among [] fs h among = among
  modes-among (m ∷ ms) fs h among = modes-among ms (kept_by k m fs) h.1 (mode-among m fs h.0 among)

  first-among : (system : System) (fs : List Fact) → AreSteady k system gs → AreAmong gs fs → AreAmong gs (first_of k system.initial fs)
  first-among system fs steady among f i =
      let test : Fact → Bool = is_first (decided k (places system.initial)) system.initial in
      filter-member test f fs (among f i) (each-member _ f gs i steady.first)

  pub narrowed-among : (system : System) (fs : List Fact) → AreSteady k system gs → AreAmong gs fs → AreAmong gs (narrowed k system fs)
  narrowed-among system fs steady among = modes-among (modes_of system) (first_of k system.initial fs) steady.kept (first-among system fs steady among)
