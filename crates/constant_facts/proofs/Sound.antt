-- What the rules say is so.
use Rattle.std.proofs.Common.{cond, ◌≡◌, ℕ, zero, suc, ◌+◌, ◌≤◌, Bool, true, false, ◌||◌, ◌&&◌, List, [], ◌∷◌, ◌++◌, length, refl, ap, ◌∙◌, sym, subst, arith, ℤ, pos, neg_ℤ, ◌+ℤ◌, ◌*ℤ◌, Option, Some, None, inl, inr}
use Rattle.std.specs.Prelude.{not, ◌==◌, slice_get, slice_index_or, is_some, if◌then◌else◌}
use Rattle.std.specs.List.{list_all}
use Rattle.std.specs.Ordering.{int_eq}
use Rattle.std.proofs.lemmas.Int.{ints}
use Rattle.std.proofs.lemmas.Bool.Decides.{Decides-int_eq}
use Rattle.list_laws.specs.Each.{Each}
use Rattle.basic_laws.proofs.Numbers.{test_same, same_test}
use Rattle.basic_laws.proofs.Truths.{or_parts, both_true}
use Rattle.basic_laws.proofs.Types.{some_same}
use Rattle.st_linear.specs.Linear.{Linear, value, entries_value, form_for, changed}
use Rattle.st_form.specs.Formula.{Formula, Formulas, truth_value, row, equal, bool_var, at, negation, every, some, none, more, Situation, truth, every_truth, is_zero}
use Rattle.st_form.specs.Exchange.{Exchange, is_listed, truth_for, before}
use Rattle.control_states.specs.declared.alternative.Alternative.{Alternative}
use Rattle.control_states.specs.declared.alternative.Alternative.TheVariants.{Location}
use Rattle.control_states.specs.Control.{ControlFacts, Active}
use Rattle.control_states.specs.Place.{Follows}
use Rattle.control_states.proofs.Deciding.{place-right}
use Rattle.transition_system.specs.Systems.{PlainMode, System}
use Rattle.constant_facts.specs.declared.fact.Constant.{Constant}
use Rattle.constant_facts.specs.declared.fact.Constant.TheVariants.{Number, Truth}
use Rattle.constant_facts.specs.declared.fact.Fact.{Fact}
use Rattle.constant_facts.specs.Facts.{Has, Holds, AllHold, IsControlled, Keeps, AreInductive, modes_of}
use Rattle.constant_facts.specs.Rules.{is_truth, is_same, knows, known_at, entries_are, formula_is, number_is, gives, is_put, changes, is_false, is_spared, is_kept, is_owner, case_of, cases_from, decided, entries_say, equation_says, variable_says, denial_says, says, one_says, places, places_among, is_first, narrowed}
use Rattle.constant_facts.specs.Greatest.{IsKeptBy}
use Rattle.constant_facts.proofs.Settling.{narrowed-same}

is_truth-same : (a b : Bool) → is_truth a b ≡ true → a ≡ b
is_truth-same true true h = refl
is_truth-same true false h = absurd (cc)
is_truth-same false true h = absurd (cc)
is_truth-same false false h = refl

false-true : (b : Bool) → not b ≡ true → b ≡ false
false-true true h = absurd (cc)
false-true false h = refl

module _ (s : Situation) where
  same-has : (v : ℕ) (c d : Constant) → is_same c d ≡ true → Has s v c → Has s v d
  same-has v (Number y) (Number z) h k = k ∙ (Decides-int_eq y z).0 h
  same-has v (Number y) (Truth b) h k = absurd (cc)
  same-has v (Truth a) (Number z) h k = absurd (cc)
  same-has v (Truth a) (Truth b) h k = k ∙ is_truth-same a b h

  -- facts at locations where control is
  abbrev AreSo : List Fact → Type 0
  AreSo fs = Each (λ f. Has s f.variable f.value) fs

  known-so : (ls : List ℕ) (fs : List Fact) → ((l : ℕ) → is_listed l ls ≡ true → s.located l ≡ true) → AllHold s fs → AreSo (known_at ls fs)
  known-so ls [] there h = tt
  known-so ls (f ∷ fs) there h = by_test (is_listed f.place ls) refl (known-so ls fs there h.1)
    where
      by_test : (b : Bool) → is_listed f.place ls ≡ b → AreSo (known_at ls fs) → AreSo (cond b (f ∷ known_at ls fs) (known_at ls fs))
      by_test true e k = (h.0 (there f.place e), k)
      by_test false e k = k

  module _ (known : List Fact) (so : AreSo known) where
    knows-along : (fs : List Fact) → AreSo fs → (v : ℕ) (c : Constant) → knows fs v c ≡ true → Has s v c
    knows-along [] h v c e = absurd (cc)
    knows-along (f ∷ fs) h v c e =
        elim (or_parts (f.variable == v && is_same f.value c) (knows fs v c) e) [
          | inl k ↦
              let b = both_true (f.variable == v) (is_same f.value c) k in
              subst (λ (u : ℕ). Has s u c) (test_same f.variable v b.0) (same-has f.variable f.value c b.1 h.0)
          | inr k ↦ knows-along fs h.1 v c k
        ]

    knows-has : (v : ℕ) (c : Constant) → knows known v c ≡ true → Has s v c
    knows-has v c e = knows-along known so v c e

    one-entry : (k a y : ℤ) → k ≡ pos 0 → a ≡ pos 1 → k +ℤ (a *ℤ y +ℤ pos 0) ≡ y
    one-entry k a y h i = rw h (rw i (omega (arith, ints)))

    entries-value : (k : ℤ) (es : List (ℕ × ℤ)) (z : ℤ) → entries_are known k es z ≡ true → k +ℤ entries_value s.numbers es ≡ z
    entries-value k [] z h = let e = (Decides-int_eq k z).0 h in omega (arith, ints, e)
    entries-value k (e ∷ []) z h =
        let b = both_true (int_eq k (pos 0) && int_eq e.1 (pos 1)) (knows known e.0 (Number z)) h in
        let c = both_true (int_eq k (pos 0)) (int_eq e.1 (pos 1)) b.0 in
        one-entry k e.1 (s.numbers e.0) ((Decides-int_eq k (pos 0)).0 c.0) ((Decides-int_eq e.1 (pos 1)).0 c.1) ∙ knows-has e.0 (Number z) b.1
    entries-value k (e ∷ (d ∷ es)) z h = absurd (cc)

    formula-truth : (f : Formula) (b : Bool) → formula_is known f b ≡ true → truth s f ≡ b
    formula-truth (truth_value a) b h = is_truth-same a b h
    formula-truth (row f) b h = absurd (cc)
    formula-truth (equal f) b h = absurd (cc)
    formula-truth (bool_var w) b h = knows-has w (Truth b) h
    formula-truth (at l) b h = absurd (cc)
    formula-truth (negation f) b h = ap not (formula-truth f (not b) h) ∙ twice b
      where
        twice : (b : Bool) → not (not b) ≡ b
        twice true = refl
        twice false = refl
    formula-truth (every fs) b h = absurd (cc)
    formula-truth (some fs) b h = absurd (cc)

    gives-has : (x : Exchange) (v : ℕ) (c : Constant) → gives known x v c ≡ true → Has (before s x) v c
    gives-has x v (Number z) h = by_form (form_for v x.numbers) refl h
      where
        by_form : (o : Option Linear) → form_for v x.numbers ≡ o → number_is known o v z ≡ true → changed s.numbers x.numbers v ≡ z
        by_form None e k = rw e (knows-has v (Number z) k)
        by_form (Some f) e k = rw e (entries-value f.constant f.entries z k)
    gives-has x v (Truth b) h = formula-truth (truth_for v x.truths) b h

  unlisted : (v : ℕ) (ps : List (ℕ × Formula)) → is_put v ps ≡ false → truth_for v ps ≡ bool_var v
  unlisted v [] h = refl
  unlisted v (p ∷ ps) h = by_test (p.0 == v) (λ k. unlisted v ps k) h
    where
      by_test : (b : Bool) → (is_put v ps ≡ false → truth_for v ps ≡ bool_var v) → (b || is_put v ps) ≡ false → (if b then p.1 else truth_for v ps) ≡ bool_var v
      by_test true f k = absurd (cc)
      by_test false f k = f k

  unchanged-has : (x : Exchange) (v : ℕ) (c : Constant) → changes x v c ≡ false → Has s v c → Has (before s x) v c
  unchanged-has x v (Number z) h k = by_form (form_for v x.numbers) refl h
    where
      by_form : (o : Option Linear) → form_for v x.numbers ≡ o → is_some o ≡ false → changed s.numbers x.numbers v ≡ z
      by_form None e i = rw e k
      by_form (Some f) e i = absurd (cc)
  unchanged-has x v (Truth b) h k = ap (truth s) (unlisted v x.truths h) ∙ k

  -- a fact that is kept holds behind the change
  kept-holds : (known : List Fact) → AreSo known → (table : ℕ → Option Bool) → ((l : ℕ) (b : Bool) → table l ≡ Some b → s.located l ≡ b)
      → (x : Exchange) (f : Fact) → Holds s f → is_kept known table x f ≡ true → Holds (before s x) f
  kept-holds known so table right x f holds h there =
      elim (or_parts (gives known x f.variable f.value) (not (is_listed f.place x.enters) && is_spared table x f) h) [
        | inl g ↦ gives-has known so x f.variable f.value g
        | inr g ↦
            let b = both_true (not (is_listed f.place x.enters)) (is_spared table x f) g in
            spared b.1 (old (is_listed f.place x.enters) (is_listed f.place x.leaves) (false-true _ b.0) there)
      ]
    where
      old : (e l : Bool) → e ≡ false → (e || (not l && s.located f.place)) ≡ true → (l ≡ false) × (s.located f.place ≡ true)
      old true l h k = absurd (cc)
      old false true h k = absurd (cc)
      old false false h k = (refl, k)

      absent : (o : Option Bool) → table f.place ≡ o → is_false o ≡ true → s.located f.place ≡ false
      absent None e k = absurd (cc)
      absent (Some true) e k = absurd (cc)
      absent (Some false) e k = right f.place false e

      spared : is_spared table x f ≡ true → (is_listed f.place x.leaves ≡ false) × (s.located f.place ≡ true) → Has (before s x) f.variable f.value
      spared h k =
          elim (or_parts (is_listed f.place x.leaves) (is_false (table f.place) || not (changes x f.variable f.value)) h) [
            | inl a ↦ absurd (cc)
            | inr a ↦ elim (or_parts (is_false (table f.place)) (not (changes x f.variable f.value)) a) [
              | inl b ↦ let n = absent (table f.place) refl b in absurd (cc)
              | inr b ↦ unchanged-has x f.variable f.value (false-true _ b) (holds k.1)
            ]
          ]

-- what is decided where control is at locations
module _ (k : ControlFacts) where
  -- one of the locations is the component's own, and is what is decided
  abbrev Owned : ℕ → Alternative → List ℕ → Type 0
  Owned c a ls = (l : ℕ) × ((is_listed l ls ≡ true) × ((slice_get k.owners l ≡ Some c) × (a ≡ Location l)))

  case-owned : (ls : List ℕ) (c : ℕ) (a : Alternative) → case_of k.owners ls c ≡ Some a → Owned c a ls
  case-owned [] c a h = absurd (cc)
  case-owned (l ∷ ls) c a h = by_owner (slice_get k.owners l) refl (λ h. case-owned ls c a h) h
    where
      or-right : (x y : Bool) → y ≡ true → (x || y) ≡ true
      or-right true y h = refl
      or-right false y h = h

      further : Owned c a ls → Owned c a (l ∷ ls)
      further r = (r.0, (or-right (l == r.0) _ r.1.0, r.1.1))

      by_test : (d : ℕ) (b : Bool) → slice_get k.owners l ≡ Some d → (d == c) ≡ b → (case_of k.owners ls c ≡ Some a → Owned c a ls)
          → (if b then Some (Location l) else case_of k.owners ls c) ≡ Some a → Owned c a (l ∷ ls)
      by_test d true own e rest h =
          (l, (ap (λ b. b || is_listed l ls) (same_test l), (own ∙ ap Some (test_same d c e), sym (some_same _ _ h))))
      by_test d false own e rest h = further (rest h)

      by_owner : (o : Option ℕ) → slice_get k.owners l ≡ o → (case_of k.owners ls c ≡ Some a → Owned c a ls)
          → (if is_owner o c then Some (Location l) else case_of k.owners ls c) ≡ Some a → Owned c a (l ∷ ls)
      by_owner None own rest h = further (rest h)
      by_owner (Some d) own rest h = by_test d (d == c) own refl rest h

  cases-case : (ls : List ℕ) (n c j : ℕ) (a : Alternative) → slice_index_or (cases_from k.owners ls n c) j None ≡ Some a → case_of k.owners ls (c + j) ≡ Some a
  cases-case ls zero c j a h = absurd (nowhere j h)
    where
      nowhere : (j : ℕ) → slice_index_or [] j None ≡ Some a → ⊥
      nowhere zero h = cc
      nowhere (suc j) h = cc
  cases-case ls (suc n) c zero a h = let e : c + 0 ≡ c = omega arith in rw e h
  cases-case ls (suc n) c (suc j) a h = let e : c + suc j ≡ c + 1 + j = omega arith in rw e (cases-case ls n (c + 1) j a h)

  pub decided-right : (s : Situation) → IsControlled k s → (ls : List ℕ) → ((l : ℕ) → is_listed l ls ≡ true → s.located l ≡ true)
      → (l : ℕ) (b : Bool) → decided k ls l ≡ Some b → s.located l ≡ b
  decided-right s control ls there l b h = place-right k control.0 s.located (cases_from k.owners ls (length k.components) 0) control.1 follows l b h
    where
      follows : Follows k.components control.0 (cases_from k.owners ls (length k.components) 0)
      follows c a e =
          let zero-less : 0 + c ≡ c = omega arith in
          let r = case-owned ls c a (subst (λ (n : ℕ). case_of k.owners ls n ≡ Some a) zero-less (cases-case ls (length k.components) 0 c a e)) in
          let w = (control.1.located r.0).0 (there r.0 r.1.0) in
          let same : w.0 ≡ c = some_same _ _ (sym w.1 ∙ r.1.1.0) in
          (subst (λ (x : ℕ). Active k.components control.0 x) same w.2, ap control.0 (sym same) ∙ w.3 ∙ sym r.1.1.1)

  all-listed : (s : Situation) (ls : List ℕ) → list_all (λ l. s.located l) ls ≡ true → (l : ℕ) → is_listed l ls ≡ true → s.located l ≡ true
  all-listed s [] h l e = absurd (cc)
  all-listed s (x ∷ ls) h l e =
      let b = both_true (s.located x) (list_all (λ l. s.located l) ls) h in
      elim (or_parts (x == l) (is_listed l ls) e) [
        | inl i ↦ subst (λ (y : ℕ). s.located y ≡ true) (test_same x l i) b.0
        | inr i ↦ all-listed s ls b.1 l i
      ]

  kept-each : (s : Situation) (known : List Fact) → AreSo s known → (table : ℕ → Option Bool) → ((l : ℕ) (b : Bool) → table l ≡ Some b → s.located l ≡ b) → (x : Exchange) (fs : List Fact)
      → AllHold s fs → Each (λ f. is_kept known table x f ≡ true) fs → AllHold (before s x) fs
  kept-each s known so table right x [] h i = tt
  kept-each s known so table right x (f ∷ fs) h i = (kept-holds s known so table right x f h.0 i.0, kept-each s known so table right x fs h.1 i.1)

  mode-keeps : (fs : List Fact) (m : PlainMode) → IsKeptBy k fs m → Keeps k fs m
  mode-keeps fs m h s control holds go =
      let b = both_true (list_all (λ l. s.located l) m.at) (truth s m.guard) go in
      let there = all-listed s m.at b.0 in
      kept-each s (known_at m.at fs) (known-so s m.at fs there holds) (decided k m.at) (decided-right s control m.at there) m.change fs holds h

  modes-keep : (fs : List Fact) (ms : List PlainMode) → Each (IsKeptBy k fs) ms → Each (Keeps k fs) ms
  modes-keep fs [] h = tt
  modes-keep fs (m ∷ ms) h = (mode-keeps fs m h.0, modes-keep fs ms h.1)

-- the start
module _ (s : Situation) where
  zero-is : (z : ℤ) → is_zero z ≡ true → z ≡ pos 0
  zero-is z h = grind (arith, ints)

  equation-says : (k : ℤ) (es : List (ℕ × ℤ)) (v : ℕ) (z : ℤ) → entries_say k es v z ≡ true → k +ℤ entries_value s.numbers es ≡ pos 0 → s.numbers v ≡ z
  equation-says k [] v z h e = absurd (cc)
  equation-says k (t ∷ []) v z h e =
      let b = both_true (t.0 == v) _ h in
      let i : t.0 ≡ v = test_same t.0 v b.0 in
      subst (λ (u : ℕ). s.numbers u ≡ z) i
      (elim (or_parts (int_eq t.1 (pos 1) && int_eq z (neg_ℤ k)) (int_eq t.1 (neg_ℤ (pos 1)) && int_eq z k) b.1) [
        | inl c ↦
            let d = both_true (int_eq t.1 (pos 1)) (int_eq z (neg_ℤ k)) c in
            positive t.1 (s.numbers t.0) ((Decides-int_eq t.1 (pos 1)).0 d.0) ((Decides-int_eq z (neg_ℤ k)).0 d.1) e
        | inr c ↦
            let d = both_true (int_eq t.1 (neg_ℤ (pos 1))) (int_eq z k) c in
            negative t.1 (s.numbers t.0) ((Decides-int_eq t.1 (neg_ℤ (pos 1))).0 d.0) ((Decides-int_eq z k).0 d.1) e
      ])
    where
      positive : (a y : ℤ) → a ≡ pos 1 → z ≡ neg_ℤ k → k +ℤ (a *ℤ y +ℤ pos 0) ≡ pos 0 → y ≡ z
      positive a y f g h = let i = rw f at h in omega (arith, ints, i, g)

      negative : (a y : ℤ) → a ≡ neg_ℤ (pos 1) → z ≡ k → k +ℤ (a *ℤ y +ℤ pos 0) ≡ pos 0 → y ≡ z
      negative a y f g h = let i = rw f at h in omega (arith, ints, i, g)
  equation-says k (t ∷ (d ∷ es)) v z h e = absurd (cc)

  variable-says : (w v : ℕ) (c : Constant) (b : Bool) → variable_says w v c b ≡ true → s.truths w ≡ b → Has s v c
  variable-says w v (Number z) b h e = absurd (cc)
  variable-says w v (Truth a) b h e =
      let i = both_true (w == v) (is_truth a b) h in
      subst (λ (u : ℕ). s.truths u ≡ a) (test_same w v i.0) (e ∙ sym (is_truth-same a b i.1))

  denial-says : (f : Formula) (v : ℕ) (c : Constant) → denial_says f v c ≡ true → not (truth s f) ≡ true → Has s v c
  denial-says (truth_value b) v c h e = absurd (cc)
  denial-says (row f) v c h e = absurd (cc)
  denial-says (equal f) v c h e = absurd (cc)
  denial-says (bool_var w) v c h e = variable-says w v c false h (false-true _ e)
  denial-says (at l) v c h e = absurd (cc)
  denial-says (negation f) v c h e = absurd (cc)
  denial-says (every fs) v c h e = absurd (cc)
  denial-says (some fs) v c h e = absurd (cc)

  equation-has : (f : Linear) (v : ℕ) (c : Constant) → equation_says f v c ≡ true → is_zero (value s.numbers f) ≡ true → Has s v c
  equation-has f v (Number z) h e = equation-says f.constant f.entries v z h (zero-is _ e)
  equation-has f v (Truth b) h e = absurd (cc)

  mutual
    says-has : (f : Formula) (v : ℕ) (c : Constant) → says f v c ≡ true → truth s f ≡ true → Has s v c
    says-has (truth_value b) v c h e = absurd (cc)
    says-has (row f) v c h e = absurd (cc)
    says-has (equal f) v c h e = equation-has f v c h e
    says-has (bool_var w) v c h e = variable-says w v c true h e
    says-has (at l) v c h e = absurd (cc)
    says-has (negation f) v c h e = denial-says f v c h e
    says-has (every fs) v c h e = one-has fs v c h e
    says-has (some fs) v c h e = absurd (cc)

    one-has : (fs : Formulas) (v : ℕ) (c : Constant) → one_says fs v c ≡ true → every_truth s fs ≡ true → Has s v c
    one-has none v c h e = absurd (cc)
    one-has (more f fs) v c h e =
        let b = both_true (truth s f) (every_truth s fs) e in
        elim (or_parts (says f v c) (one_says fs v c) h) [
          | inl i ↦ says-has f v c i b.0
          | inr i ↦ one-has fs v c i b.1
        ]

  listed-either : (l : ℕ) (xs ys : List ℕ) → is_listed l (xs ++ ys) ≡ true → (is_listed l xs || is_listed l ys) ≡ true
  listed-either l [] ys h = h
  listed-either l (x ∷ xs) ys h = by_test (x == l) (λ k. listed-either l xs ys k) h
    where
      by_test : (b : Bool) → (is_listed l (xs ++ ys) ≡ true → (is_listed l xs || is_listed l ys) ≡ true) → (b || is_listed l (xs ++ ys)) ≡ true → ((b || is_listed l xs) || is_listed l ys) ≡ true
      by_test true f h = refl
      by_test false f h = f h

  mutual
    places-there : (f : Formula) → truth s f ≡ true → (l : ℕ) → is_listed l (places f) ≡ true → s.located l ≡ true
    places-there (truth_value b) e l h = absurd (cc)
    places-there (row f) e l h = absurd (cc)
    places-there (equal f) e l h = absurd (cc)
    places-there (bool_var w) e l h = absurd (cc)
    places-there (at m) e l h = elim (or_parts (m == l) false h) [ inl i ↦ subst (λ (y : ℕ). s.located y ≡ true) (test_same m l i) e | inr i ↦ absurd (cc) ]
    places-there (negation f) e l h = absurd (cc)
    places-there (every fs) e l h = among-there fs e l h
    places-there (some fs) e l h = absurd (cc)

    among-there : (fs : Formulas) → every_truth s fs ≡ true → (l : ℕ) → is_listed l (places_among fs) ≡ true → s.located l ≡ true
    among-there none e l h = absurd (cc)
    among-there (more f fs) e l h =
        let b = both_true (truth s f) (every_truth s fs) e in
        elim (or_parts (is_listed l (places f)) (is_listed l (places_among fs)) (listed-either l (places f) (places_among fs) h)) [
          | inl i ↦ places-there f b.0 l i
          | inr i ↦ among-there fs b.1 l i
        ]

  first-holds : (table : ℕ → Option Bool) → ((l : ℕ) (b : Bool) → table l ≡ Some b → s.located l ≡ b) → (initial : Formula) → truth s initial ≡ true
      → (fs : List Fact) → Each (λ f. is_first table initial f ≡ true) fs → AllHold s fs
  first-holds table right initial e [] h = tt
  first-holds table right initial e (f ∷ fs) h = (one, first-holds table right initial e fs h.1)
    where
      absent : (o : Option Bool) → table f.place ≡ o → is_false o ≡ true → s.located f.place ≡ false
      absent None e k = absurd (cc)
      absent (Some true) e k = absurd (cc)
      absent (Some false) e k = right f.place false e

      one : Holds s f
      one there =
          elim (or_parts (is_false (table f.place)) (says initial f.variable f.value) h.0) [
            | inl i ↦ let n = absent (table f.place) refl i in absurd (cc)
            | inr i ↦ says-has initial f.variable f.value i e
          ]

-- facts of which a round gives up none are inductive
pub settled-inductive : (k : ControlFacts) (system : System) (fs : List Fact) → length fs ≤ length (narrowed k system fs) → AreInductive k system fs
settled-inductive k system fs h =
    let r = narrowed-same k system fs h in
    record {
      starts = λ s control e.
          let there = places-there s system.initial e in
          first-holds s (decided k (places system.initial)) (decided-right k s control (places system.initial) there) system.initial e fs r.1.0;
      kept = modes-keep k fs (modes_of system) r.1.1;
    }
