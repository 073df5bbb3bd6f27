-- Lists of conjuncts as plain data.
use Rattle.std.proofs.Common.{◌≡◌, ℕ, ◌+◌, ◌-◌, ◌<◌, ◌≤◌, Bool, true, false, List, [], ◌∷◌, ◌++◌, length, take, drop, get_or, refl, ap, ◌∙◌, sym, Option, Some, None, arith}
use Rattle.std.specs.Prelude.{option_and_then, ◌||◌}
use Rattle.std.specs.Option.{option_map}
use Rattle.std.proofs.lemmas.List.{drop_more, take_more, take_all, length-drop}
use Rattle.st_form.specs.Formula.{Formula, Formulas, truth_value, row, equal, bool_var, at, negation, every, some, none, more}
use Rattle.st_form.specs.Simple.{append, parts, gathered, simple, simples, Decided}
use Rattle.st_form.proofs.Simples.{append-none, append-assoc}
use Rattle.farkas_check.specs.Problem.{disjuncts_of, split_by, split_from}
use Rattle.std.proofs.Math.ListN.{drop_of_length-le}
use Rattle.st_form.specs.Plain.{plain, plain_list}
use Rattle.st_form.specs.declared.formulas.Form.{Form, True}
use Rattle.st_form.proofs.Nodes.{plain-True}
use Rattle.farkas_check.specs.Limits.{IsSettled, AreSettled}
use Rattle.search_laws.specs.Steady.{IsSteady, AreSteady, IsUntouched}
use Rattle.search_laws.specs.Ends.{AllLiteralsOf}
use Rattle.search_laws.proofs.Steadying.{stays-same}
use Rattle.linear_prover.specs.Touches.{touches, touches_any, is_there}
use Rattle.linear_prover.specs.declared.problems.Conjunct.{Conjunct}
use Rattle.linear_prover.specs.Plain.{plain_conjunct, plain_each}

pub each-append : (fs gs : List Conjunct) → plain_each (fs ++ gs) ≡ append (plain_each fs) (plain_each gs)
each-append [] gs = refl
each-append (f ∷ fs) gs = ap (more (plain_conjunct f)) (each-append fs gs)

-- one more at the end
pub each-push : (fs : List Conjunct) (f : Conjunct) (p : Formula) (rest : Formulas) → plain_conjunct f ≡ p → append (plain_each (fs ++ f ∷ [])) rest ≡ append (plain_each fs) (more p rest)
each-push fs f p rest e =
    ap (λ l. append l rest) (each-append fs (f ∷ [])) ∙ append-assoc (plain_each fs) (more (plain_conjunct f) none) rest ∙ ap (λ q. append (plain_each fs) (more q rest)) e

pub each-next : (fs : List Conjunct) (i : ℕ) (f : Conjunct) → i < length fs → f ≡ get_or fs i f → plain_each (drop i fs) ≡ more (plain_conjunct f) (plain_each (drop (i + 1) fs))
each-next fs i f h e = ap plain_each (drop_more fs i f h) ∙ ap (λ g. more (plain_conjunct g) (plain_each (drop (i + 1) fs))) (sym e)

front : (fs : List Conjunct) (i : ℕ) (f : Conjunct) → i < length fs → f ≡ get_or fs i f → append (plain_each (take i fs)) (more (plain_conjunct f) none) ≡ plain_each (take (i + 1) fs)
front fs i f h e =
    let next : take (i + 1) fs ≡ take i fs ++ get_or fs i f ∷ [] = take_more fs i f h in
    ap (λ g. append (plain_each (take i fs)) (more (plain_conjunct g) none)) e ∙ sym (ap plain_each next ∙ each-append (take i fs) (get_or fs i f ∷ []))

-- at a conjunct, the first disjunction is its own or one behind
pub at-conjunct : (fs : List Conjunct) (i : ℕ) (f : Conjunct) (p : Formula) → i < length fs → f ≡ get_or fs i f → p ≡ plain_conjunct f
    → split_from (plain_each (take i fs)) 0 (plain_each (drop i fs)) ≡ split_by (plain_each (take i fs)) 0 (plain_each (drop (i + 1) fs)) (λ j. split_from (plain_each (take (i + 1) fs)) j (plain_each (drop (i + 1) fs))) (disjuncts_of p)
at-conjunct fs i f p h e q =
    ap (split_from (plain_each (take i fs)) 0) (each-next fs i f h e)
    ∙ ap (λ b. split_by (plain_each (take i fs)) 0 (plain_each (drop (i + 1) fs)) (λ j. split_from b j (plain_each (drop (i + 1) fs))) (disjuncts_of (plain_conjunct f))) (front fs i f h e)
    ∙ ap (λ g. split_by (plain_each (take i fs)) 0 (plain_each (drop (i + 1) fs)) (λ j. split_from (plain_each (take (i + 1) fs)) j (plain_each (drop (i + 1) fs))) (disjuncts_of g)) (sym q)

-- a conjunct that is no disjunction is passed by
pub past : (fs : List Conjunct) (i : ℕ) (f : Conjunct) (p : Formula) (whole : Option (List Formulas)) → i < length fs → f ≡ get_or fs i f → p ≡ plain_conjunct f → None ≡ disjuncts_of p
    → split_from (plain_each (take i fs)) 0 (plain_each (drop i fs)) ≡ whole → split_from (plain_each (take (i + 1) fs)) 0 (plain_each (drop (i + 1) fs)) ≡ whole
past fs i f p whole h e q n g = let s = rw (← n) at (at-conjunct fs i f p h e q) in sym s ∙ g

-- ---- decided conjuncts
none-there : {A : Type 0} (o : Option A) → is_there o ≡ false → o ≡ None
none-there None h = refl
none-there (Some x) h = absurd (cc)

either-of : (a b : Bool) → (a || b) ≡ false → (a ≡ false) × (b ≡ false)
either-of true b h = absurd (cc)
either-of false b h = (refl, h)

mutual
  pub untouched : (d : Decided) (f : Formula) → touches d f ≡ false → IsUntouched d f
  untouched d (truth_value b) h = tt
  untouched d (row f) h = tt
  untouched d (equal f) h = tt
  untouched d (bool_var v) h = none-there (d.truths v) h
  untouched d (at l) h = none-there (d.places l) h
  untouched d (negation f) h = untouched d f h
  untouched d (every fs) h = untouched-all d fs h
  untouched d (some fs) h = untouched-all d fs h

  untouched-all : (d : Decided) (fs : Formulas) → touches_any d fs ≡ false → AllLiteralsOf (λ l. d.places l ≡ None) (λ v. d.truths v ≡ None) fs
  untouched-all d none h = tt
  untouched-all d (more f fs) h = let p = either-of (touches d f) (touches_any d fs) h in (untouched d f p.0, untouched-all d fs p.1)

part-alone : (f : Formula) → IsSteady f true → parts true f ≡ Some (more f none)
part-alone (truth_value b) h = absurd h
part-alone (row f) h = refl
part-alone (equal f) h = refl
part-alone (bool_var v) h = refl
part-alone (at l) h = refl
part-alone (negation f) h = refl
part-alone (every fs) h = absurd h
part-alone (some fs) h = refl

-- a conjunct in which nothing is decided stays
pub kept : (d : Decided) (f : Formula) → IsSteady f true → touches d f ≡ false → parts true (simple d f true) ≡ Some (more f none)
kept d f s h = ap (parts true) (stays-same d true f s (untouched d f h)) ∙ part-alone f s

appended : (m gs : Formulas) (o : Option Formulas) → option_map (append (append m gs)) o ≡ option_map (append m) (option_map (append gs) o)
appended m gs None = refl
appended m gs (Some hs) = ap Some (append-assoc m gs hs)

-- one conjunct more under the decisions
pub gathered-more : (out next : Formulas) (f : Formula) (fs : Formulas) (whole : Option Formulas) → Some next ≡ option_map (append out) (parts true f)
    → option_map (append out) (gathered true (more f fs)) ≡ whole → option_map (append next) (gathered true fs) ≡ whole
gathered-more out next f fs whole h w = by_parts (parts true f) h w
  where
    by_parts : (o : Option Formulas) → Some next ≡ option_map (append out) o → option_map (append out) (option_and_then (λ gs. option_map (append gs) (gathered true fs)) o) ≡ whole → option_map (append next) (gathered true fs) ≡ whole
    by_parts None h w = absurd (cc)
    by_parts (Some gs) h w = let same : next ≡ append out gs = cc in ap (λ n. option_map (append n) (gathered true fs)) same ∙ appended out gs (gathered true fs) ∙ w

-- a conjunct is false under the decisions
pub gathered-false : (out : Formulas) (f : Formula) (fs : Formulas) (whole : Option Formulas) → None ≡ option_map (append out) (parts true f)
    → option_map (append out) (gathered true (more f fs)) ≡ whole → None ≡ whole
gathered-false out f fs whole h w = by_parts (parts true f) h w
  where
    by_parts : (o : Option Formulas) → None ≡ option_map (append out) o → option_map (append out) (option_and_then (λ gs. option_map (append gs) (gathered true fs)) o) ≡ whole → None ≡ whole
    by_parts None h w = w
    by_parts (Some gs) h w = absurd (cc)

-- ---- the loops of lending
pub each-end : (fs : List Conjunct) (f : Conjunct) (p : Formula) → plain_conjunct f ≡ p → plain_each (fs ++ f ∷ []) ≡ append (plain_each fs) (more p none)
each-end fs f p e = each-append fs (f ∷ []) ∙ ap (λ q. append (plain_each fs) (more q none)) e

forms-next : (fs : List Form) (i : ℕ) (f : Form) → i < length fs → f ≡ get_or fs i f → plain_list (drop i fs) ≡ more (plain f) (plain_list (drop (i + 1) fs))
forms-next fs i f h e = ap plain_list (drop_more fs i f h) ∙ ap (λ g. more (plain g) (plain_list (drop (i + 1) fs))) (sym e)

pub lent-more : (out fs : List Conjunct) (i : ℕ) (f lent : Conjunct) (p : Formula) (whole : Formulas) → i < length fs → f ≡ get_or fs i f → p ≡ plain_conjunct f → plain_conjunct lent ≡ p
    → append (plain_each out) (plain_each (drop i fs)) ≡ whole → append (plain_each (out ++ lent ∷ [])) (plain_each (drop (i + 1) fs)) ≡ whole
lent-more out fs i f lent p whole h e q r w =
    each-push out lent (plain_conjunct f) (plain_each (drop (i + 1) fs)) (r ∙ q) ∙ sym (ap (append (plain_each out)) (each-next fs i f h e)) ∙ w

pub form-more : (out : List Conjunct) (fs : List Form) (i : ℕ) (f : Form) (lent : Conjunct) (whole : Formulas) → i < length fs → f ≡ get_or fs i f → plain_conjunct lent ≡ plain f
    → append (plain_each out) (plain_list (drop i fs)) ≡ whole → append (plain_each (out ++ lent ∷ [])) (plain_list (drop (i + 1) fs)) ≡ whole
form-more out fs i f lent whole h e r w =
    each-push out lent (plain f) (plain_list (drop (i + 1) fs)) r ∙ sym (ap (append (plain_each out)) (forms-next fs i f h e)) ∙ w

pub lent-done : (out fs : List Conjunct) (i : ℕ) (whole : Formulas) → length fs ≤ i → append (plain_each out) (plain_each (drop i fs)) ≡ whole → plain_each out ≡ whole
lent-done out fs i whole h w = sym (append-none (plain_each out)) ∙ sym (ap (λ l. append (plain_each out) (plain_each l)) (drop_of_length-le fs h)) ∙ w

pub forms-done : (out : List Conjunct) (fs : List Form) (i : ℕ) (whole : Formulas) → length fs ≤ i → append (plain_each out) (plain_list (drop i fs)) ≡ whole → plain_each out ≡ whole
forms-done out fs i whole h w = sym (append-none (plain_each out)) ∙ sym (ap (λ l. append (plain_each out) (plain_list l)) (drop_of_length-le fs h)) ∙ w

pub made-more : (out : List Conjunct) (made : Conjunct) (f : Form) (left rest : List Form) (whole : Formulas) → plain_conjunct made ≡ plain f → left ≡ f ∷ rest
    → append (plain_each out) (plain_list left) ≡ whole → append (plain_each (out ++ made ∷ [])) (plain_list rest) ≡ whole
made-more out made f left rest whole e h w = each-push out made (plain f) (plain_list rest) e ∙ sym (ap (λ l. append (plain_each out) (plain_list l)) h) ∙ w

nil : (left : List Form) → length left ≡ 0 → left ≡ []
nil [] h = refl
nil (x ∷ xs) h = absurd (omega (arith, h))

pub made-done : (out : List Conjunct) (left : List Form) (whole : Formulas) → length left ≡ 0 → append (plain_each out) (plain_list left) ≡ whole → plain_each out ≡ whole
made-done out left whole h w = sym (append-none (plain_each out)) ∙ sym (ap (λ l. append (plain_each out) (plain_list l)) (nil left h)) ∙ w

pub true-part : (out : Formulas) (f : Form) → f ≡ True → Some out ≡ option_map (append out) (parts true (plain f))
true-part out f e = sym (ap (λ g. option_map (append out) (parts true g)) (ap plain e ∙ plain-True) ∙ ap (λ x. Some x) (append-none out))

pub placed : (v m b e fs : List Conjunct) (middle : Formulas) (place k n : ℕ) → k ≡ place → n ≡ length fs - (place + 1) → e ≡ [] → plain_each b ≡ append (plain_each e) (plain_each (take k fs)) → plain_each m ≡ append (plain_each b) middle
    → plain_each v ≡ append (plain_each m) (plain_each (take n (drop (place + 1) fs))) → plain_each v ≡ append (plain_each (take place fs)) (append middle (plain_each (drop (place + 1) fs)))
placed v m b e fs middle place k n i j l x y z =
    let first : plain_each b ≡ plain_each (take place fs) = x ∙ ap (λ q. append (plain_each q) (plain_each (take k fs))) l ∙ ap (λ q. plain_each (take q fs)) i in
    let whole : take n (drop (place + 1) fs) ≡ drop (place + 1) fs = take_all n (drop (place + 1) fs) (omega (arith, j, length-drop (place + 1) fs)) in
    z ∙ ap (λ q. append q (plain_each (take n (drop (place + 1) fs)))) (y ∙ ap (λ q. append q middle) first) ∙ append-assoc (plain_each (take place fs)) middle (plain_each (take n (drop (place + 1) fs)))
    ∙ ap (λ q. append (plain_each (take place fs)) (append middle (plain_each q))) whole

-- ---- the loop of a decision
pub facts-here : (fs : List Conjunct) (i : ℕ) (f : Conjunct) (p : Formula) → i < length fs → f ≡ get_or fs i f → p ≡ plain_conjunct f → AreSettled (plain_each (drop i fs)) → AreSteady (plain_each (drop i fs)) true
    → (IsSettled p × AreSettled (plain_each (drop (i + 1) fs))) × (IsSteady p true × AreSteady (plain_each (drop (i + 1) fs)) true)
facts-here fs i f p h e q s t =
    let a = rw (each-next fs i f h e) at s in
    let b = rw (each-next fs i f h e) at t in
    ((rw q a.0, a.1), (rw q b.0, b.1))

pub under-more : (d : Decided) (fs : List Conjunct) (i : ℕ) (f : Conjunct) (p : Formula) (out next : Formulas) (whole : Option Formulas) → i < length fs → f ≡ get_or fs i f → p ≡ plain_conjunct f
    → Some next ≡ option_map (append out) (parts true (simple d p true)) → option_map (append out) (gathered true (simples d (plain_each (drop i fs)) true)) ≡ whole
    → option_map (append next) (gathered true (simples d (plain_each (drop (i + 1) fs)) true)) ≡ whole
under-more d fs i f p out next whole h e q n w =
    gathered-more out next (simple d (plain_conjunct f) true) (simples d (plain_each (drop (i + 1) fs)) true) whole (n ∙ ap (λ g. option_map (append out) (parts true (simple d g true))) q)
    (sym (ap (λ l. option_map (append out) (gathered true (simples d l true))) (each-next fs i f h e)) ∙ w)

pub under-done : (d : Decided) (fs : List Conjunct) (i : ℕ) (out : Formulas) (whole : Option Formulas) → length fs ≤ i → option_map (append out) (gathered true (simples d (plain_each (drop i fs)) true)) ≡ whole → Some out ≡ whole
under-done d fs i out whole h w =
    ap (λ x. Some x) (sym (append-none out)) ∙ sym (ap (λ l. option_map (append out) (gathered true (simples d (plain_each l) true))) (drop_of_length-le fs h)) ∙ w
