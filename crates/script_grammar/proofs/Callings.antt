-- What a name is found for among the earlier steps: the only one that has it.
use Rattle.std.proofs.Common.{◌≡◌, ℕ, zero, suc, Bool, false, true, List, [], ◌∷◌, ◌++◌, Option, Some, None, refl, sym, ap, subst, ◌∙◌, slice_get}
use Rattle.std.specs.Prelude.{if◌then◌else◌, is_some}
use Rattle.std.specs.Option.{option_map}
use Rattle.std.specs.Str.{bytes_eq}
use Rattle.std.proofs.lemmas.List.{map-append}
use Rattle.std.proofs.lemmas.Slice.Eq.{bytes_eq-Decides}
use Rattle.st_program.specs.Names.{AreApart, IsNew}
use Rattle.st_form.specs.Formula.{Formula}
use Rattle.temporal_goals.specs.Texts.{PlainGoal, PlainStep, invariant, response, waiting}
use Rattle.proof_script.specs.Steps.{is_invariance}
use Rattle.proof_grammar.specs.Units.{IsEarlierInvariance, names_of_steps}
use Rattle.script_grammar.specs.Meaning.{one_later, step_called}

-- NEW NAMES
same_some : {A B : Type 0} (f : A → B) (o : Option A) → is_some (option_map f o) ≡ is_some o
same_some f None = refl
same_some f (Some x) = refl

pub free_is : (steps : List PlainStep) (name : List ℕ) → is_some (step_called steps name) ≡ false → IsNew name (names_of_steps steps)
free_is [] name h = tt
free_is (s ∷ steps) name h = at_test (λ e. free_is steps name e) (bytes_eq s.name name) refl h
  where
    at_test : (is_some (step_called steps name) ≡ false → IsNew name (names_of_steps steps)) → (b : Bool) → b ≡ bytes_eq s.name name → is_some (if b then Some (0, is_invariance s.goal) else option_map one_later (step_called steps name)) ≡ false
        → (bytes_eq s.name name ≡ false) × IsNew name (names_of_steps steps)
    at_test again true e h = absurd cc
    at_test again false e h = (sym e, again (sym (same_some one_later (step_called steps name)) ∙ h))

pub is_free : (steps : List PlainStep) (name : List ℕ) → IsNew name (names_of_steps steps) → is_some (step_called steps name) ≡ false
is_free [] name h = refl
is_free (s ∷ steps) name h = let e = h.0 in let again = is_free steps name h.1 in rw e (same_some one_later (step_called steps name) ∙ again)

-- names that stay apart
unequal : (xs ys : List ℕ) → bytes_eq xs ys ≡ false → bytes_eq ys xs ≡ false
unequal xs ys h = at_test (bytes_eq ys xs) refl
  where
    at_test : (b : Bool) → b ≡ bytes_eq ys xs → b ≡ false
    at_test false e = refl
    at_test true e = let same : bytes_eq xs ys ≡ true = (bytes_eq-Decides xs ys).1 (sym ((bytes_eq-Decides ys xs).0 (sym e))) in cc

new_pushed : (x y : List ℕ) (xs : List (List ℕ)) → IsNew x xs → bytes_eq y x ≡ false → IsNew x (xs ++ y ∷ [])
new_pushed x y [] new h = (h, tt)
new_pushed x y (z ∷ zs) new h = (new.0, new_pushed x y zs new.1 h)

apart_pushed : (xs : List (List ℕ)) (y : List ℕ) → AreApart xs → IsNew y xs → AreApart (xs ++ y ∷ [])
apart_pushed [] y apart new = (tt, tt)
apart_pushed (x ∷ xs) y apart new = (new_pushed x y xs apart.0 (unequal x y new.0), apart_pushed xs y apart.1 new.1)

pub apart_grows : (steps : List PlainStep) (s : PlainStep) → AreApart (names_of_steps steps) → IsNew s.name (names_of_steps steps) → AreApart (names_of_steps (steps ++ s ∷ []))
apart_grows steps s apart new = subst AreApart (sym (map-append (λ x. x.name) steps (s ∷ []))) (apart_pushed (names_of_steps steps) s.name apart new)

-- EARLIER INVARIANCES
invariance_of : (goal : PlainGoal) → is_invariance goal ≡ true → (p : Formula) × (goal ≡ invariant p)
invariance_of (invariant p) h = (p, refl)
invariance_of (waiting p qs) h = absurd cc
invariance_of (response p q e) h = absurd cc

same_name : (xs ys : List ℕ) → bytes_eq xs ys ≡ true → xs ≡ ys
same_name xs ys h = (bytes_eq-Decides xs ys).0 h

pub found_is : (steps : List PlainStep) (name : List ℕ) (e : ℕ × Bool) → step_called steps name ≡ Some e → e.1 ≡ true → IsEarlierInvariance steps name e.0
found_is [] name e h k = absurd cc
found_is (s ∷ steps) name e h k = at_test (λ d m n. found_is steps name d m n) (bytes_eq s.name name) refl h
  where
    here : (0, is_invariance s.goal) ≡ e → bytes_eq s.name name ≡ true → IsEarlierInvariance (s ∷ steps) name e.0
    here m q =
        let i = invariance_of s.goal (ap (λ (x : ℕ × Bool). x.1) m ∙ k) in
        subst (λ (x : ℕ × Bool). IsEarlierInvariance (s ∷ steps) name x.0) m (record { step = s; formula = i.0; there = refl; called = same_name s.name name q; claims = i.1 })

    later : (o : Option (ℕ × Bool)) → step_called steps name ≡ o → option_map one_later o ≡ Some e → ((d : ℕ × Bool) → step_called steps name ≡ Some d → d.1 ≡ true → IsEarlierInvariance steps name d.0) → IsEarlierInvariance (s ∷ steps) name e.0
    later None q m again = absurd cc
    later (Some d) q m again =
        let n : one_later d ≡ e = cc in
        let l = again d q (ap (λ (x : ℕ × Bool). x.1) n ∙ k) in
        subst (λ (x : ℕ × Bool). IsEarlierInvariance (s ∷ steps) name x.0) n (record { step = l.step; formula = l.formula; there = l.there; called = l.called; claims = l.claims })

    at_test : ((d : ℕ × Bool) → step_called steps name ≡ Some d → d.1 ≡ true → IsEarlierInvariance steps name d.0) → (b : Bool) → b ≡ bytes_eq s.name name → (if b then Some (0, is_invariance s.goal) else option_map one_later (step_called steps name)) ≡ Some e → IsEarlierInvariance (s ∷ steps) name e.0
    at_test again true q m = let n : (0, is_invariance s.goal) ≡ e = cc in here n (sym q)
    at_test again false q m = later (step_called steps name) refl m again

not_there : (x : List ℕ) (steps : List PlainStep) (k : ℕ) (step : PlainStep) → IsNew x (names_of_steps steps) → slice_get steps k ≡ Some step → bytes_eq step.name x ≡ false
not_there x [] k step new h = absurd cc
not_there x (s ∷ steps) zero step new h = let e : s ≡ step = cc in subst (λ (z : PlainStep). bytes_eq z.name x ≡ false) e new.0
not_there x (s ∷ steps) (suc k) step new h = not_there x steps k step new.1 h

pub is_found : (steps : List PlainStep) (name : List ℕ) (n : ℕ) → AreApart (names_of_steps steps) → IsEarlierInvariance steps name n → step_called steps name ≡ Some (n, true)
is_found [] name n apart l = let h = l.there in absurd cc
is_found (s ∷ steps) name zero apart l =
    let e : s ≡ l.step = same s l.step l.there in
    let named_so : bytes_eq s.name name ≡ true = (bytes_eq-Decides s.name name).1 (ap (λ (z : PlainStep). z.name) e ∙ l.called) in
    let goal_so : is_invariance s.goal ≡ true = ap (λ (z : PlainStep). is_invariance z.goal) e ∙ ap is_invariance l.claims in
    rw (named_so, goal_so) refl
  where
    same : (a b : PlainStep) → Some a ≡ Some b → a ≡ b
    same a b h = cc
is_found (s ∷ steps) name (suc k) apart l =
    let other_name : bytes_eq s.name name ≡ false = unequal name s.name (ap (λ m. bytes_eq m s.name) (sym l.called) ∙ not_there s.name steps k l.step apart.0 l.there) in
    let again = is_found steps name k apart.1 (record { step = l.step; formula = l.formula; there = l.there; called = l.called; claims = l.claims }) in
    rw (other_name, again) refl
