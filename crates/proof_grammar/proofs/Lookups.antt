-- What a name is found for among the earlier steps: the only one that has it.
use Rattle.std.proofs.Common.{Bool, List, None, Option, Some, [], ap, arith, cond, false, length, nat_lt, not, position, refl, slice_get, subst, suc, sym, true, zero, ℕ, ◌++◌, ◌+◌, ◌∙◌, ◌∷◌, ◌≡◌}
use Rattle.std.proofs.lemmas.Bool.Decides.{nat_tests}
use Rattle.std.proofs.lemmas.List.{map-append}
use Rattle.std.proofs.lemmas.Slice.Eq.{bytes_eq-Decides}
use Rattle.std.specs.List.{position_or_len}
use Rattle.std.specs.Option.{option_map}
use Rattle.std.specs.Prelude.{if◌then◌else◌, is_some}
use Rattle.std.specs.Str.{bytes_eq}
use Rattle.st_form.specs.Formula.{Formula}
use Rattle.st_program.specs.Names.{AreApart, IsNew, named, names_in}
use Rattle.temporal_goals.specs.Texts.{PlainGoal, PlainStep, invariant, response, waiting}
use Rattle.expression_typer.specs.Naming.{is_text, variable_at, variable_named}
use Rattle.proof_script.specs.Steps.{Earlier, earlier_of, is_invariance, is_taken, step_named}
use Rattle.proof_grammar.specs.Units.{IsEarlierInvariance, names_of_steps}

-- BYTES
unequal : (xs ys : List ℕ) → bytes_eq xs ys ≡ false → bytes_eq ys xs ≡ false
unequal xs ys h = at_test (bytes_eq ys xs) refl
  where
    at_test : (b : Bool) → b ≡ bytes_eq ys xs → b ≡ false
    at_test false e = refl
    at_test true e = let same : bytes_eq xs ys ≡ true = (bytes_eq-Decides xs ys).1 (sym ((bytes_eq-Decides ys xs).0 (sym e))) in cc

-- NEW NAMES
pub free_is : (steps : List PlainStep) (name : List ℕ) → is_taken (earlier_of steps) name ≡ false → IsNew name (names_of_steps steps)
free_is [] name h = tt
free_is (s ∷ steps) name h = at_test (λ e. free_is steps name e) (bytes_eq name s.name) refl h
  where
    at_test : (is_taken (earlier_of steps) name ≡ false → IsNew name (names_of_steps steps)) → (b : Bool) → b ≡ bytes_eq name s.name → is_some (if b then Some (is_invariance s.goal) else named name (earlier_of steps)) ≡ false
        → (bytes_eq s.name name ≡ false) × IsNew name (names_of_steps steps)
    at_test again true e h = absurd cc
    at_test again false e h = (unequal name s.name (sym e), again h)

pub is_free_name : (steps : List PlainStep) (name : List ℕ) → IsNew name (names_of_steps steps) → is_taken (earlier_of steps) name ≡ false
is_free_name [] name h = refl
is_free_name (s ∷ steps) name h = let e = unequal s.name name h.0 in let again = is_free_name steps name h.1 in rw e again

-- names that stay apart
new_pushed : (x y : List ℕ) (xs : List (List ℕ)) → IsNew x xs → bytes_eq y x ≡ false → IsNew x (xs ++ y ∷ [])
new_pushed x y [] new h = (h, tt)
new_pushed x y (z ∷ zs) new h = (new.0, new_pushed x y zs new.1 h)

apart_pushed : (xs : List (List ℕ)) (y : List ℕ) → AreApart xs → IsNew y xs → AreApart (xs ++ y ∷ [])
apart_pushed [] y apart new = (tt, tt)
apart_pushed (x ∷ xs) y apart new = (new_pushed x y xs apart.0 (unequal x y new.0), apart_pushed xs y apart.1 new.1)

pub apart_grows : (steps : List PlainStep) (s : PlainStep) → AreApart (names_of_steps steps) → IsNew s.name (names_of_steps steps) → AreApart (names_of_steps (steps ++ s ∷ []))
apart_grows steps s apart new = subst AreApart (sym (map-append (λ x. x.name) steps (s ∷ []))) (apart_pushed (names_of_steps steps) s.name apart new)

-- LOOK-UPS, step by step
abbrev pub shifted : ℕ × Bool → ℕ × Bool
shifted e = (suc e.0, e.1)

abbrev pub entry : ℕ → Bool → ℕ × Bool
entry n b = (n, b)

abbrev pub look : List PlainStep → List ℕ → Option (ℕ × Bool)
look [] name = None
look (s ∷ steps) name = cond (bytes_eq name s.name) (Some (0, is_invariance s.goal)) (option_map shifted (look steps name))

pub one_more : (m : ℕ) → 1 + m ≡ suc m
one_more m = omega arith

some_below : (l : ℕ) → nat_lt 0 (suc l) ≡ true
some_below l = grind (arith, nat_tests)

below_next : (m l : ℕ) → nat_lt m l ≡ true → nat_lt (suc m) (suc l) ≡ true
below_next m l h = grind (arith, nat_tests)

not_below_next : (m l : ℕ) → nat_lt m l ≡ false → nat_lt (suc m) (suc l) ≡ false
not_below_next m l h = grind (arith, nat_tests)

position_first : (p : List ℕ → Bool) (x : List ℕ) (xs : List (List ℕ)) → position p (x ∷ xs) ≡ cond (p x) (Some 0) (option_map suc (position p xs))
position_first p x xs = at_test (p x)
  where
    at_length : (m l : ℕ) → cond (nat_lt (suc m) (suc l)) (Some (suc m)) None ≡ option_map suc (cond (nat_lt m l) (Some m) None)
    at_length m l = at_order (nat_lt m l) refl
      where
        at_order : (b : Bool) → nat_lt m l ≡ b → cond (nat_lt (suc m) (suc l)) (Some (suc m)) None ≡ option_map suc (cond b (Some m) None)
        at_order true e = let f = below_next m l e in rw f refl
        at_order false e = let f = not_below_next m l e in rw f refl

    at_test : (b : Bool) → cond (nat_lt (cond (not b) (1 + position_or_len p xs) 0) (suc (length xs))) (Some (cond (not b) (1 + position_or_len p xs) 0)) None ≡ cond b (Some 0) (option_map suc (position p xs))
    at_test true = let f = some_below (length xs) in rw f refl
    at_test false = ap (λ k. cond (nat_lt k (suc (length xs))) (Some k) None) (one_more (position_or_len p xs)) ∙ at_length (position_or_len p xs) (length xs)

one_later : (e : List ℕ × Bool) (es : Earlier) (o : Option ℕ) → variable_at (e ∷ es) (option_map suc o) ≡ option_map shifted (variable_at es o)
one_later e es None = refl
one_later e es (Some k) = at_entry (slice_get es k)
  where
    at_entry : (o : Option (List ℕ × Bool)) → option_map {U = ℕ × Bool} (λ v. (suc k, v.1)) o ≡ option_map shifted (option_map {U = ℕ × Bool} (λ v. (k, v.1)) o)
    at_entry None = refl
    at_entry (Some v) = refl

look_is : (steps : List PlainStep) (name : List ℕ) → variable_named (earlier_of steps) name ≡ look steps name
look_is [] name = refl
look_is (s ∷ steps) name =
    ap (variable_at (earlier_of (s ∷ steps))) (position_first (λ k. bytes_eq name k) s.name (names_in (earlier_of steps)))
    ∙ at_test (bytes_eq name s.name)
    ∙ ap (λ o. cond (bytes_eq name s.name) (Some (0, is_invariance s.goal)) (option_map shifted o)) (look_is steps name)
  where
    at_test : (b : Bool) → variable_at (earlier_of (s ∷ steps)) (cond b (Some 0) (option_map suc (position (λ k. bytes_eq name k) (names_in (earlier_of steps))))) ≡ cond b (Some (0, is_invariance s.goal)) (option_map shifted (variable_named (earlier_of steps) name))
    at_test true = refl
    at_test false = one_later (s.name, is_invariance s.goal) (earlier_of steps) (position (λ k. bytes_eq name k) (names_in (earlier_of steps)))

-- WHAT IS FOUND
invariance_so : (goal : PlainGoal) → is_invariance goal ≡ true → (p : Formula) × (goal ≡ invariant p)
invariance_so (invariant p) h = (p, refl)
invariance_so (waiting p qs) h = absurd cc
invariance_so (response p q e) h = absurd cc

here_is : (steps : List PlainStep) (s : PlainStep) (name : List ℕ) (n : ℕ) → bytes_eq name s.name ≡ true → Some (entry 0 (is_invariance s.goal)) ≡ Some (n, true) → IsEarlierInvariance (s ∷ steps) name n
here_is steps s name n same h =
    let e : entry 0 (is_invariance s.goal) ≡ (n, true) = cc in
    let p = invariance_so s.goal (ap (λ (q : ℕ × Bool). q.1) e) in
    subst (λ k. IsEarlierInvariance (s ∷ steps) name k) (ap (λ (q : ℕ × Bool). q.0) e) (record { step = s; formula = p.0; there = refl; called = sym ((bytes_eq-Decides name s.name).0 same); claims = p.1 })

later_is : (steps : List PlainStep) (s : PlainStep) (name : List ℕ) (n : ℕ) (o : Option (ℕ × Bool)) → ((m : ℕ) → o ≡ Some (m, true) → IsEarlierInvariance steps name m) → option_map shifted o ≡ Some (n, true) → IsEarlierInvariance (s ∷ steps) name n
later_is steps s name n None again h = absurd cc
later_is steps s name n (Some e) again h =
    let f : (suc e.0, e.1) ≡ (n, true) = cc in
    let l = again e.0 (ap (λ b. Some (e.0, b)) (ap (λ (q : ℕ × Bool). q.1) f)) in
    subst (λ k. IsEarlierInvariance (s ∷ steps) name k) (ap (λ (q : ℕ × Bool). q.0) f) (record { step = l.step; formula = l.formula; there = l.there; called = l.called; claims = l.claims })

lemma_found : (steps : List PlainStep) (name : List ℕ) (n : ℕ) → look steps name ≡ Some (n, true) → IsEarlierInvariance steps name n
lemma_found [] name n h = absurd cc
lemma_found (s ∷ steps) name n h = at_test (λ m e. lemma_found steps name m e) (bytes_eq name s.name) refl h
  where
    at_test : ((m : ℕ) → look steps name ≡ Some (m, true) → IsEarlierInvariance steps name m) → (b : Bool) → b ≡ bytes_eq name s.name → cond b (Some (0, is_invariance s.goal)) (option_map shifted (look steps name)) ≡ Some (n, true) → IsEarlierInvariance (s ∷ steps) name n
    at_test again true e h = here_is steps s name n (sym e) h
    at_test again false e h = later_is steps s name n (look steps name) again h

not_there : (x : List ℕ) (steps : List PlainStep) (k : ℕ) (step : PlainStep) → IsNew x (names_of_steps steps) → slice_get steps k ≡ Some step → bytes_eq step.name x ≡ false
not_there x [] k step new h = absurd cc
not_there x (s ∷ steps) zero step new h = let e : s ≡ step = cc in subst (λ (z : PlainStep). bytes_eq z.name x ≡ false) e new.0
not_there x (s ∷ steps) (suc k) step new h = not_there x steps k step new.1 h

found_lemma : (steps : List PlainStep) (name : List ℕ) (n : ℕ) → AreApart (names_of_steps steps) → IsEarlierInvariance steps name n → look steps name ≡ Some (n, true)
found_lemma [] name n apart l = let h = l.there in absurd cc
found_lemma (s ∷ steps) name zero apart l =
    let e : s ≡ l.step = same s l.step l.there in
    let named_so : bytes_eq name s.name ≡ true = (bytes_eq-Decides name s.name).1 (sym (ap (λ (z : PlainStep). z.name) e ∙ l.called)) in
    let goal_so : is_invariance s.goal ≡ true = ap (λ (z : PlainStep). is_invariance z.goal) e ∙ ap is_invariance l.claims in
    rw (named_so, goal_so) refl
  where
    same : (a b : PlainStep) → Some a ≡ Some b → a ≡ b
    same a b h = cc
found_lemma (s ∷ steps) name (suc k) apart l =
    let other_name : bytes_eq name s.name ≡ false = ap (λ m. bytes_eq m s.name) (sym l.called) ∙ not_there s.name steps k l.step apart.0 l.there in
    let again = found_lemma steps name k apart.1 (record { step = l.step; formula = l.formula; there = l.there; called = l.called; claims = l.claims }) in
    rw (other_name, again) refl

-- BY THE NAMES OF A TEXT
pub text_found : (steps : List PlainStep) (name : List ℕ) (n : ℕ) → step_named (earlier_of steps) name ≡ Some (n, true) → (is_text name ≡ true) × IsEarlierInvariance steps name n
text_found steps name n h = at_text (is_text name) refl h
  where
    at_text : (b : Bool) → b ≡ is_text name → (if b then variable_named (earlier_of steps) name else None) ≡ Some (n, true) → (is_text name ≡ true) × IsEarlierInvariance steps name n
    at_text true e h = (sym e, lemma_found steps name n (sym (look_is steps name) ∙ h))
    at_text false e h = absurd cc

pub found_text : (steps : List PlainStep) (name : List ℕ) (n : ℕ) → AreApart (names_of_steps steps) → is_text name ≡ true → IsEarlierInvariance steps name n → step_named (earlier_of steps) name ≡ Some (n, true)
found_text steps name n apart e l = ap (λ b. if b then variable_named (earlier_of steps) name else None) e ∙ look_is steps name ∙ found_lemma steps name n apart l
