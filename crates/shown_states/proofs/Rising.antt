-- Lists by rising number, and what is listed in them.
use Rattle.std.proofs.Common.{◌≡◌, ◌≢◌, ℕ, suc, ◌+◌, ◌<◌, ◌≤◌, Bool, true, false, List, [], ◌∷◌, ◌++◌, Option, Some, None, refl, sym, ap, ◌∙◌, subst, arith}
use Rattle.std.specs.Prelude.{◌==◌, if◌then◌else◌, nat_lt}
use Rattle.basic_laws.proofs.Numbers.{same_test, other-test, less, not_less}
use Rattle.control_states.specs.declared.alternative.Alternative.{Alternative}
use Rattle.transition_system.specs.Bounds.{RisesFrom}
use Rattle.shown_states.specs.Places.{place_of}

-- numbers rise from low on, and stay below high
abbrev pub RisesTo : {X : Type 0} → ℕ → ℕ → List (ℕ × X) → Type 0
RisesTo low high [] = low ≤ high
RisesTo low high (p ∷ ps) = (low ≤ p.0) × RisesTo (suc p.0) high ps

pub rises_from : {X : Type 0} (low high : ℕ) (ps : List (ℕ × X)) → RisesTo low high ps → RisesFrom low ps
rises_from low high [] h = tt
rises_from low high (p ∷ ps) h = (h.0, rises_from (suc p.0) high ps h.1)

pub rises_more : {X : Type 0} (low high : ℕ) (ps : List (ℕ × X)) → RisesTo low high ps → RisesTo low (high + 1) ps
rises_more low high [] h = omega arith
rises_more low high (p ∷ ps) h = (h.0, rises_more (suc p.0) high ps h.1)

pub rises_push : {X : Type 0} (low high : ℕ) (ps : List (ℕ × X)) (y : X) → RisesTo low high ps → RisesTo low (high + 1) (ps ++ (high, y) ∷ [])
rises_push low high [] y h = (h, omega arith)
rises_push low high (p ∷ ps) y h = (h.0, rises_push (suc p.0) high ps y h.1)

pub listed_push : (c high : ℕ) (ps : List (ℕ × Alternative)) (a : Alternative) → c ≢ high → place_of c (ps ++ (high, a) ∷ []) ≡ place_of c ps
listed_push c high [] a h = ap (λ b. if b then Some a else None) (other-test high c (λ e. h (sym e)))
listed_push c high (p ∷ ps) a h = ap (λ o. if p.0 == c then Some p.1 else o) (listed_push c high ps a h)

pub listed_last : (c high : ℕ) (ps : List (ℕ × Alternative)) (a : Alternative) → c ≡ high → place_of c ps ≡ None → place_of c (ps ++ (high, a) ∷ []) ≡ Some a
listed_last c high [] a e h = ap (λ b. if b then Some a else None) (ap (λ z. z == c) (sym e) ∙ same_test c)
listed_last c high (p ∷ ps) a e h = by_test (p.0 == c) h (listed_last c high ps a e)
  where
    by_test : (t : Bool) → (if t then Some p.1 else place_of c ps) ≡ None → (place_of c ps ≡ None → place_of c (ps ++ (high, a) ∷ []) ≡ Some a) → (if t then Some p.1 else place_of c (ps ++ (high, a) ∷ [])) ≡ Some a
    by_test true h rest = absurd (cc)
    by_test false h rest = rest h

-- what is listed of each number below i, and of no other
pub record ListsTo (F : ℕ → Option Alternative) (i : ℕ) (ps : List (ℕ × Alternative)) : Type 0 where
  pub rises : RisesTo 0 i ps
  pub listed : (c : ℕ) → c < i → place_of c ps ≡ F c
  pub absent : (c : ℕ) → i ≤ c → place_of c ps ≡ None

pub lists_push : (F : ℕ → Option Alternative) (i : ℕ) (ps out : List (ℕ × Alternative)) (a : Alternative) → out ≡ ps ++ (i, a) ∷ [] → Some a ≡ F i → ListsTo F i ps → ListsTo F (i + 1) out
lists_push F i ps out a e f s = subst (ListsTo F (i + 1)) (sym e) pushed
  where
    listed_to : (c : ℕ) → (t : Bool) → nat_lt c i ≡ t → c < i + 1 → place_of c (ps ++ (i, a) ∷ []) ≡ F c
    listed_to c true t h = let lt = less c i t in listed_push c i ps a (λ q. let no : ⊥ = omega arith in no) ∙ s.listed c lt
    listed_to c false t h =
        let ge = not_less c i t in
        let same : c ≡ i = omega arith in
        listed_last c i ps a same (s.absent c ge) ∙ f ∙ ap F (sym same)

    pushed : ListsTo F (i + 1) (ps ++ (i, a) ∷ [])
    pushed = record {
      rises = rises_push 0 i ps a s.rises;
      listed = λ c h. listed_to c (nat_lt c i) refl h;
      absent = λ c h. listed_push c i ps a (λ q. let no : ⊥ = omega arith in no) ∙ s.absent c (omega arith);
    }

pub lists_pass : (F : ℕ → Option Alternative) (i : ℕ) (ps out : List (ℕ × Alternative)) → out ≡ ps → None ≡ F i → ListsTo F i ps → ListsTo F (i + 1) out
lists_pass F i ps out e f s = subst (ListsTo F (i + 1)) (sym e) passed
  where
    listed_to : (c : ℕ) → (t : Bool) → nat_lt c i ≡ t → c < i + 1 → place_of c ps ≡ F c
    listed_to c true t h = s.listed c (less c i t)
    listed_to c false t h =
        let ge = not_less c i t in
        let same : c ≡ i = omega arith in
        s.absent c ge ∙ f ∙ ap F (sym same)

    passed : ListsTo F (i + 1) ps
    passed = record { rises = rises_more 0 i ps s.rises; listed = λ c h. listed_to c (nat_lt c i) refl h; absent = λ c h. s.absent c (omega arith) }
