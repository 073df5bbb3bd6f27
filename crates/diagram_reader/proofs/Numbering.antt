-- A transition that is found by its name is the only one with that name, so its number is that of the name.
use Rattle.std.proofs.Common.{◌≡◌, ◌≢◌, ℕ, zero, suc, Bool, true, false, ◌==◌, ◌&&◌, if◌then◌else◌, All, IfSome, List, [], ◌∷◌, slice_get, Option, Some, None, refl, sym, ap, ◌∙◌, arith}
use Rattle.std.specs.Option.{option_map}
use Rattle.std.proofs.lemmas.Bool.Decides.{nat_tests}
use Rattle.std.proofs.lemmas.List.Elements.{All-tail, All-head}
use Rattle.st_form.specs.declared.conditions.Part.{Part}
use Rattle.st_form.specs.declared.conditions.Part.TheVariants.{Whole, Entry, Exit}
use Rattle.st_form.specs.declared.conditions.TransName.{TransName}
use Rattle.st_form.specs.declared.conditions.TransName.TheVariants.{Idle, Step}
use Rattle.transition_system.specs.Systems.{PlainTransition, System}
use Rattle.transition_system.specs.Bounds.{AreDistinct, IsSystem}
use Rattle.transition_system.specs.Meaning.{IsNamed, HasNoName}
use Rattle.diagram_reader.specs.Transitions.{same_part, is_step, number_of}
use Rattle.basic_laws.proofs.Truths.{both_true}

same_part_is : (q r : Part) → same_part q r ≡ true → q ≡ r
same_part_is Whole Whole e = refl
same_part_is Whole Entry e = cc
same_part_is Whole Exit e = cc
same_part_is Entry Whole e = cc
same_part_is Entry Entry e = refl
same_part_is Entry Exit e = cc
same_part_is Exit Whole e = cc
same_part_is Exit Entry e = cc
same_part_is Exit Exit e = refl

part_same : (q : Part) → same_part q q ≡ true
part_same Whole = refl
part_same Entry = refl
part_same Exit = refl

step_is : (occ : ℕ) (part : Part) (n : TransName) → is_step occ part n ≡ true → n ≡ Step occ part
step_is occ part Idle e = cc
step_is occ part (Step o q) e =
    let parts = both_true (o == occ) (same_part q part) e in
    let numbers : o ≡ occ = let f = parts.0 in grind (arith, nat_tests) in
    ap (λ z. Step z q) numbers ∙ ap (λ z. Step occ z) (same_part_is q part parts.1)

is_itself : (occ : ℕ) (part : Part) → is_step occ part (Step occ part) ≡ true
is_itself occ part = let e : (occ == occ) ≡ true = grind (arith, nat_tests) in ap (λ b. b && same_part part part) e ∙ part_same part

behind_first : (t : PlainTransition) (ts : List PlainTransition) → AreDistinct (t ∷ ts) → AreDistinct ts
behind_first t ts h = λ i j x y f g e. let s : suc i ≡ suc j = h (suc i) (suc j) x y f g e in omega (arith, s)

named_at : (o : Option PlainTransition) (n : TransName) → option_map (λ t. t.name) o ≡ Some n → (t : PlainTransition) × (o ≡ Some t) × (t.name ≡ n)
named_at None n h = absurd cc
named_at (Some t) n h = (t, refl, cc)

module _ (occ : ℕ) (part : Part) where
  -- of distinct names the one that is found is the first
  pub found_number : (ts : List PlainTransition) (n : ℕ) → AreDistinct ts → option_map (λ t. t.name) (slice_get ts n) ≡ Some (Step occ part) → number_of occ part ts ≡ Some n
  found_number [] n distinct h = absurd cc
  found_number (t ∷ ts) zero distinct h =
      let e : t.name ≡ Step occ part = cc in
      let test : is_step occ part t.name ≡ true = ap (is_step occ part) e ∙ is_itself occ part in
      rw test refl
  found_number (t ∷ ts) (suc n) distinct h = at_test (found_number ts n (behind_first t ts distinct) h) (is_step occ part t.name) refl
    where
      at_test : number_of occ part ts ≡ Some n → (b : Bool) → b ≡ is_step occ part t.name → (if b then Some 0 else option_map suc (number_of occ part ts)) ≡ Some (suc n)
      at_test later true e =
          let u = named_at (slice_get ts n) (Step occ part) h in
          let bad : 0 ≡ suc n = distinct 0 (suc n) t u.0 refl u.1 (step_is occ part t.name (sym e) ∙ sym u.2) in
          absurd (omega (arith, bad))
      at_test later false e = ap (option_map suc) later

  pub absent_number : (ts : List PlainTransition) → All (λ t. t.name ≢ Step occ part) ts → number_of occ part ts ≡ None
  absent_number [] h = refl
  absent_number (t ∷ ts) h = at_test (absent_number ts (All-tail (λ x. x.name ≢ Step occ part) t ts h)) (is_step occ part t.name) refl
    where
      at_test : number_of occ part ts ≡ None → (b : Bool) → b ≡ is_step occ part t.name → (if b then Some 0 else option_map suc (number_of occ part ts)) ≡ None
      at_test later true e = absurd (All-head (λ x. x.name ≢ Step occ part) t ts h (step_is occ part t.name (sym e)))
      at_test later false e = ap (option_map suc) later

-- what is found by a name is the number of that name
pub number_is : (system : System) (occ : ℕ) (part : Part) (o : Option ℕ) → IsSystem system → IfSome o (λ n. IsNamed system n (Step occ part)) → (o ≡ None → HasNoName system (Step occ part)) → o ≡ number_of occ part system.transitions
number_is system occ part None within found absent = sym (absent_number occ part system.transitions (absent refl))
number_is system occ part (Some n) within found absent = sym (found_number occ part system.transitions n within.distinct found)
