-- One component goes from one place to another, and with it the children that run inside it: which components are active then.
use Rattle.std.proofs.Common.{◌≡◌, ◌≢◌, ℕ, ◌<◌, Bool, true, false, List, length, Option, Some, None, refl, sym, ap, ◌∙◌, subst, ◌⊎◌, inl, inr}
use Rattle.std.specs.Prelude.{not, ◌&&◌, ◌||◌, ◌==◌, ◌↔◌, slice_get}
use Rattle.basic_laws.proofs.Numbers.{test_same, same-test}
use Rattle.basic_laws.proofs.Types.{either, some_same}
use Rattle.st_form.specs.Exchange.{is_listed}
use Rattle.control_states.specs.declared.alternative.Alternative.{Alternative}
use Rattle.control_states.specs.declared.alternative.Alternative.TheVariants.{Location, Inside}
use Rattle.control_states.specs.Control.{ComponentFacts, ControlFacts, component_at, Active, process, child, IsControlState, IsAt, InControl}
use Rattle.shown_states.specs.Moving.{CanBe}

pub none_some : {A : Type 0} (o : Option A) (y : A) → o ≡ None → o ≡ Some y → ⊥
none_some o y e f = let q : None ≡ Some y = sym e ∙ f in cc

same_pair : (a b c d : ℕ) (o : Option (ℕ × ℕ)) → o ≡ Some (a, b) → o ≡ Some (c, d) → (a ≡ c) × (b ≡ d)
same_pair a b c d o e f =
    let q = some_same {A = ℕ × ℕ} (a, b) (c, d) (sym e ∙ f) in
    (ap (λ (z : ℕ × ℕ). z.0) q, ap (λ (z : ℕ × ℕ). z.1) q)

pub active_below : (ks : List ComponentFacts) (m : ℕ → Alternative) (c : ℕ) → Active ks m c → c < length ks
active_below ks m c (process _ lt none) = lt
active_below ks m c (child _ a o lt way act is) = lt

-- the component around an active child is active, and inside the child's cooperation
pub held : (ks : List ComponentFacts) (m : ℕ → Alternative) (c a o : ℕ) → (component_at ks c).around ≡ Some (a, o) → Active ks m c → Active ks m a × (m a ≡ Inside o)
held ks m c a o way (process _ lt none) = absurd (none_some _ _ none way)
held ks m c a o way (child _ b p lt there act is) =
    let same = same_pair b p a o (component_at ks c).around there way in
    (subst (λ (x : ℕ). Active ks m x) same.0 act, ap m (sym same.0) ∙ is ∙ ap Inside same.1)

-- a child that runs inside the component c
abbrev pub Kid : ControlFacts → (ℕ → Alternative) → ℕ → ℕ → Type 0
Kid k m c d = (o : ℕ) × (d < length k.components) × ((component_at k.components d).around ≡ Some (c, o)) × (m c ≡ Inside o)

-- c, or a child that runs inside it, is at the location
abbrev pub Held : ControlFacts → (ℕ → Alternative) → ℕ → ℕ → Type 0
Held k m c l = (d : ℕ) × (slice_get k.owners l ≡ Some d) × (m d ≡ Location l) × ((d ≡ c) ⊎ Kid k m c d)

pub record Passes (k : ControlFacts) (m n : ℕ → Alternative) (c : ℕ) (leaves enters : List ℕ) : Type 0 where
  pub active : Active k.components m c
  pub can : CanBe k c (n c)
  pub ends : (d : ℕ) → Kid k m c d → (l : ℕ) × (m d ≡ Location l)
  pub begins : (d : ℕ) → Kid k n c d → (l : ℕ) × (n d ≡ Location l) × CanBe k d (Location l)
  pub others : (d : ℕ) → Active k.components m d → d ≢ c → (Kid k m c d → ⊥) → n d ≡ m d
  pub left : (l : ℕ) → (is_listed l leaves ≡ true) ↔ Held k m c l
  pub entered : (l : ℕ) → (is_listed l enters ≡ true) ↔ Held k n c l

module _ (k : ControlFacts) (m n : ℕ → Alternative) (c : ℕ) (leaves enters : List ℕ) (p : Passes k m n c leaves enters) where
  abbrev ks : List ComponentFacts
  ks = k.components

  differs : (a b : ℕ) → (a == b) ≡ false → a ≢ b
  differs a b t e = let s = same-test a b e in cc

  no_kid : (a o : ℕ) → m a ≡ Inside o → Kid k m c a → ⊥
  no_kid a o is kid = let e = p.ends a kid in let q : Location e.0 ≡ Inside o = sym e.1 ∙ is in cc

  no_beginner : (a o : ℕ) → n a ≡ Inside o → Kid k n c a → ⊥
  no_beginner a o is kid = let e = p.begins a kid in let q : Location e.0 ≡ Inside o = sym e.1 ∙ is in cc

  -- who was active is a child that ends, or active still
  pub goes_on : (d : ℕ) → Active k.components m d → Kid k m c d ⊎ Active k.components n d
  goes_on d (process _ lt none) = inr (process d lt none)
  goes_on d (child _ a o lt way act is) = by_test (a == c) refl (goes_on a act)
    where
      by_test : (t : Bool) → (a == c) ≡ t → Kid k m c a ⊎ Active k.components n a → Kid k m c d ⊎ Active k.components n d
      by_test true t h =
          let e = test_same a c t in
          inl (o, lt, subst (λ (z : ℕ). (component_at ks d).around ≡ Some (z, o)) e way, ap m (sym e) ∙ is)
      by_test false t h = either h (λ kid. absurd (no_kid a o is kid)) (λ new. inr (child d a o lt way new (p.others a act (differs a c t) (no_kid a o is) ∙ is)))

  -- who is active is a child that begins, or was active before, and isn't a child that ends
  pub came : (d : ℕ) → Active k.components n d → Kid k n c d ⊎ (Active k.components m d × (Kid k m c d → ⊥))
  came d (process _ lt none) = inr (process d lt none, λ kid. none_some _ _ none kid.2)
  came d (child _ a o lt way act is) = by_test (a == c) refl (came a act)
    where
      by_old : a ≢ c → Active k.components m a → (Kid k m c a → ⊥) → Active k.components m d × (Kid k m c d → ⊥)
      by_old other old none = (
        child d a o lt way old (sym (p.others a old other none) ∙ is),
        λ kid. other (same_pair a o c kid.0 (component_at ks d).around way kid.2).0,
      )

      by_test : (t : Bool) → (a == c) ≡ t → Kid k n c a ⊎ (Active k.components m a × (Kid k m c a → ⊥)) → Kid k n c d ⊎ (Active k.components m d × (Kid k m c d → ⊥))
      by_test true t h =
          let e = test_same a c t in
          inl (o, lt, subst (λ (z : ℕ). (component_at ks d).around ≡ Some (z, o)) e way, ap n (sym e) ∙ is)
      by_test false t h = either h (λ kid. absurd (no_beginner a o is kid)) (λ old. inr (by_old (differs a c t) old.0 old.1))

  -- the component itself stays active
  pub still : Active k.components n c
  still = either (goes_on c p.active) (λ kid. absurd (no_kid c kid.0 kid.3 kid)) (λ new. new)

  -- a child that begins is active
  pub begun : (d : ℕ) → Kid k n c d → Active k.components n d
  begun d kid = child d c kid.0 kid.1 kid.2 still kid.3

  alternatives : IsControlState k m → IsControlState k n
  alternatives is d act = either (came d act) (λ kid. let b = p.begins d kid in subst (CanBe k d) (sym b.1) b.2) (λ old. by_test old.0 old.1 (d == c) refl)
    where
      by_test : Active k.components m d → (Kid k m c d → ⊥) → (t : Bool) → (d == c) ≡ t → CanBe k d (n d)
      by_test act none true t = subst (λ (x : ℕ). CanBe k x (n x)) (sym (test_same d c t)) p.can
      by_test act none false t = subst (CanBe k d) (sym (p.others d act (differs d c t) none)) (is d act)

  located_there : (l d : ℕ) → slice_get k.owners l ≡ Some d → Active k.components m d → m d ≡ Location l → is_listed l leaves ≡ false → IsAt k n l
  located_there l d own act is free = by_kid (goes_on d act)
    where
      unheld : (d ≡ c) ⊎ Kid k m c d → ⊥
      unheld w = let q = (p.left l).1 (d, own, is, w) in cc

      by_kid : Kid k m c d ⊎ Active k.components n d → IsAt k n l
      by_kid (inl kid) = absurd (unheld (inr kid))
      by_kid (inr new) = (d, own, new, p.others d act (λ e. unheld (inl e)) (λ kid. unheld (inr kid)) ∙ is)

  located_to : (l : ℕ) → is_listed l enters ≡ true → IsAt k n l
  located_to l h =
      let w = (p.entered l).0 h in
      either w.3
      (λ e. (w.0, w.1, subst (λ (x : ℕ). Active k.components n x) (sym e) still, w.2))
      (λ kid. (w.0, w.1, begun w.0 kid, w.2))

  located_from : (at : ℕ → Bool) → InControl k m at → (l : ℕ) → IsAt k n l → (is_listed l enters || (not (is_listed l leaves) && at l)) ≡ true
  located_from at i l w = either (came w.0 w.2) (λ kid. here ((p.entered l).1 (w.0, w.1, w.3, inr kid))) (λ old. by_test old.0 old.1 (w.0 == c) refl)
    where
      here : is_listed l enters ≡ true → (is_listed l enters || (not (is_listed l leaves) && at l)) ≡ true
      here h = ap (λ b. b || (not (is_listed l leaves) && at l)) h

      there : (e b : Bool) → b ≡ false → at l ≡ true → (e || (not b && at l)) ≡ true
      there true b f g = refl
      there false true f g = absurd (cc)
      there false false f g = g

      free : (b : Bool) → (b ≡ true → ⊥) → b ≡ false
      free true h = absurd (h refl)
      free false h = refl

      unheld : w.0 ≢ c → (Kid k m c w.0 → ⊥) → is_listed l leaves ≡ true → ⊥
      unheld other none h =
          let v = (p.left l).0 h in
          let same : v.0 ≡ w.0 = some_same _ _ (sym v.1 ∙ w.1) in
          either v.3 (λ e. other (sym same ∙ e)) (λ kid. none (subst (λ (x : ℕ). Kid k m c x) same kid))

      by_test : Active k.components m w.0 → (Kid k m c w.0 → ⊥) → (t : Bool) → (w.0 == c) ≡ t → (is_listed l enters || (not (is_listed l leaves) && at l)) ≡ true
      by_test act none true t = here ((p.entered l).1 (w.0, w.1, w.3, inl (test_same w.0 c t)))
      by_test act none false t =
          let other = differs w.0 c t in
          let is : m w.0 ≡ Location l = sym (p.others w.0 act other none) ∙ w.3 in
          let stays = free (is_listed l leaves) (unheld other none) in
          there (is_listed l enters) (is_listed l leaves) stays ((i.located l).1 (w.0, w.1, act, is))

  -- control behind
  pub control : (at : ℕ → Bool) → InControl k m at → InControl k n (λ l. is_listed l enters || (not (is_listed l leaves) && at l))
  control at i = record { state = alternatives i.state; located = λ l. (λ h. to l (is_listed l enters) refl (is_listed l leaves) refl h, λ w. located_from at i l w) }
    where
      to : (l : ℕ) (e : Bool) → is_listed l enters ≡ e → (b : Bool) → is_listed l leaves ≡ b → (e || (not b && at l)) ≡ true → IsAt k n l
      to l true q b r h = located_to l q
      to l false q true r h = absurd (cc)
      to l false q false r h = let w = (i.located l).0 h in located_there l w.0 w.1 w.2 w.3 r
