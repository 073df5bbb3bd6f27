-- A change that moves a component leads from a control state to one, and what is listed behind it is that one.
use Rattle.std.proofs.Common.{◌≡◌, ◌≢◌, ℕ, ◌<◌, ◌≤◌, Bool, true, false, List, [], ◌∷◌, length, Option, Some, None, refl, sym, ap, ◌∙◌, subst, ◌⊎◌, inl, inr}
use Rattle.std.specs.Prelude.{not, ◌&&◌, ◌||◌, ◌==◌, if◌then◌else◌, ◌↔◌, slice_get, option_and_then, unwrap_or, nat_lt}
use Rattle.basic_laws.proofs.Numbers.{test_same, same_test, less, not_less}
use Rattle.basic_laws.proofs.Truths.{or_parts}
use Rattle.basic_laws.proofs.Types.{either, some_same}
use Rattle.st_form.specs.Exchange.{Exchange, is_listed}
use Rattle.st_form.specs.declared.conditions.TransName.{TransName}
use Rattle.control_states.specs.declared.alternative.Alternative.{Alternative}
use Rattle.control_states.specs.declared.alternative.Alternative.TheVariants.{Location, Inside}
use Rattle.control_states.specs.Control.{ControlFacts, component_at, Active, process, child, InControl}
use Rattle.shown_states.specs.Places.{place_of, is_owner, entered, inside_by, stayed, place_by, place_behind}
use Rattle.shown_states.specs.Moving.{CanBe, HasOwnLocations, IsChild, StandsAt, Leads, along, into, out_of, MovesControl, stays, moves, Lists, ShowsControl, CanLeave}
use Rattle.shown_states.specs.declared.pictures.Picture.{Picture}
use Rattle.shown_states.specs.Pictures.{seen}
use Rattle.shown_states.proofs.Storing.{FrontsBehind}
use Rattle.shown_states.proofs.Passing.{active_below, held, Kid, Held, Passes, none_some, goes_on, came, still, begun, control}

-- lists of locations
listed_one : (l n : ℕ) (ls : List ℕ) → ls ≡ n ∷ [] → is_listed l ls ≡ true → l ≡ n
listed_one l n ls e h = either (or_parts (n == l) false (sym (ap (is_listed l) e) ∙ h)) (λ t. sym (test_same n l t)) (λ t. absurd (cc))

one_listed : (l : ℕ) (ls : List ℕ) → ls ≡ l ∷ [] → is_listed l ls ≡ true
one_listed l ls e = ap (is_listed l) e ∙ ap (λ b. b || false) (same_test l)

-- the location that a component enters is one of those, and its own
entered_listed : (owners : List ℕ) (c l : ℕ) (ls : List ℕ) → entered owners c ls ≡ Some l → (is_listed l ls ≡ true) × (slice_get owners l ≡ Some c)
entered_listed owners c l [] h = absurd (cc)
entered_listed owners c l (n ∷ ls) h = by_owner (slice_get owners n) refl h (λ h. entered_listed owners c l ls h)
  where
    or_there : (a b : Bool) → b ≡ true → (a || b) ≡ true
    or_there true b h = refl
    or_there false b h = h

    by_test : (d : ℕ) (t : Bool) → slice_get owners n ≡ Some d → (d == c) ≡ t → (if t then Some n else entered owners c ls) ≡ Some l
        → (entered owners c ls ≡ Some l → (is_listed l ls ≡ true) × (slice_get owners l ≡ Some c)) → (is_listed l (n ∷ ls) ≡ true) × (slice_get owners l ≡ Some c)
    by_test d true own t h rest =
        let e : n ≡ l = some_same _ _ h in
        (ap (λ b. b || is_listed l ls) (ap (λ z. z == l) e ∙ same_test l), ap (slice_get owners) (sym e) ∙ own ∙ ap Some (test_same d c t))
    by_test d false own t h rest = let r = rest h in (or_there (n == l) (is_listed l ls) r.0, r.1)

    by_owner : (o : Option ℕ) → slice_get owners n ≡ o → (if is_owner c o then Some n else entered owners c ls) ≡ Some l
        → (entered owners c ls ≡ Some l → (is_listed l ls ≡ true) × (slice_get owners l ≡ Some c)) → (is_listed l (n ∷ ls) ≡ true) × (slice_get owners l ≡ Some c)
    by_owner None own h rest = let r = rest h in (or_there (n == l) (is_listed l ls) r.0, r.1)
    by_owner (Some d) own h rest = by_test d (d == c) own refl h rest

-- who owns one of those enters one
some_entered : (owners : List ℕ) (c l : ℕ) (ls : List ℕ) → is_listed l ls ≡ true → slice_get owners l ≡ Some c → (n : ℕ) × (entered owners c ls ≡ Some n)
some_entered owners c l [] h own = absurd (cc)
some_entered owners c l (n ∷ ls) h own = by_test (is_owner c (slice_get owners n)) refl (or_parts (n == l) (is_listed l ls) h) (λ r. some_entered owners c l ls r own)
  where
    by_test : (t : Bool) → is_owner c (slice_get owners n) ≡ t → ((n == l) ≡ true) ⊎ (is_listed l ls ≡ true) → (is_listed l ls ≡ true → (n : ℕ) × (entered owners c ls ≡ Some n)) → (r : ℕ) × ((if t then Some n else entered owners c ls) ≡ Some r)
    by_test true t w more = (n, refl)
    by_test false t (inl e) more =
        let q : is_owner c (Some c) ≡ false = sym (ap (is_owner c) (ap (slice_get owners) (test_same n l e) ∙ own)) ∙ t in
        let s = same_test c in
        absurd (cc)
    by_test false t (inr r) more = more r

-- what a name says of the places that it leads from and to
into_inside : (name : TransName) (from to : Alternative) (o : ℕ) → Leads name from to → to ≡ Inside o → (inside_by name ≡ Some (Inside o)) × ((l : ℕ) × (from ≡ Location l))
into_inside name from to o (along q l n) e = absurd (cc)
into_inside name from to o (into q l) e = (ap Some e, (l, refl))
into_inside name from to o (out_of q n) e = absurd (cc)

from_inside : (name : TransName) (from to : Alternative) (o : ℕ) → Leads name from to → from ≡ Inside o → inside_by name ≡ None
from_inside name from to o (along q l n) e = absurd (cc)
from_inside name from to o (into q l) e = absurd (cc)
from_inside name from to o (out_of q n) e = refl

not_both : (a : Alternative) (l o : ℕ) → a ≡ Location l → a ≡ Inside o → ⊥
not_both a l o e f = let q : Location l ≡ Inside o = sym e ∙ f in cc

same_location : (a : Alternative) (l n : ℕ) → a ≡ Location l → a ≡ Location n → l ≡ n
same_location a l n e f = let q : Location l ≡ Location n = sym e ∙ f in cc

same_inside : (a : Alternative) (o p : ℕ) → a ≡ Inside o → a ≡ Inside p → o ≡ p
same_inside a o p e f = let q : Inside o ≡ Inside p = sym e ∙ f in cc

-- what is known of the state before
pub record Known (k : ControlFacts) (m : ℕ → Alternative) (at : ℕ → Bool) (listed : List (ℕ × Alternative)) (name : TransName) (x : Exchange) : Type 0 where
  pub own : HasOwnLocations k
  pub in_control : InControl k m at
  pub lists : Lists k m listed
  pub can_leave : (l : ℕ) → is_listed l x.leaves ≡ true → at l ≡ true

module _ (k : ControlFacts) (m : ℕ → Alternative) (at : ℕ → Bool) (listed : List (ℕ × Alternative)) (name : TransName) (x : Exchange) (w : Known k m at listed name x) where
  abbrev place : ℕ → Option Alternative
  place c = place_behind k.owners listed x name c

  abbrev pub next : ℕ → Alternative
  next c = unwrap_or (place c) (Location 0)

  next_is : (c : ℕ) (a : Alternative) → place c ≡ Some a → next c ≡ a
  next_is c a h = ap (λ o. unwrap_or o (Location 0)) h

  -- control is at its own location where a component is
  at_own : (d l : ℕ) → CanBe k d (Location l) → at l ≡ true → Active k.components m d × (m d ≡ Location l)
  at_own d l can h =
      let v = (w.in_control.located l).0 h in
      let same : v.0 ≡ d = some_same _ _ (sym v.1 ∙ w.own d l can) in
      (subst (λ (z : ℕ). Active k.components m z) same v.2, ap m (sym same) ∙ v.3)

  module _ (c : ℕ) (from to : Alternative) (leads : Leads name from to) (can_from : CanBe k c from) (can_to : CanBe k c to) (leaves : StandsAt k c from x.leaves) (enters : StandsAt k c to x.enters) where
    stood_at : (a : Alternative) → a ≡ from → StandsAt k c a x.leaves → Active k.components m c × (m c ≡ a)
    stood_at (Location l) e s = at_own c l (subst (CanBe k c) (sym e) can_from) (w.can_leave l (one_listed l x.leaves s))
    stood_at (Inside o) e s =
        let d = s.first.0 in
        let v = s.each d s.first.1 in
        held k.components m d c o s.first.1.1 (at_own d v.0 v.2 (w.can_leave v.0 v.1)).0

    stood : Active k.components m c × (m c ≡ from)
    stood = stood_at from refl leaves

    kid_at : (a : Alternative) → a ≡ from → StandsAt k c a x.leaves → (d : ℕ) → Kid k m c d → (l : ℕ) × (is_listed l x.leaves ≡ true) × (slice_get k.owners l ≡ Some d) × (m d ≡ Location l)
    kid_at (Location l) e s d kid = absurd (not_both (m c) l kid.0 (stood.1 ∙ sym e) kid.3)
    kid_at (Inside o) e s d kid =
        let same : kid.0 ≡ o = same_inside (m c) kid.0 o kid.3 (stood.1 ∙ sym e) in
        let v = s.each d (kid.1, subst (λ (z : ℕ). (component_at k.components d).around ≡ Some (c, z)) same kid.2) in
        (v.0, v.1, w.own d v.0 v.2, (at_own d v.0 v.2 (w.can_leave v.0 v.1)).1)

    kid_left : (d : ℕ) → Kid k m c d → (l : ℕ) × (is_listed l x.leaves ≡ true) × (slice_get k.owners l ≡ Some d) × (m d ≡ Location l)
    kid_left d kid = kid_at from refl leaves d kid

    left_to : (a : Alternative) → a ≡ from → StandsAt k c a x.leaves → (l : ℕ) → is_listed l x.leaves ≡ true → Held k m c l
    left_to (Location n) e s l h =
        let same : l ≡ n = listed_one l n x.leaves s h in
        (c, w.own c l (subst (CanBe k c) (sym e ∙ ap Location (sym same)) can_from), stood.1 ∙ sym e ∙ ap Location (sym same), inl refl)
    left_to (Inside o) e s l h =
        let v = s.theirs l h in
        (v.0, w.own v.0 l v.2, (at_own v.0 l v.2 (w.can_leave l h)).1, inr (o, v.1.0, v.1.1, stood.1 ∙ sym e))

    left_mover : (a : Alternative) → a ≡ from → StandsAt k c a x.leaves → (l : ℕ) → m c ≡ Location l → is_listed l x.leaves ≡ true
    left_mover (Location n) e s l h =
        let same : n ≡ l = same_location (m c) n l (stood.1 ∙ sym e) h in
        one_listed l x.leaves (s ∙ ap (λ z. z ∷ []) same)
    left_mover (Inside o) e s l h = absurd (not_both (m c) l o h (stood.1 ∙ sym e))

    left_back : (l : ℕ) → Held k m c l → is_listed l x.leaves ≡ true
    left_back l v = either v.3 (λ e. left_mover from refl leaves l (ap m (sym e) ∙ v.2)) by_kid
      where
        by_kid : Kid k m c v.0 → is_listed l x.leaves ≡ true
        by_kid kid =
            let u = kid_left v.0 kid in
            ap (λ z. is_listed z x.leaves) (sym (same_location (m v.0) u.0 l u.3 v.2)) ∙ u.1

    leaving : (l : ℕ) → (is_listed l x.leaves ≡ true) ↔ Held k m c l
    leaving l = (left_to from refl leaves l, left_back l)

    -- a component around which the mover is was not active, where the mover goes in
    no_child : (o d : ℕ) → to ≡ Inside o → (component_at k.components d).around ≡ Some (c, o) → Active k.components m d → ⊥
    no_child o d e way act =
        let v = into_inside name from to o leads e in
        not_both (m c) v.1.0 o (stood.1 ∙ v.1.1) (held k.components m d c o way act).1

    enterer : (a : Alternative) → a ≡ to → StandsAt k c a x.enters → (d l : ℕ) → entered k.owners d x.enters ≡ Some l → ((d ≡ c) × (a ≡ Location l)) ⊎ ((o : ℕ) × (a ≡ Inside o) × IsChild k c o d × CanBe k d (Location l))
    enterer (Location n) e s d l h =
        let v = entered_listed k.owners d l x.enters h in
        let same : l ≡ n = listed_one l n x.enters s v.0 in
        inl (some_same _ _ (sym v.1 ∙ w.own c l (subst (CanBe k c) (sym e ∙ ap Location (sym same)) can_to)), ap Location (sym same))
    enterer (Inside o) e s d l h =
        let v = entered_listed k.owners d l x.enters h in
        let u = s.theirs l v.0 in
        let same : u.0 ≡ d = some_same _ _ (sym (w.own u.0 l u.2) ∙ v.1) in
        inr (o, refl, subst (λ (z : ℕ). IsChild k c o z) same u.1, subst (λ (z : ℕ). CanBe k z (Location l)) same u.2)

    enters_by : (d l : ℕ) → entered k.owners d x.enters ≡ Some l → ((d ≡ c) × (to ≡ Location l)) ⊎ ((o : ℕ) × (to ≡ Inside o) × IsChild k c o d × CanBe k d (Location l))
    enters_by d l h = enterer to refl enters d l h

    place_entered : (d l : ℕ) → entered k.owners d x.enters ≡ Some l → place d ≡ Some (Location l)
    place_entered d l h = ap (λ o. place_by o (option_and_then (stayed x.leaves name) (place_of d listed))) h

    place_kept : (d : ℕ) (b : Alternative) → entered k.owners d x.enters ≡ None → place_of d listed ≡ Some b → place d ≡ stayed x.leaves name b
    place_kept d b h g =
        ap (λ o. place_by o (option_and_then (stayed x.leaves name) (place_of d listed))) h ∙ ap (option_and_then (stayed x.leaves name)) g

    stayed_left : (l : ℕ) → is_listed l x.leaves ≡ true → stayed x.leaves name (Location l) ≡ inside_by name
    stayed_left l h = ap (λ b. if b then inside_by name else Some (Location l)) h

    -- the mover is where it goes
    arrived_at : (a : Alternative) → a ≡ to → StandsAt k c a x.enters → (o : Option ℕ) → entered k.owners c x.enters ≡ o → place c ≡ Some a
    arrived_at (Location n) e s o h =
        let v = some_entered k.owners c n x.enters (one_listed n x.enters s) (w.own c n (subst (CanBe k c) (sym e) can_to)) in
        let u = entered_listed k.owners c v.0 x.enters v.1 in
        place_entered c v.0 v.1 ∙ ap (λ z. Some (Location z)) (listed_one v.0 n x.enters s u.0)
    arrived_at (Inside o) e s (Some l) h =
        either (enters_by c l h)
        (λ v. absurd (not_both to l o v.1 (sym e)))
        (λ v. absurd (no_child v.0 c v.1 v.2.1 stood.0))
    arrived_at (Inside o) e s None h =
        let v = into_inside name from to o leads (sym e) in
        let is = stood.1 ∙ v.1.1 in
        place_kept c (Location v.1.0) h ((w.lists c (Location v.1.0)).1 (stood.0, is)) ∙ stayed_left v.1.0 ((leaving v.1.0).1 (c, w.own c v.1.0 (subst (CanBe k c) v.1.1 can_from), is, inl refl)) ∙ v.0

    arrived : place c ≡ Some to
    arrived = arrived_at to refl enters (entered k.owners c x.enters) refl

    is_to : next c ≡ to
    is_to = next_is c to arrived

    kid_begins_at : (a : Alternative) → a ≡ to → StandsAt k c a x.enters → (d : ℕ) → Kid k next c d → (l : ℕ) × (is_listed l x.enters ≡ true) × (slice_get k.owners l ≡ Some d) × (place d ≡ Some (Location l)) × CanBe k d (Location l)
    kid_begins_at (Location l) e s d kid = absurd (not_both (next c) l kid.0 (is_to ∙ sym e) kid.3)
    kid_begins_at (Inside o) e s d kid =
        let same : kid.0 ≡ o = same_inside (next c) kid.0 o kid.3 (is_to ∙ sym e) in
        let v = s.each d (kid.1, subst (λ (z : ℕ). (component_at k.components d).around ≡ Some (c, z)) same kid.2) in
        let n = some_entered k.owners d v.0 x.enters v.1 (w.own d v.0 v.2) in
        let u = entered_listed k.owners d n.0 x.enters n.1 in
        let t = s.theirs n.0 u.0 in
        let his : t.0 ≡ d = some_same _ _ (sym (w.own t.0 n.0 t.2) ∙ u.1) in
        (n.0, u.0, u.1, place_entered d n.0 n.1, subst (λ (z : ℕ). CanBe k z (Location n.0)) his t.2)

    kid_begins : (d : ℕ) → Kid k next c d → (l : ℕ) × (is_listed l x.enters ≡ true) × (slice_get k.owners l ≡ Some d) × (place d ≡ Some (Location l)) × CanBe k d (Location l)
    kid_begins d kid = kid_begins_at to refl enters d kid

    -- others stay
    kept : (d : ℕ) → Active k.components m d → d ≢ c → (Kid k m c d → ⊥) → place d ≡ Some (m d)
    kept d act other none = by_entered (entered k.owners d x.enters) refl
      where
        by_leaves : (l : ℕ) → m d ≡ Location l → (b : Bool) → is_listed l x.leaves ≡ b → (if b then inside_by name else Some (Location l)) ≡ Some (Location l)
        by_leaves l is false h = refl
        by_leaves l is true h =
            let v = (leaving l).0 h in
            let can = subst (CanBe k d) is (w.in_control.state d act) in
            let same : v.0 ≡ d = some_same _ _ (sym v.1 ∙ w.own d l can) in
            absurd (either v.3 (λ e. other (sym same ∙ e)) (λ kid. none (subst (λ (z : ℕ). Kid k m c z) same kid)))

        by_place : (a : Alternative) → m d ≡ a → stayed x.leaves name a ≡ Some a
        by_place (Inside o) is = refl
        by_place (Location l) is = by_leaves l is (is_listed l x.leaves) refl

        by_entered : (o : Option ℕ) → entered k.owners d x.enters ≡ o → place d ≡ Some (m d)
        by_entered (Some l) h = absurd (either (enters_by d l h) (λ v. other v.0) (λ v. no_child v.0 d v.1 v.2.1 act))
        by_entered None h = place_kept d (m d) h ((w.lists d (m d)).1 (act, refl)) ∙ by_place (m d) refl

    entered_to : (a : Alternative) → a ≡ to → StandsAt k c a x.enters → (l : ℕ) → is_listed l x.enters ≡ true → Held k next c l
    entered_to (Location n) e s l h =
        let same : l ≡ n = listed_one l n x.enters s h in
        (c, w.own c l (subst (CanBe k c) (sym e ∙ ap Location (sym same)) can_to), is_to ∙ sym e ∙ ap Location (sym same), inl refl)
    entered_to (Inside o) e s l h =
        let v = s.theirs l h in
        let kid : Kid k next c v.0 = (o, v.1.0, v.1.1, is_to ∙ sym e) in
        let u = kid_begins v.0 kid in
        (v.0, w.own v.0 l v.2, next_is v.0 (Location u.0) u.3 ∙ ap Location (s.once v.0 u.0 l u.1 h u.4 v.2), inr kid)

    entered_mover : (a : Alternative) → a ≡ to → StandsAt k c a x.enters → (l : ℕ) → next c ≡ Location l → is_listed l x.enters ≡ true
    entered_mover (Location n) e s l h =
        let same : n ≡ l = same_location (next c) n l (is_to ∙ sym e) h in
        one_listed l x.enters (s ∙ ap (λ z. z ∷ []) same)
    entered_mover (Inside o) e s l h = absurd (not_both (next c) l o h (is_to ∙ sym e))

    entered_back : (l : ℕ) → Held k next c l → is_listed l x.enters ≡ true
    entered_back l v = either v.3 (λ e. entered_mover to refl enters l (ap next (sym e) ∙ v.2)) by_kid
      where
        by_kid : Kid k next c v.0 → is_listed l x.enters ≡ true
        by_kid kid =
            let u = kid_begins v.0 kid in
            ap (λ z. is_listed z x.enters) (sym (same_location (next v.0) u.0 l (next_is v.0 (Location u.0) u.3) v.2)) ∙ u.1

    passes : Passes k m next c x.leaves x.enters
    passes = record {
      active = stood.0;
      can = subst (CanBe k c) (sym is_to) can_to;
      ends = λ d kid. let v = kid_left d kid in (v.0, v.3);
      begins = λ d kid. let v = kid_begins d kid in (v.0, next_is d (Location v.0) v.3, v.4);
      others = λ d act other none. next_is d (m d) (kept d act other none);
      left = leaving;
      entered = λ l. (entered_to to refl enters l, entered_back l);
    }

    pub moved_control : InControl k next (λ l. is_listed l x.enters || (not (is_listed l x.leaves) && at l))
    moved_control = control k m next c x.leaves x.enters passes at w.in_control

    -- what is placed is active, and what is active is placed
    pub placed : (d : ℕ) → Active k.components next d → place d ≡ Some (next d)
    placed d act =
        either (came k m next c x.leaves x.enters passes d act)
        (λ kid. let v = kid_begins d kid in v.3 ∙ ap Some (sym (next_is d (Location v.0) v.3)))
        (λ old. by_test old.0 old.1 (d == c) refl)
      where
        known : (a : Alternative) → place d ≡ Some a → place d ≡ Some (next d)
        known a h = h ∙ ap Some (sym (next_is d a h))

        by_test : Active k.components m d → (Kid k m c d → ⊥) → (t : Bool) → (d == c) ≡ t → place d ≡ Some (next d)
        by_test act none true t = known to (ap place (test_same d c t) ∙ arrived)
        by_test act none false t = known (m d) (kept d act (λ e. let s = same_test c in let q : (c == c) ≡ false = ap (λ z. z == c) (sym e) ∙ t in cc) none)

    pub active_placed : (d : ℕ) (a : Alternative) → place d ≡ Some a → Active k.components next d
    active_placed d a h = by_entered (entered k.owners d x.enters) refl
      where
        arrives : Active k.components next c
        arrives = still k m next c x.leaves x.enters passes

        ended : (b : Alternative) → m d ≡ b → stayed x.leaves name b ≡ Some a → Kid k m c d → ⊥
        ended b is h kid =
            let u = kid_left d kid in
            let out = from_inside name from to kid.0 leads (sym stood.1 ∙ kid.3) in
            none_some (stayed x.leaves name b) a (ap (stayed x.leaves name) (sym is ∙ u.3) ∙ stayed_left u.0 u.1 ∙ out) h

        by_listed : (b : Option Alternative) → place_of d listed ≡ b → option_and_then (stayed x.leaves name) b ≡ Some a → Active k.components next d
        by_listed None g h = absurd (cc)
        by_listed (Some b) g h =
            let v = (w.lists d b).0 g in
            either (goes_on k m next c x.leaves x.enters passes d v.0) (λ kid. absurd (ended b v.1 h kid)) (λ new. new)

        by_entered : (o : Option ℕ) → entered k.owners d x.enters ≡ o → Active k.components next d
        by_entered (Some l) g =
            either (enters_by d l g)
            (λ v. subst (λ (z : ℕ). Active k.components next z) (sym v.0) arrives)
            (λ v. begun k m next c x.leaves x.enters passes d (v.0, v.2.0, v.2.1, is_to ∙ v.1))
        by_entered None g = by_listed (place_of d listed) refl (sym (ap (λ o. place_by o (option_and_then (stayed x.leaves name) (place_of d listed))) g) ∙ h)

  -- where control stays, all stays
  module _ (leaves : x.leaves ≡ []) (enters : x.enters ≡ []) where
    stays_put : (c : ℕ) → place c ≡ place_of c listed
    stays_put c = ap (λ ls. place_by (entered k.owners c ls) (option_and_then (stayed x.leaves name) (place_of c listed))) enters ∙ ap (λ ls. option_and_then (stayed ls name) (place_of c listed)) leaves ∙ whole (place_of c listed)
      where
        whole : (o : Option Alternative) → option_and_then (stayed [] name) o ≡ o
        whole None = refl
        whole (Some (Location l)) = refl
        whole (Some (Inside o)) = refl

    active_still : (c : ℕ) → Active k.components m c → Active k.components next c
    active_still c (process _ lt none) = process c lt none
    active_still c (child _ a o lt way act is) = child c a o lt way (active_still a act) (next_is a (m a) (stays_put a ∙ (w.lists a (m a)).1 (act, refl)) ∙ is)

    active_was : (c : ℕ) → Active k.components next c → Active k.components m c
    active_was c (process _ lt none) = process c lt none
    active_was c (child _ a o lt way act is) =
        let old = active_was a act in
        child c a o lt way old (sym (next_is a (m a) (stays_put a ∙ (w.lists a (m a)).1 (old, refl))) ∙ is)

    same_place : (c : ℕ) → Active k.components m c → next c ≡ m c
    same_place c act = next_is c (m c) (stays_put c ∙ (w.lists c (m c)).1 (act, refl))

    pub stayed_control : InControl k next (λ l. is_listed l x.enters || (not (is_listed l x.leaves) && at l))
    stayed_control = record {
      state = λ c act. let old = active_was c act in subst (CanBe k c) (sym (same_place c old)) (w.in_control.state c old);
      located = λ l. (λ h. let v = (w.in_control.located l).0 (sym (same l) ∙ h) in (v.0, v.1, active_still v.0 v.2, same_place v.0 v.2 ∙ v.3), λ v. let old = active_was v.0 v.2 in same l ∙ (w.in_control.located l).1 (v.0, v.1, old, sym (same_place v.0 old) ∙ v.3));
    }
      where
        same : (l : ℕ) → (is_listed l x.enters || (not (is_listed l x.leaves) && at l)) ≡ at l
        same l = ap (λ ls. is_listed l ls || (not (is_listed l x.leaves) && at l)) enters ∙ ap (λ ls. not (is_listed l ls) && at l) leaves

    pub stayed_placed : (d : ℕ) → Active k.components next d → place d ≡ Some (next d)
    stayed_placed d act =
        let old = active_was d act in
        stays_put d ∙ (w.lists d (m d)).1 (old, refl) ∙ ap Some (sym (same_place d old))

    pub stayed_active : (d : ℕ) (a : Alternative) → place d ≡ Some a → Active k.components next d
    stayed_active d a h = active_still d ((w.lists d a).0 (sym (stays_put d) ∙ h)).0

  -- the control state behind, and what is listed of it
  pub control_behind : MovesControl k name x → InControl k next (λ l. is_listed l x.enters || (not (is_listed l x.leaves) && at l))
  control_behind (stays l e) = stayed_control l e
  control_behind (moves v) = moved_control v.mover v.from v.to v.leads v.can_from v.can_to v.leaves v.enters

  listed_behind : MovesControl k name x → (d : ℕ) (a : Alternative) → ((Active k.components next d) → place d ≡ Some (next d)) × (place d ≡ Some a → Active k.components next d)
  listed_behind (stays l e) d a = (stayed_placed l e d, stayed_active l e d a)
  listed_behind (moves v) d a = (placed v.mover v.from v.to v.leads v.can_from v.can_to v.leaves v.enters d, active_placed v.mover v.from v.to v.leads v.can_from v.can_to v.leaves v.enters d a)

  pub lists_behind : MovesControl k name x → (after : List (ℕ × Alternative)) → ((c : ℕ) → c < length k.components → place_of c after ≡ place c) → ((c : ℕ) → length k.components ≤ c → place_of c after ≡ None) → Lists k next after
  lists_behind v after is none d a = (λ h. by_test (nat_lt d (length k.components)) refl h, λ h. is d (active_below k.components next d h.0) ∙ (listed_behind v d a).0 h.0 ∙ ap Some h.1)
    where
      by_test : (t : Bool) → nat_lt d (length k.components) ≡ t → place_of d after ≡ Some a → Active k.components next d × (next d ≡ a)
      by_test true t h =
          let q = sym (is d (less d (length k.components) t)) ∙ h in
          ((listed_behind v d a).1 q, next_is d a q)
      by_test false t h =
          let q : None ≡ Some a = sym (none d (not_less d (length k.components) t)) ∙ h in
          absurd (cc)

-- what is listed of components behind a change
abbrev pub PlacesBehind : ControlFacts → Exchange → TransName → List (ℕ × Alternative) → List (ℕ × Alternative) → Type 0
PlacesBehind k x name listed after = (c : ℕ) → c < length k.components → place_of c after ≡ place_behind k.owners listed x name c

pub shows_behind : (k : ControlFacts) (name : TransName) (x : Exchange) (p after : Picture) → HasOwnLocations k → MovesControl k name x → CanLeave x (seen p) → ShowsControl k p
    → PlacesBehind k x name p.control.items after.control.items
    → ((c : ℕ) → length k.components ≤ c → place_of c after.control.items ≡ None)
    → FrontsBehind x p.fronts.items after.fronts.items
    → ShowsControl k after
shows_behind k name x p after own v can shows is none fronts =
    let w : Known k shows.place (seen p).located p.control.items name x = record { own = own; in_control = shows.in_control; lists = shows.lists; can_leave = can } in
    let c = control_behind k shows.place (seen p).located p.control.items name x w v in
    record {
      place = next k shows.place (seen p).located p.control.items name x w;
      in_control = record { state = c.state; located = λ l. (λ h. (c.located l).0 (sym (fronts l) ∙ h), λ u. fronts l ∙ (c.located l).1 u) };
      lists = lists_behind k shows.place (seen p).located p.control.items name x w v after.control.items is none;
    }
