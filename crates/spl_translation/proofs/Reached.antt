-- The locations that a statement speaks of are locations of the program.
use Rattle.std.proofs.Common.{◌≡◌, ℕ, suc, ◌+◌, ◌<◌, ◌≤◌, length, sym, subst, inl, inr, ◌⊎◌, arith}
use Rattle.st_program.specs.Tree.{Statement, stated, Action, skip, if_then, if_else, while_do, block, select, cooperate, Statements, no_statement, statement, process, Processes, no_process, beside, location, action}
use Rattle.st_program.specs.Member.{Member, here, there}
use Rattle.st_program.specs.Spots.{entry, bodies, bodies_in, Spot, spots, spots_within, spots_along, spots_among, spots_inside, all_spots}
use Rattle.st_program.specs.Locations.{location_end, within_end, head_end, along_end, among_end, inside_end, IsPlaced, WithinPlaced, HeadPlaced, AlongPlaced, AmongPlaced, InsidePlaced}
use Rattle.control_facts.proofs.Onces.{nowhere, in_either}
use Rattle.control_facts.proofs.Own.{grow, grow_along, grow_among, grow_inside}
use Rattle.spl_semantics.specs.Control.{starts, ends}
use Rattle.list_laws.specs.Each.{Each}
use Rattle.basic_laws.proofs.Types.{either}

-- the locations of what begins in a statement, and of the ends in it
abbrev pub InnerBelow : ℕ → Action → Type 0
InnerBelow b (if_then t y) = location y < b
InnerBelow b (if_else t y n) = (location y < b) × (location n < b)
InnerBelow b (while_do t s) = location s < b
InnerBelow b (cooperate ps) = Each (λ l. l < b) (starts ps) × Each (λ l. l < b) (ends ps)
InnerBelow b skip = Unit {0}
InnerBelow b _ = Unit {0}

pub record Below (b : ℕ) (x : Spot) : Type 0 where
  pub own : location x.stmt < b
  pub next : x.next < b
  pub inner : InnerBelow b (action x.stmt)

placed_at : (s : Statement) (w f : ℕ) → IsPlaced s w f → location s ≡ w
placed_at (stated o l a) w f h = h.0

-- a statement with a location of its own
own_below : (b : ℕ) (s : Statement) (f : ℕ) → IsPlaced s f (suc f) → location_end s (suc f) ≤ b → location s < b
own_below b s f h le = let e = placed_at s f (suc f) h in let g = grow s (suc f) in omega arith

entry_below : (b : ℕ) (ss : Statements) (f next : ℕ) → AlongPlaced ss f → along_end ss f ≤ b → next < b → entry ss next < b
entry_below b no_statement f next h le n = n
entry_below b (statement s ss) f next h le n =
    let g = grow_along ss (location_end s (suc f)) in own_below b s f h.0 (omega arith)

starts_below : (b : ℕ) (ps : Processes) (f : ℕ) → InsidePlaced ps f → inside_end ps f ≤ b → Each (λ l. l < b) (starts ps)
starts_below b no_process f h le = tt
starts_below b (beside (process ss end) ps) f h le =
    let e : end ≡ along_end ss f = h.1 in
    let g = grow_inside ps (suc (along_end ss f)) in
    (entry_below b ss f end h.0 (omega arith) (omega arith), starts_below b ps (suc end) h.2 (subst (λ z. inside_end ps (suc z) ≤ b) (sym e) le))

ends_below : (b : ℕ) (ps : Processes) (f : ℕ) → InsidePlaced ps f → inside_end ps f ≤ b → Each (λ l. l < b) (ends ps)
ends_below b no_process f h le = tt
ends_below b (beside (process ss end) ps) f h le =
    let e : end ≡ along_end ss f = h.1 in
    let g = grow_inside ps (suc (along_end ss f)) in
    (omega arith, ends_below b ps (suc end) h.2 (subst (λ z. inside_end ps (suc z) ≤ b) (sym e) le))

inner_below : (b : ℕ) (a : Action) (w f : ℕ) → WithinPlaced a w f → within_end a f ≤ b → InnerBelow b a
inner_below b (if_then t y) w f h le = own_below b y f h le
inner_below b (if_else t y n) w f h le =
    let g = location_end y (suc f) in
    let k = grow n (suc g) in
    (own_below b y f h.0 (omega arith), own_below b n g h.1 le)
inner_below b (while_do t s) w f h le = own_below b s f h le
inner_below b (cooperate ps) w f h le = (starts_below b ps f h.1 le, ends_below b ps f h.1 le)
inner_below b (block ss) w f h le = tt
inner_below b (select ss) w f h le = tt
inner_below b skip w f h le = tt
inner_below b _ w f h le = tt

mutual
  below : (b : ℕ) (s : Statement) (w f next c : ℕ) → IsPlaced s w f → w < b → location_end s f ≤ b → next < b → (x : Spot) → Member x (spots s next c) → Below b x
  below b (stated o l a) w f next c h lt le n x (here q) =
      subst (Below b) (sym q) record { own = (let e : l ≡ w = h.0 in omega arith); next = n; inner = inner_below b a w f h.1 le }
  below b (stated o l a) w f next c h lt le n x (there m) = below_within b a l w f next c h.0 h.1 lt le n x m

  below_within : (b : ℕ) (a : Action) (l w f next c : ℕ) → l ≡ w → WithinPlaced a w f → w < b → within_end a f ≤ b → next < b → (x : Spot) → Member x (spots_within a l next c) → Below b x
  below_within b (if_then t y) l w f next c e h lt le n x m = let g = grow y (suc f) in below b y f (suc f) next c h (omega arith) le n x m
  below_within b (if_else t y z) l w f next c e h lt le n x m =
      let k = location_end y (suc f) in
      let g = grow y (suc f) in let i = grow z (suc k) in
      either (in_either (spots y next c) m)
      (λ m. below b y f (suc f) next c h.0 (omega arith) (omega arith) n x m)
      (λ m. below b z k (suc k) next (c + length (bodies y)) h.1 (omega arith) le n x m)
  below_within b (while_do t s) l w f next c e h lt le n x m = let g = grow s (suc f) in below b s f (suc f) l c h (omega arith) le (omega arith) x m
  below_within b (block ss) l w f next c e h lt le n x m = below_head b ss w f next c h lt le n x m
  below_within b (select ss) l w f next c e h lt le n x m = below_among b ss w f next c h lt le n x m
  below_within b (cooperate ps) l w f next c e h lt le n x m = below_inside b ps f c h.1 le x m
  below_within b skip l w f next c e h lt le n x m = nowhere m
  below_within b _ l w f next c e h lt le n x m = nowhere m

  below_head : (b : ℕ) (ss : Statements) (w f next c : ℕ) → HeadPlaced ss w f → w < b → head_end ss f ≤ b → next < b → (x : Spot) → Member x (spots_along ss next c) → Below b x
  below_head b no_statement w f next c h lt le n x m = nowhere m
  below_head b (statement s ss) w f next c h lt le n x m =
      let k = location_end s f in
      let g = grow_along ss k in
      either (in_either (spots s (entry ss next) c) m)
      (λ m. below b s w f (entry ss next) c h.0 lt (omega arith) (entry_below b ss k next h.1 le n) x m)
      (λ m. below_along b ss k next (c + length (bodies s)) h.1 le n x m)

  below_along : (b : ℕ) (ss : Statements) (f next c : ℕ) → AlongPlaced ss f → along_end ss f ≤ b → next < b → (x : Spot) → Member x (spots_along ss next c) → Below b x
  below_along b no_statement f next c h le n x m = nowhere m
  below_along b (statement s ss) f next c h le n x m =
      let k = location_end s (suc f) in
      let g = grow_along ss k in let i = grow s (suc f) in
      either (in_either (spots s (entry ss next) c) m)
      (λ m. below b s f (suc f) (entry ss next) c h.0 (omega arith) (omega arith) (entry_below b ss k next h.1 le n) x m)
      (λ m. below_along b ss k next (c + length (bodies s)) h.1 le n x m)

  below_among : (b : ℕ) (ss : Statements) (w f next c : ℕ) → AmongPlaced ss w f → w < b → among_end ss f ≤ b → next < b → (x : Spot) → Member x (spots_among ss next c) → Below b x
  below_among b no_statement w f next c h lt le n x m = nowhere m
  below_among b (statement s ss) w f next c h lt le n x m =
      let k = location_end s f in
      let g = grow_among ss k in
      either (in_either (spots s next c) m)
      (λ m. below b s w f next c h.0 lt (omega arith) n x m)
      (λ m. below_among b ss w k next (c + length (bodies s)) h.1 lt le n x m)

  below_inside : (b : ℕ) (ps : Processes) (f c : ℕ) → InsidePlaced ps f → inside_end ps f ≤ b → (x : Spot) → Member x (spots_inside ps c) → Below b x
  below_inside b no_process f c h le x m = nowhere m
  below_inside b (beside (process ss end) ps) f c h le x m =
      let e : end ≡ along_end ss f = h.1 in
      let g = grow_inside ps (suc (along_end ss f)) in
      either (in_either (spots_along ss end (suc c)) m)
      (λ m. below_along b ss f end (suc c) h.0 (omega arith) (omega arith) x m)
      (λ m. below_inside b ps (suc end) (suc c + length (bodies_in ss)) h.2 (subst (λ z. inside_end ps (suc z) ≤ b) (sym e) le) x m)

-- each spot of a program, and the beginnings of its processes
pub all_below : (p : Processes) → InsidePlaced p 0 → (x : Spot) → Member x (all_spots p) → Below (inside_end p 0) x
all_below p h x m = below_inside (inside_end p 0) p 0 0 h (omega arith) x m

pub begins_below : (p : Processes) → InsidePlaced p 0 → Each (λ l. l < inside_end p 0) (starts p)
begins_below p h = starts_below (inside_end p 0) p 0 h (omega arith)
