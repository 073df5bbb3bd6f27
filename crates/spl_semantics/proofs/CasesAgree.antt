-- The relation by cases and the list of steps say the same.
use Rattle.std.proofs.Common.{◌≡◌, ℕ, zero, suc, ◌+◌, Bool, true, false, List, [], ◌∷◌, map, length, Option, Some, None, refl, sym, ap, ◌∙◌, subst, arith}
use Rattle.std.specs.Prelude.{slice_get, if◌then◌else◌}
use Rattle.st_form.specs.Formula.{Formula, row}
use Rattle.st_form.specs.declared.conditions.Part.TheVariants.{Whole, Exit}
use Rattle.st_form.specs.declared.conditions.TransName.TheVariants as names
use Rattle.st_program.specs.Tree.{Statement, stated, Action, Statements, no_statement, statement, Processes, Pieces, occurrence, location, nth}
use Rattle.st_program.specs.Tree
use Rattle.st_program.specs.Member.{Member, here, there}
use Rattle.st_program.specs.Groups.{Link, paths_along}
use Rattle.st_program.specs.Spots.{entry, bodies, Spot, at_spot, spots, spots_among, all_spots, spot, Body, body, IsNumbered}
use Rattle.st_program.specs.Residuals.{Rest, Done, Run, Then, Again, Inside, Rests, no_rest, rests}
use Rattle.spl_semantics.specs.Stores.{Store, holds, walked, one_less}
use Rattle.spl_semantics.specs.Steps.{joined_acts, path_act, path_acts, own_acts, first_acts, acts_along, acts_among, acts_at, steps, steps_of}
use Rattle.spl_semantics.specs.Going.{Act, act, around, join, back, all_done}
use Rattle.spl_semantics.specs.Cases.{Acts, skips, is_critical, is_noncritical, assigns, awaits, requests, releases, if_holds, if_fails, either_holds, either_fails, while_holds, while_fails, walks, StandsBehind, Stands, Branch, this, later, Step, Steps, by_itself, in_block, in_branch, enters, in_child, leaves, in_front, in_loop, here_one, there_one}
use Rattle.spl_semantics.proofs.Members.{member_none, member_left, member_right, member_cases, member_map, map_member}
use Rattle.spl_semantics.proofs.Texts.{found, found_has, own_first, whole}
use Rattle.basic_laws.proofs.Types.{either}
use Rattle.spl_semantics.proofs.Bodies.{body_of_block}

pick_true : {A : Type 0} {x : A} (b : Bool) (xs ys : List A) → b ≡ true → Member x xs → Member x (if b then xs else ys)
pick_true true xs ys e m = m
pick_true false xs ys e m = cc

pick_false : {A : Type 0} {x : A} (b : Bool) (xs ys : List A) → b ≡ false → Member x ys → Member x (if b then xs else ys)
pick_false true xs ys e m = cc
pick_false false xs ys e m = m

-- a path's place gives its mode
path_row : (o j k : ℕ) (paths : List (List Link)) (path : List Link) (σ τ : Store) → slice_get paths k ≡ Some path → walked path σ ≡ Some τ → Member (act (names.Step o Whole) (j + k) Done τ) (path_acts o j paths σ)
path_row o j k [] path σ τ q w = cc
path_row o j zero (first ∷ paths) path σ τ q w =
    let same : first ≡ path = cc in
    let e : j ≡ j + 0 = omega arith in
    member_left _ (subst (λ z. Member (act (names.Step o Whole) z Done τ) (path_act o j (walked first σ))) e
    (subst (λ z. Member (act (names.Step o Whole) j Done τ) (path_act o j z)) (sym (ap (λ z. walked z σ) same ∙ w)) (here refl)))
path_row o j (suc k) (first ∷ paths) path σ τ q w =
    let e : suc j + k ≡ j + suc k = omega arith in
    member_right (path_act o j (walked first σ)) (subst (λ z. Member (act (names.Step o Whole) z Done τ) (path_acts o (suc j) paths σ)) e (path_row o (suc j) k paths path σ τ q w))

join_last : (s : Statement) (b : ℕ) (r : Rest) → join (statement s no_statement) r b 1 ≡ r
join_last s b Done = refl
join_last s b (Run n) = refl
join_last s b (Then r c j) = refl
join_last s b (Again r w) = refl
join_last s b (Inside c rs) = refl

module _ (p : Processes) (numbered : IsNumbered p) where
  -- the steps of a statement that stands in p
  at_run : (o c : ℕ) (a : Action) (σ : Store) (x : Act Rest) → (st : StandsBehind p o a c) → Member x (first_acts (stated o st.0 a) (length (all_spots p) + c) σ) → Member x (steps (Run o) p σ)
  at_run o c a σ x st m = subst (λ z. Member x (acts_at z (length (all_spots p)) σ)) (sym st.2) m

  from_run : (s : Statement) (next c : ℕ) (σ : Store) (a : Act Rest) → Member (at_spot s next c) (all_spots p) → Member a (steps (Run (occurrence s)) p σ) → Member a (first_acts s (length (all_spots p) + c) σ)
  from_run s next c σ a h m = subst (λ z. Member a (acts_at z (length (all_spots p)) σ)) (found p numbered (at_spot s next c) h) m

  -- around by a function that changes nothing
  map_same : (f : Rest → Rest) (a : Act Rest) (xs : List (Act Rest)) → ((r : Rest) → f r ≡ r) → Member a xs → Member a (map (around f) xs)
  map_same f a xs same m =
      let e : around f a ≡ a = ap (λ r. record { name = a.name; mode = a.mode; left = r; store = a.store }) (same a.left) in
      subst (λ z. Member z (map (around f) xs)) e (map_member (around f) m)

  block_row : (ss : Statements) (b l next c : ℕ) (σ : Store) (a : Act Rest) → Member (at_spot (stated b l (Tree.block ss)) next c) (all_spots p) → Member a (steps (join ss Done b 0) p σ) → Member a (acts_along ss b (length (all_spots p) + c) σ)
  block_row no_statement b l next c σ a h m = member_none m
  block_row (statement s no_statement) b l next c σ a h m =
      let first = (whole p).closed_in (at_spot (stated b l (Tree.block (statement s no_statement))) next c) (at_spot s next c) h (there (member_left _ (own_first s next c))) in
      map_same (λ r. join (statement s no_statement) r b 1) a _ (join_last s b) (from_run s next c σ a first m)
  block_row (statement s (statement r ss)) b l next c σ a h m =
      let all = statement s (statement r ss) in
      let first = (whole p).closed_in (at_spot (stated b l (Tree.block all)) next c) (at_spot s (entry (statement r ss) next) c) h (there (member_left _ (own_first s (entry (statement r ss) next) c))) in
      let named = body_of_block p numbered b l all next c h in
      let x = member_map (around (λ z. join all z b 1)) a (steps (Run (occurrence s)) p σ) (subst (λ z. Member a (joined_acts z b 1 (steps (Run (occurrence s)) p σ))) named m) in
      subst (λ z. Member z (acts_along all b (length (all_spots p) + c) σ)) (sym x.2) (map_member (around (λ z. join all z b 1)) (from_run s (entry (statement r ss) next) c σ x.0 first x.1))

  among_row : {s : Statement} {ss : Statements} (next c : ℕ) (σ : Store) (a : Act Rest) → ((y : Spot) → Member y (spots_among ss next c) → Member y (all_spots p)) → Branch s ss → Member a (steps (Run (occurrence s)) p σ) → Member a (acts_among ss (length (all_spots p) + c) σ)
  among_row {s} next c σ a sub this m = member_left _ (from_run s next c σ a (sub _ (member_left _ (own_first s next c))) m)
  among_row {s} next c σ a sub (later {r = r} {ss = ss} b) m =
      let k : length (all_spots p) + (c + length (bodies r)) ≡ length (all_spots p) + c + length (bodies r) = omega arith in
      member_right (first_acts r (length (all_spots p) + c) σ) (subst (λ z. Member a (acts_among ss z σ)) k (among_row next (c + length (bodies r)) σ a (λ y i. sub y (member_right (spots r next c) i)) b m))

  -- what a statement does by itself is among the first steps of its kind
  by_own : (o c : ℕ) {σ : Store} {a : Action} {m : ℕ} {r : Rest} {τ : Store} → Acts o σ a m r τ → Member (act (names.Step o Whole) m r τ) (own_acts a o c σ)
  by_own o c skips = here refl
  by_own o c is_critical = here refl
  by_own o c is_noncritical = here refl
  by_own o c assigns = here refl
  by_own o c (awaits h) = pick_true _ _ _ h (here refl)
  by_own o c (requests h) = pick_true _ _ _ h (here refl)
  by_own o c releases = here refl
  by_own o c (if_holds h) = pick_true _ _ _ h (here refl)
  by_own o c (if_fails h) = pick_false _ _ _ h (here refl)
  by_own o c (either_holds h) = pick_true _ _ _ h (here refl)
  by_own o c (either_fails h) = pick_false _ _ _ h (here refl)
  by_own o c (while_holds h) = pick_true _ _ _ h (here refl)
  by_own o c (while_fails h) = pick_false _ _ _ h (here refl)
  by_own o c {σ} (walks {xs = xs} {k = k} {path = path} {τ = τ} q w) =
      let e : 1 + k ≡ suc k = omega arith in
      subst (λ z. Member (act (names.Step o Whole) z Done τ) (path_acts o 1 (paths_along xs) σ)) e (path_row o 1 k (paths_along xs) path σ τ q w)

  mutual
    pub in_list : {r : Rest} {σ : Store} {x : Act Rest} → Step p σ r x → Member x (steps r p σ)
    in_list {σ = σ} (by_itself {o = o} {a = a} st acts) = at_run o st.0 a σ _ st.1 (by_own o (length (all_spots p) + st.0) acts)
    in_list {σ = σ} (in_block {b = b} {ss = ss} st d) =
        at_run b st.0 (Tree.block ss) σ _ st.1 (block_row ss b st.1.0 st.1.1 st.0 σ _ (found_has p numbered b _ st.1.2) (in_list d))
    in_list {σ = σ} (in_branch {o = o} {ss = ss} st i d) =
        at_run o st.0 (Tree.select ss) σ _ st.1 (among_row st.1.1 st.0 σ _ (λ y j. (whole p).closed_in (at_spot (stated o st.1.0 (Tree.select ss)) st.1.1 st.0) y (found_has p numbered o _ st.1.2) (there j)) i (in_list d))
    in_list (enters st) = at_run _ _ _ _ _ st (here refl)
    in_list (in_child {o = o} d) = member_left _ (map_member (around (Inside o)) (in_lists d))
    in_list {σ = σ} (leaves {o = o} {rs = rs} h) = member_right (map (around (Inside o)) (steps_of rs p σ)) (pick_true _ _ _ h (here refl))
    in_list {σ = σ} (in_front {b = b} {k = k} {y = y} {r = r} {x = x} h d) =
        subst (λ z. Member (around (λ z. join y.0 z b k) x) (joined_acts z b k (steps r p σ))) (sym h) (map_member (around (λ z. join y.0 z b k)) (in_list d))
    in_list (in_loop {w = w} d) = map_member (around (back w)) (in_list d)

    pub in_lists : {rs : Rests} {σ : Store} {x : Act Rests} → Steps p σ rs x → Member x (steps_of rs p σ)
    in_lists (here_one {rs = rs} d) = member_left _ (map_member (around (λ x. rests x rs)) (in_list d))
    in_lists {σ = σ} (there_one {r = r} {rs = rs} d) = member_right (map (around (λ x. rests x rs)) (steps r p σ)) (map_member (around (λ xs. rests r xs)) (in_lists d))

  -- the other way round
  stands : (o l : ℕ) (a : Action) (next c : ℕ) → Member (at_spot (stated o l a) next c) (all_spots p) → Stands p o a
  stands o l a next c h = (c, (l, next, found p numbered (at_spot (stated o l a) next c) h))

  abbrev Row : Rest → Store → Act Rest → Type 0
  Row r σ a = Step p σ r a

  of_one : {r : Rest} {σ : Store} (a b : Act Rest) → Member a (b ∷ []) → Row r σ b → Row r σ a
  of_one {r} {σ} a b (here q) d = subst (Row r σ) (sym q) d
  of_one a b (there m) d = member_none m

  by_if : {r : Rest} {σ : Store} (a x y : Act Rest) (t : Formula) (b : Bool) → holds t σ ≡ b → Member a (if b then x ∷ [] else y ∷ []) → (holds t σ ≡ true → Row r σ x) → (holds t σ ≡ false → Row r σ y) → Row r σ a
  by_if a x y t true q m f g = of_one a x m (f q)
  by_if a x y t false q m f g = of_one a y m (g q)

  if_only : {r : Rest} {σ : Store} (a x : Act Rest) (t : Formula) (b : Bool) → holds t σ ≡ b → Member a (if b then x ∷ [] else []) → (holds t σ ≡ true → Row r σ x) → Row r σ a
  if_only a x t true q m f = of_one a x m (f q)
  if_only a x t false q m f = member_none m

  -- the step of a path comes from its place
  of_path : (o l next c : ℕ) (xs : Pieces) (σ : Store) (a : Act Rest) → Member (at_spot (stated o l (Tree.group xs)) next c) (all_spots p) → (paths : List (List Link)) (j : ℕ) → ((k : ℕ) (path : List Link) → slice_get paths k ≡ Some path → (i : ℕ) × (slice_get (paths_along xs) i ≡ Some path) × (suc i ≡ j + k)) → Member a (path_acts o j paths σ) → Row (Run o) σ a
  of_path o l next c xs σ a h [] j places m = member_none m
  of_path o l next c xs σ a h (path ∷ paths) j places m =
      either (member_cases (path_act o j (walked path σ)) m) (at_path (walked path σ) refl)
      (λ m. of_path o l next c xs σ a h paths (suc j) (λ k further q. (let r = places (suc k) further q in (r.0, r.1, (let e : suc r.0 ≡ j + suc k = r.2 in omega arith)))) m)
    where
      at_path : (w : Option Store) → walked path σ ≡ w → Member a (path_act o j w) → Row (Run o) σ a
      at_path None q m = member_none m
      at_path (Some τ) q m =
          let r = places 0 path refl in
          let e : suc r.0 ≡ j = let f : suc r.0 ≡ j + 0 = r.2 in omega arith in
          of_one a _ m (subst (λ z. Row (Run o) σ (act (names.Step o Whole) z Done τ)) e (by_itself (stands o l (Tree.group xs) next c h) (walks r.1 q)))

  mutual
    pub in_rows : (s : Statement) (next c : ℕ) (σ : Store) (a : Act Rest) → Member (at_spot s next c) (all_spots p) → Member a (first_acts s (length (all_spots p) + c) σ) → Row (Run (occurrence s)) σ a
    in_rows (stated o l Tree.skip) next c σ a h m = of_one a _ m (by_itself (stands _ l _ next c h) skips)
    in_rows (stated o l Tree.critical) next c σ a h m = of_one a _ m (by_itself (stands _ l _ next c h) is_critical)
    in_rows (stated o l Tree.noncritical) next c σ a h m = of_one a _ m (by_itself (stands _ l _ next c h) is_noncritical)
    in_rows (stated o l (Tree.assign xs)) next c σ a h m = of_one a _ m (by_itself (stands _ l _ next c h) assigns)
    in_rows (stated o l (Tree.await t)) next c σ a h m = if_only a _ t (holds t σ) refl m (λ q. by_itself (stands _ l _ next c h) (awaits q))
    in_rows (stated o l (Tree.request v)) next c σ a h m = if_only a _ (row (one_less v)) (holds (row (one_less v)) σ) refl m (λ q. by_itself (stands _ l _ next c h) (requests q))
    in_rows (stated o l (Tree.release v)) next c σ a h m = of_one a _ m (by_itself (stands _ l _ next c h) releases)
    in_rows (stated o l (Tree.if_then t y)) next c σ a h m = by_if a _ _ t (holds t σ) refl m (λ q. by_itself (stands _ l _ next c h) (if_holds q)) (λ q. by_itself (stands _ l _ next c h) (if_fails q))
    in_rows (stated o l (Tree.if_else t y z)) next c σ a h m = by_if a _ _ t (holds t σ) refl m (λ q. by_itself (stands _ l _ next c h) (either_holds q)) (λ q. by_itself (stands _ l _ next c h) (either_fails q))
    in_rows (stated o l (Tree.while_do t b)) next c σ a h m = by_if a _ _ t (holds t σ) refl m (λ q. by_itself (stands _ l _ next c h) (while_holds q)) (λ q. by_itself (stands _ l _ next c h) (while_fails q))
    in_rows (stated o l (Tree.block ss)) next c σ a h m = rows_along ss o l next c σ a h m
    in_rows (stated o l (Tree.select ss)) next c σ a h m =
        let r = rows_among ss next c σ a (λ y j. (whole p).closed_in (at_spot (stated o l (Tree.select ss)) next c) y h (there j)) m in
        in_branch (stands _ l _ next c h) r.1 r.2
    in_rows (stated o l (Tree.cooperate ps)) next c σ a h m = of_one a _ m (enters (l, next, found p numbered (at_spot (stated o l (Tree.cooperate ps)) next c) h))
    in_rows (stated o l (Tree.group xs)) next c σ a h m = of_path o l next c xs σ a h (paths_along xs) 1 (λ k path q. (k, q, omega arith)) m

    rows_along : (ss : Statements) (o l next c : ℕ) (σ : Store) (a : Act Rest) → Member (at_spot (stated o l (Tree.block ss)) next c) (all_spots p) → Member a (acts_along ss o (length (all_spots p) + c) σ) → Row (Run o) σ a
    rows_along no_statement o l next c σ a h m = member_none m
    rows_along (statement s no_statement) o l next c σ a h m =
        let x = member_map (around (λ r. join (statement s no_statement) r o 1)) a _ m in
        let d = in_rows s next c σ x.0 ((whole p).closed_in (at_spot (stated o l (Tree.block (statement s no_statement))) next c) _ h (there (member_left _ (own_first s next c)))) x.1 in
        let e : a ≡ x.0 = x.2 ∙ ap (λ r. record { name = x.0.name; mode = x.0.mode; left = r; store = x.0.store }) (join_last s o x.0.left) in
        subst (Row (Run o) σ) (sym e) (in_block (stands _ l _ next c h) d)
    rows_along (statement s (statement r ss)) o l next c σ a h m =
        let all = statement s (statement r ss) in
        let x = member_map (around (λ z. join all z o 1)) a _ m in
        let d = in_rows s (entry (statement r ss) next) c σ x.0 ((whole p).closed_in (at_spot (stated o l (Tree.block all)) next c) _ h (there (member_left _ (own_first s (entry (statement r ss) next) c)))) x.1 in
        let named = body_of_block p numbered o l all next c h in
        subst (Row (Run o) σ) (sym x.2) (in_block (stands _ l _ next c h) (in_front named d))

    rows_among : (ss : Statements) (next c : ℕ) (σ : Store) (a : Act Rest) → ((y : Spot) → Member y (spots_among ss next c) → Member y (all_spots p)) → Member a (acts_among ss (length (all_spots p) + c) σ) → (s : Statement) × Branch s ss × Row (Run (occurrence s)) σ a
    rows_among no_statement next c σ a sub m = member_none m
    rows_among (statement s ss) next c σ a sub m =
        let k : length (all_spots p) + c + length (bodies s) ≡ length (all_spots p) + (c + length (bodies s)) = omega arith in
        either (member_cases (first_acts s (length (all_spots p) + c) σ) m)
        (λ m. (s, this, in_rows s next c σ a (sub _ (member_left _ (own_first s next c))) m))
        (λ m.
        let r = rows_among ss next (c + length (bodies s)) σ a (λ y i. sub y (member_right (spots s next c) i)) (subst (λ z. Member a (acts_among ss z σ)) k m) in
        (r.0, later r.1, r.2))

  mutual
    pub of_list : (r : Rest) (σ : Store) (a : Act Rest) → Member a (steps r p σ) → Row r σ a
    of_list Done σ a m = member_none m
    of_list (Run n) σ a m = at_number (spot p n) refl m
      where
        at_number : (o : Option Spot) → spot p n ≡ o → Member a (acts_at o (length (all_spots p)) σ) → Row (Run n) σ a
        at_number None q m = member_none m
        at_number (Some x) q m =
            subst (λ z. Row (Run z) σ a) (numbered n x q) (in_rows x.stmt x.next x.before σ a (found_has p numbered n x q) m)
    of_list (Then r b k) σ a m = behind_body (body p b) refl m (λ x i. of_list r σ x i)
      where
        behind_body : (o : Option Body) → body p b ≡ o → Member a (joined_acts o b k (steps r p σ)) → ((x : Act Rest) → Member x (steps r p σ) → Row r σ x) → Row (Then r b k) σ a
        behind_body None q m down = member_none m
        behind_body (Some x) q m down =
            let y = member_map (around (λ z. join x.0 z b k)) a _ m in
            subst (Row (Then r b k) σ) (sym y.2) (in_front q (down y.0 y.1))
    of_list (Again r w) σ a m =
        let y = member_map (around (back w)) a _ m in
        subst (Row (Again r w) σ) (sym y.2) (in_loop (of_list r σ y.0 y.1))
    of_list (Inside c rs) σ a m =
        either (member_cases (map (around (Inside c)) (steps_of rs p σ)) m)
        (λ m. let y = member_map (around (Inside c)) a _ m in subst (Row (Inside c rs) σ) (sym y.2) (in_child (of_lists rs σ y.0 y.1)))
        (λ m. at_end (all_done rs) refl m)
      where
        at_end : (b : Bool) → all_done rs ≡ b → Member a (if b then act (names.Step c Exit) 1 Done σ ∷ [] else []) → Row (Inside c rs) σ a
        at_end true q m = of_one a _ m (leaves q)
        at_end false q m = member_none m

    pub of_lists : (rs : Rests) (σ : Store) (a : Act Rests) → Member a (steps_of rs p σ) → Steps p σ rs a
    of_lists no_rest σ a m = member_none m
    of_lists (rests r rs) σ a m =
        either (member_cases (map (around (λ x. rests x rs)) (steps r p σ)) m)
        (λ m.
        let y = member_map (around (λ x. rests x rs)) a _ m in
        subst (Steps p σ (rests r rs)) (sym y.2) (here_one (of_list r σ y.0 y.1)))
        (λ m.
        let y = member_map (around (λ xs. rests r xs)) a _ m in
        subst (Steps p σ (rests r rs)) (sym y.2) (there_one (of_lists rs σ y.0 y.1)))
