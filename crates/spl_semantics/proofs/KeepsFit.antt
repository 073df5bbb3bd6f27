-- What is left behind a step fits the program.
use Rattle.std.proofs.Common.{◌≡◌, ℕ, suc, ◌+◌, ◌-◌, Bool, true, false, List, [], ◌∷◌, ◌++◌, length, map, Option, Some, None, refl, sym, subst, arith}
use Rattle.std.specs.Prelude.{nat_lt, if◌then◌else◌, slice_get}
use Rattle.st_program.specs.Tree.{Statement, stated, Action, skip, critical, noncritical, assign, await, request, release, if_then, if_else, while_do, block, select, cooperate, group, Statements, no_statement, statement, process, Processes, no_process, beside, occurrence, location, action, nth}
use Rattle.st_program.specs.Groups.{Link, paths_along}
use Rattle.st_program.specs.Member.{Member, here, there}
use Rattle.st_program.specs.Residuals.{Rest, Done, Run, Then, Again, Inside, Rests, no_rest, rests}
use Rattle.st_program.specs.Spots.{entry, bodies, bodies_inside, bodies_in, bodies_of, Body, Spot, at_spot, spots, spots_within, spots_along, spots_among, spots_inside, all_spots, spot, IsNumbered, items_of, block_items, body}
use Rattle.spl_semantics.specs.Stores.{Store, holds, one_less, walked}
use Rattle.st_form.specs.Formula.{row}
use Rattle.spl_semantics.specs.Control.{children_of}
use Rattle.spl_semantics.specs.Fitting.{IsLoop, FitsRest, FitsEach, FitsProgram}
use Rattle.spl_semantics.specs.Steps.{path_act, path_acts, first_acts, own_acts, acts_along, acts_among, acts_at, joined_acts, steps, steps_of}
use Rattle.spl_semantics.specs.Going.{Act, around, behind, go_on, join, back, begin, all_done}
use Rattle.spl_semantics.proofs.Bodies.{HasAt, along_item, has_front, has_back, has_all, own_bodies, body_of_component, body_of_block}
use Rattle.spl_semantics.proofs.Fits.{place_at}
use Rattle.spl_semantics.proofs.Members.{member_none, member_left, member_right, member_cases, member_map, at_member}
use Rattle.spl_semantics.proofs.Texts.{Has, found, own_first, closed_inside}
use Rattle.basic_laws.proofs.Types.{either}

-- the statements of a component stand in the text
module _ (x : Body) where
  abbrev Along : List Spot → Type 0
  Along all = (c : ℕ) × ((y : Spot) → Member y (spots_along x.0 x.1 c) → Member y all)

  mutual
    comp : (s : Statement) (n c : ℕ) → Member x (bodies s) → Along (spots s n c)
    comp (stated o l a) n c m = let r = comp_inside a l n c m in (r.0, λ y h. there (r.1 y h))

    comp_inside : (a : Action) (l n c : ℕ) → Member x (bodies_inside a) → Along (spots_within a l n c)
    comp_inside (if_then t s) l n c m = comp s n c m
    comp_inside (if_else t s r) l n c m =
        either (member_cases (bodies s) m) (λ m. let r = comp s n c m in (r.0, λ y h. member_left _ (r.1 y h))) (λ m. let q = comp r n (c + length (bodies s)) m in (q.0, λ y h. member_right (spots s n c) (q.1 y h)))
    comp_inside (while_do t s) l n c m = comp s l c m
    comp_inside (block ss) l n c m = comp_along ss n c m
    comp_inside (select ss) l n c m = comp_among ss n c m
    comp_inside (cooperate ps) l n c m = comp_of ps c m
    comp_inside skip l n c m = member_none m
    comp_inside _ l n c m = member_none m

    comp_along : (ss : Statements) (n c : ℕ) → Member x (bodies_in ss) → Along (spots_along ss n c)
    comp_along no_statement n c m = member_none m
    comp_along (statement s ss) n c m =
        either (member_cases (bodies s) m) (λ m. let r = comp s (entry ss n) c m in (r.0, λ y h. member_left _ (r.1 y h))) (λ m. let q = comp_along ss n (c + length (bodies s)) m in (q.0, λ y h. member_right (spots s (entry ss n) c) (q.1 y h)))

    comp_among : (ss : Statements) (n c : ℕ) → Member x (bodies_in ss) → Along (spots_among ss n c)
    comp_among no_statement n c m = member_none m
    comp_among (statement s ss) n c m =
        either (member_cases (bodies s) m) (λ m. let r = comp s n c m in (r.0, λ y h. member_left _ (r.1 y h))) (λ m. let q = comp_among ss n (c + length (bodies s)) m in (q.0, λ y h. member_right (spots s n c) (q.1 y h)))

    comp_of : (ps : Processes) (c : ℕ) → Member x (bodies_of ps) → Along (spots_inside ps c)
    comp_of no_process c m = member_none m
    comp_of (beside (process ss end) ps) c (here e) = (suc c, λ y h. member_left _ (subst (λ b. Member y (spots_along b.0 b.1 (suc c))) e h))
    comp_of (beside (process ss end) ps) c (there m) =
        either (member_cases (bodies_in ss) m) (λ m. let r = comp_along ss end (suc c) m in (r.0, λ y h. member_left _ (r.1 y h))) (λ m. let q = comp_of ps (suc c + length (bodies_in ss)) m in (q.0, λ y h. member_right (spots_along ss end (suc c)) (q.1 y h)))

module _ (p : Processes) (numbered : IsNumbered p) where
  run-fits : (s : Statement) (n c : ℕ) → Has p s n c → FitsRest (Run (occurrence s)) p
  run-fits s n c h = (at_spot s n c, found p numbered (at_spot s n c) h)

  -- each of the statements stands in the text
  abbrev Items : Statements → Type 0
  Items ss = (k : ℕ) (s : Statement) → nth ss k ≡ Some s → (n : ℕ) × (c : ℕ) × Has p s n c

  items : (ss : Statements) (n c : ℕ) → ((y : Spot) → Member y (spots_along ss n c) → Member y (all_spots p)) → Items ss
  items ss n c sub = λ k s q. let i = along_item ss n c k s q in (place_at ss (suc k) n, i.0, sub _ i.1)

  block_of : (a : Action) (l n c : ℕ) (x : Body) → ((y : Spot) → Member y (spots_within a l n c) → Member y (all_spots p)) → block_items a n ≡ Some x → Items x.0
  block_of (block ss) l n c x sub e = let b : ◌≡◌ {A = Body} (ss, n) x = cc in subst (λ b. Items b.0) b (items ss n c sub)
  block_of skip l n c x sub e = cc
  block_of _ l n c x sub e = cc

  inner : (s : Statement) (n c : ℕ) (z : Spot) → Member z (spots_within (action s) (location s) n c) → Member z (spots s n c)
  inner (stated o l a) n c z i = there i

  block_in : (o : Option Spot) (x : Body) → ((y : Spot) → o ≡ Some y → Member y (all_spots p)) → items_of o ≡ Some x → Items x.0
  block_in None x h e = cc
  block_in (Some y) x h e = block_of (action y.stmt) (location y.stmt) y.next y.before x (λ z i. closed_inside y z (inner y.stmt y.next y.before z i) p 0 (h y refl)) e

  by_number : (b : ℕ) (x : Body) (t : Bool) → (if t then items_of (spot p b) else slice_get (bodies_of p) (b - length (all_spots p))) ≡ Some x → Items x.0
  by_number b x true e = block_in (spot p b) x (λ y q. at_member y (all_spots p) b q) e
  by_number b x false e = let r = comp_of x p 0 (at_member x (bodies_of p) (b - length (all_spots p)) e) in items x.0 x.1 r.0 r.1

  body-items : (b : ℕ) (x : Body) → body p b ≡ Some x → Items x.0
  body-items b x e = by_number b x (nat_lt b (length (all_spots p))) e

  behind-fits : (o : Option Statement) (r : Rest) (b k : ℕ) → (x : Body) → body p b ≡ Some x → FitsRest r p → FitsRest (behind o r b k) p
  behind-fits None r b k x e f = f
  behind-fits (Some s) r b k x e f = ((x, e), f)

  module _ (ss : Statements) (here_are : Items ss) (b : ℕ) (x : Body) (e : body p b ≡ Some x) where
    go-fits : (k : ℕ) (o : Option Statement) → nth ss k ≡ o → FitsRest (go_on o (nth ss (suc k)) b k) p
    go-fits k None q = tt
    go-fits k (Some s) q = let h = here_are k s q in behind-fits (nth ss (suc k)) (Run (occurrence s)) b (suc k) x e (run-fits s h.0 h.1 h.2)

    join-fits : (r : Rest) (k : ℕ) → FitsRest r p → FitsRest (join ss r b k) p
    join-fits Done k f = go-fits k (nth ss k) refl
    join-fits (Run n) k f = behind-fits (nth ss k) (Run n) b k x e f
    join-fits (Then r c j) k f = behind-fits (nth ss k) (Then r c j) b k x e f
    join-fits (Again r w) k f = behind-fits (nth ss k) (Again r w) b k x e f
    join-fits (Inside c rs) k f = behind-fits (nth ss k) (Inside c rs) b k x e f

  back-fits : (w : ℕ) (x : Spot) → spot p w ≡ Some x → IsLoop (action x.stmt) → (r : Rest) → FitsRest r p → FitsRest (back w r) p
  back-fits w x e l Done f = (x, e)
  back-fits w x e l (Run n) f = ((x, e, l), f)
  back-fits w x e l (Then r c j) f = ((x, e, l), f)
  back-fits w x e l (Again r v) f = ((x, e, l), f)
  back-fits w x e l (Inside c rs) f = ((x, e, l), f)

  -- children at the beginning of their bodies
  begin-fits : (ps : Processes) (c : ℕ) → HasAt (bodies_of p) c (bodies_of ps) → ((y : Spot) → Member y (spots_inside ps c) → Member y (all_spots p)) → FitsEach (begin ps (length (all_spots p) + c)) p ps
  begin-fits no_process c h sub = tt
  begin-fits (beside (process ss end) ps) c h sub =
      let m = length (all_spots p) in
      let b = body_of_component p c (ss, end) h.0 in
      let first = join-fits ss (items ss end (suc c) (λ y i. sub y (member_left _ i))) (m + c) (ss, end) b Done 0 tt in
      let n : m + (suc c + length (bodies_in ss)) ≡ suc (m + c) + length (bodies_in ss) = omega arith in
      let rest = begin-fits ps (suc c + length (bodies_in ss)) (has_back (bodies_of p) (suc c) (bodies_in ss) (bodies_of ps) h.1) (λ y i. sub y (member_right (spots_along ss end (suc c)) i)) in
      (first, subst (λ z. FitsEach (begin ps z) p ps) n rest)

  module _ (store : Store) where
    abbrev AllFit : List (Act Rest) → Type 0
    AllFit xs = (x : Act Rest) → Member x xs → FitsRest x.left p

    no-act : AllFit []
    no-act x m = member_none m

    one-act : (y : Act Rest) → FitsRest y.left p → AllFit (y ∷ [])
    one-act y f x (here e) = subst (λ z. FitsRest z.left p) (sym e) f
    one-act y f x (there m) = member_none m

    either-act : (b : Bool) (xs ys : List (Act Rest)) → AllFit xs → AllFit ys → AllFit (if b then xs else ys)
    either-act true xs ys f g = f
    either-act false xs ys f g = g

    both-acts : (xs ys : List (Act Rest)) → AllFit xs → AllFit ys → AllFit (xs ++ ys)
    both-acts xs ys f g x m = either (member_cases xs m) (f x) (g x)

    path-fits : (o k : ℕ) (paths : List (List Link)) → AllFit (path_acts o k paths store)
    path-fits o k [] = no-act
    path-fits o k (path ∷ paths) = both-acts (path_act o k (walked path store)) (path_acts o (suc k) paths store) (of (walked path store)) (path-fits o (suc k) paths)
      where
        of : (w : Option Store) → AllFit (path_act o k w)
        of None = no-act
        of (Some s) = one-act _ tt

    mutual
      first-fits : (s : Statement) (n c : ℕ) → ((y : Spot) → Member y (spots s n c) → Member y (all_spots p)) → HasAt (bodies_of p) c (bodies s) → AllFit (first_acts s (length (all_spots p) + c) store)
      first-fits (stated o l a) n c sub at = own-fits a o l n c (sub _ (here refl)) (λ y h. sub y (there h)) at

      own-fits : (a : Action) (o l n c : ℕ) → Has p (stated o l a) n c → ((y : Spot) → Member y (spots_within a l n c) → Member y (all_spots p)) → HasAt (bodies_of p) c (bodies_inside a) → AllFit (own_acts a o (length (all_spots p) + c) store)
      own-fits skip o l n c h sub at = one-act _ tt
      own-fits critical o l n c h sub at = one-act _ tt
      own-fits noncritical o l n c h sub at = one-act _ tt
      own-fits (assign xs) o l n c h sub at = one-act _ tt
      own-fits (await t) o l n c h sub at = either-act (holds t store) _ _ (one-act _ tt) no-act
      own-fits (request v) o l n c h sub at = either-act (holds (row (one_less v)) store) _ _ (one-act _ tt) no-act
      own-fits (release v) o l n c h sub at = one-act _ tt
      own-fits (if_then t y) o l n c h sub at = either-act (holds t store) _ _ (one-act _ (run-fits y n c (sub _ (own_first y n c)))) (one-act _ tt)
      own-fits (if_else t y z) o l n c h sub at =
          either-act (holds t store) _ _ (one-act _ (run-fits y n c (sub _ (member_left _ (own_first y n c)))))
          (one-act _ (run-fits z n (c + length (bodies y)) (sub _ (member_right (spots y n c) (own_first z n (c + length (bodies y)))))))
      own-fits (while_do t b) o l n c h sub at =
          either-act (holds t store) _ _ (one-act _ ((at_spot (stated o l (while_do t b)) n c, found p numbered _ h, tt), run-fits b l c (sub _ (own_first b l c)))) (one-act _ tt)
      own-fits (block ss) o l n c h sub at = along-fits ss o l n c h sub at
      own-fits (select ss) o l n c h sub at = among-fits ss n c sub at
      own-fits (cooperate ps) o l n c h sub at = one-act _ (at_spot (stated o l (cooperate ps)) n c, found p numbered _ h, tt, begin-fits ps c at sub)
      own-fits (group xs) o l n c h sub at = path-fits o 1 (paths_along xs)

      along-fits : (ss : Statements) (o l n c : ℕ) → Has p (stated o l (block ss)) n c → ((y : Spot) → Member y (spots_along ss n c) → Member y (all_spots p)) → HasAt (bodies_of p) c (bodies_in ss) → AllFit (acts_along ss o (length (all_spots p) + c) store)
      along-fits no_statement o l n c h sub at = no-act
      along-fits (statement s ss) o l n c h sub at = λ x m.
          let r = member_map (around (λ r. join (statement s ss) r o 1)) x (first_acts s (length (all_spots p) + c) store) m in
          let f = first-fits s (entry ss n) c (λ y i. sub y (member_left _ i)) (has_front (bodies_of p) c (bodies s) (bodies_in ss) at) r.0 r.1 in
          subst (λ z. FitsRest z.left p) (sym r.2) (join-fits (statement s ss) (items (statement s ss) n c sub) o (statement s ss, n) (body_of_block p numbered o l (statement s ss) n c h) r.0.left 1 f)

      among-fits : (ss : Statements) (n c : ℕ) → ((y : Spot) → Member y (spots_among ss n c) → Member y (all_spots p)) → HasAt (bodies_of p) c (bodies_in ss) → AllFit (acts_among ss (length (all_spots p) + c) store)
      among-fits no_statement n c sub at = no-act
      among-fits (statement s ss) n c sub at =
          let m = length (all_spots p) in
          let k : m + (c + length (bodies s)) ≡ m + c + length (bodies s) = omega arith in
          both-acts (first_acts s (m + c) store) (acts_among ss (m + c + length (bodies s)) store)
          (first-fits s n c (λ y i. sub y (member_left _ i)) (has_front (bodies_of p) c (bodies s) (bodies_in ss) at))
          (subst (λ z. AllFit (acts_among ss z store)) k (among-fits ss n (c + length (bodies s)) (λ y i. sub y (member_right (spots s n c) i)) (has_back (bodies_of p) c (bodies s) (bodies_in ss) at)))

    at-fits : (n : ℕ) (o : Option Spot) → spot p n ≡ o → AllFit (acts_at o (length (all_spots p)) store)
    at-fits n None e = no-act
    at-fits n (Some x) e =
        let h = at_member x (all_spots p) n e in
        first-fits x.stmt x.next x.before (λ y i. closed_inside x y i p 0 h) (own_bodies p x h)

    joined-fits : (b k : ℕ) (o : Option Body) → body p b ≡ o → (acts : List (Act Rest)) → AllFit acts → AllFit (joined_acts o b k acts)
    joined-fits b k None e acts f = no-act
    joined-fits b k (Some x) e acts f = λ y m.
        let r = member_map (around (λ r. join x.0 r b k)) y acts m in
        subst (λ z. FitsRest z.left p) (sym r.2) (join-fits x.0 (body-items b x e) b x e r.0.left k (f r.0 r.1))

    mutual
      steps-fit : (r : Rest) → FitsRest r p → AllFit (steps r p store)
      steps-fit Done f = no-act
      steps-fit (Run n) f = at-fits n (spot p n) refl
      steps-fit (Then r b k) f = joined-fits b k (body p b) refl (steps r p store) (steps-fit r f.1)
      steps-fit (Again r w) f = λ x m.
          let g = member_map (around (back w)) x (steps r p store) m in
          subst (λ z. FitsRest z.left p) (sym g.2) (back-fits w f.0.0 f.0.1 f.0.2 g.0.left (steps-fit r f.1 g.0 g.1))
      steps-fit (Inside n rs) f = both-acts (map (around (Inside n)) (steps_of rs p store)) _
          (λ x m.
          let g = member_map (around (Inside n)) x (steps_of rs p store) m in
          subst (λ z. FitsRest z.left p) (sym g.2) (f.0, f.1, f.2, each-fits rs (children_of (action f.0.stmt)) f.3 g.0 g.1))
          (either-act (all_done rs) _ _ (one-act _ tt) no-act)

      pub each-fits : (rs : Rests) (ps : Processes) → FitsEach rs p ps → (x : Act Rests) → Member x (steps_of rs p store) → FitsEach x.left p ps
      each-fits no_rest ps f x m = member_none m
      each-fits (rests r rs) no_process f x m = absurd f
      each-fits (rests r rs) (beside q ps) f x m =
          either (member_cases (map (around (λ z. rests z rs)) (steps r p store)) m)
          (λ m. let g = member_map (around (λ z. rests z rs)) x (steps r p store) m in subst (λ z. FitsEach z.left p (beside q ps)) (sym g.2) (steps-fit r f.0 g.0 g.1, f.1))
          (λ m. let g = member_map (around (λ zs. rests r zs)) x (steps_of rs p store) m in subst (λ z. FitsEach z.left p (beside q ps)) (sym g.2) (f.0, each-fits rs ps f.1 g.0 g.1))

  pub start-fits : FitsProgram p (begin p (length (all_spots p)))
  start-fits =
      let n : length (all_spots p) + 0 ≡ length (all_spots p) = omega arith in
      subst (λ z. FitsEach (begin p z) p p) n (begin-fits p 0 (has_all [] (bodies_of p)) (λ y i. i))
