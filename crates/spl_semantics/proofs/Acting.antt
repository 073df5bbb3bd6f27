-- What a program's type says of its statements, as the steps ask for it: targets have data of their types, and components
-- have numbers within the number of all.
use Rattle.std.proofs.Common.{◌≡◌, ℕ, zero, suc, ◌+◌, ◌<◌, ◌≤◌, Bool, true, false, List, [], ◌∷◌, length, length-append, Option, Some, None, Result, Ok, Err, refl, ap, ◌∙◌, sym, subst, arith}
use Rattle.std.proofs.Common.{◌^◌, ◌-◌, min}
use Rattle.std.specs.Prelude.{slice_get, nat_eq, if◌then◌else◌}
use Rattle.std.specs.Option.{option_map}
use Rattle.std.proofs.lemmas.Option.{slice_get-map}
use Rattle.st_form.specs.declared.variables.Variable.{Variable}
use Rattle.st_program.specs.declared.residuals.Datum.{Datum}
use Rattle.st_program.specs.Member.{Member, here, there}
use Rattle.st_program.specs.Tree.{Term, Piece, Pieces, piece_skip, piece_assign, piece_await, piece_if, no_piece, piece, Statement, stated, Action, skip, critical, noncritical, assign, await, request, release, if_then, if_else, while_do, block, select, cooperate, group, Statements, no_statement, statement, process, Processes, no_process, beside, occurrence, action}
use Rattle.st_program.specs.Types.{is_truth, MayChange, TargetsFit, PieceFits, PiecesFit, ActionFits}
use Rattle.st_program.specs.Spots.{entry, bodies, bodies_inside, bodies_in, bodies_of, Spot, at_spot, spots, spots_within, spots_along, spots_among, spots_inside, all_spots, spot, statement_at, IsNumbered}
use Rattle.spl_semantics.specs.Data.{types, StoreFits, TargetsMeet, PieceMeets, PiecesMeet, FirstMeets, OwnMeets, AlongMeets, AmongMeet}
use Rattle.std.proofs.lemmas.Bool.Decides.{nat_tests}
use Rattle.st_form.specs.Formula.{Formula}
use Rattle.st_program.specs.Programs.{IsProgram}
use Rattle.st_program.specs.Residuals.{Rest}
use Rattle.spl_semantics.specs.declared.faults.MoveFault.{MoveFault}
use Rattle.spl_semantics.specs.Answers.{Answers}
use Rattle.spl_semantics.specs.Limits.{wide_first, wide_at}
use Rattle.spl_semantics.specs.Steps.{first_acts, acts_at}
use Rattle.spl_semantics.specs.Going.{Act}
use Rattle.spl_semantics.specs.Stores.{Store}
use Rattle.spl_semantics.specs.Numbers.{begun_before}
use Rattle.spl_semantics.proofs.Members.{at_member, member_none, member_left, member_right, member_cases}
use Rattle.spl_semantics.proofs.Texts.{closed_inside}
use Rattle.basic_laws.proofs.Types.{either}

module _ (vs : List Variable) (ds : List Datum) (fits : StoreFits vs ds) where
  has_type : (v : ℕ) (b : Bool) → MayChange vs v b → slice_get (types ds) v ≡ Some b
  has_type v b h = ap (λ l. slice_get l v) fits ∙ slice_get-map (λ x. x.truth) vs v ∙ ap (option_map (λ x. x.truth)) h

  targets-meet : (xs : List (ℕ × Term)) → TargetsFit vs xs → TargetsMeet (types ds) xs
  targets-meet [] h = tt
  targets-meet (x ∷ xs) h = (has_type x.0 (is_truth x.1) h.0, h.2, targets-meet xs h.3)

  mutual
    piece-meets : (x : Piece) → PieceFits vs x → PieceMeets (types ds) x
    piece-meets piece_skip h = tt
    piece-meets (piece_assign xs) h = targets-meet xs h
    piece-meets (piece_await t) h = tt
    piece-meets (piece_if t y n) h = (pieces-meet y h.1, pieces-meet n h.2)

    pieces-meet : (xs : Pieces) → PiecesFit vs xs → PiecesMeet (types ds) xs
    pieces-meet no_piece h = tt
    pieces-meet (piece x xs) h = (piece-meets x h.0, pieces-meet xs h.1)

  -- what stands first in a statement whose statements use variables by their types
  mutual
    pub first-meets : (s : Statement) (n c : ℕ) → ((x : Spot) → Member x (spots s n c) → ActionFits vs (action x.stmt)) → FirstMeets (types ds) s
    first-meets (stated o l a) n c typed = own-meets a l n c (typed (at_spot (stated o l a) n c) (here refl)) (λ x m. typed x (there m))

    own-meets : (a : Action) (l n c : ℕ) → ActionFits vs a → ((x : Spot) → Member x (spots_within a l n c) → ActionFits vs (action x.stmt)) → OwnMeets (types ds) a
    own-meets skip l n c h typed = tt
    own-meets critical l n c h typed = tt
    own-meets noncritical l n c h typed = tt
    own-meets (assign xs) l n c h typed = targets-meet xs h
    own-meets (await t) l n c h typed = tt
    own-meets (request v) l n c h typed = has_type v false h
    own-meets (release v) l n c h typed = has_type v false h
    own-meets (if_then t y) l n c h typed = tt
    own-meets (if_else t y z) l n c h typed = tt
    own-meets (while_do t b) l n c h typed = tt
    own-meets (block ss) l n c h typed = along-meets ss n c typed
    own-meets (select ss) l n c h typed = among-meet ss n c typed
    own-meets (cooperate ps) l n c h typed = tt
    own-meets (group xs) l n c h typed = (pieces-meet xs h.0, h.1.few)

    along-meets : (ss : Statements) (n c : ℕ) → ((x : Spot) → Member x (spots_along ss n c) → ActionFits vs (action x.stmt)) → AlongMeets (types ds) ss
    along-meets no_statement n c typed = tt
    along-meets (statement s ss) n c typed = first-meets s (entry ss n) c (λ x m. typed x (member_left _ m))

    among-meet : (ss : Statements) (n c : ℕ) → ((x : Spot) → Member x (spots_among ss n c) → ActionFits vs (action x.stmt)) → AmongMeet (types ds) ss
    among-meet no_statement n c typed = tt
    among-meet (statement s ss) n c typed = (first-meets s n c (λ x m. typed x (member_left _ m)), among-meet ss n (c + length (bodies s)) (λ x m. typed x (member_right (spots s n c) m)))

-- the components in a statement are among those of the text around it
module _ (x : Spot) where
  abbrev Inside_of : ℕ → ℕ → Type 0
  Inside_of c k = (c ≤ x.before) × (x.before + length (bodies x.stmt) ≤ c + k)

  mutual
    pub room : (s : Statement) (n c : ℕ) → Member x (spots s n c) → Inside_of c (length (bodies s))
    room (stated o l a) n c (here e) = subst (λ y. (c ≤ y.before) × (y.before + length (bodies y.stmt) ≤ c + length (bodies_inside a))) (sym e) (omega arith, omega arith)
    room (stated o l a) n c (there m) = room_within a l n c m

    room_within : (a : Action) (l n c : ℕ) → Member x (spots_within a l n c) → Inside_of c (length (bodies_inside a))
    room_within (if_then t s) l n c m = room s n c m
    room_within (if_else t s r) l n c m =
        let k = length-append (bodies s) (bodies r) in
        either (member_cases (spots s n c) m) (λ m. let h = room s n c m in (h.0, omega (arith, h.1, k))) (λ m. let h = room r n (c + length (bodies s)) m in (omega (arith, h.0), omega (arith, h.1, k)))
    room_within (while_do t s) l n c m = room s l c m
    room_within (block ss) l n c m = room_along ss n c m
    room_within (select ss) l n c m = room_among ss n c m
    room_within (cooperate ps) l n c m = room_inside ps c m
    room_within skip l n c m = member_none m
    room_within _ l n c m = member_none m

    room_along : (ss : Statements) (n c : ℕ) → Member x (spots_along ss n c) → Inside_of c (length (bodies_in ss))
    room_along no_statement n c m = member_none m
    room_along (statement s ss) n c m =
        let k = length-append (bodies s) (bodies_in ss) in
        either (member_cases (spots s (entry ss n) c) m) (λ m. let h = room s (entry ss n) c m in (h.0, omega (arith, h.1, k))) (λ m. let h = room_along ss n (c + length (bodies s)) m in (omega (arith, h.0), omega (arith, h.1, k)))

    room_among : (ss : Statements) (n c : ℕ) → Member x (spots_among ss n c) → Inside_of c (length (bodies_in ss))
    room_among no_statement n c m = member_none m
    room_among (statement s ss) n c m =
        let k = length-append (bodies s) (bodies_in ss) in
        either (member_cases (spots s n c) m) (λ m. let h = room s n c m in (h.0, omega (arith, h.1, k))) (λ m. let h = room_among ss n (c + length (bodies s)) m in (omega (arith, h.0), omega (arith, h.1, k)))

    pub room_inside : (ps : Processes) (c : ℕ) → Member x (spots_inside ps c) → Inside_of c (length (bodies_of ps))
    room_inside no_process c m = member_none m
    room_inside (beside (process ss end) ps) c m =
        let k = length-append (bodies_in ss) (bodies_of ps) in
        either (member_cases (spots_along ss end (suc c)) m) (λ m. let h = room_along ss end (suc c) m in (omega (arith, h.0), omega (arith, h.1, k))) (λ m. let h = room_inside ps (suc c + length (bodies_in ss)) m in (omega (arith, h.0), omega (arith, h.1, k)))

-- where statements are numbered in text order, the search finds the number of components before the statement
begun-at : (xs : List Spot) (off all k : ℕ) (x : Spot) → ((j : ℕ) (y : Spot) → slice_get xs j ≡ Some y → occurrence y.stmt ≡ off + j) → slice_get xs k ≡ Some x → begun_before xs (off + k) all ≡ Ok x.before
begun-at [] off all k x h e = cc
begun-at (y ∷ xs) off all zero x h e =
    let same : y ≡ x = cc in
    let t : nat_eq (occurrence y.stmt) (off + 0) ≡ true = let q = h 0 y refl in grind (arith, nat_tests) in
    ap (λ b. if b then Ok y.before else begun_before xs (off + 0) all) t ∙ ap (λ z. Ok z.before) same
begun-at (y ∷ xs) off all (suc k) x h e =
    let t : nat_eq (occurrence y.stmt) (off + suc k) ≡ false = let q = h 0 y refl in grind (arith, nat_tests) in
    let n : off + suc k ≡ suc off + k = omega arith in
    ap (λ b. if b then Ok y.before else begun_before xs (off + suc k) all) t
    ∙ ap (λ m. begun_before xs m all) n
    ∙ begun-at xs (suc off) all k x (λ j z f. let q = h (suc j) z f in omega (arith, q)) e

pub begun-is : (p : Processes) (numbered : IsNumbered p) (n all : ℕ) (x : Spot) → spot p n ≡ Some x → begun_before (all_spots p) n all ≡ Ok x.before
begun-is p numbered n all x e =
    let z : 0 + n ≡ n = omega arith in
    ap (λ m. begun_before (all_spots p) m all) (sym z) ∙ begun-at (all_spots p) 0 all n x (λ j y f. let q = numbered j y f in omega (arith, q)) e

-- the statement at a spot of a program finds its targets, and its components are among those of the program
pub spot-meets : (vs : List Variable) (ds : List Datum) (fits : StoreFits vs ds) (p : Processes) → ((x : Spot) → Member x (all_spots p) → ActionFits vs (action x.stmt)) → (x : Spot) → Member x (all_spots p) → FirstMeets (types ds) x.stmt
spot-meets vs ds fits p typed x m = first-meets vs ds fits x.stmt x.next x.before (λ y h. typed y (closed_inside x y h p 0 m))

pub spot-room : (p : Processes) (x : Spot) → Member x (all_spots p) → x.before + length (bodies x.stmt) ≤ length (bodies_of p)
spot-room p x m = omega (arith, (room_inside x p 0 m).1)

-- the steps of the statement with an occurrence
pub stands : (p : Processes) (o : ℕ) (found : Option Spot) (s : Statement) → spot p o ≡ found → Some s ≡ option_map (λ x. x.stmt) found → (x : Spot) × (spot p o ≡ Some x) × (x.stmt ≡ s)
stands p o None s e h = cc
stands p o (Some x) s e h = let q : s ≡ x.stmt = cc in (x, e, sym q)

module _ (vs : List Variable) (initial : Formula) (p : Processes) (locations statements : ℕ) (program : IsProgram vs initial p locations statements) (o : ℕ) (s : Statement) (e : Some s ≡ statement_at p o) where
  pub run-meets : (ds : List Datum) → StoreFits vs ds → FirstMeets (types ds) s
  run-meets ds fits =
      let x = stands p o (spot p o) s refl e in
      subst (FirstMeets (types ds)) x.2 (spot-meets vs ds fits p program.typed x.0 (at_member x.0 (all_spots p) o x.1))

  pub run-begun : (all before : ℕ) → begun_before (all_spots p) o all ≡ Ok before → (x : Spot) × (spot p o ≡ Some x) × (x.stmt ≡ s) × (x.before ≡ before)
  run-begun all before b =
      let x = stands p o (spot p o) s refl e in
      let h = begun-is p program.well.numbered o all x.0 x.1 in
      let k : ◌≡◌ {A = Result ℕ ℕ} (Ok x.0.before) (Ok before) = sym h ∙ b in
      let q : x.0.before ≡ before = cc in
      (x.0, x.1, x.2, q)

  pub run-missing : (all k : ℕ) → begun_before (all_spots p) o all ≡ Err k → ⊥
  run-missing all k b =
      let x = stands p o (spot p o) s refl e in
      let h : ◌≡◌ {A = Result ℕ ℕ} (Ok x.0.before) (Err k) = sym (begun-is p program.well.numbered o all x.0 x.1) ∙ b in
      cc

  pub run-steps : {A : Type 0} (view : A → List (Act Rest)) (r : Result A MoveFault) (store : Store) (meets : Type 0) → meets → (all before component : ℕ) → begun_before (all_spots p) o all ≡ Ok before
      → statements + length (bodies_of p) < 2 ^ 32 → component ≡ min (statements + before) (2 ^ 32 - 1)
      → (component + length (bodies s) < 2 ^ 32 → meets → Answers view r (wide_first s store) (first_acts s component store))
      → Answers view r (wide_at (spot p o) store) (acts_at (spot p o) (length (all_spots p)) store)
  run-steps view r store meets given all before component b room c h =
      let x = run-begun all before b in
      let inside = spot-room p x.0 (at_member x.0 (all_spots p) o x.1) in
      let same = ap (λ t. length (bodies t)) x.2 in
      let first : component ≡ length (all_spots p) + x.0.before = omega (arith, c, room, inside, x.3, program.statement_count) in
      let answer = h (omega (arith, first, inside, room, same, program.statement_count)) given in
      subst (λ found. Answers view r (wide_at found store) (acts_at found (length (all_spots p)) store)) (sym x.1)
      (subst (λ t. Answers view r (wide_first t store) (first_acts t (length (all_spots p) + x.0.before) store)) (sym x.2)
      (subst (λ n. Answers view r (wide_first s store) (first_acts s n store)) first answer))
