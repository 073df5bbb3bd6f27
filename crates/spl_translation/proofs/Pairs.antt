-- The moves of a statement and the modes of its transitions are the same, one by one.
use Rattle.std.proofs.Common.{◌≡◌, ℕ, zero, suc, ◌+◌, Bool, true, false, List, [], ◌∷◌, ◌++◌, map, Option, Some, None, refl, sym, ap, ◌∙◌, subst, arith}
use Rattle.std.specs.Prelude.{not, slice_get, flat_map, is_some, unwrap_or, IsSome}
use Rattle.st_linear.specs.Linear.{changed}
use Rattle.st_form.specs.Formula.{Formula, row, negation, truth_value, every, formulas as listed, every_truth}
use Rattle.st_form.specs.Formula as formulas
use Rattle.st_form.specs.Exchange.{truth_for}
use Rattle.st_form.specs.declared.conditions.Part.TheVariants.{Whole, Entry, Exit}
use Rattle.st_form.specs.declared.conditions.TransName.{TransName}
use Rattle.st_form.specs.declared.conditions.TransName.TheVariants.{Step}
use Rattle.observations.specs.declared.Fairness.{Fairness}
use Rattle.observations.specs.declared.Fairness.TheVariants.{Unfair, Just, Compassionate}
use Rattle.transition_system.specs.Systems.{PlainMode, PlainTransition}
use Rattle.st_form.specs.declared.variables.Variable.{Variable}
use Rattle.st_program.specs.Tree.{Term, number, Piece, Pieces, piece_skip, piece_assign, piece_await, piece_if, no_piece, piece, Action, skip, critical, noncritical, assign, await, request, release, if_then, if_else, while_do, block, select, cooperate, group, location}
use Rattle.st_program.specs.Member.{Member, here, there}
use Rattle.st_program.specs.Groups.{Link, tested, paths, paths_along, Composed, nothing_composed, composed}
use Rattle.st_program.specs.Types.{TestFits, PieceFits, PiecesFit, ActionFits}
use Rattle.spl_semantics.specs.Stores.{Store, situation, holds, assigned, walked, one_less, one_more}
use Rattle.spl_semantics.specs.Control.{starts, ends}
use Rattle.spl_semantics.proofs.TextMoves.{Move, move, always as allowed_always, same, test_moves, path_moves, own_moves}
use Rattle.spl_semantics.proofs.Members.{member_none, member_left, member_right, member_cases}
use Rattle.basic_laws.proofs.Types.{either}
use Rattle.spl_translation.specs.Translation.{passing, moving, giving, always, path_mode, path_modes, transition, own_transitions}
use Rattle.spl_translation.proofs.Values.{blind, Plainly, plainly, numbers-given, truths-given}
use Rattle.spl_translation.proofs.Paths.{PlainLink, PlainPath, nothing_stands, amounts}

-- a mode does what a move does
pub record Matches (m : Move) (d : PlainMode) : Type 0 where
  pub at_is : d.at ≡ m.from
  pub leaves_is : d.change.leaves ≡ m.from
  pub enters_is : d.change.enters ≡ m.to
  pub guard_is : (s : Store) (here : ℕ → Bool) → formulas.truth (situation s here) d.guard ≡ m.allowed s
  pub numbers_is : (s : Store) → m.allowed s ≡ true → (v : ℕ) → changed s.numbers d.change.numbers v ≡ (m.result s).numbers v
  pub truths_is : (s : Store) (here : ℕ → Bool) → m.allowed s ≡ true → (v : ℕ) → formulas.truth (situation s here) (truth_for v d.change.truths) ≡ (m.result s).truths v

-- the mode that does what a move does, and the other way round
pub record ModeOf (ts : List PlainTransition) (m : Move) : Type 0 where
  pub transition : PlainTransition
  pub is_in : Member transition ts
  pub name_is : transition.name ≡ m.name
  pub place : ℕ
  pub mode : PlainMode
  pub placed : slice_get transition.modes place ≡ Some mode
  pub numbered : m.mode ≡ suc place
  pub matches : Matches m mode

pub record MoveOf (ms : List Move) (t : PlainTransition) (place : ℕ) (d : PlainMode) : Type 0 where
  pub move : Move
  pub is_in : Member move ms
  pub name_is : move.name ≡ t.name
  pub numbered : move.mode ≡ suc place
  pub matches : Matches move d

pub record Paired (ms : List Move) (ts : List PlainTransition) : Type 0 where
  pub mode_of : (m : Move) → Member m ms → ModeOf ts m
  pub move_of : (t : PlainTransition) → Member t ts → (k : ℕ) (d : PlainMode) → slice_get t.modes k ≡ Some d → MoveOf ms t k d

-- moves of one name, numbered from j on, and modes, one by one
abbrev AllMatch : TransName → ℕ → List Move → List PlainMode → Type 0
AllMatch name j [] [] = Unit {0}
AllMatch name j (m ∷ ms) (d ∷ ds) = (name ≡ m.name) × (m.mode ≡ j) × Matches m d × AllMatch name (suc j) ms ds
AllMatch name j [] (d ∷ ds) = ⊥
AllMatch name j (m ∷ ms) [] = ⊥

pub record At (name : TransName) (j : ℕ) (ds : List PlainMode) (m : Move) : Type 0 where
  pub place : ℕ
  pub mode : PlainMode
  pub placed : slice_get ds place ≡ Some mode
  pub name_is : name ≡ m.name
  pub numbered : m.mode ≡ j + place
  pub matches : Matches m mode

match_at : (name : TransName) (j : ℕ) (ms : List Move) (ds : List PlainMode) → AllMatch name j ms ds → (m : Move) → Member m ms → At name j ds m
match_at name j [] ds h m i = member_none i
match_at name j (n ∷ ms) [] h m i = absurd h
match_at name j (n ∷ ms) (d ∷ ds) h m (here q) =
    let e : n.mode ≡ j + 0 = let f : n.mode ≡ j = h.1 in omega arith in
    subst (At name j (d ∷ ds)) (sym q) record { place = 0; mode = d; placed = refl; name_is = h.0; numbered = e; matches = h.2 }
match_at name j (n ∷ ms) (d ∷ ds) h m (there i) =
    let r = match_at name (suc j) ms ds h.3 m i in
    let e : m.mode ≡ j + suc r.place = let f = r.numbered in omega arith in
    record { place = suc r.place; mode = r.mode; placed = r.placed; name_is = r.name_is; numbered = e; matches = r.matches }

at_match : (name : TransName) (j : ℕ) (ms : List Move) (ds : List PlainMode) → AllMatch name j ms ds → (k : ℕ) (d : PlainMode) → slice_get ds k ≡ Some d → (m : Move) × Member m ms × (name ≡ m.name) × (m.mode ≡ j + k) × Matches m d
at_match name j [] [] h k d q = cc
at_match name j [] (e ∷ ds) h k d q = absurd h
at_match name j (n ∷ ms) [] h k d q = absurd h
at_match name j (n ∷ ms) (e ∷ ds) h zero d q = (n, here refl, h.0, (let f : n.mode ≡ j = h.1 in omega arith), (let is : e ≡ d = cc in subst (Matches n) is h.2))
at_match name j (n ∷ ms) (e ∷ ds) h (suc k) d q = let r = at_match name (suc j) ms ds h.3 k d q in (r.0, there r.1, r.2, (let f : r.0.mode ≡ suc j + k = r.3 in omega arith), r.4)

paired_one : (name : TransName) (fairness : Fairness) (ms : List Move) (ds : List PlainMode) → AllMatch name 1 ms ds → Paired ms (transition name fairness ds ∷ [])
paired_one name fairness ms ds h = record {
  mode_of = λ m i.
      let r = match_at name 1 ms ds h m i in
      let e : m.mode ≡ suc r.place = let f = r.numbered in omega arith in
      record { transition = transition name fairness ds; is_in = here refl; name_is = r.name_is; place = r.place; mode = r.mode; placed = r.placed; numbered = e; matches = r.matches };
  move_of = λ t i k d q. by_member t i k d q;
}
  where
    by_member : (t : PlainTransition) → Member t (transition name fairness ds ∷ []) → (k : ℕ) (d : PlainMode) → slice_get t.modes k ≡ Some d → MoveOf ms t k d
    by_member t (here e) k d q =
        let r = at_match name 1 ms ds h k d (subst (λ z. slice_get z.modes k ≡ Some d) e q) in
        record { move = r.0; is_in = r.1; name_is = sym r.2 ∙ sym (ap (λ z. z.name) e); numbered = (let f : r.0.mode ≡ 1 + k = r.3 in omega arith); matches = r.4 }
    by_member t (there i) k d q = member_none i

paired_none : Paired [] []
paired_none = record { mode_of = λ m i. member_none i; move_of = λ t i k d q. member_none i }

paired_both : (ms ns : List Move) (ts us : List PlainTransition) → Paired ms ts → Paired ns us → Paired (ms ++ ns) (ts ++ us)
paired_both ms ns ts us a b = record {
  mode_of = λ m i. either (member_cases ms i)
      (λ i. let r = a.mode_of m i in record { transition = r.transition; is_in = member_left _ r.is_in; name_is = r.name_is; place = r.place; mode = r.mode; placed = r.placed; numbered = r.numbered; matches = r.matches })
      (λ i. let r = b.mode_of m i in record { transition = r.transition; is_in = member_right ts r.is_in; name_is = r.name_is; place = r.place; mode = r.mode; placed = r.placed; numbered = r.numbered; matches = r.matches });
  move_of = λ t i k d q. either (member_cases ts i)
      (λ i. let r = a.move_of t i k d q in record { move = r.move; is_in = member_left _ r.is_in; name_is = r.name_is; numbered = r.numbered; matches = r.matches })
      (λ i. let r = b.move_of t i k d q in record { move = r.move; is_in = member_right ms r.is_in; name_is = r.name_is; numbered = r.numbered; matches = r.matches });
}

-- a mode that changes no variable
passes : (o mode l next : ℕ) (guard : Formula) (allowed : Store → Bool) → ((s : Store) (here : ℕ → Bool) → formulas.truth (situation s here) guard ≡ allowed s) → Matches (move o mode l next allowed same) (passing (l ∷ []) guard (next ∷ []))
passes o mode l next guard allowed g =
    record { at_is = refl; leaves_is = refl; enters_is = refl; guard_is = g; numbers_is = λ s h v. refl; truths_is = λ s place h v. refl }

gives : (o l next : ℕ) (guard : Formula) (allowed : Store → Bool) (xs : List (ℕ × Term)) → Plainly xs → ((s : Store) (here : ℕ → Bool) → formulas.truth (situation s here) guard ≡ allowed s) → Matches (move o 1 l next allowed (assigned xs)) (giving l guard xs next)
gives o l next guard allowed xs h g = record {
  at_is = refl;
  leaves_is = refl;
  enters_is = refl;
  guard_is = g;
  numbers_is = λ s e v. numbers-given xs h s v;
  truths_is = λ s place e v. truths-given xs h s place v;
}

blind_test : (vs : List Variable) (t : Formula) → TestFits vs t → (s : Store) (here : ℕ → Bool) → formulas.truth (situation s here) t ≡ holds t s
blind_test vs t h s place = blind vs _ t h s place (λ l. false)

tests_match : (vs : List Variable) (o l : ℕ) (t : Formula) (a b : ℕ) → TestFits vs t → AllMatch (Step o Whole) 1 (test_moves o l t a b) (passing (l ∷ []) t (a ∷ []) ∷ passing (l ∷ []) (negation t) (b ∷ []) ∷ [])
tests_match vs o l t a b h =
    (refl, refl, passes o 1 l a t (holds t) (blind_test vs t h), (refl, refl, passes o 2 l b (negation t) (λ s. not (holds t s)) (λ s place. ap not (blind_test vs t h s place)), tt))

-- the paths of a group are plain
abbrev AllPlain : List (List Link) → Type 0
AllPlain [] = Unit {0}
AllPlain (path ∷ paths) = PlainPath path × AllPlain paths

plain_append : (xs ys : List (List Link)) → AllPlain xs → AllPlain ys → AllPlain (xs ++ ys)
plain_append [] ys a b = b
plain_append (x ∷ xs) ys a b = (a.0, plain_append xs ys a.1 b)

plain_first : (link : Link) (xs : List (List Link)) → PlainLink link → AllPlain xs → AllPlain (map (λ path. link ∷ path) xs)
plain_first link [] h a = tt
plain_first link (x ∷ xs) h a = ((h, a.0), plain_first link xs h a.1)

plain_path : (p q : List Link) → PlainPath p → PlainPath q → PlainPath (p ++ q)
plain_path [] q a b = b
plain_path (link ∷ p) q a b = (a.0, plain_path p q a.1 b)

plain_each : (p : List Link) (ys : List (List Link)) → PlainPath p → AllPlain ys → AllPlain (map (λ further. p ++ further) ys)
plain_each p [] a b = tt
plain_each p (y ∷ ys) a b = (plain_path p y a b.0, plain_each p ys a b.1)

plain_all : (xs ys : List (List Link)) → AllPlain xs → AllPlain ys → AllPlain (flat_map (λ path. map (λ further. path ++ further) ys) xs)
plain_all [] ys a b = tt
plain_all (x ∷ xs) ys a b = plain_append (map (λ further. x ++ further) ys) _ (plain_each x ys a.0 b) (plain_all xs ys a.1 b)

mutual
  plain_piece : (vs : List Variable) (x : Piece) → PieceFits vs x → AllPlain (paths x)
  plain_piece vs piece_skip h = (tt, tt)
  plain_piece vs (piece_assign xs) h = ((plainly vs xs h, tt), tt)
  plain_piece vs (piece_await t) h = ((blind vs _ t h, tt), tt)
  plain_piece vs (piece_if t y n) h =
      plain_append (map (λ path. tested t true ∷ path) (paths_along y)) _
      (plain_first (tested t true) (paths_along y) (blind vs _ t h.0) (plain_pieces vs y h.1))
      (plain_first (tested t false) (paths_along n) (blind vs _ t h.0) (plain_pieces vs n h.2))

  plain_pieces : (vs : List Variable) (xs : Pieces) → PiecesFit vs xs → AllPlain (paths_along xs)
  plain_pieces vs no_piece h = (tt, tt)
  plain_pieces vs (piece x xs) h = plain_all (paths x) (paths_along xs) (plain_piece vs x h.0) (plain_pieces vs xs h.1)

-- a path that amounts to something
path_matches : (o l k next : ℕ) (path : List Link) (c : Composed) → PlainPath path → composed path nothing_composed ≡ Some c
    → Matches (move o k l next (λ s. is_some (walked path s)) (λ s. unwrap_or (walked path s) s)) (moving (l ∷ []) (every (listed c.tests)) c.numbers c.truths (next ∷ []))
path_matches o l k next path c h q =
    let means = λ (s : Store). amounts path h s s nothing_composed c (nothing_stands s) q in
    record {
      at_is = refl;
      leaves_is = refl;
      enters_is = refl;
      guard_is = λ s place. (means s).walks place;
      numbers_is = λ s e v. (let t = walks_to s e in let left : t.0 ≡ unwrap_or (walked path s) s = sym (ap (λ z. unwrap_or z s) t.1) in subst (λ z. changed s.numbers c.numbers v ≡ z.numbers v) left (((means s).stands t.0 t.1).numbers v));
      truths_is = λ s place e v. (let t = walks_to s e in let left : t.0 ≡ unwrap_or (walked path s) s = sym (ap (λ z. unwrap_or z s) t.1) in subst (λ z. formulas.truth (situation s place) (truth_for v c.truths) ≡ z.truths v) left (((means s).stands t.0 t.1).truths place v));
    }
  where
    walks_to : (s : Store) → is_some (walked path s) ≡ true → (t : Store) × (walked path s ≡ Some t)
    walks_to s e = at_end (walked path s) refl e
      where
        at_end : (w : Option Store) → walked path s ≡ w → is_some w ≡ true → (t : Store) × (walked path s ≡ Some t)
        at_end None r e = cc
        at_end (Some t) r e = (t, r)

paths_match : (o l k next : ℕ) (paths : List (List Link)) → AllPlain paths → ((path : List Link) → Member path paths → IsSome (composed path nothing_composed)) → AllMatch (Step o Whole) k (path_moves o l k paths next) (path_modes l paths next)
paths_match o l k next [] h small = tt
paths_match o l k next (path ∷ paths) h small = at_composed (composed path nothing_composed) refl (small path (here refl)) (paths_match o l (suc k) next paths h.1 (λ q i. small q (there i)))
  where
    at_composed : (c : Option Composed) → composed path nothing_composed ≡ c → IsSome c → AllMatch (Step o Whole) (suc k) (path_moves o l (suc k) paths next) (path_modes l paths next)
        → AllMatch (Step o Whole) k (path_moves o l k (path ∷ paths) next) (path_mode l c next ++ path_modes l paths next)
    at_composed None q some rest = absurd (cc)
    at_composed (Some c) q some rest = (refl, refl, path_matches o l k next path c h.0 q, rest)

pub paired : (vs : List Variable) (a : Action) (o l next : ℕ) → ActionFits vs a → Paired (own_moves a o l next) (own_transitions a o l next)
paired vs skip o l next h = paired_one (Step o Whole) Just _ _ (refl, refl, passes o 1 l next always allowed_always (λ s place. refl), tt)
paired vs critical o l next h = paired_one (Step o Whole) Just _ _ (refl, refl, passes o 1 l next always allowed_always (λ s place. refl), tt)
paired vs noncritical o l next h = paired_one (Step o Whole) Unfair _ _ (refl, refl, passes o 1 l next always allowed_always (λ s place. refl), tt)
paired vs (assign xs) o l next h = paired_one (Step o Whole) Just _ _ (refl, refl, gives o l next always allowed_always xs (plainly vs xs h) (λ s place. refl), tt)
paired vs (await t) o l next h = paired_one (Step o Whole) Just _ _ (refl, refl, passes o 1 l next t (holds t) (blind_test vs t h), tt)
paired vs (request v) o l next h =
    paired_one (Step o Whole) Compassionate _ _ (refl, refl, gives o l next (row (one_less v)) (holds (row (one_less v))) ((v, number (one_less v)) ∷ []) (tt, tt, tt) (λ s place. refl), tt)
paired vs (release v) o l next h =
    paired_one (Step o Whole) Just _ _ (refl, refl, gives o l next always allowed_always ((v, number (one_more v)) ∷ []) (tt, tt, tt) (λ s place. refl), tt)
paired vs (if_then t y) o l next h = paired_one (Step o Whole) Just _ _ (tests_match vs o l t (location y) next h)
paired vs (if_else t y n) o l next h = paired_one (Step o Whole) Just _ _ (tests_match vs o l t (location y) (location n) h)
paired vs (while_do t b) o l next h = paired_one (Step o Whole) Just _ _ (tests_match vs o l t (location b) next h)
paired vs (block ss) o l next h = paired_none
paired vs (select ss) o l next h = paired_none
paired vs (cooperate ps) o l next h =
    paired_both _ _ _ _
    (paired_one (Step o Entry) Just (record { name = Step o Entry; mode = 1; from = l ∷ []; to = starts ps; allowed = allowed_always; result = same } ∷ []) _ (refl, refl, record { at_is = refl; leaves_is = refl; enters_is = refl; guard_is = λ s place. refl; numbers_is = λ s e v. refl; truths_is = λ s place e v. refl }, tt))
    (paired_one (Step o Exit) Just (record { name = Step o Exit; mode = 1; from = ends ps; to = next ∷ []; allowed = allowed_always; result = same } ∷ []) _ (refl, refl, record { at_is = refl; leaves_is = refl; enters_is = refl; guard_is = λ s place. refl; numbers_is = λ s e v. refl; truths_is = λ s place e v. refl }, tt))
paired vs (group xs) o l next h = paired_one (Step o Whole) Just _ _ (paths_match o l 1 next (paths_along xs) (plain_pieces vs xs h.0) h.1.small)
