-- What each move comes from, and that a name and a mode belong to one move.
use Rattle.std.proofs.Common.{◌≡◌, ℕ, suc, ◌≤◌, Bool, true, false, List, [], ◌∷◌, Option, Some, None, refl, sym, ap, ◌∙◌, subst, ◌⊎◌, inl, inr, arith}
use Rattle.std.specs.Prelude.{not, is_some, unwrap_or, flat_map, if◌then◌else◌}
use Rattle.st_form.specs.Formula.{Formula, row}
use Rattle.st_form.specs.declared.conditions.Part.{Part}
use Rattle.st_form.specs.declared.conditions.Part.TheVariants.{Whole, Entry, Exit}
use Rattle.st_form.specs.declared.conditions.TransName.{TransName}
use Rattle.st_form.specs.declared.conditions.TransName.TheVariants.{Step}
use Rattle.st_program.specs.Tree.{number, Statement, stated, Action, skip, critical, noncritical, assign, await, request, release, if_then, if_else, while_do, block, select, cooperate, group, Processes, occurrence, location, action}
use Rattle.st_program.specs.Member.{Member, here, there}
use Rattle.observations.specs.declared.Fairness.{Fairness}
use Rattle.observations.specs.declared.Fairness.TheVariants.{Unfair, Just, Compassionate}
use Rattle.st_program.specs.Spots.{Spot, all_spots}
use Rattle.st_program.specs.Groups.{Link, paths_along}
use Rattle.st_program.specs.Residuals.{Rest, Done, Run, Again, Inside}
use Rattle.spl_semantics.specs.Stores.{Store, holds, assigned, walked, one_less, one_more}
use Rattle.spl_semantics.specs.Steps.{path_act, path_acts, first_acts}
use Rattle.spl_semantics.specs.Going.{Act, act, begin}
use Rattle.spl_semantics.specs.Names.{own_names, all_names}
use Rattle.spl_semantics.specs.Control.{ends}
use Rattle.spl_semantics.proofs.TextMoves.{Move, test_moves, path_moves, own_moves, spot_moves, all_moves}
use Rattle.spl_semantics.proofs.Members.{member_none, member_left, member_right, member_cases}
use Rattle.basic_laws.proofs.Types.{either}
use Rattle.spl_semantics.proofs.Fits.{IsActing}

-- an act of the statement that the move is
pub record FromAct (s : Statement) (c : ℕ) (store : Store) (m : Move) : Type 0 where
  pub act : Act Rest
  pub is_in : Member act (first_acts s c store)
  pub acting : IsActing s
  pub from_is : m.from ≡ location s ∷ []
  pub name : act.name ≡ m.name
  pub mode : act.mode ≡ m.mode
  pub store_is : act.store ≡ m.result store

-- the exit of a cooperation
pub record FromExit (s : Statement) (m : Move) : Type 0 where
  pub o : ℕ
  pub l : ℕ
  pub children : Processes
  pub stmt : s ≡ stated o l (cooperate children)
  pub name : Step o Exit ≡ m.name
  pub mode : 1 ≡ m.mode
  pub from_is : m.from ≡ ends children
  pub result_is : (store : Store) → m.result store ≡ store

not_false : (b : Bool) → not b ≡ true → b ≡ false
not_false true q = cc
not_false false q = refl

module _ (store : Store) (m : Move) (allowed : m.allowed store ≡ true) where
  -- the move is this one, which an act of the statement is
  single : (s : Statement) (c : ℕ) (n : Move) → m ≡ n → IsActing s → n.from ≡ location s ∷ [] → (a : Act Rest) → (n.allowed store ≡ true → Member a (first_acts s c store)) → a.name ≡ n.name → a.mode ≡ n.mode → a.store ≡ n.result store → FromAct s c store m
  single s c n q acting from a i nm md st =
      subst (FromAct s c store) (sym q) record {
        act = a;
        is_in = i (subst (λ z. z.allowed store ≡ true) q allowed);
        acting = acting;
        from_is = from;
        name = nm;
        mode = md;
        store_is = st;
      }

  by_true : (b : Bool) (x y : List (Act Rest)) (a : Act Rest) → Member a x → b ≡ true → Member a (if b then x else y)
  by_true b x y a i q = subst (λ z. Member a (if z then x else y)) (sym q) i

  by_false : (b : Bool) (x y : List (Act Rest)) (a : Act Rest) → Member a y → not b ≡ true → Member a (if b then x else y)
  by_false b x y a i q = subst (λ z. Member a (if z then x else y)) (sym (not_false b q)) i

  -- the act of a path that can be walked
  pub record PathAct (o l c k : ℕ) (paths : List (List Link)) : Type 0 where
    pub act : Act Rest
    pub is_in : Member act (path_acts o k paths store)
    pub from_is : m.from ≡ l ∷ []
    pub name : act.name ≡ m.name
    pub mode : act.mode ≡ m.mode
    pub store_is : act.store ≡ m.result store

  path_origin : (o l c k next : ℕ) (paths : List (List Link)) → Member m (path_moves o l k paths next) → PathAct o l c k paths
  path_origin o l c k next [] i = member_none i
  path_origin o l c k next (path ∷ paths) (here q) = at_path (walked path store) refl (subst (λ z. z.allowed store ≡ true) q allowed)
    where
      at_path : (w : Option Store) → walked path store ≡ w → is_some (walked path store) ≡ true → PathAct o l c k (path ∷ paths)
      at_path None e g = let h : is_some (walked path store) ≡ false = ap is_some e in cc
      at_path (Some t) e g = record {
        act = act (Step o Whole) k Done t;
        is_in = member_left _ (subst (λ z. Member (act (Step o Whole) k Done t) (path_act o k z)) (sym e) (here refl));
        from_is = ap (λ z. z.from) q;
        name = sym (ap (λ z. z.name) q);
        mode = sym (ap (λ z. z.mode) q);
        store_is = sym (ap (λ z. unwrap_or z store) e) ∙ sym (ap (λ z. z.result store) q);
      }
  path_origin o l c k next (path ∷ paths) (there i) =
      let r = path_origin o l c (suc k) next paths i in
      record {
        act = r.act;
        is_in = member_right (path_act o k (walked path store)) r.is_in;
        from_is = r.from_is;
        name = r.name;
        mode = r.mode;
        store_is = r.store_is;
      }

  pub origin : (s : Statement) (n c : ℕ) → Member m (own_moves (action s) (occurrence s) (location s) n) → FromAct s c store m ⊎ FromExit s m
  origin (stated o l skip) n c (here q) = inl (single _ c _ q tt refl (act (Step o Whole) 1 Done store) (λ g. here refl) refl refl refl)
  origin (stated o l skip) n c (there i) = member_none i
  origin (stated o l critical) n c (here q) = inl (single _ c _ q tt refl (act (Step o Whole) 1 Done store) (λ g. here refl) refl refl refl)
  origin (stated o l critical) n c (there i) = member_none i
  origin (stated o l noncritical) n c (here q) = inl (single _ c _ q tt refl (act (Step o Whole) 1 Done store) (λ g. here refl) refl refl refl)
  origin (stated o l noncritical) n c (there i) = member_none i
  origin (stated o l (assign xs)) n c (here q) = inl (single _ c _ q tt refl (act (Step o Whole) 1 Done (assigned xs store)) (λ g. here refl) refl refl refl)
  origin (stated o l (assign xs)) n c (there i) = member_none i
  origin (stated o l (release v)) n c (here q) =
      inl (single _ c _ q tt refl (act (Step o Whole) 1 Done (assigned ((v, number (one_more v)) ∷ []) store)) (λ g. here refl) refl refl refl)
  origin (stated o l (release v)) n c (there i) = member_none i
  origin (stated o l (await t)) n c (here q) =
      inl (single _ c _ q tt refl (act (Step o Whole) 1 Done store) (λ g. by_true (holds t store) _ _ _ (here refl) g) refl refl refl)
  origin (stated o l (await t)) n c (there i) = member_none i
  origin (stated o l (request v)) n c (here q) =
      inl (single _ c _ q tt refl (act (Step o Whole) 1 Done (assigned ((v, number (one_less v)) ∷ []) store)) (λ g. by_true (holds (row (one_less v)) store) _ _ _ (here refl) g) refl refl refl)
  origin (stated o l (request v)) n c (there i) = member_none i
  origin (stated o l (if_then t y)) n c (here q) =
      inl (single _ c _ q tt refl (act (Step o Whole) 1 (Run (occurrence y)) store) (λ g. by_true (holds t store) _ _ _ (here refl) g) refl refl refl)
  origin (stated o l (if_then t y)) n c (there (here q)) =
      inl (single _ c _ q tt refl (act (Step o Whole) 2 Done store) (λ g. by_false (holds t store) _ _ _ (here refl) g) refl refl refl)
  origin (stated o l (if_then t y)) n c (there (there i)) = member_none i
  origin (stated o l (if_else t y z)) n c (here q) =
      inl (single _ c _ q tt refl (act (Step o Whole) 1 (Run (occurrence y)) store) (λ g. by_true (holds t store) _ _ _ (here refl) g) refl refl refl)
  origin (stated o l (if_else t y z)) n c (there (here q)) =
      inl (single _ c _ q tt refl (act (Step o Whole) 2 (Run (occurrence z)) store) (λ g. by_false (holds t store) _ _ _ (here refl) g) refl refl refl)
  origin (stated o l (if_else t y z)) n c (there (there i)) = member_none i
  origin (stated o l (while_do t b)) n c (here q) =
      inl (single _ c _ q tt refl (act (Step o Whole) 1 (Again (Run (occurrence b)) o) store) (λ g. by_true (holds t store) _ _ _ (here refl) g) refl refl refl)
  origin (stated o l (while_do t b)) n c (there (here q)) =
      inl (single _ c _ q tt refl (act (Step o Whole) 2 Done store) (λ g. by_false (holds t store) _ _ _ (here refl) g) refl refl refl)
  origin (stated o l (while_do t b)) n c (there (there i)) = member_none i
  origin (stated o l (block ss)) n c i = member_none i
  origin (stated o l (select ss)) n c i = member_none i
  origin (stated o l (cooperate ps)) n c (here q) = inl (single _ c _ q tt refl (act (Step o Entry) 1 (Inside o (begin ps c)) store) (λ g. here refl) refl refl refl)
  origin (stated o l (cooperate ps)) n c (there (here q)) = inr record {
    o = o;
    l = l;
    children = ps;
    stmt = refl;
    name = sym (ap (λ z. z.name) q);
    mode = sym (ap (λ z. z.mode) q);
    from_is = ap (λ z. z.from) q;
    result_is = λ t. ap (λ z. z.result t) q;
  }
  origin (stated o l (cooperate ps)) n c (there (there i)) = member_none i
  origin (stated o l (group xs)) n c i =
      let r = path_origin o l c 1 n (paths_along xs) i in
      inl record { act = r.act; is_in = r.is_in; acting = tt; from_is = r.from_is; name = r.name; mode = r.mode; store_is = r.store_is }

pub move_of : (m : Move) (xs : List Spot) → Member m (all_moves xs) → (x : Spot) × Member x xs × Member m (spot_moves x)
move_of m [] i = member_none i
move_of m (x ∷ xs) i =
    either (member_cases (spot_moves x) i) (λ i. (x, here refl, i)) (λ i. let r = move_of m xs i in (r.0, there r.1, r.2))

-- a name of the statement o
abbrev pub IsNameOf : ℕ → TransName → Type 0
IsNameOf o name = (part : Part) × (name ≡ Step o part)

one_name : (o : ℕ) (m n : Move) (part : Part) → n.name ≡ Step o part → m ≡ n → IsNameOf o m.name
one_name o m n part e q = (part, ap (λ z. z.name) q ∙ e)

path_name : (o l k next : ℕ) (paths : List (List Link)) (m : Move) → Member m (path_moves o l k paths next) → IsNameOf o m.name
path_name o l k next [] m i = member_none i
path_name o l k next (path ∷ paths) m (here q) = one_name o m _ Whole refl q
path_name o l k next (path ∷ paths) m (there i) = path_name o l (suc k) next paths m i

two_names : (o l : ℕ) (t : Formula) (yes_to no_to : ℕ) (m : Move) → Member m (test_moves o l t yes_to no_to) → IsNameOf o m.name
two_names o l t yes_to no_to m (here q) = one_name o m _ Whole refl q
two_names o l t yes_to no_to m (there (here q)) = one_name o m _ Whole refl q
two_names o l t yes_to no_to m (there (there i)) = member_none i

one_of_one : {m n : Move} → Member m (n ∷ []) → m ≡ n
one_of_one (here q) = q
one_of_one (there i) = member_none i

pub own_name : (a : Action) (o l n : ℕ) (m : Move) → Member m (own_moves a o l n) → IsNameOf o m.name
own_name (if_then t y) o l n m i = two_names o l t _ _ m i
own_name (if_else t y z) o l n m i = two_names o l t _ _ m i
own_name (while_do t b) o l n m i = two_names o l t _ _ m i
own_name (block ss) o l n m i = member_none i
own_name (select ss) o l n m i = member_none i
own_name (cooperate ps) o l n m (here q) = one_name o m _ Entry refl q
own_name (cooperate ps) o l n m (there (here q)) = one_name o m _ Exit refl q
own_name (cooperate ps) o l n m (there (there i)) = member_none i
own_name (group xs) o l n m i = path_name o l 1 n (paths_along xs) m i
own_name skip o l n m i = one_name o m _ Whole refl (one_of_one i)
own_name _ o l n m i = one_name o m _ Whole refl (one_of_one i)

both : {m n x : Move} → Member m (x ∷ []) → Member n (x ∷ []) → m ≡ n
both a b = one_of_one a ∙ sym (one_of_one b)

two_once : (o l : ℕ) (t : Formula) (yes_to no_to : ℕ) (m n : Move) → Member m (test_moves o l t yes_to no_to) → Member n (test_moves o l t yes_to no_to) → m.mode ≡ n.mode → m ≡ n
two_once o l t yes_to no_to m n (here q) (here r) e = q ∙ sym r
two_once o l t yes_to no_to m n (here q) (there (here r)) e = let f : 1 ≡ 2 = sym (ap (λ z. z.mode) q) ∙ e ∙ ap (λ z. z.mode) r in absurd (omega (arith, f))
two_once o l t yes_to no_to m n (here q) (there (there j)) e = member_none j
two_once o l t yes_to no_to m n (there (here q)) (here r) e = let f : 2 ≡ 1 = sym (ap (λ z. z.mode) q) ∙ e ∙ ap (λ z. z.mode) r in absurd (omega (arith, f))
two_once o l t yes_to no_to m n (there (here q)) (there (here r)) e = q ∙ sym r
two_once o l t yes_to no_to m n (there (here q)) (there (there j)) e = member_none j
two_once o l t yes_to no_to m n (there (there i)) j e = member_none i

path_mode : (o l k next : ℕ) (paths : List (List Link)) (m : Move) → Member m (path_moves o l k paths next) → k ≤ m.mode
path_mode o l k next [] m i = member_none i
path_mode o l k next (path ∷ paths) m (here q) = let e : m.mode ≡ k = ap (λ z. z.mode) q in omega arith
path_mode o l k next (path ∷ paths) m (there i) = let h = path_mode o l (suc k) next paths m i in omega arith

path_once : (o l k next : ℕ) (paths : List (List Link)) (m n : Move) → Member m (path_moves o l k paths next) → Member n (path_moves o l k paths next) → m.mode ≡ n.mode → m ≡ n
path_once o l k next [] m n i j e = member_none i
path_once o l k next (path ∷ paths) m n (here q) (here r) e = q ∙ sym r
path_once o l k next (path ∷ paths) m n (here q) (there j) e =
    let f : m.mode ≡ k = ap (λ z. z.mode) q in let h = path_mode o l (suc k) next paths n j in absurd (omega arith)
path_once o l k next (path ∷ paths) m n (there i) (here r) e =
    let f : n.mode ≡ k = ap (λ z. z.mode) r in let h = path_mode o l (suc k) next paths m i in absurd (omega arith)
path_once o l k next (path ∷ paths) m n (there i) (there j) e = path_once o l (suc k) next paths m n i j e

entry_or_exit : (o : ℕ) (ps : Processes) (l next : ℕ) (m n : Move) → Member m (own_moves (cooperate ps) o l next) → Member n (own_moves (cooperate ps) o l next) → m.name ≡ n.name → m ≡ n
entry_or_exit o ps l next m n (here q) (here r) e = q ∙ sym r
entry_or_exit o ps l next m n (here q) (there (here r)) e = let f : Step o Entry ≡ Step o Exit = sym (ap (λ z. z.name) q) ∙ e ∙ ap (λ z. z.name) r in cc
entry_or_exit o ps l next m n (here q) (there (there j)) e = member_none j
entry_or_exit o ps l next m n (there (here q)) (here r) e = let f : Step o Exit ≡ Step o Entry = sym (ap (λ z. z.name) q) ∙ e ∙ ap (λ z. z.name) r in cc
entry_or_exit o ps l next m n (there (here q)) (there (here r)) e = q ∙ sym r
entry_or_exit o ps l next m n (there (here q)) (there (there j)) e = member_none j
entry_or_exit o ps l next m n (there (there i)) j e = member_none i

pub own_once : (a : Action) (o l next : ℕ) (m n : Move) → Member m (own_moves a o l next) → Member n (own_moves a o l next) → m.name ≡ n.name → m.mode ≡ n.mode → m ≡ n
own_once (if_then t y) o l next m n i j e f = two_once o l t _ _ m n i j f
own_once (if_else t y z) o l next m n i j e f = two_once o l t _ _ m n i j f
own_once (while_do t b) o l next m n i j e f = two_once o l t _ _ m n i j f
own_once (block ss) o l next m n i j e f = member_none i
own_once (select ss) o l next m n i j e f = member_none i
own_once (cooperate ps) o l next m n i j e f = entry_or_exit o ps l next m n i j e
own_once (group xs) o l next m n i j e f = path_once o l 1 next (paths_along xs) m n i j f
own_once skip o l next m n i j e f = both i j
own_once _ o l next m n i j e f = both i j

same_occurrence : (o n : ℕ) (q r : Part) → Step o q ≡ Step n r → o ≡ n
same_occurrence o n q r e = cc

-- moves with one name come from statements with one occurrence
pub same_statement : (x y : Spot) (m n : Move) → Member m (spot_moves x) → Member n (spot_moves y) → m.name ≡ n.name → occurrence x.stmt ≡ occurrence y.stmt
same_statement x y m n i j e =
    let a = own_name (action x.stmt) (occurrence x.stmt) (location x.stmt) x.next m i in
    let b = own_name (action y.stmt) (occurrence y.stmt) (location y.stmt) y.next n j in
    same_occurrence (occurrence x.stmt) (occurrence y.stmt) a.0 b.0 (sym a.1 ∙ e ∙ b.1)

-- the name of a move is one of its statement's names
own_named : (a : Action) (o l n : ℕ) (m : Move) → Member m (own_moves a o l n) → (x : TransName × Fairness) × Member x (own_names a o) × (x.0 ≡ m.name)
own_named noncritical o l n m i = ((Step o Whole, Unfair), here refl, sym (ap (λ z. z.name) (one_of_one i)))
own_named (request v) o l n m i = ((Step o Whole, Compassionate), here refl, sym (ap (λ z. z.name) (one_of_one i)))
own_named (if_then t y) o l n m i = ((Step o Whole, Just), here refl, sym (test_name i))
  where
    test_name : Member m (test_moves o l t (location y) n) → m.name ≡ Step o Whole
    test_name (here q) = ap (λ z. z.name) q
    test_name (there (here q)) = ap (λ z. z.name) q
    test_name (there (there j)) = member_none j
own_named (if_else t y z) o l n m i = ((Step o Whole, Just), here refl, sym (test_name i))
  where
    test_name : Member m (test_moves o l t (location y) (location z)) → m.name ≡ Step o Whole
    test_name (here q) = ap (λ z. z.name) q
    test_name (there (here q)) = ap (λ z. z.name) q
    test_name (there (there j)) = member_none j
own_named (while_do t b) o l n m i = ((Step o Whole, Just), here refl, sym (test_name i))
  where
    test_name : Member m (test_moves o l t (location b) n) → m.name ≡ Step o Whole
    test_name (here q) = ap (λ z. z.name) q
    test_name (there (here q)) = ap (λ z. z.name) q
    test_name (there (there j)) = member_none j
own_named (block ss) o l n m i = member_none i
own_named (select ss) o l n m i = member_none i
own_named (cooperate ps) o l n m (here q) = ((Step o Entry, Just), here refl, sym (ap (λ z. z.name) q))
own_named (cooperate ps) o l n m (there (here q)) = ((Step o Exit, Just), there (here refl), sym (ap (λ z. z.name) q))
own_named (cooperate ps) o l n m (there (there i)) = member_none i
own_named (group xs) o l n m i = ((Step o Whole, Just), here refl, sym (path_named 1 (paths_along xs) i))
  where
    path_named : (k : ℕ) (paths : List (List Link)) → Member m (path_moves o l k paths n) → m.name ≡ Step o Whole
    path_named k [] i = member_none i
    path_named k (path ∷ paths) (here q) = ap (λ z. z.name) q
    path_named k (path ∷ paths) (there i) = path_named (suc k) paths i
own_named skip o l n m i = ((Step o Whole, Just), here refl, sym (ap (λ z. z.name) (one_of_one i)))
own_named _ o l n m i = ((Step o Whole, Just), here refl, sym (ap (λ z. z.name) (one_of_one i)))

among_names : (x : Spot) (n : TransName × Fairness) (xs : List Spot) → Member x xs → Member n (own_names (action x.stmt) (occurrence x.stmt)) → Member n (flat_map (λ x. own_names (action x.stmt) (occurrence x.stmt)) xs)
among_names x n [] h i = member_none h
among_names x n (y ∷ ys) (here q) i = member_left _ (subst (λ z. Member n (own_names (action z.stmt) (occurrence z.stmt))) q i)
among_names x n (y ∷ ys) (there h) i = member_right (own_names (action y.stmt) (occurrence y.stmt)) (among_names x n ys h i)

pub move_named : (p : Processes) (m : Move) → Member m (all_moves (all_spots p)) → (x : TransName × Fairness) × Member x (all_names p) × (x.0 ≡ m.name)
move_named p m i =
    let y = move_of m (all_spots p) i in
    let n = own_named (action y.0.stmt) (occurrence y.0.stmt) (location y.0.stmt) y.0.next m y.2 in
    (n.0, there (among_names y.0 n.0 (all_spots p) y.1 n.1), n.2)
