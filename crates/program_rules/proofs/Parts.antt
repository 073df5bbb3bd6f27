-- The parts of statements are typed to what they stand for, where that uses variables by their types.
use Rattle.std.proofs.Common.{◌≡◌, ◌≢◌, ℕ, suc, Bool, true, false, cond, nat_eq, List, [], ◌∷◌, ◌++◌, length, append-nil, append_assoc, slice_get, refl, sym, ap, subst, ◌∙◌, Option, Some, None, Result, Ok, Err, arith}
use Rattle.std.proofs.lemmas.Bool.Decides.{nat_tests}
use Rattle.std.specs.Option.{option_map}
use Rattle.st_form.specs.Formula.{Formula}
use Rattle.st_form.specs.declared.variables.Variable.{Variable}
use Rattle.st_reading.specs.Reading.{Label}
use Rattle.st_program.specs.Tree.{Term, number, truth, Pieces, piece_assign, piece_if, no_piece, piece}
use Rattle.st_program.specs.Types.{is_truth, MayChange, IsNoTarget}
use Rattle.expression_parser.specs.ExpressionTree.{Expr, start_of}
use Rattle.spl_parser.specs.ProgramTree as raw
use Rattle.expression_typer.specs.declared.fault.TypeFault.{TypeFault}
use Rattle.expression_typer.specs.declared.fault.TypeFault.TheVariants as faults
use Rattle.expression_typer.specs.Answers.{◌>>=◌}
use Rattle.expression_typer.specs.Scope.{Known, find}
use Rattle.expression_typer.specs.Rules.{meaning, faults_in}
use Rattle.expression_typer.specs.Told.{Told, IsWritten, IsModest}
use Rattle.expression_typer.specs.Typing.{typed, as_truth}
use Rattle.expression_typer.proofs.Tells.{told}
use Rattle.expression_typer.proofs.Terms.{Scoped, IfKnown, found}
use Rattle.spl_typer.specs.Modest.{AllModest, StatementModest, ActionModest, RowModest}
use Rattle.spl_typer.specs.Shapes.{something, some_statement}
use Rattle.spl_typer.specs.Statements.{tested, writable, target, counting, counter, wanted, right_side, is_target, targets, changes, assigned, pieces_of, pieces_in, pieces_along, pieces_behind, alone, pieces_inside}
use Rattle.program_meaning.specs.Meaning.{IsVariable, IsTest, IsChange, AreChanges, no_change, change, act_of, IsInner, inner_skip, inner_assign, inner_assign_all, inner_await, inner_if, inner_if_else, inner_block, AreInner, no_inner, one_inner}
use Rattle.program_rules.specs.Changes.{MayChangeAll, PiecesAreAllowed}
use Rattle.program_rules.proofs.Passing.{Passes, onward, known_as}

-- EXPRESSIONS
meant : (r : Result Term TypeFault) (fs : List TypeFault) (m : Option Term) (x : Term) → Told IsWritten r fs m → m ≡ Some x → r ≡ Ok x
meant (Ok y) fs m x t e = (let same : Some y ≡ Some x = sym t.1 ∙ e in one y x same)
  where
    one : (a b : Term) → Some a ≡ Some b → ◌≡◌ {A = Result Term TypeFault} (Ok a) (Ok b)
    one a b i = cc
meant (Err f) fs m x t e = absurd (let none : None ≡ Some x = sym t.1 ∙ e in cc)

pub typed_is : (s : List Known) (e : Expr) (x : Term) → IsModest e → meaning s e ≡ Some x → typed s e ≡ Ok x
typed_is s e x m h = meant (typed s e) (faults_in s e) (meaning s e) x (told s e m) h

pub test_is : (s : List Known) (e : Expr) (f : Formula) → IsModest e → IsTest s e f → tested s e ≡ Ok f
test_is s e f m h = ap (λ (r : Result Term TypeFault). r >>= λ x. as_truth (start_of e) x) (typed_is s e (truth f) m h)

-- VARIABLES
some_variable : (o : Option Known) (v : ℕ) → option_map (λ k. k.var) o ≡ Some v → (k : Known) × (o ≡ Some k) × (k.var ≡ v)
some_variable None v e = absurd cc
some_variable (Some k) v e = (k, refl, one k.var v e)
  where
    one : (i j : ℕ) → Some i ≡ Some j → i ≡ j
    one i j h = cc

abbrev input_of : Option Variable → Bool
input_of None = true
input_of (Some x) = x.input

abbrev truth_of : Option Variable → Bool → Bool
truth_of None b = b
truth_of (Some x) b = x.truth

-- a known variable that the program may change
record Target (s : List Known) (n : Label) (v : ℕ) (b : Bool) : Type 0 where
  known : Known
  is : find n.text s ≡ Some known
  var : known.var ≡ v
  input : known.input ≡ false
  kind : known.truth ≡ b

target_of : (vs : List Variable) (s : List Known) (n : Label) (v : ℕ) (b : Bool) → Scoped vs s → IsVariable s n v → MayChange vs v b → Target s n v b
target_of vs s n v b scoped is may =
    let k = some_variable (find n.text s) v is in
    let there : IfKnown vs (Some k.0) = subst (IfKnown vs) k.1 (found vs n.text s scoped) in
    let same : ◌≡◌ {A = Option Variable} (Some (record { input = k.0.input; truth = k.0.truth })) (Some (record { input = false; truth = b })) = sym there ∙ ap (slice_get vs) k.2 ∙ may in
    record { known = k.0; is = k.1; var = k.2; input = ap input_of same; kind = ap (λ o. truth_of o b) same }

written : (place : ℕ) (k : Known) (b : Bool) → b ≡ false → cond b (Err (faults.InputAssigned place)) (Ok k) ≡ Ok k
written place k false e = refl
written place k true e = absurd cc

target_is : (s : List Known) (n : Label) (v : ℕ) (b : Bool) → (t : Target s n v b) → target s n ≡ Ok t.known
target_is s n v b t = ap (writable n.place) t.is ∙ written n.place t.known t.known.input t.input

counted : (place : ℕ) (v : ℕ) (a b : Bool) → a ≡ false → b ≡ false → cond a (Err (faults.WrongType place)) (cond b (Err (faults.InputAssigned place)) (Ok v)) ≡ Ok v
counted place v false false e f = refl
counted place v true b e f = absurd cc
counted place v false true e f = absurd cc

pub counter_is : (vs : List Variable) (s : List Known) (n : Label) (v : ℕ) → Scoped vs s → IsVariable s n v → MayChange vs v false → counter s n ≡ Ok v
counter_is vs s n v scoped is may =
    let t = target_of vs s n v false scoped is may in
    ap (counting n.place) t.is ∙ counted n.place t.known.var t.known.truth t.known.input t.kind t.input ∙ ap Ok t.var

-- RIGHT SIDES
wanted_is : (b : Bool) (place : ℕ) (x : Term) → b ≡ is_truth x → wanted b place x ≡ Ok x
wanted_is true place (truth f) e = refl
wanted_is false place (number f) e = refl
wanted_is true place (number f) e = absurd cc
wanted_is false place (truth f) e = absurd cc

pair_of : (v w : ℕ) (x : Term) → v ≡ w → ◌≡◌ {A = ℕ × Term} (v, x) (w, x)
pair_of v w x e = λ i. (e i, x)

side_is : (s : List Known) (k : Known) (e : Expr) (x : ℕ × Term) → IsModest e → meaning s e ≡ Some x.1 → k.var ≡ x.0 → k.truth ≡ is_truth x.1 → right_side s k e ≡ Ok x
side_is s k e x m h v b =
    ap (λ (r : Result Term TypeFault). r >>= λ y. wanted k.truth (start_of e) y >>= λ w. Ok (k.var, w)) (typed_is s e x.1 m h)
    ∙ ap (λ (r : Result Term TypeFault). r >>= λ w. Ok (k.var, w)) (wanted_is k.truth (start_of e) x.1 b) ∙ ap Ok (pair_of k.var x.0 x.1 v)

pub assign_is : {B : Type 0} (vs : List Variable) (s : List Known) (n : Label) (e : Expr) (x : ℕ × Term) (go : ℕ × Term → Result B TypeFault)
    → Scoped vs s → IsModest e → IsChange s n e x → MayChangeAll vs (x ∷ []) → (target s n >>= λ k. right_side s k e >>= λ y. go y) ≡ go x
assign_is vs s n e x go scoped m h fits =
    let t = target_of vs s n x.0 (is_truth x.1) scoped h.0 fits.0 in
    ap (λ (r : Result Known TypeFault). r >>= λ k. right_side s k e >>= λ y. go y) (target_is s n x.0 (is_truth x.1) t)
    ∙ ap (λ (r : Result (ℕ × Term) TypeFault). r >>= λ y. go y) (side_is s t.known e x m h.1 t.var t.kind)

-- SEVERAL TARGETS
abbrev Chosen : List Known → List Known → List Label → List (ℕ × Term) → Type 0
Chosen s [] [] [] = Unit {0}
Chosen s (k ∷ ks) (n ∷ ns) (x ∷ xs) = (target s n ≡ Ok k) × (k.var ≡ x.0) × (k.truth ≡ is_truth x.1) × Chosen s ks ns xs
Chosen s _ _ _ = ⊥

chosen : (vs : List Variable) (s : List Known) (ns : List Label) (es : List Expr) (xs : List (ℕ × Term)) → Scoped vs s → AreChanges s ns es xs → MayChangeAll vs xs → (ks : List Known) × Chosen s ks ns xs
chosen vs s ns es xs scoped no_change fits = ([], tt)
chosen vs s ns es xs scoped (change {n = n} {ns = ms} {es = ds} {x = x} {xs = us} h hs) fits =
    let t = target_of vs s n x.0 (is_truth x.1) scoped h.0 fits.0 in
    let more = chosen vs s ms ds us scoped hs fits.2 in
    (t.known ∷ more.0, (target_is s n x.0 (is_truth x.1) t, t.var, t.kind, more.1))

-- none of these is a target yet
abbrev Fresh : List Known → List (ℕ × Term) → Type 0
Fresh done [] = Unit {0}
Fresh done (x ∷ xs) = (is_target x.0 done ≡ false) × Fresh done xs

not_equal : (i j : ℕ) → (j ≢ i) → nat_eq i j ≡ false
not_equal i j h = go (nat_eq i j) refl
  where
    equal : nat_eq i j ≡ true → j ≡ i
    equal e = grind (arith, nat_tests)

    go : (b : Bool) → nat_eq i j ≡ b → b ≡ false
    go false e = refl
    go true e = absurd (h (equal e))

target_push : (v : ℕ) (done : List Known) (k : Known) → is_target v done ≡ false → nat_eq k.var v ≡ false → is_target v (done ++ k ∷ []) ≡ false
target_push v [] k h e = ap (λ b. cond b true false) e
target_push v (j ∷ done) k h e = go (nat_eq j.var v) h (λ i. target_push v done k i e)
  where
    go : (b : Bool) → cond b true (is_target v done) ≡ false → (is_target v done ≡ false → is_target v (done ++ k ∷ []) ≡ false) → cond b true (is_target v (done ++ k ∷ [])) ≡ false
    go true i more = i
    go false i more = more i

fresh_push : (done : List Known) (k : Known) (v : ℕ) (xs : List (ℕ × Term)) → k.var ≡ v → IsNoTarget v xs → Fresh done xs → Fresh (done ++ k ∷ []) xs
fresh_push done k v [] e h f = tt
fresh_push done k v (x ∷ xs) e h f =
    (target_push x.0 done k f.0 (ap (λ i. nat_eq i x.0) e ∙ not_equal v x.0 h.0), fresh_push done k v xs e h.1 f.1)

targets_are : (vs : List Variable) (s done : List Known) (ks : List Known) (ns : List Label) (xs : List (ℕ × Term)) → Chosen s ks ns xs → MayChangeAll vs xs → Fresh done xs → targets s done ns ≡ Ok (done ++ ks)
targets_are vs s done [] [] [] c fits f = ap Ok (sym (append-nil done))
targets_are vs s done (k ∷ ks) (n ∷ ns) (x ∷ xs) c fits f =
    ap (λ (r : Result Known TypeFault). r >>= λ j. cond (is_target j.var done) (Err (faults.SameTarget n.place)) (targets s (done ++ j ∷ []) ns)) c.0
    ∙ ap (λ b. cond b (Err (faults.SameTarget n.place)) (targets s (done ++ k ∷ []) ns)) (ap (λ v. is_target v done) c.1 ∙ f.0)
    ∙ targets_are vs s (done ++ k ∷ []) ks ns xs c.3 fits.2 (fresh_push done k x.0 xs c.1 fits.1 f.1)
    ∙ ap Ok (append_assoc done (k ∷ []) ks)
targets_are vs s done [] [] (x ∷ xs) c fits f = absurd c
targets_are vs s done [] (n ∷ ns) xs c fits f = absurd c
targets_are vs s done (k ∷ ks) [] xs c fits f = absurd c
targets_are vs s done (k ∷ ks) (n ∷ ns) [] c fits f = absurd c

changes_are : (s : List Known) (done : List (ℕ × Term)) (ks : List Known) (ns : List Label) (es : List Expr) (xs : List (ℕ × Term)) → Chosen s ks ns xs → AreChanges s ns es xs → AllModest es → changes s done ks es ≡ Ok (done ++ xs)
changes_are s done [] ns es xs c no_change m = ap Ok (sym (append-nil done))
changes_are s done (k ∷ ks) ns es xs c no_change m = absurd c
changes_are s done [] ns es xs c (change h hs) m = absurd c
changes_are s done (k ∷ ks) ns es xs c (change {n = n} {ns = ms} {e = e} {es = ds} {x = x} {xs = us} h hs) m =
    ap (λ (r : Result (ℕ × Term) TypeFault). r >>= λ y. changes s (done ++ y ∷ []) ks ds) (side_is s k e x m.0 h.1 c.1 c.2)
    ∙ changes_are s (done ++ x ∷ []) ks ms ds us c.3 hs m.1 ∙ ap Ok (append_assoc done (x ∷ []) us)

as_many : (s : List Known) (ns : List Label) (es : List Expr) (xs : List (ℕ × Term)) → AreChanges s ns es xs → nat_eq (length ns) (length es) ≡ true
as_many s ns es xs no_change = refl
as_many s ns es xs (change {ns = ms} {es = ds} {xs = us} h hs) = next (length ms) (length ds) (as_many s ms ds us hs)
  where
    next : (i j : ℕ) → nat_eq i j ≡ true → nat_eq (suc i) (suc j) ≡ true
    next i j e = grind (arith, nat_tests)

no_target : (xs : List (ℕ × Term)) → Fresh [] xs
no_target [] = tt
no_target (x ∷ xs) = (refl, no_target xs)

pub assigned_is : (vs : List Variable) (s : List Known) (ns : List Label) (place : ℕ) (es : List Expr) (xs : List (ℕ × Term)) → Scoped vs s → AllModest es → AreChanges s ns es xs → MayChangeAll vs xs → assigned s ns place es ≡ Ok xs
assigned_is vs s ns place es xs scoped m h fits =
    let k = chosen vs s ns es xs scoped h fits in
    ap (λ (r : Result (List Known) TypeFault). r >>= λ ks. cond (nat_eq (length ns) (length es)) (changes s [] ks es) (Err (faults.WrongType place))) (targets_are vs s [] k.0 ns xs k.1 fits (no_target xs))
    ∙ ap (λ b. cond b (changes s [] k.0 es) (Err (faults.WrongType place))) (as_many s ns es xs h)
    ∙ changes_are s [] k.0 ns es xs k.1 h m

-- GROUPS
fit_apart : (vs : List Variable) (xs ys : Pieces) → PiecesAreAllowed vs (pieces_behind xs ys) → PiecesAreAllowed vs xs × PiecesAreAllowed vs ys
fit_apart vs no_piece ys h = (tt, h)
fit_apart vs (piece x xs) ys h = let k = fit_apart vs xs ys h.1 in ((h.0, k.0), k.1)

abbrev These : Pieces → Pieces → Type 0
These xs ys = ys ≡ xs

pub some_passes : {B : Type 0} (Q : B → Type 0) (b : Bool) (place : ℕ) (k : Unit {0} → Result B TypeFault) → Passes Q (k tt) → Passes Q (something b place >>= k)
some_passes Q true place k h = h
some_passes Q false place k h = λ r. r

abbrev place_of : raw.Statement → ℕ
place_of (raw.stated label place act) = place

modest_act : (x : raw.Statement) → StatementModest x → ActionModest (act_of x)
modest_act (raw.stated label place act) m = m

inner_passes : (s : List Known) (x : raw.Statement) (xs : Pieces) → Passes (These xs) (pieces_in s (place_of x) (act_of x)) → Passes (These xs) (pieces_of s x)
inner_passes s (raw.stated label place act) xs h = h

module _ (vs : List Variable) (s : List Known) (scoped : Scoped vs s) where
  mutual
    act_passes : (place : ℕ) (x : raw.Action) (xs : Pieces) → IsInner s x xs → ActionModest x → PiecesAreAllowed vs xs → Passes (These xs) (pieces_in s place x)
    act_passes place x xs inner_skip m fits = refl
    act_passes place x xs (inner_assign {n = n} {e = e} {x = c} h) m fits =
        subst (Passes (These xs)) (sym (assign_is vs s n e c (λ y. alone (piece_assign (y ∷ []))) scoped m h fits.0)) refl
    act_passes place x xs (inner_assign_all {ns = ns} {place = list} {es = es} {xs = us} h) m fits =
        known_as (These xs) (assigned s ns list es) us (λ ys. alone (piece_assign ys)) (assigned_is vs s ns list es us scoped m h fits.0) refl
    act_passes place x xs (inner_await {e = e} {f = f} h) m fits = known_as (These xs) (tested s e) f _ (test_is s e f m h) refl
    act_passes place x xs (inner_if {e = e} {f = f} {y = y} {ys = us} t h) m fits =
        known_as (These xs) (tested s e) f _ (test_is s e f m.0 t)
        (onward (These us) (These xs) (pieces_of s y) _ (inner_passes s y us (act_passes (place_of y) (act_of y) us h (modest_act y m.1) fits.0.0)) (λ zs i. ap (λ z. piece (piece_if f z no_piece) no_piece) i))
    act_passes place x xs (inner_if_else {e = e} {f = f} {y = y} {n = n} {ys = us} {ns = bs} t h k) m fits =
        known_as (These xs) (tested s e) f _ (test_is s e f m.0 t)
        (onward (These us) (These xs) (pieces_of s y) _ (inner_passes s y us (act_passes (place_of y) (act_of y) us h (modest_act y m.1) fits.0.0))
        (λ zs i. onward (These bs) (These xs) (pieces_of s n) _ (inner_passes s n bs (act_passes (place_of n) (act_of n) bs k (modest_act n m.2) fits.0.1))
        (λ ws j. ap (λ z. piece (piece_if f z ws) no_piece) i ∙ ap (λ z. piece (piece_if f us z) no_piece) j)))
    act_passes place x xs (inner_block {ss = ss} h) m fits = some_passes (These xs) (some_statement ss) place _ (row_passes ss xs h m fits)

    row_passes : (ss : raw.Statements) (xs : Pieces) → AreInner s ss xs → RowModest ss → PiecesAreAllowed vs xs → Passes (These xs) (pieces_along s ss)
    row_passes ss xs no_inner m fits = refl
    row_passes ss xs (one_inner {x = x} {ss = rest} {ys = us} {zs = bs} h hs) m fits =
        let both = fit_apart vs us bs fits in
        onward (These us) (These xs) (pieces_of s x) _ (inner_passes s x us (act_passes (place_of x) (act_of x) us h (modest_act x m.0) both.0))
        (λ zs i. onward (These bs) (These xs) (pieces_along s rest) _ (row_passes rest bs hs m.1 both.1)
        (λ ws j. ap (λ z. pieces_behind z ws) i ∙ ap (λ z. pieces_behind us z) j))

  pub inside_passes : (place : ℕ) (ss : raw.Statements) (xs : Pieces) → AreInner s ss xs → RowModest ss → PiecesAreAllowed vs xs → Passes (λ ys. ys ≡ xs) (pieces_inside s place ss)
  inside_passes place ss xs h m fits = some_passes (These xs) (some_statement ss) place _ (row_passes ss xs h m fits)
