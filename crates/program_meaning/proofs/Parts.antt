-- What the walk makes of the parts of statements is what they stand for.
use Rattle.std.proofs.Common.{◌≡◌, ℕ, suc, Bool, true, false, cond, nat_eq, List, [], ◌∷◌, ◌++◌, length, append-nil, append_assoc, refl, sym, ap, subst, ◌∙◌, Option, Some, None, Result, Ok, Err, arith}
use Rattle.std.proofs.lemmas.Bool.Decides.{nat_tests}
use Rattle.std.specs.Option.{option_map}
use Rattle.st_form.specs.Formula.{Formula}
use Rattle.st_reading.specs.Reading.{Label}
use Rattle.st_program.specs.Tree.{Term, number, truth, Pieces, piece_assign, piece_if, no_piece, piece}
use Rattle.expression_parser.specs.ExpressionTree.{Expr, start_of}
use Rattle.spl_parser.specs.ProgramTree as raw
use Rattle.expression_typer.specs.declared.fault.TypeFault.{TypeFault}
use Rattle.expression_typer.specs.declared.fault.TypeFault.TheVariants as faults
use Rattle.expression_typer.specs.Answers.{◌>>=◌}
use Rattle.expression_typer.specs.Scope.{Known, find}
use Rattle.expression_typer.specs.Rules.{meaning, faults_in}
use Rattle.expression_typer.specs.Told.{Told, IsWritten, IsModest}
use Rattle.expression_typer.specs.Typing.{typed, as_truth}
use Rattle.expression_typer.proofs.Holding.{Holds, bound, anyway, weaker, unless_err}
use Rattle.expression_typer.proofs.Tells.{told}
use Rattle.spl_typer.specs.Modest.{AllModest, StatementModest, ActionModest, BranchModest, RowModest}
use Rattle.spl_typer.specs.Shapes.{something, some_statement}
use Rattle.spl_typer.specs.Statements.{tested, writable, target, counting, counter, wanted, right_side, is_target, targets, changes, assigned, pieces_of, pieces_in, other_pieces, pieces_along, alone, pieces_inside}
use Rattle.program_meaning.specs.Meaning.{IsVariable, IsTest, IsChange, AreChanges, no_change, change, act_of, IsInner, inner_skip, inner_assign, inner_assign_all, inner_await, inner_if, inner_if_else, inner_block, AreInner, no_inner, one_inner}

-- EXPRESSIONS
pub test_means : (s : List Known) (e : Expr) → IsModest e → Holds (IsTest s e) (tested s e)
test_means s e m = go (typed s e) (told s e m)
  where
    go : (r : Result Term TypeFault) → Told IsWritten r (faults_in s e) (meaning s e) → Holds (IsTest s e) (r >>= λ x. as_truth (start_of e) x)
    go (Ok (number f)) h = tt
    go (Ok (truth f)) h = h.1
    go (Err f) h = tt

-- NAMES
abbrev IsFound : List Known → Label → Known → Type 0
IsFound s n k = find n.text s ≡ Some k

target_means : (s : List Known) (n : Label) → Holds (IsFound s n) (target s n)
target_means s n = go (find n.text s)
  where
    go : (o : Option Known) → Holds (λ k. o ≡ Some k) (writable n.place o)
    go None = tt
    go (Some k) = unless_err (λ j. Some k ≡ Some j) k.input k _ refl

pub counter_means : (s : List Known) (n : Label) → Holds (IsVariable s n) (counter s n)
counter_means s n = go (find n.text s)
  where
    by_kind : (k : Known) (b c : Bool) → Holds (λ v. Some k.var ≡ Some v) (cond b (Err (faults.WrongType n.place)) (cond c (Err (faults.InputAssigned n.place)) (Ok k.var)))
    by_kind k true c = tt
    by_kind k false true = tt
    by_kind k false false = refl

    go : (o : Option Known) → Holds (λ v. option_map (λ k. k.var) o ≡ Some v) (counting n.place o)
    go None = tt
    go (Some k) = by_kind k k.truth k.input

found_variable : (s : List Known) (n : Label) (k : Known) → IsFound s n k → IsVariable s n k.var
found_variable s n k e = ap (option_map (λ j. j.var)) e

-- RIGHT SIDES
abbrev IsSide : List Known → Known → Expr → ℕ × Term → Type 0
IsSide s k e x = (x.0 ≡ k.var) × (meaning s e ≡ Some x.1)

side_means : (s : List Known) (k : Known) (e : Expr) → IsModest e → Holds (IsSide s k e) (right_side s k e)
side_means s k e m = go k.truth (typed s e) (told s e m)
  where
    go : (b : Bool) (r : Result Term TypeFault) → Told IsWritten r (faults_in s e) (meaning s e) → Holds (IsSide s k e) (r >>= λ x. wanted b (start_of e) x >>= λ w. Ok (k.var, w))
    go true (Ok (number f)) h = tt
    go true (Ok (truth f)) h = (refl, h.1)
    go false (Ok (number f)) h = (refl, h.1)
    go false (Ok (truth f)) h = tt
    go true (Err f) h = tt
    go false (Err f) h = tt

side_change : (s : List Known) (n : Label) (k : Known) (e : Expr) (x : ℕ × Term) → IsFound s n k → IsSide s k e x → IsChange s n e x
side_change s n k e x f h = (found_variable s n k f ∙ ap (λ v. Some v) (sym h.0), h.1)

pub assign_means : {B : Type 0} (s : List Known) (n : Label) (e : Expr) (Q : B → Type 0) (go : ℕ × Term → Result B TypeFault) → IsModest e → ((x : ℕ × Term) → IsChange s n e x → Holds Q (go x)) → Holds Q (target s n >>= λ k. right_side s k e >>= λ x. go x)
assign_means s n e Q go m f =
    bound (IsFound s n) Q (target s n) _ (target_means s n)
    (λ k i. bound (IsSide s k e) Q (right_side s k e) _ (side_means s k e m) (λ x h. f x (side_change s n k e x i h)))

-- SEVERAL TARGETS
abbrev AreFound : List Known → List Label → List Known → Type 0
AreFound s [] [] = Unit {0}
AreFound s [] (k ∷ ks) = ⊥
AreFound s (n ∷ ns) [] = ⊥
AreFound s (n ∷ ns) (k ∷ ks) = IsFound s n k × AreFound s ns ks

-- a list behind what is done, of which something holds
record Behind {A : Type 0} (P : List A → Type 0) (done xs : List A) : Type 0 where
  more : List A
  is : xs ≡ done ++ more
  holds : P more

behind_one : {A : Type 0} (P Q : List A → Type 0) (done : List A) (x : A) (xs : List A) → ((more : List A) → P more → Q (x ∷ more)) → Behind P (done ++ x ∷ []) xs → Behind Q done xs
behind_one P Q done x xs go b = record { more = x ∷ b.more; is = b.is ∙ append_assoc done (x ∷ []) b.more; holds = go b.more b.holds }

targets_mean : (s : List Known) (done : List Known) (ns : List Label) → Holds (Behind (AreFound s ns) done) (targets s done ns)
targets_mean s done [] = record { more = []; is = sym (append-nil done); holds = tt }
targets_mean s done (n ∷ ns) =
    bound (IsFound s n) (Behind (AreFound s (n ∷ ns)) done) (target s n) _ (target_means s n) (λ k f. choose k f (targets_mean s (done ++ k ∷ []) ns) (is_target k.var done))
  where
    more : (k : Known) → IsFound s n k → Holds (Behind (AreFound s ns) (done ++ k ∷ [])) (targets s (done ++ k ∷ []) ns) → Holds (Behind (AreFound s (n ∷ ns)) done) (targets s (done ++ k ∷ []) ns)
    more k f h = weaker (Behind (AreFound s ns) (done ++ k ∷ [])) (Behind (AreFound s (n ∷ ns)) done) (targets s (done ++ k ∷ []) ns) h (λ ks b. behind_one (AreFound s ns) (AreFound s (n ∷ ns)) done k ks (λ js g. (f, g)) b)

    choose : (k : Known) → IsFound s n k → Holds (Behind (AreFound s ns) (done ++ k ∷ [])) (targets s (done ++ k ∷ []) ns) → (b : Bool) → Holds (Behind (AreFound s (n ∷ ns)) done) (cond b (Err (faults.SameTarget n.place)) (targets s (done ++ k ∷ []) ns))
    choose k f h true = tt
    choose k f h false = more k f h

no_more_equal : (n : ℕ) → 0 ≡ suc n → ⊥
no_more_equal n e = omega (arith, e)

changes_mean : (s : List Known) (done : List (ℕ × Term)) (ns : List Label) (ks : List Known) (es : List Expr) → AreFound s ns ks → length ns ≡ length es → AllModest es → Holds (Behind (AreChanges s ns es) done) (changes s done ks es)
changes_mean s done [] [] [] f l m = record { more = []; is = sym (append-nil done); holds = no_change }
changes_mean s done [] [] (e ∷ es) f l m = absurd (no_more_equal (length es) l)
changes_mean s done [] (k ∷ ks) es f l m = absurd f
changes_mean s done (n ∷ ns) [] es f l m = absurd f
changes_mean s done (n ∷ ns) (k ∷ ks) [] f l m = absurd (no_more_equal (length ns) (sym l))
changes_mean s done (n ∷ ns) (k ∷ ks) (e ∷ es) f l m =
    bound (IsSide s k e) (Behind (AreChanges s (n ∷ ns) (e ∷ es)) done) (right_side s k e) _ (side_means s k e m.0)
    (λ x h. weaker (Behind (AreChanges s ns es) (done ++ x ∷ [])) (Behind (AreChanges s (n ∷ ns) (e ∷ es)) done) (changes s (done ++ x ∷ []) ks es)
    (changes_mean s (done ++ x ∷ []) ns ks es f.1 (omega (arith, l)) m.1)
    (λ xs b. behind_one (AreChanges s ns es) (AreChanges s (n ∷ ns) (e ∷ es)) done x xs (λ ys g. change (side_change s n k e x f.0 h) g) b))

from_start : {A : Type 0} (P : List A → Type 0) (xs : List A) → Behind P [] xs → P xs
from_start P xs b = subst P (sym b.is) b.holds

equal_lengths : (n m : ℕ) → nat_eq n m ≡ true → n ≡ m
equal_lengths n m e = grind (arith, nat_tests)

pub assigned_means : (s : List Known) (ns : List Label) (place : ℕ) (es : List Expr) → AllModest es → Holds (AreChanges s ns es) (assigned s ns place es)
assigned_means s ns place es m =
    bound (Behind (AreFound s ns) []) (AreChanges s ns es) (targets s [] ns) _ (targets_mean s [] ns) (λ ks b. go ks (from_start (AreFound s ns) ks b) (nat_eq (length ns) (length es)) refl)
  where
    go : (ks : List Known) → AreFound s ns ks → (b : Bool) → nat_eq (length ns) (length es) ≡ b → Holds (AreChanges s ns es) (cond b (changes s [] ks es) (Err (faults.WrongType place)))
    go ks f false e = tt
    go ks f true e =
        weaker (Behind (AreChanges s ns es) []) (AreChanges s ns es) (changes s [] ks es) (changes_mean s [] ns ks es f (equal_lengths (length ns) (length es) e) m) (λ xs b. from_start (AreChanges s ns es) xs b)

-- GROUPS
mutual
  inner_means : (s : List Known) (x : raw.Statement) → StatementModest x → Holds (IsInner s (act_of x)) (pieces_of s x)
  inner_means s (raw.stated label place act) m = act_means s place act m

  act_means : (s : List Known) (place : ℕ) (x : raw.Action) → ActionModest x → Holds (IsInner s x) (pieces_in s place x)
  act_means s place raw.skip m = inner_skip
  act_means s place (raw.assign n e) m = assign_means s n e (IsInner s (raw.assign n e)) (λ x. alone (piece_assign (x ∷ []))) m (λ x h. inner_assign h)
  act_means s place (raw.assign_all ns list es) m = bound (AreChanges s ns es) (IsInner s (raw.assign_all ns list es)) (assigned s ns list es) _ (assigned_means s ns list es m) (λ xs h. inner_assign_all h)
  act_means s place (raw.await e) m = bound (IsTest s e) (IsInner s (raw.await e)) (tested s e) _ (test_means s e m) (λ f h. inner_await h)
  act_means s place (raw.conditional e y other) m =
      bound (IsTest s e) (IsInner s (raw.conditional e y other)) (tested s e) _ (test_means s e m.0)
      (λ f h. bound (IsInner s (act_of y)) (IsInner s (raw.conditional e y other)) (pieces_of s y) _ (inner_means s y m.1) (λ ys k. branch_means s e f y ys other h k m.2))
  act_means s place (raw.block ss) m =
      anyway (IsInner s (raw.block ss)) (something (some_statement ss) place) _
      (λ u. weaker (AreInner s ss) (IsInner s (raw.block ss)) (pieces_along s ss) (row_means s ss m) (λ xs h. inner_block h))
  act_means s place raw.critical m = tt
  act_means s place raw.noncritical m = tt
  act_means s place (raw.request n) m = tt
  act_means s place (raw.release n) m = tt
  act_means s place (raw.while_do e y) m = tt
  act_means s place (raw.forever y) m = tt
  act_means s place (raw.select ss) m = tt
  act_means s place (raw.cooperate bs) m = tt
  act_means s place (raw.group ss) m = tt

  branch_means : (s : List Known) (e : Expr) (f : Formula) (y : raw.Statement) (ys : Pieces) (other : raw.Branch) → IsTest s e f → IsInner s (act_of y) ys → BranchModest other
      → Holds (IsInner s (raw.conditional e y other)) (other_pieces s other >>= λ ns. Ok (piece (piece_if f ys ns) no_piece))
  branch_means s e f y ys raw.no_branch h k m = inner_if h k
  branch_means s e f y ys (raw.branch n) h k m = bound (IsInner s (act_of n)) (IsInner s (raw.conditional e y (raw.branch n))) (pieces_of s n) _ (inner_means s n m) (λ ns l. inner_if_else h k l)

  row_means : (s : List Known) (ss : raw.Statements) → RowModest ss → Holds (AreInner s ss) (pieces_along s ss)
  row_means s raw.no_statements m = no_inner
  row_means s (raw.followed x xs) m =
      bound (IsInner s (act_of x)) (AreInner s (raw.followed x xs)) (pieces_of s x) _ (inner_means s x m.0)
      (λ ys h. bound (AreInner s xs) (AreInner s (raw.followed x xs)) (pieces_along s xs) _ (row_means s xs m.1) (λ zs k. one_inner h k))

pub group_means : (s : List Known) (place : ℕ) (ss : raw.Statements) → RowModest ss → Holds (AreInner s ss) (pieces_inside s place ss)
group_means s place ss m = anyway (AreInner s ss) (something (some_statement ss) place) _ (λ u. row_means s ss m)
