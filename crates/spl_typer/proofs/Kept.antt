-- The names of a typed program stand for its variables and its locations: along the walk variables are declared in the order
-- of their numbers, and each label has a location that was given out.
use Rattle.std.proofs.Common.{◌≡◌, ℕ, suc, ◌<◌, ◌≤◌, ◌-◌, ◌^◌, Bool, true, nat_lt, List, [], ◌∷◌, ◌++◌, append-nil, refl, ap, sym, ◌∙◌, subst, arith, Option, Some, None}
use Rattle.st_form.specs.Formula.{Formula}
use Rattle.st_reading.specs.Reading.{Label}
use Rattle.st_program.specs.Tree.{Statement, Action, Statements, Process}
use Rattle.spl_parser.specs.ProgramTree as raw
use Rattle.spl_typer.specs.declared.statement.Here.{Here}
use Rattle.spl_typer.specs.declared.walk.Mark.{Mark}
use Rattle.spl_typer.specs.declared.walk.Mark.TheVariants as marks
use Rattle.expression_typer.specs.Scope.{Known}
use Rattle.spl_typer.specs.Walk.{Entry, State, Made, is_declared, with_name, new_location, new_occurrence, next_location, next_occurrence}
use Rattle.spl_typer.specs.Statements.{tested, target, counter, right_side, assigned, pieces_inside}
use Rattle.spl_typer.specs.Groups.{grouped}
use Rattle.spl_typer.specs.Shapes.{something, some_statement, two_statements, two_bodies}
use Rattle.spl_typer.specs.Walking.{fresh, beneath, location, labelled, no_loop, walked, acting, branched, along, inside, bodied}
use Rattle.expression_typer.proofs.Holding.{Holds, bound, anyway, unless_err, if_ok}

-- the types of the variables among declared names
abbrev pub with_type : Mark → List Bool → List Bool
with_type (marks.Variable b) bs = b ∷ bs
with_type _ bs = bs

abbrev pub types_in : List Entry → List Bool
types_in [] = []
types_in (e ∷ es) = with_type e.mark (types_in es)

-- a label's location is below the bound
abbrev pub MarkBelow : ℕ → Mark → Type 0
MarkBelow n (marks.Label l o) = l < n
MarkBelow n _ = Unit {0}

abbrev pub AllBelow : ℕ → List Entry → Type 0
AllBelow n [] = Unit {0}
AllBelow n (e ∷ es) = MarkBelow n e.mark × AllBelow n es

mark_more : (n m : ℕ) (k : Mark) → n ≤ m → MarkBelow n k → MarkBelow m k
mark_more n m (marks.Label l o) le h = omega (arith, le, h)
mark_more n m (marks.Variable b) le h = tt
mark_more n m marks.Process le h = tt

all_more : (n m : ℕ) (es : List Entry) → n ≤ m → AllBelow n es → AllBelow m es
all_more n m [] le h = tt
all_more n m (e ∷ es) le h = (mark_more n m e.mark le h.0, all_more n m es le h.1)

pub below_push : (n : ℕ) (es : List Entry) (e : Entry) → AllBelow n es → MarkBelow n e.mark → AllBelow n (es ++ e ∷ [])
below_push n [] e h k = (k, tt)
below_push n (x ∷ es) e h k = (h.0, below_push n es e h.1 k)

with_push : (k : Mark) (xs ys : List Bool) → with_type k (xs ++ ys) ≡ with_type k xs ++ ys
with_push (marks.Variable b) xs ys = refl
with_push (marks.Label l o) xs ys = refl
with_push marks.Process xs ys = refl

pub types_push : (es : List Entry) (e : Entry) → types_in (es ++ e ∷ []) ≡ types_in es ++ with_type e.mark []
types_push [] e = refl
types_push (x ∷ es) e = ap (with_type x.mark) (types_push es e) ∙ with_push x.mark (types_in es) (with_type e.mark [])

-- what is kept along statements: the variables stay, and each label's location was given out
abbrev pub Kept : List Bool → State → Type 0
Kept bs st = (types_in st.names ≡ bs) × AllBelow st.loc st.names

-- and locations only rise
abbrev pub Rose : {X : Type 0} → List Bool → ℕ → Made X → Type 0
Rose bs from a = Kept bs a.after × (from ≤ a.after.loc)

abbrev OwnBelow : Option ℕ → ℕ → Type 0
OwnBelow None n = Unit {0}
OwnBelow (Some l) n = l < n

own_more : (own : Option ℕ) (n m : ℕ) → n ≤ m → OwnBelow own n → OwnBelow own m
own_more None n m le h = tt
own_more (Some l) n m le h = omega (arith, le, h)

-- a label
kept_label : (bs : List Bool) (n : Label) (l : ℕ) (o : Option ℕ) (st : State) → l < st.loc → Kept bs st → Kept bs (with_name n (marks.Label l o) st)
kept_label bs n l o st lt k =
    (types_push st.names (record { name = n.text; mark = marks.Label l o }) ∙ append-nil (types_in st.names) ∙ k.0, below_push st.loc st.names (record { name = n.text; mark = marks.Label l o }) k.1 lt)

abbrev Same : List Bool → ℕ → State → Type 0
Same bs loc st = Kept bs st × (st.loc ≡ loc)

label_kept : (bs : List Bool) (label : Option Label) (l : ℕ) (o : Option ℕ) (st : State) → l < st.loc → Kept bs st → Holds (Same bs st.loc) (labelled label l o st)
label_kept bs None l o st lt k = (k, refl)
label_kept bs (Some n) l o st lt k =
    unless_err (Same bs st.loc) (is_declared n.text st.names) (with_name n (marks.Label l o) st) _ (kept_label bs n l o st lt k, refl)

-- a location
abbrev Given : List Bool → ℕ → Made ℕ → Type 0
Given bs from l = Kept bs l.after × ((from ≤ l.after.loc) × (l.made < l.after.loc))

new_given : (bs : List Bool) (place : ℕ) (st : State) → Kept bs st → Holds (Given bs st.loc) (new_location place st)
new_given bs place st k =
    if_ok (Given bs st.loc) (nat_lt st.loc (2 ^ 32 - 1)) (record { made = st.loc; after = next_location st }) _
    (λ e. ((k.0, all_more st.loc (suc st.loc) st.names (omega arith) k.1), (omega arith, omega arith)))

location_given : (bs : List Bool) (own : Option ℕ) (place : ℕ) (st : State) → OwnBelow own st.loc → Kept bs st → Holds (Given bs st.loc) (location own place st)
location_given bs None place st lt k = new_given bs place st k
location_given bs (Some l) place st lt k = (k, (omega arith, lt))

abbrev Counted : List Bool → ℕ → Made ℕ → Type 0
Counted bs loc o = Kept bs o.after × (o.after.loc ≡ loc)

occurrence_kept : (bs : List Bool) (place : ℕ) (st : State) → Kept bs st → Holds (Counted bs st.loc) (new_occurrence place st)
occurrence_kept bs place st k = if_ok (Counted bs st.loc) (nat_lt st.occ 400) (record { made = st.occ; after = next_occurrence st }) _ (λ e. (k, refl))

rose_from : {X : Type 0} (bs : List Bool) (from mid : ℕ) (a : Made X) → from ≤ mid → Rose bs mid a → Rose bs from a
rose_from bs from mid a le h = (h.0, omega (arith, le, h.1))

stays : {X : Type 0} (bs : List Bool) (x : X) (st : State) → Kept bs st → Rose bs st.loc (record { made = x; after = st })
stays bs x st k = (k, omega arith)

module _ (bs : List Bool) where
  mutual
    walked_kept : (s : List Known) (here : Here) (x : raw.Statement) (st : State) → OwnBelow here.own st.loc → Kept bs st → Holds (Rose bs st.loc) (walked s here x st)
    walked_kept s here (raw.stated label place act) st own k =
        bound {A = Made ℕ} {B = Made Statement} (Given bs st.loc) (Rose bs st.loc) (location here.own place st) _ (location_given bs here.own place st own k)
        (λ l hl. bound {A = Made ℕ} {B = Made Statement} (Counted bs l.after.loc) (Rose bs st.loc) (new_occurrence place l.after) _ (occurrence_kept bs place l.after hl.0)
        (λ o ho. bound {A = State} {B = Made Statement} (Same bs o.after.loc) (Rose bs st.loc) (labelled label l.made (Some o.made) o.after) _
        (label_kept bs label l.made (Some o.made) o.after (subst (λ n. l.made < n) (sym ho.1) hl.1.1) ho.0)
        (λ st1 h1. bound {A = Made Action} {B = Made Statement} (Rose bs st1.loc) (Rose bs st.loc) (acting s l.made here.head place act st1) _
        (acting_kept s l.made here.head place act st1 (subst (λ n. l.made < n) (sym (h1.1 ∙ ho.1)) hl.1.1) h1.0)
        (λ a h. (h.0, omega (arith, h.1, h1.1, ho.1, hl.1.0))))))

    acting_kept : (s : List Known) (l : ℕ) (head : Bool) (place : ℕ) (x : raw.Action) (st : State) → l < st.loc → Kept bs st → Holds (Rose bs st.loc) (acting s l head place x st)
    acting_kept s l head place raw.skip st lt k = (k, omega arith)
    acting_kept s l head place raw.critical st lt k = (k, omega arith)
    acting_kept s l head place raw.noncritical st lt k = (k, omega arith)
    acting_kept s l head place (raw.assign n e) st lt k = anyway (Rose bs st.loc) (target s n) _ (λ v. anyway (Rose bs st.loc) (right_side s v e) _ (λ x. (k, omega arith)))
    acting_kept s l head place (raw.assign_all ns list es) st lt k = anyway (Rose bs st.loc) (assigned s ns list es) _ (λ xs. (k, omega arith))
    acting_kept s l head place (raw.await e) st lt k = anyway (Rose bs st.loc) (tested s e) _ (λ f. (k, omega arith))
    acting_kept s l head place (raw.request n) st lt k = anyway (Rose bs st.loc) (counter s n) _ (λ v. (k, omega arith))
    acting_kept s l head place (raw.release n) st lt k = anyway (Rose bs st.loc) (counter s n) _ (λ v. (k, omega arith))
    acting_kept s l head place (raw.conditional e y other) st lt k =
        anyway (Rose bs st.loc) (tested s e) _
        (λ f. bound (Rose bs st.loc) (Rose bs st.loc) (walked s fresh y st) _ (walked_kept s fresh y st tt k) (λ a h. branched_kept s f a.made other st.loc a.after h.1 h.0))
    acting_kept s l head place (raw.while_do e y) st lt k =
        anyway (Rose bs st.loc) (no_loop head place) _
        (λ u. anyway (Rose bs st.loc) (tested s e) _ (λ f. bound (Rose bs st.loc) (Rose bs st.loc) (walked s fresh y st) _ (walked_kept s fresh y st tt k) (λ a h. h)))
    acting_kept s l head place (raw.forever y) st lt k =
        anyway (Rose bs st.loc) (no_loop head place) _ (λ u. bound (Rose bs st.loc) (Rose bs st.loc) (walked s fresh y st) _ (walked_kept s fresh y st tt k) (λ a h. h))
    acting_kept s l head place (raw.block ss) st lt k =
        anyway (Rose bs st.loc) (something (some_statement ss) place) _
        (λ u. bound (Rose bs st.loc) (Rose bs st.loc) (along s (beneath l head) fresh ss st) _ (along_kept s (beneath l head) fresh ss st lt tt k) (λ a h. h))
    acting_kept s l head place (raw.select ss) st lt k =
        anyway (Rose bs st.loc) (something (two_statements ss) place) _
        (λ u. bound (Rose bs st.loc) (Rose bs st.loc) (along s (beneath l true) (beneath l true) ss st) _ (along_kept s (beneath l true) (beneath l true) ss st lt lt k) (λ a h. h))
    acting_kept s l head place (raw.cooperate xs) st lt k =
        anyway (Rose bs st.loc) (something (two_bodies xs) place) _ (λ u. bound (Rose bs st.loc) (Rose bs st.loc) (inside s xs st) _ (inside_kept s xs st k) (λ a h. h))
    acting_kept s l head place (raw.group ss) st lt k =
        anyway (Rose bs st.loc) (pieces_inside s place ss) _ (λ xs. anyway (Rose bs st.loc) (grouped place xs st.weight) _ (λ w. (k, omega arith)))

    branched_kept : (s : List Known) (f : Formula) (y : Statement) (other : raw.Branch) (from : ℕ) (st : State) → from ≤ st.loc → Kept bs st → Holds (Rose bs from) (branched s f y other st)
    branched_kept s f y raw.no_branch from st le k = (k, le)
    branched_kept s f y (raw.branch n) from st le k =
        bound (Rose bs st.loc) (Rose bs from) (walked s fresh n st) _ (walked_kept s fresh n st tt k) (λ b h. (h.0, omega (arith, le, h.1)))

    along_kept : (s : List Known) (here there : Here) (ss : raw.Statements) (st : State) → OwnBelow here.own st.loc → OwnBelow there.own st.loc → Kept bs st → Holds (Rose bs st.loc) (along s here there ss st)
    along_kept s here there raw.no_statements st own others k = (k, omega arith)
    along_kept s here there (raw.followed x xs) st own others k =
        bound (Rose bs st.loc) (Rose bs st.loc) (walked s here x st) _ (walked_kept s here x st own k)
        (λ a h. let more = own_more there.own st.loc a.after.loc h.1 others in
        bound (Rose bs a.after.loc) (Rose bs st.loc) (along s there there xs a.after) _ (along_kept s there there xs a.after more more h.0)
        (λ b g. (g.0, omega (arith, h.1, g.1))))

    inside_kept : (s : List Known) (xs : raw.Bodies) (st : State) → Kept bs st → Holds (Rose bs st.loc) (inside s xs st)
    inside_kept s raw.no_bodies st k = (k, omega arith)
    inside_kept s (raw.beside b xs) st k =
        bound (Rose bs st.loc) (Rose bs st.loc) (bodied s b st) _ (body_kept s b st k)
        (λ a h. bound (Rose bs a.after.loc) (Rose bs st.loc) (inside s xs a.after) _ (inside_kept s xs a.after h.0) (λ d g. (g.0, omega (arith, h.1, g.1))))

    pub body_kept : (s : List Known) (b : raw.Body) (st : State) → Kept bs st → Holds (Rose bs st.loc) (bodied s b st)
    body_kept s (raw.body ss end) st k =
        anyway {A = Unit {0}} {B = Made Process} (Rose bs st.loc) (something (some_statement ss) 0) _
        (λ u. bound {A = Made Statements} {B = Made Process} (Rose bs st.loc) (Rose bs st.loc) (along s fresh fresh ss st) _ (along_kept s fresh fresh ss st tt tt k)
        (λ a h. bound {A = Made ℕ} {B = Made Process} (Given bs a.after.loc) (Rose bs st.loc) (new_location 0 a.after) _ (new_given bs 0 a.after h.0)
        (λ l hl. bound {A = State} {B = Made Process} (Same bs l.after.loc) (Rose bs st.loc) (labelled end l.made None l.after) _ (label_kept bs end l.made None l.after hl.1.1 hl.0)
        (λ st1 g. (g.0, omega (arith, g.1, hl.1.0, h.1))))))
