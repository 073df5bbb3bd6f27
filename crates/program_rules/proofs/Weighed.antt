-- Along the walk the weights of groups are added, and each group is small.
use Rattle.std.proofs.Common.{◌≡◌, ℕ, ◌+◌, ◌-◌, ◌^◌, ◌≤◌, nat_lt, Bool, true, List, [], ◌∷◌, ◌++◌, append-nil, append_assoc, refl, sym, ap, subst, ◌∙◌, arith, Option, Some, None, Result, Ok, Err}
use Rattle.list_laws.specs.Each.{Each}
use Rattle.list_laws.proofs.Eachs.{each_append}
use Rattle.st_form.specs.Formula.{Formula}
use Rattle.st_reading.specs.Reading.{Label}
use Rattle.st_program.specs.Tree.{Statement, Action, skip, critical, noncritical, assign, await, request, release, if_then, if_else, while_do, block, select, cooperate, Statements, Process, Processes, Pieces}
use Rattle.expression_parser.specs.ExpressionTree.{Expr}
use Rattle.spl_parser.specs.ProgramTree as raw
use Rattle.expression_typer.specs.declared.fault.TypeFault.{TypeFault}
use Rattle.expression_typer.specs.Scope.{Known}
use Rattle.expression_typer.proofs.Holding.{Holds, bound, anyway, weaker, unless_err, if_ok}
use Rattle.spl_typer.specs.declared.statement.Here.{Here}
use Rattle.spl_typer.specs.declared.walk.Mark.{Mark}
use Rattle.spl_typer.specs.declared.walk.Mark.TheVariants as marks
use Rattle.spl_typer.specs.Walk.{State, Made, is_declared, with_name, declared_as, new_location, new_occurrence, next_location, next_occurrence}
use Rattle.spl_typer.specs.Statements.{tested, target, counter, right_side, assigned, pieces_inside}
use Rattle.spl_typer.specs.Groups.{grouped}
use Rattle.spl_typer.specs.Shapes.{something, some_statement, two_statements, two_bodies}
use Rattle.spl_typer.specs.Walking.{fresh, beneath, location, labelled, no_loop, walked, acting, branched, along, inside, bodied}
use Rattle.spl_typer.specs.Programs.{Heading, knows, named_in, names_in, initial_in, declaration_in, declarations_in, with_state, process_in, processes_in, side_by_side}
use Rattle.program_rules.specs.Groups.{GroupIsSmall, group_weight}
use Rattle.program_rules.proofs.Acts.{acts, acts_in, acts_along, acts_process, acts_of, load, load_both}
use Rattle.program_rules.proofs.Composing.{GroupWas, group_was}

pub record Weighed (w : ℕ) (ks : List Action) (st : State) : Type 0 where
  pub small : Each GroupIsSmall ks
  pub weight : st.weight ≡ w + load ks
  pub light : st.weight ≤ 16777216

abbrev Weighs : {X : Type 0} → (X → List Action) → ℕ → Made X → Type 0
Weighs of w a = Weighed w (of a.made) a.after

abbrev whole : Action → List Action
whole a = a ∷ acts_in a

-- ONE BEHIND THE OTHER
both_weigh : (w : ℕ) (ks bs : List Action) (st st1 : State) → Weighed w ks st → Weighed st.weight bs st1 → Weighed w (ks ++ bs) st1
both_weigh w ks bs st st1 h k = record {
  small = each_append GroupIsSmall ks bs h.small k.small;
  weight = k.weight ∙ sums w st.weight (load ks) (load bs) (load (ks ++ bs)) h.weight (load_both ks bs);
  light = k.light;
}
  where
    sums : (i j l m n : ℕ) → j ≡ i + l → n ≡ l + m → j + m ≡ i + n
    sums i j l m n e g = omega (arith, e, g)

round : (w : ℕ) (a : Action) (ks : List Action) (st : State) → GroupIsSmall a → group_weight a ≡ 0 → Weighed w ks st → Weighed w (a ∷ ks) st
round w a ks st s e h = record { small = (s, h.small); weight = h.weight ∙ same w (group_weight a) (load ks) e; light = h.light }
  where
    same : (i j k : ℕ) → j ≡ 0 → i + k ≡ i + (j + k)
    same i j k g = omega (arith, g)

none_weighs : (st : State) → st.weight ≤ 16777216 → Weighed st.weight [] st
none_weighs st le = record { small = tt; weight = nothing st.weight; light = le }
  where
    nothing : (i : ℕ) → i ≡ i + 0
    nothing i = omega arith

plain : (a : Action) (st : State) → GroupIsSmall a → group_weight a ≡ 0 → st.weight ≤ 16777216 → Weighed st.weight (a ∷ []) st
plain a st s e le = round st.weight a [] st s e (none_weighs st le)

from_there : (ks : List Action) (w v : ℕ) (st : State) → v ≡ w → Weighed v ks st → Weighed w ks st
from_there ks w v st e h = subst (λ i. Weighed i ks st) e h

light_at : (w v : ℕ) → v ≡ w → w ≤ 16777216 → v ≤ 16777216
light_at w v e le = omega (arith, e, le)

-- WHAT WEIGHS NOTHING
abbrev Same : {X : Type 0} → ℕ → Made X → Type 0
Same w a = a.after.weight ≡ w

new_same : (place : ℕ) (st : State) → Holds (Same st.weight) (new_location place st)
new_same place st = if_ok (Same st.weight) (nat_lt st.loc (2 ^ 32 - 1)) (record { made = st.loc; after = next_location st }) _ (λ e. refl)

location_same : (own : Option ℕ) (place : ℕ) (st : State) → Holds (Same st.weight) (location own place st)
location_same None place st = new_same place st
location_same (Some l) place st = refl

occurrence_same : (place : ℕ) (st : State) → Holds (Same st.weight) (new_occurrence place st)
occurrence_same place st = if_ok (Same st.weight) (nat_lt st.occ 400) (record { made = st.occ; after = next_occurrence st }) _ (λ e. refl)

declared_same : (n : Label) (m : Mark) (st : State) → Holds (λ (st1 : State). st1.weight ≡ st.weight) (declared_as n m st)
declared_same n m st = unless_err (λ (st1 : State). st1.weight ≡ st.weight) (is_declared n.text st.names) (with_name n m st) _ refl

label_same : (label : Option Label) (l : ℕ) (o : Option ℕ) (st : State) → Holds (λ (st1 : State). st1.weight ≡ st.weight) (labelled label l o st)
label_same None l o st = refl
label_same (Some n) l o st = declared_same n (marks.Label l o) st

-- GROUPS
group_answers : (place : ℕ) (xs : Pieces) (w : ℕ) → w ≤ 16777216 → Holds (GroupWas xs w) (grouped place xs w)
group_answers place xs w le = go (grouped place xs w) refl
  where
    go : (r : Result ℕ TypeFault) → grouped place xs w ≡ r → Holds (GroupWas xs w) r
    go (Ok v) e = group_was place xs w v le e
    go (Err f) e = tt

group_sum : (v i j : ℕ) → v ≡ i + j → v ≡ i + (j + 0)
group_sum v i j e = omega (arith, e)

-- STATEMENTS
mutual
  walked_weighs : (s : List Known) (here : Here) (x : raw.Statement) (st : State) → st.weight ≤ 16777216 → Holds (Weighs acts st.weight) (walked s here x st)
  walked_weighs s here (raw.stated label place act) st le =
      bound {A = Made ℕ} {B = Made Statement} (Same st.weight) (Weighs acts st.weight) (location here.own place st) _ (location_same here.own place st)
      (λ l hl. bound {A = Made ℕ} {B = Made Statement} (Same l.after.weight) (Weighs acts st.weight) (new_occurrence place l.after) _ (occurrence_same place l.after)
      (λ o ho. bound {A = State} {B = Made Statement} (λ st1. st1.weight ≡ o.after.weight) (Weighs acts st.weight) (labelled label l.made (Some o.made) o.after) _ (label_same label l.made (Some o.made) o.after)
      (λ st1 h1. let is : st1.weight ≡ st.weight = h1 ∙ ho ∙ hl in
      bound {A = Made Action} {B = Made Statement} (Weighs whole st1.weight) (Weighs acts st.weight) (acting s l.made here.head place act st1) _ (acting_weighs s l.made here.head place act st1 (light_at st.weight st1.weight is le))
      (λ a h. from_there (whole a.made) st.weight st1.weight a.after is h))))

  acting_weighs : (s : List Known) (l : ℕ) (head : Bool) (place : ℕ) (x : raw.Action) (st : State) → st.weight ≤ 16777216 → Holds (Weighs whole st.weight) (acting s l head place x st)
  acting_weighs s l head place raw.skip st le = plain skip st tt refl le
  acting_weighs s l head place raw.critical st le = plain critical st tt refl le
  acting_weighs s l head place raw.noncritical st le = plain noncritical st tt refl le
  acting_weighs s l head place (raw.assign n e) st le = anyway {B = Made Action} (Weighs whole st.weight) (target s n) _ (λ k. anyway {B = Made Action} (Weighs whole st.weight) (right_side s k e) _ (λ x. plain (assign (x ∷ [])) st tt refl le))
  acting_weighs s l head place (raw.assign_all ns list es) st le = anyway {B = Made Action} (Weighs whole st.weight) (assigned s ns list es) _ (λ xs. plain (assign xs) st tt refl le)
  acting_weighs s l head place (raw.await e) st le = anyway {B = Made Action} (Weighs whole st.weight) (tested s e) _ (λ f. plain (await f) st tt refl le)
  acting_weighs s l head place (raw.request n) st le = anyway {B = Made Action} (Weighs whole st.weight) (counter s n) _ (λ v. plain (request v) st tt refl le)
  acting_weighs s l head place (raw.release n) st le = anyway {B = Made Action} (Weighs whole st.weight) (counter s n) _ (λ v. plain (release v) st tt refl le)
  acting_weighs s l head place (raw.conditional e y other) st le =
      anyway {B = Made Action} (Weighs whole st.weight) (tested s e) _
      (λ f. bound {A = Made Statement} {B = Made Action} (Weighs acts st.weight) (Weighs whole st.weight) (walked s fresh y st) _ (walked_weighs s fresh y st le) (λ a h. branched_weighs s f a.made other st.weight a.after h))
  acting_weighs s l head place (raw.while_do e y) st le =
      anyway {B = Made Action} (Weighs whole st.weight) (no_loop head place) _
      (λ u. anyway {B = Made Action} (Weighs whole st.weight) (tested s e) _
      (λ f. bound {A = Made Statement} {B = Made Action} (Weighs acts st.weight) (Weighs whole st.weight) (walked s fresh y st) _ (walked_weighs s fresh y st le) (λ a h. round st.weight (while_do f a.made) (acts a.made) a.after tt refl h)))
  acting_weighs s l head place (raw.forever y) st le =
      anyway {B = Made Action} (Weighs whole st.weight) (no_loop head place) _
      (λ u. bound {A = Made Statement} {B = Made Action} (Weighs acts st.weight) (Weighs whole st.weight) (walked s fresh y st) _ (walked_weighs s fresh y st le) (λ a h. round st.weight (while_do _ a.made) (acts a.made) a.after tt refl h))
  acting_weighs s l head place (raw.block ss) st le =
      anyway {B = Made Action} (Weighs whole st.weight) (something (some_statement ss) place) _
      (λ u. bound {A = Made Statements} {B = Made Action} (Weighs acts_along st.weight) (Weighs whole st.weight) (along s (beneath l head) fresh ss st) _ (along_weighs s (beneath l head) fresh ss st le) (λ a h. round st.weight (block a.made) (acts_along a.made) a.after tt refl h))
  acting_weighs s l head place (raw.select ss) st le =
      anyway {B = Made Action} (Weighs whole st.weight) (something (two_statements ss) place) _
      (λ u. bound {A = Made Statements} {B = Made Action} (Weighs acts_along st.weight) (Weighs whole st.weight) (along s (beneath l true) (beneath l true) ss st) _ (along_weighs s (beneath l true) (beneath l true) ss st le) (λ a h. round st.weight (select a.made) (acts_along a.made) a.after tt refl h))
  acting_weighs s l head place (raw.cooperate bs) st le =
      anyway {B = Made Action} (Weighs whole st.weight) (something (two_bodies bs) place) _
      (λ u. bound {A = Made Processes} {B = Made Action} (Weighs acts_of st.weight) (Weighs whole st.weight) (inside s bs st) _ (inside_weighs s bs st le) (λ a h. round st.weight (cooperate a.made) (acts_of a.made) a.after tt refl h))
  acting_weighs s l head place (raw.group ss) st le =
      anyway {B = Made Action} (Weighs whole st.weight) (pieces_inside s place ss) _
      (λ xs. bound {A = ℕ} {B = Made Action} (GroupWas xs st.weight) (Weighs whole st.weight) (grouped place xs st.weight) _ (group_answers place xs st.weight le)
      (λ v g. record { small = ((g.fits, g.small), tt); weight = group_sum v st.weight _ g.weight; light = g.light }))

  branched_weighs : (s : List Known) (f : Formula) (y : Statement) (other : raw.Branch) (w : ℕ) (st : State) → Weighed w (acts y) st → Holds (Weighs whole w) (branched s f y other st)
  branched_weighs s f y raw.no_branch w st h = round w (if_then f y) (acts y) st tt refl h
  branched_weighs s f y (raw.branch n) w st h =
      bound {A = Made Statement} {B = Made Action} (Weighs acts st.weight) (Weighs whole w) (walked s fresh n st) _ (walked_weighs s fresh n st h.light)
      (λ b k. round w (if_else f y b.made) (acts y ++ acts b.made) b.after tt refl (both_weigh w (acts y) (acts b.made) st b.after h k))

  along_weighs : (s : List Known) (here there : Here) (ss : raw.Statements) (st : State) → st.weight ≤ 16777216 → Holds (Weighs acts_along st.weight) (along s here there ss st)
  along_weighs s here there raw.no_statements st le = none_weighs st le
  along_weighs s here there (raw.followed x xs) st le =
      bound {A = Made Statement} {B = Made Statements} (Weighs acts st.weight) (Weighs acts_along st.weight) (walked s here x st) _ (walked_weighs s here x st le)
      (λ a h. bound {A = Made Statements} {B = Made Statements} (Weighs acts_along a.after.weight) (Weighs acts_along st.weight) (along s there there xs a.after) _ (along_weighs s there there xs a.after h.light)
      (λ b k. both_weigh st.weight (acts a.made) (acts_along b.made) a.after b.after h k))

  inside_weighs : (s : List Known) (bs : raw.Bodies) (st : State) → st.weight ≤ 16777216 → Holds (Weighs acts_of st.weight) (inside s bs st)
  inside_weighs s raw.no_bodies st le = none_weighs st le
  inside_weighs s (raw.beside b bs) st le =
      bound {A = Made Process} {B = Made Processes} (Weighs acts_process st.weight) (Weighs acts_of st.weight) (bodied s b st) _ (body_weighs s b st le)
      (λ a h. bound {A = Made Processes} {B = Made Processes} (Weighs acts_of a.after.weight) (Weighs acts_of st.weight) (inside s bs a.after) _ (inside_weighs s bs a.after h.light)
      (λ d k. both_weigh st.weight (acts_process a.made) (acts_of d.made) a.after d.after h k))

  body_weighs : (s : List Known) (b : raw.Body) (st : State) → st.weight ≤ 16777216 → Holds (Weighs acts_process st.weight) (bodied s b st)
  body_weighs s (raw.body ss end) st le =
      anyway {A = Unit {0}} {B = Made Process} (Weighs acts_process st.weight) (something (some_statement ss) 0) _
      (λ u. bound {A = Made Statements} {B = Made Process} (Weighs acts_along st.weight) (Weighs acts_process st.weight) (along s fresh fresh ss st) _ (along_weighs s fresh fresh ss st le)
      (λ a h. bound {A = Made ℕ} {B = Made Process} (Same a.after.weight) (Weighs acts_process st.weight) (new_location 0 a.after) _ (new_same 0 a.after)
      (λ l hl. bound {A = State} {B = Made Process} (λ st1. st1.weight ≡ l.after.weight) (Weighs acts_process st.weight) (labelled end l.made None l.after) _ (label_same end l.made None l.after)
      (λ st1 g. let is : st1.weight ≡ a.after.weight = g ∙ hl in record { small = h.small; weight = is ∙ h.weight; light = light_at a.after.weight st1.weight is h.light }))))

-- HEADINGS
-- declarations add no group and no process
record Kept (h k : Heading) : Type 0 where
  weight : k.state.weight ≡ h.state.weight
  processes : k.processes ≡ h.processes

kept_both : (h k l : Heading) → Kept h k → Kept k l → Kept h l
kept_both h k l a b = record { weight = b.weight ∙ a.weight; processes = b.processes ∙ a.processes }

kept_same : (h : Heading) → Kept h h
kept_same h = record { weight = refl; processes = refl }

name_kept : (input truth : Bool) (n : Label) (h : Heading) → Holds (λ k. Kept h k) (named_in input truth n h)
name_kept input truth n h =
    bound (λ (st : State). st.weight ≡ h.state.weight) (λ k. Kept h k) (declared_as n (marks.Variable truth) h.state) _ (declared_same n (marks.Variable truth) h.state)
    (λ st g. if_ok (λ k. Kept h k) _ (knows input truth n st h) _ (λ few. record { weight = g; processes = refl }))

names_kept : (input truth : Bool) (ns : List Label) (h : Heading) → Holds (λ k. Kept h k) (names_in input truth ns h)
names_kept input truth [] h = kept_same h
names_kept input truth (n ∷ ns) h =
    bound (λ k. Kept h k) (λ k. Kept h k) (named_in input truth n h) _ (name_kept input truth n h)
    (λ k a. weaker (λ l. Kept k l) (λ l. Kept h l) (names_in input truth ns k) (names_kept input truth ns k) (λ l b. kept_both h k l a b))

initial_kept : (o : Option Expr) (h : Heading) → Holds (λ k. Kept h k) (initial_in o h)
initial_kept None h = kept_same h
initial_kept (Some e) h = anyway (λ k. Kept h k) (tested h.scope e) _ (λ f. record { weight = refl; processes = refl })

declarations_kept : (ds : List raw.Declaration) (h : Heading) → Holds (λ k. Kept h k) (declarations_in ds h)
declarations_kept [] h = kept_same h
declarations_kept (d ∷ ds) h =
    bound (λ k. Kept h k) (λ k. Kept h k) (declaration_in d h) _
    (bound (λ k. Kept h k) (λ k. Kept h k) (names_in d.input d.truth d.names h) _ (names_kept d.input d.truth d.names h)
    (λ k a. weaker (λ l. Kept k l) (λ l. Kept h l) (initial_in d.initial k) (initial_kept d.initial k) (λ l b. kept_both h k l a b)))
    (λ k a. weaker (λ l. Kept k l) (λ l. Kept h l) (declarations_in ds k) (declarations_kept ds k) (λ l b. kept_both h k l a b))

acts_snoc : (ps : List Process) (p : Process) → acts_of (side_by_side (ps ++ p ∷ [])) ≡ acts_of (side_by_side ps) ++ acts_process p
acts_snoc [] p = append-nil (acts_process p)
acts_snoc (q ∷ ps) p = ap (λ z. acts_process q ++ z) (acts_snoc ps p) ∙ sym (append_assoc (acts_process q) (acts_of (side_by_side ps)) (acts_process p))

abbrev pub HeadWeighed : Heading → Type 0
HeadWeighed h = Weighed 0 (acts_of (side_by_side h.processes)) h.state

kept_weighed : (h k : Heading) → Kept h k → HeadWeighed h → HeadWeighed k
kept_weighed h k a b = record {
  small = subst (λ z. Each GroupIsSmall (acts_of (side_by_side z))) (sym a.processes) b.small;
  weight = a.weight ∙ b.weight ∙ ap (λ z. 0 + load (acts_of (side_by_side z))) (sym a.processes);
  light = light_at h.state.weight k.state.weight a.weight b.light;
}

pub declared_weighed : (ds : List raw.Declaration) (h : Heading) → HeadWeighed h → Holds HeadWeighed (declarations_in ds h)
declared_weighed ds h b = weaker (λ k. Kept h k) HeadWeighed (declarations_in ds h) (declarations_kept ds h) (λ k a. kept_weighed h k a b)

process_weighed : (q : raw.Process) (h : Heading) → HeadWeighed h → Holds HeadWeighed (process_in q h)
process_weighed q h b =
    bound (λ (st : State). st.weight ≡ h.state.weight) HeadWeighed (declared_as q.name marks.Process h.state) _ (declared_same q.name marks.Process h.state)
    (λ st g. bound HeadWeighed HeadWeighed (declarations_in q.declarations (with_state st h)) _
    (declared_weighed q.declarations (with_state st h) (record { small = b.small; weight = g ∙ b.weight; light = light_at h.state.weight st.weight g b.light }))
    (λ k c. bound {A = Made Process} {B = Heading} (Weighs acts_process k.state.weight) HeadWeighed (bodied k.scope q.body k.state) _ (body_weighs k.scope q.body k.state c.light)
    (λ a d. subst (λ z. Weighed 0 z a.after) (sym (acts_snoc k.processes a.made)) (both_weigh 0 (acts_of (side_by_side k.processes)) (acts_process a.made) k.state a.after c d))))

pub processes_weighed : (qs : List raw.Process) (h : Heading) → HeadWeighed h → Holds HeadWeighed (processes_in qs h)
processes_weighed [] h b = b
processes_weighed (q ∷ qs) h b = bound HeadWeighed HeadWeighed (process_in q h) _ (process_weighed q h b) (λ k c. processes_weighed qs k c)
