-- A name leads one way.
--
-- The steps of a part of the text are named by statements of this part, and no two of them have one name: children of a
-- cooperation and branches of a selection have no statement in common, a test has one value, and of a group's paths one
-- can be walked.
use Rattle.std.proofs.Common.{◌≡◌, ℕ, suc, ◌+◌, Bool, List, [], ◌∷◌, ◌++◌, length, Some, None, refl, sym, ap, ◌∙◌, subst}
use Rattle.std.specs.Prelude.{if◌then◌else◌}
use Rattle.st_form.specs.Formula.{Formula, row}
use Rattle.st_form.specs.declared.conditions.Part.TheVariants.{Whole, Entry, Exit}
use Rattle.st_form.specs.declared.conditions.TransName.{TransName}
use Rattle.st_form.specs.declared.conditions.TransName.TheVariants.{Idle, Step}
use Rattle.st_program.specs.Tree.{Statement, stated, skip, critical, noncritical, assign, await, request, release, if_then, if_else, while_do, block, select, cooperate, group, Statements, no_statement, statement, process, Processes, no_process, beside, occurrence}
use Rattle.st_program.specs.Member.{Member, here, there}
use Rattle.st_program.specs.Programs.{WellFormed}
use Rattle.st_program.specs.Residuals.{Rest, Done, Run, Then, Again, Inside, Rests, no_rest, rests}
use Rattle.st_program.specs.Spots.{entry, bodies, bodies_in, Spot, at_spot, spots, spots_along, spots_among, spots_inside, all_spots, IsNumbered}
use Rattle.spl_semantics.specs.Runs.{State, Reached, LeadsBy}
use Rattle.spl_semantics.specs.Steps.{joined_acts, first_acts, acts_along, acts_among, acts_at, steps, steps_of}
use Rattle.spl_semantics.specs.Going.{act, join, back, all_done}
use Rattle.spl_semantics.specs.Stores.{Store, holds, one_less}
use Rattle.spl_semantics.specs.Walks.{Walk, walk_along}
use Rattle.spl_semantics.proofs.Bodies.{HasAt, has_front, has_back, has_all}
use Rattle.spl_semantics.proofs.ByCases.{behind_act, listed}
use Rattle.spl_semantics.proofs.ControlMoves.{reached_good}
use Rattle.spl_semantics.proofs.Fits.{Fits, FitsAll}
use Rattle.spl_semantics.proofs.Layouts.{layout_of, ends_of, apart_of}
use Rattle.spl_semantics.proofs.Members.{member_left, member_cases}
use Rattle.spl_semantics.proofs.Texts.{Region, along_region}
use Rattle.basic_laws.proofs.Types.{either}
use Rattle.spl_semantics.proofs.Walking.{acts_of_walk, group-acts}
use Rattle.trace_laws.specs.OneWay.{LeadsOneWay}
use Rattle.trace_laws.proofs.Parting.{Separate, nothing, of_one, one, by_test, around_all, widened, both}
use Rattle.trace_laws.proofs.Numbers.{has_member, parts_apart, own_numbers}

module _ (p : Processes) (numbered : IsNumbered p) (store : Store) where
  walk_separate : (xs : List Spot) (y : Spot) → Member y xs → (w : Walk) → Separate xs (acts_of_walk (occurrence y.stmt) w)
  walk_separate xs y is None = nothing xs
  walk_separate xs y is (Some w) = one xs y is Whole _ refl

  mutual
    -- what a statement can do first
    first_separate : (s : Statement) (n c m k : ℕ) → HasAt (all_spots p) k (spots s n c) → Separate (spots s n c) (first_acts s m store)
    first_separate (stated o l skip) n c m k h = one _ _ (here refl) Whole _ refl
    first_separate (stated o l critical) n c m k h = one _ _ (here refl) Whole _ refl
    first_separate (stated o l noncritical) n c m k h = one _ _ (here refl) Whole _ refl
    first_separate (stated o l (assign xs)) n c m k h = one _ _ (here refl) Whole _ refl
    first_separate (stated o l (release v)) n c m k h = one _ _ (here refl) Whole _ refl
    first_separate (stated o l (await t)) n c m k h = by_test _ (holds t store) _ _ (one _ _ (here refl) Whole _ refl) (nothing _)
    first_separate (stated o l (request v)) n c m k h = by_test _ (holds (row (one_less v)) store) _ _ (one _ _ (here refl) Whole _ refl) (nothing _)
    first_separate (stated o l (if_then t y)) n c m k h = by_test _ (holds t store) _ _ (one _ _ (here refl) Whole _ refl) (one _ _ (here refl) Whole _ refl)
    first_separate (stated o l (if_else t y z)) n c m k h = by_test _ (holds t store) _ _ (one _ _ (here refl) Whole _ refl) (one _ _ (here refl) Whole _ refl)
    first_separate (stated o l (while_do t b)) n c m k h = by_test _ (holds t store) _ _ (one _ _ (here refl) Whole _ refl) (one _ _ (here refl) Whole _ refl)
    first_separate (stated o l (block ss)) n c m k h = widened (spots_along ss n c) _ _ (λ y i. there i) (along_separate ss o n c m (suc k) h.1)
    first_separate (stated o l (select ss)) n c m k h = widened (spots_among ss n c) _ _ (λ y i. there i) (among_separate ss n c m (suc k) h.1)
    first_separate (stated o l (cooperate ps)) n c m k h = one _ _ (here refl) Entry _ refl
    first_separate (stated o l (group xs)) n c m k h =
        subst (Separate (spots (stated o l (group xs)) n c)) (sym (group-acts o xs store)) (walk_separate _ (at_spot (stated o l (group xs)) n c) (here refl) (walk_along xs store))

    along_separate : (ss : Statements) (o n c m k : ℕ) → HasAt (all_spots p) k (spots_along ss n c) → Separate (spots_along ss n c) (acts_along ss o m store)
    along_separate no_statement o n c m k h = nothing _
    along_separate (statement s ss) o n c m k h =
        let xs = spots s (entry ss n) c in let ys = spots_along ss n (c + length (bodies s)) in
        around_all _ (λ r. join (statement s ss) r o 1) (first_acts s m store) (widened xs (xs ++ ys) _ (λ y i. member_left ys i) (first_separate s (entry ss n) c m k (has_front (all_spots p) k xs ys h)))

    among_separate : (ss : Statements) (n c m k : ℕ) → HasAt (all_spots p) k (spots_among ss n c) → Separate (spots_among ss n c) (acts_among ss m store)
    among_separate no_statement n c m k h = nothing _
    among_separate (statement s ss) n c m k h =
        let xs = spots s n c in let ys = spots_among ss n (c + length (bodies s)) in
        both xs ys _ _ (parts_apart p numbered k xs ys h) (first_separate s n c m k (has_front (all_spots p) k xs ys h)) (among_separate ss n _ _ _ (has_back (all_spots p) k xs ys h))

  exit_separate : (xs : List Spot) (y : Spot) (n : ℕ) → Member y xs → n ≡ occurrence y.stmt → (b : Bool) → Separate {X = Rest} xs (if b then act (Step n Exit) 1 Done store ∷ [] else [])
  exit_separate xs y n is e b = by_test xs b _ _ (one xs y is Exit _ (ap (λ o. Step o Exit) e)) (nothing xs)

  mutual
    -- all steps of what is left of a part of the text
    rest_separate : (r : Rest) (all own : List Spot) → Region p all own → (e : ℕ) → Fits p r all own e → Separate all (steps r p store)
    rest_separate Done all own region e f = nothing all
    rest_separate (Run n) all own region e f =
        let s = f.0 in let c = f.1 in
        let x = at_spot s e c in
        subst (λ z. Separate all (acts_at z (length (all_spots p)) store)) (sym f.2)
        (widened (spots s e c) all _ (λ y i. region.closed_in x y f.3 i) (first_separate s e c (length (all_spots p) + c) (occurrence s) (own_numbers p numbered x (region.sub x f.3))))
    rest_separate (Then r b k) all own region e f =
        subst (λ z. Separate all (joined_acts z b k (steps r p store))) (sym f.2) (around_all all (λ z. join f.0 z b k) (steps r p store) (rest_separate r all own region _ f.5))
    rest_separate (Again r w) all own region e f = around_all all (back w) (steps r p store) (rest_separate r all own region _ f.9)
    rest_separate (Inside n rs) all own region e f =
        let o = f.0 in let l = f.1 in let ps = f.2 in let c = f.3 in
        let x = at_spot (stated o l (cooperate ps)) e c in
        let same : n ≡ o = sym (numbered n x f.4) in
        let h = own_numbers p numbered x (region.sub x f.5) in
        let inner = spots_inside ps c in
        widened (inner ++ x ∷ []) all _ (λ y i. either (member_cases inner i) (λ i. region.closed_in x y f.5 (there i)) (λ i. subst (λ z. Member z all) (sym (of_one i)) f.5))
        (both inner (x ∷ []) _ _ (λ y z i j q. parts_apart p numbered o (x ∷ []) inner h z y j i (sym q))
        (around_all inner (Inside n) (steps_of rs p store) (rests_separate rs ps c (suc o) h.1 f.6))
        (exit_separate (x ∷ []) x n (here refl) same (all_done rs)))

    rests_separate : (rs : Rests) (ps : Processes) (c k : ℕ) → HasAt (all_spots p) k (spots_inside ps c) → FitsAll p rs ps c → Separate (spots_inside ps c) (steps_of rs p store)
    rests_separate no_rest ps c k h f = nothing _
    rests_separate (rests r rs) no_process c k h f = absurd f
    rests_separate (rests r rs) (beside (process ss end) ps) c k h f =
        let xs = spots_along ss end (suc c) in let ys = spots_inside ps (suc c + length (bodies_in ss)) in
        let front = has_front (all_spots p) k xs ys h in
        both xs ys _ _ (parts_apart p numbered k xs ys h)
        (around_all xs (λ x. rests x rs) (steps r p store) (rest_separate r xs _ (along_region p ss end (suc c) (λ y i. has_member (all_spots p) k xs y front i)) end f.0))
        (around_all ys (λ xs. rests r xs) (steps_of rs p store) (rests_separate rs ps _ _ (has_back (all_spots p) k xs ys h) f.1))

-- the steps of a state of a run
pub steps_separate : (p : Processes) (initial : Formula) → WellFormed p → (s : State) → Reached p initial s → Separate (all_spots p) (steps_of s.left p s.store)
steps_separate p initial well s r =
    rests_separate p well.numbered s.store s.left p 0 0 (has_all [] (all_spots p)) (reached_good p (layout_of p well) (ends_of p well) (apart_of p well) initial r)

-- two steps of one name
module _ (p : Processes) (initial : Formula) (well : WellFormed p) (s : State) (r : Reached p initial s) where
  one_step : (name : TransName) (m n : ℕ) (t u : State) → LeadsBy p s name m t → LeadsBy p s name n u → (t ≡ u) × (m ≡ n)
  one_step Idle m n t u l k = (l.0 ∙ sym k.0, l.1 ∙ sym k.1)
  one_step (Step o part) m n t u l k =
      let a = listed p well.numbered s t o part m l in
      let b = listed p well.numbered s u o part n k in
      let e = (steps_separate p initial well s r).single a.0 b.0 a.1 b.1 (a.2 ∙ sym b.2) in
      (a.4 ∙ ap behind_act e ∙ sym b.4, sym a.3 ∙ ap (λ z. z.mode) e ∙ b.3)

pub one_way : (p : Processes) (initial : Formula) → WellFormed p → LeadsOneWay p initial
one_way p initial well = record {
  one = λ s r name t u l k. (one_step p initial well s r name l.0 k.0 t u l.1 k.1).0;
  by_one = λ s r name m n t u l k. (one_step p initial well s r name m n t u l k).1;
}
