-- A program has at most as many components as statements, since each has one; so all its bodies have numbers of 32 bits.
use Rattle.std.proofs.Common.{ℕ, suc, ◌+◌, ◌<◌, ◌≤◌, ◌^◌, List, length, length-append, refl, arith}
use Rattle.st_form.specs.Formula.{Formula}
use Rattle.st_form.specs.declared.variables.Variable.{Variable}
use Rattle.st_program.specs.Tree.{Statement, stated, Action, skip, if_then, if_else, while_do, block, select, cooperate, Statements, no_statement, statement, process, Processes, no_process, beside, action}
use Rattle.st_program.specs.Member.{Member, here, there}
use Rattle.st_program.specs.Spots.{entry, bodies, bodies_inside, bodies_in, bodies_of, Spot, spots, spots_within, spots_along, spots_among, spots_inside}
use Rattle.st_program.specs.Locations.{SomeStatement, BodiesFit, ShapeFits}
use Rattle.st_program.specs.Programs.{IsProgram}
use Rattle.spl_semantics.proofs.Members.{member_left, member_right}

-- each statement of a part of the text has its shape
abbrev Shaped : List Spot → Type 0
Shaped xs = (x : Spot) → Member x xs → ShapeFits (action x.stmt)

mutual
  few : (s : Statement) (n c : ℕ) → Shaped (spots s n c) → length (bodies s) < length (spots s n c)
  few (stated o l a) n c h = let k = few_within a l n c (h _ (here refl)) (λ x m. h x (there m)) in omega arith

  few_within : (a : Action) (l n c : ℕ) → ShapeFits a → Shaped (spots_within a l n c) → length (bodies_inside a) ≤ length (spots_within a l n c)
  few_within (if_then t s) l n c f h = let k = few s n c h in omega arith
  few_within (if_else t s r) l n c f h =
      let i = few s n c (λ x m. h x (member_left (spots r n (c + length (bodies s))) m)) in
      let j = few r n (c + length (bodies s)) (λ x m. h x (member_right (spots s n c) m)) in
      let d = length-append (bodies s) (bodies r) in let e = length-append (spots s n c) (spots r n (c + length (bodies s))) in
      omega arith
  few_within (while_do t s) l n c f h = let k = few s l c h in omega arith
  few_within (block ss) l n c f h = few_along ss n c h
  few_within (select ss) l n c f h = few_among ss n c h
  few_within (cooperate ps) l n c f h = few_inside ps c f.1 h
  few_within skip l n c f h = omega arith
  few_within _ l n c f h = omega arith

  few_along : (ss : Statements) (n c : ℕ) → Shaped (spots_along ss n c) → length (bodies_in ss) ≤ length (spots_along ss n c)
  few_along no_statement n c h = omega arith
  few_along (statement s ss) n c h =
      let i = few s (entry ss n) c (λ x m. h x (member_left (spots_along ss n (c + length (bodies s))) m)) in
      let j = few_along ss n (c + length (bodies s)) (λ x m. h x (member_right (spots s (entry ss n) c) m)) in
      let d = length-append (bodies s) (bodies_in ss) in let e = length-append (spots s (entry ss n) c) (spots_along ss n (c + length (bodies s))) in
      omega arith

  few_among : (ss : Statements) (n c : ℕ) → Shaped (spots_among ss n c) → length (bodies_in ss) ≤ length (spots_among ss n c)
  few_among no_statement n c h = omega arith
  few_among (statement s ss) n c h =
      let i = few s n c (λ x m. h x (member_left (spots_among ss n (c + length (bodies s))) m)) in
      let j = few_among ss n (c + length (bodies s)) (λ x m. h x (member_right (spots s n c) m)) in
      let d = length-append (bodies s) (bodies_in ss) in let e = length-append (spots s n c) (spots_among ss n (c + length (bodies s))) in
      omega arith

  -- a body that isn't empty has more statements than components
  few_body : (ss : Statements) (n c : ℕ) → SomeStatement ss → Shaped (spots_along ss n c) → length (bodies_in ss) < length (spots_along ss n c)
  few_body no_statement n c f h = absurd f
  few_body (statement s ss) n c f h =
      let i = few s (entry ss n) c (λ x m. h x (member_left (spots_along ss n (c + length (bodies s))) m)) in
      let j = few_along ss n (c + length (bodies s)) (λ x m. h x (member_right (spots s (entry ss n) c) m)) in
      let d = length-append (bodies s) (bodies_in ss) in let e = length-append (spots s (entry ss n) c) (spots_along ss n (c + length (bodies s))) in
      omega arith

  few_inside : (ps : Processes) (c : ℕ) → BodiesFit ps → Shaped (spots_inside ps c) → length (bodies_of ps) ≤ length (spots_inside ps c)
  few_inside no_process c f h = omega arith
  few_inside (beside (process ss end) ps) c f h =
      let i = few_body ss end (suc c) f.0 (λ x m. h x (member_left (spots_inside ps (suc c + length (bodies_in ss))) m)) in
      let j = few_inside ps (suc c + length (bodies_in ss)) f.1 (λ x m. h x (member_right (spots_along ss end (suc c)) m)) in
      let d = length-append (bodies_in ss) (bodies_of ps) in let e = length-append (spots_along ss end (suc c)) (spots_inside ps (suc c + length (bodies_in ss))) in
      omega arith

pub has_numbers : (vs : List Variable) (initial : Formula) (p : Processes) (locations statements : ℕ) → IsProgram vs initial p locations statements → statements + length (bodies_of p) < 2 ^ 32
has_numbers vs initial p locations statements h =
    let k = few_inside p 0 h.well.bodies h.well.shaped in
    omega (arith, k, h.statement_count, h.few_statements)
