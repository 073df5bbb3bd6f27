-- What the statements of a program do, in the order of the text, and what all groups among them weigh.
use Rattle.std.proofs.Common.{◌≡◌, ℕ, suc, ◌+◌, List, [], ◌∷◌, ◌++◌, map, length, refl, ap, ◌∙◌, arith}
use Rattle.std.specs.Prelude.{sum_by}
use Rattle.std.proofs.lemmas.List.{map-append}
use Rattle.std.proofs.lemmas.List.Sums.{sum_by-cons}
use Rattle.list_laws.specs.Each.{Each}
use Rattle.st_program.specs.Tree.{Statement, stated, Action, skip, critical, noncritical, assign, await, request, release, if_then, if_else, while_do, block, select, cooperate, group, Statements, no_statement, statement, Process, process, Processes, no_process, beside, action}
use Rattle.st_program.specs.Member.{Member, here, there}
use Rattle.st_program.specs.Spots.{Spot, entry, bodies, bodies_in, spots, spots_within, spots_along, spots_among, spots_inside, all_spots}
use Rattle.program_rules.specs.Groups.{group_weight}

abbrev mutual
  pub acts : Statement → List Action
  acts (stated o l a) = a ∷ acts_in a

  pub acts_in : Action → List Action
  acts_in (if_then t y) = acts y
  acts_in (if_else t y n) = acts y ++ acts n
  acts_in (while_do t b) = acts b
  acts_in (block ss) = acts_along ss
  acts_in (select ss) = acts_along ss
  acts_in (cooperate ps) = acts_of ps
  acts_in skip = []
  acts_in critical = []
  acts_in noncritical = []
  acts_in (assign xs) = []
  acts_in (await t) = []
  acts_in (request v) = []
  acts_in (release v) = []
  acts_in (group xs) = []

  pub acts_along : Statements → List Action
  acts_along no_statement = []
  acts_along (statement s ss) = acts s ++ acts_along ss

  pub acts_process : Process → List Action
  acts_process (process ss end) = acts_along ss

  pub acts_of : Processes → List Action
  acts_of no_process = []
  acts_of (beside p ps) = acts_process p ++ acts_of ps

-- THE STATEMENTS BY NUMBER
abbrev act_at : Spot → Action
act_at x = action x.stmt

two : (xs ys : List Spot) (ks bs : List Action) → map act_at xs ≡ ks → map act_at ys ≡ bs → map act_at (xs ++ ys) ≡ ks ++ bs
two xs ys ks bs e f = map-append act_at xs ys ∙ ap (λ z. z ++ map act_at ys) e ∙ ap (λ z. ks ++ z) f

mutual
  spots_act : (s : Statement) (next c : ℕ) → map act_at (spots s next c) ≡ acts s
  spots_act (stated o l a) next c = ap (λ z. a ∷ z) (within_act a l next c)

  within_act : (a : Action) (l next c : ℕ) → map act_at (spots_within a l next c) ≡ acts_in a
  within_act (if_then t y) l next c = spots_act y next c
  within_act (if_else t y n) l next c = two (spots y next c) (spots n next (c + length (bodies y))) (acts y) (acts n) (spots_act y next c) (spots_act n next (c + length (bodies y)))
  within_act (while_do t b) l next c = spots_act b l c
  within_act (block ss) l next c = along_act ss next c
  within_act (select ss) l next c = among_act ss next c
  within_act (cooperate ps) l next c = inside_act ps c
  within_act skip l next c = refl
  within_act critical l next c = refl
  within_act noncritical l next c = refl
  within_act (assign xs) l next c = refl
  within_act (await t) l next c = refl
  within_act (request v) l next c = refl
  within_act (release v) l next c = refl
  within_act (group xs) l next c = refl

  along_act : (ss : Statements) (next c : ℕ) → map act_at (spots_along ss next c) ≡ acts_along ss
  along_act no_statement next c = refl
  along_act (statement s ss) next c =
      two (spots s (entry ss next) c) (spots_along ss next (c + length (bodies s))) (acts s) (acts_along ss) (spots_act s (entry ss next) c) (along_act ss next (c + length (bodies s)))

  among_act : (ss : Statements) (next c : ℕ) → map act_at (spots_among ss next c) ≡ acts_along ss
  among_act no_statement next c = refl
  among_act (statement s ss) next c =
      two (spots s next c) (spots_among ss next (c + length (bodies s))) (acts s) (acts_along ss) (spots_act s next c) (among_act ss next (c + length (bodies s)))

  inside_act : (ps : Processes) (c : ℕ) → map act_at (spots_inside ps c) ≡ acts_of ps
  inside_act no_process c = refl
  inside_act (beside (process ss end) ps) c =
      two (spots_along ss end (suc c)) (spots_inside ps (suc c + length (bodies_in ss))) (acts_along ss) (acts_of ps) (along_act ss end (suc c)) (inside_act ps (suc c + length (bodies_in ss)))

pub all_act : (p : Processes) → map act_at (all_spots p) ≡ acts_of p
all_act p = inside_act p 0

pub each_act : (P : Action → Type 0) (xs : List Spot) → ((x : Spot) → Member x xs → P (action x.stmt)) → Each P (map act_at xs)
each_act P [] h = tt
each_act P (x ∷ xs) h = (h x (here refl), each_act P xs (λ y m. h y (there m)))

pub act_of : (P : Action → Type 0) (xs : List Spot) (x : Spot) → Each P (map act_at xs) → Member x xs → P (action x.stmt)
act_of P [] x h m = elim m [ ]
act_of P (y ∷ xs) x h (here e) = rw e h.0
act_of P (y ∷ xs) x h (there m) = act_of P xs x h.1 m

-- WEIGHTS
abbrev pub load : List Action → ℕ
load [] = 0
load (a ∷ ks) = group_weight a + load ks

pub load_sum : (xs : List Spot) → sum_by (λ (x : Spot). group_weight (action x.stmt)) xs ≡ load (map act_at xs)
load_sum [] = refl
load_sum (x ∷ xs) = sum_by-cons (λ (y : Spot). group_weight (action y.stmt)) x xs ∙ ap (λ z. group_weight (action x.stmt) + z) (load_sum xs)

pub load_both : (ks bs : List Action) → load (ks ++ bs) ≡ load ks + load bs
load_both [] bs = zero_plus (load bs)
  where
    zero_plus : (n : ℕ) → n ≡ 0 + n
    zero_plus n = omega arith
load_both (a ∷ ks) bs = ap (λ z. group_weight a + z) (load_both ks bs) ∙ grouped (group_weight a) (load ks) (load bs)
  where
    grouped : (i j k : ℕ) → i + (j + k) ≡ i + j + k
    grouped i j k = omega arith
