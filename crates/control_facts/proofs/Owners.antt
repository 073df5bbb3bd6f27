-- The owners of the locations of a program: as many as locations, each the number of a component.
use Rattle.std.proofs.Common.{◌≡◌, ℕ, suc, ◌+◌, ◌<◌, ◌≤◌, List, ◌∷◌, All, length, None, length-append, arith}
use Rattle.std.proofs.lemmas.List.Elements.{All-nil, All-cons, All-append}
use Rattle.st_program.specs.Tree.{Statement, stated, Action, skip, if_then, if_else, while_do, block, select, cooperate, Statements, no_statement, statement, process, Processes, no_process, beside}
use Rattle.st_program.specs.Spots.{bodies, bodies_inside, bodies_in, bodies_of}
use Rattle.st_program.specs.Locations.{location_end, within_end, head_end, along_end, among_end, inside_end}
use Rattle.control_facts.specs.Alternatives.{owners, owners_within, owners_head, owners_along, owners_among, owners_inside, strands_inside}
use Rattle.control_facts.proofs.Strands.{how_many_inside}

-- a part of the text has as many owners as locations
mutual
  pub owned : (s : Statement) (c n f : ℕ) → f + length (owners s c n) ≡ location_end s f
  owned (stated o l a) c n f = owned_within a c n f

  owned_within : (a : Action) (c n f : ℕ) → f + length (owners_within a c n) ≡ within_end a f
  owned_within (if_then t s) c n f = let x = owned s c n (suc f) in omega arith
  owned_within (if_else t s r) c n f =
      let a = length-append (owners s c n) (c ∷ owners r c (n + length (bodies s))) in
      let x = owned s c n (suc f) in let y = owned r c (n + length (bodies s)) (suc (location_end s (suc f))) in omega arith
  owned_within (while_do t s) c n f = let x = owned s c n (suc f) in omega arith
  owned_within (block ss) c n f = owned_head ss c n f
  owned_within (select ss) c n f = owned_among ss c n f
  owned_within (cooperate ps) c n f = owned_inside ps n f
  owned_within skip c n f = omega arith
  owned_within _ c n f = omega arith

  owned_head : (ss : Statements) (c n f : ℕ) → f + length (owners_head ss c n) ≡ head_end ss f
  owned_head no_statement c n f = omega arith
  owned_head (statement s ss) c n f =
      let a = length-append (owners s c n) (owners_along ss c (n + length (bodies s))) in
      let x = owned s c n f in let y = owned_along ss c (n + length (bodies s)) (location_end s f) in omega arith

  pub owned_along : (ss : Statements) (c n f : ℕ) → f + length (owners_along ss c n) ≡ along_end ss f
  owned_along no_statement c n f = omega arith
  owned_along (statement s ss) c n f =
      let a = length-append (owners s c n) (owners_along ss c (n + length (bodies s))) in
      let x = owned s c n (suc f) in let y = owned_along ss c (n + length (bodies s)) (location_end s (suc f)) in omega arith

  owned_among : (ss : Statements) (c n f : ℕ) → f + length (owners_among ss c n) ≡ among_end ss f
  owned_among no_statement c n f = omega arith
  owned_among (statement s ss) c n f =
      let a = length-append (owners s c n) (owners_among ss c (n + length (bodies s))) in
      let x = owned s c n f in let y = owned_among ss c (n + length (bodies s)) (location_end s f) in omega arith

  pub owned_inside : (ps : Processes) (n f : ℕ) → f + length (owners_inside ps n) ≡ inside_end ps f
  owned_inside no_process n f = omega arith
  owned_inside (beside (process ss end) ps) n f =
      let a = length-append (owners_along ss n (suc n)) (n ∷ owners_inside ps (suc n + length (bodies_in ss))) in
      let x = owned_along ss n (suc n) f in let y = owned_inside ps (suc n + length (bodies_in ss)) (suc (along_end ss f)) in omega arith

-- the component c and those in a part of the text, the first of which is n, have numbers below k
module _ (k : ℕ) where
  abbrev Numbers : List ℕ → Type 0
  Numbers xs = All (λ m. m < k) xs

  mutual
    named : (s : Statement) (c n : ℕ) → c < k → n + length (bodies s) ≤ k → Numbers (owners s c n)
    named (stated o l a) c n h g = named_within a c n h g

    named_within : (a : Action) (c n : ℕ) → c < k → n + length (bodies_inside a) ≤ k → Numbers (owners_within a c n)
    named_within (if_then t s) c n h g = All-cons (λ m. m < k) c (owners s c n) h (named s c n h g)
    named_within (if_else t s r) c n h g =
        let e = length-append (bodies s) (bodies r) in
        All-append (λ m. m < k) (c ∷ owners s c n) (c ∷ owners r c (n + length (bodies s)))
        (All-cons (λ m. m < k) c (owners s c n) h (named s c n h (omega arith)))
        (All-cons (λ m. m < k) c (owners r c (n + length (bodies s))) h (named r c (n + length (bodies s)) h (omega arith)))
    named_within (while_do t s) c n h g = All-cons (λ m. m < k) c (owners s c n) h (named s c n h g)
    named_within (block ss) c n h g = named_head ss c n h g
    named_within (select ss) c n h g = named_among ss c n h g
    named_within (cooperate ps) c n h g = named_inside ps n g
    named_within skip c n h g = All-nil (λ m. m < k)
    named_within _ c n h g = All-nil (λ m. m < k)

    named_head : (ss : Statements) (c n : ℕ) → c < k → n + length (bodies_in ss) ≤ k → Numbers (owners_head ss c n)
    named_head no_statement c n h g = All-nil (λ m. m < k)
    named_head (statement s ss) c n h g =
        let e = length-append (bodies s) (bodies_in ss) in
        All-append (λ m. m < k) (owners s c n) (owners_along ss c (n + length (bodies s)))
        (named s c n h (omega arith)) (named_along ss c (n + length (bodies s)) h (omega arith))

    named_along : (ss : Statements) (c n : ℕ) → c < k → n + length (bodies_in ss) ≤ k → Numbers (owners_along ss c n)
    named_along no_statement c n h g = All-nil (λ m. m < k)
    named_along (statement s ss) c n h g =
        let e = length-append (bodies s) (bodies_in ss) in
        All-append (λ m. m < k) (c ∷ owners s c n) (owners_along ss c (n + length (bodies s)))
        (All-cons (λ m. m < k) c (owners s c n) h (named s c n h (omega arith))) (named_along ss c (n + length (bodies s)) h (omega arith))

    named_among : (ss : Statements) (c n : ℕ) → c < k → n + length (bodies_in ss) ≤ k → Numbers (owners_among ss c n)
    named_among no_statement c n h g = All-nil (λ m. m < k)
    named_among (statement s ss) c n h g =
        let e = length-append (bodies s) (bodies_in ss) in
        All-append (λ m. m < k) (owners s c n) (owners_among ss c (n + length (bodies s)))
        (named s c n h (omega arith)) (named_among ss c (n + length (bodies s)) h (omega arith))

    named_inside : (ps : Processes) (n : ℕ) → n + length (bodies_of ps) ≤ k → Numbers (owners_inside ps n)
    named_inside no_process n g = All-nil (λ m. m < k)
    named_inside (beside (process ss end) ps) n g =
        let e = length-append (bodies_in ss) (bodies_of ps) in
        All-append (λ m. m < k) (owners_along ss n (suc n)) (n ∷ owners_inside ps (suc n + length (bodies_in ss)))
        (named_along ss n (suc n) (omega arith) (omega arith))
        (All-cons (λ m. m < k) n (owners_inside ps (suc n + length (bodies_in ss))) (omega arith) (named_inside ps (suc n + length (bodies_in ss)) (omega arith)))

-- the whole program
pub owners_count : (ps : Processes) → length (owners_inside ps 0) ≡ inside_end ps 0
owners_count ps = let h = owned_inside ps 0 0 in omega (arith, h)

pub owners_named : (ps : Processes) → All (λ c. c < length (strands_inside ps None 0)) (owners_inside ps 0)
owners_named ps = let e = how_many_inside ps None 0 in named_inside (length (strands_inside ps None 0)) ps 0 (omega arith)
