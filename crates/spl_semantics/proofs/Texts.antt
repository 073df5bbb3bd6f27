-- Where statements stand in a program's text.
use Rattle.std.proofs.Common.{◌≡◌, ℕ, suc, ◌+◌, List, [], ◌∷◌, ◌++◌, length, Some, refl, sym, ap, ◌∙◌, subst, ◌⊎◌, inl, inr}
use Rattle.st_program.specs.Tree.{Statement, stated, Action, skip, if_then, if_else, while_do, block, select, cooperate, Statements, no_statement, statement, process, Processes, no_process, beside, occurrence}
use Rattle.st_program.specs.Member.{Member, here, there}
use Rattle.st_program.specs.Spots.{entry, bodies, Spot, at_spot, spots, spots_within, spots_along, spots_among, spots_inside, all_spots, spot, IsNumbered}
use Rattle.spl_semantics.proofs.Members.{member_none, member_left, member_right, member_cases, member_at, at_member}
use Rattle.basic_laws.proofs.Types.{either}

abbrev pub own_spots : Spot → List Spot
own_spots x = spots x.stmt x.next x.before

-- what stands in a statement of a part of the text stands in that part
module _ (x y : Spot) (h : Member y (own_spots x)) where
  at_top : (z : Spot) → x ≡ z → Member y (own_spots z)
  at_top z e = subst (λ w. Member y (own_spots w)) e h

  mutual
    pub closed : (s : Statement) (n c : ℕ) → Member x (spots s n c) → Member y (spots s n c)
    closed (stated o l a) n c (here e) = at_top _ e
    closed (stated o l a) n c (there m) = there (closed_within a l n c m)

    closed_within : (a : Action) (l n c : ℕ) → Member x (spots_within a l n c) → Member y (spots_within a l n c)
    closed_within (if_then t s) l n c m = closed s n c m
    closed_within (if_else t s r) l n c m =
        either (member_cases (spots s n c) m) (λ m. member_left _ (closed s n c m)) (λ m. member_right (spots s n c) (closed r n _ m))
    closed_within (while_do t s) l n c m = closed s l c m
    closed_within (block ss) l n c m = closed_along ss n c m
    closed_within (select ss) l n c m = closed_among ss n c m
    closed_within (cooperate ps) l n c m = closed_inside ps c m
    closed_within skip l n c m = member_none m
    closed_within _ l n c m = member_none m

    pub closed_along : (ss : Statements) (n c : ℕ) → Member x (spots_along ss n c) → Member y (spots_along ss n c)
    closed_along no_statement n c m = member_none m
    closed_along (statement s ss) n c m =
        either (member_cases (spots s (entry ss n) c) m) (λ m. member_left _ (closed s _ c m)) (λ m. member_right (spots s (entry ss n) c) (closed_along ss n _ m))

    pub closed_among : (ss : Statements) (n c : ℕ) → Member x (spots_among ss n c) → Member y (spots_among ss n c)
    closed_among no_statement n c m = member_none m
    closed_among (statement s ss) n c m =
        either (member_cases (spots s n c) m) (λ m. member_left _ (closed s _ c m)) (λ m. member_right (spots s n c) (closed_among ss n _ m))

    pub closed_inside : (ps : Processes) (c : ℕ) → Member x (spots_inside ps c) → Member y (spots_inside ps c)
    closed_inside no_process c m = member_none m
    closed_inside (beside (process ss end) ps) c m =
        either (member_cases (spots_along ss end (suc c)) m) (λ m. member_left _ (closed_along ss end _ m)) (λ m. member_right (spots_along ss end (suc c)) (closed_inside ps _ m))

-- a statement is the first of its own spots
pub own_first : (s : Statement) (n c : ℕ) → Member (at_spot s n c) (spots s n c)
own_first (stated o l a) n c = here refl

-- the spots of a part of the text without what stands in the children of cooperations
abbrev mutual
  pub near : Statement → ℕ → ℕ → List Spot
  near (stated o l a) next c = at_spot (stated o l a) next c ∷ near_within a l next c

  pub near_within : Action → ℕ → ℕ → ℕ → List Spot
  near_within (if_then t y) l next c = near y next c
  near_within (if_else t y n) l next c = near y next c ++ near n next (c + length (bodies y))
  near_within (while_do t b) l next c = near b l c
  near_within (block ss) l next c = near_along ss next c
  near_within (select ss) l next c = near_among ss next c
  near_within skip l next c = []
  near_within _ l next c = []

  pub near_along : Statements → ℕ → ℕ → List Spot
  near_along no_statement next c = []
  near_along (statement s ss) next c = near s (entry ss next) c ++ near_along ss next (c + length (bodies s))

  pub near_among : Statements → ℕ → ℕ → List Spot
  near_among no_statement next c = []
  near_among (statement s ss) next c = near s next c ++ near_among ss next (c + length (bodies s))

abbrev pub near_spots : Spot → List Spot
near_spots x = near x.stmt x.next x.before

module _ (x y : Spot) (h : Member y (near_spots x)) where
  near_top : (z : Spot) → x ≡ z → Member y (near_spots z)
  near_top z e = subst (λ w. Member y (near_spots w)) e h

  mutual
    pub near_closed : (s : Statement) (n c : ℕ) → Member x (near s n c) → Member y (near s n c)
    near_closed (stated o l a) n c (here e) = near_top _ e
    near_closed (stated o l a) n c (there m) = there (near_closed_within a l n c m)

    near_closed_within : (a : Action) (l n c : ℕ) → Member x (near_within a l n c) → Member y (near_within a l n c)
    near_closed_within (if_then t s) l n c m = near_closed s n c m
    near_closed_within (if_else t s r) l n c m =
        either (member_cases (near s n c) m) (λ m. member_left _ (near_closed s n c m)) (λ m. member_right (near s n c) (near_closed r n _ m))
    near_closed_within (while_do t s) l n c m = near_closed s l c m
    near_closed_within (block ss) l n c m = near_closed_along ss n c m
    near_closed_within (select ss) l n c m = near_closed_among ss n c m
    near_closed_within skip l n c m = member_none m
    near_closed_within _ l n c m = member_none m

    pub near_closed_along : (ss : Statements) (n c : ℕ) → Member x (near_along ss n c) → Member y (near_along ss n c)
    near_closed_along no_statement n c m = member_none m
    near_closed_along (statement s ss) n c m =
        either (member_cases (near s (entry ss n) c) m) (λ m. member_left _ (near_closed s _ c m)) (λ m. member_right (near s (entry ss n) c) (near_closed_along ss n _ m))

    pub near_closed_among : (ss : Statements) (n c : ℕ) → Member x (near_among ss n c) → Member y (near_among ss n c)
    near_closed_among no_statement n c m = member_none m
    near_closed_among (statement s ss) n c m =
        either (member_cases (near s n c) m) (λ m. member_left _ (near_closed s _ c m)) (λ m. member_right (near s n c) (near_closed_among ss n _ m))

pub near_first : (s : Statement) (n c : ℕ) → Member (at_spot s n c) (near s n c)
near_first (stated o l a) n c = here refl

-- what stands in p
abbrev pub Has : Processes → Statement → ℕ → ℕ → Type 0
Has p s n c = Member (at_spot s n c) (all_spots p)

-- a part of a program's text, and its own spots: with a statement it has all that stands in the statement
pub record Region (p : Processes) (all own : List Spot) : Type 0 where
  pub sub : (y : Spot) → Member y all → Member y (all_spots p)
  pub closed_in : (x y : Spot) → Member x all → Member y (own_spots x) → Member y all
  pub closed_own : (x y : Spot) → Member x own → Member y (near_spots x) → Member y own

-- the whole program, whose own spots are none
pub whole : (p : Processes) → Region p (all_spots p) []
whole p = record { sub = λ y m. m; closed_in = λ x y m h. closed_inside x y h p 0 m; closed_own = λ x y m h. member_none m }

pub along_region : (p : Processes) (ss : Statements) (n c : ℕ) → ((y : Spot) → Member y (spots_along ss n c) → Member y (all_spots p)) → Region p (spots_along ss n c) (near_along ss n c)
along_region p ss n c sub = record { sub = sub; closed_in = λ x y m h. closed_along x y h ss n c m; closed_own = λ x y m h. near_closed_along x y h ss n c m }

-- a statement that stands in p is the one of its number
module _ (p : Processes) (numbered : IsNumbered p) where
  pub found : (x : Spot) → Member x (all_spots p) → spot p (occurrence x.stmt) ≡ Some x
  found x m =
      let r = member_at x (all_spots p) m in
      let e : occurrence x.stmt ≡ r.0 = numbered r.0 x r.1 in
      subst (λ k. spot p k ≡ Some x) (sym e) r.1

  pub found_has : (n : ℕ) (x : Spot) → spot p n ≡ Some x → Member x (all_spots p)
  found_has n x e = at_member x (all_spots p) n e

  pub same_number : (x y : Spot) → Member x (all_spots p) → Member y (all_spots p) → occurrence x.stmt ≡ occurrence y.stmt → x ≡ y
  same_number x y m h e =
      let a = found x m in
      let b = found y h in
      let c : Some x ≡ Some y = sym a ∙ ap (spot p) e ∙ b in
      cc
