-- What is carried on behind a statement, a body or a declaration: the count, raised by what they have. Every number on
-- the way there has to be one where one more may begin.
use Rattle.std.proofs.Common.{◌⊎◌, inl, inr, ◌≡◌, ℕ, zero, suc, ◌+◌, ◌≤◌, ◌<◌, Bool, true, List, [], ◌∷◌, refl, sym, ap, subst, ◌∙◌, arith}
use Rattle.st_reading.proofs.ListCompleteness.{all_after, AllFit}
use Rattle.spl_parser.specs.ProgramTree.{Statement, stated, Action, skip, critical, noncritical, assign, assign_all, await, request, release, conditional, while_do, forever, block, select, cooperate, group, Branch, no_branch, branch, Statements, no_statements, followed, statements, Body, body, Bodies, no_bodies, beside, bodies}
use Rattle.spl_parser.specs.Numbers.{in_statement, in_action, in_branch, in_statements, in_body, in_bodies}

abbrev mutual
  pub statement_after : Statement → ℕ → ℕ
  statement_after (stated label place a) n = action_after a (n + 1)

  pub action_after : Action → ℕ → ℕ
  action_after skip n = n
  action_after critical n = n
  action_after noncritical n = n
  action_after (assign l e) n = n
  action_after (assign_all targets list values) n = n
  action_after (await e) n = n
  action_after (request l) n = n
  action_after (release l) n = n
  action_after (conditional e x y) n = branch_after y (statement_after x n)
  action_after (while_do e x) n = statement_after x n
  action_after (forever x) n = statement_after x n
  action_after (block xs) n = statements_after xs n
  action_after (select xs) n = statements_after xs n
  action_after (cooperate bs) n = bodies_after bs n
  action_after (group xs) n = statements_after xs n

  pub branch_after : Branch → ℕ → ℕ
  branch_after no_branch n = n
  branch_after (branch x) n = statement_after x n

  pub statements_after : Statements → ℕ → ℕ
  statements_after no_statements n = n
  statements_after (followed x xs) n = statements_after xs (statement_after x n)

  pub body_after : Body → ℕ → ℕ
  body_after (body xs end) n = statements_after xs n

  pub bodies_after : Bodies → ℕ → ℕ
  bodies_after no_bodies n = n
  bodies_after (beside b bs) n = bodies_after bs (body_after b n)

-- THE COUNT IS RAISED BY THE NUMBER OF STATEMENTS
mutual
  pub statement_raises : (x : Statement) (n : ℕ) → statement_after x n ≡ n + in_statement x
  statement_raises (stated label place a) n = omega (arith, action_raises a (n + 1))

  pub action_raises : (a : Action) (n : ℕ) → action_after a n ≡ n + in_action a
  action_raises skip n = omega arith
  action_raises critical n = omega arith
  action_raises noncritical n = omega arith
  action_raises (assign l e) n = omega arith
  action_raises (assign_all targets list values) n = omega arith
  action_raises (await e) n = omega arith
  action_raises (request l) n = omega arith
  action_raises (release l) n = omega arith
  action_raises (conditional e x y) n = omega (arith, statement_raises x n, branch_raises y (statement_after x n))
  action_raises (while_do e x) n = statement_raises x n
  action_raises (forever x) n = statement_raises x n
  action_raises (block xs) n = statements_raise xs n
  action_raises (select xs) n = statements_raise xs n
  action_raises (cooperate bs) n = bodies_raise bs n
  action_raises (group xs) n = statements_raise xs n

  pub branch_raises : (y : Branch) (n : ℕ) → branch_after y n ≡ n + in_branch y
  branch_raises no_branch n = omega arith
  branch_raises (branch x) n = statement_raises x n

  pub statements_raise : (xs : Statements) (n : ℕ) → statements_after xs n ≡ n + in_statements xs
  statements_raise no_statements n = omega arith
  statements_raise (followed x xs) n = omega (arith, statement_raises x n, statements_raise xs (statement_after x n))

  pub body_raises : (b : Body) (n : ℕ) → body_after b n ≡ n + in_body b
  body_raises (body xs end) n = statements_raise xs n

  pub bodies_raise : (bs : Bodies) (n : ℕ) → bodies_after bs n ≡ n + in_bodies bs
  bodies_raise no_bodies n = omega arith
  bodies_raise (beside b bs) n = omega (arith, body_raises b n, bodies_raise bs (body_after b n))

-- one more may begin at each number from n on, up to m
abbrev pub Range : (ℕ → Bool) → ℕ → ℕ → Type 0
Range may n m = (k : ℕ) → n ≤ k → k < m → may k ≡ true

pub first_part : (may : ℕ → Bool) (n m l : ℕ) → m ≤ l → Range may n l → Range may n m
first_part may n m l le f k a b = f k a (omega arith)

pub last_part : (may : ℕ → Bool) (n m l : ℕ) → n ≤ m → Range may n l → Range may m l
last_part may n m l le f k a b = f k (omega arith) b

-- LISTS OF WHAT RAISES THE COUNT
module _ {A : Type 0} (go : A → ℕ → ℕ) (rises : (x : A) (n : ℕ) → n ≤ go x n) where
  pub all_rise : (xs : List A) (n : ℕ) → n ≤ all_after go xs n
  all_rise [] n = omega arith
  all_rise (x ∷ xs) n = omega (arith, rises x n, all_rise xs (go x n))

  pub all_fit : (may : ℕ → Bool) (Fits : A → ℕ → Type 0) → ((x : A) (n : ℕ) → Range may n (go x n) → Fits x n) → (xs : List A) (n : ℕ) → Range may n (all_after go xs n) → AllFit go Fits xs n
  all_fit may Fits fits [] n f = tt
  all_fit may Fits fits (x ∷ xs) n f =
      (fits x n (first_part may n (go x n) (all_after go xs (go x n)) (all_rise xs (go x n)) f), all_fit may Fits fits xs (go x n) (last_part may n (go x n) (all_after go xs (go x n)) (rises x n) f))

-- STATEMENTS AND BODIES
-- a statement may stand where n have begun
abbrev pub Fits : (ℕ → Bool) → Statement → ℕ → Type 0
Fits may x n = Range may n (statement_after x n)

abbrev pub BodyFits : (ℕ → Bool) → Body → ℕ → Type 0
BodyFits may b n = Range may n (body_after b n)

pub statement_rises : (x : Statement) (n : ℕ) → n ≤ statement_after x n
statement_rises x n = omega (arith, statement_raises x n)

pub action_rises : (a : Action) (n : ℕ) → n ≤ action_after a n
action_rises a n = omega (arith, action_raises a n)

pub branch_rises : (y : Branch) (n : ℕ) → n ≤ branch_after y n
branch_rises y n = omega (arith, branch_raises y n)

pub body_rises : (b : Body) (n : ℕ) → n ≤ body_after b n
body_rises b n = omega (arith, body_raises b n)

pub statements_all : (xs : List Statement) (n : ℕ) → statements_after (statements xs) n ≡ all_after statement_after xs n
statements_all [] n = refl
statements_all (x ∷ xs) n = statements_all xs (statement_after x n)

pub bodies_all : (bs : List Body) (n : ℕ) → bodies_after (bodies bs) n ≡ all_after body_after bs n
bodies_all [] n = refl
bodies_all (b ∷ bs) n = bodies_all bs (body_after b n)

pub statements_fit : (may : ℕ → Bool) (xs : List Statement) (n : ℕ) → Range may n (statements_after (statements xs) n) → AllFit statement_after (Fits may) xs n
statements_fit may xs n f = all_fit statement_after statement_rises may (Fits may) (λ x n g. g) xs n (subst (Range may n) (statements_all xs n) f)

pub bodies_fit : (may : ℕ → Bool) (bs : List Body) (n : ℕ) → Range may n (bodies_after (bodies bs) n) → AllFit body_after (BodyFits may) bs n
bodies_fit may bs n f = all_fit body_after body_rises may (BodyFits may) (λ x n g. g) bs n (subst (Range may n) (bodies_all bs n) f)

-- the statement itself, and what is inside it
pub admitted_there : (may : ℕ → Bool) (a : Action) (n : ℕ) → Range may n (action_after a (n + 1)) → may n ≡ true
admitted_there may a n f = f n (omega arith) (omega (arith, action_rises a (n + 1)))

pub fits_inside : (may : ℕ → Bool) (a : Action) (n : ℕ) → Range may n (action_after a (n + 1)) → Range may (n + 1) (action_after a (n + 1))
fits_inside may a n f = last_part may n (n + 1) (action_after a (n + 1)) (omega arith) f

-- and the other way round
either : (k m : ℕ) → (k < m) ⊎ (m ≤ k)
either k zero = inr (omega arith)
either zero (suc m) = inl (omega arith)
either (suc k) (suc m) = further (either k m)
  where
    further : (k < m) ⊎ (m ≤ k) → (suc k < suc m) ⊎ (suc m ≤ suc k)
    further (inl h) = inl (omega arith)
    further (inr h) = inr (omega arith)

pub joined_parts : (may : ℕ → Bool) (n m l : ℕ) → Range may n m → Range may m l → Range may n l
joined_parts may n m l f g k a b = at (either k m)
  where
    at : (k < m) ⊎ (m ≤ k) → may k ≡ true
    at (inl h) = f k a h
    at (inr h) = g k h b

pub nothing_begins : (may : ℕ → Bool) (n m : ℕ) → m ≤ n → Range may n m
nothing_begins may n m le k a b = absurd (omega arith)

pub one_begins : (may : ℕ → Bool) (n m : ℕ) → may n ≡ true → Range may (n + 1) m → Range may n m
one_begins may n m h f = joined_parts may n (n + 1) m (λ k a b. let e : n ≡ k = omega arith in ap may (sym e) ∙ h) f

pub all_begin : {A : Type 0} (go : A → ℕ → ℕ) (may : ℕ → Bool) (Fits : A → ℕ → Type 0) → ((x : A) (n : ℕ) → Fits x n → Range may n (go x n)) → (xs : List A) (n : ℕ) → AllFit go Fits xs n → Range may n (all_after go xs n)
all_begin go may Fits begins [] n f = nothing_begins may n n (omega arith)
all_begin go may Fits begins (x ∷ xs) n f = joined_parts may n (go x n) (all_after go xs (go x n)) (begins x n f.0) (all_begin go may Fits begins xs (go x n) f.1)
