-- Residuals with another one at a place, and what a number of a component names.
use Rattle.std.proofs.Common.{◌≡◌, ℕ, zero, suc, ◌+◌, ◌-◌, ◌<◌, ◌≤◌, true, false, List, [], ◌∷◌, length, take, drop, slice_set, Some, None, Ok, Err, refl, ap, ◌∙◌, sym, arith}
use Rattle.std.specs.Prelude.{nat_lt, if◌then◌else◌, slice_get}
use Rattle.std.specs.Option.{option_map}
use Rattle.std.proofs.Math.Numerals.{add-one}
use Rattle.std.proofs.lemmas.Bool.Decides.{nat_tests}
use Rattle.st_program.specs.declared.residuals.Residual as GResidual
use Rattle.st_program.specs.Tree.{Statement, Statements, Processes, action}
use Rattle.st_program.specs.Residuals.{rests, plain_residual, plain_residuals}
use Rattle.st_program.specs.Spots.{Body, bodies_of, all_spots, block_items, items_of, spot, statement_at, body}
use Rattle.spl_semantics.specs.Numbers.{body_at}
use Rattle.spl_semantics.specs.Plain.{in_front}
use Rattle.spl_semantics.proofs.Acting.{stands}

pub same-length : (xs ys : List GResidual.Residual) → plain_residuals xs ≡ plain_residuals ys → length xs ≡ length ys
same-length [] [] e = refl
same-length [] (y ∷ ys) e = cc
same-length (x ∷ xs) [] e = cc
same-length (x ∷ xs) (y ∷ ys) e = ap suc (same-length xs ys cc)

set-suc : (xs ys : List GResidual.Residual) (k : ℕ) (r : GResidual.Residual) → plain_residuals xs ≡ plain_residuals ys → k < length ys
    → plain_residuals (slice_set xs k r) ≡ in_front (take k ys) (rests (plain_residual r) (plain_residuals (drop (suc k) ys)))
set-suc xs [] k r e h = absurd (omega (arith, h))
set-suc [] (y ∷ ys) k r e h = cc
set-suc (x ∷ xs) (y ∷ ys) zero r e h = let rest : plain_residuals xs ≡ plain_residuals ys = cc in ap (rests (plain_residual r)) rest
set-suc (x ∷ xs) (y ∷ ys) (suc k) r e h =
    let first : plain_residual x ≡ plain_residual y = cc in
    let rest : plain_residuals xs ≡ plain_residuals ys = cc in
    let i = set-suc xs ys k r rest (omega (arith, h)) in
    ap (λ z. rests z (plain_residuals (slice_set xs k r))) first ∙ ap (rests (plain_residual y)) i

pub set-place : (xs ys : List GResidual.Residual) (k : ℕ) (r : GResidual.Residual) → plain_residuals xs ≡ plain_residuals ys → k < length ys
    → plain_residuals (slice_set xs k r) ≡ in_front (take k ys) (rests (plain_residual r) (plain_residuals (drop (k + 1) ys)))
set-place xs ys k r e h = set-suc xs ys k r e h ∙ ap (λ j. in_front (take k ys) (rests (plain_residual r) (plain_residuals (drop j ys)))) (sym (add-one k))

at-found : (bs : List Body) (n : ℕ) (s : Statements) → body_at bs n ≡ Ok s → Some s ≡ option_map (λ b. b.0) (slice_get bs n)
at-found [] n s h = cc
at-found (b ∷ bs) zero s h = let e : b.0 ≡ s = cc in ap Some (sym e)
at-found (b ∷ bs) (suc n) s h = at-found bs n s h

at-passed : (bs : List Body) (n m : ℕ) → body_at bs n ≡ Err m → None ≡ option_map (λ b. b.0) (slice_get bs n)
at-passed [] n m h = refl
at-passed (b ∷ bs) zero m h = cc
at-passed (b ∷ bs) (suc n) m h = at-passed bs n m h

-- from the number of statements on, a number names a component's body
module _ (p : Processes) (n b : ℕ) (count : n ≡ length (all_spots p)) (past : n ≤ b) where
  of-component : body p b ≡ slice_get (bodies_of p) (b - n)
  of-component =
      let t : nat_lt b (length (all_spots p)) ≡ false = grind (arith, nat_tests) in
      ap (λ z. if z then items_of (spot p b) else slice_get (bodies_of p) (b - length (all_spots p))) t ∙ ap (λ m. slice_get (bodies_of p) (b - m)) (sym count)

  pub component-found : (s : Statements) → body_at (bodies_of p) (b - n) ≡ Ok s → Some s ≡ option_map (λ x. x.0) (body p b)
  component-found s h = at-found (bodies_of p) (b - n) s h ∙ ap (option_map (λ x. x.0)) (sym of-component)

  pub component-passed : (m : ℕ) → body_at (bodies_of p) (b - n) ≡ Err m → None ≡ option_map (λ x. x.0) (body p b)
  component-passed m h = at-passed (bodies_of p) (b - n) m h ∙ ap (option_map (λ x. x.0)) (sym of-component)

-- below it, a number names the block of that occurrence
pub of-block : (p : Processes) (n b : ℕ) → n ≡ length (all_spots p) → b < n → (s : Statement) → Some s ≡ statement_at p b → (next : ℕ) × (body p b ≡ block_items (action s) next)
of-block p n b count less s e =
    let x = stands p b (spot p b) s refl e in
    let t : nat_lt b (length (all_spots p)) ≡ true = grind (arith, nat_tests) in
    (x.0.next, ap (λ z. if z then items_of (spot p b) else slice_get (bodies_of p) (b - length (all_spots p))) t ∙ ap items_of x.1 ∙ ap (λ y. block_items (action y) x.0.next) x.2)
