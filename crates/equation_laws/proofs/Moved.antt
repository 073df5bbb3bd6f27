-- The value of an equation behind a change.
use Rattle.std.proofs.Common.{◌≡◌, ℕ, ◌+◌, Bool, true, false, ◌||◌, ◌&&◌, refl, ap, ◌∙◌, arith, ℤ, neg_ℤ, ◌+ℤ◌, ◌*ℤ◌}
use Rattle.std.specs.Prelude.{not}
use Rattle.std.proofs.lemmas.Int.{ints}
use Rattle.st_linear.specs.Linear.{changed}
use Rattle.st_linear.proofs.Ints.{*ℤ-+ℤ}
use Rattle.st_form.specs.Formula.{Situation}
use Rattle.st_form.specs.Exchange.{Exchange, is_listed}
use Rattle.null_laws.specs.Bases.{Vector}
use Rattle.transition_system.specs.Meaning.{gone}
use Rattle.equation_laws.specs.Sums.{presence, passage, equation_value, moved_value}
use Rattle.equation_laws.specs.Moving.{MovesAdd}
use Rattle.equation_laws.proofs.Totals.{total-same, total-sum}

-- the value behind a change
pub value-behind : (n locations : ℕ) (x : Vector) (change : Exchange) (s t : Situation) → ((v : ℕ) → t.numbers v ≡ changed s.numbers change.numbers v) → ((l : ℕ) → presence (t.located l) ≡ presence (s.located l) +ℤ passage change l)
    → equation_value n locations x t ≡ equation_value n locations x s +ℤ moved_value n locations x change s.numbers
value-behind n locations x change s t h k =
    let d : ℕ → ℤ = λ v. changed s.numbers change.numbers v +ℤ neg_ℤ (s.numbers v) in
    let a = total-same (λ v. x v *ℤ t.numbers v) (λ v. x v *ℤ s.numbers v +ℤ x v *ℤ d v) n 0
    (λ v i j. ap (λ z. x v *ℤ z) (h v ∙ split (changed s.numbers change.numbers v) (s.numbers v)) ∙ *ℤ-+ℤ (s.numbers v) (d v) (x v))
    ∙ total-sum (λ v. x v *ℤ s.numbers v) (λ v. x v *ℤ d v) n 0 in
    let b = total-same (λ l. x (n + l) *ℤ presence (t.located l)) (λ l. x (n + l) *ℤ presence (s.located l) +ℤ x (n + l) *ℤ passage change l) locations 0
    (λ l i j. ap (λ z. x (n + l) *ℤ z) (k l) ∙ *ℤ-+ℤ (presence (s.located l)) (passage change l) (x (n + l)))
    ∙ total-sum (λ l. x (n + l) *ℤ presence (s.located l)) (λ l. x (n + l) *ℤ passage change l) locations 0 in
    omega (arith, ints, a, b)
  where
    split : (a b : ℤ) → a ≡ b +ℤ (a +ℤ neg_ℤ b)
    split a b = omega (arith, ints)

-- a location behind a change that control is ready for
by-tests : (leaves enters located : Bool) → (leaves ≡ true → located ≡ true) → (leaves ≡ false → enters ≡ true → located ≡ false)
    → presence (enters || (not leaves && located)) ≡ presence located +ℤ (presence enters +ℤ neg_ℤ (presence leaves))
by-tests true true true h k = refl
by-tests true false true h k = refl
by-tests true enters false h k = absurd (let e = h refl in cc)
by-tests false true true h k = absurd (let e = k refl refl in cc)
by-tests false true false h k = refl
by-tests false false true h k = refl
by-tests false false false h k = refl

pub moves-add : MovesAdd
moves-add n locations x m s ready =
    value-behind n locations x m.change s (gone m s) (λ v. refl)
    (λ l. by-tests (is_listed l m.change.leaves) (is_listed l m.change.enters) (s.located l) (ready.leaves l) (ready.enters l))
