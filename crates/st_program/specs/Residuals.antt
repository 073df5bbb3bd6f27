-- What is left to run, as plain data.
use Rattle.std.specs.Prelude.{ℕ, List, [], ◌∷◌, map}
use Rattle.st_program.specs.declared.residuals.Residual as GResidual
use Rattle.st_program.specs.declared.residuals.State.{State}
use Rattle.st_program.specs.declared.residuals.Datum.{Datum}

-- nothing; a statement; a part of a block, and then the block from a statement on; a loop's body, and then the loop;
-- a cooperation with what is left of each child. Statements, blocks, loops and cooperations are named by occurrence, and
-- the body of component c by the program's number of statements and c more
mutual
  pub data Rest : Type 0 where
    Done : Rest
    Run : ℕ → Rest
    Then : Rest → (block from : ℕ) → Rest
    Again : Rest → (loop : ℕ) → Rest
    Inside : (cooperation : ℕ) → Rests → Rest

  pub data Rests : Type 0 where
    no_rest : Rests
    rests : Rest → Rests → Rests

abbrev mutual
  pub plain_residual : GResidual.Residual → Rest
  plain_residual GResidual.Done = Done
  plain_residual (GResidual.Run n) = Run n
  plain_residual (GResidual.Then' p r b k) = Then (plain_residual r) b k
  plain_residual (GResidual.Again' p r w) = Again (plain_residual r) w
  plain_residual (GResidual.Inside' c h row) = Inside c (plain_row row)

  pub plain_row : {m : _} → GResidual.Row_of-Residual m → Rests
  plain_row GResidual.end_of-Residual = no_rest
  plain_row (GResidual.more_of-Residual r rest) = rests (plain_residual r) (plain_row rest)

abbrev pub rests_of : List Rest → Rests
rests_of [] = no_rest
rests_of (r ∷ rs) = rests r (rests_of rs)

abbrev pub plain_residuals : List GResidual.Residual → Rests
plain_residuals rs = rests_of (map plain_residual rs)

-- a state of a program: what each process has left to run, and the value of each variable
pub record Configuration : Type 0 where
  pub left : Rests
  pub store : List Datum

abbrev pub plain_state : State → Configuration
plain_state s = record { left = plain_residuals s.residuals.items; store = s.store.items }
