-- Where a statement stands.
use Rattle.std.specs.Prelude.{ℕ}
use Rattle.source_places.specs.declared.statements.StatementPlace.{StatementPlace}

-- the place of its first token
abbrev pub first_place : StatementPlace → ℕ
first_place p = p.whole.from
