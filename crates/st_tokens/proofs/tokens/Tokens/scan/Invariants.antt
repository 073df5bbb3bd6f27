use Rattle.std.proofs.Common.{◌≡◌, ◌≤◌, length}
use Rattle.st_tokens.specs.Stream.{lex}
use Rattle.st_tokens.proofs.tokens.Tokens.scan.Given as goal

abbrev pub invariant-blanks : goal.invariant-blanks
invariant-blanks l = (lex l.end 0 l.rest ≡ lex l.end 0 l.text) × (length l.rest ≤ l.end)

abbrev pub decreases-blanks : goal.decreases-blanks
decreases-blanks l = length l.rest
