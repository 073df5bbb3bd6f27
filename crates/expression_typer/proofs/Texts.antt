-- Names of ASCII are texts.
use Rattle.std.proofs.Common.{◌≡◌, ℕ, zero, suc, ◌<◌, true, nat_lt, List, [], ◌∷◌, arith}
use Rattle.std.specs.Str.{IsUtf8, IsAscii}
use Rattle.std.proofs.lemmas.Str.{IsUtf8-from_ascii}
use Rattle.std.proofs.lemmas.Str.Ascii.{IsAscii-nil}
use Rattle.std.proofs.lemmas.Bool.{and_parts}
use Rattle.std.proofs.lemmas.Bool.Decides.{nat_tests}
use Rattle.expression_typer.specs.Naming.{is_text}

small : (b : ℕ) → nat_lt b 128 ≡ true → b < 128
small b h = grind (arith, nat_tests)

ascii : (bs : List ℕ) → is_text bs ≡ true → IsAscii bs
ascii [] h i = IsAscii-nil i
ascii (b ∷ bs) h zero = let p = and_parts (nat_lt b 128) (is_text bs) h in small b p.0
ascii (b ∷ bs) h (suc i) = let p = and_parts (nat_lt b 128) (is_text bs) h in ascii bs p.1 i

pub text_utf8 : (bs items : List ℕ) → items ≡ bs → is_text bs ≡ true → IsUtf8 items
text_utf8 bs items e h = rw e (IsUtf8-from_ascii bs (ascii bs h))
