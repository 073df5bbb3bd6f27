use Rattle.std.proofs.Common.{◌≡◌, ℕ, ◌+◌, ◌-◌, Bool, true, false, cond, ◌||◌, List, [], ◌∷◌, ◌++◌, refl, arith, ◌==◌}
use Rattle.std.proofs.lemmas.Bool.Decides.{nat_tests}
use Rattle.cert_text.specs.declared.scan.Want.TheVariants as wants
use Rattle.cert_text.specs.declared.scan.Scan.{Scan}
use Rattle.cert_text.specs.declared.scan.Given.{Given}
use Rattle.cert_text.specs.declared.scan.Given.TheVariants as givens
use Rattle.cert_text.specs.declared.scan.Token.{Token}
use Rattle.cert_text.specs.Tree.{Built}
use Rattle.cert_text.specs.Grammar.{pick_tokens, is_long_pick}
use Rattle.cert_text.specs.Run.{Run, passed, go, run, scan_at}

pub joined_over : (a b : Bool) (x : Run) → cond a passed (cond b passed x) ≡ cond (a || b) passed x
joined_over true b x = refl
joined_over false b x = refl

pub go_cond : (a : Bool) (g : Given) (built : Built) (next : Scan → Built → Run) → go (cond a givens.Over g) built next ≡ cond a passed (go g built next)
go_cond true g built next = refl
go_cond false g built next = refl

pub not_none : (n : ℕ) → (n + 1 == 0) ≡ false
not_none n = grind (arith, nat_tests)

pub one_less : (n : ℕ) → n + 1 - 1 ≡ n
one_less n = omega arith

abbrev with_pick_ : Built → ℕ × ℕ → Built
with_pick_ b p = record b { picks = b.picks ++ p ∷ [] }

pick_read : (number : ℕ) (second : Bool) (depth trees count row m : ℕ) (k : List Token) (built : Built) → run (pick_tokens (row, m) k) (scan_at number second (wants.Row false count) depth trees) built ≡ cond (is_long_pick count row m) passed (run k (scan_at number second (wants.MorePicks false (count + 1)) depth trees) (with_pick_ built (row, m)))
pick_read number second depth trees count row m k built = simp (not_none, go_cond, joined_over, one_less)
