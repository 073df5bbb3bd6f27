-- Reading has one answer, so no text begins with two blocks.
use Rattle.std.proofs.Common.{◌≡◌, ℕ, ◌+◌, ◌^◌, ◌<◌, Bool, false, List, [], ◌++◌, length, take, refl, sym, ap, ◌∙◌, arith}
use Rattle.std.proofs.Math.Seq.{take-append_seam}
use Rattle.st_certificate.specs.Tree.{Tree, impossible}
use Rattle.cert_text.specs.Grammar.{Written, IsBlock, block_tokens, meaning}
use Rattle.cert_text.specs.Held.{Held}
use Rattle.cert_text.specs.Answer.{Answer, block, need, no_more, malformed_at, limit_at}
use Rattle.cert_laws.specs.Spelled.{Spells}
use Rattle.cert_laws.proofs.BlockRead.{block-answered}

abbrev tree_in : Answer → Tree
tree_in (block n t) = t
tree_in need = impossible
tree_in no_more = impossible
tree_in (malformed_at n) = impossible
tree_in (limit_at n) = impossible

same_start : (bs cs rest more : List ℕ) → length bs ≡ length cs → bs ++ rest ≡ cs ++ more → bs ≡ cs
same_start bs cs rest more l e =
    sym (take-append_seam bs rest) ∙ ap (take (length bs)) e ∙ ap (λ n. take n (cs ++ more)) l ∙ take-append_seam cs more

pub one-block : (number : ℕ) (second : Bool) (w v : Written) (bs cs rest more : List ℕ) → number < 2 ^ 32 → IsBlock number second w → IsBlock number second v → Spells bs (block_tokens number w []) → Spells cs (block_tokens number v []) → bs ++ rest ≡ cs ++ more → (bs ≡ cs) × (meaning w ≡ meaning v)
one-block number second w v bs cs rest more n p q h k e =
    let held : Held = record { bytes = bs ++ rest; place = 0; number = number; second = second; finished = false } in
    let one = block-answered held w bs rest n p h refl in
    let other = block-answered held v cs more n q k e in
    let places : 0 + length bs ≡ 0 + length cs = ap (λ x. x.place) (sym one.1 ∙ other.1) in
    (same_start bs cs rest more (omega (arith, places)) e, ap tree_in (sym one.0 ∙ other.0))
