-- A text in the making: what is written, and then the blocks that are left.
use Rattle.std.proofs.Common.{append_assoc, ◌≡◌, ℕ, ◌+◌, ◌<◌, ◌≤◌, List, [], ◌∷◌, ◌++◌, length, map, drop, get_or, refl, ap, ◌∙◌, sym, arith, Result, Ok, Err, Option, Some, None}
use Rattle.std.proofs.lemmas.List.{append-nil, drop_all, drop_more, length-append}
use Rattle.st_certificate.specs.Tree.{Tree}
use Rattle.cert_text.specs.Spelling.{block_text}
use Rattle.std.specs.declared.vec.Vec.{Vec}
use Rattle.std.specs.declared.alloc.Global.{Global}
use Rattle.certificate_unfolding.specs.declared.texts.Refusal.{Refusal}
use Rattle.certificate_unfolding.specs.declared.texts.Refusal.TheVariants.{Large, Long, Memory}
use Rattle.certificate_unfolding.specs.Texts.{Told, Written, blocks_text, large_from}

-- a block more is written
pub block-more : (f : ℕ → Tree) (roots : List ℕ) (i d : ℕ) (out more whole : List ℕ) → i < length roots → more ≡ out ++ block_text (i + 1) (f (get_or roots i d))
    → out ++ blocks_text (i + 1) (map f (drop i roots)) ≡ whole → more ++ blocks_text ((i + 1) + 1) (map f (drop (i + 1) roots)) ≡ whole
block-more f roots i d out more whole h is inv =
    ap (λ a. a ++ blocks_text ((i + 1) + 1) (map f (drop (i + 1) roots))) is
    ∙ append_assoc out (block_text (i + 1) (f (get_or roots i d))) (blocks_text ((i + 1) + 1) (map f (drop (i + 1) roots)))
    ∙ ap (λ rs. out ++ blocks_text (i + 1) (map f rs)) (sym (drop_more roots i d h))
    ∙ inv

-- a text is as long as what is written at least
pub long-text : (out rest whole : List ℕ) (most : ℕ) → most < length out → out ++ rest ≡ whole → most < length whole
long-text out rest whole most h e = omega (arith, h, length-append out rest, ap length e)

pub long-more : (f : ℕ → Tree) (roots : List ℕ) (i d : ℕ) (out more whole : List ℕ) (most : ℕ) → i < length roots → more ≡ out ++ block_text (i + 1) (f (get_or roots i d)) → most < length more
    → out ++ blocks_text (i + 1) (map f (drop i roots)) ≡ whole → most < length whole
long-more f roots i d out more whole most h is long inv = long-text more (blocks_text ((i + 1) + 1) (map f (drop (i + 1) roots))) whole most long (block-more f roots i d out more whole h is inv)

-- no certificate is too large, and what is told of the text is told of all
pub told-by : (r : Result (Vec ℕ Global) Refusal) (ts : List Tree) → large_from 0 ts ≡ None → Written r ts → Told r ts
told-by (Ok v) ts n w = (n, w)
told-by (Err (Large i)) ts n w = absurd w
told-by (Err Long) ts n w = (n, w)
told-by (Err Memory) ts n w = tt
