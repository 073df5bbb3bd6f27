-- The marks of a block's tokens are the limits of the grammar: the control passes a limit where a token is marked, and where the
-- tree is over one.
use Rattle.std.proofs.Common.{◌≡◌, ◌+◌, Bool, true, false, cond, ◌⊎◌, inl, inr, List, [], ◌∷◌, ◌++◌, refl, sym, ap, ◌∙◌, subst, arith}
use Rattle.cert_text.specs.declared.scan.Token.{Token}
use Rattle.cert_text.specs.declared.scan.Want.TheVariants as wants
use Rattle.cert_text.specs.declared.scan.Scan.{Scan}
use Rattle.cert_text.specs.declared.scan.Given.TheVariants as givens
use Rattle.cert_text.specs.Control.{give}
use Rattle.cert_text.specs.Tree.{Built, applied}
use Rattle.cert_text.specs.Grammar.{Written, IsProper, block_tokens, meaning, tree_count, tree_over}
use Rattle.cert_text.specs.Run.{Run, on, wrong, passed, go, run, scan_at}
use Rattle.cert_text.proofs.LeafReads.{built_at}
use Rattle.cert_text.proofs.TreeReads.{block_read}
use Rattle.cert_laws.specs.Limits.{block_marks}
use Rattle.cert_laws.specs.Refused.{HasNoMark, Exactly}
use Rattle.cert_laws.proofs.Follows.{Follows}
use Rattle.cert_laws.proofs.TreeFollows.{block_follows}
use Rattle.cert_laws.proofs.Forward.{Marked, find, first_taken, run_all, run_marked}
use Rattle.cert_laws.proofs.Marks.{exact_over}

-- tokens that lead to one that passes a limit
passes : (before : List Token) (t : Token) (us : List Token) (scan : Scan) (built : Built) (s : Scan) (b : Built) → run before scan built ≡ on s b → give s t ≡ givens.Over → run (before ++ t ∷ us) scan built ≡ passed
passes [] t us scan built s b r g = ap (λ x. go x built (run us)) (ap (λ q. give q t) (ap scan_in r) ∙ g) where
  scan_in : Run → Scan
  scan_in (on q c) = q
  scan_in wrong = scan
  scan_in passed = scan
passes (v ∷ before) t us scan built s b r g =
    let k = first_taken (give scan v) v before scan built s b refl r in
    ap (λ x. go x built (run (before ++ t ∷ us))) k.2 ∙ passes before t us k.0 (applied k.1 built) s b k.3 g

over_then : (c : Bool) (x : Run) → cond c passed x ≡ passed → (x ≡ passed → ⊥) → c ≡ true
over_then true x e f = refl
over_then false x e f = absurd (f e)

within_then : (c : Bool) (x : Run) (s : Scan) (b : Built) → cond c passed x ≡ on s b → c ≡ false
within_then true x s b e = absurd (apart e) where
  apart : passed ≡ on s b → ⊥
  apart q = cc
within_then false x s b e = refl

module _ (second : Bool) (w : Written) (p : IsProper second w) where
  scan : Scan
  scan = scan_at 1 second (wants.Block false) 0 0

  abbrev built : Built
  built = built_at [] []

  abbrev last : Run
  last = on (scan_at 1 second wants.Whole 0 (0 + tree_count w)) (built_at (meaning w ∷ []) [])

  leads : run (block_tokens 1 w []) (scan_at 1 second (wants.Block false) 0 0) (built_at [] []) ≡ cond (tree_over 0 0 w) passed last
  leads = block_read 1 false second w [] p

  follows : Follows (block_tokens 1 w []) (block_marks w) (scan_at 1 second (wants.Block false) 0 0)
  follows = block_follows 1 second false w (omega arith) p

  unmarked_within : HasNoMark (block_marks w) → tree_over 0 0 w ≡ false
  unmarked_within m = let r = run_all (block_tokens 1 w []) (block_marks w) (scan_at 1 second (wants.Block false) 0 0) built follows m in within_then (tree_over 0 0 w) last r.0 r.1 (sym leads ∙ r.2)

  marked_over : Marked (block_tokens 1 w []) (block_marks w) → tree_over 0 0 w ≡ true
  marked_over m =
      let f = subst (λ ts. Follows ts (block_marks w) (scan_at 1 second (wants.Block false) 0 0)) m.3 follows in
      let r = run_marked m.0 m.1 m.2 (block_marks w) (scan_at 1 second (wants.Block false) 0 0) built f m.4 in
      over_then (tree_over 0 0 w) last (sym leads ∙ ap (λ ts. run ts (scan_at 1 second (wants.Block false) 0 0) built) m.3 ∙ passes m.0 m.1 m.2 (scan_at 1 second (wants.Block false) 0 0) built r.0 r.1 r.2 (exact_over m.1 r.0 r.3)) apart where
        apart : on (scan_at 1 second wants.Whole 0 (0 + tree_count w)) (built_at (meaning w ∷ []) []) ≡ passed → ⊥
        apart q = cc

  within_unmarked : tree_over 0 0 w ≡ false → HasNoMark (block_marks w)
  within_unmarked e = by (find (block_tokens 1 w []) (block_marks w) (scan_at 1 second (wants.Block false) 0 0) follows) where
    differ : false ≡ true → ⊥
    differ q = cc

    by : Marked (block_tokens 1 w []) (block_marks w) ⊎ HasNoMark (block_marks w) → HasNoMark (block_marks w)
    by (inl m) = absurd (differ (sym e ∙ marked_over m))
    by (inr m) = m

  pub marks-limits : Exactly (tree_over 0 0 w ≡ false) (HasNoMark (block_marks w))
  marks-limits = (within_unmarked, unmarked_within)
