use Rattle.std.proofs.Common.{◌≡◌, [], ◌∷◌, List, ℕ, Option, Some, sym, subst}
use Rattle.text_layouts.specs.declared.piece.Piece.{Piece}
use Rattle.text_layouts.specs.Written.{IsGap}
use Rattle.text_layouts.proofs.Apart.{gap_feed, gap_space}
use Rattle.text_layouts.proofs.writing.gap.Goals as goal

pub returns-then-is_comment : goal.returns-then-is_comment
returns-then-is_comment c =
    let next = c.args.next.now.text.now in
    let e : Some c.in-Some.last ≡ c.args.last = cc (c.in-Some.is) in
    let P : Option Piece → Type 0 = λ o. IsGap o (10 ∷ []) next in
    subst P e (gap_feed c.in-Some.last next)

pub returns-then-is_spaced : goal.returns-then-is_spaced
returns-then-is_spaced c =
    let next = c.args.next.now.text.now in
    let e : Some c.in-Some.last ≡ c.args.last = cc (c.in-Some.is) in
    let P : Option Piece → Type 0 = λ o. IsGap o (32 ∷ []) next in
    subst P e (gap_space c.in-Some.last next (c.is_comment.ensures c.if-is_comment.false))
