use Rattle.std.proofs.Common.{◌≡◌, ◌∙◌, ◌<◌, true, false, length, take, drop, Option, Some, None, Ok, sym, ap, subst, arith}
use Rattle.st_tokens.specs.declared.kind.Token.{Token}
use Rattle.st_tokens.specs.Stream.{lex, lexeme, stream, behind, ends, more, end_of, Answers}
use Rattle.text_layouts.specs.Pieces.{starts_blank, starts_comment}
use Rattle.text_layouts.proofs.Reading.{IsNext, blank_step, comment_piece, comment_step, next_rest, no_end_rest, stream_comment, stream_past, token_piece, token_step}
use Rattle.text_layouts.proofs.scanning.pieces.Goals as goal

pub loop-rest-preserved-then-starts_blank : goal.loop-rest-preserved-then-starts_blank
loop-rest-preserved-then-starts_blank c =
    let e : starts_blank c.loop-rest.rest.now ≡ true = sym c.starts_blank.ensures ∙ c.if-starts_blank.true in
    (blank_step _ _ _ _ e c.behind_first-rest.ensures c.loop-rest.invariant.0, c.loop-rest.invariant.1 ∙ stream_past _ _ _ e c.behind_first-rest.ensures, c.loop-rest.invariant.2)

pub push-requires : goal.push-requires
push-requires c =
    let rest = c.loop-rest.rest.now in
    comment_piece rest _ _ (sym c.starts_comment.ensures ∙ c.if-starts_comment.true) (c.split_at.ensures.front ∙ ap (λ n. take n rest) c.comment_len.ensures.is) c.trimmed.ensures

pub loop-rest-preserved-then-starts_comment : goal.loop-rest-preserved-then-starts_comment
loop-rest-preserved-then-starts_comment c =
    let rest = c.loop-rest.rest.now in
    let e : starts_comment rest ≡ true = sym c.starts_comment.ensures ∙ c.if-starts_comment.true in
    let left = c.split_at.ensures.back ∙ ap (λ n. drop n rest) c.comment_len.ensures.is in (
      comment_step _ rest _ _ _ _ _ e (c.split_at.ensures.front ∙ ap (λ n. take n rest) c.comment_len.ensures.is) left c.trimmed.ensures c.in_ok-push.ensures.tokens c.in_ok-push.ensures.bytes c.loop-rest.invariant.0,
      c.loop-rest.invariant.1 ∙ stream_comment _ rest _ e left,
      c.loop-rest.invariant.2,
    )

pub split_at-requires-in-Ok-Some : goal.split_at-requires-in-Ok-Some
split_at-requires-in-Ok-Some c =
    let is : c.in-Ok-Some.field-0 ≡ Some c.in-Ok-Some.token = cc (c.in-Ok-Some.is, c.in-Ok-Some.field-0-is) in
    let P : Option Token → Type 0 = λ o. Answers (end_of c.loop-rest.tokens) (Ok o) (stream c.loop-rest.tokens) in
    let answer : stream c.loop-rest.tokens ≡ more (lexeme c.in-Ok-Some.token) (behind (stream c.loop-rest.tokens)) = subst P is c.in-Ok-Some.ensures.answer in
    let next : IsNext (length c.args.text.now) (lexeme c.in-Ok-Some.token) (behind (stream c.loop-rest.tokens)) c.loop-rest.rest.now =
    next_rest _ _ _ _ (sym c.starts_blank.ensures ∙ c.if-starts_blank.false) (sym c.starts_comment.ensures ∙ c.if-starts_comment.false) (sym c.loop-rest.invariant.1 ∙ answer) in
    next.within

pub push-requires-in-Ok-Some : goal.push-requires-in-Ok-Some
push-requires-in-Ok-Some c =
    let is : c.in-Ok-Some.field-0 ≡ Some c.in-Ok-Some.token = cc (c.in-Ok-Some.is, c.in-Ok-Some.field-0-is) in
    let P : Option Token → Type 0 = λ o. Answers (end_of c.loop-rest.tokens) (Ok o) (stream c.loop-rest.tokens) in
    let answer : stream c.loop-rest.tokens ≡ more (lexeme c.in-Ok-Some.token) (behind (stream c.loop-rest.tokens)) = subst P is c.in-Ok-Some.ensures.answer in
    let next : IsNext (length c.args.text.now) (lexeme c.in-Ok-Some.token) (behind (stream c.loop-rest.tokens)) c.loop-rest.rest.now =
    next_rest _ _ _ _ (sym c.starts_blank.ensures ∙ c.if-starts_blank.false) (sym c.starts_comment.ensures ∙ c.if-starts_comment.false) (sym c.loop-rest.invariant.1 ∙ answer) in
    token_piece _ _ _ (lexeme c.in-Ok-Some.token) _ next c.split_at-in-Ok-Some.ensures.front

pub loop-rest-smaller : goal.loop-rest-smaller
loop-rest-smaller c =
    let is : c.in-Ok-Some.field-0 ≡ Some c.in-Ok-Some.token = cc (c.in-Ok-Some.is, c.in-Ok-Some.field-0-is) in
    let P : Option Token → Type 0 = λ o. Answers (end_of c.loop-rest.tokens) (Ok o) (stream c.loop-rest.tokens) in
    let answer : stream c.loop-rest.tokens ≡ more (lexeme c.in-Ok-Some.token) (behind (stream c.loop-rest.tokens)) = subst P is c.in-Ok-Some.ensures.answer in
    let next : IsNext (length c.args.text.now) (lexeme c.in-Ok-Some.token) (behind (stream c.loop-rest.tokens)) c.loop-rest.rest.now =
    next_rest _ _ _ _ (sym c.starts_blank.ensures ∙ c.if-starts_blank.false) (sym c.starts_comment.ensures ∙ c.if-starts_comment.false) (sym c.loop-rest.invariant.1 ∙ answer) in
    let less : length c.split_at-in-Ok-Some.result.1.now < length c.loop-rest.rest.now = omega (arith, next.some, next.within, c.split_at-in-Ok-Some.ensures.back_len) in
    less

pub loop-rest-preserved : goal.loop-rest-preserved
loop-rest-preserved c =
    let is : c.in-Ok-Some.field-0 ≡ Some c.in-Ok-Some.token = cc (c.in-Ok-Some.is, c.in-Ok-Some.field-0-is) in
    let P : Option Token → Type 0 = λ o. Answers (end_of c.loop-rest.tokens) (Ok o) (stream c.loop-rest.tokens) in
    let answer : stream c.loop-rest.tokens ≡ more (lexeme c.in-Ok-Some.token) (behind (stream c.loop-rest.tokens)) = subst P is c.in-Ok-Some.ensures.answer in
    let next : IsNext (length c.args.text.now) (lexeme c.in-Ok-Some.token) (behind (stream c.loop-rest.tokens)) c.loop-rest.rest.now =
    next_rest _ _ _ _ (sym c.starts_blank.ensures ∙ c.if-starts_blank.false) (sym c.starts_comment.ensures ∙ c.if-starts_comment.false) (sym c.loop-rest.invariant.1 ∙ answer) in (
      token_step _ _ _ _ (lexeme c.in-Ok-Some.token) _ _ _ next c.split_at-in-Ok-Some.ensures.front c.split_at-in-Ok-Some.ensures.back c.in_ok-push-in-Ok-Some.ensures.tokens c.in_ok-push-in-Ok-Some.ensures.bytes c.loop-rest.invariant.0,
      c.next.ensures.moves ∙ next.behind ∙ ap (lex (length c.args.text.now) 0) (sym c.split_at-in-Ok-Some.ensures.back),
      c.next.ensures.end ∙ c.loop-rest.invariant.2,
    )

pub returns-in-Ok-None-clause-made : goal.returns-in-Ok-None-clause-made
returns-in-Ok-None-clause-made c =
    let some : 0 < length c.loop-rest.rest.now = omega (arith, c.in-len1-up.len_at_least) in
    let is : c.in-Ok-None.field-0 ≡ None = cc (c.in-Ok-None.is, c.in-Ok-None.field-0-is) in
    let P : Option Token → Type 0 = λ o. Answers (end_of c.loop-rest.tokens) (Ok o) (stream c.loop-rest.tokens) in
    let answer : stream c.loop-rest.tokens ≡ ends (end_of c.loop-rest.tokens) = subst P is c.in-Ok-None.ensures.answer in
    absurd (no_end_rest _ _ _ (sym c.starts_blank.ensures ∙ c.if-starts_blank.false) (sym c.starts_comment.ensures ∙ c.if-starts_comment.false) some (sym c.loop-rest.invariant.1 ∙ answer))
