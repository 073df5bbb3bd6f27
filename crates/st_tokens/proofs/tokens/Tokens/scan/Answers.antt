use Rattle.std.proofs.Common.{◌≡◌, ◌<◌, length, sym, ◌∙◌, ap, arith}
use Rattle.std.proofs.lemmas.Bool.Decides.{nat_tests}
use Rattle.st_tokens.specs.Stream.{lex}
use Rattle.st_tokens.proofs.Lexing.{lex_none, lex_blank, lex_whole, lex_bad, lex_long}
use Rattle.st_tokens.proofs.tokens.Tokens.scan.Goals as goal

pub blanks-preserved : goal.blanks-preserved
blanks-preserved c =
    (ap (λ bs. lex c.args.end 0 bs) c.split_at.ensures.back ∙ sym (lex_blank _ _ _ c.in-Blank.ensures.is c.in-Blank.ensures.within.0) ∙ c.blanks.invariant.0, omega (arith, c.split_at.ensures.back_len, c.in-Blank.ensures.within))

pub returns-in-Whole-clause-tokens : goal.returns-in-Whole-clause-tokens
returns-in-Whole-clause-tokens c =
    rw (c.split_at-in-Whole.ensures.front, c.split_at-in-Whole.ensures.back) (sym (lex_whole _ _ _ _ c.in-Whole.ensures.is c.in-Whole.ensures.within.0) ∙ c.blanks.invariant.0)

pub returns-in-Bad-clause-tokens : goal.returns-in-Bad-clause-tokens
returns-in-Bad-clause-tokens c =
    let some : 0 < length c.blanks.rest.now = grind (arith, nat_tests) in
    sym (lex_bad _ _ c.in-Bad.ensures.is some) ∙ c.blanks.invariant.0

pub returns-in-Long-clause-tokens : goal.returns-in-Long-clause-tokens
returns-in-Long-clause-tokens c = sym (lex_long _ _ c.in-Long.ensures.is) ∙ c.blanks.invariant.0

pub returns-clause-tokens : goal.returns-clause-tokens
returns-clause-tokens c =
    let none : length c.blanks.rest.now ≡ 0 = grind (arith, nat_tests) in
    sym (lex_none _ _ none) ∙ c.blanks.invariant.0
