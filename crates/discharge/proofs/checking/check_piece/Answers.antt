use Rattle.std.proofs.Common.{◌≡◌, ℕ, ◌-◌, ◌+◌, ◌<◌, drop, sym, subst, arith, List}
use Rattle.st_form.specs.declared.conditions.Condition.{Condition}
use Rattle.cert_text.specs.declared.reader.Block.{Block}
use Rattle.farkas_check.specs.Problem.{Setting}
use Rattle.farkas_check.specs.PlainProblem.{setting}
use Rattle.discharge.specs.Dealt.{every, dealt}
use Rattle.discharge.proofs.Dealing.{every_next, every_empty, every_done}
use Rattle.discharge.proofs.Halves.{Ahead, ahead-begun, ahead-next, ahead-fails, ahead-done, right-checkable}
use Rattle.discharge.proofs.checking.check_piece.Goals as goal

pub loop-i-init : goal.loop-i-init
loop-i-init g c = record {
  knows = c.in_ok-book.ensures;
  checkable = c.requires.checkable;
  ahead =
      let k : Setting = setting c.args.components.now c.args.variables.now in
      let s = c.args.share.stride in
      let cs : List Condition = dealt c.args.share c.args.conditions.now in
      let bs : List Block = dealt c.args.share c.args.blocks.now in
      let all : c.args.share.count ≡ c.args.share.count - 0 = omega arith in
      subst (λ (m : ℕ). Ahead k cs bs 0 (every s m c.args.conditions.now) (every s m c.args.blocks.now)) all (ahead-begun k cs bs);
}

pub returns-in_default : goal.returns-in_default
returns-in_default g c =
    ahead-done (setting c.args.components.now c.args.variables.now) (dealt c.args.share c.args.conditions.now) (dealt c.args.share c.args.blocks.now) c.loop-i.i _ _
    (every_empty c.args.share.stride (c.args.share.count - c.loop-i.i) c.loop-i.rest.now c.in_default.ensures.cases) c.loop-i.invariant.ahead

pub returns-then-not-branch : goal.returns-then-not-branch
returns-then-not-branch g c =
    let s = c.args.share.stride in
    let n = c.args.share.count - c.loop-i.i in
    let some : 0 < n = omega (arith, c.loop-i-test.true) in
    let exact = c.in_ok-is_valid.ensures.exact in
    ahead-fails (setting c.args.components.now c.args.variables.now) (dealt c.args.share c.args.conditions.now) (dealt c.args.share c.args.blocks.now) c.loop-i.i _ _ _ _ c.in-Some.condition.now c.in-Some-split_first.block.now
    (every_next s n c.loop-i.rest.now c.in-Some.field-0-1.now c.in-Some.condition.now some c.in-Some.ensures.cases.0)
    (every_next s n c.loop-i.rest_blocks.now c.in-Some-split_first.field-0-1.now c.in-Some-split_first.block.now some c.in-Some-split_first.ensures.cases.0)
    c.loop-i.invariant.ahead (λ p. let yes = exact.1 p in let no = c.if-not-branch.true in absurd (cc))

pub loop-i-preserved : goal.loop-i-preserved
loop-i-preserved g c =
    let k : Setting = setting c.args.components.now c.args.variables.now in
    let s = c.args.share.stride in
    let n = c.args.share.count - c.loop-i.i in
    let some : 0 < n = omega (arith, c.loop-i-test.true) in
    let less : n - 1 ≡ c.args.share.count - (c.loop-i.i + 1) = omega arith in
    let cs : List Condition = dealt c.args.share c.args.conditions.now in
    let bs : List Block = dealt c.args.share c.args.blocks.now in
    record {
      knows = c.in_ok-is_valid.ensures.knows;
      checkable = rw (c.behind-rest.ensures, c.behind-rest_blocks.ensures) (right-checkable s c.loop-i.rest.now c.loop-i.rest_blocks.now c.loop-i.invariant.checkable);
      ahead = subst (λ (l : List Condition). Ahead k cs bs (c.loop-i.i + 1) (every s (c.args.share.count - (c.loop-i.i + 1)) l) (every s (c.args.share.count - (c.loop-i.i + 1)) c.behind-rest_blocks.result.now)) (sym c.behind-rest.ensures)
          (subst (λ (l : List Block). Ahead k cs bs (c.loop-i.i + 1) (every s (c.args.share.count - (c.loop-i.i + 1)) (drop s c.loop-i.rest.now)) (every s (c.args.share.count - (c.loop-i.i + 1)) l)) (sym c.behind-rest_blocks.ensures)
          (subst (λ (m : ℕ). Ahead k cs bs (c.loop-i.i + 1) (every s m (drop s c.loop-i.rest.now)) (every s m (drop s c.loop-i.rest_blocks.now))) less
          (ahead-next k cs bs c.loop-i.i _ _ _ _ c.in-Some.condition.now c.in-Some-split_first.block.now
          (every_next s n c.loop-i.rest.now c.in-Some.field-0-1.now c.in-Some.condition.now some c.in-Some.ensures.cases.0)
          (every_next s n c.loop-i.rest_blocks.now c.in-Some-split_first.field-0-1.now c.in-Some-split_first.block.now some c.in-Some-split_first.ensures.cases.0)
          c.loop-i.invariant.ahead (c.in_ok-is_valid.ensures.exact.0 c.if-not-branch.false))));
    }

pub returns : goal.returns
returns g c =
    ahead-done (setting c.args.components.now c.args.variables.now) (dealt c.args.share c.args.conditions.now) (dealt c.args.share c.args.blocks.now) c.loop-i.i _ _
    (every_done c.args.share.stride (c.args.share.count - c.loop-i.i) c.loop-i.rest.now (omega (arith, c.loop-i-test.false))) c.loop-i.invariant.ahead
