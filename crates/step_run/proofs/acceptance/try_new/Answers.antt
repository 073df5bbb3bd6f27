use Rattle.std.proofs.Common.{◌≡◌, length, ap, arith}
use Rattle.std.proofs.lemmas.List.{length-map}
use Rattle.std.proofs.lemmas.Result.{IfOk-weaker}
use Rattle.st_form.specs.Shared.{plain_condition}
use Rattle.discharge.proofs.Halves.{right-searchable}
use Rattle.vc_generator.specs.Plain.{View, plain_list}
use Rattle.temporal_goals.specs.Plain.{plain_script}
use Rattle.step_run.specs.Growth.{AreConditions}
use Rattle.step_run.specs.Views.{source_view}
use Rattle.step_run.proofs.Accepting.{tried, not-tried}
use Rattle.step_run.proofs.acceptance.try_new.Goals as goal

pub returns-then-not-branch-clause-tried : goal.returns-then-not-branch-clause-tried
returns-then-not-branch-clause-tried c =
    not-tried (source_view c.args.subject.now.source) (plain_script c.args.script.now) c.append_new.new.list.items (plain_list c.append_new.new.list) (rw c.if-not-branch.true at c.in_ok-append_new.ensures.listed)

pub are_decided-requires-clause-searchable : goal.are_decided-requires-clause-searchable
are_decided-requires-clause-searchable c =
    (let these : AreConditions (source_view c.args.subject.now.source) (plain_script c.args.script.now) c.append_new.new.list.items = rw c.if-not-branch.false at c.in_ok-append_new.ensures.listed in
    rw c.behind.ensures (right-searchable (length c.args.subject.now.source.program.variables) c.len-count.result c.append_new.new.list.items these.searchable))

pub returns-clause-tried : goal.returns-clause-tried
returns-clause-tried c =
    let p = source_view c.args.subject.now.source in
    let steps = plain_script c.args.script.now in
    let old = c.args.list.now in
    let size : c.len-count.result ≡ length (plain_list old) =
    omega (arith, c.len-count.ensures, ap (λ (v : View). length v.items) c.list.view_is, length-map old.items plain_condition) in
    let these : AreConditions p steps c.append_new.new.list.items = rw c.if-not-branch.false at c.in_ok-append_new.ensures.listed in
    IfOk-weaker c.are_decided.result _ _
    (λ yes e. tried p steps (plain_list old) c.append_new.new.list.items c.len-count.result c.in_ok-append_new.ensures.begins size yes c.requires.before.decided these e)
    (rw c.behind.ensures at c.are_decided.ensures.exact)
