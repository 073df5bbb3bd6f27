use Rattle.std.proofs.Common.{get_or, refl, arith}
use Rattle.st_form.specs.Shared.{given_of, shown_of}
use Rattle.shared_search.specs.Books.{tree_in}
use Rattle.step_run.specs.Conditions.{setting_of}
use Rattle.step_run.specs.Views.{source_view, posed_view}
use Rattle.step_run.proofs.Slices.{some_of}
use Rattle.step_run.proofs.Passing.{found_passes}
use Rattle.step_run.proofs.Written.{tree_found}
use Rattle.step_run.proofs.proving.push_next.Goals as goal

pub push_found-requires-clause-there : goal.push_found-requires-clause-there
push_found-requires-clause-there c =
    let x = c.args.posed.now in
    let cs = x.conditions.items in
    let any = some_of cs (omega (arith, c.requires.place)) in
    let here = get_or cs c.args.place any in
    (tree_found (setting_of (source_view x.source)) (given_of here) (shown_of here) c.found_at.new.book _ c.in-Some.root c.in-Some.is (c.in_ok-root.ensures.found any)).0

pub returns-in_ok-push_found-in-Some-clause-writes : goal.returns-in_ok-push_found-in-Some-clause-writes
returns-in_ok-push_found-in-Some-clause-writes c =
    let x = c.args.posed.now in
    let cs = x.conditions.items in
    let place = c.args.place in
    let any = some_of cs (omega (arith, c.requires.place)) in
    let here = get_or cs place any in
    let book = c.found_at.new.book in
    let found = tree_found (setting_of (source_view x.source)) (given_of here) (shown_of here) book _ c.in-Some.root c.in-Some.is (c.in_ok-root.ensures.found any) in
    (tree_in book c.in-Some.root, found_passes (posed_view x) cs refl place any (tree_in book c.in-Some.root) c.requires.place found.1, c.in_ok-push_found-in-Some.ensures.writes)
