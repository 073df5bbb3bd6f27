use Rattle.std.proofs.Common.{◌++◌, map, Err}
use Rattle.std.proofs.lemmas.Result.{err_from_is_err_and}
use Rattle.st_form.specs.Plain.{plain}
use Rattle.vc_generator.specs.Plain.{plain_list}
use Rattle.vc_generator.specs.Building.{entails_of}
use Rattle.vc_generator.proofs.Growing.{one_then, grow-both, refused-among-the-first}
use Rattle.rule_laws.specs.WaitingFor.{level_list, move_list}
use Rattle.vc_generator.specs.Asked.{system_of, lemmas_of}
use Rattle.waiting_rules.proofs.Nexts.{first-of}
use Rattle.waiting_rules.proofs.listing.waiting.Goals as goal

pub returns-in_err-levels_imply : goal.returns-in_err-levels_imply
returns-in_err-levels_imply c =
    let p = err_from_is_err_and c.from_residual-in_err-levels_imply.result c.from_residual-in_err-levels_imply.ensures.1 in
    let lemmas = lemmas_of c.args.asking.now in
    let levels = map plain c.args.levels.now in
    let ls = level_list c.args.asking.now.step lemmas levels (map plain c.args.goals.now) in
    let ms = move_list c.args.asking.now.step (system_of c.args.asking.now) lemmas levels in
    rw (p.1, p.2) (first-of (Err c.in_err-levels_imply.field-0.0) (plain_list c.args.out.now) (plain_list c.levels_imply.new.out) c.args.asking.now.step lemmas levels (plain c.args.p.now) (plain c.in_ok-some.some) c.plainly-cover.result (ls ++ ms) c.in_ok-some.ensures c.plainly-cover.ensures
    (one_then (Err c.in_err-levels_imply.field-0.0) (plain_list c.args.out.now) (plain_list c.entails.new.out) (plain_list c.levels_imply.new.out) (entails_of lemmas (plain c.args.p.now) (plain c.in_ok-some.some) c.plainly-cover.result) (ls ++ ms) c.in_ok-entails.ensures.0
    c.in_ok-entails.ensures.1 (refused-among-the-first c.in_err-levels_imply.field-0.0 (plain_list c.entails.new.out) (plain_list c.levels_imply.new.out) ls ms (c.in_err-levels_imply.ensures))))

pub returns : goal.returns
returns c =
    let lemmas = lemmas_of c.args.asking.now in
    let levels = map plain c.args.levels.now in
    let ls = level_list c.args.asking.now.step lemmas levels (map plain c.args.goals.now) in
    let ms = move_list c.args.asking.now.step (system_of c.args.asking.now) lemmas levels in
    first-of c.modes_fall.result (plain_list c.args.out.now) (plain_list c.modes_fall.new.out) c.args.asking.now.step lemmas levels (plain c.args.p.now) (plain c.in_ok-some.some) c.plainly-cover.result (ls ++ ms) c.in_ok-some.ensures c.plainly-cover.ensures
    (one_then c.modes_fall.result (plain_list c.args.out.now) (plain_list c.entails.new.out) (plain_list c.modes_fall.new.out) (entails_of lemmas (plain c.args.p.now) (plain c.in_ok-some.some) c.plainly-cover.result) (ls ++ ms) c.in_ok-entails.ensures.0 c.in_ok-entails.ensures.1
    (grow-both c.modes_fall.result (plain_list c.entails.new.out) (plain_list c.levels_imply.new.out) (plain_list c.modes_fall.new.out) ls ms c.in_ok-levels_imply.ensures.0 c.in_ok-levels_imply.ensures.1 c.modes_fall.ensures))
