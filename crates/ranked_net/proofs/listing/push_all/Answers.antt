use Rattle.std.proofs.Common.{◌++◌, map, Err}
use Rattle.std.proofs.lemmas.Result.{err_from_is_err_and}
use Rattle.st_form.specs.Plain.{plain}
use Rattle.temporal_goals.specs.Plain.{plain_node}
use Rattle.vc_generator.specs.Plain.{plain_list}
use Rattle.vc_generator.specs.Walks.{numbered_from}
use Rattle.rule_laws.specs.RankedNet.{rank_of, help_of, move_of}
use Rattle.vc_generator.proofs.Growing.{grow-both, refused-among-the-first}
use Rattle.vc_generator.specs.Asked.{system_of, lemmas_of}
use Rattle.ranked_net.proofs.Walked.{cover-then}
use Rattle.ranked_net.proofs.listing.push_all.Goals as goal

pub returns-in_err-push_ranks : goal.returns-in_err-push_ranks
returns-in_err-push_ranks c =
    let p = err_from_is_err_and c.from_residual-in_err-push_ranks.result c.from_residual-in_err-push_ranks.ensures.1 in
    let system = system_of c.args.asking.now in
    let lemmas = lemmas_of c.args.asking.now in
    let nodes = map plain_node c.args.nodes.now in
    let ranks = numbered_from (rank_of c.args.asking.now.step lemmas) 0 nodes in
    let helps = numbered_from (help_of c.args.asking.now.step system lemmas) 0 nodes in
    let moves = numbered_from (move_of c.args.asking.now.step system lemmas nodes (plain c.args.end.now)) 0 nodes in
    rw (p.1, p.2) (cover-then (Err c.in_err-push_ranks.field-0.0) (plain_list c.args.out.now) (plain_list c.entails.new.out) (plain_list c.push_ranks.new.out) c.args.asking.now.step lemmas (plain c.args.begin.now) (plain c.args.end.now) (plain c.in_ok-shown.shown) c.args.bound.now nodes
    c.plainly-name.result (ranks ++ (helps ++ moves)) c.in_ok-shown.ensures c.plainly-name.ensures c.in_ok-entails.ensures.0 c.in_ok-entails.ensures.1
    (refused-among-the-first c.in_err-push_ranks.field-0.0 (plain_list c.entails.new.out) (plain_list c.push_ranks.new.out) ranks (helps ++ moves) c.in_err-push_ranks.ensures))

pub returns-in_err-push_helps : goal.returns-in_err-push_helps
returns-in_err-push_helps c =
    let p = err_from_is_err_and c.from_residual-in_err-push_helps.result c.from_residual-in_err-push_helps.ensures.1 in
    let system = system_of c.args.asking.now in
    let lemmas = lemmas_of c.args.asking.now in
    let nodes = map plain_node c.args.nodes.now in
    let ranks = numbered_from (rank_of c.args.asking.now.step lemmas) 0 nodes in
    let helps = numbered_from (help_of c.args.asking.now.step system lemmas) 0 nodes in
    let moves = numbered_from (move_of c.args.asking.now.step system lemmas nodes (plain c.args.end.now)) 0 nodes in
    rw (p.1, p.2) (cover-then (Err c.in_err-push_helps.field-0.0) (plain_list c.args.out.now) (plain_list c.entails.new.out) (plain_list c.push_helps.new.out) c.args.asking.now.step lemmas (plain c.args.begin.now) (plain c.args.end.now) (plain c.in_ok-shown.shown) c.args.bound.now nodes
    c.plainly-name.result (ranks ++ (helps ++ moves)) c.in_ok-shown.ensures c.plainly-name.ensures c.in_ok-entails.ensures.0 c.in_ok-entails.ensures.1
    (grow-both (Err c.in_err-push_helps.field-0.0) (plain_list c.entails.new.out) (plain_list c.push_ranks.new.out) (plain_list c.push_helps.new.out) ranks (helps ++ moves) c.in_ok-push_ranks.ensures.0 c.in_ok-push_ranks.ensures.1
    (refused-among-the-first c.in_err-push_helps.field-0.0 (plain_list c.push_ranks.new.out) (plain_list c.push_helps.new.out) helps moves c.in_err-push_helps.ensures)))

pub returns : goal.returns
returns c =
    let system = system_of c.args.asking.now in
    let lemmas = lemmas_of c.args.asking.now in
    let nodes = map plain_node c.args.nodes.now in
    let ranks = numbered_from (rank_of c.args.asking.now.step lemmas) 0 nodes in
    let helps = numbered_from (help_of c.args.asking.now.step system lemmas) 0 nodes in
    let moves = numbered_from (move_of c.args.asking.now.step system lemmas nodes (plain c.args.end.now)) 0 nodes in
    cover-then c.push_moves.result (plain_list c.args.out.now) (plain_list c.entails.new.out) (plain_list c.push_moves.new.out) c.args.asking.now.step lemmas (plain c.args.begin.now) (plain c.args.end.now) (plain c.in_ok-shown.shown) c.args.bound.now nodes
    c.plainly-name.result (ranks ++ (helps ++ moves)) c.in_ok-shown.ensures c.plainly-name.ensures c.in_ok-entails.ensures.0 c.in_ok-entails.ensures.1
    (grow-both c.push_moves.result (plain_list c.entails.new.out) (plain_list c.push_ranks.new.out) (plain_list c.push_moves.new.out) ranks (helps ++ moves) c.in_ok-push_ranks.ensures.0 c.in_ok-push_ranks.ensures.1
    (grow-both c.push_moves.result (plain_list c.push_ranks.new.out) (plain_list c.push_helps.new.out) (plain_list c.push_moves.new.out) helps moves c.in_ok-push_helps.ensures.0 c.in_ok-push_helps.ensures.1 c.push_moves.ensures))
