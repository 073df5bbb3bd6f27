use Rattle.std.proofs.Common.{[], ◌∷◌, ◌++◌, map, None, Err}
use Rattle.std.proofs.lemmas.Result.{err_from_is_err_and}
use Rattle.st_form.specs.Formula.{some, formulas}
use Rattle.st_form.specs.Plain.{plain}
use Rattle.st_form.specs.declared.conditions.Premise.TheVariants.{Cover}
use Rattle.temporal_goals.specs.Plain.{plain_diagram}
use Rattle.vc_generator.specs.Building.{entails_of}
use Rattle.vc_generator.specs.Walks.{plainly}
use Rattle.rule_laws.specs.Diagrams.{each_node, target_of, rank_starts, drawn_ranked, drawn_help, rank_move}
use Rattle.vc_generator.specs.Asked.{system_of, lemmas_of}
use Rattle.diagram_conditions.proofs.Pieces.{grow-behind, refused-before}
use Rattle.diagram_conditions.proofs.listing.ranked.Goals as goal

pub returns-in_err-covers_ranks : goal.returns-in_err-covers_ranks
returns-in_err-covers_ranks c =
    let p = err_from_is_err_and c.from_residual-in_err-covers_ranks.result c.from_residual-in_err-covers_ranks.ensures.1 in
    let lemmas = lemmas_of c.args.asking.now in
    let d = plain_diagram c.args.diagram.now in
    let target = target_of c.args.asking.now.step lemmas (plain c.args.q.now) d ∷ [] in
    let covers = entails_of lemmas (plain c.args.p.now) (some (formulas (d.terminal ∷ map (rank_starts c.args.bound.now) d.nodes))) (plainly c.args.asking.now.step Cover None) ∷ [] in
    let ranks = each_node (drawn_ranked c.args.asking.now.step lemmas) d.nodes in
    let helps = each_node (drawn_help c.args.asking.now.step (system_of c.args.asking.now) lemmas) d.nodes in
    let moves = each_node (rank_move c.args.asking.now.step (system_of c.args.asking.now) lemmas d) d.nodes in
    rw (p.1, p.2) (grow-behind (Err c.in_err-covers_ranks.field-0.0) _ _ _ target (covers ++ (ranks ++ (helps ++ moves))) c.in_ok-ends_response.ensures.0 c.in_ok-ends_response.ensures.1
    (refused-before c.in_err-covers_ranks.field-0.0 _ _ covers (ranks ++ (helps ++ moves)) c.in_err-covers_ranks.ensures))

pub returns-in_err-each_node : goal.returns-in_err-each_node
returns-in_err-each_node c =
    let p = err_from_is_err_and c.from_residual-in_err-each_node.result c.from_residual-in_err-each_node.ensures.1 in
    let lemmas = lemmas_of c.args.asking.now in
    let d = plain_diagram c.args.diagram.now in
    let target = target_of c.args.asking.now.step lemmas (plain c.args.q.now) d ∷ [] in
    let covers = entails_of lemmas (plain c.args.p.now) (some (formulas (d.terminal ∷ map (rank_starts c.args.bound.now) d.nodes))) (plainly c.args.asking.now.step Cover None) ∷ [] in
    let ranks = each_node (drawn_ranked c.args.asking.now.step lemmas) d.nodes in
    let helps = each_node (drawn_help c.args.asking.now.step (system_of c.args.asking.now) lemmas) d.nodes in
    let moves = each_node (rank_move c.args.asking.now.step (system_of c.args.asking.now) lemmas d) d.nodes in
    rw (p.1, p.2) (grow-behind (Err c.in_err-each_node.field-0.0) _ _ _ target (covers ++ (ranks ++ (helps ++ moves))) c.in_ok-ends_response.ensures.0 c.in_ok-ends_response.ensures.1
    (grow-behind (Err c.in_err-each_node.field-0.0) _ _ _ covers (ranks ++ (helps ++ moves)) c.in_ok-covers_ranks.ensures.0 c.in_ok-covers_ranks.ensures.1
    (refused-before c.in_err-each_node.field-0.0 _ _ ranks (helps ++ moves) c.in_err-each_node.ensures)))

pub returns-in_err-each_node-2 : goal.returns-in_err-each_node-2
returns-in_err-each_node-2 c =
    let p = err_from_is_err_and c.from_residual-in_err-each_node-2.result c.from_residual-in_err-each_node-2.ensures.1 in
    let lemmas = lemmas_of c.args.asking.now in
    let d = plain_diagram c.args.diagram.now in
    let target = target_of c.args.asking.now.step lemmas (plain c.args.q.now) d ∷ [] in
    let covers = entails_of lemmas (plain c.args.p.now) (some (formulas (d.terminal ∷ map (rank_starts c.args.bound.now) d.nodes))) (plainly c.args.asking.now.step Cover None) ∷ [] in
    let ranks = each_node (drawn_ranked c.args.asking.now.step lemmas) d.nodes in
    let helps = each_node (drawn_help c.args.asking.now.step (system_of c.args.asking.now) lemmas) d.nodes in
    let moves = each_node (rank_move c.args.asking.now.step (system_of c.args.asking.now) lemmas d) d.nodes in
    rw (p.1, p.2) (grow-behind (Err c.in_err-each_node-2.field-0.0) _ _ _ target (covers ++ (ranks ++ (helps ++ moves))) c.in_ok-ends_response.ensures.0 c.in_ok-ends_response.ensures.1
    (grow-behind (Err c.in_err-each_node-2.field-0.0) _ _ _ covers (ranks ++ (helps ++ moves)) c.in_ok-covers_ranks.ensures.0 c.in_ok-covers_ranks.ensures.1
    (grow-behind (Err c.in_err-each_node-2.field-0.0) _ _ _ ranks (helps ++ moves) c.in_ok-each_node.ensures.0 c.in_ok-each_node.ensures.1
    (refused-before c.in_err-each_node-2.field-0.0 _ _ helps moves c.in_err-each_node-2.ensures))))

pub returns : goal.returns
returns c =
    let lemmas = lemmas_of c.args.asking.now in
    let d = plain_diagram c.args.diagram.now in
    let target = target_of c.args.asking.now.step lemmas (plain c.args.q.now) d ∷ [] in
    let covers = entails_of lemmas (plain c.args.p.now) (some (formulas (d.terminal ∷ map (rank_starts c.args.bound.now) d.nodes))) (plainly c.args.asking.now.step Cover None) ∷ [] in
    let ranks = each_node (drawn_ranked c.args.asking.now.step lemmas) d.nodes in
    let helps = each_node (drawn_help c.args.asking.now.step (system_of c.args.asking.now) lemmas) d.nodes in
    let moves = each_node (rank_move c.args.asking.now.step (system_of c.args.asking.now) lemmas d) d.nodes in
    grow-behind c.each_node-3.result _ _ _ target (covers ++ (ranks ++ (helps ++ moves))) c.in_ok-ends_response.ensures.0 c.in_ok-ends_response.ensures.1
    (grow-behind c.each_node-3.result _ _ _ covers (ranks ++ (helps ++ moves)) c.in_ok-covers_ranks.ensures.0 c.in_ok-covers_ranks.ensures.1
    (grow-behind c.each_node-3.result _ _ _ ranks (helps ++ moves) c.in_ok-each_node.ensures.0 c.in_ok-each_node.ensures.1
    (grow-behind c.each_node-3.result _ _ _ helps moves c.in_ok-each_node-2.ensures.0 c.in_ok-each_node-2.ensures.1 c.each_node-3.ensures)))
