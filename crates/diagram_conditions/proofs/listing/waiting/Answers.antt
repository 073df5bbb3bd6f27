use Rattle.std.proofs.Common.{[], ◌∷◌, ◌++◌, map, Some, None, Err}
use Rattle.std.proofs.lemmas.Result.{err_from_is_err_and}
use Rattle.st_form.specs.Formula.{some, formulas}
use Rattle.st_form.specs.Plain.{plain}
use Rattle.st_form.specs.declared.conditions.Premise.TheVariants.{Cover, Level}
use Rattle.temporal_goals.specs.Plain.{plain_diagram}
use Rattle.vc_generator.specs.Building.{entails_of}
use Rattle.vc_generator.specs.Walks.{plainly}
use Rattle.rule_laws.specs.Diagrams.{each_node, level_goal, wait_forms, wait_level, wait_move}
use Rattle.vc_generator.specs.Asked.{system_of, lemmas_of}
use Rattle.diagram_conditions.proofs.Pieces.{grow-behind, refused-before}
use Rattle.diagram_conditions.proofs.listing.waiting.Goals as goal

pub returns-in_err-each_node : goal.returns-in_err-each_node
returns-in_err-each_node c =
    let p = err_from_is_err_and c.from_residual-in_err-each_node.result c.from_residual-in_err-each_node.ensures.1 in
    let lemmas = lemmas_of c.args.asking.now in
    let goals = map plain c.args.goals.now in
    let d = plain_diagram c.args.diagram.now in
    let covers = entails_of lemmas (plain c.args.p.now) (some (formulas (wait_forms d))) (plainly c.args.asking.now.step Cover None) ∷ [] in
    let levels = each_node (wait_level c.args.asking.now.step lemmas goals) d.nodes in
    let ends = entails_of lemmas d.terminal (level_goal 0 goals) (plainly c.args.asking.now.step Level (Some 0)) ∷ [] in
    let moves = each_node (wait_move c.args.asking.now.step (system_of c.args.asking.now) lemmas d) d.nodes in
    rw (p.1, p.2) (grow-behind (Err c.in_err-each_node.field-0.0) _ _ _ covers (levels ++ (ends ++ moves)) c.in_ok-covers_waiting.ensures.0 c.in_ok-covers_waiting.ensures.1
    (refused-before c.in_err-each_node.field-0.0 _ _ levels (ends ++ moves) c.in_err-each_node.ensures))

pub returns-in_err-implies_level : goal.returns-in_err-implies_level
returns-in_err-implies_level c =
    let p = err_from_is_err_and c.from_residual-in_err-implies_level.result c.from_residual-in_err-implies_level.ensures.1 in
    let lemmas = lemmas_of c.args.asking.now in
    let goals = map plain c.args.goals.now in
    let d = plain_diagram c.args.diagram.now in
    let covers = entails_of lemmas (plain c.args.p.now) (some (formulas (wait_forms d))) (plainly c.args.asking.now.step Cover None) ∷ [] in
    let levels = each_node (wait_level c.args.asking.now.step lemmas goals) d.nodes in
    let ends = entails_of lemmas d.terminal (level_goal 0 goals) (plainly c.args.asking.now.step Level (Some 0)) ∷ [] in
    let moves = each_node (wait_move c.args.asking.now.step (system_of c.args.asking.now) lemmas d) d.nodes in
    rw (p.1, p.2) (grow-behind (Err c.in_err-implies_level.field-0.0) _ _ _ covers (levels ++ (ends ++ moves)) c.in_ok-covers_waiting.ensures.0 c.in_ok-covers_waiting.ensures.1
    (grow-behind (Err c.in_err-implies_level.field-0.0) _ _ _ levels (ends ++ moves) c.in_ok-each_node.ensures.0 c.in_ok-each_node.ensures.1
    (refused-before c.in_err-implies_level.field-0.0 _ _ ends moves c.in_err-implies_level.ensures)))

pub returns : goal.returns
returns c =
    let lemmas = lemmas_of c.args.asking.now in
    let goals = map plain c.args.goals.now in
    let d = plain_diagram c.args.diagram.now in
    let covers = entails_of lemmas (plain c.args.p.now) (some (formulas (wait_forms d))) (plainly c.args.asking.now.step Cover None) ∷ [] in
    let levels = each_node (wait_level c.args.asking.now.step lemmas goals) d.nodes in
    let ends = entails_of lemmas d.terminal (level_goal 0 goals) (plainly c.args.asking.now.step Level (Some 0)) ∷ [] in
    let moves = each_node (wait_move c.args.asking.now.step (system_of c.args.asking.now) lemmas d) d.nodes in
    grow-behind c.each_node-2.result _ _ _ covers (levels ++ (ends ++ moves)) c.in_ok-covers_waiting.ensures.0 c.in_ok-covers_waiting.ensures.1
    (grow-behind c.each_node-2.result _ _ _ levels (ends ++ moves) c.in_ok-each_node.ensures.0 c.in_ok-each_node.ensures.1
    (grow-behind c.each_node-2.result _ _ _ ends moves c.in_ok-implies_level.ensures.0 c.in_ok-implies_level.ensures.1 c.each_node-2.ensures))
