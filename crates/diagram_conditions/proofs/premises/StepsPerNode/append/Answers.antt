use Rattle.std.proofs.Common.{subst}
use Rattle.temporal_goals.specs.Plain.{plain_drawn_node, plain_diagram}
use Rattle.vc_generator.specs.Plain.{plain_list}
use Rattle.vc_generator.specs.Refusing.{Grows}
use Rattle.vc_generator.specs.Asked.{system_of, lemmas_of}
use Rattle.diagram_conditions.proofs.Along.{leads-along}
use Rattle.diagram_conditions.proofs.premises.StepsPerNode.append.Goals as goal

pub returns : goal.returns
returns c =
    subst (Grows c.steps_lead.result (plain_list c.args.out.now) (plain_list c.steps_lead.new.out))
    (leads-along c.args.self.now.asking.now.step (system_of c.args.self.now.asking.now) (lemmas_of c.args.self.now.asking.now) c.args.self.now.kind (plain_diagram c.args.self.now.diagram.now) (plain_drawn_node c.args.node.now)) c.steps_lead.ensures
