use Rattle.std.proofs.Common.{◌∙◌, List, ap, length, map, sym}
use Rattle.std.proofs.lemmas.List.{length-map}
use Rattle.transition_system.specs.Plain.{plain_system}
use Rattle.temporal_goals.specs.declared.scripts.Step.{Step}
use Rattle.temporal_goals.specs.Plain.{plain_script, plain_step}
use Rattle.script_laws.specs.Script.{script_list}
use Rattle.condition_counts.specs.Counts.{counts_of}
use Rattle.condition_counts.proofs.Sums.{as-many}
use Rattle.explanations.specs.Explained.{name_of}
use Rattle.explanations.proofs.Outlines.{outlined}
use Rattle.explanations.proofs.outlining.outlined.Goals as goal

pub vocabulary-requires : goal.vocabulary-requires
vocabulary-requires c = c.requires.of.made

pub returns : goal.returns
returns c =
    let x = c.args.source.now in
    let s = c.args.script.now in
    let system = plain_system x.system in
    let counted = c.in_ok-counts.ensures.steps ∙ ap (λ (ss : List Step). counts_of system (map plain_step ss)) c.deref.ensures.value in
    let all = c.in_ok-counts.ensures.all ∙ ap (λ (ss : List Step). length (script_list system (map plain_step ss))) c.deref.ensures.value in
    let many = ap length counted ∙ as-many system (plain_script s) ∙ length-map s.steps.items plain_step in
    let each = ap length c.deref-4.ensures.value ∙ many ∙ sym (ap length c.deref-3.ensures.value) in
    outlined c.args.texts.now.program.now c.args.texts.now.proof.now x s c.requires.of c.requires.by
    c.outline_of.result c.in_ok-steps.steps.items c.in_ok-counts.counts.all (c.in_ok-steps.ensures.names ∙ ap (map name_of) c.deref-3.ensures.value)
    (c.in_ok-steps.ensures.counts each ∙ c.deref-4.ensures.value ∙ counted) all
    c.outline_of.ensures.conditions c.outline_of.ensures.steps c.outline_of.ensures.none c.outline_of.ensures.failing c.outline_of.ensures.unexplained
