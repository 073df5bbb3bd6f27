use Rattle.std.proofs.Common.{map}
use Rattle.shared_certificates.specs.Grammar.{number_word, step_words}
use Rattle.shared_certificates.specs.Nodes.{step_view}
use Rattle.shared_writing.proofs.Spacing.{branch-text, ok-then}
use Rattle.shared_writing.proofs.text.push_branch.Goals as goal

pub returns : goal.returns
returns c =
    ok-then c.push_parts.result
    (branch-text c.args.out.now.items c.push_step.new.out.items c.push_text.new.out.items c.push_parts.new.out.items (step_words (step_view c.args.step.now)) (map number_word c.args.parts.now) c.in_ok-push_step.ensures c.in_ok-push_text.ensures)
    c.push_parts.ensures
