use Rattle.std.proofs.Common.{◌∙◌, ap₂}
use Rattle.std.proofs.lemmas.Result.{IfOk-weaker}
use Rattle.clap.specs.Words.{with_rule}
use Rattle.step_words.proofs.definition.step_command.Goals as goal

pub returns : goal.returns
returns c =
    IfOk-weaker c.arg-3.result _ _
    (λ r h. h.shape c.workers_arg.ensures.local ∙ ap₂ with_rule (c.in_ok-arg-2.ensures.shape c.names_arg.ensures.local
    ∙ ap₂ with_rule (c.in_ok-arg.ensures.shape c.command_arg.ensures.local ∙ ap₂ with_rule c.new.ensures.app c.command_arg.ensures.rule) c.names_arg.ensures.rule) c.workers_arg.ensures.rule)
    c.arg-3.ensures
