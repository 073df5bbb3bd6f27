use Rattle.std.proofs.Common.{◌++◌, List, ℕ, map, slice_get, codes, ap, ◌∙◌}
use Rattle.std.specs.Fmt.{decimal}
use Rattle.temporal_goals.specs.Plain.{plain_step}
use Rattle.step_report.specs.Conditions.{name_text, reason_text}
use Rattle.step_report.proofs.Pieces.{further, last}
use Rattle.step_report.proofs.conditions.not_proved.Goals as goal

pub returns : goal.returns
returns c =
    last _ _ (codes "not proved: condition " ++ decimal c.args.number ++ codes ", " ++ name ++ codes ", " ++ reason) (codes "\n") _ _
    (further _ (codes "not proved: condition " ++ decimal c.args.number ++ codes ", " ++ name ++ codes ", ") reason _ _
    (further _ (codes "not proved: condition " ++ decimal c.args.number ++ codes ", " ++ name) (codes ", ") _ _
    (further _ (codes "not proved: condition " ++ decimal c.args.number ++ codes ", ") name _ _
    (further _ (codes "not proved: condition " ++ decimal c.args.number) (codes ", ") _ _
    (further _ (codes "not proved: condition ") (decimal c.args.number) _ _ c.in_ok-push_text.ensures (c.in_ok-push_number.ensures ∙ ap (λ n. c.push_text.new.out.items ++ decimal n) c.from.ensures))
    c.in_ok-push_text-2.ensures)
    c.in_ok-push_name_among.ensures)
    c.in_ok-push_text-3.ensures)
    (c.in_ok-push_text-4.ensures ∙ ap (λ x. c.push_text-3.new.out.items ++ x) c.reason_text.ensures))
    c.push_text-5.ensures where
      name : List ℕ
      name = name_text c.args.names.now (slice_get (map plain_step c.args.steps.now) c.args.name.now.step) c.args.name.now

      reason : List ℕ
      reason = reason_text c.args.reason
