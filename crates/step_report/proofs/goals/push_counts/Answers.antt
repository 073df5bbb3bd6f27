use Rattle.std.proofs.Common.{◌≡◌, ◌++◌, map, length, codes, sym, ap, ◌∙◌}
use Rattle.std.proofs.lemmas.List.{length-map}
use Rattle.std.specs.Fmt.{decimal}
use Rattle.temporal_goals.specs.Plain.{plain_step}
use Rattle.step_report.proofs.Pieces.{further, last}
use Rattle.step_report.proofs.goals.push_counts.Goals as goal

pub returns : goal.returns
returns c =
    last _ _ (codes "proved: goals " ++ decimal (length (map plain_step c.args.steps.now)) ++ codes ", conditions ") (decimal c.args.conditions) _ _
    (further _ (codes "proved: goals " ++ decimal (length (map plain_step c.args.steps.now))) (codes ", conditions ") _ _
    (further _ (codes "proved: goals ") (decimal (length (map plain_step c.args.steps.now))) _ _ c.in_ok-push_text.ensures counted)
    c.in_ok-push_text-2.ensures)
    c.push_number-2.ensures where
      counted : c.push_number.new.out.items ≡ c.push_text.new.out.items ++ decimal (length (map plain_step c.args.steps.now))
      counted = c.in_ok-push_number.ensures ∙ ap (λ n. c.push_text.new.out.items ++ decimal n) (sym (length-map c.args.steps.now plain_step))
